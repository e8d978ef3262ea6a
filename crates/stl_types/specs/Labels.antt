-- Rules 26 and 27: labels. They are compared with case.
use Rattle.std.specs.Prelude.{ℕ, Bool, false, is_some, List, [], ◌∷◌, ◌++◌, Option, Some, None}
use Rattle.std.specs.List.{flat_map}
use Rattle.std.specs.Option.{is_none}
use Rattle.plc_base.specs.declared.refusals.Refusal.{Refusal}
use Rattle.stl_ast.specs.declared.blocks.Block.{Block}
use Rattle.stl_ast.specs.declared.operands.Operand.{Operand}
use Rattle.stl_ast.specs.declared.operands.Operand.TheVariants as operand
use Rattle.stl_ast.specs.declared.statements.Statement.{Statement}
use Rattle.plc_base.specs.RefusalsAlong.{refusals_along}
use Rattle.plc_base.specs.Least.{broken_if}
use Rattle.stl_symbols.specs.Names.{name_place}
use Rattle.stl_types.specs.Bodies.{in_bodies}

-- the label of a statement, in a list
abbrev pub label_of : Option (List ℕ) → List (List ℕ)
label_of None = []
label_of (Some name) = name ∷ []

-- the labels of a body in their order
abbrev pub labels_of : List Statement → List (List ℕ)
labels_of body = flat_map (λ s. label_of s.label) body

-- the label of a statement, if it has one, stands among those before it
abbrev pub is_repeated_label : (before : List (List ℕ)) → Option (List ℕ) → Bool
is_repeated_label before None = false
is_repeated_label before (Some name) = is_some (name_place name before)

-- a jump to a label that no statement has
abbrev pub is_unknown_label : (labels : List (List ℕ)) → Operand → Bool
is_unknown_label labels (operand.Label name) = is_none (name_place name labels)
is_unknown_label labels _ = false

-- rule 26 in a body: jumps to none of these labels; the line is that of the jump
abbrev pub unknown_labels : (labels : List (List ℕ)) → List Statement → List Refusal
unknown_labels labels body =
    flat_map (λ s. broken_if (is_unknown_label labels s.operand) s.line 26) body

-- rule 27 in a body: the second statement of a label, and each later one
abbrev pub labels_twice : (before : List (List ℕ)) → List Statement → List Refusal
labels_twice before body =
    refusals_along (λ s. false) (λ before s. broken_if (is_repeated_label before s.label) s.line 27)
    (λ before s. before ++ label_of s.label) before body

-- rule 26, in all bodies: a jump to a label that no statement has
unfoldable pub rule_26 : List Block → List Refusal
rule_26 blocks = in_bodies (λ body. unknown_labels (labels_of body) body) blocks

-- rule 27, in all bodies: a label twice
unfoldable pub rule_27 : List Block → List Refusal
rule_27 blocks = in_bodies (λ body. labels_twice [] body) blocks
