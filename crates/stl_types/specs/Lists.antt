-- Rule 32: the jump list of a JL. Its label comes later, and between the two stand jumps JU alone,
-- at most 255 of them; an empty statement is none. The line is that of the JL.
use Rattle.std.specs.Prelude.{ℕ, ◌-◌, ◌&&◌, nat_lt, Bool, true, false, not, is_some, List, [], ◌∷◌, ◌++◌, Option, Some, None, if◌then◌else◌}
use Rattle.std.specs.Str.{bytes_eq}
use Rattle.plc_base.specs.declared.refusals.Refusal.{Refusal}
use Rattle.stl_ast.specs.declared.blocks.Block.{Block}
use Rattle.stl_ast.specs.declared.mnemonics.Mnemonic.{Mnemonic}
use Rattle.stl_ast.specs.declared.mnemonics.Mnemonic.TheVariants as code
use Rattle.stl_ast.specs.declared.operands.Operand.{Operand}
use Rattle.stl_ast.specs.declared.operands.Operand.TheVariants as operand
use Rattle.stl_ast.specs.declared.statements.Statement.{Statement}
use Rattle.stl_ast.specs.Statements.{is_empty_statement}
use Rattle.plc_base.specs.Least.{broken_if}
use Rattle.stl_symbols.specs.Names.{name_place}
use Rattle.stl_types.specs.Bodies.{in_bodies}
use Rattle.stl_types.specs.Labels.{label_of}

-- a mnemonic is JL, which jumps by a number to one of the jumps of a list
abbrev pub is_list_jump : Mnemonic → Bool
is_list_jump code.Jl = true
is_list_jump _ = false

-- a mnemonic is JU, as that of each jump of a list is
abbrev pub is_unconditional_jump : Mnemonic → Bool
is_unconditional_jump code.Ju = true
is_unconditional_jump _ = false

-- a statement has this label
abbrev pub has_label : List ℕ → Option (List ℕ) → Bool
has_label name None = false
has_label name (Some label) = bytes_eq name label

-- how many jumps a list may still have behind a statement; none where it isn't of the list
abbrev pub jumps_left : (left : ℕ) → Mnemonic → Option ℕ
jumps_left left m =
    if is_empty_statement m then Some left
    else if is_unconditional_jump m && nat_lt 0 left then Some (left - 1) else None

-- a jump list goes on behind a statement: the statement is of the list, and `next` holds of how
-- many jumps the list may still have
abbrev pub list_goes_on : Option ℕ → (ℕ → Bool) → Bool
list_goes_on None next = false
list_goes_on (Some left) next = next left

-- the statements from here on are a jump list of at most `left` jumps, up to the label
abbrev pub is_list_to : (left : ℕ) → List ℕ → List Statement → Bool
is_list_to left name [] = false
is_list_to left name (s ∷ ss) =
    if has_label name s.label then true
    else list_goes_on (jumps_left left s.code) (λ next. is_list_to next name ss)

-- the label of a JL is that of no statement before, and a jump list leads to it
abbrev pub has_list : (before : List (List ℕ)) → List ℕ → (behind : List Statement) → Bool
has_list before name rest = not (is_some (name_place name before)) && is_list_to 255 name rest

-- the operand of a JL is a label to which no jump list leads; one that is no label breaks another
-- rule
abbrev pub lacks_list : (before : List (List ℕ)) → Operand → (behind : List Statement) → Bool
lacks_list before (operand.Label name) rest = not (has_list before name rest)
lacks_list before _ rest = false

-- a statement is a JL that breaks rule 32
abbrev pub is_wrong_list : (before : List (List ℕ)) → Statement → (behind : List Statement) → Bool
is_wrong_list before s rest = is_list_jump s.code && lacks_list before s.operand rest

-- rule 32 in the statements of a body from one on; `before` are the labels before them
abbrev pub lists_from : (before : List (List ℕ)) → List Statement → List Refusal
lists_from before [] = []
lists_from before (s ∷ ss) =
    broken_if (is_wrong_list (before ++ label_of s.label) s ss) s.line 32
    ++ lists_from (before ++ label_of s.label) ss

-- rule 32, in all bodies: a JL without a right jump list
unfoldable pub rule_32 : List Block → List Refusal
rule_32 blocks = in_bodies (λ body. lists_from [] body) blocks
