-- Rule 33: a jump and its label have equal lists of open brackets and equal numbers of open zones.
-- The line is that of the jump.
use Rattle.std.specs.Prelude.{ℕ, ◌&&◌, ◌||◌, nat_eq, Bool, false, not, List, [], ◌∷◌, ◌++◌, length, map, take, Option, Some, None}
use Rattle.std.specs.List.{slice_get}
use Rattle.std.specs.Option.{option_and_then}
use Rattle.std.specs.Str.{bytes_eq}
use Rattle.plc_base.specs.declared.refusals.Refusal.{Refusal}
use Rattle.stl_ast.specs.declared.blocks.Block.{Block}
use Rattle.stl_ast.specs.declared.operands.Operand.{Operand}
use Rattle.stl_ast.specs.declared.operands.Operand.TheVariants as operand
use Rattle.stl_ast.specs.declared.statements.Statement.{Statement}
use Rattle.plc_base.specs.RefusalsAlong.{refusals_along}
use Rattle.plc_base.specs.Least.{broken_if}
use Rattle.stl_symbols.specs.Names.{name_place}
use Rattle.stl_types.specs.Bodies.{in_bodies}
use Rattle.stl_types.specs.Brackets.{brackets_behind}
use Rattle.stl_types.specs.Labels.{labels_of}
use Rattle.stl_types.specs.Zones.{zones_behind}
use Rattle.stl_types.specs.declared.brackets.SourceBracket.{SourceBracket}

-- the brackets and the zones that are open before a statement, the outermost first, a zone by the
-- line of its MCR(
pub record SourceNesting : Type 0 where
  -- the open brackets, the outermost first
  pub brackets : List SourceBracket
  -- the lines of the MCR( of the open zones, the outermost first
  pub zones : List ℕ

-- the brackets and the zones that are open behind a statement
abbrev pub nesting_behind : SourceNesting → Statement → SourceNesting
nesting_behind n s = record {
  brackets = brackets_behind n.brackets s;
  zones = zones_behind n.zones s;
}

-- what is open before the first statement of a body
abbrev pub empty_nesting : SourceNesting
empty_nesting = record { brackets = []; zones = [] }

-- what a jump and its label have alike: the function codes of the open brackets, and how many zones
-- are open
pub record Landing : Type 0 where
  -- the function codes of the open brackets, the outermost first, at most 8
  pub functions : List ℕ
  -- how many zones are open
  pub zones : ℕ

-- the function codes of open brackets. Of more than seven eight are kept: the eighth has broken
-- rule 31
abbrev pub functions_of : List SourceBracket → List ℕ
functions_of brackets = map (λ b. b.function) (take 8 brackets)

-- what a jump and its label have alike, of the brackets and zones that are open
abbrev pub landing_of : SourceNesting → Landing
landing_of n = record { functions = functions_of n.brackets; zones = length n.zones }

-- what is open before a statement, in a list; the empty list where the statement has no label
abbrev pub landing_here : SourceNesting → Option (List ℕ) → List Landing
landing_here n None = []
landing_here n (Some label) = landing_of n ∷ []

-- what is open before the statements with labels, in their order
abbrev pub landings_at_labels : SourceNesting → List Statement → List Landing
landings_at_labels n [] = []
landings_at_labels n (s ∷ ss) =
    landing_here n s.label ++ landings_at_labels (nesting_behind n s) ss

-- what is open at a label: of one that stands twice the first is meant
abbrev pub landing_at : (labels : List (List ℕ)) → List Landing → List ℕ → Option Landing
landing_at labels landings name = option_and_then (slice_get landings) (name_place name labels)

-- the function codes of open brackets aren't equal; two lists of more than seven brackets aren't
-- compared
abbrev pub are_unequal : (here there : List ℕ) → Bool
are_unequal here there =
    not (nat_eq (length here) 8 && nat_eq (length there) 8) && not (bytes_eq here there)

-- at one of two statements other brackets are open than at the other, or another number of zones
abbrev pub landings_differ : (here there : Landing) → Bool
landings_differ here there =
    are_unequal here.functions there.functions || not (nat_eq here.zones there.zones)

-- a jump lands where other brackets or another number of zones are open than at the jump; where
-- there is no such label it doesn't
abbrev pub lands_elsewhere : (here : Landing) → Option Landing → Bool
lands_elsewhere here None = false
lands_elsewhere here (Some there) = landings_differ here there

-- an operand is a label at which other brackets or another number of zones are open
abbrev pub crosses_nesting : (labels : List (List ℕ)) → List Landing → SourceNesting → Operand
    → Bool
crosses_nesting labels landings n (operand.Label name) =
    lands_elsewhere (landing_of n) (landing_at labels landings name)
crosses_nesting labels landings n _ = false

-- rule 33 in a body, by what is open at its labels; the line is that of the jump
abbrev pub crossing_jumps : (labels : List (List ℕ)) → List Landing → List Statement
    → List Refusal
crossing_jumps labels landings body =
    refusals_along (λ s. false) (λ n s. broken_if
    (crosses_nesting labels landings n s.operand) s.line 33)
    nesting_behind empty_nesting body

-- rule 33, in all bodies: unequal open brackets or zones at a jump and its label
unfoldable pub rule_33 : List Block → List Refusal
rule_33 blocks =
    in_bodies (λ body. crossing_jumps (labels_of body) (landings_at_labels empty_nesting body) body)
    blocks
