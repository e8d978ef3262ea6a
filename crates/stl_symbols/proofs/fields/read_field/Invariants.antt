use Rattle.std.proofs.Common.{◌≡◌, ℕ, List, [], length}
use Rattle.csv.specs.declared.parser.State.TheVariants as state
use Rattle.stl_symbols.specs.Fields.{record_from, state_of}
use Rattle.stl_symbols.proofs.fields.read_field.Given as goal

-- the field so far, and then what is left, makes the same record as the whole
abbrev pub invariant-loop-left : goal.invariant-loop-left
invariant-loop-left l = (fields : List (List ℕ)) →
    record_from (state_of l.field.field_state) fields l.field.bytes.items l.left ≡ record_from state.StartField fields [] l.fn.text

abbrev pub decreases-loop-left : goal.decreases-loop-left
decreases-loop-left l = length l.left
