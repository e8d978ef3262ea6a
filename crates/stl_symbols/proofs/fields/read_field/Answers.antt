use Rattle.std.proofs.Common.{◌≡◌, ℕ, List, [], sym, ◌∙◌, ap, arith}
use Rattle.std.proofs.lemmas.List.{nil_from_length}
use Rattle.stl_symbols.specs.Fields.{record_from, state_of}
use Rattle.stl_symbols.proofs.FieldLemmas.{record-at_end}
use Rattle.stl_symbols.proofs.fields.read_field.Goals as goal

pub returns : goal.returns
returns c = λ fields.
    let at = c.loop-left.field.field_state in
    let field = c.loop-left.field.bytes.items in
    let none : c.loop-left.left.now ≡ [] = nil_from_length c.loop-left.left.now (omega (arith, c.in_default.len_below)) in
    sym (c.loop-left.invariant fields) ∙ ap (λ (left : List ℕ). record_from (state_of at) fields field left) none ∙ record-at_end at fields field
