use Rattle.std.proofs.Common.{◌≡◌, ◌∙◌, ℕ, List, ap}
use Rattle.std.specs.Option.{option_map}
use Rattle.flat_code.specs.Forms.{payload_in}
use Rattle.flat_code.specs.declared.operands.Operand.{Operand}
use Rattle.flat_code.proofs.UncheckedLemmas.{place_read}
use Rattle.flat_code.proofs.unchecked_decoding.known_operand.Goals as goal

pub returns-in-2-clause-read : goal.returns-in-2-clause-read
returns-in-2-clause-read c =
    ap (λ (n : ℕ). option_map (λ (r : Operand × List ℕ). r.0) (payload_in n c.args.bytes.now)) c.in-2.is
    ∙ place_read c.args.bytes.now _ c.known_direct-area.ensures
