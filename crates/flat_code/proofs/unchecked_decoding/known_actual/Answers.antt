use Rattle.std.proofs.Common.{◌≡◌, ◌∙◌, ℕ, List, Option, ap, is_some, rules, sym}
use Rattle.std.specs.Option.{option_map}
use Rattle.flat_code.specs.Forms.{actual_in}
use Rattle.flat_code.specs.declared.operands.Passed.{Passed}
use Rattle.flat_code.proofs.UncheckedLemmas.{block_passed, block_there, place_passed, place_there}
use Rattle.flat_code.proofs.unchecked_decoding.known_actual.Goals as goal

pub known_direct-area-requires : goal.known_direct-area-requires
known_direct-area-requires c =
    place_there c.args.bytes.now (ap (λ (n : ℕ). is_some (actual_in n c.args.bytes.now)) (sym c.in-2.is) ∙ c.requires)

pub known_direct-area-requires-in-12 : goal.known_direct-area-requires-in-12
known_direct-area-requires-in-12 c =
    block_there c.args.bytes.now (ap (λ (n : ℕ). is_some (actual_in n c.args.bytes.now)) (sym c.in-12.is) ∙ c.requires)

pub returns-in-2-clause-read : goal.returns-in-2-clause-read
returns-in-2-clause-read c =
    ap (λ (n : ℕ). option_map (λ (r : Passed × List ℕ). r.0) (actual_in n c.args.bytes.now)) c.in-2.is
    ∙ place_passed c.args.bytes.now _ c.known_direct-area.ensures

pub returns-in-len2-up-bytes-clause-read : goal.returns-in-len2-up-bytes-clause-read
returns-in-len2-up-bytes-clause-read c =
    ap (λ (n : ℕ). option_map (λ (r : Passed × List ℕ). r.0) (actual_in n c.args.bytes.now)) c.in-12.is
    ∙ block_passed c.args.bytes.now c.from_be_bytes.result _ (search rules) c.known_direct-area-in-12.ensures
