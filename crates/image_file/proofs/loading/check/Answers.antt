use Rattle.std.proofs.Common.{◌≡◌, ℕ, List, [], map, Option, None, subst, arith}
use Rattle.flat_code.specs.Image.{read_image}
use Rattle.flat_code.specs.declared.stamps.Stamp.{Stamp}
use Rattle.flat_code.specs.Records.{NameRecord}
use Rattle.image_file.specs.declared.records.LocatedBlock.{LocatedBlock}
use Rattle.image_file.specs.declared.reader.Reader.{Reader}
use Rattle.image_file.specs.Running.{located_block, run_of_read, IsFoundRun}
use Rattle.image_file.proofs.LoadLemmas.{found_of, least_of, image_there, datas_there, checked_by}
use Rattle.image_file.proofs.loading.check.Goals as goal

from_start : (found : Option (Stamp × List NameRecord)) (r : Reader) (text : List ℕ) (bs : List LocatedBlock) → bs ≡ [] → IsFoundRun found r (run_of_read (read_image text) (record { least = None; blocks = map located_block bs; datas = None })) → IsFoundRun found r (run_of_read (read_image text) (record { least = None; blocks = []; datas = None }))
from_start found r text bs none h = subst (λ (z : List LocatedBlock). IsFoundRun found r (run_of_read (read_image text) (record { least = None; blocks = map located_block z; datas = None }))) none h

pub outcome_of-requires-clause-found : goal.outcome_of-requires-clause-found
outcome_of-requires-clause-found c =
    let r = c.found_by.new.reader in
    let h = from_start _ r c.args.bytes.now c.new.result.items c.new.ensures.items c.in_ok-found.ensures in
    image_there c.args.bytes.now c.in_ok-least.least r c.in_ok-found.found (least_of _ r c.args.bytes.now c.in_ok-least.least h c.in_ok-least.ensures) (found_of _ r c.args.bytes.now h)

pub outcome_of-requires-clause-datas : goal.outcome_of-requires-clause-datas
outcome_of-requires-clause-datas c =
    let r = c.found_by.new.reader in
    let h = from_start _ r c.args.bytes.now c.new.result.items c.new.ensures.items c.in_ok-found.ensures in
    datas_there c.args.bytes.now c.in_ok-least.least r c.in_ok-found.found (λ i. omega (arith, c.type_inv.bytes i)) (least_of _ r c.args.bytes.now c.in_ok-least.least h c.in_ok-least.ensures) (found_of _ r c.args.bytes.now h)

pub returns : goal.returns
returns c =
    let r = c.found_by.new.reader in
    let h = from_start _ r c.args.bytes.now c.new.result.items c.new.ensures.items c.in_ok-found.ensures in
    checked_by c.args.bytes.now c.in_ok-least.least r c.in_ok-found.found c.outcome_of.result (least_of _ r c.args.bytes.now c.in_ok-least.least h c.in_ok-least.ensures) (found_of _ r c.args.bytes.now h) c.outcome_of.ensures
