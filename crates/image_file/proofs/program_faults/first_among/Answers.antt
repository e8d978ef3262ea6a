use Rattle.std.proofs.Common.{sym, map, subst}
use Rattle.std.specs.Option.{option_map}
use Rattle.plc_base.proofs.ListLemmas.{drop_next}
use Rattle.flat_code.specs.Image.{record_of_block}
use Rattle.image_file.specs.Verifying.{IsFirstOf}
use Rattle.image_file.proofs.ProgramFaultLemmas.{found_here, passes, passed_none, passed_all, in_its_place}
use Rattle.image_file.proofs.program_faults.first_among.Goals as goal

pub loop-block-init : goal.loop-block-init
loop-block-init c = passed_none (option_map (λ d. d.now) c.args.lens) (map record_of_block c.args.blocks.now) c.args.blocks.now

pub returns-in-Some-clause-fault : goal.returns-in-Some-clause-fault
returns-in-Some-clause-fault c =
    subst (IsFirstOf (option_map (λ d. d.now) c.args.lens) (map record_of_block c.args.blocks.now) c.args.blocks.now) (sym c.fault_in.ensures)
    (found_here (option_map (λ d. d.now) c.args.lens) (map record_of_block c.args.blocks.now) c.args.blocks.now _ _ c.block-item.result c.in-Some.fault (drop_next c.args.blocks.now c.loop-block.block-index c.block-item.result c.loop-block-test.true c.block-item.is)
    (in_its_place (option_map (λ d. d.now) c.args.lens) c.args.signatures.now c.args.blocks.now c.block-item.result c.in_ok-fault.field-0 _ c.requires.all c.in_ok-fault.ensures c.in-Some.is) c.loop-block.invariant)

pub loop-block-preserved : goal.loop-block-preserved
loop-block-preserved c =
    passes (option_map (λ d. d.now) c.args.lens) (map record_of_block c.args.blocks.now) c.args.blocks.now _ _ c.block-item.result (drop_next c.args.blocks.now c.loop-block.block-index c.block-item.result c.loop-block-test.true c.block-item.is)
    (in_its_place (option_map (λ d. d.now) c.args.lens) c.args.signatures.now c.args.blocks.now c.block-item.result c.in_ok-fault.field-0 _ c.requires.all c.in_ok-fault.ensures c.in_default.is) c.loop-block.invariant

pub returns-clause-none : goal.returns-clause-none
returns-clause-none c = passed_all (option_map (λ d. d.now) c.args.lens) (map record_of_block c.args.blocks.now) c.args.blocks.now c.loop-block.block-index c.loop-block-test.false c.loop-block.invariant
