use Rattle.std.proofs.Common.{List, sym, subst}
use Rattle.flat_code.specs.Image.{IsProgram}
use Rattle.flat_code.specs.Programs.{NameEntry}
use Rattle.flat_code.proofs.CheckLemmas.{is_program_by_test, is_no_program_by_test, of_parts}
use Rattle.flat_code.proofs.ProgramLemmas.{names_of_program}
use Rattle.flat_code.proofs.programs.Program.new.Goals as goal

pub returns-then-not-is_program-clause-none : goal.returns-then-not-is_program-clause-none
returns-then-not-is_program-clause-none c =
    is_no_program_by_test c.args.code_blocks.items c.as_slice.result.now c.args.data_blocks.items c.as_slice-2.result.now c.args.names.items c.as_slice-3.result.now c.is_program.result
    c.as_slice.ensures.value c.as_slice-2.ensures.value c.as_slice-3.ensures.value c.is_program.ensures c.if-not-is_program.true

pub new-requires : goal.new-requires
new-requires c =
    names_of_program (of_parts c.args.code_blocks.items c.args.data_blocks.items c.args.names.items)
    (is_program_by_test c.args.code_blocks.items c.as_slice.result.now c.args.data_blocks.items c.as_slice-2.result.now c.args.names.items c.as_slice-3.result.now c.is_program.result
    c.as_slice.ensures.value c.as_slice-2.ensures.value c.as_slice-3.ensures.value c.is_program.ensures c.if-not-is_program.false)

pub invariant_of-result : goal.invariant_of-result
invariant_of-result c =
    subst (λ (es : List NameEntry). IsProgram (of_parts c.args.code_blocks.items c.args.data_blocks.items es)) (sym c.new.ensures)
    (is_program_by_test c.args.code_blocks.items c.as_slice.result.now c.args.data_blocks.items c.as_slice-2.result.now c.args.names.items c.as_slice-3.result.now c.is_program.result
    c.as_slice.ensures.value c.as_slice-2.ensures.value c.as_slice-3.ensures.value c.is_program.ensures c.if-not-is_program.false)
