use Rattle.machine.specs.Flat.{code_of}
use Rattle.sem_kept.specs.Statements.{stated_code, statement_position, program_with}
use Rattle.sem_kept.proofs.kept.Keeping.{kept_by}
use Rattle.sem_kept.proofs.laws.programs_are_kept.Goals as goal

-- src/laws.rt:6:1
pub returns : goal.returns
returns c profile blocks data_blocks names compilable =
    kept_by profile (statement_position blocks) (stated_code blocks data_blocks)
    (code_of (program_with blocks data_blocks names)) c.positions_move.ensures.entries
    c.positions_move.ensures.histories (c.programs_follow.ensures blocks data_blocks names compilable)
