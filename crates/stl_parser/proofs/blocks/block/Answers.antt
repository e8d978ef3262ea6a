use Rattle.std.specs.List.{flat_map}
use Rattle.std.proofs.lemmas.Result.{err_from_is_err_and}
use Rattle.stl_parser.specs.Spelling.{spelled_part}
use Rattle.stl_parser.proofs.BlockLemmas.{block_read}
use Rattle.stl_parser.proofs.SourceLemmas.{broken_behind}
use Rattle.stl_parser.proofs.blocks.block.Goals as goal

pub returns-in_err-content-clause-broken : goal.returns-in_err-content-clause-broken
returns-in_err-content-clause-broken c =
    let p = err_from_is_err_and c.from_residual-in_err-content.result c.from_residual-in_err-content.ensures.1 in
    rw (p.1, p.2) (broken_behind _ _ _ _ _ _ _ c.in_err-content.field-0.0 c.in_ok-parts.ensures.read c.in_err-content.ensures.broken)

pub returns-clause-read : goal.returns-clause-read
returns-clause-read c =
    rw c.assembled_block.ensures.behind (block_read _ _ _ (flat_map spelled_part c.in_ok-parts.parts) c.in_ok-parts.opening _ _ _
    c.in_ok-parts.ensures.read c.in_ok-content.ensures.read)
