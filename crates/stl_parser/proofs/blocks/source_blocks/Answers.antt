use Rattle.std.proofs.Common.{arith}
use Rattle.std.proofs.lemmas.Result.{err_from_is_err_and}
use Rattle.stl_parser.proofs.BlockLemmas.{fewer, kept_fewer, only_heads, head_read, blocks_more}
use Rattle.stl_parser.proofs.SourceLemmas.{broken_behind}
use Rattle.stl_parser.proofs.blocks.source_blocks.Goals as goal

pub unreachable-requires : goal.unreachable-requires
unreachable-requires c = only_heads _ _ _ _ _ c.in_ok-clause.ensures.right c.in_default-clause.not-Head

pub block-requires : goal.block-requires
block-requires c = record {
  few =
      omega (arith, c.requires.few, kept_fewer _ _ _ _ _ _ c.loop-rest.invariant, fewer _ _ _ _ _ _ c.in_ok-clause.ensures.right);
}

pub returns-in_err-block-clause-broken : goal.returns-in_err-block-clause-broken
returns-in_err-block-clause-broken c =
    let p = err_from_is_err_and c.from_residual-in_err-block.result c.from_residual-in_err-block.ensures.1 in
    let read = head_read _ _ _ _ c.in-Head.line c.in-Head.kind c.in-Head.name c.in-Head.result _ _ c.loop-rest.invariant
    (rw c.in-Head.is at c.in_ok-clause.ensures.right) in
    rw (p.1, p.2) (broken_behind _ _ _ _ _ _ _ c.in_err-block.field-0.0 read c.in_err-block.ensures.broken)

pub loop-rest-smaller : goal.loop-rest-smaller
loop-rest-smaller c =
    omega (arith, fewer _ _ _ _ _ _ c.in_ok-clause.ensures.right, kept_fewer _ _ _ _ _ _ c.in_ok-block.ensures.read)

pub loop-rest-preserved : goal.loop-rest-preserved
loop-rest-preserved c =
    rw c.in_ok-push.ensures.items (blocks_more _ _ _ _ c.in-Head.line c.in-Head.kind c.in-Head.name c.in-Head.result _ _
    c.in_ok-block.block _ c.loop-rest.invariant (rw c.in-Head.is at c.in_ok-clause.ensures.right) c.in_ok-block.ensures.read
    c.in_ok-block.ensures.head)
