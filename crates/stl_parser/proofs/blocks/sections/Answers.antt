use Rattle.std.proofs.Common.{arith}
use Rattle.std.proofs.lemmas.Result.{err_from_is_err_and}
use Rattle.stl_parser.proofs.BlockLemmas.{fewer, kept_fewer, sections_none, section_read, sections_more}
use Rattle.stl_parser.proofs.SourceLemmas.{broken_at, broken_behind}
use Rattle.stl_parser.proofs.blocks.sections.Goals as goal

pub loop-clause-init : goal.loop-clause-init
loop-clause-init c =
    rw c.new-parts.ensures.items (sections_none _ _ _ _ _ c.in_ok-clause.ensures.read c.in_ok-clause.ensures.opens c.requires.few)

pub returns-in_err-items-in-Section-clause-broken : goal.returns-in_err-items-in-Section-clause-broken
returns-in_err-items-in-Section-clause-broken c =
    let r = c.from_residual-in_err-items-in-Section in
    let p = err_from_is_err_and r.result r.ensures.1 in
    let so_far = rw c.in-Section.is at c.loop-clause.invariant in
    rw (p.1, p.2) (broken_behind _ _ _ _ _ _ _ c.in_err-items-in-Section.field-0.0 so_far.reads c.in_err-items-in-Section.ensures.broken)

pub returns-in_err-found-in-Section-clause-broken : goal.returns-in_err-found-in-Section-clause-broken
returns-in_err-found-in-Section-clause-broken c =
    let r = c.from_residual-in_err-found-in-Section in
    let p = err_from_is_err_and r.result r.ensures.1 in
    let read = section_read _ _ _ _ _ _ _ _ _ (rw c.in-Section.is at c.loop-clause.invariant) c.in_ok-items-in-Section.ensures.read in
    rw (p.1, p.2) (broken_at _ _ _ _ _ _ _ c.in_err-found-in-Section.field-0.0 read c.in_err-found-in-Section.ensures.broken)

pub loop-clause-smaller : goal.loop-clause-smaller
loop-clause-smaller c =
    omega (arith, fewer _ _ _ _ _ _ c.in_ok-found-in-Section.ensures.right, kept_fewer _ _ _ _ _ _ c.in_ok-items-in-Section.ensures.read)

pub loop-clause-preserved : goal.loop-clause-preserved
loop-clause-preserved c =
    let read = section_read _ _ _ _ _ _ _ _ _ (rw c.in-Section.is at c.loop-clause.invariant) c.in_ok-items-in-Section.ensures.read in
    rw c.in_ok-push-in-Section.ensures.items (sections_more _ _ _ _ _ _ _ _ _ c.requires.few read c.in_ok-found-in-Section.ensures.right)
