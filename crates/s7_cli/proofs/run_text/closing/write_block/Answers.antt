use Rattle.std.proofs.Common.{◌<◌, ◌≤◌, ◌*◌, ◌∙◌, ap, subst, sym, ℕ, List, Err, Ok, length, arith}
use Rattle.std.specs.Int.{div_ceil}
use Rattle.std.proofs.lemmas.Result.{err_from_is_err_and}
use Rattle.plc_io.specs.SinkBytes.{WroteText}
use Rattle.monitor.specs.LineText.{row_text}
use Rattle.s7_cli.specs.run_text.RunText.{row_of}
use Rattle.s7_cli.proofs.run.ListLemmas.{block-is, counted-end, counted-next}
use Rattle.s7_cli.proofs.run.WritingLemmas.{goes-cut, goes-end, goes-next}
use Rattle.s7_cli.proofs.run_text.closing.write_block.Goals as goal

pub returns-in_err-push_all : goal.returns-in_err-push_all
returns-in_err-push_all g c =
    let handed = err_from_is_err_and c.from_residual.result c.from_residual.ensures.1 in
    let within : c.loop-row.row < div_ceil (length c.args.bytes.now) 32 = omega (arith, c.loop-row-test.true, c.div_ceil-row-end.ensures) in
    subst
    (λ (t : List ℕ). WroteText {X = Unit {0}} (g.K.Sink.shown c.args.out.now) (g.K.Sink.shown c.push_all.new.out) t c.from_residual.result)
    (sym (block-is c.args.number c.args.bytes.now))
    (goes-cut _ _ _ _ _ _ _ _ _ _ c.loop-row.invariant
    (counted-next (row_of c.args.number c.args.bytes.now) c.loop-row.row _ within)
    (c.as_slice.ensures ∙ c.row_text.ensures ∙ ap (row_text c.args.number (32 * c.loop-row.row)) c.row_bytes.ensures.value)
    c.in_err-push_all.ensures
    (handed.1 ∙ ap Err handed.2))

pub loop-row-preserved : goal.loop-row-preserved
loop-row-preserved g c =
    let within : c.loop-row.row < div_ceil (length c.args.bytes.now) 32 = omega (arith, c.loop-row-test.true, c.div_ceil-row-end.ensures) in
    goes-next _ _ _ _ _ _ _ _ _ c.loop-row.invariant
    (counted-next (row_of c.args.number c.args.bytes.now) c.loop-row.row _ within)
    (c.as_slice.ensures ∙ c.row_text.ensures ∙ ap (row_text c.args.number (32 * c.loop-row.row)) c.row_bytes.ensures.value)
    c.in_ok-push_all.ensures

pub returns : goal.returns
returns g c =
    let past : div_ceil (length c.args.bytes.now) 32 ≤ c.loop-row.row = omega (arith, c.loop-row-test.false, c.div_ceil-row-end.ensures) in
    subst
    (λ (t : List ℕ). WroteText {X = Unit {0}} (g.K.Sink.shown c.args.out.now) (g.K.Sink.shown c.loop-row.out) t (Ok tt))
    (sym (block-is c.args.number c.args.bytes.now))
    (goes-end _ _ _ _ _ c.loop-row.invariant (counted-end (row_of c.args.number c.args.bytes.now) c.loop-row.row _ past))
