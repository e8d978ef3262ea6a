use Rattle.std.proofs.Common.{true, ◌∙◌}
use Rattle.std.proofs.lemmas.Result.{err_from_is_err_and}
use Rattle.flat_code.specs.Image.{line_field, line_after}
use Rattle.image_file.specs.Running.{reader_cursor, log_of}
use Rattle.image_file.proofs.RunLemmas.{more_goes, more_stops, more_done}
use Rattle.image_file.proofs.reader.Reader.lines.Goals as goal

pub returns-in_err-line-clause-read : goal.returns-in_err-line-clause-read
returns-in_err-line-clause-read c =
    let p = err_from_is_err_and c.from_residual.result c.from_residual.ensures.1 in
    rw (p.1, p.2) (more_stops (line_field true) line_after c.loop.before c.args.count c.loop.counter (reader_cursor c.loop.self) (log_of c.loop.self) (log_of c.line.new.self) c.loop.lines.items _ c.loop-test.true c.in_err-line.ensures.read c.loop.invariant.read)

pub loop-preserved : goal.loop-preserved
loop-preserved c = record {
  read = rw c.in_ok-push.ensures.items (more_goes (line_field true) line_after c.loop.before c.args.count c.loop.counter (reader_cursor c.loop.self) (log_of c.loop.self) c.loop.lines.items c.in_ok-line.line (reader_cursor c.line.new.self) (log_of c.line.new.self) _ c.loop-test.true c.in_ok-line.ensures.read c.loop.invariant.read);
  all = c.in_ok-line.ensures.all ∙ c.loop.invariant.all;
}

pub returns-clause-read : goal.returns-clause-read
returns-clause-read c = more_done (line_field true) line_after c.loop.before c.args.count c.loop.counter (reader_cursor c.loop.self) (log_of c.loop.self) c.loop.lines.items _ c.loop-test.false c.loop.invariant.read
