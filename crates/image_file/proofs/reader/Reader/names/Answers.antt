use Rattle.std.proofs.Common.{◌∙◌}
use Rattle.std.proofs.lemmas.Result.{err_from_is_err_and}
use Rattle.flat_code.specs.Image.{name_record, after_name}
use Rattle.image_file.specs.Running.{reader_cursor, log_of}
use Rattle.image_file.proofs.RunLemmas.{more_goes, more_stops, more_done}
use Rattle.image_file.proofs.reader.Reader.names.Goals as goal

pub returns-in_err-text-clause-read : goal.returns-in_err-text-clause-read
returns-in_err-text-clause-read c =
    let p = err_from_is_err_and c.from_residual.result c.from_residual.ensures.1 in
    rw (p.1, p.2) (more_stops name_record after_name c.loop.before.now c.args.count c.loop.counter (reader_cursor c.loop.self) (log_of c.loop.self) (log_of c.name.new.self) c.loop.names.items _ c.loop-test.true c.in_err-text.ensures.read c.loop.invariant.read)

pub loop-preserved : goal.loop-preserved
loop-preserved c = record {
  read = rw (c.in_ok-push.ensures.items, c.in_ok-name.ensures.items) (more_goes name_record after_name c.loop.before.now c.args.count c.loop.counter (reader_cursor c.loop.self) (log_of c.loop.self) c.loop.names.items (record { name = c.in_ok-text.text.now; area = c.in_ok-text.area; width = c.in_ok-text.width; byte = c.in_ok-text.byte; bit = c.in_ok-text.bit }) (reader_cursor c.name.new.self) (log_of c.name.new.self) _ c.loop-test.true c.in_ok-text.ensures.read c.loop.invariant.read);
  all = c.in_ok-text.ensures.all ∙ c.loop.invariant.all;
}

pub returns-clause-read : goal.returns-clause-read
returns-clause-read c = more_done name_record after_name c.loop.before.now c.args.count c.loop.counter (reader_cursor c.loop.self) (log_of c.loop.self) c.loop.names.items _ c.loop-test.false c.loop.invariant.read
