use Rattle.std.proofs.Common.{◌∙◌, arith}
use Rattle.std.proofs.lemmas.Result.{err_from_is_err_and}
use Rattle.std.proofs.Common.{Vec, Global}
use Rattle.flat_code.specs.declared.programs.DataBlock.{DataBlock as Block}
use Rattle.flat_code.specs.Programs.{DataBlock}
use Rattle.flat_code.specs.Image.{data_block_layout, after_data}
use Rattle.image_file.specs.Running.{reader_cursor, log_of}
use Rattle.image_file.proofs.RunLemmas.{more_goes, more_done, sees_stops}
use Rattle.image_file.proofs.reader.Reader.plain_data_blocks.Goals as goal

pub returns-in_err-block-clause-read : goal.returns-in_err-block-clause-read
returns-in_err-block-clause-read c =
    let p = err_from_is_err_and c.from_residual.result c.from_residual.ensures.1 in
    rw (p.1, p.2) (sees_stops {X = DataBlock} (λ d. d) (λ (v : Vec Block Global). v.items) _ c.data_block.new.self data_block_layout after_data (c.loop.before, c.loop.sum) c.args.count c.loop.counter (reader_cursor c.loop.self) (log_of c.loop.self) c.loop.blocks.items _ c.loop-test.true c.in_err-block.ensures.read c.loop.invariant.read)

pub loop-preserved : goal.loop-preserved
loop-preserved c = record {
  read = rw (c.in_ok-push.ensures.items, c.key_of_data-key.ensures.number, c.key_of_data-key.ensures.len) (more_goes data_block_layout after_data (c.loop.before, c.loop.sum) c.args.count c.loop.counter (reader_cursor c.loop.self) (log_of c.loop.self) c.loop.blocks.items c.in_ok-block.block (reader_cursor c.data_block.new.self) (log_of c.data_block.new.self) _ c.loop-test.true c.in_ok-block.ensures.read c.loop.invariant.read);
  all = c.in_ok-block.ensures.all ∙ c.loop.invariant.all;
  sum = omega (arith, c.key_of_data-key.ensures.len, c.in_ok-block.ensures.small, c.loop.invariant.sum);
}

pub returns-clause-read : goal.returns-clause-read
returns-clause-read c = more_done data_block_layout after_data (c.loop.before, c.loop.sum) c.args.count c.loop.counter (reader_cursor c.loop.self) (log_of c.loop.self) c.loop.blocks.items _ c.loop-test.false c.loop.invariant.read
