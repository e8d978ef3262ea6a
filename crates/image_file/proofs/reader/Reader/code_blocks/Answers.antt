use Rattle.std.proofs.Common.{true, ◌++◌, ◌∷◌, [], ◌∙◌, refl}
use Rattle.std.proofs.lemmas.Result.{err_from_is_err_and}
use Rattle.flat_code.specs.Image.{code_block_layout, code_blocks_layout, after_block}
use Rattle.image_file.specs.Running.{reader_cursor, log_of}
use Rattle.image_file.proofs.RunLemmas.{more_starts, more_goes, more_done, blocks_stop}
use Rattle.image_file.proofs.reader.Reader.code_blocks.Goals as goal

pub loop-init : goal.loop-init
loop-init c = record { read = ([], more_starts (code_block_layout true) after_block (0, 0) c.args.count (reader_cursor c.args.self.now) (log_of c.args.self.now)); all = refl }

pub returns-in_err-key-clause-read : goal.returns-in_err-key-clause-read
unfolding code_blocks_layout
returns-in_err-key-clause-read c =
    let p = err_from_is_err_and c.from_residual.result c.from_residual.ensures.1 in
    rw (p.1, p.2) (blocks_stop _ c.code_block.new.self (c.loop.kind_before, c.loop.before) c.args.count c.loop.counter (reader_cursor c.loop.self) (log_of c.loop.self) c.loop.invariant.read.0 _ c.loop-test.true c.in_err-key.ensures.read c.loop.invariant.read.1)

pub loop-preserved : goal.loop-preserved
loop-preserved c =
    let r = c.in_ok-key.ensures.read in
    record {
      read = (c.loop.invariant.read.0 ++ r.0 ∷ [], rw (r.2, r.3) (more_goes (code_block_layout true) after_block (c.loop.kind_before, c.loop.before) c.args.count c.loop.counter (reader_cursor c.loop.self) (log_of c.loop.self) c.loop.invariant.read.0 r.0 (reader_cursor c.code_block.new.self) (log_of c.code_block.new.self) _ c.loop-test.true r.1 c.loop.invariant.read.1));
      all = c.in_ok-key.ensures.all ∙ c.loop.invariant.all;
    }

pub returns-clause-read : goal.returns-clause-read
unfolding code_blocks_layout
returns-clause-read c = (c.loop.invariant.read.0, more_done (code_block_layout true) after_block (c.loop.kind_before, c.loop.before) c.args.count c.loop.counter (reader_cursor c.loop.self) (log_of c.loop.self) c.loop.invariant.read.0 _ c.loop-test.false c.loop.invariant.read.1)
