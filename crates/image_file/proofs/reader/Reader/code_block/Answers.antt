use Rattle.std.proofs.Common.{refl, ◌+◌, ◌*◌, length}
use Rattle.std.proofs.lemmas.Result.{err_from_is_err_and}
use Rattle.flat_code.specs.Records.{BlockRecord}
use Rattle.image_file.specs.Running.{reader_cursor, log_of}
use Rattle.image_file.proofs.RunLemmas.{block_stops, block_goes, kept_one}
use Rattle.image_file.proofs.reader.Reader.code_block.Goals as goal

pub returns-in_err-block-clause-read : goal.returns-in_err-block-clause-read
returns-in_err-block-clause-read c =
    let p = err_from_is_err_and c.from_residual.result c.from_residual.ensures.1 in
    rw (p.1, p.2) (block_stops {X = BlockRecord} (λ b. b) _ c.plain_block.new.self (c.args.kind_before, c.args.before) (reader_cursor c.args.self.now) (log_of c.args.self.now) c.in_err-block.ensures.read)

pub returns-clause-read : goal.returns-clause-read
returns-clause-read c = (
  c.in_ok-block.block,
  block_goes c.in_ok-block.block (reader_cursor c.plain_block.new.self) (log_of c.plain_block.new.self) _ (c.args.kind_before, c.args.before) (reader_cursor c.args.self.now) (log_of c.args.self.now) c.in_ok-block.ensures.read
      (kept_one c.plain_block.new.self.least c.plain_block.new.self.blocks.items _ _ (c.args.self.now.at + 16 + 6 * length c.in_ok-block.block.params) c.in_ok-block.block _ c.in_ok-push.ensures.items (rw c.code_start-start.ensures refl)),
  c.key_of-key.ensures.kind,
  c.key_of-key.ensures.number,
)
