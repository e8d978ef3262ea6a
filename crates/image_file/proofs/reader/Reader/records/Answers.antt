use Rattle.std.proofs.Common.{refl, Vec, Global}
use Rattle.image_file.specs.declared.records.NameRead.{NameRead}
use Rattle.std.proofs.lemmas.Result.{err_from_is_err_and}
use Rattle.image_file.specs.Running.{reader_cursor, log_of, counts_values}
use Rattle.image_file.proofs.WholeRunLemmas.{counts_stop, codes_stop, datas_stop, names_stop, records_go}
use Rattle.image_file.proofs.reader.Reader.records.Goals as goal

pub returns-in_err-counts-clause-read : goal.returns-in_err-counts-clause-read
returns-in_err-counts-clause-read c =
    let p = err_from_is_err_and c.from_residual.result c.from_residual.ensures.1 in
    rw (p.1, p.2) (counts_stop (λ (v : Vec NameRead Global). v.items) c.counts.new.self (reader_cursor c.args.self.now) (log_of c.args.self.now) c.in_err-counts.ensures.read)

pub returns-in_err-code_blocks-clause-read : goal.returns-in_err-code_blocks-clause-read
returns-in_err-code_blocks-clause-read c =
    let p = err_from_is_err_and c.from_residual-in_err-code_blocks.result c.from_residual-in_err-code_blocks.ensures.1 in
    rw (p.1, p.2) (codes_stop (λ (v : Vec NameRead Global). v.items) _ c.code_blocks.new.self (counts_values c.in_ok-counts.counts) (reader_cursor c.counts.new.self) (reader_cursor c.args.self.now) (log_of c.counts.new.self) (log_of c.args.self.now) c.in_ok-counts.ensures.read c.in_err-code_blocks.ensures.read)

pub returns-in_err-data_blocks-clause-read : goal.returns-in_err-data_blocks-clause-read
returns-in_err-data_blocks-clause-read c =
    let p = err_from_is_err_and c.from_residual-in_err-data_blocks.result c.from_residual-in_err-data_blocks.ensures.1 in
    let b = c.in_ok-code_blocks.ensures.read in
    rw (p.1, p.2) (datas_stop (λ (v : Vec NameRead Global). v.items) _ c.data_blocks.new.self (counts_values c.in_ok-counts.counts) b.0 (reader_cursor c.counts.new.self) (reader_cursor c.code_blocks.new.self) (reader_cursor c.args.self.now) (log_of c.counts.new.self) (log_of c.code_blocks.new.self) (log_of c.args.self.now) c.in_ok-counts.ensures.read b.1 c.in_err-data_blocks.ensures.read)

pub returns-in_err-names-clause-read : goal.returns-in_err-names-clause-read
returns-in_err-names-clause-read c =
    let p = err_from_is_err_and c.from_residual-in_err-names.result c.from_residual-in_err-names.ensures.1 in
    let b = c.in_ok-code_blocks.ensures.read in
    let d = c.in_ok-data_blocks.ensures.read in
    rw (p.1, p.2) (names_stop (λ (v : Vec NameRead Global). v.items) _ c.names.new.self (counts_values c.in_ok-counts.counts) b.0 d.0 (reader_cursor c.counts.new.self) (reader_cursor c.code_blocks.new.self) (reader_cursor c.data_blocks.new.self) (reader_cursor c.args.self.now) (log_of c.counts.new.self) (log_of c.code_blocks.new.self) (log_of c.data_blocks.new.self) (log_of c.args.self.now) c.in_ok-counts.ensures.read b.1 d.1 c.in_err-names.ensures.read)

pub returns-clause-read : goal.returns-clause-read
returns-clause-read c =
    let b = c.in_ok-code_blocks.ensures.read in
    let d = c.in_ok-data_blocks.ensures.read in
    (_, records_go (counts_values c.in_ok-counts.counts) b.0 d.0 c.in_ok-names.names.items (reader_cursor c.counts.new.self) (reader_cursor c.code_blocks.new.self) (reader_cursor c.data_blocks.new.self) (reader_cursor c.names.new.self) (reader_cursor c.args.self.now) (log_of c.counts.new.self) (log_of c.code_blocks.new.self) (log_of c.data_blocks.new.self) (log_of c.names.new.self) (log_of c.args.self.now) c.in_ok-counts.ensures.read b.1 d.1 c.in_ok-names.ensures.read, refl)
