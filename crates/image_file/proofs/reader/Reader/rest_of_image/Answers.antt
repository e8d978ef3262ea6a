use Rattle.std.proofs.Common.{◌≡◌, ℕ, List, ◌-◌, not, eqb, take, refl, ap, Vec, Global}
use Rattle.std.proofs.lemmas.Result.{err_from_is_err_and}
use Rattle.flat_code.specs.Layout.{Cursor}
use Rattle.image_file.specs.declared.records.NameRead.{NameRead}
use Rattle.image_file.specs.Running.{reader_cursor, log_of}
use Rattle.image_file.proofs.WholeRunLemmas.{rest_stops, rest_goes}
use Rattle.image_file.proofs.reader.Reader.rest_of_image.Goals as goal

-- the bytes up to the total length
cursors : (at at' total : ℕ) (rest rest' text : List ℕ) → at' ≡ at → rest' ≡ rest → text ≡ take (total - 12) rest' → ◌≡◌ {A = Cursor} (record { at = at'; rest = text }) (record { at = at; rest = take (total - 12) rest })
cursors at at' total rest rest' text p q r = rw (p, r, q) refl

pub returns-in_err-names : goal.returns-in_err-names
returns-in_err-names c =
    let p = err_from_is_err_and c.from_residual.result c.from_residual.ensures.1 in
    let here = cursors c.args.self.now.at c.note_if.new.self.at c.args.total c.args.self.now.rest.now c.note_if.new.self.rest.now c.up_to-self.result.now c.note_if.ensures.at c.note_if.ensures.rest c.up_to-self.ensures in
    rw (p.1, p.2) (rest_stops (λ (v : Vec NameRead Global). v.items) _ c.records.new.self c.args.stamp c.args.size c.args.total (not (eqb c.args.size c.args.total)) (reader_cursor c.args.self.now) (record { at = c.note_if.new.self.at; rest = c.up_to-self.result.now }) (log_of c.args.self.now) (log_of c.note_if.new.self) c.requires.low c.requires.there c.requires.high refl c.note_if.ensures.log here c.in_err-names.ensures.read)

pub returns : goal.returns
returns c =
    let r = c.in_ok-names.ensures.read in
    let here = cursors c.args.self.now.at c.note_if.new.self.at c.args.total c.args.self.now.rest.now c.note_if.new.self.rest.now c.up_to-self.result.now c.note_if.ensures.at c.note_if.ensures.rest c.up_to-self.ensures in (
      r.0,
      reader_cursor c.records.new.self,
      rest_goes c.args.stamp r.0 (reader_cursor c.records.new.self) c.args.size c.args.total (not (eqb c.args.size c.args.total)) (not c.is_empty.result) (reader_cursor c.args.self.now) (record { at = c.note_if.new.self.at; rest = c.up_to-self.result.now }) (log_of c.args.self.now) (log_of c.note_if.new.self) (log_of c.records.new.self) (log_of c.note_if-2.new.self)
          c.requires.low c.requires.there c.requires.high refl c.note_if.ensures.log here r.1 (ap not c.is_empty.ensures) c.note_if-2.ensures.log,
      r.2,
    )
