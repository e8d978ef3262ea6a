use Rattle.std.proofs.Common.{◌≡◌, length, sym, ap, subst, ◌∙◌, arith, true}
use Rattle.std.proofs.lemmas.Result.{err_from_is_err_and}
use Rattle.flat_code.specs.Programs.{Program}
use Rattle.flat_code.specs.Image.{read_cut_off}
use Rattle.flat_code.specs.declared.stamps.Stamp.{Stamp}
use Rattle.image_file.specs.Running.{Log, RunResult, Stops, run_of_read, reader_cursor, log_of, front_values, IsImageRun}
use Rattle.image_file.proofs.WholeRunLemmas.{front_stops, cut_image, small_total, far_total, great_total}
use Rattle.image_file.proofs.reader.Reader.image.Goals as goal

pub returns-in_err-front : goal.returns-in_err-front
returns-in_err-front c =
    let p = err_from_is_err_and c.from_residual.result c.from_residual.ensures.1 in
    rw (p.1, p.2) (front_stops c.front.new.self c.args.self.now.rest.now c.args.self.now.at (log_of c.args.self.now) c.requires c.in_err-front.ensures.read)

stopped : (read : RunResult (Stamp × Program)) (log last : Log) → read ≡ Stops last → log ≡ last → ◌≡◌ {A = RunResult (Stamp × Program)} (Stops log) read
stopped read log last p q = sym (p ∙ ap (λ (z : Log). Stops z) (sym q))

pub returns-then-front-lt20 : goal.returns-then-front-lt20
returns-then-front-lt20 c =
    let text = c.args.self.now.rest.now in
    let whole = cut_image text c.args.self.now.at (log_of c.args.self.now) (front_values c.in_ok-front.front) (reader_cursor c.front.new.self) (log_of c.front.new.self) c.requires c.in_ok-front.ensures.read in
    stopped _ _ _ (whole ∙ small_total _ (length text) c.in_ok-front.front.total_length (reader_cursor c.front.new.self) (log_of c.front.new.self) c.if-front-lt20.true) c.note_if.ensures.log

pub returns-then-size-front : goal.returns-then-size-front
returns-then-size-front c =
    let text = c.args.self.now.rest.now in
    let whole = cut_image text c.args.self.now.at (log_of c.args.self.now) (front_values c.in_ok-front.front) (reader_cursor c.front.new.self) (log_of c.front.new.self) c.requires c.in_ok-front.ensures.read in
    stopped _ _ _ (whole ∙ far_total _ (length text) c.in_ok-front.front.total_length (reader_cursor c.front.new.self) (log_of c.front.new.self) c.if-size-front.true) c.note_if-then-size-front.ensures.log

pub returns-then-front-gt8388608 : goal.returns-then-front-gt8388608
returns-then-front-gt8388608 c =
    let text = c.args.self.now.rest.now in
    let whole = cut_image text c.args.self.now.at (log_of c.args.self.now) (front_values c.in_ok-front.front) (reader_cursor c.front.new.self) (log_of c.front.new.self) c.requires c.in_ok-front.ensures.read in
    stopped _ _ _ (whole ∙ great_total _ (length text) c.in_ok-front.front.total_length (reader_cursor c.front.new.self) (log_of c.front.new.self) c.if-front-lt20.false c.if-size-front.false (omega (arith, c.if-front-gt8388608.true))) c.note_if-then-front-gt8388608.ensures.log

pub returns : goal.returns
returns c =
    let text = c.args.self.now.rest.now in
    let whole = cut_image text c.args.self.now.at (log_of c.args.self.now) (front_values c.in_ok-front.front) (reader_cursor c.front.new.self) (log_of c.front.new.self) c.requires c.in_ok-front.ensures.read in
    subst (λ (z : RunResult (Stamp × Program)). IsImageRun c.rest_of_image.result c.rest_of_image.new.self z) (sym (whole ∙ ap (λ (s : Stamp). run_of_read (read_cut_off true s (length text) c.in_ok-front.front.total_length (reader_cursor c.front.new.self)) (log_of c.front.new.self)) (sym c.of-stamp.ensures))) c.rest_of_image.ensures
