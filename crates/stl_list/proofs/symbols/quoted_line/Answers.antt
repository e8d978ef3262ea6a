use Rattle.std.proofs.Common.{◌≡◌, ◌≢◌, ap, ◌∙◌}
use Rattle.csv.specs.Writing.{with_style}
use Rattle.csv.specs.declared.writer.QuoteStyle.TheVariants as style
use Rattle.csv.specs.declared.writer.WriterBuilder.{WriterBuilder}
use Rattle.stl_list.specs.Symbols.{symbols_writer}
use Rattle.stl_list.proofs.symbols.quoted_line.Goals as goal

pub returns-in-Ok : goal.returns-in-Ok
returns-in-Ok c =
    let from = c.from_writer-writer.ensures in
    let setup : c.from_writer-writer.result.cfg ≡ symbols_writer =
    from.cfg ∙ c.quote_style.ensures ∙ ap (λ (b : WriterBuilder). with_style b style.Always) c.new.ensures in
    let plain : c.from_writer-writer.result.cfg.style ≢ style.NonNumeric = rw setup (λ e. cc e) in
    let h = c.in_ok-write_fields.ensures.bytes from.fields from.wrote plain in
    let text = rw (setup, from.wtr, c.new-2.ensures.items, from.empty) at h in
    c.in-Ok.ensures.ok ∙ text
