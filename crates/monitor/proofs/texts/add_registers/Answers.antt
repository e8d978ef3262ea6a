use Rattle.std.proofs.Common.{◌∙◌, ap, ℕ, ◌++◌}
use Rattle.monitor.specs.LineText.{hex_text, registers_text}
use Rattle.monitor.proofs.PartLemmas.{six-parts}
use Rattle.monitor.proofs.texts.add_registers.Goals as goal

pub returns-clause-value : goal.returns-clause-value
unfolding registers_text
returns-clause-value c =
    let stw = c.add_hex.ensures.value ∙ ap (λ (n : ℕ). c.add.new.self ++ hex_text 4 n) c.from.ensures in
    six-parts c.args.line.now _ _ _ _ _ _ _ _ _ _ _ _ c.add.ensures.value stw c.add-2.ensures.value
    c.add_hex-2.ensures.value c.add-3.ensures.value c.add_hex-3.ensures.value
