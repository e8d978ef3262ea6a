use Rattle.std.proofs.Common.{sym, ◌∙◌}
use Rattle.stl_symbols.proofs.AddressLemmas.{look_up-map}
use Rattle.stl_symbols.proofs.addresses.look_up.Goals as goal

pub returns : goal.returns
returns c =
    c.letters_entry.ensures
    ∙ sym (look_up-map (λ e. e.0.now) (λ e. e.1.now) (λ e. e.2) c.args.language c.args.table.now c.args.word.now)
