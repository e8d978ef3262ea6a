use Rattle.std.proofs.Common.{sym, ◌∙◌}
use Rattle.stl_parser.proofs.TableLemmas.{look_up-map}
use Rattle.stl_parser.proofs.lookups.look_up.Goals as goal

pub returns : goal.returns
returns g c = c.entry_of.ensures ∙ sym (look_up-map (λ e. e.0.now) (λ e. e.1) c.args.table.now c.args.word.now)
