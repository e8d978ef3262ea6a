use Rattle.std.proofs.Common.{rules, ◌≡◌, List, Option, ◌∙◌, ap}
use Rattle.std.specs.List.{flat_map}
use Rattle.std.specs.Option.{option_to_list}
use Rattle.plc_base.specs.declared.refusals.Refusal.{Refusal}
use Rattle.plc_base.specs.Least.{least}
use Rattle.block_layout.proofs.TableLemmas.{least_all, least_one}
use Rattle.block_layout.proofs.refusals.least_among.Goals as goal

pub returns : goal.returns
returns c = λ lists are.
    c.least_of.ensures option_to_list (λ x r q. let is : r ≡ x = search (rules, q) in is ∙ least_one x)
    ∙ ap (λ (l : List (Option Refusal)). least (flat_map option_to_list l)) are ∙ least_all lists
