use Rattle.std.proofs.Common.{◌∷◌, ◌∙◌, ap, sym, arith, false}
use Rattle.std.proofs.lemmas.List.{take_rest}
use Rattle.var_access.specs.Requests.{comma_parts}
use Rattle.var_access.proofs.PartLemmas.{part_first}
use Rattle.var_access.proofs.request_texts.first_part.Goals as goal

pub returns-in-len1-up : goal.returns-in-len1-up
returns-in-len1-up c =
    part_first _ _ _ _ c.part_len.ensures.value c.split_at.ensures.front c.split_at.ensures.back (omega (arith, c.in-len1-up.len_at_least))
    ∙ ap (λ t. c.split_at.result.0.now ∷ comma_parts false t) (sym (take_rest c.split_at.result.1.now 1))
