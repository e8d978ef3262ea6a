use Rattle.std.proofs.Common.{◌∷◌, ◌∙◌, ap, sym, arith}
use Rattle.std.specs.List.{slice_split}
use Rattle.std.proofs.lemmas.List.{take_rest}
use Rattle.var_access.specs.Variables.{is_point}
use Rattle.var_access.proofs.PartLemmas.{split_first}
use Rattle.var_access.proofs.variable_texts.at_point.Goals as goal

pub returns-in-len1-up : goal.returns-in-len1-up
returns-in-len1-up c =
    split_first _ _ _ _ c.point_len.ensures.value c.split_at.ensures.front c.split_at.ensures.back (omega (arith, c.in-len1-up.len_at_least))
    ∙ ap (λ t. c.split_at.result.0.now ∷ slice_split is_point t) (sym (take_rest c.split_at.result.1.now 1))
