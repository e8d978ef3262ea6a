use Rattle.std.proofs.Common.{rules, tests, ◌∙◌, not}
use Rattle.std.specs.Char.{is_ascii_lowercase}
use Rattle.std.proofs.lemmas.Iterator.{YieldsList-from_slice}
use Rattle.std.proofs.lemmas.Iterator.Search.{all_from_yields_List}
use Rattle.flat_code.proofs.NameLemmas.{upper_is_all}
use Rattle.flat_code.proofs.names.is_upper_case.Goals as goal

pub returns : goal.returns
returns c =
    all_from_yields_List (λ b. not (is_ascii_lowercase b)) _ _ _ c.all.ensures.ran (YieldsList-from_slice c.args.name.now c.iter.ensures.rest) (λ x b q k. search (rules, tests))
    ∙ upper_is_all c.args.name.now
