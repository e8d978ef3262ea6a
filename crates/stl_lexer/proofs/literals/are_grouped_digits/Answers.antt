use Rattle.std.proofs.Common.{eqb, rules}
use Rattle.std.proofs.lemmas.Iterator.Search.{all_from_yields_List}
use Rattle.std.proofs.lemmas.Iterator.Splits.{YieldsList-from_slice_split}
use Rattle.stl_lexer.specs.Bytes.{underscore}
use Rattle.stl_lexer.specs.Rules.{are_digits_of_base, are_grouped_digits}
use Rattle.stl_lexer.proofs.literals.are_grouped_digits.Goals as goal

pub returns : goal.returns
unfolding are_grouped_digits
returns c = all_from_yields_List (are_digits_of_base c.args.base) _ _ c.all.result c.all.ensures.ran
    (YieldsList-from_slice_split _ (λ b. eqb b underscore) c.args.text.now c.split.ensures.rest c.split.ensures.done c.split.ensures.closure (λ x b q h. search (rules, h)))
    (λ x b q h. search (rules, h))
