use Rattle.de_mnemonics.specs.Words.{translated_word}
use Rattle.translation_laws.proofs.AlikeLemmas.{trees_alike}
use Rattle.translation_laws.proofs.RewrittenLemmas.{rewritten_tokens}
use Rattle.translation_laws.proofs.RoundTripLemmas.{round_trips}
use Rattle.translation_laws.proofs.WrittenLemmas.{instruction_quiet, operand_quiet}
use Rattle.translation_laws.proofs.laws.law_of_round_trip.Goals as goal

pub returns : goal.returns
unfolding translated_word
returns c =
    round_trips
    (record {
      one_list = c.law_of_tokens.ensures.one_list;
      keeps = rewritten_tokens;
      trees = trees_alike;
      spelled = record {
        instruction = λ x w word is. instruction_quiet x w word is;
        operand = λ x w word is. operand_quiet x w word is;
      };
    })
