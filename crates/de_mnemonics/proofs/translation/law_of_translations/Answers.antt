use Rattle.de_mnemonics.proofs.LawLemmas.{Laws, one_text, text_or_violation, one_violation, total}
use Rattle.de_mnemonics.proofs.translation.law_of_translations.Goals as goal

pub returns : goal.returns
returns c =
    let laws : Laws =
    record {
      one_list = c.law_of_tokens.ensures.one_list;
      tokens_exclude = c.law_of_tokens.ensures.list_or_violation;
      one_token_violation = c.law_of_tokens.ensures.one_violation;
      tokens_or_violation = c.law_of_tokens.ensures.total;
    } in
    record { one_text = one_text laws; text_or_violation = text_or_violation laws; one_violation = one_violation laws; total = total laws }
