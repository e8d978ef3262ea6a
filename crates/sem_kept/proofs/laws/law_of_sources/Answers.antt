use Rattle.sem_kept.proofs.SourceLemmas.{Laws, one_meaning, meaning_or_refusal, one_refusal, each_has_outcome, no_file}
use Rattle.sem_kept.proofs.laws.law_of_sources.Goals as goal

pub returns : goal.returns
returns c =
    let laws : Laws =
    record {
      one_list = c.law_of_tokens.ensures.one_list;
      tokens_exclude = c.law_of_tokens.ensures.list_or_violation;
      one_token_violation = c.law_of_tokens.ensures.one_violation;
      one_tree = c.law_of_clauses.ensures.one_tree;
      tree_excludes = c.law_of_clauses.ensures.tree_or_violation;
      one_clause_violation = c.law_of_clauses.ensures.one_violation;
      tokens_or_violation = c.law_of_tokens.ensures.total;
      tree_or_violation = c.law_of_clauses.ensures.total;
    } in
    record { no_file = no_file; one_meaning = one_meaning laws; meaning_or_refusal = meaning_or_refusal laws; one_refusal = one_refusal laws; total = each_has_outcome laws }
