use Rattle.s7_cli.proofs.CompileLemmas.{one_program, refused_have_none}
use Rattle.s7_cli.proofs.compiling.law_of_programs.Goals as goal

pub returns-clause-one : goal.returns-clause-one
returns-clause-one c = one_program c.law_of_tokens.ensures.one_list c.law_of_clauses.ensures.one_tree

pub returns-clause-refused : goal.returns-clause-refused
returns-clause-refused c = refused_have_none c.law_of_sources.ensures.meaning_or_refusal
