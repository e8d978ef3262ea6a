use Rattle.std.proofs.Common.{Option, Err, sym, ap, subst, ◌∙◌}
use Rattle.std.specs.Option.{unwrap_or}
use Rattle.plc_base.specs.declared.refusals.Refusal.{Refusal}
use Rattle.sem_kept.specs.Meaning.{IsSound}
use Rattle.s7_cli.proofs.CompileLemmas.{refused_so}
use Rattle.s7_cli.proofs.compiling.least_refusal_of_tree.Goals as goal

pub returns-clause-found : goal.returns-clause-found
returns-clause-found c =
    subst (λ (r : Refusal). IsSound c.args.symbols.now c.args.tree.now (Err r))
    (sym (c.unwrap_or.ensures ∙ ap (λ (o : Option Refusal). unwrap_or o c.args.refusal) c.lesser.ensures))
    (refused_so c.args.symbols.now c.args.tree.now c.in_ok-layouts.layouts c.args.refusal
    c.in_ok-other.other c.requires c.in_ok-layouts.ensures c.in_ok-other.ensures.found)
