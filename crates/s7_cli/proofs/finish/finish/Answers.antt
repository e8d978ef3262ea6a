use Rattle.std.proofs.Common.{subst}
use Rattle.s7_cli.specs.Answer.{CallOutcome}
use Rattle.s7_cli.specs.Ends.{sink_moments}
use Rattle.s7_cli.specs.Inner.{ComesBeforeLine}
use Rattle.s7_cli.proofs.FinishLemmas.{finish-ends}
use Rattle.s7_cli.proofs.finish.finish.Goals as goal

pub returns-in-Err : goal.returns-in-Err
returns-in-Err g c = λ command d start comes.
    finish-ends command d start _ _ c.in-Err.failure c.say.result
    (subst (λ (o : CallOutcome). ComesBeforeLine command d (sink_moments start (g.K.Sink.shown c.args.out.now)) o) c.in-Err.is comes) c.say.ensures
