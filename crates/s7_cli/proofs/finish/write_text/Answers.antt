use Rattle.s7_cli.proofs.finish.write_text.Goals as goal

pub returns : goal.returns
returns g c = c.outcome_of_write.ensures (g.K.Sink.shown c.args.out.now) (g.K.Sink.shown c.push_all.new.out) c.args.text.now c.push_all.ensures
