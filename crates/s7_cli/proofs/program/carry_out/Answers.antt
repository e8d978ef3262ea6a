use Rattle.std.proofs.Common.{◌≡◌, ap, subst, sym, Option, Some}
use Rattle.plc_io.specs.Moments.{FilesAt}
use Rattle.s7_cli.specs.Command.{Command, Gen}
use Rattle.s7_cli.specs.Ends.{EndsWithStatus, sink_moments}
use Rattle.s7_cli.specs.Reading.{disk_moments}
use Rattle.s7_cli.specs.StatusTable.{StatusTable}
use Rattle.s7_cli.specs.Words.{command_value}
use Rattle.s7_cli.proofs.program.carry_out.Goals as goal

pub returns-in-Gen-clause-ends : goal.returns-in-Gen-clause-ends
returns-in-Gen-clause-ends g c =
    let is : Some (Gen c.in-Gen.number) ≡ Some (command_value c.args.asked) = ap (λ a. Some (command_value a)) (sym c.in-Gen.is) in
    let files : FilesAt = g.F.Files.shown c.args.files.now in
    subst
    (λ (k : Option Command). EndsWithStatus k (disk_moments files files) (sink_moments (g.K.Sink.shown c.args.out.now) (g.K.Sink.shown c.cmd_gen.new.out)) c.cmd_gen.result.code)
    is (c.cmd_gen.ensures.ends files)

pub returns-in-Gen-clause-table : goal.returns-in-Gen-clause-table
returns-in-Gen-clause-table g c =
    let is : Some (Gen c.in-Gen.number) ≡ Some (command_value c.args.asked) = ap (λ a. Some (command_value a)) (sym c.in-Gen.is) in
    let files : FilesAt = g.F.Files.shown c.args.files.now in
    subst
    (λ (k : Option Command). StatusTable k (disk_moments files files) (sink_moments (g.K.Sink.shown c.args.out.now) (g.K.Sink.shown c.cmd_gen.new.out)) c.cmd_gen.result.code)
    is (c.cmd_gen.ensures.table files)
