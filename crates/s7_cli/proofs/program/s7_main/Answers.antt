use Rattle.std.proofs.Common.{◌≡◌, refl, sym, ◌∙◌, ap, subst, map, Option, Some, None, Err}
use Rattle.std.specs.Prelude.{string_bytes}
use Rattle.std.specs.Option.{option_map}
use Rattle.plc_io.specs.Moments.{FilesAt, SinkAt}
use Rattle.s7_cli.specs.declared.failures.Failure.TheVariants.{WordsRefused, NoMemory}
use Rattle.s7_cli.specs.Answer.{words_refused_answer}
use Rattle.s7_cli.specs.Command.{Command}
use Rattle.s7_cli.specs.Ends.{EndsWithStatus, sink_moments}
use Rattle.s7_cli.specs.Inner.{ComesBeforeLine}
use Rattle.s7_cli.specs.Reading.{disk_moments}
use Rattle.s7_cli.specs.StatusTable.{StatusTable}
use Rattle.s7_cli.specs.Words.{command_of, command_value}
use Rattle.s7_cli.proofs.ComesLemmas.{only-reads, unchanged, wanting}
use Rattle.s7_cli.proofs.LimitLemmas.{read-limits}
use Rattle.s7_cli.proofs.program.s7_main.Goals as goal

words-refused : (command : Option Command) (files : FilesAt) (out : SinkAt) → None ≡ command
    → ComesBeforeLine command (disk_moments files files) (sink_moments out out) (Err WordsRefused)
words-refused command files out is =
    subst (λ (c : Option Command). ComesBeforeLine c (disk_moments files files) (sink_moments out out) (Err WordsRefused)) is (record {
      line = words_refused_answer.text;
      has_line = refl;
      answers = refl;
      sink = refl;
      counts = λ name. refl;
      only_reads = only-reads files files (unchanged files);
    })

-- memory was wanting while the words were read
words-unread : (command : Option Command) (files : FilesAt) (out : SinkAt) → ComesBeforeLine command (disk_moments files files) (sink_moments out out) (Err NoMemory)
words-unread command files out = wanting command (disk_moments files files) out (only-reads files files (unchanged files))

pub returns-in-Ok-None-clause-ends : goal.returns-in-Ok-None-clause-ends
returns-in-Ok-None-clause-ends g c =
    c.end_command.ensures.ends _ _ _ (words-refused _ _ _ (sym (ap (option_map command_value) c.in-Ok-None.field-0-is) ∙ c.in-Ok-None.ensures))

pub returns-in-Ok-None-clause-table : goal.returns-in-Ok-None-clause-table
returns-in-Ok-None-clause-table g c =
    c.end_command.ensures.table _ _ _ (words-refused _ _ _ (sym (ap (option_map command_value) c.in-Ok-None.field-0-is) ∙ c.in-Ok-None.ensures))

pub returns-in-Err-clause-table : goal.returns-in-Err-clause-table
returns-in-Err-clause-table g c = c.end_command-in-Err.ensures.table _ _ _ (words-unread _ _ _)

-- what was read is what the words ask for
pub carry_out-requires-clause-limits : goal.carry_out-requires-clause-limits
carry_out-requires-clause-limits g c κs within =
    read-limits _ _ (sym (ap (option_map command_value) c.in-Ok-Some.field-0-is) ∙ c.in-Ok-Some.ensures)

pub returns-in-Ok-Some-clause-ends : goal.returns-in-Ok-Some-clause-ends
returns-in-Ok-Some-clause-ends g c =
    let is : Some (command_value c.in-Ok-Some.asked) ≡ command_of (map string_bytes c.args.words.now) =
    sym (ap (option_map command_value) c.in-Ok-Some.field-0-is) ∙ c.in-Ok-Some.ensures in
    subst
    (λ (k : Option Command). EndsWithStatus k (disk_moments (g.F.Files.shown c.args.files.now) (g.F.Files.shown c.carry_out.new.files))
    (sink_moments (g.K.Sink.shown c.args.out.now) (g.K.Sink.shown c.carry_out.new.out)) c.carry_out.result.code)
    is c.carry_out.ensures.ends

pub returns-in-Ok-Some-clause-table : goal.returns-in-Ok-Some-clause-table
returns-in-Ok-Some-clause-table g c =
    let is : Some (command_value c.in-Ok-Some.asked) ≡ command_of (map string_bytes c.args.words.now) =
    sym (ap (option_map command_value) c.in-Ok-Some.field-0-is) ∙ c.in-Ok-Some.ensures in
    subst
    (λ (k : Option Command). StatusTable k (disk_moments (g.F.Files.shown c.args.files.now) (g.F.Files.shown c.carry_out.new.files))
    (sink_moments (g.K.Sink.shown c.args.out.now) (g.K.Sink.shown c.carry_out.new.out)) c.carry_out.result.code)
    is c.carry_out.ensures.table
