-- The words of a call, and the command that they ask for. How a command line is read is clap's: its
-- `fault_of` has what is wrong with the words (also a request for help), and its `matches_of` what
-- each argument found, of which `first_of` and `all_of` give the words.
use Rattle.std.specs.Prelude.{◌≡◌, ◌≢◌, ◌==◌, ◌&&◌, ℕ, ◌≤◌, nat_le, nat_lt, Bool, true, false, not, List, [], ◌∷◌, ◌++◌, length, map, Option, Some, None, codes, bytes_eq, is_some, IfSome, option_and_then, option_map, unwrap_or, if◌then◌else◌}
use Rattle.std.specs.List.{list_all}
use Rattle.std.specs.Option.{option_map_or}
use Rattle.clap.specs.Lexer.{usize_max}
use Rattle.clap.specs.Simple.{on_top}
use Rattle.clap.specs.Walk.{is_empty}
use Rattle.clap.specs.Words.{App, Row, Rule, all_of, fault_of, first_of, matches_of, new_app, new_rule, with_rule}
use Rattle.clap.specs.declared.builder.action.ArgAction.TheVariants.{Set, SetTrue, Append}
use Rattle.stl_lexer.specs.Bytes.{minus_sign}
use Rattle.stl_symbols.specs.declared.languages.Language.TheVariants.{English, German}
use Rattle.plc_base.specs.Decimal.{decimal_up_to}
use Rattle.s7_cli.specs.declared.words.AskedCommand.{AskedCommand}
use Rattle.s7_cli.specs.declared.words.AskedCommand.TheVariants as asked
use Rattle.s7_cli.specs.Command.{Command, Go, Check, Compile, Translate, Run, Gen, Live, Watch, Upgrade, ListImage, Bound, Recheck}

-- COMMAND: a word that has to be there
abbrev pub command_rule : Rule
command_rule = record (new_rule (codes "COMMAND")) { action = Some Set; required = true }

-- FILES: the words behind COMMAND, any number, none too
abbrev pub files_rule : Rule
files_rule =
    record (new_rule (codes "FILES")) {
      action = Some Append;
      range = Some (record { start_inclusive = 0; end_inclusive = usize_max });
    }

-- `--symbols FILE`, at most once
abbrev pub symbols_rule : Rule
symbols_rule =
    record (new_rule (codes "symbols")) { long = Some (codes "symbols"); action = Some Set }

-- `--steps N`, at most once
abbrev pub steps_rule : Rule
steps_rule = record (new_rule (codes "steps")) { long = Some (codes "steps"); action = Some Set }

-- `--german`, a flag, at most once
abbrev pub german_rule : Rule
german_rule =
    record (new_rule (codes "german")) { long = Some (codes "german"); action = Some SetTrue }

-- the command `s7`, whose words are those without the program's name
abbrev pub s7_alone : App
s7_alone = on_top (λ s. record s { no_binary_name = true }) (new_app (codes "s7"))

-- the command line of `s7` with its five arguments: COMMAND, FILES, `--symbols FILE`, `--steps
-- N` and `--german`
abbrev pub the_line : App
the_line =
    with_rule
    (with_rule (with_rule (with_rule (with_rule s7_alone command_rule) files_rule) symbols_rule)
    steps_rule) german_rule

-- the number that a word writes in decimal digits without a sign, from 1 to the most; none for
-- another word
abbrev pub number_from_one_up_to : (most : ℕ) (word : List ℕ) → Option ℕ
number_from_one_up_to most word =
    option_and_then (λ number. if nat_lt 0 number then Some number else None)
    (decimal_up_to most word)

-- no option of a command that compiles a source is given
abbrev pub takes_no_source : (symbols : Option (List ℕ)) (german : Bool) → Bool
takes_no_source symbols german = not (is_some symbols) && not german

-- `check SRC`, with `--symbols FILE` or without, with `--german` or without, and `gen NUMBER`
abbrev pub one_word_command :
    (command word : List ℕ) (symbols : Option (List ℕ)) (german : Bool) → Option Command
one_word_command command word symbols german =
    if bytes_eq command (codes "check") then Some (Check word symbols german)
    else (if bytes_eq command (codes "gen") && takes_no_source symbols german
    then option_map Gen (number_from_one_up_to 10000 word)
    else None)

-- a command with two words and no option: `run IMG HIST`, `upgrade IMG IMG2`, `bound IMG CERT`,
-- `recheck IMG CERT`, `english SRC OUT` or `german SRC OUT`
abbrev pub file_command : (command first second : List ℕ) → Option Command
file_command command first second =
    if bytes_eq command (codes "run") then Some (Run first second)
    else (if bytes_eq command (codes "upgrade") then Some (Upgrade first second)
    else (if bytes_eq command (codes "bound") then Some (Bound first second)
    else (if bytes_eq command (codes "recheck") then Some (Recheck first second)
    else (if bytes_eq command (codes "english") then Some (Translate English first second)
    else (if bytes_eq command (codes "german") then Some (Translate German first second)
    else None)))))

-- a command with two words: `go SRC HIST` and `compile SRC IMG`, with `--symbols FILE` or
-- without, with `--german` or without; and without both `run`, `upgrade`, `bound`, `recheck`,
-- `english` and `german`
abbrev pub two_word_command :
    (command first second : List ℕ) (symbols : Option (List ℕ)) (german : Bool) → Option Command
two_word_command command first second symbols german =
    if bytes_eq command (codes "go") then Some (Go first symbols german second)
    else (if bytes_eq command (codes "compile") then Some (Compile first symbols german second)
    else (if takes_no_source symbols german then file_command command first second
    else None))

-- `list IMG SRC SYM`, where SRC and SYM differ
abbrev pub three_word_command :
    (command first second third : List ℕ) (symbols : Option (List ℕ)) (german : Bool)
    → Option Command
three_word_command command first second third symbols german =
    if bytes_eq command (codes "list") && takes_no_source symbols german
    && not (bytes_eq second third)
    then Some (ListImage first second third)
    else None

-- a command with one word, two or three behind it
abbrev pub short_command :
    (command : List ℕ) (words : List (List ℕ)) (symbols : Option (List ℕ)) (german : Bool)
    → Option Command
short_command command (word ∷ []) symbols german = one_word_command command word symbols german
short_command command (first ∷ second ∷ []) symbols german =
    two_word_command command first second symbols german
short_command command (first ∷ second ∷ third ∷ []) symbols german =
    three_word_command command first second third symbols german
short_command command words symbols german = None

-- `live IMG STIM OPS.. --steps N`, with one script to four
abbrev pub live_command_by :
    (command : List ℕ) (words : List (List ℕ)) (steps : List ℕ) → Option Command
live_command_by command (image ∷ stimuli ∷ script ∷ scripts) steps =
    if bytes_eq command (codes "live") && nat_le (length scripts) 3
    then option_map (Live image stimuli (script ∷ scripts)) (number_from_one_up_to 1000000 steps)
    else None
live_command_by command words steps = None

-- `watch IMG STIM VARS OPS.. --steps N`, with one script to three
abbrev pub watch_command_by : (words : List (List ℕ)) (steps : List ℕ) → Option Command
watch_command_by (image ∷ stimuli ∷ vars ∷ script ∷ scripts) steps =
    if nat_le (length scripts) 2
    then option_map (Watch image stimuli vars (script ∷ scripts))
    (number_from_one_up_to 1000000 steps)
    else None
watch_command_by words steps = None

-- a command with `--steps N`: `watch` or `live`
abbrev pub stepped_command :
    (command : List ℕ) (words : List (List ℕ)) (steps : List ℕ) → Option Command
stepped_command command words steps =
    if bytes_eq command (codes "watch") then watch_command_by words steps
    else live_command_by command words steps

-- the command that its word, the words behind it and the options ask for; `--steps N` goes with
-- `live` and `watch`, and with nothing else
abbrev pub command_with_options :
    (command : List ℕ) (words : List (List ℕ)) (symbols : Option (List ℕ)) (german : Bool)
    (steps : Option (List ℕ)) → Option Command
command_with_options command words symbols german None = short_command command words symbols german
command_with_options command words symbols german (Some steps) =
    if takes_no_source symbols german then stepped_command command words steps else None

-- whether `--german` was found, whose value is `false` where it wasn't
abbrev pub has_german : List Row → Bool
has_german found =
    option_map_or (λ value. bytes_eq value (codes "true")) (first_of (codes "german") found) false

-- the command that is asked for by the rows that were found of the five arguments
abbrev pub command_of_rows : List Row → Option Command
command_of_rows found =
    option_and_then
    (λ command. command_with_options command (unwrap_or (all_of (codes "FILES") found) [])
    (first_of (codes "symbols") found) (has_german found) (first_of (codes "steps") found))
    (first_of (codes "COMMAND") found)

-- the command that the words of a call ask for, without the program's name: none where clap refuses
-- the words, or where they ask for no command
unfoldable pub command_of : List (List ℕ) → Option Command
command_of words =
    if is_empty (fault_of the_line words) then command_of_rows (matches_of the_line words) else None

-- a command keeps the limits of its numbers and of how many scripts it has, and its output files
-- are different words
abbrev pub KeepsLimits : Command → Type 0
KeepsLimits (Gen number) = (1 ≤ number) × (number ≤ 10000)
KeepsLimits (Live image stimuli scripts steps) =
    (1 ≤ length scripts) × (length scripts ≤ 4) × (1 ≤ steps) × (steps ≤ 1000000)
KeepsLimits (Watch image stimuli vars scripts steps) =
    (1 ≤ length scripts) × (length scripts ≤ 3) × (1 ≤ steps) × (steps ≤ 1000000)
KeepsLimits (ListImage image source symbols) = source ≢ symbols
KeepsLimits command = Unit {0}

-- the command of a call that was read, with its names as texts
abbrev pub command_value : AskedCommand → Command
command_value (asked.Go source symbols german history) =
    Go source.now (option_map (λ s. s.now) symbols) german history.now
command_value (asked.Check source symbols german) =
    Check source.now (option_map (λ s. s.now) symbols) german
command_value (asked.Compile source symbols german image) =
    Compile source.now (option_map (λ s. s.now) symbols) german image.now
command_value (asked.Translate language source translation) =
    Translate language source.now translation.now
command_value (asked.Run image history) = Run image.now history.now
command_value (asked.Gen number) = Gen number
command_value (asked.Upgrade image upgraded) = Upgrade image.now upgraded.now
command_value (asked.ListImage image source symbols) = ListImage image.now source.now symbols.now
command_value (asked.Bound image certificate) = Bound image.now certificate.now
command_value (asked.Recheck image certificate) = Recheck image.now certificate.now
command_value (asked.Live image stimuli scripts steps) =
    Live image.now stimuli.now (map (λ s. s.now) scripts.items) steps
command_value (asked.Watch image stimuli vars scripts steps) =
    Watch image.now stimuli.now vars.now (map (λ s. s.now) scripts.items) steps

-- a word that can be no option: it doesn't begin with a hyphen, or is nothing else
abbrev pub is_plain_word : List ℕ → Bool
is_plain_word [] = true
is_plain_word (first ∷ []) = true
is_plain_word (first ∷ second ∷ rest) = not (first == minus_sign)

-- the command that words which can be no options ask for, the first of them as its word, with
-- these options
abbrev pub plain_command :
    (words : List (List ℕ)) (symbols : Option (List ℕ)) (german : Bool) (steps : Option (List ℕ))
    → Option Command
plain_command [] symbols german steps = None
plain_command (command ∷ words) symbols german steps =
    command_with_options command words symbols german steps

-- words that can be no options ask for the command of the first one, without options
abbrev pub ReadsPlainWords : Type 0
ReadsPlainWords =
    (words : List (List ℕ)) → list_all is_plain_word words ≡ true
    → command_of words ≡ plain_command words None false None

-- words behind `--`, whatever they begin with, ask for the command of the first one, without
-- options
abbrev pub ReadsWordsBehindDashes : Type 0
ReadsWordsBehindDashes =
    (words : List (List ℕ)) → command_of (codes "--" ∷ words) ≡ plain_command words None false None

-- an option with its value may stand anywhere among words that can be no options, and asks for the
-- same: as two words, of which the second can be none either, or as a single word with `=` between
-- them, where the value may be anything
abbrev pub ReadsAnywhere :
    (option : List ℕ) (asked : (words : List (List ℕ)) (value : List ℕ) → Option Command) → Type 0
ReadsAnywhere option asked =
    (front back : List (List ℕ)) (value : List ℕ) → list_all is_plain_word (front ++ back) ≡ true
    → (is_plain_word value ≡ true
    → command_of (front ++ option ∷ value ∷ back) ≡ asked (front ++ back) value)
    × (command_of (front ++ (option ++ codes "=" ++ value) ∷ back) ≡ asked (front ++ back) value)

-- `--symbols FILE` among words that can be no options gives their command its symbols
abbrev pub ReadsSymbolsAnywhere : Type 0
ReadsSymbolsAnywhere =
    ReadsAnywhere (codes "--symbols") (λ words file. plain_command words (Some file) false None)

-- `--steps N` among words that can be no options gives their command its steps
abbrev pub ReadsStepsAnywhere : Type 0
ReadsStepsAnywhere =
    ReadsAnywhere (codes "--steps") (λ words number. plain_command words None false (Some number))

-- `--german` may stand anywhere among words that can be no options, and says that their
-- command's source is German
abbrev pub ReadsGermanAnywhere : Type 0
ReadsGermanAnywhere = (front back : List (List ℕ)) → list_all is_plain_word (front ++ back) ≡ true
    → command_of (front ++ codes "--german" ∷ back) ≡ plain_command (front ++ back) None true None

-- where an option with a value is the last word, it has no value, and the words are refused
abbrev pub RefusesNoValue : Type 0
RefusesNoValue = (front : List (List ℕ)) → list_all is_plain_word front ≡ true
    → (command_of (front ++ codes "--symbols" ∷ []) ≡ None)
    × (command_of (front ++ codes "--steps" ∷ []) ≡ None)

-- a command that words ask for is within its limits
abbrev pub CommandsKeepLimits : Type 0
CommandsKeepLimits = (words : List (List ℕ)) → IfSome (command_of words) KeepsLimits
