-- How clap's walk goes over words that are no options, of themselves or behind `--`: the first is COMMAND, and all others are FILES. `behind` says
-- whether `--` stood at the front. An option may stand in any place among them.
use Rattle.std.proofs.Common.{◌≡◌, ℕ, Bool, true, false, not, ◌&&◌, ◌||◌, ◌==◌, List, [], ◌∷◌, ◌++◌, length, nat_le, refl, ap, sym, ◌∙◌, arith, codes, if◌then◌else◌, true≢false, append-nil, append_assoc, length-append}
use Rattle.std.specs.Prelude.{Option, Some, None, bytes_eq, is_some, option_map}
use Rattle.std.specs.List.{fold, list_all}
use Rattle.std.proofs.lemmas.Bool.{and_parts}
use Rattle.std.proofs.lemmas.Bool.Decides.{nat_tests}
use Rattle.std.proofs.lemmas.List.Folds.{list_all-append}
use Rattle.clap.specs.Lexer.{long_of, short_of, usize_max}
use Rattle.clap.specs.Kinds.{Kinds, or_else, range_kinds, values_kinds}
use Rattle.clap.specs.Faults.{check_fault, defaults_fault, entered_fault, settle_fault, turn_fault, walk_fault}
use Rattle.clap.specs.Simple.{Shape, built, entered}
use Rattle.clap.specs.Walk.{Row, Rule, Text, Waiting, Walk, finished, idle, is_empty, option, positional, settled, settled_rows, walked}
use Rattle.clap.specs.declared.builder.value_parser.ValueParser.TheVariants as parser
use Rattle.s7_cli.specs.Command.{Command, Watch}
use Rattle.s7_cli.specs.Words.{the_line, command_of_rows, command_of, is_plain_word, plain_command, live_command_by, stepped_command, watch_command_by, short_command, number_from_one_up_to, ReadsGermanAnywhere, ReadsPlainWords, ReadsStepsAnywhere, ReadsSymbolsAnywhere, ReadsWordsBehindDashes, RefusesNoValue}

-- ---- one word

-- the word is neither `--`, nor a long nor a short option
record IsPlain (word : Text) : Type 0 where
  no_dashes : bytes_eq word (45 ∷ 45 ∷ []) ≡ false
  no_long : long_of word ≡ None
  no_short : short_of word ≡ None

plain : (word : Text) → is_plain_word word ≡ true → IsPlain word
plain [] e = record { no_dashes = refl; no_long = refl; no_short = refl }
plain (x ∷ []) e =
    (elim (x == 45) as (λ v. (x == 45) ≡ v → IsPlain (x ∷ [])) [
      | true ↦ λ is. record { no_dashes = rw is refl; no_long = rw is refl; no_short = rw is refl }
      | false ↦ λ is. record { no_dashes = rw is refl; no_long = rw is refl; no_short = rw is refl }
    ]) refl
plain (x ∷ y ∷ xs) e =
    (elim (x == 45) as (λ v. (x == 45) ≡ v → not v ≡ true → IsPlain (x ∷ y ∷ xs)) [
      | true ↦ λ is h. absurd (true≢false (sym h))
      | false ↦ λ is h. record { no_dashes = rw is refl; no_long = rw is refl; no_short = rw is refl }
    ]) refl e

-- the word is no option
abbrev is_value : Bool → Text → Bool
is_value behind word = behind || is_plain_word word

abbrev are_values : Bool → List Text → Bool
are_values behind words = list_all (is_value behind) words

values-behind : (words : List Text) → are_values true words ≡ true
values-behind [] = refl
values-behind (word ∷ words) = values-behind words

-- ---- an option with its value, or a flag

data OptionWithValue : Type 0 where
  symbols : Text → OptionWithValue
  steps : Text → OptionWithValue

data GivenOption : Type 0 where
  with_value : OptionWithValue → GivenOption
  german : GivenOption

abbrev name_of : GivenOption → Text
name_of (with_value (symbols file)) = codes "symbols"
name_of (with_value (steps number)) = codes "steps"
name_of german = codes "german"

abbrev value_of : OptionWithValue → Text
value_of (symbols file) = file
value_of (steps number) = number

abbrev values_of : GivenOption → List Text
values_of (with_value given) = value_of given ∷ []
values_of german = []

abbrev symbols_of : Option GivenOption → Option Text
symbols_of (Some (with_value (symbols file))) = Some file
symbols_of given = None

abbrev steps_of : Option GivenOption → Option Text
steps_of (Some (with_value (steps number))) = Some number
steps_of given = None

abbrev german_of : Option GivenOption → Bool
german_of (Some german) = true
german_of given = false

-- the command that words ask for with it
abbrev asked_with : Option GivenOption → List Text → Option Command
asked_with given words = plain_command words (symbols_of given) (german_of given) (steps_of given)

-- ---- places of the walk

-- the command line as clap builds it
abbrev the_shape : Shape
the_shape = (built the_line).top

abbrev the_rules : List Rule
the_rules = the_shape.rules

-- rows with those of an argument used with these values
abbrev with_used : Text → List Text → List Row → List Row
with_used id values rows = settled_rows the_rules (Some (id, values)) rows

abbrev with_given : GivenOption → List Row → List Row
with_given given rows = with_used (name_of given) (values_of given) rows

abbrev at : Bool → List Row → Option (Text × List Text) → Waiting → ℕ → Walk
at behind rows pending waiting position = record {
  held = record { rows = rows; pending = pending; skip = 0 };
  waiting = waiting;
  position = position;
  is_trailing = behind;
  stopped = None;
}

-- before the first word that is no option
abbrev rows_before : Option GivenOption → List Row
rows_before None = []
rows_before (Some given) = with_given given []

abbrev at_start : Bool → Option GivenOption → Walk
at_start behind given = at behind (rows_before given) None idle 1

-- behind the command
abbrev at_command : Bool → Option GivenOption → Text → Walk
at_command behind given command = at behind (rows_before given) (Some (codes "COMMAND", command ∷ [])) idle 2

-- behind files
abbrev at_files : Bool → List Row → List Text → Walk
at_files behind rows files = at behind rows (Some (codes "FILES", files)) positional 2

-- the rows before the first file
abbrev rows_at_files : Option GivenOption → Text → List Row
rows_at_files given command = with_used (codes "COMMAND") (command ∷ []) (rows_before given)

-- where the walk comes to from a place
abbrev walk_on : Walk → List Text → Walk
walk_on = fold (walked the_rules [])

walked-first : (behind : Bool) (given : Option GivenOption) (command : Text) → is_value behind command ≡ true
    → walked the_rules [] (at_start behind given) command ≡ at_command behind given command
unfolding walked
walked-first true given command h = refl
walked-first false given command h = let p = plain command h in rw (p.no_dashes, p.no_long, p.no_short) refl

walked-second : (behind : Bool) (given : Option GivenOption) (command file : Text) → is_value behind file ≡ true
    → walked the_rules [] (at_command behind given command) file ≡ at_files behind (rows_at_files given command) (file ∷ [])
unfolding walked
walked-second true given command file h = refl
walked-second false given command file h = let p = plain file h in rw (p.no_dashes, p.no_long, p.no_short) refl

walked-further : (behind : Bool) (rows : List Row) (file : Text) (files : List Text) (word : Text) → is_value behind word ≡ true
    → walked the_rules [] (at_files behind rows (file ∷ files)) word ≡ at_files behind rows (file ∷ (files ++ word ∷ []))
unfolding walked
walked-further true rows file files word h = refl
walked-further false rows file files word h = let p = plain word h in rw (p.no_dashes, p.no_long, p.no_short) refl

-- ---- what is wrong

-- behind the walk
abbrev end_fault : Walk → Kinds
end_fault w = or_else (entered_fault (built the_line) w.stopped) (or_else (settle_fault the_rules false w.held)
    (or_else (defaults_fault (settled the_rules w.held).rows the_rules)
    (check_fault the_shape (finished the_rules w.held) (is_some (entered (built the_line) w.stopped)))))

-- from a place of the walk on
abbrev fault_from : Walk → List Text → Kinds
fault_from w words = or_else (walk_fault the_shape [] w words) (end_fault (walk_on w words))

no_fault-first : (behind : Bool) (given : Option GivenOption) (command : Text) → is_value behind command ≡ true
    → turn_fault the_shape [] (at_start behind given) command ≡ []
no_fault-first true given command h = refl
no_fault-first false given command h = let p = plain command h in rw (p.no_dashes, p.no_long, p.no_short) refl

no_fault-second : (behind : Bool) (given : Option GivenOption) (command file : Text) → is_value behind file ≡ true
    → turn_fault the_shape [] (at_command behind given command) file ≡ []
no_fault-second true None command file h = refl
no_fault-second true (Some (with_value (symbols f))) command file h = refl
no_fault-second true (Some (with_value (steps n))) command file h = refl
no_fault-second true (Some german) command file h = refl
no_fault-second false None command file h = let p = plain file h in rw (p.no_dashes, p.no_long, p.no_short) refl
no_fault-second false (Some (with_value (symbols f))) command file h = let p = plain file h in rw (p.no_dashes, p.no_long, p.no_short) refl
no_fault-second false (Some (with_value (steps n))) command file h = let p = plain file h in rw (p.no_dashes, p.no_long, p.no_short) refl
no_fault-second false (Some german) command file h = let p = plain file h in rw (p.no_dashes, p.no_long, p.no_short) refl

no_fault-further : (behind : Bool) (rows : List Row) (file : Text) (files : List Text) (word : Text) → is_value behind word ≡ true
    → turn_fault the_shape [] (at_files behind rows (file ∷ files)) word ≡ []
no_fault-further true rows file files word h = refl
no_fault-further false rows file files word h = let p = plain word h in rw (p.no_dashes, p.no_long, p.no_short) refl

-- so many files as some command has
abbrev are_few : List Text → Bool
are_few files = nat_le (length files) 6

range-few : (n : ℕ) → nat_le n 6 ≡ true → range_kinds 0 usize_max n ≡ []
range-few n h = grind (arith, nat_tests)

any_value : (values : List Text) → values_kinds false parser.String values ≡ []
any_value [] = refl
any_value (value ∷ values) = any_value values

-- the files are used at the end of their run
no_fault-files : (behind : Bool) (rows : List Row) (file : Text) (files : List Text) → are_few (file ∷ files) ≡ true
    → settle_fault the_rules false (at_files behind rows (file ∷ files)).held ≡ []
no_fault-files behind rows file files few = rw (range-few (length (file ∷ files)) few, any_value (file ∷ files)) refl

no_end_fault : (behind : Bool) (given : Option GivenOption) (command file : Text) (files : List Text) → are_few (file ∷ files) ≡ true
    → end_fault (at_files behind (rows_at_files given command) (file ∷ files)) ≡ []
unfolding defaults_fault
no_end_fault behind None command file files few = rw (no_fault-files behind (rows_at_files None command) file files few) refl
no_end_fault behind (Some (with_value (symbols f))) command file files few = rw (no_fault-files behind (rows_at_files (Some (with_value (symbols f))) command) file files few) refl
no_end_fault behind (Some (with_value (steps n))) command file files few = rw (no_fault-files behind (rows_at_files (Some (with_value (steps n))) command) file files few) refl
no_end_fault behind (Some german) command file files few = rw (no_fault-files behind (rows_at_files (Some german) command) file files few) refl

-- ---- what the words ask for

-- what the words ask for from a place of the walk on
abbrev asked_from : Walk → List Text → Option Command
asked_from w words = if is_empty (fault_from w words) then command_of_rows (finished the_rules (walk_on w words).held) else None

-- what the words ask for from a place of the walk on, where a fault counts only if the files are
-- few: no command has more
abbrev asked_if : Bool → Walk → List Text → Option Command
asked_if true w words = asked_from w words
asked_if false w words = command_of_rows (finished the_rules (walk_on w words).held)

-- a word with nothing wrong
asked_from-next : (w next : Walk) (word : Text) (words : List Text) → turn_fault the_shape [] w word ≡ [] → walked the_rules [] w word ≡ next
    → asked_from w (word ∷ words) ≡ asked_from next words
unfolding walk_fault
asked_from-next w next word words none to = rw none (ap (λ v. asked_from v words) to)

asked_if-next : (few : Bool) (w next : Walk) (word : Text) (words : List Text) → (few ≡ true → turn_fault the_shape [] w word ≡ [])
    → walked the_rules [] w word ≡ next → asked_if few w (word ∷ words) ≡ asked_if few next words
asked_if-next true w next word words none to = asked_from-next w next word words (none refl) to
asked_if-next false w next word words none to = ap (λ v. asked_if false v words) to

-- nothing is wrong at the end
asked_if-end : (few : Bool) (w : Walk) → (few ≡ true → end_fault w ≡ []) → asked_if few w [] ≡ command_of_rows (finished the_rules w.held)
unfolding walk_fault
asked_if-end true w none = rw (none refl) refl
asked_if-end false w none = refl

-- no command, with or without a fault
none_if_none : (taken : Bool) (asked : Option Command) → asked ≡ None → (if taken then asked else None) ≡ None
none_if_none true asked e = e
none_if_none false asked e = refl

asked_if-none : (few : Bool) (w : Walk) (words : List Text) → command_of_rows (finished the_rules (walk_on w words).held) ≡ None → asked_if few w words ≡ None
asked_if-none true w words e = none_if_none (is_empty (fault_from w words)) _ e
asked_if-none false w words e = e

not_both : (first second : Bool) (asked : Option Command) → second ≡ false → (if first && second then asked else None) ≡ None
not_both true second asked e = rw e refl
not_both false second asked e = refl

-- more files than any command has
none-live : (command : Text) (words : List Text) (number : Text) → are_few words ≡ false → live_command_by command words number ≡ None
none-live command [] number h = refl
none-live command (a ∷ []) number h = refl
none-live command (a ∷ b ∷ []) number h = refl
none-live command (a ∷ b ∷ c ∷ more) number h = not_both (bytes_eq command (codes "live")) _ _ (grind (arith, nat_tests))

none-if : (test : Bool) (asked : Option Command) → test ≡ false → (if test then asked else None) ≡ None
none-if test asked e = rw e refl

none-watch : (words : List Text) (number : Text) → are_few words ≡ false → watch_command_by words number ≡ None
none-watch [] number h = refl
none-watch (a ∷ []) number h = refl
none-watch (a ∷ b ∷ []) number h = refl
none-watch (a ∷ b ∷ c ∷ []) number h = refl
none-watch (a ∷ b ∷ c ∷ d ∷ more) number h =
    none-if (nat_le (length more) 2) (option_map (Watch a b c (d ∷ more)) (number_from_one_up_to 1000000 number)) (grind (arith, nat_tests))

none-chosen : (test : Bool) (one other : Option Command) → one ≡ None → other ≡ None → (if test then one else other) ≡ None
none-chosen true one other e f = e
none-chosen false one other e f = f

none-stepped : (command : Text) (words : List Text) (number : Text) → are_few words ≡ false → stepped_command command words number ≡ None
none-stepped command words number h = none-chosen (bytes_eq command (codes "watch")) _ _ (none-watch words number h) (none-live command words number h)

-- steps alone, without a file
none-alone : (command number : Text) → stepped_command command [] number ≡ None
none-alone command number = none-chosen (bytes_eq command (codes "watch")) None None refl refl

none-short : (command : Text) (words : List Text) (given : Option Text) (in_german : Bool) → are_few words ≡ false
    → short_command command words given in_german ≡ None
none-short command [] given in_german h = refl
none-short command (a ∷ []) given in_german h = absurd (true≢false h)
none-short command (a ∷ b ∷ []) given in_german h = absurd (true≢false h)
none-short command (a ∷ b ∷ c ∷ []) given in_german h = absurd (true≢false h)
none-short command (a ∷ b ∷ c ∷ d ∷ more) given in_german h = refl

none-many : (command : Text) (words : List Text) (given : Option GivenOption) → are_few words ≡ false → asked_with given (command ∷ words) ≡ None
none-many command words None h = none-short command words None false h
none-many command words (Some (with_value (symbols file))) h = none-short command words (Some file) false h
none-many command words (Some (with_value (steps number))) h = none-stepped command words number h
none-many command words (Some german) h = none-short command words None true h

-- ---- words that are no options

-- the files go on
asked-further : (few behind : Bool) (rows : List Row) (file : Text) (files words rest : List Text) → are_values behind words ≡ true
    → asked_if few (at_files behind rows (file ∷ files)) (words ++ rest) ≡ asked_if few (at_files behind rows (file ∷ (files ++ words))) rest
asked-further few behind rows file files [] rest h = ap (λ fs. asked_if few (at_files behind rows (file ∷ fs)) rest) (sym (append-nil files))
asked-further few behind rows file files (word ∷ words) rest h =
    let each = and_parts (is_value behind word) _ h in
    asked_if-next few _ _ word (words ++ rest) (λ _. no_fault-further behind rows file files word each.0) (walked-further behind rows file files word each.0)
    ∙ asked-further few behind rows file (files ++ word ∷ []) words rest each.1
    ∙ ap (λ fs. asked_if few (at_files behind rows (file ∷ fs)) rest) (append_assoc files (word ∷ []) words)

-- to the end
asked-rest : (few behind : Bool) (rows : List Row) (file : Text) (words : List Text) → are_values behind words ≡ true
    → asked_if few (at_files behind rows (file ∷ [])) words ≡ asked_if few (at_files behind rows (file ∷ words)) []
asked-rest few behind rows file words h =
    ap (asked_if few (at_files behind rows (file ∷ []))) (sym (append-nil words)) ∙ asked-further few behind rows file [] words [] h

abbrev behind_first : List Text → List Text
behind_first [] = []
behind_first (first ∷ rest) = rest

no_words : (given : Option GivenOption) → command_of_rows (finished the_rules (at_start false given).held) ≡ None
no_words None = refl
no_words (Some (with_value (symbols file))) = refl
no_words (Some (with_value (steps number))) = refl
no_words (Some german) = refl

one_word : (behind : Bool) (given : Option GivenOption) (command : Text) → command_of_rows (finished the_rules (at_command behind given command).held) ≡ None
one_word behind None command = refl
one_word behind (Some (with_value (symbols file))) command = refl
one_word behind (Some (with_value (steps number))) command = none-alone command number
one_word behind (Some german) command = refl

one_word-asked : (given : Option GivenOption) (command : Text) → None ≡ asked_with given (command ∷ [])
one_word-asked None command = refl
one_word-asked (Some (with_value (symbols file))) command = refl
one_word-asked (Some (with_value (steps number))) command = sym (none-alone command number)
one_word-asked (Some german) command = refl

all_words : (behind : Bool) (given : Option GivenOption) (command file : Text) (files : List Text)
    → command_of_rows (finished the_rules (at_files behind (rows_at_files given command) (file ∷ files)).held) ≡ asked_with given (command ∷ file ∷ files)
all_words behind None command file files = refl
all_words behind (Some (with_value (symbols f))) command file files = refl
all_words behind (Some (with_value (steps n))) command file files = refl
all_words behind (Some german) command file files = refl

-- the whole call, behind the option if there is one
asked-start : (few behind : Bool) (given : Option GivenOption) (words : List Text) → are_values behind words ≡ true
    → (few ≡ true → are_few (behind_first words) ≡ true) → asked_if few (at_start behind given) words ≡ asked_with given words
asked-start few behind given [] h short = asked_if-none few (at_start behind given) [] (no_words given)
asked-start few behind given (command ∷ []) h short =
    let first = and_parts (is_value behind command) _ h in
    asked_if-next few _ _ command [] (λ _. no_fault-first behind given command first.0) (walked-first behind given command first.0)
    ∙ asked_if-none few (at_command behind given command) [] (one_word behind given command)
    ∙ one_word-asked given command
asked-start few behind given (command ∷ file ∷ files) h short =
    let first = and_parts (is_value behind command) _ h in
    let second = and_parts (is_value behind file) _ first.1 in
    asked_if-next few _ _ command (file ∷ files) (λ _. no_fault-first behind given command first.0) (walked-first behind given command first.0)
    ∙ asked_if-next few _ _ file files (λ _. no_fault-second behind given command file second.0) (walked-second behind given command file second.0)
    ∙ asked-rest few behind (rows_at_files given command) file files second.1
    ∙ asked_if-end few _ (λ f. no_end_fault behind given command file files (short f))
    ∙ all_words behind given command file files

-- ---- the laws of words without options

command_of-start : (words : List Text) → command_of words ≡ asked_from (at_start false None) words
unfolding command_of
command_of-start words = refl

-- what follows at the start, where more words than any command has ask for none
command_of-asked : (few : Bool) (words : List Text) (asked : Option Command) → asked_if few (at_start false None) words ≡ asked
    → (few ≡ false → asked ≡ None) → command_of words ≡ asked
command_of-asked true words asked e none = command_of-start words ∙ e
command_of-asked false words asked e none = command_of-start words ∙ none_if_none _ _ (e ∙ none refl) ∙ sym (none refl)

many : (words : List Text) (given : Option GivenOption) → are_few (behind_first words) ≡ false → asked_with given words ≡ None
many [] given h = refl
many (command ∷ words) given h = none-many command words given h

walked-dashes : walked the_rules [] (at_start false None) (codes "--") ≡ at_start true None
unfolding walked
walked-dashes = refl

no_fault-dashes : turn_fault the_shape [] (at_start false None) (codes "--") ≡ []
no_fault-dashes = refl

pub reads_plain_words : ReadsPlainWords
reads_plain_words words h =
    command_of-asked (are_few (behind_first words)) words _ (asked-start (are_few (behind_first words)) false None words h (λ f. f)) (many words None)

pub reads_words_behind_dashes : ReadsWordsBehindDashes
reads_words_behind_dashes words =
    let few = are_few (behind_first words) in
    command_of-asked few (codes "--" ∷ words) _
    (asked_if-next few _ _ (codes "--") words (λ _. no_fault-dashes) walked-dashes ∙ asked-start few true None words (values-behind words) (λ f. f))
    (many words None)

-- ---- an option in any place

-- where the walk stands behind words that are no options
abbrev place : List Text → Walk
place [] = at_start false None
place (command ∷ []) = at_command false None command
place (command ∷ file ∷ files) = at_files false (rows_at_files None command) (file ∷ files)

-- what was used up to there, with the words at which it stands
abbrev rows_at : List Text → List Row
rows_at [] = []
rows_at (command ∷ []) = rows_at_files None command
rows_at (command ∷ file ∷ files) = with_used (codes "FILES") (file ∷ files) (rows_at_files None command)

abbrev position_at : List Text → ℕ
position_at [] = 1
position_at (command ∷ files) = 2

-- the word of the option
abbrev word_of : OptionWithValue → Text
word_of (symbols file) = codes "--symbols"
word_of (steps number) = codes "--steps"

-- behind that word, behind its value, and behind both in one word
abbrev at_option : OptionWithValue → List Text → Walk
at_option given front = at false (rows_at front) (Some (name_of (with_value given), [])) (option (name_of (with_value given))) (position_at front)

abbrev at_value : OptionWithValue → List Text → Walk
at_value given front = at false (rows_at front) (Some (name_of (with_value given), value_of given ∷ [])) idle (position_at front)

abbrev behind_option : GivenOption → List Text → Walk
behind_option given front = at false (with_given given (rows_at front)) None idle (position_at front)

-- to the place
asked-place : (few : Bool) (front rest : List Text) → are_values false front ≡ true
    → asked_if few (at_start false None) (front ++ rest) ≡ asked_if few (place front) rest
asked-place few [] rest h = refl
asked-place few (command ∷ []) rest h =
    let first = and_parts (is_value false command) _ h in
    asked_if-next few _ _ command rest (λ _. no_fault-first false None command first.0) (walked-first false None command first.0)
asked-place few (command ∷ file ∷ files) rest h =
    let first = and_parts (is_value false command) _ h in
    let second = and_parts (is_value false file) _ first.1 in
    asked_if-next few _ _ command (file ∷ (files ++ rest)) (λ _. no_fault-first false None command first.0) (walked-first false None command first.0)
    ∙ asked_if-next few _ _ file (files ++ rest) (λ _. no_fault-second false None command file second.0) (walked-second false None command file second.0)
    ∙ asked-further few false (rows_at_files None command) file [] files rest second.1

walked-option : (given : OptionWithValue) (front : List Text) → walked the_rules [] (place front) (word_of given) ≡ at_option given front
unfolding walked
walked-option (symbols f) [] = refl
walked-option (symbols f) (command ∷ []) = refl
walked-option (symbols f) (command ∷ file ∷ files) = refl
walked-option (steps n) [] = refl
walked-option (steps n) (command ∷ []) = refl
walked-option (steps n) (command ∷ file ∷ files) = refl

no_fault-option : (given : OptionWithValue) (front : List Text) → are_few (behind_first front) ≡ true → turn_fault the_shape [] (place front) (word_of given) ≡ []
no_fault-option (symbols f) [] few = refl
no_fault-option (symbols f) (command ∷ []) few = refl
no_fault-option (symbols f) (command ∷ file ∷ files) few = rw (no_fault-files false (rows_at_files None command) file files few) refl
no_fault-option (steps n) [] few = refl
no_fault-option (steps n) (command ∷ []) few = refl
no_fault-option (steps n) (command ∷ file ∷ files) few = rw (no_fault-files false (rows_at_files None command) file files few) refl

walked-value : (given : OptionWithValue) (front : List Text) → is_plain_word (value_of given) ≡ true
    → walked the_rules [] (at_option given front) (value_of given) ≡ at_value given front
unfolding walked
walked-value (symbols f) front h = let p = plain f h in rw (p.no_dashes, p.no_long, p.no_short) refl
walked-value (steps n) front h = let p = plain n h in rw (p.no_dashes, p.no_long, p.no_short) refl

no_fault-value : (given : OptionWithValue) (front : List Text) → is_plain_word (value_of given) ≡ true
    → turn_fault the_shape [] (at_option given front) (value_of given) ≡ []
no_fault-value (symbols f) front h = let p = plain f h in rw (p.no_dashes, p.no_long, p.no_short) refl
no_fault-value (steps n) front h = let p = plain n h in rw (p.no_dashes, p.no_long, p.no_short) refl

walked-joined : (given : OptionWithValue) (front : List Text)
    → walked the_rules [] (place front) (word_of given ++ codes "=" ++ value_of given) ≡ behind_option (with_value given) front
unfolding walked
walked-joined (symbols f) [] = refl
walked-joined (symbols f) (command ∷ []) = refl
walked-joined (symbols f) (command ∷ file ∷ files) = refl
walked-joined (steps n) [] = refl
walked-joined (steps n) (command ∷ []) = refl
walked-joined (steps n) (command ∷ file ∷ files) = refl

no_fault-joined : (given : OptionWithValue) (front : List Text) → are_few (behind_first front) ≡ true
    → turn_fault the_shape [] (place front) (word_of given ++ codes "=" ++ value_of given) ≡ []
no_fault-joined (symbols f) [] few = refl
no_fault-joined (symbols f) (command ∷ []) few = refl
no_fault-joined (symbols f) (command ∷ file ∷ files) few = rw (no_fault-files false (rows_at_files None command) file files few) refl
no_fault-joined (steps n) [] few = refl
no_fault-joined (steps n) (command ∷ []) few = refl
no_fault-joined (steps n) (command ∷ file ∷ files) few = rw (no_fault-files false (rows_at_files None command) file files few) refl

-- the option is used once
no_fault-used : (given : OptionWithValue) (front : List Text) → settle_fault the_rules false (at_value given front).held ≡ []
no_fault-used (symbols f) [] = refl
no_fault-used (symbols f) (command ∷ []) = refl
no_fault-used (symbols f) (command ∷ file ∷ files) = refl
no_fault-used (steps n) [] = refl
no_fault-used (steps n) (command ∷ []) = refl
no_fault-used (steps n) (command ∷ file ∷ files) = refl

-- where a word that is no option leads from behind the option
abbrev at_next : GivenOption → List Text → Text → Walk
at_next given [] word = at_command false (Some given) word
at_next given (command ∷ files) word = at_files false (with_given given (rows_at (command ∷ files))) (word ∷ [])

walked-next : (given : GivenOption) (front : List Text) (word : Text) → is_plain_word word ≡ true
    → walked the_rules [] (behind_option given front) word ≡ at_next given front word
unfolding walked
walked-next (with_value (symbols f)) [] word h = let p = plain word h in rw (p.no_dashes, p.no_long, p.no_short) refl
walked-next (with_value (symbols f)) (command ∷ files) word h = let p = plain word h in rw (p.no_dashes, p.no_long, p.no_short) refl
walked-next (with_value (steps n)) [] word h = let p = plain word h in rw (p.no_dashes, p.no_long, p.no_short) refl
walked-next (with_value (steps n)) (command ∷ files) word h = let p = plain word h in rw (p.no_dashes, p.no_long, p.no_short) refl
walked-next german [] word h = let p = plain word h in rw (p.no_dashes, p.no_long, p.no_short) refl
walked-next german (command ∷ files) word h = let p = plain word h in rw (p.no_dashes, p.no_long, p.no_short) refl

no_fault-next : (given : GivenOption) (front : List Text) (word : Text) → is_plain_word word ≡ true
    → turn_fault the_shape [] (behind_option given front) word ≡ []
no_fault-next (with_value (symbols f)) [] word h = let p = plain word h in rw (p.no_dashes, p.no_long, p.no_short) refl
no_fault-next (with_value (symbols f)) (command ∷ files) word h = let p = plain word h in rw (p.no_dashes, p.no_long, p.no_short) refl
no_fault-next (with_value (steps n)) [] word h = let p = plain word h in rw (p.no_dashes, p.no_long, p.no_short) refl
no_fault-next (with_value (steps n)) (command ∷ files) word h = let p = plain word h in rw (p.no_dashes, p.no_long, p.no_short) refl
no_fault-next german [] word h = let p = plain word h in rw (p.no_dashes, p.no_long, p.no_short) refl
no_fault-next german (command ∷ files) word h = let p = plain word h in rw (p.no_dashes, p.no_long, p.no_short) refl

-- the walk goes on from behind an option's value
walked-used : (given : OptionWithValue) (front : List Text) (word : Text) → is_plain_word word ≡ true
    → walked the_rules [] (at_value given front) word ≡ at_next (with_value given) front word
unfolding walked
walked-used (symbols f) [] word h = let p = plain word h in rw (p.no_dashes, p.no_long, p.no_short) refl
walked-used (symbols f) (command ∷ files) word h = let p = plain word h in rw (p.no_dashes, p.no_long, p.no_short) refl
walked-used (steps n) [] word h = let p = plain word h in rw (p.no_dashes, p.no_long, p.no_short) refl
walked-used (steps n) (command ∷ files) word h = let p = plain word h in rw (p.no_dashes, p.no_long, p.no_short) refl

no_fault-value_used : (given : OptionWithValue) (front : List Text) (word : Text) → is_plain_word word ≡ true
    → turn_fault the_shape [] (at_value given front) word ≡ []
no_fault-value_used (symbols f) [] word h = let p = plain word h in rw (p.no_dashes, p.no_long, p.no_short) refl
no_fault-value_used (symbols f) (command ∷ files) word h =
    let p = plain word h in rw (p.no_dashes, p.no_long, p.no_short) (no_fault-used (symbols f) (command ∷ files))
no_fault-value_used (steps n) [] word h = let p = plain word h in rw (p.no_dashes, p.no_long, p.no_short) refl
no_fault-value_used (steps n) (command ∷ files) word h =
    let p = plain word h in rw (p.no_dashes, p.no_long, p.no_short) (no_fault-used (steps n) (command ∷ files))

-- at the end of the words the value is used too
end-value : (few : Bool) (given : OptionWithValue) (front : List Text) → asked_if few (at_value given front) [] ≡ asked_if few (behind_option (with_value given) front) []
unfolding walk_fault
end-value true (symbols f) front = rw (no_fault-used (symbols f) front) refl
end-value true (steps n) front = rw (no_fault-used (steps n) front) refl
end-value false (symbols f) front = refl
end-value false (steps n) front = refl

-- the two forms lead to the same
asked-value : (few : Bool) (given : OptionWithValue) (front back : List Text) → are_values false back ≡ true
    → asked_if few (at_value given front) back ≡ asked_if few (behind_option (with_value given) front) back
asked-value few given front [] h = end-value few given front
asked-value few given front (word ∷ words) h =
    let first = and_parts (is_value false word) _ h in
    asked_if-next few _ _ word words (λ _. no_fault-value_used given front word first.0) (walked-used given front word first.0)
    ∙ sym (asked_if-next few _ _ word words (λ _. no_fault-next (with_value given) front word first.0) (walked-next (with_value given) front word first.0))

-- from behind the option, with a command in front
no_end_fault-option : (given : GivenOption) (command file : Text) (files : List Text) → end_fault (behind_option given (command ∷ file ∷ files)) ≡ []
unfolding defaults_fault
no_end_fault-option (with_value (symbols f)) command file files = refl
no_end_fault-option (with_value (steps n)) command file files = refl
no_end_fault-option german command file files = refl

no_end_fault-behind : (given : GivenOption) (command : Text) (front : List Text) (file : Text) (files : List Text) → are_few (file ∷ files) ≡ true
    → end_fault (at_files false (with_given given (rows_at (command ∷ front))) (file ∷ files)) ≡ []
unfolding defaults_fault
no_end_fault-behind (with_value (symbols f)) command [] file files few =
    rw (no_fault-files false (with_given (with_value (symbols f)) (rows_at (command ∷ []))) file files few) refl
no_end_fault-behind (with_value (symbols f)) command (a ∷ front) file files few =
    rw (no_fault-files false (with_given (with_value (symbols f)) (rows_at (command ∷ a ∷ front))) file files few) refl
no_end_fault-behind (with_value (steps n)) command [] file files few =
    rw (no_fault-files false (with_given (with_value (steps n)) (rows_at (command ∷ []))) file files few) refl
no_end_fault-behind (with_value (steps n)) command (a ∷ front) file files few =
    rw (no_fault-files false (with_given (with_value (steps n)) (rows_at (command ∷ a ∷ front))) file files few) refl
no_end_fault-behind german command [] file files few = rw (no_fault-files false (with_given german (rows_at (command ∷ []))) file files few) refl
no_end_fault-behind german command (a ∷ front) file files few =
    rw (no_fault-files false (with_given german (rows_at (command ∷ a ∷ front))) file files few) refl

words-option : (given : GivenOption) (command file : Text) (files : List Text)
    → command_of_rows (finished the_rules (behind_option given (command ∷ file ∷ files)).held) ≡ asked_with (Some given) (command ∷ file ∷ files)
words-option (with_value (symbols f)) command file files = refl
words-option (with_value (steps n)) command file files = refl
words-option german command file files = refl

words-behind : (given : GivenOption) (command : Text) (front : List Text) (file : Text) (files : List Text)
    → command_of_rows (finished the_rules (at_files false (with_given given (rows_at (command ∷ front))) (file ∷ files)).held)
    ≡ asked_with (Some given) (command ∷ (front ++ file ∷ files))
words-behind (with_value (symbols f)) command [] file files = refl
words-behind (with_value (symbols f)) command (a ∷ front) file files = refl
words-behind (with_value (steps n)) command [] file files = refl
words-behind (with_value (steps n)) command (a ∷ front) file files = refl
words-behind german command [] file files = refl
words-behind german command (a ∷ front) file files = refl

one_word-option : (given : GivenOption) (command : Text) → command_of_rows (finished the_rules (behind_option given (command ∷ [])).held) ≡ None
one_word-option (with_value (symbols f)) command = refl
one_word-option (with_value (steps n)) command = none-alone command n
one_word-option german command = refl

few-back : (front back : List Text) → are_few (front ++ back) ≡ true → are_few back ≡ true
few-back front back few = let sum = length-append front back in grind (arith, nat_tests)

few-front : (front back : List Text) → are_few (front ++ back) ≡ true → are_few front ≡ true
few-front front back few = let sum = length-append front back in grind (arith, nat_tests)

asked-behind : (few : Bool) (given : GivenOption) (front back : List Text) → are_values false back ≡ true → (few ≡ true → are_few (behind_first (front ++ back)) ≡ true)
    → asked_if few (behind_option given front) back ≡ asked_with (Some given) (front ++ back)
asked-behind few given [] back h short = asked-start few false (Some given) back h short
asked-behind few given (command ∷ []) [] h short =
    asked_if-none few (behind_option given (command ∷ [])) [] (one_word-option given command) ∙ one_word-asked (Some given) command
asked-behind few given (command ∷ file ∷ files) [] h short =
    asked_if-end few _ (λ _. no_end_fault-option given command file files) ∙ words-option given command file files
    ∙ ap (λ fs. asked_with (Some given) (command ∷ file ∷ fs)) (sym (append-nil files))
asked-behind few given (command ∷ front) (word ∷ words) h short =
    let first = and_parts (is_value false word) _ h in
    asked_if-next few _ _ word words (λ _. no_fault-next given (command ∷ front) word first.0) (walked-next given (command ∷ front) word first.0)
    ∙ asked-rest few false (with_given given (rows_at (command ∷ front))) word words first.1
    ∙ asked_if-end few _ (λ f. no_end_fault-behind given command front word words (few-back front (word ∷ words) (short f)))
    ∙ words-behind given command front word words

-- ---- the laws of words with an option

few-place : (front back : List Text) → are_few (behind_first (front ++ back)) ≡ true → are_few (behind_first front) ≡ true
few-place [] back few = refl
few-place (command ∷ front) back few = few-front front back few

values-parts : (front back : List Text) → are_values false (front ++ back) ≡ true → (are_values false front ≡ true) × (are_values false back ≡ true)
values-parts front back h = and_parts (are_values false front) _ (sym (list_all-append (is_value false) front back) ∙ h)

reads_apart : (given : OptionWithValue) (front back : List Text) → list_all is_plain_word (front ++ back) ≡ true → is_plain_word (value_of given) ≡ true
    → command_of (front ++ word_of given ∷ value_of given ∷ back) ≡ asked_with (Some (with_value given)) (front ++ back)
reads_apart given front back h value =
    let few = are_few (behind_first (front ++ back)) in
    let parts = values-parts front back h in
    command_of-asked few (front ++ word_of given ∷ value_of given ∷ back) _
    (asked-place few front (word_of given ∷ value_of given ∷ back) parts.0
    ∙ asked_if-next few _ _ (word_of given) (value_of given ∷ back) (λ f. no_fault-option given front (few-place front back f)) (walked-option given front)
    ∙ asked_if-next few _ _ (value_of given) back (λ _. no_fault-value given front value) (walked-value given front value)
    ∙ asked-value few given front back parts.1
    ∙ asked-behind few (with_value given) front back parts.1 (λ f. f))
    (many (front ++ back) (Some (with_value given)))

reads_joined : (given : OptionWithValue) (front back : List Text) → list_all is_plain_word (front ++ back) ≡ true
    → command_of (front ++ (word_of given ++ codes "=" ++ value_of given) ∷ back) ≡ asked_with (Some (with_value given)) (front ++ back)
reads_joined given front back h =
    let few = are_few (behind_first (front ++ back)) in
    let parts = values-parts front back h in
    let word = word_of given ++ codes "=" ++ value_of given in
    command_of-asked few (front ++ word ∷ back) _
    (asked-place few front (word ∷ back) parts.0
    ∙ asked_if-next few _ _ word back (λ f. no_fault-joined given front (few-place front back f)) (walked-joined given front)
    ∙ asked-behind few (with_value given) front back parts.1 (λ f. f))
    (many (front ++ back) (Some (with_value given)))

walked-german : (front : List Text) → walked the_rules [] (place front) (codes "--german") ≡ behind_option german front
unfolding walked
walked-german [] = refl
walked-german (command ∷ []) = refl
walked-german (command ∷ file ∷ files) = refl

no_fault-german : (front : List Text) → are_few (behind_first front) ≡ true → turn_fault the_shape [] (place front) (codes "--german") ≡ []
no_fault-german [] few = refl
no_fault-german (command ∷ []) few = refl
no_fault-german (command ∷ file ∷ files) few = rw (no_fault-files false (rows_at_files None command) file files few) refl

pub reads_german_anywhere : ReadsGermanAnywhere
reads_german_anywhere front back h =
    let few = are_few (behind_first (front ++ back)) in
    let parts = values-parts front back h in
    command_of-asked few (front ++ codes "--german" ∷ back) _
    (asked-place few front (codes "--german" ∷ back) parts.0
    ∙ asked_if-next few _ _ (codes "--german") back (λ f. no_fault-german front (few-place front back f)) (walked-german front)
    ∙ asked-behind few german front back parts.1 (λ f. f))
    (many (front ++ back) (Some german))

pub reads_symbols_anywhere : ReadsSymbolsAnywhere
reads_symbols_anywhere front back file h = (reads_apart (symbols file) front back h, reads_joined (symbols file) front back h)

pub reads_steps_anywhere : ReadsStepsAnywhere
reads_steps_anywhere front back number h = (reads_apart (steps number) front back h, reads_joined (steps number) front back h)

-- ---- an option with no value

-- a fault stays one, whatever is wrong before
broken-later : (first next end : Kinds) → is_empty (or_else next end) ≡ false → is_empty (or_else (or_else first next) end) ≡ false
broken-later [] next end h = h
broken-later (kind ∷ kinds) next end h = grind (arith, nat_tests)

broken-behind : (w : Walk) (front rest : List Text) → is_empty (fault_from (walk_on w front) rest) ≡ false → is_empty (fault_from w (front ++ rest)) ≡ false
unfolding walk_fault
broken-behind w [] rest h = h
broken-behind w (word ∷ words) rest h =
    broken-later (turn_fault the_shape [] w word) _ (end_fault (walk_on w (word ∷ (words ++ rest)))) (broken-behind (walked the_rules [] w word) words rest h)

walked-all : (behind : Bool) (rows : List Row) (file : Text) (files words : List Text) → are_values behind words ≡ true
    → walk_on (at_files behind rows (file ∷ files)) words ≡ at_files behind rows (file ∷ (files ++ words))
walked-all behind rows file files [] h = ap (λ fs. at_files behind rows (file ∷ fs)) (sym (append-nil files))
walked-all behind rows file files (word ∷ words) h =
    let each = and_parts (is_value behind word) _ h in
    ap (λ w. walk_on w words) (walked-further behind rows file files word each.0)
    ∙ walked-all behind rows file (files ++ word ∷ []) words each.1
    ∙ ap (λ fs. at_files behind rows (file ∷ fs)) (append_assoc files (word ∷ []) words)

walked-place : (front : List Text) → are_values false front ≡ true → walk_on (at_start false None) front ≡ place front
walked-place [] h = refl
walked-place (command ∷ []) h = walked-first false None command (and_parts (is_value false command) _ h).0
walked-place (command ∷ file ∷ files) h =
    let first = and_parts (is_value false command) _ h in
    let second = and_parts (is_value false file) _ first.1 in
    ap (λ w. walk_on w (file ∷ files)) (walked-first false None command first.0)
    ∙ ap (λ w. walk_on w files) (walked-second false None command file second.0)
    ∙ walked-all false (rows_at_files None command) file [] files second.1

broken-end : (given : OptionWithValue) (front : List Text) → is_empty (fault_from (at_option given front) []) ≡ false
unfolding walk_fault
broken-end (symbols f) front = refl
broken-end (steps n) front = refl

broken-option : (given : OptionWithValue) (front : List Text) → are_values false front ≡ true → is_empty (fault_from (at_start false None) (front ++ word_of given ∷ [])) ≡ false
broken-option given front h =
    broken-behind (at_start false None) front (word_of given ∷ [])
    (ap (λ w. is_empty (fault_from w (word_of given ∷ []))) (walked-place front h)
    ∙ broken-behind (place front) (word_of given ∷ []) [] (ap (λ w. is_empty (fault_from w [])) (walked-option given front) ∙ broken-end given front))

refuses_last : (given : OptionWithValue) (front : List Text) → list_all is_plain_word front ≡ true → command_of (front ++ word_of given ∷ []) ≡ None
refuses_last given front h = command_of-start (front ++ word_of given ∷ []) ∙ rw (broken-option given front h) refl

pub refuses_no_value : RefusesNoValue
refuses_no_value front h = (refuses_last (symbols []) front h, refuses_last (steps []) front h)
