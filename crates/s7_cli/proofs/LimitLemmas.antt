-- The numbers of a command, and how many scripts it has, are within their limits.
use Rattle.std.proofs.Common.{◌≡◌, ◌≢◌, ◌≤◌, true, sym, subst, ℕ, Bool, List, [], ◌∷◌, arith, codes, length, nat_le, nat_lt}
use Rattle.std.proofs.lemmas.Bool.{and_parts}
use Rattle.std.proofs.lemmas.Bool.Decides.{nat_tests}
use Rattle.std.proofs.lemmas.Slice.Eq.{bytes_eq-Decides}
use Rattle.std.specs.Prelude.{◌&&◌, not, Option, Some, None, IfSome, bytes_eq, unwrap_or}
use Rattle.clap.specs.Walk.{Row, is_empty}
use Rattle.clap.specs.Words.{all_of, fault_of, first_of, matches_of}
use Rattle.plc_base.specs.Decimal.{decimal_up_to, decimal_value, is_decimal}
use Rattle.stl_parser.proofs.OptionLemmas.{both, chain_holds, map_holds, none_holds, then_holds}
use Rattle.s7_cli.specs.Command.{Command, Gen, Live, Watch}
use Rattle.s7_cli.specs.Words.{the_line, file_command, has_german, number_from_one_up_to, one_word_command, takes_no_source, two_word_command, three_word_command, short_command, live_command_by, stepped_command, watch_command_by, command_with_options, command_of_rows, command_of, CommandsKeepLimits, KeepsLimits}

decimal-limit : (most : ℕ) (word : List ℕ) → IfSome (decimal_up_to most word) (λ n. n ≤ most)
unfolding decimal_up_to
decimal-limit most word =
    then_holds (is_decimal word && nat_le (decimal_value word) most) (Some (decimal_value word)) (λ n. n ≤ most)
    (λ h. let small = (and_parts (is_decimal word) _ h).1 in grind (arith, nat_tests))

number-limits : (most : ℕ) (word : List ℕ) → IfSome (number_from_one_up_to most word) (λ n. (1 ≤ n) × (n ≤ most))
number-limits most word =
    chain_holds (decimal_up_to most word) _ (λ n. n ≤ most) _ (decimal-limit most word)
    (λ n small. then_holds (nat_lt 0 n) (Some n) _ (λ above. let least : 1 ≤ n = grind (arith, nat_tests) in (least, small)))

one-limits : (command word : List ℕ) (symbols : Option (List ℕ)) (german : Bool) → IfSome (one_word_command command word symbols german) KeepsLimits
one-limits command word symbols german =
    both (bytes_eq command (codes "check")) _ _ KeepsLimits tt
    (then_holds (bytes_eq command (codes "gen") && takes_no_source symbols german) _ KeepsLimits
    (λ _. map_holds (number_from_one_up_to 10000 word) Gen _ KeepsLimits (number-limits 10000 word) (λ n h. h)))

file-limits : (command first second : List ℕ) → IfSome (file_command command first second) KeepsLimits
file-limits command first second =
    both (bytes_eq command (codes "run")) _ _ KeepsLimits tt
    (both (bytes_eq command (codes "upgrade")) _ _ KeepsLimits tt
    (both (bytes_eq command (codes "bound")) _ _ KeepsLimits tt
    (both (bytes_eq command (codes "recheck")) _ _ KeepsLimits tt
    (both (bytes_eq command (codes "english")) _ _ KeepsLimits tt
    (then_holds (bytes_eq command (codes "german")) _ KeepsLimits (λ _. tt))))))

two-limits : (command first second : List ℕ) (symbols : Option (List ℕ)) (german : Bool)
    → IfSome (two_word_command command first second symbols german) KeepsLimits
two-limits command first second symbols german =
    both (bytes_eq command (codes "go")) _ _ KeepsLimits tt
    (both (bytes_eq command (codes "compile")) _ _ KeepsLimits tt
    (then_holds (takes_no_source symbols german) _ KeepsLimits (λ _. file-limits command first second)))

-- different words are different files
apart : (one other : List ℕ) → not (bytes_eq one other) ≡ true → one ≢ other
apart one other differ same = let is : bytes_eq one other ≡ true = (bytes_eq-Decides one other).1 same in grind (arith, nat_tests)

three-limits : (command first second third : List ℕ) (symbols : Option (List ℕ)) (german : Bool)
    → IfSome (three_word_command command first second third symbols german) KeepsLimits
three-limits command first second third symbols german =
    then_holds (bytes_eq command (codes "list") && takes_no_source symbols german && not (bytes_eq second third)) _ KeepsLimits
    (λ h. apart second third (and_parts (bytes_eq command (codes "list") && takes_no_source symbols german) _ h).1)

short-limits : (command : List ℕ) (words : List (List ℕ)) (symbols : Option (List ℕ)) (german : Bool)
    → IfSome (short_command command words symbols german) KeepsLimits
short-limits command [] symbols german = tt
short-limits command (word ∷ []) symbols german = one-limits command word symbols german
short-limits command (first ∷ second ∷ []) symbols german = two-limits command first second symbols german
short-limits command (first ∷ second ∷ third ∷ []) symbols german = three-limits command first second third symbols german
short-limits command (first ∷ second ∷ third ∷ fourth ∷ more) symbols german = tt

live-limits : (command : List ℕ) (words : List (List ℕ)) (steps : List ℕ) → IfSome (live_command_by command words steps) KeepsLimits
live-limits command [] steps = tt
live-limits command (image ∷ []) steps = tt
live-limits command (image ∷ stimuli ∷ []) steps = tt
live-limits command (image ∷ stimuli ∷ script ∷ scripts) steps =
    then_holds (bytes_eq command (codes "live") && nat_le (length scripts) 3) _ KeepsLimits
    (λ h. let few = (and_parts (bytes_eq command (codes "live")) _ h).1 in
    let some : 1 ≤ length (script ∷ scripts) = grind (arith, nat_tests) in
    let most : length (script ∷ scripts) ≤ 4 = grind (arith, nat_tests) in
    map_holds (number_from_one_up_to 1000000 steps) (Live image stimuli (script ∷ scripts)) _ KeepsLimits (number-limits 1000000 steps) (λ n within. (some, most, within.0, within.1)))

watch-limits : (words : List (List ℕ)) (steps : List ℕ) → IfSome (watch_command_by words steps) KeepsLimits
watch-limits [] steps = tt
watch-limits (image ∷ []) steps = tt
watch-limits (image ∷ stimuli ∷ []) steps = tt
watch-limits (image ∷ stimuli ∷ vars ∷ []) steps = tt
watch-limits (image ∷ stimuli ∷ vars ∷ script ∷ scripts) steps =
    then_holds (nat_le (length scripts) 2) _ KeepsLimits
    (λ h. let some : 1 ≤ length (script ∷ scripts) = grind (arith, nat_tests) in
    let most : length (script ∷ scripts) ≤ 3 = grind (arith, nat_tests) in
    map_holds (number_from_one_up_to 1000000 steps) (Watch image stimuli vars (script ∷ scripts)) _ KeepsLimits (number-limits 1000000 steps) (λ n within. (some, most, within.0, within.1)))

stepped-limits : (command : List ℕ) (words : List (List ℕ)) (steps : List ℕ) → IfSome (stepped_command command words steps) KeepsLimits
stepped-limits command words steps = both (bytes_eq command (codes "watch")) _ _ KeepsLimits (watch-limits words steps) (live-limits command words steps)

asked-limits : (command : List ℕ) (words : List (List ℕ)) (symbols : Option (List ℕ)) (german : Bool) (steps : Option (List ℕ))
    → IfSome (command_with_options command words symbols german steps) KeepsLimits
asked-limits command words symbols german None = short-limits command words symbols german
asked-limits command words symbols german (Some steps) =
    then_holds (takes_no_source symbols german) _ KeepsLimits (λ _. stepped-limits command words steps)

found-limits : (found : List Row) → IfSome (command_of_rows found) KeepsLimits
found-limits found =
    chain_holds (first_of (codes "COMMAND") found) _ (λ command. Unit {0}) KeepsLimits (none_holds (first_of (codes "COMMAND") found))
    (λ command _. asked-limits command (unwrap_or (all_of (codes "FILES") found) []) (first_of (codes "symbols") found) (has_german found) (first_of (codes "steps") found))

pub commands_keep_limits : CommandsKeepLimits
unfolding command_of
commands_keep_limits words = then_holds (is_empty (fault_of the_line words)) (command_of_rows (matches_of the_line words)) KeepsLimits (λ _. found-limits (matches_of the_line words))

-- a command that was read is within its limits
pub read-limits : (words : List (List ℕ)) (k : Command) → Some k ≡ command_of words → KeepsLimits k
read-limits words k is = subst (λ (o : Option Command). IfSome o KeepsLimits) (sym is) (commands_keep_limits words)
