-- What clap found in the words, and the command that they ask for.
use Rattle.std.proofs.Common.{◌≡◌, ◌≢◌, ℕ, Bool, List, [], ◌∷◌, map, false, codes, refl, ap, sym, ◌∙◌, inl, inr, arith, if◌then◌else◌}
use Rattle.std.proofs.lemmas.Bool.Decides.{nat_tests}
use Rattle.std.specs.Prelude.{Option, Some, None, option_map, unwrap_or}
use Rattle.std.specs.Borrow.{Bor}
use Rattle.clap.specs.Kinds.{Kinds, IsAmong, HasKind}
use Rattle.clap.specs.Walk.{Row, is_empty}
use Rattle.clap.specs.Words.{all_of, fault_of, first_of, kind_of, matches_of}
use Rattle.clap.specs.declared.error.Error.{Error}
use Rattle.clap.specs.declared.error.kind.ErrorKind.{ErrorKind}
use Rattle.clap.specs.declared.error.kind.ErrorKind.TheVariants.{OutOfMemory}
use Rattle.s7_cli.specs.Command.{Command}
use Rattle.s7_cli.specs.Words.{the_line, command_with_options, command_of_rows, command_of, has_german}

-- the words that were found, one by one
pub command_of_rows-is : (rows : List Row) (command : List ℕ) (files : List (List ℕ)) (symbols : Option (List ℕ)) (german : Bool) (steps : Option (List ℕ))
    → Some command ≡ first_of (codes "COMMAND") rows → files ≡ unwrap_or (all_of (codes "FILES") rows) []
    → symbols ≡ first_of (codes "symbols") rows → german ≡ has_german rows → steps ≡ first_of (codes "steps") rows
    → command_with_options command files symbols german steps ≡ command_of_rows rows
command_of_rows-is rows command files symbols german steps e f g h i = rw (← e, f, g, h, i) refl

pub command_of_rows-none : (rows : List Row) → None ≡ first_of (codes "COMMAND") rows → None ≡ command_of_rows rows
command_of_rows-none rows e = rw (← e) refl

-- a list of words that is empty where clap has none
pub words_or_none : (found : Option (Bor (List (Bor (List ℕ))))) (none : Bor (List (Bor (List ℕ)))) → none.now ≡ []
    → map (λ word. word.now) (unwrap_or found none).now ≡ unwrap_or (option_map (λ words. map (λ word. word.now) words.now) found) []
words_or_none None none e = ap (map (λ word. word.now)) e
words_or_none (Some words) none e = refl

-- clap takes the words
pub command_of-found : (words : List (List ℕ)) (rows : List Row) → fault_of the_line words ≡ [] → rows ≡ matches_of the_line words
    → command_of_rows rows ≡ command_of words
unfolding command_of
command_of-found words rows none is = ap command_of_rows is ∙ sym (ap (λ (kinds : Kinds). if is_empty kinds then command_of_rows (matches_of the_line words) else None) none)

refused_by : (kind : ErrorKind) (kinds : Kinds) (taken : Option Command) → IsAmong kind kinds → None ≡ (if is_empty kinds then taken else None)
refused_by kind [] taken h = absurd h
refused_by kind (k ∷ kinds) taken h = let some : is_empty (k ∷ kinds) ≡ false = grind (arith, nat_tests) in rw some refl

-- clap refuses the words for another cause than memory
pub command_of-refused : (words : List (List ℕ)) (error : Error) → kind_of error ≢ OutOfMemory → HasKind (fault_of the_line words) error
    → None ≡ command_of words
unfolding command_of
command_of-refused words error other has =
    elim has [ inl h ↦ absurd (other h) | inr h ↦ refused_by (kind_of error) (fault_of the_line words) (command_of_rows (matches_of the_line words)) h ]
