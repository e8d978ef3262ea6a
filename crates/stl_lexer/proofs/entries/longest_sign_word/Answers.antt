use Rattle.std.proofs.Common.{◌≡◌, ℕ, Bor, List, [], None, map, length, sym, ◌∙◌, ap}
use Rattle.std.proofs.lemmas.Bool.{eqb-true}
use Rattle.std.proofs.lemmas.List.{nil_from_length}
use Rattle.stl_lexer.specs.declared.tables.Tail.TheVariants.{Apart}
use Rattle.stl_lexer.specs.Forms.{entries_from, first_letter, sign_words}
use Rattle.stl_lexer.proofs.EntryLemmas.{found_from, listed_none, words_some}
use Rattle.stl_lexer.proofs.MarkLemmas.{one_equals}
use Rattle.stl_lexer.proofs.entries.longest_sign_word.Goals as goal

pub returns : goal.returns
returns c = found_from Apart sign_words (map (λ entry. entry.now) c.sign_words_from-words.result.now) c.args.text.now c.longest_entry.result words_some (c.sign_words_from-words.ensures.value ∙ ap (λ letter. entries_from letter sign_words) c.first_letter-letter.ensures) c.longest_entry.ensures

pub returns-then-second_byte-ne61 : goal.returns-then-second_byte-ne61
returns-then-second_byte-ne61 c = one_equals c.args.text.now (sym c.first_letter-letter.ensures ∙ c.if-letter-eq61.true) (λ e. c.if-second_byte-ne61.true (c.second_byte.ensures ∙ e))

pub returns-then-is_empty : goal.returns-then-is_empty
returns-then-is_empty c =
    let table : List (Bor (List ℕ)) = c.sign_words_from-words.result.now in
    let none : table ≡ [] = nil_from_length table (eqb-true (length table) 0 (sym c.is_empty.ensures ∙ c.if-is_empty.true)) in
    let entries : [] ≡ entries_from (first_letter c.args.text.now) sign_words =
    sym (ap (λ (t : List (Bor (List ℕ))). map (λ (entry : Bor (List ℕ)). entry.now) t) none) ∙ c.sign_words_from-words.ensures.value ∙ ap (λ letter. entries_from letter sign_words) c.first_letter-letter.ensures in
    found_from Apart sign_words [] c.args.text.now None words_some entries (listed_none Apart c.args.text.now)
