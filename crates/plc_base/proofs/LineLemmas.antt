-- Lines at the front of a text.
use Rattle.std.proofs.Common.{◌≡◌, ℕ, ◌+◌, ◌-◌, ◌<◌, Bool, true, false, cond, eqb, not, List, [], ◌∷◌, length, take, drop, length-drop, drop-drop, refl, ap, sym, ◌∙◌, arith}
use Rattle.std.specs.List.{slice_split, onto_first, position_or_len}
use Rattle.std.specs.Str.Lines.{lines, lines_of_parts, strip_carriage_return}
use Rattle.std.proofs.lemmas.List.Splits.{slice_split_first}
use Rattle.std.proofs.lemmas.List.Sums.{prefix_len-le-length}
use Rattle.std.proofs.lemmas.Grind.{common_steps}

abbrev is_feed : ℕ → Bool
is_feed b = eqb b 10

-- where no element passes, there is one part
pub slice_split_whole : (p : ℕ → Bool) (xs : List ℕ) → position_or_len p xs ≡ length xs → slice_split p xs ≡ xs ∷ []
slice_split_whole p [] e = refl
slice_split_whole p (x ∷ xs) e =
    (elim (p x) as (λ v. p x ≡ v → cond (not v) (1 + position_or_len p xs) 0 ≡ length (x ∷ xs) → cond v ([] ∷ slice_split p xs) (onto_first x (slice_split p xs)) ≡ (x ∷ xs) ∷ []) [
      | true ↦ λ is e. absurd (omega arith)
      | false ↦ λ is e. rw (slice_split_whole p xs (omega arith)) refl
    ]) refl e

onto_first-more : (line : List ℕ) (b : ℕ) (parts : List (List ℕ)) → lines_of_parts (line ∷ onto_first b parts) ≡ strip_carriage_return line ∷ lines_of_parts (onto_first b parts)
onto_first-more line b [] = refl
onto_first-more line b (part ∷ parts) = refl

-- another part always follows a line feed
lines_of_parts-more : (p : ℕ → Bool) (line text : List ℕ) → lines_of_parts (line ∷ slice_split p text) ≡ strip_carriage_return line ∷ lines_of_parts (slice_split p text)
lines_of_parts-more p line [] = refl
lines_of_parts-more p line (b ∷ text) =
    elim (p b) as (λ v. lines_of_parts (line ∷ cond v ([] ∷ slice_split p text) (onto_first b (slice_split p text))) ≡ strip_carriage_return line ∷ lines_of_parts (cond v ([] ∷ slice_split p text) (onto_first b (slice_split p text))))
    [ true ↦ refl | false ↦ onto_first-more line b (slice_split p text) ]

-- a line that ends
pub lines-first : (text line rest : List ℕ) (n : ℕ) → n ≡ position_or_len is_feed text → line ≡ take n text → rest ≡ drop n text → 0 < length rest → lines text ≡ strip_carriage_return line ∷ lines (drop 1 rest)
lines-first text line rest n is front back more =
    let len : length rest ≡ length text - n = ap length back ∙ length-drop n text in
    let at : position_or_len is_feed text < length text = omega arith in
    let next : drop 1 rest ≡ drop (n + 1) text = grind (arith, common_steps, drop-drop {A = ℕ}) in
    let first : slice_split is_feed text ≡ line ∷ slice_split is_feed (drop 1 rest) = rw (front, next, is) (slice_split_first is_feed text 0 at) in
    ap lines_of_parts first ∙ lines_of_parts-more is_feed line (drop 1 rest)

line-alone : (text : List ℕ) → 0 < length text → lines_of_parts (text ∷ []) ≡ text ∷ []
line-alone [] some = absurd (omega arith)
line-alone (b ∷ text) some =
    let e : eqb (length (b ∷ text)) 0 ≡ false = grind (arith, common_steps) in
    ap (λ v. cond v [] ((b ∷ text) ∷ [])) e

-- a last line without an end
pub lines-last : (text line rest : List ℕ) (n : ℕ) → n ≡ position_or_len is_feed text → line ≡ take n text → rest ≡ drop n text → 0 < length text → length rest ≡ 0 → lines text ≡ line ∷ lines rest
lines-last text line [] n is front back some none =
    let len : 0 ≡ length text - n = ap length back ∙ length-drop n text in
    let at : position_or_len is_feed text ≡ length text = omega (arith, prefix_len-le-length (λ b. not (is_feed b)) text) in
    let all : line ≡ text = grind (arith, common_steps) in
    ap lines_of_parts (slice_split_whole is_feed text at) ∙ line-alone text some ∙ ap (λ x. x ∷ []) (sym all)
lines-last text line (b ∷ rest) n is front back some none = absurd (omega arith)
