-- Parts of a text between points, and between commas.
use Rattle.std.proofs.Common.{◌≡◌, ℕ, suc, ◌+◌, ◌-◌, ◌<◌, Bool, true, false, not, ◌&&◌, List, [], ◌∷◌, length, take, drop, if◌then◌else◌, length-drop, drop-drop, Err, refl, ap, sym, ◌∙◌, arith}
use Rattle.std.specs.List.{slice_split, onto_first, position_or_len}
use Rattle.std.proofs.lemmas.List.Splits.{length-slice_split, slice_split_first}
use Rattle.std.proofs.lemmas.List.Sums.{prefix_len-le-length}
use Rattle.std.proofs.lemmas.Grind.{common_steps}
use Rattle.plc_base.proofs.LineLemmas.{slice_split_whole}
use Rattle.var_access.specs.Requests.{is_comma, part_len, comma_parts}
use Rattle.var_access.specs.Variables.{is_point, is_quote, var_of_parts}

-- a part that a further one follows
pub split_first : (text part rest : List ℕ) (n : ℕ) → n ≡ position_or_len is_point text → part ≡ take n text
    → rest ≡ drop n text → 0 < length rest → slice_split is_point text ≡ part ∷ slice_split is_point (drop 1 rest)
split_first text part rest n is front back more =
    let len : length rest ≡ length text - n = ap length back ∙ length-drop n text in
    let at : position_or_len is_point text < length text = omega arith in
    let next : drop 1 rest ≡ drop (n + 1) text = grind (arith, common_steps, drop-drop {A = ℕ}) in
    rw (front, next, is) (slice_split_first is_point text 0 at)

-- the last part
pub split_last : (text part rest : List ℕ) (n : ℕ) → n ≡ position_or_len is_point text → part ≡ take n text
    → rest ≡ drop n text → length rest ≡ 0 → slice_split is_point text ≡ part ∷ []
split_last text part rest n is front back none =
    let len : 0 ≡ length text - n = sym none ∙ ap length back ∙ length-drop n text in
    let at : position_or_len is_point text ≡ length text = omega (arith, prefix_len-le-length (λ b. not (is_point b)) text) in
    let all : part ≡ text = grind (arith, common_steps) in
    slice_split_whole is_point text at ∙ ap (λ x. x ∷ []) (sym all)

four_parts : (a b c : List ℕ) (more : List (List ℕ)) → 0 < length more → var_of_parts (a ∷ b ∷ c ∷ more) ≡ Err 1
four_parts a b c [] some = absurd (omega arith)
four_parts a b c (d ∷ more) some = refl

-- no variable has three points
pub many_parts : (a b c text : List ℕ) → var_of_parts (a ∷ b ∷ c ∷ slice_split is_point text) ≡ Err 1
many_parts a b c text = four_parts a b c (slice_split is_point text) (omega (arith, length-slice_split is_point text))

-- ---- commas outside of quotes

-- the parts behind a comma
abbrev parts_behind : List ℕ → List (List ℕ)
parts_behind [] = []
parts_behind (comma ∷ rest) = comma_parts false rest

parts_at : (quoted : Bool) (text : List ℕ)
    → comma_parts quoted text ≡ take (part_len quoted text) text ∷ parts_behind (drop (part_len quoted text) text)
parts_at quoted [] = refl
parts_at quoted (b ∷ t) = by (λ q. ap (onto_first b) (parts_at q t)) (is_quote b) (is_comma b) quoted
  where
    by : ((q : Bool) → onto_first b (comma_parts q t) ≡ take (suc (part_len q t)) (b ∷ t) ∷ parts_behind (drop (suc (part_len q t)) (b ∷ t)))
        → (quote comma quoted : Bool)
        → (if quote then onto_first b (comma_parts (not quoted) t) else if comma && not quoted then [] ∷ comma_parts quoted t else onto_first b (comma_parts quoted t))
        ≡ take (if quote then suc (part_len (not quoted) t) else if comma && not quoted then 0 else suc (part_len quoted t)) (b ∷ t)
        ∷ parts_behind (drop (if quote then suc (part_len (not quoted) t) else if comma && not quoted then 0 else suc (part_len quoted t)) (b ∷ t))
    by more true comma quoted = more (not quoted)
    by more false true false = refl
    by more false true true = more true
    by more false false quoted = more quoted

parts_are : (text part rest : List ℕ) (n : ℕ) → n ≡ part_len false text → part ≡ take n text → rest ≡ drop n text
    → comma_parts false text ≡ part ∷ parts_behind rest
parts_are text part rest n is front back = parts_at false text ∙ rw (front, back, is) refl

-- a part that a further one follows
pub part_first : (text part rest : List ℕ) (n : ℕ) → n ≡ part_len false text → part ≡ take n text → rest ≡ drop n text
    → 0 < length rest → comma_parts false text ≡ part ∷ comma_parts false (drop 1 rest)
part_first text part [] n is front back more = absurd (omega arith)
part_first text part (comma ∷ rest) n is front back more = parts_are text part (comma ∷ rest) n is front back

-- the last part
pub part_last : (text part rest : List ℕ) (n : ℕ) → n ≡ part_len false text → part ≡ take n text → rest ≡ drop n text
    → length rest ≡ 0 → comma_parts false text ≡ part ∷ []
part_last text part [] n is front back none = parts_are text part [] n is front back
part_last text part (comma ∷ rest) n is front back none = absurd (omega (arith, none))

-- there is a part at least
pub parts_some : (text : List ℕ) → 0 < length (comma_parts false text)
parts_some text = rw (parts_at false text) (omega arith)
