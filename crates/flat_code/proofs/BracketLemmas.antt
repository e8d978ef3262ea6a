-- Brackets and zones that are open behind an op: the codes of the brackets and the number of the zones
-- come of those before it and its code alone.
use Rattle.std.proofs.Common.{◌≡◌, ℕ, zero, suc, ◌+◌, ◌-◌, Bool, true, false, if◌then◌else◌, List, [], ◌∷◌, ◌++◌, length, length-append, take, Option, Some, None, refl, sym, ap, ◌∙◌, arith}
use Rattle.std.specs.Prelude.{nat_eq, nat_le, ◌==◌}
use Rattle.std.proofs.lemmas.Bool.{ne_eqb}
use Rattle.std.proofs.lemmas.List.{length-take-le}
use Rattle.flat_code.specs.Blocks.{bracket_fault, zone_fault}
use Rattle.flat_code.specs.PlacedOps.{bracket_codes, codes_of_few_brackets, outer_brackets, is_empty_list, brackets_after, is_opening, zones_behind_op}
use Rattle.flat_code.specs.declared.image_fields.OpenBracket.{OpenBracket}

-- ---- the codes of open brackets

abbrev pub codes_behind : (code : ℕ) → List ℕ → List ℕ
codes_behind code codes =
    if is_opening code then codes ++ code ∷ []
    else if code == 0x1E then take (length codes - 1) codes
    else codes

abbrev pub few_codes : List ℕ → Option (List ℕ)
few_codes codes = if nat_le (length codes) 7 then Some codes else None

abbrev pub codes_fault : (code : ℕ) → List ℕ → Option ℕ
codes_fault code codes =
    if is_opening code then (if nat_le 7 (length codes) then Some 8 else None)
    else if code == 0x1E then (if is_empty_list codes then Some 8 else None)
    else None

codes_count : (bs : List OpenBracket) → length (bracket_codes bs) ≡ length bs
codes_count [] = refl
codes_count (b ∷ bs) = ap suc (codes_count bs)

codes_append : (xs ys : List OpenBracket)
    → bracket_codes (xs ++ ys) ≡ bracket_codes xs ++ bracket_codes ys
codes_append [] ys = refl
codes_append (x ∷ xs) ys = ap (λ (z : List ℕ). x.code ∷ z) (codes_append xs ys)

codes_take : (n : ℕ) (bs : List OpenBracket) → bracket_codes (take n bs) ≡ take n (bracket_codes bs)
codes_take zero bs = refl
codes_take (suc n) [] = refl
codes_take (suc n) (b ∷ bs) = ap (λ (z : List ℕ). b.code ∷ z) (codes_take n bs)

codes_inner : (bs : List OpenBracket)
    → bracket_codes (outer_brackets bs) ≡ take (length (bracket_codes bs) - 1) (bracket_codes bs)
codes_inner bs =
    codes_take (length bs - 1) bs
    ∙ ap (λ (k : ℕ). take (k - 1) (bracket_codes bs)) (sym (codes_count bs))

pub codes_opened : (at code : ℕ) (bs : List OpenBracket)
    → bracket_codes (brackets_after at code bs) ≡ codes_behind code (bracket_codes bs)
codes_opened at code bs = by (is_opening code) (code == 0x1E)
  where
    by : (o c : Bool)
        → bracket_codes (if o then bs ++ record { at = at; code = code } ∷ [] else if c then outer_brackets bs else bs)
        ≡ (if o then bracket_codes bs ++ code ∷ []
        else if c then take (length (bracket_codes bs) - 1) (bracket_codes bs)
        else bracket_codes bs)
    by true c = codes_append bs (record { at = at; code = code } ∷ [])
    by false true = codes_inner bs
    by false false = refl

pub few_is : (bs : List OpenBracket) → codes_of_few_brackets bs ≡ few_codes (bracket_codes bs)
few_is bs =
    ap (λ (k : ℕ). if nat_le k 7 then Some (bracket_codes bs) else None) (sym (codes_count bs))

none_open : (bs : List OpenBracket) → is_empty_list bs ≡ is_empty_list (bracket_codes bs)
none_open [] = refl
none_open (b ∷ bs) = refl

abbrev fault_by : (code count : ℕ) → (none : Bool) → Option ℕ
fault_by code count none =
    if is_opening code then (if nat_le 7 count then Some 8 else None)
    else if code == 0x1E then (if none then Some 8 else None)
    else None

pub fault_is : (code : ℕ) (bs : List OpenBracket)
    → bracket_fault code bs ≡ codes_fault code (bracket_codes bs)
fault_is code bs =
    ap (λ (k : ℕ). fault_by code k (is_empty_list bs)) (sym (codes_count bs))
    ∙ ap (fault_by code (length (bracket_codes bs))) (none_open bs)

pub none_left : (bs : List OpenBracket) → bracket_codes bs ≡ [] → bs ≡ []
none_left [] e = refl
none_left (b ∷ bs) e = absurd cc

-- ---- how many zones are open

abbrev pub count_behind : (code count : ℕ) → ℕ
count_behind code count =
    if code == 0x07 then suc count else if code == 0x08 then count - 1 else count

abbrev pub count_fault : (code count : ℕ) → Option ℕ
count_fault code count =
    if code == 0x07 then (if nat_le 8 count then Some 8 else None)
    else if code == 0x08 then (if nat_eq count 0 then Some 8 else None)
    else None

pub count_opened : (at : ℕ) (zones : List ℕ) → length (zones ++ at ∷ []) ≡ suc (length zones)
count_opened at zones = let all = length-append zones (at ∷ []) in omega (arith, all)

pub count_ended : (zones : List ℕ) → length (take (length zones - 1) zones) ≡ length zones - 1
count_ended zones = length-take-le (length zones - 1) zones (omega arith)

pub count_is : (at code : ℕ) (zones : List ℕ)
    → length (zones_behind_op at code zones) ≡ count_behind code (length zones)
count_is at code zones = by (code == 0x07) (code == 0x08)
  where
    by : (o c : Bool)
        → length (if o then zones ++ at ∷ []
        else if c then take (length zones - 1) zones
        else zones)
        ≡ (if o then suc (length zones) else if c then length zones - 1 else length zones)
    by true c = count_opened at zones
    by false true = count_ended zones
    by false false = refl

no_zone : (zones : List ℕ) → is_empty_list zones ≡ nat_eq (length zones) 0
no_zone [] = refl
no_zone (at ∷ zones) = sym (ne_eqb (suc (length zones)) 0 (λ e. omega (arith, e)))

pub zone_fault_is : (code : ℕ) (zones : List ℕ)
    → zone_fault code zones ≡ count_fault code (length zones)
zone_fault_is code zones =
    ap (λ (none : Bool). if code == 0x07 then (if nat_le 8 (length zones) then Some 8 else None)
    else if code == 0x08 then (if none then Some 8 else None)
    else None) (no_zone zones)

pub no_zones : (zones : List ℕ) → length zones ≡ 0 → zones ≡ []
no_zones [] e = refl
no_zones (at ∷ zones) e = absurd (omega (arith, e))
