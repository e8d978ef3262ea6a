-- What the parser's tables have beside a word goes by no case.
use Rattle.std.proofs.Common.{◌≡◌, ℕ, true, List, [], ◌∷◌, find, Option, refl, ap}
use Rattle.std.specs.Option.{option_map}
use Rattle.std.specs.Str.{str_eq_ignore_ascii_case}
use Rattle.stl_parser.specs.Tables.{look_up}
use Rattle.de_mnemonics.proofs.CaseLemmas.{same_text}

-- the entry of a table
pub same_found : {X : Type 0} (table : List (List ℕ × X)) (a b : List ℕ) → str_eq_ignore_ascii_case a b ≡ true
    → find (λ e. str_eq_ignore_ascii_case a e.0) table ≡ find (λ e. str_eq_ignore_ascii_case b e.0) table
same_found [] a b e = refl
same_found (x ∷ xs) a b e = rw (same_text a b x.0 e, same_found xs a b e) refl

pub same_looked_up : {X : Type 0} (table : List (List ℕ × X)) (a b : List ℕ) → str_eq_ignore_ascii_case a b ≡ true
    → look_up table a ≡ look_up table b
unfolding look_up
same_looked_up {X} table a b e = ap (λ (o : Option (List ℕ × X)). option_map (λ p. p.1) o) (same_found table a b e)
