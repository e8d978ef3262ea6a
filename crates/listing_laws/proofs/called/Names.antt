-- Names of the parameters of called blocks.
use Rattle.std.proofs.Common.{◌≡◌, ◌⊎◌, inl, inr, ℕ, zero, suc, ◌+◌, ◌<◌, Bool, true, false, ◌&&◌, nat_eq, List, [], ◌∷◌, length, drop, decimal, bytes_eq, Option, Some, None, slice_get, refl, sym, ap, ap₂, subst, ◌∙◌, arith, if◌then◌else◌, eq-eqb, ne_eqb}
use Rattle.std.specs.Prelude.{◌==◌}
use Rattle.std.specs.Char.{is_ascii_digit, to_ascii_uppercase}
use Rattle.std.specs.List.{AllByRecursion, list_all}
use Rattle.std.proofs.lemmas.Bool.{and_parts, false_from_ne_true}
use Rattle.std.proofs.lemmas.Bool.Decides.{nat_tests}
use Rattle.std.proofs.lemmas.Fmt.{decimal_injective}
use Rattle.std.proofs.lemmas.Option.{same_Some, slice_get_within}
use Rattle.std.proofs.lemmas.Slice.Eq.{bytes_eq-Decides}
use Rattle.plc_base.specs.Folding.{upper_case_name}
use Rattle.flat_code.specs.Records.{section_out}
use Rattle.flat_code.specs.declared.programs.Param.{Param}
use Rattle.stl_ast.specs.declared.declarations.Simple.TheVariants as simple
use Rattle.stl_types.specs.Parameters.{dtime_formal, mode_formal, ob_nr_formal, return_value_formal, sign_formal, system_formals}
use Rattle.stl_types.specs.declared.parameters.Formal.{Formal}
use Rattle.stl_list.specs.JoinedParameters.{PassingChains}
use Rattle.stl_list.specs.Parameters.{name_of, parameter_name, return_name}
use Rattle.stl_list.specs.Signatures.{formals_from, is_behind}
use Rattle.print_laws.proofs.lexing.Numerals.{numeral}
use Rattle.listing_laws.specs.ParameterNames.{AreOwnNamesApart, AreSystemNamesApart, ReturnsLast}
use Rattle.listing_laws.specs.Passings.{AreNamedApart}

-- ---- names by numbers

digits_stay : (text : List ℕ) → list_all is_ascii_digit text ≡ true → upper_case_name text ≡ text
digits_stay [] h = refl
digits_stay (b ∷ text) h =
    let parts = and_parts (is_ascii_digit b) (list_all is_ascii_digit text) h in
    ap₂ (λ (x : ℕ) (xs : List ℕ). x ∷ xs) (stays b parts.0) (digits_stay text parts.1)
  where
    stays : (b : ℕ) → is_ascii_digit b ≡ true → to_ascii_uppercase b ≡ b
    stays b e = grind (arith, nat_tests)

folded_name : (n : ℕ) → n < 18446744073709551616 → upper_case_name (parameter_name n) ≡ 80 ∷ decimal n
folded_name n h = ap (λ (xs : List ℕ). 80 ∷ xs) (digits_stay (decimal n) (numeral n h).digits)

itself : (xs : List ℕ) → bytes_eq xs xs ≡ true
itself xs = (bytes_eq-Decides xs xs).1 refl

other : (xs ys : List ℕ) → (xs ≡ ys → ⊥) → bytes_eq xs ys ≡ false
other xs ys apart = false_from_ne_true (bytes_eq xs ys) (λ e. apart ((bytes_eq-Decides xs ys).0 e))

numbers_apart : (m n : ℕ) → m < 18446744073709551616 → n < 18446744073709551616
    → bytes_eq (upper_case_name (parameter_name m)) (upper_case_name (parameter_name n)) ≡ (m == n)
numbers_apart m n h k = ap₂ bytes_eq (folded_name m h) (folded_name n k) ∙ by (m == n) refl
  where
    by : (t : Bool) → (m == n) ≡ t → bytes_eq (80 ∷ decimal m) (80 ∷ decimal n) ≡ t
    by true e = let same : m ≡ n = grind (arith, nat_tests) in ap (λ (k : ℕ). bytes_eq (80 ∷ decimal m) (80 ∷ decimal k)) (sym same) ∙ itself (80 ∷ decimal m)
    by false e =
        other (80 ∷ decimal m) (80 ∷ decimal n)
        (λ same. let equal : m ≡ n = decimal_injective m n h k (ap (drop 1) same) in let yes = eq-eqb m n equal in absurd cc)

return_apart : (n : ℕ) → bytes_eq (upper_case_name (parameter_name n)) (upper_case_name return_name) ≡ false
return_apart n = refl

return_other : (n : ℕ) → bytes_eq (upper_case_name return_name) (upper_case_name (parameter_name n)) ≡ false
return_other n = refl

-- ---- the parameters of a block

-- the name at an index, of so many
abbrev NameAt : (length index : ℕ) → List ℕ → Type 0
NameAt size index name = (name ≡ parameter_name index) ⊎ ((name ≡ return_name) × (suc index ≡ size))

name_is : (c : PassingChains) (back behind : Bool) (index first : ℕ) (ps : List Param) → ReturnsLast back behind ps
    → (i : ℕ) (f : Formal) → slice_get (formals_from c back behind index first ps) i ≡ Some f → NameAt (index + length ps) (index + i) f.name
name_is c back behind index first [] h i f e = absurd cc
name_is c back behind index first (p ∷ ps) h zero f e =
    subst (λ (g : Formal). NameAt (index + length (p ∷ ps)) (index + 0) g.name) (same_Some _ f e) (by (behind && p.section == section_out) h.0)
  where
    at : index ≡ index + 0
    at = omega arith

    last : (xs : List Param) → xs ≡ [] → suc (index + 0) ≡ index + length (p ∷ xs)
    last [] e = omega arith
    last (x ∷ xs) e = absurd cc

    by : (t : Bool) → (t ≡ true → ps ≡ []) → NameAt (index + length (p ∷ ps)) (index + 0) (name_of t index)
    by true k = inr (refl, last ps (k refl))
    by false k = inl (ap parameter_name at)
name_is c back behind index first (p ∷ ps) h (suc i) f e =
    subst (λ (n : ℕ). NameAt n (index + suc i) f.name) size
    (subst (λ (n : ℕ). NameAt (suc index + length ps) n f.name) at
    (name_is c back (is_behind back behind p) (suc index) (suc first) ps h.1 i f e))
  where
    at : suc index + i ≡ index + suc i
    at = omega arith

    size : suc index + length ps ≡ index + length (p ∷ ps)
    size = omega arith

formals_long : (c : PassingChains) (back behind : Bool) (index first : ℕ) (ps : List Param) → length (formals_from c back behind index first ps) ≡ length ps
formals_long c back behind index first [] = refl
formals_long c back behind index first (p ∷ ps) = ap suc (formals_long c back (is_behind back behind p) (suc index) (suc first) ps)

pub own_names_apart : AreOwnNamesApart
own_names_apart c back first ps few h i j f g e k =
    by (name_is c back false 0 first ps h i f e) (name_is c back false 0 first ps h j g k)
  where
    formals : List Formal
    formals = formals_from c back false 0 first ps

    low_i : 0 + i < 18446744073709551616
    low_i = let within = slice_get_within (formals_from c back false 0 first ps) i f e in let long = formals_long c back false 0 first ps in omega (arith, within, long, few)

    low_j : 0 + j < 18446744073709551616
    low_j = let within = slice_get_within (formals_from c back false 0 first ps) j g k in let long = formals_long c back false 0 first ps in omega (arith, within, long, few)

    no_return : (n : ℕ) → parameter_name n ≡ return_name → ⊥
    no_return n same = let no = return_apart n in let yes = ap (λ (x : List ℕ). bytes_eq (upper_case_name x) (upper_case_name return_name)) same ∙ itself (upper_case_name return_name) in absurd cc

    one : i ≡ j → f ≡ g
    one same = same_Some f g (sym e ∙ ap (slice_get (formals_from c back false 0 first ps)) same ∙ k)

    plain : (0 + i == 0 + j) ≡ (i == j)
    plain = let a : 0 + i ≡ i = omega arith in let b : 0 + j ≡ j = omega arith in ap₂ (λ (x y : ℕ). x == y) a b

    by : NameAt (0 + length ps) (0 + i) f.name → NameAt (0 + length ps) (0 + j) g.name → bytes_eq (upper_case_name f.name) (upper_case_name g.name) ≡ (i == j)
    by (inl a) (inl b) = ap₂ (λ (x y : List ℕ). bytes_eq (upper_case_name x) (upper_case_name y)) a b ∙ numbers_apart (0 + i) (0 + j) low_i low_j ∙ plain
    by (inl a) (inr b) =
        ap₂ (λ (x y : List ℕ). bytes_eq (upper_case_name x) (upper_case_name y)) a b.0 ∙ return_apart (0 + i)
        ∙ sym (ne_eqb i j (λ same. no_return (0 + i) (sym a ∙ ap (λ (z : Formal). z.name) (one same) ∙ b.0)))
    by (inr a) (inl b) =
        ap₂ (λ (x y : List ℕ). bytes_eq (upper_case_name x) (upper_case_name y)) a.0 b ∙ return_other (0 + j)
        ∙ sym (ne_eqb i j (λ same. no_return (0 + j) (sym b ∙ ap (λ (z : Formal). z.name) (sym (one same)) ∙ a.0)))
    by (inr a) (inr b) =
        let first = a.1 in
        let second = b.1 in
        let same : i ≡ j = omega (arith, first, second) in
        ap₂ (λ (x y : List ℕ). bytes_eq (upper_case_name x) (upper_case_name y)) a.0 b.0 ∙ itself (upper_case_name return_name) ∙ sym (eq-eqb i j same)

-- ---- system functions

abbrev AreOthers : Formal → List Formal → Type 0
AreOthers f fs = AllByRecursion (λ (g : Formal). (bytes_eq (upper_case_name f.name) (upper_case_name g.name) ≡ false) × (bytes_eq (upper_case_name g.name) (upper_case_name f.name) ≡ false)) fs

abbrev AreDistinct : List Formal → Type 0
AreDistinct [] = Unit {0}
AreDistinct (f ∷ fs) = AreOthers f fs × AreDistinct fs

others_at : (f : Formal) (fs : List Formal) → AreOthers f fs → (i : ℕ) (g : Formal) → slice_get fs i ≡ Some g
    → (bytes_eq (upper_case_name f.name) (upper_case_name g.name) ≡ false) × (bytes_eq (upper_case_name g.name) (upper_case_name f.name) ≡ false)
others_at f [] h i g e = absurd cc
others_at f (x ∷ fs) h zero g e =
    subst (λ (z : Formal). (bytes_eq (upper_case_name f.name) (upper_case_name z.name) ≡ false) × (bytes_eq (upper_case_name z.name) (upper_case_name f.name) ≡ false)) (same_Some x g e) h.0
others_at f (x ∷ fs) h (suc i) g e = others_at f fs h.1 i g e

next : (i j : ℕ) → (i == j) ≡ (suc i == suc j)
next i j = by (i == j) refl
  where
    by : (t : Bool) → (i == j) ≡ t → t ≡ (suc i == suc j)
    by true e = let same : i ≡ j = grind (arith, nat_tests) in sym (eq-eqb (suc i) (suc j) (ap suc same))
    by false e = sym (ne_eqb (suc i) (suc j) (λ same. let yes = eq-eqb i j (omega (arith, same)) in absurd cc))

apart : (fs : List Formal) → AreDistinct fs → AreNamedApart fs
apart [] d i j f g e k = absurd cc
apart (x ∷ fs) d zero zero f g e k =
    ap₂ (λ (y z : Formal). bytes_eq (upper_case_name y.name) (upper_case_name z.name)) (sym (same_Some x f e)) (sym (same_Some x g k)) ∙ itself (upper_case_name x.name)
apart (x ∷ fs) d zero (suc j) f g e k =
    ap (λ (y : Formal). bytes_eq (upper_case_name y.name) (upper_case_name g.name)) (sym (same_Some x f e)) ∙ (others_at x fs d.0 j g k).0 ∙ sym (ne_eqb 0 (suc j) (λ e. absurd (omega (arith, e))))
apart (x ∷ fs) d (suc i) zero f g e k =
    ap (λ (y : Formal). bytes_eq (upper_case_name f.name) (upper_case_name y.name)) (sym (same_Some x g k)) ∙ (others_at x fs d.0 i f e).1 ∙ sym (ne_eqb (suc i) 0 (λ e. absurd (omega (arith, e))))
apart (x ∷ fs) d (suc i) (suc j) f g e k = apart fs d.1 i j f g e k ∙ next i j

abbrev formals_by : (a b c d e f g h i : Bool) → Option (List Formal)
formals_by a b c d e f g h i =
    if a then Some (ob_nr_formal ∷ dtime_formal ∷ sign_formal ∷ return_value_formal simple.Int ∷ [])
    else if b then Some (ob_nr_formal ∷ return_value_formal simple.Int ∷ [])
    else if (if c then true else if d then true else false) then Some (mode_formal ∷ ob_nr_formal ∷ return_value_formal simple.Int ∷ [])
    else if (if e then true else if f then true else false) then Some (return_value_formal simple.Int ∷ [])
    else if (if g then true else if h then true else false) then Some []
    else if i then Some (return_value_formal simple.Time ∷ [])
    else None

distinct_as : (fs gs : List Formal) → AreDistinct fs → Some fs ≡ Some gs → AreDistinct gs
distinct_as fs gs d e = subst AreDistinct (same_Some fs gs e) d

distinct_by : (a b c d e f g h i : Bool) (fs : List Formal) → formals_by a b c d e f g h i ≡ Some fs → AreDistinct fs
distinct_by true b c d e f g h i fs s =
    distinct_as (ob_nr_formal ∷ dtime_formal ∷ sign_formal ∷ return_value_formal simple.Int ∷ []) fs
    (((refl, refl), ((refl, refl), ((refl, refl), tt))), (((refl, refl), ((refl, refl), tt)), (((refl, refl), tt), (tt, tt)))) s
distinct_by false true c d e f g h i fs s = distinct_as (ob_nr_formal ∷ return_value_formal simple.Int ∷ []) fs (((refl, refl), tt), (tt, tt)) s
distinct_by false false true d e f g h i fs s =
    distinct_as (mode_formal ∷ ob_nr_formal ∷ return_value_formal simple.Int ∷ []) fs (((refl, refl), ((refl, refl), tt)), (((refl, refl), tt), (tt, tt))) s
distinct_by false false false true e f g h i fs s =
    distinct_as (mode_formal ∷ ob_nr_formal ∷ return_value_formal simple.Int ∷ []) fs (((refl, refl), ((refl, refl), tt)), (((refl, refl), tt), (tt, tt))) s
distinct_by false false false false true f g h i fs s = distinct_as (return_value_formal simple.Int ∷ []) fs (tt, tt) s
distinct_by false false false false false true g h i fs s = distinct_as (return_value_formal simple.Int ∷ []) fs (tt, tt) s
distinct_by false false false false false false true h i fs s = distinct_as [] fs tt s
distinct_by false false false false false false false true i fs s = distinct_as [] fs tt s
distinct_by false false false false false false false false true fs s = distinct_as (return_value_formal simple.Time ∷ []) fs (tt, tt) s
distinct_by false false false false false false false false false fs s = absurd cc

pub system_names_apart : AreSystemNamesApart
unfolding system_formals
system_names_apart n fs e =
    apart fs (distinct_by (nat_eq n 32) (nat_eq n 33) (nat_eq n 39) (nat_eq n 40) (nat_eq n 41) (nat_eq n 42) (nat_eq n 43) (nat_eq n 46) (nat_eq n 64) fs e)
