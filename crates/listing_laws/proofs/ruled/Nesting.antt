-- What the walks over brackets and zones see of a body.
use Rattle.std.proofs.Common.{◌≡◌, ℕ, Bool, true, false, List, [], ◌∷◌, ◌++◌, map, Option, Some, None, if◌then◌else◌, refl, sym, ap, ◌∙◌}
use Rattle.std.specs.Prelude.{nat_eq, nat_le, is_some, length, ◌&&◌}
use Rattle.std.specs.List.{flat_map}
use Rattle.plc_base.specs.RefusalsAlong.{refusals_along}
use Rattle.plc_base.specs.Least.{broken_if}
use Rattle.plc_base.specs.declared.refusals.Refusal.{Refusal}
use Rattle.stl_ast.specs.Statements.{is_empty_statement}
use Rattle.stl_ast.specs.declared.mnemonics.Mnemonic.{Mnemonic}
use Rattle.stl_ast.specs.declared.mnemonics.Mnemonic.TheVariants as code
use Rattle.stl_ast.specs.declared.operands.Operand.TheVariants as operand
use Rattle.stl_ast.specs.declared.statements.Statement.{Statement}
use Rattle.stl_types.specs.Brackets.{brackets_behind, brackets_behind_all, brackets_after_closing, is_closing_bracket, closes_no_bracket, is_eighth_bracket, brackets_left_open, brackets_after_opening, bracket_function, with_brackets}
use Rattle.stl_types.specs.Zones.{ends_no_zone, ends_zone, is_ninth_zone, opens_zone, with_zones, zones_behind, zones_behind_all, zones_after_ending, zones_left_open}
use Rattle.stl_types.specs.declared.brackets.SourceBracket.{SourceBracket}
use Rattle.listing_laws.specs.Nesting.{AreNestingsKept, NestingMark, nesting_marks}

-- the plainest statement with a word on a line
abbrev pub stub : NestingMark → Statement
stub m = record { line = m.line; code = m.code; label = None; operand = operand.Nothing; actuals = [] }

abbrev pub stub_of : Statement → Statement
stub_of s = stub (record { code = s.code; line = s.line })

abbrev stubs : List Statement → List Statement
stubs ss = map stub (nesting_marks ss)

empty_code : (m : Mnemonic) → is_empty_statement m ≡ true → m ≡ code.Empty
empty_code code.Empty h = refl
empty_code _ h = absurd cc

-- ---- a walk

-- a walk passes over empty statements, and sees of the others what a stub has
record Sees {S : Type 0} (broken : S → Statement → List Refusal) (known : S → Statement → S) : Type 0 where
  quiet : (x : S) (s : Statement) → is_empty_statement s.code ≡ true → broken x s ≡ []
  still : (x : S) (s : Statement) → is_empty_statement s.code ≡ true → known x s ≡ x
  same : (x : S) (s : Statement) → broken x s ≡ broken x (stub_of s)
  next : (x : S) (s : Statement) → known x s ≡ known x (stub_of s)

marks_walked : {S : Type 0} (broken : S → Statement → List Refusal) (known : S → Statement → S) → Sees broken known → (x : S) (ss : List Statement)
    → refusals_along (λ s. false) broken known x ss ≡ refusals_along (λ s. false) broken known x (stubs ss)
marks_walked broken known h x [] = refl
marks_walked {S} broken known h x (s ∷ ss) = by (is_empty_statement s.code) refl (λ y. marks_walked broken known h y ss)
  where
    by : (b : Bool) → is_empty_statement s.code ≡ b → ((y : S) → refusals_along (λ s. false) broken known y ss ≡ refusals_along (λ s. false) broken known y (stubs ss))
        → broken x s ++ refusals_along (λ s. false) broken known (known x s) ss
        ≡ refusals_along (λ s. false) broken known x (map stub ((if b then [] else record { code = s.code; line = s.line } ∷ []) ++ nesting_marks ss))
    by true e rest =
        ap (λ (rs : List Refusal). rs ++ refusals_along (λ s. false) broken known (known x s) ss) (h.quiet x s e)
        ∙ ap (λ (y : S). refusals_along (λ s. false) broken known y ss) (h.still x s e)
        ∙ rest x
    by false e rest =
        ap (λ (rs : List Refusal). rs ++ refusals_along (λ s. false) broken known (known x s) ss) (h.same x s)
        ∙ ap (λ (rs : List Refusal). broken x (stub_of s) ++ rs) (rest (known x s) ∙ ap (λ (y : S). refusals_along (λ s. false) broken known y (stubs ss)) (h.next x s))

-- ---- brackets

pub bracket_still : (x : List SourceBracket) (s : Statement) → is_empty_statement s.code ≡ true → brackets_behind x s ≡ x
unfolding bracket_function is_closing_bracket
bracket_still x s e = ap (λ (m : Mnemonic). brackets_after_opening x s (bracket_function m)) (empty_code s.code e) ∙ ap (brackets_after_closing x) (empty_code s.code e)

pub brackets_alike : (x : List SourceBracket) (s : Statement) (found : Option ℕ) → brackets_after_opening x s found ≡ brackets_after_opening x (stub_of s) found
brackets_alike x s None = refl
brackets_alike x s (Some function) = refl

closing_sees : Sees (λ brackets s. broken_if (closes_no_bracket brackets s) s.line 29) brackets_behind
unfolding bracket_function is_closing_bracket
closing_sees = record {
  quiet = λ x s e. ap (λ (m : Mnemonic). broken_if (is_closing_bracket m && nat_eq (length x) 0) s.line 29) (empty_code s.code e);
  still = bracket_still;
  same = λ x s. refl;
  next = λ x s. brackets_alike x s (bracket_function s.code);
}

eighth_sees : Sees (λ brackets s. broken_if (is_eighth_bracket brackets s) s.line 31) brackets_behind
unfolding bracket_function is_closing_bracket
eighth_sees = record {
  quiet = λ x s e. ap (λ (m : Mnemonic). broken_if (is_some (bracket_function m) && nat_le 7 (length x)) s.line 31) (empty_code s.code e);
  still = bracket_still;
  same = λ x s. refl;
  next = λ x s. brackets_alike x s (bracket_function s.code);
}

brackets_left : (x : List SourceBracket) (ss : List Statement) → brackets_behind_all x ss ≡ brackets_behind_all x (stubs ss)
brackets_left x [] = refl
brackets_left x (s ∷ ss) = by (is_empty_statement s.code) refl (λ y. brackets_left y ss)
  where
    by : (b : Bool) → is_empty_statement s.code ≡ b → ((y : List SourceBracket) → brackets_behind_all y ss ≡ brackets_behind_all y (stubs ss))
        → brackets_behind_all (brackets_behind x s) ss ≡ brackets_behind_all x (map stub ((if b then [] else record { code = s.code; line = s.line } ∷ []) ++ nesting_marks ss))
    by true e rest = ap (λ (y : List SourceBracket). brackets_behind_all y ss) (bracket_still x s e) ∙ rest x
    by false e rest = rest (brackets_behind x s) ∙ ap (λ (y : List SourceBracket). brackets_behind_all y (stubs ss)) (brackets_alike x s (bracket_function s.code))

-- ---- zones

pub zone_still : (x : List ℕ) (s : Statement) → is_empty_statement s.code ≡ true → zones_behind x s ≡ x
unfolding opens_zone ends_zone
zone_still x s e = ap (λ (m : Mnemonic). if opens_zone m then x ++ s.line ∷ [] else zones_after_ending x m) (empty_code s.code e)

ending_sees : Sees (λ zones s. broken_if (ends_no_zone zones s) s.line 47) zones_behind
unfolding opens_zone ends_zone
ending_sees = record {
  quiet = λ x s e. ap (λ (m : Mnemonic). broken_if (ends_zone m && nat_eq (length x) 0) s.line 47) (empty_code s.code e);
  still = zone_still;
  same = λ x s. refl;
  next = λ x s. refl;
}

ninth_sees : Sees (λ zones s. broken_if (is_ninth_zone zones s) s.line 49) zones_behind
unfolding opens_zone ends_zone
ninth_sees = record {
  quiet = λ x s e. ap (λ (m : Mnemonic). broken_if (opens_zone m && nat_le 8 (length x)) s.line 49) (empty_code s.code e);
  still = zone_still;
  same = λ x s. refl;
  next = λ x s. refl;
}

zones_left : (x : List ℕ) (ss : List Statement) → zones_behind_all x ss ≡ zones_behind_all x (stubs ss)
zones_left x [] = refl
zones_left x (s ∷ ss) = by (is_empty_statement s.code) refl (λ y. zones_left y ss)
  where
    by : (b : Bool) → is_empty_statement s.code ≡ b → ((y : List ℕ) → zones_behind_all y ss ≡ zones_behind_all y (stubs ss))
        → zones_behind_all (zones_behind x s) ss ≡ zones_behind_all x (map stub ((if b then [] else record { code = s.code; line = s.line } ∷ []) ++ nesting_marks ss))
    by true e rest = ap (λ (y : List ℕ). zones_behind_all y ss) (zone_still x s e) ∙ rest x
    by false e rest = rest (zones_behind x s)

-- ---- bodies

through : {A : Type 0} (of : List Statement → A) (ss ts : List Statement) → ((us : List Statement) → of us ≡ of (stubs us)) → nesting_marks ss ≡ nesting_marks ts → of ss ≡ of ts
through of ss ts h e = h ss ∙ ap (λ (ms : List NestingMark). of (map stub ms)) e ∙ sym (h ts)

pub nestings_kept : AreNestingsKept
nestings_kept ss ts e = record {
  closing = through (λ us. with_brackets (λ brackets s. broken_if (closes_no_bracket brackets s) s.line 29) [] us) ss ts (λ us. marks_walked (λ brackets s. broken_if (closes_no_bracket brackets s) s.line 29) brackets_behind closing_sees [] us) e;
  brackets_left = through brackets_left_open ss ts (λ us. ap (λ (brackets : List SourceBracket). flat_map (λ b. broken_if true b.line 30) brackets) (brackets_left [] us)) e;
  eighth = through (λ us. with_brackets (λ brackets s. broken_if (is_eighth_bracket brackets s) s.line 31) [] us) ss ts (λ us. marks_walked (λ brackets s. broken_if (is_eighth_bracket brackets s) s.line 31) brackets_behind eighth_sees [] us) e;
  ending = through (λ us. with_zones (λ zones s. broken_if (ends_no_zone zones s) s.line 47) [] us) ss ts (λ us. marks_walked (λ zones s. broken_if (ends_no_zone zones s) s.line 47) zones_behind ending_sees [] us) e;
  zones_left = through zones_left_open ss ts (λ us. ap (λ (zones : List ℕ). flat_map (λ line. broken_if true line 48) zones) (zones_left [] us)) e;
  ninth = through (λ us. with_zones (λ zones s. broken_if (is_ninth_zone zones s) s.line 49) [] us) ss ts (λ us. marks_walked (λ zones s. broken_if (is_ninth_zone zones s) s.line 49) zones_behind ninth_sees [] us) e;
}
