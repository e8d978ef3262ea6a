-- The roles that a translation goes by are those of the rule.
use Rattle.std.proofs.Common.{ℕ, ◌≡◌, Bool, true, false, not, ◌&&◌, List, [], ◌∷◌, ◌++◌, if◌then◌else◌, refl, sym, ◌∙◌, ap, subst}
use Rattle.std.proofs.lemmas.Bool.{and_parts, false≢true, true≢false, not-true}
use Rattle.stl_lexer.specs.Tokens.{text_of}
use Rattle.stl_lexer.specs.declared.kinds.Token.{Token}
use Rattle.de_mnemonics.specs.declared.classes.TokenClass.{TokenClass}
use Rattle.de_mnemonics.specs.declared.classes.TokenClass.TheVariants as class
use Rattle.de_mnemonics.specs.declared.places.TokenPlace.{TokenPlace}
use Rattle.de_mnemonics.specs.declared.places.TokenPlace.TheVariants as place
use Rattle.de_mnemonics.specs.declared.roles.Role.{Role}
use Rattle.de_mnemonics.specs.declared.roles.Role.TheVariants as role
use Rattle.de_mnemonics.specs.Places.{token_place_behind, place_behind_closing, place_behind_head, place_behind_instruction, place_behind_outside, place_behind_sign, place_behind_start, place_behind_word, is_word_in_list, is_jump_word, may_be_keyword, role_at_start, role_in, role_of, role_of_word}
use Rattle.de_mnemonics.specs.Tables.{begin_words, data_openings, block_end_words, network_words, zone_words}
use Rattle.de_mnemonics.specs.Translation.{token_class_in, next_class}
use Rattle.translation_laws.specs.Statements.{BodiesHaveRoles, HasNoSemicolon, OthersStay, StatementsHaveRoles, closing_roles, instruction_roles, stands_between_statements, is_body_end, is_closing_class, is_colon_class, is_note_class, is_number_class, is_opening_class, is_semicolon_class, is_word_class, is_zone_end, label_roles, opening_roles, place_in_head, place_outside, roles_beside, roles_from, sign_roles, token_role, word_roles}

-- the class of what follows a part of a statement doesn't ask for what stands behind its `;`
next_end : (s : List ℕ) (inside : List Token) (semicolon : Token) (rest : List Token)
    → next_class s (inside ++ semicolon ∷ rest) ≡ next_class s (inside ++ semicolon ∷ [])
next_end s [] semicolon rest = refl
next_end s (t ∷ inside) semicolon rest = refl

-- the place behind a token of the rest of a statement
inside_place : (b c : TokenClass) (x : List ℕ) (n : TokenClass) → is_semicolon_class c ≡ false → token_place_behind place.Inside b c x n ≡ place.Inside
unfolding token_place_behind place_behind_word place_behind_sign
inside_place b class.Semicolon x n e = absurd (true≢false e)
inside_place b class.Word x n e = refl
inside_place b class.Number x n e = refl
inside_place b class.Note x n e = refl
inside_place b class.Dot x n e = refl
inside_place b class.Assign x n e = refl
inside_place b class.Colon x n e = refl
inside_place b class.OpenBracket x n e = refl
inside_place b class.OpenParen x n e = refl
inside_place b class.CloseParen x n e = refl
inside_place b class.Pointer x n e = refl
inside_place b class.Other x n e = refl

path_place : (b c : TokenClass) (x : List ℕ) (n : TokenClass) → is_semicolon_class c ≡ false → token_place_behind place.Path b c x n ≡ place.Inside
unfolding token_place_behind place_behind_word place_behind_sign
path_place b class.Semicolon x n e = absurd (true≢false e)
path_place b class.Word x n e = refl
path_place b class.Number x n e = refl
path_place b class.Note x n e = refl
path_place b class.Dot x n e = refl
path_place b class.Assign x n e = refl
path_place b class.Colon x n e = refl
path_place b class.OpenBracket x n e = refl
path_place b class.OpenParen x n e = refl
path_place b class.CloseParen x n e = refl
path_place b class.Pointer x n e = refl
path_place b class.Other x n e = refl

-- `;` leads to the next statement from each place of a statement
abbrev is_in_statement : TokenPlace → Bool
is_in_statement place.Outside = false
is_in_statement place.Head = false
is_in_statement place.Label = false
is_in_statement _ = true

semicolon_class : (c : TokenClass) → is_semicolon_class c ≡ true → c ≡ class.Semicolon
semicolon_class class.Semicolon e = refl
semicolon_class class.Word e = absurd (false≢true e)
semicolon_class class.Number e = absurd (false≢true e)
semicolon_class class.Note e = absurd (false≢true e)
semicolon_class class.Dot e = absurd (false≢true e)
semicolon_class class.Assign e = absurd (false≢true e)
semicolon_class class.Colon e = absurd (false≢true e)
semicolon_class class.OpenBracket e = absurd (false≢true e)
semicolon_class class.OpenParen e = absurd (false≢true e)
semicolon_class class.CloseParen e = absurd (false≢true e)
semicolon_class class.Pointer e = absurd (false≢true e)
semicolon_class class.Other e = absurd (false≢true e)

semicolon_place : (p : TokenPlace) (b : TokenClass) (x : List ℕ) (n : TokenClass) → is_in_statement p ≡ true
    → (role_of p b class.Semicolon x n ≡ role.Stays) × (token_place_behind p b class.Semicolon x n ≡ place.Start)
unfolding role_of token_place_behind place_behind_sign
semicolon_place place.Outside b x n e = absurd (false≢true e)
semicolon_place place.Head b x n e = absurd (false≢true e)
semicolon_place place.Label b x n e = absurd (false≢true e)
semicolon_place place.Start b x n e = (refl, refl)
semicolon_place place.Labelled b x n e = (refl, refl)
semicolon_place place.Jump b x n e = (refl, refl)
semicolon_place place.Instruction b x n e = (refl, refl)
semicolon_place place.Closing b x n e = (refl, refl)
semicolon_place place.Path b x n e = (refl, refl)
semicolon_place place.Inside b x n e = (refl, refl)

cons_same : {A : Type 0} (x y : A) (xs ys : List A) → x ≡ y → xs ≡ ys → x ∷ xs ≡ y ∷ ys
cons_same x y xs ys e h = ap (λ z. z ∷ xs) e ∙ ap (λ zs. y ∷ zs) h

-- one token, and what is behind it
step : (s : List ℕ) (p q : TokenPlace) (b : TokenClass) (t : Token) (rest : List Token) (r : Role) (behind_ : List Role)
    → role_of p b (token_class_in s t) (text_of s t) (next_class s rest) ≡ r → token_place_behind p b (token_class_in s t) (text_of s t) (next_class s rest) ≡ q
    → roles_from s q (token_class_in s t) rest ≡ behind_ → roles_from s p b (t ∷ rest) ≡ r ∷ behind_
step s p q b t rest r behind_ e f h =
    cons_same (role_of p b (token_class_in s t) (text_of s t) (next_class s rest)) r
    (roles_from s (token_place_behind p b (token_class_in s t) (text_of s t) (next_class s rest)) (token_class_in s t) rest) behind_ e
    (ap (λ z. roles_from s z (token_class_in s t) rest) f ∙ h)

semicolon_step : (s : List ℕ) (p : TokenPlace) (b : TokenClass) (t : Token) (rest : List Token) → is_in_statement p ≡ true
    → is_semicolon_class (token_class_in s t) ≡ true → roles_from s p b (t ∷ rest) ≡ role.Stays ∷ roles_from s place.Start class.Semicolon rest
semicolon_step s p b t rest in_ e =
    let is : token_class_in s t ≡ class.Semicolon = semicolon_class (token_class_in s t) e in
    let facts = semicolon_place p b (text_of s t) (next_class s rest) in_ in
    step s p place.Start b t rest role.Stays (roles_from s place.Start class.Semicolon rest)
    (ap (λ c. role_of p b c (text_of s t) (next_class s rest)) is ∙ facts.0)
    (ap (λ c. token_place_behind p b c (text_of s t) (next_class s rest)) is ∙ facts.1)
    (ap (λ c. roles_from s place.Start c rest) is)

-- a `;` has no role
semicolon_stays : (s : List ℕ) (opens : Bool) (b : TokenClass) (t : Token) (n : TokenClass) → is_semicolon_class (token_class_in s t) ≡ true
    → token_role opens b (token_class_in s t) (text_of s t) n ≡ role.Stays
semicolon_stays s opens b t n e = ap (λ c. token_role opens b c (text_of s t) n) (semicolon_class (token_class_in s t) e)

-- ---- the roles behind the front of an instruction

inside_role : (b c : TokenClass) (x : List ℕ) (n : TokenClass) → role_of place.Inside b c x n ≡ token_role false b c x n
unfolding role_of role_of_word role_in
inside_role b class.Word x n = refl
inside_role b class.Number x n = refl
inside_role b class.Note x n = refl
inside_role b class.Semicolon x n = refl
inside_role b class.Dot x n = refl
inside_role b class.Assign x n = refl
inside_role b class.Colon x n = refl
inside_role b class.OpenBracket x n = refl
inside_role b class.OpenParen x n = refl
inside_role b class.CloseParen x n = refl
inside_role b class.Pointer x n = refl
inside_role b class.Other x n = refl

-- the places where a path may begin
abbrev is_open_place : TokenPlace → Bool
is_open_place place.Instruction = true
is_open_place place.Closing = true
is_open_place place.Path = true
is_open_place _ = false

open_role : (p : TokenPlace) (b c : TokenClass) (x : List ℕ) (n : TokenClass) → is_open_place p ≡ true → role_of p b c x n ≡ token_role true b c x n
unfolding role_of role_of_word role_in
open_role place.Instruction b class.Word x n e = refl
open_role place.Closing b class.Word x n e = refl
open_role place.Path b class.Word x n e = refl
open_role place.Outside b class.Word x n e = absurd (false≢true e)
open_role place.Head b class.Word x n e = absurd (false≢true e)
open_role place.Start b class.Word x n e = absurd (false≢true e)
open_role place.Label b class.Word x n e = absurd (false≢true e)
open_role place.Labelled b class.Word x n e = absurd (false≢true e)
open_role place.Jump b class.Word x n e = absurd (false≢true e)
open_role place.Inside b class.Word x n e = absurd (false≢true e)
open_role p b class.Number x n e = refl
open_role p b class.Note x n e = refl
open_role p b class.Semicolon x n e = refl
open_role p b class.Dot x n e = refl
open_role p b class.Assign x n e = refl
open_role p b class.Colon x n e = refl
open_role p b class.OpenBracket x n e = refl
open_role p b class.OpenParen x n e = refl
open_role p b class.CloseParen x n e = refl
open_role p b class.Pointer x n e = refl
open_role p b class.Other x n e = refl

-- what is known of a statement's end
record Ends (s : List ℕ) (inside : List Token) (semicolon : Token) : Type 0 where
  none : HasNoSemicolon s inside
  is : is_semicolon_class (token_class_in s semicolon) ≡ true

one_less : (s : List ℕ) (t : Token) (inside : List Token) (semicolon : Token) → Ends s (t ∷ inside) semicolon → Ends s inside semicolon
one_less s t inside semicolon h = record { none = h.none.1; is = h.is }

-- the next statement
abbrev Next : List ℕ → List Token → List Role
Next s rest = roles_from s place.Start class.Semicolon rest

end_roles : (s : List ℕ) (p : TokenPlace) (opens : Bool) (b c : TokenClass) (semicolon : Token) (rest : List Token) → is_in_statement p ≡ true
    → is_semicolon_class (token_class_in s semicolon) ≡ true
    → roles_from s p b (semicolon ∷ rest) ≡ roles_beside s opens c (semicolon ∷ []) ++ Next s rest
end_roles s p opens b c semicolon rest in_ is =
    semicolon_step s p b semicolon rest in_ is
    ∙ ap (λ r. r ∷ Next s rest) (sym (semicolon_stays s opens c semicolon class.Other is))

inside_roles : (s : List ℕ) (b : TokenClass) (inside : List Token) (semicolon : Token) (rest : List Token) → Ends s inside semicolon
    → roles_from s place.Inside b (inside ++ semicolon ∷ rest) ≡ roles_beside s false b (inside ++ semicolon ∷ []) ++ Next s rest
inside_roles s b [] semicolon rest h = end_roles s place.Inside false b b semicolon rest refl h.is
inside_roles s b (t ∷ inside) semicolon rest h =
    step s place.Inside place.Inside b t (inside ++ semicolon ∷ rest)
    (token_role false b (token_class_in s t) (text_of s t) (next_class s (inside ++ semicolon ∷ [])))
    (roles_beside s false (token_class_in s t) (inside ++ semicolon ∷ []) ++ Next s rest)
    (inside_role b (token_class_in s t) (text_of s t) (next_class s (inside ++ semicolon ∷ rest))
    ∙ ap (token_role false b (token_class_in s t) (text_of s t)) (next_end s inside semicolon rest))
    (inside_place b (token_class_in s t) (text_of s t) (next_class s (inside ++ semicolon ∷ rest)) h.none.0)
    (inside_roles s (token_class_in s t) inside semicolon rest (one_less s t inside semicolon h))

-- where a path may begin, and the place behind the first token is known
open_roles : (s : List ℕ) (p q : TokenPlace) (opens : Bool) (b : TokenClass) (t : Token) (inside : List Token) (semicolon : Token) (rest : List Token)
    → is_open_place p ≡ true
    → token_place_behind p b (token_class_in s t) (text_of s t) (next_class s (inside ++ semicolon ∷ rest)) ≡ q
    → roles_from s q (token_class_in s t) (inside ++ semicolon ∷ rest) ≡ roles_beside s opens (token_class_in s t) (inside ++ semicolon ∷ []) ++ Next s rest
    → roles_from s p b (t ∷ (inside ++ semicolon ∷ rest))
    ≡ (token_role true b (token_class_in s t) (text_of s t) (next_class s (inside ++ semicolon ∷ [])) ∷ roles_beside s opens (token_class_in s t) (inside ++ semicolon ∷ []))
    ++ Next s rest
open_roles s p q opens b t inside semicolon rest open_ e h =
    step s p q b t (inside ++ semicolon ∷ rest)
    (token_role true b (token_class_in s t) (text_of s t) (next_class s (inside ++ semicolon ∷ [])))
    (roles_beside s opens (token_class_in s t) (inside ++ semicolon ∷ []) ++ Next s rest)
    (open_role p b (token_class_in s t) (text_of s t) (next_class s (inside ++ semicolon ∷ rest)) open_
    ∙ ap (token_role true b (token_class_in s t) (text_of s t)) (next_end s inside semicolon rest))
    e h

path_roles : (s : List ℕ) (b : TokenClass) (inside : List Token) (semicolon : Token) (rest : List Token) → Ends s inside semicolon
    → roles_from s place.Path b (inside ++ semicolon ∷ rest) ≡ roles_beside s true b (inside ++ semicolon ∷ []) ++ Next s rest
path_roles s b [] semicolon rest h = end_roles s place.Path true b b semicolon rest refl h.is
path_roles s b (t ∷ inside) semicolon rest h =
    open_roles s place.Path place.Inside false b t inside semicolon rest refl
    (path_place b (token_class_in s t) (text_of s t) (next_class s (inside ++ semicolon ∷ rest)) h.none.0)
    (inside_roles s (token_class_in s t) inside semicolon rest (one_less s t inside semicolon h))

-- ---- behind an instruction word

opening_place : (b c : TokenClass) (x : List ℕ) (n : TokenClass) → is_semicolon_class c ≡ false → is_opening_class c ≡ false
    → token_place_behind place.Instruction b c x n ≡ place.Inside
unfolding token_place_behind place_behind_word place_behind_sign
opening_place b class.Semicolon x n e f = absurd (true≢false e)
opening_place b class.OpenParen x n e f = absurd (true≢false f)
opening_place b class.Word x n e f = refl
opening_place b class.Number x n e f = refl
opening_place b class.Note x n e f = refl
opening_place b class.Dot x n e f = refl
opening_place b class.Assign x n e f = refl
opening_place b class.Colon x n e f = refl
opening_place b class.OpenBracket x n e f = refl
opening_place b class.CloseParen x n e f = refl
opening_place b class.Pointer x n e f = refl
opening_place b class.Other x n e f = refl

opening_class : (c : TokenClass) → is_opening_class c ≡ true → c ≡ class.OpenParen
opening_class class.OpenParen e = refl
opening_class class.Word e = absurd (false≢true e)
opening_class class.Number e = absurd (false≢true e)
opening_class class.Note e = absurd (false≢true e)
opening_class class.Semicolon e = absurd (false≢true e)
opening_class class.Dot e = absurd (false≢true e)
opening_class class.Assign e = absurd (false≢true e)
opening_class class.Colon e = absurd (false≢true e)
opening_class class.OpenBracket e = absurd (false≢true e)
opening_class class.CloseParen e = absurd (false≢true e)
opening_class class.Pointer e = absurd (false≢true e)
opening_class class.Other e = absurd (false≢true e)

path_opened : (b : TokenClass) (x : List ℕ) (n : TokenClass)
    → (role_of place.Instruction b class.OpenParen x n ≡ role.Stays) × (token_place_behind place.Instruction b class.OpenParen x n ≡ place.Path)
unfolding role_of token_place_behind place_behind_sign
path_opened b x n = (refl, refl)

opening_rest : (s : List ℕ) (inside : List Token) (semicolon : Token) (rest : List Token) → Ends s inside semicolon
    → roles_from s place.Instruction class.Word (inside ++ semicolon ∷ rest) ≡ opening_roles s (inside ++ semicolon ∷ []) ++ Next s rest
opening_rest s [] semicolon rest h =
    end_roles s place.Instruction true class.Word class.Word semicolon rest refl h.is
    ∙ ap (λ (c : TokenClass). (if is_opening_class c then role.Stays ∷ roles_beside s true class.OpenParen [] else roles_beside s true class.Word (semicolon ∷ [])) ++ Next s rest)
    (sym (semicolon_class (token_class_in s semicolon) h.is))
opening_rest s (t ∷ inside) semicolon rest h = by (is_opening_class (token_class_in s t)) refl
  where
    by : (c : Bool) → is_opening_class (token_class_in s t) ≡ c
        → roles_from s place.Instruction class.Word (t ∷ (inside ++ semicolon ∷ rest))
        ≡ (if c then role.Stays ∷ roles_beside s true class.OpenParen (inside ++ semicolon ∷ [])
        else roles_beside s true class.Word (t ∷ (inside ++ semicolon ∷ []))) ++ Next s rest
    by true e =
        let is : token_class_in s t ≡ class.OpenParen = opening_class (token_class_in s t) e in
        let facts = path_opened class.Word (text_of s t) (next_class s (inside ++ semicolon ∷ rest)) in
        step s place.Instruction place.Path class.Word t (inside ++ semicolon ∷ rest) role.Stays (roles_beside s true class.OpenParen (inside ++ semicolon ∷ []) ++ Next s rest)
        (ap (λ c. role_of place.Instruction class.Word c (text_of s t) (next_class s (inside ++ semicolon ∷ rest))) is ∙ facts.0)
        (ap (λ c. token_place_behind place.Instruction class.Word c (text_of s t) (next_class s (inside ++ semicolon ∷ rest))) is ∙ facts.1)
        (ap (λ c. roles_from s place.Path c (inside ++ semicolon ∷ rest)) is
        ∙ path_roles s class.OpenParen inside semicolon rest (one_less s t inside semicolon h))
    by false e =
        open_roles s place.Instruction place.Inside false class.Word t inside semicolon rest refl
        (opening_place class.Word (token_class_in s t) (text_of s t) (next_class s (inside ++ semicolon ∷ rest)) h.none.0 e)
        (inside_roles s (token_class_in s t) inside semicolon rest (one_less s t inside semicolon h))

-- ---- behind the word of a jump

word_class : (c : TokenClass) → is_word_class c ≡ true → c ≡ class.Word
word_class class.Word e = refl
word_class class.Number e = absurd (false≢true e)
word_class class.Note e = absurd (false≢true e)
word_class class.Semicolon e = absurd (false≢true e)
word_class class.Dot e = absurd (false≢true e)
word_class class.Assign e = absurd (false≢true e)
word_class class.Colon e = absurd (false≢true e)
word_class class.OpenBracket e = absurd (false≢true e)
word_class class.OpenParen e = absurd (false≢true e)
word_class class.CloseParen e = absurd (false≢true e)
word_class class.Pointer e = absurd (false≢true e)
word_class class.Other e = absurd (false≢true e)

jump_step : (b c : TokenClass) (x : List ℕ) (n : TokenClass) → is_semicolon_class c ≡ false
    → (role_of place.Jump b c x n ≡ role.Stays) × (token_place_behind place.Jump b c x n ≡ (if is_word_class c then place.Inside else place.Jump))
unfolding role_of role_of_word token_place_behind place_behind_word place_behind_sign
jump_step b class.Semicolon x n e = absurd (true≢false e)
jump_step b class.Word x n e = (refl, refl)
jump_step b class.Number x n e = (refl, refl)
jump_step b class.Note x n e = (refl, refl)
jump_step b class.Dot x n e = (refl, refl)
jump_step b class.Assign x n e = (refl, refl)
jump_step b class.Colon x n e = (refl, refl)
jump_step b class.OpenBracket x n e = (refl, refl)
jump_step b class.OpenParen x n e = (refl, refl)
jump_step b class.CloseParen x n e = (refl, refl)
jump_step b class.Pointer x n e = (refl, refl)
jump_step b class.Other x n e = (refl, refl)

label_rest : (s : List ℕ) (b : TokenClass) (inside : List Token) (semicolon : Token) (rest : List Token) → Ends s inside semicolon
    → roles_from s place.Jump b (inside ++ semicolon ∷ rest) ≡ label_roles s (inside ++ semicolon ∷ []) ++ Next s rest
label_rest s b [] semicolon rest h =
    semicolon_step s place.Jump b semicolon rest refl h.is
    ∙ ap (λ (c : TokenClass). (role.Stays ∷ (if is_word_class c then roles_beside s false class.Word [] else label_roles s [])) ++ Next s rest)
    (sym (semicolon_class (token_class_in s semicolon) h.is))
label_rest s b (t ∷ inside) semicolon rest h =
    let facts = jump_step b (token_class_in s t) (text_of s t) (next_class s (inside ++ semicolon ∷ rest)) h.none.0 in
    step s place.Jump (if is_word_class (token_class_in s t) then place.Inside else place.Jump) b t (inside ++ semicolon ∷ rest) role.Stays
    ((if is_word_class (token_class_in s t) then roles_beside s false class.Word (inside ++ semicolon ∷ []) else label_roles s (inside ++ semicolon ∷ [])) ++ Next s rest)
    facts.0 facts.1
    (by (is_word_class (token_class_in s t)) refl (label_rest s (token_class_in s t) inside semicolon rest (one_less s t inside semicolon h)))
  where
    by : (c : Bool) → is_word_class (token_class_in s t) ≡ c
        → roles_from s place.Jump (token_class_in s t) (inside ++ semicolon ∷ rest) ≡ label_roles s (inside ++ semicolon ∷ []) ++ Next s rest
        → roles_from s (if c then place.Inside else place.Jump) (token_class_in s t) (inside ++ semicolon ∷ rest)
        ≡ (if c then roles_beside s false class.Word (inside ++ semicolon ∷ []) else label_roles s (inside ++ semicolon ∷ [])) ++ Next s rest
    by true e more =
        ap (λ c. roles_from s place.Inside c (inside ++ semicolon ∷ rest)) (word_class (token_class_in s t) e)
        ∙ inside_roles s class.Word inside semicolon rest (one_less s t inside semicolon h)
    by false e more = more

-- ---- behind a `)`

closing_by : (b c : TokenClass) (x : List ℕ) (n : TokenClass) → is_semicolon_class c ≡ false
    → token_place_behind place.Closing b c x n ≡ (if is_word_class c && is_word_in_list zone_words x then place.Path else place.Inside)
unfolding token_place_behind place_behind_word place_behind_closing place_behind_sign
closing_by b class.Semicolon x n e = absurd (true≢false e)
closing_by b class.Word x n e = refl
closing_by b class.Number x n e = refl
closing_by b class.Note x n e = refl
closing_by b class.Dot x n e = refl
closing_by b class.Assign x n e = refl
closing_by b class.Colon x n e = refl
closing_by b class.OpenBracket x n e = refl
closing_by b class.OpenParen x n e = refl
closing_by b class.CloseParen x n e = refl
closing_by b class.Pointer x n e = refl
closing_by b class.Other x n e = refl

closing_rest : (s : List ℕ) (inside : List Token) (semicolon : Token) (rest : List Token) → Ends s inside semicolon
    → roles_from s place.Closing class.CloseParen (inside ++ semicolon ∷ rest) ≡ closing_roles s (inside ++ semicolon ∷ []) ++ Next s rest
closing_rest s [] semicolon rest h =
    semicolon_step s place.Closing class.CloseParen semicolon rest refl h.is
    ∙ ap (λ r. r ∷ Next s rest) (sym (semicolon_stays s true class.CloseParen semicolon class.Other h.is))
closing_rest s (t ∷ inside) semicolon rest h =
    open_roles s place.Closing (if is_zone_end s t then place.Path else place.Inside) (is_zone_end s t) class.CloseParen t inside semicolon rest refl
    (closing_by class.CloseParen (token_class_in s t) (text_of s t) (next_class s (inside ++ semicolon ∷ rest)) h.none.0)
    (by (is_zone_end s t))
  where
    by : (c : Bool) → roles_from s (if c then place.Path else place.Inside) (token_class_in s t) (inside ++ semicolon ∷ rest)
        ≡ roles_beside s c (token_class_in s t) (inside ++ semicolon ∷ []) ++ Next s rest
    by true = path_roles s (token_class_in s t) inside semicolon rest (one_less s t inside semicolon h)
    by false = inside_roles s (token_class_in s t) inside semicolon rest (one_less s t inside semicolon h)

-- ---- an instruction

-- the place behind a token at the front of an instruction
front_place : TokenClass → TokenPlace
front_place c =
    if is_number_class c then place.Inside
    else (if is_closing_class c then place.Closing else place.Path)

closing_class : (c : TokenClass) → is_closing_class c ≡ true → c ≡ class.CloseParen
closing_class class.CloseParen e = refl
closing_class class.Word e = absurd (false≢true e)
closing_class class.Number e = absurd (false≢true e)
closing_class class.Note e = absurd (false≢true e)
closing_class class.Semicolon e = absurd (false≢true e)
closing_class class.Dot e = absurd (false≢true e)
closing_class class.Assign e = absurd (false≢true e)
closing_class class.Colon e = absurd (false≢true e)
closing_class class.OpenBracket e = absurd (false≢true e)
closing_class class.OpenParen e = absurd (false≢true e)
closing_class class.Pointer e = absurd (false≢true e)
closing_class class.Other e = absurd (false≢true e)

sign_rest : (s : List ℕ) (c : TokenClass) (inside : List Token) (semicolon : Token) (rest : List Token) → Ends s inside semicolon
    → roles_from s (front_place c) c (inside ++ semicolon ∷ rest) ≡ sign_roles s c (inside ++ semicolon ∷ []) ++ Next s rest
unfolding front_place
sign_rest s c inside semicolon rest h = by (is_number_class c) (is_closing_class c) refl
  where
    by : (a d : Bool) → is_closing_class c ≡ d
        → roles_from s (if a then place.Inside else (if d then place.Closing else place.Path)) c (inside ++ semicolon ∷ rest)
        ≡ (if a then roles_beside s false c (inside ++ semicolon ∷ [])
        else (if d then closing_roles s (inside ++ semicolon ∷ []) else roles_beside s true c (inside ++ semicolon ∷ []))) ++ Next s rest
    by true d e = inside_roles s c inside semicolon rest h
    by false true e =
        ap (λ k. roles_from s place.Closing k (inside ++ semicolon ∷ rest)) (closing_class c e) ∙ closing_rest s inside semicolon rest h
    by false false e = path_roles s c inside semicolon rest h

word_place : List ℕ → TokenPlace
word_place x = if is_jump_word x then place.Jump else place.Instruction

word_rest : (s : List ℕ) (x : List ℕ) (inside : List Token) (semicolon : Token) (rest : List Token) → Ends s inside semicolon
    → roles_from s (word_place x) class.Word (inside ++ semicolon ∷ rest) ≡ word_roles s x (inside ++ semicolon ∷ []) ++ Next s rest
unfolding word_place
word_rest s x inside semicolon rest h = by (is_jump_word x)
  where
    by : (c : Bool) → roles_from s (if c then place.Jump else place.Instruction) class.Word (inside ++ semicolon ∷ rest)
        ≡ (if c then label_roles s (inside ++ semicolon ∷ []) else opening_roles s (inside ++ semicolon ∷ [])) ++ Next s rest
    by true = label_rest s class.Word inside semicolon rest h
    by false = opening_rest s inside semicolon rest h

-- a token of an instruction's front leads there
record IsFront (s : List ℕ) (p : TokenPlace) (b : TokenClass) (t : Token) (n : TokenClass) : Type 0 where
  word_role : is_word_class (token_class_in s t) ≡ true → role_of p b (token_class_in s t) (text_of s t) n ≡ role.Instruction
  word_behind : is_word_class (token_class_in s t) ≡ true → token_place_behind p b (token_class_in s t) (text_of s t) n ≡ word_place (text_of s t)
  sign_role : is_word_class (token_class_in s t) ≡ false → role_of p b (token_class_in s t) (text_of s t) n ≡ role.Stays
  sign_behind : is_word_class (token_class_in s t) ≡ false → token_place_behind p b (token_class_in s t) (text_of s t) n ≡ front_place (token_class_in s t)

front_rest : (s : List ℕ) (p : TokenPlace) (b : TokenClass) (t : Token) (inside : List Token) (semicolon : Token) (rest : List Token) → Ends s inside semicolon
    → IsFront s p b t (next_class s (inside ++ semicolon ∷ rest))
    → roles_from s p b (t ∷ (inside ++ semicolon ∷ rest)) ≡ instruction_roles s (t ∷ (inside ++ semicolon ∷ [])) ++ Next s rest
front_rest s p b t inside semicolon rest h f = by (is_word_class (token_class_in s t)) refl
  where
    by : (c : Bool) → is_word_class (token_class_in s t) ≡ c
        → roles_from s p b (t ∷ (inside ++ semicolon ∷ rest))
        ≡ (if c then role.Instruction ∷ word_roles s (text_of s t) (inside ++ semicolon ∷ [])
        else role.Stays ∷ sign_roles s (token_class_in s t) (inside ++ semicolon ∷ [])) ++ Next s rest
    by true e =
        step s p (word_place (text_of s t)) b t (inside ++ semicolon ∷ rest) role.Instruction (word_roles s (text_of s t) (inside ++ semicolon ∷ []) ++ Next s rest)
        (f.word_role e) (f.word_behind e)
        (ap (λ c. roles_from s (word_place (text_of s t)) c (inside ++ semicolon ∷ rest)) (word_class (token_class_in s t) e)
        ∙ word_rest s (text_of s t) inside semicolon rest h)
    by false e =
        step s p (front_place (token_class_in s t)) b t (inside ++ semicolon ∷ rest) role.Stays (sign_roles s (token_class_in s t) (inside ++ semicolon ∷ []) ++ Next s rest)
        (f.sign_role e) (f.sign_behind e) (sign_rest s (token_class_in s t) inside semicolon rest h)

-- behind a label
labelled_word : (b : TokenClass) (x : List ℕ) (n : TokenClass)
    → (role_of place.Labelled b class.Word x n ≡ role.Instruction) × (token_place_behind place.Labelled b class.Word x n ≡ word_place x)
unfolding role_of role_of_word token_place_behind place_behind_word place_behind_instruction word_place
labelled_word b x n = (refl, refl)

labelled_sign : (b c : TokenClass) (x : List ℕ) (n : TokenClass) → is_word_class c ≡ false → is_semicolon_class c ≡ false
    → (role_of place.Labelled b c x n ≡ role.Stays) × (token_place_behind place.Labelled b c x n ≡ front_place c)
unfolding role_of token_place_behind place_behind_sign front_place
labelled_sign b class.Word x n e f = absurd (true≢false e)
labelled_sign b class.Semicolon x n e f = absurd (true≢false f)
labelled_sign b class.Number x n e f = (refl, refl)
labelled_sign b class.Note x n e f = (refl, refl)
labelled_sign b class.Dot x n e f = (refl, refl)
labelled_sign b class.Assign x n e f = (refl, refl)
labelled_sign b class.Colon x n e f = (refl, refl)
labelled_sign b class.OpenBracket x n e f = (refl, refl)
labelled_sign b class.OpenParen x n e f = (refl, refl)
labelled_sign b class.CloseParen x n e f = (refl, refl)
labelled_sign b class.Pointer x n e f = (refl, refl)
labelled_sign b class.Other x n e f = (refl, refl)

labelled_front : (s : List ℕ) (b : TokenClass) (t : Token) (n : TokenClass) → is_semicolon_class (token_class_in s t) ≡ false → IsFront s place.Labelled b t n
labelled_front s b t n e = record {
  word_role = λ word. ap (λ c. role_of place.Labelled b c (text_of s t) n) (word_class (token_class_in s t) word) ∙ (labelled_word b (text_of s t) n).0;
  word_behind = λ word. ap (λ c. token_place_behind place.Labelled b c (text_of s t) n) (word_class (token_class_in s t) word) ∙ (labelled_word b (text_of s t) n).1;
  sign_role = λ other. (labelled_sign b (token_class_in s t) (text_of s t) n other e).0;
  sign_behind = λ other. (labelled_sign b (token_class_in s t) (text_of s t) n other e).1;
}

-- a `;` alone
alone_roles : (s : List ℕ) (p : TokenPlace) (b : TokenClass) (semicolon : Token) (rest : List Token) → is_in_statement p ≡ true
    → is_semicolon_class (token_class_in s semicolon) ≡ true
    → roles_from s p b (semicolon ∷ rest) ≡ instruction_roles s (semicolon ∷ []) ++ Next s rest
alone_roles s p b semicolon rest in_ is =
    semicolon_step s p b semicolon rest in_ is
    ∙ ap (λ (c : TokenClass). (if is_word_class c then role.Instruction ∷ word_roles s (text_of s semicolon) [] else role.Stays ∷ sign_roles s c []) ++ Next s rest)
    (sym (semicolon_class (token_class_in s semicolon) is))

labelled_rest : (s : List ℕ) (b : TokenClass) (inside : List Token) (semicolon : Token) (rest : List Token) → Ends s inside semicolon
    → roles_from s place.Labelled b (inside ++ semicolon ∷ rest) ≡ instruction_roles s (inside ++ semicolon ∷ []) ++ Next s rest
labelled_rest s b [] semicolon rest h = alone_roles s place.Labelled b semicolon rest refl h.is
labelled_rest s b (t ∷ inside) semicolon rest h =
    front_rest s place.Labelled b t inside semicolon rest (one_less s t inside semicolon h)
    (labelled_front s b t (next_class s (inside ++ semicolon ∷ rest)) h.none.0)

-- ---- the start of a statement

start_word : (b : TokenClass) (x : List ℕ) (n : TokenClass) → is_word_in_list block_end_words x ≡ false → is_word_in_list network_words x ≡ false → is_colon_class n ≡ false
    → (role_of place.Start b class.Word x n ≡ role.Instruction) × (token_place_behind place.Start b class.Word x n ≡ word_place x)
unfolding role_of role_of_word role_at_start token_place_behind place_behind_word place_behind_start place_behind_instruction word_place
start_word b x class.Colon e f g = absurd (true≢false g)
start_word b x class.Word e f g = rw (e, f) (refl, refl)
start_word b x class.Number e f g = rw (e, f) (refl, refl)
start_word b x class.Note e f g = rw (e, f) (refl, refl)
start_word b x class.Semicolon e f g = rw (e, f) (refl, refl)
start_word b x class.Dot e f g = rw (e, f) (refl, refl)
start_word b x class.Assign e f g = rw (e, f) (refl, refl)
start_word b x class.OpenBracket e f g = rw (e, f) (refl, refl)
start_word b x class.OpenParen e f g = rw (e, f) (refl, refl)
start_word b x class.CloseParen e f g = rw (e, f) (refl, refl)
start_word b x class.Pointer e f g = rw (e, f) (refl, refl)
start_word b x class.Other e f g = rw (e, f) (refl, refl)

start_sign : (b c : TokenClass) (x : List ℕ) (n : TokenClass) → is_word_class c ≡ false → is_semicolon_class c ≡ false → is_note_class c ≡ false
    → (role_of place.Start b c x n ≡ role.Stays) × (token_place_behind place.Start b c x n ≡ front_place c)
unfolding role_of token_place_behind place_behind_sign front_place
start_sign b class.Word x n e f g = absurd (true≢false e)
start_sign b class.Semicolon x n e f g = absurd (true≢false f)
start_sign b class.Note x n e f g = absurd (true≢false g)
start_sign b class.Number x n e f g = (refl, refl)
start_sign b class.Dot x n e f g = (refl, refl)
start_sign b class.Assign x n e f g = (refl, refl)
start_sign b class.Colon x n e f g = (refl, refl)
start_sign b class.OpenBracket x n e f g = (refl, refl)
start_sign b class.OpenParen x n e f g = (refl, refl)
start_sign b class.CloseParen x n e f g = (refl, refl)
start_sign b class.Pointer x n e f g = (refl, refl)
start_sign b class.Other x n e f g = (refl, refl)

-- a token with which a statement begins
begins_word : (x : List ℕ) → not (is_word_in_list network_words x && not (is_word_in_list block_end_words x)) && not (is_word_in_list block_end_words x) ≡ true
    → (is_word_in_list block_end_words x ≡ false) × (is_word_in_list network_words x ≡ false)
begins_word x e = by (is_word_in_list network_words x) (is_word_in_list block_end_words x) e
  where
    by : (a c : Bool) → not (a && not c) && not c ≡ true → (c ≡ false) × (a ≡ false)
    by true true h = absurd (false≢true h)
    by true false h = absurd (false≢true h)
    by false true h = absurd (false≢true h)
    by false false h = (refl, refl)

begins_other : (c : TokenClass) (x : List ℕ) → is_word_class c ≡ false → not (stands_between_statements c x) && not (is_body_end c x) ≡ true → is_note_class c ≡ false
begins_other class.Word x e h = absurd (true≢false e)
begins_other class.Note x e h = absurd (false≢true h)
begins_other class.Number x e h = refl
begins_other class.Semicolon x e h = refl
begins_other class.Dot x e h = refl
begins_other class.Assign x e h = refl
begins_other class.Colon x e h = refl
begins_other class.OpenBracket x e h = refl
begins_other class.OpenParen x e h = refl
begins_other class.CloseParen x e h = refl
begins_other class.Pointer x e h = refl
begins_other class.Other x e h = refl

begins_at : (c : TokenClass) (x : List ℕ) → c ≡ class.Word → not (stands_between_statements c x) && not (is_body_end c x) ≡ true
    → not (is_word_in_list network_words x && not (is_word_in_list block_end_words x)) && not (is_word_in_list block_end_words x) ≡ true
begins_at c x is h = subst (λ k. not (stands_between_statements k x) && not (is_body_end k x) ≡ true) is h

start_front : (s : List ℕ) (b : TokenClass) (t : Token) (n : TokenClass) → is_semicolon_class (token_class_in s t) ≡ false
    → not (stands_between_statements (token_class_in s t) (text_of s t)) && not (is_body_end (token_class_in s t) (text_of s t)) ≡ true
    → (is_word_class (token_class_in s t) ≡ true → is_colon_class n ≡ false) → IsFront s place.Start b t n
start_front s b t n e begins free = record {
  word_role = λ word.
      let is : token_class_in s t ≡ class.Word = word_class (token_class_in s t) word in
      let parts = begins_word (text_of s t) (begins_at (token_class_in s t) (text_of s t) is begins) in
      ap (λ c. role_of place.Start b c (text_of s t) n) is ∙ (start_word b (text_of s t) n parts.0 parts.1 (free word)).0;
  word_behind = λ word.
      let is : token_class_in s t ≡ class.Word = word_class (token_class_in s t) word in
      let parts = begins_word (text_of s t) (begins_at (token_class_in s t) (text_of s t) is begins) in
      ap (λ c. token_place_behind place.Start b c (text_of s t) n) is ∙ (start_word b (text_of s t) n parts.0 parts.1 (free word)).1;
  sign_role = λ other. (start_sign b (token_class_in s t) (text_of s t) n other e (begins_other (token_class_in s t) (text_of s t) other begins)).0;
  sign_behind = λ other. (start_sign b (token_class_in s t) (text_of s t) n other e (begins_other (token_class_in s t) (text_of s t) other begins)).1;
}

-- a label and its `:`
label_word : (b : TokenClass) (x : List ℕ) → is_word_in_list block_end_words x ≡ false → is_word_in_list network_words x ≡ false
    → (role_of place.Start b class.Word x class.Colon ≡ role.Stays) × (token_place_behind place.Start b class.Word x class.Colon ≡ place.Label)
unfolding role_of role_of_word role_at_start token_place_behind place_behind_word place_behind_start
label_word b x e f = rw (e, f) (refl, refl)

label_colon : (b : TokenClass) (x : List ℕ) (n : TokenClass)
    → (role_of place.Label b class.Colon x n ≡ role.Stays) × (token_place_behind place.Label b class.Colon x n ≡ place.Labelled)
unfolding role_of token_place_behind place_behind_sign
label_colon b x n = (refl, refl)

colon_class : (c : TokenClass) → is_colon_class c ≡ true → c ≡ class.Colon
colon_class class.Colon e = refl
colon_class class.Word e = absurd (false≢true e)
colon_class class.Number e = absurd (false≢true e)
colon_class class.Note e = absurd (false≢true e)
colon_class class.Semicolon e = absurd (false≢true e)
colon_class class.Dot e = absurd (false≢true e)
colon_class class.Assign e = absurd (false≢true e)
colon_class class.OpenBracket e = absurd (false≢true e)
colon_class class.OpenParen e = absurd (false≢true e)
colon_class class.CloseParen e = absurd (false≢true e)
colon_class class.Pointer e = absurd (false≢true e)
colon_class class.Other e = absurd (false≢true e)

semicolon_no_colon : (c : TokenClass) → is_semicolon_class c ≡ true → is_colon_class c ≡ false
semicolon_no_colon c e = ap is_colon_class (semicolon_class c e)

with_label : (s : List ℕ) (b : TokenClass) (t u : Token) (inside : List Token) (semicolon : Token) (rest : List Token) → Ends s inside semicolon
    → token_class_in s t ≡ class.Word → token_class_in s u ≡ class.Colon → (is_word_in_list block_end_words (text_of s t) ≡ false) × (is_word_in_list network_words (text_of s t) ≡ false)
    → roles_from s place.Start b (t ∷ u ∷ (inside ++ semicolon ∷ rest))
    ≡ role.Stays ∷ role.Stays ∷ (instruction_roles s (inside ++ semicolon ∷ []) ++ Next s rest)
with_label s b t u inside semicolon rest h word colon free =
    let first = label_word b (text_of s t) free.0 free.1 in
    let second = label_colon (token_class_in s t) (text_of s u) (next_class s (inside ++ semicolon ∷ rest)) in
    step s place.Start place.Label b t (u ∷ (inside ++ semicolon ∷ rest)) role.Stays (role.Stays ∷ (instruction_roles s (inside ++ semicolon ∷ []) ++ Next s rest))
    (ap (λ c. role_of place.Start b c (text_of s t) (token_class_in s u)) word ∙ ap (λ c. role_of place.Start b class.Word (text_of s t) c) colon ∙ first.0)
    (ap (λ c. token_place_behind place.Start b c (text_of s t) (token_class_in s u)) word ∙ ap (λ c. token_place_behind place.Start b class.Word (text_of s t) c) colon ∙ first.1)
    (step s place.Label place.Labelled (token_class_in s t) u (inside ++ semicolon ∷ rest) role.Stays (instruction_roles s (inside ++ semicolon ∷ []) ++ Next s rest)
    (ap (λ c. role_of place.Label (token_class_in s t) c (text_of s u) (next_class s (inside ++ semicolon ∷ rest))) colon ∙ second.0)
    (ap (λ c. token_place_behind place.Label (token_class_in s t) c (text_of s u) (next_class s (inside ++ semicolon ∷ rest))) colon ∙ second.1)
    (labelled_rest s (token_class_in s u) inside semicolon rest h))

pub statements_have_roles : StatementsHaveRoles
statements_have_roles s b [] semicolon rest begins none is = alone_roles s place.Start b semicolon rest refl is
statements_have_roles s b (t ∷ []) semicolon rest begins none is =
    front_rest s place.Start b t [] semicolon rest (record { none = tt; is = is })
    (start_front s b t (token_class_in s semicolon) none.0 begins (λ word. semicolon_no_colon (token_class_in s semicolon) is))
    ∙ unlabelled (is_word_class (token_class_in s t)) (is_colon_class (token_class_in s semicolon)) (semicolon_no_colon (token_class_in s semicolon) is)
  where
    unlabelled : (a c : Bool) → c ≡ false → instruction_roles s (t ∷ semicolon ∷ []) ++ Next s rest
        ≡ (if a && c then role.Stays ∷ role.Stays ∷ instruction_roles s [] else instruction_roles s (t ∷ semicolon ∷ [])) ++ Next s rest
    unlabelled true true e = absurd (true≢false e)
    unlabelled true false e = refl
    unlabelled false c e = refl
statements_have_roles s b (t ∷ u ∷ inside) semicolon rest begins none is =
    by (is_word_class (token_class_in s t)) (is_colon_class (token_class_in s u)) refl refl
  where
    ends : Ends s (u ∷ inside) semicolon
    ends = record { none = none.1; is = is }

    plain : (is_word_class (token_class_in s t) ≡ true → is_colon_class (token_class_in s u) ≡ false)
        → roles_from s place.Start b (t ∷ u ∷ (inside ++ semicolon ∷ rest)) ≡ instruction_roles s (t ∷ u ∷ (inside ++ semicolon ∷ [])) ++ Next s rest
    plain free = front_rest s place.Start b t (u ∷ inside) semicolon rest ends (start_front s b t (token_class_in s u) none.0 begins free)

    by : (a c : Bool) → is_word_class (token_class_in s t) ≡ a → is_colon_class (token_class_in s u) ≡ c
        → roles_from s place.Start b (t ∷ u ∷ (inside ++ semicolon ∷ rest))
        ≡ (if a && c then role.Stays ∷ role.Stays ∷ instruction_roles s (inside ++ semicolon ∷ [])
        else instruction_roles s (t ∷ u ∷ (inside ++ semicolon ∷ []))) ++ Next s rest
    by true true e f =
        let word : token_class_in s t ≡ class.Word = word_class (token_class_in s t) e in
        with_label s b t u inside semicolon rest (one_less s u inside semicolon ends) word (colon_class (token_class_in s u) f)
        (begins_word (text_of s t) (begins_at (token_class_in s t) (text_of s t) word begins))
    by true false e f = plain (λ word. f)
    by false c e f = plain (λ word. absurd (true≢false (sym word ∙ e)))

-- ---- between statements, and outside of bodies

between_place : (b c : TokenClass) (x : List ℕ) (n : TokenClass) → stands_between_statements c x ≡ true
    → (role_of place.Start b c x n ≡ role.Stays) × (token_place_behind place.Start b c x n ≡ place.Start)
unfolding role_of role_of_word role_at_start token_place_behind place_behind_word place_behind_start place_behind_sign
between_place b class.Word x n e =
    let parts = and_parts (is_word_in_list network_words x) (not (is_word_in_list block_end_words x)) e in
    let free : is_word_in_list block_end_words x ≡ false = not-true (is_word_in_list block_end_words x) parts.1 in
    rw (free, parts.0) (refl, refl)
between_place b class.Note x n e = (refl, refl)
between_place b class.Number x n e = absurd (false≢true e)
between_place b class.Semicolon x n e = absurd (false≢true e)
between_place b class.Dot x n e = absurd (false≢true e)
between_place b class.Assign x n e = absurd (false≢true e)
between_place b class.Colon x n e = absurd (false≢true e)
between_place b class.OpenBracket x n e = absurd (false≢true e)
between_place b class.OpenParen x n e = absurd (false≢true e)
between_place b class.CloseParen x n e = absurd (false≢true e)
between_place b class.Pointer x n e = absurd (false≢true e)
between_place b class.Other x n e = absurd (false≢true e)

end_place : (b c : TokenClass) (x : List ℕ) (n : TokenClass) → is_body_end c x ≡ true
    → (role_of place.Start b c x n ≡ role.Stays) × (token_place_behind place.Start b c x n ≡ place.Outside)
unfolding role_of role_of_word role_at_start token_place_behind place_behind_word place_behind_start
end_place b class.Word x n e = rw e (refl, refl)
end_place b class.Number x n e = absurd (false≢true e)
end_place b class.Note x n e = absurd (false≢true e)
end_place b class.Semicolon x n e = absurd (false≢true e)
end_place b class.Dot x n e = absurd (false≢true e)
end_place b class.Assign x n e = absurd (false≢true e)
end_place b class.Colon x n e = absurd (false≢true e)
end_place b class.OpenBracket x n e = absurd (false≢true e)
end_place b class.OpenParen x n e = absurd (false≢true e)
end_place b class.CloseParen x n e = absurd (false≢true e)
end_place b class.Pointer x n e = absurd (false≢true e)
end_place b class.Other x n e = absurd (false≢true e)

pub bodies_have_roles : BodiesHaveRoles
bodies_have_roles = record {
  between = λ s b t rest e.
      let facts = between_place b (token_class_in s t) (text_of s t) (next_class s rest) e in
      step s place.Start place.Start b t rest role.Stays (roles_from s place.Start (token_class_in s t) rest) facts.0 facts.1 refl;
  ends = λ s b t rest e.
      let facts = end_place b (token_class_in s t) (text_of s t) (next_class s rest) e in
      step s place.Start place.Outside b t rest role.Stays (roles_from s place.Outside (token_class_in s t) rest) facts.0 facts.1 refl;
}

outside_place : (b c : TokenClass) (x : List ℕ) (n : TokenClass)
    → (role_of place.Outside b c x n ≡ role.Stays) × (token_place_behind place.Outside b c x n ≡ place_outside b c x)
unfolding role_of role_of_word token_place_behind place_behind_word place_behind_outside place_behind_sign
outside_place b class.Word x n = (refl, refl)
outside_place b class.Number x n = (refl, refl)
outside_place b class.Note x n = (refl, refl)
outside_place b class.Semicolon x n = (refl, refl)
outside_place b class.Dot x n = (refl, refl)
outside_place b class.Assign x n = (refl, refl)
outside_place b class.Colon x n = (refl, refl)
outside_place b class.OpenBracket x n = (refl, refl)
outside_place b class.OpenParen x n = (refl, refl)
outside_place b class.CloseParen x n = (refl, refl)
outside_place b class.Pointer x n = (refl, refl)
outside_place b class.Other x n = (refl, refl)

head_word : (b : TokenClass) (x : List ℕ) → place_behind_head b x ≡ place_in_head b class.Word x
unfolding place_behind_head
head_word b x = by (may_be_keyword b) (is_word_in_list begin_words x) (is_word_in_list data_openings x)
  where
    by : (a c d : Bool) → (if a then (if c then place.Start else (if d then place.Outside else place.Head)) else place.Head)
        ≡ (if a && c then place.Start else (if a && d then place.Outside else place.Head))
    by true c d = refl
    by false c d = refl

head_place : (b c : TokenClass) (x : List ℕ) (n : TokenClass)
    → (role_of place.Head b c x n ≡ role.Stays) × (token_place_behind place.Head b c x n ≡ place_in_head b c x)
unfolding role_of role_of_word token_place_behind place_behind_word place_behind_sign
head_place b class.Word x n = (refl, head_word b x)
head_place b class.Number x n = (refl, refl)
head_place b class.Note x n = (refl, refl)
head_place b class.Semicolon x n = (refl, refl)
head_place b class.Dot x n = (refl, refl)
head_place b class.Assign x n = (refl, refl)
head_place b class.Colon x n = (refl, refl)
head_place b class.OpenBracket x n = (refl, refl)
head_place b class.OpenParen x n = (refl, refl)
head_place b class.CloseParen x n = (refl, refl)
head_place b class.Pointer x n = (refl, refl)
head_place b class.Other x n = (refl, refl)

pub others_stay : OthersStay
others_stay = record {
  outside = λ s b t rest.
      let facts = outside_place b (token_class_in s t) (text_of s t) (next_class s rest) in
      step s place.Outside (place_outside b (token_class_in s t) (text_of s t)) b t rest role.Stays
      (roles_from s (place_outside b (token_class_in s t) (text_of s t)) (token_class_in s t) rest) facts.0 facts.1 refl;
  head = λ s b t rest.
      let facts = head_place b (token_class_in s t) (text_of s t) (next_class s rest) in
      step s place.Head (place_in_head b (token_class_in s t) (text_of s t)) b t rest role.Stays
      (roles_from s (place_in_head b (token_class_in s t) (text_of s t)) (token_class_in s t) rest) facts.0 facts.1 refl;
}
