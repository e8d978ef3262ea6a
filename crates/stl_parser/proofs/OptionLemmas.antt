-- What holds of whatever a reader finds.
use Rattle.std.proofs.Common.{arith, ℕ, zero, suc, ◌≡◌, ◌≤◌, Bool, true, false, List, [], ◌∷◌, ◌++◌, Option, Some, None, if◌then◌else◌, refl, subst}
use Rattle.std.specs.Prelude.{nat_le, find}
use Rattle.std.specs.List.{AllByRecursion, list_all}
use Rattle.std.specs.Str.{str_eq_ignore_ascii_case}
use Rattle.std.proofs.lemmas.Bool.Decides.{nat_tests}
use Rattle.stl_lexer.specs.declared.kinds.Token.{Token}
use Rattle.stl_parser.specs.Parts.{parts_from, complete_reading}
use Rattle.stl_parser.specs.Tables.{look_up}
use Rattle.std.specs.Option.{option_map, option_or, option_and_then, IfSome}
use Rattle.std.proofs.lemmas.Option.{same_Some}
use Rattle.plc_base.proofs.TruthLemmas.{and_first, and_second}

pub map_holds : {A B : Type 0} (o : Option A) (f : A → B) (Q : A → Type 0) (P : B → Type 0) → IfSome o Q → ((x : A) → Q x → P (f x)) →
    IfSome (option_map f o) P
map_holds None f Q P h k = tt
map_holds (Some x) f Q P h k = k x h

pub chain_holds : {A B : Type 0} (o : Option A) (f : A → Option B) (Q : A → Type 0) (P : B → Type 0) → IfSome o Q →
    ((x : A) → Q x → IfSome (f x) P) → IfSome (option_and_then f o) P
chain_holds None f Q P h k = tt
chain_holds (Some x) f Q P h k = k x h

pub either : {A : Type 0} (a b : Option A) (P : A → Type 0) → IfSome a P → IfSome b P → IfSome (option_or a b) P
either None b P h k = k
either (Some x) b P h k = h

-- in both branches of a test
pub both : {A : Type 0} (b : Bool) (x y : Option A) (P : A → Type 0) → IfSome x P → IfSome y P → IfSome (if b then x else y) P
both true x y P h k = h
both false x y P h k = k

-- where a test passes
pub then_holds : {A : Type 0} (b : Bool) (x : Option A) (P : A → Type 0) → (b ≡ true → IfSome x P) → IfSome (if b then x else None) P
then_holds true x P h = h refl
then_holds false x P h = tt

pub none_holds : {A : Type 0} (o : Option A) → IfSome o (λ x. Unit {0})
none_holds None = tt
none_holds (Some x) = tt

pub some_holds : {A : Type 0} (o : Option A) (x : A) (P : A → Type 0) → o ≡ Some x → IfSome o P → P x
some_holds None x P found h = cc
some_holds (Some y) x P found h = subst P (same_Some y x found) h

-- what is shown of a value that is found
pub search_holds : {A : Type 0} (o : Option A) (P : A → Type 0) → ((x : A) → o ≡ Some x → P x) → IfSome o P
search_holds None P k = tt
search_holds (Some x) P k = k x refl

pub weaker_holds : {A : Type 0} (o : Option A) (P Q : A → Type 0) → IfSome o P → ((x : A) → P x → Q x) → IfSome o Q
weaker_holds None P Q h k = tt
weaker_holds (Some x) P Q h k = k x h

-- and what else is known of it
pub also : {A : Type 0} (o : Option A) (P Q : A → Type 0) → IfSome o P → ((x : A) → o ≡ Some x → Q x) → IfSome o (λ x. P x × Q x)
also None P Q h k = tt
also (Some x) P Q h k = (h, k x refl)

pub at_most : (m n : ℕ) → nat_le m n ≡ true → m ≤ n
at_most m n test = grind (arith, nat_tests)

-- what is left is nothing
pub whole_holds : {X : Type 0} (o : Option (X × List Token)) (P : X → Type 0) → IfSome o (λ r. P r.0) → IfSome (complete_reading o) P
whole_holds None P h = tt
whole_holds (Some (x, [])) P h = h
whole_holds (Some (x, t ∷ ts)) P h = tt

-- what holds at first, and with each part that is read, holds at the end
pub parts_hold : {X Y : Type 0} (end : List Token → Option Y) (part : List Token → Option (X × List Token)) (read : List X) (n : ℕ)
    (tokens : List Token) (R : List X → List Token → Type 0) (Q : List X → Type 0) → R read tokens →
    ((xs : List X) (ts : List Token) → R xs ts → IfSome (part ts) (λ r. R (xs ++ r.0 ∷ []) r.1)) →
    ((xs : List X) (ts : List Token) → R xs ts → Q xs) → IfSome (parts_from end part read n tokens) (λ r. Q r.0)
unfolding parts_from
parts_hold end part read zero tokens R Q h more last =
    map_holds (end tokens) _ (λ y. Unit {0}) (λ r. Q r.0) (none_holds (end tokens)) (λ y k. last read tokens h)
parts_hold end part read (suc n) tokens R Q h more last =
    either (option_map (λ y. (read, y)) (end tokens)) _ (λ r. Q r.0)
    (map_holds (end tokens) _ (λ y. Unit {0}) (λ r. Q r.0) (none_holds (end tokens)) (λ y k. last read tokens h))
    (chain_holds (part tokens) _ (λ r. R (read ++ r.0 ∷ []) r.1) (λ r. Q r.0) (more read tokens h)
    (λ r k. parts_hold end part (read ++ r.0 ∷ []) n r.1 R Q k more last))

pub all_push : {X : Type 0} (P : X → Type 0) (xs : List X) (x : X) → AllByRecursion P xs → P x → AllByRecursion P (xs ++ x ∷ [])
all_push P [] x all one = (one, tt)
all_push P (y ∷ ys) x all one = (all.0, all_push P ys x all.1 one)

-- the entry in front, or one behind it
entry_or : {X : Type 0} (b : Bool) (e : List ℕ × X) (o : Option (List ℕ × X)) (test : X → Bool) → test e.1 ≡ true →
    IfSome (option_map (λ f. f.1) o) (λ x. test x ≡ true) → IfSome (option_map (λ f. f.1) (if b then Some e else o)) (λ x. test x ≡ true)
entry_or true e o test h k = h
entry_or false e o test h k = k

-- an entry of a table that is found passes what all entries pass
pub entry_passes : {X : Type 0} (table : List (List ℕ × X)) (word : List ℕ) (test : X → Bool) → list_all (λ e. test e.1) table ≡ true →
    IfSome (look_up table word) (λ x. test x ≡ true)
unfolding look_up
entry_passes [] word test all = tt
entry_passes (e ∷ es) word test all =
    entry_or (str_eq_ignore_ascii_case word e.0) e (find (λ f. str_eq_ignore_ascii_case word f.0) es) test
    (and_first (test e.1) _ all) (entry_passes es word test (and_second (test e.1) _ all))

-- where a test fails
pub else_holds : {A : Type 0} (b : Bool) (x : Option A) (P : A → Type 0) → (b ≡ false → IfSome x P) → IfSome (if b then None else x) P
else_holds true x P h = tt
else_holds false x P h = h refl
