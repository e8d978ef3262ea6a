-- Two readings that agree, of tokens that are alike.
use Rattle.std.proofs.Common.{ℕ, zero, suc, ◌≡◌, Bool, true, false, List, [], ◌∷◌, ◌++◌, length, drop, Option, Some, None, if◌then◌else◌, refl, sym, ◌∙◌, ap}
use Rattle.std.specs.Prelude.{◌⊎◌, is_some}
use Rattle.std.specs.Option.{option_map, option_or, option_and_then}
use Rattle.stl_lexer.specs.declared.kinds.Token.{Token}
use Rattle.stl_parser.specs.Parts.{parts_from, complete_reading}
use Rattle.stl_lexer.specs.declared.kinds.TokenKind.TheVariants as kind
use Rattle.stl_lexer.specs.declared.marks.Mark.TheVariants as mark
use Rattle.stl_lexer.specs.Tokens.{text_of}
use Rattle.stl_symbols.specs.declared.languages.Language.TheVariants.{English}
use Rattle.stl_parser.specs.Addresses.{letter_count}
use Rattle.stl_parser.specs.Tables.{flags, look_up}
use Rattle.stl_parser.specs.Terminals.{has_kind, is_mark}
use Rattle.translation_laws.specs.Alike.{IsSameWordButForCase, IsOperandWordAsLocal, IsSameToken}
use Rattle.de_mnemonics.specs.Words.{operand_partner}

-- none in both, or values that agree
abbrev AgreeIn : {X : Type 0} → (X → X → Type 0) → Option X → Option X → Type 0
AgreeIn R None None = Unit {0}
AgreeIn R (Some x) (Some y) = R x y
AgreeIn R _ _ = ⊥

pub record Agree {X : Type 0} (R : X → X → Type 0) (o o' : Option X) : Type 0 where
  pub agree : AgreeIn R o o'

pub nothing : {X : Type 0} {R : X → X → Type 0} → Agree R None None
nothing = record { agree = tt }

pub something : {X : Type 0} {R : X → X → Type 0} {x y : X} → R x y → Agree R (Some x) (Some y)
something r = record { agree = r }

-- the same value in both
abbrev pub Equal : {X : Type 0} → X → X → Type 0
Equal x y = x ≡ y

pub equal : {X : Type 0} (o o' : Option X) → o ≡ o' → Agree Equal o o'
equal None o' e = rw (sym e) nothing
equal (Some x) o' e = rw (sym e) (something refl)

pub same_option : {X : Type 0} (o o' : Option X) → Agree Equal o o' → o ≡ o'
same_option None None a = refl
same_option (Some x) (Some y) a = ap Some a.agree
same_option None (Some y) a = absurd a.agree
same_option (Some x) None a = absurd a.agree

pub agree_mapped : {X Y : Type 0} {R : X → X → Type 0} {Q : Y → Y → Type 0} {o o' : Option X} (f g : X → Y)
    → Agree R o o' → ((x y : X) → R x y → Q (f x) (g y)) → Agree Q (option_map f o) (option_map g o')
agree_mapped {o = None} {o' = None} f g a h = nothing
agree_mapped {o = Some x} {o' = Some y} f g a h = something (h x y a.agree)
agree_mapped {o = None} {o' = Some y} f g a h = absurd a.agree
agree_mapped {o = Some x} {o' = None} f g a h = absurd a.agree

pub agree_chained : {X Y : Type 0} {R : X → X → Type 0} {Q : Y → Y → Type 0} {o o' : Option X} (f g : X → Option Y)
    → Agree R o o' → ((x y : X) → R x y → Agree Q (f x) (g y)) → Agree Q (option_and_then f o) (option_and_then g o')
agree_chained {o = None} {o' = None} f g a h = nothing
agree_chained {o = Some x} {o' = Some y} f g a h = h x y a.agree
agree_chained {o = None} {o' = Some y} f g a h = absurd a.agree
agree_chained {o = Some x} {o' = None} f g a h = absurd a.agree

pub either : {X : Type 0} {R : X → X → Type 0} {a b c d : Option X} → Agree R a c → Agree R b d → Agree R (option_or a b) (option_or c d)
either {a = None} {c = None} x y = y
either {a = Some p} {c = Some q} x y = something x.agree
either {a = None} {c = Some q} x y = absurd x.agree
either {a = Some p} {c = None} x y = absurd x.agree

pub agree_chosen : {X : Type 0} {R : X → X → Type 0} {x y : Bool} {a b c d : Option X}
    → x ≡ y → Agree R a c → Agree R b d → Agree R (if x then a else b) (if y then c else d)
agree_chosen {x = true} {y = true} e h g = h
agree_chosen {x = false} {y = false} e h g = g
agree_chosen {x = true} {y = false} e h g = absurd cc
agree_chosen {x = false} {y = true} e h g = absurd cc

-- a test that passes, or nothing
pub agree_tested : {X : Type 0} {R : X → X → Type 0} {x y : Bool} {a c : Option X}
    → x ≡ y → (x ≡ true → Agree R a c) → Agree R (if x then a else None) (if y then c else None)
agree_tested {x = true} {y = true} e h = h refl
agree_tested {x = false} {y = false} e h = nothing
agree_tested {x = true} {y = false} e h = absurd cc
agree_tested {x = false} {y = true} e h = absurd cc

-- where a test passes
pub agree_guarded : {X : Type 0} {R : X → X → Type 0} {a c : Option X} (b : Bool) → Agree R a c → Agree R (if b then a else None) (if b then c else None)
agree_guarded true h = h
agree_guarded false h = nothing

-- what a test decides
pub agree_decided : {X : Type 0} {R : X → X → Type 0} {x y : Bool} {a b c d : Option X}
    → x ≡ y → (x ≡ true → Agree R a c) → (x ≡ false → Agree R b d) → Agree R (if x then a else b) (if y then c else d)
agree_decided {x = true} {y = true} e h g = h refl
agree_decided {x = false} {y = false} e h g = g refl
agree_decided {x = true} {y = false} e h g = absurd cc
agree_decided {x = false} {y = true} e h g = absurd cc

pub if_same : {X : Type 0} {x y : Bool} {a b c d : X} → x ≡ y → (x ≡ true → a ≡ c) → (x ≡ false → b ≡ d)
    → (if x then a else b) ≡ (if y then c else d)
if_same {x = true} {y = true} e h g = h refl
if_same {x = false} {y = false} e h g = g refl
if_same {x = true} {y = false} e h g = absurd cc
if_same {x = false} {y = true} e h g = absurd cc

-- ---- what the second finds where the first does

abbrev FollowsIn : {X : Type 0} → (X → X → Type 0) → Option X → Option X → Type 0
FollowsIn R None o' = Unit {0}
FollowsIn R (Some x) (Some y) = R x y
FollowsIn R (Some x) None = ⊥

pub record Follows {X : Type 0} (R : X → X → Type 0) (o o' : Option X) : Type 0 where
  pub follows : FollowsIn R o o'

pub also : {X : Type 0} {R : X → X → Type 0} {o o' : Option X} → Agree R o o' → Follows R o o'
also {o = None} {o' = None} a = record { follows = tt }
also {o = Some x} {o' = Some y} a = record { follows = a.agree }
also {o = None} {o' = Some y} a = absurd a.agree
also {o = Some x} {o' = None} a = absurd a.agree

-- nothing is asked where nothing is found
pub of_none : {X : Type 0} {R : X → X → Type 0} (o o' : Option X) → o ≡ None → Follows R o o'
of_none o o' e = rw e (record { follows = tt })

pub some_follows : {X : Type 0} {o o' : Option X} (x : X) → Follows Equal o o' → o ≡ Some x → o' ≡ Some x
some_follows {o = None} x f e = absurd cc
some_follows {o = Some y} {o' = Some z} x f e = ap Some (sym f.follows) ∙ e
some_follows {o = Some y} {o' = None} x f e = absurd f.follows

pub then_mapped : {X Y : Type 0} {R : X → X → Type 0} {Q : Y → Y → Type 0} {o o' : Option X} (f g : X → Y)
    → Follows R o o' → ((x y : X) → R x y → Q (f x) (g y)) → Follows Q (option_map f o) (option_map g o')
then_mapped {o = None} f g a h = record { follows = tt }
then_mapped {o = Some x} {o' = Some y} f g a h = record { follows = h x y a.follows }
then_mapped {o = Some x} {o' = None} f g a h = absurd a.follows

pub then_either : {X : Type 0} {R : X → X → Type 0} {a b c d : Option X} → Agree R a c → Follows R b d → Follows R (option_or a b) (option_or c d)
then_either {a = None} {c = None} x y = y
then_either {a = Some p} {c = Some q} x y = record { follows = x.agree }
then_either {a = None} {c = Some q} x y = absurd x.agree
then_either {a = Some p} {c = None} x y = absurd x.agree

pub then_decided : {X : Type 0} {R : X → X → Type 0} {x y : Bool} {a b c d : Option X}
    → x ≡ y → (x ≡ true → Follows R a c) → (x ≡ false → Follows R b d) → Follows R (if x then a else b) (if y then c else d)
then_decided {x = true} {y = true} e h g = h refl
then_decided {x = false} {y = false} e h g = g refl
then_decided {x = true} {y = false} e h g = absurd cc
then_decided {x = false} {y = true} e h g = absurd cc

pub then_nothing : {X : Type 0} {R : X → X → Type 0} {o : Option X} → Follows R None o
then_nothing = record { follows = tt }

-- ---- tokens in pairs

-- a name that got its `#`, which is no number's letters where it is a word of English
pub record IsName (s e : List ℕ) (t u : Token) : Type 0 where
  pub named : IsOperandWordAsLocal s e t u
  pub alone : (is_some (operand_partner English (text_of s t)) ≡ true)
      ⊎ ((drop (letter_count (text_of s t)) (text_of s t) ≡ []) × (look_up flags (text_of s t) ≡ None))

-- two tokens come of one another
abbrev pub Like : (s e : List ℕ) → Token → Token → Type 0
Like s e t u = IsSameToken s e t u ⊎ (IsSameWordButForCase s e t u ⊎ IsName s e t u)

-- a token of one source beside one of the other
pub record Pair (s e : List ℕ) : Type 0 where
  pub left : Token
  pub right : Token
  pub like : Like s e left right

-- the first of them is the same in both
abbrev pub IsSamePair : {s e : List ℕ} → Pair s e → Type 0
IsSamePair {s = s} {e = e} p = IsSameToken s e p.left p.right

-- it is a name that got its `#`
abbrev pub IsNamedPair : {s e : List ℕ} → Pair s e → Type 0
IsNamedPair {s = s} {e = e} p = IsName s e p.left p.right

-- neither a number nor a `[` stands there
abbrev pub OpensNone : {s e : List ℕ} → Pair s e → Type 0
OpensNone {s = s} p = (has_kind p.left kind.Number ≡ false) × (is_mark s p.left mark.OpenBracket ≡ false)

abbrev pub lefts : {s e : List ℕ} → List (Pair s e) → List Token
lefts [] = []
lefts (p ∷ ps) = p.left ∷ lefts ps

abbrev pub rights : {s e : List ℕ} → List (Pair s e) → List Token
rights [] = []
rights (p ∷ ps) = p.right ∷ rights ps

-- what follows in both is some of the pairs
pub record Rests (s e : List ℕ) (F : List (Pair s e) → Type 0) (a b : List Token) : Type 0 where
  pub pairs : List (Pair s e)
  pub fits : F pairs
  pub left : lefts pairs ≡ a
  pub right : rights pairs ≡ b

pub rest : (s e : List ℕ) (F : List (Pair s e) → Type 0) (ps : List (Pair s e)) → F ps → Rests s e F (lefts ps) (rights ps)
rest s e F ps h = record { pairs = ps; fits = h; left = refl; right = refl }

-- the same value, and what follows
abbrev pub Behind : (s e : List ℕ) (F : List (Pair s e) → Type 0) {X : Type 0} → X × List Token → X × List Token → Type 0
Behind s e F p q = (p.0 ≡ q.0) × Rests s e F p.1 q.1

pub goes_on : {s e : List ℕ} {F : List (Pair s e) → Type 0} {X Y : Type 0} {Q : Y → Y → Type 0} {o o' : Option (X × List Token)} (f g : X × List Token → Option Y)
    → Agree (Behind s e F) o o' → ((x : X) (ps : List (Pair s e)) → F ps → Agree Q (f (x, lefts ps)) (g (x, rights ps)))
    → Agree Q (option_and_then f o) (option_and_then g o')
goes_on {o = None} {o' = None} f g a h = nothing
goes_on {o = Some (x, ts)} {o' = Some (y, us)} f g a h =
    rw (sym a.agree.0, sym a.agree.1.left, sym a.agree.1.right) (h x a.agree.1.pairs a.agree.1.fits)
goes_on {o = None} {o' = Some y} f g a h = absurd a.agree
goes_on {o = Some x} {o' = None} f g a h = absurd a.agree

-- two values that are the same, and what follows
abbrev pub SameValueAndRest : (s e : List ℕ) (F : List (Pair s e) → Type 0) {X : Type 0} → X × ℕ × List Token → X × ℕ × List Token → Type 0
SameValueAndRest s e F p q = (p.0 ≡ q.0) × (p.1 ≡ q.1) × Rests s e F p.2 q.2

pub numbers_on : {s e : List ℕ} {F : List (Pair s e) → Type 0} {X Y : Type 0} {Q : Y → Y → Type 0} {o o' : Option (X × ℕ × List Token)}
    (f g : X × ℕ × List Token → Option Y)
    → Agree (SameValueAndRest s e F) o o' → ((x : X) (n : ℕ) (ps : List (Pair s e)) → F ps → Agree Q (f (x, n, lefts ps)) (g (x, n, rights ps)))
    → Agree Q (option_and_then f o) (option_and_then g o')
numbers_on {o = None} {o' = None} f g a h = nothing
numbers_on {o = Some (x, n, ts)} {o' = Some (y, m, us)} f g a h =
    rw (sym a.agree.0, sym a.agree.1, sym a.agree.2.left, sym a.agree.2.right) (h x n a.agree.2.pairs a.agree.2.fits)
numbers_on {o = None} {o' = Some y} f g a h = absurd a.agree
numbers_on {o = Some x} {o' = None} f g a h = absurd a.agree

pub then_goes_on : {s e : List ℕ} {F : List (Pair s e) → Type 0} {X Y : Type 0} {Q : Y → Y → Type 0} {o o' : Option (X × List Token)}
    (f g : X × List Token → Option Y)
    → Follows (Behind s e F) o o' → ((x : X) (ps : List (Pair s e)) → F ps → Follows Q (f (x, lefts ps)) (g (x, rights ps)))
    → Follows Q (option_and_then f o) (option_and_then g o')
then_goes_on {o = None} f g a h = record { follows = tt }
then_goes_on {o = Some (x, ts)} {o' = Some (y, us)} f g a h =
    rw (sym a.follows.0, sym a.follows.1.left, sym a.follows.1.right) (h x a.follows.1.pairs a.follows.1.fits)
then_goes_on {o = Some x} {o' = None} f g a h = absurd a.follows

-- what is read to the end
pub whole_same : {s e : List ℕ} {F : List (Pair s e) → Type 0} {X : Type 0} (o o' : Option (X × List Token)) → Agree (Behind s e F) o o' → complete_reading o ≡ complete_reading o'
whole_same None None a = refl
whole_same None (Some y) a = absurd a.agree
whole_same (Some x) None a = absurd a.agree
whole_same {s = s} {e = e} (Some (x, ts)) (Some (y, us)) a = rw (sym a.agree.0, sym a.agree.1.left, sym a.agree.1.right) (by a.agree.1.pairs)
  where
    by : (ps : List (Pair s e)) → complete_reading (Some (x, lefts ps)) ≡ complete_reading (Some (x, rights ps))
    by [] = refl
    by (p ∷ ps) = refl

pub counts : {s e : List ℕ} (ps : List (Pair s e)) → length (lefts ps) ≡ length (rights ps)
counts [] = refl
counts (p ∷ ps) = ap suc (counts ps)

-- parts that follow one another
pub parts_agree : {X Y : Type 0} (s e : List ℕ) (F : List (Pair s e) → Type 0) (Q : Y → Y → Type 0)
    (end end' : List Token → Option Y) (part part' : List Token → Option (X × List Token))
    → ((ps : List (Pair s e)) → F ps → Agree Q (end (lefts ps)) (end' (rights ps)))
    → ((ps : List (Pair s e)) → F ps → Agree (Behind s e F) (part (lefts ps)) (part' (rights ps)))
    → (read : List X) (n : ℕ) (ps : List (Pair s e)) → F ps
    → Agree (λ p q. (p.0 ≡ q.0) × Q p.1 q.1) (parts_from end part read n (lefts ps)) (parts_from end' part' read n (rights ps))
unfolding parts_from
parts_agree s e F Q end end' part part' ends parts read zero ps h = agree_mapped _ _ (ends ps h) (λ x y k. (refl, k))
parts_agree s e F Q end end' part part' ends parts read (suc n) ps h =
    either (agree_mapped _ _ (ends ps h) (λ x y k. (refl, k)))
    (goes_on _ _ (parts ps h) (λ x qs k. parts_agree s e F Q end end' part part' ends parts (read ++ x ∷ []) n qs k))

pub parts_follow : {X Y : Type 0} (s e : List ℕ) (F : List (Pair s e) → Type 0) (Q : Y → Y → Type 0)
    (end end' : List Token → Option Y) (part part' : List Token → Option (X × List Token))
    → ((ps : List (Pair s e)) → F ps → Agree Q (end (lefts ps)) (end' (rights ps)))
    → ((ps : List (Pair s e)) → F ps → Follows (Behind s e F) (part (lefts ps)) (part' (rights ps)))
    → (read : List X) (n : ℕ) (ps : List (Pair s e)) → F ps
    → Follows (λ p q. (p.0 ≡ q.0) × Q p.1 q.1) (parts_from end part read n (lefts ps)) (parts_from end' part' read n (rights ps))
unfolding parts_from
parts_follow s e F Q end end' part part' ends parts read zero ps h = also (agree_mapped _ _ (ends ps h) (λ x y k. (refl, k)))
parts_follow s e F Q end end' part part' ends parts read (suc n) ps h =
    then_either (agree_mapped _ _ (ends ps h) (λ x y k. (refl, k)))
    (then_goes_on _ _ (parts ps h) (λ x qs k. parts_follow s e F Q end end' part part' ends parts (read ++ x ∷ []) n qs k))

-- what is read to the end
pub whole_follows : {s e : List ℕ} {F : List (Pair s e) → Type 0} {X : Type 0} (o o' : Option (X × List Token)) → Follows (Behind s e F) o o'
    → Follows Equal (complete_reading o) (complete_reading o')
whole_follows None o' a = record { follows = tt }
whole_follows (Some x) None a = absurd a.follows
whole_follows {s = s} {e = e} (Some (x, ts)) (Some (y, us)) a = rw (sym a.follows.0, sym a.follows.1.left, sym a.follows.1.right) (by a.follows.1.pairs)
  where
    by : (ps : List (Pair s e)) → Follows Equal (complete_reading (Some (x, lefts ps))) (complete_reading (Some (x, rights ps)))
    by [] = record { follows = refl }
    by (p ∷ ps) = record { follows = tt }
