-- The longest token of all kinds.
use Rattle.std.proofs.Common.{◌≡◌, ℕ, suc, ◌<◌, ◌≤◌, ◌⊎◌, List, [], ◌∷◌, get_or, Option, None, Some, MatchOption, inl, inr, refl, sym, ◌∙◌, ap, subst, arith, lit<}
use Rattle.std.proofs.lemmas.Bool.{cases_lt, lt-ltb, le-ltb}
use Rattle.stl_lexer.specs.declared.kinds.TokenKind.{TokenKind}
use Rattle.stl_lexer.specs.declared.kinds.TokenKind.TheVariants.{Word, Number, Quoted, Local, Characters, Based, NumberLiteral, TimeLiteral, Mark, SignWord, Attribute, Title}
use Rattle.stl_lexer.specs.declared.places.FoundToken.{FoundToken}
use Rattle.stl_lexer.specs.Forms.{has_form}
use Rattle.stl_lexer.specs.Longest.{IsFormAt, IsLongestOfForm, IsLongestToken, HasNoneOfForm, HasNoForm, FindsLongest, kind_rank, better_of}

kinds : List TokenKind
kinds = Word ∷ Number ∷ Quoted ∷ Local ∷ Characters ∷ Based ∷ NumberLiteral ∷ TimeLiteral ∷ Mark ∷ SignWord ∷ Attribute ∷ Title ∷ []

kind_at_rank : (k : TokenKind) → get_or kinds (kind_rank k) Word ≡ k
unfolding kinds
kind_at_rank Word = refl
kind_at_rank Number = refl
kind_at_rank Quoted = refl
kind_at_rank Local = refl
kind_at_rank Characters = refl
kind_at_rank Based = refl
kind_at_rank NumberLiteral = refl
kind_at_rank TimeLiteral = refl
kind_at_rank Mark = refl
kind_at_rank SignWord = refl
kind_at_rank Attribute = refl
kind_at_rank Title = refl

-- each kind has a rank of its own
pub same_rank : (j k : TokenKind) → kind_rank j ≡ kind_rank k → j ≡ k
same_rank j k e = sym (kind_at_rank j) ∙ ap (λ n. get_or kinds n Word) e ∙ kind_at_rank k

rank-lt : (k : TokenKind) → kind_rank k < 12
rank-lt Word = lit< tt
rank-lt Number = lit< tt
rank-lt Quoted = lit< tt
rank-lt Local = lit< tt
rank-lt Characters = lit< tt
rank-lt Based = lit< tt
rank-lt NumberLiteral = lit< tt
rank-lt TimeLiteral = lit< tt
rank-lt Mark = lit< tt
rank-lt SignWord = lit< tt
rank-lt Attribute = lit< tt
rank-lt Title = lit< tt

-- the longest token of the kinds below a rank
pub record IsBestBelow (r : ℕ) (text : List ℕ) (best : FoundToken) : Type 0 where
  pub fits : IsFormAt (has_form best.kind) text best.length
  pub below : kind_rank best.kind < r
  pub longest : (other : TokenKind) (m : ℕ) → kind_rank other < r → IsFormAt (has_form other) text m → (m < best.length) ⊎ ((m ≡ best.length) × (kind_rank other ≤ kind_rank best.kind))

abbrev pub FindsBest : ℕ → List ℕ → Option FoundToken → Type 0
FindsBest r text best = MatchOption best ((other : TokenKind) → kind_rank other < r → HasNoneOfForm (has_form other) text) (IsBestBelow r text)

-- a kind below the next rank is of a lower one, or the kind itself
split_rank : (j k : TokenKind) → kind_rank j < suc (kind_rank k) → (kind_rank j < kind_rank k) ⊎ (j ≡ k)
split_rank j k h = elim (cases_lt (kind_rank j) (kind_rank k)) [ inl lt ↦ inl lt | inr ge ↦ inr (same_rank j k (omega arith)) ]

at_kind : (text : List ℕ) (m : ℕ) (j k : TokenKind) → j ≡ k → IsFormAt (has_form j) text m → IsFormAt (has_form k) text m
at_kind text m j k e at = subst (λ kind. IsFormAt (has_form kind) text m) e at

-- shorter, or as long and of no higher rank
shorter_or_earlier : (m n a b : ℕ) → m ≤ n → a ≤ b → (m < n) ⊎ ((m ≡ n) × (a ≤ b))
shorter_or_earlier m n a b h l = elim (cases_lt m n) [ inl lt ↦ inl lt | inr ge ↦ inr (omega arith, l) ]

-- the best stays where a further kind has none, or a shorter one
best_stays : (k : TokenKind) (text : List ℕ) (best : FoundToken) → IsBestBelow (kind_rank k) text best → ((m : ℕ) → IsFormAt (has_form k) text m → m < best.length) → IsBestBelow (suc (kind_rank k)) text best
best_stays k text best b shorter = record {
  fits = b.fits;
  below = omega (arith, b.below);
  longest = λ other m lt at. elim (split_rank other k lt) [
    | inl low ↦ b.longest other m low at
    | inr e ↦ inl (shorter m (at_kind text m other k e at))
  ];
}

-- a further kind is the best where it is as long as any other
longest_is_best : (k : TokenKind) (text : List ℕ) (n : ℕ) → IsLongestOfForm (has_form k) text n → ((other : TokenKind) (m : ℕ) → kind_rank other < kind_rank k → IsFormAt (has_form other) text m → m ≤ n) → IsBestBelow (suc (kind_rank k)) text (record { kind = k; length = n })
longest_is_best k text n f no_longer = record {
  fits = f.fits;
  below = omega arith;
  longest = λ other m lt at. elim (split_rank other k lt) [
    | inl low ↦ shorter_or_earlier m n (kind_rank other) (kind_rank k) (no_longer other m low at) (omega arith)
    | inr e ↦ shorter_or_earlier m n (kind_rank other) (kind_rank k) (f.longest m (at_kind text m other k e at)) (omega (arith, ap kind_rank e))
  ];
}

no_longer_than : (m n : ℕ) (P : Type 0) → (m < n) ⊎ ((m ≡ n) × P) → m ≤ n
no_longer_than m n P (inl lt) = omega arith
no_longer_than m n P (inr same) = omega (arith, same.0)

-- one kind more
pub best_more : (k : TokenKind) (text : List ℕ) (best : Option FoundToken) (found : Option ℕ) → FindsBest (kind_rank k) text best → FindsLongest (has_form k) text found → FindsBest (suc (kind_rank k)) text (better_of best k found)
best_more k text None None b f = λ other lt. elim (split_rank other k lt) [
  | inl low ↦ b other low
  | inr e ↦ λ n at. f n (at_kind text n other k e at)
]
best_more k text (Some best) None b f = best_stays k text best b (λ m at. absurd (f m at))
best_more k text None (Some n) b f = longest_is_best k text n f (λ other m low at. absurd (b other low m at))
best_more k text (Some best) (Some n) b f = elim (cases_lt n best.length) [
  | inl lt ↦ rw (lt-ltb n best.length lt) (best_stays k text best b (λ m at. omega (arith, f.longest m at)))
  | inr ge ↦ rw (le-ltb n best.length ge) (longest_is_best k text n f (λ other m low at.
      omega (arith, no_longer_than m best.length (kind_rank other ≤ kind_rank best.kind) (b.longest other m low at))))
]

pub best_none : (text : List ℕ) → FindsBest 0 text None
best_none text other h = absurd (omega arith)

-- all kinds
pub best_of_all : (text : List ℕ) (best : Option FoundToken) → FindsBest 12 text best → MatchOption best (HasNoForm text) (λ found. IsLongestToken text found.kind found.length)
best_of_all text None b = λ kind. b kind (rank-lt kind)
best_of_all text (Some found) b = record { fits = b.fits; longest = λ other m at. b.longest other m (rank-lt other) at }
