-- Lists of passes, of what they are to make, and of what they made.
use Rattle.std.proofs.Common.{◌≡◌, ℕ, ◌<◌, List, [], ◌∷◌, ◌++◌, length, drop, map, take, sym, refl, ap, ◌∙◌, subst, false, arith, append-nil}
use Rattle.std.proofs.lemmas.List.{take-append-drop}
use Rattle.std.specs.List.{All}
use Rattle.var_access.specs.declared.Entry.{Entry}
use Rattle.tracked_lock.specs.Passes.{PassView, LockView}
use Rattle.tracked_lock.specs.declared.views.Made.{Made}
use Rattle.station.specs.declared.shared.Opening.{Opening}
use Rattle.s7_cli.specs.Working.{AreReady, HasBegun, HaveBegun, IsEntryOf, IsFresh, passes_made_whole}

abbrev P : Type 0
P = PassView Opening Entry

pub length_items : {A B : Type 0} (f : A → B) (l : List A) → length (map f l) ≡ length l
length_items f [] = refl
length_items f (x ∷ xs) = omega (arith, length_items f xs)

pub some_pass : (s : LockView Opening) (ps : List P) (xs : List (List Entry)) → 0 < length xs → AreReady s ps xs → 0 < length ps
some_pass s [] [] h f = h
some_pass s [] (x ∷ xs) h f = absurd f
some_pass s (p ∷ ps) xs h f = omega arith

-- the first, and the others
pub ready_apart : (s : LockView Opening) (ps rest : List P) (p : P) (xs others : List (List Entry)) (x : List Entry) → ps ≡ p ∷ rest → xs ≡ x ∷ others → AreReady s ps xs
    → IsFresh s p × All (IsEntryOf p.number) x × AreReady s rest others
ready_apart s ps rest p xs others x e d f = subst (λ l. AreReady s (p ∷ rest) l) d (subst (λ l. AreReady s l xs) e f)

pub whole_apart : (ps rest : List P) (p : P) (xs others : List (List Entry)) (x : List Entry) → ps ≡ p ∷ rest → xs ≡ x ∷ others
    → record { number = p.number; entries = x } ∷ passes_made_whole rest others ≡ passes_made_whole ps xs
whole_apart ps rest p xs others x e d = sym (λ i. passes_made_whole (e i) (d i))

whole_none : (ps : List P) (xs : List (List Entry)) → length xs ≡ 0 → passes_made_whole ps xs ≡ []
whole_none [] xs h = refl
whole_none (p ∷ ps) [] h = refl
whole_none (p ∷ ps) (x ∷ xs) h = absurd (omega arith)

pub whole_alone : (ps rest : List P) (p : P) (xs others : List (List Entry)) (x : List Entry) → ps ≡ p ∷ rest → xs ≡ x ∷ others → length others ≡ 0
    → ◌≡◌ {A = List (Made Entry)} (record { number = p.number; entries = x } ∷ []) (passes_made_whole ps xs)
whole_alone ps rest p xs others x e d none =
    ap (λ (l : List (Made Entry)). record { number = p.number; entries = x } ∷ l) (sym (whole_none rest others none)) ∙ whole_apart ps rest p xs others x e d

-- what one worker has begun, before what the others have
pub begun_first : (s : LockView Opening) (ps rest : List P) (p r : P) (xs others : List (List Entry)) (x : List Entry) (ms : List (Made Entry)) → ps ≡ p ∷ rest → xs ≡ x ∷ others
    → HasBegun s p.number x r → HaveBegun rest others ms → HaveBegun ps xs (r.made ++ ms)
begun_first s ps rest p r xs others x ms e d h more =
    subst (λ l. HaveBegun l xs (r.made ++ ms)) (sym e) (subst (λ l. HaveBegun (p ∷ rest) l (r.made ++ ms)) (sym d)
    (subst (λ (l : List (Made Entry)). HaveBegun (p ∷ rest) (x ∷ others) (l ++ ms)) (sym h.made) (refl, h.begins, more)))

begun_none : (s : LockView Opening) (ps : List P) (xs : List (List Entry)) → length xs ≡ 0 → AreReady s ps xs → HaveBegun ps xs []
begun_none s [] [] h f = tt
begun_none s [] (x ∷ xs) h f = absurd f
begun_none s (p ∷ ps) [] h f = absurd f
begun_none s (p ∷ ps) (x ∷ xs) h f = absurd (omega arith)

pub begun_alone : (s : LockView Opening) (ps rest : List P) (p r : P) (xs others : List (List Entry)) (x : List Entry) → ps ≡ p ∷ rest → xs ≡ x ∷ others → length others ≡ 0
    → AreReady s ps xs → HasBegun s p.number x r → HaveBegun ps xs r.made
begun_alone s ps rest p r xs others x e d none ready h =
    subst (HaveBegun ps xs) (append-nil r.made) (begun_first s ps rest p r xs others x [] e d h (begun_none s rest others none (ready_apart s ps rest p xs others x e d ready).2))

-- a worker that was refused has made the first entries of its list
pub begun_till : (s : LockView Opening) (number count : ℕ) (entries : List Entry) (p q : P) → p.lock ≡ s → p.out ≡ false → p.made ≡ record { number = number; entries = take count entries } ∷ []
    → q ≡ record p { seen = q.seen; made = q.made } → q.made ≡ p.made → HasBegun s number entries q
begun_till s number count entries p q lock out made same stays = record {
  lock = ap (λ (r : P). r.lock) same ∙ lock;
  out = ap (λ (r : P). r.out) same ∙ out;
  done = take count entries;
  begins = (drop count entries, take-append-drop count entries);
  made = stays ∙ made;
}
