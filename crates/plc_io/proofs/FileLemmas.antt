-- What stands under which name in a list of named files, and after a file was put there.
use Rattle.std.proofs.Common.{◌≡◌, ◌≢◌, ℕ, suc, ◌+◌, List, [], ◌∷◌, ◌++◌, true, false, Option, None, Some, cond, get_or, set, refl, sym, ◌∙◌, ap, arith, subst, bytes_eq}
use Rattle.std.specs.List.{position_from}
use Rattle.std.specs.Prelude.{if◌then◌else◌, position, unwrap_or}
use Rattle.std.proofs.lemmas.Iterator.Adapters.{position_from-zero}
use Rattle.std.proofs.lemmas.Slice.Eq.{bytes_eq-Decides}
use Rattle.plc_io.specs.NamedFiles.{bytes_of_file, contents_of, sure_contents_of, with_file, EachNameOnce}
use Rattle.plc_io.specs.Contents.{FileHoldsBytes, SameElsewhere}

-- names that the test calls equal are equal, and a name equals itself
same_name : (a b : List ℕ) → bytes_eq a b ≡ true → a ≡ b
same_name a b = (bytes_eq-Decides a b).0

is_itself : (a : List ℕ) → bytes_eq a a ≡ true
is_itself a = (bytes_eq-Decides a a).1 refl

other_name : (a b : List ℕ) → b ≢ a → bytes_eq a b ≡ false
other_name a b ne =
    elim (bytes_eq a b) as (λ t. bytes_eq a b ≡ t → t ≡ false) [ true ↦ λ e. absurd (ne (sym (same_name a b e))) | false ↦ λ e. refl ] refl

-- the name that was put has the bytes
pub bytes_of_file-with_file : (files : List (List ℕ × List ℕ)) (name bytes : List ℕ) → bytes_of_file (with_file files name bytes) name ≡ Some bytes
bytes_of_file-with_file [] name bytes = rw (is_itself name) refl
bytes_of_file-with_file (f ∷ fs) name bytes =
    elim (bytes_eq f.0 name) as (λ t. bytes_eq f.0 name ≡ t → bytes_of_file (if t then (f.0, bytes) ∷ fs else f ∷ with_file fs name bytes) name ≡ Some bytes) [
      | true ↦ λ e. rw e refl
      | false ↦ λ e. rw e (bytes_of_file-with_file fs name bytes)
    ] refl

-- every other name has what it had
pub bytes_of_file-with_file-other : (files : List (List ℕ × List ℕ)) (name bytes other : List ℕ) → other ≢ name
    → bytes_of_file (with_file files name bytes) other ≡ bytes_of_file files other
bytes_of_file-with_file-other [] name bytes other ne = rw (other_name name other ne) refl
bytes_of_file-with_file-other (f ∷ fs) name bytes other ne =
    elim (bytes_eq f.0 name) as (λ t. bytes_eq f.0 name ≡ t
    → bytes_of_file (if t then (f.0, bytes) ∷ fs else f ∷ with_file fs name bytes) other ≡ bytes_of_file (f ∷ fs) other) [
      | true ↦ λ e. let far : other ≢ f.0 = λ h. ne (h ∙ same_name f.0 name e) in rw (other_name f.0 other far) refl
      | false ↦ λ e. elim (bytes_eq f.0 other) as (λ t. bytes_eq f.0 other ≡ t → bytes_of_file (f ∷ with_file fs name bytes) other ≡ bytes_of_file (f ∷ fs) other) [
        | true ↦ λ h. rw h refl
        | false ↦ λ h. rw h (bytes_of_file-with_file-other fs name bytes other ne)
      ] refl
    ] refl

-- putting a file keeps each name once
pub EachNameOnce-with_file : (files : List (List ℕ × List ℕ)) (name bytes : List ℕ) → EachNameOnce files → EachNameOnce (with_file files name bytes)
EachNameOnce-with_file [] name bytes once = (refl, tt)
EachNameOnce-with_file (f ∷ fs) name bytes once =
    elim (bytes_eq f.0 name) as (λ t. bytes_eq f.0 name ≡ t → EachNameOnce (if t then (f.0, bytes) ∷ fs else f ∷ with_file fs name bytes)) [
      | true ↦ λ e. once
      | false ↦ λ e.
          let far : f.0 ≢ name = λ h. let bad : true ≡ false = sym ((bytes_eq-Decides f.0 name).1 h) ∙ e in cc in
          (bytes_of_file-with_file-other fs name bytes f.0 far ∙ once.0, EachNameOnce-with_file fs name bytes once.1)
    ] refl

-- a file that was found is the one to replace
with_file-at : (files : List (List ℕ × List ℕ)) (name bytes : List ℕ) (d : List ℕ × List ℕ) (k i : ℕ)
    → position_from (λ f. bytes_eq f.0 name) k files ≡ Some i
    → (j : ℕ) × (i ≡ k + j) × (set files j ((get_or files j d).0, bytes) ≡ with_file files name bytes)
with_file-at [] name bytes d k i found = cc
with_file-at (f ∷ fs) name bytes d k i found =
    elim (bytes_eq f.0 name) as (λ t. cond t (Some k) (position_from (λ f. bytes_eq f.0 name) (k + 1) fs) ≡ Some i
    → (j : ℕ) × (i ≡ k + j) × (set (f ∷ fs) j ((get_or (f ∷ fs) j d).0, bytes) ≡ (if t then (f.0, bytes) ∷ fs else f ∷ with_file fs name bytes))) [
      | true ↦ λ here. let at : k ≡ i = cc in (0, omega arith, refl)
      | false ↦ λ later. let below = with_file-at fs name bytes d (k + 1) i later in
          (suc below.0, omega (arith, below.1), ap (λ xs. f ∷ xs) below.2)
    ] found

-- a file that wasn't found goes to the end
with_file-end : (files : List (List ℕ × List ℕ)) (name bytes : List ℕ) (k : ℕ)
    → position_from (λ f. bytes_eq f.0 name) k files ≡ None → files ++ (name, bytes) ∷ [] ≡ with_file files name bytes
with_file-end [] name bytes k absent = refl
with_file-end (f ∷ fs) name bytes k absent =
    elim (bytes_eq f.0 name) as (λ t. cond t (Some k) (position_from (λ f. bytes_eq f.0 name) (k + 1) fs) ≡ None
    → f ∷ (fs ++ (name, bytes) ∷ []) ≡ (if t then (f.0, bytes) ∷ fs else f ∷ with_file fs name bytes)) [
      | true ↦ λ here. cc
      | false ↦ λ later. ap (λ xs. f ∷ xs) (with_file-end fs name bytes (k + 1) later)
    ] absent

-- the same by the place that a search answers
with_file-found : (files : List (List ℕ × List ℕ)) (name bytes : List ℕ) (d : List ℕ × List ℕ) (i : ℕ)
    → position (λ f. bytes_eq f.0 name) files ≡ Some i → set files i ((get_or files i d).0, bytes) ≡ with_file files name bytes
with_file-found files name bytes d i found =
    let w = with_file-at files name bytes d 0 i (sym (position_from-zero (λ (f : List ℕ × List ℕ). bytes_eq f.0 name) files) ∙ found) in
    let at : w.0 ≡ i = omega (arith, w.1) in
    subst (λ (k : ℕ). set files k ((get_or files k d).0, bytes) ≡ with_file files name bytes) at w.2

-- the file that a search found was replaced
pub with_file-replaced : (files : List (List ℕ × List ℕ)) (name bytes : List ℕ) (old new : List ℕ × List ℕ) (i : ℕ)
    → position (λ f. bytes_eq f.0 name) files ≡ Some i → old ≡ get_or files i old → new ≡ (old.0, bytes)
    → set files i new ≡ with_file files name bytes
with_file-replaced files name bytes old new i found here replaced =
    ap (set files i) (replaced ∙ ap (λ (f : List ℕ × List ℕ). (f.0, bytes)) here) ∙ with_file-found files name bytes old i found

-- the search found none, and the file was pushed
pub with_file-pushed : (files new : List (List ℕ × List ℕ)) (name bytes : List ℕ) (file : List ℕ × List ℕ)
    → position (λ f. bytes_eq f.0 name) files ≡ None → file ≡ (name, bytes) → new ≡ files ++ file ∷ [] → new ≡ with_file files name bytes
with_file-pushed files new name bytes file absent made pushed =
    pushed ∙ ap (λ (f : List ℕ × List ℕ). files ++ f ∷ []) made
    ∙ with_file-end files name bytes 0 (sym (position_from-zero (λ (f : List ℕ × List ℕ). bytes_eq f.0 name) files) ∙ absent)

-- files after a put, as the contents that they tell
pub contents_of-with_file : (old new : List (List ℕ × List ℕ)) (name bytes : List ℕ) → new ≡ with_file old name bytes
    → SameElsewhere (contents_of old) (contents_of new) name
contents_of-with_file old new name bytes put = record {
  told = refl;
  at = λ other ne. ap (λ (files : List (List ℕ × List ℕ)). bytes_of_file files other) put ∙ bytes_of_file-with_file-other old name bytes other ne;
}

pub sure_contents_of-with_file : (old new : List (List ℕ × List ℕ)) (name bytes : List ℕ) → new ≡ with_file old name bytes
    → SameElsewhere (sure_contents_of old) (sure_contents_of new) name
sure_contents_of-with_file old new name bytes put = record {
  told = refl;
  at = λ other ne. ap (λ (o : Option (List ℕ)). Some (unwrap_or o [])) ((contents_of-with_file old new name bytes put).at other ne);
}

-- the file that was put, in those contents
pub Agrees-with_file : (old new : List (List ℕ × List ℕ)) (name bytes : List ℕ) → new ≡ with_file old name bytes
    → FileHoldsBytes (contents_of new) name bytes
Agrees-with_file old new name bytes put told =
    ap (λ (files : List (List ℕ × List ℕ)). bytes_of_file files name) put ∙ bytes_of_file-with_file old name bytes

pub sure_Agrees-with_file : (old new : List (List ℕ × List ℕ)) (name bytes : List ℕ) → new ≡ with_file old name bytes
    → FileHoldsBytes (sure_contents_of new) name bytes
sure_Agrees-with_file old new name bytes put told =
    ap (λ (o : Option (List ℕ)). Some (unwrap_or o [])) (Agrees-with_file old new name bytes put told)
