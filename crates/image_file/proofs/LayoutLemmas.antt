-- A layout is exact: what was spelled is read again with no fault, and what is read with no fault is
-- spelled so.
use Rattle.std.proofs.Common.{◌≡◌, ℕ, zero, suc, ◌+◌, ◌-◌, true, List, [], ◌∷◌, ◌++◌, length, Option, Some, None, refl, sym, ap, subst, ◌∙◌, append_assoc, length-append, arith}
use Rattle.std.proofs.lemmas.Bool.{and_parts, and_from}
use Rattle.std.proofs.lemmas.Option.{same_Some}
use Rattle.flat_code.specs.Coding.{Coding}
use Rattle.flat_code.proofs.CodingLemmas.{IsBytes, BeginsWith, IsExact}
use Rattle.flat_code.specs.Layout.{ReadingNote, Faulty, Whole, AllBlocks, Cursor, ReadResult, FieldLayout, reading_given, go_on, bind_reading, fault_note, is_fine, field_of, field_layout, chain_layout, checked_layout, located_layout, spell_many, good_many, read_many, list_layout, layout_seen_as, noted_layout, faults_in}

-- ---- faults of notes

pub faults-append : (a b : List ReadingNote) → faults_in (a ++ b) ≡ faults_in a ++ faults_in b
faults-append [] b = refl
faults-append (Faulty at code ∷ a) b = ap (λ (z : List (ℕ × ℕ)). (at, code) ∷ z) (faults-append a b)
faults-append (Whole start block ∷ a) b = faults-append a b
faults-append (AllBlocks blocks ∷ a) b = faults-append a b

nil_parts : (a b : List (ℕ × ℕ)) → a ++ b ≡ [] → (a ≡ []) × (b ≡ [])
nil_parts [] b e = (refl, e)
nil_parts (x ∷ a) b e = absurd cc

pub no_faults : (a b : List ReadingNote) → faults_in (a ++ b) ≡ [] → (faults_in a ≡ []) × (faults_in b ≡ [])
no_faults a b e = nil_parts (faults_in a) (faults_in b) (sym (faults-append a b) ∙ e)

pub no_faults_join : (a b : List ReadingNote) → faults_in a ≡ [] → faults_in b ≡ [] → faults_in (a ++ b) ≡ []
no_faults_join a b p q = faults-append a b ∙ rw (p, q) refl

pub noted_none : (at : ℕ) (o : Option ℕ) → is_fine o ≡ true → faults_in (fault_note at o) ≡ []
noted_none at None h = refl
noted_none at (Some code) h = absurd cc

pub noted_fine : (at : ℕ) (o : Option ℕ) → faults_in (fault_note at o) ≡ [] → is_fine o ≡ true
noted_fine at None h = refl
noted_fine at (Some code) h = absurd cc

-- ---- what a reading takes

abbrev pub at_place : ℕ → List ℕ → Cursor
at_place at rest = record { at = at; rest = rest }

-- found with no fault
pub record Finds (A : Type 0) (r : ReadResult A) (x : A) (end : Cursor) : Type 0 where
  pub found : r.found ≡ Some (x, end)
  pub clean : faults_in r.notes ≡ []

pub record Spells (A : Type 0) (l : FieldLayout A) (cur : Cursor) (x : A) (end : Cursor) : Type 0 where
  pub text : BeginsWith cur.rest (l.spell x) end.rest
  pub good : l.good x ≡ true

pub record IsLaidOut (A : Type 0) (l : FieldLayout A) : Type 0 where
  pub again : (x : A) (at : ℕ) (rest : List ℕ) → l.good x ≡ true → Finds A (l.read (at_place at (l.spell x ++ rest))) x (at_place (at + length (l.spell x)) rest)
  pub takes : (cur : Cursor) (x : A) (end : Cursor) → IsBytes cur.rest → Finds A (l.read cur) x end → Spells A l cur x end

-- the parts of a reading that goes on
pub record ReadingParts (A B : Type 0) (r : ReadResult A) (f : A → Cursor → ReadResult B) (y : B) (end : Cursor) : Type 0 where
  pub first : A
  pub next : Cursor
  pub one : Finds A r first next
  pub two : Finds B (f first next) y end

go_parts : {A B : Type 0} (notes : List ReadingNote) (o : Option (A × Cursor)) (f : A → Cursor → ReadResult B) (y : B) (end : Cursor) → Finds B (go_on notes o f) y end → ReadingParts A B (record { notes = notes; found = o }) f y end
go_parts {A = A} {B = B} notes None f y end h = let e = h.found in absurd cc
go_parts {A = A} {B = B} notes (Some x) f y end h =
    let p = no_faults notes (f x.0 x.1).notes h.clean in
    record { first = x.0; next = x.1; one = record { found = refl; clean = p.0 }; two = record { found = h.found; clean = p.1 } }

pub bind_parts : {A B : Type 0} (r : ReadResult A) (f : A → Cursor → ReadResult B) (y : B) (end : Cursor) → Finds B (bind_reading r f) y end → ReadingParts A B r f y end
bind_parts r f y end h = go_parts r.notes r.found f y end h

-- a reading that found something goes on with it
pub bind_finds : {A B : Type 0} (r : ReadResult A) (f : A → Cursor → ReadResult B) (x : A) (next : Cursor) (y : B) (end : Cursor) → Finds A r x next → Finds B (f x next) y end → Finds B (bind_reading r f) y end
bind_finds {A = A} {B = B} r f x next y end one two =
    let go : Option (A × Cursor) → ReadResult B = λ o. go_on r.notes o f in
    let shape : bind_reading r f ≡ go (Some (x, next)) = ap go one.found in
    subst (λ (z : ReadResult B). Finds B z y end) (sym shape) (record { found = two.found; clean = no_faults_join r.notes (f x next).notes one.clean two.clean })

pub given_finds : {A : Type 0} (x y : A) (cur end : Cursor) → Finds A (reading_given x cur) y end → (x ≡ y) × (cur ≡ end)
given_finds {A = A} x y cur end h = let p = same_Some (x, cur) (y, end) h.found in (ap (λ (z : A × Cursor). z.0) p, ap (λ (z : A × Cursor). z.1) p)

-- ---- fields

field_takes : {A : Type 0} (c : Coding A) (fault_in : A → Option ℕ) → IsExact A c → (cur : Cursor) (o : Option (A × List ℕ)) → c.read cur.rest ≡ o → (x : A) (end : Cursor) → IsBytes cur.rest → Finds A (field_of fault_in cur o) x end → Spells A (field_layout c fault_in) cur x end
field_takes {A = A} c fault_in exact cur None e x end are h = let f = h.found in absurd cc
field_takes {A = A} c fault_in exact cur (Some r) e x end are h =
    let next : Cursor = record { at = cur.at + (length cur.rest - length r.1); rest = r.1 } in
    let p = same_Some (r.0, next) (x, end) h.found in
    let t = exact.takes cur.rest r.0 r.1 are e in
    let fine = noted_fine cur.at (fault_in r.0) h.clean in
    let here : Spells A (field_layout c fault_in) cur r.0 next = record { text = t.0; good = and_from (c.fits r.0) (is_fine (fault_in r.0)) t.1 fine } in
    subst (λ (z : A × Cursor). Spells A (field_layout c fault_in) cur z.0 z.1) p here

pub field_laid : {A : Type 0} (c : Coding A) (fault_in : A → Option ℕ) → IsExact A c → IsLaidOut A (field_layout c fault_in)
field_laid {A = A} c fault_in exact = record {
  again = λ x at rest good.
      let g = and_parts (c.fits x) (is_fine (fault_in x)) good in
      let cur = at_place at (c.spell x ++ rest) in
      let read : c.read cur.rest ≡ Some (x, rest) = exact.again x rest g.0 in
      let size : length (c.spell x ++ rest) - length rest ≡ length (c.spell x) = omega (arith, length-append (c.spell x) rest) in
      let here : Finds A (field_of fault_in cur (Some (x, rest))) x (at_place (at + length (c.spell x)) rest) =
      record { found = ap (λ (k : ℕ). Some (x, at_place (at + k) rest)) size; clean = noted_none at (fault_in x) g.1 } in
      subst (λ (o : Option (A × List ℕ)). Finds A (field_of fault_in cur o) x (at_place (at + length (c.spell x)) rest)) (sym read) here;
  takes = λ cur x end are h. field_takes c fault_in exact cur (c.read cur.rest) refl x end are h;
}

-- ---- one behind the other

pub chain_laid : {A B : Type 0} (l : FieldLayout A) (m : A → FieldLayout B) → IsLaidOut A l → ((x : A) → IsLaidOut B (m x)) → IsLaidOut (A × B) (chain_layout l m)
chain_laid {A = A} {B = B} l m first second = record {
  again = λ x at rest good.
      let g = and_parts (l.good x.0) ((m x.0).good x.1) good in
      let tail = (m x.0).spell x.1 in
      let one = first.again x.0 at (tail ++ rest) g.0 in
      let one_here : Finds A (l.read (at_place at ((l.spell x.0 ++ tail) ++ rest))) x.0 (at_place (at + length (l.spell x.0)) (tail ++ rest)) =
      subst (λ (z : List ℕ). Finds A (l.read (at_place at z)) x.0 (at_place (at + length (l.spell x.0)) (tail ++ rest))) (sym (append_assoc (l.spell x.0) tail rest)) one in
      let two = (second x.0).again x.1 (at + length (l.spell x.0)) rest g.1 in
      let place : (at + length (l.spell x.0)) + length tail ≡ at + length (l.spell x.0 ++ tail) = omega (arith, length-append (l.spell x.0) tail) in
      let three : Finds (A × B) (reading_given (x.0, x.1) (at_place ((at + length (l.spell x.0)) + length tail) rest)) x (at_place (at + length (l.spell x.0 ++ tail)) rest) = record { found = ap (λ (k : ℕ). Some (x, at_place k rest)) place; clean = refl } in
      let inner = bind_finds ((m x.0).read (at_place (at + length (l.spell x.0)) (tail ++ rest))) (λ y end. reading_given (x.0, y) end) x.1 (at_place ((at + length (l.spell x.0)) + length tail) rest) x (at_place (at + length (l.spell x.0 ++ tail)) rest) two three in
      bind_finds (l.read (at_place at ((l.spell x.0 ++ tail) ++ rest))) (λ a next. bind_reading ((m a).read next) (λ y end. reading_given (a, y) end)) x.0 (at_place (at + length (l.spell x.0)) (tail ++ rest)) x (at_place (at + length (l.spell x.0 ++ tail)) rest) one_here inner;
  takes = λ cur x end are h.
      let p = bind_parts (l.read cur) (λ a next. bind_reading ((m a).read next) (λ y end. reading_given (a, y) end)) x end h in
      let q = bind_parts ((m p.first).read p.next) (λ y end. reading_given (p.first, y) end) x end p.two in
      let made = given_finds (p.first, q.first) x q.next end q.two in
      let t = first.takes cur p.first p.next are p.one in
      let u = (second p.first).takes p.next q.first q.next t.text.rest_fits q.one in
      let text : cur.rest ≡ (l.spell p.first ++ (m p.first).spell q.first) ++ q.next.rest = t.text.parts ∙ ap (λ (z : List ℕ). l.spell p.first ++ z) u.text.parts ∙ sym (append_assoc (l.spell p.first) ((m p.first).spell q.first) q.next.rest) in
      let here : Spells (A × B) (chain_layout l m) cur (p.first, q.first) q.next = record { text = record { parts = text; rest_fits = u.text.rest_fits }; good = and_from (l.good p.first) ((m p.first).good q.first) t.good u.good } in
      subst (λ (z : A × B). Spells (A × B) (chain_layout l m) cur z end) made.0 (subst (λ (z : Cursor). Spells (A × B) (chain_layout l m) cur (p.first, q.first) z) made.1 here);
}

-- ---- a fault that is found only now

pub checked_laid : {A : Type 0} (at : ℕ) (fault : Option ℕ) (l : FieldLayout A) → IsLaidOut A l → IsLaidOut A (checked_layout at fault l)
checked_laid {A = A} at fault l exact = record {
  again = λ x from rest good.
      let g = and_parts (is_fine fault) (l.good x) good in
      let h = exact.again x from rest g.1 in
      record { found = h.found; clean = no_faults_join (fault_note at fault) _ (noted_none at fault g.0) h.clean };
  takes = λ cur x end are h.
      let p = no_faults (fault_note at fault) (l.read cur).notes h.clean in
      let t = exact.takes cur x end are (record { found = h.found; clean = p.1 }) in
      record { text = t.text; good = and_from (is_fine fault) (l.good x) (noted_fine at fault p.0) t.good };
}

-- ---- the same bytes for another type

pub seen_laid : {A B : Type 0} (to : A → B) (from : B → A) (l : FieldLayout A) → ((x : A) → l.good x ≡ true → from (to x) ≡ x) → ((y : B) → l.good (from y) ≡ true → to (from y) ≡ y) → IsLaidOut A l → IsLaidOut B (layout_seen_as to from l)
seen_laid {A = A} {B = B} to from l there back exact = record {
  again = λ y at rest good.
      let one = exact.again (from y) at rest good in
      let end = at_place (at + length (l.spell (from y))) rest in
      bind_finds (l.read (at_place at (l.spell (from y) ++ rest))) (λ x end. reading_given (to x) end) (from y) end y end one
      (record { found = ap (λ (z : B). Some (z, end)) (back y good); clean = refl });
  takes = λ cur y end are h.
      let p = bind_parts (l.read cur) (λ x end. reading_given (to x) end) y end h in
      let made = given_finds (to p.first) y p.next end p.two in
      let t = exact.takes cur p.first p.next are p.one in
      let is : p.first ≡ from y = sym (there p.first t.good) ∙ ap from made.0 in
      let here : Spells A l cur (from y) end = subst (λ (z : A). Spells A l cur z end) is (subst (λ (z : Cursor). Spells A l cur p.first z) made.1 t) in
      record { text = here.text; good = here.good };
}

-- ---- a value that is noted

pub remembered_laid : {A : Type 0} (note : A → ReadingNote) (l : FieldLayout A) → ((x : A) → faults_in (note x ∷ []) ≡ []) → IsLaidOut A l → IsLaidOut A (noted_layout note l)
remembered_laid {A = A} note l none exact = record {
  again = λ x at rest good.
      let one = exact.again x at rest good in
      let end = at_place (at + length (l.spell x)) rest in
      bind_finds (l.read (at_place at (l.spell x ++ rest))) (λ x end. record { notes = note x ∷ []; found = Some (x, end) }) x end x end one
      (record { found = refl; clean = none x });
  takes = λ cur x end are h.
      let p = bind_parts (l.read cur) (λ x end. record { notes = note x ∷ []; found = Some (x, end) }) x end h in
      let q = same_Some (p.first, p.next) (x, end) p.two.found in
      let t = exact.takes cur p.first p.next are p.one in
      let here : Spells A l cur x end = subst (λ (z : A × Cursor). Spells A l cur z.0 z.1) q t in
      record { text = here.text; good = here.good };
}

-- ---- many

many_again : {S A : Type 0} (l : S → FieldLayout A) (next : S → A → S) → ((s : S) → IsLaidOut A (l s)) → (n : ℕ) (s : S) (xs : List A) (at : ℕ) (rest : List ℕ) → good_many l next s n xs ≡ true
    → Finds (List A) (read_many l next s n (at_place at (spell_many l next s xs ++ rest))) xs (at_place (at + length (spell_many l next s xs)) rest)
many_again {S = S} {A = A} l next exact zero s [] at rest good = record { found = ap (λ (k : ℕ). Some ([], at_place k rest)) (omega arith); clean = refl }
many_again {S = S} {A = A} l next exact zero s (x ∷ xs) at rest good = absurd cc
many_again {S = S} {A = A} l next exact (suc n) s [] at rest good = absurd cc
many_again {S = S} {A = A} l next exact (suc n) s (x ∷ xs) at rest good =
    let g = and_parts ((l s).good x) (good_many l next (next s x) n xs) good in
    let front = (l s).spell x in
    let tail = spell_many l next (next s x) xs in
    let one = (exact s).again x at (tail ++ rest) g.0 in
    let mid = at_place (at + length front) (tail ++ rest) in
    let one_here : Finds A ((l s).read (at_place at ((front ++ tail) ++ rest))) x mid = subst (λ (z : List ℕ). Finds A ((l s).read (at_place at z)) x mid) (sym (append_assoc front tail rest)) one in
    let two = many_again l next exact n (next s x) xs (at + length front) rest g.1 in
    let place : (at + length front) + length tail ≡ at + length (front ++ tail) = omega (arith, length-append front tail) in
    let end = at_place (at + length (front ++ tail)) rest in
    let inner = bind_finds (read_many l next (next s x) n mid) (λ xs end. reading_given (x ∷ xs) end) xs (at_place ((at + length front) + length tail) rest) (x ∷ xs) end two
    (record { found = ap (λ (k : ℕ). Some (x ∷ xs, at_place k rest)) place; clean = refl }) in
    bind_finds ((l s).read (at_place at ((front ++ tail) ++ rest))) (λ x after. bind_reading (read_many l next (next s x) n after) (λ xs end. reading_given (x ∷ xs) end)) x mid (x ∷ xs) end one_here inner

many_takes : {S A : Type 0} (l : S → FieldLayout A) (next : S → A → S) → ((s : S) → IsLaidOut A (l s)) → (n : ℕ) (s : S) (cur : Cursor) (xs : List A) (end : Cursor) → IsBytes cur.rest → Finds (List A) (read_many l next s n cur) xs end → Spells (List A) (list_layout l next s n) cur xs end
many_takes {S = S} {A = A} l next exact zero s cur xs end are h =
    let made = given_finds [] xs cur end h in
    subst (λ (z : List A). Spells (List A) (list_layout l next s zero) cur z end) made.0 (subst (λ (z : Cursor). Spells (List A) (list_layout l next s zero) cur [] z) made.1 (record { text = record { parts = refl; rest_fits = are }; good = refl }))
many_takes {S = S} {A = A} l next exact (suc n) s cur xs end are h =
    let p = bind_parts ((l s).read cur) (λ x after. bind_reading (read_many l next (next s x) n after) (λ xs end. reading_given (x ∷ xs) end)) xs end h in
    let q = bind_parts (read_many l next (next s p.first) n p.next) (λ xs end. reading_given (p.first ∷ xs) end) xs end p.two in
    let made = given_finds (p.first ∷ q.first) xs q.next end q.two in
    let t = (exact s).takes cur p.first p.next are p.one in
    let u = many_takes l next exact n (next s p.first) p.next q.first q.next t.text.rest_fits q.one in
    let text : cur.rest ≡ ((l s).spell p.first ++ spell_many l next (next s p.first) q.first) ++ q.next.rest = t.text.parts ∙ ap (λ (z : List ℕ). (l s).spell p.first ++ z) u.text.parts ∙ sym (append_assoc ((l s).spell p.first) (spell_many l next (next s p.first) q.first) q.next.rest) in
    let here : Spells (List A) (list_layout l next s (suc n)) cur (p.first ∷ q.first) q.next = record { text = record { parts = text; rest_fits = u.text.rest_fits }; good = and_from ((l s).good p.first) (good_many l next (next s p.first) n q.first) t.good u.good } in
    subst (λ (z : List A). Spells (List A) (list_layout l next s (suc n)) cur z end) made.0 (subst (λ (z : Cursor). Spells (List A) (list_layout l next s (suc n)) cur (p.first ∷ q.first) z) made.1 here)

pub many_laid : {S A : Type 0} (l : S → FieldLayout A) (next : S → A → S) → ((s : S) → IsLaidOut A (l s)) → (s : S) (n : ℕ) → IsLaidOut (List A) (list_layout l next s n)
many_laid l next exact s n = record { again = many_again l next exact n s; takes = many_takes l next exact n s }

-- ---- a layout that knows where it begins

pub located_laid : {A : Type 0} (l : ℕ → FieldLayout A) → ((at : ℕ) (x : A) → (l at).spell x ≡ (l 0).spell x) → ((at : ℕ) (x : A) → (l at).good x ≡ (l 0).good x) → ((at : ℕ) → IsLaidOut A (l at)) → IsLaidOut A (located_layout l)
located_laid {A = A} l spelled goods exact = record {
  again = λ x at rest good.
      subst (λ (t : List ℕ). Finds A ((l at).read (at_place at (t ++ rest))) x (at_place (at + length t) rest)) (spelled at x)
      ((exact at).again x at rest (goods at x ∙ good));
  takes = λ cur x end are h.
      let t = (exact cur.at).takes cur x end are h in
      record { text = subst (λ (w : List ℕ). BeginsWith cur.rest w end.rest) (spelled cur.at x) t.text; good = sym (goods cur.at x) ∙ t.good };
}
