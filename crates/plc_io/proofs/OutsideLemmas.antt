-- What two calls on the same files or the same sink do together, and what a loop of reads or pushes has done so far.
use Rattle.std.proofs.Common.{◌≡◌, ◌⊎◌, inl, inr, false, nat_lt, ℕ, ◌+◌, ◌-◌, ◌<◌, ◌≤◌, List, [], ◌++◌, true, length, take, drop, refl, sym, ◌∙◌, ap, arith, subst, append_assoc, length-append, length-drop}
use Rattle.std.specs.Prelude.{Option, None, Some, Ok, Err, Result, option_map, unwrap_or}
use Rattle.std.proofs.lemmas.Bool.Decides.{nat_tests}
use Rattle.std.proofs.Math.Seq.{take-add}
use Rattle.std.proofs.lemmas.List.{append-nil, length-take-le, take_rest}
use Rattle.plc_io.specs.Contents.{Contents, ReadsFrom, SameFiles}
use Rattle.plc_io.specs.Counts.{CountsFailureByName, CountRose, SameCounts, last_count}
use Rattle.plc_io.specs.Moments.{SinkAt}
use Rattle.plc_io.specs.SinkBytes.{OfferedPiece, TookBytes, TookFront}
use Rattle.plc_io.specs.declared.faults.IoFault.{IoFault}
use Rattle.plc_io.specs.declared.faults.IoFault.TheVariants.{Failed, NoMemory}

-- what it means that a count rose
pub Rose-greater : (before now : ℕ) → before < now → CountRose before now
Rose-greater before now greater = omega arith

pub Rose-last : (before now : ℕ) → now ≡ last_count → CountRose before now
Rose-last before now last = omega arith

pub Rose-cases : (before now : ℕ) → CountRose before now → (before < now) ⊎ (last_count ≤ now)
Rose-cases before now rose =
    elim (nat_lt before now) as (λ t. nat_lt before now ≡ t → (before < now) ⊎ (last_count ≤ now)) [
      | true ↦ λ less. inl (grind (arith, nat_tests))
      | false ↦ λ most. inr (grind (arith, nat_tests))
    ] refl

pub SameFiles-refl : (c : Contents) → SameFiles c c
SameFiles-refl c = record { told = refl; at = λ name. refl }

pub SameFiles-trans : {a b c : Contents} → SameFiles a b → SameFiles b c → SameFiles a c
SameFiles-trans p q = record { told = q.told ∙ p.told; at = λ name. q.at name ∙ p.at name }

pub SameCounts-trans : (a b c : List ℕ → ℕ) → SameCounts a b → SameCounts b c → SameCounts a c
SameCounts-trans a b c p q name = q name ∙ p name

-- calls that changed no count, and then one more
pub CountsAt-after : {X : Type 0} (a b c : List ℕ → ℕ) (name : List ℕ) (r : Result X IoFault) → SameCounts a b → CountsFailureByName b c name r → CountsFailureByName a c name r
CountsAt-after a b c name (Ok x) same counts = SameCounts-trans a b c same counts
CountsAt-after a b c name (Err Failed) same counts = (λ m. omega (arith, same m, counts.0 m), omega (arith, same name, counts.1))
CountsAt-after a b c name (Err NoMemory) same counts = SameCounts-trans a b c same counts

-- the same of a failure that is handed on with another type of value
CountsAt-failed : (X Y : Type 0) (a b c : List ℕ → ℕ) (name : List ℕ) (e : IoFault) → SameCounts a b
    → CountsFailureByName {X = X} b c name (Err e) → CountsFailureByName {X = Y} a c name (Err e)
CountsAt-failed X Y a b c name Failed same counts = (λ m. omega (arith, same m, counts.0 m), omega (arith, same name, counts.1))
CountsAt-failed X Y a b c name NoMemory same counts = SameCounts-trans a b c same counts

pub CountsAt-handed : (X Y : Type 0) (a b c : List ℕ → ℕ) (name : List ℕ) (e : IoFault) (r : Result Y IoFault) → SameCounts a b
    → CountsFailureByName {X = X} b c name (Err e) → r ≡ Err e → CountsFailureByName a c name r
CountsAt-handed X Y a b c name e r same counts handed =
    subst (λ (s : Result Y IoFault). CountsFailureByName a c name s) (sym handed) (CountsAt-failed X Y a b c name e same counts)

-- two pieces were taken one after the other
append_twice : (a b c : Option (List ℕ)) (xs ys : List ℕ) → b ≡ option_map (λ had. had ++ xs) a → c ≡ option_map (λ had. had ++ ys) b
    → c ≡ option_map (λ had. had ++ (xs ++ ys)) a
append_twice None b c xs ys p q = q ∙ ap (option_map (λ had. had ++ ys)) p
append_twice (Some had) b c xs ys p q = q ∙ ap (option_map (λ had. had ++ ys)) p ∙ ap Some (append_assoc had xs ys)

pub Took-append : (a b c : SinkAt) (xs ys : List ℕ) → TookBytes a b xs → TookBytes b c ys → TookBytes a c (xs ++ ys)
Took-append a b c xs ys p q = append_twice a.taken b.taken c.taken xs ys p q

-- nothing was taken
append_nothing : (a : Option (List ℕ)) → a ≡ option_map (λ had. had ++ []) a
append_nothing None = refl
append_nothing (Some had) = ap Some (sym (simp append-nil))

pub Took-nothing : (a : SinkAt) → TookBytes a a []
Took-nothing a = append_nothing a.taken

-- the rest of a text was offered, and some of it was taken
pub Took-more : (a b c : SinkAt) (bytes : List ℕ) (done n : ℕ) → done ≤ length bytes → TookBytes a b (take done bytes)
    → TookFront b c (take (length bytes - done) (drop done bytes)) n → (done + n ≤ length bytes) × TookBytes a c (take (done + n) bytes)
Took-more a b c bytes done n within had took =
    let rest : take (length bytes - done) (drop done bytes) ≡ drop done bytes = take_rest bytes done in
    let more : TookFront b c (drop done bytes) n = subst (λ (xs : List ℕ). TookFront b c xs n) rest took in
    let size : length (drop done bytes) ≡ length bytes - done = length-drop done bytes in (
      omega (arith, more.within),
      rw (take-add done n bytes) (Took-append a b c (take done bytes) (take n (drop done bytes)) had more.took),
    )

-- so many bytes of a text were taken, and no push failed
pub record HasPushed (before now : SinkAt) (bytes : List ℕ) (done : ℕ) : Type 0 where
  pub within : done ≤ length bytes
  pub took : TookBytes before now (take done bytes)
  pub count : now.faults ≡ before.faults

pub HasPushed-more : (a b c : SinkAt) (bytes : List ℕ) (done n : ℕ) → HasPushed a b bytes done
    → OfferedPiece b c (take (length bytes - done) (drop done bytes)) (Ok n) → HasPushed a c bytes (done + n)
HasPushed-more a b c bytes done n so_far offered =
    let more = Took-more a b c bytes done n so_far.within so_far.took offered.taken in
    record { within = more.0; took = more.1; count = offered.faults ∙ so_far.count }

-- these bytes are the front of the file, if there is one
pub record HasRead (c : Contents) (name bytes : List ℕ) : Type 0 where
  pub front : c.told ≡ true → bytes ≡ take (length bytes) (unwrap_or (c.at name) [])

-- one more piece was read
pub HasRead-more : (c d : Contents) (name bytes into more : List ℕ) (at n : ℕ) → at ≡ length bytes → SameFiles c d → HasRead c name bytes
    → ReadsFrom d name at into n → more ≡ bytes ++ take n into → HasRead c name more
HasRead-more c d name bytes into more at n place same had reads added = record {
  front = λ told.
      let all = reads.bytes (same.told ∙ told) in
      let file : unwrap_or (c.at name) [] ≡ all.0 = ap (λ (o : Option (List ℕ)). unwrap_or o []) (sym (same.at name) ∙ all.1) in
      let start : bytes ≡ take (length bytes) all.0 = had.front told ∙ ap (take (length bytes)) file in
      let size : length more ≡ length bytes + n = ap length added ∙ simp length-append (ap (λ k. length bytes + k) (length-take-le n into reads.fits)) in
      added ∙ ap (λ xs. xs ++ take n into) start ∙ ap (λ xs. take (length bytes) all.0 ++ xs) (all.2.same ∙ ap (λ k. take n (drop k all.0)) place)
      ∙ sym (take-add (length bytes) n all.0) ∙ ap (λ k. take k all.0) (sym size) ∙ ap (take (length more)) (sym file);
}

-- how many bytes there are after one more piece
pub length-more : (c : Contents) (name bytes into more : List ℕ) (at n : ℕ) → ReadsFrom c name at into n → more ≡ bytes ++ take n into
    → length more ≡ length bytes + n
length-more c name bytes into more at n reads added =
    ap length added ∙ simp length-append (ap (λ k. length bytes + k) (length-take-le n into reads.fits))
