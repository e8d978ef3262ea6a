-- Texts that are written piece by piece.
use Rattle.std.proofs.Common.{◌≡◌, refl, sym, ◌∙◌, ap, subst, ℕ, ◌+◌, min, List, [], ◌++◌, length, take, Option, Some, None, Result, Ok, Err, append_assoc, append-nil, arith}
use Rattle.std.specs.Option.{option_map}
use Rattle.std.proofs.Math.Seq.{take-append-add, take-length}
use Rattle.std.proofs.lemmas.List.{take-append-le}
use Rattle.std.proofs.lemmas.Grind.{common_steps}
use Rattle.plc_io.specs.Counts.{CountRose}
use Rattle.plc_io.specs.Moments.{SinkAt}
use Rattle.plc_io.specs.SinkBytes.{TookBytes, TookPrefix, WroteText}
use Rattle.plc_io.specs.declared.faults.IoFault.{IoFault}
use Rattle.plc_io.specs.declared.faults.IoFault.TheVariants.{Failed, NoMemory}

texts_joined : (a b c : Option (List ℕ)) (s t : List ℕ) → b ≡ option_map (λ had. had ++ s) a → c ≡ option_map (λ had. had ++ t) b
    → c ≡ option_map (λ had. had ++ (s ++ t)) a
texts_joined None b c s t first second = grind (arith, common_steps)
texts_joined (Some had) b c s t first second = grind (arith, common_steps)

took-++ : (a b c : SinkAt) (s t : List ℕ) → TookBytes a b s → TookBytes b c t → TookBytes a c (s ++ t)
took-++ a b c s t first second = texts_joined a.taken b.taken c.taken s t first second

took-prefix : (a b c : SinkAt) (s t : List ℕ) → TookBytes a b s → TookPrefix b c t → TookPrefix a c (s ++ t)
took-prefix a b c s t first (n, second) =
    (length s + n, subst (λ (u : List ℕ). TookBytes a c u) (sym (take-append-add s t n)) (took-++ a b c s (take n t) first second))

longer-prefix : (a b : SinkAt) (s t : List ℕ) → TookPrefix a b s → TookPrefix a b (s ++ t)
longer-prefix a b s t (n, took) =
    (min n (length s), subst (λ (u : List ℕ). TookBytes a b u) (sym (take-append-le (min n (length s)) s t (omega arith) ∙ same)) took)
  where
    same : take (min n (length s)) s ≡ take n s
    same = grind (arith, common_steps)

nothing : (o : Option (List ℕ)) → o ≡ option_map (λ had. had ++ []) o
nothing None = refl
nothing (Some had) = grind (arith, common_steps)

-- nothing was written before memory was wanting
pub wrote-none : (a : SinkAt) (text : List ℕ) (r : Result Unit IoFault) → r ≡ Err NoMemory → WroteText a a text r
wrote-none a text r is =
    subst (λ (v : Result Unit IoFault). WroteText a a text v) (sym is) (record { taken = (0, nothing a.taken); faults = refl })

-- a front of the whole text was written, and this rest of it is to follow
pub record GoesOn (whole rest : List ℕ) (before now : SinkAt) : Type 0 where
  pub written : List ℕ
  pub took : TookBytes before now written
  pub faults : now.faults ≡ before.faults
  pub all : written ++ rest ≡ whole

-- before the first piece
pub goes-first : (whole : List ℕ) (at : SinkAt) → GoesOn whole whole at at
goes-first whole at = record { written = []; took = nothing at.taken; faults = refl; all = refl }

-- one more piece
pub goes-next : (whole rest piece more text : List ℕ) (a b c : SinkAt) (u : Unit) → GoesOn whole rest a b → rest ≡ piece ++ more → text ≡ piece
    → WroteText {X = Unit {0}} b c text (Ok u) → GoesOn whole more a c
goes-next whole rest piece more text a b c u so_far splits is wrote = record {
  written = so_far.written ++ piece;
  took = took-++ a b c so_far.written piece so_far.took (subst (λ (t : List ℕ). TookBytes b c t) is wrote.taken);
  faults = wrote.faults ∙ so_far.faults;
  all = append_assoc so_far.written piece more ∙ ap (λ (t : List ℕ). so_far.written ++ t) (sym splits) ∙ so_far.all;
}

-- the last piece, which ended somehow
behind : (whole piece : List ℕ) (a b c : SinkAt) (r : Result Unit IoFault) → GoesOn whole piece a b → WroteText b c piece r → WroteText a c whole r
behind whole piece a b c (Ok u) so_far wrote = record {
  taken = subst (λ (t : List ℕ). TookBytes a c t) so_far.all (took-++ a b c so_far.written piece so_far.took wrote.taken);
  faults = wrote.faults ∙ so_far.faults;
}
behind whole piece a b c (Err Failed) so_far wrote = record {
  taken = subst (λ (t : List ℕ). TookPrefix a c t) so_far.all (took-prefix a b c so_far.written piece so_far.took wrote.taken);
  faults = (omega (arith, wrote.faults.0, so_far.faults), subst (λ (n : ℕ). CountRose n c.faults) so_far.faults wrote.faults.1);
}
behind whole piece a b c (Err NoMemory) so_far wrote = record {
  taken = subst (λ (t : List ℕ). TookPrefix a c t) so_far.all (took-prefix a b c so_far.written piece so_far.took wrote.taken);
  faults = wrote.faults ∙ so_far.faults;
}

pub goes-last : (whole piece text : List ℕ) (a b c : SinkAt) (r : Result Unit IoFault) → GoesOn whole piece a b → text ≡ piece
    → WroteText b c text r → WroteText a c whole r
goes-last whole piece text a b c r so_far is wrote =
    behind whole piece a b c r so_far (subst (λ (t : List ℕ). WroteText b c t r) is wrote)

-- a piece that was cut short
cut : (b c : SinkAt) (piece more : List ℕ) (fault : IoFault) → WroteText {X = Unit {0}} b c piece (Err fault) → WroteText {X = Unit {0}} b c (piece ++ more) (Err fault)
cut b c piece more Failed wrote = record { taken = longer-prefix b c piece more wrote.taken; faults = wrote.faults }
cut b c piece more NoMemory wrote = record { taken = longer-prefix b c piece more wrote.taken; faults = wrote.faults }

pub goes-cut : (whole rest piece more text : List ℕ) (a b c : SinkAt) (fault : IoFault) (r : Result Unit IoFault) → GoesOn whole rest a b
    → rest ≡ piece ++ more → text ≡ piece → WroteText {X = Unit {0}} b c text (Err fault) → r ≡ Err fault → WroteText a c whole r
goes-cut whole rest piece more text a b c fault r so_far splits is wrote ends =
    subst (λ (v : Result Unit IoFault). WroteText a c whole v) (sym ends)
    (behind whole rest a b c (Err fault) so_far
    (subst (λ (t : List ℕ). WroteText {X = Unit {0}} b c t (Err fault)) (sym splits)
    (cut b c piece more fault (subst (λ (t : List ℕ). WroteText {X = Unit {0}} b c t (Err fault)) is wrote))))

-- nothing is left
pub goes-end : (whole rest : List ℕ) (a b : SinkAt) (u : Unit) → GoesOn whole rest a b → rest ≡ [] → WroteText {X = Unit {0}} a b whole (Ok u)
goes-end whole rest a b u so_far none = record {
  taken = subst (λ (t : List ℕ). TookBytes a b t) (sym (append-nil so_far.written) ∙ ap (λ (t : List ℕ). so_far.written ++ t) (sym none) ∙ so_far.all) so_far.took;
  faults = so_far.faults;
}

-- memory is wanting for what is left
pub goes-wanting : (whole rest : List ℕ) (a b : SinkAt) (r : Result Unit IoFault) → r ≡ Err NoMemory → GoesOn whole rest a b → WroteText a b whole r
goes-wanting whole rest a b r is so_far =
    subst (λ (v : Result Unit IoFault). WroteText a b whole v) (sym is) (record {
      taken = (length so_far.written, subst (λ (t : List ℕ). TookBytes a b t) (sym front) so_far.took);
      faults = so_far.faults;
    })
  where
    front : take (length so_far.written) whole ≡ so_far.written
    front =
        ap (take (length so_far.written)) (sym so_far.all)
        ∙ take-append-le (length so_far.written) so_far.written rest (omega arith)
        ∙ take-length so_far.written
