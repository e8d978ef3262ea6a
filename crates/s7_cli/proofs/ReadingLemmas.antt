-- The reading of a command's input files, one after the other.
use Rattle.std.proofs.Common.{◌≡◌, ◌<◌, ◌≤◌, ◌⊎◌, inl, inr, sym, ◌∙◌, ap, subst, ℕ, List, [], ◌∷◌, length, map, Some, None, true, arith}
use Rattle.plc_io.specs.Contents.{Contents}
use Rattle.s7_cli.specs.Answer.{CallAnswer, read_fault_answer, too_long_answer}
use Rattle.s7_cli.specs.Command.{InputFile, limit_of}
use Rattle.s7_cli.specs.Ends.{RoseAmong}
use Rattle.s7_cli.specs.Reading.{Disk, HoldBytesInTurn, ReadsFilesInTurn, IsFileThere, AllowsAnswer, FailsOnTheWay}

-- what is said of the contents of the files behind these
abbrev pub Saying : Type 1
Saying = List (List ℕ) → CallAnswer → Type 0

-- ---- files that were read hold bytes of which this is said

pub reads-all : (d : Disk) (is : List InputFile) (contents : List (List ℕ)) (says : Saying) (a : CallAnswer)
    → HoldBytesInTurn d.before.contents is contents → says contents a → ReadsFilesInTurn d is says a
reads-all d [] [] says a hold said = said
reads-all d [] (bytes ∷ more) says a hold said = absurd hold
reads-all d (i ∷ is) [] says a hold said = absurd hold
reads-all d (i ∷ is) (bytes ∷ more) says a hold said =
    inr (bytes, hold.0, reads-all d is more (λ files. says (bytes ∷ files)) a hold.1 said)

-- ---- over files that tell what they hold

-- a read on the way failed, or the answer is one that the files allow
pub reads-known : (d : Disk) (is : List InputFile) (says : Saying) (a : CallAnswer) → d.before.contents.told ≡ true
    → ReadsFilesInTurn d is says a → ((a ≡ read_fault_answer) × FailsOnTheWay d is) ⊎ AllowsAnswer d.before.contents is says a
reads-known d [] says a known said = inr said
reads-known d (i ∷ is) says a known (inl (inl (rose, gives))) = inl (gives, inl rose)
reads-known d (i ∷ is) says a known (inl (inr (bytes, agrees, long, gives))) = inr (inl (inr (bytes, agrees known, long, gives)))
reads-known d (i ∷ is) says a known (inr (bytes, holds, more)) =
    elim (reads-known d is (λ files. says (bytes ∷ files)) a known more) [
      | inl fails ↦ inl (fails.0, inr (bytes, held, fails.1))
      | inr allowed ↦ inr (inr (bytes, held, allowed))
    ]
  where
    held : IsFileThere d.before.contents i bytes
    held = record { there = holds.agrees known; within = holds.within }

-- two answers to any contents are alike
abbrev pub AnswersAlike : (Alike : CallAnswer → CallAnswer → Type 0) → Saying → Type 0
AnswersAlike Alike says = (contents : List (List ℕ)) (a b : CallAnswer) → says contents a → says contents b → Alike a b

one_file : (c : Contents) (name xs ys : List ℕ) → c.at name ≡ Some xs → c.at name ≡ Some ys → xs ≡ ys
one_file c name xs ys p q = let e : Some xs ≡ Some ys = sym p ∙ q in cc

no_file : (c : Contents) (name xs : List ℕ) → c.at name ≡ None → c.at name ≡ Some xs → ⊥
no_file c name xs p q = let e : None ≡ Some xs = sym p ∙ q in cc

not_both : (i : InputFile) (xs ys : List ℕ) → xs ≡ ys → limit_of i.file < length xs → length ys ≤ limit_of i.file → ⊥
not_both i xs ys same long within = omega (arith, ap length same)

-- two answers that files allow whose contents are known are alike
pub allows-alike : (c : Contents) (Alike : CallAnswer → CallAnswer → Type 0) → ((a b : CallAnswer) → a ≡ b → Alike a b) → (is : List InputFile) (says : Saying)
    → AnswersAlike Alike says → (a b : CallAnswer) → AllowsAnswer c is says a → AllowsAnswer c is says b → Alike a b
allows-alike c Alike same [] says alike a b p q = alike [] a b p q
allows-alike c Alike same (i ∷ is) says alike a b (inl (inl p)) (inl (inl q)) = same a b (p.1 ∙ sym q.1)
allows-alike c Alike same (i ∷ is) says alike a b (inl (inl p)) (inl (inr q)) = absurd (no_file c i.name q.0 p.0 q.1)
allows-alike c Alike same (i ∷ is) says alike a b (inl (inl p)) (inr q) = absurd (no_file c i.name q.0 p.0 q.1.there)
allows-alike c Alike same (i ∷ is) says alike a b (inl (inr p)) (inl (inl q)) = absurd (no_file c i.name p.0 q.0 p.1)
allows-alike c Alike same (i ∷ is) says alike a b (inl (inr p)) (inl (inr q)) = same a b (p.3 ∙ sym q.3)
allows-alike c Alike same (i ∷ is) says alike a b (inl (inr p)) (inr q) =
    absurd (not_both i p.0 q.0 (one_file c i.name p.0 q.0 p.1 q.1.there) p.2 q.1.within)
allows-alike c Alike same (i ∷ is) says alike a b (inr p) (inl (inl q)) = absurd (no_file c i.name p.0 q.0 p.1.there)
allows-alike c Alike same (i ∷ is) says alike a b (inr p) (inl (inr q)) =
    absurd (not_both i q.0 p.0 (one_file c i.name q.0 p.0 q.1 p.1.there) q.2 p.1.within)
allows-alike c Alike same (i ∷ is) says alike a b (inr p) (inr q) =
    let is_same : q.0 ≡ p.0 = one_file c i.name q.0 p.0 q.1.there p.1.there in
    allows-alike c Alike same is (λ files. says (p.0 ∷ files)) (λ contents. alike (p.0 ∷ contents)) a b p.2
    (subst (λ (bytes : List ℕ). AllowsAnswer c is (λ files. says (bytes ∷ files)) b) is_same q.2)

-- a read on the way is one of an input file
pub fails-rose : (d : Disk) (is : List InputFile) → FailsOnTheWay d is
    → RoseAmong d.before.failed_reads d.after.failed_reads (map (λ i. i.name) is)
fails-rose d [] fails = fails
fails-rose d (i ∷ is) (inl rose) = inl rose
fails-rose d (i ∷ is) (inr (bytes, held, more)) = inr (fails-rose d is more)

-- ---- which answers there are

-- a read of an input file failed, a file is too long, or this is said of some contents
pub reads-kinds : (d : Disk) (is : List InputFile) (says : Saying) (a : CallAnswer) → ReadsFilesInTurn d is says a
    → ((a ≡ read_fault_answer) × RoseAmong d.before.failed_reads d.after.failed_reads (map (λ i. i.name) is))
    ⊎ ((i : InputFile) × (a ≡ too_long_answer i.file)) ⊎ ((contents : List (List ℕ)) × says contents a)
reads-kinds d [] says a said = inr (inr ([], said))
reads-kinds d (i ∷ is) says a (inl (inl (rose, gives))) = inl (gives, inl rose)
reads-kinds d (i ∷ is) says a (inl (inr stops)) = inr (inl (i, stops.3))
reads-kinds d (i ∷ is) says a (inr (bytes, holds, more)) =
    elim (reads-kinds d is (λ files. says (bytes ∷ files)) a more) [
      | inl fault ↦ inl (fault.0, inr fault.1)
      | inr (inl long) ↦ inr (inl long)
      | inr (inr said) ↦ inr (inr (bytes ∷ said.0, said.1))
    ]
