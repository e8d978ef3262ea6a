-- The parameters of an image by their sections, and how a listing declares them.
use Rattle.std.proofs.Common.{◌≡◌, ℕ, suc, ◌+◌, ◌<◌, ◌^◌, Bool, true, false, List, [], ◌∷◌, ◌++◌, length, refl, sym, ap, subst, ◌∙◌, arith}
use Rattle.std.specs.Prelude.{◌==◌, ◌&&◌, ◌||◌}
use Rattle.std.specs.List.{AllByRecursion}
use Rattle.flat_code.specs.Records.{section_in_out, section_out}
use Rattle.flat_code.specs.declared.programs.Param.{Param}
use Rattle.stl_ast.specs.declared.blocks.PartKind.{PartKind}
use Rattle.stl_ast.specs.declared.blocks.PartKind.TheVariants as part
use Rattle.stl_types.specs.declared.parameters.Formal.{Formal}
use Rattle.stl_list.specs.JoinedParameters.{PassingChains}
use Rattle.stl_list.specs.Parameters.{name_of, section_of}
use Rattle.stl_list.specs.Signatures.{formal_of_param, formals_from, is_behind}
use Rattle.listing_laws.specs.ListedDeclarations.{AreWide}
use Rattle.listing_laws.proofs.declared.Cells.{AreNumbered}
use Rattle.listing_laws.proofs.declared.Sections.{AreGrouped, IsLast, Nothing as NoLast, Returned as LastReturned}

-- parameters of a section
abbrev pub AreOf : ℕ → List Param → Type 0
AreOf section ps = AllByRecursion (λ p. p.section ≡ section) ps

-- a return value behind an IN_OUT, or none
pub data HasEnd (returns : Bool) (both last : List Param) : Type 0 where
  Ends : last ≡ [] → HasEnd returns both last
  Returns : (r p : Param) (ps : List Param) → returns ≡ true → both ≡ p ∷ ps → last ≡ r ∷ [] → r.section ≡ section_out → HasEnd returns both last

-- the parameters of a block in the order of an image. `returns`: it is a function
pub record HasGroups (returns : Bool) (params : List Param) : Type 0 where
  pub ins : List Param
  pub outs : List Param
  pub both : List Param
  pub last : List Param
  pub are : params ≡ ins ++ (outs ++ (both ++ last))
  pub input : AreOf 1 ins
  pub output : AreOf 2 outs
  pub in_out : AreOf 3 both
  pub ends : HasEnd returns both last
  pub short : length ins + length outs + length both < 2 ^ 64

-- ---- one section behind the other

behind_after : (returns behind : Bool) → List Param → Bool
behind_after returns behind [] = behind
behind_after returns behind (p ∷ ps) = behind_after returns (is_behind returns behind p) ps

formals_append : (c : PassingChains) (returns behind : Bool) (index first : ℕ) (ps rest : List Param)
    → formals_from c returns behind index first (ps ++ rest)
    ≡ formals_from c returns behind index first ps ++ formals_from c returns (behind_after returns behind ps) (index + length ps) (first + length ps) rest
unfolding behind_after
formals_append c returns behind index first [] rest =
    let a : index ≡ index + 0 = omega arith in
    let b : first ≡ first + 0 = omega arith in
    λ i. formals_from c returns behind (a i) (b i) rest
formals_append c returns behind index first (p ∷ ps) rest =
    let a : suc index + length ps ≡ index + suc (length ps) = omega arith in
    let b : suc first + length ps ≡ first + suc (length ps) = omega arith in
    let more = formals_append c returns (is_behind returns behind p) (suc index) (suc first) ps rest in
    let after = behind_after returns (is_behind returns behind p) ps in
    ap (λ z. formal_of_param c behind index first p ∷ z) (more ∙ (λ i. formals_from c returns (is_behind returns behind p) (suc index) (suc first) ps ++ formals_from c returns after (a i) (b i) rest))

-- no IN_OUT among these
still : (returns : Bool) (section : ℕ) (ps : List Param) → (section == section_in_out) ≡ false → AreOf section ps → behind_after returns false ps ≡ false
unfolding behind_after
still returns section [] apart h = refl
still returns section (p ∷ ps) apart (is, more) =
    let none : is_behind returns false p ≡ false = ap (λ n. false || returns && n == 3) is ∙ ap (λ t. false || returns && t) apart ∙ by returns in
    ap (λ t. behind_after returns t ps) none ∙ still returns section ps apart more
  where
    by : (t : Bool) → (false || t && false) ≡ false
    by true = refl
    by false = refl

-- an IN_OUT of a function
behind_from : (ps : List Param) → AreOf 3 ps → behind_after true true ps ≡ true
unfolding behind_after
behind_from [] h = refl
behind_from (p ∷ ps) (is, more) = behind_from ps more

behind_both : (behind : Bool) (p : Param) (ps : List Param) → AreOf 3 (p ∷ ps) → behind_after true behind (p ∷ ps) ≡ true
unfolding behind_after
behind_both behind p ps (is, more) =
    let here : is_behind true behind p ≡ true = ap (λ n. behind || true && n == 3) is ∙ by behind in
    ap (λ t. behind_after true t ps) here ∙ behind_from ps more
  where
    by : (t : Bool) → (t || true) ≡ true
    by true = refl
    by false = refl

numbered_from : (c : PassingChains) (returns behind : Bool) (index first section : ℕ) (ps : List Param) → (section == section_out) ≡ false → AreOf section ps
    → AreNumbered index (formals_from c returns behind index first ps)
numbered_from c returns behind index first section [] apart h = tt
numbered_from c returns behind index first section (p ∷ ps) apart (is, more) =
    let none : (behind && p.section == section_out) ≡ false = ap (λ n. behind && n == section_out) is ∙ ap (λ t. behind && t) apart ∙ by behind in
    (ap (λ t. name_of t index) none, numbered_from c returns (is_behind returns behind p) (suc index) (suc first) section ps apart more)
  where
    by : (t : Bool) → (t && false) ≡ false
    by true = refl
    by false = refl

numbered_outs : (c : PassingChains) (returns : Bool) (index first : ℕ) (ps : List Param) → AreOf 2 ps → AreNumbered index (formals_from c returns false index first ps)
unfolding behind_after
numbered_outs c returns index first [] h = tt
numbered_outs c returns index first (p ∷ ps) (is, more) =
    let none : is_behind returns false p ≡ false = still returns 2 (p ∷ []) refl (is, tt) in
    (refl, subst (λ t. AreNumbered (suc index) (formals_from c returns t (suc index) (suc first) ps)) (sym none) (numbered_outs c returns (suc index) (suc first) ps more))

sections_from : (c : PassingChains) (returns behind : Bool) (index first section : ℕ) (kind : PartKind) (ps : List Param) → section_of section ≡ kind → AreOf section ps
    → AllByRecursion (λ f. f.section ≡ kind) (formals_from c returns behind index first ps)
sections_from c returns behind index first section kind [] e h = tt
sections_from c returns behind index first section kind (p ∷ ps) e (is, more) =
    (ap section_of is ∙ e, sections_from c returns (is_behind returns behind p) (suc index) (suc first) section kind ps e more)

pub formals_length : (c : PassingChains) (returns behind : Bool) (index first : ℕ) (ps : List Param) → length (formals_from c returns behind index first ps) ≡ length ps
formals_length c returns behind index first [] = refl
formals_length c returns behind index first (p ∷ ps) = ap suc (formals_length c returns (is_behind returns behind p) (suc index) (suc first) ps)

-- ---- all of them

wide_front : (ps qs : List Param) (fs gs : List Formal) → length ps ≡ length fs → AreWide (ps ++ qs) (fs ++ gs) → AreWide ps fs × AreWide qs gs
wide_front [] qs [] gs e h = (tt, h)
wide_front [] qs (f ∷ fs) gs e h = absurd (omega (arith, e))
wide_front (p ∷ ps) qs [] gs e h = absurd (omega (arith, e))
wide_front (p ∷ ps) qs (f ∷ fs) gs e (one, more) =
    let rest = wide_front ps qs fs gs (omega (arith, e)) more in
    ((one, rest.0), rest.1)

-- the formals of parameters by their sections, with the widths of these
pub record AreListed (returns : Bool) (params : List Param) (p : HasGroups returns params) (fs : List Formal) : Type 0 where
  pub groups : AreGrouped fs
  pub wide_ins : AreWide p.ins groups.ins
  pub wide_outs : AreWide p.outs groups.outs
  pub wide_both : AreWide p.both groups.both
  pub wide_last : AreWide p.last groups.last

last_is : (c : PassingChains) (returns : Bool) (index first : ℕ) (both last : List Param) → HasEnd returns both last → AreOf 3 both
    → IsLast (formals_from c returns (behind_after returns false both) index first last)
last_is c returns index first both last (Ends e) h = NoLast (ap (λ z. formals_from c returns (behind_after returns false both) index first z) e)
last_is c returns index first both last (Returns r p ps is some alone section) h =
    subst (λ z. IsLast (formals_from c returns (behind_after returns false both) index first z)) (sym alone)
    (LastReturned _ (ap (λ t. name_of t index) (ap (λ t. t && r.section == section_out) there ∙ ap (λ n. n == section_out) section)) refl)
  where
    there : behind_after returns false both ≡ true
    there =
        ap (λ t. behind_after t false both) is ∙ ap (behind_after true false) some
        ∙ behind_both false p ps (subst (AreOf 3) some h)

pub all_listed : (c : PassingChains) (returns : Bool) (first : ℕ) (params : List Param) (g : HasGroups returns params) → AreWide params (formals_from c returns false 0 first params)
    → AreListed returns params g (formals_from c returns false 0 first params)
all_listed c returns first params g wide = record {
  groups = record {
    ins = fi;
    outs = fo;
    both = fb;
    last = fl;
    are = are;
    input = record { named = numbered_from c returns false 0 first 1 g.ins refl g.input; sections = sections_from c returns false 0 first 1 part.Input g.ins refl g.input };
    output = record {
      named = subst (λ n. AreNumbered n fo) from_ins (numbered_outs c returns (0 + length g.ins) (first + length g.ins) g.outs g.output);
      sections = sections_from c returns false (0 + length g.ins) (first + length g.ins) 2 part.Output g.outs refl g.output;
    };
    in_out = record {
      named = subst (λ n. AreNumbered n fb) from_outs (numbered_from c returns false (0 + length g.ins + length g.outs) (first + length g.ins + length g.outs) 3 g.both refl g.in_out);
      sections = sections_from c returns false (0 + length g.ins + length g.outs) (first + length g.ins + length g.outs) 3 part.InOut g.both refl g.in_out;
    };
    ends = last_is c returns (0 + length g.ins + length g.outs + length g.both) (first + length g.ins + length g.outs + length g.both) g.both g.last g.ends g.in_out;
    short = omega (arith, g.short, size_ins, size_outs, size_both);
  };
  wide_ins = one.0;
  wide_outs = two.0;
  wide_both = three.0;
  wide_last = three.1;
}
  where
    fi : List Formal
    fi = formals_from c returns false 0 first g.ins

    fo : List Formal
    fo = formals_from c returns false (0 + length g.ins) (first + length g.ins) g.outs

    fb : List Formal
    fb = formals_from c returns false (0 + length g.ins + length g.outs) (first + length g.ins + length g.outs) g.both

    fl : List Formal
    fl = formals_from c returns (behind_after returns false g.both) (0 + length g.ins + length g.outs + length g.both) (first + length g.ins + length g.outs + length g.both) g.last

    size_ins : length fi ≡ length g.ins
    size_ins = formals_length c returns false 0 first g.ins

    size_outs : length fo ≡ length g.outs
    size_outs = formals_length c returns false (0 + length g.ins) (first + length g.ins) g.outs

    size_both : length fb ≡ length g.both
    size_both = formals_length c returns false (0 + length g.ins + length g.outs) (first + length g.ins + length g.outs) g.both

    from_ins : 0 + length g.ins ≡ length fi
    from_ins = omega (arith, size_ins)

    from_outs : 0 + length g.ins + length g.outs ≡ length fi + length fo
    from_outs = omega (arith, size_ins, size_outs)

    parts : formals_from c returns false 0 first (g.ins ++ (g.outs ++ (g.both ++ g.last))) ≡ fi ++ (fo ++ (fb ++ fl))
    parts =
        formals_append c returns false 0 first g.ins (g.outs ++ (g.both ++ g.last))
        ∙ ap (λ z. fi ++ z)
        (ap (λ t. formals_from c returns t (0 + length g.ins) (first + length g.ins) (g.outs ++ (g.both ++ g.last))) (still returns 1 g.ins refl g.input)
        ∙ formals_append c returns false (0 + length g.ins) (first + length g.ins) g.outs (g.both ++ g.last)
        ∙ ap (λ z. fo ++ z)
        (ap (λ t. formals_from c returns t (0 + length g.ins + length g.outs) (first + length g.ins + length g.outs) (g.both ++ g.last)) (still returns 2 g.outs refl g.output)
        ∙ formals_append c returns false (0 + length g.ins + length g.outs) (first + length g.ins + length g.outs) g.both g.last))

    are : formals_from c returns false 0 first params ≡ fi ++ (fo ++ (fb ++ fl))
    are = ap (formals_from c returns false 0 first) g.are ∙ parts

    all_wide : AreWide (g.ins ++ (g.outs ++ (g.both ++ g.last))) (fi ++ (fo ++ (fb ++ fl)))
    all_wide = subst (λ z. AreWide z (fi ++ (fo ++ (fb ++ fl)))) g.are (subst (AreWide params) are wide)

    one : AreWide g.ins fi × AreWide (g.outs ++ (g.both ++ g.last)) (fo ++ (fb ++ fl))
    one = wide_front g.ins (g.outs ++ (g.both ++ g.last)) fi (fo ++ (fb ++ fl)) (sym size_ins) all_wide

    two : AreWide g.outs fo × AreWide (g.both ++ g.last) (fb ++ fl)
    two = wide_front g.outs (g.both ++ g.last) fo (fb ++ fl) (sym size_outs) one.1

    three : AreWide g.both fb × AreWide g.last fl
    three = wide_front g.both g.last fb fl (sym size_both) two.1
