-- Parameters in a listing.
use Rattle.std.proofs.Common.{◌≡◌, ℕ, zero, suc, ◌+◌, ◌<◌, Bool, true, false, List, [], ◌∷◌, length, Some, slice_get, refl, sym, ap, ◌∙◌, arith, if◌then◌else◌}
use Rattle.std.proofs.lemmas.Option.{same_Some, slice_get_within}
use Rattle.plc_base.specs.Kinds.{is_function, is_same_block}
use Rattle.plc_base.specs.Widths.{width_number}
use Rattle.plc_base.specs.declared.blocks.BlockId.{BlockId}
use Rattle.plc_base.specs.declared.places.Width.{Width}
use Rattle.plc_base.specs.declared.places.Width.TheVariants as width
use Rattle.flat_code.specs.Programs.{CodeBlock}
use Rattle.flat_code.specs.declared.programs.Param.{Param}
use Rattle.block_layout.specs.Offsets.{width_of}
use Rattle.stl_types.specs.declared.parameters.Formal.{Formal}
use Rattle.stl_list.specs.JoinedParameters.{PassingChains, chains_of, first_of, kind_at, kind_by, mark_at, total_parameter_count}
use Rattle.stl_list.specs.Parameters.{section_of}
use Rattle.stl_list.specs.Signatures.{formals_from, formals_of_block, is_behind, signatures, signatures_from}
use Rattle.listing_laws.specs.Chains.{is_listed_type}
use Rattle.listing_laws.specs.ListingParameters.{AreEndsAlike, AreListedAs, AreParametersListed, params_of_block}

-- a parameter among those of a block, whose first has a number
record IsAt (c : PassingChains) (first : ℕ) (ps : List Param) (i : ℕ) (f : Formal) : Type 0 where
  param : Param
  there : slice_get ps i ≡ Some param
  section : f.section ≡ section_of param.section
  kind : f.kind ≡ kind_at c (first + i) param.width

formal_at : (c : PassingChains) (back behind : Bool) (index first : ℕ) (ps : List Param) (i : ℕ) (f : Formal)
    → slice_get (formals_from c back behind index first ps) i ≡ Some f → IsAt c first ps i f
formal_at c back behind index first [] i f e = absurd cc
formal_at c back behind index first (p ∷ ps) zero f e =
    let same = same_Some _ f e in
    record {
      param = p;
      there = refl;
      section = sym (ap (λ (g : Formal). g.section) same);
      kind = sym (ap (λ (g : Formal). g.kind) same) ∙ ap (λ (n : ℕ). kind_at c n p.width) (omega arith);
    }
formal_at c back behind index first (p ∷ ps) (suc i) f e =
    let rest = formal_at c back (is_behind back behind p) (suc index) (suc first) ps i f e in
    record {
      param = rest.param;
      there = rest.there;
      section = rest.section;
      kind = rest.kind ∙ ap (λ (n : ℕ). kind_at c n rest.param.width) (omega arith);
    }

-- the same among the parameters of blocks
record IsOf (c : PassingChains) (first : ℕ) (bs : List CodeBlock) (id : BlockId) (i : ℕ) (f : Formal) : Type 0 where
  param : Param
  there : slice_get (params_of_block bs id) i ≡ Some param
  section : f.section ≡ section_of param.section
  kind : f.kind ≡ kind_at c (first + (first_of bs id + i)) param.width
  few : first_of bs id + i < total_parameter_count bs

block_at : (c : PassingChains) (first : ℕ) (bs : List CodeBlock) (id : BlockId) (i : ℕ) (f : Formal)
    → slice_get (formals_of_block (signatures_from c first bs) id) i ≡ Some f → IsOf c first bs id i f
block_at c first [] id i f e = absurd cc
block_at c first (b ∷ bs) id i f e = by (is_same_block b.id id) refl e (λ h. block_at c (first + length b.params) bs id i f h)
  where
    own : List Formal
    own = formals_from c (is_function b.id.kind) false 0 first b.params

    by : (t : Bool) → is_same_block b.id id ≡ t
        → slice_get (if t then formals_from c (is_function b.id.kind) false 0 first b.params else formals_of_block (signatures_from c (first + length b.params) bs) id) i ≡ Some f
        → (slice_get (formals_of_block (signatures_from c (first + length b.params) bs) id) i ≡ Some f → IsOf c (first + length b.params) bs id i f)
        → IsOf c first (b ∷ bs) id i f
    by true is e more =
        let h = formal_at c (is_function b.id.kind) false 0 first b.params i f e in
        let within = slice_get_within b.params i h.param h.there in
        let at : first_of (b ∷ bs) id ≡ 0 = ap (λ (t : Bool). if t then 0 else length b.params + first_of bs id) is in
        record {
          param = h.param;
          there = ap (λ (t : Bool). slice_get (if t then b.params else params_of_block bs id) i) is ∙ h.there;
          section = h.section;
          kind = h.kind ∙ ap (λ (n : ℕ). kind_at c n h.param.width) (omega (arith, at));
          few = omega (arith, at, within);
        }
    by false is e more =
        let h = more e in
        let low = h.few in
        let at : first_of (b ∷ bs) id ≡ length b.params + first_of bs id = ap (λ (t : Bool). if t then 0 else length b.params + first_of bs id) is in
        record {
          param = h.param;
          there = ap (λ (t : Bool). slice_get (if t then b.params else params_of_block bs id) i) is ∙ h.there;
          section = h.section;
          kind = h.kind ∙ ap (λ (n : ℕ). kind_at c n h.param.width) (omega (arith, at));
          few = omega (arith, at, low);
        }

pub parameters_listed : AreParametersListed
unfolding signatures
parameters_listed c blocks id index f e =
    let h = block_at c 0 blocks id index f e in
    record {
      param = h.param;
      there = h.there;
      section = h.section;
      kind = h.kind ∙ ap (λ (n : ℕ). kind_at c n h.param.width) (omega arith);
      few = h.few;
    }

listed_by : (int time : Bool) (w : Width) → is_listed_type (kind_by int time w) ≡ true
listed_by true time w = refl
listed_by false true w = refl
listed_by false false width.Bit = refl
listed_by false false width.Byte = refl
listed_by false false width.Word = refl
listed_by false false width.Dword = refl

pub kind_listed : (c : PassingChains) (n : ℕ) (w : Width) → is_listed_type (kind_at c n w) ≡ true
unfolding kind_at
kind_listed c n w = listed_by (mark_at c.ints (slice_get c.labels n)) (mark_at c.times (slice_get c.labels n)) w

pub listed_as : AreListedAs
listed_as blocks declared id index f kept h wide = record {
  section = h.section;
  width = ap width_number
      (wide ∙ sym (kept.widths (first_of blocks id + index) h.few)
      ∙ ap (λ (w : Width). width_of (kind_at (chains_of blocks) (first_of blocks id + index) w)) (sym wide)
      ∙ sym (ap width_of h.kind));
  kind = ap is_listed_type h.kind ∙ kind_listed (chains_of blocks) (first_of blocks id + index) h.param.width;
}

pub ends_alike : AreEndsAlike
ends_alike blocks declared id other index place f g kept h k wide step =
    h.kind ∙ kept.ends (first_of blocks id + index) (first_of blocks other + place) step h.param.width
    ∙ ap (λ (w : Width). kind_at (chains_of blocks) (first_of blocks other + place) w) wide ∙ sym k.kind
