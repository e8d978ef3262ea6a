-- The parameters of a listed function, as its body sees them.
use Rattle.std.proofs.Common.{◌≡◌, ◌⊎◌, inl, inr, ℕ, zero, suc, ◌-◌, ◌<◌, Bool, false, List, [], ◌∷◌, ◌++◌, length, map, take, bytes_eq, Option, Some, None, slice_get, refl, sym, ap, ap₂, subst, ◌∙◌, arith, if◌then◌else◌, ne_eqb}
use Rattle.std.specs.List.{AllByRecursion}
use Rattle.std.proofs.lemmas.Option.{same_Some, slice_get_within}
use Rattle.plc_base.specs.Folding.{upper_case_name}
use Rattle.stl_ast.specs.declared.blocks.Block.{Block}
use Rattle.stl_ast.specs.declared.declarations.Simple.{Simple}
use Rattle.block_layout.specs.declared.blocks.BlockLayout.{BlockLayout}
use Rattle.block_layout.specs.declared.cells.Cell.{Cell}
use Rattle.stl_types.specs.Context.{Context}
use Rattle.stl_types.specs.Parameters.{formal, formal_here, formal_of, formals_of}
use Rattle.stl_types.specs.Variables.{behind_others, own_variable}
use Rattle.stl_types.specs.declared.parameters.Formal.{Formal}
use Rattle.stl_types.specs.declared.resolved_operands.Resolution.TheVariants.{Resolved}
use Rattle.stl_types.specs.declared.resolved_operands.ResolvedOperand.TheVariants as resolved
use Rattle.stl_codegen.specs.Instruction.{in_parameter_order, return_last}
use Rattle.listing_laws.specs.OwnParameters.{IsFunctionAt}
use Rattle.listing_laws.specs.Passings.{AreNamedApart, in_upper_case}
use Rattle.listing_laws.proofs.called.Owned.{in_order_at}
use Rattle.listing_laws.proofs.remade.Cells.{IsPlainCell}
use Rattle.listing_laws.proofs.ruled.Parameters.{own_parameters_found}

-- ---- places in lists

pub mapped_at : {A B : Type 0} (f : A → B) (xs : List A) (i : ℕ) (x : A) → slice_get xs i ≡ Some x → slice_get (map f xs) i ≡ Some (f x)
mapped_at f [] i x e = absurd cc
mapped_at f (z ∷ xs) zero x e = ap (λ y. Some (f y)) (same_Some z x e)
mapped_at f (z ∷ xs) (suc i) x e = mapped_at f xs i x e

-- what a mapped list has at a place comes from the list
pub mapped_from : {A B : Type 0} (f : A → B) (xs : List A) (i : ℕ) (y : B) → slice_get (map f xs) i ≡ Some y → (x : A) × (slice_get xs i ≡ Some x) × (f x ≡ y)
mapped_from f [] i y e = absurd cc
mapped_from f (x ∷ xs) zero y e = (x, refl, same_Some (f x) y e)
mapped_from f (x ∷ xs) (suc i) y e = mapped_from f xs i y e

-- the front of a list, by what stands before a place
all_taken : {A : Type 0} (P : A → Type 0) (xs : List A) (j : ℕ) → ((k : ℕ) (x : A) → k < j → slice_get xs k ≡ Some x → P x) → AllByRecursion P (take j xs)
all_taken P xs zero h = tt
all_taken P [] (suc j) h = tt
all_taken P (x ∷ xs) (suc j) h = (h 0 x (omega arith) refl, all_taken P xs j (λ k y less e. h (suc k) y (omega (arith, less)) e))

-- ---- the return value is the last parameter, and the first component

last_or_not : {A : Type 0} (xs : List A) (g : A) (i : ℕ) (x : A) → slice_get (xs ++ g ∷ []) i ≡ Some x → (slice_get xs i ≡ Some x) ⊎ ((i ≡ length xs) × (g ≡ x))
last_or_not [] g zero x e = inr (refl, same_Some g x e)
last_or_not [] g (suc i) x e = absurd cc
last_or_not (z ∷ xs) g zero x e = inl e
last_or_not (z ∷ xs) g (suc i) x e = by (last_or_not xs g i x e)
  where
    by : (slice_get xs i ≡ Some x) ⊎ ((i ≡ length xs) × (g ≡ x)) → (slice_get xs i ≡ Some x) ⊎ ((suc i ≡ suc (length xs)) × (g ≡ x))
    by (inl h) = inl h
    by (inr h) = inr (ap suc h.0, h.1)

behind_first : (count i : ℕ) (r : Simple) → behind_others count (suc i) (Some r) ≡ i
behind_first count i r = ap (λ (t : Bool). if t then count - 1 else suc i - 1) (ne_eqb (suc i) 0 (λ e. absurd (omega (arith, e)))) ∙ omega arith

place_from : (r : Option Simple) (fs : List Formal) (i : ℕ) (f : Formal) → slice_get (return_last r fs) i ≡ Some f
    → (j : ℕ) × (slice_get fs j ≡ Some f) × (behind_others (length fs) j r ≡ i)
place_from None fs i f e = (i, e, refl)
place_from (Some r) [] i f e = absurd cc
place_from (Some r) (g ∷ gs) i f e = by (last_or_not gs g i f e)
  where
    by : (slice_get gs i ≡ Some f) ⊎ ((i ≡ length gs) × (g ≡ f)) → (j : ℕ) × (slice_get (g ∷ gs) j ≡ Some f) × (behind_others (length (g ∷ gs)) j (Some r) ≡ i)
    by (inl h) = (suc i, h, behind_first (length (g ∷ gs)) i r)
    by (inr h) = (0, ap Some h.1, let at = h.0 in omega (arith, at))

-- two components are two parameters
places_apart : (r : Option Simple) (count j k : ℕ) → j < count → k < j → behind_others count j r ≡ behind_others count k r → ⊥
places_apart None count j k less h e = omega (arith, h, e)
places_apart (Some r) count zero k less h e = omega (arith, h)
places_apart (Some r) count (suc j) zero less h e = let here = behind_first count j r in omega (arith, less, e, here)
places_apart (Some r) count (suc j) (suc k) less h e = let here = behind_first count j r in let there = behind_first count k r in omega (arith, h, e, here, there)

-- ---- the parameter of a component

here_is : (c : Cell) (h : IsPlainCell c) → formal_here c ≡ formal c.name c.section h.kind ∷ []
here_is c h = ap (λ (t : Bool). if t then formal_of c c.of else []) h.parameter ∙ ap (formal_of c) h.of_kind

formals_count : (cells : List Cell) → AllByRecursion IsPlainCell cells → length (formals_of cells) ≡ length cells
formals_count [] h = refl
formals_count (c ∷ cells) h = ap (λ (fs : List Formal). length (fs ++ formals_of cells)) (here_is c h.0) ∙ ap suc (formals_count cells h.1)

-- the component that a parameter is
record IsOfCell (cells : List Cell) (j : ℕ) (f : Formal) : Type 0 where
  cell : Cell
  there : slice_get cells j ≡ Some cell
  plain : IsPlainCell cell
  is : formal cell.name cell.section plain.kind ≡ f

cell_from : (cells : List Cell) → AllByRecursion IsPlainCell cells → (j : ℕ) (f : Formal) → slice_get (formals_of cells) j ≡ Some f → IsOfCell cells j f
cell_from [] h j f e = absurd cc
cell_from (c ∷ cells) h j f e = by j (ap (λ (fs : List Formal). slice_get (fs ++ formals_of cells) j) (sym (here_is c h.0)) ∙ e) (cell_from cells h.1)
  where
    by : (j : ℕ) → slice_get (formal c.name c.section h.0.kind ∷ formals_of cells) j ≡ Some f → ((k : ℕ) (g : Formal) → slice_get (formals_of cells) k ≡ Some g → IsOfCell cells k g)
        → IsOfCell (c ∷ cells) j f
    by zero e more = record { cell = c; there = refl; plain = h.0; is = same_Some _ f e }
    by (suc k) e more = let found = more k f e in record { cell = found.cell; there = found.there; plain = found.plain; is = found.is }

formal_from : (cells : List Cell) → AllByRecursion IsPlainCell cells → (j : ℕ) (c : Cell) → slice_get cells j ≡ Some c → (kind : Simple) × (slice_get (formals_of cells) j ≡ Some (formal c.name c.section kind))
formal_from [] h j c e = absurd cc
formal_from (x ∷ cells) h j c e =
    subst (λ (fs : List Formal). (kind : Simple) × (slice_get (fs ++ formals_of cells) j ≡ Some (formal c.name c.section kind))) (sym (here_is x h.0)) (by j e (formal_from cells h.1))
  where
    by : (j : ℕ) → slice_get (x ∷ cells) j ≡ Some c → ((k : ℕ) (d : Cell) → slice_get cells k ≡ Some d → (kind : Simple) × (slice_get (formals_of cells) k ≡ Some (formal d.name d.section kind)))
        → (kind : Simple) × (slice_get (formal x.name x.section h.0.kind ∷ formals_of cells) j ≡ Some (formal c.name c.section kind))
    by zero e more = (h.0.kind, ap (λ (d : Cell). Some (formal d.name d.section h.0.kind)) (same_Some x c e))
    by (suc k) e more = more k c e

levels : (cells : List Cell) → AllByRecursion IsPlainCell cells → AllByRecursion (λ d. d.level ≡ 0) cells
levels [] h = tt
levels (c ∷ cells) h = (h.0.level, levels cells h.1)

-- ---- the name of a parameter

module _ (c : Context) (b : Block) (l : BlockLayout) (at : IsFunctionAt c b l) (cells : AllByRecursion IsPlainCell l.components) (called : List Formal)
    (order : in_parameter_order (Some b) (formals_of l.components) ≡ map in_upper_case called) (named : AreNamedApart called) where
  abbrev fs : List Formal
  fs = formals_of l.components

  -- no component before it has its name
  firsts : (index j : ℕ) (f : Formal) (name : List ℕ) → slice_get called index ≡ Some f → name ≡ upper_case_name f.name → behind_others (length fs) j b.result ≡ index → j < length fs
      → AllByRecursion (λ d. bytes_eq name d.name ≡ false) (take j l.components)
  firsts index j f name there is place within = all_taken (λ d. bytes_eq name d.name ≡ false) l.components j other
    where
      other : (k : ℕ) (d : Cell) → k < j → slice_get l.components k ≡ Some d → bytes_eq name d.name ≡ false
      other k d less e =
          let own = formal_from l.components cells k d e in
          let found = mapped_from in_upper_case called (behind_others (length fs) k b.result) (formal d.name d.section own.0)
          (ap (λ (z : List Formal). slice_get z (behind_others (length fs) k b.result)) (sym order)
          ∙ in_order_at (Some b) fs (length fs) k (formal d.name d.section own.0) refl own.1) in
          ap₂ bytes_eq is (sym (ap (λ (z : Formal). z.name) found.2))
          ∙ named index (behind_others (length fs) k b.result) f found.0 there found.1
          ∙ ne_eqb index (behind_others (length fs) k b.result) (λ same. places_apart b.result (length fs) j k within less (place ∙ same))

  pub own_again : (index : ℕ) (f : Formal) → slice_get called index ≡ Some f → own_variable c (upper_case_name f.name) [] ≡ Resolved (resolved.Parameter index f.section f.kind)
  own_again index f there =
      ap (λ (n : List ℕ). own_variable c n []) (sym name)
      ∙ own_parameters_found c b l spot.0 found.cell found.plain.kind at (levels l.components cells)
      (record {
        there = found.there;
        sound = found.plain.sound;
        bounds = found.plain.bounds;
        of_kind = found.plain.of_kind;
        first = firsts index spot.0 f found.cell.name there name spot.2 (slice_get_within fs spot.0 (in_upper_case f) spot.1);
      })
      ∙ (λ i. Resolved (resolved.Parameter (index_is i) (section i) (kind i)))
    where
      spot : (j : ℕ) × (slice_get fs j ≡ Some (in_upper_case f)) × (behind_others (length fs) j b.result ≡ index)
      spot = place_from b.result fs index (in_upper_case f) (ap (λ (z : List Formal). slice_get z index) order ∙ mapped_at in_upper_case called index f there)

      found : IsOfCell l.components spot.0 (in_upper_case f)
      found = cell_from l.components cells spot.0 (in_upper_case f) spot.1

      name : found.cell.name ≡ upper_case_name f.name
      name = ap (λ (z : Formal). z.name) found.is

      section : found.cell.section ≡ f.section
      section = ap (λ (z : Formal). z.section) found.is

      kind : found.plain.kind ≡ f.kind
      kind = ap (λ (z : Formal). z.kind) found.is

      index_is : behind_others (length l.components) spot.0 b.result ≡ index
      index_is = ap (λ (n : ℕ). behind_others n spot.0 b.result) (sym (formals_count l.components cells)) ∙ spot.2
