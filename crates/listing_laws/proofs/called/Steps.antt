-- Passings of a program are links.
use Rattle.std.proofs.Common.{◌≡◌, ◌⊎◌, inl, inr, ℕ, ◌+◌, Bool, true, false, ◌&&◌, List, [], ◌∷◌, ◌++◌, length, map, Option, Some, slice_get, refl, sym, ap, ap₂, subst, ◌∙◌, arith, if◌then◌else◌, eq-eqb}
use Rattle.plc_base.specs.Kinds.{is_same_block, is_same_kind, is_system_function}
use Rattle.plc_base.specs.declared.blocks.BlockId.{BlockId}
use Rattle.plc_base.specs.declared.blocks.BlockKind.{BlockKind}
use Rattle.plc_base.specs.declared.blocks.BlockKind.TheVariants as kinds
use Rattle.plc_base.specs.declared.places.Width.{Width}
use Rattle.flat_code.specs.Instr.{Passing, Calls}
use Rattle.flat_code.specs.Programs.{CodeBlock}
use Rattle.flat_code.specs.declared.operands.Passed.TheVariants as passed
use Rattle.stl_ast.specs.declared.declarations.Simple.{Simple}
use Rattle.stl_types.specs.declared.parameters.Formal.{Formal}
use Rattle.stl_codegen.specs.CompiledBlock.{SourceInstruction, StatedBlock, code_in, compiled_block}
use Rattle.stl_codegen.specs.EmittedOps.{pass_ops}
use Rattle.stl_list.specs.declared.links.Link.{Link}
use Rattle.stl_list.specs.declared.links.Link.TheVariants.{Joins, Has}
use Rattle.stl_list.specs.JoinedParameters.{block_links, call_links, first_of, joined_link, joined_links, links, links_from, links_of_runs, total_parameter_count, own_parameter_passed, run_links, system_link, system_links, system_parameters, typed_link}
use Rattle.stl_list.specs.Runs.{StatementOps}
use Rattle.listing_laws.specs.Chains.{HasStep, LinksHaveType}
use Rattle.listing_laws.specs.Statements.{statement_offset, run_of}
use Rattle.listing_laws.specs.Steps.{AreFirstFound, AreSeedsFound, AreStepsFound, PassesParameterOn}
use Rattle.listing_laws.proofs.RunLemmas.{runs_found}
use Rattle.listing_laws.proofs.called.HandedOn.{called_is}

-- ---- links among others

abbrev IsIn : Link → List Link → Type 0
IsIn l [] = ⊥
IsIn l (x ∷ xs) = (x ≡ l) ⊎ IsIn l xs

in_front : (l : Link) (xs ys : List Link) → IsIn l xs → IsIn l (xs ++ ys)
in_front l [] ys h = absurd h
in_front l (x ∷ xs) ys (inl h) = inl h
in_front l (x ∷ xs) ys (inr h) = inr (in_front l xs ys h)

in_back : (l : Link) (xs ys : List Link) → IsIn l ys → IsIn l (xs ++ ys)
in_back l [] ys h = h
in_back l (x ∷ xs) ys h = inr (in_back l xs ys h)

to_step : (m n : ℕ) (ls : List Link) → IsIn (Joins m n) ls → HasStep ls m n
to_step m n [] h = absurd h
to_step m n (l ∷ ls) (inl h) = subst (λ (x : Link). HasStep (x ∷ ls) m n) (sym h) (inl (inl (refl, refl)))
to_step m n (l ∷ ls) (inr h) = inr (to_step m n ls h)

to_typed : (m : ℕ) (kind : Simple) (ls : List Link) → IsIn (Has m kind) ls → LinksHaveType ls m kind
to_typed m kind [] h = absurd h
to_typed m kind (l ∷ ls) (inl h) = subst (λ (x : Link). LinksHaveType (x ∷ ls) m kind) (sym h) (inl (refl, refl))
to_typed m kind (l ∷ ls) (inr h) = inr (to_typed m kind ls h)

-- ---- a passing

module _ (all : List CodeBlock) (index own : ℕ) (w : Width) (higher : List Passing) where
  abbrev this : Passing
  this = record { index = index; actual = passed.Parameter own w }

  joined_in : (first other : ℕ) (lower : List Passing) → IsIn (Joins (first + own) (other + index)) (joined_links first other (pass_ops (lower ++ this ∷ higher)))
  joined_in first other [] = inl refl
  joined_in first other (p ∷ lower) =
      in_back (Joins (first + own) (other + index)) (joined_link first other (own_parameter_passed p.index p.actual)) (joined_links first other (pass_ops (lower ++ this ∷ higher)))
      (joined_in first other lower)

  system_in : (formals : List Formal) (first : ℕ) (f : Formal) → slice_get formals index ≡ Some f → (lower : List Passing)
      → IsIn (Has (first + own) f.kind) (system_links formals first (pass_ops (lower ++ this ∷ higher)))
  system_in formals first f e [] =
      subst (λ (o : Option Formal). IsIn (Has (first + own) f.kind) (typed_link (first + own) o ++ system_links formals first (pass_ops higher))) (sym e) (inl refl)
  system_in formals first f e (p ∷ lower) =
      in_back (Has (first + own) f.kind) (system_link formals first (own_parameter_passed p.index p.actual)) (system_links formals first (pass_ops (lower ++ this ∷ higher)))
      (system_in formals first f e lower)

  call_in : (id : BlockId) (first : ℕ) (lower : List Passing) → is_system_function id.kind ≡ false
      → IsIn (Joins (first + own) (first_of all id + index)) (call_links all id first (pass_ops (lower ++ this ∷ higher)))
  call_in id first lower e =
      subst (λ (t : Bool). IsIn (Joins (first + own) (first_of all id + index)) (if t then system_links (system_parameters id.number) first (pass_ops (lower ++ this ∷ higher)) else joined_links first (first_of all id) (pass_ops (lower ++ this ∷ higher))))
      (sym e) (joined_in first (first_of all id) lower)

  system_call_in : (id : BlockId) (first : ℕ) (f : Formal) → slice_get (system_parameters id.number) index ≡ Some f → (lower : List Passing)
      → is_system_function id.kind ≡ true → IsIn (Has (first + own) f.kind) (call_links all id first (pass_ops (lower ++ this ∷ higher)))
  system_call_in id first f there lower e =
      subst (λ (t : Bool). IsIn (Has (first + own) f.kind) (if t then system_links (system_parameters id.number) first (pass_ops (lower ++ this ∷ higher)) else joined_links first (first_of all id) (pass_ops (lower ++ this ∷ higher))))
      (sym e) (system_in (system_parameters id.number) first f there lower)

-- ---- in a program

module _ (all : List CodeBlock) (l : Link) where
  runs_in : (first : ℕ) (f : ℕ → ℕ) (before : List SourceInstruction) (s : SourceInstruction) (after : List SourceInstruction)
      → IsIn l (run_links all first (run_of f s.instr).before (run_of f s.instr).op.operand)
      → IsIn l (links_of_runs all first (map (λ (s : SourceInstruction). run_of f s.instr) (before ++ s ∷ after)))
  runs_in first f [] s after h =
      in_front l (run_links all first (run_of f s.instr).before (run_of f s.instr).op.operand) (links_of_runs all first (map (λ (s : SourceInstruction). run_of f s.instr) after)) h
  runs_in first f (x ∷ before) s after h =
      in_back l (run_links all first (run_of f x.instr).before (run_of f x.instr).op.operand) (links_of_runs all first (map (λ (s : SourceInstruction). run_of f s.instr) (before ++ s ∷ after)))
      (runs_in first f before s after h)

  block_in : (first : ℕ) (statements before : List SourceInstruction) (s : SourceInstruction) (after : List SourceInstruction) → statements ≡ before ++ s ∷ after
      → ((f : ℕ → ℕ) → IsIn l (run_links all first (run_of f s.instr).before (run_of f s.instr).op.operand))
      → IsIn l (block_links all first (code_in statements))
  block_in first statements before s after e h =
      subst (λ (rs : List StatementOps). IsIn l (links_of_runs all first rs)) (sym (runs_found statements))
      (subst (λ (ss : List SourceInstruction). IsIn l (links_of_runs all first (map (λ (s : SourceInstruction). run_of (statement_offset statements) s.instr) ss))) (sym e)
      (runs_in first (statement_offset statements) before s after (h (statement_offset statements))))

  blocks_in : (first : ℕ) (front : List StatedBlock) (b : StatedBlock) (back : List StatedBlock)
      → IsIn l (block_links all (first + total_parameter_count (map compiled_block front)) (code_in b.statements))
      → IsIn l (links_from all first (map compiled_block (front ++ b ∷ back)))
  blocks_in first [] b back h =
      in_front l (block_links all first (code_in b.statements)) (links_from all (first + length b.params) (map compiled_block back))
      (subst (λ (n : ℕ). IsIn l (block_links all n (code_in b.statements))) (omega arith) h)
  blocks_in first (a ∷ front) b back h =
      in_back l (block_links all first (code_in a.statements)) (links_from all (first + length a.params) (map compiled_block (front ++ b ∷ back)))
      (blocks_in (first + length a.params) front b back
      (subst (λ (n : ℕ). IsIn l (block_links all n (code_in b.statements))) (omega arith) h))

  passing_in : (front back : List StatedBlock) (b : StatedBlock) (id : BlockId) (index own : ℕ) → (h : PassesParameterOn b id index own)
      → IsIn l (call_links all id (total_parameter_count (map compiled_block front)) (pass_ops (h.lower ++ record { index = index; actual = passed.Parameter own h.width } ∷ h.higher)))
      → IsIn l (links_from all 0 (map compiled_block (front ++ b ∷ back)))
  passing_in front back b id index own h there =
      blocks_in 0 front b back
      (subst (λ (n : ℕ). IsIn l (block_links all n (code_in b.statements))) (omega arith)
      (block_in (total_parameter_count (map compiled_block front)) b.statements h.before
      (record { instr = Calls h.how id h.instance (h.lower ++ record { index = index; actual = passed.Parameter own h.width } ∷ h.higher); line = h.line })
      h.after h.statements
      (λ f. subst (λ (i : BlockId). IsIn l (call_links all i (total_parameter_count (map compiled_block front)) (pass_ops (h.lower ++ record { index = index; actual = passed.Parameter own h.width } ∷ h.higher)))) (sym (called_is id h.callable)) there)))

pub steps_found : AreStepsFound
unfolding links
steps_found front back b id index own h e =
    to_step (total_parameter_count (map compiled_block front) + own) (first_of (map compiled_block (front ++ b ∷ back)) id + index) (links_from (map compiled_block (front ++ b ∷ back)) 0 (map compiled_block (front ++ b ∷ back)))
    (passing_in (map compiled_block (front ++ b ∷ back)) (Joins (total_parameter_count (map compiled_block front) + own) (first_of (map compiled_block (front ++ b ∷ back)) id + index)) front back b id index own h
    (call_in (map compiled_block (front ++ b ∷ back)) index own h.width h.higher id (total_parameter_count (map compiled_block front)) h.lower e))

pub seeds_found : AreSeedsFound
unfolding links
seeds_found front back b id index own f h e there =
    to_typed (total_parameter_count (map compiled_block front) + own) f.kind (links_from (map compiled_block (front ++ b ∷ back)) 0 (map compiled_block (front ++ b ∷ back)))
    (passing_in (map compiled_block (front ++ b ∷ back)) (Has (total_parameter_count (map compiled_block front) + own) f.kind) front back b id index own h
    (system_call_in (map compiled_block (front ++ b ∷ back)) index own h.width h.higher id (total_parameter_count (map compiled_block front)) f there h.lower e))

kind_itself : (k : BlockKind) → is_same_kind k k ≡ true
kind_itself kinds.Ob = refl
kind_itself kinds.Fc = refl
kind_itself kinds.Fb = refl
kind_itself kinds.Db = refl
kind_itself kinds.Sfc = refl
kind_itself kinds.Udt = refl

block_itself : (id : BlockId) → is_same_block id id ≡ true
block_itself id = ap₂ (λ (s t : Bool). s && t) (kind_itself id.kind) (eq-eqb id.number id.number refl)

pub first_found : AreFirstFound
first_found [] back b h = ap (λ (t : Bool). if t then 0 else length b.params + first_of (map compiled_block back) b.id) (block_itself b.id)
first_found (a ∷ front) back b h =
    ap (λ (t : Bool). if t then 0 else length a.params + first_of (map compiled_block (front ++ b ∷ back)) b.id) h.0
    ∙ ap (λ (n : ℕ). length a.params + n) (first_found front back b h.1)
