-- The steps along the ops of a statement.
use Rattle.std.proofs.lemmas.Bool.{eq-eqb, ne_eqb}
use Rattle.std.proofs.Common.{◌≡◌, ◌∙◌, [], ◌∷◌, ℕ, unwrap_or, slice_get, if◌then◌else◌, suc, zero, ◌+◌, ◌-◌, ◌<◌, Bool, true, false, ◌==◌, List, Option, Some, None, Ok, Err, refl, sym, ap, arith}
use Rattle.std.specs.Option.{option_map}
use Rattle.plc_mem.specs.Areas.{Areas}
use Rattle.frames.specs.declared.bindings.Binding.{Binding}
use Rattle.flat_code.specs.Codes.{first_found}
use Rattle.flat_code.specs.Ops.{OpData}
use Rattle.flat_code.specs.PlacedOps.{op_placed}
use Rattle.flat_code.specs.declared.operands.Operand.{Operand}
use Rattle.flat_code.specs.declared.operands.Operand.TheVariants as operand
use Rattle.flat_code.specs.declared.programs.Param.{Param}
use Rattle.machine.specs.ExecState.{Local, then_ok}
use Rattle.machine.specs.Flat.{OpRun, op_run_at, run_with, use_db_of, use_db_first, list_of, list_with, with_op}
use Rattle.machine.specs.Walking.{StatementWalk, walk_by, walk_with, opens_after, list_jump, bindings_by_ops, binding_by, bindings_after_op}

-- what is behind a count of which some are done
one_less : (k most : ℕ) → k < most → most - k ≡ suc (most - suc k)
one_less k most h = omega arith

one_more : (k : ℕ) → k + 1 ≡ suc k
one_more k = omega arith

abbrev walk_of_run : Option ℕ → Option OpRun → Option StatementWalk
walk_of_run opens r = option_map (walk_with opens) r

run_next :
    (most : ℕ) (ops : List OpData) (at : ℕ)
    → op_run_at (suc most) ops at ≡ run_with (op_placed 0 ops at) (λ next. op_run_at most ops next)
unfolding op_run_at
run_next most ops at = refl

run_none : (ops : List OpData) (at : ℕ) → op_run_at 0 ops at ≡ None
unfolding op_run_at
run_none ops at = refl

first_alone : (opens : Option ℕ) → first_found opens None ≡ opens
first_alone None = refl
first_alone (Some number) = refl

first_moves_none :
    (more : Option ℕ) (o : Operand)
    → use_db_first o more ≡ first_found (use_db_first o None) more
first_moves_none more (operand.UseDb number) = refl
first_moves_none more operand.Nothing = refl
first_moves_none more (operand.Literal value) = refl
first_moves_none more (operand.Direct area width byte bit) = refl
first_moves_none more (operand.ByMemory area width from byte) = refl
first_moves_none more (operand.ByRegister area width register bits) = refl
first_moves_none more (operand.Parameter index width) = refl
first_moves_none more (operand.Numbered kind number) = refl
first_moves_none more (operand.NumberedBy kind from byte) = refl
first_moves_none more (operand.Jump kind target) = refl
first_moves_none more (operand.OfStatus condition) = refl
first_moves_none more (operand.Pass index actual) = refl
first_moves_none more (operand.Called kind number instance) = refl
first_moves_none more (operand.OpenBlock register number) = refl
first_moves_none more (operand.OpenBy register from byte) = refl

first_moves :
    (opens more : Option ℕ) (o : Operand)
    → first_found opens (use_db_first o more) ≡ first_found (opens_after opens o) more
first_moves (Some number) more o = refl
first_moves None more o = first_moves_none more o

-- no op begins there
run_nowhere :
    (most : ℕ) (ops : List OpData) (at : ℕ) → None ≡ op_placed 0 ops at → op_run_at most ops at ≡ None
unfolding op_run_at
run_nowhere zero ops at h = refl
run_nowhere (suc most) ops at h = rw (sym h) refl

pub walk_nowhere :
    (most : ℕ) (ops : List OpData) (at : ℕ) (opens : Option ℕ) → None ≡ op_placed 0 ops at
    → None ≡ option_map (walk_with opens) (op_run_at most ops at)
walk_nowhere most ops at opens h = rw (run_nowhere most ops at h) refl

-- no op is left
none_left : (most k : ℕ) → k ≡ most → most - k ≡ 0
none_left most k h = omega (arith, h)

pub walk_stops :
    (most k : ℕ) (ops : List OpData) (at : ℕ) (opens : Option ℕ) → k ≡ most
    → None ≡ option_map (walk_with opens) (op_run_at (most - k) ops at)
walk_stops most k ops at opens h = rw (none_left most k h) (rw (run_none ops at) refl)

-- the last op
run_last :
    (most : ℕ) (ops : List OpData) (at next : ℕ) (op : OpData)
    → Some (op, next) ≡ op_placed 0 ops at → op.last ≡ true
    → op_run_at (suc most) ops at ≡ Some (record { before = []; last = op; next = next })
run_last most ops at next op h last = rw (run_next most ops at) (rw (sym h) (rw last refl))

pub walk_ends :
    (most k : ℕ) (ops : List OpData) (at next : ℕ) (op : OpData) (opens : Option ℕ) → k < most
    → Some (op, next) ≡ op_placed 0 ops at → op.last ≡ true
    → Some (record { opens = opens; last = op; next = next })
    ≡ option_map (walk_with opens) (op_run_at (most - k) ops at)
walk_ends most k ops at next op opens less h last =
    rw (one_less k most less) (rw (run_last (most - suc k) ops at next op h last)
    (rw (first_alone opens) refl))

-- and where it is read once more
pub walk_ends_there :
    (most k : ℕ) (ops : List OpData) (at next : ℕ) (op : OpData) (opens : Option ℕ) (walk : Option StatementWalk) → k < most
    → Some (op, next) ≡ op_placed 0 ops at → op.last ≡ true → walk ≡ option_map (walk_by opens) (op_placed 0 ops at)
    → walk ≡ option_map (walk_with opens) (op_run_at (most - k) ops at)
walk_ends_there most k ops at next op opens walk less h last is =
    is ∙ sym (ap (option_map (walk_by opens)) h) ∙ walk_ends most k ops at next op opens less h last

-- an op before it
run_more :
    (most : ℕ) (ops : List OpData) (at next : ℕ) (op : OpData)
    → Some (op, next) ≡ op_placed 0 ops at → op.last ≡ false
    → op_run_at (suc most) ops at ≡ option_map (with_op op) (op_run_at most ops next)
run_more most ops at next op h more = rw (run_next most ops at) (rw (sym h) (rw more refl))

walk_with_op :
    (op : OpData) (opens : Option ℕ) (r : OpRun)
    → walk_with opens (with_op op r) ≡ walk_with (opens_after opens op.operand) r
walk_with_op op opens r =
    ap (λ (z : Option ℕ). record { opens = z; last = r.last; next = r.next })
    (first_moves opens (use_db_of r.before) op.operand)

walks_with_op :
    (op : OpData) (opens : Option ℕ) (r : Option OpRun)
    → option_map (walk_with opens) (option_map (with_op op) r)
    ≡ option_map (walk_with (opens_after opens op.operand)) r
walks_with_op op opens None = refl
walks_with_op op opens (Some r) = ap (λ z. Some z) (walk_with_op op opens r)

pub walk_goes_on :
    (most k : ℕ) (ops : List OpData) (at next : ℕ) (op : OpData) (opens : Option ℕ) → k < most
    → Some (op, next) ≡ op_placed 0 ops at → op.last ≡ false
    → option_map (walk_with opens) (op_run_at (most - k) ops at)
    ≡ option_map (walk_with (opens_after opens op.operand)) (op_run_at (most - (k + 1)) ops next)
walk_goes_on most k ops at next op opens less h more =
    rw (one_more k) (rw (one_less k most less) (rw (run_more (most - suc k) ops at next op h more)
    (walks_with_op op opens (op_run_at (most - suc k) ops next))))

-- the first op of a statement, which is its last one in most
pub first_ends :
    (ops : List OpData) (at next : ℕ) (op : OpData) → Some (op, next) ≡ op_placed 0 ops at → op.last ≡ true
    → Some (record { opens = None; last = op; next = next }) ≡ option_map (walk_with None) (op_run_at 64 ops at)
first_ends ops at next op h last = walk_ends 64 0 ops at next op None (omega arith) h last

pub first_leads_on :
    (r : OpData × ℕ) (ops : List OpData) (at : ℕ) (opens : Option ℕ) → Some r ≡ op_placed 0 ops at → r.0.last ≡ false
    → opens ≡ opens_after None r.0.operand
    → option_map (walk_with None) (op_run_at 64 ops at) ≡ option_map (walk_with opens) (op_run_at 63 ops r.1)
first_leads_on r ops at opens h more is =
    walk_goes_on 64 0 ops at r.1 r.0 None (omega arith) h more
    ∙ ap (λ (z : Option ℕ). option_map (walk_with z) (op_run_at 63 ops r.1)) (sym is)

pub first_goes_on :
    (ops : List OpData) (at next : ℕ) (op : OpData) (walk : Option StatementWalk) → Some (op, next) ≡ op_placed 0 ops at → op.last ≡ false
    → walk ≡ option_map (walk_with (opens_after None op.operand)) (op_run_at 63 ops next)
    → walk ≡ option_map (walk_with None) (op_run_at 64 ops at)
first_goes_on ops at next op walk h more is = is ∙ sym (first_leads_on (op, next) ops at (opens_after None op.operand) h more refl)

-- the bindings along the ops
bound_none :
    (ops : List OpData) (at : ℕ) (params : List Param) (bindings : List Binding) (s : Local) (m : Areas)
    → bindings_by_ops 0 ops at params bindings s m ≡ Ok bindings
unfolding bindings_by_ops
bound_none ops at params bindings s m = refl

bound_step :
    (most : ℕ) (ops : List OpData) (at : ℕ) (params : List Param) (bindings : List Binding) (s : Local) (m : Areas)
    → bindings_by_ops (suc most) ops at params bindings s m
    ≡ bindings_after_op (op_placed 0 ops at) params bindings s m (λ next bound. bindings_by_ops most ops next params bound s m)
unfolding bindings_by_ops
bound_step most ops at params bindings s m = refl

pub bound_stops :
    (k : ℕ) (ops : List OpData) (at : ℕ) (params : List Param) (bindings : List Binding) (s : Local) (m : Areas)
    → k ≡ 64 → bindings_by_ops (64 - k) ops at params bindings s m ≡ Ok bindings
bound_stops k ops at params bindings s m h = rw h (bound_none ops at params bindings s m)

pub bound_nowhere :
    (most : ℕ) (ops : List OpData) (at : ℕ) (params : List Param) (bindings : List Binding) (s : Local) (m : Areas)
    → None ≡ op_placed 0 ops at → bindings_by_ops most ops at params bindings s m ≡ Ok bindings
bound_nowhere zero ops at params bindings s m h = bound_none ops at params bindings s m
bound_nowhere (suc most) ops at params bindings s m h =
    rw (bound_step most ops at params bindings s m) (rw (sym h) refl)

bound_last :
    (most : ℕ) (ops : List OpData) (at next : ℕ) (op : OpData) (params : List Param) (bindings : List Binding) (s : Local) (m : Areas)
    → Some (op, next) ≡ op_placed 0 ops at → op.last ≡ true
    → bindings_by_ops most ops at params bindings s m ≡ Ok bindings
bound_last zero ops at next op params bindings s m h last = bound_none ops at params bindings s m
bound_last (suc most) ops at next op params bindings s m h last =
    rw (bound_step most ops at params bindings s m) (rw (sym h) (rw last refl))

pub bound_ends :
    (k : ℕ) (ops : List OpData) (at next : ℕ) (op : OpData) (params : List Param) (bindings : List Binding) (s : Local) (m : Areas)
    → Some (op, next) ≡ op_placed 0 ops at → op.last ≡ true
    → bindings_by_ops (64 - k) ops at params bindings s m ≡ Ok bindings
bound_ends k ops at next op params bindings s m h last =
    bound_last (64 - k) ops at next op params bindings s m h last

bound_more :
    (most : ℕ) (ops : List OpData) (at next : ℕ) (op : OpData) (params : List Param) (bindings : List Binding) (s : Local) (m : Areas)
    → Some (op, next) ≡ op_placed 0 ops at → op.last ≡ false
    → bindings_by_ops (suc most) ops at params bindings s m
    ≡ then_ok (binding_by op.operand params bindings s m) (λ bound. bindings_by_ops most ops next params bound s m)
bound_more most ops at next op params bindings s m h more =
    rw (bound_step most ops at params bindings s m) (rw (sym h) (rw more refl))

pub bound_goes_on :
    (k : ℕ) (ops : List OpData) (at next : ℕ) (op : OpData) (params : List Param) (bindings bound : List Binding) (s : Local) (m : Areas)
    → k < 64 → Some (op, next) ≡ op_placed 0 ops at → op.last ≡ false
    → binding_by op.operand params bindings s m ≡ Ok bound
    → bindings_by_ops (64 - k) ops at params bindings s m ≡ bindings_by_ops (64 - (k + 1)) ops next params bound s m
bound_goes_on k ops at next op params bindings bound s m less h more b =
    rw (one_more k) (rw (one_less k 64 less)
    (rw (bound_more (64 - suc k) ops at next op params bindings s m h more) (rw b refl)))

pub bound_fails :
    (k : ℕ) (ops : List OpData) (at next : ℕ) (op : OpData) (params : List Param) (bindings : List Binding) (s : Local) (m : Areas) (code : ℕ)
    → k < 64 → Some (op, next) ≡ op_placed 0 ops at → op.last ≡ false
    → binding_by op.operand params bindings s m ≡ Err code
    → bindings_by_ops (64 - k) ops at params bindings s m ≡ Err code
bound_fails k ops at next op params bindings s m code less h more b =
    rw (one_less k 64 less)
    (rw (bound_more (64 - suc k) ops at next op params bindings s m h more) (rw b refl))

-- the list of a JL
list_step :
    (most : ℕ) (ops : List OpData) (target at : ℕ)
    → list_of (suc most) ops target at
    ≡ (if at == target then [] else list_with (op_placed 0 ops at) at (λ next. list_of most ops target next))
unfolding list_of
list_step most ops target at = refl

list_none : (ops : List OpData) (target at : ℕ) → list_of 0 ops target at ≡ []
unfolding list_of
list_none ops target at = refl

list_end : (most : ℕ) (ops : List OpData) (target at : ℕ) → at ≡ target → list_of most ops target at ≡ []
list_end zero ops target at h = list_none ops target at
list_end (suc most) ops target at h =
    rw (list_step most ops target at) (rw (eq-eqb at target h) refl)

same_either : (b : Bool) (list : List ℕ) → (if b then list else list) ≡ list
same_either true list = refl
same_either false list = refl

list_nowhere :
    (most : ℕ) (ops : List OpData) (target at : ℕ) → None ≡ op_placed 0 ops at
    → list_of most ops target at ≡ []
list_nowhere zero ops target at h = list_none ops target at
list_nowhere (suc most) ops target at h =
    rw (list_step most ops target at) (rw (sym h) (same_either (at == target) []))

list_on :
    (most : ℕ) (ops : List OpData) (target at next : ℕ) (op : OpData) → (at ≡ target → ⊥)
    → Some (op, next) ≡ op_placed 0 ops at
    → list_of (suc most) ops target at ≡ at ∷ list_of most ops target next
list_on most ops target at next op other h =
    rw (list_step most ops target at) (rw (sym h) (rw (ne_eqb at target other) refl))

picked_empty :
    (list : List ℕ) (target number : ℕ) → list ≡ [] → unwrap_or (slice_get list number) target ≡ target
picked_empty list target number h = rw h refl

pub picked_end :
    (most : ℕ) (ops : List OpData) (target at number : ℕ) → at ≡ target
    → list_jump most ops target at number ≡ target
picked_end most ops target at number h = picked_empty _ target number (list_end most ops target at h)

none_below : (r : Option (OpData × ℕ)) → None ≡ option_map (λ (r : OpData × ℕ). r.1) r → None ≡ r
none_below None h = refl
none_below (Some r) h = cc

pub picked_nowhere :
    (most : ℕ) (ops : List OpData) (target at number : ℕ)
    → None ≡ option_map (λ (r : OpData × ℕ). r.1) (op_placed 0 ops at)
    → list_jump most ops target at number ≡ target
picked_nowhere most ops target at number h =
    picked_empty _ target number (list_nowhere most ops target at (none_below (op_placed 0 ops at) h))

pub picked_zero :
    (ops : List OpData) (target at number : ℕ) → list_jump 0 ops target at number ≡ target
picked_zero ops target at number = picked_empty _ target number (list_none ops target at)

-- a jump of the list is passed over
picked_suc :
    (list rest : List ℕ) (target at number : ℕ) → list ≡ at ∷ rest
    → unwrap_or (slice_get list (suc number)) target ≡ unwrap_or (slice_get rest number) target
picked_suc list rest target at number h = rw h refl

picked_first :
    (list rest : List ℕ) (target at : ℕ) → list ≡ at ∷ rest
    → unwrap_or (slice_get list 0) target ≡ at
picked_first list rest target at h = rw h refl

abbrev next_of : Option (OpData × ℕ) → Option ℕ
next_of r = option_map (λ (r : OpData × ℕ). r.1) r

placed_is :
    (r : OpData × ℕ) (next : ℕ) (p : Option (OpData × ℕ)) → Some r ≡ p → Some next ≡ Some r.1
    → Some (r.0, next) ≡ p
placed_is r next p is h = let e : next ≡ r.1 = cc in rw e is

list_on_next :
    (most : ℕ) (ops : List OpData) (target at next : ℕ) (r : Option (OpData × ℕ)) → (at ≡ target → ⊥)
    → r ≡ op_placed 0 ops at → Some next ≡ next_of r
    → list_of (suc most) ops target at ≡ at ∷ list_of most ops target next
list_on_next most ops target at next None other is h = cc
list_on_next most ops target at next (Some r) other is h =
    list_on most ops target at next r.0 other (placed_is r next (op_placed 0 ops at) is h)

some_room : (number : ℕ) → number < 255 → 255 - number + 0 ≡ suc (254 - number)
some_room number h = omega arith

pub picked_on :
    (most less : ℕ) (ops : List OpData) (target at next number left : ℕ) → (at ≡ target → ⊥)
    → Some next ≡ option_map (λ (r : OpData × ℕ). r.1) (op_placed 0 ops at)
    → number ≡ suc less → left ≡ suc most
    → list_jump left ops target at number ≡ list_jump most ops target next less
picked_on most less ops target at next number left other h n l =
    rw n (rw l (picked_suc _ _ target at less
    (list_on_next most ops target at next (op_placed 0 ops at) other refl h)))

pub picked_here :
    (number left : ℕ) (ops : List OpData) (target at next : ℕ) → (at ≡ target → ⊥)
    → Some next ≡ option_map (λ (r : OpData × ℕ). r.1) (op_placed 0 ops at)
    → left ≡ 0 → number < 255 → list_jump (255 - number + left) ops target at left ≡ at
picked_here number left ops target at next other h l less =
    rw l (rw (some_room number less) (picked_first _ _ target at
    (list_on_next (254 - number) ops target at next (op_placed 0 ops at) other refl h)))
