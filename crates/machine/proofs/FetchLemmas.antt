-- The statement that was found along the ops is the statement at the offset.
use Rattle.std.proofs.Common.{◌≡◌, ◌∙◌, [], if◌then◌else◌, ℕ, zero, suc, true, false, Bool, List, Option, Some, None, Result, Ok, Err, is_some, slice_get, refl, sym, ap}
use Rattle.std.specs.Option.{option_map, option_and_then}
use Rattle.std.proofs.lemmas.Option.{same_Some}
use Rattle.plc_mem.specs.Areas.{Areas}
use Rattle.frames.specs.declared.Activation.{Activation}
use Rattle.frames.specs.declared.bindings.Binding.{Binding}
use Rattle.flat_code.specs.Ops.{OpData}
use Rattle.flat_code.specs.PlacedOps.{op_placed, line_placed}
use Rattle.flat_code.specs.Programs.{CodeBlock}
use Rattle.flat_code.specs.Operations.{operation_of}
use Rattle.flat_code.specs.declared.operands.Operand.{Operand}
use Rattle.flat_code.specs.declared.operands.Operand.TheVariants as operand
use Rattle.flat_code.specs.declared.programs.Param.{Param}
use Rattle.flat_code.specs.Instr.{Passing}
use Rattle.machine.specs.Code.{Code, Fetched}
use Rattle.frames.specs.ParameterBindings.{binding_set}
use Rattle.machine.specs.ExecState.{Local, then_ok}
use Rattle.machine.specs.Bindings.{bound_params, binding_for_param}
use Rattle.flat_code.specs.Codes.{most_ops}
use Rattle.machine.specs.Flat.{OpRun, op_run_at, run_with, with_op, passings_of, use_db_of, with_passing, fetched_of, statement_fetched, instr_of}
use Rattle.machine.specs.Statement.{GlobalStore, step_found, instruction_step, IsNotStuck}
use Rattle.machine.specs.Walking.{StatementWalk, walk_with, bindings_by_ops, binding_by, bindings_after_op, passings_up_to, passings_with, statement_of_walk}

-- a pass over the bindings that fails or goes on
then_same :
    {A : Type 0} (x : Result A ℕ) (f : A → Result (List Binding) ℕ)
    → then_ok x f ≡ then_ok (then_ok x (λ y. Ok y)) f
then_same (Ok x) f = refl
then_same (Err e) f = refl

then_twice :
    {A B : Type 0} (x : Result A ℕ) (g : A → B) (f : B → Result (List Binding) ℕ)
    → then_ok (then_ok x (λ y. Ok (g y))) f ≡ then_ok x (λ y. f (g y))
then_twice (Ok x) g f = refl
then_twice (Err e) g f = refl

-- ops that pass bind as their passings do
passes_op :
    (params : List Param) (o : Operand) (rest : List Passing) (bindings : List Binding) (s : Local) (m : Areas)
    → then_ok (binding_by o params bindings s m) (λ bound. bound_params params rest bound s m)
    ≡ bound_params params (with_passing o rest) bindings s m
passes_op params (operand.Pass index actual) rest bindings s m =
    then_twice (binding_for_param (slice_get params index) actual s m) (λ b. binding_set bindings index b)
    (λ bound. bound_params params rest bound s m)
passes_op params operand.Nothing rest bindings s m = refl
passes_op params (operand.Literal value) rest bindings s m = refl
passes_op params (operand.Direct area width byte bit) rest bindings s m = refl
passes_op params (operand.ByMemory area width from byte) rest bindings s m = refl
passes_op params (operand.ByRegister area width register bits) rest bindings s m = refl
passes_op params (operand.Parameter index width) rest bindings s m = refl
passes_op params (operand.Numbered kind number) rest bindings s m = refl
passes_op params (operand.NumberedBy kind from byte) rest bindings s m = refl
passes_op params (operand.Jump kind target) rest bindings s m = refl
passes_op params (operand.OfStatus condition) rest bindings s m = refl
passes_op params (operand.UseDb number) rest bindings s m = refl
passes_op params (operand.Called kind number instance) rest bindings s m = refl
passes_op params (operand.OpenBlock register number) rest bindings s m = refl
passes_op params (operand.OpenBy register from byte) rest bindings s m = refl

then_along :
    (x : Result (List Binding) ℕ) (f g : List Binding → Result (List Binding) ℕ)
    → ((y : List Binding) → f y ≡ g y) → then_ok x f ≡ then_ok x g
then_along (Ok y) f g h = h y
then_along (Err e) f g h = refl

pub none_some : {A : Type 0} (x : A) → Some x ≡ None → ⊥
none_some x h = cc

-- the ops of a statement bind what they pass
after_op :
    (most : ℕ) (ops : List OpData) (p : OpData × ℕ) (params : List Param) (bindings : List Binding) (s : Local) (m : Areas)
    → ((bound : List Binding)
    → bindings_by_ops most ops p.1 params bound s m ≡ bound_params params (passings_up_to most ops p.1) bound s m)
    → then_ok (binding_by p.0.operand params bindings s m) (λ next. bindings_by_ops most ops p.1 params next s m)
    ≡ bound_params params (with_passing p.0.operand (passings_up_to most ops p.1)) bindings s m
after_op most ops p params bindings s m along =
    then_along (binding_by p.0.operand params bindings s m) (λ next. bindings_by_ops most ops p.1 params next s m)
    (λ next. bound_params params (passings_up_to most ops p.1) next s m) along
    ∙ passes_op params p.0.operand (passings_up_to most ops p.1) bindings s m

by_last :
    (most : ℕ) (ops : List OpData) (last : Bool) (p : OpData × ℕ) (params : List Param) (bindings : List Binding) (s : Local)
    (m : Areas)
    → ((bound : List Binding)
    → bindings_by_ops most ops p.1 params bound s m ≡ bound_params params (passings_up_to most ops p.1) bound s m)
    → (if last then Ok bindings else then_ok (binding_by p.0.operand params bindings s m) (λ next. bindings_by_ops most ops p.1 params next s m))
    ≡ bound_params params (if last then [] else with_passing p.0.operand (passings_up_to most ops p.1)) bindings s m
by_last most ops true p params bindings s m along = refl
by_last most ops false p params bindings s m along = after_op most ops p params bindings s m along

at_op :
    (most : ℕ) (ops : List OpData) (p : Option (OpData × ℕ)) (params : List Param) (bindings : List Binding) (s : Local)
    (m : Areas)
    → ((at : ℕ) (bound : List Binding)
    → bindings_by_ops most ops at params bound s m ≡ bound_params params (passings_up_to most ops at) bound s m)
    → bindings_after_op p params bindings s m (λ next bound. bindings_by_ops most ops next params bound s m)
    ≡ bound_params params (passings_with p (λ next. passings_up_to most ops next)) bindings s m
at_op most ops None params bindings s m along = refl
at_op most ops (Some p) params bindings s m along =
    by_last most ops p.0.last p params bindings s m (λ bound. along p.1 bound)

pub binds_along :
    (most : ℕ) (ops : List OpData) (at : ℕ) (params : List Param) (bindings : List Binding) (s : Local) (m : Areas)
    → bindings_by_ops most ops at params bindings s m ≡ bound_params params (passings_up_to most ops at) bindings s m
unfolding bindings_by_ops passings_up_to
binds_along zero ops at params bindings s m = refl
binds_along (suc most) ops at params bindings s m =
    at_op most ops (op_placed 0 ops at) params bindings s m
    (λ next bound. binds_along most ops next params bound s m)

-- and they are those of its run
with_op_passes :
    (most : ℕ) (ops : List OpData) (p : OpData × ℕ) (inner : Option OpRun) (r : OpRun)
    → ((q : OpRun) → inner ≡ Some q → passings_of q.before ≡ passings_up_to most ops p.1)
    → option_map (with_op p.0) inner ≡ Some r
    → passings_of r.before ≡ with_passing p.0.operand (passings_up_to most ops p.1)
with_op_passes most ops p None r along h = cc
with_op_passes most ops p (Some q) r along h =
    rw (sym (same_Some (with_op p.0 q) r h)) (ap (λ (z : List Passing). with_passing p.0.operand z) (along q refl))

last_passes :
    (most : ℕ) (ops : List OpData) (last : Bool) (p : OpData × ℕ) (r : OpRun)
    → ((q : OpRun) → op_run_at most ops p.1 ≡ Some q → passings_of q.before ≡ passings_up_to most ops p.1)
    → (if last then Some (record { before = []; last = p.0; next = p.1 }) else option_map (with_op p.0) (op_run_at most ops p.1)) ≡ Some r
    → passings_of r.before ≡ (if last then [] else with_passing p.0.operand (passings_up_to most ops p.1))
last_passes most ops true p r along h =
    rw (sym (same_Some (record { before = []; last = p.0; next = p.1 }) r h)) refl
last_passes most ops false p r along h = with_op_passes most ops p (op_run_at most ops p.1) r along h

placed_passes :
    (most : ℕ) (ops : List OpData) (p : Option (OpData × ℕ)) (r : OpRun)
    → ((at : ℕ) (q : OpRun) → op_run_at most ops at ≡ Some q → passings_of q.before ≡ passings_up_to most ops at)
    → run_with p (λ next. op_run_at most ops next) ≡ Some r
    → passings_of r.before ≡ passings_with p (λ next. passings_up_to most ops next)
placed_passes most ops None r along h = cc
placed_passes most ops (Some p) r along h = last_passes most ops p.0.last p r (λ q is. along p.1 q is) h

run_passes :
    (most : ℕ) (ops : List OpData) (at : ℕ) (r : OpRun) → op_run_at most ops at ≡ Some r
    → passings_of r.before ≡ passings_up_to most ops at
unfolding op_run_at passings_up_to
run_passes zero ops at r h = cc
run_passes (suc most) ops at r h =
    placed_passes most ops (op_placed 0 ops at) r (λ next q is. run_passes most ops next q is) h

-- what was found along the ops is the statement at the offset
with_line :
    (b : CodeBlock) (at : ℕ) (line : Option ℕ) (found : Option OpRun) (walk : StatementWalk) → op_run_at most_ops b.code at ≡ found
    → line_placed 0 true b.code b.lines at ≡ line → is_some line ≡ true → Some walk ≡ option_map (walk_with None) found
    → option_and_then (λ line. option_map (fetched_of b.code line) found) line ≡ Some (statement_of_walk b at walk)
with_line b at None found walk is placed there h = cc
with_line b at (Some line) None walk is placed there h = absurd (none_some walk h)
with_line b at (Some line) (Some r) walk is placed there h =
    rw (same_Some walk (walk_with None r) h, placed)
    (ap (λ (z : List Passing). Some (record {
      instr = instr_of (operation_of r.last.code) r.last.operand (use_db_of r.before) z r.next b.code;
      next = r.next;
      line = line;
    })) (run_passes most_ops b.code at r is))

pub found_at :
    (b : CodeBlock) (at : ℕ) (walk there : StatementWalk) → there ≡ walk → is_some (line_placed 0 true b.code b.lines at) ≡ true
    → Some walk ≡ option_map (walk_with None) (op_run_at most_ops b.code at)
    → statement_fetched b at ≡ Some (statement_of_walk b at there)
unfolding statement_fetched
found_at b at walk there same line h =
    rw same
    (with_line b at (line_placed 0 true b.code b.lines at) (op_run_at most_ops b.code at) walk refl refl line h)

-- where a statement is, so are its line and its run
has_line :
    (line : Option ℕ) (found : Option OpRun) (ops : List OpData)
    → is_some (option_and_then (λ line. option_map (fetched_of ops line) found) line) ≡ true → is_some line ≡ true
has_line None found ops h = h
has_line (Some line) found ops h = refl

has_run :
    (line : Option ℕ) (found : Option OpRun) (ops : List OpData)
    → is_some (option_and_then (λ line. option_map (fetched_of ops line) found) line) ≡ true → is_some found ≡ true
has_run None found ops h = cc
has_run (Some line) None ops h = h
has_run (Some line) (Some r) ops h = refl

no_walk : (found : Option OpRun) → None ≡ option_map (walk_with None) found → is_some found ≡ true → ⊥
no_walk None h some = cc
no_walk (Some r) h some = none_some (walk_with None r) (sym h)

pub found_there :
    (b : CodeBlock) (at : ℕ) (walk there : StatementWalk) → there ≡ walk → is_some (statement_fetched b at) ≡ true
    → Some walk ≡ option_map (walk_with None) (op_run_at most_ops b.code at)
    → statement_fetched b at ≡ Some (statement_of_walk b at there)
unfolding statement_fetched
found_there b at walk there same is h =
    found_at b at walk there same
    (has_line (line_placed 0 true b.code b.lines at) (op_run_at most_ops b.code at) b.code is) h

pub found_nowhere :
    (b : CodeBlock) (at : ℕ) → None ≡ option_map (walk_with None) (op_run_at most_ops b.code at)
    → is_some (statement_fetched b at) ≡ true → ⊥
unfolding statement_fetched
found_nowhere b at h there =
    no_walk (op_run_at most_ops b.code at) h
    (has_run (line_placed 0 true b.code b.lines at) (op_run_at most_ops b.code at) b.code there)

-- a statement that isn't stuck is there
pub goes_there : (c : Code) (f : Option Fetched) (a : Activation) (w : GlobalStore) → IsNotStuck (step_found c f a w) → is_some f ≡ true
goes_there c None a w there = absurd there
goes_there c (Some f) a w there = refl

-- and comes to what its instruction comes to
pub found_is :
    (b : CodeBlock) (at : ℕ) (walk there : StatementWalk) (c : Code) (a : Activation) (w : GlobalStore) → there ≡ walk
    → Some walk ≡ option_map (walk_with None) (op_run_at most_ops b.code at) → IsNotStuck (step_found c (statement_fetched b at) a w)
    → step_found c (statement_fetched b at) a w ≡ instruction_step c (statement_of_walk b at there).instr (statement_of_walk b at there).next a w
found_is b at walk there c a w same h goes =
    ap (λ (f : Option Fetched). step_found c f a w)
    (found_there b at walk there same (goes_there c (statement_fetched b at) a w goes) h)

-- where no line or no run begins, none is
by_line :
    (line : Option ℕ) (found : Option OpRun) (ops : List OpData) → is_some line ≡ false
    → option_and_then (λ line. option_map (fetched_of ops line) found) line ≡ None
by_line None found ops h = refl
by_line (Some line) found ops h = cc

pub no_line :
    (b : CodeBlock) (at : ℕ) → is_some (line_placed 0 true b.code b.lines at) ≡ false → statement_fetched b at ≡ None
unfolding statement_fetched
no_line b at h = by_line (line_placed 0 true b.code b.lines at) (op_run_at most_ops b.code at) b.code h

by_run :
    (line : Option ℕ) (found : Option OpRun) (ops : List OpData) → None ≡ option_map (walk_with None) found
    → option_and_then (λ line. option_map (fetched_of ops line) found) line ≡ None
by_run None found ops h = refl
by_run (Some line) None ops h = refl
by_run (Some line) (Some r) ops h = absurd (none_some (walk_with None r) (sym h))

pub no_run :
    (b : CodeBlock) (at : ℕ) → None ≡ option_map (walk_with None) (op_run_at most_ops b.code at) → statement_fetched b at ≡ None
unfolding statement_fetched
no_run b at h = by_run (line_placed 0 true b.code b.lines at) (op_run_at most_ops b.code at) b.code h
