-- A call whose parameters are bound along the ops of its statement.
use Rattle.std.proofs.Common.{◌≡◌, ℕ, false, List, Ok, Err, refl, sym, ap}
use Rattle.plc_mem.specs.Areas.{Areas}
use Rattle.frames.specs.declared.Activation.{Activation}
use Rattle.frames.specs.declared.bindings.Binding.{Binding}
use Rattle.flat_code.specs.Instr.{Passing}
use Rattle.flat_code.specs.Ops.{OpData}
use Rattle.flat_code.specs.declared.programs.Param.{Param}
use Rattle.machine.specs.ExecState.{Local, local_of}
use Rattle.machine.specs.Bindings.{param_bindings, bound_params, no_bindings}
use Rattle.machine.specs.Entering.{block_call, call_with_bindings, CalledBlock, Fails}
use Rattle.flat_code.specs.declared.kinds.JumpOperation.{JumpOperation}
use Rattle.machine.specs.Code.{Code}
use Rattle.flat_code.specs.Codes.{most_ops}
use Rattle.machine.specs.Flat.{is_jl, jump_by_operation}
use Rattle.machine.specs.Statement.{GlobalStore, instruction_step, jump_step}
use Rattle.machine.specs.SystemCalls.{system_call, system_call_arguments}
use Rattle.machine.specs.Walking.{bindings_of_statement, passings_at}
use Rattle.machine.proofs.FetchLemmas.{binds_along}

pub call_unbound :
    (called : CalledBlock) (params : List Param) (next : ℕ) (a : Activation) (m : Areas) (ops : List OpData) (at code : ℕ)
    → called.params ≡ params → bindings_of_statement ops at params (local_of a.running) m ≡ Err code
    → block_call called (passings_at ops at) next a m ≡ Fails code
unfolding block_call param_bindings
call_unbound called params next a m ops at code is e =
    rw is (rw (sym (binds_along most_ops ops at params (no_bindings params) (local_of a.running) m)) (rw e refl))

bound_again :
    (called : CalledBlock) (params : List Param) (passings : List Passing) (next : ℕ) (a : Activation) (m : Areas)
    {bindings : List Binding} → called.params ≡ params
    → bound_params params passings (no_bindings params) (local_of a.running) m ≡ Ok bindings
    → block_call called passings next a m ≡ call_with_bindings (Ok bindings) called next a m
unfolding block_call param_bindings
bound_again called params passings next a m {bindings} is e =
    ap (λ z. call_with_bindings z called next a m) {y = Ok bindings} (rw is e)

pub call_bound :
    (called : CalledBlock) (params : List Param) (next : ℕ) (a : Activation) (m : Areas) (ops : List OpData) (at : ℕ)
    (bindings : List Binding) → called.params ≡ params → bindings_of_statement ops at params (local_of a.running) m ≡ Ok bindings
    → block_call called (passings_at ops at) next a m ≡ call_with_bindings (Ok bindings) called next a m
unfolding block_call param_bindings
call_bound called params next a m ops at bindings is e =
    bound_again called params (passings_at ops at) next a m is
    (rw (sym (binds_along most_ops ops at params (no_bindings params) (local_of a.running) m)) e)

pub system_unbound :
    (params : List Param) (s : Local) (m : Areas) (ops : List OpData) (at code : ℕ)
    → bindings_of_statement ops at params s m ≡ Err code → system_call params (passings_at ops at) s m ≡ Err code
unfolding system_call param_bindings
system_unbound params s m ops at code e =
    rw (sym (binds_along most_ops ops at params (no_bindings params) s m)) (rw e refl)

pub system_bound :
    (params : List Param) (s : Local) (m : Areas) (ops : List OpData) (at : ℕ) (bindings : List Binding)
    → bindings_of_statement ops at params s m ≡ Ok bindings
    → system_call params (passings_at ops at) s m ≡ Ok (system_call_arguments params bindings s m)
unfolding system_call param_bindings
system_bound params s m ops at bindings e =
    rw (sym (binds_along most_ops ops at params (no_bindings params) s m)) (rw e refl)

-- a jump that isn't JL
pub jumps_plainly :
    (operation : JumpOperation) (target next : ℕ) (ops : List OpData) (c : Code) (a : Activation) (w : GlobalStore)
    → is_jl operation ≡ false
    → instruction_step c (jump_by_operation operation target next ops) next a w ≡ jump_step operation target next a w
jumps_plainly operation target next ops c a w h = rw h refl
