-- Statements one after another that leave the peripheral outputs as they are, and after each of
-- which the activation goes on.
use Rattle.std.specs.Prelude.{◌≡◌, ℕ, zero, suc, Bool, true, false, not, ◌||◌, ◌&&◌, List, [], ◌∷◌, slice_get, Option, Some, None, is_some}
use Rattle.plc_base.specs.Kinds.{is_system_function}
use Rattle.plc_base.specs.declared.Area.{Area}
use Rattle.frames.specs.declared.Activation.{Activation}
use Rattle.frames.specs.declared.frame.Frame.{Frame}
use Rattle.frames.specs.declared.bindings.Binding.{Binding}
use Rattle.frames.specs.declared.bindings.Binding.TheVariants as binding
use Rattle.flat_code.specs.Instr.{Instr, Does, Jumps, Calls, Returns}
use Rattle.flat_code.specs.Programs.{Program}
use Rattle.flat_code.specs.declared.operands.Operand.{Operand}
use Rattle.flat_code.specs.declared.operands.Operand.TheVariants as operand
use Rattle.flat_code.specs.declared.operations.Operation.{Operation}
use Rattle.flat_code.specs.declared.operations.Operation.TheVariants as operation
use Rattle.machine.specs.Code.{Code, Fetched}
use Rattle.machine.specs.declared.running.Silent.{Silent}
use Rattle.machine.specs.declared.running.Silent.TheVariants as silent
use Rattle.machine.specs.Flat.{code_of}
use Rattle.machine.specs.Lasting.{IsStatementReady}
use Rattle.machine.specs.Places.{is_area_p}
use Rattle.machine.specs.Statement.{GlobalStore, StatementStep, Went, is_call_made, is_return_made, statement_step}

-- an activation goes on after a statement, with no change of the peripheral outputs
pub record GoesSilently
    (step : StatementStep) (w : GlobalStore) (next : Activation) (after : GlobalStore)
    : Type 0 where
  -- the statement leaves this activation, which goes on
  pub goes : step ≡ Went next after
  -- the peripheral outputs are as before
  pub outputs : after.memory.peripheral_outputs ≡ w.memory.peripheral_outputs

-- an activation executes so many statements, one after another, with which it goes on and which
-- don't change the peripheral outputs
abbrev pub RunsSilently : Code → (count : ℕ) → (a b : Activation) (w after : GlobalStore) → Type 0
RunsSilently code zero a b w after = (b ≡ a) × (after ≡ w)
RunsSilently code (suc count) a b w after =
    (next : Activation) × (mid : GlobalStore) × GoesSilently (statement_step code a w) w next mid
    × RunsSilently code count next b mid after

-- however many statements without a change of the peripheral outputs an activation executes,
-- `statement_step` may be called after them
abbrev pub StaysReady : Program → Activation → GlobalStore → Type 0
StaysReady p a w =
    (count : ℕ) (b : Activation) (after : GlobalStore)
    → RunsSilently (code_of p) count a b w after → IsStatementReady (code_of p) b

-- whether an instruction may write to the place of its operand: every address-register instruction
-- counts as one that may, though only TAR1 and TAR2 do
abbrev pub may_write : Operation → Bool
may_write operation.Transfer = true
may_write operation.Assign = true
may_write operation.Set = true
may_write operation.Reset = true
may_write (operation.Edge rising) = true
may_write (operation.Pointer what) = true
may_write _ = false

-- whether an area is not the peripheral one
abbrev pub is_inside_area : Area → Bool
is_inside_area area = not (is_area_p area)

-- whether what a parameter stands for is surely no peripheral place; a constant has no place at all
abbrev pub is_bound_inside : Option Binding → Bool
is_bound_inside (Some (binding.AtPlace place width frame)) = is_inside_area place.area
is_bound_inside _ = true

-- whether the area that an operand names is surely not the peripheral one; without a name the
-- address register names it, so nothing is sure
abbrev pub is_named_inside : Option Area → Bool
is_named_inside (Some area) = is_inside_area area
is_named_inside None = false

-- whether it is sure, by the operand and what parameters stand for, that no place in the peripheral
-- area is written
abbrev pub has_place_inside : Operand → List Binding → Bool
has_place_inside (operand.Direct area width byte bit) bindings = is_inside_area area
has_place_inside (operand.ByMemory area width from byte) bindings = is_inside_area area
has_place_inside (operand.ByRegister area width register bits) bindings = is_named_inside area
has_place_inside (operand.Parameter index width) bindings =
    is_bound_inside (slice_get bindings index)
has_place_inside _ bindings = true

-- whether an instruction surely leaves the peripheral outputs as they are, by its operation, its
-- operand and what parameters stand for
abbrev pub keeps_outputs : Operation → Operand → List Binding → Bool
keeps_outputs w o bindings = not (may_write w) || has_place_inside o bindings

-- ---- before which statements a silent run stops

-- whether the activation goes on after a statement: not after a synchronous error, a system
-- function, a stop or the end of the organization block
abbrev pub is_going_on : StatementStep → Bool
is_going_on (Went a w) = true
is_going_on _ = false

-- whether an instruction jumps, calls or returns
abbrev pub is_control_transfer : Operation → Bool
is_control_transfer operation.Jump = true
is_control_transfer (operation.Call how) = true
is_control_transfer (operation.End how) = true
is_control_transfer _ = false

-- whether there is a frame below the innermost one, to which a return goes
abbrev pub has_caller : List Frame → Bool
has_caller [] = false
has_caller (caller ∷ rest) = true

-- whether an instruction surely leaves the peripheral outputs as they are: one that stays in its
-- block and writes no peripheral place; a jump but JL; a call that is made of a function or
-- function block; a return that is made from a block without an instance to its caller
abbrev pub is_silent : Instr → Activation → Bool
is_silent (Does use_db w o) a =
    not (is_control_transfer w) && keeps_outputs w o a.running.frame.bindings
is_silent (Jumps w target) a = true
is_silent (Calls how block instance passings) a =
    is_call_made how a.running.regs.status.rlo && not (is_system_function block.kind)
is_silent (Returns how) a =
    is_return_made how a.running.regs.status.rlo && not (is_some a.running.frame.instance)
    && has_caller a.below
is_silent _ a = false

-- whether the block of an instruction is surely the running one still, where the activation goes on
-- after it: all but calls and returns
abbrev pub stays_in_block : Instr → Bool
stays_in_block (Calls how block instance passings) = false
stays_in_block (Returns how) = false
stays_in_block _ = true

-- whether a statement was found whose instruction is of a kind
abbrev pub is_statement_of_kind : (Instr → Activation → Bool) → Option Fetched → Activation → Bool
is_statement_of_kind kind None a = false
is_statement_of_kind kind (Some f) a = kind f.instr a

-- whether the next statement of an activation has an instruction of a kind
abbrev pub is_next_statement_of_kind : (Instr → Activation → Bool) → Code → Activation → Bool
is_next_statement_of_kind kind code a =
    is_statement_of_kind kind (code.fetch a.running.frame.block a.running.frame.at) a

-- whether the next statement of an activation has an instruction of a kind, and the activation goes
-- on after it
abbrev pub goes_on_by_kind : (Instr → Activation → Bool) → Code → Activation → GlobalStore → Bool
goes_on_by_kind kind code a w =
    is_next_statement_of_kind kind code a && is_going_on (statement_step code a w)

-- one statement of a kind was executed (true), or nothing was done, since the next one isn't of the
-- kind or the activation doesn't go on after it
abbrev pub GoesOrStays :
    StatementStep → (kind : Bool) → (old new : Activation) (w after : GlobalStore) → Bool → Type 0
GoesOrStays step kind old new w after true = GoesSilently step w new after
GoesOrStays step kind old new w after false =
    (new ≡ old) × (after ≡ w) × ((kind && is_going_on step) ≡ false)

-- whether a statement that was tried as a silent one was executed
abbrev pub shows_nothing : Silent → Bool
shows_nothing silent.Not = false
shows_nothing _ = true

-- whether a statement that was tried as a silent one was executed, and its block is surely the
-- running one still
abbrev pub is_still_inside : Silent → Bool
is_still_inside silent.Inside = true
is_still_inside _ = false
