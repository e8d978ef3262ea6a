-- How the machine goes along the ops of a statement, by their offsets.
use Rattle.std.specs.Prelude.{ℕ, true, zero, suc, List, [], slice_get, Option, Some, None, unwrap_or, Result, Ok, if◌then◌else◌}
use Rattle.plc_mem.specs.Areas.{Areas}
use Rattle.frames.specs.ParameterBindings.{binding_set}
use Rattle.frames.specs.declared.bindings.Binding.{Binding}
use Rattle.flat_code.specs.Ops.{OpData}
use Rattle.flat_code.specs.PlacedOps.{op_placed, line_placed}
use Rattle.flat_code.specs.Programs.{CodeBlock}
use Rattle.flat_code.specs.declared.operands.Operand.{Operand}
use Rattle.flat_code.specs.declared.operands.Operand.TheVariants as operand
use Rattle.flat_code.specs.declared.programs.Param.{Param}
use Rattle.flat_code.specs.Instr.{Passing}
use Rattle.flat_code.specs.Operations.{operation_of}
use Rattle.machine.specs.Code.{Fetched}
use Rattle.machine.specs.ExecState.{Local, then_ok}
use Rattle.machine.specs.Bindings.{binding_for_param, no_bindings}
use Rattle.flat_code.specs.Codes.{first_found, most_ops}
use Rattle.machine.specs.Flat.{OpRun, use_db_of, use_db_first, list_of, with_passing, instr_of}

-- what going along the ops of a statement finds: the data block that the statement opens first, its
-- last op, and the offset behind it
pub record StatementWalk : Type 0 where
  -- the data block that the statement opens first, if any
  pub opens : Option ℕ
  -- the last op of the statement
  pub last : OpData
  -- the byte offset behind the last op
  pub next : ℕ

-- what going along a run of ops finds; the data block `opens` that was opened before the run counts
-- first, then the first USEDB in it
abbrev pub walk_with : Option ℕ → OpRun → StatementWalk
walk_with opens r = record {
  opens = first_found opens (use_db_of r.before);
  last = r.last;
  next = r.next;
}

-- what going along the ops finds at the last op of a statement, with the offset behind it
abbrev pub walk_by : Option ℕ → OpData × ℕ → StatementWalk
walk_by opens r = record { opens = opens; last = r.0; next = r.1 }

-- the data block that a statement opens first, behind a further op: the one so far, or that of a
-- USEDB
abbrev pub opens_after : Option ℕ → Operand → Option ℕ
opens_after opens o = first_found opens (use_db_first o None)

-- the jump of a number in the list of a JL, or the list's end
abbrev pub list_jump : (most : ℕ) → List OpData → (target at number : ℕ) → ℕ
list_jump most ops target at number =
    unwrap_or (slice_get (list_of most ops target at) number) target

-- the bindings after an op: one that passes a parameter sets what the parameter stands for
abbrev pub binding_by :
    Operand → List Param → List Binding → Local → Areas → Result (List Binding) ℕ
binding_by (operand.Pass index actual) params bindings s m =
    then_ok (binding_for_param (slice_get params index) actual s m)
    (λ b. Ok (binding_set bindings index b))
binding_by _ params bindings s m = Ok bindings

-- the parameters bound by the ops of a statement from one op on: each op that passes one binds it,
-- and the last op of the statement ends the walk; None: no op, and nothing more is bound
abbrev pub bindings_after_op :
    Option (OpData × ℕ) → List Param → List Binding → Local → Areas
    → (ℕ → List Binding → Result (List Binding) ℕ) → Result (List Binding) ℕ
bindings_after_op None params bindings s m more = Ok bindings
bindings_after_op (Some r) params bindings s m more =
    if r.0.last then Ok bindings
    else then_ok (binding_by r.0.operand params bindings s m) (λ next. more r.1 next)

-- the bindings after at most so many ops from an offset on; they end at the last op of the
-- statement, which passes none
unfoldable pub bindings_by_ops :
    (most : ℕ) → List OpData → ℕ → List Param → List Binding → Local → Areas
    → Result (List Binding) ℕ
bindings_by_ops zero ops at params bindings s m = Ok bindings
bindings_by_ops (suc most) ops at params bindings s m =
    bindings_after_op (op_placed 0 ops at) params bindings s m (λ next bound.
    bindings_by_ops most ops next params bound s m)

-- what all parameters stand for, by the ops of the statement at an offset
abbrev pub bindings_of_statement :
    List OpData → ℕ → List Param → Local → Areas → Result (List Binding) ℕ
bindings_of_statement ops at params s m =
    bindings_by_ops most_ops ops at params (no_bindings params) s m

-- what a further op and the ops behind it pass; the last op of a statement passes nothing
abbrev pub passings_with : Option (OpData × ℕ) → (ℕ → List Passing) → List Passing
passings_with None more = []
passings_with (Some r) more = if r.0.last then [] else with_passing r.0.operand (more r.1)

-- what at most so many ops from an offset on pass
unfoldable pub passings_up_to : (most : ℕ) → List OpData → ℕ → List Passing
passings_up_to zero ops at = []
passings_up_to (suc most) ops at =
    passings_with (op_placed 0 ops at) (λ next. passings_up_to most ops next)

-- what the statement at an offset passes
abbrev pub passings_at : List OpData → ℕ → List Passing
passings_at ops at = passings_up_to most_ops ops at

-- the statement at an offset of a block, by what was found along its ops
abbrev pub statement_of_walk : CodeBlock → ℕ → StatementWalk → Fetched
statement_of_walk b at walk = record {
  instr =
      instr_of (operation_of walk.last.code) walk.last.operand walk.opens (passings_at b.code at)
      walk.next b.code;
  next = walk.next;
  line = unwrap_or (line_placed 0 true b.code b.lines at) 0;
}
