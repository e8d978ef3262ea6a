-- Each family does what its mnemonics say.
use Rattle.std.proofs.Common.{ℕ, ◌≡◌, Bool, true, false, List, Some, None, Ok, Err, if◌then◌else◌, refl, ◌∙◌, ap}
use Rattle.std.proofs.lemmas.Bool.{false≢true}
use Rattle.plc_base.specs.ErrorCodes as errors
use Rattle.plc_base.specs.declared.instructions.Check.TheVariants as check
use Rattle.plc_base.specs.declared.instructions.TimerKind.TheVariants as timer
use Rattle.plc_base.specs.declared.places.Area.TheVariants as area
use Rattle.alu.specs.Conversions as conversions
use Rattle.alu.specs.Rotations as rotations
use Rattle.alu.specs.Shifts as shifts
use Rattle.alu.specs.WordLogic as word_logic
use Rattle.flat_code.specs.declared.operations.Logic.TheVariants as logic
use Rattle.flat_code.specs.declared.operations.Operation.{Operation}
use Rattle.flat_code.specs.declared.operations.Shift.TheVariants as shift_word
use Rattle.stl_ast.specs.declared.declarations.Simple.TheVariants as simple
use Rattle.stl_ast.specs.declared.mnemonics.Mnemonic.{Mnemonic}
use Rattle.stl_ast.specs.declared.mnemonics.Mnemonic.TheVariants as code
use Rattle.stl_ast.specs.declared.operands.Operand.{Operand}
use Rattle.stl_ast.specs.declared.statements.Statement.{Statement}
use Rattle.stl_types.specs.Context.{Context}
use Rattle.stl_types.specs.OperandRules.{operand_rule_of}
use Rattle.stl_types.specs.ResolvedStatement.{resolved_operand}
use Rattle.stl_types.specs.declared.resolved_operands.ResolvedOperand.{ResolvedOperand}
use Rattle.stl_codegen.specs.Instruction.{end_instr, instr_by, instruction, resolved_instr, operand_instr}
use Rattle.stl_codegen.specs.Operands as codegen
use Rattle.stl_codegen.specs.Operations.{call_operation_of, end_operation_of, jump_operation_of, operation_for}
use Rattle.machine.specs.DataBlocks as data_blocks
use Rattle.machine.specs.Effect as effect
use Rattle.machine.specs.Numbers as numbers
use Rattle.machine.specs.Pointers as pointer
use Rattle.machine.specs.ExecState.{ExecState, exec_state_of, then_ok}
use Rattle.machine.specs.Statement.{instruction_step, continue_with}
use Rattle.statement_laws.specs.Effects.{effect_of_operation, effect_of_statement}
use Rattle.statement_laws.specs.Effects as own
use Rattle.statement_laws.specs.Laws.{Acts, BitLogicActs, ComparisonsAct, DataBlocksAct, IdleActs, LoadsAct, NumbersAct, RelayActs, ShiftsAct, TimingActs, is_bit_logic, is_comparison, is_data_block_instruction, is_idle, is_load_or_transfer, is_number_instruction, is_relay, is_shift, is_timing}
use Rattle.statement_laws.specs.NamedOperands.{NamedItem}
use Rattle.statement_laws.specs.NamedOperands as named
use Rattle.statement_laws.specs.Operands.{named_fixed_place, item_named_by}
use Rattle.statement_laws.proofs.ActionLemmas as action_lemmas
use Rattle.statement_laws.proofs.FlatLemmas.{flat_of}
use Rattle.statement_laws.proofs.FlatLemmas as flat_lemmas
use Rattle.statement_laws.proofs.RuleLemmas.{as_open, holds, loads_all}
use Rattle.statement_laws.proofs.RuleLemmas as rules
use Rattle.statement_laws.proofs.ResolutionLemmas.{about, opened_first, opens_first, operand_flat, resolved_parts, rule_with_constant, view_named}
use Rattle.statement_laws.proofs.VariableLemmas.{view_same}

-- ---- from operations to statements

db_first : (m : Mnemonic) (op : Operation) (n : ℕ) (x : NamedItem) (p : ExecState)
    → ((q : ExecState) → effect.operation_effect op (flat_of x) q ≡ effect_of_operation m x q)
    → (if data_blocks.is_block_loaded n p.memory then effect.operation_effect op (flat_of x) (effect.with_db_opened n p) else Err errors.no_data_block)
    ≡ then_ok (own.opens_block_number false n p) (λ q. effect_of_operation m x q)
db_first m op n x p h = by (data_blocks.is_block_loaded n p.memory)
  where
    by : (b : Bool)
        → (if b then effect.operation_effect op (flat_of x) (effect.with_db_opened n p) else Err errors.no_data_block)
        ≡ then_ok (if b then Ok (own.with_open false n p) else Err errors.no_data_block) (λ q. effect_of_operation m x q)
    by true = h (own.with_open false n p)
    by false = refl

-- a data block that the statement opens first is open then
first_opened : (m : Mnemonic) (op : Operation) (x : NamedItem) (p : ExecState)
    → ((q : ExecState) → effect.operation_effect op (flat_of (as_open x)) q ≡ effect_of_operation m (as_open x) q)
    → effect.statement_effect (opens_first x) op (flat_of x) p ≡ effect_of_statement m x p
unfolding effect.statement_effect effect_of_statement
first_opened m op (named.PlaceIn n w byte bit) p h = db_first m op n (named_fixed_place area.Db w byte bit) p h
first_opened m op _ p h = h p

-- what an instruction that goes on does, whose operand names this
pub record IsAction (m : Mnemonic) (o : Operand) (v : ResolvedOperand) (x : NamedItem) : Type 0 where
  pub no_jump : jump_operation_of m ≡ None
  pub no_call : call_operation_of m ≡ None
  pub no_end : end_operation_of m ≡ None
  pub same : (q : ExecState) → effect.operation_effect (operation_for m o v) (flat_of (as_open x)) q ≡ effect_of_operation m (as_open x) q

-- what is known of it
pub record IsTakenOperand (m : Mnemonic) (o : Operand) (v : ResolvedOperand) (x : NamedItem) : Type 0 where
  pub rule : rule_with_constant (operand_rule_of m) (about o) v ≡ None
  pub there : view_named (about o) v ≡ Some x

pub acts : (c : Context) (body : List Statement) (n : ℕ) (s : Statement) (v : ResolvedOperand) (x : NamedItem)
    → resolved_operand c s ≡ Some v → item_named_by c s.operand ≡ Some x
    → (IsTakenOperand s.code s.operand v x → IsAction s.code s.operand v x)
    → Acts (instruction c body n s) (effect_of_statement s.code x)
unfolding instruction
acts c body n s v x e is h program next a w =
    ap (λ i. instruction_step program i next a w)
    (ap (instr_by c body n s) action_of.no_jump ∙ ap (resolved_instr c s) e
    ∙ ap (operand_instr c s v) action_of.no_call ∙ ap (end_instr s v) action_of.no_end)
    ∙ ap (λ r. continue_with r next a)
    (ap (λ k. effect.statement_effect k (operation_for s.code s.operand v) (codegen.flat_operand_of s.operand v) p)
    (opened_first (about s.operand) v x there)
    ∙ ap (λ o. effect.statement_effect (opens_first x) (operation_for s.code s.operand v) o p)
    (operand_flat s.operand v x there)
    ∙ first_opened s.code (operation_for s.code s.operand v) x p action_of.same)
  where
    p : ExecState
    p = exec_state_of a.running w.memory w.timers w.counters

    there : view_named (about s.operand) v ≡ Some x
    there = view_same c s.operand v x ((resolved_parts c s v e).1) is

    action_of : IsAction s.code s.operand v x
    action_of = h (record { rule = (resolved_parts c s v e).0; there = there })

-- an operation that is the same whatever its operand
action_of : (m : Mnemonic) (o : Operand) (v : ResolvedOperand) (x : NamedItem)
    → jump_operation_of m ≡ None → call_operation_of m ≡ None → end_operation_of m ≡ None
    → ((q : ExecState) → effect.operation_effect (operation_for m o v) (flat_of (as_open x)) q ≡ effect_of_operation m (as_open x) q)
    → IsAction m o v x
action_of m o v x j c e h = record { no_jump = j; no_call = c; no_end = e; same = h }

bit_logic : (m : Mnemonic) (o : Operand) (v : ResolvedOperand) (x : NamedItem) → is_bit_logic m ≡ true
    → IsTakenOperand m o v x → IsAction m o v x
unfolding operation_for effect_of_operation operand_rule_of effect.operation_effect
bit_logic code.A o v x is g =
    action_of code.A o v x refl refl refl
    (λ q. action_lemmas.checks_same check.A (as_open x) q
    (holds flat_lemmas.is_read (about o) v x (rules.reads_bit (about o) v g.rule) g.there))
bit_logic code.An o v x is g =
    action_of code.An o v x refl refl refl
    (λ q. action_lemmas.checks_same check.An (as_open x) q
    (holds flat_lemmas.is_read (about o) v x (rules.reads_bit (about o) v g.rule) g.there))
bit_logic code.O o v x is g =
    action_of code.O o v x refl refl refl
    (λ q. ap (λ op. effect.operation_effect op (flat_of (as_open x)) q) (rules.or_named (about o) v x g.there)
    ∙ action_lemmas.or_same (as_open x) q (holds flat_lemmas.is_read (about o) v x (rules.reads_bit_or_bare (about o) v g.rule) g.there))
bit_logic code.On o v x is g =
    action_of code.On o v x refl refl refl
    (λ q. action_lemmas.checks_same check.On (as_open x) q
    (holds flat_lemmas.is_read (about o) v x (rules.reads_bit (about o) v g.rule) g.there))
bit_logic code.X o v x is g =
    action_of code.X o v x refl refl refl
    (λ q. action_lemmas.checks_same check.X (as_open x) q
    (holds flat_lemmas.is_read (about o) v x (rules.reads_bit (about o) v g.rule) g.there))
bit_logic code.Xn o v x is g =
    action_of code.Xn o v x refl refl refl
    (λ q. action_lemmas.checks_same check.Xn (as_open x) q
    (holds flat_lemmas.is_read (about o) v x (rules.reads_bit (about o) v g.rule) g.there))
bit_logic code.AOpen o v x is g =
    action_of code.AOpen o v x refl refl refl
    (λ q. action_lemmas.nest_same check.A (flat_of (as_open x)) q)
bit_logic code.AnOpen o v x is g =
    action_of code.AnOpen o v x refl refl refl
    (λ q. action_lemmas.nest_same check.An (flat_of (as_open x)) q)
bit_logic code.OOpen o v x is g =
    action_of code.OOpen o v x refl refl refl
    (λ q. action_lemmas.nest_same check.O (flat_of (as_open x)) q)
bit_logic code.OnOpen o v x is g =
    action_of code.OnOpen o v x refl refl refl
    (λ q. action_lemmas.nest_same check.On (flat_of (as_open x)) q)
bit_logic code.XOpen o v x is g =
    action_of code.XOpen o v x refl refl refl
    (λ q. action_lemmas.nest_same check.X (flat_of (as_open x)) q)
bit_logic code.XnOpen o v x is g =
    action_of code.XnOpen o v x refl refl refl
    (λ q. action_lemmas.nest_same check.Xn (flat_of (as_open x)) q)
bit_logic code.Close o v x is g =
    action_of code.Close o v x refl refl refl
    (λ q. action_lemmas.unnest_same (flat_of (as_open x)) q)
bit_logic code.Assign o v x is g =
    action_of code.Assign o v x refl refl refl
    (λ q. action_lemmas.assign_same (as_open x) q
    (holds action_lemmas.is_place_to_write (about o) v x (rules.writes_bit (about o) v g.rule) g.there))
bit_logic code.S o v x is g =
    action_of code.S o v x refl refl refl
    (λ q. action_lemmas.set_same (as_open x) q
    (holds action_lemmas.is_set (about o) v x (rules.sets (about o) v g.rule) g.there))
bit_logic code.R o v x is g =
    action_of code.R o v x refl refl refl
    (λ q. action_lemmas.reset_same (as_open x) q
    (holds action_lemmas.is_reset (about o) v x (rules.resets (about o) v g.rule) g.there))
bit_logic code.Fp o v x is g =
    action_of code.Fp o v x refl refl refl
    (λ q. action_lemmas.edge_same true (as_open x) q
    (holds action_lemmas.is_place_to_write (about o) v x (rules.writes_bit (about o) v g.rule) g.there))
bit_logic code.Fn o v x is g =
    action_of code.Fn o v x refl refl refl
    (λ q. action_lemmas.edge_same false (as_open x) q
    (holds action_lemmas.is_place_to_write (about o) v x (rules.writes_bit (about o) v g.rule) g.there))
bit_logic code.Set o v x is g =
    action_of code.Set o v x refl refl refl
    (λ q. refl)
bit_logic code.Clr o v x is g =
    action_of code.Clr o v x refl refl refl
    (λ q. refl)
bit_logic code.Not o v x is g =
    action_of code.Not o v x refl refl refl
    (λ q. refl)
bit_logic code.Save o v x is g =
    action_of code.Save o v x refl refl refl
    (λ q. refl)
bit_logic _ o v x is g = absurd (false≢true is)

pub bit_logic_acts : BitLogicActs
bit_logic_acts c body n s v x is e names =
    acts c body n s v x e names (λ g. bit_logic s.code s.operand v x is g)

load_or_transfer : (m : Mnemonic) (o : Operand) (v : ResolvedOperand) (x : NamedItem) → is_load_or_transfer m ≡ true
    → IsTakenOperand m o v x → IsAction m o v x
unfolding operation_for effect_of_operation operand_rule_of effect.operation_effect pointer.pointer_effect
load_or_transfer code.L o v x is g =
    action_of code.L o v x refl refl refl
    (λ q. ap (λ op. effect.operation_effect op (flat_of (as_open x)) q) (rules.load_named (about o) v x g.there)
    ∙ action_lemmas.load_same (as_open x) q (loads_all x))
load_or_transfer code.T o v x is g =
    action_of code.T o v x refl refl refl
    (λ q. ap (λ op. effect.operation_effect op (flat_of (as_open x)) q) (rules.transfer_named (about o) v x g.there)
    ∙ action_lemmas.transfer_same (as_open x) q (holds action_lemmas.is_transferred (about o) v x (rules.transfers (about o) v g.rule) g.there))
load_or_transfer code.Lc o v x is g =
    action_of code.Lc o v x refl refl refl
    (λ q. action_lemmas.load_bcd_same (as_open x) q)
load_or_transfer code.Lar1 o v x is g =
    action_of code.Lar1 o v x refl refl refl
    (λ q. ap (λ op. effect.operation_effect op (flat_of (as_open x)) q) (rules.load_address_named (about o) v x g.there)
    ∙ action_lemmas.lar1_same (as_open x) q (holds action_lemmas.is_first_address (about o) v x (rules.loads_ar1 (about o) v g.rule) g.there))
load_or_transfer code.Lar2 o v x is g =
    action_of code.Lar2 o v x refl refl refl
    (λ q. action_lemmas.lar2_same (as_open x) q
    (holds action_lemmas.is_address (about o) v x (rules.loads_ar2 (about o) v g.rule) g.there))
load_or_transfer code.Tar1 o v x is g =
    action_of code.Tar1 o v x refl refl refl
    (λ q. ap (λ op. effect.operation_effect op (flat_of (as_open x)) q) (rules.store_address_named (about o) v x g.there)
    ∙ action_lemmas.tar1_same (as_open x) q (holds action_lemmas.is_first_address_place (about o) v x (rules.stores_ar1 (about o) v g.rule) g.there))
load_or_transfer code.Tar2 o v x is g =
    action_of code.Tar2 o v x refl refl refl
    (λ q. action_lemmas.tar2_same (as_open x) q
    (holds action_lemmas.is_address_place (about o) v x (rules.stores_ar2 (about o) v g.rule) g.there))
load_or_transfer code.Car o v x is g =
    action_of code.Car o v x refl refl refl
    (λ q. refl)
load_or_transfer code.AddAr1 o v x is g =
    action_of code.AddAr1 o v x refl refl refl
    (λ q. action_lemmas.add_ar1_same (as_open x) q
    (holds action_lemmas.is_added_address (about o) v x (rules.adds_to_ar (about o) v g.rule) g.there))
load_or_transfer code.AddAr2 o v x is g =
    action_of code.AddAr2 o v x refl refl refl
    (λ q. action_lemmas.add_ar2_same (as_open x) q
    (holds action_lemmas.is_added_address (about o) v x (rules.adds_to_ar (about o) v g.rule) g.there))
load_or_transfer _ o v x is g = absurd (false≢true is)

pub load_or_transfer_acts : LoadsAct
load_or_transfer_acts c body n s v x is e names =
    acts c body n s v x e names (λ g. load_or_transfer s.code s.operand v x is g)

number_instruction : (m : Mnemonic) (o : Operand) (v : ResolvedOperand) (x : NamedItem) → is_number_instruction m ≡ true
    → IsTakenOperand m o v x → IsAction m o v x
unfolding operation_for effect_of_operation operand_rule_of effect.operation_effect numbers.number_effect numbers.word_logic_effect
number_instruction code.Tak o v x is g =
    action_of code.Tak o v x refl refl refl
    (λ q. refl)
number_instruction code.Push o v x is g =
    action_of code.Push o v x refl refl refl
    (λ q. refl)
number_instruction code.Pop o v x is g =
    action_of code.Pop o v x refl refl refl
    (λ q. refl)
number_instruction code.Caw o v x is g =
    action_of code.Caw o v x refl refl refl
    (λ q. refl)
number_instruction code.Cad o v x is g =
    action_of code.Cad o v x refl refl refl
    (λ q. refl)
number_instruction code.Inc o v x is g =
    action_of code.Inc o v x refl refl refl
    (λ q. action_lemmas.inc_same (as_open x) q
    (holds action_lemmas.is_constant (about o) v x (rules.counts 255 (about o) v g.rule) g.there))
number_instruction code.Dec o v x is g =
    action_of code.Dec o v x refl refl refl
    (λ q. action_lemmas.dec_same (as_open x) q
    (holds action_lemmas.is_constant (about o) v x (rules.counts 255 (about o) v g.rule) g.there))
number_instruction code.Add o v x is g =
    action_of code.Add o v x refl refl refl
    (λ q. ap (λ op. effect.operation_effect op (flat_of (as_open x)) q) (rules.add_named o v x g.there)
    ∙ action_lemmas.add_same (as_open x) q
    (holds action_lemmas.is_constant (about o) v x (rules.adds (about o) v g.rule) g.there))
number_instruction code.AddI o v x is g =
    action_of code.AddI o v x refl refl refl
    (λ q. refl)
number_instruction code.SubI o v x is g =
    action_of code.SubI o v x refl refl refl
    (λ q. refl)
number_instruction code.MulI o v x is g =
    action_of code.MulI o v x refl refl refl
    (λ q. refl)
number_instruction code.DivI o v x is g =
    action_of code.DivI o v x refl refl refl
    (λ q. refl)
number_instruction code.AddD o v x is g =
    action_of code.AddD o v x refl refl refl
    (λ q. refl)
number_instruction code.SubD o v x is g =
    action_of code.SubD o v x refl refl refl
    (λ q. refl)
number_instruction code.MulD o v x is g =
    action_of code.MulD o v x refl refl refl
    (λ q. refl)
number_instruction code.DivD o v x is g =
    action_of code.DivD o v x refl refl refl
    (λ q. refl)
number_instruction code.Mod o v x is g =
    action_of code.Mod o v x refl refl refl
    (λ q. refl)
number_instruction code.Bti o v x is g =
    action_of code.Bti o v x refl refl refl
    (λ q. action_lemmas.bcd_number_same conversions.from_bcd_word q)
number_instruction code.Itb o v x is g =
    action_of code.Itb o v x refl refl refl
    (λ q. refl)
number_instruction code.Btd o v x is g =
    action_of code.Btd o v x refl refl refl
    (λ q. action_lemmas.bcd_number_same conversions.from_bcd_dword q)
number_instruction code.Dtb o v x is g =
    action_of code.Dtb o v x refl refl refl
    (λ q. refl)
number_instruction code.Itd o v x is g =
    action_of code.Itd o v x refl refl refl
    (λ q. refl)
number_instruction code.Invi o v x is g =
    action_of code.Invi o v x refl refl refl
    (λ q. refl)
number_instruction code.Invd o v x is g =
    action_of code.Invd o v x refl refl refl
    (λ q. refl)
number_instruction code.Negi o v x is g =
    action_of code.Negi o v x refl refl refl
    (λ q. refl)
number_instruction code.Negd o v x is g =
    action_of code.Negd o v x refl refl refl
    (λ q. refl)
number_instruction code.Aw o v x is g =
    action_of code.Aw o v x refl refl refl
    (λ q. action_lemmas.logic_same logic.Aw 16 (word_logic.accumulator_anded 16) (as_open x) q
    (holds action_lemmas.is_shift_count (about o) v x (rules.combines simple.Word (about o) v g.rule) g.there)
    (λ k. refl))
number_instruction code.Ow o v x is g =
    action_of code.Ow o v x refl refl refl
    (λ q. action_lemmas.logic_same logic.Ow 16 (word_logic.accumulator_ored 16) (as_open x) q
    (holds action_lemmas.is_shift_count (about o) v x (rules.combines simple.Word (about o) v g.rule) g.there)
    (λ k. refl))
number_instruction code.Xow o v x is g =
    action_of code.Xow o v x refl refl refl
    (λ q. action_lemmas.logic_same logic.Xow 16 (word_logic.accumulator_xored 16) (as_open x) q
    (holds action_lemmas.is_shift_count (about o) v x (rules.combines simple.Word (about o) v g.rule) g.there)
    (λ k. refl))
number_instruction code.Ad o v x is g =
    action_of code.Ad o v x refl refl refl
    (λ q. action_lemmas.logic_same logic.Ad 32 (word_logic.accumulator_anded 32) (as_open x) q
    (holds action_lemmas.is_shift_count (about o) v x (rules.combines simple.Dword (about o) v g.rule) g.there)
    (λ k. refl))
number_instruction code.Od o v x is g =
    action_of code.Od o v x refl refl refl
    (λ q. action_lemmas.logic_same logic.Od 32 (word_logic.accumulator_ored 32) (as_open x) q
    (holds action_lemmas.is_shift_count (about o) v x (rules.combines simple.Dword (about o) v g.rule) g.there)
    (λ k. refl))
number_instruction code.Xod o v x is g =
    action_of code.Xod o v x refl refl refl
    (λ q. action_lemmas.logic_same logic.Xod 32 (word_logic.accumulator_xored 32) (as_open x) q
    (holds action_lemmas.is_shift_count (about o) v x (rules.combines simple.Dword (about o) v g.rule) g.there)
    (λ k. refl))
number_instruction _ o v x is g = absurd (false≢true is)

pub number_instruction_acts : NumbersAct
number_instruction_acts c body n s v x is e names =
    acts c body n s v x e names (λ g. number_instruction s.code s.operand v x is g)

comparison : (m : Mnemonic) (o : Operand) (v : ResolvedOperand) (x : NamedItem) → is_comparison m ≡ true
    → IsTakenOperand m o v x → IsAction m o v x
unfolding operation_for effect_of_operation operand_rule_of effect.operation_effect
comparison code.EqI o v x is g =
    action_of code.EqI o v x refl refl refl
    (λ q. refl)
comparison code.NeI o v x is g =
    action_of code.NeI o v x refl refl refl
    (λ q. refl)
comparison code.GtI o v x is g =
    action_of code.GtI o v x refl refl refl
    (λ q. refl)
comparison code.LtI o v x is g =
    action_of code.LtI o v x refl refl refl
    (λ q. refl)
comparison code.GeI o v x is g =
    action_of code.GeI o v x refl refl refl
    (λ q. refl)
comparison code.LeI o v x is g =
    action_of code.LeI o v x refl refl refl
    (λ q. refl)
comparison code.EqD o v x is g =
    action_of code.EqD o v x refl refl refl
    (λ q. refl)
comparison code.NeD o v x is g =
    action_of code.NeD o v x refl refl refl
    (λ q. refl)
comparison code.GtD o v x is g =
    action_of code.GtD o v x refl refl refl
    (λ q. refl)
comparison code.LtD o v x is g =
    action_of code.LtD o v x refl refl refl
    (λ q. refl)
comparison code.GeD o v x is g =
    action_of code.GeD o v x refl refl refl
    (λ q. refl)
comparison code.LeD o v x is g =
    action_of code.LeD o v x refl refl refl
    (λ q. refl)
comparison _ o v x is g = absurd (false≢true is)

pub comparison_acts : ComparisonsAct
comparison_acts c body n s v x is e names =
    acts c body n s v x e names (λ g. comparison s.code s.operand v x is g)

shift : (m : Mnemonic) (o : Operand) (v : ResolvedOperand) (x : NamedItem) → is_shift m ≡ true
    → IsTakenOperand m o v x → IsAction m o v x
unfolding operation_for effect_of_operation operand_rule_of effect.operation_effect numbers.number_effect numbers.shift_effect
shift code.Ssi o v x is g =
    action_of code.Ssi o v x refl refl refl
    (λ q. action_lemmas.shift_same shift_word.Ssi (shifts.accumulator_shifted_signed 16) (as_open x) q
    (holds action_lemmas.is_shift_count (about o) v x (rules.shifts 15 (about o) v g.rule) g.there)
    (λ k. refl))
shift code.Ssd o v x is g =
    action_of code.Ssd o v x refl refl refl
    (λ q. action_lemmas.shift_same shift_word.Ssd (shifts.accumulator_shifted_signed 32) (as_open x) q
    (holds action_lemmas.is_shift_count (about o) v x (rules.shifts 32 (about o) v g.rule) g.there)
    (λ k. refl))
shift code.Slw o v x is g =
    action_of code.Slw o v x refl refl refl
    (λ q. action_lemmas.shift_same shift_word.Slw (shifts.accumulator_shifted_left 16) (as_open x) q
    (holds action_lemmas.is_shift_count (about o) v x (rules.shifts 15 (about o) v g.rule) g.there)
    (λ k. refl))
shift code.Srw o v x is g =
    action_of code.Srw o v x refl refl refl
    (λ q. action_lemmas.shift_same shift_word.Srw (shifts.accumulator_shifted_right 16) (as_open x) q
    (holds action_lemmas.is_shift_count (about o) v x (rules.shifts 15 (about o) v g.rule) g.there)
    (λ k. refl))
shift code.Sld o v x is g =
    action_of code.Sld o v x refl refl refl
    (λ q. action_lemmas.shift_same shift_word.Sld (shifts.accumulator_shifted_left 32) (as_open x) q
    (holds action_lemmas.is_shift_count (about o) v x (rules.shifts 32 (about o) v g.rule) g.there)
    (λ k. refl))
shift code.Srd o v x is g =
    action_of code.Srd o v x refl refl refl
    (λ q. action_lemmas.shift_same shift_word.Srd (shifts.accumulator_shifted_right 32) (as_open x) q
    (holds action_lemmas.is_shift_count (about o) v x (rules.shifts 32 (about o) v g.rule) g.there)
    (λ k. refl))
shift code.Rld o v x is g =
    action_of code.Rld o v x refl refl refl
    (λ q. action_lemmas.shift_same shift_word.Rld rotations.accumulator_rotated_left (as_open x) q
    (holds action_lemmas.is_shift_count (about o) v x (rules.shifts 32 (about o) v g.rule) g.there)
    (λ k. refl))
shift code.Rrd o v x is g =
    action_of code.Rrd o v x refl refl refl
    (λ q. action_lemmas.shift_same shift_word.Rrd rotations.accumulator_rotated_right (as_open x) q
    (holds action_lemmas.is_shift_count (about o) v x (rules.shifts 32 (about o) v g.rule) g.there)
    (λ k. refl))
shift code.Rlda o v x is g =
    action_of code.Rlda o v x refl refl refl
    (λ q. refl)
shift code.Rrda o v x is g =
    action_of code.Rrda o v x refl refl refl
    (λ q. refl)
shift _ o v x is g = absurd (false≢true is)

pub shift_acts : ShiftsAct
shift_acts c body n s v x is e names =
    acts c body n s v x e names (λ g. shift s.code s.operand v x is g)

timing : (m : Mnemonic) (o : Operand) (v : ResolvedOperand) (x : NamedItem) → is_timing m ≡ true
    → IsTakenOperand m o v x → IsAction m o v x
unfolding operation_for effect_of_operation operand_rule_of
timing code.Sp o v x is g =
    action_of code.Sp o v x refl refl refl
    (λ q. action_lemmas.start_same timer.Sp (as_open x) q
    (holds action_lemmas.names_timer (about o) v x (rules.starts_timer (about o) v g.rule) g.there))
timing code.Se o v x is g =
    action_of code.Se o v x refl refl refl
    (λ q. action_lemmas.start_same timer.Se (as_open x) q
    (holds action_lemmas.names_timer (about o) v x (rules.starts_timer (about o) v g.rule) g.there))
timing code.Sd o v x is g =
    action_of code.Sd o v x refl refl refl
    (λ q. action_lemmas.start_same timer.Sd (as_open x) q
    (holds action_lemmas.names_timer (about o) v x (rules.starts_timer (about o) v g.rule) g.there))
timing code.Ss o v x is g =
    action_of code.Ss o v x refl refl refl
    (λ q. action_lemmas.start_same timer.Ss (as_open x) q
    (holds action_lemmas.names_timer (about o) v x (rules.starts_timer (about o) v g.rule) g.there))
timing code.Sf o v x is g =
    action_of code.Sf o v x refl refl refl
    (λ q. action_lemmas.start_same timer.Sf (as_open x) q
    (holds action_lemmas.names_timer (about o) v x (rules.starts_timer (about o) v g.rule) g.there))
timing code.Fr o v x is g =
    action_of code.Fr o v x refl refl refl
    (λ q. action_lemmas.free_same (as_open x) q
    (holds action_lemmas.is_freed (about o) v x (rules.enables (about o) v g.rule) g.there))
timing code.Cu o v x is g =
    action_of code.Cu o v x refl refl refl
    (λ q. action_lemmas.up_same (as_open x) q
    (holds action_lemmas.names_counter (about o) v x (rules.steps_counter (about o) v g.rule) g.there))
timing code.Cd o v x is g =
    action_of code.Cd o v x refl refl refl
    (λ q. action_lemmas.down_same (as_open x) q
    (holds action_lemmas.names_counter (about o) v x (rules.steps_counter (about o) v g.rule) g.there))
timing _ o v x is g = absurd (false≢true is)

pub timing_acts : TimingActs
timing_acts c body n s v x is e names =
    acts c body n s v x e names (λ g. timing s.code s.operand v x is g)

relay : (m : Mnemonic) (o : Operand) (v : ResolvedOperand) (x : NamedItem) → is_relay m ≡ true
    → IsTakenOperand m o v x → IsAction m o v x
unfolding operation_for effect_of_operation operand_rule_of effect.operation_effect
relay code.Mcra o v x is g =
    action_of code.Mcra o v x refl refl refl
    (λ q. refl)
relay code.Mcrd o v x is g =
    action_of code.Mcrd o v x refl refl refl
    (λ q. refl)
relay code.McrOpen o v x is g =
    action_of code.McrOpen o v x refl refl refl
    (λ q. action_lemmas.open_zone_same (flat_of (as_open x)) q)
relay code.McrClose o v x is g =
    action_of code.McrClose o v x refl refl refl
    (λ q. action_lemmas.end_zone_same (flat_of (as_open x)) q)
relay _ o v x is g = absurd (false≢true is)

pub relay_acts : RelayActs
relay_acts c body n s v x is e names =
    acts c body n s v x e names (λ g. relay s.code s.operand v x is g)

data_block : (m : Mnemonic) (o : Operand) (v : ResolvedOperand) (x : NamedItem) → is_data_block_instruction m ≡ true
    → IsTakenOperand m o v x → IsAction m o v x
unfolding operation_for effect_of_operation operand_rule_of effect.operation_effect data_blocks.registers_exchanged
data_block code.Opn o v x is g =
    action_of code.Opn o v x refl refl refl
    (λ q. action_lemmas.open_same (as_open x) q
    (holds action_lemmas.names_data_block (about o) v x (rules.opens (about o) v g.rule) g.there))
data_block code.Cdb o v x is g =
    action_of code.Cdb o v x refl refl refl
    (λ q. refl)
data_block _ o v x is g = absurd (false≢true is)

pub data_block_acts : DataBlocksAct
data_block_acts c body n s v x is e names =
    acts c body n s v x e names (λ g. data_block s.code s.operand v x is g)

idle : (m : Mnemonic) (o : Operand) (v : ResolvedOperand) (x : NamedItem) → is_idle m ≡ true
    → IsTakenOperand m o v x → IsAction m o v x
unfolding operation_for effect_of_operation operand_rule_of effect.operation_effect
idle code.Nop o v x is g =
    action_of code.Nop o v x refl refl refl
    (λ q. refl)
idle code.Bld o v x is g =
    action_of code.Bld o v x refl refl refl
    (λ q. refl)
idle _ o v x is g = absurd (false≢true is)

pub idle_acts : IdleActs
idle_acts c body n s v x is e names =
    acts c body n s v x e names (λ g. idle s.code s.operand v x is g)
