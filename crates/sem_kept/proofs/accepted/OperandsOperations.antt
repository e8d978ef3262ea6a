-- The operation of an instruction takes the width of its operand, writes no input, and prepares
-- nothing.
use Rattle.std.proofs.Common.{◌≡◌, ℕ, ◌+◌, Bool, true, false, ◌&&◌, ◌||◌, not, Option, Some, None, refl, sym, ap, ◌∙◌}
use Rattle.std.specs.Prelude.{◌==◌, if◌then◌else◌, nat_eq}
use Rattle.plc_base.specs.declared.places.Area.{Area}
use Rattle.plc_base.specs.declared.places.Area.TheVariants as area
use Rattle.plc_base.specs.declared.places.Width.{Width}
use Rattle.plc_base.specs.declared.places.Width.TheVariants as width
use Rattle.flat_code.specs.Blocks.{Environment, is_bad_place, is_in_parameter as is_input_parameter, lacks_own_parameter, lacks_width, parameter_meant, prepares_statement, writes_operand as writes_code}
use Rattle.flat_code.specs.OpCodes.{op_code_of}
use Rattle.flat_code.specs.PlacedOps.{is_opening}
use Rattle.flat_code.specs.Table.{has_memory_width as has_width_of, forms_of}
use Rattle.flat_code.specs.Operations.{operation_of as operation_of_code}
use Rattle.flat_code.specs.declared.table.OperandForms.{OperandForms}
use Rattle.flat_code.specs.declared.operands.Operand.TheVariants as flat
use Rattle.flat_code.specs.declared.operations.Operation.{Operation}
use Rattle.flat_code.specs.declared.operations.Operation.TheVariants as operation
use Rattle.flat_code.specs.declared.operations.RelayOperation.TheVariants as relay
use Rattle.plc_base.specs.declared.instructions.Check.TheVariants as check
use Rattle.stl_ast.specs.declared.blocks.PartKind.{PartKind}
use Rattle.stl_ast.specs.declared.blocks.PartKind.TheVariants as part
use Rattle.stl_ast.specs.declared.declarations.Simple.{Simple}
use Rattle.stl_ast.specs.declared.literals.Literal.TheVariants as literal
use Rattle.stl_ast.specs.declared.mnemonics.Mnemonic.{Mnemonic}
use Rattle.stl_ast.specs.declared.mnemonics.Mnemonic.TheVariants as code
use Rattle.stl_ast.specs.declared.operands.Numbered.{Numbered}
use Rattle.stl_ast.specs.declared.operands.Numbered.TheVariants as numbered
use Rattle.stl_ast.specs.declared.operands.Operand.{Operand}
use Rattle.stl_ast.specs.declared.operands.Operand.TheVariants as operand
use Rattle.block_layout.specs.Offsets.{width_of}
use Rattle.stl_types.specs.Actuals.{is_input_section}
use Rattle.stl_types.specs.Brackets.{bracket_function, is_closing_bracket}
use Rattle.stl_types.specs.OperandRules.{operand_rule_of}
use Rattle.stl_types.specs.Kinds.{is_bit, is_composite, is_double_word, is_in_memory, width_in}
use Rattle.stl_types.specs.Operands.{composite_rule, has_width, is_input, is_on_wrong_side, rule_of_resolved_operand, takes_operand, takes_width, rule_writes_operand}
use Rattle.stl_types.specs.Zones.{ends_zone, opens_zone}
use Rattle.stl_types.specs.declared.operand_rules.OperandRule.{OperandRule}
use Rattle.stl_types.specs.declared.operand_rules.OperandRule.TheVariants as operand_rules
use Rattle.stl_types.specs.declared.resolved_operands.Register.{Register}
use Rattle.stl_types.specs.declared.resolved_operands.Register.TheVariants as register
use Rattle.stl_types.specs.declared.resolved_operands.Side.TheVariants as side
use Rattle.stl_types.specs.declared.resolved_operands.ResolvedOperand.{ResolvedOperand}
use Rattle.stl_types.specs.declared.resolved_operands.ResolvedOperand.TheVariants as resolved
use Rattle.stl_codegen.specs.EmittedOps.{op_with_end_mark}
use Rattle.stl_codegen.specs.Operands.{is_db, numbered_operand, block_opened_by_operand, flat_operand_of, register_operand}
use Rattle.stl_codegen.specs.Operations.{add_operation, load_pointer_operation, load_operation, or_operation, store_pointer_operation, transfer_operation, operation_for}
use Rattle.sem_kept.specs.Back.{goes_to_next_statement}
use Rattle.sem_kept.specs.Operands.{IsOpenedFor, IsOperandRightFor}

-- ---- what the rules of operands leave

-- an operand that its instruction takes
pub record IsTakenBy (f : OperandRule) (v : ResolvedOperand) : Type 0 where
  pub single : is_composite v ≡ false
  pub taken : takes_operand f v ≡ true
  pub wide : has_width f (width_in v) ≡ true
  pub side : is_on_wrong_side f v ≡ false
  pub unwritten : (rule_writes_operand f && is_input v) ≡ false

abbrev rule_by : (composite : ℕ) → (a b c d e : Bool) → Option ℕ
rule_by composite a b c d e =
    if a then Some composite
    else if not b then Some 25
    else if not c then Some 24
    else if d then Some 25
    else if e then Some 39
    else None

pub taken_by_rule : (f : OperandRule) (v : ResolvedOperand) → rule_of_resolved_operand f v ≡ None → IsTakenBy f v
unfolding rule_of_resolved_operand
taken_by_rule f v e =
    let all = chosen (composite_rule f v) (is_composite v) (takes_operand f v) (has_width f (width_in v))
    (is_on_wrong_side f v) (rule_writes_operand f && is_input v) e in
    record { single = all.0; taken = all.1; wide = all.2; side = all.3; unwritten = all.4 }
  where
    chosen : (composite : ℕ) (a b c d e : Bool) → rule_by composite a b c d e ≡ None
        → (a ≡ false) × (b ≡ true) × (c ≡ true) × (d ≡ false) × (e ≡ false)
    chosen composite true b c d e h = absurd cc
    chosen composite false false c d e h = absurd cc
    chosen composite false true false d e h = absurd cc
    chosen composite false true true true e h = absurd cc
    chosen composite false true true false true h = absurd cc
    chosen composite false true true false false h = (refl, refl, refl, refl, refl)

-- ---- operations

-- the op code of an instruction, by what it does to brackets
abbrev pub IsCodeBy : Option ℕ → Bool → (code : ℕ) → Type 0
IsCodeBy (Some function) c code = (code ≡ op_code_of (operation.Nest check.A) + function) × (is_opening code ≡ true)
IsCodeBy None true code = code ≡ op_code_of operation.Unnest
IsCodeBy None false code = (is_opening code ≡ false) × ((code == op_code_of operation.Unnest) ≡ false)

-- the op code of an instruction, by what it does to zones
abbrev pub IsZoneCodeBy : (opened ended : Bool) → (code : ℕ) → Type 0
IsZoneCodeBy true ended code = code ≡ op_code_of (operation.Relay relay.Open)
IsZoneCodeBy false true code = code ≡ op_code_of (operation.Relay relay.Close)
IsZoneCodeBy false false code = ((code == op_code_of (operation.Relay relay.Open)) ≡ false) × ((code == op_code_of (operation.Relay relay.Close)) ≡ false)

abbrev pub IsCodeOf : Mnemonic → (code : ℕ) → Type 0
IsCodeOf m code =
    IsCodeBy (bracket_function m) (is_closing_bracket m) code × IsZoneCodeBy (opens_zone m) (ends_zone m) code

-- that of an operation that has nothing to do with brackets and zones
abbrev pub IsOtherCode : ℕ → Type 0
IsOtherCode code = IsCodeBy None false code × IsZoneCodeBy false false code

-- what an operation of a mnemonic has, whatever its operand: it prepares nothing, goes on to the
-- next statement, and its code is one by what the mnemonic does to brackets and zones
pub record IsOperationOf (m : Mnemonic) (w : Operation) : Type 0 where
  pub prepares : prepares_statement (op_code_of w) ≡ false
  pub goes_on : goes_to_next_statement w ≡ true
  pub code : IsCodeOf m (op_code_of w)

or_is : (v : ResolvedOperand) → IsOperationOf code.O (or_operation v)
unfolding bracket_function is_closing_bracket opens_zone ends_zone
or_is resolved.Nothing = record { prepares = refl; goes_on = refl; code = ((refl, refl), (refl, refl)) }
or_is _ = record { prepares = refl; goes_on = refl; code = ((refl, refl), (refl, refl)) }

load_is : (v : ResolvedOperand) → IsOperationOf code.L (load_operation v)
unfolding bracket_function is_closing_bracket opens_zone ends_zone
load_is (resolved.Register register.Stw) = record { prepares = refl; goes_on = refl; code = ((refl, refl), (refl, refl)) }
load_is (resolved.Register _) = record { prepares = refl; goes_on = refl; code = ((refl, refl), (refl, refl)) }
load_is _ = record { prepares = refl; goes_on = refl; code = ((refl, refl), (refl, refl)) }

transfer_is : (v : ResolvedOperand) → IsOperationOf code.T (transfer_operation v)
unfolding bracket_function is_closing_bracket opens_zone ends_zone
transfer_is (resolved.Register which) = record { prepares = refl; goes_on = refl; code = ((refl, refl), (refl, refl)) }
transfer_is _ = record { prepares = refl; goes_on = refl; code = ((refl, refl), (refl, refl)) }

load_pointer_is : (v : ResolvedOperand) → IsOperationOf code.Lar1 (load_pointer_operation v)
unfolding bracket_function is_closing_bracket opens_zone ends_zone
load_pointer_is (resolved.Register which) = record { prepares = refl; goes_on = refl; code = ((refl, refl), (refl, refl)) }
load_pointer_is _ = record { prepares = refl; goes_on = refl; code = ((refl, refl), (refl, refl)) }

store_pointer_is : (v : ResolvedOperand) → IsOperationOf code.Tar1 (store_pointer_operation v)
unfolding bracket_function is_closing_bracket opens_zone ends_zone
store_pointer_is (resolved.Register which) = record { prepares = refl; goes_on = refl; code = ((refl, refl), (refl, refl)) }
store_pointer_is _ = record { prepares = refl; goes_on = refl; code = ((refl, refl), (refl, refl)) }

add_is : (o : Operand) → IsOperationOf code.Add (add_operation o)
unfolding bracket_function is_closing_bracket opens_zone ends_zone
add_is (operand.Constant (literal.Long value)) = record { prepares = refl; goes_on = refl; code = ((refl, refl), (refl, refl)) }
add_is _ = record { prepares = refl; goes_on = refl; code = ((refl, refl), (refl, refl)) }

pub operation_is : (m : Mnemonic) (o : Operand) (v : ResolvedOperand) → IsOperationOf m (operation_for m o v)
unfolding operation_for bracket_function is_closing_bracket opens_zone ends_zone
operation_is code.Close o v = record { prepares = refl; goes_on = refl; code = (refl, (refl, refl)) }
operation_is code.McrOpen o v = record { prepares = refl; goes_on = refl; code = ((refl, refl), refl) }
operation_is code.McrClose o v = record { prepares = refl; goes_on = refl; code = ((refl, refl), refl) }
operation_is code.O o v = or_is v
operation_is code.L o v = load_is v
operation_is code.T o v = transfer_is v
operation_is code.Lar1 o v = load_pointer_is v
operation_is code.Tar1 o v = store_pointer_is v
operation_is code.Add o v = add_is o
operation_is _ o v = record { prepares = refl; goes_on = refl; code = ((refl, refl), (refl, refl)) }

-- a place in memory stands for all of them
abbrev in_memory : ResolvedOperand
in_memory = resolved.Direct (record { area = area.M; number = 0; byte = 0; bit = 0 }) width.Bit side.Both None

or_same : (v : ResolvedOperand) → is_in_memory v ≡ true → or_operation v ≡ or_operation in_memory
or_same resolved.Nothing h = absurd cc
or_same _ h = refl

load_same : (v : ResolvedOperand) → is_in_memory v ≡ true → load_operation v ≡ load_operation in_memory
load_same (resolved.Register which) h = absurd cc
load_same _ h = refl

transfer_same : (v : ResolvedOperand) → is_in_memory v ≡ true → transfer_operation v ≡ transfer_operation in_memory
transfer_same (resolved.Register which) h = absurd cc
transfer_same _ h = refl

load_pointer_same : (v : ResolvedOperand) → is_in_memory v ≡ true
    → load_pointer_operation v ≡ load_pointer_operation in_memory
load_pointer_same (resolved.Register which) h = absurd cc
load_pointer_same _ h = refl

store_pointer_same : (v : ResolvedOperand) → is_in_memory v ≡ true
    → store_pointer_operation v ≡ store_pointer_operation in_memory
store_pointer_same (resolved.Register which) h = absurd cc
store_pointer_same _ h = refl

memory_word : (m : Mnemonic) (o : Operand) (v : ResolvedOperand) → is_in_memory v ≡ true
    → operation_for m o v ≡ operation_for m o in_memory
unfolding operation_for
memory_word code.O o v h = or_same v h
memory_word code.L o v h = load_same v h
memory_word code.T o v h = transfer_same v h
memory_word code.Lar1 o v h = load_pointer_same v h
memory_word code.Tar1 o v h = store_pointer_same v h
memory_word _ o v h = refl

or_true : (a b c d : Bool) → (a ≡ false) → (b ≡ true → d ≡ true) → (c ≡ true → d ≡ true)
    → ((a || b) || c) ≡ true → d ≡ true
or_true true b c d h k l e = absurd cc
or_true false true c d h k l e = k refl
or_true false false true d h k l e = l refl
or_true false false false d h k l e = absurd cc

-- what takes a place takes one with an address of its own
memory_form : (f : OperandRule) (v : ResolvedOperand) → is_in_memory v ≡ true → takes_operand f v ≡ true
    → takes_operand f in_memory ≡ true
unfolding takes_operand
memory_form operand_rules.ReadsBit v h k = refl
memory_form operand_rules.ReadsBitOrBare v h k = refl
memory_form operand_rules.WritesBit v h k = refl
memory_form operand_rules.Sets v h k = refl
memory_form operand_rules.Resets v h k = refl
memory_form operand_rules.Loads v h k = refl
memory_form operand_rules.Transfers v h k = refl
memory_form operand_rules.LoadsAr1 v h k = refl
memory_form operand_rules.LoadsAr2 v h k = refl
memory_form operand_rules.StoresAr1 v h k = refl
memory_form operand_rules.StoresAr2 v h k = refl
memory_form _ resolved.Nothing h k = absurd cc
memory_form _ _ h k = absurd cc

bit_only : (t : OperandForms) → has_width_of t width.Bit ≡ true → (w : Width) → is_bit (Some w) ≡ true
    → has_width_of t w ≡ true
bit_only t e width.Bit k = e
bit_only t e _ k = absurd cc

no_bit : (t : OperandForms) → has_width_of t width.Byte ≡ true → has_width_of t width.Word ≡ true
    → has_width_of t width.Dword ≡ true → (w : Width) → not (is_bit (Some w)) ≡ true
    → has_width_of t w ≡ true
no_bit t e f g width.Bit k = absurd cc
no_bit t e f g width.Byte k = e
no_bit t e f g width.Word k = f
no_bit t e f g width.Dword k = g

dword_only : (t : OperandForms) → has_width_of t width.Dword ≡ true → (w : Width)
    → is_double_word (Some w) ≡ true → has_width_of t w ≡ true
dword_only t e width.Dword k = e
dword_only t e _ k = absurd cc

-- what the operation of a mnemonic takes
abbrev operation_takes : Mnemonic → Operand → OperandForms
operation_takes m o = forms_of (op_code_of (operation_for m o in_memory))

widths : (m : Mnemonic) (o : Operand) (w : Width) → takes_operand (operand_rule_of m) in_memory ≡ true
    → takes_width (operand_rule_of m) (Some w) ≡ true → has_width_of (operation_takes m o) w ≡ true
unfolding takes_operand takes_width operand_rule_of forms_of operation_for operation_of_code
widths code.A o w h k = bit_only (operation_takes code.A o) refl w k
widths code.An o w h k = bit_only (operation_takes code.An o) refl w k
widths code.O o w h k = bit_only (operation_takes code.O o) refl w k
widths code.On o w h k = bit_only (operation_takes code.On o) refl w k
widths code.X o w h k = bit_only (operation_takes code.X o) refl w k
widths code.Xn o w h k = bit_only (operation_takes code.Xn o) refl w k
widths code.Assign o w h k = bit_only (operation_takes code.Assign o) refl w k
widths code.Fp o w h k = bit_only (operation_takes code.Fp o) refl w k
widths code.Fn o w h k = bit_only (operation_takes code.Fn o) refl w k
widths code.S o w h k = bit_only (operation_takes code.S o) refl w k
widths code.R o w h k = bit_only (operation_takes code.R o) refl w k
widths code.L o w h k = no_bit (operation_takes code.L o) refl refl refl w k
widths code.T o w h k = no_bit (operation_takes code.T o) refl refl refl w k
widths code.Lar1 o w h k = dword_only (operation_takes code.Lar1 o) refl w k
widths code.Lar2 o w h k = dword_only (operation_takes code.Lar2 o) refl w k
widths code.Tar1 o w h k = dword_only (operation_takes code.Tar1 o) refl w k
widths code.Tar2 o w h k = dword_only (operation_takes code.Tar2 o) refl w k
widths _ o w h k = absurd cc

no_lack : (m : Mnemonic) (o : Operand) (v : ResolvedOperand) (w : Width) → is_in_memory v ≡ true
    → width_in v ≡ Some w → IsTakenBy (operand_rule_of m) v
    → lacks_width (op_with_end_mark (operation_for m o v) (flat_operand_of o v)) w ≡ false
no_lack m o v w mem is h =
    ap (λ (x : Operation). not (has_width_of (forms_of (op_code_of x)) w)) (memory_word m o v mem)
    ∙ ap not (widths m o w (memory_form (operand_rule_of m) v mem h.taken)
    (ap (λ (x : Option Width). has_width (operand_rule_of m) x) (sym is) ∙ h.wide))

-- what writes has a form that writes
unwritten : (m : Mnemonic) (o : Operand) (index : ℕ) (section : PartKind) (declared : Simple) (b : Bool)
    → (rule_writes_operand (operand_rule_of m) && b) ≡ false
    → (writes_code (op_code_of (operation_for m o (resolved.Parameter index section declared))) && b) ≡ false
unfolding operand_rule_of operation_for
unwritten code.T o index section declared b h = h
unwritten code.Assign o index section declared b h = h
unwritten code.S o index section declared b h = h
unwritten code.R o index section declared b h = h
unwritten code.Fp o index section declared b h = h
unwritten code.Fn o index section declared b h = h
unwritten code.Add o index section declared b h = added o
  where
    added : (o : Operand) → (writes_code (op_code_of (add_operation o)) && b) ≡ false
    added (operand.Constant (literal.Long value)) = refl
    added _ = refl
unwritten _ o index section declared b h = refl

input_section : (index : ℕ) (section : PartKind) (declared : Simple)
    → is_input (resolved.Parameter index section declared) ≡ is_input_section section
input_section index part.Input declared = refl
input_section index _ declared = refl

-- ---- operands

-- what a resolved operand names fits what surrounds the block, whatever the instruction; a variable
-- has the width of its type
abbrev pub HasWidth : Width → Option Simple → Type 0
HasWidth w None = Unit {0}
HasWidth w (Some kind) = w ≡ width_of kind

abbrev pub IsRightOperand : Environment → ResolvedOperand → Type 0
IsRightOperand a (resolved.Direct place w s declared) =
    (is_bad_place a place.area w place.byte place.bit ≡ false) × HasWidth w declared
IsRightOperand a (resolved.Parameter index section declared) =
    (lacks_own_parameter (parameter_meant a index) (width_of declared) ≡ false)
    × (is_input_parameter (parameter_meant a index) ≡ is_input_section section)
IsRightOperand a _ = Unit {0}

numbered_fits : (a : Environment) (w : Operation) (what : Numbered) (from : Area) (byte : ℕ)
    → IsOperandRightFor a (op_with_end_mark w (numbered_operand what from byte)) (numbered_operand what from byte)
numbered_fits a w numbered.Timer from byte = tt
numbered_fits a w _ from byte = tt

register_fits : (a : Environment) (w : Operation) (which : Register)
    → IsOperandRightFor a (op_with_end_mark w (register_operand which)) (register_operand which)
register_fits a w register.Dblg = tt
register_fits a w register.Dbno = tt
register_fits a w register.Dilg = tt
register_fits a w register.Dino = tt
register_fits a w _ = tt

pub operand_fits : (a : Environment) (m : Mnemonic) (o : Operand) (v : ResolvedOperand) → IsTakenBy (operand_rule_of m) v
    → IsRightOperand a v
    → IsOperandRightFor a (op_with_end_mark (operation_for m o v) (flat_operand_of o v)) (flat_operand_of o v)
unfolding flat_operand_of
operand_fits a m o (resolved.Direct place w s declared) h fits =
    (no_lack m o (resolved.Direct place w s declared) w refl refl h, fits.0)
operand_fits a m o (resolved.Parameter index section declared) h fits = (
  no_lack m o (resolved.Parameter index section declared) (width_of declared) refl refl h,
  fits.0,
  unwritten m o index section declared (is_input_parameter (parameter_meant a index))
      (ap (λ (b : Bool). rule_writes_operand (operand_rule_of m) && b)
      (fits.1 ∙ sym (input_section index section declared)) ∙ h.unwritten),
)
operand_fits a m o (resolved.ByMemory ar w from byte) h fits =
    no_lack m o (resolved.ByMemory ar w from byte) w refl refl h
operand_fits a m o (resolved.ByRegister ar w r bits) h fits =
    no_lack m o (resolved.ByRegister ar w r bits) w refl refl h
operand_fits a m o (resolved.NumberBy what from byte) h fits =
    numbered_fits a (operation_for m o (resolved.NumberBy what from byte)) what from byte
operand_fits a m o (resolved.Register which) h fits =
    register_fits a (operation_for m o (resolved.Register which)) which
operand_fits a m o _ h fits = tt

opened_for : (ar : Area) (w : Width) (number byte bit : ℕ)
    → IsOpenedFor (flat.Direct ar w byte bit)
    (if is_db ar && not (nat_eq number 0) then Some number else None)
opened_for area.Db w number byte bit = by (nat_eq number 0)
  where
    by : (none : Bool) → IsOpenedFor (flat.Direct area.Db w byte bit)
        (if true && not none then Some number else None)
    by true = tt
    by false = refl
opened_for _ w number byte bit = tt

pub opened_fits : (o : Operand) (v : ResolvedOperand) → IsOpenedFor (flat_operand_of o v) (block_opened_by_operand v)
unfolding flat_operand_of
opened_fits o (resolved.Direct place w s declared) =
    opened_for place.area w place.number place.byte place.bit
opened_fits o _ = tt
