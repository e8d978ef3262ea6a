-- What the rules leave of operands: each instruction names what it takes.
use Rattle.std.proofs.Common.{ℕ, ◌≡◌, nat_eq, Bool, true, false, Option, Some, None, if◌then◌else◌, refl, sym, ◌∙◌, ap}
use Rattle.plc_base.specs.declared.places.Area.{Area}
use Rattle.plc_base.specs.declared.places.Area.TheVariants as area
use Rattle.plc_base.specs.declared.places.Width.{Width}
use Rattle.flat_code.specs.declared.operations.AddConstant.TheVariants as add_constant
use Rattle.flat_code.specs.declared.operations.Operation.TheVariants as operation
use Rattle.stl_ast.specs.declared.declarations.Simple.{Simple}
use Rattle.stl_ast.specs.declared.literals.Literal.{Literal}
use Rattle.stl_ast.specs.declared.literals.Literal.TheVariants as literal
use Rattle.stl_ast.specs.declared.operands.Numbered.TheVariants as numbered
use Rattle.stl_ast.specs.declared.operands.Operand.{Operand}
use Rattle.stl_ast.specs.declared.operands.Operand.TheVariants as operand
use Rattle.stl_types.specs.Constants.{takes_constant}
use Rattle.stl_types.specs.Operands.{rule_of_resolved_operand, takes_operand}
use Rattle.stl_types.specs.declared.operand_rules.OperandRule.TheVariants as operand_rules
use Rattle.stl_types.specs.declared.resolved_operands.Register.TheVariants as register
use Rattle.stl_types.specs.declared.resolved_operands.ResolvedOperand.{ResolvedOperand}
use Rattle.stl_types.specs.declared.resolved_operands.ResolvedOperand.TheVariants as resolved
use Rattle.stl_codegen.specs.Operations as codegen
use Rattle.statement_laws.specs.NamedOperands.{NamedItem}
use Rattle.statement_laws.specs.NamedOperands as named
use Rattle.statement_laws.specs.Operands.{named_fixed_place, place_by}
use Rattle.statement_laws.proofs.ActionLemmas.{add_operation_for, is_added_address, is_address, is_address_place, is_constant, is_shift_count, names_counter, names_data_block, is_first_address, is_first_address_place, is_freed, is_loaded, is_reset, is_set, names_timer, is_transferred, is_place_to_write, load_address_operation, load_operation_for, or_operation_for, store_address_operation, transfer_operation_for}
use Rattle.statement_laws.proofs.FlatLemmas.{is_read}
use Rattle.statement_laws.proofs.ResolutionLemmas.{about, on_named, rule_with_constant, view_named}

-- the place in the DB register, once its data block is open
abbrev pub as_open : NamedItem → NamedItem
as_open (named.PlaceIn n w byte bit) = named_fixed_place area.Db w byte bit
as_open x = x

db_open : (b : Bool) (n : ℕ) (w : Width) (byte bit : ℕ)
    → as_open (if b then named_fixed_place area.Db w byte bit else named.PlaceIn n w byte bit)
    ≡ named_fixed_place area.Db w byte bit
db_open true n w byte bit = refl
db_open false n w byte bit = refl

place_open : (a : Area) (n : ℕ) (w : Width) (byte bit : ℕ)
    → as_open (place_by a n w byte bit) ≡ named_fixed_place a w byte bit
place_open area.Db n w byte bit = db_open (nat_eq n 0) n w byte bit
place_open area.I n w byte bit = refl
place_open area.Q n w byte bit = refl
place_open area.M n w byte bit = refl
place_open area.P n w byte bit = refl
place_open area.Di n w byte bit = refl
place_open area.L n w byte bit = refl

pub some_is_not_none : {n : ℕ} → Some n ≡ None → ⊥
some_is_not_none e = cc

-- what holds of what is named, if anything is
abbrev pub HoldsOfItem : (NamedItem → Bool) → Option Literal → ResolvedOperand → Type 0
HoldsOfItem f k v = on_named true (λ x. f (as_open x)) (view_named k v) ≡ true

pub holds : (f : NamedItem → Bool) (k : Option Literal) (v : ResolvedOperand) (x : NamedItem)
    → HoldsOfItem f k v → view_named k v ≡ Some x → f (as_open x) ≡ true
holds f k v x h e = sym (ap (on_named true (λ x. f (as_open x))) e) ∙ h

pub reads_bit : (k : Option Literal) (v : ResolvedOperand)
    → rule_with_constant operand_rules.ReadsBit k v ≡ None → HoldsOfItem is_read k v
unfolding rule_of_resolved_operand takes_operand takes_constant
reads_bit None (resolved.Direct place width side declared) e =
    ap is_read (place_open place.area place.number width place.byte place.bit)
reads_bit None (resolved.Parameter index section declared) e = refl
reads_bit None (resolved.ByMemory a width from byte) e = refl
reads_bit None (resolved.ByRegister a width r count) e = refl
reads_bit None (resolved.Timer number) e = refl
reads_bit None (resolved.Counter number) e = refl
reads_bit None (resolved.NumberBy numbered.Timer from byte) e = refl
reads_bit None (resolved.NumberBy numbered.Counter from byte) e = refl
reads_bit None (resolved.OfStatus flag) e = refl
reads_bit None resolved.Composite e = refl
reads_bit None resolved.Date e = refl
reads_bit None resolved.Constant e = refl
reads_bit None resolved.Block e = refl
reads_bit (Some value) resolved.Constant e = refl
reads_bit (Some value) _ e = refl
reads_bit None _ e = absurd (some_is_not_none e)

pub reads_bit_or_bare : (k : Option Literal) (v : ResolvedOperand)
    → rule_with_constant operand_rules.ReadsBitOrBare k v ≡ None → HoldsOfItem is_read k v
unfolding rule_of_resolved_operand takes_operand takes_constant
reads_bit_or_bare None resolved.Nothing e = refl
reads_bit_or_bare None (resolved.Direct place width side declared) e =
    ap is_read (place_open place.area place.number width place.byte place.bit)
reads_bit_or_bare None (resolved.Parameter index section declared) e = refl
reads_bit_or_bare None (resolved.ByMemory a width from byte) e = refl
reads_bit_or_bare None (resolved.ByRegister a width r count) e = refl
reads_bit_or_bare None (resolved.Timer number) e = refl
reads_bit_or_bare None (resolved.Counter number) e = refl
reads_bit_or_bare None (resolved.NumberBy numbered.Timer from byte) e = refl
reads_bit_or_bare None (resolved.NumberBy numbered.Counter from byte) e = refl
reads_bit_or_bare None (resolved.OfStatus flag) e = refl
reads_bit_or_bare None resolved.Composite e = refl
reads_bit_or_bare None resolved.Date e = refl
reads_bit_or_bare None resolved.Constant e = refl
reads_bit_or_bare None resolved.Block e = refl
reads_bit_or_bare (Some value) resolved.Constant e = refl
reads_bit_or_bare (Some value) _ e = refl
reads_bit_or_bare None _ e = absurd (some_is_not_none e)

pub writes_bit : (k : Option Literal) (v : ResolvedOperand)
    → rule_with_constant operand_rules.WritesBit k v ≡ None → HoldsOfItem is_place_to_write k v
unfolding rule_of_resolved_operand takes_operand takes_constant
writes_bit None (resolved.Direct place width side declared) e =
    ap is_place_to_write (place_open place.area place.number width place.byte place.bit)
writes_bit None (resolved.Parameter index section declared) e = refl
writes_bit None (resolved.ByMemory a width from byte) e = refl
writes_bit None (resolved.ByRegister a width r count) e = refl
writes_bit None resolved.Composite e = refl
writes_bit None resolved.Date e = refl
writes_bit None resolved.Constant e = refl
writes_bit None resolved.Block e = refl
writes_bit (Some value) resolved.Constant e = absurd (some_is_not_none e)
writes_bit (Some value) _ e = refl
writes_bit None _ e = absurd (some_is_not_none e)

pub sets : (k : Option Literal) (v : ResolvedOperand)
    → rule_with_constant operand_rules.Sets k v ≡ None → HoldsOfItem is_set k v
unfolding rule_of_resolved_operand takes_operand takes_constant
sets None (resolved.Direct place width side declared) e =
    ap is_set (place_open place.area place.number width place.byte place.bit)
sets None (resolved.Parameter index section declared) e = refl
sets None (resolved.ByMemory a width from byte) e = refl
sets None (resolved.ByRegister a width r count) e = refl
sets None (resolved.Counter number) e = refl
sets None (resolved.NumberBy numbered.Counter from byte) e = refl
sets None resolved.Composite e = refl
sets None resolved.Date e = refl
sets None resolved.Constant e = refl
sets None resolved.Block e = refl
sets (Some value) resolved.Constant e = absurd (some_is_not_none e)
sets (Some value) _ e = refl
sets None _ e = absurd (some_is_not_none e)

pub resets : (k : Option Literal) (v : ResolvedOperand)
    → rule_with_constant operand_rules.Resets k v ≡ None → HoldsOfItem is_reset k v
unfolding rule_of_resolved_operand takes_operand takes_constant
resets None (resolved.Direct place width side declared) e =
    ap is_reset (place_open place.area place.number width place.byte place.bit)
resets None (resolved.Parameter index section declared) e = refl
resets None (resolved.ByMemory a width from byte) e = refl
resets None (resolved.ByRegister a width r count) e = refl
resets None (resolved.Timer number) e = refl
resets None (resolved.Counter number) e = refl
resets None (resolved.NumberBy numbered.Timer from byte) e = refl
resets None (resolved.NumberBy numbered.Counter from byte) e = refl
resets None resolved.Composite e = refl
resets None resolved.Date e = refl
resets None resolved.Constant e = refl
resets None resolved.Block e = refl
resets (Some value) resolved.Constant e = absurd (some_is_not_none e)
resets (Some value) _ e = refl
resets None _ e = absurd (some_is_not_none e)

pub transfers : (k : Option Literal) (v : ResolvedOperand)
    → rule_with_constant operand_rules.Transfers k v ≡ None → HoldsOfItem is_transferred k v
unfolding rule_of_resolved_operand takes_operand takes_constant
transfers None (resolved.Direct place width side declared) e =
    ap is_transferred (place_open place.area place.number width place.byte place.bit)
transfers None (resolved.Parameter index section declared) e = refl
transfers None (resolved.ByMemory a width from byte) e = refl
transfers None (resolved.ByRegister a width r count) e = refl
transfers None (resolved.Register register.Stw) e = refl
transfers None resolved.Composite e = refl
transfers None resolved.Date e = refl
transfers None resolved.Constant e = refl
transfers None resolved.Block e = refl
transfers (Some value) resolved.Constant e = absurd (some_is_not_none e)
transfers (Some value) _ e = refl
transfers None _ e = absurd (some_is_not_none e)

pub loads_ar1 : (k : Option Literal) (v : ResolvedOperand)
    → rule_with_constant operand_rules.LoadsAr1 k v ≡ None → HoldsOfItem is_first_address k v
unfolding rule_of_resolved_operand takes_operand takes_constant
loads_ar1 None resolved.Nothing e = refl
loads_ar1 None (resolved.Direct place width side declared) e =
    ap is_first_address (place_open place.area place.number width place.byte place.bit)
loads_ar1 None (resolved.Pointer a byte bit) e = refl
loads_ar1 None (resolved.Register register.Ar2) e = refl
loads_ar1 None resolved.Composite e = refl
loads_ar1 None resolved.Date e = refl
loads_ar1 None resolved.Constant e = refl
loads_ar1 None resolved.Block e = refl
loads_ar1 (Some value) resolved.Constant e = absurd (some_is_not_none e)
loads_ar1 (Some value) _ e = refl
loads_ar1 None _ e = absurd (some_is_not_none e)

pub loads_ar2 : (k : Option Literal) (v : ResolvedOperand)
    → rule_with_constant operand_rules.LoadsAr2 k v ≡ None → HoldsOfItem is_address k v
unfolding rule_of_resolved_operand takes_operand takes_constant
loads_ar2 None resolved.Nothing e = refl
loads_ar2 None (resolved.Direct place width side declared) e =
    ap is_address (place_open place.area place.number width place.byte place.bit)
loads_ar2 None (resolved.Pointer a byte bit) e = refl
loads_ar2 None resolved.Composite e = refl
loads_ar2 None resolved.Date e = refl
loads_ar2 None resolved.Constant e = refl
loads_ar2 None resolved.Block e = refl
loads_ar2 (Some value) resolved.Constant e = absurd (some_is_not_none e)
loads_ar2 (Some value) _ e = refl
loads_ar2 None _ e = absurd (some_is_not_none e)

pub stores_ar1 : (k : Option Literal) (v : ResolvedOperand)
    → rule_with_constant operand_rules.StoresAr1 k v ≡ None → HoldsOfItem is_first_address_place k v
unfolding rule_of_resolved_operand takes_operand takes_constant
stores_ar1 None resolved.Nothing e = refl
stores_ar1 None (resolved.Direct place width side declared) e =
    ap is_first_address_place (place_open place.area place.number width place.byte place.bit)
stores_ar1 None (resolved.Register register.Ar2) e = refl
stores_ar1 None resolved.Composite e = refl
stores_ar1 None resolved.Date e = refl
stores_ar1 None resolved.Constant e = refl
stores_ar1 None resolved.Block e = refl
stores_ar1 (Some value) resolved.Constant e = absurd (some_is_not_none e)
stores_ar1 (Some value) _ e = refl
stores_ar1 None _ e = absurd (some_is_not_none e)

pub stores_ar2 : (k : Option Literal) (v : ResolvedOperand)
    → rule_with_constant operand_rules.StoresAr2 k v ≡ None → HoldsOfItem is_address_place k v
unfolding rule_of_resolved_operand takes_operand takes_constant
stores_ar2 None resolved.Nothing e = refl
stores_ar2 None (resolved.Direct place width side declared) e =
    ap is_address_place (place_open place.area place.number width place.byte place.bit)
stores_ar2 None resolved.Composite e = refl
stores_ar2 None resolved.Date e = refl
stores_ar2 None resolved.Constant e = refl
stores_ar2 None resolved.Block e = refl
stores_ar2 (Some value) resolved.Constant e = absurd (some_is_not_none e)
stores_ar2 (Some value) _ e = refl
stores_ar2 None _ e = absurd (some_is_not_none e)

pub adds_to_ar : (k : Option Literal) (v : ResolvedOperand)
    → rule_with_constant operand_rules.AddsToAr k v ≡ None → HoldsOfItem is_added_address k v
unfolding rule_of_resolved_operand takes_operand takes_constant
adds_to_ar None resolved.Nothing e = refl
adds_to_ar None (resolved.Pointer a byte bit) e = refl
adds_to_ar None resolved.Composite e = refl
adds_to_ar None resolved.Date e = refl
adds_to_ar None resolved.Constant e = refl
adds_to_ar None resolved.Block e = refl
adds_to_ar (Some value) resolved.Constant e = absurd (some_is_not_none e)
adds_to_ar (Some value) _ e = refl
adds_to_ar None _ e = absurd (some_is_not_none e)

pub counts : (most : ℕ) (k : Option Literal) (v : ResolvedOperand)
    → rule_with_constant (operand_rules.Counts most) k v ≡ None → HoldsOfItem is_constant k v
unfolding rule_of_resolved_operand takes_operand takes_constant
counts most None resolved.Composite e = refl
counts most None resolved.Date e = refl
counts most None resolved.Constant e = refl
counts most None resolved.Block e = refl
counts most (Some value) resolved.Constant e = refl
counts most (Some value) _ e = refl
counts most None _ e = absurd (some_is_not_none e)

pub shifts : (most : ℕ) (k : Option Literal) (v : ResolvedOperand)
    → rule_with_constant (operand_rules.Shifts most) k v ≡ None → HoldsOfItem is_shift_count k v
unfolding rule_of_resolved_operand takes_operand takes_constant
shifts most None resolved.Nothing e = refl
shifts most None resolved.Composite e = refl
shifts most None resolved.Date e = refl
shifts most None resolved.Constant e = refl
shifts most None resolved.Block e = refl
shifts most (Some value) resolved.Constant e = refl
shifts most (Some value) _ e = refl
shifts most None _ e = absurd (some_is_not_none e)

pub adds : (k : Option Literal) (v : ResolvedOperand)
    → rule_with_constant operand_rules.Adds k v ≡ None → HoldsOfItem is_constant k v
unfolding rule_of_resolved_operand takes_operand takes_constant
adds None resolved.Composite e = refl
adds None resolved.Date e = refl
adds None resolved.Constant e = refl
adds None resolved.Block e = refl
adds (Some value) resolved.Constant e = refl
adds (Some value) _ e = refl
adds None _ e = absurd (some_is_not_none e)

pub combines : (kind : Simple) (k : Option Literal) (v : ResolvedOperand)
    → rule_with_constant (operand_rules.Combines kind) k v ≡ None → HoldsOfItem is_shift_count k v
unfolding rule_of_resolved_operand takes_operand takes_constant
combines kind None resolved.Nothing e = refl
combines kind None resolved.Composite e = refl
combines kind None resolved.Date e = refl
combines kind None resolved.Constant e = refl
combines kind None resolved.Block e = refl
combines kind (Some value) resolved.Constant e = refl
combines kind (Some value) _ e = refl
combines kind None _ e = absurd (some_is_not_none e)

pub starts_timer : (k : Option Literal) (v : ResolvedOperand)
    → rule_with_constant operand_rules.StartsTimer k v ≡ None → HoldsOfItem names_timer k v
unfolding rule_of_resolved_operand takes_operand takes_constant
starts_timer None (resolved.Timer number) e = refl
starts_timer None (resolved.NumberBy numbered.Timer from byte) e = refl
starts_timer None resolved.Composite e = refl
starts_timer None resolved.Date e = refl
starts_timer None resolved.Constant e = refl
starts_timer None resolved.Block e = refl
starts_timer (Some value) resolved.Constant e = absurd (some_is_not_none e)
starts_timer (Some value) _ e = refl
starts_timer None _ e = absurd (some_is_not_none e)

pub enables : (k : Option Literal) (v : ResolvedOperand)
    → rule_with_constant operand_rules.Enables k v ≡ None → HoldsOfItem is_freed k v
unfolding rule_of_resolved_operand takes_operand takes_constant
enables None (resolved.Timer number) e = refl
enables None (resolved.Counter number) e = refl
enables None (resolved.NumberBy numbered.Timer from byte) e = refl
enables None (resolved.NumberBy numbered.Counter from byte) e = refl
enables None resolved.Composite e = refl
enables None resolved.Date e = refl
enables None resolved.Constant e = refl
enables None resolved.Block e = refl
enables (Some value) resolved.Constant e = absurd (some_is_not_none e)
enables (Some value) _ e = refl
enables None _ e = absurd (some_is_not_none e)

pub steps_counter : (k : Option Literal) (v : ResolvedOperand)
    → rule_with_constant operand_rules.StepsCounter k v ≡ None → HoldsOfItem names_counter k v
unfolding rule_of_resolved_operand takes_operand takes_constant
steps_counter None (resolved.Counter number) e = refl
steps_counter None (resolved.NumberBy numbered.Counter from byte) e = refl
steps_counter None resolved.Composite e = refl
steps_counter None resolved.Date e = refl
steps_counter None resolved.Constant e = refl
steps_counter None resolved.Block e = refl
steps_counter (Some value) resolved.Constant e = absurd (some_is_not_none e)
steps_counter (Some value) _ e = refl
steps_counter None _ e = absurd (some_is_not_none e)

pub opens : (k : Option Literal) (v : ResolvedOperand)
    → rule_with_constant operand_rules.Opens k v ≡ None → HoldsOfItem names_data_block k v
unfolding rule_of_resolved_operand takes_operand takes_constant
opens None (resolved.NumberBy numbered.Db from byte) e = refl
opens None (resolved.NumberBy numbered.Di from byte) e = refl
opens None (resolved.OpenBlock di number) e = refl
opens None resolved.Composite e = refl
opens None resolved.Date e = refl
opens None resolved.Constant e = refl
opens None resolved.Block e = refl
opens (Some value) resolved.Constant e = absurd (some_is_not_none e)
opens (Some value) _ e = refl
opens None _ e = absurd (some_is_not_none e)

or_seen : (k : Option Literal) (v : ResolvedOperand)
    → codegen.or_operation v ≡ on_named (codegen.or_operation v) (λ x. or_operation_for (as_open x)) (view_named k v)
or_seen None (resolved.Direct place width side declared) =
    sym (ap or_operation_for (place_open place.area place.number width place.byte place.bit))
or_seen None (resolved.NumberBy numbered.Timer from byte) = refl
or_seen None (resolved.NumberBy numbered.Counter from byte) = refl
or_seen None (resolved.NumberBy numbered.Db from byte) = refl
or_seen None (resolved.NumberBy numbered.Di from byte) = refl
or_seen None (resolved.Register register.Stw) = refl
or_seen None (resolved.Register register.Dblg) = refl
or_seen None (resolved.Register register.Dbno) = refl
or_seen None (resolved.Register register.Dilg) = refl
or_seen None (resolved.Register register.Dino) = refl
or_seen None (resolved.Register register.Ar2) = refl
or_seen (Some value) resolved.Constant = refl
or_seen _ _ = refl

pub or_named : (k : Option Literal) (v : ResolvedOperand) (x : NamedItem) → view_named k v ≡ Some x
    → codegen.or_operation v ≡ or_operation_for (as_open x)
or_named k v x e =
    or_seen k v ∙ ap (on_named (codegen.or_operation v) (λ x. or_operation_for (as_open x))) e

load_seen : (k : Option Literal) (v : ResolvedOperand)
    → codegen.load_operation v ≡ on_named (codegen.load_operation v) (λ x. load_operation_for (as_open x)) (view_named k v)
load_seen None (resolved.Direct place width side declared) =
    sym (ap load_operation_for (place_open place.area place.number width place.byte place.bit))
load_seen None (resolved.NumberBy numbered.Timer from byte) = refl
load_seen None (resolved.NumberBy numbered.Counter from byte) = refl
load_seen None (resolved.NumberBy numbered.Db from byte) = refl
load_seen None (resolved.NumberBy numbered.Di from byte) = refl
load_seen None (resolved.Register register.Stw) = refl
load_seen None (resolved.Register register.Dblg) = refl
load_seen None (resolved.Register register.Dbno) = refl
load_seen None (resolved.Register register.Dilg) = refl
load_seen None (resolved.Register register.Dino) = refl
load_seen None (resolved.Register register.Ar2) = refl
load_seen (Some value) resolved.Constant = refl
load_seen _ _ = refl

pub load_named : (k : Option Literal) (v : ResolvedOperand) (x : NamedItem) → view_named k v ≡ Some x
    → codegen.load_operation v ≡ load_operation_for (as_open x)
load_named k v x e =
    load_seen k v ∙ ap (on_named (codegen.load_operation v) (λ x. load_operation_for (as_open x))) e

transfer_seen : (k : Option Literal) (v : ResolvedOperand)
    → codegen.transfer_operation v ≡ on_named (codegen.transfer_operation v) (λ x. transfer_operation_for (as_open x)) (view_named k v)
transfer_seen None (resolved.Direct place width side declared) =
    sym (ap transfer_operation_for (place_open place.area place.number width place.byte place.bit))
transfer_seen None (resolved.NumberBy numbered.Timer from byte) = refl
transfer_seen None (resolved.NumberBy numbered.Counter from byte) = refl
transfer_seen None (resolved.NumberBy numbered.Db from byte) = refl
transfer_seen None (resolved.NumberBy numbered.Di from byte) = refl
transfer_seen None (resolved.Register register.Stw) = refl
transfer_seen None (resolved.Register register.Dblg) = refl
transfer_seen None (resolved.Register register.Dbno) = refl
transfer_seen None (resolved.Register register.Dilg) = refl
transfer_seen None (resolved.Register register.Dino) = refl
transfer_seen None (resolved.Register register.Ar2) = refl
transfer_seen (Some value) resolved.Constant = refl
transfer_seen _ _ = refl

pub transfer_named : (k : Option Literal) (v : ResolvedOperand) (x : NamedItem) → view_named k v ≡ Some x
    → codegen.transfer_operation v ≡ transfer_operation_for (as_open x)
transfer_named k v x e =
    transfer_seen k v ∙ ap (on_named (codegen.transfer_operation v) (λ x. transfer_operation_for (as_open x))) e

load_address_seen : (k : Option Literal) (v : ResolvedOperand)
    → codegen.load_pointer_operation v ≡ on_named (codegen.load_pointer_operation v) (λ x. load_address_operation (as_open x)) (view_named k v)
load_address_seen None (resolved.Direct place width side declared) =
    sym (ap load_address_operation (place_open place.area place.number width place.byte place.bit))
load_address_seen None (resolved.NumberBy numbered.Timer from byte) = refl
load_address_seen None (resolved.NumberBy numbered.Counter from byte) = refl
load_address_seen None (resolved.NumberBy numbered.Db from byte) = refl
load_address_seen None (resolved.NumberBy numbered.Di from byte) = refl
load_address_seen None (resolved.Register register.Stw) = refl
load_address_seen None (resolved.Register register.Dblg) = refl
load_address_seen None (resolved.Register register.Dbno) = refl
load_address_seen None (resolved.Register register.Dilg) = refl
load_address_seen None (resolved.Register register.Dino) = refl
load_address_seen None (resolved.Register register.Ar2) = refl
load_address_seen (Some value) resolved.Constant = refl
load_address_seen _ _ = refl

pub load_address_named : (k : Option Literal) (v : ResolvedOperand) (x : NamedItem) → view_named k v ≡ Some x
    → codegen.load_pointer_operation v ≡ load_address_operation (as_open x)
load_address_named k v x e =
    load_address_seen k v ∙ ap (on_named (codegen.load_pointer_operation v) (λ x. load_address_operation (as_open x))) e

store_address_seen : (k : Option Literal) (v : ResolvedOperand)
    → codegen.store_pointer_operation v ≡ on_named (codegen.store_pointer_operation v) (λ x. store_address_operation (as_open x)) (view_named k v)
store_address_seen None (resolved.Direct place width side declared) =
    sym (ap store_address_operation (place_open place.area place.number width place.byte place.bit))
store_address_seen None (resolved.NumberBy numbered.Timer from byte) = refl
store_address_seen None (resolved.NumberBy numbered.Counter from byte) = refl
store_address_seen None (resolved.NumberBy numbered.Db from byte) = refl
store_address_seen None (resolved.NumberBy numbered.Di from byte) = refl
store_address_seen None (resolved.Register register.Stw) = refl
store_address_seen None (resolved.Register register.Dblg) = refl
store_address_seen None (resolved.Register register.Dbno) = refl
store_address_seen None (resolved.Register register.Dilg) = refl
store_address_seen None (resolved.Register register.Dino) = refl
store_address_seen None (resolved.Register register.Ar2) = refl
store_address_seen (Some value) resolved.Constant = refl
store_address_seen _ _ = refl

pub store_address_named : (k : Option Literal) (v : ResolvedOperand) (x : NamedItem) → view_named k v ≡ Some x
    → codegen.store_pointer_operation v ≡ store_address_operation (as_open x)
store_address_named k v x e =
    store_address_seen k v ∙ ap (on_named (codegen.store_pointer_operation v) (λ x. store_address_operation (as_open x))) e

plain_add : (v : ResolvedOperand)
    → operation.Add add_constant.Word
    ≡ on_named (operation.Add add_constant.Word) (λ x. add_operation_for (as_open x)) (view_named None v)
plain_add (resolved.Direct place width side declared) =
    sym (ap add_operation_for (place_open place.area place.number width place.byte place.bit))
plain_add (resolved.NumberBy numbered.Timer from byte) = refl
plain_add (resolved.NumberBy numbered.Counter from byte) = refl
plain_add (resolved.NumberBy numbered.Db from byte) = refl
plain_add (resolved.NumberBy numbered.Di from byte) = refl
plain_add (resolved.Register register.Stw) = refl
plain_add (resolved.Register register.Dblg) = refl
plain_add (resolved.Register register.Dbno) = refl
plain_add (resolved.Register register.Dilg) = refl
plain_add (resolved.Register register.Dino) = refl
plain_add (resolved.Register register.Ar2) = refl
plain_add _ = refl

add_seen : (o : Operand) (v : ResolvedOperand)
    → codegen.add_operation o
    ≡ on_named (codegen.add_operation o) (λ x. add_operation_for (as_open x)) (view_named (about o) v)
add_seen (operand.Constant (literal.Long value)) resolved.Constant = refl
add_seen (operand.Constant (literal.Long value)) _ = refl
add_seen (operand.Constant _) resolved.Constant = refl
add_seen (operand.Constant _) _ = refl
add_seen _ v = plain_add v

pub add_named : (o : Operand) (v : ResolvedOperand) (x : NamedItem) → view_named (about o) v ≡ Some x
    → codegen.add_operation o ≡ add_operation_for (as_open x)
add_named o v x e =
    add_seen o v ∙ ap (on_named (codegen.add_operation o) (λ x. add_operation_for (as_open x))) e

-- all but a place in a data block that is to be opened can be loaded
pub loads_all : (x : NamedItem) → is_loaded (as_open x) ≡ true
loads_all (named.PlaceIn n w byte bit) = refl
loads_all _ = refl
