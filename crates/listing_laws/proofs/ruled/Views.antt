-- What an operand of a source names stands in the tree of its listing.
use Rattle.std.proofs.Common.{◌≡◌, ℕ, Bool, true, false, List, Option, Some, None, if◌then◌else◌, refl, sym, subst, ◌/◌}
use Rattle.std.specs.Prelude.{length, nat_eq, nat_le, not, slice_get, ◌&&◌}
use Rattle.plc_base.specs.Folding.{upper_case_name}
use Rattle.plc_base.specs.declared.blocks.BlockId.{BlockId}
use Rattle.plc_base.specs.declared.places.Area.{Area}
use Rattle.plc_base.specs.declared.places.Area.TheVariants as area
use Rattle.plc_base.specs.declared.places.Width.{Width}
use Rattle.stl_ast.specs.declared.blocks.PathStep.{PathStep}
use Rattle.stl_ast.specs.declared.declarations.Simple.{Simple}
use Rattle.stl_ast.specs.declared.names.BlockName.{BlockName}
use Rattle.stl_ast.specs.declared.literals.Literal.{Literal}
use Rattle.stl_ast.specs.declared.operands.Letters.{Letters}
use Rattle.stl_ast.specs.declared.operands.Operand.{Operand}
use Rattle.stl_ast.specs.declared.operands.Operand.TheVariants as operand
use Rattle.stl_ast.specs.declared.operands.PathHead.TheVariants as head
use Rattle.stl_symbols.specs.Symbol.{has_symbols, IsSymbolTarget, Symbol, symbol_named}
use Rattle.stl_symbols.specs.declared.targets.Target.{Target}
use Rattle.stl_symbols.specs.declared.targets.Target.TheVariants as target
use Rattle.block_layout.specs.Blocks.{named_block}
use Rattle.block_layout.specs.Offsets.{place_at, elementary_place, width_of}
use Rattle.block_layout.specs.Paths.{cells_at, elementary_at, folded_path, path_end_in_data_block, path_end_of_local}
use Rattle.block_layout.specs.declared.cells.Cell.{Cell}
use Rattle.block_layout.specs.declared.cells.Element.{Element}
use Rattle.block_layout.specs.declared.cells.Element.TheVariants as element
use Rattle.block_layout.specs.declared.path_ends.ComponentAt.{ComponentAt}
use Rattle.block_layout.specs.declared.path_ends.PathEnd.{PathEnd}
use Rattle.block_layout.specs.declared.path_ends.PathEnd.TheVariants as path_end
use Rattle.stl_types.specs.Addresses.{address_in_block, area_of_pointer, area_for_letters}
use Rattle.stl_types.specs.Context.{Context, data_number, data_place, in_function}
use Rattle.stl_types.specs.Resolution.{resolution_of_call, instance_number, resolution_of_opened_block, resolution_of, resolution_of_symbol, resolved_target, whole_called_block}
use Rattle.stl_types.specs.Variables.{composite_operand, data_at, data_path, data_at_path_end, date_or_composite, variable_in_area, is_temporary_variable, own_at, own_elementary, own_variable, own_at_path_end, parameter_resolution, parameter_at, parameter_index}
use Rattle.stl_types.specs.declared.parameters.Formal.{Formal}
use Rattle.stl_types.specs.declared.resolved_operands.Resolution.{Resolution}
use Rattle.stl_types.specs.declared.resolved_operands.Resolution.TheVariants.{Resolved}
use Rattle.stl_types.specs.declared.resolved_operands.ResolvedOperand.{ResolvedOperand}
use Rattle.stl_types.specs.declared.resolved_operands.ResolvedOperand.TheVariants as resolved
use Rattle.stl_codegen.specs.Operands.{is_db, block_opened_by_place}
use Rattle.listing_laws.specs.Instructions.{HasAgain, IsRightOperand}
use Rattle.listing_laws.specs.Operands.{IsConstantCoded, IsConstantResolved, IsOpenedAgain, IsPointer, StandsAgain}

-- what is known of what is named. Only a path into the block's own variables may name a parameter
abbrev IsSeen : (own : Bool) → Context → ResolvedOperand → Type 0
IsSeen own listed (resolved.Direct place width side declared) = IsOpenedAgain listed (block_opened_by_place place)
IsSeen own listed (resolved.Parameter index section declared) = own ≡ true
IsSeen own listed (resolved.OpenBlock di number) = IsOpenedAgain listed (Some number)
IsSeen own listed resolved.Constant = ⊥
IsSeen own listed (resolved.Pointer a byte bit) = ⊥
IsSeen own listed _ = Unit {0}

abbrev IfSeen : (own : Bool) → Context → Resolution → Type 0
IfSeen own listed (Resolved v) = IsSeen own listed v
IfSeen own listed _ = Unit {0}

abbrev number_if : Bool → ℕ → Option ℕ
number_if b n = if b then Some n else None

-- a place that no data block is named for
closed_place : (listed : Context) (b : Bool) (n : ℕ) → b ≡ false → IsOpenedAgain listed (number_if (b && not (nat_eq n 0)) n)
closed_place listed true n e = absurd cc
closed_place listed false n e = tt

none_place : (listed : Context) (b : Bool) → IsOpenedAgain listed (number_if (b && false) 0)
none_place listed true = tt
none_place listed false = tt

opened_place : (listed : Context) (b : Bool) (n : ℕ) → IsOpenedAgain listed (Some n) → IsOpenedAgain listed (number_if b n)
opened_place listed true n h = h
opened_place listed false n h = tt

-- ---- variables

area_seen : (own : Bool) (listed : Context) (a : Area) (n : ℕ) (bits : ℕ) (kind : Simple) → IsOpenedAgain listed (block_opened_by_place (place_at a n bits))
    → IfSeen own listed (variable_in_area kind (if nat_le (bits / 8) 65535 then Some (place_at a n bits, width_of kind) else None))
area_seen own listed a n bits kind h = by (nat_le (bits / 8) 65535)
  where
    by : (b : Bool) → IfSeen own listed (variable_in_area kind (if b then Some (place_at a n bits, width_of kind) else None))
    by true = h
    by false = tt

composite_seen : (own : Bool) (listed : Context) (c : Option Cell) → IsSeen own listed (composite_operand c)
composite_seen own listed None = tt
composite_seen own listed (Some c) = by c.of
  where
    by : (e : Element) → IsSeen own listed (date_or_composite e)
    by element.DateAndTime = tt
    by _ = tt

parameter_seen : (listed : Context) (index : ℕ) (kind : Simple) (c : Option Cell) → IfSeen true listed (parameter_resolution index kind c)
parameter_seen listed index kind None = tt
parameter_seen listed index kind (Some c) = refl

own_seen : (c listed : Context) (temporary : Bool) (component : ComponentAt) (kind : Simple) → IfSeen true listed (own_elementary c temporary component kind)
own_seen c listed true component kind = area_seen true listed area.L 0 component.offset kind tt
own_seen c listed false component kind = by (in_function c)
  where
    by : (b : Bool) → IfSeen true listed (if b then parameter_at c component kind else variable_in_area kind (elementary_place area.Di 0 component.offset (Some kind)))
    by true = parameter_seen listed (parameter_index (length (cells_at c.layouts c.block false)) component.place (slice_get c.blocks c.block)) kind (slice_get (cells_at c.layouts c.block false) component.place)
    by false = area_seen true listed area.Di 0 component.offset kind tt

own_component_seen : (c listed : Context) (temporary : Bool) (component : ComponentAt) (kind : Option Simple) → IfSeen true listed (own_at c temporary component kind)
own_component_seen c listed temporary component None = composite_seen true listed (slice_get (cells_at c.layouts component.block component.temporary) component.place)
own_component_seen c listed temporary component (Some kind) = own_seen c listed temporary component kind

own_walk_seen : (c listed : Context) (temporary : Bool) (end : PathEnd) → IfSeen true listed (own_at_path_end c temporary end)
own_walk_seen c listed temporary (path_end.Reaches component) = own_component_seen c listed temporary component (elementary_at c.layouts component)
own_walk_seen c listed temporary path_end.Unknown = tt
own_walk_seen c listed temporary path_end.Unjudged = tt

data_component_seen : (c listed : Context) (n : ℕ) (component : ComponentAt) (kind : Option Simple) → IsOpenedAgain listed (Some n) → IfSeen false listed (data_at c n component kind)
data_component_seen c listed n component None h = composite_seen false listed (slice_get (cells_at c.layouts component.block component.temporary) component.place)
data_component_seen c listed n component (Some kind) h = area_seen false listed area.Db n component.offset kind (opened_place listed (not (nat_eq n 0)) n h)

data_walk_seen : (c listed : Context) (n : ℕ) (end : PathEnd) → IsOpenedAgain listed (Some n) → IfSeen false listed (data_at_path_end c n end)
data_walk_seen c listed n (path_end.Reaches component) h = data_component_seen c listed n component (elementary_at c.layouts component) h
data_walk_seen c listed n path_end.Unknown h = tt
data_walk_seen c listed n path_end.Unjudged h = tt

data_path_seen : (c listed : Context) (steps : List PathStep) (number block : Option ℕ) → IsOpenedAgain listed number → IfSeen false listed (data_path c steps number block)
data_path_seen c listed steps (Some n) (Some block) h = data_walk_seen c listed n (path_end_in_data_block c.layouts block steps) h
data_path_seen c listed steps (Some n) None h = tt
data_path_seen c listed steps None block h = tt

-- ---- data blocks and symbols

number_stands : (c listed : Context) (formals : List Formal) → HasAgain c listed formals → (name : BlockName) → IsOpenedAgain listed (data_number c name)
number_stands c listed formals has name = by (data_number c name) refl
  where
    by : (o : Option ℕ) → data_number c name ≡ o → IsOpenedAgain listed o
    by None e = tt
    by (Some n) e = has.data_blocks name n e

no_data_block : (a : Area) → has_symbols a ≡ true → is_db a ≡ false
no_data_block area.Db h = absurd cc
no_data_block area.I h = refl
no_data_block area.Q h = refl
no_data_block area.M h = refl
no_data_block area.Di h = refl
no_data_block area.L h = refl
no_data_block area.P h = refl

target_seen : (listed : Context) (t : Target) → IsSymbolTarget t → IsSeen false listed (resolved_target t)
target_seen listed (target.Variable place width) h = closed_place listed (is_db place.area) place.number (no_data_block place.area h.area)
target_seen listed (target.Timer number) h = tt
target_seen listed (target.Counter number) h = tt
target_seen listed (target.Block id) h = tt

symbol_is_seen : (listed : Context) (symbols : List Symbol) (name : List ℕ) → ((s : Symbol) → symbol_named name symbols ≡ Some s → IsSymbolTarget s.target) → IfSeen false listed (resolution_of_symbol (symbol_named name symbols))
symbol_is_seen listed symbols name h = by (symbol_named name symbols) refl
  where
    by : (o : Option Symbol) → symbol_named name symbols ≡ o → IfSeen false listed (resolution_of_symbol o)
    by None e = tt
    by (Some s) e = target_seen listed s.target (h s e)

address_seen : (listed : Context) (number : Option ℕ) (a : Letters) (width : Width) (byte bit : ℕ) → IsOpenedAgain listed number → IfSeen false listed (address_in_block number a width byte bit)
address_seen listed None a width byte bit h = tt
address_seen listed (Some n) a width byte bit h = by (is_db (area_for_letters a)) (nat_eq n 0)
  where
    by : (d z : Bool) → IsOpenedAgain listed (number_if (d && not z) n)
    by true true = tt
    by true false = h
    by false z = tt

opened_is_seen : (listed : Context) (di : Bool) (number : Option ℕ) → IsOpenedAgain listed number → IfSeen false listed (resolution_of_opened_block di number)
opened_is_seen listed di None h = tt
opened_is_seen listed di (Some n) h = h

called_is_seen : (listed : Context) (id : Option BlockId) (named : Option BlockName) (instance : Option ℕ) → IfSeen false listed (resolution_of_call id named instance)
called_is_seen listed None named instance = tt
called_is_seen listed (Some id) None instance = tt
called_is_seen listed (Some id) (Some name) None = tt
called_is_seen listed (Some id) (Some name) (Some number) = tt

-- ---- operands

-- those that are no constants, no pointers and no paths into the block's own variables
abbrev IsNamed : Operand → Type 0
IsNamed (operand.Constant value) = ⊥
IsNamed (operand.Pointer a byte bit) = ⊥
IsNamed (operand.Named (head.Local name) steps) = ⊥
IsNamed _ = Unit {0}

named_seen : (c listed : Context) (formals : List Formal) (o : Operand) → HasAgain c listed formals → IsRightOperand c.symbols o → IsNamed o → IfSeen false listed (resolution_of c o)
unfolding resolution_of
named_seen c listed formals operand.Nothing has h n = tt
named_seen c listed formals (operand.Direct None a width byte bit) has h n = none_place listed (is_db (area_for_letters a))
named_seen c listed formals (operand.Direct (Some name) a width byte bit) has h n = address_seen listed (data_number c name) a width byte bit (number_stands c listed formals has name)
named_seen c listed formals (operand.Timer number) has h n = tt
named_seen c listed formals (operand.Counter number) has h n = tt
named_seen c listed formals (operand.Named (head.Local name) steps) has h n = absurd n
named_seen c listed formals (operand.Named (head.InBlock name) steps) has h n = data_path_seen c listed (folded_path steps) (data_number c name) (data_place c name) (number_stands c listed formals has name)
named_seen c listed formals (operand.Named (head.Symbol name) steps) has h n = symbol_is_seen listed c.symbols name (h.targets name)
named_seen c listed formals (operand.ByMemory a width from byte) has h n = tt
named_seen c listed formals (operand.NumberBy what from byte) has h n = tt
named_seen c listed formals (operand.ByRegister a width register bits) has h n = tt
named_seen c listed formals (operand.Pointer a byte bit) has h n = absurd n
named_seen c listed formals (operand.Constant value) has h n = absurd n
named_seen c listed formals (operand.Label name) has h n = tt
named_seen c listed formals (operand.OfStatus flag) has h n = tt
named_seen c listed formals (operand.Other name) has h n = tt
named_seen c listed formals (operand.OpenBlock di name) has h n = opened_is_seen listed di (data_number c name) (number_stands c listed formals has name)
named_seen c listed formals (operand.Called name instance) has h n = called_is_seen listed (whole_called_block c (named_block c.symbols name)) instance (instance_number c instance)

-- what is resolved is this
seen_is : (own : Bool) (listed : Context) (r : Resolution) (v : ResolvedOperand) → r ≡ Resolved v → IfSeen own listed r → IsSeen own listed v
seen_is own listed r v e h = subst (IfSeen own listed) e h

view_is : (x v : ResolvedOperand) → Resolved x ≡ Resolved v → x ≡ v
view_is x v e = cc

-- what stands there, and whether it is a constant
abbrev Both : Context → List Formal → Operand → ResolvedOperand → Type 0
Both listed formals o v = StandsAgain listed formals v × IsConstantResolved o v

abbrev IsPlain : Operand → Type 0
IsPlain (operand.Constant value) = ⊥
IsPlain _ = Unit {0}

other_by : (own : Bool) (listed : Context) (o : Operand) (v : ResolvedOperand) → IsPlain o → IsSeen own listed v → IsConstantResolved o v
other_by own listed (operand.Constant value) v n h = absurd n
other_by own listed _ resolved.Constant n h = h
other_by own listed _ _ n h = tt

named_stands : (listed : Context) (formals : List Formal) (v : ResolvedOperand) → IsSeen false listed v → StandsAgain listed formals v
named_stands listed formals (resolved.Direct place width side declared) h = h
named_stands listed formals (resolved.Parameter index section declared) h = absurd cc
named_stands listed formals (resolved.OpenBlock di number) h = h
named_stands listed formals (resolved.Pointer a byte bit) h = absurd h
named_stands listed formals _ h = tt

own_stands : (c listed : Context) (formals : List Formal) (name : List ℕ) (steps : List PathStep) (v : ResolvedOperand) → HasAgain c listed formals → own_variable c name steps ≡ Resolved v → IsSeen true listed v
    → StandsAgain listed formals v
own_stands c listed formals name steps (resolved.Direct place width side declared) has e h = h
own_stands c listed formals name steps (resolved.Parameter index section declared) has e h = has.parameter name steps index section declared e
own_stands c listed formals name steps (resolved.OpenBlock di number) has e h = h
own_stands c listed formals name steps (resolved.Pointer a byte bit) has e h = absurd h
own_stands c listed formals name steps _ has e h = tt

both_named : (c listed : Context) (formals : List Formal) (o : Operand) (v : ResolvedOperand) → HasAgain c listed formals → IsRightOperand c.symbols o → IsNamed o → IsPlain o → resolution_of c o ≡ Resolved v → Both listed formals o v
both_named c listed formals o v has h n plain e =
    let is : IsSeen false listed v = seen_is false listed (resolution_of c o) v e (named_seen c listed formals o has h n) in
    (named_stands listed formals v is, other_by false listed o v plain is)

both_own : (c listed : Context) (formals : List Formal) (name : List ℕ) (steps : List PathStep) (v : ResolvedOperand) → HasAgain c listed formals → resolution_of c (operand.Named (head.Local name) steps) ≡ Resolved v
    → Both listed formals (operand.Named (head.Local name) steps) v
unfolding resolution_of
both_own c listed formals name steps v has e =
    let is : IsSeen true listed v = seen_is true listed (own_variable c (upper_case_name name) (folded_path steps)) v e (own_walk_seen c listed (is_temporary_variable c (upper_case_name name)) (path_end_of_local c.layouts c.block (upper_case_name name) (folded_path steps))) in
    (own_stands c listed formals (upper_case_name name) (folded_path steps) v has e is, other_by true listed (operand.Named (head.Local name) steps) v tt is)

both_constant : (c listed : Context) (formals : List Formal) (value : Literal) (v : ResolvedOperand) → IsConstantCoded value → resolution_of c (operand.Constant value) ≡ Resolved v → Both listed formals (operand.Constant value) v
unfolding resolution_of
both_constant c listed formals value v h e =
    let is : resolved.Constant ≡ v = view_is resolved.Constant v e in
    (subst (StandsAgain listed formals) is tt, (sym is, h))

both_pointer : (c listed : Context) (formals : List Formal) (a : Option Letters) (byte bit : ℕ) (v : ResolvedOperand) → IsPointer (area_of_pointer a) byte bit → resolution_of c (operand.Pointer a byte bit) ≡ Resolved v
    → Both listed formals (operand.Pointer a byte bit) v
unfolding resolution_of
both_pointer c listed formals a byte bit v h e = subst (Both listed formals (operand.Pointer a byte bit)) (view_is (resolved.Pointer (area_of_pointer a) byte bit) v e) (h, tt)

pub stands : (c listed : Context) (formals : List Formal) (o : Operand) (v : ResolvedOperand) → HasAgain c listed formals → IsRightOperand c.symbols o → resolution_of c o ≡ Resolved v → Both listed formals o v
stands c listed formals (operand.Constant value) v has h e = both_constant c listed formals value v h.coded e
stands c listed formals (operand.Pointer a byte bit) v has h e =
    both_pointer c listed formals a byte bit v (record { no_peripherals = h.coded; low_byte = h.written.0; low_bit = h.written.1 }) e
stands c listed formals (operand.Named (head.Local name) steps) v has h e = both_own c listed formals name steps v has e
stands c listed formals (operand.Named (head.InBlock name) steps) v has h e = both_named c listed formals (operand.Named (head.InBlock name) steps) v has h tt tt e
stands c listed formals (operand.Named (head.Symbol name) steps) v has h e = both_named c listed formals (operand.Named (head.Symbol name) steps) v has h tt tt e
stands c listed formals operand.Nothing v has h e = both_named c listed formals operand.Nothing v has h tt tt e
stands c listed formals (operand.Direct name a width byte bit) v has h e = both_named c listed formals (operand.Direct name a width byte bit) v has h tt tt e
stands c listed formals (operand.Timer number) v has h e = both_named c listed formals (operand.Timer number) v has h tt tt e
stands c listed formals (operand.Counter number) v has h e = both_named c listed formals (operand.Counter number) v has h tt tt e
stands c listed formals (operand.ByMemory a width from byte) v has h e = both_named c listed formals (operand.ByMemory a width from byte) v has h tt tt e
stands c listed formals (operand.NumberBy what from byte) v has h e = both_named c listed formals (operand.NumberBy what from byte) v has h tt tt e
stands c listed formals (operand.ByRegister a width register bits) v has h e = both_named c listed formals (operand.ByRegister a width register bits) v has h tt tt e
stands c listed formals (operand.Label name) v has h e = both_named c listed formals (operand.Label name) v has h tt tt e
stands c listed formals (operand.OfStatus flag) v has h e = both_named c listed formals (operand.OfStatus flag) v has h tt tt e
stands c listed formals (operand.Other name) v has h e = both_named c listed formals (operand.Other name) v has h tt tt e
stands c listed formals (operand.OpenBlock di name) v has h e = both_named c listed formals (operand.OpenBlock di name) v has h tt tt e
stands c listed formals (operand.Called name instance) v has h e = both_named c listed formals (operand.Called name instance) v has h tt tt e
