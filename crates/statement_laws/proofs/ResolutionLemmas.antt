-- What an operand resolves to is what it names, and its operand in the code is that for what is
-- named.
use Rattle.std.proofs.Common.{ℕ, suc, ◌≡◌, ◌+◌, ◌*◌, nat_eq, Bool, true, false, ◌&&◌, not, ℤ, pos, negsuc, List, [], ◌∷◌, map, Option, Some, None, is_none, if◌then◌else◌, refl, sym, ◌∙◌, ap}
use Rattle.std.specs.Option.{option_map, option_and_then}
use Rattle.std.proofs.Common.{eqb-true}
use Rattle.std.proofs.lemmas.Option.{same_Some}
use Rattle.plc_base.specs.Kinds.{is_data_block, is_same_kind}
use Rattle.plc_base.specs.S5Time.{s5time_of_ms}
use Rattle.plc_base.specs.declared.blocks.BlockId.{BlockId}
use Rattle.plc_base.specs.declared.places.Area.{Area}
use Rattle.plc_base.specs.declared.places.Area.TheVariants as area
use Rattle.plc_base.specs.declared.places.Width.{Width}
use Rattle.flat_code.specs.declared.operands.Operand.TheVariants as flat
use Rattle.stl_ast.specs.declared.literals.Literal.{Literal}
use Rattle.stl_ast.specs.declared.literals.Literal.TheVariants as literal
use Rattle.stl_ast.specs.declared.names.BlockName.{BlockName}
use Rattle.stl_ast.specs.declared.names.BlockName.TheVariants as block
use Rattle.stl_ast.specs.declared.operands.Letters.{Letters}
use Rattle.stl_ast.specs.declared.operands.Letters.TheVariants as letters
use Rattle.stl_ast.specs.declared.operands.Numbered.{Numbered}
use Rattle.stl_ast.specs.declared.operands.Numbered.TheVariants as numbered
use Rattle.stl_ast.specs.declared.operands.Operand.{Operand}
use Rattle.stl_ast.specs.declared.operands.Operand.TheVariants as operand
use Rattle.stl_ast.specs.declared.statements.Statement.{Statement}
use Rattle.stl_symbols.specs.Symbol.{Symbol}
use Rattle.stl_symbols.specs.declared.targets.Target.{Target}
use Rattle.stl_symbols.specs.declared.targets.Target.TheVariants as target
use Rattle.block_layout.specs.Blocks.{block_of_symbol_target, place_of_block, is_block_number, is_id, known_block, named_block, of_kind}
use Rattle.block_layout.specs.Paths.{whole_at}
use Rattle.block_layout.specs.declared.blocks.BlockLayout.{BlockLayout}
use Rattle.block_layout.specs.Fits.{bits_of, number_from, number_or_zero as number_or_0, twos_complement_bits}
use Rattle.block_layout.specs.Offsets.{width_of}
use Rattle.stl_types.specs.Addresses.{resolved_address, address_in_block, area_of_pointer, area_for_letters}
use Rattle.stl_types.specs.Constants.{takes_constant}
use Rattle.stl_types.specs.Context.{Context, data_number, number_of_block}
use Rattle.stl_types.specs.OperandRules.{operand_rule_of}
use Rattle.stl_types.specs.Operands.{rule_of_operand, rule_of_resolved_operand, rule_of_resolution, statement_rule}
use Rattle.stl_types.specs.Resolution.{resolution_of_opened_block, resolution_of, resolution_of_symbol, resolved_target}
use Rattle.stl_types.specs.ResolvedStatement.{resolved_operand, operand_if_resolved}
use Rattle.stl_types.specs.declared.operand_rules.OperandRule.{OperandRule}
use Rattle.stl_types.specs.declared.resolved_operands.Register.{Register}
use Rattle.stl_types.specs.declared.resolved_operands.Register.TheVariants as register
use Rattle.stl_types.specs.declared.resolved_operands.Resolution.{Resolution}
use Rattle.stl_types.specs.declared.resolved_operands.Resolution.TheVariants.{Resolved, Unknown, Unjudged}
use Rattle.stl_types.specs.declared.resolved_operands.Side.TheVariants as side
use Rattle.stl_types.specs.declared.resolved_operands.ResolvedOperand.{ResolvedOperand}
use Rattle.stl_types.specs.declared.resolved_operands.ResolvedOperand.TheVariants as resolved
use Rattle.stl_codegen.specs.Operands as codegen
use Rattle.statement_laws.specs.NamedOperands.{NamedItem, ItemNumber, OpenBlockFact, OperandPlace}
use Rattle.statement_laws.specs.NamedOperands as named
use Rattle.statement_laws.specs.Operands.{number_of_block_name, named_fixed_place, item_named_by, numbered_item, named_place, place_by, place_in_db, pointer_constant_bits, register_named, symbol_target, target_named}
use Rattle.statement_laws.specs.Operands as own
use Rattle.statement_laws.specs.Reading.{bits_of_literal, number_behind, twos_complement, s5time_bits_or_zero}
use Rattle.statement_laws.proofs.FlatLemmas.{flat_of}

-- ---- what a resolved operand names

-- the constant that an operand is
abbrev pub about : Operand → Option Literal
about (operand.Constant value) = Some value
about _ = None

abbrev pub fact_of : Register → NamedItem
fact_of register.Stw = named.StatusWord
fact_of register.Dblg = named.Opened named.DbLength
fact_of register.Dbno = named.Opened named.DbNumber
fact_of register.Dilg = named.Opened named.DiLength
fact_of register.Dino = named.Opened named.DiNumber
fact_of register.Ar2 = named.SecondRegister

abbrev pub view_named : Option Literal → ResolvedOperand → Option NamedItem
view_named (Some value) resolved.Constant = Some (named.Constant value)
view_named (Some value) _ = None
view_named None resolved.Nothing = Some named.Nothing
view_named None (resolved.Direct place width side declared) = Some (named_place place width)
view_named None (resolved.Parameter index section declared) =
    Some (named.Parameter index (width_of declared))
view_named None (resolved.ByMemory a width from byte) =
    Some (named.Place (named.ByMemory a width from byte))
view_named None (resolved.ByRegister a width r count) =
    Some (named.Place (named.ByRegister a width r count))
view_named None (resolved.Timer number) = Some (named.Timer (named.Written number))
view_named None (resolved.Counter number) = Some (named.Counter (named.Written number))
view_named None (resolved.NumberBy what from byte) = Some (numbered_item what (named.InWord from byte))
view_named None (resolved.Pointer a byte bit) = Some (named.Pointer (codegen.pointer_bits a byte bit))
view_named None resolved.Label = Some named.Label
view_named None (resolved.OfStatus flag) = Some (named.Condition flag)
view_named None (resolved.Register which) = Some (fact_of which)
view_named None (resolved.OpenBlock di number) = Some (named.DataBlock di (named.Written number))
view_named None (resolved.Called id instance) = Some (named.Called id instance)
view_named None _ = None

-- ---- its operand in the code

twos_same : (w : ℕ) (z : ℤ) → twos_complement_bits w z ≡ twos_complement w z
twos_same w (pos n) = refl
twos_same w (negsuc n) = refl

bytes_same : (n : ℕ) (bytes : List ℕ) → number_from n bytes ≡ number_behind n bytes
bytes_same n [] = refl
bytes_same n (b ∷ bs) = bytes_same (256 * n + b) bs

none_same : (o : Option ℕ) → number_or_0 o ≡ s5time_bits_or_zero o
none_same None = refl
none_same (Some n) = refl

pub bits_same : (value : Literal) → bits_of value ≡ bits_of_literal value
unfolding bits_of bits_of_literal
bits_same (literal.Truth value) = refl
bits_same (literal.Number value) = twos_same 16 value
bits_same (literal.Binary value) = refl
bits_same (literal.Byte value) = refl
bits_same (literal.Word value) = refl
bits_same (literal.Dword value) = refl
bits_same (literal.Long value) = twos_same 32 value
bits_same (literal.Count value) = refl
bits_same (literal.Time ms) = twos_same 32 ms
bits_same (literal.S5time ms) = none_same (s5time_of_ms ms)
bits_same (literal.Characters bytes) = bytes_same 0 bytes
bits_same (literal.Bytes bytes) = bytes_same 0 bytes

-- a place in DB, by whether it has a number
db_flat : (b : Bool) (n : ℕ) (w : Width) (byte bit : ℕ)
    → flat_of (if b then named_fixed_place area.Db w byte bit else named.PlaceIn n w byte bit)
    ≡ flat.Direct area.Db w byte bit
db_flat true n w byte bit = refl
db_flat false n w byte bit = refl

place_flat : (a : Area) (n : ℕ) (w : Width) (byte bit : ℕ)
    → flat_of (place_by a n w byte bit) ≡ flat.Direct a w byte bit
place_flat area.Db n w byte bit = db_flat (nat_eq n 0) n w byte bit
place_flat area.I n w byte bit = refl
place_flat area.Q n w byte bit = refl
place_flat area.M n w byte bit = refl
place_flat area.P n w byte bit = refl
place_flat area.Di n w byte bit = refl
place_flat area.L n w byte bit = refl

-- the data block that a statement opens first
abbrev pub opens_first : NamedItem → Option ℕ
opens_first (named.PlaceIn n w byte bit) = Some n
opens_first _ = None

db_opens : (b : Bool) (n : ℕ) (w : Width) (byte bit : ℕ)
    → opens_first (if b then named_fixed_place area.Db w byte bit else named.PlaceIn n w byte bit)
    ≡ (if not b then Some n else None)
db_opens true n w byte bit = refl
db_opens false n w byte bit = refl

place_opens : (a : Area) (n : ℕ) (w : Width) (byte bit : ℕ)
    → opens_first (place_by a n w byte bit)
    ≡ codegen.block_opened_by_place (record { area = a; number = n; byte = byte; bit = bit })
place_opens area.Db n w byte bit = db_opens (nat_eq n 0) n w byte bit
place_opens area.I n w byte bit = refl
place_opens area.Q n w byte bit = refl
place_opens area.M n w byte bit = refl
place_opens area.P n w byte bit = refl
place_opens area.Di n w byte bit = refl
place_opens area.L n w byte bit = refl

-- what is said of what is named, where something is
abbrev pub on_named : {A : Type 0} → A → (NamedItem → A) → Option NamedItem → A
on_named other f None = other
on_named other f (Some x) = f x

plain_flat : (o : Operand) (v : ResolvedOperand)
    → codegen.flat_operand_of o v ≡ on_named (codegen.flat_operand_of o v) flat_of (view_named None v)
unfolding codegen.flat_operand_of
plain_flat o (resolved.Direct place width side declared) =
    sym (place_flat place.area place.number width place.byte place.bit)
plain_flat o (resolved.NumberBy numbered.Timer from byte) = refl
plain_flat o (resolved.NumberBy numbered.Counter from byte) = refl
plain_flat o (resolved.NumberBy numbered.Db from byte) = refl
plain_flat o (resolved.NumberBy numbered.Di from byte) = refl
plain_flat o (resolved.Register register.Stw) = refl
plain_flat o (resolved.Register register.Dblg) = refl
plain_flat o (resolved.Register register.Dbno) = refl
plain_flat o (resolved.Register register.Dilg) = refl
plain_flat o (resolved.Register register.Dino) = refl
plain_flat o (resolved.Register register.Ar2) = refl
plain_flat o _ = refl

constant_flat : (value : Literal) (v : ResolvedOperand)
    → codegen.flat_operand_of (operand.Constant value) v
    ≡ on_named (codegen.flat_operand_of (operand.Constant value) v) flat_of (view_named (Some value) v)
unfolding codegen.flat_operand_of
constant_flat value resolved.Constant = ap flat.Literal (bits_same value)
constant_flat value _ = refl

flat_same : (o : Operand) (v : ResolvedOperand)
    → codegen.flat_operand_of o v ≡ on_named (codegen.flat_operand_of o v) flat_of (view_named (about o) v)
flat_same (operand.Constant value) v = constant_flat value v
flat_same o v = plain_flat o v

pub operand_flat : (o : Operand) (v : ResolvedOperand) (x : NamedItem) → view_named (about o) v ≡ Some x
    → codegen.flat_operand_of o v ≡ flat_of x
operand_flat o v x e = flat_same o v ∙ ap (on_named (codegen.flat_operand_of o v) flat_of) e

opens_same : (k : Option Literal) (v : ResolvedOperand)
    → codegen.block_opened_by_operand v ≡ on_named (codegen.block_opened_by_operand v) opens_first (view_named k v)
opens_same None (resolved.Direct place width side declared) =
    sym (place_opens place.area place.number width place.byte place.bit)
opens_same None (resolved.NumberBy numbered.Timer from byte) = refl
opens_same None (resolved.NumberBy numbered.Counter from byte) = refl
opens_same None (resolved.NumberBy numbered.Db from byte) = refl
opens_same None (resolved.NumberBy numbered.Di from byte) = refl
opens_same None (resolved.Register register.Stw) = refl
opens_same None (resolved.Register register.Dblg) = refl
opens_same None (resolved.Register register.Dbno) = refl
opens_same None (resolved.Register register.Dilg) = refl
opens_same None (resolved.Register register.Dino) = refl
opens_same None (resolved.Register register.Ar2) = refl
opens_same (Some value) resolved.Constant = refl
opens_same _ _ = refl

pub opened_first : (k : Option Literal) (v : ResolvedOperand) (x : NamedItem) → view_named k v ≡ Some x
    → codegen.block_opened_by_operand v ≡ opens_first x
opened_first k v x e = opens_same k v ∙ ap (on_named (codegen.block_opened_by_operand v) opens_first) e

-- ---- what the rules leave

-- the rule that a resolved operand breaks with a form, where the operand is this constant or none
abbrev pub rule_with_constant : OperandRule → Option Literal → ResolvedOperand → Option ℕ
rule_with_constant f (Some value) v = if takes_constant f value then None else Some 25
rule_with_constant f None v = rule_of_resolved_operand f v

rule_same : (c : Context) (f : OperandRule) (o : Operand) (v : ResolvedOperand)
    → resolution_of c o ≡ Resolved v → rule_of_operand c f o ≡ rule_with_constant f (about o) v
rule_same c f (operand.Constant value) v e = refl
rule_same c f o v e = ap (rule_of_resolution f) e

resolution_same : (r : Option ℕ) (n : Resolution) (v : ResolvedOperand)
    → (if is_none r then operand_if_resolved n else None) ≡ Some v → (r ≡ None) × (n ≡ Resolved v)
resolution_same None (Resolved w) v e = (refl, ap Resolved (some_same e))
  where
    some_same : Some w ≡ Some v → w ≡ v
    some_same h = cc
resolution_same None Unknown v e = absurd cc
resolution_same None Unjudged v e = absurd cc
resolution_same (Some rule) n v e = absurd cc

pub resolved_parts : (c : Context) (s : Statement) (v : ResolvedOperand) → resolved_operand c s ≡ Some v
    → (rule_with_constant (operand_rule_of s.code) (about s.operand) v ≡ None) × (resolution_of c s.operand ≡ Resolved v)
unfolding resolved_operand
resolved_parts c s v e =
    let parts = resolution_same (statement_rule c s) (resolution_of c s.operand) v e in
    (sym (rule_same c (operand_rule_of s.code) s.operand v parts.1) ∙ parts.0, parts.1)

-- ---- operands

-- one resolution
pub resolved_same : (v w : ResolvedOperand) → Resolved v ≡ Resolved w → v ≡ w
resolved_same v w e = cc

-- a resolved operand that is known, and what it names
pub carry : (k : Option Literal) (known v : ResolvedOperand) (there x : NamedItem)
    → view_named k known ≡ Some there → Resolved known ≡ Resolved v → Some there ≡ Some x
    → view_named k v ≡ Some x
carry k known v there x h e n = ap (view_named k) (sym (resolved_same known v e)) ∙ h ∙ n

pub letters_same : (a : Letters) → area_for_letters a ≡ own.area_by_letters a
letters_same letters.I = refl
letters_same letters.Q = refl
letters_same letters.M = refl
letters_same letters.Db = refl
letters_same letters.Di = refl
letters_same letters.L = refl
letters_same letters.Pi = refl
letters_same letters.Pq = refl

pub left_same : (a : Option Letters) → area_of_pointer a ≡ option_map own.area_by_letters a
left_same None = refl
left_same (Some a) = ap Some (letters_same a)

pub direct_named : (a : Letters) (w : Width) (byte bit : ℕ)
    → view_named None (resolved_address 0 a w byte bit) ≡ Some (named_fixed_place (own.area_by_letters a) w byte bit)
direct_named letters.I w byte bit = refl
direct_named letters.Q w byte bit = refl
direct_named letters.M w byte bit = refl
direct_named letters.Db w byte bit = refl
direct_named letters.Di w byte bit = refl
direct_named letters.L w byte bit = refl
direct_named letters.Pi w byte bit = refl
direct_named letters.Pq w byte bit = refl

pub pointer_same : (a : Option Letters) (byte bit : ℕ)
    → codegen.pointer_bits (area_of_pointer a) byte bit ≡ pointer_constant_bits a byte bit
pointer_same None byte bit = refl
pointer_same (Some letters.I) byte bit = refl
pointer_same (Some letters.Q) byte bit = refl
pointer_same (Some letters.M) byte bit = refl
pointer_same (Some letters.Db) byte bit = refl
pointer_same (Some letters.Di) byte bit = refl
pointer_same (Some letters.L) byte bit = refl
pointer_same (Some letters.Pi) byte bit = refl
pointer_same (Some letters.Pq) byte bit = refl

-- ---- data blocks by their numbers

-- the number of the block at a place, where it breaks no rule itself
abbrev number_of_whole_block : List BlockLayout → Option ℕ → Option ℕ
number_of_whole_block ls place =
    option_and_then (λ b. number_of_block b.id) (option_and_then (whole_at ls) place)

number_behind_first : (l : BlockLayout) (ls : List BlockLayout) (place : Option ℕ)
    → number_of_whole_block (l ∷ ls) (option_map (λ k. suc k) place) ≡ number_of_whole_block ls place
number_behind_first l ls None = refl
number_behind_first l ls (Some k) = refl

same_number : (id : BlockId) (o : Option BlockId) (n : ℕ) → is_id id o ≡ true
    → number_of_block o ≡ Some n → id.number ≡ n
same_number id None n is e = absurd cc
same_number id (Some other) n is e =
    by (is_same_kind id.kind other.kind) is ∙ same_Some other.number n e
  where
    by : (b : Bool) → (b && nat_eq id.number other.number) ≡ true → id.number ≡ other.number
    by true h = eqb-true id.number other.number h
    by false h = absurd cc

placed_number : (id : BlockId) (ls : List BlockLayout) (n : ℕ)
    → number_of_whole_block ls (place_of_block id (map (λ b. b.id) ls)) ≡ Some n → id.number ≡ n
placed_number id [] n e = absurd cc
placed_number id (l ∷ ls) n e = by (is_id id l.id) refl e (placed_number id ls n)
  where
    here : (broken : Bool)
        → option_and_then (λ (b : BlockLayout). number_of_block b.id)
        (if broken then None else Some l) ≡ Some n
        → number_of_block l.id ≡ Some n
    here true h = absurd cc
    here false h = h

    by : (first : Bool) → is_id id l.id ≡ first
        → number_of_whole_block (l ∷ ls) (if first then Some 0
        else option_map (λ k. suc k) (place_of_block id (map (λ (b : BlockLayout). b.id) ls))) ≡ Some n
        → (number_of_whole_block ls (place_of_block id (map (λ (b : BlockLayout). b.id) ls)) ≡ Some n
        → id.number ≡ n)
        → id.number ≡ n
    by true is h more = same_number id l.id n is (here l.broken h)
    by false is h more =
        more
        (sym (number_behind_first l ls (place_of_block id (map (λ (b : BlockLayout). b.id) ls))) ∙ h)

known_number : (id : BlockId) (ls : List BlockLayout) (n : ℕ)
    → number_of_whole_block ls (known_block id (map (λ b. b.id) ls)) ≡ Some n → id.number ≡ n
known_number id ls n e = by (is_block_number id.kind id.number) e
  where
    by : (right : Bool)
        → number_of_whole_block ls (if right then place_of_block id (map (λ (b : BlockLayout). b.id) ls) else None)
        ≡ Some n
        → id.number ≡ n
    by true h = placed_number id ls n h
    by false h = absurd cc

meant_number : (ls : List BlockLayout) (o : Option BlockId) (n : ℕ)
    → number_of_whole_block ls (option_and_then (λ id. known_block id (map (λ b. b.id) ls))
    (of_kind is_data_block o)) ≡ Some n
    → option_map (λ id. id.number) o ≡ Some n
meant_number ls None n e = absurd cc
meant_number ls (Some id) n e = by (is_data_block id.kind) e
  where
    by : (right : Bool)
        → number_of_whole_block ls (option_and_then (λ id. known_block id (map (λ (b : BlockLayout). b.id) ls))
        (if right then Some id else None)) ≡ Some n
        → Some id.number ≡ Some n
    by true h = ap Some (known_number id ls n h)
    by false h = absurd cc

target_block : (o : Option Target)
    → block_of_symbol_target o ≡ option_and_then own.block_of_target o
target_block None = refl
target_block (Some (target.Block id)) = refl
target_block (Some _) = refl

pub block_same : (c : Context) (name : BlockName) → named_block c.symbols name ≡ own.block_id_of_name c name
block_same c (block.Number id) = refl
block_same c (block.Quoted name) = target_block (symbol_target c name)

pub number_known : (c : Context) (name : BlockName) (n : ℕ) → data_number c name ≡ Some n
    → number_of_block_name c name ≡ Some n
number_known c name n e =
    ap (option_map (λ (id : BlockId). id.number)) (sym (block_same c name))
    ∙ meant_number c.layouts (named_block c.symbols name) n e

-- ---- what an operand names

in_block_named : (a : Letters) (n : ℕ) (w : Width) (byte bit : ℕ)
    → view_named None (resolved_address n a w byte bit) ≡ Some (place_by (own.area_by_letters a) n w byte bit)
in_block_named letters.I n w byte bit = refl
in_block_named letters.Q n w byte bit = refl
in_block_named letters.M n w byte bit = refl
in_block_named letters.Db n w byte bit = refl
in_block_named letters.Di n w byte bit = refl
in_block_named letters.L n w byte bit = refl
in_block_named letters.Pi n w byte bit = refl
in_block_named letters.Pq n w byte bit = refl

pub number_in_same : (what : Numbered) (from : Letters) (byte : ℕ)
    → numbered_item what (named.InWord (area_for_letters from) byte)
    ≡ numbered_item what (named.InWord (own.area_by_letters from) byte)
number_in_same what from byte = ap (λ a. numbered_item what (named.InWord a byte)) (letters_same from)

-- a word that is one of the registers
pub register_same : (stw dblg dbno dilg dino ar2 : Bool) (x : NamedItem)
    → (if stw then Some named.StatusWord
    else if dblg then Some (named.Opened named.DbLength)
    else if dbno then Some (named.Opened named.DbNumber)
    else if dilg then Some (named.Opened named.DiLength)
    else if dino then Some (named.Opened named.DiNumber)
    else if ar2 then Some named.SecondRegister
    else None) ≡ Some x
    → Some (fact_of (if stw then register.Stw
    else if dblg then register.Dblg
    else if dbno then register.Dbno
    else if dilg then register.Dilg
    else if dino then register.Dino
    else register.Ar2)) ≡ Some x
register_same true dblg dbno dilg dino ar2 x e = e
register_same false true dbno dilg dino ar2 x e = e
register_same false false true dilg dino ar2 x e = e
register_same false false false true dino ar2 x e = e
register_same false false false false true ar2 x e = e
register_same false false false false false true x e = e
register_same false false false false false false x e = absurd cc

target_same : (t : Target) (v : ResolvedOperand) (x : NamedItem)
    → Resolved (resolved_target t) ≡ Resolved v → target_named t ≡ Some x → view_named None v ≡ Some x
target_same (target.Variable place width) v x e n =
    carry None (resolved.Direct place width side.Both None) v (named_place place width) x refl e n
target_same (target.Timer number) v x e n =
    carry None (resolved.Timer number) v (named.Timer (named.Written number)) x refl e n
target_same (target.Counter number) v x e n =
    carry None (resolved.Counter number) v (named.Counter (named.Written number)) x refl e n
target_same (target.Block id) v x e n = absurd cc

pub symbol_same : (o : Option Symbol) (v : ResolvedOperand) (x : NamedItem)
    → resolution_of_symbol o ≡ Resolved v
    → option_and_then target_named (option_map (λ s. s.target) o) ≡ Some x
    → view_named None v ≡ Some x
symbol_same None v x e n = absurd cc
symbol_same (Some s) v x e n = target_same s.target v x e n

pub in_block_same : (c : Context) (name : BlockName) (a : Letters) (w : Width) (byte bit : ℕ)
    (v : ResolvedOperand) (x : NamedItem) (o : Option ℕ) → data_number c name ≡ o
    → address_in_block o a w byte bit ≡ Resolved v
    → option_map (λ number. place_by (own.area_by_letters a) number w byte bit) (number_of_block_name c name) ≡ Some x
    → view_named None v ≡ Some x
in_block_same c name a w byte bit v x None d e n = absurd cc
in_block_same c name a w byte bit v x (Some number) d e n =
    carry None (resolved_address number a w byte bit) v (place_by (own.area_by_letters a) number w byte bit) x
    (in_block_named a number w byte bit) e
    (ap (option_map (λ number. place_by (own.area_by_letters a) number w byte bit))
    (sym (number_known c name number d)) ∙ n)

pub opened_named : (c : Context) (di : Bool) (name : BlockName) (v : ResolvedOperand) (x : NamedItem)
    (o : Option ℕ) → data_number c name ≡ o → resolution_of_opened_block di o ≡ Resolved v
    → option_map (λ number. named.DataBlock di (named.Written number)) (number_of_block_name c name) ≡ Some x
    → view_named None v ≡ Some x
opened_named c di name v x None d e n = absurd cc
opened_named c di name v x (Some number) d e n =
    carry None (resolved.OpenBlock di number) v (named.DataBlock di (named.Written number)) x refl e
    (ap (option_map (λ number. named.DataBlock di (named.Written number)))
    (sym (number_known c name number d)) ∙ n)
