-- The numbers of what operands name fit an op.
use Rattle.std.proofs.Common.{◌≡◌, ℕ, zero, suc, ◌<◌, ◌≤◌, Bool, true, false, ltb, List, [], ◌∷◌, length, Option, Some, refl, arith}
use Rattle.std.specs.Prelude.{IfSome, slice_get, find, if◌then◌else◌}
use Rattle.std.specs.List.{AllByRecursion}
use Rattle.std.proofs.lemmas.Bool.Decides.{nat_tests}
use Rattle.std.proofs.lemmas.Bool.{lt-ltb}
use Rattle.std.proofs.lemmas.Option.{slice_get_within}
use Rattle.plc_base.specs.declared.blocks.BlockId.{BlockId}
use Rattle.plc_base.specs.declared.places.Area.{Area}
use Rattle.plc_base.specs.declared.places.Area.TheVariants as area
use Rattle.plc_base.specs.declared.places.Place.{Place}
use Rattle.plc_base.specs.declared.places.Width.{Width}
use Rattle.flat_code.specs.Kinds.{ar1_number, ar2_number}
use Rattle.flat_code.specs.Forms.{direct_coding, holds_pointers, payload_fits}
use Rattle.stl_ast.specs.Operands.{IsAnyName, IsBitOf, IsOperand}
use Rattle.stl_ast.specs.declared.blocks.PathStep.{PathStep}
use Rattle.stl_ast.specs.declared.declarations.Simple.{Simple}
use Rattle.stl_ast.specs.declared.names.BlockName.{BlockName}
use Rattle.stl_ast.specs.declared.operands.Letters.{Letters}
use Rattle.stl_ast.specs.declared.operands.Operand.{Operand}
use Rattle.stl_ast.specs.declared.operands.Operand.TheVariants as operand
use Rattle.stl_ast.specs.declared.operands.PathHead.{PathHead}
use Rattle.stl_ast.specs.declared.operands.PathHead.TheVariants as head
use Rattle.plc_base.specs.Folding.{upper_case_name, is_same_name}
use Rattle.stl_symbols.specs.Symbol.{Symbol, symbol_named}
use Rattle.stl_symbols.specs.declared.targets.Target.{Target}
use Rattle.stl_symbols.specs.declared.targets.Target.TheVariants as target
use Rattle.block_layout.specs.Blocks.{named_block}
use Rattle.block_layout.specs.Offsets.{elementary_place}
use Rattle.block_layout.specs.Paths.{cells_at, folded_path, path_end_of_local, whole_at}
use Rattle.block_layout.specs.declared.blocks.BlockLayout.{BlockLayout}
use Rattle.block_layout.specs.declared.cells.Cell.{Cell}
use Rattle.block_layout.specs.declared.path_ends.ComponentAt.{ComponentAt}
use Rattle.block_layout.specs.declared.path_ends.PathEnd.{PathEnd}
use Rattle.stl_types.specs.Context.{Context, data_number, in_function}
use Rattle.stl_types.specs.Operands.{is_on_wrong_side}
use Rattle.stl_types.specs.Resolution.{resolution_of_address, resolution_of_path, resolution_of, whole_called_block}
use Rattle.stl_types.specs.Variables.{composite_operand, data_variable, data_at_path_end, variable_in_area, is_temporary_variable, own_elementary, own_at_path_end, parameter_at}
use Rattle.stl_types.specs.declared.operand_rules.OperandRule.{OperandRule}
use Rattle.stl_types.specs.declared.resolved_operands.Resolution.{Resolution}
use Rattle.stl_types.specs.declared.resolved_operands.Resolution.TheVariants.{Resolved}
use Rattle.stl_types.specs.declared.resolved_operands.ResolvedOperand.{ResolvedOperand}
use Rattle.stl_types.specs.declared.resolved_operands.ResolvedOperand.TheVariants as resolved
use Rattle.stl_codegen.specs.Operands.{constant_bits, flat_operand_of}
use Rattle.stl_parser.proofs.OptionLemmas.{both}
use Rattle.sem_kept.specs.CodedBlocks.{OperandHasBytes}
use Rattle.sem_kept.proofs.accepted.CodedBits.{bits_small}
use Rattle.sem_kept.proofs.accepted.CodedTables.{PointerFits, pointer_near}

-- ---- what fits

abbrev pub IsWord : ℕ → Type 0
IsWord n = n ≤ 65535

abbrev pub PlaceFits : Place → Type 0
PlaceFits place = IsWord place.number × IsWord place.byte × (place.bit ≤ 7)

-- the numbers of a resolved operand, and the bits of a constant
abbrev pub NumbersFit : Operand → ResolvedOperand → Type 0
NumbersFit o (resolved.Direct place w side declared) = PlaceFits place
NumbersFit o (resolved.Parameter index section declared) = index < 256
NumbersFit o (resolved.ByMemory a w from byte) = (holds_pointers from ≡ true) × IsWord byte
NumbersFit o (resolved.ByRegister a w r bits) = (ar1_number ≤ r) × (r ≤ ar2_number) × (bits < 4294967296)
NumbersFit o (resolved.Timer n) = IsWord n
NumbersFit o (resolved.Counter n) = IsWord n
NumbersFit o (resolved.NumberBy what from byte) = (holds_pointers from ≡ true) × IsWord byte
NumbersFit o resolved.Constant = constant_bits o ≤ 4294967295
NumbersFit o (resolved.Pointer a byte bit) = IsWord byte × (bit ≤ 7)
NumbersFit o (resolved.OpenBlock di n) = IsWord n
NumbersFit o (resolved.Called id instance) = IsWord id.number × IfSome instance IsWord
NumbersFit o _ = Unit {0}

abbrev pub ResolvedNumbersFit : Operand → Resolution → Type 0
ResolvedNumbersFit o (Resolved v) = NumbersFit o v
ResolvedNumbersFit o _ = Unit {0}

pub pointer_fits : (o : Operand) (v : ResolvedOperand) → NumbersFit o v → PointerFits v
pointer_fits o (resolved.Pointer a byte bit) f = f
pointer_fits o _ f = tt

-- ---- the payload of an operand

pub word_fits : (n : ℕ) → IsWord n → ltb n 65536 ≡ true
word_fits n h = lt-ltb n 65536 (omega (arith, h))

pub direct_fits : (a : Area) (w : Width) (byte bit : ℕ) → IsWord byte → bit ≤ 7
    → direct_coding.fits (a, (w, (byte, bit))) ≡ true
unfolding direct_coding
direct_fits a w byte bit k j = grind (arith, nat_tests)

pub payload_right : (f : OperandRule) (o : Operand) (v : ResolvedOperand) → is_on_wrong_side f v ≡ false
    → NumbersFit o v → payload_fits (flat_operand_of o v) ≡ true
unfolding flat_operand_of
payload_right f o v r fits = grind (arith, nat_tests, direct_fits, pointer_near)

-- ---- what surrounds a body

abbrev pub TargetFits : Target → Type 0
TargetFits (target.Variable place w) = PlaceFits place
TargetFits (target.Timer n) = IsWord n
TargetFits (target.Counter n) = IsWord n
TargetFits (target.Block id) = IsWord id.number

abbrev pub SymbolFits : Symbol → Type 0
SymbolFits s = TargetFits s.target

abbrev pub LayoutFits : BlockLayout → Type 0
LayoutFits l = IfSome l.id (λ id. IsWord id.number)

-- the numbers of symbols and blocks fit, and the function has few parameters
pub record ContextFits (c : Context) : Type 0 where
  pub symbols : AllByRecursion SymbolFits c.symbols
  pub layouts : AllByRecursion LayoutFits c.layouts
  pub own : in_function c ≡ true → length (cells_at c.layouts c.block false) ≤ 60

-- ---- numbers that names mean

pub found_holds : {A : Type 0} (P : A → Type 0) (test : A → Bool) (xs : List A)
    → AllByRecursion P xs → IfSome (find test xs) P
found_holds P test [] h = tt
found_holds P test (x ∷ xs) h = both (test x) (Some x) (find test xs) P h.0 (found_holds P test xs h.1)

pub symbol_fits : (name : List ℕ) (symbols : List Symbol) → AllByRecursion SymbolFits symbols
    → IfSome (symbol_named name symbols) SymbolFits
unfolding symbol_named
symbol_fits name symbols h = found_holds SymbolFits (λ s. is_same_name name s.name) symbols h

pub block_fits : (symbols : List Symbol) (name : BlockName) → AllByRecursion SymbolFits symbols
    → IsAnyName name → IfSome (named_block symbols name) (λ id. IsWord id.number)
block_fits symbols name h is = grind (arith, (λ (name : List ℕ). symbol_fits name symbols h))

pub got_holds : {A : Type 0} (P : A → Type 0) (xs : List A) (i : ℕ) → AllByRecursion P xs
    → IfSome (slice_get xs i) P
got_holds P [] i h = tt
got_holds P (x ∷ xs) zero h = h.0
got_holds P (x ∷ xs) (suc i) h = got_holds P xs i h.1

whole_holds : (l : List BlockLayout) (k : ℕ) → AllByRecursion LayoutFits l
    → IfSome (whole_at l k) LayoutFits
whole_holds l k h = grind (arith, got_holds LayoutFits l k h)

pub data_fits : (c : Context) (name : BlockName) → ContextFits c → IfSome (data_number c name) IsWord
data_fits c name fit = grind (arith, (λ (k : ℕ). whole_holds c.layouts k fit.layouts))

-- ---- variables

in_area_fits : (o : Operand) (kind : Simple) (a : Area) (n bits : ℕ) → IsWord n
    → ResolvedNumbersFit o (variable_in_area kind (elementary_place a n bits (Some kind)))
in_area_fits o kind a n bits h = grind (arith, nat_tests)

composite_fits : (o : Operand) (found : Option Cell) → NumbersFit o (composite_operand found)
composite_fits o found = grind arith

parameter_holds : (c : Context) (o : Operand) (component : ComponentAt) (kind : Simple)
    → length (cells_at c.layouts c.block false) ≤ 60 → ResolvedNumbersFit o (parameter_at c component kind)
parameter_holds c o component kind few = grind (arith, slice_get_within {A = Cell})

own_elementary_fits : (c : Context) (o : Operand) (temporary : Bool) (component : ComponentAt) (kind : Simple)
    → ContextFits c → ResolvedNumbersFit o (own_elementary c temporary component kind)
own_elementary_fits c o true component kind fit = in_area_fits o kind area.L 0 component.offset (omega arith)
own_elementary_fits c o false component kind fit = by (in_function c) refl
  where
    by : (b : Bool) → in_function c ≡ b
        → ResolvedNumbersFit o (if b then parameter_at c component kind else variable_in_area kind (elementary_place area.Di 0 component.offset (Some kind)))
    by true e = parameter_holds c o component kind (fit.own e)
    by false e = in_area_fits o kind area.Di 0 component.offset (omega arith)

own_fits : (c : Context) (o : Operand) (temporary : Bool) (w : PathEnd) → ContextFits c → ResolvedNumbersFit o (own_at_path_end c temporary w)
own_fits c o temporary w fit =
    grind (arith, composite_fits, (λ (component : ComponentAt) (kind : Simple). own_elementary_fits c o temporary component kind fit))

data_walk_fits : (c : Context) (o : Operand) (n : ℕ) (w : PathEnd) → IsWord n
    → ResolvedNumbersFit o (data_at_path_end c n w)
data_walk_fits c o n w h = grind (arith, composite_fits, in_area_fits)

data_variable_fits : (c : Context) (o : Operand) (name : BlockName) (steps : List PathStep)
    → ContextFits c → ResolvedNumbersFit o (data_variable c name steps)
data_variable_fits c o name steps fit = grind (arith, data_walk_fits, data_fits c name fit)

-- ---- operands

path_fits : (c : Context) (o : Operand) (p : PathHead) (steps : List PathStep) → ContextFits c
    → ResolvedNumbersFit o (resolution_of_path c p steps)
path_fits c o (head.Local name) steps fit =
    own_fits c o (is_temporary_variable c (upper_case_name name))
    (path_end_of_local c.layouts c.block (upper_case_name name) (folded_path steps)) fit
path_fits c o (head.InBlock name) steps fit = data_variable_fits c o name (folded_path steps) fit
path_fits c o (head.Symbol name) steps fit = grind (arith, symbol_fits name c.symbols fit.symbols)

direct_seen_fits : (c : Context) (o : Operand) (name : Option BlockName) (a : Letters) (w : Width)
    (byte bit : ℕ) → ContextFits c → IsWord byte → IsBitOf w bit
    → ResolvedNumbersFit o (resolution_of_address c name a w byte bit)
direct_seen_fits c o name a w byte bit fit k j = grind (arith, (λ (name : BlockName). data_fits c name fit))

block_holds : (c : Context) (id : Option BlockId) → IfSome id (λ id. IsWord id.number)
    → IfSome (whole_called_block c id) (λ id. IsWord id.number)
block_holds c id h = grind arith

-- the numbers of what an operand names fit
pub seen_fits : (c : Context) (o : Operand) → ContextFits c → IsOperand o → OperandHasBytes o
    → ResolvedNumbersFit o (resolution_of c o)
unfolding resolution_of
seen_fits c (operand.Direct name a w byte bit) fit is has =
    direct_seen_fits c (operand.Direct name a w byte bit) name a w byte bit fit is.1 is.2
seen_fits c (operand.Named path steps) fit is has = path_fits c (operand.Named path steps) path steps fit
seen_fits c (operand.Constant value) fit is has = bits_small value is has
seen_fits c (operand.OpenBlock di name) fit is has = grind (arith, data_fits c name fit)
seen_fits c (operand.Called name instance) fit is has =
    grind (
      arith,
      block_holds c (named_block c.symbols name) (block_fits c.symbols name fit.symbols is.0),
      (λ (name : BlockName). data_fits c name fit),
    )
seen_fits c _ fit is has = grind arith
