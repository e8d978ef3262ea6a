-- What an operand names is there, where the operand is resolved; and listed operands leave no array.
use Rattle.std.proofs.Common.{◌≡◌, ℕ, Bool, true, false, ◌&&◌, ◌||◌, List, [], Option, Some, None, if◌then◌else◌, refl, ap, ap₂, ◌∙◌}
use Rattle.std.specs.Prelude.{◌==◌}
use Rattle.std.specs.Option.{is_none, option_and_then}
use Rattle.plc_base.specs.Folding.{upper_case_name}
use Rattle.plc_base.specs.Kinds.{is_data_block, is_system_function}
use Rattle.plc_base.specs.declared.blocks.BlockId.{BlockId}
use Rattle.plc_base.specs.declared.places.Width.{Width}
use Rattle.flat_code.specs.Kinds.{timer_kind}
use Rattle.flat_code.specs.declared.operands.Operand.{Operand as FlatOperand}
use Rattle.flat_code.specs.declared.operands.Operand.TheVariants as flat
use Rattle.flat_code.specs.declared.operands.Passed.{Passed}
use Rattle.flat_code.specs.declared.operands.Passed.TheVariants as passed
use Rattle.flat_code.specs.declared.operations.AddConstant.TheVariants as add_constant
use Rattle.flat_code.specs.declared.operations.Logic.TheVariants as logic
use Rattle.flat_code.specs.declared.operations.Operation.{Operation}
use Rattle.flat_code.specs.declared.operations.Operation.TheVariants as operation
use Rattle.flat_code.specs.declared.operations.PointerOperation.TheVariants as pointers
use Rattle.stl_ast.specs.declared.blocks.PathStep.{PathStep}
use Rattle.stl_ast.specs.declared.names.BlockName.{BlockName}
use Rattle.stl_ast.specs.declared.operands.Letters.{Letters}
use Rattle.stl_ast.specs.declared.operands.Operand.{Operand}
use Rattle.stl_ast.specs.declared.operands.Operand.TheVariants as operand
use Rattle.stl_ast.specs.declared.operands.PathHead.TheVariants as head
use Rattle.stl_symbols.specs.Symbol.{Symbol}
use Rattle.block_layout.specs.Blocks.{found_block, known_block, named_block}
use Rattle.block_layout.specs.Paths.{folded_path, holds_where_reached, if_whole, in_sections, is_checkable, path_end_of_local, whole_at}
use Rattle.block_layout.specs.Rule23.{is_unknown_called, is_unknown_data, is_unknown_id, is_unknown_instance, names_unknown}
use Rattle.block_layout.specs.Rule42.{operand_is_outside}
use Rattle.block_layout.specs.Types.{Types}
use Rattle.block_layout.specs.declared.path_ends.PathEnd.{PathEnd}
use Rattle.block_layout.specs.declared.path_ends.PathEnd.TheVariants as path_end
use Rattle.stl_types.specs.Addresses.{address_in_block}
use Rattle.stl_types.specs.Context.{Context, data_number, data_place, source_block_ids, number_of_block, whole_place}
use Rattle.stl_types.specs.Resolution.{resolution_of_call, id_at, instance_number, resolution_of_opened_block, resolution_of, whole_called_block}
use Rattle.stl_types.specs.Variables.{data_path}
use Rattle.stl_types.specs.declared.parameters.Formal.{Formal}
use Rattle.stl_types.specs.declared.resolved_operands.Resolution.TheVariants.{Resolved}
use Rattle.stl_types.specs.declared.resolved_operands.ResolvedOperand.{ResolvedOperand}
use Rattle.stl_list.specs.Actuals.{passed_operand}
use Rattle.stl_list.specs.Constants.{instruction_constant}
use Rattle.stl_list.specs.Operands.{implied_operand, operand_by, plain_operand}

-- ---- blocks

-- the blocks that the rules know are those of the context
pub record AreTypesOf (y : Types) (c : Context) : Type 0 where
  pub symbols : y.symbols ≡ c.symbols
  pub ids : y.ids ≡ source_block_ids c

data_same : (y : Types) (c : Context) (name : BlockName) → AreTypesOf y c → is_unknown_data y name ≡ is_none (data_place c name)
data_same y c name h = ap₂ (λ (s : List Symbol) (is : List (Option BlockId)). is_none (found_block s is is_data_block name)) h.symbols h.ids

some_place : (c : Context) (place : Option ℕ) (n : ℕ) → option_and_then (λ b. number_of_block b.id) (option_and_then (whole_at c.layouts) place) ≡ Some n → is_none place ≡ false
some_place c None n e = absurd cc
some_place c (Some k) n e = refl

data_is : (y : Types) (c : Context) (name : BlockName) (n : ℕ) → AreTypesOf y c → data_number c name ≡ Some n → is_unknown_data y name ≡ false
data_is y c name n h e = data_same y c name h ∙ some_place c (data_place c name) n e

-- where a number is needed there is one
in_direct : (y : Types) (c : Context) (name : BlockName) (a : Letters) (w : Width) (byte bit : ℕ) (v : ResolvedOperand) → AreTypesOf y c → address_in_block (data_number c name) a w byte bit ≡ Resolved v → is_unknown_data y name ≡ false
in_direct y c name a w byte bit v h = by (data_number c name) refl
  where
    by : (n : Option ℕ) → data_number c name ≡ n → address_in_block n a w byte bit ≡ Resolved v → is_unknown_data y name ≡ false
    by None is e = absurd cc
    by (Some n) is e = data_is y c name n h is

in_path : (y : Types) (c : Context) (name : BlockName) (steps : List PathStep) (v : ResolvedOperand) → AreTypesOf y c → data_path c steps (data_number c name) (data_place c name) ≡ Resolved v → is_unknown_data y name ≡ false
in_path y c name steps v h = by (data_number c name) refl (data_place c name)
  where
    by : (n : Option ℕ) → data_number c name ≡ n → (place : Option ℕ) → data_path c steps n place ≡ Resolved v → is_unknown_data y name ≡ false
    by None is place e = absurd cc
    by (Some n) is place e = data_is y c name n h is

in_opened : (y : Types) (c : Context) (di : Bool) (name : BlockName) (v : ResolvedOperand) → AreTypesOf y c → resolution_of_opened_block di (data_number c name) ≡ Resolved v → is_unknown_data y name ≡ false
in_opened y c di name v h = by (data_number c name) refl
  where
    by : (n : Option ℕ) → data_number c name ≡ n → resolution_of_opened_block di n ≡ Resolved v → is_unknown_data y name ≡ false
    by None is e = absurd cc
    by (Some n) is e = data_is y c name n h is

-- a called block
some_id : (c : Context) (id : BlockId) (place : Option ℕ) (w : BlockId) → id_at id (option_and_then (if_whole c.layouts) place) ≡ Some w → is_none place ≡ false
some_id c id None w e = absurd cc
some_id c id (Some k) w e = refl

id_is : (y : Types) (c : Context) (x : Option BlockId) (w : BlockId) → AreTypesOf y c → whole_called_block c x ≡ Some w → is_unknown_id y x ≡ false
id_is y c None w h e = absurd cc
id_is y c (Some id) w h e = by (is_system_function id.kind) e
  where
    by : (b : Bool) → (if b then Some id else id_at id (whole_place c id)) ≡ Some w → (if b then false else is_none (known_block id y.ids)) ≡ false
    by true e = refl
    by false e = ap (λ (is : List (Option BlockId)). is_none (known_block id is)) h.ids ∙ some_id c id (known_block id (source_block_ids c)) w e

called_is : (y : Types) (c : Context) (name : BlockName) (w : BlockId) → AreTypesOf y c → whole_called_block c (named_block c.symbols name) ≡ Some w → is_unknown_called y name ≡ false
called_is y c name w h e = ap (λ (s : List Symbol). is_unknown_id y (named_block s name)) h.symbols ∙ id_is y c (named_block c.symbols name) w h e

in_called : (y : Types) (c : Context) (name : BlockName) (instance : Option BlockName) (v : ResolvedOperand) → AreTypesOf y c
    → resolution_of_call (whole_called_block c (named_block c.symbols name)) instance (instance_number c instance) ≡ Resolved v
    → (is_unknown_called y name || is_unknown_instance y instance) ≡ false
in_called y c name instance v h e = by (whole_called_block c (named_block c.symbols name)) refl instance e
  where
    numbered : (w : BlockId) (i : BlockName) → whole_called_block c (named_block c.symbols name) ≡ Some w → (n : Option ℕ) → data_number c i ≡ n → resolution_of_call (Some w) (Some i) n ≡ Resolved v
        → (is_unknown_called y name || is_unknown_data y i) ≡ false
    numbered w i is None at e = absurd cc
    numbered w i is (Some n) at e = ap₂ (λ (a b : Bool). a || b) (called_is y c name w h is) (data_is y c i n h at)

    by : (x : Option BlockId) → whole_called_block c (named_block c.symbols name) ≡ x → (i : Option BlockName) → resolution_of_call x i (instance_number c i) ≡ Resolved v
        → (is_unknown_called y name || is_unknown_instance y i) ≡ false
    by None is i e = absurd cc
    by (Some w) is None e = ap (λ (b : Bool). b || false) (called_is y c name w h is)
    by (Some w) is (Some i) e = numbered w i is (data_number c i) refl e

pub seen_there : (y : Types) (c : Context) (o : Operand) (v : ResolvedOperand) → AreTypesOf y c → resolution_of c o ≡ Resolved v → names_unknown y o ≡ false
unfolding resolution_of
seen_there y c (operand.Direct None a w byte bit) v h e = refl
seen_there y c (operand.Direct (Some name) a w byte bit) v h e = in_direct y c name a w byte bit v h e
seen_there y c (operand.Named (head.Local name) steps) v h e = refl
seen_there y c (operand.Named (head.InBlock name) steps) v h e = in_path y c name (folded_path steps) v h e
seen_there y c (operand.Named (head.Symbol name) steps) v h e = refl
seen_there y c (operand.OpenBlock di name) v h e = in_opened y c di name v h e
seen_there y c (operand.Called name instance) v h e = in_called y c name instance v h e
seen_there y c _ v h e = refl

-- ---- arrays

-- a path has one name alone, that of a variable of the block
abbrev pub IsBare : Operand → Type 0
IsBare (operand.Named (head.Local name) steps) = steps ≡ []
IsBare (operand.Named _ steps) = ⊥
IsBare _ = Unit {0}

no_further : (end : PathEnd) → holds_where_reached end (λ component. false) ≡ false
no_further (path_end.Reaches component) = refl
no_further path_end.Unknown = refl
no_further path_end.Unjudged = refl

and_false : (a b : Bool) → b ≡ false → (a && b) ≡ false
and_false true b e = e
and_false false b e = refl

pub bare_inside : (y : Types) (c : Context) (o : Operand) → IsBare o → operand_is_outside y c.layouts c.block o ≡ false
bare_inside y c (operand.Named (head.Local name) steps) h =
    ap (λ (p : List PathStep). operand_is_outside y c.layouts c.block (operand.Named (head.Local name) p)) h
    ∙ and_false (is_checkable (path_end_of_local c.layouts c.block (upper_case_name name) [])) (holds_where_reached (in_sections c.layouts c.block (upper_case_name name)) (λ component. false)) (no_further (in_sections c.layouts c.block (upper_case_name name)))
bare_inside y c (operand.Named (head.InBlock name) steps) h = absurd h
bare_inside y c (operand.Named (head.Symbol name) steps) h = absurd h
bare_inside y c _ h = refl

implied_bare : (w : Operation) → IsBare (implied_operand w)
implied_bare operation.LoadStatus = tt
implied_bare operation.TransferStatus = tt
implied_bare (operation.Pointer pointers.Lar1Ar2) = tt
implied_bare (operation.Pointer pointers.Tar1Ar2) = tt
implied_bare _ = tt

constant_bare : (w : Operation) (bits : ℕ) → IsBare (instruction_constant w bits)
constant_bare operation.Load bits = tt
constant_bare (operation.Logic logic.Ad) bits = tt
constant_bare (operation.Logic logic.Od) bits = tt
constant_bare (operation.Logic logic.Xod) bits = tt
constant_bare (operation.Logic _) bits = tt
constant_bare (operation.Pointer which) bits = tt
constant_bare (operation.Add add_constant.Dword) bits = tt
constant_bare operation.LoadOpenBlock bits = tt
constant_bare _ bits = tt

timer_bare : (b : Bool) (number : ℕ) → IsBare (if b then operand.Timer number else operand.Counter number)
timer_bare true number = tt
timer_bare false number = tt

-- the operand of a listed statement
pub operand_bare : (formals : List Formal) (starts : List ℕ) (opened : Option ℕ) (w : Operation) (f : FlatOperand) → IsBare (operand_by formals starts opened w f)
unfolding operand_by plain_operand
operand_bare formals starts opened w flat.Nothing = implied_bare w
operand_bare formals starts opened w (flat.Literal value) = constant_bare w value
operand_bare formals starts opened w (flat.Parameter index width) = refl
operand_bare formals starts opened w (flat.Numbered kind number) = timer_bare (kind == timer_kind) number
operand_bare formals starts opened w _ = tt

-- the value of a listed actual parameter
pub passed_bare : (formals : List Formal) (f : Formal) (p : Passed) → IsBare (passed_operand formals f p)
passed_bare formals f (passed.Parameter index width) = refl
passed_bare formals f _ = tt
