-- The operand of a listed statement acts as that of the source.
use Rattle.std.proofs.Common.{◌≡◌, ℕ, Bool, true, false, List, Option, Some, None, if◌then◌else◌, refl, sym, ap, ◌∙◌}
use Rattle.std.specs.Prelude.{codes, nat_eq, not, option_map, ◌&&◌}
use Rattle.plc_base.specs.declared.blocks.BlockId.{BlockId}
use Rattle.plc_base.specs.declared.flags.Flag.{Flag}
use Rattle.plc_base.specs.declared.places.Area.{Area}
use Rattle.plc_base.specs.declared.places.Area.TheVariants as area
use Rattle.plc_base.specs.declared.places.Place.{Place}
use Rattle.plc_base.specs.declared.places.Width.{Width}
use Rattle.flat_code.proofs.CodeLemmas.{flag_again, operation_again}
use Rattle.flat_code.specs.Kinds.{condition_number, flag_of}
use Rattle.flat_code.specs.Operations.{operation_of}
use Rattle.flat_code.specs.OpCodes.{op_code_of}
use Rattle.flat_code.specs.declared.operands.Operand.TheVariants as flat
use Rattle.flat_code.specs.declared.operations.Operation.{Operation}
use Rattle.stl_ast.specs.declared.blocks.PartKind.{PartKind}
use Rattle.stl_ast.specs.declared.declarations.Simple.{Simple}
use Rattle.stl_ast.specs.declared.literals.Literal.{Literal}
use Rattle.stl_ast.specs.declared.mnemonics.Mnemonic.{Mnemonic}
use Rattle.stl_ast.specs.declared.mnemonics.Mnemonic.TheVariants as code
use Rattle.stl_ast.specs.declared.operands.Numbered.{Numbered}
use Rattle.stl_ast.specs.declared.operands.Numbered.TheVariants as numbered
use Rattle.stl_ast.specs.declared.operands.Operand.{Operand}
use Rattle.stl_ast.specs.declared.operands.Operand.TheVariants as operand
use Rattle.block_layout.specs.Offsets.{width_of}
use Rattle.stl_types.specs.Addresses.{address_in_block, area_of_pointer, area_for_letters, side_of}
use Rattle.stl_types.specs.Constants.{takes_constant}
use Rattle.stl_types.specs.Context.{Context}
use Rattle.stl_types.specs.OperandRules.{operand_rule_of}
use Rattle.stl_types.specs.Operands.{has_width, is_on_wrong_side, rule_of_operand, rule_of_resolved_operand, rule_of_resolution, takes_operand, rule_writes_operand as form_writes}
use Rattle.stl_types.specs.Resolution.{resolution_of_opened_block, register_for_word as register_named, resolution_of}
use Rattle.stl_types.specs.declared.operand_rules.OperandRule.{OperandRule}
use Rattle.stl_types.specs.declared.operand_rules.OperandRule.TheVariants as operand_rules
use Rattle.stl_types.specs.declared.parameters.Formal.{Formal}
use Rattle.stl_types.specs.declared.resolved_operands.Register.{Register}
use Rattle.stl_types.specs.declared.resolved_operands.Register.TheVariants as register
use Rattle.stl_types.specs.declared.resolved_operands.Resolution.TheVariants.{Resolved}
use Rattle.stl_types.specs.declared.resolved_operands.ResolvedOperand.{ResolvedOperand}
use Rattle.stl_types.specs.declared.resolved_operands.ResolvedOperand.TheVariants as resolved
use Rattle.stl_types.specs.declared.resolved_operands.Side.{Side}
use Rattle.stl_codegen.specs.CompiledBlock.{operand_with_target}
use Rattle.stl_codegen.specs.EmittedOps.{use_db_ops}
use Rattle.stl_codegen.specs.Operands.{is_db, numbered_operand, block_opened_by_operand, block_opened_by_place, flat_operand_of, register_operand}
use Rattle.stl_codegen.specs.Operations.{call_operation_of, jump_operation_of, operation_for}
use Rattle.stl_list.specs.Constants.{instruction_constant}
use Rattle.stl_parser.specs.Operands.{data_block_name}
use Rattle.stl_list.specs.Operands.{direct_operand, implied_operand, letters_for_area, block_opened_by_ops as opened_first, operand_by, own_parameter, plain_operand, read_letters, operation_writes_operand}
use Rattle.listing_laws.specs.Operands.{AreOperandsKept, IsActedAgain, IsConstantCoded, IsConstantResolved, IsOpenedAgain, IsParameterAgain, StandsAgain}
use Rattle.listing_laws.proofs.ruled.Constants.{constant_again, pointer_acts}
use Rattle.listing_laws.proofs.ruled.Rules.{IsOther, is_taken, no_adding, none_broken, taken_view, operand_unchanged}

-- ---- areas

area_again : (w : Bool) (a : Area) → area_for_letters (letters_for_area w a) ≡ a
area_again true area.P = refl
area_again false area.P = refl
area_again w area.I = refl
area_again w area.Q = refl
area_again w area.M = refl
area_again w area.Db = refl
area_again w area.Di = refl
area_again w area.L = refl

any_area_again : (a : Option Area) → area_of_pointer (option_map read_letters a) ≡ a
any_area_again None = refl
any_area_again (Some a) = ap (λ (x : Area). Some x) (area_again false a)

-- what writes a place in a listing writes it in a source
writes_place : (m : Mnemonic) (o : Operand) (place : Place) (width : Width) (side : Side) (declared : Option Simple) → rule_of_resolved_operand (operand_rule_of m) (resolved.Direct place width side declared) ≡ None
    → operation_writes_operand (operation_for m o (resolved.Direct place width side declared)) ≡ form_writes (operand_rule_of m)
unfolding operation_for operand_rule_of
writes_place code.Add o place width side declared h = absurd (no_adding (resolved.Direct place width side declared) h)
writes_place _ o place width side declared h = refl

right_side : (f : OperandRule) (a : Area) (w : Bool) (place : Place) (width : Width) → w ≡ form_writes f → is_on_wrong_side f (resolved.Direct place width (side_of (letters_for_area w a)) None) ≡ false
right_side f area.P true place width e = rw (sym e) refl
right_side f area.P false place width e = sym e
right_side f area.I w place width e = refl
right_side f area.Q w place width e = refl
right_side f area.M w place width e = refl
right_side f area.Db w place width e = refl
right_side f area.Di w place width e = refl
right_side f area.L w place width e = refl

-- ---- a place

takes_place : (f : OperandRule) (place other : Place) (width : Width) (side side2 : Side) (declared declared2 : Option Simple)
    → takes_operand f (resolved.Direct other width side2 declared2) ≡ takes_operand f (resolved.Direct place width side declared)
unfolding takes_operand
takes_place operand_rules.Bare place other width side side2 declared declared2 = refl
takes_place _ place other width side side2 declared declared2 = refl

place_operation : (m : Mnemonic) (o again : Operand) (place other : Place) (width : Width) (side side2 : Side) (declared declared2 : Option Simple) → rule_of_resolved_operand (operand_rule_of m) (resolved.Direct place width side declared) ≡ None
    → operation_for m again (resolved.Direct other width side2 declared2) ≡ operation_for m o (resolved.Direct place width side declared)
unfolding operation_for
place_operation code.Add o again place other width side side2 declared declared2 h = absurd (no_adding (resolved.Direct place width side declared) h)
place_operation _ o again place other width side side2 declared declared2 h = refl

never_written : (b : Bool) → (b && false) ≡ false
never_written true = refl
never_written false = refl

place_right : (f : OperandRule) (place : Place) (other : Place) (a : Area) (w : Bool) (width : Width) (side : Side) (declared : Option Simple) → rule_of_resolved_operand f (resolved.Direct place width side declared) ≡ None
    → w ≡ form_writes f → rule_of_resolved_operand f (resolved.Direct other width (side_of (letters_for_area w a)) None) ≡ None
place_right f place other a w width side declared h e =
    let parts = is_taken f (resolved.Direct place width side declared) h in
    none_broken f (resolved.Direct other width (side_of (letters_for_area w a)) None) refl
    (takes_place f place other width side (side_of (letters_for_area w a)) declared None ∙ parts.accepted)
    parts.wide (right_side f a w other width e) (never_written (form_writes f))

abbrev number_if : Bool → ℕ → Option ℕ
number_if b n = if b then Some n else None

none_named : (b : Bool) → number_if (b && false) 0 ≡ None
none_named true = refl
none_named false = refl

same_number : (b : Bool) (k n : ℕ) → number_if b k ≡ Some n → k ≡ n
same_number true k n e = cc
same_number false k n e = absurd cc

is_named : (d : Bool) (k n : ℕ) → number_if (d && not (nat_eq k 0)) k ≡ Some n → number_if (d && not (nat_eq n 0)) n ≡ Some n
is_named d k n e = ap (λ (x : ℕ). number_if (d && not (nat_eq x 0)) x) (sym (same_number (d && not (nat_eq k 0)) k n e)) ∙ e

abbrev at : Area → ℕ → Place → Place
at a n place = record { area = a; number = n; byte = place.byte; bit = place.bit }

place_operand : (o again : Operand) (place : Place) (n : ℕ) (w : Bool) (width : Width) (side side2 : Side) (declared declared2 : Option Simple)
    → flat_operand_of again (resolved.Direct (at (area_for_letters (letters_for_area w place.area)) n place) width side2 declared2) ≡ flat_operand_of o (resolved.Direct place width side declared)
unfolding flat_operand_of
place_operand o again place n w width side side2 declared declared2 = ap (λ (a : Area). flat.Direct a width place.byte place.bit) (area_again w place.area)

place_again : (c : Context) (m : Mnemonic) (o : Operand) (place : Place) (width : Width) (side : Side) (declared : Option Simple) → rule_of_resolved_operand (operand_rule_of m) (resolved.Direct place width side declared) ≡ None
    → IsOpenedAgain c (block_opened_by_place place) → (w : Bool) → w ≡ form_writes (operand_rule_of m)
    → IsActedAgain c m o (direct_operand (block_opened_by_place place) w place.area width place.byte place.bit) (resolved.Direct place width side declared)
unfolding resolution_of
place_again c m o place width side declared h k w e = by (block_opened_by_place place) refl k
  where
    by : (found : Option ℕ) → block_opened_by_place place ≡ found → IsOpenedAgain c found → IsActedAgain c m o (direct_operand found w place.area width place.byte place.bit) (resolved.Direct place width side declared)
    by None g k = record {
      found = resolved.Direct (at (area_for_letters (letters_for_area w place.area)) 0 place) width (side_of (letters_for_area w place.area)) None;
      resolves = refl;
      right = place_right (operand_rule_of m) place (at (area_for_letters (letters_for_area w place.area)) 0 place) place.area w width side declared h e;
      opened = none_named (is_db (area_for_letters (letters_for_area w place.area))) ∙ sym g;
      operation = place_operation m o _ place (at (area_for_letters (letters_for_area w place.area)) 0 place) width side (side_of (letters_for_area w place.area)) declared None h;
      operand = place_operand o _ place 0 w width side (side_of (letters_for_area w place.area)) declared None;
    }
    by (Some n) g k =
        let sees : resolution_of c (direct_operand (Some n) w place.area width place.byte place.bit) ≡ Resolved (resolved.Direct (at (area_for_letters (letters_for_area w place.area)) n place) width (side_of (letters_for_area w place.area)) None) =
        ap (λ (x : Option ℕ). address_in_block x (letters_for_area w place.area) width place.byte place.bit) k in
        record {
          found = resolved.Direct (at (area_for_letters (letters_for_area w place.area)) n place) width (side_of (letters_for_area w place.area)) None;
          resolves = sees;
          right = ap (rule_of_resolution (operand_rule_of m)) sees ∙ place_right (operand_rule_of m) place (at (area_for_letters (letters_for_area w place.area)) n place) place.area w width side declared h e;
          opened = ap (λ (a : Area). block_opened_by_place (at a n place)) (area_again w place.area) ∙ is_named (is_db place.area) place.number n g ∙ sym g;
          operation = place_operation m o _ place (at (area_for_letters (letters_for_area w place.area)) n place) width side (side_of (letters_for_area w place.area)) declared None h;
          operand = place_operand o _ place n w width side (side_of (letters_for_area w place.area)) declared None;
        }

-- ---- a parameter

takes_parameter : (f : OperandRule) (index : ℕ) (section section2 : PartKind) (kind kind2 : Simple) → takes_operand f (resolved.Parameter index section2 kind2) ≡ takes_operand f (resolved.Parameter index section kind)
unfolding takes_operand
takes_parameter operand_rules.Bare index section section2 kind kind2 = refl
takes_parameter _ index section section2 kind kind2 = refl

parameter_operation : (m : Mnemonic) (o again : Operand) (index : ℕ) (section section2 : PartKind) (kind kind2 : Simple) → rule_of_resolved_operand (operand_rule_of m) (resolved.Parameter index section kind) ≡ None
    → operation_for m again (resolved.Parameter index section2 kind2) ≡ operation_for m o (resolved.Parameter index section kind)
unfolding operation_for
parameter_operation code.Add o again index section section2 kind kind2 h = absurd (no_adding (resolved.Parameter index section kind) h)
parameter_operation _ o again index section section2 kind kind2 h = refl

parameter_operand : (o again : Operand) (index : ℕ) (section section2 : PartKind) (kind kind2 : Simple) → width_of kind2 ≡ width_of kind
    → flat_operand_of again (resolved.Parameter index section2 kind2) ≡ flat_operand_of o (resolved.Parameter index section kind)
unfolding flat_operand_of
parameter_operand o again index section section2 kind kind2 h = ap (flat.Parameter index) h

parameter_again : (c : Context) (m : Mnemonic) (o : Operand) (formals : List Formal) (index : ℕ) (section : PartKind) (kind : Simple) → rule_of_resolved_operand (operand_rule_of m) (resolved.Parameter index section kind) ≡ None
    → IsParameterAgain c formals index section kind → IsActedAgain c m o (own_parameter formals index) (resolved.Parameter index section kind)
unfolding resolution_of
parameter_again c m o formals index section kind h k =
    let parts = is_taken (operand_rule_of m) (resolved.Parameter index section kind) h in
    let sees : resolution_of c (own_parameter formals index) ≡ Resolved (resolved.Parameter index k.section_again k.kind_again) = k.named in
    record {
      found = resolved.Parameter index k.section_again k.kind_again;
      resolves = sees;
      right =
          ap (rule_of_resolution (operand_rule_of m)) sees
          ∙ none_broken (operand_rule_of m) (resolved.Parameter index k.section_again k.kind_again) refl
          (takes_parameter (operand_rule_of m) index section k.section_again kind k.kind_again ∙ parts.accepted)
          (ap (λ (w : Width). has_width (operand_rule_of m) (Some w)) k.wide ∙ parts.wide)
          refl
          (ap (λ (b : Bool). form_writes (operand_rule_of m) && b) k.input ∙ parts.free);
      opened = refl;
      operation = parameter_operation m o (own_parameter formals index) index section k.section_again kind k.kind_again h;
      operand = parameter_operand o (own_parameter formals index) index section k.section_again kind k.kind_again k.wide;
    }

-- ---- what names no place

implied_nothing : (m : Mnemonic) (o : Operand) → rule_of_resolved_operand (operand_rule_of m) resolved.Nothing ≡ None → implied_operand (operation_for m o resolved.Nothing) ≡ operand.Nothing
unfolding operation_for
implied_nothing code.Add o h = absurd (no_adding resolved.Nothing h)
implied_nothing _ o h = refl

implied_status : (m : Mnemonic) (o : Operand) → takes_operand (operand_rule_of m) (resolved.Register register.Stw) ≡ true → implied_operand (operation_for m o (resolved.Register register.Stw)) ≡ operand.Other (codes "STW")
unfolding operation_for takes_operand operand_rule_of
implied_status code.L o h = refl
implied_status code.T o h = refl
implied_status _ o h = absurd cc

implied_second : (m : Mnemonic) (o : Operand) → takes_operand (operand_rule_of m) (resolved.Register register.Ar2) ≡ true → implied_operand (operation_for m o (resolved.Register register.Ar2)) ≡ operand.Other (codes "AR2")
unfolding operation_for takes_operand operand_rule_of
implied_second code.Lar1 o h = refl
implied_second code.Tar1 o h = refl
implied_second _ o h = absurd cc

no_label : (m : Mnemonic) → jump_operation_of m ≡ None → takes_operand (operand_rule_of m) resolved.Label ≡ true → ⊥
unfolding takes_operand operand_rule_of
no_label code.Ju h e = absurd cc
no_label _ h e = absurd cc

no_call : (m : Mnemonic) (id : BlockId) (instance : Option ℕ) → call_operation_of m ≡ None → takes_operand (operand_rule_of m) (resolved.Called id instance) ≡ true → ⊥
unfolding takes_operand operand_rule_of
no_call code.Call id instance h e = absurd cc
no_call _ id instance h e = absurd cc

no_block : (f : OperandRule) → takes_operand f resolved.Block ≡ true → ⊥
unfolding takes_operand
no_block operand_rules.Bare e = absurd cc
no_block _ e = absurd cc

open_dblg : (m : Mnemonic) (o : Operand) → takes_operand (operand_rule_of m) (resolved.Register register.Dblg) ≡ true → instruction_constant (operation_for m o (resolved.Register register.Dblg)) 0 ≡ operand.Other (codes "DBLG")
unfolding operation_for takes_operand operand_rule_of
open_dblg code.L o h = refl
open_dblg _ o h = absurd cc

open_dbno : (m : Mnemonic) (o : Operand) → takes_operand (operand_rule_of m) (resolved.Register register.Dbno) ≡ true → instruction_constant (operation_for m o (resolved.Register register.Dbno)) 1 ≡ operand.Other (codes "DBNO")
unfolding operation_for takes_operand operand_rule_of
open_dbno code.L o h = refl
open_dbno _ o h = absurd cc

open_dilg : (m : Mnemonic) (o : Operand) → takes_operand (operand_rule_of m) (resolved.Register register.Dilg) ≡ true → instruction_constant (operation_for m o (resolved.Register register.Dilg)) 2 ≡ operand.Other (codes "DILG")
unfolding operation_for takes_operand operand_rule_of
open_dilg code.L o h = refl
open_dilg _ o h = absurd cc

open_dino : (m : Mnemonic) (o : Operand) → takes_operand (operand_rule_of m) (resolved.Register register.Dino) ≡ true → instruction_constant (operation_for m o (resolved.Register register.Dino)) 3 ≡ operand.Other (codes "DINO")
unfolding operation_for takes_operand operand_rule_of
open_dino code.L o h = refl
open_dino _ o h = absurd cc

-- an operand that is another by an equation
acted_moved : (c : Context) (m : Mnemonic) (o again other : Operand) (v : ResolvedOperand) → again ≡ other → IsActedAgain c m o other v → IsActedAgain c m o again v
acted_moved c m o again other v e h = rw e h

named_again : (c : Context) (m : Mnemonic) (o again : Operand) (name : List ℕ) (which : Register) → rule_of_resolved_operand (operand_rule_of m) (resolved.Register which) ≡ None → again ≡ operand.Other name → register_named name ≡ which
    → IsActedAgain c m o again (resolved.Register which)
unfolding resolution_of
named_again c m o again name which h e k = acted_moved c m o again (operand.Other name) (resolved.Register which) e (operand_unchanged c m o (operand.Other name) (resolved.Register which) tt h refl (ap (λ (r : Register). Resolved (resolved.Register r)) k))

register_again : (c : Context) (m : Mnemonic) (o : Operand) (formals : List Formal) (starts : List ℕ) (f : ℕ → ℕ) (which : Register) → rule_of_resolved_operand (operand_rule_of m) (resolved.Register which) ≡ None
    → takes_operand (operand_rule_of m) (resolved.Register which) ≡ true
    → IsActedAgain c m o (operand_by formals starts None (operation_for m o (resolved.Register which)) (operand_with_target f (register_operand which))) (resolved.Register which)
unfolding operand_by
register_again c m o formals starts f register.Stw h e = named_again c m o _ (codes "STW") register.Stw h (implied_status m o e) refl
register_again c m o formals starts f register.Ar2 h e = named_again c m o _ (codes "AR2") register.Ar2 h (implied_second m o e) refl
register_again c m o formals starts f register.Dblg h e = named_again c m o _ (codes "DBLG") register.Dblg h (open_dblg m o e) refl
register_again c m o formals starts f register.Dbno h e = named_again c m o _ (codes "DBNO") register.Dbno h (open_dbno m o e) refl
register_again c m o formals starts f register.Dilg h e = named_again c m o _ (codes "DILG") register.Dilg h (open_dilg m o e) refl
register_again c m o formals starts f register.Dino h e = named_again c m o _ (codes "DINO") register.Dino h (open_dino m o e) refl

number_seen : (c : Context) (what : Numbered) (from : Area) (byte : ℕ) → resolution_of c (operand.NumberBy what (read_letters from) byte) ≡ Resolved (resolved.NumberBy what from byte)
unfolding resolution_of
number_seen c what from byte = ap (λ (a : Area). Resolved (resolved.NumberBy what a byte)) (area_again false from)

number_again : (c : Context) (m : Mnemonic) (o : Operand) (formals : List Formal) (starts : List ℕ) (f : ℕ → ℕ) (what : Numbered) (from : Area) (byte : ℕ) → rule_of_resolved_operand (operand_rule_of m) (resolved.NumberBy what from byte) ≡ None
    → IsActedAgain c m o (operand_by formals starts None (operation_for m o (resolved.NumberBy what from byte)) (operand_with_target f (numbered_operand what from byte))) (resolved.NumberBy what from byte)
unfolding operand_by plain_operand
number_again c m o formals starts f numbered.Timer from byte h = operand_unchanged c m o (operand.NumberBy numbered.Timer (read_letters from) byte) (resolved.NumberBy numbered.Timer from byte) tt h refl (number_seen c numbered.Timer from byte)
number_again c m o formals starts f numbered.Counter from byte h = operand_unchanged c m o (operand.NumberBy numbered.Counter (read_letters from) byte) (resolved.NumberBy numbered.Counter from byte) tt h refl (number_seen c numbered.Counter from byte)
number_again c m o formals starts f numbered.Db from byte h = operand_unchanged c m o (operand.NumberBy numbered.Db (read_letters from) byte) (resolved.NumberBy numbered.Db from byte) tt h refl (number_seen c numbered.Db from byte)
number_again c m o formals starts f numbered.Di from byte h = operand_unchanged c m o (operand.NumberBy numbered.Di (read_letters from) byte) (resolved.NumberBy numbered.Di from byte) tt h refl (number_seen c numbered.Di from byte)

opened_again : (c : Context) (m : Mnemonic) (o : Operand) (di : Bool) (number : ℕ) → rule_of_resolved_operand (operand_rule_of m) (resolved.OpenBlock di number) ≡ None → IsOpenedAgain c (Some number)
    → IsActedAgain c m o (operand.OpenBlock di (data_block_name number)) (resolved.OpenBlock di number)
unfolding resolution_of
opened_again c m o di number h k = operand_unchanged c m o (operand.OpenBlock di (data_block_name number)) (resolved.OpenBlock di number) tt h refl (ap (resolution_of_opened_block di) k)

memory_seen : (c : Context) (a from : Area) (width : Width) (byte : ℕ) → resolution_of c (operand.ByMemory (read_letters a) width (read_letters from) byte) ≡ Resolved (resolved.ByMemory a width from byte)
unfolding resolution_of
memory_seen c a from width byte = rw (area_again false a, area_again false from) refl

resolution_of_register : (c : Context) (a : Option Area) (width : Width) (register bits : ℕ) → resolution_of c (operand.ByRegister (option_map read_letters a) width register bits) ≡ Resolved (resolved.ByRegister a width register bits)
unfolding resolution_of
resolution_of_register c a width register bits = ap (λ (x : Option Area). Resolved (resolved.ByRegister x width register bits)) (any_area_again a)

status_seen : (c : Context) (flag : Flag) → resolution_of c (operand.OfStatus (flag_of (condition_number flag))) ≡ Resolved (resolved.OfStatus flag)
unfolding resolution_of
status_seen c flag = ap (λ (x : Flag). Resolved (resolved.OfStatus x)) (flag_again flag)

-- ---- all that is no constant

by_view : (c : Context) (formals : List Formal) (starts : List ℕ) (f : ℕ → ℕ) (m : Mnemonic) (o : Operand) (v : ResolvedOperand)
    → jump_operation_of m ≡ None → call_operation_of m ≡ None → rule_of_resolved_operand (operand_rule_of m) v ≡ None → IsOther v → StandsAgain c formals v
    → IsActedAgain c m o (operand_by formals starts (block_opened_by_operand v) (operation_for m o v) (operand_with_target f (flat_operand_of o v))) v
unfolding operand_by plain_operand flat_operand_of resolution_of
by_view c formals starts f m o resolved.Nothing jumps calls h other k = acted_moved c m o _ operand.Nothing resolved.Nothing (implied_nothing m o h) (operand_unchanged c m o operand.Nothing resolved.Nothing tt h refl refl)
by_view c formals starts f m o (resolved.Direct place width side declared) jumps calls h other k =
    place_again c m o place width side declared h k (operation_writes_operand (operation_for m o (resolved.Direct place width side declared))) (writes_place m o place width side declared h)
by_view c formals starts f m o (resolved.Parameter index section declared) jumps calls h other k = parameter_again c m o formals index section declared h k
by_view c formals starts f m o resolved.Composite jumps calls h other k = let e = (is_taken (operand_rule_of m) resolved.Composite h).elementary in absurd cc
by_view c formals starts f m o resolved.Date jumps calls h other k = let e = (is_taken (operand_rule_of m) resolved.Date h).elementary in absurd cc
by_view c formals starts f m o (resolved.ByMemory a width from byte) jumps calls h other k =
    operand_unchanged c m o (operand.ByMemory (read_letters a) width (read_letters from) byte) (resolved.ByMemory a width from byte) tt h refl (memory_seen c a from width byte)
by_view c formals starts f m o (resolved.ByRegister a width register bits) jumps calls h other k =
    operand_unchanged c m o (operand.ByRegister (option_map read_letters a) width register bits) (resolved.ByRegister a width register bits) tt h refl (resolution_of_register c a width register bits)
by_view c formals starts f m o (resolved.Timer number) jumps calls h other k = operand_unchanged c m o (operand.Timer number) (resolved.Timer number) tt h refl refl
by_view c formals starts f m o (resolved.Counter number) jumps calls h other k = operand_unchanged c m o (operand.Counter number) (resolved.Counter number) tt h refl refl
by_view c formals starts f m o (resolved.NumberBy what from byte) jumps calls h other k = number_again c m o formals starts f what from byte h
by_view c formals starts f m o resolved.Constant jumps calls h other k = absurd other
by_view c formals starts f m o (resolved.Pointer a byte bit) jumps calls h other k = pointer_acts c m o a byte bit k h (taken_view (operand_rule_of m) (resolved.Pointer a byte bit) h)
by_view c formals starts f m o resolved.Label jumps calls h other k = absurd (no_label m jumps (taken_view (operand_rule_of m) resolved.Label h))
by_view c formals starts f m o (resolved.OfStatus flag) jumps calls h other k = operand_unchanged c m o (operand.OfStatus (flag_of (condition_number flag))) (resolved.OfStatus flag) tt h refl (status_seen c flag)
by_view c formals starts f m o (resolved.Register which) jumps calls h other k = register_again c m o formals starts f which h (taken_view (operand_rule_of m) (resolved.Register which) h)
by_view c formals starts f m o (resolved.OpenBlock true number) jumps calls h other k = opened_again c m o true number h k
by_view c formals starts f m o (resolved.OpenBlock false number) jumps calls h other k = opened_again c m o false number h k
by_view c formals starts f m o (resolved.Called id instance) jumps calls h other k = absurd (no_call m id instance calls (taken_view (operand_rule_of m) (resolved.Called id instance) h))
by_view c formals starts f m o resolved.Block jumps calls h other k = absurd (no_block (operand_rule_of m) (taken_view (operand_rule_of m) resolved.Block h))

-- ---- constants

abbrev IsNoConstant : Operand → Type 0
IsNoConstant (operand.Constant value) = ⊥
IsNoConstant _ = Unit {0}

pub rule_is : (c : Context) (f : OperandRule) (o : Operand) (v : ResolvedOperand) → IsNoConstant o → resolution_of c o ≡ Resolved v → rule_of_operand c f o ≡ None → rule_of_resolved_operand f v ≡ None
rule_is c f (operand.Constant value) v n e h = absurd n
rule_is c f _ v n e h = sym (ap (rule_of_resolution f) e) ∙ h

is_other : (o : Operand) (v : ResolvedOperand) → IsNoConstant o → IsConstantResolved o v → IsOther v
is_other (operand.Constant value) v n h = absurd n
is_other _ resolved.Constant n h = h
is_other _ _ n h = tt

abbrev rule_if : Bool → ℕ → Option ℕ
rule_if b rule = if b then None else Some rule

rule_allowed : (b : Bool) → rule_if b 25 ≡ None → b ≡ true
rule_allowed true h = refl
rule_allowed false h = absurd cc

opened_back : (x : Option ℕ) → opened_first (use_db_ops x) ≡ x
opened_back None = refl
opened_back (Some number) = refl

constant_acts : (c listed : Context) (formals : List Formal) (starts : List ℕ) (f : ℕ → ℕ) (m : Mnemonic) (value : Literal) (v : ResolvedOperand)
    → rule_of_operand c (operand_rule_of m) (operand.Constant value) ≡ None → v ≡ resolved.Constant → IsConstantCoded value
    → IsActedAgain listed m (operand.Constant value) (operand_by formals starts (block_opened_by_operand v) (operation_for m (operand.Constant value) v) (operand_with_target f (flat_operand_of (operand.Constant value) v))) v
unfolding operand_by flat_operand_of
constant_acts c listed formals starts f m value v h e k = rw e (constant_again listed m value k (rule_allowed (takes_constant (operand_rule_of m) value) h))

no_constant_acts : (c listed : Context) (formals : List Formal) (starts : List ℕ) (f : ℕ → ℕ) (m : Mnemonic) (o : Operand) (v : ResolvedOperand) → IsNoConstant o
    → jump_operation_of m ≡ None → call_operation_of m ≡ None → rule_of_operand c (operand_rule_of m) o ≡ None → resolution_of c o ≡ Resolved v → IsConstantResolved o v → StandsAgain listed formals v
    → IsActedAgain listed m o (operand_by formals starts (block_opened_by_operand v) (operation_for m o v) (operand_with_target f (flat_operand_of o v))) v
no_constant_acts c listed formals starts f m o v n jumps calls h sees k stands =
    by_view listed formals starts f m o v jumps calls (rule_is c (operand_rule_of m) o v n sees h) (is_other o v n k) stands

by_operand : (c listed : Context) (formals : List Formal) (starts : List ℕ) (f : ℕ → ℕ) (m : Mnemonic) (o : Operand) (v : ResolvedOperand)
    → jump_operation_of m ≡ None → call_operation_of m ≡ None → rule_of_operand c (operand_rule_of m) o ≡ None → resolution_of c o ≡ Resolved v → IsConstantResolved o v → StandsAgain listed formals v
    → IsActedAgain listed m o (operand_by formals starts (block_opened_by_operand v) (operation_for m o v) (operand_with_target f (flat_operand_of o v))) v
by_operand c listed formals starts f m (operand.Constant value) v jumps calls h sees k stands = constant_acts c listed formals starts f m value v h k.0 k.1
by_operand c listed formals starts f m operand.Nothing v jumps calls h sees k stands = no_constant_acts c listed formals starts f m operand.Nothing v tt jumps calls h sees k stands
by_operand c listed formals starts f m (operand.Direct name a width byte bit) v jumps calls h sees k stands = no_constant_acts c listed formals starts f m (operand.Direct name a width byte bit) v tt jumps calls h sees k stands
by_operand c listed formals starts f m (operand.Timer number) v jumps calls h sees k stands = no_constant_acts c listed formals starts f m (operand.Timer number) v tt jumps calls h sees k stands
by_operand c listed formals starts f m (operand.Counter number) v jumps calls h sees k stands = no_constant_acts c listed formals starts f m (operand.Counter number) v tt jumps calls h sees k stands
by_operand c listed formals starts f m (operand.Named path steps) v jumps calls h sees k stands = no_constant_acts c listed formals starts f m (operand.Named path steps) v tt jumps calls h sees k stands
by_operand c listed formals starts f m (operand.ByMemory a width from byte) v jumps calls h sees k stands = no_constant_acts c listed formals starts f m (operand.ByMemory a width from byte) v tt jumps calls h sees k stands
by_operand c listed formals starts f m (operand.NumberBy what from byte) v jumps calls h sees k stands = no_constant_acts c listed formals starts f m (operand.NumberBy what from byte) v tt jumps calls h sees k stands
by_operand c listed formals starts f m (operand.ByRegister a width register bits) v jumps calls h sees k stands = no_constant_acts c listed formals starts f m (operand.ByRegister a width register bits) v tt jumps calls h sees k stands
by_operand c listed formals starts f m (operand.Pointer a byte bit) v jumps calls h sees k stands = no_constant_acts c listed formals starts f m (operand.Pointer a byte bit) v tt jumps calls h sees k stands
by_operand c listed formals starts f m (operand.Label name) v jumps calls h sees k stands = no_constant_acts c listed formals starts f m (operand.Label name) v tt jumps calls h sees k stands
by_operand c listed formals starts f m (operand.OfStatus flag) v jumps calls h sees k stands = no_constant_acts c listed formals starts f m (operand.OfStatus flag) v tt jumps calls h sees k stands
by_operand c listed formals starts f m (operand.Other name) v jumps calls h sees k stands = no_constant_acts c listed formals starts f m (operand.Other name) v tt jumps calls h sees k stands
by_operand c listed formals starts f m (operand.OpenBlock di name) v jumps calls h sees k stands = no_constant_acts c listed formals starts f m (operand.OpenBlock di name) v tt jumps calls h sees k stands
by_operand c listed formals starts f m (operand.Called name instance) v jumps calls h sees k stands = no_constant_acts c listed formals starts f m (operand.Called name instance) v tt jumps calls h sees k stands

pub operands_kept : AreOperandsKept
operands_kept c listed formals starts f m o v goes h sees k stands =
    acted_moved listed m o _ (operand_by formals starts (block_opened_by_operand v) (operation_for m o v) (operand_with_target f (flat_operand_of o v))) v
    (ap (λ (x : Option ℕ). operand_by formals starts x (operation_of (op_code_of (operation_for m o v))) (operand_with_target f (flat_operand_of o v))) (opened_back (block_opened_by_operand v))
    ∙ ap (λ (w : Operation). operand_by formals starts (block_opened_by_operand v) w (operand_with_target f (flat_operand_of o v))) (operation_again (operation_for m o v)))
    (by_operand c listed formals starts f m o v goes.jumps goes.calls h sees k stands)
