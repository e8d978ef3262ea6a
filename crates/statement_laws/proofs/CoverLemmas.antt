-- What an instruction takes is named.
use Rattle.std.proofs.Common.{ℕ, ◌≡◌, Bool, true, false, is_some, Option, Some, None, refl, sym, ◌∙◌, ap}
use Rattle.std.specs.Option.{option_map, option_and_then}
use Rattle.std.proofs.lemmas.Bool.{false≢true}
use Rattle.stl_ast.specs.declared.names.BlockName.{BlockName}
use Rattle.stl_ast.specs.declared.operands.Letters.{Letters}
use Rattle.stl_ast.specs.declared.operands.Operand.{Operand}
use Rattle.stl_ast.specs.declared.operands.Operand.TheVariants as operand
use Rattle.stl_ast.specs.declared.operands.PathHead.TheVariants as head
use Rattle.stl_symbols.specs.Symbol.{Symbol, symbol_named}
use Rattle.stl_symbols.specs.declared.targets.Target.{Target}
use Rattle.stl_symbols.specs.declared.targets.Target.TheVariants as target
use Rattle.plc_base.specs.declared.places.Width.{Width}
use Rattle.stl_types.specs.Addresses.{address_in_block}
use Rattle.stl_types.specs.Context.{Context, data_number}
use Rattle.stl_types.specs.OperandRules.{operand_rule_of}
use Rattle.stl_types.specs.Operands.{rule_of_resolved_operand, takes_operand}
use Rattle.stl_types.specs.Resolution.{resolution_of_opened_block, resolution_of, resolution_of_symbol, resolved_target}
use Rattle.stl_types.specs.declared.operand_rules.OperandRule.{OperandRule}
use Rattle.stl_types.specs.declared.operand_rules.OperandRule.TheVariants as operand_rules
use Rattle.stl_types.specs.declared.resolved_operands.Resolution.TheVariants.{Resolved}
use Rattle.stl_types.specs.declared.resolved_operands.ResolvedOperand.{ResolvedOperand}
use Rattle.stl_types.specs.declared.resolved_operands.ResolvedOperand.TheVariants as resolved
use Rattle.statement_laws.specs.Laws.{OperandsAreNamed, has_fixed_name}
use Rattle.statement_laws.specs.NamedOperands.{NamedItem}
use Rattle.statement_laws.specs.NamedOperands as named
use Rattle.statement_laws.specs.Operands.{number_of_block_name, item_named_by, place_by, register_named, target_named}
use Rattle.statement_laws.specs.Operands as own
use Rattle.statement_laws.proofs.RuleLemmas.{some_is_not_none}
use Rattle.statement_laws.proofs.ResolutionLemmas.{about, number_known, resolved_parts, resolved_same, rule_with_constant}

-- something is named
abbrev pub IsSomeItem : Option NamedItem → Type 0
IsSomeItem o = (x : NamedItem) × (o ≡ Some x)

there : (o : Option NamedItem) → is_some o ≡ true → IsSomeItem o
there None e = absurd cc
there (Some x) e = (x, refl)

-- no instruction acts on the symbol of a block
block_refused : (f : OperandRule) → rule_of_resolved_operand f resolved.Block ≡ Some 25
unfolding rule_of_resolved_operand takes_operand
block_refused operand_rules.Bare = refl
block_refused operand_rules.ReadsBit = refl
block_refused operand_rules.ReadsBitOrBare = refl
block_refused operand_rules.WritesBit = refl
block_refused operand_rules.Sets = refl
block_refused operand_rules.Resets = refl
block_refused operand_rules.Loads = refl
block_refused operand_rules.Transfers = refl
block_refused operand_rules.LoadsBcd = refl
block_refused operand_rules.LoadsAr1 = refl
block_refused operand_rules.LoadsAr2 = refl
block_refused operand_rules.StoresAr1 = refl
block_refused operand_rules.StoresAr2 = refl
block_refused operand_rules.AddsToAr = refl
block_refused (operand_rules.Counts most) = refl
block_refused (operand_rules.Shifts most) = refl
block_refused operand_rules.Adds = refl
block_refused (operand_rules.Combines kind) = refl
block_refused operand_rules.Jumps = refl
block_refused operand_rules.StartsTimer = refl
block_refused operand_rules.Enables = refl
block_refused operand_rules.StepsCounter = refl
block_refused operand_rules.Calls = refl
block_refused operand_rules.Opens = refl

-- what names nothing: a block's symbol, and what isn't elementary
abbrev pub has_no_name : ResolvedOperand → Bool
has_no_name resolved.Block = true
has_no_name resolved.Composite = true
has_no_name resolved.Date = true
has_no_name _ = false

taken_named : (f : OperandRule) (v : ResolvedOperand) → rule_of_resolved_operand f v ≡ None → has_no_name v ≡ false
unfolding rule_of_resolved_operand
taken_named f resolved.Block e = absurd (some_is_not_none (sym (block_refused f) ∙ e))
taken_named f resolved.Composite e = absurd (some_is_not_none e)
taken_named f resolved.Date e = absurd (some_is_not_none e)
taken_named f _ e = refl

-- what an instruction takes is none of them
pub name_left : (c : Context) (f : OperandRule) (o : Operand) (v : ResolvedOperand)
    → rule_with_constant f (about o) v ≡ None → resolution_of c o ≡ Resolved v → has_no_name v ≡ false
unfolding resolution_of
name_left c f (operand.Constant value) v r e = ap has_no_name (sym (resolved_same resolved.Constant v e))
name_left c f _ v r e = taken_named f v r

target_there : (t : Target) (v : ResolvedOperand) → has_no_name v ≡ false
    → Resolved (resolved_target t) ≡ Resolved v → IsSomeItem (target_named t)
target_there (target.Variable place width) v r e = (own.named_place place width, refl)
target_there (target.Timer number) v r e = (named.Timer (named.Written number), refl)
target_there (target.Counter number) v r e = (named.Counter (named.Written number), refl)
target_there (target.Block id) v r e = absurd (false≢true (sym (ap has_no_name (resolved_same resolved.Block v e) ∙ r)))

symbol_there : (o : Option Symbol) (v : ResolvedOperand) → has_no_name v ≡ false
    → resolution_of_symbol o ≡ Resolved v
    → IsSomeItem (option_and_then target_named (option_map (λ s. s.target) o))
symbol_there None v r e = absurd cc
symbol_there (Some s) v r e = target_there s.target v r e

in_block_there : (c : Context) (name : BlockName) (a : Letters) (w : Width) (byte bit : ℕ)
    (v : ResolvedOperand) (o : Option ℕ) → data_number c name ≡ o
    → address_in_block o a w byte bit ≡ Resolved v
    → IsSomeItem (option_map (λ number. place_by (own.area_by_letters a) number w byte bit) (number_of_block_name c name))
in_block_there c name a w byte bit v None d e = absurd cc
in_block_there c name a w byte bit v (Some number) d e = (
  place_by (own.area_by_letters a) number w byte bit,
  ap (option_map (λ number. place_by (own.area_by_letters a) number w byte bit)) (number_known c name number d),
)

opened_there : (c : Context) (di : Bool) (name : BlockName) (v : ResolvedOperand) (o : Option ℕ)
    → data_number c name ≡ o → resolution_of_opened_block di o ≡ Resolved v
    → IsSomeItem (option_map (λ number. named.DataBlock di (named.Written number)) (number_of_block_name c name))
opened_there c di name v None d e = absurd cc
opened_there c di name v (Some number) d e = (
  named.DataBlock di (named.Written number),
  ap (option_map (λ number. named.DataBlock di (named.Written number))) (number_known c name number d),
)

pub named_there : (c : Context) (o : Operand) (v : ResolvedOperand)
    → has_fixed_name o ≡ true → has_no_name v ≡ false → resolution_of c o ≡ Resolved v
    → IsSomeItem (item_named_by c o)
unfolding resolution_of item_named_by
named_there c operand.Nothing v h r e = there _ refl
named_there c (operand.Direct None a w byte bit) v h r e = there _ refl
named_there c (operand.Direct (Some name) a w byte bit) v h r e =
    in_block_there c name a w byte bit v (data_number c name) refl e
named_there c (operand.Named (head.Symbol name) steps) v h r e =
    symbol_there (symbol_named name c.symbols) v r e
named_there c (operand.Named (head.Local name) steps) v h r e = absurd (false≢true h)
named_there c (operand.Named (head.InBlock name) steps) v h r e = absurd (false≢true h)
named_there c (operand.Other name) v h r e = there (register_named name) h
named_there c (operand.OpenBlock di name) v h r e =
    opened_there c di name v (data_number c name) refl e
named_there c (operand.Called name instance) v h r e = absurd (false≢true h)
named_there c (operand.Timer number) v h r e = there _ refl
named_there c (operand.Counter number) v h r e = there _ refl
named_there c (operand.ByMemory a w from byte) v h r e = there _ refl
named_there c (operand.NumberBy what from byte) v h r e = there _ refl
named_there c (operand.ByRegister a w register count) v h r e = there _ refl
named_there c (operand.Pointer a byte bit) v h r e = there _ refl
named_there c (operand.Constant value) v h r e = there _ refl
named_there c (operand.Label name) v h r e = there _ refl
named_there c (operand.OfStatus flag) v h r e = there _ refl

pub operands_are_named : OperandsAreNamed
operands_are_named c s v h e =
    named_there c s.operand v h
    (name_left c (operand_rule_of s.code) s.operand v ((resolved_parts c s v e).0) ((resolved_parts c s v e).1))
    ((resolved_parts c s v e).1)
