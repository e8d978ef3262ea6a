-- The rules that a declaration breaks by itself, whatever stands around it.
use Rattle.std.specs.Prelude.{ℕ, Bool, not, List}
use Rattle.plc_base.specs.declared.refusals.Refusal.{Refusal}
use Rattle.stl_ast.specs.declared.declarations.Declaration.{Declaration}
use Rattle.plc_base.specs.Least.{broken_if}
use Rattle.block_layout.specs.Declarations.{is_unknown_type, has_upside_down, init_fits}
use Rattle.block_layout.specs.Types.{Types}
use Rattle.block_layout.specs.declared.alone.DeclarationFault.{DeclarationFault}
use Rattle.block_layout.specs.declared.alone.DeclarationFault.TheVariants as fault

-- a declaration breaks this one of the rules
abbrev pub breaks_by : Types → DeclarationFault → Declaration → Bool
breaks_by y fault.UnknownType d = is_unknown_type y d.of.of
breaks_by y fault.UnfitValue d = not (init_fits d)
breaks_by y fault.UpsideDown d = has_upside_down d

-- the number of the rule that a declaration breaks by itself
abbrev pub rule_by : DeclarationFault → ℕ
rule_by fault.UnknownType = 23
rule_by fault.UnfitValue = 41
rule_by fault.UpsideDown = 42

-- the refusal of a declaration that breaks this one of the rules, at its line
abbrev pub refusals_by : Types → DeclarationFault → Declaration → List Refusal
refusals_by y a d = broken_if (breaks_by y a d) d.line (rule_by a)
