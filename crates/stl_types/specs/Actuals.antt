-- Which actual parameters fit which parameters.
use Rattle.std.specs.Prelude.{ℕ, nat_eq, Bool, true, false, ◌&&◌, ◌||◌, not, find, List, Option, Some, None}
use Rattle.std.specs.Str.{bytes_eq}
use Rattle.plc_base.specs.Widths.{width_number}
use Rattle.plc_base.specs.declared.places.Width.{Width}
use Rattle.plc_base.specs.declared.places.Width.TheVariants as width
use Rattle.stl_ast.specs.declared.blocks.PartKind.{PartKind}
use Rattle.stl_ast.specs.declared.blocks.PartKind.TheVariants as part
use Rattle.stl_ast.specs.declared.declarations.Simple.{Simple}
use Rattle.stl_ast.specs.declared.declarations.Simple.TheVariants as simple
use Rattle.stl_ast.specs.declared.operands.Operand.{Operand}
use Rattle.stl_ast.specs.declared.operands.Operand.TheVariants as operand
use Rattle.plc_base.specs.Folding.{upper_case_name}
use Rattle.block_layout.specs.Fits.{fits_elementary_type}
use Rattle.block_layout.specs.Offsets.{width_of}
use Rattle.stl_types.specs.Context.{Context}
use Rattle.stl_types.specs.Resolution.{resolution_of}
use Rattle.stl_types.specs.declared.parameters.Formal.{Formal}
use Rattle.stl_types.specs.declared.resolved_operands.Resolution.{Resolution}
use Rattle.stl_types.specs.declared.resolved_operands.Resolution.TheVariants.{Resolved, Unknown, Unjudged}
use Rattle.stl_types.specs.declared.resolved_operands.Side.{Side}
use Rattle.stl_types.specs.declared.resolved_operands.Side.TheVariants as side
use Rattle.stl_types.specs.declared.resolved_operands.ResolvedOperand.{ResolvedOperand}
use Rattle.stl_types.specs.declared.resolved_operands.ResolvedOperand.TheVariants as resolved

-- the parameter of this name among those of a block; none where no one has it
abbrev pub formal_named : List Formal → List ℕ → Option Formal
formal_named formals name = find (λ f. bytes_eq (upper_case_name name) f.name) formals

-- VAR_INPUT, the section of input parameters
abbrev pub is_input_section : PartKind → Bool
is_input_section part.Input = true
is_input_section _ = false

-- two widths are equal
abbrev pub is_same_width : Width → Width → Bool
is_same_width a b = nat_eq (width_number a) (width_number b)

-- elementary types by number
abbrev pub type_number : Simple → ℕ
type_number simple.Bool = 1
type_number simple.Byte = 2
type_number simple.Char = 3
type_number simple.Word = 4
type_number simple.Int = 5
type_number simple.S5time = 6
type_number simple.Dword = 7
type_number simple.Dint = 8
type_number simple.Time = 9

-- two elementary types are equal
abbrev pub is_same_type : Simple → Simple → Bool
is_same_type a b = nat_eq (type_number a) (type_number b)

-- a parameter of a section takes an operand of the peripheral area: IN no PQ, OUT and IN_OUT no PI
abbrev pub takes_side : PartKind → Side → Bool
takes_side section side.Both = true
takes_side section side.Inputs = is_input_section section
takes_side section side.Outputs = not (is_input_section section)

-- a parameter of a section takes a parameter of the function that calls, of the section `own`: IN
-- takes each, OUT and IN_OUT take no input
abbrev pub takes_section : PartKind → (own : PartKind) → Bool
takes_section section own = is_input_section section || not (is_input_section own)

-- an absolute operand fits by its width, a variable by its type
abbrev pub fits_type : Formal → Width → Option Simple → Bool
fits_type f w None = is_same_width w (width_of f.kind)
fits_type f w (Some declared) = is_same_type declared f.kind

-- what an actual parameter names fits a parameter
unfoldable pub fits_resolved_operand : Formal → ResolvedOperand → Bool
fits_resolved_operand f (resolved.Direct place w side declared) =
    fits_type f w declared && takes_side f.section side
fits_resolved_operand f (resolved.Parameter index own declared) =
    is_same_type declared f.kind && takes_section f.section own
fits_resolved_operand f _ = false

-- what an operand comes to fits a parameter; one that isn't there or isn't checked breaks no
-- further rule
abbrev pub fits_resolution : Formal → Resolution → Bool
fits_resolution f (Resolved v) = fits_resolved_operand f v
fits_resolution f Unknown = true
fits_resolution f Unjudged = true

-- the operand of an actual parameter fits a parameter: a constant an IN parameter by its type
unfoldable pub fits_operand : Context → Formal → Operand → Bool
fits_operand c f (operand.Constant value) =
    is_input_section f.section && fits_elementary_type value f.kind
fits_operand c f o = fits_resolution f (resolution_of c o)
