-- What fits a parameter in the code of a program fits the parameter in the listing.
use Rattle.std.specs.Prelude.{◌≡◌, nat_eq, true, false, List, Some}
use Rattle.plc_base.specs.Widths.{width_number}
use Rattle.flat_code.specs.Blocks.{Environment, is_bad_actual, misfits_parameter, parameter_meant}
use Rattle.flat_code.specs.Forms.{actual_fits}
use Rattle.flat_code.specs.declared.image_fields.ParameterRecord.{ParameterRecord}
use Rattle.flat_code.specs.declared.operands.Passed.{Passed}
use Rattle.flat_code.specs.declared.operands.Passed.TheVariants as passed
use Rattle.block_layout.specs.Offsets.{width_of}
use Rattle.stl_types.specs.Context.{Context, data_number}
use Rattle.stl_types.specs.Resolution.{resolution_of}
use Rattle.stl_types.specs.declared.parameters.Formal.{Formal}
use Rattle.stl_types.specs.declared.resolved_operands.Resolution.TheVariants.{Resolved}
use Rattle.stl_types.specs.declared.resolved_operands.ResolvedOperand.TheVariants as resolved
use Rattle.stl_parser.specs.Operands.{data_block_name}
use Rattle.stl_list.specs.Operands.{own_parameter as own_named}
use Rattle.stl_list.specs.Parameters.{section_of}
use Rattle.listing_laws.specs.Chains.{is_listed_type}
use Rattle.listing_laws.specs.Passings.{FitsListed}

-- a parameter as a listing has it is the one that a record of the code has
pub record IsListedAs (f : Formal) (r : ParameterRecord) : Type 0 where
  -- the parameter has the section of the record
  pub section : f.section ≡ section_of r.section
  -- the record has the width of the parameter's type
  pub width : r.width ≡ width_number (width_of f.kind)
  -- the type is one that a listing gives
  pub kind : is_listed_type f.kind ≡ true

-- what the rest of the listing owes: a parameter of the block itself is seen as such and has the
-- type that is asked for, and a data block is there
abbrev pub IsBacked : Environment → Context → (own : List Formal) → Formal → Passed → Type 0
IsBacked a c own f (passed.Parameter index width) =
    (g : Formal) × (r : ParameterRecord) × (parameter_meant a index ≡ Some r) × IsListedAs g r
    × (g.kind ≡ f.kind)
    × (resolution_of c (own_named own index) ≡ Resolved (resolved.Parameter index g.section g.kind))
IsBacked a c own f (passed.InBlock number area width byte bit) =
    (nat_eq number 0 ≡ false) × (data_number c (data_block_name number) ≡ Some number)
IsBacked a c own f _ = Unit {0}

-- what has no fault in the code fits in the listing, where what is passed is backed
abbrev pub AreFittingListed : Type 0
AreFittingListed =
    (a : Environment) (c : Context) (own : List Formal) (f : Formal) (r : ParameterRecord)
    (p : Passed)
    → IsListedAs f r → actual_fits p ≡ true → is_bad_actual a p ≡ false
    → misfits_parameter a r p ≡ false → IsBacked a c own f p → FitsListed c own f p
