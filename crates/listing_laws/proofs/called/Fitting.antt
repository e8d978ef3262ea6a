-- What fits in the code fits in the listing.
use Rattle.std.proofs.Common.{◌≡◌, ℕ, Bool, true, false, ◌&&◌, ◌||◌, not, refl, sym, ap, ◌∙◌, if◌then◌else◌, eqb-true, ltb-true}
use Rattle.std.specs.Prelude.{◌==◌}
use Rattle.std.proofs.lemmas.Bool.{or_parts}
use Rattle.plc_base.specs.Widths.{width_number}
use Rattle.plc_base.specs.declared.places.Area.{Area}
use Rattle.plc_base.specs.declared.places.Area.TheVariants as area
use Rattle.plc_base.specs.declared.places.Width.{Width}
use Rattle.plc_base.specs.declared.places.Width.TheVariants as width
use Rattle.flat_code.specs.Records.{section_in}
use Rattle.flat_code.specs.Blocks.{Environment, is_bad_actual, is_in_parameter, lacks_own_parameter, literal_fits, parameter_meant}
use Rattle.flat_code.specs.declared.image_fields.ParameterRecord.{ParameterRecord}
use Rattle.flat_code.specs.declared.operands.Passed.TheVariants as passed
use Rattle.stl_ast.specs.declared.blocks.PartKind.TheVariants as part
use Rattle.block_layout.specs.Offsets.{width_of}
use Rattle.stl_types.specs.Actuals.{is_input_section}
use Rattle.stl_types.specs.declared.parameters.Formal.{Formal}
use Rattle.stl_list.specs.Parameters.{section_of}
use Rattle.listing_laws.specs.Fitting.{AreFittingListed, IsListedAs}

not_not : (t : Bool) → not t ≡ false → t ≡ true
not_not true e = refl
not_not false e = absurd cc

pub same_widths : (a b : Width) → width_number a ≡ width_number b → a ≡ b
same_widths width.Bit width.Bit e = refl
same_widths width.Byte width.Byte e = refl
same_widths width.Word width.Word e = refl
same_widths width.Dword width.Dword e = refl
same_widths width.Bit _ e = absurd cc
same_widths width.Byte _ e = absurd cc
same_widths width.Word _ e = absurd cc
same_widths width.Dword _ e = absurd cc

-- the width of what is passed is that of its parameter
pub width_is : (f : Formal) (r : ParameterRecord) (w : Width) → IsListedAs f r → not (r.width == width_number w) ≡ false → w ≡ width_of f.kind
width_is f r w h e =
    same_widths w (width_of f.kind) (sym (eqb-true r.width (width_number w) (not_not (r.width == width_number w) e)) ∙ h.width)

input_is : (n : ℕ) → is_input_section (section_of n) ≡ (n == 1)
input_is n = by (n == 1) (n == 2)
  where
    by : (s t : Bool) → is_input_section (if s then part.Input else if t then part.Output else part.InOut) ≡ s
    by true t = refl
    by false true = refl
    by false false = refl

section_is : (f : Formal) (r : ParameterRecord) → IsListedAs f r → is_input_section f.section ≡ (r.section == section_in)
section_is f r h = ap is_input_section h.section ∙ input_is r.section

section_taken : (s own : Bool) → (not s && own) ≡ false → (s || not own) ≡ true
section_taken true own e = refl
section_taken false true e = absurd cc
section_taken false false e = refl

in_block_is : (a : Environment) (number : ℕ) (g : Area) (w : Width) (byte bit : ℕ) → is_bad_actual a (passed.InBlock number g w byte bit) ≡ false → g ≡ area.Db
in_block_is a number area.Db w byte bit e = refl
in_block_is a number area.I w byte bit e = absurd cc
in_block_is a number area.Q w byte bit e = absurd cc
in_block_is a number area.M w byte bit e = absurd cc
in_block_is a number area.P w byte bit e = absurd cc
in_block_is a number area.Di w byte bit e = absurd cc
in_block_is a number area.L w byte bit e = absurd cc

pub fitting_listed : AreFittingListed
fitting_listed a c own f r (passed.Literal value) h few right fits backed =
    let parts = or_parts (not (r.section == section_in)) (not (literal_fits r.width value)) fits in (
      section_is f r h ∙ not_not (r.section == section_in) parts.0,
      h.kind,
      ap (λ (n : ℕ). literal_fits n value) (sym h.width) ∙ not_not (literal_fits r.width value) parts.1,
      ltb-true value 4294967296 few,
    )
fitting_listed a c own f r (passed.Direct g w byte bit) h few right fits backed = width_is f r w h fits
fitting_listed a c own f r (passed.InBlock number g w byte bit) h few right fits backed =
    (width_is f r w h fits, in_block_is a number g w byte bit right, backed.0, backed.1)
fitting_listed a c own f r (passed.Parameter index w) h few right fits backed =
    let parts = or_parts (not (r.width == width_number w)) (not (r.section == section_in) && is_in_parameter (parameter_meant a index)) fits in (
      backed.0,
      width_is backed.0 backed.1 w backed.3 (ap (λ o. lacks_own_parameter o w) (sym backed.2) ∙ right),
      backed.4,
      section_taken (is_input_section f.section) (is_input_section backed.0.section)
          (ap (λ (t : Bool). not t && is_input_section backed.0.section) (section_is f r h)
          ∙ ap (λ (t : Bool). not (r.section == section_in) && t) (section_is backed.0 backed.1 backed.3)
          ∙ ap (λ o. not (r.section == section_in) && is_in_parameter o) (sym backed.2) ∙ parts.1),
      backed.5,
    )
