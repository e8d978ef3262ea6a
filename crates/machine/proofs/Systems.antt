-- A system call of an activation that fits: its result has a place, and is written there.
use Rattle.std.proofs.Common.{◌≡◌, ◌∙◌, ◌+◌, ◌-◌, ◌/◌, ◌%◌, ◌^◌, ◌<◌, ℕ, suc, Bool, true, false, cond, eqb, is_some, IsSome, List, [], ◌∷◌, slice_get, unwrap_or, Option, Some, None, Result, Ok, Err, refl, sym, ap, subst, arith}
use Rattle.std.proofs.lemmas.Bool.{eqb-true}
use Rattle.std.specs.Option.{option_map}
use Rattle.plc_base.specs.declared.Area.{Area}
use Rattle.plc_base.specs.declared.Area.TheVariants as areas
use Rattle.plc_base.specs.declared.Place.{Place}
use Rattle.plc_base.specs.declared.Width.{Width}
use Rattle.plc_base.specs.declared.Width.TheVariants as widths
use Rattle.plc_base.specs.declared.blocks.BlockKind.TheVariants as kinds
use Rattle.plc_mem.specs.Areas.{Areas}
use Rattle.plc_mem.specs.BitPlace.{PeripheralInputs, PeripheralOutputs}
use Rattle.plc_mem.specs.Bits.{bit_at, bit_of_byte, region_byte}
use Rattle.plc_mem.specs.Fresh.{initial_memory}
use Rattle.plc_mem.specs.Number.{number_at_place, EachBitExists, region_of, operand_bit}
use Rattle.plc_mem.specs.Places.{HasImage}
use Rattle.plc_mem.specs.Writing.{number_written}
use Rattle.plc_base.specs.Widths.{bit_count}
use Rattle.plc_mem.specs.Run.{number_over}
use Rattle.plc_mem.proofs.KeptMemory.{number_fits, over_fits}
use Rattle.plc_mem.proofs.Runs.{chained_value}
use Rattle.plc_mem.proofs.Lawful.{reads_where_each_bit_exists, writing_exists}
use Rattle.frames.specs.Locals.{LocalData, local_operand_start, local_number, local_written}
use Rattle.frames.specs.declared.Activation.{Activation}
use Rattle.frames.specs.declared.bindings.Binding.{Binding}
use Rattle.frames.specs.declared.bindings.Binding.TheVariants as binding
use Rattle.frames.specs.declared.frame.Frame.{Frame}
use Rattle.flat_code.specs.declared.programs.Param.{Param}
use Rattle.flat_code.specs.Instr.{Passing}
use Rattle.flat_code.specs.Programs.{CodeBlock, Program}
use Rattle.flat_code.specs.Records.{section_out, section_in}
use Rattle.image_file.specs.Readers.{block_by_id}
use Rattle.machine.specs.declared.places.Location.{Location}
use Rattle.machine.specs.Bindings.{param_bindings}
use Rattle.machine.specs.Entering.{at_block, activation_continued_at}
use Rattle.machine.specs.Fitting.{ExistsIn, IsBound, AreBound, IsMemoryOf, LocalsFit, SameParts}
use Rattle.machine.specs.Flat.{code_of}
use Rattle.machine.specs.ImageLaws.{ImageLaws}
use Rattle.machine.specs.Lasting.{StepFitsAgain, FitWidths, TakesResult, input_widths}
use Rattle.machine.specs.OpenBrackets.{open_codes}
use Rattle.machine.specs.ExecState.{Local, LocalMemory, local_of, then_ok}
use Rattle.machine.specs.Places.{is_area_l, location_number}
use Rattle.machine.specs.Statement.{GlobalStore, after_system_call, system_call_made}
use Rattle.machine.specs.SystemCalls.{system_call_arguments, input_of, inputs_from, result_from, system_call, system_function}
use Rattle.machine.specs.Values.{with_locals, number_stored_at}
use Rattle.machine.proofs.BindingLemmas.{PassingsFit, is_among, bound_of}
use Rattle.machine.proofs.CallLemmas.{Caller, caller, function_bound, caller_binds, caller_known, going_fits}
use Rattle.machine.proofs.Errors.{IfKnownError}
use Rattle.machine.proofs.FrameBytes.{mapped_there, lies_written, locals_moved}
use Rattle.machine.proofs.Keeping.{IfDone}
use Rattle.machine.proofs.Moving.{stands_of}
use Rattle.machine.proofs.Sizes.{part_bits}

-- ---- a place with a number can be written

-- of a memory of a program the peripheral outputs are as many as the peripheral inputs
record Written (m : Areas) : Type 0 where
  outputs : SameParts m.peripheral_inputs m.peripheral_outputs
  image : HasImage m

of_program : (p : Program) (m : Areas) → IsMemoryOf (code_of p) m → Written m
unfolding initial_memory
of_program p m is = record {
  outputs = record {
    low = is.sizes.peripheral_outputs.low ∙ sym is.sizes.peripheral_inputs.low;
    high = is.sizes.peripheral_outputs.high ∙ sym is.sizes.peripheral_inputs.high;
  };
  image = record { image = is.sizes.outputs; outputs_low = is.sizes.peripheral_outputs.low };
}

both_parts :
    (m : Areas) (byte bit : ℕ) → SameParts m.peripheral_inputs m.peripheral_outputs
    → is_some (bit_of_byte (region_byte m PeripheralOutputs byte) bit) ≡ is_some (bit_of_byte (region_byte m PeripheralInputs byte) bit)
both_parts m byte bit same = part_bits m.peripheral_inputs m.peripheral_outputs byte bit same

peripheral_bits :
    (m : Areas) (place : Place) (width : Width) (j : ℕ) → SameParts m.peripheral_inputs m.peripheral_outputs
    → IsSome (bit_at m (operand_bit PeripheralInputs place width j)) → IsSome (bit_at m (operand_bit PeripheralOutputs place width j))
unfolding bit_at
peripheral_bits m place widths.Bit j same there = both_parts m place.byte place.bit same ∙ there
peripheral_bits m place widths.Byte j same there = both_parts m (place.byte + (1 - 1 - j / 8)) (j % 8) same ∙ there
peripheral_bits m place widths.Word j same there = both_parts m (place.byte + (2 - 1 - j / 8)) (j % 8) same ∙ there
peripheral_bits m place widths.Dword j same there = both_parts m (place.byte + (4 - 1 - j / 8)) (j % 8) same ∙ there

each_writable :
    (m : Areas) (area : Area) (place : Place) (width : Width) → SameParts m.peripheral_inputs m.peripheral_outputs
    → EachBitExists m (region_of PeripheralInputs area place.number) place width
    → EachBitExists m (region_of PeripheralOutputs area place.number) place width
each_writable m areas.P place width same all = by (eqb place.number 0) all
  where
    by : (t : Bool) → EachBitExists m (cond t (Some PeripheralInputs) None) place width → EachBitExists m (cond t (Some PeripheralOutputs) None) place width
    by true all = λ j below. peripheral_bits m place width j same (all j below)
    by false all = all
each_writable m areas.I place width same all = all
each_writable m areas.Q place width same all = all
each_writable m areas.M place width same all = all
each_writable m areas.Db place width same all = all
each_writable m areas.Di place width same all = all
each_writable m areas.L place width same all = all

writable :
    (m : Areas) (place : Place) (width : Width) (value : ℕ) → Written m → IsSome (number_at_place m place width)
    → IsSome (number_written m place width value)
writable m place width value w there =
    let reads = reads_where_each_bit_exists m place width in
    let writes = writing_exists m place width value (λ is. w.image) in
    writes.1 (each_writable m place.area place width w.outputs (reads.0 there))

stored_there :
    (frames : List Frame) (m : Areas) (at : Location) (value : ℕ) (s : Local) → LocalsFit frames s.locals → Written m
    → ExistsIn at.place.area at frames m → IsSome (number_stored_at at value s m)
stored_there frames m at value s fits w exists = by at.place.area exists
  where
    in_memory : IsSome (number_at_place m at.place at.width)
        → IsSome (option_map (λ (memory : Areas). let r : LocalMemory = record { local = s; memory = memory } in r) (number_written m at.place at.width value))
    in_memory there = mapped_there _ (number_written m at.place at.width value) (writable m at.place at.width value w there)

    by : (area : Area) → ExistsIn area at frames m
        → IsSome (cond (is_area_l area)
        (option_map (λ (l : LocalData). let r : LocalMemory = record { local = with_locals s l; memory = m } in r) (local_written s.locals at.frame at.place.byte at.place.bit at.width value))
        (option_map (λ (memory : Areas). let r : LocalMemory = record { local = s; memory = memory } in r) (number_written m at.place at.width value)))
    by areas.L exists =
        mapped_there _ (local_written s.locals at.frame at.place.byte at.place.bit at.width value)
        (lies_written frames s.locals at.frame at.place.byte at.place.bit value at.width fits exists)
    by areas.I exists = in_memory exists
    by areas.Q exists = in_memory exists
    by areas.M exists = in_memory exists
    by areas.P exists = in_memory exists
    by areas.Db exists = in_memory exists
    by areas.Di exists = in_memory exists

-- ---- the inputs

power_some : (w : Width) → 0 < 2 ^ bit_count w
power_some widths.Bit = omega arith
power_some widths.Byte = omega arith
power_some widths.Word = omega arith
power_some widths.Dword = omega arith

local_fits :
    (l : LocalData) (frame at bit : ℕ) (width : Width) (n : ℕ) → local_number l frame at bit width ≡ Some n → n < 2 ^ bit_count width
unfolding local_number
local_fits l frame at bit width n is =
    let found = chained_value (λ (place : ℕ). number_over (slice_get l.bytes) place bit width) (local_operand_start l frame at width) n is in
    over_fits (slice_get l.bytes) found.0 bit width (Some n) (sym found.2)

place_fits : (at : Location) (l : LocalData) (m : Areas) (n : ℕ) → location_number at l m ≡ Some n → n < 2 ^ bit_count at.width
place_fits at l m n is = by (is_area_l at.place.area) is
  where
    by : (local : Bool) → cond local (local_number l at.frame at.place.byte at.place.bit at.width) (number_at_place m at.place at.width) ≡ Some n → n < 2 ^ bit_count at.width
    by true is = local_fits l at.frame at.place.byte at.place.bit at.width n is
    by false is = number_fits m at.place at.width n is

given_fits :
    (p : Param) (frames : List Frame) (m : Areas) (b : Binding) (s : Local) → IsBound kinds.Fc p frames m b
    → input_of (Some b) s m < 2 ^ bit_count p.width
given_fits p frames m (binding.AtPlace at width frame) s is =
    by (location_number (record { place = at; width = width; frame = frame }) s.locals m) refl
  where
    by : (o : Option ℕ) → location_number (record { place = at; width = width; frame = frame }) s.locals m ≡ o → unwrap_or o 0 < 2 ^ bit_count p.width
    by None e = power_some p.width
    by (Some n) e = subst (λ (w : Width). n < 2 ^ bit_count w) is.0 (place_fits (record { place = at; width = width; frame = frame }) s.locals m n e)
given_fits p frames m (binding.Constant value) s is = is.1
given_fits p frames m binding.Unsupplied s is = absurd is

inputs_fit :
    (ps : List Param) (frames : List Frame) (m : Areas) (bs : List Binding) (i : ℕ) (s : Local)
    → ((j : ℕ) (q : Param) → slice_get ps j ≡ Some q → (b : Binding) × (slice_get bs (i + j) ≡ Some b) × IsBound kinds.Fc q frames m b)
    → FitWidths (input_widths ps) (inputs_from ps i bs s m)
inputs_fit [] frames m bs i s each = tt
inputs_fit (p ∷ ps) frames m bs i s each =
    by (eqb p.section section_in)
    (inputs_fit ps frames m bs (i + 1) s (λ j q found.
    let one = each (suc j) q found in
    let at : i + 1 + j ≡ i + suc j = omega arith in
    (one.0, ap (slice_get bs) at ∙ one.1, one.2)))
  where
    by : (t : Bool) → FitWidths (input_widths ps) (inputs_from ps (i + 1) bs s m)
        → FitWidths (cond t (p.width ∷ input_widths ps) (input_widths ps)) (cond t (input_of (slice_get bs i) s m ∷ inputs_from ps (i + 1) bs s m) (inputs_from ps (i + 1) bs s m))
    by true more =
        let one = each 0 p refl in
        let at : i + 0 ≡ i = omega arith in
        let found : slice_get bs i ≡ Some one.0 = ap (slice_get bs) (sym at) ∙ one.1 in
        (subst (λ (o : Option Binding). input_of o s m < 2 ^ bit_count p.width) (sym found) (given_fits p frames m one.0 s one.2), more)
    by false more = more

-- ---- the result

result_taken :
    (ps : List Param) (frames : List Frame) (m : Areas) (bs : List Binding) (i : ℕ) (a : Activation)
    → LocalsFit frames a.running.locals → Written m
    → ((j : ℕ) (q : Param) → slice_get ps j ≡ Some q → (b : Binding) × (slice_get bs (i + j) ≡ Some b) × IsBound kinds.Fc q frames m b)
    → TakesResult (result_from ps i bs) a m
result_taken [] frames m bs i a fits w each = tt
result_taken (p ∷ ps) frames m bs i a fits w each =
    by (eqb p.section section_out) refl
    (result_taken ps frames m bs (i + 1) a fits w (λ j q found.
    let one = each (suc j) q found in
    let at : i + 1 + j ≡ i + suc j = omega arith in
    (one.0, ap (slice_get bs) at ∙ one.1, one.2)))
  where
    taken : (b : Binding) → IsBound kinds.Fc p frames m b → p.section ≡ section_out → TakesResult (Some b) a m
    taken (binding.AtPlace at width frame) is two =
        λ value. stored_there frames m (record { place = at; width = width; frame = frame }) value (local_of a.running) fits w is.1
    taken (binding.Constant value) is two = let one = is.0 in absurd (omega (arith, one, two))
    taken binding.Unsupplied is two = absurd is

    by : (t : Bool) → eqb p.section section_out ≡ t → TakesResult (result_from ps (i + 1) bs) a m → TakesResult (cond t (slice_get bs i) (result_from ps (i + 1) bs)) a m
    by true e more =
        let one = each 0 p refl in
        let at : i + 0 ≡ i = omega arith in
        let found : slice_get bs i ≡ Some one.0 = ap (slice_get bs) (sym at) ∙ one.1 in
        rw found (taken one.0 one.2 (eqb-true p.section section_out e))
    by false e more = more

system_lasts :
    (l : ImageLaws) (p : Program) (a : Activation) (w : GlobalStore) (next number : ℕ) (ps : List Param) (r : Result (List Binding) ℕ)
    → Caller p w.memory a next → system_function number ≡ Some ps → IfKnownError r → IfDone (AreBound kinds.Fc ps (caller a next ∷ a.below) w.memory) r
    → StepFitsAgain p w (after_system_call (then_ok r (λ bs. Ok (system_call_arguments ps bs (local_of a.running) w.memory))) number next a)
system_lasts l p a w next number ps (Err code) h function_is known bound = (known, going_fits l p w.memory a next a.running.regs h.fits h.statement_start)
system_lasts l p a w next number ps (Ok bs) h function_is known bound =
    let was = stands_of (code_of p) (open_codes p) w.memory a h.fits.fits in (
      rw function_is (inputs_fit ps (caller a next ∷ a.below) w.memory bs 0 (local_of a.running) (λ j q found.
          let one = bound_of kinds.Fc ps (caller a next ∷ a.below) w.memory bs j q bound found in
          let at : 0 + j ≡ j = omega arith in
          (one.0, ap (slice_get bs) at ∙ one.1, one.2))),
      result_taken ps (caller a next ∷ a.below) w.memory bs 0 (activation_continued_at next (at_block a.running.regs) a)
          (locals_moved a.running.frame (caller a next) a.below a.running.locals refl was.locals)
          (of_program p w.memory h.fits.memory)
          (λ j q found.
          let one = bound_of kinds.Fc ps (caller a next ∷ a.below) w.memory bs j q bound found in
          let at : 0 + j ≡ j = omega arith in
          (one.0, ap (slice_get bs) at ∙ one.1, one.2)),
      going_fits l p w.memory a next (at_block a.running.regs) h.fits h.statement_start,
    )

pub function_called_lasts :
    (l : ImageLaws) (p : Program) (a : Activation) (w : GlobalStore) (next number : ℕ) (own : CodeBlock) (ps : List Param) (xs : List Passing)
    → Caller p w.memory a next → system_function number ≡ Some ps → block_by_id a.running.frame.block p.code_blocks ≡ Some own
    → PassingsFit a.running.frame.block.kind own.params ps xs
    → ((i : ℕ) (q : Param) → slice_get ps i ≡ Some q → is_among i xs ≡ true)
    → StepFitsAgain p w (system_call_made (Some ps) number xs next a w)
unfolding system_call
function_called_lasts l p a w next number own ps xs h function_is own_is fits each =
    let bound = caller_binds p w.memory a own ps next xs own_is h.fits fits in
    system_lasts l p a w next number ps (param_bindings ps xs (local_of a.running) w.memory) h function_is (caller_known p w.memory a own ps xs own_is h.fits fits)
    (function_bound ps (caller a next ∷ a.below) w.memory xs (param_bindings ps xs (local_of a.running) w.memory) each bound)
