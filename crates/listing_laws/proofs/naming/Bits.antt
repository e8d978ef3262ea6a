-- In a program that has an image and verifies only a bit has a bit number.
use Rattle.std.proofs.Common.{◌≡◌, ℕ, ◌+◌, ◌≤◌, Bool, true, false, ◌&&◌, not, List, [], ◌∷◌, ◌++◌, map, Option, Some, None, refl}
use Rattle.std.specs.Prelude.{◌==◌, ◌||◌, nat_le}
use Rattle.std.specs.List.{AllByRecursion}
use Rattle.std.proofs.lemmas.Bool.{and_parts, eqb-true, leb-true}
use Rattle.plc_base.proofs.ListLemmas.{all_append}
use Rattle.plc_base.specs.declared.places.Area.{Area}
use Rattle.plc_base.specs.declared.places.Area.TheVariants as area
use Rattle.plc_base.specs.declared.places.Width.{Width}
use Rattle.plc_base.specs.declared.places.Width.TheVariants as width
use Rattle.flat_code.specs.Blocks.{Environment, at_offset, block_faults, faults_over, is_bad_actual, is_bad_place, is_odd_bit, is_past_locals, is_stray_pass, lacks_width, op_faults, operand_fault, seven_if}
use Rattle.flat_code.specs.Codes.{are_ops, size_of_op}
use Rattle.flat_code.specs.Forms.{passed_coding, actual_fits, direct_coding, payload_fits}
use Rattle.flat_code.specs.Image.{IsProgram, record_of_block}
use Rattle.flat_code.specs.Loading.{AreVerified, Verifies, environment_of_block, lens_of}
use Rattle.flat_code.specs.Ops.{OpData, is_op}
use Rattle.flat_code.specs.PlacedOps.{PlacedOp, StatementStart, before_next, brackets_after, ops_placed, starts_of_statements, zones_behind_op}
use Rattle.flat_code.specs.Programs.{CodeBlock, Program}
use Rattle.flat_code.specs.Records.{BlockRecord}
use Rattle.flat_code.specs.declared.image_fields.OpenBracket.{OpenBracket}
use Rattle.flat_code.specs.declared.operands.Operand.TheVariants as flat
use Rattle.flat_code.specs.declared.operands.Operand.{Operand as FlatOperand}
use Rattle.flat_code.specs.declared.operands.Passed.TheVariants as passed
use Rattle.flat_code.specs.declared.operands.Passed.{Passed}
use Rattle.stl_ast.specs.Operands.{IsBitOf}
use Rattle.stl_list.specs.Runs.{StatementOps, runs, runs_from}
use Rattle.block_layout.proofs.CommonLemmas.{none_left, none_right, or_first, or_second}
use Rattle.listing_laws.proofs.FormLemmas.{IsHead, program_heads}
use Rattle.listing_laws.proofs.NameLemmas.{either_way}

abbrev pub PassedBit : Passed → Type 0
PassedBit (passed.Direct a w byte bit) = IsBitOf w bit
PassedBit (passed.InBlock number a w byte bit) = IsBitOf w bit
PassedBit _ = Unit {0}

abbrev pub OperandBit : FlatOperand → Type 0
OperandBit (flat.Direct a w byte bit) = IsBitOf w bit
OperandBit (flat.Pass index p) = PassedBit p
OperandBit _ = Unit {0}

abbrev OpBit : OpData → Type 0
OpBit op = OperandBit op.operand

-- ---- ops

not_false : (b : Bool) → not b ≡ false → b ≡ true
not_false true e = refl
not_false false e = absurd cc

no_fault : (at : ℕ) (fault : Option ℕ) → at_offset at fault ≡ [] → fault ≡ None
no_fault at None e = refl
no_fault at (Some code) e = absurd cc

no_seven : (b : Bool) → seven_if b ≡ None → b ≡ false
no_seven true e = absurd cc
no_seven false e = refl

-- a place that fits its form and has no odd bit
place_bit : (w : Width) (bit : ℕ) → bit ≤ 7 → is_odd_bit w bit ≡ false → IsBitOf w bit
place_bit width.Bit bit h e = h
place_bit width.Byte bit h e = eqb-true bit 0 (not_false (bit == 0) e)
place_bit width.Word bit h e = eqb-true bit 0 (not_false (bit == 0) e)
place_bit width.Dword bit h e = eqb-true bit 0 (not_false (bit == 0) e)

direct_bit : (a : Area) (w : Width) (byte bit : ℕ) → direct_coding.fits (a, (w, (byte, bit))) ≡ true → bit ≤ 7
unfolding direct_coding
direct_bit a w byte bit e = leb-true bit 7 (and_parts (nat_le 0 bit) (nat_le bit 7) (and_parts _ (nat_le 0 bit && nat_le bit 7) (and_parts _ _ e).1).1).1

passed_bit : (around : Environment) (p : Passed) → actual_fits p ≡ true → is_bad_actual around p ≡ false → PassedBit p
passed_bit around (passed.Literal value) h e = tt
passed_bit around (passed.Parameter index w) h e = tt
passed_bit around (passed.Direct a w byte bit) h e = place_bit w bit (direct_bit a w byte bit h) (or_first (is_odd_bit w bit) (is_past_locals around a w byte) e)
passed_bit around (passed.InBlock number area.Db w byte bit) h e = place_bit w bit (direct_bit area.Db w byte bit (and_parts _ _ h).1) e
passed_bit around (passed.InBlock number area.I w byte bit) h e = absurd cc
passed_bit around (passed.InBlock number area.Q w byte bit) h e = absurd cc
passed_bit around (passed.InBlock number area.M w byte bit) h e = absurd cc
passed_bit around (passed.InBlock number area.Di w byte bit) h e = absurd cc
passed_bit around (passed.InBlock number area.L w byte bit) h e = absurd cc
passed_bit around (passed.InBlock number area.P w byte bit) h e = absurd cc

operand_bit : (around : Environment) (ss : List StatementStart) (p : PlacedOp) (o : FlatOperand) → payload_fits o ≡ true → operand_fault around ss p o ≡ None → OperandBit o
unfolding passed_coding
operand_bit around ss p (flat.Direct a w byte bit) h e =
    place_bit w bit (direct_bit a w byte bit h)
    (or_first (is_odd_bit w bit) (is_past_locals around a w byte)
    (or_second (lacks_width p.op w) (is_bad_place around a w byte bit) (no_seven (lacks_width p.op w || is_bad_place around a w byte bit) e)))
operand_bit around ss p (flat.Pass index x) h e =
    passed_bit around x (and_parts _ (actual_fits x) h).1 (or_second (is_stray_pass p index) (is_bad_actual around x) (no_seven (is_stray_pass p index || is_bad_actual around x) e))
operand_bit around ss p _ h e = tt

payload_is : (op : OpData) → is_op op.code op.operand ≡ true → payload_fits op.operand ≡ true
unfolding is_op
payload_is op e = (and_parts _ (payload_fits op.operand) e).1

ops_bits : (around : Environment) (ss : List StatementStart) (at : ℕ) (brackets : List OpenBracket) (zones : List ℕ) (before ops : List OpData) → are_ops ops ≡ true
    → faults_over around ss 0 (ops_placed at brackets zones before ops) ≡ [] → AllByRecursion OpBit ops
unfolding op_faults
ops_bits around ss at brackets zones before [] is e = tt
ops_bits around ss at brackets zones before (op ∷ ops) is e =
    let parts = and_parts (is_op op.code op.operand) (are_ops ops) is in
    let p : PlacedOp = record { at = at; brackets = brackets; zones = zones; before = before; op = op; rest = ops } in
    let behind = faults_over around ss 0 (ops_placed (at + size_of_op op) (brackets_after at op.code brackets) (zones_behind_op at op.code zones) (before_next op before) ops) in
    let here = none_left (op_faults around ss 0 p) behind e in
    let first = none_left _ _ (none_left _ _ (none_left _ _ (none_left _ _ here))) in (
      operand_bit around ss p op.operand (payload_is op parts.0) (no_fault (0 + at) (operand_fault around ss p op.operand) first),
      ops_bits around ss (at + size_of_op op) (brackets_after at op.code brackets) (zones_behind_op at op.code zones) (before_next op before) ops parts.1 (none_right (op_faults around ss 0 p) behind e),
    )

code_bits : (around : Environment) (ops : List OpData) → are_ops ops ≡ true → block_faults around 0 ops ≡ [] → AllByRecursion OpBit ops
unfolding block_faults
code_bits around ops is e = ops_bits around (starts_of_statements ops) 0 [] [] [] ops is (none_left _ _ (none_left _ _ e))

-- ---- statements

abbrev pub RunBit : StatementOps → Type 0
RunBit r = AllByRecursion (λ op. OperandBit op.operand) r.before × OperandBit r.op.operand

runs_bits : (before ops : List OpData) → AllByRecursion OpBit before → AllByRecursion OpBit ops → AllByRecursion RunBit (runs_from before ops)
runs_bits before [] h k = tt
runs_bits before (op ∷ ops) h (one, more) =
    either_way (λ rs. AllByRecursion RunBit rs) op.last (record { before = before; op = op } ∷ runs_from [] ops) (runs_from (before ++ op ∷ []) ops)
    ((h, one), runs_bits [] ops tt more) (runs_bits (before ++ op ∷ []) ops (all_append OpBit before (op ∷ []) h (one, tt)) more)

blocks_bits : (lens : List (ℕ × ℕ)) (all : List BlockRecord) (bs : List CodeBlock) → AllByRecursion IsHead bs → AreVerified lens all (map record_of_block bs)
    → AllByRecursion (λ b. AllByRecursion RunBit (runs b.code)) bs
unfolding runs
blocks_bits lens all [] heads clean = tt
blocks_bits lens all (b ∷ bs) (head, heads) (one, more) =
    (runs_bits [] b.code tt (code_bits (environment_of_block (Some lens) all (record_of_block b)) b.code head.code one), blocks_bits lens all bs heads more)

pub program_bits : (p : Program) → IsProgram p → Verifies p → AllByRecursion (λ b. AllByRecursion RunBit (runs b.code)) p.code_blocks
program_bits p is verified = blocks_bits (lens_of p.data_blocks) (map record_of_block p.code_blocks) p.code_blocks (program_heads p is) verified.blocks
