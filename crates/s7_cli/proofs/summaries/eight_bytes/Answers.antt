use Rattle.std.proofs.Common.{◌≡◌, ◌+◌, ◌-◌, ◌++◌, ℕ, List, [], ◌∷◌, length, map, ap, sym, ◌∙◌, arith}
use Rattle.std.proofs.lemmas.List.FromFn.{length-map-range_with_len, map-range_with_len_more}
use Rattle.std.specs.List.{range_with_len}
use Rattle.var_access.specs.declared.requests.Var.{Var}
use Rattle.s7_cli.specs.GenText.{memory_byte}
use Rattle.s7_cli.proofs.summaries.eight_bytes.Goals as goal

abbrev bytes_from : ℕ → ℕ → List Var
bytes_from first count = map memory_byte (range_with_len first count)

pub loop-byte-init : goal.loop-byte-init
loop-byte-init c =
    let none : 0 ≡ c.args.first - c.args.first = omega arith in
    (omega arith, omega arith, c.new-vars.ensures ∙ ap (bytes_from c.args.first) none)

pub push-requires : goal.push-requires
push-requires c =
    let count : length c.loop-byte.vars ≡ c.loop-byte.byte - c.args.first =
    ap (λ (vars : List Var). length vars) c.loop-byte.invariant.2
    ∙ length-map-range_with_len memory_byte c.args.first (c.loop-byte.byte - c.args.first) in
    omega (arith, count, c.loop-byte-test.true, c.loop-byte.invariant.0)

pub loop-byte-preserved : goal.loop-byte-preserved
loop-byte-preserved c =
    let first : ℕ = c.args.first in
    let count : ℕ = c.loop-byte.byte - first in
    let here : first + count ≡ c.loop-byte.byte = omega (arith, c.loop-byte.invariant.0) in
    let more : count + 1 ≡ c.loop-byte.byte + 1 - first = omega (arith, c.loop-byte.invariant.0) in (
      omega (arith, c.loop-byte.invariant.0),
      omega (arith, c.loop-byte-test.true),
      c.push.ensures
          ∙ ap (λ (vars : List Var). vars ++ c.memory_byte.result ∷ []) c.loop-byte.invariant.2
          ∙ ap (λ (var : Var). bytes_from first count ++ var ∷ []) c.memory_byte.ensures
          ∙ sym (map-range_with_len_more memory_byte first count c.loop-byte.byte here)
          ∙ ap (bytes_from first) more,
    )

pub returns : goal.returns
returns c =
    let eight : c.loop-byte.byte - c.args.first ≡ 8 =
    omega (arith, c.loop-byte-test.false, c.loop-byte.invariant.1) in
    c.loop-byte.invariant.2 ∙ ap (bytes_from c.args.first) eight
