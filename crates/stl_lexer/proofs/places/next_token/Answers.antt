use Rattle.std.proofs.Common.{◌+◌, ◌<◌, drop, length, sym, ◌∙◌, ap, inr, refl, arith}
use Rattle.std.proofs.lemmas.Bool.{eqb-false}
use Rattle.std.proofs.lemmas.List.{length-drop}
use Rattle.stl_lexer.proofs.LineLemmas.{line_of_fault, line_at_limit}
use Rattle.stl_lexer.proofs.places.next_token.Goals as goal

pub overflow_add-line : goal.overflow_add-line
overflow_add-line c =
    omega (arith, line_of_fault c.args.source.now c.skip_gap-start.result.offset c.in-Some.found.length c.in-Some-fault_of.fault.offset c.behind-text.result.now c.skip_gap-start.result.line c.newlines.result c.behind-text.ensures c.in-Some-fault_of.ensures.within c.skip_gap-start.ensures.line c.newlines.ensures, line_at_limit c.args.source.now (c.skip_gap-start.result.offset + c.in-Some-fault_of.fault.offset), c.requires.limit)

pub returns-in-Some-fault_of : goal.returns-in-Some-fault_of
returns-in-Some-fault_of c =
    let s = c.args.source.now in
    let at = c.skip_gap-start.result.offset in
    let some : at < length s = omega (arith, eqb-false (length c.behind-text.result.now) 0 (sym c.is_empty.ensures ∙ c.if-is_empty.false), ap length c.behind-text.ensures, length-drop at s) in
    record {
      at = at;
      start = record { forward = c.skip_gap-start.ensures.forward; within = some; gap = c.skip_gap-start.ensures.rest };
      broken = inr (record {
        kind = c.in-Some.found.kind;
        size = c.in-Some.found.length;
        longest = rw c.behind-text.ensures at c.in-Some.ensures;
        fault = c.in-Some-fault_of.fault;
        breaks = sym (rw c.behind-text.ensures at c.in-Some-fault_of.ensures.value);
        line_is = line_of_fault s at c.in-Some.found.length c.in-Some-fault_of.fault.offset c.behind-text.result.now c.skip_gap-start.result.line c.newlines.result c.behind-text.ensures c.in-Some-fault_of.ensures.within c.skip_gap-start.ensures.line c.newlines.ensures;
        rule_is = refl;
      });
    }

pub fault_of-requires : goal.fault_of-requires
fault_of-requires c = (drop c.in-Some.found.length c.behind-text.result.now, c.in-Some.ensures.fits.fits)
