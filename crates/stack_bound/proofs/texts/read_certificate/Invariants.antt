use Rattle.std.proofs.Common.{◌≤◌, ◌+◌, length}
use Rattle.stack_bound.proofs.TextLemmas.{GoesOn}
use Rattle.stack_bound.proofs.texts.read_certificate.Given as goal

-- the text's bounds are those that were read, and then those of the rest
abbrev pub invariant-loop-rest : goal.invariant-loop-rest
invariant-loop-rest l = record {
  read : GoesOn l.l.program l.bytes l.list.items l.number l.before l.rest;
  few : l.number + length l.rest ≤ length l.bytes + 1;
}

abbrev pub decreases-loop-rest : goal.decreases-loop-rest
decreases-loop-rest l = length l.rest
