use Rattle.std.proofs.Common.{◌≤◌, ◌+◌, length}
use Rattle.std.specs.Prelude.{IfSome}
use Rattle.var_access.specs.Entry.{IsRequest}
use Rattle.var_access.specs.declared.requests.Request.TheVariants.{ReadVars}
use Rattle.event_text.proofs.WatchedVarsLemmas.{VarsOn}
use Rattle.event_text.proofs.watched_vars.read_watched_vars.Given as goal

-- the text comes to what the lines that are left come to, behind those that were read
abbrev pub invariant-loop-rest : goal.invariant-loop-rest
invariant-loop-rest l = record {
  read : VarsOn l.names l.bytes l.number l.found l.rest;
  valid : IfSome l.found (λ vars. IsRequest (ReadVars vars));
  lines : l.number + length l.rest ≤ length l.bytes + 1;
}

abbrev pub decreases-loop-rest : goal.decreases-loop-rest
decreases-loop-rest l = length l.rest
