use Rattle.std.proofs.Common.{refl, ◌∙◌, sym}
use Rattle.var_access.specs.Entry.{IsRequest}
use Rattle.event_text.proofs.LineLemmas.{allowed_ok, worker_some}
use Rattle.event_text.proofs.lines.read_script_line.Goals as goal

pub returns-clause-line : goal.returns-clause-line
returns-clause-line c =
    (refl, λ worker. (rw c.script_worker.ensures (worker_some _ worker), allowed_ok IsRequest _ _ _ (sym c.where_allowed.ensures ∙ c.in_ok-request.was) c.request_of.ensures.valid))
