use Rattle.std.proofs.Common.{arith, rules, refl, subst, sym, ◌∙◌}
use Rattle.std.specs.List.{All}
use Rattle.std.proofs.lemmas.List.Elements.{All-nil}
use Rattle.std.proofs.lemmas.Result.{err_from_is_err_and}
use Rattle.var_access.specs.Entry.{IsValid}
use Rattle.var_access.specs.declared.entries.Entry.{Entry}
use Rattle.event_text.specs.Regular.{WhatFits}
use Rattle.event_text.proofs.ReadingLemmas.{GoesOn-start, GoesOn-line, GoesOn-bad, GoesOn-end}
use Rattle.event_text.proofs.SizeLemmas.{text_size}
use Rattle.event_text.proofs.WorkerLemmas.{text_regular, worker_of_maker}
use Rattle.event_text.proofs.texts.read_entries.Goals as goal

pub loop-rest-init : goal.loop-rest-init
loop-rest-init c = record {
  read = rw c.new-entries.ensures.items (GoesOn-start _ _ _);
  steps = rw c.new-entries.ensures.items refl;
  valid = λ worker. rw c.new-entries.ensures.items (All-nil IsValid);
  lines = omega arith;
}

pub loop-rest-preserved : goal.loop-rest-preserved
loop-rest-preserved c = record {
  read = GoesOn-line _ _ _ _ _ _ _ _ _ _ c.loop-rest.invariant.read c.first_line.ensures.first (sym c.loop-rest.invariant.steps) c.in_ok-take_entry_line.ensures.taken;
  steps = c.in_ok-take_entry_line.ensures.steps ∙ c.loop-rest.invariant.steps;
  valid = c.in_ok-take_entry_line.ensures.valid c.loop-rest.invariant.valid;
  lines = omega (arith, c.loop-rest.invariant.lines, c.first_line.ensures.shorter);
}

pub returns-in_err-take_entry_line-clause-refused : goal.returns-in_err-take_entry_line-clause-refused
returns-in_err-take_entry_line-clause-refused c =
    let fault = err_from_is_err_and c.from_residual.result c.from_residual.ensures.1 in
    rw (fault.1, fault.2)
    (GoesOn-bad _ _ _ _ _ _ _ _ c.first_line.result.1.now _ c.loop-rest.invariant.read c.first_line.ensures.first (sym c.loop-rest.invariant.steps) c.in_err-take_entry_line.ensures.bad)

pub returns-clause-spelled : goal.returns-clause-spelled
returns-clause-spelled c = GoesOn-end _ _ _ _ _ _ c.loop-rest.invariant.read (search rules)

pub returns-clause-few : goal.returns-clause-few
returns-clause-few c = text_size c.args.kind _ _ _ c.requires.kind (GoesOn-end _ _ _ _ _ _ c.loop-rest.invariant.read (search rules))

pub returns-clause-regular : goal.returns-clause-regular
returns-clause-regular c maker =
    text_regular c.args.kind _ _ _ c.requires.kind maker (GoesOn-end _ _ _ _ _ _ c.loop-rest.invariant.read (search rules)) (c.loop-rest.invariant.valid (worker_of_maker c.args.kind maker))
    (subst (All (λ (e : Entry). WhatFits e.what)) c.as_slice.ensures.value c.law_of_fields.ensures)
