use Rattle.std.proofs.Common.{◌≡◌, ap, sym, subst, ◌∙◌, ◌++◌, drop, List}
use Rattle.std.proofs.lemmas.List.{take-append-drop}
use Rattle.var_access.specs.declared.Entry.{Entry}
use Rattle.controller.specs.Recording.{Recording}
use Rattle.tracked_lock.specs.Passes.{missing_number_count}
use Rattle.station.specs.declared.shared.Opening.{Opening}
use Rattle.station.specs.Openings.{the_opening}
use Rattle.station.specs.Closing.{IsGivenBack}
use Rattle.station.proofs.stations.Station.close.Goals as goal

pub returns-in-Ok-clause-ok : goal.returns-in-Ok-clause-ok
returns-in-Ok-clause-ok c =
    let e = c.in-Ok.ensures.ok in
    let s = c.in-Ok.shared in
    let history : List Entry = s.controller.value.history in
    let origin = ap the_opening (e.origin ∙ ap (λ l. l.origin) c.self.view_is) in (
      subst (λ n. missing_number_count n c.args.p.made ≡ 0) (ap (λ l. l.passes) c.self.view_is) e.numbers,
      subst (λ (r : Recording). IsGivenBack (the_opening c.args.self.origin) r c.args.p) (sym c.into_controller.ensures) record {
        program = ap (λ (o : Opening). o.program) origin;
        profile = ap (λ (o : Opening). o.profile) origin;
        story = drop s.opening_len history;
        history = sym (take-append-drop s.opening_len history) ∙ ap (λ (l : List Entry). l ++ drop s.opening_len history) (ap (λ (o : Opening). o.first) origin);
        begins = e.seen;
        made = e.made;
        all = e.no_others;
      },
    )
