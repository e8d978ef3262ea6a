use Rattle.std.proofs.Common.{◌≡◌, ◌∙◌, ◌-◌, ◌++◌, ◌∷◌, [], refl, sym, ap, subst, arith, vec_len}
use Rattle.var_access.specs.Runs.{AreRuns, entries_of_runs}
use Rattle.var_access.proofs.RunLemmas.{IsLast, apart_written, last_few, last_kept, last_runs, last_written, next_runs, none_there, one_run, only_runs}
use Rattle.var_access.proofs.runs.add.Goals as goal
use Rattle.var_access.proofs.runs.add.Goals.{in-Some+else-joins, in_default}

pub overflow_add-last : goal.overflow_add-last
overflow_add-last c =
    let is : IsLast c.args.runs.now.items (vec_len c.args.runs.now - 1) c.in-Some.last.now =
    (omega (arith, c.args.runs.now.ok.0, c.in-Some.ensures.variant.0 refl), c.in-Some.ensures.value) in
    omega (arith, last_few c.args.runs.now.items (vec_len c.args.runs.now - 1) c.in-Some.last.now is, c.requires.first, c.requires.bounded)

pub returns-then-joins-clause-written : goal.returns-then-joins-clause-written
returns-then-joins-clause-written c =
    let is : IsLast c.args.runs.now.items (vec_len c.args.runs.now - 1) c.in-Some.last.now =
    (omega (arith, c.args.runs.now.ok.0, c.in-Some.ensures.variant.0 refl), c.in-Some.ensures.value) in
    last_written c.args.runs.now.items (vec_len c.args.runs.now - 1) c.in-Some.last.now c.args.entry.now c.args.count is
    (sym c.joins.ensures ∙ c.if-joins.true)

pub returns-then-joins-clause-are : goal.returns-then-joins-clause-are
returns-then-joins-clause-are c =
    let is : IsLast c.args.runs.now.items (vec_len c.args.runs.now - 1) c.in-Some.last.now =
    (omega (arith, c.args.runs.now.ok.0, c.in-Some.ensures.variant.0 refl), c.in-Some.ensures.value) in
    last_runs c.args.runs.now.items (vec_len c.args.runs.now - 1) c.in-Some.last.now c.args.entry.now c.args.count is
    (sym c.joins.ensures ∙ c.if-joins.true) c.requires.are

-- where no run was lengthened, the runs are as they were
kept : (c : goal.After-push_reserved) → c.match-last_mut.runs.items ≡ c.args.runs.now.items
kept c = elim c.match-last_mut.branch [
  | in-Some+else-joins w ↦
      ap (λ v. v.items) w.runs-is
      ∙ last_kept c.args.runs.now.items (vec_len c.args.runs.now - 1) w.in-Some.last.now
      (omega (arith, c.args.runs.now.ok.0, w.in-Some.ensures.variant.0 refl), w.in-Some.ensures.value)
  | in_default w ↦ ap (λ v. v.items) w.runs-is
]

pub returns-clause-written : goal.returns-clause-written
returns-clause-written c =
    ap entries_of_runs (c.push_reserved.ensures.items ∙ ap (λ runs. runs ++ one_run c.args.entry.now c.args.first c.args.count ∷ []) (kept c))
    ∙ apart_written c.args.runs.now.items c.args.entry.now c.args.first c.args.count

pub returns-clause-are : goal.returns-clause-are
returns-clause-are c =
    subst AreRuns (sym (c.push_reserved.ensures.items ∙ ap (λ runs. runs ++ one_run c.args.entry.now c.args.first c.args.count ∷ []) (kept c)))
    (elim c.match-last_mut.branch [
      | in-Some+else-joins w ↦
          next_runs c.args.runs.now.items (vec_len c.args.runs.now - 1) w.in-Some.last.now c.args.entry.now c.args.first c.args.count
          (omega (arith, c.args.runs.now.ok.0, w.in-Some.ensures.variant.0 refl), w.in-Some.ensures.value)
          (sym w.joins.ensures ∙ w.if-joins.false) c.requires.first c.requires.some c.requires.one c.requires.are
      | in_default w ↦
          only_runs c.args.runs.now.items c.args.entry.now c.args.first c.args.count
          (sym c.args.runs.now.ok.0 ∙ none_there (vec_len c.args.runs.now) w.in_default.ensures.variant.1)
          c.requires.first c.requires.some c.requires.one
    ])
