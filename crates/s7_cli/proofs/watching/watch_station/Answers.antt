use Rattle.std.proofs.Common.{is_ok, map, replicate}
use Rattle.s7_cli.specs.Watching.{read_entry_of}
use Rattle.s7_cli.proofs.WatchingLemmas.{whole_published, whole_views, worked_behind}
use Rattle.s7_cli.proofs.WorkingLemmas.{at_ok}
use Rattle.s7_cli.proofs.watching.watch_station.Goals as goal

pub returns-clause-made : goal.returns-clause-made
returns-clause-made g c =
    let w = c.work_beside_watch-worked.ensures in
    let t = c.together.ensures in
    let e = read_entry_of c.args.p.number c.args.vars.now in
    let worked = c.work_beside_watch-worked.result.0 in
    let ended = c.end_views-ended.result in
    worked_behind c.args.s.now c.args.passes.items c.args.p worked.0 c.work_beside_watch-worked.new.p c.together.result.0 c.args.steps c.args.stimuli.now
    (map (λ v. v.items) c.args.scripts.now) (replicate 100 e) (is_ok worked.1) (is_ok ended) (is_ok c.together.result.1)
    w.made w.agrees w.published.begun
    (λ ok. whole_published c.args.s.now e 100 c.work_beside_watch-worked.new.p _ _ _ _ _ ended w.published c.end_views-ended.ensures.ok ok)
    t.made t.seen t.agrees (λ ok. at_ok c.together.result.1 ok t.ok)

pub returns-clause-views : goal.returns-clause-views
returns-clause-views g c =
    let w = c.work_beside_watch-worked.ensures in
    let t = c.together.ensures in
    whole_views c.args.s.now (read_entry_of c.args.p.number c.args.vars.now) 100 100 c.work_beside_watch-worked.new.p c.together.result.0 _ _ _ _ _ _ _ _ c.work_beside_watch-worked.result.0.1
    c.end_views-ended.result c.together.result.1 t.ok c.end_views-ended.ensures.ok w.published w.viewed c.end_views-ended.ensures.seen t.others
