use Rattle.std.proofs.Common.{◌∙◌, ap, refl, sym, subst, ℕ, ◌+◌, ◌*◌, ◌≤◌, List, Vec, Global, length, map, arith, rules}
use Rattle.plc_base.proofs.ListLemmas.{drop_next}
use Rattle.var_access.specs.declared.Entry.{Entry}
use Rattle.event_text.specs.Texts.{script_of}
use Rattle.s7_cli.proofs.LiveLemmas.{checked-next, map-behind}
use Rattle.s7_cli.proofs.command_checks.check_scripts.Goals as goal

abbrev bytes_of : Vec ℕ Global → List ℕ
bytes_of v = v.items

abbrev list_of : Vec Entry Global → List Entry
list_of v = v.items

pub loop-place-preserved : goal.loop-place-preserved
loop-place-preserved c =
    let place = c.loop-place.place in
    let text = c.index-texts-place.result in
    checked-next c.args.names.now (map bytes_of c.args.texts.now) (place + 1) _ _ text.items _ (map list_of c.loop-place.scripts.items) _ c.in-Ok.entries.items
    c.loop-place.invariant
    (ap (map bytes_of) (drop_next c.args.texts.now place text c.loop-place-test.true (search rules)))
    refl
    (ap (map list_of) c.in_ok-add-in-Ok.ensures ∙ map-behind list_of c.loop-place.scripts.items c.in-Ok.entries)
    (ap (script_of (place + 1 + 2) c.args.names.now) (sym c.deref.ensures.value) ∙ c.in-Ok.ensures.spelled)
    (c.in-Ok.ensures.regular (omega arith, omega (arith, c.loop-place-test.true, c.requires.few)))
    (subst (λ (bytes : List ℕ). 4 * length c.in-Ok.entries.items ≤ length bytes) c.deref.ensures.value c.in-Ok.ensures.few)
