use Rattle.std.proofs.Common.{◌≡◌, ◌∙◌, Some, None, bytes_eq, ap, sym, position}
use Rattle.plc_io.proofs.FileLemmas.{with_file-pushed, with_file-replaced}
use Rattle.plc_io.proofs.lists.put_file.Goals as goal

pub returns-in_ok-contents-in-Some-clause-ok : goal.returns-in_ok-contents-in-Some-clause-ok
returns-in_ok-contents-in-Some-clause-ok c =
    let found : position (λ f. bytes_eq f.0 c.args.name.now) c.args.files.now.items ≡ Some c.in-Some.at =
    sym (c.in-Some.ensures.at ∙ ap (position (λ f. bytes_eq f.0 c.args.name.now)) c.as_slice.ensures.value) in
    with_file-replaced
    c.args.files.now.items
    c.args.name.now
    c.args.bytes.now
    c.index_mut.result.now
    c.replace.new.self
    c.in-Some.at
    found
    c.index_mut.ensures.value
    (rw (← c.in_ok-contents-in-Some.ensures.items) c.replace.ensures)

pub returns-in_ok-push-in-None-clause-ok : goal.returns-in_ok-push-in-None-clause-ok
returns-in_ok-push-in-None-clause-ok c =
    let absent : position (λ f. bytes_eq f.0 c.args.name.now) c.args.files.now.items ≡ None =
    sym (c.in-None.ensures.at ∙ ap (position (λ f. bytes_eq f.0 c.args.name.now)) c.as_slice.ensures.value) in
    with_file-pushed
    c.args.files.now.items
    c.push.new.self.items
    c.args.name.now
    c.args.bytes.now
    c.in_ok-new-in-None.field-0
    absent
    c.in_ok-new-in-None.ensures
    c.in_ok-push-in-None.ensures.items
