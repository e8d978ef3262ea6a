use Rattle.std.proofs.Common.{◌≡◌, Ok, Err, OnOk, OnErr}
use Rattle.plc_io.specs.NamedFiles.{EachNameOnce, with_file}
use Rattle.plc_io.proofs.FileLemmas.{EachNameOnce-with_file}
use Rattle.plc_io.proofs.lists.NamedFiles.put.Goals as goal

pub invariant_of-self : goal.invariant_of-self
invariant_of-self c =
    elim c.put_file.result as (λ r. OnOk r (c.put_file.new.files.items ≡ with_file c.self.inside.files.items c.args.name.now c.args.bytes.now)
    → OnErr r (c.put_file.new.files.items ≡ c.self.inside.files.items) → EachNameOnce c.put_file.new.files.items) [
      | Ok x ↦ λ ok err. rw ok (EachNameOnce-with_file _ _ _ c.self.invariant)
      | Err e ↦ λ ok err. rw err c.self.invariant
    ] c.put_file.ensures.ok c.put_file.ensures.err
