use Rattle.std.proofs.Common.{◌≡◌, ap, sym, ◌∙◌, List, ℕ}
use Rattle.std.specs.Prelude.{slice_get}
use Rattle.std.specs.FinMap as finmap
use Rattle.controller.specs.Starting.{data_block_numbers}
use Rattle.controller.specs.State.{State}
use Rattle.controller.specs.Views.{cpu_state}
use Rattle.controller.specs.Recording.{Recording}
use Rattle.controller.specs.ReplayResult.{final_state}
use Rattle.controller.proofs.history.BlockLemmas.{block_there, memory_numbers, no_block_there}
use Rattle.controller.proofs.controllers.Controller.data_block.Goals as goal

pub returns-in-None : goal.returns-in-None
returns-in-None c =
    let now : State = cpu_state c.self.inside.cpu in
    let after : now ≡ final_state c.args.self.now =
    c.self.invariant.state ∙ ap (λ (r : Recording). final_state r) c.self.view_is in
    let are : data_block_numbers (finmap.entries (final_state c.args.self.now).store.memory.data_blocks) ≡ c.self.inside.numbers.items =
    ap (λ (s : State). data_block_numbers (finmap.entries s.store.memory.data_blocks)) (sym after)
    ∙ memory_numbers c.self.inside.program.program now.store.memory c.self.invariant.verifies c.self.invariant.fit.memory
    ∙ sym c.self.invariant.numbers in
    sym (no_block_there (final_state c.args.self.now).store.memory.data_blocks c.self.inside.numbers.items c.args.place are
    (ap (λ (ns : List ℕ). slice_get ns c.args.place) (sym c.as_slice.ensures.value) ∙ sym c.in-None.ensures))

pub returns-in-Some : goal.returns-in-Some
returns-in-Some c =
    let now : State = cpu_state c.self.inside.cpu in
    let after : now ≡ final_state c.args.self.now =
    c.self.invariant.state ∙ ap (λ (r : Recording). final_state r) c.self.view_is in
    let are : data_block_numbers (finmap.entries (final_state c.args.self.now).store.memory.data_blocks) ≡ c.self.inside.numbers.items =
    ap (λ (s : State). data_block_numbers (finmap.entries s.store.memory.data_blocks)) (sym after)
    ∙ memory_numbers c.self.inside.program.program now.store.memory c.self.invariant.verifies c.self.invariant.fit.memory
    ∙ sym c.self.invariant.numbers in
    c.number_with_bytes.ensures
    ∙ sym (block_there (final_state c.args.self.now).store.memory.data_blocks c.self.inside.numbers.items c.args.place c.in-Some.number are
    (ap (λ (ns : List ℕ). slice_get ns c.args.place) (sym c.as_slice.ensures.value) ∙ sym c.in-Some.ensures))
