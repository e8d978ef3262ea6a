use Rattle.std.proofs.Common.{◌≡◌, ap, sym, ◌∙◌, List, ℕ, Option, is_some}
use Rattle.plc_mem.specs.Areas.{Areas}
use Rattle.flat_code.specs.Programs.{Program}
use Rattle.image_file.specs.Readers.{data_bytes_of}
use Rattle.controller.specs.Views.{cpu_state}
use Rattle.controller.specs.Recording.{Recording}
use Rattle.controller.proofs.history.BlockLemmas.{copied_some, loaded_there}
use Rattle.controller.proofs.controllers.Controller.db_bytes.Goals as goal

pub returns-clause-loaded : goal.returns-clause-loaded
returns-clause-loaded c =
    let m : Areas = (cpu_state c.self.inside.cpu).store.memory in
    let program : c.self.inside.program.program ≡ c.args.self.now.program = ap (λ (r : Recording). r.program) c.self.view_is in
    sym (copied_some c.db_bytes.result)
    ∙ ap (λ (o : Option (List ℕ)). is_some o) c.db_bytes.ensures
    ∙ loaded_there c.self.inside.program.program m c.args.number c.self.invariant.fit.memory
    ∙ ap (λ (p : Program). is_some (data_bytes_of c.args.number p.data_blocks)) program
