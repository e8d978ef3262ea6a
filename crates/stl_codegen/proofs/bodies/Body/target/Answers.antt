use Rattle.std.proofs.Common.{◌≡◌, ℕ, List, Option, None, Some, sym, ap, ◌∙◌}
use Rattle.std.specs.List.{slice_get}
use Rattle.stl_ast.specs.declared.statements.Statement.{Statement}
use Rattle.stl_symbols.specs.Names.{name_place}
use Rattle.block_layout.specs.Fits.{number_or_zero}
use Rattle.stl_codegen.specs.Instruction.{target_in}
use Rattle.stl_codegen.proofs.TargetLemmas.{target_by, target_placed}
use Rattle.stl_codegen.proofs.bodies.Body.target.Goals as goal

pub returns-in-None : goal.returns-in-None
returns-in-None c =
    let t = target_placed c.args.label.now c.self.inside.statements.now c.self.inside.labels c.self.inside.numbers.items c.self.inside.count c.self.invariant in
    let at : name_place c.args.label.now c.self.inside.labels ≡ None = sym c.place.ensures ∙ c.in-None.is in
    sym (t ∙ ap (λ (p : Option ℕ). target_by c.self.inside.numbers.items c.self.inside.count p) at)
    ∙ ap (λ (b : List Statement). target_in c.args.label.now b) c.self.view_is

pub returns-in-Some : goal.returns-in-Some
returns-in-Some c =
    let t = target_placed c.args.label.now c.self.inside.statements.now c.self.inside.labels c.self.inside.numbers.items c.self.inside.count c.self.invariant in
    let at : name_place c.args.label.now c.self.inside.labels ≡ Some c.in-Some.place = sym c.place.ensures ∙ c.in-Some.is in
    c.number_at.ensures
    ∙ ap (λ (l : List ℕ). number_or_zero (slice_get l c.in-Some.place)) c.as_slice.ensures.value
    ∙ sym (t ∙ ap (λ (p : Option ℕ). target_by c.self.inside.numbers.items c.self.inside.count p) at)
    ∙ ap (λ (b : List Statement). target_in c.args.label.now b) c.self.view_is
