use Rattle.std.proofs.Common.{◌≡◌, ◌∙◌, suc, Bool, List, [], Some, None, sym, ap, subst, rules}
use Rattle.plc_base.specs.Profiles.{most_frames}
use Rattle.image_file.specs.Readers.{block_ids}
use Rattle.stack_bound.specs.Deepest.{IsLoadedObOver, first_over}
use Rattle.stack_bound.specs.Finding.{IsLeastCertificate}
use Rattle.stack_bound.specs.Layers.{layer_of_height}
use Rattle.stack_bound.specs.Marks.{marked_bounds_behind, marks_of_round}
use Rattle.stack_bound.specs.Places.{CallerData, bounds_alone, callers_of, layers_by, marks_by}
use Rattle.stack_bound.specs.declared.certificates.Bound.{Bound}
use Rattle.stack_bound.proofs.CertificateLemmas.{least}
use Rattle.stack_bound.proofs.OnChainLemmas.{first_is_over}
use Rattle.stack_bound.proofs.PlaceLemmas.{alone_are_lowest, layers_are, marks_are, program_callers}
use Rattle.stack_bound.proofs.finding.find.Goals as goal

pub chain_from-requires-clause-layer : goal.chain_from-requires-clause-layer
chain_from-requires-clause-layer c =
    let alone : c.in_ok-first.first.items ≡ bounds_alone c.args.l.now.program (block_ids c.args.l.now.program) = search rules in
    let first_is : c.in_ok-first.first.items ≡ layer_of_height 1 c.args.l.now.program = alone ∙ alone_are_lowest c.args.l.now.program (block_ids c.args.l.now.program) in
    let callers_are : c.in_ok-callers.callers.items ≡ callers_of c.args.l.now.program c.in_ok-first.first.items (block_ids c.args.l.now.program) = search rules in
    let by : c.new-bounds.result ≡ layers_by c.in_ok-callers.callers.items c.in_ok-first.first.items (most_frames c.args.l.now.profile) = search rules in
    by
    ∙ ap (λ (k : List CallerData). layers_by k c.in_ok-first.first.items (most_frames c.args.l.now.profile)) callers_are
    ∙ ap (λ (x : List Bound). layers_by (callers_of c.args.l.now.program x (block_ids c.args.l.now.program)) x (most_frames c.args.l.now.profile)) first_is
    ∙ layers_are c.args.l.now.program (most_frames c.args.l.now.profile)

pub chain_from-requires-clause-over : goal.chain_from-requires-clause-over
chain_from-requires-clause-over c =
    let is : c.new-bounds.result ≡ layer_of_height (suc (most_frames c.args.l.now.profile)) c.args.l.now.program = chain_from-requires-clause-layer c in
    subst (λ (x : List Bound). IsLoadedObOver c.args.l.now.profile c.args.l.now.program x c.in-Some.over) (sym is)
    (first_is_over c.args.l.now.profile c.args.l.now.program (most_frames c.args.l.now.profile)
    (block_ids c.args.l.now.program) c.in-Some.over
    (subst (λ (x : List Bound). first_over c.args.l.now.profile x (block_ids c.args.l.now.program) ≡ Some c.in-Some.over) is
    (sym c.first_over.ensures ∙ c.in-Some.is)))

pub returns : goal.returns
returns c =
    let alone : c.in_ok-first.first.items ≡ bounds_alone c.args.l.now.program (block_ids c.args.l.now.program) = search rules in
    let first_is : c.in_ok-first.first.items ≡ layer_of_height 1 c.args.l.now.program = alone ∙ alone_are_lowest c.args.l.now.program (block_ids c.args.l.now.program) in
    let callers_first : c.in_ok-callers.callers.items ≡ callers_of c.args.l.now.program c.in_ok-first.first.items (block_ids c.args.l.now.program) = search rules in
    let callers_are : c.in_ok-callers.callers.items ≡ program_callers c.args.l.now.program =
    callers_first ∙ ap (λ (x : List Bound). callers_of c.args.l.now.program x (block_ids c.args.l.now.program)) first_is in
    let by : c.in_ok-layer.layer.items ≡ layers_by c.in_ok-callers.callers.items c.in_ok-first.first.items (most_frames c.args.l.now.profile) = search rules in
    let layer_is : c.in_ok-layer.layer.items ≡ layer_of_height (suc (most_frames c.args.l.now.profile)) c.args.l.now.program =
    by
    ∙ ap (λ (k : List CallerData). layers_by k c.in_ok-first.first.items (most_frames c.args.l.now.profile)) callers_are
    ∙ ap (λ (x : List Bound). layers_by (program_callers c.args.l.now.program) x (most_frames c.args.l.now.profile)) first_is
    ∙ layers_are c.args.l.now.program (most_frames c.args.l.now.profile) in
    let bounds_are : c.new-bounds.result ≡ c.in_ok-layer.layer.items = search rules in
    let is : c.new-bounds.result ≡ layer_of_height (suc (most_frames c.args.l.now.profile)) c.args.l.now.program = bounds_are ∙ layer_is in
    let marks_so : c.in_ok-marks.marks.items ≡ marks_by c.in_ok-callers.callers.items c.in_ok-layer.layer.items (most_frames c.args.l.now.profile) = search rules in
    let marks_is : c.in_ok-marks.marks.items ≡ marks_of_round (most_frames c.args.l.now.profile) c.args.l.now.program (layer_of_height (suc (most_frames c.args.l.now.profile)) c.args.l.now.program) =
    marks_so
    ∙ ap (λ (k : List CallerData). marks_by k c.in_ok-layer.layer.items (most_frames c.args.l.now.profile)) callers_are
    ∙ ap (λ (x : List Bound). marks_by (program_callers c.args.l.now.program) x (most_frames c.args.l.now.profile)) layer_is
    ∙ marks_are c.args.l.now.program (layer_of_height (most_frames c.args.l.now.profile) c.args.l.now.program) (most_frames c.args.l.now.profile) in
    let list_is : c.in_ok-list.list.items ≡ marked_bounds_behind [] c.in_ok-marks.marks.items c.in_ok-layer.layer.items = search rules in
    subst (λ (x : List Bound). IsLeastCertificate c.args.l.now.profile c.args.l.now.program x)
    (sym (list_is
    ∙ ap (λ (m : List Bool). marked_bounds_behind [] m c.in_ok-layer.layer.items) marks_is
    ∙ ap (λ (x : List Bound). marked_bounds_behind [] (marks_of_round (most_frames c.args.l.now.profile) c.args.l.now.program (layer_of_height (suc (most_frames c.args.l.now.profile)) c.args.l.now.program)) x) layer_is))
    (least c.args.l.now.profile c.args.l.now.program
    (subst (λ (x : List Bound). first_over c.args.l.now.profile x (block_ids c.args.l.now.program) ≡ None) is
    (sym c.first_over.ensures ∙ c.in_default.is)))
