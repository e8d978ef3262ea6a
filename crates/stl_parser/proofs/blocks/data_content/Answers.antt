use Rattle.std.proofs.Common.{map, ◌∙◌}
use Rattle.std.proofs.lemmas.Result.{err_from_is_err_and}
use Rattle.stl_parser.specs.declared.clauses.Clause.TheVariants as clause
use Rattle.stl_parser.specs.BlockReading.{spelled_shape_or_body}
use Rattle.stl_parser.proofs.BlockLemmas.{shape_read}
use Rattle.stl_parser.proofs.SourceLemmas.{broken_behind}
use Rattle.stl_parser.proofs.blocks.data_content.Goals as goal

pub returns-in_err-settings-clause-broken : goal.returns-in_err-settings-clause-broken
returns-in_err-settings-clause-broken c =
    let p = err_from_is_err_and c.from_residual-in_err-settings.result c.from_residual-in_err-settings.ensures.1 in
    rw (p.1, p.2) (broken_behind _ _ _ _ _ _ _ c.in_err-settings.field-0.0 c.in_ok-opened.ensures.read.reads c.in_err-settings.ensures.broken)

pub returns-clause-read : goal.returns-clause-read
returns-clause-read c =
    shape_read _ _ _ _ (spelled_shape_or_body c.in_ok-opened.opened) _ (map clause.Sets c.in_ok-settings.settings) c.in_ok-settings.end_line
    c.from_vec.result _ c.requires.opens c.in_ok-opened.ensures.read c.in_ok-settings.ensures.read (c.from_vec.ensures ∙ c.new.ensures.items)
