use Rattle.std.proofs.Common.{arith, rules, ◌<◌, length}
use Rattle.std.proofs.lemmas.Grind.{common_steps}
use Rattle.plc_base.proofs.LineLemmas.{lines-first, lines-last}
use Rattle.plc_base.proofs.texts.first_line.Goals as goal

pub returns-then-is_empty-clause-first : goal.returns-then-is_empty-clause-first
returns-then-is_empty-clause-first c =
    lines-last _ _ _ _ c.line_len.ensures.value c.split_at.ensures.front c.split_at.ensures.back c.requires (search rules)

pub returns-else-is_empty-clause-first : goal.returns-else-is_empty-clause-first
returns-else-is_empty-clause-first c =
    let some : 0 < length c.split_at.result.1.now = search rules in
    let first = lines-first _ _ _ _ c.line_len.ensures.value c.split_at.ensures.front c.split_at.ensures.back some in
    grind (arith, common_steps, first, c.without_carriage_return.ensures)
