use Rattle.std.proofs.Common.{◌≡◌, ℕ, List, [], ◌++◌, Ok, sym, ◌∙◌, ap}
use Rattle.de_mnemonics.proofs.TranslationLemmas.{at_end, none_left}
use Rattle.de_mnemonics.proofs.translation.translate_tokens.Goals as goal

pub returns-clause-ok : goal.returns-clause-ok
returns-clause-ok c =
    let end = at_end c.args.language c.args.source.now c.loop-left.text.items c.loop-left.position c.loop-left.left.now
    (none_left c.loop-left.left.now c.in_default.len_below) in
    c.loop-left.invariant ∙ end
    ∙ ap Ok (ap (λ (rest : List ℕ). c.loop-left.text.items ++ rest) (sym c.behind_byte.ensures) ∙ sym c.in_ok-extend_from_slice.ensures.items)
