use Rattle.std.proofs.Common.{◌≡◌, ◌∙◌, subst, ℕ, List, OnOk}
use Rattle.s7_cli.proofs.run.EntryLemmas.{request-lines}
use Rattle.s7_cli.proofs.run_text.entries.add_request.Goals as goal

pub returns-clause-lines : goal.returns-clause-lines
returns-clause-lines c =
    subst (λ (t : List ℕ). OnOk c.reply_lines.result (c.reply_lines.new.out.items ≡ t))
    (request-lines c.args.controller.now c.args.entry.now c.args.request.now _ _ _ _ c.args.text.now.items _ c.requires.asks
    c.history_len-n.ensures.len (c.observed.ensures ∙ c.enter.ensures.shown) c.answer-reply.ensures c.in_ok-add_shown.ensures)
    c.reply_lines.ensures.ok
