-- The text of a run is one for programs that no history tells apart.
use Rattle.std.proofs.Common.{◌≡◌, refl, sym, ◌∙◌, ap, ℕ, ◌+◌, List, [], ◌∷◌, ◌++◌, length}
use Rattle.plc_base.specs.declared.Mode.{Mode}
use Rattle.plc_base.specs.declared.Profile.{Profile}
use Rattle.machine.specs.Code.{Code}
use Rattle.machine.specs.Statement.{GlobalStore}
use Rattle.var_access.specs.declared.Entry.{Entry}
use Rattle.var_access.specs.declared.Reply.{Reply}
use Rattle.var_access.specs.declared.What.{What}
use Rattle.controller.specs.declared.Observed.{Observed}
use Rattle.controller.specs.Replay.{ContinuesReplay, EntryResult, entry_result, replay}
use Rattle.controller.specs.State.{State}
use Rattle.controller.specs.ReplayResult.{entry_events}
use Rattle.sem_kept.specs.KeptProgram.{BehavesAlike}
use Rattle.monitor.specs.LineText.{end_text}
use Rattle.s7_cli.specs.run_text.RunText.{data_blocks_text, entry_text, entry_lines_from, replied_text, run_text, shown_text}

lines-kept : ContinuesReplay → (profile : Profile) (c d : Code) → BehavesAlike profile c d → (before : List What) (n : ℕ) (es : List Entry)
    → entry_lines_from d n (replay profile d before) es ≡ entry_lines_from c n (replay profile c before) es
lines-kept continues profile c d kept before n [] = refl
lines-kept continues profile c d kept before n (e ∷ es) =
    ap (λ (seen : Observed). shown_text (n + 1) seen ++ replied_text (n + 1) e.who e.what now.reply ++ rest) (kept.seen before e.what)
    ∙ ap (λ (reply : Reply). shown_text (n + 1) was.seen ++ replied_text (n + 1) e.who e.what reply ++ rest) (kept.reply before e.what)
    ∙ ap (λ (s : State). first ++ entry_lines_from d (n + 1) s es) (sym (continues profile d before e.what))
    ∙ ap (λ (t : List ℕ). first ++ t) (lines-kept continues profile c d kept (before ++ e.what ∷ []) (n + 1) es)
    ∙ ap (λ (s : State). first ++ entry_lines_from c (n + 1) s es) (continues profile c before e.what)
  where
    now : EntryResult
    now = entry_result d (replay profile d before) e.what

    was : EntryResult
    was = entry_result c (replay profile c before) e.what

    rest : List ℕ
    rest = entry_lines_from d (n + 1) now.state es

    first : List ℕ
    first = entry_text (n + 1) e was

pub texts-kept : ContinuesReplay → (profile : Profile) (c d : Code) → BehavesAlike profile c d → (es : List Entry) → run_text profile d es ≡ run_text profile c es
unfolding run_text replay
texts-kept continues profile c d kept es =
    ap (λ (lines : List ℕ). lines ++ (end_text (length es) (replay profile d (entry_events es)).mode ++ data_blocks_text (replay profile d (entry_events es)).store))
    (lines-kept continues profile c d kept [] 0 es)
    ∙ ap (λ (mode : Mode). lines ++ (end_text (length es) mode ++ data_blocks_text (replay profile d (entry_events es)).store)) (kept.mode (entry_events es))
    ∙ ap (λ (store : GlobalStore). lines ++ (end_text (length es) (replay profile c (entry_events es)).mode ++ data_blocks_text store)) (kept.store (entry_events es))
  where
    lines : List ℕ
    lines = entry_lines_from c 0 (replay profile c []) es
