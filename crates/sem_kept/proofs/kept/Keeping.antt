-- A code that follows another is kept by it.
use Rattle.std.proofs.Common.{ℕ, ap, ◌∙◌}
use Rattle.plc_base.specs.declared.BlockId.{BlockId}
use Rattle.plc_base.specs.declared.Profile.{Profile}
use Rattle.machine.specs.Code.{Code}
use Rattle.machine.specs.MovedCode.{FollowsCode}
use Rattle.controller.specs.MovedCode.{EntriesMove, HistoriesMove}
use Rattle.controller.specs.Replay.{EntryResult, entry_result, replay}
use Rattle.controller.specs.State.{State}
use Rattle.sem_kept.specs.KeptProgram.{BehavesAlike}

pub kept_by :
    (profile : Profile) (f : BlockId → ℕ → ℕ) (c d : Code)
    → EntriesMove → HistoriesMove → FollowsCode f c d → BehavesAlike profile c d
kept_by profile f c d entries histories follows = record {
  store = λ history. ap (λ (s : State). s.store) (histories profile f c d history follows);
  mode = λ history. ap (λ (s : State). s.mode) (histories profile f c d history follows);
  sched = λ history. ap (λ (s : State). s.sched) (histories profile f c d history follows);
  diagnostics = λ history. ap (λ (s : State). s.diagnostics) (histories profile f c d history follows);
  reply = λ history entry. ap (λ (s : State). (entry_result d s entry).reply) (histories profile f c d history follows)
      ∙ ap (λ (h : EntryResult). h.reply) (entries f c d (replay profile c history) entry follows);
  seen = λ history entry. ap (λ (s : State). (entry_result d s entry).seen) (histories profile f c d history follows)
      ∙ ap (λ (h : EntryResult). h.seen) (entries f c d (replay profile c history) entry follows);
}
