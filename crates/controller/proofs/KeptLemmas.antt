-- Records of diagnostics change neither the mode nor the activations; in STOP none stands.
use Rattle.std.proofs.Common.{◌≡◌, ℕ, List, [], ◌∷◌, refl, sym, subst}
use Rattle.machine.specs.Code.{Code}
use Rattle.controller.specs.Stack.{IsActivationStack}
use Rattle.controller.specs.State.{State, diagnosis_recorded, diagnoses_recorded}
use Rattle.controller.specs.Stopping.{stop_entered}

pub diagnosed_activations : (records : List (ℕ × ℕ)) (s : State)
    → (diagnoses_recorded records s).activations ≡ s.activations
diagnosed_activations [] s = refl
diagnosed_activations (one ∷ rest) s = diagnosed_activations rest (diagnosis_recorded one.0 one.1 s)

pub diagnosed_mode : (records : List (ℕ × ℕ)) (s : State)
    → (diagnoses_recorded records s).mode ≡ s.mode
diagnosed_mode [] s = refl
diagnosed_mode (one ∷ rest) s = diagnosed_mode rest (diagnosis_recorded one.0 one.1 s)

pub halted_stands : (code : Code) (cause : ℕ) (s t : State) → t ≡ stop_entered code cause s
    → IsActivationStack t.mode t.activations
unfolding stop_entered
halted_stands code cause s t is =
    subst (λ (u : State). IsActivationStack u.mode u.activations) (sym is)
    (record { stack = tt; startup = tt })
