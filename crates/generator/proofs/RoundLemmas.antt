-- What is true of each entry of a history.
use Rattle.std.proofs.Common.{◌≡◌, ℕ, ◌+◌, ◌%◌, List, [], ◌∷◌, replicate, sym, subst, arith, rules}
use Rattle.std.specs.List.{All, flat_map}
use Rattle.std.proofs.lemmas.List.Elements.{All-append, All-cons, All-nil, All-replicate}
use Rattle.std.proofs.lemmas.Bool.Decides.{nat_tests}
use Rattle.var_access.specs.Entry.{IsValid}
use Rattle.var_access.specs.declared.entries.Entry.{Entry}
use Rattle.generator.specs.Draws.{random_draws, state_behind}
use Rattle.generator.specs.History.{round_event, generated_history, step_entry_of_worker_1, generated_round}

pub valid_happening : (d : ℕ) → IsValid (round_event d)
unfolding round_event
valid_happening d = first_of (search (rules, nat_tests), grind (arith, nat_tests))

pub valid_round : (d : ℕ) → All IsValid (generated_round d)
unfolding generated_round
valid_round d =
    All-append IsValid (replicate (d % 400 + 1) step_entry_of_worker_1) (round_event d ∷ [])
    (All-replicate IsValid (d % 400 + 1) step_entry_of_worker_1 (omega arith, tt))
    (All-cons IsValid (round_event d) [] (valid_happening d) (All-nil IsValid))

pub valid_rounds : (ds : List ℕ) → All IsValid (flat_map generated_round ds)
valid_rounds [] = All-nil IsValid
valid_rounds (d ∷ ds) = All-append IsValid (generated_round d) (flat_map generated_round ds) (valid_round d) (valid_rounds ds)

pub valid_history : (number : ℕ) (entries : List Entry) → entries ≡ generated_history number → All IsValid entries
unfolding generated_history
valid_history number entries is =
    subst (λ es. All IsValid es) (sym is) (valid_rounds (random_draws 1000 (state_behind 2000 number)))
