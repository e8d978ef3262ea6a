-- The history that a number gives: rounds, each some steps and one thing that happens.
use Rattle.std.specs.Prelude.{ℕ, ◌+◌, ◌*◌, ◌/◌, ◌%◌, ◌==◌, if◌then◌else◌, List, [], ◌∷◌, ◌++◌, replicate}
use Rattle.std.specs.List.{flat_map}
use Rattle.plc_base.specs.declared.places.Area.TheVariants.{M}
use Rattle.plc_base.specs.declared.places.Width.TheVariants.{Word}
use Rattle.var_access.specs.declared.entries.Entry.{Entry}
use Rattle.var_access.specs.declared.entries.What.TheVariants.{Step, Input, Tick, Ask}
use Rattle.var_access.specs.declared.requests.Request.TheVariants.{ReadVars}
use Rattle.var_access.specs.declared.requests.Var.{Var}
use Rattle.generator.specs.Draws.{random_draws, state_behind}

-- a step, by worker 1
abbrev pub step_entry_of_worker_1 : Entry
step_entry_of_worker_1 = record { who = 1; what = Step }

-- a word of bit memory, by its first byte
abbrev pub memory_word : ℕ → Var
memory_word byte =
    record { place = record { number = 0; byte = byte; area = M; bit = 0 }; width = Word }

-- what happens in a round behind its steps: worker 2 lets a millisecond pass or feeds an input
-- byte, or operator 1, worker 3, reads a word of bit memory
unfoldable pub round_event : ℕ → Entry
round_event d =
    if d / 400 % 3 == 0 then record { who = 2; what = Tick 1 }
    else if d / 400 % 3 == 1 then record { who = 2; what = Input (d % 128) (d % 256) }
    else record { who = 3; what = Ask (ReadVars (memory_word (2 * (d % 100)) ∷ [])) }

-- the round that a draw gives: one to 400 steps, and then one thing that happens
unfoldable pub generated_round : ℕ → List Entry
generated_round d = replicate (d % 400 + 1) step_entry_of_worker_1 ++ round_event d ∷ []

-- the history of a number: the rounds of 1,000 draws, behind the 2,000 draws of its source
unfoldable pub generated_history : ℕ → List Entry
generated_history number = flat_map generated_round (random_draws 1000 (state_behind 2000 number))
