-- The sizes of the two profiles.
use Rattle.std.specs.Prelude.{ℕ}
use Rattle.plc_base.specs.declared.profiles.Profile.{Profile}
use Rattle.plc_base.specs.declared.profiles.Profile.TheVariants.{Small, Large}

-- how many bytes of bit memory (M) a profile has
abbrev pub bit_memory_size : Profile → ℕ
bit_memory_size Small = 256
bit_memory_size Large = 2048

-- how many timers a profile has
abbrev pub timer_count : Profile → ℕ
timer_count Small = 128
timer_count Large = 256

-- how many counters a profile has
abbrev pub counter_count : Profile → ℕ
counter_count Small = 64
counter_count Large = 256

-- how many frames, one for each open block, an activation has at most at a profile
abbrev pub most_frames : Profile → ℕ
most_frames Small = 16
most_frames Large = 24
