-- The organization blocks: which there are, their priority classes, their queues and their periods.
use Rattle.std.specs.Prelude.{ℕ, ◌-◌, Bool, ◌&&◌, ◌||◌, ◌==◌, nat_le, nat_lt, if◌then◌else◌}
use Rattle.plc_base.specs.declared.Mode.{Mode}
use Rattle.plc_base.specs.declared.Mode.TheVariants.{Run, Startup, Stop}

-- the OB is a time-of-day interrupt, OB 10 to 17
abbrev pub is_time_of_day : ℕ → Bool
is_time_of_day ob = nat_le 10 ob && nat_le ob 17

-- the OB is a time-delay interrupt, OB 20 to 23
abbrev pub is_delay : ℕ → Bool
is_delay ob = nat_le 20 ob && nat_le ob 23

-- the OB is a cyclic interrupt, OB 30 to 38
abbrev pub is_cyclic : ℕ → Bool
is_cyclic ob = nat_le 30 ob && nat_le ob 38

-- the OB is a hardware interrupt, OB 40 to 47
abbrev pub is_hardware : ℕ → Bool
is_hardware ob = nat_le 40 ob && nat_le ob 47

-- the OB is an interrupt, which SFC 39 DIS_IRT disables and SFC 40 EN_IRT enables: time-of-day,
-- time-delay, cyclic or hardware interrupt
abbrev pub is_interrupt : ℕ → Bool
is_interrupt ob = is_time_of_day ob || is_delay ob || is_cyclic ob || is_hardware ob

-- the OB is one of an asynchronous error: OB 80, time error, or OB 85, program sequence error
abbrev pub is_asynchronous_error : ℕ → Bool
is_asynchronous_error ob = ob == 80 || ob == 85

-- requests of the OB can be pending: the program cycle OB 1, the interrupts, OB 80 and OB 85
abbrev pub can_wait : ℕ → Bool
can_wait ob = ob == 1 || is_interrupt ob || is_asynchronous_error ob

-- the OB has a priority class of its own: each OB whose requests can be pending, and OB 100,
-- startup, which starts at once
abbrev pub has_priority_class : ℕ → Bool
has_priority_class ob = can_wait ob || ob == 100

-- the number is that of an organization block of the profile. OB 121 and 122, synchronous errors,
-- have no class of their own: they start at once in the class of the activation in which the error
-- came
abbrev pub is_ob : ℕ → Bool
is_ob ob = has_priority_class ob || ob == 121 || ob == 122

-- the priority class of an OB in RUN, from 1 to 27; a higher class interrupts a lower one
abbrev pub priority_class : ℕ → ℕ
priority_class ob =
    if nat_lt ob 10 then 1
    else if nat_lt ob 20 then 2
    else if nat_lt ob 30 then ob - 17
    else if nat_lt ob 40 then ob - 23
    else if nat_lt ob 80 then ob - 24
    else if ob == 100 then 27
    else 26

-- the priority class of an OB in an operating mode: in STARTUP that of OB 80 and OB 85 is 28, else
-- it is the one in RUN
abbrev pub priority_class_in : Mode → ℕ → ℕ
priority_class_in Run ob = priority_class ob
priority_class_in Startup ob = if is_asynchronous_error ob then 28 else priority_class ob
priority_class_in (Stop cause at) ob = priority_class ob

-- how many requests of an OB can be pending at once
abbrev pub queue_length : ℕ → ℕ
queue_length ob = if is_hardware ob then 8 else 1

-- the period of a cyclic interrupt, OB 30 to 38, in milliseconds
abbrev pub period_of : ℕ → ℕ
period_of ob =
    if ob == 30 then 5000
    else if ob == 31 then 2000
    else if ob == 32 then 1000
    else if ob == 33 then 500
    else if ob == 34 then 200
    else if ob == 35 then 100
    else if ob == 36 then 50
    else if ob == 37 then 20
    else 10
