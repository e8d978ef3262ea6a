-- The start information of an organization block: its first 20 local bytes.
use Rattle.std.specs.Prelude.{ℕ, ◌+◌, ◌-◌, ◌/◌, ◌%◌, ◌||◌, ◌==◌, nat_lt, IsTrue, List, [], ◌∷◌, ◌++◌, replicate, if◌then◌else◌}
use Rattle.plc_base.specs.ErrorCodes as errors
use Rattle.ob_sched.specs.OrganizationBlock.{is_asynchronous_error, is_time_of_day, is_delay, is_cyclic, is_hardware}
use Rattle.ob_sched.specs.declared.start_infos.StartInfo.{StartInfo}
use Rattle.ob_sched.specs.declared.start_infos.StartEvent.{StartEvent}
use Rattle.ob_sched.specs.declared.start_infos.StartEvent.TheVariants.{Cycle, Startup, Arrival, Delay, Period, CycleTime, Missed, QueueFull, NotLoaded, Synchronous}

-- the OB that a synchronous error starts: OB 122 for an access error to peripherals, OB 121 for
-- any other error code
abbrev pub ob_of_error : ℕ → ℕ
ob_of_error code =
    if code == errors.no_peripheral || code == errors.no_peripheral_to_write then 122 else 121

-- the number of the organization block that a start event starts
abbrev pub event_ob : StartEvent → ℕ
event_ob (Cycle first) = 1
event_ob Startup = 100
event_ob (Arrival ob value) = ob
event_ob (Delay ob) = ob
event_ob (Period ob) = ob
event_ob CycleTime = 80
event_ob (Missed ob) = 80
event_ob (QueueFull ob) = 80
event_ob (NotLoaded ob) = 85
event_ob (Synchronous code kind number line) = ob_of_error code

-- a start event whose OB fits it: an arrival is one of OB 10 to 17 or 40 to 47, the end of a delay
-- one of OB 20 to 23, the end of a period one of OB 30 to 38
abbrev pub IsEvent : StartEvent → Type 0
IsEvent (Arrival ob value) = IsTrue (is_time_of_day ob || is_hardware ob)
IsEvent (Delay ob) = IsTrue (is_delay ob)
IsEvent (Period ob) = IsTrue (is_cyclic ob)
IsEvent event = Unit {0}

-- byte 0 of the start information, the event class, by the OB that starts
abbrev pub event_class : ℕ → ℕ
event_class ob =
    if is_asynchronous_error ob then 0x35
    else if ob == 100 then 0x13
    else if ob == 121 then 0x25
    else if ob == 122 then 0x29
    else 0x11

-- the start code of an interrupt OB: 16#11 for OB 10, 16#21 for OB 20, 16#31 for OB 30, 16#41 for
-- OB 40, and one more for each further OB of the group
abbrev pub interrupt_code : ℕ → ℕ
interrupt_code ob =
    if nat_lt ob 20 then 0x11 + (ob - 10)
    else if nat_lt ob 30 then 0x21 + (ob - 20)
    else if nat_lt ob 40 then 0x31 + (ob - 30)
    else 0x41 + (ob - 40)

-- byte 1 of the start information, the start code
abbrev pub start_code : StartEvent → ℕ
start_code (Cycle first) = if first then 0x01 else 0x03
start_code Startup = 0x81
start_code (Arrival ob value) = interrupt_code ob
start_code (Delay ob) = interrupt_code ob
start_code (Period ob) = interrupt_code ob
start_code CycleTime = 0x01
start_code (Missed ob) = 0x02
start_code (QueueFull ob) = 0x07
start_code (NotLoaded ob) = 0xA1
start_code (Synchronous code kind number line) = code

-- byte 5 of the start information: the kind of the block in which a synchronous error came (1 OB,
-- 2 FC, 3 FB), else 0
abbrev pub event_block_kind : StartEvent → ℕ
event_block_kind (Synchronous code kind number line) = kind
event_block_kind event = 0

-- bytes 6 and 7 of the start information: the OB that a time error concerns (1 where the cycle
-- time is exceeded), the OB that isn't loaded, or the number of the block in which a synchronous
-- error came, else 0
abbrev pub event_number : StartEvent → ℕ
event_number CycleTime = 1
event_number (Missed ob) = ob
event_number (QueueFull ob) = ob
event_number (NotLoaded ob) = ob
event_number (Synchronous code kind number line) = number
event_number event = 0

-- bytes 8 to 11 of the start information: the value of an arrival, or the source line of the
-- statement at which a synchronous error came, else 0
abbrev pub event_value : StartEvent → ℕ
event_value (Arrival ob value) = value
event_value (Synchronous code kind number line) = line
event_value event = 0

-- the lowest 16 bits of a number in two bytes, the higher byte first
abbrev pub two_bytes : ℕ → List ℕ
two_bytes n = n / 256 % 256 ∷ n % 256 ∷ []

-- the lowest 32 bits of a number in four bytes, the highest byte first
abbrev pub four_bytes : ℕ → List ℕ
four_bytes n = two_bytes (n / 65536) ++ two_bytes n

-- the 20 bytes of the start information, of a start event and a priority class: bytes 2 and 3 are
-- the priority class and the OB number, byte 4 and bytes 12 to 19 are 0
abbrev pub start_bytes : StartEvent → ℕ → List ℕ
start_bytes event class =
    event_class (event_ob event) ∷ start_code event ∷ class ∷ event_ob event ∷ 0
    ∷ event_block_kind event
    ∷ (two_bytes (event_number event) ++ four_bytes (event_value event) ++ replicate 8 0)

-- the start information of the OB that a start event starts in a priority class
unfoldable pub start_info : StartEvent → ℕ → StartInfo
start_info event class = record { bytes = start_bytes event class }
