-- The laws of memory.
use Rattle.std.specs.Prelude.{◌≡◌, List, ◌≢◌, ℕ, ◌^◌, ◌<◌, ◌↔◌, Some, IsSome}
use Rattle.std.specs.List.{AllByRecursion}
use Rattle.plc_base.specs.declared.Width.{Width}
use Rattle.plc_base.specs.declared.Place.{Place}
use Rattle.plc_base.specs.declared.Profile.{Profile}
use Rattle.plc_base.specs.declared.Area.TheVariants.{P}
use Rattle.plc_mem.specs.Areas.{Areas}
use Rattle.plc_mem.specs.BitPlace.{BitPlace}
use Rattle.plc_mem.specs.Bits.{bit_at}
use Rattle.plc_mem.specs.Fresh.{initial_memory}
use Rattle.plc_base.specs.Widths.{bit_count}
use Rattle.plc_mem.specs.Number.{number_at_place, EachBitExists, region_read, region_written}
use Rattle.plc_mem.specs.Peripherals.{with_input, outputs_cleared, AreOutputsCleared, IsInputSet}
use Rattle.plc_mem.specs.Places.{AreByteValues, IsMemory, SameBlocks, SamePlaces}
use Rattle.plc_mem.specs.Refresh.{memory_refreshed, IsRefreshed}
use Rattle.plc_mem.specs.Writing.{number_written}
use Rattle.plc_mem.specs.WrittenBits.{IsNumberWritten}

-- Two memories with the same loaded data blocks and the same bits at every bit place are the same.
abbrev pub BitsDetermineMemory : (m n : Areas) → Type 0
BitsDetermineMemory m n =
    SameBlocks m n → ((place : BitPlace) → bit_at n place ≡ bit_at m place) → n ≡ m

-- Writing a number gives a memory with the number in the operand and every other bit as before, and
-- each memory of which this is so is that one.
abbrev pub WritingGivesTheOneMemory : (m other : Areas) → Type 0
WritingGivesTheOneMemory m other =
    (n : Areas) (place : Place) (width : Width) (value : ℕ)
    → value < 2 ^ bit_count width
    → number_written m place width value ≡ Some n
    → IsMemory n × IsNumberWritten m n place width value
    × (IsNumberWritten m other place width value → other ≡ n)

-- There is a number at a place and width exactly where each bit of the operand that reading means
-- exists.
abbrev pub ReadsWhereEachBitExists : Areas → Type 0
ReadsWhereEachBitExists m =
    (place : Place) (width : Width)
    → IsSome (number_at_place m place width) ↔ EachBitExists m (region_read place) place width

-- A number can be written at a place and width exactly where each bit of the operand that writing
-- means exists.
abbrev pub WritesWhereEachBitExists : Areas → Type 0
WritesWhereEachBitExists m =
    (place : Place) (width : Width) (value : ℕ)
    → IsSome (number_written m place width value)
    ↔ EachBitExists m (region_written place) place width

-- A number written is read back from its place, but in area P, where writing means peripheral
-- outputs and reading peripheral inputs.
abbrev pub NumbersAreReadBack : Areas → Type 0
NumbersAreReadBack m =
    (n : Areas) (place : Place) (width : Width) (value : ℕ)
    → value < 2 ^ bit_count width
    → place.area ≢ P
    → number_written m place width value ≡ Some n
    → number_at_place n place width ≡ Some value

-- No bit place is added or removed by a write, by setting an input, by clearing the outputs or by
-- updating the process images.
abbrev pub PlacesStay : Areas → Type 0
PlacesStay m =
    ((n : Areas) (place : Place) (width : Width) (value : ℕ)
    → value < 2 ^ bit_count width
    → number_written m place width value ≡ Some n
    → SamePlaces m n)
    × ((n : Areas) (byte value : ℕ) → value < 2 ^ 8 → with_input m byte value ≡ Some n
    → SamePlaces m n)
    × SamePlaces m (outputs_cleared m)
    × SamePlaces m (memory_refreshed m)

-- Updating the process images leaves each area in its size, and changes the bits that it should and
-- no other.
abbrev pub RefreshesBits : Areas → Type 0
RefreshesBits m = IsMemory (memory_refreshed m) × IsRefreshed m (memory_refreshed m)

-- Clearing the peripheral outputs leaves each area in its size, each peripheral output 0 and every
-- other bit as before.
abbrev pub ClearsBits : Areas → Type 0
ClearsBits m = IsMemory (outputs_cleared m) × AreOutputsCleared m (outputs_cleared m)

-- Setting a byte of the peripheral inputs leaves each area in its size, the byte with the value and
-- every other bit as before.
abbrev pub SetsInputBits : Areas → Type 0
SetsInputBits m =
    (n : Areas) (byte value : ℕ)
    → value < 2 ^ 8
    → with_input m byte value ≡ Some n
    → IsMemory n × IsInputSet m n byte value

-- Memory as it begins has all areas in their sizes, where the data blocks' bytes are numbers below
-- 256.
abbrev pub MemoryStarts : Type 0
MemoryStarts =
    (profile : Profile) (blocks : List (ℕ × List ℕ))
    → AllByRecursion (λ (block : ℕ × List ℕ). AreByteValues block.1) blocks
    → IsMemory (initial_memory profile blocks)
