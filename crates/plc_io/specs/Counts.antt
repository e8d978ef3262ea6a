-- Counts of failed calls. Counts by name are functions of the name, so that an outside may keep one
-- for each file or one for all.
use Rattle.std.specs.Prelude.{◌≡◌, ℕ, ◌+◌, ◌-◌, ◌^◌, ◌≤◌, min, List, Ok, Err, Result}
use Rattle.plc_io.specs.declared.faults.IoFault.{IoFault}
use Rattle.plc_io.specs.declared.faults.IoFault.TheVariants.{Failed, NoMemory}

-- the last value of a count, where it stands still
abbrev pub last_count : ℕ
last_count = 2 ^ 64 - 1

-- a count rose: it is greater at the end than at the start, or stands at its last value
abbrev pub CountRose : ℕ → ℕ → Type 0
CountRose before now = min (before + 1) last_count ≤ now

-- each name has the count that it had before
abbrev pub SameCounts : (List ℕ → ℕ) → (List ℕ → ℕ) → Type 0
SameCounts before now = (name : List ℕ) → now name ≡ before name

-- the count of no name fell
abbrev pub NoCountFell : (List ℕ → ℕ) → (List ℕ → ℕ) → Type 0
NoCountFell before now = (name : List ℕ) → before name ≤ now name

-- what a call on the file `name` leaves of the counts by name: a failed one raised this name's
-- count, and every other raised none
abbrev pub CountsFailureByName :
    {X : Type 0} → (List ℕ → ℕ) → (List ℕ → ℕ) → List ℕ → Result X IoFault → Type 0
CountsFailureByName before now name (Ok x) = SameCounts before now
CountsFailureByName before now name (Err Failed) =
    NoCountFell before now × CountRose (before name) (now name)
CountsFailureByName before now name (Err NoMemory) = SameCounts before now

-- what a call leaves of a single count: a failed one raised it, and every other didn't
abbrev pub CountsFailure : {X : Type 0} → ℕ → ℕ → Result X IoFault → Type 0
CountsFailure before now (Ok x) = now ≡ before
CountsFailure before now (Err Failed) = (before ≤ now) × CountRose before now
CountsFailure before now (Err NoMemory) = now ≡ before

-- one count for all names, as a function of the name
abbrev pub for_every_name : ℕ → List ℕ → ℕ
for_every_name count name = count
