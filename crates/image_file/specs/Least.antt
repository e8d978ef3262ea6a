-- The least fault: by offset, then by code.
use Rattle.std.specs.Prelude.{◌≡◌, ℕ, ◌<◌, ◌≤◌, ◌⊎◌, nat_lt, ◌==◌, Bool, ◌&&◌, ◌||◌, if◌then◌else◌, List, [], ◌∷◌, Option, Some, None}
use Rattle.image_file.specs.declared.faults.LoadFault.{LoadFault}

-- a fault stands before another one `g` (its offset and code), or is the same: by its offset, then
-- by its code
abbrev pub IsUpTo : LoadFault → ℕ × ℕ → Type 0
IsUpTo f g = (f.at < g.0) ⊎ ((f.at ≡ g.0) × (f.code ≤ g.1))

-- a fault, by offset and code, stands in the list
abbrev pub IsFaultAmong : ℕ × ℕ → List (ℕ × ℕ) → Type 0
IsFaultAmong f [] = ⊥
IsFaultAmong f (g ∷ gs) = (g ≡ f) ⊎ IsFaultAmong f gs

-- a fault is one of a list, and none of the list is less, by offset, then code
pub record IsLeastFault (f : LoadFault) (fs : List (ℕ × ℕ)) : Type 0 where
  -- the fault is one of the list
  pub one : IsFaultAmong (f.at, f.code) fs
  -- no fault of the list is less
  pub least : (g : ℕ × ℕ) → IsFaultAmong g fs → IsUpTo f g

-- whether a fault, an offset and a code, is less than the least one so far: by offset, then code
abbrev pub is_fault_less : ℕ × ℕ → LoadFault → Bool
is_fault_less f g = nat_lt f.0 g.at || f.0 == g.at && nat_lt f.1 g.code

-- the fault of a pair of offset and code
abbrev pub fault_of_pair : ℕ × ℕ → LoadFault
fault_of_pair f = record { at = f.0; code = f.1 }

-- the lesser of the least fault so far, if there is one, and another fault
abbrev pub with_fault : Option LoadFault → ℕ × ℕ → Option LoadFault
with_fault None f = Some (fault_of_pair f)
with_fault (Some g) f = if is_fault_less f g then Some (fault_of_pair f) else Some g

-- the least of a fault so far and of those to come, as one pass keeps it
unfoldable pub with_faults : Option LoadFault → List (ℕ × ℕ) → Option LoadFault
with_faults least [] = least
with_faults least (f ∷ fs) = with_faults (with_fault least f) fs
