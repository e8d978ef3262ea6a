-- What files hold, and what a read or a write has to do with it.
use Rattle.std.specs.Prelude.{◌≡◌, ◌≢◌, ◌⊎◌, ℕ, ◌-◌, ◌<◌, ◌≤◌, Bool, true, List, length, take, drop, Option, Some}

-- what is known of files: whether their contents are told at all, and what stands under each name
-- (`None`: there is no such file)
pub record Contents : Type 0 where
  -- whether the contents of files are told
  pub told : Bool
  -- the bytes of the file under a name; `None` where there is no such file
  pub at : List ℕ → Option (List ℕ)

-- where contents are told, the file of this name holds exactly these bytes
abbrev pub FileHoldsBytes : Contents → List ℕ → List ℕ → Type 0
FileHoldsBytes c name bytes = c.told ≡ true → c.at name ≡ Some bytes

-- the file of every name holds what it held
pub record SameFiles (before after : Contents) : Type 0 where
  -- contents are told after exactly if they were before
  pub told : after.told ≡ before.told
  -- each name has the same bytes as before, or no file as before
  pub at : (name : List ℕ) → after.at name ≡ before.at name

-- the file of every name but this one holds what it held
pub record SameElsewhere (before after : Contents) (name : List ℕ) : Type 0 where
  -- contents are told after exactly if they were before
  pub told : after.told ≡ before.told
  -- each name other than `name` has the same bytes as before, or no file as before
  pub at : (other : List ℕ) → other ≢ name → after.at other ≡ before.at other

-- the first `n` bytes of `into` are those of `all` from place `at` on, and there are none only from
-- the end on or into an empty slice
pub record IsPiece (all : List ℕ) (at : ℕ) (into : List ℕ) (n : ℕ) : Type 0 where
  -- the first `n` bytes of `into` are the first `n` bytes of `all` from place `at` on
  pub same : take n into ≡ take n (drop at all)
  -- `all` has at least `n` bytes from place `at` on
  pub within : n ≤ length all - at
  -- `n` is 0 only where `into` is empty or `all` has no byte from place `at` on
  pub none : n ≡ 0 → 0 < length into → length all ≤ at

-- a read of the file `name` from place `at` on put `n` bytes to the start of `into`: where contents
-- are told, the file is there and these are its bytes
pub record ReadsFrom (c : Contents) (name : List ℕ) (at : ℕ) (into : List ℕ) (n : ℕ) : Type 0 where
  -- `into` has room for `n` bytes
  pub fits : n ≤ length into
  -- where contents are told, the `n` bytes are a piece of the file `name` from place `at` on
  pub bytes : c.told ≡ true → (all : List ℕ) × (c.at name ≡ Some all) × IsPiece all at into n

-- where contents are told, the file is there and `bytes` are its first `most` bytes, or all where
-- it has fewer
abbrev pub IsFrontOfFile : Contents → List ℕ → ℕ → List ℕ → Type 0
IsFrontOfFile c name most bytes =
    c.told ≡ true → (all : List ℕ) × (c.at name ≡ Some all) × (bytes ≡ take most all)

-- where contents are told, a write that was cut short left what the file held, or the first of the
-- bytes to write
abbrev pub IsWriteCutShort : Contents → Contents → List ℕ → List ℕ → Type 0
IsWriteCutShort before after name bytes =
    before.told ≡ true
    → (after.at name ≡ before.at name) ⊎ ((n : ℕ) × (after.at name ≡ Some (take n bytes)))
