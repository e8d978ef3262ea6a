-- Why bytes are refused.
use Rattle.std.specs.Prelude.{ℕ, List}
use Rattle.image_file.specs.declared.refusing.LoadError.{LoadError}
use Rattle.image_file.specs.declared.refusing.LoadError.TheVariants as error
use Rattle.image_file.specs.Least.{IsLeastFault}

-- the error with which loading refuses bytes is the least of their faults, by offset, then code;
-- nothing is said where memory is wanting
abbrev pub IsLoadError : LoadError → List (ℕ × ℕ) → Type 0
IsLoadError (error.Fault f) fs = IsLeastFault f fs
IsLoadError error.NoMemory fs = Unit {0}
