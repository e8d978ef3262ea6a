-- What a sink has taken, from one moment to another.
use Rattle.std.specs.Prelude.{◌≡◌, ℕ, ◌<◌, ◌≤◌, List, ◌++◌, length, take, option_map, Some, Ok, Err, Result}
use Rattle.plc_io.specs.declared.faults.IoFault.{IoFault}
use Rattle.plc_io.specs.Counts.{CountsFailure}
use Rattle.plc_io.specs.Moments.{SinkAt}

-- a sink took some bytes, behind those that it had taken before
abbrev pub TookBytes : SinkAt → SinkAt → List ℕ → Type 0
TookBytes before after bytes = after.taken ≡ option_map (λ had. had ++ bytes) before.taken

-- a sink took some of these bytes, from the first on
abbrev pub TookPrefix : SinkAt → SinkAt → List ℕ → Type 0
TookPrefix before after bytes = (n : ℕ) × TookBytes before after (take n bytes)

-- a sink took the first `n` bytes of a piece, at least one of a nonempty piece
pub record TookFront (before after : SinkAt) (bytes : List ℕ) (n : ℕ) : Type 0 where
  -- the sink took the first `n` bytes of the piece
  pub took : TookBytes before after (take n bytes)
  -- the piece has at least `n` bytes
  pub within : n ≤ length bytes
  -- at least one byte of a nonempty piece is taken
  pub some : 0 < length bytes → 0 < n

-- what a sink took of a piece that was offered: as many of its first bytes as are told, or, where
-- it failed, none
abbrev pub TookOffer : SinkAt → SinkAt → List ℕ → Result ℕ IoFault → Type 0
TookOffer before after bytes (Ok n) = TookFront before after bytes n
TookOffer before after bytes (Err fault) = after.taken ≡ before.taken

-- a piece was offered to a sink, with this result
pub record OfferedPiece
    (before after : SinkAt) (bytes : List ℕ) (result : Result ℕ IoFault)
    : Type 0 where
  -- the sink took as many of the first bytes as the result tells, none where it is an error
  pub taken : TookOffer before after bytes result
  -- where the result is `Failed`, the count of failed pushes rose; else it stays
  pub faults : CountsFailure before.faults after.faults result

-- what a sink took of a text that was written: all of it, or, where it failed, some of its first
-- bytes
abbrev pub TookText : {X : Type 0} → SinkAt → SinkAt → List ℕ → Result X IoFault → Type 0
TookText before after text (Ok x) = TookBytes before after text
TookText before after text (Err fault) = TookPrefix before after text

-- a text was written to a sink, with this result
pub record WroteText
    {X : Type 0} (before after : SinkAt) (text : List ℕ) (result : Result X IoFault)
    : Type 0 where
  -- the sink took the whole text, or some of its first bytes where the result is an error
  pub taken : TookText before after text result
  -- where the result is `Failed`, the count of failed pushes rose; else it stays
  pub faults : CountsFailure before.faults after.faults result

-- what a sink shows that tells these bytes and this count
abbrev pub told_sink : List ℕ → ℕ → SinkAt
told_sink taken faults = record { taken = Some taken; faults = faults }
