-- When the next statement can be executed: nothing of it is missing.
use Rattle.std.specs.Prelude.{ℕ, List, [], ◌∷◌, IsSome}
use Rattle.plc_base.specs.declared.BlockId.{BlockId}
use Rattle.frames.specs.declared.Activation.{Activation}
use Rattle.machine.specs.Code.{Code}
use Rattle.machine.specs.Lasting.{IsStatementReady}

-- a statement of a block stands at a position
unfoldable pub HasStatement : Code → BlockId → (at : ℕ) → Type 0
HasStatement code block at = IsSome (code.fetch block at)

-- of the running activation, if one runs, a frame stands, each frame has its local data, and
-- nothing that its statement needs is missing
abbrev pub IsReady : Code → List Activation → Type 0
IsReady code [] = Unit {0}
IsReady code (a ∷ below) = IsStatementReady code a
