-- What the tests' workers ask of a pass.
use Rattle.std.specs.Prelude.{◌≡◌, false}
use Rattle.tracked_lock.specs.Passes.{LockView, PassView}

-- the pass is the lock's, and no value is out with it
abbrev pub IsFree : {O E : Type 0} → LockView O → PassView O E → Type 0
IsFree lock p = (p.lock ≡ lock) × (p.out ≡ false)
