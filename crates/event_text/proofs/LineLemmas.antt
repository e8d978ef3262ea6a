-- What the readers of lines say of what they read.
use Rattle.std.proofs.Common.{◌≡◌, ◌≤◌, ℕ, Bool, true, false, [], Ok, Err, IfOk, ap, arith, subst}
use Rattle.std.specs.List.{All}
use Rattle.std.proofs.lemmas.List.Elements.{All-nil, All-cons, All-replicate}
use Rattle.var_access.specs.Entry.{IsValid}
use Rattle.var_access.specs.Readings.{Reading, both_readings}
use Rattle.event_text.specs.LineEntries.{entries_of_line, HasWorker, IsOtherLine, IsScriptLine, IsLineAllowed}
use Rattle.event_text.specs.Lines.{script_worker, where_allowed}
use Rattle.event_text.specs.Workers.{one_step}
use Rattle.event_text.specs.declared.kinds.TextKind.{TextKind}
use Rattle.event_text.specs.declared.kinds.TextKind.TheVariants.{History, Stimuli, Script}
use Rattle.event_text.specs.declared.lines.LineEntries.{LineEntries}
use Rattle.event_text.specs.declared.lines.LineEntries.TheVariants.{Nothing, Steps, One}

differ : {A : Type 0} {a : A} {rule : ℕ} → Err rule ≡ Ok a → ⊥
differ e = cc

-- what is known of the second of two parts
pub both_second : {A B : Type 0} (P : B → Type 0) (a : Reading A) (b : Reading B) (x : A) (y : B) → both_readings a b ≡ Ok (x, y) → IfOk b P → P y
both_second {A} {B} P (Ok a) (Ok b) x y is known = subst P (ap second is) known where
  second : Reading (A × B) → B
  second (Ok p) = p.1
  second (Err rule) = b
both_second P (Ok a) (Err rule) x y is known = absurd (differ is)
both_second P (Err rule) (Ok b) x y is known = absurd (differ is)
both_second P (Err rule) (Err other) x y is known = absurd (differ is)

-- what is read where it stands is read as it is
pub allowed_ok : {A : Type 0} (P : A → Type 0) (stands : Bool) (r : Reading A) (a : A) → where_allowed stands r ≡ Ok a → IfOk r P → P a
allowed_ok {A} P true (Ok b) a is known = subst P (ap value is) known where
  value : Reading A → A
  value (Ok c) = c
  value (Err rule) = b
allowed_ok P true (Err rule) a is known = absurd (differ is)
allowed_ok P false (Ok b) a is known = absurd (differ is)
allowed_ok P false (Err rule) a is known = absurd (differ is)

-- the worker of a script is numbered from 1
pub worker_some : (kind : TextKind) → HasWorker kind → 1 ≤ script_worker kind
worker_some History h = omega arith
worker_some Stimuli h = omega arith
worker_some (Script who) h = h

pub other_line : (kind : TextKind) (before : ℕ) (r : Reading LineEntries) → IfOk r IsOtherLine → IfOk r (IsLineAllowed kind before)
other_line kind before (Ok Nothing) is = tt
other_line kind before (Ok (Steps count)) is = absurd is
other_line kind before (Ok (One entry)) is = (is.other, λ worker. is.valid)
other_line kind before (Err rule) is = tt

pub script_line_of : (kind : TextKind) (before : ℕ) (r : Reading LineEntries) → IfOk r (IsScriptLine kind) → IfOk r (IsLineAllowed kind before)
script_line_of kind before (Ok Nothing) is = tt
script_line_of kind before (Ok (Steps count)) is = absurd is
script_line_of kind before (Ok (One entry)) is = is
script_line_of kind before (Err rule) is = tt

-- the entries of a line are valid
pub valid_line : (kind : TextKind) (before : ℕ) (found : LineEntries) → HasWorker kind → IsLineAllowed kind before found → All IsValid (entries_of_line found)
valid_line kind before Nothing worker is = All-nil IsValid
valid_line kind before (Steps count) worker is = All-replicate IsValid count one_step (omega arith, tt)
valid_line kind before (One entry) worker is = All-cons IsValid entry [] (is.1 worker) (All-nil IsValid)
