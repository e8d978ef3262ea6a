-- STOP for want of stack.
use Rattle.std.specs.Prelude.{◌≡◌, ◌==◌, ◌||◌, Bool, false, List}
use Rattle.plc_base.specs.StopCauses as causes
use Rattle.plc_base.specs.declared.Mode.{Mode}
use Rattle.plc_base.specs.declared.Mode.TheVariants.{Run, Startup, Stop}
use Rattle.plc_base.specs.declared.Profile.{Profile}
use Rattle.flat_code.specs.Loading.{Verifies}
use Rattle.flat_code.specs.Programs.{Program}
use Rattle.machine.specs.Flat.{code_of}
use Rattle.var_access.specs.declared.What.{What}
use Rattle.controller.specs.Fitting.{AreInRange}
use Rattle.controller.specs.Replay.{replay}
use Rattle.stack_bound.specs.Certificates.{IsCertificateOf}
use Rattle.stack_bound.specs.declared.certificates.Bound.{Bound}

-- the mode is STOP by block depth or by too many local bytes
abbrev pub is_stack_overflow : Mode → Bool
is_stack_overflow Run = false
is_stack_overflow Startup = false
is_stack_overflow (Stop cause at) = cause == causes.block_depth || cause == causes.local_data

-- no valid history of a program leads to STOP by block depth or local bytes
abbrev pub NeverOverflows : Profile → Program → Type 0
NeverOverflows profile p =
    (history : List What) → AreInRange history
    → is_stack_overflow (replay profile (code_of p) history).mode ≡ false

-- law: where a certificate holds of a program that verifies, no valid history leads to STOP by
-- block depth or local bytes
abbrev pub CertificatesKeepStacks : Type 0
CertificatesKeepStacks =
    (profile : Profile) (p : Program) (c : List Bound) → Verifies p → IsCertificateOf profile p c
    → NeverOverflows profile p
