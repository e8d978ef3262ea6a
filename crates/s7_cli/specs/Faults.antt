-- The failure of a command by the fault of a reader.
use Rattle.event_text.specs.declared.TextFault.{TextFault}
use Rattle.event_text.specs.declared.TextFault.TheVariants as text
use Rattle.image_file.specs.declared.refusing.LoadError.{LoadError}
use Rattle.image_file.specs.declared.refusing.LoadError.TheVariants as loading
use Rattle.stack_bound.specs.declared.texts.CertificateFault.{CertificateFault}
use Rattle.stack_bound.specs.declared.texts.CertificateFault.TheVariants as certificate
use Rattle.s7_cli.specs.declared.faults.CompileFault.{CompileFault}
use Rattle.s7_cli.specs.declared.faults.CompileFault.TheVariants as compiling
use Rattle.s7_cli.specs.declared.failures.File.{File}
use Rattle.s7_cli.specs.declared.failures.File.TheVariants.{Source, Symbols, History, Certificate}
use Rattle.s7_cli.specs.declared.failures.Failure.{Failure}
use Rattle.s7_cli.specs.declared.failures.Failure.TheVariants.{Refused, ImageRefused, NoMemory}

-- the failure by a fault of compiling: the symbols file or the source is refused, or there is no
-- memory
abbrev pub failure_of_compiling : CompileFault → Failure
failure_of_compiling (compiling.Symbols refusal) = Refused Symbols refusal
failure_of_compiling (compiling.Source refusal) = Refused Source refusal
failure_of_compiling compiling.NoMemory = NoMemory

-- the failure by a fault of a file of entries (history, stimuli or script): the file is refused, or
-- there is no memory
abbrev pub failure_of_text : File → TextFault → Failure
failure_of_text file (text.BadLine line rule) =
    Refused file (record { line = line; rule = rule })
failure_of_text file text.NoMemory = NoMemory

-- the failure by a fault of a history: it is refused, or there is no memory
abbrev pub failure_of_history : TextFault → Failure
failure_of_history fault = failure_of_text History fault

-- the failure by a fault of loading: the image is refused, or there is no memory
abbrev pub failure_of_loading : LoadError → Failure
failure_of_loading (loading.Fault fault) = ImageRefused fault
failure_of_loading loading.NoMemory = NoMemory

-- the failure by a fault of a certificate: it is refused, or there is no memory
abbrev pub failure_of_certificate : CertificateFault → Failure
failure_of_certificate (certificate.BadLine line rule) =
    Refused Certificate (record { line = line; rule = rule })
failure_of_certificate certificate.NoMemory = NoMemory
