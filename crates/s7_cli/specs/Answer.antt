-- What a call answers: how it comes out, its text, and its exit status.
use Rattle.std.specs.Prelude.{ℕ, List, Result, Ok, Err}
use Rattle.plc_base.specs.declared.blocks.BlockId.{BlockId}
use Rattle.plc_base.specs.declared.refusals.Refusal.{Refusal}
use Rattle.image_file.specs.declared.faults.LoadFault.{LoadFault}
use Rattle.stack_bound.specs.ChainText.{chain_text}
use Rattle.s7_cli.specs.declared.failures.File.{File}
use Rattle.s7_cli.specs.declared.failures.File.TheVariants.{Source, Translation, Symbols, Image, Listing, History, Stimuli, Vars, Script, Certificate}
use Rattle.s7_cli.specs.declared.failures.Failure.{Failure}
use Rattle.s7_cli.specs.declared.failures.Failure.TheVariants.{WordsRefused, ReadFault, TooLong, Refused, ImageRefused, NoListing, SaysNo, TooDeep, WriteFault, NoMemory}
use Rattle.s7_cli.specs.Lines.{words_refused_text, read_fault_text, too_long_text, refusal_text, image_refused_text, no_listing_text, says_no_text}

-- how a call comes out: done, or why not
abbrev pub CallOutcome : Type 0
CallOutcome = Result Unit Failure

-- how a call comes out, with the whole text that goes with it
pub record CallAnswer : Type 0 where
  -- how the call comes out: done, or why not
  pub outcome : CallOutcome
  -- the whole text that goes with the outcome
  pub text : List ℕ

-- the answer of a command that is done, with this text as its result
abbrev pub done_answer : List ℕ → CallAnswer
done_answer text = record { outcome = Ok tt; text = text }

-- the answer where a file breaks a rule
abbrev pub refused_file_answer : File → Refusal → CallAnswer
refused_file_answer file refusal =
    record { outcome = Err (Refused file refusal); text = refusal_text file refusal }

-- the answer where an image isn't that of a program that verifies
abbrev pub refused_image_answer : LoadFault → CallAnswer
refused_image_answer fault =
    record { outcome = Err (ImageRefused fault); text = image_refused_text fault }

-- the answer where a file holds a byte past its limit, or a translation or a text of a listing
-- would
abbrev pub too_long_answer : File → CallAnswer
too_long_answer file = record { outcome = Err (TooLong file); text = too_long_text file }

-- the answer where a file can't be read
abbrev pub read_fault_answer : CallAnswer
read_fault_answer = record { outcome = Err ReadFault; text = read_fault_text }

-- the answer where the listing of an image doesn't compile to its program
abbrev pub no_listing_answer : CallAnswer
no_listing_answer = record { outcome = Err NoListing; text = no_listing_text }

-- the answer where a certificate doesn't hold
abbrev pub says_no_answer : CallAnswer
says_no_answer = record { outcome = Err SaysNo; text = says_no_text }

-- the answer where this chain of calls is too deep
abbrev pub too_deep_answer : List BlockId → CallAnswer
too_deep_answer chain = record { outcome = Err TooDeep; text = chain_text chain }

-- the answer where the words of a call aren't those of a command
abbrev pub words_refused_answer : CallAnswer
words_refused_answer = record { outcome = Err WordsRefused; text = words_refused_text }

-- the exit status of a refused file
abbrev pub refused_file_status : File → ℕ
refused_file_status Source = 2
refused_file_status Translation = 2
refused_file_status Symbols = 2
refused_file_status Image = 3
refused_file_status Listing = 3
refused_file_status History = 4
refused_file_status Stimuli = 4
refused_file_status Vars = 4
refused_file_status (Script number) = 4
refused_file_status Certificate = 4

-- the exit status of an outcome
abbrev pub exit_status : CallOutcome → ℕ
exit_status (Ok done) = 0
exit_status (Err WordsRefused) = 1
exit_status (Err (Refused file refusal)) = refused_file_status file
exit_status (Err (ImageRefused fault)) = 3
exit_status (Err ReadFault) = 5
exit_status (Err WriteFault) = 6
exit_status (Err NoMemory) = 7
exit_status (Err (TooLong file)) = 8
exit_status (Err NoListing) = 9
exit_status (Err SaysNo) = 10
exit_status (Err TooDeep) = 10
