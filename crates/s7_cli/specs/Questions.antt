-- What the program tells of itself.
use Rattle.std.specs.Prelude.{◌≡◌, ◌≢◌, ◌⊎◌, ◌||◌, ℕ, List, [], ◌∷◌, Option, Some, None, codes, bytes_eq, if◌then◌else◌}
use Rattle.plc_io.specs.Counts.{CountRose}
use Rattle.plc_io.specs.Moments.{SinkAt}
use Rattle.plc_io.specs.SinkBytes.{TookBytes, TookPrefix}
use Rattle.s7_cli.specs.declared.help.Question.{Question}
use Rattle.s7_cli.specs.declared.help.Question.TheVariants.{Help, Version}
use Rattle.s7_cli.specs.declared.help.TheConstants.{HELP, VERSION}

-- the text that answers a question about the program
abbrev pub question_text : Question → List ℕ
question_text Help = HELP.now
question_text Version = VERSION.now

-- the question that a word asks: `--help` or `-h`, `--version` or `-V`
abbrev pub question_by : List ℕ → Option Question
question_by word =
    if bytes_eq word (codes "--help") || bytes_eq word (codes "-h") then Some Help
    else if bytes_eq word (codes "--version") || bytes_eq word (codes "-V") then Some Version
    else None

-- the question that the words of a call ask: it stands as their only word
abbrev pub question_of : List (List ℕ) → Option Question
question_of (word ∷ []) = question_by word
question_of words = None

-- the text of an answer was written with this exit status: whole at 0; a front of it at 6, where
-- the sink's count of faults rose, and at 7, for want of memory
pub record AnswerWritten (text : List ℕ) (before after : SinkAt) (code : ℕ) : Type 0 where
  -- the status is 0, 6 or 7
  pub statuses : (code ≡ 0) ⊎ (code ≡ 6) ⊎ (code ≡ 7)
  -- at 0 the sink took the whole text
  pub whole : code ≡ 0 → TookBytes before after text
  -- at 6 and 7 it took a front of the text
  pub cut : code ≢ 0 → TookPrefix before after text
  -- at 6 the count of its faults rose
  pub failed : code ≡ 6 → CountRose before.faults after.faults
  -- at 0 and 7 no push to it failed
  pub unfailed : code ≢ 6 → after.faults ≡ before.faults
