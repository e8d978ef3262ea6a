-- A text, read line by line.
use Rattle.std.proofs.Common.{◌≡◌, ◌+◌, ℕ, cond, List, [], ◌∷◌, ◌++◌, length, Ok, Err, Result, refl, ap, sym, ◌∙◌, append_assoc, append-nil, arith}
use Rattle.std.specs.Str.Lines.{lines}
use Rattle.std.proofs.lemmas.List.Sums.{sum_by-append}
use Rattle.plc_base.specs.declared.refusals.Refusal.{Refusal}
use Rattle.var_access.specs.Readings.{Reading}
use Rattle.var_access.specs.Runs.{is_step}
use Rattle.var_access.specs.Variables.{Names}
use Rattle.var_access.specs.declared.entries.Entry.{Entry}
use Rattle.event_text.specs.Lines.{line_read}
use Rattle.event_text.specs.TextFault.{IsFollowedByEntries, IsEntryLineFault, IsTextFault}
use Rattle.event_text.specs.Texts.{entries_in_front, entries_of_line_first, entries_of_read_lines, steps_in, text_read}
use Rattle.event_text.specs.declared.faults.TextFault.{TextFault}
use Rattle.event_text.specs.declared.faults.TextFault.TheVariants.{BadLine, NoMemory}
use Rattle.event_text.specs.declared.kinds.TextKind.{TextKind}

-- these entries were read of a text, and what is left begins with the line of this number
pub record GoesOn (kind : TextKind) (names : Names) (text : List ℕ) (done : List Entry) (line : ℕ) (rest : List ℕ) : Type 0 where
  pub all : text_read kind names text ≡ entries_in_front done (entries_of_read_lines kind names line (steps_in done) (lines rest))

-- before the first line
pub GoesOn-start : (kind : TextKind) (names : Names) (text : List ℕ) → GoesOn kind names text [] 1 text
unfolding text_read
GoesOn-start kind names text = record { all = nothing (entries_of_read_lines kind names 1 0 (lines text)) } where
  nothing : (r : Result (List Entry) Refusal) → r ≡ entries_in_front [] r
  nothing (Ok es) = refl
  nothing (Err refusal) = refl

first : (kind : TextKind) (names : Names) (line before : ℕ) (text : List ℕ) (more : List (List ℕ)) (r : Reading (List Entry))
    → line_read kind names before text ≡ r
    → entries_of_read_lines kind names line before (text ∷ more) ≡ entries_of_line_first line r (λ es. entries_of_read_lines kind names (line + 1) (before + steps_in es) more)
unfolding entries_of_read_lines
first kind names line before text more r is = ap (λ x. entries_of_line_first line x (λ es. entries_of_read_lines kind names (line + 1) (before + steps_in es) more)) is

twice : (done es : List Entry) (r : Result (List Entry) Refusal) → entries_in_front done (entries_in_front es r) ≡ entries_in_front (done ++ es) r
twice done es (Ok more) = ap Ok (sym (append_assoc done es more))
twice done es (Err refusal) = refl

abbrev step-count : Entry → ℕ
step-count e = cond (is_step e) 1 0

steps-behind : (done es : List Entry) → steps_in done + steps_in es ≡ steps_in (done ++ es)
steps-behind done es = omega (arith, sum_by-append step-count done es)

-- behind a right line
pub GoesOn-line : (kind : TextKind) (names : Names) (text : List ℕ) (done now : List Entry) (line before : ℕ) (rest here behind : List ℕ)
    → GoesOn kind names text done line rest → lines rest ≡ here ∷ lines behind → before ≡ steps_in done
    → IsFollowedByEntries (line_read kind names before here) done now
    → GoesOn kind names text now (line + 1) behind
GoesOn-line kind names text done now line before rest here behind so_far at count taken =
    by (line_read kind names before here) refl taken
  where
    by : (r : Reading (List Entry)) → line_read kind names before here ≡ r → IsFollowedByEntries r done now → GoesOn kind names text now (line + 1) behind
    by (Ok es) is now-is = record {
      all = so_far.all ∙ ap (λ ls. entries_in_front done (entries_of_read_lines kind names line (steps_in done) ls)) at
          ∙ ap (entries_in_front done) (first kind names line (steps_in done) here (lines behind) (Ok es) (ap (λ (n : ℕ). line_read kind names n here) (sym count) ∙ is))
          ∙ twice done es (entries_of_read_lines kind names (line + 1) (steps_in done + steps_in es) (lines behind))
          ∙ ap (λ (n : ℕ). entries_in_front (done ++ es) (entries_of_read_lines kind names (line + 1) n (lines behind))) (steps-behind done es)
          ∙ ap (λ (xs : List Entry). entries_in_front xs (entries_of_read_lines kind names (line + 1) (steps_in xs) (lines behind))) (sym now-is);
    }
    by (Err rule) is wrong = absurd wrong

-- the fault of a bad line is that of the text
pub GoesOn-bad : (kind : TextKind) (names : Names) (text : List ℕ) (done : List Entry) (line before : ℕ) (rest here behind : List ℕ) (fault : TextFault)
    → GoesOn kind names text done line rest → lines rest ≡ here ∷ lines behind → before ≡ steps_in done
    → IsEntryLineFault line (line_read kind names before here) fault → IsTextFault (text_read kind names text) fault
GoesOn-bad kind names text done line before rest here behind (BadLine number rule) so_far at count fault =
    so_far.all ∙ ap (λ ls. entries_in_front done (entries_of_read_lines kind names line (steps_in done) ls)) at
    ∙ ap (entries_in_front done) (first kind names line (steps_in done) here (lines behind) (Err rule) (ap (λ (n : ℕ). line_read kind names n here) (sym count) ∙ fault.1))
    ∙ ap (λ (n : ℕ). Err (record { line = n; rule = rule })) (sym fault.0)
GoesOn-bad kind names text done line before rest here behind NoMemory so_far at count fault = tt

-- at the end of the text
pub GoesOn-end : (kind : TextKind) (names : Names) (text : List ℕ) (done : List Entry) (line : ℕ) (rest : List ℕ)
    → GoesOn kind names text done line rest → length rest ≡ 0 → text_read kind names text ≡ Ok done
unfolding entries_of_read_lines
GoesOn-end kind names text done line [] so_far none = so_far.all ∙ ap Ok (append-nil done)
GoesOn-end kind names text done line (b ∷ rest) so_far none = absurd (omega arith)
