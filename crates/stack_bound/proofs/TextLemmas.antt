-- The text of a certificate, read line by line.
use Rattle.std.proofs.Common.{◌≡◌, ℕ, ◌+◌, Bool, true, false, List, [], ◌∷◌, ◌++◌, length, Option, Some, None, Result, Ok, Err, refl, sym, ap, ◌∙◌, append_assoc, append-nil, arith, if◌then◌else◌}
use Rattle.std.specs.Str.Lines.{lines}
use Rattle.plc_base.specs.declared.blocks.BlockId.{BlockId}
use Rattle.plc_base.specs.declared.refusals.Refusal.{Refusal}
use Rattle.flat_code.specs.Programs.{Program}
use Rattle.var_access.specs.Readings.{Reading}
use Rattle.stack_bound.specs.CertificateText.{IsCertificateTextFault, IsCertificateLineFault, TakesBoundLine, TakesBoundUnlessSkipped, bound_line, certificate_of, bounds_in_front, is_line_skipped, bound_of_line_first, bounds_of_lines}
use Rattle.stack_bound.specs.declared.certificates.Bound.{Bound}
use Rattle.stack_bound.specs.declared.texts.CertificateFault.{CertificateFault}
use Rattle.stack_bound.specs.declared.texts.CertificateFault.TheVariants.{BadLine, NoMemory}

-- these bounds were read of a text, and what is left begins with the line of this number
pub record GoesOn
    (p : Program) (text : List ℕ) (done : List Bound) (line : ℕ) (before : Option BlockId) (rest : List ℕ)
    : Type 0 where
  pub all : certificate_of p text ≡ bounds_in_front done (bounds_of_lines p line before (lines rest))

nothing : (r : Result (List Bound) Refusal) → r ≡ bounds_in_front [] r
nothing (Ok list) = refl
nothing (Err refusal) = refl

-- before the first line
pub goes_first : (p : Program) (text : List ℕ) → GoesOn p text [] 1 None text
unfolding certificate_of
goes_first p text = record { all = nothing (bounds_of_lines p 1 None (lines text)) }

twice : (done : List Bound) (b : Bound) (r : Result (List Bound) Refusal)
    → bounds_in_front done (bounds_in_front (b ∷ []) r) ≡ bounds_in_front (done ++ b ∷ []) r
twice done b (Ok more) = ap Ok (sym (append_assoc done (b ∷ []) more))
twice done b (Err refusal) = refl

-- behind a right line
line_by : (p : Program) (line : ℕ) (before after : Option BlockId) (here : List ℕ) (more : List (List ℕ))
    (done now : List Bound) (skipped : Bool) (reading : Reading Bound)
    → TakesBoundUnlessSkipped skipped reading before after done now
    → bounds_in_front done (if skipped then bounds_of_lines p (line + 1) before more
    else bound_of_line_first line reading (λ b. bounds_of_lines p (line + 1) (Some b.block) more))
    ≡ bounds_in_front now (bounds_of_lines p (line + 1) after more)
line_by p line before after here more done now true reading taken =
    ap (λ (list : List Bound). bounds_in_front list (bounds_of_lines p (line + 1) before more)) (sym taken.1)
    ∙ ap (λ (o : Option BlockId). bounds_in_front now (bounds_of_lines p (line + 1) o more)) (sym taken.0)
line_by p line before after here more done now false (Err rule) taken = absurd taken
line_by p line before after here more done now false (Ok b) taken =
    twice done b (bounds_of_lines p (line + 1) (Some b.block) more)
    ∙ ap (λ (list : List Bound). bounds_in_front list (bounds_of_lines p (line + 1) (Some b.block) more)) (sym taken.1)
    ∙ ap (λ (o : Option BlockId). bounds_in_front now (bounds_of_lines p (line + 1) o more)) (sym taken.0)

first : (p : Program) (line : ℕ) (before : Option BlockId) (here : List ℕ) (more : List (List ℕ))
    → bounds_of_lines p line before (here ∷ more)
    ≡ (if is_line_skipped here then bounds_of_lines p (line + 1) before more
    else bound_of_line_first line (bound_line p before here) (λ b. bounds_of_lines p (line + 1) (Some b.block) more))
unfolding bounds_of_lines
first p line before here more = refl

pub goes_line : (p : Program) (text : List ℕ) (done now : List Bound) (line : ℕ) (before after : Option BlockId)
    (rest here behind : List ℕ) → GoesOn p text done line before rest → lines rest ≡ here ∷ lines behind
    → TakesBoundLine p before after here done now → GoesOn p text now (line + 1) after behind
goes_line p text done now line before after rest here behind so_far at taken = record {
  all =
      so_far.all ∙ ap (λ ls. bounds_in_front done (bounds_of_lines p line before ls)) at
      ∙ ap (λ (r : Result (List Bound) Refusal). bounds_in_front done r) (first p line before here (lines behind))
      ∙ line_by p line before after here (lines behind) done now (is_line_skipped here) (bound_line p before here) taken;
}

bad_by : (p : Program) (line : ℕ) (before : Option BlockId) (more : List (List ℕ)) (done : List Bound)
    (skipped : Bool) (reading : Reading Bound) (rule : ℕ) → skipped ≡ false → reading ≡ Err rule
    → bounds_in_front done (if skipped then bounds_of_lines p (line + 1) before more
    else bound_of_line_first line reading (λ b. bounds_of_lines p (line + 1) (Some b.block) more))
    ≡ Err (record { line = line; rule = rule })
bad_by p line before more done skipped reading rule not_skipped is = rw not_skipped (rw is refl)

-- the fault of a bad line is that of the text
pub goes_bad : (p : Program) (text : List ℕ) (done : List Bound) (line : ℕ) (before : Option BlockId)
    (rest here behind : List ℕ) (fault : CertificateFault) → GoesOn p text done line before rest
    → lines rest ≡ here ∷ lines behind → IsCertificateLineFault line p before here fault
    → IsCertificateTextFault (certificate_of p text) fault
goes_bad p text done line before rest here behind (BadLine number rule) so_far at fault =
    so_far.all ∙ ap (λ ls. bounds_in_front done (bounds_of_lines p line before ls)) at
    ∙ ap (λ (r : Result (List Bound) Refusal). bounds_in_front done r) (first p line before here (lines behind))
    ∙ bad_by p line before (lines behind) done (is_line_skipped here) (bound_line p before here) rule fault.1 fault.2
    ∙ ap (λ (n : ℕ). Err (record { line = n; rule = rule })) (sym fault.0)
goes_bad p text done line before rest here behind NoMemory so_far at fault = tt

-- at the end of the text
pub goes_end : (p : Program) (text : List ℕ) (done : List Bound) (line : ℕ) (before : Option BlockId)
    (rest : List ℕ) → GoesOn p text done line before rest → length rest ≡ 0
    → certificate_of p text ≡ Ok done
unfolding bounds_of_lines
goes_end p text done line before [] so_far none = so_far.all ∙ ap Ok (append-nil done)
goes_end p text done line before (b ∷ rest) so_far none = absurd (omega (arith, none))
