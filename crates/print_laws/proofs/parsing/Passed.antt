-- Actual parameters that are printed are read, each on the line of its call.
use Rattle.std.proofs.Common.{◌≡◌, ◌≤◌, ◌+◌, refl, ◌∙◌, ap, ℕ, zero, suc, true, List, [], ◌∷◌, ◌++◌, length, Some, arith, append_assoc}
use Rattle.std.specs.Prelude.{sum_by}
use Rattle.std.specs.List.{AllByRecursion}
use Rattle.std.proofs.lemmas.List.{append-nil}
use Rattle.stl_lexer.specs.Gap.{newlines_of}
use Rattle.stl_lexer.specs.Marks.{mark_text}
use Rattle.stl_lexer.specs.Pieces.{Piece, tokens_of}
use Rattle.stl_lexer.specs.Tokens.{text_of}
use Rattle.stl_lexer.specs.declared.kinds.Token.{Token}
use Rattle.stl_lexer.specs.declared.kinds.TokenKind.TheVariants as kind
use Rattle.stl_lexer.specs.declared.marks.Mark.TheVariants as mark
use Rattle.stl_ast.specs.declared.operands.Operand.{Operand}
use Rattle.stl_ast.specs.declared.statements.Actual.{Actual}
use Rattle.stl_parser.specs.Parts.{parts_from, complete_reading}
use Rattle.stl_parser.specs.Statements.{actual_at, actuals_behind, actuals_end, actuals_of, next_actual, value_ends, value_of}
use Rattle.stl_parser.specs.Terminals.{has_kind, is_mark}
use Rattle.stl_print.specs.Gaps.{gap_text}
use Rattle.stl_print.specs.Operands.{operand_pieces}
use Rattle.stl_print.specs.Pieces.{mark_piece}
use Rattle.stl_print.specs.declared.gaps.Gap.TheVariants as gap
use Rattle.stl_print.specs.Statements.{actual_pieces, actuals_pieces, further_actuals}
use Rattle.print_laws.specs.Reading.{IsPrintedActual}
use Rattle.print_laws.proofs.parsing.Actuals.{passed_lacks, passed_printed, value_counted, value_is}
use Rattle.print_laws.proofs.parsing.Operands.{Texts, operand_read}
use Rattle.print_laws.proofs.parsing.Shown.{behind, front_dropped, front_taken, lack_shown, line_past, shown_behind, shown_front, tokens_joined, without}
use Rattle.print_laws.proofs.parsing.Tame.{actual_tame, flat, flat_ends, tame_line}

of_tokens : (source : List ℕ) (w assign : Token) (vs rest : List Token) (o : Operand) → has_kind w kind.Word ≡ true
    → is_mark source assign mark.Assign ≡ true → without source mark.Comma vs ≡ true → value_of source vs ≡ Some o
    → (rest ≡ [] → ⊥) → value_ends source rest ≡ true
    → actual_at source (w ∷ assign ∷ (vs ++ rest)) ≡ Some (record { line = w.line; name = text_of source w; value = o }, rest)
unfolding actual_at
of_tokens source w assign vs rest o word is all value some ends =
    rw (word, is, value_counted source vs rest all some ends, front_taken vs rest, value, front_dropped vs rest) refl

actual_read : (source : List ℕ) (from line at : ℕ) (g : _) (a : Actual) (rest : List Token) → line ≡ at → flat (gap_text g) ≡ true
    → IsPrintedActual at a → Texts source from line (actual_pieces g a) → (rest ≡ [] → ⊥) → value_ends source rest ≡ true
    → actual_at source (tokens_of from line (actual_pieces g a) ++ rest) ≡ Some (a, rest)
unfolding actual_pieces has_kind is_mark mark_text
actual_read source from line at g a rest here one h (_, x1, (_, x2, t)) some ends =
    of_tokens source _ _ _ rest a.value refl (rw x2 refl)
    (lack_shown source _ _ mark.Comma (operand_pieces _ a.value) t (passed_lacks _ a.value h.value))
    (value_is source _ _ _ a.value h.value (operand_read source _ _ _ a.value (passed_printed a.value h.value) t))
    some ends
    ∙ ap (λ (n : List ℕ). Some (record { line = line + sum_by newlines_of (gap_text g); name = n; value = a.value }, rest)) x1
    ∙ ap (λ (n : ℕ). Some (record { line = n; name = a.name; value = a.value }, rest)) there
  where
    there : line + sum_by newlines_of (gap_text g) ≡ a.line
    there = omega (arith, flat_ends (gap_text g) one, h.line_is, here)

-- what stands behind a value ends it
further_some : (from line : ℕ) (actuals : List Actual) → tokens_of from line (further_actuals actuals) ≡ [] → ⊥
further_some from line [] e = absurd cc
further_some from line (a ∷ more) e = absurd cc

further_ends : (source : List ℕ) (from line : ℕ) (actuals : List Actual) → Texts source from line (further_actuals actuals)
    → value_ends source (tokens_of from line (further_actuals actuals)) ≡ true
unfolding value_ends is_mark has_kind mark_text actual_pieces
further_ends source from line [] (_, x1, _) = rw x1 refl
further_ends source from line (a ∷ more) (_, x1, (_, x2, (_, x3, t))) = rw (x1, x3) refl

next_read : (source : List ℕ) (from line at : ℕ) (g : _) (a : Actual) (more : List Actual) → line ≡ at → flat (gap_text g) ≡ true
    → IsPrintedActual at a → Texts source from line (actual_pieces g a ++ further_actuals more)
    → actual_at source (tokens_of from line (actual_pieces g a ++ further_actuals more))
    ≡ Some (a, tokens_of (behind from (actual_pieces g a)) (line_past line (actual_pieces g a)) (further_actuals more))
next_read source from line at g a more here one h t =
    ap (actual_at source) (tokens_joined from line (actual_pieces g a) (further_actuals more))
    ∙ actual_read source from line at g a _ here one h (shown_front source from line (actual_pieces g a) (further_actuals more) t)
    (further_some _ _ more) (further_ends source _ _ more (shown_behind source from line (actual_pieces g a) (further_actuals more) t))

further_read : (source : List ℕ) (at : ℕ) (actuals read : List Actual) (n from line : ℕ) → line ≡ at → AllByRecursion (IsPrintedActual at) actuals
    → Texts source from line (further_actuals actuals) → length actuals ≤ n
    → parts_from (actuals_end source) (next_actual source) read n (tokens_of from line (further_actuals actuals)) ≡ Some (read ++ actuals, [])
unfolding parts_from actuals_end next_actual is_mark has_kind mark_text actual_pieces
further_read source at [] read zero from line here all (_, x1, _) fits = rw (x1, append-nil read) refl
further_read source at [] read (suc n) from line here all (_, x1, _) fits = rw (x1, append-nil read) refl
further_read source at (a ∷ more) read zero from line here all t fits = absurd (omega (arith, fits))
further_read source at (a ∷ more) read (suc n) from line here all (_, x1, t) fits =
    let e : line + 0 + 0 ≡ at = omega (arith, here) in
    rw (x1, next_read source _ (line + 0 + 0) at gap.Blank a more e refl all.0 t)
    (further_read source at more (read ++ a ∷ []) n _ _ (tame_line (line + 0 + 0) (actual_pieces gap.Blank a) (actual_tame gap.Blank at a refl all.0) ∙ e) all.1
    (shown_behind source _ (line + 0 + 0) (actual_pieces gap.Blank a) (further_actuals more) t) (omega (arith, fits))
    ∙ ap (λ (l : List Actual). Some (l, [])) (append_assoc read (a ∷ []) more))

tokens_length : (ps : List Piece) (from line : ℕ) → length (tokens_of from line ps) ≡ length ps
tokens_length [] from line = refl
tokens_length (p ∷ ps) from line = ap suc (tokens_length ps _ _)

long_joined : (ps qs : List Piece) → length qs ≤ length (ps ++ qs)
long_joined [] qs = omega arith
long_joined (p ∷ ps) qs = omega (arith, long_joined ps qs)

longer : (p : Piece) (ps qs : List Piece) → suc (length qs) ≤ length (p ∷ (ps ++ qs))
longer p ps qs = omega (arith, long_joined ps qs)

one_more : (a : Actual) (more : List Actual) → suc (length (further_actuals more)) ≤ length (further_actuals (a ∷ more))
one_more a more = longer (mark_piece gap.Nothing mark.Comma) (actual_pieces gap.Blank a) (further_actuals more)

fewer : (actuals : List Actual) → length actuals ≤ length (further_actuals actuals)
fewer [] = omega arith
fewer (a ∷ more) = omega (arith, fewer more, one_more a more)

enough : (from line : ℕ) (actuals : List Actual) → length actuals ≤ length (tokens_of from line (further_actuals actuals))
enough from line actuals = omega (arith, fewer actuals, tokens_length (further_actuals actuals) from line)

pub actuals_read : (source : List ℕ) (from line at : ℕ) (actuals : List Actual) → line ≡ at → AllByRecursion (IsPrintedActual at) actuals
    → Texts source from line (actuals_pieces actuals) → actuals_of source (tokens_of from line (actuals_pieces actuals)) ≡ Some actuals
unfolding actuals_of actuals_behind is_mark has_kind mark_text
actuals_read source from line at [] here all t = refl
actuals_read source from line at (a ∷ more) here all (_, x1, t) =
    let e : line + 0 + 0 ≡ at = omega (arith, here) in
    rw (x1, next_read source _ (line + 0 + 0) at gap.Nothing a more e refl all.0 t)
    (ap complete_reading (further_read source at more (a ∷ []) _ _ _ (tame_line (line + 0 + 0) (actual_pieces gap.Nothing a) (actual_tame gap.Nothing at a refl all.0) ∙ e) all.1
    (shown_behind source _ (line + 0 + 0) (actual_pieces gap.Nothing a) (further_actuals more) t)
    (enough _ _ more)))
