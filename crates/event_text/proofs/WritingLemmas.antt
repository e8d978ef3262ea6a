-- Runs as they are written, one by one.
use Rattle.std.proofs.Common.{◌≡◌, ◌≤◌, ◌+◌, ℕ, zero, suc, true, false, List, [], ◌∷◌, ◌++◌, length, replicate, drop, refl, ap, sym, ◌∙◌, arith, append_assoc}
use Rattle.std.proofs.lemmas.List.{at_drop_all}
use Rattle.var_access.specs.Runs.{is_step, entries_of_runs}
use Rattle.var_access.specs.declared.entries.Entry.{Entry}
use Rattle.var_access.specs.declared.runs.Run.{Run}
use Rattle.event_text.specs.HistoryText.{entry_line, steps_text, history_text_behind, history_text}

one-more : (e : Entry) (rest : List Entry) (steps : ℕ) → is_step e ≡ true → history_text_behind steps (e ∷ rest) ≡ history_text_behind (steps + 1) rest
unfolding history_text_behind
one-more e rest steps is = rw is refl

-- further steps in a row
pub steps_more : (e : Entry) (rest : List Entry) (steps count : ℕ) → is_step e ≡ true
    → history_text_behind steps (replicate count e ++ rest) ≡ history_text_behind (steps + count) rest
steps_more e rest steps zero is = ap (λ n. history_text_behind n rest) same where
  same : steps ≡ steps + 0
  same = omega arith
steps_more e rest steps (suc count) is =
    one-more e (replicate count e ++ rest) steps is ∙ steps_more e rest (steps + 1) count is
    ∙ ap (λ n. history_text_behind n rest) same where
      same : steps + 1 + count ≡ steps + suc count
      same = omega arith

other : (e : Entry) (rest : List Entry) (steps : ℕ) → is_step e ≡ false
    → history_text_behind steps (e ∷ rest) ≡ steps_text steps ++ (entry_line e ++ history_text_behind 0 rest)
unfolding history_text_behind
other e rest steps is = rw is refl

-- another entry, behind the steps in front of it
pub entry_written : (e : Entry) (rest : List Entry) (steps count : ℕ) (out : List ℕ) → is_step e ≡ false → count ≡ 1
    → ((out ++ steps_text steps) ++ entry_line e) ++ history_text_behind 0 rest ≡ out ++ history_text_behind steps (replicate count e ++ rest)
entry_written e rest steps count out is one =
    append_assoc (out ++ steps_text steps) (entry_line e) (history_text_behind 0 rest)
    ∙ append_assoc out (steps_text steps) (entry_line e ++ history_text_behind 0 rest)
    ∙ ap (λ t. out ++ t) (sym (other e rest steps is))
    ∙ ap (λ n. out ++ history_text_behind steps (replicate n e ++ rest)) (sym one)

none : (steps : ℕ) → history_text_behind steps [] ≡ steps_text steps
unfolding history_text_behind
none steps = refl

-- no run is left
pub none_left : (runs : List Run) (i steps : ℕ) → length runs ≤ i → history_text_behind steps (entries_of_runs (drop i runs)) ≡ steps_text steps
none_left runs i steps end = at_drop_all (λ (left : List Run). history_text_behind steps (entries_of_runs left)) runs i end ∙ none steps

pub written_whole : (es : List Entry) → history_text es ≡ history_text_behind 0 es
unfolding history_text
written_whole es = refl
