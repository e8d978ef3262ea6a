-- What `watch` says of the contents of its files: one outcome, and which.
use Rattle.std.proofs.Common.{◌≡◌, inl, inr, sym, ◌∙◌, ap, subst, ℕ, List, Ok, Err, Result}
use Rattle.plc_base.specs.declared.Refusal.{Refusal}
use Rattle.image_file.specs.LoadedProgram.{LoadedProgram}
use Rattle.image_file.specs.declared.faults.LoadFault.{LoadFault}
use Rattle.var_access.specs.declared.Entry.{Entry}
use Rattle.var_access.specs.declared.Var.{Var}
use Rattle.event_text.specs.Texts.{stimuli_of}
use Rattle.event_text.specs.WatchedVars.{watched_vars_of}
use Rattle.s7_cli.specs.declared.failures.File.TheVariants.{Stimuli, Vars, Script}
use Rattle.s7_cli.specs.Answer.{CallAnswer}
use Rattle.s7_cli.specs.LiveSays.{RefusedScript, scripts_from}
use Rattle.s7_cli.specs.WatchSays.{LoadedWatch, WatchAnswer, WatchSays, watch_text}
use Rattle.s7_cli.proofs.LoadLemmas.{loads-one}
use Rattle.s7_cli.proofs.CommandAnswers.{IsCommandAnswer}

same-outcome : (a b c : CallAnswer) → a ≡ c → b ≡ c → a.outcome ≡ b.outcome
same-outcome a b c m n = ap (λ (x : CallAnswer). x.outcome) (m ∙ sym n)

checked-one : (p : LoadedProgram) (steps : ℕ) (s : Result (List Entry) Refusal) (v : Result (List Var) Refusal) (r : Result (List (List Entry)) RefusedScript) (a b : CallAnswer)
    → WatchAnswer p steps s v r a → WatchAnswer p steps s v r b → a.outcome ≡ b.outcome
checked-one p steps (Err refusal) v r a b m n = same-outcome a b _ m n
checked-one p steps (Ok stimuli) (Err refusal) r a b m n = same-outcome a b _ m n
checked-one p steps (Ok stimuli) (Ok vars) (Err script) a b m n = same-outcome a b _ m n
checked-one p steps (Ok stimuli) (Ok vars) (Ok scripts) a b m n = ap (λ (x : CallAnswer). x.outcome) m.says ∙ sym (ap (λ (x : CallAnswer). x.outcome) n.says)

loaded-one : (l : Result LoadedProgram LoadFault) (steps : ℕ) (stimuli vars : List ℕ) (scripts : List (List ℕ)) (a b : CallAnswer)
    → LoadedWatch l steps stimuli vars scripts a → LoadedWatch l steps stimuli vars scripts b → a.outcome ≡ b.outcome
loaded-one (Err fault) steps stimuli vars scripts a b m n = same-outcome a b _ m n
loaded-one (Ok p) steps stimuli vars scripts a b m n =
    checked-one p steps (stimuli_of stimuli) (watched_vars_of p.program.names vars) (scripts_from p.program.names 1 scripts) a b m n

pub watch-one : (steps : ℕ) (image stimuli vars : List ℕ) (scripts : List (List ℕ)) (a b : CallAnswer) → WatchSays steps image stimuli vars scripts a
    → WatchSays steps image stimuli vars scripts b → a.outcome ≡ b.outcome
watch-one steps image stimuli vars scripts a b p q =
    loaded-one p.0 steps stimuli vars scripts a b p.2
    (subst (λ (l : Result LoadedProgram LoadFault). LoadedWatch l steps stimuli vars scripts b) (loads-one image q.0 p.0 q.1 p.1) q.2)

-- ---- it is done, or refuses a file or the image

watched-is-answer : (p : LoadedProgram) (steps : ℕ) (s : Result (List Entry) Refusal) (v : Result (List Var) Refusal) (r : Result (List (List Entry)) RefusedScript) (a : CallAnswer)
    → WatchAnswer p steps s v r a → IsCommandAnswer a
watched-is-answer p steps (Err refusal) v r a said = inr (inl (Stimuli, refusal, said))
watched-is-answer p steps (Ok stimuli) (Err refusal) r a said = inr (inl (Vars, refusal, said))
watched-is-answer p steps (Ok stimuli) (Ok vars) (Err script) a said = inr (inl (Script script.number, script.refusal, said))
watched-is-answer p steps (Ok stimuli) (Ok vars) (Ok scripts) a said = inl (watch_text p said.history vars said.seen, said.says)

loaded-is-answer : (l : Result LoadedProgram LoadFault) (steps : ℕ) (stimuli vars : List ℕ) (scripts : List (List ℕ)) (a : CallAnswer)
    → LoadedWatch l steps stimuli vars scripts a → IsCommandAnswer a
loaded-is-answer (Err fault) steps stimuli vars scripts a said = inr (inr (inl (fault, said)))
loaded-is-answer (Ok p) steps stimuli vars scripts a said =
    watched-is-answer p steps (stimuli_of stimuli) (watched_vars_of p.program.names vars) (scripts_from p.program.names 1 scripts) a said

pub watch-is-answer : (steps : ℕ) (image stimuli vars : List ℕ) (scripts : List (List ℕ)) (a : CallAnswer) → WatchSays steps image stimuli vars scripts a → IsCommandAnswer a
watch-is-answer steps image stimuli vars scripts a said = loaded-is-answer said.0 steps stimuli vars scripts a said.2
