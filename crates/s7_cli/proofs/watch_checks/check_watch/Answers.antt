use Rattle.std.proofs.Common.{◌∙◌, ap, ap₂, sym, subst, Err, Ok, List, ℕ, Vec, Global, length, map, arith}
use Rattle.std.proofs.lemmas.Result.{err_from_is_err_and}
use Rattle.flat_code.specs.Loading.{faults_of}
use Rattle.flat_code.specs.Programs.{NameEntry}
use Rattle.image_file.specs.Refusing.{IsLoadError}
use Rattle.event_text.specs.TextFault.{IsTextFault}
use Rattle.event_text.specs.Texts.{stimuli_of}
use Rattle.event_text.specs.WatchedVars.{watched_vars_of}
use Rattle.s7_cli.specs.declared.watch_checks.WatchWork.{WatchWork}
use Rattle.s7_cli.specs.LiveSays.{scripts_from}
use Rattle.s7_cli.specs.LiveTexts.{IsScriptRefusal}
use Rattle.s7_cli.specs.Loads.{LoadsAs}
use Rattle.s7_cli.specs.WatchTexts.{watch_scripts}
use Rattle.s7_cli.proofs.PassLemmas.{length_items}
use Rattle.s7_cli.proofs.WatchTextLemmas.{watch-image-refused, watch-scripts-refused, watch-stimuli-refused, watch-vars-refused}
use Rattle.s7_cli.proofs.watch_checks.check_watch.Goals as goal

abbrev all_bytes : List (Vec ℕ Global) → List (List ℕ)
all_bytes texts = map (λ t. t.items) texts

pub returns-in_err-program-clause-refused : goal.returns-in_err-program-clause-refused
returns-in_err-program-clause-refused c =
    let fault = err_from_is_err_and c.from_residual.result c.from_residual.ensures.1 in
    watch-image-refused _ c.args.text.now c.in_err-program.field-0.0 _ (fault.1 ∙ ap Err fault.2)
    (subst (λ (bytes : List ℕ). IsLoadError c.in_err-program.field-0.0 (faults_of bytes)) c.deref.ensures.value c.in_err-program.ensures.refused)

pub returns-in-Err-clause-refused : goal.returns-in-Err-clause-refused
returns-in-Err-clause-refused c =
    let p = c.in_ok-program.program in
    watch-stimuli-refused WatchWork c.args.text.now p c.in-Err.fault (Err c.failure_of_text.result) (ap Err c.failure_of_text.ensures)
    (subst (λ (bytes : List ℕ). LoadsAs bytes (Ok p)) c.deref.ensures.value c.in_ok-program.ensures.loads)
    (subst (λ (bytes : List ℕ). IsTextFault (stimuli_of bytes) c.in-Err.fault) c.deref-2.ensures.value c.in-Err.ensures.refused)

pub returns-in_err-vars-clause-refused : goal.returns-in_err-vars-clause-refused
returns-in_err-vars-clause-refused c =
    let fault = err_from_is_err_and c.from_residual-in_err-vars.result c.from_residual-in_err-vars.ensures.1 in
    let p = c.in_ok-program.program in
    let refusal = c.in_err-vars.ensures.refused in
    watch-vars-refused _ c.args.text.now p c.in-Ok.entries.items refusal.0 _ (fault.1 ∙ ap Err (fault.2 ∙ refusal.2))
    (subst (λ (bytes : List ℕ). LoadsAs bytes (Ok p)) c.deref.ensures.value c.in_ok-program.ensures.loads)
    (ap stimuli_of (sym c.deref-2.ensures.value) ∙ c.in-Ok.ensures.spelled)
    (ap₂ watched_vars_of (sym c.names.ensures) (sym c.deref-3.ensures.value) ∙ refusal.1)

pub returns-in_err-scripts-clause-refused : goal.returns-in_err-scripts-clause-refused
returns-in_err-scripts-clause-refused c =
    let fault = err_from_is_err_and c.from_residual-in_err-scripts.result c.from_residual-in_err-scripts.ensures.1 in
    let p = c.in_ok-program.program in
    watch-scripts-refused _ c.args.text.now p c.in-Ok.entries.items c.in_ok-vars.vars _ _ (fault.1 ∙ ap Err fault.2)
    (subst (λ (bytes : List ℕ). LoadsAs bytes (Ok p)) c.deref.ensures.value c.in_ok-program.ensures.loads)
    (ap stimuli_of (sym c.deref-2.ensures.value) ∙ c.in-Ok.ensures.spelled)
    (ap₂ watched_vars_of (sym c.names.ensures) (sym c.deref-3.ensures.value) ∙ c.in_ok-vars.ensures.spells)
    (subst (λ (names : List NameEntry). IsScriptRefusal (scripts_from names 1 (watch_scripts c.args.text.now)) c.in_err-scripts.field-0.0) c.names-2.ensures
    (subst (λ (texts : List (Vec ℕ Global)). IsScriptRefusal (scripts_from c.names-2.result.now 1 (all_bytes texts)) c.in_err-scripts.field-0.0) c.deref-4.ensures.value
    c.in_err-scripts.ensures.refused))

pub returns-clause-finds : goal.returns-clause-finds
returns-clause-finds c =
    let p = c.in_ok-program.program in record {
      loads = subst (λ (bytes : List ℕ). LoadsAs bytes (Ok p)) c.deref.ensures.value c.in_ok-program.ensures.loads;
      are_stimuli = ap stimuli_of (sym c.deref-2.ensures.value) ∙ c.in-Ok.ensures.spelled;
      are_vars = ap₂ watched_vars_of (sym c.names.ensures) (sym c.deref-3.ensures.value) ∙ c.in_ok-vars.ensures.spells;
      are_scripts = ap (λ (names : List NameEntry). scripts_from names 1 (watch_scripts c.args.text.now)) (sym c.names-2.ensures)
          ∙ ap (λ (texts : List (Vec ℕ Global)). scripts_from c.names-2.result.now 1 (all_bytes texts)) (sym c.deref-4.ensures.value)
          ∙ c.in_ok-scripts.ensures.spells;
      regular = (c.in-Ok.ensures.regular, c.in_ok-scripts.ensures.regular);
      reads = c.in_ok-vars.ensures.regular;
      few = omega (arith, c.in-Ok.ensures.few, ap length c.deref-2.ensures.value, c.requires.stimuli, c.in_ok-scripts.ensures.few);
      many = length_items (λ v. v.items) c.in_ok-scripts.scripts.items ∙ c.in_ok-scripts.ensures.many ∙ ap length c.deref-4.ensures.value;
    }
