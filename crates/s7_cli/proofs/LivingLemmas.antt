-- A live history, from what the workers made and what the station gave back.
use Rattle.std.proofs.Common.{◌≡◌, ℕ, suc, ◌+◌, ◌<◌, ◌≤◌, Bool, true, List, [], ◌∷◌, ◌++◌, length, replicate, Result, Ok, Err, sym, refl, ap, ◌∙◌, subst, inl, inr, ⊎_elim, arith, length-append}
use Rattle.std.proofs.lemmas.List.{length-replicate}
use Rattle.std.proofs.lemmas.List.Elements.{All-from_recursion}
use Rattle.image_file.specs.LoadedProgram.{LoadedProgram}
use Rattle.var_access.specs.declared.Entry.{Entry}
use Rattle.controller.specs.Recording.{Recording}
use Rattle.tracked_lock.specs.Passes.{PassView, LockView, missing_number_count, fresh_pass, fresh_passes}
use Rattle.tracked_lock.specs.Views.{AreEntriesByMaker, HoldsForEach, times}
use Rattle.tracked_lock.specs.declared.views.Made.{Made}
use Rattle.station.specs.Closing.{IsGivenBack}
use Rattle.station.specs.Openings.{the_opening}
use Rattle.station.specs.declared.shared.Opening.{Opening}
use Rattle.station.specs.declared.shared.StationFault.{StationFault}
use Rattle.station.specs.declared.shared.StationFault.TheVariants.{NoMemory, Full}
use Rattle.station.specs.declared.shared.TheConstants.{FULL}
use Rattle.s7_cli.specs.Living.{IsFullNever, IsLive, opening_on, total_length}
use Rattle.s7_cli.specs.Working.{EndsInStop, HasWorked, HaveWorkedTogether, KnowsFault, RunsBefore, entries_of_worker, step_entry_by}
use Rattle.s7_cli.proofs.NumberLemmas.{AreNumbered, all_of_each, begun_few, begun_many, begun_numbered, few_made, is_numbered, missing_none, stand_in, times_numbered}
use Rattle.s7_cli.proofs.StepperLemmas.{ends_on, none_came, runs_on}

-- a station with two passes more than there are scripts, and what the workers made with these
module _ (s : LockView Opening) (steps : ℕ) (stimuli : List Entry) (scripts : List (List Entry)) (r : PassView Opening Entry) (whole : Bool)
    (n : ℕ) (ps : List (PassView Opening Entry)) (fresh : ps ≡ fresh_passes s 0 n) (two_more : n ≡ length scripts + 2) (worked : HasWorked s ps steps stimuli scripts r whole) where
  abbrev lists : List (List Entry)
  lists = stimuli ∷ scripts

  as_many : n ≡ suc (suc (length scripts))
  as_many = omega (arith, two_more)

  abbrev h : HaveWorkedTogether s (fresh_pass s 1) (fresh_passes s 1 (suc (length scripts))) steps lists r whole
  h = subst (λ l. HasWorked s l steps stimuli scripts r whole) (fresh ∙ ap (fresh_passes s 0) as_many) worked

  abbrev all_made : List (Made Entry)
  all_made = record { number = 1; entries = replicate h.count (step_entry_by 1) } ∷ h.others

  numbered : AreNumbered 0 all_made
  numbered = (refl, begun_numbered s 1 lists h.others h.begun)

  many : length all_made ≡ suc (suc (length scripts))
  many = ap suc (begun_many s 1 lists h.others h.begun)

  -- they have all numbers
  pub none_missing : s.passes ≡ n → missing_number_count s.passes r.made ≡ 0
  none_missing passes =
      subst (λ k. missing_number_count k r.made ≡ 0) (sym passes) (subst (λ ms. missing_number_count n ms ≡ 0) (sym h.made)
      (missing_none n all_made (λ k pos le. times_numbered 0 k all_made numbered pos (omega (arith, many, as_many, le)))))

  module _ (begin c : Recording) (starts : s.origin ≡ record { program = begin.program; profile = begin.profile; first = begin.history } ∷ [])
      (loaded : LoadedProgram) (none_yet : begin ≡ record { program = loaded.program; profile = loaded.profile; history = []; spare = 0 }) (back : IsGivenBack (the_opening s.origin) c r) where
    opening : the_opening s.origin ≡ opening_on loaded
    opening = ap the_opening starts ∙ ap (λ (b : Recording). record { program = b.program; profile = b.profile; first = b.history }) none_yet

    of_all : HoldsForEach (λ (e : Entry). 0 < times e.who all_made) back.story
    of_all = subst (λ ms. HoldsForEach (λ (e : Entry). 0 < times e.who ms) back.story) h.made back.all

    story_made : AreEntriesByMaker (λ (e : Entry). e.who) back.story all_made
    story_made = subst (AreEntriesByMaker (λ (e : Entry). e.who) back.story) h.made back.made

    story_few : length back.story ≤ steps + length stimuli + total_length scripts
    story_few = omega (arith, few_made all_made back.story of_all story_made, begun_few s 1 lists h.others h.begun, length-replicate h.count (step_entry_by 1), h.few)

    -- the station isn't full
    pub never_full : (outcome : Result Unit StationFault) → KnowsFault s r.seen outcome → steps + length stimuli + total_length scripts < FULL → IsFullNever outcome
    never_full (Ok done) knows few = tt
    never_full (Err NoMemory) knows few = tt
    never_full (Err Full) knows few =
        absurd (omega (arith, knows, few, story_few, ap (λ (o : Opening). length o.first) opening, ap length back.begins.1, length-append r.seen back.begins.0))

    -- the history is a live history
    pub made_live_history : AreEntriesByMaker (λ e. e.who) r.seen r.made → whole ≡ true → IsLive loaded steps stimuli scripts c.history
    made_live_history agrees ok =
        let o : Opening = the_opening s.origin in
        let story : List Entry = back.story in
        let later : List Entry = back.begins.0 in
        let history : c.history ≡ story = back.history ∙ ap (λ (x : Opening). x.first ++ story) opening in
        let was : entries_of_worker 1 r.seen ≡ replicate h.count (step_entry_by 1) = (subst (AreEntriesByMaker (λ (e : Entry). e.who) r.seen) h.made agrees).0 in
        let none : entries_of_worker 1 later ≡ [] = none_came 1 r.seen later story back.begins.1 (omega (arith, ap length story_made.0, ap length was)) in
        subst (IsLive loaded steps stimuli scripts) (sym history) record {
          count = h.count;
          few = h.few;
          stepper = story_made.0;
          runs = subst (λ (x : Opening). RunsBefore 1 x 1 story) opening (subst (RunsBefore 1 o 1) back.begins.1 (runs_on 1 o 1 r.seen later none h.runs));
          ends = ⊎_elim (λ t. inl t) (λ t. inr (subst (λ (x : Opening). EndsInStop x 1 story) opening (subst (EndsInStop o 1) back.begins.1 (ends_on o 1 r.seen later none t)))) (h.ends ok);
          others = stand_in s 1 lists story (subst (AreEntriesByMaker (λ (e : Entry). e.who) story) (h.all ok) story_made.1);
          workers = All-from_recursion (λ (e : Entry). (1 ≤ e.who) × (e.who ≤ 2 + length scripts)) story
              (all_of_each (λ (e : Entry). 0 < times e.who all_made) (λ (e : Entry). (1 ≤ e.who) × (e.who ≤ 2 + length scripts)) story
              (λ e t. let k = is_numbered 0 e.who all_made numbered t in (omega (arith, k.0), omega (arith, k.1, many))) of_all);
        }
