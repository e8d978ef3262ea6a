-- The faults of all blocks that were read.
use Rattle.std.proofs.Common.{Bool, true, false, cond, append_assoc, ◌≡◌, ℕ, ◌+◌, ◌<◌, ◌≤◌, List, [], ◌∷◌, ◌++◌, map, length, drop, get_or, Option, Some, None, IsSome, Vec, Global, refl, sym, ap, subst, ◌∙◌}
use Rattle.std.proofs.Math.ListN.{drop_of_length-le}
use Rattle.std.specs.Option.{option_map}
use Rattle.std.proofs.lemmas.List.{append-nil}
use Rattle.std.proofs.lemmas.Option.{same_Some}
use Rattle.plc_base.proofs.ListLemmas.{drop_next, nil_parts}
use Rattle.flat_code.specs.Programs.{CodeBlock, DataBlock, NameEntry, Program}
use Rattle.flat_code.specs.declared.stamps.Stamp.{Stamp}
use Rattle.flat_code.specs.Records.{BlockRecord, NameRecord}
use Rattle.flat_code.specs.declared.programs.DataBlock.{DataBlock as Block}
use Rattle.flat_code.specs.Layout.{ReadingNote, Faulty, Whole, AllBlocks, Cursor, faults_in}
use Rattle.flat_code.specs.Image.{program_of_records, read_image, IsProgram, record_of_block, block_of_record, entry_of_name}
use Rattle.flat_code.specs.Blocks.{BlockSignature, signature_of, Environment, block_faults}
use Rattle.flat_code.specs.Loading.{environment_of_block, op_faults_of_blocks, lens_of, later_data_blocks, whole_blocks, all_blocks, blocks_of, faults_of, GivesProgram, Verifies}
use Rattle.image_file.specs.declared.faults.LoadFault.{LoadFault}
use Rattle.image_file.specs.declared.records.LocatedBlock.{LocatedBlock}
use Rattle.image_file.specs.Least.{is_fault_less, fault_of_pair, with_faults}
use Rattle.image_file.specs.Typing.{HaveFewParameters, program_from}
use Rattle.image_file.specs.declared.reader.Reader.{Reader}
use Rattle.image_file.specs.declared.loading.ImageRead.{ImageRead}
use Rattle.image_file.specs.declared.loading.CheckResult.{CheckResult}
use Rattle.image_file.specs.declared.loading.CheckResult.TheVariants as outcome
use Rattle.image_file.specs.declared.records.FoundRead.{FoundRead}
use Rattle.image_file.specs.Running.{located_block, checked_faults, program_read, found_values, HoldsAll, IsCheckResult, with_wholes, with_all, Log, log_after, RunResult, Continues, Stops, run_result, run_of_read, log_of, IsFoundRun, HasFound}
use Rattle.flat_code.proofs.CodingLemmas.{IsBytes}
use Rattle.image_file.proofs.EndLemmas.{image_ends}
use Rattle.image_file.proofs.ImageLemmas.{program_again, program_few, StampedProgram}
use Rattle.image_file.proofs.RunLemmas.{with_more}
use Rattle.image_file.proofs.WholeLemmas.{image_noted, gives_image}

abbrev pub Lens : Type 0
Lens = Option (List (ℕ × ℕ))

abbrev pub environment_by : Lens → List BlockSignature → BlockRecord → Environment
environment_by lens signatures b = record { kind = b.kind; local_len = b.local_len; params = b.params; blocks = signatures; data_lens = lens }

pub checked_next : (lens : Lens) (signatures : List BlockSignature) (all : List BlockRecord) (bs : List LocatedBlock) (i : ℕ) (s : LocatedBlock) (least mid : Option LoadFault) → i < length bs → s ≡ get_or bs i s → signatures ≡ map signature_of all
    → mid ≡ with_faults least (block_faults (environment_by lens signatures s.block) s.start s.block.code) → with_faults mid (op_faults_of_blocks lens all (map located_block (drop (i + 1) bs))) ≡ with_faults least (op_faults_of_blocks lens all (map located_block (drop i bs)))
checked_next lens signatures all bs i s least mid lt is known m =
    let here : mid ≡ with_faults least (block_faults (environment_of_block lens all s.block) s.start s.block.code) = m ∙ ap (λ (z : List BlockSignature). with_faults least (block_faults (environment_by lens z s.block) s.start s.block.code)) known in
    ap (λ (z : Option LoadFault). with_faults z (op_faults_of_blocks lens all (map located_block (drop (i + 1) bs)))) here
    ∙ sym (with_more least (block_faults (environment_of_block lens all s.block) s.start s.block.code) (op_faults_of_blocks lens all (map located_block (drop (i + 1) bs))))
    ∙ sym (ap (λ (z : List LocatedBlock). with_faults least (op_faults_of_blocks lens all (map located_block z))) (drop_next bs i s lt is))

pub checked_done : (lens : Lens) (all : List BlockRecord) (bs : List LocatedBlock) (i : ℕ) (least : Option LoadFault) → length bs ≤ i → least ≡ with_faults least (op_faults_of_blocks lens all (map located_block (drop i bs)))
unfolding with_faults
checked_done lens all bs i least le = rw (drop_of_length-le bs {i = i} le) refl

-- ---- what one pass keeps

wholes_kept : (bs : List (ℕ × BlockRecord)) (notes : List ReadingNote) → with_wholes bs notes ≡ bs ++ whole_blocks notes
wholes_kept bs [] = sym (append-nil bs)
wholes_kept bs (Faulty at code ∷ notes) = wholes_kept bs notes
wholes_kept bs (Whole start block ∷ notes) = wholes_kept (bs ++ (start, block) ∷ []) notes ∙ append_assoc bs ((start, block) ∷ []) (whole_blocks notes)
wholes_kept bs (AllBlocks datas ∷ notes) = wholes_kept bs notes

later_some : (d : Option (List DataBlock)) (l : List DataBlock) (a : Option (List DataBlock)) → later_data_blocks (Some l) a ≡ later_data_blocks d (later_data_blocks (Some l) a)
later_some d l None = refl
later_some d l (Some m) = refl

datas_kept : (d : Option (List DataBlock)) (notes : List ReadingNote) → with_all d notes ≡ later_data_blocks d (all_blocks notes)
datas_kept d [] = refl
datas_kept d (Faulty at code ∷ notes) = datas_kept d notes
datas_kept d (Whole start block ∷ notes) = datas_kept d notes
datas_kept d (AllBlocks found ∷ notes) = datas_kept (Some found) notes ∙ later_some d found (all_blocks notes)

later_none : (a : Option (List DataBlock)) → later_data_blocks None a ≡ a
later_none None = refl
later_none (Some l) = refl

abbrev empty_log : Log
empty_log = record { least = None; blocks = []; datas = None }

-- what one pass keeps is what reading the bytes notes
record IsLogOfText (text : List ℕ) (log : Log) : Type 0 where
  least : log.least ≡ with_faults None (faults_in (read_image text).notes)
  blocks : log.blocks ≡ whole_blocks (read_image text).notes
  datas : log.datas ≡ all_blocks (read_image text).notes

kept_by : (text : List ℕ) (log : Log) → log ≡ log_after empty_log (read_image text).notes → IsLogOfText text log
unfolding log_after
kept_by text log e = record {
  least = ap (λ (z : Log). z.least) e;
  blocks = ap (λ (z : Log). z.blocks) e ∙ wholes_kept [] (read_image text).notes;
  datas = ap (λ (z : Log). z.datas) e ∙ datas_kept None (read_image text).notes ∙ later_none (all_blocks (read_image text).notes);
}

goes_found : (o : Option (StampedProgram × Cursor)) (p : StampedProgram) (end : Cursor) (log all : Log) → Continues p end log ≡ run_result o all → (o ≡ Some (p, end)) × (log ≡ all)
goes_found None p end log all e = absurd cc
goes_found (Some x) p end log all e = let a : p ≡ x.0 = cc in let b : end ≡ x.1 = cc in (rw (a, b) refl, cc)

stops_found : (o : Option (StampedProgram × Cursor)) (log all : Log) → ◌≡◌ {A = RunResult StampedProgram} (Stops log) (run_result o all) → (o ≡ None) × (log ≡ all)
stops_found None log all e = (refl, cc)
stops_found (Some x) log all e = absurd cc

kept_of : (found : Option (Stamp × List NameRecord)) (r : Reader) (text : List ℕ) → IsFoundRun found r (run_of_read (read_image text) empty_log) → IsLogOfText text (log_of r)
unfolding run_of_read
kept_of None r text h = kept_by text (log_of r) (stops_found (read_image text).found (log_of r) (log_after empty_log (read_image text).notes) h).1
kept_of (Some found) r text h = kept_by text (log_of r) (goes_found (read_image text).found (found.0, program_of_records h.0) h.1 (log_of r) (log_after empty_log (read_image text).notes) h.2).1

pub found_of : (found : Option (Stamp × List NameRecord)) (r : Reader) (text : List ℕ) → IsFoundRun found r (run_of_read (read_image text) empty_log) → HasFound text (map located_block r.blocks.items) (option_map (λ v. v.items) r.datas) found
unfolding run_of_read
found_of None r text h = (stops_found (read_image text).found (log_of r) (log_after empty_log (read_image text).notes) h).0
found_of (Some found) r text h =
    let g = goes_found (read_image text).found (found.0, program_of_records h.0) h.1 (log_of r) (log_after empty_log (read_image text).notes) h.2 in
    let k = kept_by text (log_of r) g.1 in
    (h.0, h.1, g.0, h.3, k.blocks, k.datas)

-- the least of all faults
pub least_of : (found : Option (Stamp × List NameRecord)) (r : Reader) (text : List ℕ) (result : Option LoadFault) → IsFoundRun found r (run_of_read (read_image text) empty_log)
    → result ≡ with_faults r.least (checked_faults (log_of r)) → result ≡ with_faults None (faults_of text)
unfolding faults_of
least_of found r text result h e =
    let k = kept_of found r text h in
    let notes = (read_image text).notes in
    let lens : Lens = option_map lens_of (log_of r).datas in
    e ∙ ap (λ (z : Option LoadFault). with_faults z (checked_faults (log_of r))) k.least
    ∙ ap (λ (z : List (ℕ × BlockRecord)). with_faults (with_faults None (faults_in notes)) (op_faults_of_blocks lens (blocks_of z) z)) k.blocks
    ∙ ap (λ (z : Option (List DataBlock)). with_faults (with_faults None (faults_in notes)) (op_faults_of_blocks (option_map lens_of z) (blocks_of (whole_blocks notes)) (whole_blocks notes))) k.datas
    ∙ sym (with_more None (faults_in notes) (op_faults_of_blocks (option_map lens_of (all_blocks notes)) (blocks_of (whole_blocks notes)) (whole_blocks notes)))

-- ---- bytes without fault

stays_by : (f : LoadFault) (x : ℕ × ℕ) (fs : List (ℕ × ℕ)) → ((g : LoadFault) → with_faults (Some g) fs ≡ None → ⊥) → (b : Bool) → with_faults (cond b (Some (fault_of_pair x)) (Some f)) fs ≡ None → ⊥
stays_by f x fs inner true e = inner (fault_of_pair x) e
stays_by f x fs inner false e = inner f e

some_stays : (fs : List (ℕ × ℕ)) (f : LoadFault) → with_faults (Some f) fs ≡ None → ⊥
unfolding with_faults
some_stays [] f e = cc
some_stays (x ∷ fs) f e = stays_by f x fs (λ g h. some_stays fs g h) (is_fault_less x f) e

pub none_left : (fs : List (ℕ × ℕ)) → with_faults None fs ≡ None → fs ≡ []
unfolding with_faults
none_left [] e = refl
none_left (x ∷ fs) e = absurd (some_stays fs (fault_of_pair x) e)

fields_clean : (text : List ℕ) → faults_of text ≡ [] → faults_in (read_image text).notes ≡ []
unfolding faults_of
fields_clean text e = (nil_parts (faults_in (read_image text).notes) _ e).0

-- reading doesn't end without a fault
pub never_ends : (text : List ℕ) (bs : List (ℕ × BlockRecord)) (ds : Option (List DataBlock)) → faults_of text ≡ [] → HasFound text bs ds None → ⊥
never_ends text bs ds none h = image_ends text h (fields_clean text none)

-- what the bytes without fault give
pub record Loads (text : List ℕ) (bs : List (ℕ × BlockRecord)) (stamp : Stamp) (p : Program) : Type 0 where
  pub gives : GivesProgram text stamp p
  pub program : IsProgram p
  pub verifies : Verifies p
  pub few : HaveFewParameters (blocks_of bs)

pub has_datas : (text : List ℕ) (bs : List (ℕ × BlockRecord)) (found : Stamp × List NameRecord) → IsBytes text → faults_of text ≡ [] → HasFound text bs None (Some found) → ⊥
has_datas text bs found are none h =
    let m = image_noted text found.0 (program_of_records h.0) h.1 are h.2 (fields_clean text none) in
    let e : ◌≡◌ {A = Option (List DataBlock)} None (Some (program_of_records h.0).data_blocks) = h.5 ∙ m.datas in
    cc

pub loads : (text : List ℕ) (bs : List (ℕ × BlockRecord)) (ds : List DataBlock) (stamp : Stamp) (ns : List NameRecord) → IsBytes text → faults_of text ≡ [] → HasFound text bs (Some ds) (Some (stamp, ns)) → Loads text bs stamp (program_from bs ds ns)
loads text bs ds stamp ns are none h =
    let p = program_of_records h.0 in
    let gives : GivesProgram text stamp p = record { end = h.1; found = h.2; clean = none } in
    let is = gives_image text stamp p are gives in
    let m = image_noted text stamp p h.1 are h.2 (fields_clean text none) in
    let raws : blocks_of bs ≡ map record_of_block p.code_blocks = ap blocks_of h.4 ∙ m.codes in
    let codes : map block_of_record (blocks_of bs) ≡ p.code_blocks = ap (map block_of_record) raws ∙ ap (λ (z : Program). z.code_blocks) (program_again p is.program) in
    let datas : ds ≡ p.data_blocks = same_Some ds p.data_blocks (h.5 ∙ m.datas) in
    let named : map entry_of_name ns ≡ p.names = ap (map entry_of_name) (sym h.3) in
    let same : p ≡ program_from bs ds ns = sym (programs codes datas named) in
    record {
      gives = subst (GivesProgram text stamp) same gives;
      program = subst IsProgram same is.program;
      verifies = subst Verifies same is.verifies;
      few = subst HaveFewParameters (sym raws) (program_few p is.program);
    }
  where
    programs : {a x : List CodeBlock} {b y : List DataBlock} {c z : List NameEntry} → a ≡ x → b ≡ y → c ≡ z → ◌≡◌ {A = Program} (record { code_blocks = a; data_blocks = b; names = c }) (record { code_blocks = x; data_blocks = y; names = z })
    programs p q r = rw (p, q, r) refl

-- ---- bytes that were read and checked

abbrev ReaderHasFound : List ℕ → Reader → Option FoundRead → Type 0
ReaderHasFound text r found = HasFound text (map located_block r.blocks.items) (option_map (λ v. v.items) r.datas) (option_map found_values found)

no_faults_by : (text : List ℕ) (least : Option LoadFault) → least ≡ with_faults None (faults_of text) → least ≡ None → faults_of text ≡ []
no_faults_by text least e none = none_left (faults_of text) (sym e ∙ none)

pub image_there : (text : List ℕ) (least : Option LoadFault) (r : Reader) (found : Option FoundRead) → least ≡ with_faults None (faults_of text) → ReaderHasFound text r found → least ≡ None → IsSome found
image_there text least r None e h none = absurd (never_ends text (map located_block r.blocks.items) (option_map (λ v. v.items) r.datas) (no_faults_by text least e none) h)
image_there text least r (Some f) e h none = refl

pub datas_there : (text : List ℕ) (least : Option LoadFault) (r : Reader) (found : Option FoundRead) → IsBytes text → least ≡ with_faults None (faults_of text) → ReaderHasFound text r found → least ≡ None → IsSome r.datas
datas_there text least r None are e h none = absurd (never_ends text (map located_block r.blocks.items) (option_map (λ v. v.items) r.datas) (no_faults_by text least e none) h)
datas_there text least r (Some f) are e h none = by r.datas h
  where
    by : (d : Option (Vec Block Global)) → HasFound text (map located_block r.blocks.items) (option_map (λ v. v.items) d) (Some (found_values f)) → IsSome d
    by None h = absurd (has_datas text (map located_block r.blocks.items) (found_values f) are (no_faults_by text least e none) h)
    by (Some v) h = refl

pub checked_by : (text : List ℕ) (least : Option LoadFault) (r : Reader) (found : Option FoundRead) (j : CheckResult) → least ≡ with_faults None (faults_of text) → ReaderHasFound text r found → HoldsAll least r.blocks.items (option_map (λ v. v.items) r.datas) found j → IsCheckResult text j
checked_by text least r found (outcome.Faulty f) e h all = sym e ∙ all
checked_by text least r found (outcome.Clean image) e h all = (
  sym e ∙ all.0,
  subst (λ (z : List LocatedBlock). HasFound text (map located_block z) (Some image.data_blocks.items) (Some (image.stamp, image.names.items))) (sym all.1)
      (subst (λ (z : Option (List DataBlock)). HasFound text (map located_block r.blocks.items) z (Some (image.stamp, image.names.items))) all.2
      (subst (λ (z : Option (Stamp × List NameRecord)). HasFound text (map located_block r.blocks.items) (option_map (λ v. v.items) r.datas) z) all.3 h)),
)

pub image_loads : (text : List ℕ) (image : ImageRead) → IsBytes text → IsCheckResult text (outcome.Clean image) → Loads text (map located_block image.blocks.items) image.stamp (program_read image)
image_loads text image are h = loads text (map located_block image.blocks.items) image.data_blocks.items image.stamp image.names.items are (none_left (faults_of text) h.0) h.1
