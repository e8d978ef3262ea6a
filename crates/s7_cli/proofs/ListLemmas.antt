-- What `list` answers, and the texts of a listing.
use Rattle.std.proofs.Common.{◌≡◌, inl, inr, refl, sym, ◌∙◌, ap, subst, ℕ, List, Some, None, Result, Ok, Err, arith}
use Rattle.flat_code.specs.Image.{image as image_of}
use Rattle.flat_code.specs.Loading.{faults_of}
use Rattle.flat_code.specs.Programs.{Program}
use Rattle.flat_code.specs.declared.stamps.Stamp.TheVariants.{Two}
use Rattle.plc_base.specs.declared.profiles.Profile.TheVariants.{Large}
use Rattle.image_file.specs.Laws.{ImagesAreOfOne}
use Rattle.image_file.specs.LoadedProgram.{LoadedProgram}
use Rattle.image_file.specs.Refusing.{IsLoadError}
use Rattle.image_file.specs.declared.faults.LoadFault.{LoadFault}
use Rattle.image_file.specs.declared.refusing.LoadError.{LoadError}
use Rattle.image_file.specs.declared.refusing.LoadError.TheVariants as loading
use Rattle.plc_io.specs.Contents.{Contents}
use Rattle.sem_kept.specs.Agreement.{ImageKeepsSourceIn}
use Rattle.sem_kept.specs.Compiles.{CompilesTo, IsProgramUnique}
use Rattle.listing_laws.specs.ListingCompiles.{ListingsCompile}
use Rattle.stl_list.specs.Listing.{listed_source}
use Rattle.stl_list.specs.Symbols.{listed_names}
use Rattle.stl_symbols.specs.declared.languages.Language.{Language}
use Rattle.stl_symbols.specs.declared.languages.Language.TheVariants.{English}
use Rattle.s7_cli.specs.declared.failures.File.TheVariants.{Listing}
use Rattle.s7_cli.specs.declared.failures.Failure.{Failure}
use Rattle.s7_cli.specs.Answer.{CallAnswer, exit_status}
use Rattle.s7_cli.specs.Command.{Command, Go, Check, Compile, Translate, Run, Gen, Live, Watch, Upgrade, ListImage, Bound, Recheck, input_files_of}
use Rattle.s7_cli.specs.Faults.{failure_of_loading}
use Rattle.s7_cli.specs.Inner.{SaysRefusal}
use Rattle.s7_cli.specs.Lines.{ok_line}
use Rattle.s7_cli.specs.ListSays.{HasListing, IsLongListing, IsShortListing, ListAnswer, ListedAnswer, ListSays}
use Rattle.s7_cli.specs.Listings.{CompiledHaveListings, IsNotCompiled, ListingsGiveImages, ListingsGivePrograms, image_listed}
use Rattle.s7_cli.specs.Loads.{LoadsAs}
use Rattle.s7_cli.specs.Reading.{Disk, ReadsFilesInTurn}
use Rattle.s7_cli.specs.Says.{CommandSays}
use Rattle.s7_cli.specs.Translating.{IsSourceImage, language_of}
use Rattle.s7_cli.proofs.LoadLemmas.{loads-one}
use Rattle.s7_cli.proofs.RefusedLemmas.{refused-more}
use Rattle.s7_cli.proofs.CommandAnswers.{IsCommandAnswer}

-- ---- one answer

not-both : (p : Program) → IsLongListing p → IsShortListing p → ⊥
not-both p (inl long) short = omega (arith, long, short.source)
not-both p (inr long) short = omega (arith, long, short.symbols)

listed-one : (p : Program) (a b : CallAnswer) → ListedAnswer p a → ListedAnswer p b → a ≡ b
listed-one p a b (inl (long, gives)) (inl (also, other)) = gives ∙ sym other
listed-one p a b (inl (long, gives)) (inr (inl (short, none, other))) = absurd (not-both p long short)
listed-one p a b (inl (long, gives)) (inr (inr (short, has, other))) = absurd (not-both p long short)
listed-one p a b (inr (inl (short, none, gives))) (inl (long, other)) = absurd (not-both p long short)
listed-one p a b (inr (inl (short, none, gives))) (inr (inl (also, neither, other))) = gives ∙ sym other
listed-one p a b (inr (inl (short, none, gives))) (inr (inr (also, has, other))) = absurd (none has)
listed-one p a b (inr (inr (short, has, gives))) (inl (long, other)) = absurd (not-both p long short)
listed-one p a b (inr (inr (short, has, gives))) (inr (inl (also, none, other))) = absurd (none has)
listed-one p a b (inr (inr (short, has, gives))) (inr (inr (also, too, other))) = gives ∙ sym other

answer-one : (v : Result LoadedProgram LoadFault) (a b : CallAnswer) → ListAnswer v a → ListAnswer v b → a ≡ b
answer-one (Err fault) a b p q = p ∙ sym q
answer-one (Ok l) a b p q = listed-one l.program a b p q

pub list-one : (image : List ℕ) (a b : CallAnswer) → ListSays image a → ListSays image b → a ≡ b
list-one image a b p q =
    answer-one p.0 a b p.2
    (subst (λ (v : Result LoadedProgram LoadFault). ListAnswer v b) (loads-one image q.0 p.0 q.1 p.1) q.2)

listed-is-answer : (p : Program) (a : CallAnswer) → ListedAnswer p a → IsCommandAnswer a
listed-is-answer p a (inl (long, gives)) = inr (inr (inr (inr (inr (inl (Listing, gives))))))
listed-is-answer p a (inr (inl (short, none, gives))) = inr (inr (inr (inr (inr (inr gives)))))
listed-is-answer p a (inr (inr (short, has, gives))) = inl (ok_line, gives)

pub list-is-answer : (v : Result LoadedProgram LoadFault) (a : CallAnswer) → ListAnswer v a → IsCommandAnswer a
list-is-answer (Err fault) a said = inr (inr (inl (fault, said)))
list-is-answer (Ok l) a said = listed-is-answer l.program a said

-- ---- an image that isn't loaded, or has no listing

pub list-refused : (V : Type 0) (image : List ℕ) (error : LoadError) (r : Result V Failure) → r ≡ Err (failure_of_loading error)
    → IsLoadError error (faults_of image) → SaysRefusal (ListSays image) r
list-refused V image (loading.Fault fault) r fails least =
    subst (λ (q : Result V Failure). SaysRefusal (ListSays image) q) (sym fails) (Err fault, least, refl)
list-refused V image loading.NoMemory r fails least =
    subst (λ (q : Result V Failure). SaysRefusal (ListSays image) q) (sym fails) tt

-- what is said of the program is said of its image
says-of : (image : List ℕ) (l : LoadedProgram) → LoadsAs image (Ok l) → (a : CallAnswer) → ListedAnswer l.program a → ListSays image a
says-of image l loads a said = (Ok l, loads, said)

pub listing-refused : (V : Type 0) (image : List ℕ) (l : LoadedProgram) (r : Result V Failure) → LoadsAs image (Ok l)
    → SaysRefusal (ListedAnswer l.program) r → SaysRefusal (ListSays image) r
listing-refused V image l (Ok v) loads refused = tt
listing-refused V image l (Err failure) loads refused =
    refused-more V V (ListedAnswer l.program) (ListSays image) failure (Err failure) refl (says-of image l loads) refused

-- ---- what listings compile to

pub give-programs : IsProgramUnique → ListingsGivePrograms
give-programs one p q has compiles = one English (listed_source p) (listed_names p.names) q p compiles has

-- an image that is loaded, and that is the image of a program, is loaded as this program
listed-program : ImagesAreOfOne → (language : Language) (image source symbols : List ℕ)
    → (kept : ImageKeepsSourceIn language image source symbols) → (l : LoadedProgram) → LoadsAs image (Ok l)
    → kept.program ≡ l.program
listed-program images language image source symbols kept l loads =
    (images kept.stamp loads.image.stamp kept.program l.program kept.keeps.runnable.is loads.loadable.program
    (sym kept.spelled ∙ loads.loadable.spelled)).1

pub give-images : IsProgramUnique → ImagesAreOfOne → ListingsGiveImages
give-images one images german image source symbols (english, translated, (kept, large, made, files)) l loads has bytes (again, also, compiles, read) =
    again.spelled ∙ ap (λ t. image_of t again.program) also ∙ ap (image_of (Two Large)) (same ∙ sym listed)
    ∙ ap (λ t. image_of t kept.program) (sym large) ∙ sym kept.spelled
  where
    listed : kept.program ≡ l.program
    listed = listed-program images (language_of german) image english symbols kept l loads

    same : again.program ≡ l.program
    same = one English (listed_source l.program) (listed_names l.program.names) again.program l.program compiles has

pub give-listings : ListingsCompile → ImagesAreOfOne → CompiledHaveListings
give-listings compile images german image source symbols (english, translated, (kept, large, compiles, files)) l loads short =
    compile (language_of german) english symbols l.program files
    (subst (CompilesTo (language_of german) english symbols) (listed-program images (language_of german) image english symbols kept l loads) compiles)
    short.source short.symbols

-- ---- 9 never comes of an image that `compile` wrote

listed-never : (p : Program) (a : CallAnswer) → (IsShortListing p → HasListing p) → ListedAnswer p a → exit_status a.outcome ≡ 9 → ⊥
listed-never p a has (inl (long, gives)) nine = let e : exit_status a.outcome ≡ 8 = ap (λ (b : CallAnswer). exit_status b.outcome) gives in omega (arith, e, nine)
listed-never p a has (inr (inl (short, none, gives))) nine = none (has short)
listed-never p a has (inr (inr (short, too, gives))) nine = let e : exit_status a.outcome ≡ 0 = ap (λ (b : CallAnswer). exit_status b.outcome) gives in omega (arith, e, nine)

answer-never : (image : List ℕ) (a : CallAnswer) → ((l : LoadedProgram) → LoadsAs image (Ok l) → IsShortListing l.program → HasListing l.program)
    → (v : Result LoadedProgram LoadFault) → LoadsAs image v → ListAnswer v a → exit_status a.outcome ≡ 9 → ⊥
answer-never image a has (Err fault) loads said nine = let e : exit_status a.outcome ≡ 3 = ap (λ (b : CallAnswer). exit_status b.outcome) said in omega (arith, e, nine)
answer-never image a has (Ok l) loads said nine = listed-never l.program a (has l loads) said nine

same_bytes : (c : Contents) (name xs ys : List ℕ) → c.at name ≡ Some xs → c.at name ≡ Some ys → xs ≡ ys
same_bytes c name xs ys p q = let e : Some xs ≡ Some ys = sym p ∙ q in cc

other_name : (name other : List ℕ) → Some name ≡ Some other → name ≡ other
other_name name other is = cc

list-never : CompiledHaveListings → (d : Disk) (image source symbols : List ℕ) (a : CallAnswer)
    → ReadsFilesInTurn d (input_files_of (ListImage image source symbols)) (CommandSays (ListImage image source symbols)) a → exit_status a.outcome ≡ 9
    → IsNotCompiled (ListImage image source symbols) d
list-never have d image source symbols a (inl (inl (rose, gives))) nine =
    let e : exit_status a.outcome ≡ 5 = ap (λ (b : CallAnswer). exit_status b.outcome) gives in absurd (omega (arith, e, nine))
list-never have d image source symbols a (inl (inr (bytes, agrees, long, gives))) nine =
    let e : exit_status a.outcome ≡ 8 = ap (λ (b : CallAnswer). exit_status b.outcome) gives in absurd (omega (arith, e, nine))
list-never have d image source symbols a (inr (bytes, holds, said)) nine = λ name held german s y is known there made.
    let here : d.before.contents.at image ≡ Some held =
    subst (λ (n : List ℕ). d.before.contents.at n ≡ Some held) (sym (other_name image name is)) there in
    let also : bytes ≡ held = same_bytes d.before.contents image bytes held (holds.agrees known) here in
    answer-never bytes a (λ l loads. have german bytes s y (subst (λ (i : List ℕ). IsSourceImage german i s y) (sym also) made) l loads)
    said.0 said.1 said.2 nine

no_name : (k : Command) (name : List ℕ) → image_listed k ≡ None → image_listed k ≡ Some name → ⊥
no_name k name none some = let e : None ≡ Some name = sym none ∙ some in cc

pub never-compiled : CompiledHaveListings → (k : Command) (d : Disk) (a : CallAnswer) → ReadsFilesInTurn d (input_files_of k) (CommandSays k) a
    → exit_status a.outcome ≡ 9 → IsNotCompiled k d
never-compiled have (ListImage i s y) d a said nine = list-never have d i s y a said nine
never-compiled have (Go s y g h) d a said nine = λ name held german source symbols is known there made. no_name (Go s y g h) name refl is
never-compiled have (Check s y g) d a said nine = λ name held german source symbols is known there made. no_name (Check s y g) name refl is
never-compiled have (Compile s y g i) d a said nine = λ name held german source symbols is known there made. no_name (Compile s y g i) name refl is
never-compiled have (Translate l s t) d a said nine = λ name held german source symbols is known there made. no_name (Translate l s t) name refl is
never-compiled have (Run i h) d a said nine = λ name held german source symbols is known there made. no_name (Run i h) name refl is
never-compiled have (Gen n) d a said nine = λ name held german source symbols is known there made. no_name (Gen n) name refl is
never-compiled have (Live i s o n) d a said nine = λ name held german source symbols is known there made. no_name (Live i s o n) name refl is
never-compiled have (Watch i s v o n) d a said nine = λ name held german source symbols is known there made. no_name (Watch i s v o n) name refl is
never-compiled have (Upgrade i u) d a said nine = λ name held german source symbols is known there made. no_name (Upgrade i u) name refl is
never-compiled have (Bound i t) d a said nine = λ name held german source symbols is known there made. no_name (Bound i t) name refl is
never-compiled have (Recheck i t) d a said nine = λ name held german source symbols is known there made. no_name (Recheck i t) name refl is
