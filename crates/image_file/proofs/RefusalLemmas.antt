-- A program that verifies has no fault that `verify` tells, and its image is loaded.
use Rattle.std.proofs.Common.{◌≡◌, ℕ, zero, suc, ◌<◌, ◌⊎◌, true, ltb, eqb, ◌&&◌, List, [], ◌∷◌, ◌++◌, length, map, get_or, Option, Some, None, Result, Ok, Err, IfOk, IfErr, refl, sym, ap, subst, ◌∙◌, arith, inl, inr}
use Rattle.std.proofs.lemmas.Bool.{and_parts, and_from}
use Rattle.std.specs.List.{AllByRecursion}
use Rattle.plc_base.specs.declared.blocks.BlockId.{BlockId}
use Rattle.flat_code.specs.declared.image_fields.Field.TheVariants.{StatementCount, Line}
use Rattle.flat_code.specs.Ops.{OpData}
use Rattle.flat_code.specs.Codes.{are_ops, code_bytes, code_fault, code_layout}
use Rattle.flat_code.specs.Blocks.{at_offset}
use Rattle.flat_code.specs.Faults.{field_fault}
use Rattle.flat_code.specs.Image.{end_marks, head_of_block, line_field, line_after, lines_layout, code_block_layout, records_of, record_of_block, body_layout, image, IsProgram, IsRight}
use Rattle.flat_code.specs.Layout.{good_many, is_fine}
use Rattle.flat_code.specs.Loading.{lens_of, environment_of_block, AreVerified, Verifies, faults_of}
use Rattle.flat_code.specs.Programs.{CodeBlock, Program}
use Rattle.flat_code.specs.Stamps.{profile_of}
use Rattle.flat_code.specs.declared.stamps.Stamp.{Stamp}
use Rattle.flat_code.specs.Records.{BlockRecord}
use Rattle.image_file.specs.declared.faults.LoadFault.{LoadFault}
use Rattle.image_file.specs.declared.faults.VerifyFault.{VerifyFault}
use Rattle.image_file.specs.declared.refusing.LoadError.{LoadError}
use Rattle.image_file.specs.declared.refusing.LoadError.TheVariants as error
use Rattle.image_file.specs.Images.{GivesBack, IsImageOf}
use Rattle.image_file.specs.Least.{with_faults, IsUpTo, IsLeastFault}
use Rattle.image_file.specs.LoadedProgram.{LoadedProgram}
use Rattle.image_file.specs.Refusing.{IsLoadError}
use Rattle.image_file.specs.Verifying.{line_faults, count_faults, faults_of_block, are_whole, lens_checked, DecidesFor, IsFirstOf, IsFaultOf, AreClean, IsClean}
use Rattle.flat_code.proofs.PartLemmas.{all_of_blocks}
use Rattle.image_file.proofs.CodeLemmas.{is_none}
use Rattle.image_file.proofs.ImageLemmas.{good_block_of, good_records, image_one}
use Rattle.image_file.proofs.LeastLemmas.{kept_is_least}
use Rattle.image_file.proofs.LoadLemmas.{Lens, none_left}
use Rattle.image_file.proofs.ProgramFaultLemmas.{is_whole, clean_from, lens_are, clean_verifies}
use Rattle.image_file.proofs.WholeLemmas.{gives_image, image_gives}

-- ---- a program that verifies is clean

no_fault : (o : Option ℕ) → is_fine o ≡ true → at_offset 0 o ≡ []
no_fault None e = refl
no_fault (Some code) e = absurd cc

lines_clean : (n before : ℕ) (lines : List ℕ) → good_many (line_field true) line_after before n lines ≡ true → line_faults before lines ≡ []
unfolding line_field
lines_clean zero before [] h = refl
lines_clean zero before (line ∷ lines) h = absurd cc
lines_clean (suc n) before [] h = absurd cc
lines_clean (suc n) before (line ∷ lines) h =
    let g = and_parts (ltb line 4294967296 && is_fine (field_fault (Line before line))) (good_many (line_field true) line_after line n lines) h in
    let f = no_fault (field_fault (Line before line)) (and_parts (ltb line 4294967296) (is_fine (field_fault (Line before line))) g.0).1 in
    ap (λ (z : List (ℕ × ℕ)). z ++ line_faults line lines) f ∙ lines_clean n line lines g.1

code_clean : (n : ℕ) (ops : List OpData) → (code_layout true n).good ops ≡ true → code_fault ops ≡ None
unfolding code_layout
code_clean n ops h =
    let a = and_parts (are_ops ops && is_fine (code_fault ops)) (eqb (length (code_bytes ops)) n) h in
    is_none (code_fault ops) (and_parts (are_ops ops) (is_fine (code_fault ops)) a.0).1

-- what the fields of a block without fault say
record Right (b : BlockRecord) : Type 0 where
  code : code_fault b.code ≡ None
  count : count_faults b ≡ []
  lines : line_faults 0 b.lines ≡ []

abbrev IsRightBlock : CodeBlock → Type 0
IsRightBlock b = Right (record_of_block b)

abbrev AreRightBlocks : List CodeBlock → Type 0
AreRightBlocks bs = AllByRecursion IsRightBlock bs

lines_of_clean : (b : BlockRecord) → (lines_layout true 0 (head_of_block b) b.code).good b.lines ≡ true → (count_faults b ≡ []) × (line_faults 0 b.lines ≡ [])
unfolding lines_layout
lines_of_clean b h =
    let f = field_fault (StatementCount (end_marks b.code) (length b.lines)) in
    let g = and_parts (is_fine f) (good_many (line_field true) line_after 0 (length b.lines) b.lines) h in
    (no_fault f g.0, lines_clean (length b.lines) 0 b.lines g.1)

block_right : (before : ℕ × ℕ) (block : CodeBlock) → (code_block_layout true before).good (record_of_block block) ≡ true → IsRightBlock block
block_right before block h =
    let b = record_of_block block in
    let p = good_block_of true before b h in
    let l = lines_of_clean b p.lines_good in
    record { code = code_clean (length (code_bytes b.code)) b.code p.code_good; count = l.0; lines = l.1 }

program_right : (p : Program) → IsRight p → AreRightBlocks p.code_blocks
unfolding body_layout
program_right p h = all_of_blocks true IsRightBlock block_right (length (map record_of_block p.code_blocks)) p.code_blocks (good_records true (records_of p) h).codes_good

right_whole : (bs : List CodeBlock) → AreRightBlocks bs → are_whole (map record_of_block bs) ≡ true
right_whole [] h = refl
right_whole (b ∷ bs) h = and_from _ _ (is_whole (code_fault b.code) h.0.code) (right_whole bs h.1)

ops_clean : (lens : List (ℕ × ℕ)) (all : List BlockRecord) (bs : List CodeBlock) → AreRightBlocks bs → AreVerified lens all (map record_of_block bs) → AreClean (Some lens) all bs
ops_clean lens all [] h v = tt
ops_clean lens all (b ∷ bs) h v =
    let r = record_of_block b in
    (clean_from (environment_of_block (Some lens) all r) r (record { code = h.0.code; count = h.0.count; lines = h.0.lines; ops = v.0 }), ops_clean lens all bs h.1 v.1)

verified_clean : (p : Program) → Verifies p → IsClean p
verified_clean p v =
    let all = map record_of_block p.code_blocks in
    let right = program_right p v.right in
    subst (λ (z : Lens). AreClean z all p.code_blocks) (sym (lens_are p (right_whole p.code_blocks right))) (ops_clean (lens_of p.data_blocks) all p.code_blocks right v.blocks)

-- ---- a clean program has no fault, any other has one

decides_not : (id : BlockId) (f : VerifyFault) (fs : List (ℕ × ℕ)) (Later : Type 0) → fs ≡ [] → (Later → ⊥) → DecidesFor id f fs Later → ⊥
decides_not id f [] Later e never h = never h
decides_not id f (g ∷ gs) Later e never h = absurd cc

clean_never : (lens : Lens) (all : List BlockRecord) (bs : List CodeBlock) (f : VerifyFault) → AreClean lens all bs → IsFirstOf lens all bs f → ⊥
clean_never lens all [] f clean h = h
clean_never lens all (b ∷ bs) f clean h = decides_not b.id f (faults_of_block (environment_of_block lens all (record_of_block b)) (record_of_block b)) (IsFirstOf lens all bs f) clean.0 (λ later. clean_never lens all bs f clean.1 later) h

never : (p : Program) → Verifies p → (f : VerifyFault) → IsFaultOf p f → ⊥
unfolding IsFaultOf
never p v f h = clean_never (lens_checked p) (map record_of_block p.code_blocks) p.code_blocks f (verified_clean p v) h

least_of : (g : ℕ × ℕ) (gs : List (ℕ × ℕ)) (o : Option LoadFault) → with_faults None (g ∷ gs) ≡ o → (f : LoadFault) × IsLeastFault f (g ∷ gs)
least_of g gs None e = absurd (let none = none_left (g ∷ gs) e in cc)
least_of g gs (Some f) e = (f, kept_is_least (g ∷ gs) f e)

decide : (id : BlockId) (fs : List (ℕ × ℕ)) (Clean : Type 0) (Later : VerifyFault → Type 0) → Clean ⊎ ((f : VerifyFault) × Later f) → ((fs ≡ []) × Clean) ⊎ ((f : VerifyFault) × DecidesFor id f fs (Later f))
decide id [] Clean Later (inl clean) = inl (refl, clean)
decide id [] Clean Later (inr fault) = inr fault
decide id (g ∷ gs) Clean Later others = let l = least_of g gs (with_faults None (g ∷ gs)) refl in inr (record { block = id; at = l.0.at; code = l.0.code }, (refl, l.1))

clean_or_not : (lens : Lens) (all : List BlockRecord) (bs : List CodeBlock) → AreClean lens all bs ⊎ ((f : VerifyFault) × IsFirstOf lens all bs f)
clean_or_not lens all [] = inl tt
clean_or_not lens all (b ∷ bs) = decide b.id (faults_of_block (environment_of_block lens all (record_of_block b)) (record_of_block b)) (AreClean lens all bs) (λ f. IsFirstOf lens all bs f) (clean_or_not lens all bs)

either : (p : Program) → IsProgram p → AreClean (lens_checked p) (map record_of_block p.code_blocks) p.code_blocks ⊎ ((f : VerifyFault) × IsFirstOf (lens_checked p) (map record_of_block p.code_blocks) p.code_blocks f) → Verifies p ⊎ ((f : VerifyFault) × IsFaultOf p f)
unfolding IsFaultOf
either p h (inl clean) = inl (clean_verifies p h clean)
either p h (inr fault) = inr fault

pub verified_or_not : (p : Program) → IsProgram p → (Verifies p ⊎ ((f : VerifyFault) × IsFaultOf p f)) × (Verifies p → (f : VerifyFault) → IsFaultOf p f → ⊥)
verified_or_not p h = (either p h (clean_or_not (lens_checked p) (map record_of_block p.code_blocks) p.code_blocks), never p)

-- ---- one fault at most

same_by : (f g : LoadFault) → IsUpTo f (g.at, g.code) → IsUpTo g (f.at, f.code) → (f.at ≡ g.at) × (f.code ≡ g.code)
same_by f g (inl a) (inl b) = absurd (omega (arith, a, b))
same_by f g (inl a) (inr b) = absurd (omega (arith, a, b.0))
same_by f g (inr a) (inl b) = absurd (omega (arith, a.0, b))
same_by f g (inr a) (inr b) = (a.0, omega (arith, a.1, b.1))

same_fault : (f g : VerifyFault) → f.block ≡ g.block → f.at ≡ g.at → f.code ≡ g.code → f ≡ g
same_fault f g p q r =
    ap (λ (z : BlockId). let x : VerifyFault = record { block = z; at = f.at; code = f.code } in x) p
    ∙ ap (λ (z : ℕ). let x : VerifyFault = record { block = g.block; at = z; code = f.code } in x) q
    ∙ ap (λ (z : ℕ). let x : VerifyFault = record { block = g.block; at = g.at; code = z } in x) r

decided_one : (id : BlockId) (f g : VerifyFault) (fs : List (ℕ × ℕ)) (Later Other : Type 0) → (Later → Other → f ≡ g) → DecidesFor id f fs Later → DecidesFor id g fs Other → f ≡ g
decided_one id f g [] Later Other same a b = same a b
decided_one id f g (x ∷ xs) Later Other same a b =
    let s = same_by (record { at = f.at; code = f.code }) (record { at = g.at; code = g.code }) (a.1.least (g.at, g.code) b.1.one) (b.1.least (f.at, f.code) a.1.one) in
    same_fault f g (a.0 ∙ sym b.0) s.0 s.1

first_one : (lens : Lens) (all : List BlockRecord) (bs : List CodeBlock) (f g : VerifyFault) → IsFirstOf lens all bs f → IsFirstOf lens all bs g → f ≡ g
first_one lens all [] f g a b = absurd a
first_one lens all (c ∷ cs) f g a b =
    decided_one c.id f g (faults_of_block (environment_of_block lens all (record_of_block c)) (record_of_block c)) (IsFirstOf lens all cs f) (IsFirstOf lens all cs g) (λ x y. first_one lens all cs f g x y) a b

pub fault_is_one : (p : Program) (f g : VerifyFault) → IsFaultOf p f → IsFaultOf p g → f ≡ g
unfolding IsFaultOf
fault_is_one p f g a b = first_one (lens_checked p) (map record_of_block p.code_blocks) p.code_blocks f g a b

-- ---- what was written is loaded

pub given_back : (stamp : Stamp) (p : Program) (bytes : List ℕ) (result : Result LoadedProgram LoadError) → ((i : ℕ) → get_or bytes i 0 < 256) → IsProgram p → bytes ≡ image stamp p
    → IfOk result (λ l. IsImageOf bytes l) → IfErr result (λ e. IsLoadError e (faults_of bytes)) → GivesBack p stamp result
given_back stamp p bytes (Ok l) are program spelled ok err =
    let found = gives_image bytes ok.stamp l.program are ok.given in
    let same = image_one stamp ok.stamp p l.program program found.program (sym spelled ∙ found.spelled) in
    (sym same.1, ok.profile ∙ ap profile_of (sym same.0))
given_back stamp p bytes (Err (error.Fault f)) are program spelled ok err = (
  (λ verifies. (subst (IsLeastFault f) (image_gives bytes stamp p are (record { spelled = spelled; program = program; verifies = verifies })).clean err).one),
  subst (λ z. IsLeastFault f (faults_of z)) spelled err,
)
given_back stamp p bytes (Err error.NoMemory) are program spelled ok err = tt
