-- The faults of a program, block by block.
use Rattle.std.proofs.Common.{◌≡◌, ℕ, zero, suc, ◌+◌, ◌-◌, ◌<◌, ◌≤◌, Bool, true, false, cond, eqb, ltb, ◌&&◌, List, [], ◌∷◌, ◌++◌, length, map, take, drop, get_or, Option, Some, None, refl, sym, ap, subst, ◌∙◌, length-append, arith}
use Rattle.std.proofs.lemmas.Bool.{and_parts, and_from, ne_eqb}
use Rattle.std.proofs.Math.ListN.{drop_of_length-le}
use Rattle.std.proofs.lemmas.List.{take-append-drop}
use Rattle.plc_base.proofs.ListLemmas.{drop_next, nil_parts}
use Rattle.flat_code.specs.declared.image_fields.Field.TheVariants.{StatementCount, Line}
use Rattle.flat_code.specs.Ops.{OpData}
use Rattle.flat_code.specs.Codes.{size_of_op, are_ops, code_bytes, code_fault, code_layout, ends_by_be, last_place, overlong_statement, stop_at}
use Rattle.flat_code.specs.Blocks.{Environment, BlockSignature, signature_of, at_offset, block_faults}
use Rattle.flat_code.specs.Faults.{field_fault}
use Rattle.flat_code.specs.Image.{end_marks, head_layout, head_of_block, parts_of_block, parameters_layout, line_field, line_after, lines_layout, code_and_lines, block_rows, plain_block, code_block_layout, after_block, code_blocks_layout, data_blocks_layout, counts_layout, parts_of_records, row_of_body_parts, body_rows, records_layout, records_of, record_of_block, body_layout, IsProgram, IsRight}
use Rattle.flat_code.specs.Layout.{good_many, is_fine}
use Rattle.flat_code.specs.Loading.{lens_of, environment_of_block, AreVerified, Verifies}
use Rattle.flat_code.specs.Programs.{CodeBlock, Program}
use Rattle.flat_code.specs.Records.{BlockRecord}
use Rattle.flat_code.proofs.PartLemmas.{GoodBlock}
use Rattle.image_file.specs.declared.faults.LoadFault.{LoadFault}
use Rattle.image_file.specs.declared.faults.VerifyFault.{VerifyFault}
use Rattle.image_file.specs.Least.{with_faults, IsLeastFault}
use Rattle.image_file.specs.Verifying.{line_faults, count_faults, faults_unless, faults_of_block, are_whole, lens_where, lens_checked, DecidesFor, IsFirstOf, AreClean, IsClean}
use Rattle.image_file.proofs.CodeLemmas.{bytes-append, ends_at, last_of}
use Rattle.image_file.proofs.ImageLemmas.{good_block_of, GoodRecords, good_records}
use Rattle.image_file.proofs.LeastLemmas.{kept_is_least}
use Rattle.image_file.proofs.LoadLemmas.{Lens, none_left}
use Rattle.image_file.proofs.RunLemmas.{with_more}

-- ---- fault 5

pub overlong_here : (count at i : ℕ) (ops : List OpData) (op : OpData) → i < length ops → op ≡ get_or ops i op → count ≡ 64 → Some at ≡ overlong_statement count at (drop i ops)
overlong_here count at i ops op lt is full = rw (drop_next ops i op lt is, full) refl

pub overlong_next : (count after at end i : ℕ) (ops : List OpData) (op : OpData) → i < length ops → op ≡ get_or ops i op → (count ≡ 64 → ⊥) → after ≡ cond op.last 0 (suc count) → end ≡ at + size_of_op op → overlong_statement after end (drop (i + 1) ops) ≡ overlong_statement count at (drop i ops)
overlong_next count after at end i ops op lt is few after_is end_is = rw (drop_next ops i op lt is, ne_eqb count 64 few, after_is, end_is) refl

pub overlong_done : (count at i : ℕ) (ops : List OpData) → length ops ≤ i → None ≡ overlong_statement count at (drop i ops)
overlong_done count at i ops le = rw (drop_of_length-le ops {i = i} le) refl

pub count_few : (count after : ℕ) (last : Bool) → (count ≡ 64 → ⊥) → count ≤ 64 → after ≡ cond last 0 (suc count) → after ≤ 64
count_few count after true few le is = omega (arith, is)
count_few count after false few le is = omega (arith, is, few, le)

split_last : (ops : List OpData) (last : OpData) → 1 ≤ length ops → last ≡ get_or ops (length ops - 1) last → ops ≡ take (length ops - 1) ops ++ last ∷ []
split_last ops last some is =
    let n = length ops - 1 in
    sym (take-append-drop n ops) ∙ ap (λ (z : List OpData). take n ops ++ z) (drop_next ops n last (omega (arith, some)) is ∙ ap (λ (z : List OpData). last ∷ z) (drop_of_length-le ops {i = n + 1} (omega (arith, some))))

pub front_fits : (ops : List OpData) (last : OpData) (most : ℕ) → 1 ≤ length ops → last ≡ get_or ops (length ops - 1) last → length (code_bytes ops) < most → length (code_bytes (take (length ops - 1) ops)) < most
front_fits ops last most some is fits =
    let front = take (length ops - 1) ops in
    omega (arith, fits, ap (λ (z : List OpData). length (code_bytes z)) (split_last ops last some is), ap length (bytes-append front (last ∷ [])), length-append (code_bytes front) (code_bytes (last ∷ [])))

pub ends_well : (ops : List OpData) (last : OpData) → 1 ≤ length ops → last ≡ get_or ops (length ops - 1) last → true ≡ (eqb last.code 0x7B && last.last) → None ≡ cond (ends_by_be ops) None (Some (last_place 0 ops))
ends_well ops last some is end =
    let e : ends_by_be ops ≡ true = ap ends_by_be (split_last ops last some is) ∙ ends_at (take (length ops - 1) ops) last ∙ sym end in
    rw e refl

pub ends_badly : (ops : List OpData) (last : OpData) (at : ℕ) → 1 ≤ length ops → last ≡ get_or ops (length ops - 1) last → false ≡ (eqb last.code 0x7B && last.last) → at ≡ length (code_bytes (take (length ops - 1) ops)) → Some at ≡ cond (ends_by_be ops) None (Some (last_place 0 ops))
ends_badly ops last at some is end at_is =
    let split = split_last ops last some is in
    let e : ends_by_be ops ≡ false = ap ends_by_be split ∙ ends_at (take (length ops - 1) ops) last ∙ sym end in
    let place : last_place 0 ops ≡ at = omega (arith, ap (last_place 0) split, last_of 0 (take (length ops - 1) ops) last, at_is) in
    rw (e, place) refl

pub whole_next : (i : ℕ) (bs : List CodeBlock) (b : CodeBlock) → i < length bs → b ≡ get_or bs i b → code_fault b.code ≡ None → are_whole (map record_of_block (drop (i + 1) bs)) ≡ are_whole (map record_of_block (drop i bs))
whole_next i bs b lt is none = sym (ap (λ (z : List CodeBlock). are_whole (map record_of_block z)) (drop_next bs i b lt is) ∙ ap (λ (z : Option ℕ). is_fine z && are_whole (map record_of_block (drop (i + 1) bs))) none)

pub whole_not : (i at : ℕ) (bs : List CodeBlock) (b : CodeBlock) → i < length bs → b ≡ get_or bs i b → code_fault b.code ≡ Some at → false ≡ are_whole (map record_of_block (drop i bs))
whole_not i at bs b lt is some = sym (ap (λ (z : List CodeBlock). are_whole (map record_of_block z)) (drop_next bs i b lt is) ∙ ap (λ (z : Option ℕ). is_fine z && are_whole (map record_of_block (drop (i + 1) bs))) some)

-- ---- faults 9

pub lines_next : (least mid : Option LoadFault) (before i : ℕ) (lines : List ℕ) (line : ℕ) → drop i lines ≡ line ∷ drop (i + 1) lines → mid ≡ with_faults least (at_offset 0 (field_fault (Line before line))) → with_faults mid (line_faults line (drop (i + 1) lines)) ≡ with_faults least (line_faults before (drop i lines))
lines_next least mid before i lines line shape is =
    ap (λ (z : Option LoadFault). with_faults z (line_faults line (drop (i + 1) lines))) is
    ∙ sym (with_more least (at_offset 0 (field_fault (Line before line))) (line_faults line (drop (i + 1) lines)))
    ∙ ap (λ (z : List ℕ). with_faults least (line_faults before z)) (sym shape)

pub lines_done : (least : Option LoadFault) (before i : ℕ) (lines : List ℕ) → length lines ≤ i → least ≡ with_faults least (line_faults before (drop i lines))
unfolding with_faults
lines_done least before i lines le = rw (drop_of_length-le lines {i = i} le) refl

-- ---- the least fault of a block

pub fault_five_alone : (at : ℕ) (environment : Environment) (b : BlockRecord) → code_fault b.code ≡ Some at → Some (record { at = at; code = 5 }) ≡ with_faults None (faults_of_block environment b)
unfolding with_faults
fault_five_alone at environment b e = rw e refl

pub faults_without_five : (first second last : Option LoadFault) (environment : Environment) (b : BlockRecord) → code_fault b.code ≡ None → first ≡ with_faults None (count_faults b) → second ≡ with_faults first (line_faults 0 b.lines) → last ≡ with_faults second (block_faults environment 0 b.code) → last ≡ with_faults None (faults_of_block environment b)
faults_without_five first second last environment b none one two three =
    let lines = line_faults 0 b.lines in
    let ops = block_faults environment 0 b.code in
    three ∙ ap (λ (z : Option LoadFault). with_faults z ops) (two ∙ ap (λ (z : Option LoadFault). with_faults z lines) one ∙ sym (with_more None (count_faults b) lines))
    ∙ sym (with_more None (count_faults b ++ lines) ops)
    ∙ ap (λ (z : Option ℕ). with_faults None (faults_unless z environment b)) (sym none)

-- ---- the first block with a fault

-- what is said of the blocks from one on is said of all
pub record RestDecides (lens : Lens) (all : List BlockRecord) (bs rest : List CodeBlock) : Type 0 where
  pub later : (f : VerifyFault) → IsFirstOf lens all rest f → IsFirstOf lens all bs f
  pub clean : AreClean lens all rest → AreClean lens all bs

decides : (b : CodeBlock) (f : LoadFault) (fs : List (ℕ × ℕ)) (Later : Type 0) → IsLeastFault f fs → DecidesFor b.id (record { block = b.id; at = f.at; code = f.code }) fs Later
decides b f [] Later least = absurd least.one
decides b f (g ∷ gs) Later least = (refl, least)

pub found_here : (lens : Lens) (all : List BlockRecord) (bs rest tail : List CodeBlock) (b : CodeBlock) (f : LoadFault) → rest ≡ b ∷ tail → Some f ≡ with_faults None (faults_of_block (environment_of_block lens all (record_of_block b)) (record_of_block b)) → RestDecides lens all bs rest → IsFirstOf lens all bs (record { block = b.id; at = f.at; code = f.code })
found_here lens all bs rest tail b f shape e passed =
    let fault : VerifyFault = record { block = b.id; at = f.at; code = f.code } in
    let fs = faults_of_block (environment_of_block lens all (record_of_block b)) (record_of_block b) in
    passed.later fault (subst (λ (z : List CodeBlock). IsFirstOf lens all z fault) (sym shape) (decides b f fs (IsFirstOf lens all tail fault) (kept_is_least fs f (sym e))))

pub passes : (lens : Lens) (all : List BlockRecord) (bs rest tail : List CodeBlock) (b : CodeBlock) → rest ≡ b ∷ tail → None ≡ with_faults None (faults_of_block (environment_of_block lens all (record_of_block b)) (record_of_block b)) → RestDecides lens all bs rest → RestDecides lens all bs tail
passes lens all bs rest tail b shape e passed =
    let fs = faults_of_block (environment_of_block lens all (record_of_block b)) (record_of_block b) in
    let none : fs ≡ [] = none_left fs (sym e) in
    record {
      later = λ f h. passed.later f (subst (λ (z : List CodeBlock). IsFirstOf lens all z f) (sym shape) (subst (λ (z : List (ℕ × ℕ)). DecidesFor b.id f z (IsFirstOf lens all tail f)) (sym none) h));
      clean = λ h. passed.clean (subst (λ (z : List CodeBlock). AreClean lens all z) (sym shape) (none, h));
    }

pub passed_none : (lens : Lens) (all : List BlockRecord) (bs : List CodeBlock) → RestDecides lens all bs bs
passed_none lens all bs = record { later = λ f h. h; clean = λ h. h }

pub passed_all : (lens : Lens) (all : List BlockRecord) (bs : List CodeBlock) (i : ℕ) → length bs ≤ i → RestDecides lens all bs (drop i bs) → AreClean lens all bs
passed_all lens all bs i le passed = passed.clean (subst (λ (z : List CodeBlock). AreClean lens all z) (sym (drop_of_length-le bs {i = i} le)) tt)

-- what is found of a block by its place among the signatures of all
pub in_its_place : (lens : Lens) (signatures : List BlockSignature) (bs : List CodeBlock) (b : CodeBlock) (found wanted : Option LoadFault) → signatures ≡ map signature_of (map record_of_block bs)
    → found ≡ with_faults None (faults_of_block (record { kind = (record_of_block b).kind; local_len = b.local_len; params = (record_of_block b).params; blocks = signatures; data_lens = lens }) (record_of_block b))
    → found ≡ wanted → wanted ≡ with_faults None (faults_of_block (environment_of_block lens (map record_of_block bs) (record_of_block b)) (record_of_block b))
in_its_place lens signatures bs b found wanted all e is =
    sym is ∙ e ∙ ap (λ (z : List BlockSignature). with_faults None (faults_of_block (record { kind = (record_of_block b).kind; local_len = b.local_len; params = (record_of_block b).params; blocks = z; data_lens = lens }) (record_of_block b))) all

-- ---- a program without faults verifies

no_fives : (o : Option ℕ) (environment : Environment) (b : BlockRecord) → faults_unless o environment b ≡ [] → o ≡ None
no_fives None environment b e = refl
no_fives (Some at) environment b e = absurd cc

-- what a block without faults says
pub record Clean (environment : Environment) (b : BlockRecord) : Type 0 where
  pub code : code_fault b.code ≡ None
  pub count : count_faults b ≡ []
  pub lines : line_faults 0 b.lines ≡ []
  pub ops : block_faults environment 0 b.code ≡ []

clean_parts : (environment : Environment) (b : BlockRecord) → faults_of_block environment b ≡ [] → Clean environment b
clean_parts environment b e =
    let none = no_fives (code_fault b.code) environment b e in
    let all : count_faults b ++ line_faults 0 b.lines ++ block_faults environment 0 b.code ≡ [] = ap (λ (z : Option ℕ). faults_unless z environment b) (sym none) ∙ e in
    let a = nil_parts (count_faults b ++ line_faults 0 b.lines) (block_faults environment 0 b.code) all in
    let c = nil_parts (count_faults b) (line_faults 0 b.lines) a.0 in
    record { code = none; count = c.0; lines = c.1; ops = a.1 }

pub clean_from : (environment : Environment) (b : BlockRecord) → Clean environment b → faults_of_block environment b ≡ []
clean_from environment b h = rw (h.code, h.count, h.lines, h.ops) refl

pub is_whole : (o : Option ℕ) → o ≡ None → is_fine o ≡ true
is_whole None e = refl
is_whole (Some at) e = absurd cc

clean_whole : (lens : Lens) (all : List BlockRecord) (bs : List CodeBlock) → AreClean lens all bs → are_whole (map record_of_block bs) ≡ true
clean_whole lens all [] h = refl
clean_whole lens all (b ∷ bs) h = and_from _ _ (is_whole (code_fault b.code) (clean_parts (environment_of_block lens all (record_of_block b)) (record_of_block b) h.0).code) (clean_whole lens all bs h.1)

fine : (o : Option ℕ) → at_offset 0 o ≡ [] → is_fine o ≡ true
fine None e = refl
fine (Some code) e = absurd cc

lines_right : (n before : ℕ) (lines : List ℕ) → good_many (line_field false) line_after before n lines ≡ true → line_faults before lines ≡ [] → good_many (line_field true) line_after before n lines ≡ true
unfolding line_field
lines_right zero before [] h e = refl
lines_right zero before (line ∷ lines) h e = absurd cc
lines_right (suc n) before [] h e = absurd cc
lines_right (suc n) before (line ∷ lines) h e =
    let g = and_parts (ltb line 4294967296 && true) (good_many (line_field false) line_after line n lines) h in
    let p = nil_parts (at_offset 0 (field_fault (Line before line))) (line_faults line lines) e in
    and_from (ltb line 4294967296 && is_fine (field_fault (Line before line))) (good_many (line_field true) line_after line n lines)
    (and_from (ltb line 4294967296) (is_fine (field_fault (Line before line))) (and_parts (ltb line 4294967296) true g.0).0 (fine (field_fault (Line before line)) p.0))
    (lines_right n line lines g.1 p.1)

code_right : (n : ℕ) (ops : List OpData) → (code_layout false n).good ops ≡ true → code_fault ops ≡ None → (code_layout true n).good ops ≡ true
unfolding code_layout
code_right n ops h e =
    let a = and_parts (are_ops ops && is_fine (stop_at false ops [])) (eqb (length (code_bytes ops)) n) h in
    let b = and_parts (are_ops ops) (is_fine (stop_at false ops [])) a.0 in
    and_from (are_ops ops && is_fine (code_fault ops)) (eqb (length (code_bytes ops)) n) (and_from (are_ops ops) (is_fine (code_fault ops)) b.0 (is_whole (code_fault ops) e)) a.1

lines_of_right : (b : BlockRecord) → (lines_layout false 0 (head_of_block b) b.code).good b.lines ≡ true → count_faults b ≡ [] → line_faults 0 b.lines ≡ [] → (lines_layout true 0 (head_of_block b) b.code).good b.lines ≡ true
unfolding lines_layout
lines_of_right b h count lines =
    let f = field_fault (StatementCount (end_marks b.code) (length b.lines)) in
    let g = and_parts true (good_many (line_field false) line_after 0 (length b.lines) b.lines) h in
    and_from (is_fine f) (good_many (line_field true) line_after 0 (length b.lines) b.lines) (fine f count) (lines_right (length b.lines) 0 b.lines g.1 lines)

parts_right : (before : ℕ × ℕ) (environment : Environment) (b : BlockRecord) → GoodBlock false before 0 (parts_of_block b) → Clean environment b → (code_block_layout true before).good b ≡ true
unfolding code_block_layout plain_block block_rows code_and_lines
parts_right before environment b p h =
    let x = head_of_block b in
    and_from ((head_layout before).good x) _ p.head_good
    (and_from ((parameters_layout x).good b.params) _ p.params_good
    (and_from ((code_layout true x.code_length).good b.code) ((lines_layout true 0 x b.code).good b.lines) (code_right x.code_length b.code p.code_good h.code) (lines_of_right b p.lines_good h.count h.lines)))

blocks_right : (lens : Lens) (all : List BlockRecord) (s : ℕ × ℕ) (n : ℕ) (bs : List CodeBlock) → good_many (code_block_layout false) after_block s n (map record_of_block bs) ≡ true → AreClean lens all bs → good_many (code_block_layout true) after_block s n (map record_of_block bs) ≡ true
blocks_right lens all s zero [] h clean = refl
blocks_right lens all s zero (b ∷ bs) h clean = absurd cc
blocks_right lens all s (suc n) [] h clean = absurd cc
blocks_right lens all s (suc n) (b ∷ bs) h clean =
    let r = record_of_block b in
    let a = environment_of_block lens all r in
    let g = and_parts ((code_block_layout false s).good r) (good_many (code_block_layout false) after_block (after_block s r) n (map record_of_block bs)) h in
    and_from _ _ (parts_right s a r (good_block_of false s r g.0) (clean_parts a r clean.0)) (blocks_right lens all (after_block s r) n bs g.1 clean.1)

codes_right : (lens : Lens) (all : List BlockRecord) (n : ℕ) (bs : List CodeBlock) → (code_blocks_layout false n).good (map record_of_block bs) ≡ true → AreClean lens all bs → (code_blocks_layout true n).good (map record_of_block bs) ≡ true
unfolding code_blocks_layout
codes_right lens all n bs h clean = blocks_right lens all (0, 0) n bs h clean

right_by : (p : Program) (lens : Lens) (all : List BlockRecord) → GoodRecords false (parts_of_records (records_of p)) → AreClean lens all p.code_blocks → (body_rows true).good (row_of_body_parts (parts_of_records (records_of p))) ≡ true
unfolding body_rows
right_by p lens all q clean =
    let x = parts_of_records (records_of p) in
    let c = x.counts in
    and_from (counts_layout.good c) _ q.counts_good
    (and_from ((code_blocks_layout true c.code_blocks).good x.code_blocks) _ (codes_right lens all c.code_blocks p.code_blocks q.codes_good clean)
    (and_from ((data_blocks_layout c.data_blocks).good x.data_blocks) _ q.datas_good q.names_good))

right : (p : Program) → IsProgram p → IsClean p → IsRight p
unfolding body_layout records_layout
right p h clean = right_by p (lens_checked p) (map record_of_block p.code_blocks) (good_records false (records_of p) h.good) clean

ops_verified : (lens : List (ℕ × ℕ)) (all : List BlockRecord) (bs : List CodeBlock) → AreClean (Some lens) all bs → AreVerified lens all (map record_of_block bs)
ops_verified lens all [] h = tt
ops_verified lens all (b ∷ bs) h = ((clean_parts (environment_of_block (Some lens) all (record_of_block b)) (record_of_block b) h.0).ops, ops_verified lens all bs h.1)

pub lens_are : (p : Program) → are_whole (map record_of_block p.code_blocks) ≡ true → lens_checked p ≡ Some (lens_of p.data_blocks)
lens_are p e = ap (λ (z : Bool). lens_where z p.data_blocks) e

pub clean_verifies : (p : Program) → IsProgram p → IsClean p → Verifies p
clean_verifies p h clean =
    let all = map record_of_block p.code_blocks in
    let lens = lens_are p (clean_whole (lens_checked p) all p.code_blocks clean) in
    record { right = right p h clean; blocks = ops_verified (lens_of p.data_blocks) all p.code_blocks (subst (λ (z : Lens). AreClean z all p.code_blocks) lens clean) }
