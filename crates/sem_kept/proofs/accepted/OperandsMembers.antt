-- The blocks of the program by their numbers: a called block is the one that the source names, and
-- an instance is as long as its function block.
use Rattle.std.proofs.Common.{ℕ, zero, suc, ◌≡◌, ◌≤◌, ◌+◌, List, [], ◌∷◌, ◌++◌, Option, Some, Bool, true, false, ◌&&◌, nat_eq, nat_lt, refl, sym, ◌∙◌, ap, subst, arith, length, map, replicate, if◌then◌else◌, eqb-true, ltb-false, eq-eqb, le_antisymm}
use Rattle.std.specs.Prelude.{◌==◌, slice_get}
use Rattle.std.specs.List.{AllByRecursion}
use Rattle.std.specs.Option.{option_and_then, option_map}
use Rattle.plc_base.specs.Kinds.{kind_number, is_code, is_data_block, is_same_block, is_same_kind}
use Rattle.plc_base.specs.declared.blocks.BlockId.{BlockId}
use Rattle.plc_base.specs.declared.blocks.BlockKind.{BlockKind}
use Rattle.plc_base.specs.declared.blocks.BlockKind.TheVariants as kinds
use Rattle.plc_base.proofs.ListLemmas.{all_front, all_back}
use Rattle.std.proofs.lemmas.List.{length-replicate}
use Rattle.plc_base.proofs.TruthLemmas.{and_first, and_second}
use Rattle.flat_code.specs.Blocks.{BlockSignature, block_with, callee_of_block, length_of_data, signature_of}
use Rattle.flat_code.specs.Image.{record_of_block, record_of_param}
use Rattle.flat_code.specs.Loading.{lens_of}
use Rattle.flat_code.specs.Programs.{DataBlock}
use Rattle.flat_code.specs.declared.image_fields.ParameterRecord.{ParameterRecord}
use Rattle.stl_ast.specs.declared.blocks.Block.{Block}
use Rattle.stl_ast.specs.declared.blocks.Tree.{Tree}
use Rattle.stl_symbols.specs.Symbol.{Symbol}
use Rattle.block_layout.specs.Blocks.{place_of_block, id_of, is_id}
use Rattle.block_layout.specs.InitialBytes.{initial_bytes, length_at, setting_writes, settings_at, structure_writes}
use Rattle.block_layout.specs.Layouts.{layouts_of}
use Rattle.block_layout.specs.Measures.{types_of_source}
use Rattle.block_layout.specs.Paths.{structure_of}
use Rattle.block_layout.specs.Rule22.{is_block_twice, is_earlier}
use Rattle.block_layout.specs.declared.blocks.BlockLayout.{BlockLayout}
use Rattle.stl_types.specs.Context.{Context}
use Rattle.stl_codegen.specs.CompiledBlock.{StatedBlock, compiled_block}
use Rattle.stl_codegen.specs.GeneratedProgram.{code_block, code_block_of, code_blocks_of, generated_data_block, data_block_of, data_blocks_of, each_block, instance_len, params_of}
use Rattle.stl_codegen.specs.Order.{is_code_before, is_data_before}
use Rattle.stl_codegen.proofs.ProgramLemmas.{all_before}
use Rattle.sem_kept.specs.SettledStatements.{context_at}
use Rattle.sem_kept.proofs.accepted.Accepted.{IsSoundBlock, IsSoundTree, sound_code_blocks, sound_data_blocks}
use Rattle.block_layout.proofs.LayoutLemmas.{measured_ids, measured_symbols}
use Rattle.sem_kept.proofs.accepted.OperandsViews.{data_block_kind, layout_id}
use Rattle.block_layout.proofs.FillLemmas.{written_length}

-- ---- what holds of all blocks holds of each

-- what each block of the source gives, from its place on
each_of : {A : Type 0} (symbols : List Symbol) (t : Tree) (P : A → Type 0)
    (of : Context → Block → BlockLayout → List A) (k : ℕ) (bs : List Block) (ls : List BlockLayout)
    → AllByRecursion P (each_block of (context_at symbols t k) bs ls)
    → (i : ℕ) (b : Block) (l : BlockLayout) → slice_get bs i ≡ Some b → slice_get ls i ≡ Some l
    → AllByRecursion P (of (context_at symbols t (k + i)) b l)
each_of symbols t P of k [] ls h i b l e f = absurd cc
each_of symbols t P of k (x ∷ bs) [] h i b l e f = absurd cc
each_of symbols t P of k (x ∷ bs) (z ∷ ls) h zero b l e f =
    let same : x ≡ b = cc in
    let laid : z ≡ l = cc in
    let here : k + 0 ≡ k = omega arith in
    subst (λ (n : ℕ). AllByRecursion P (of (context_at symbols t n) b l)) (sym here)
    (subst (λ (m : BlockLayout). AllByRecursion P (of (context_at symbols t k) b m)) laid
    (subst (λ (c : Block). AllByRecursion P (of (context_at symbols t k) c z)) same
    (all_front P (of (context_at symbols t k) x z) (each_block of (context_at symbols t (suc k)) bs ls) h)))
each_of symbols t P of k (x ∷ bs) (z ∷ ls) h (suc i) b l e f =
    let further : suc k + i ≡ k + suc i = omega arith in
    subst (λ (n : ℕ). AllByRecursion P (of (context_at symbols t n) b l)) further
    (each_of symbols t P of (suc k) bs ls
    (all_back P (of (context_at symbols t k) x z) (each_block of (context_at symbols t (suc k)) bs ls) h)
    i b l e f)

-- what holds of all that a block makes holds of what it makes under its number
made_there : {A : Type 0} (P : A → Type 0) (of : Option BlockId → List A) (one : BlockId → A) (test : BlockId → Bool)
    (id : BlockId) → of (Some id) ≡ (if test id then one id ∷ [] else []) → (o : Option BlockId) → o ≡ Some id
    → test id ≡ true → AllByRecursion P (of o) → P (one id)
made_there P of one test id some o is right h =
    (subst (λ (t : Bool). AllByRecursion P (if t then one id ∷ [] else [])) right
    (subst (AllByRecursion P) some (subst (λ (o : Option BlockId). AllByRecursion P (of o)) is h))).0

each_there : {A : Type 0} (symbols : List Symbol) (t : Tree) (P : A → Type 0) (of : Context → Block → BlockLayout → List A)
    → AllByRecursion P (each_block of (context_at symbols t 0) t.blocks (layouts_of t symbols))
    → (k : ℕ) (b : Block) (l : BlockLayout) → IsSoundBlock symbols t k b l → AllByRecursion P (of (context_at symbols t k) b l)
each_there symbols t P of h k b l sound =
    let from : 0 + k ≡ k = omega arith in
    subst (λ (n : ℕ). AllByRecursion P (of (context_at symbols t n) b l)) from
    (each_of symbols t P of 0 t.blocks (layouts_of t symbols) h k b l sound.block_there sound.layout_there)

pub code_block_there : (symbols : List Symbol) (t : Tree) (P : StatedBlock → Type 0)
    → AllByRecursion P (code_blocks_of t symbols (layouts_of t symbols))
    → (k : ℕ) (b : Block) (l : BlockLayout) (id : BlockId) → IsSoundBlock symbols t k b l
    → l.id ≡ Some id → is_code id.kind ≡ true → P (code_block (context_at symbols t k) b l id)
unfolding code_blocks_of
code_block_there symbols t P h k b l id sound is code =
    let of_ : Context → Block → BlockLayout → List StatedBlock = λ c b l. code_block_of c b l l.id in
    made_there P (code_block_of (context_at symbols t k) b l) (code_block (context_at symbols t k) b l)
    (λ id. is_code id.kind) id refl l.id is code (each_there symbols t P of_
    (all_before P is_code_before (each_block of_ (context_at symbols t 0) t.blocks (layouts_of t symbols)) h) k b l sound)

pub data_block_there : (symbols : List Symbol) (t : Tree) (P : DataBlock → Type 0)
    → AllByRecursion P (data_blocks_of t symbols (layouts_of t symbols))
    → (k : ℕ) (b : Block) (l : BlockLayout) (id : BlockId) → IsSoundBlock symbols t k b l
    → l.id ≡ Some id → is_data_block id.kind ≡ true → P (generated_data_block (context_at symbols t k) l id)
unfolding data_blocks_of
data_block_there symbols t P h k b l id sound is kind =
    let of_ : Context → Block → BlockLayout → List DataBlock = λ c b l. data_block_of c l l.id in
    made_there P (data_block_of (context_at symbols t k) l) (generated_data_block (context_at symbols t k) l)
    (λ id. is_data_block id.kind) id refl l.id is kind (each_there symbols t P of_
    (all_before P is_data_before (each_block of_ (context_at symbols t 0) t.blocks (layouts_of t symbols)) h) k b l sound)

-- ---- no two blocks have one number

kind_itself : (k : BlockKind) → is_same_kind k k ≡ true
kind_itself kinds.Ob = refl
kind_itself _ = refl

block_itself : (id : BlockId) → is_same_block id id ≡ true
block_itself id =
    ap (λ (t : Bool). t && nat_eq id.number id.number) (kind_itself id.kind)
    ∙ eq-eqb id.number id.number refl

-- the first place of an id is no later than any other
place_first : (id : BlockId) (ids : List (Option BlockId)) (j : ℕ)
    → slice_get ids j ≡ Some (Some id) → (m : ℕ) × (place_of_block id ids ≡ Some m) × (m ≤ j)
place_first id [] j e = absurd cc
place_first id (i ∷ is) zero e = (
  0,
  ap (λ (t : Bool). if t then Some 0 else option_map (λ k. suc k) (place_of_block id is))
      (ap (is_id id) (let same : i ≡ Some id = cc in same) ∙ block_itself id),
  omega arith,
)
place_first id (i ∷ is) (suc j) e = by (is_id id i) (place_first id is j e)
  where
    by : (t : Bool) → ((m : ℕ) × (place_of_block id is ≡ Some m) × (m ≤ j))
        → (m : ℕ) × ((if t then Some 0 else option_map (λ k. suc k) (place_of_block id is)) ≡ Some m) × (m ≤ suc j)
    by true more = (0, refl, omega arith)
    by false more = (suc more.0, ap (λ (o : Option ℕ). option_map (λ k. suc k) o) more.1, let few = more.2 in omega (arith, few))

id_listed : (symbols : List Symbol) (t : Tree) (k : ℕ) (b : Block) (l : BlockLayout) (id : BlockId)
    → IsSoundBlock symbols t k b l → l.id ≡ Some id
    → slice_get (types_of_source symbols t.blocks).ids k ≡ Some (Some id)
id_listed symbols t k b l id h is =
    ap (λ (ids : List (Option BlockId)). slice_get ids k) (measured_ids symbols t.blocks)
    ∙ mapped (λ b. id_of symbols b) t.blocks k b h.block_there
    ∙ ap (λ (o : Option BlockId). Some o) (sym (layout_id symbols t k b l h) ∙ is)
  where
    mapped : {A B : Type 0} (f : A → B) (xs : List A) (k : ℕ) (x : A) → slice_get xs k ≡ Some x
        → slice_get (map f xs) k ≡ Some (f x)
    mapped f [] k x e = absurd cc
    mapped f (z ∷ zs) zero x e = ap (λ y. Some (f y)) (let same : z ≡ x = cc in same)
    mapped f (z ∷ zs) (suc k) x e = mapped f zs k x e

-- a block is the first one with its number
is_first : (symbols : List Symbol) (t : Tree) (k : ℕ) (b : Block) (l : BlockLayout) (id : BlockId)
    (m : ℕ) → IsSoundBlock symbols t k b l → l.id ≡ Some id
    → place_of_block id (types_of_source symbols t.blocks).ids ≡ Some m → k ≤ m
is_first symbols t k b l id m h is found =
    subst (λ (n : ℕ). n ≤ m) h.count
    (ltb-false m (length h.before) (sym earlier ∙ h.head.by_22))
  where
    earlier : is_block_twice (types_of_source symbols t.blocks) h.before b ≡ nat_lt m (length h.before)
    earlier =
        ap (λ (o : Option BlockId). is_earlier (option_and_then (λ id. place_of_block id (types_of_source symbols t.blocks).ids) o) (length h.before))
        (ap (λ (s : List Symbol). id_of s b) (measured_symbols symbols t.blocks) ∙ sym (layout_id symbols t k b l h) ∙ is)
        ∙ ap (λ (o : Option ℕ). is_earlier o (length h.before)) found

pub one_block : (symbols : List Symbol) (t : Tree) (id : BlockId) (j k : ℕ) (b c : Block)
    (l m : BlockLayout) → IsSoundBlock symbols t j b l → IsSoundBlock symbols t k c m → l.id ≡ Some id
    → m.id ≡ Some id → j ≡ k
one_block symbols t id j k b c l m h g e f =
    let one = place_first id (types_of_source symbols t.blocks).ids j (id_listed symbols t j b l id h e) in
    let two = place_first id (types_of_source symbols t.blocks).ids k (id_listed symbols t k c m id g f) in
    let a = is_first symbols t j b l id two.0 h e two.1 in
    let d = is_first symbols t k c m id one.0 g f one.1 in
    let p = one.2 in
    let q = two.2 in
    le_antisymm (omega (arith, a, q)) (omega (arith, d, p))

same_there : {A : Type 0} (xs : List A) (j k : ℕ) (x z : A) → j ≡ k → slice_get xs j ≡ Some x
    → slice_get xs k ≡ Some z → x ≡ z
same_there xs j k x z e f g =
    some_same x z (sym f ∙ ap (λ (n : ℕ). slice_get xs n) e ∙ g)
  where
    some_same : {A : Type 0} (x z : A) → Some x ≡ Some z → x ≡ z
    some_same x z h = cc

-- ---- the code block that a call means

abbrev sig_of : StatedBlock → BlockSignature
sig_of b = signature_of (record_of_block (compiled_block b))

abbrev matches : (kind number : ℕ) → StatedBlock → Bool
matches kind number b = (sig_of b).kind == kind && (sig_of b).number == number

-- of blocks that all agree where they match, and of which one does
finds : (kind number il : ℕ) (ps : List ParameterRecord) (bs : List StatedBlock)
    → AllByRecursion (λ b. matches kind number b ≡ true
    → ((sig_of b).instance_len ≡ il) × ((sig_of b).params ≡ ps)) bs
    → (AllByRecursion (λ b. matches kind number b ≡ false) bs → ⊥)
    → block_with kind number (map signature_of (map record_of_block (map compiled_block bs)))
    ≡ Some (record { kind = kind; instance_len = il; params = ps })
finds kind number il ps [] h some = absurd (some tt)
finds kind number il ps (b ∷ bs) h some =
    by (matches kind number b) refl (finds kind number il ps bs h.1)
  where
    by : (t : Bool) → matches kind number b ≡ t
        → ((AllByRecursion (λ b. matches kind number b ≡ false) bs → ⊥)
        → block_with kind number (map signature_of (map record_of_block (map compiled_block bs))) ≡ Some (record { kind = kind; instance_len = il; params = ps }))
        → (if t then Some (callee_of_block (sig_of b))
        else block_with kind number (map signature_of (map record_of_block (map compiled_block bs))))
        ≡ Some (record { kind = kind; instance_len = il; params = ps })
    by true is more =
        let kinds_same : (sig_of b).kind ≡ kind
        = eqb-true (sig_of b).kind kind (and_first ((sig_of b).kind == kind) ((sig_of b).number == number) is) in
        let rest = h.0 is in
        ap (λ (k : ℕ). Some (record { kind = k; instance_len = (sig_of b).instance_len; params = (sig_of b).params })) kinds_same
        ∙ ap (λ (n : ℕ). Some (record { kind = kind; instance_len = n; params = (sig_of b).params })) rest.0
        ∙ ap (λ (qs : List ParameterRecord). Some (record { kind = kind; instance_len = il; params = qs })) rest.1
    by false is more = more (λ none. some (is, none))

code_kind_same : (j k : BlockKind) → is_code j ≡ true → is_code k ≡ true
    → kind_number j ≡ kind_number k → j ≡ k
code_kind_same kinds.Ob kinds.Ob e f g = refl
code_kind_same kinds.Fc kinds.Fc e f g = refl
code_kind_same kinds.Fb kinds.Fb e f g = refl
code_kind_same _ _ e f g = absurd (first_of (cc, omega (arith, g)))

id_by : (a b : BlockId) → a.kind ≡ b.kind → a.number ≡ b.number → a ≡ b
id_by a b e f =
    ap (λ (k : BlockKind). record { kind = k; number = a.number }) e
    ∙ ap (λ (n : ℕ). record { kind = b.kind; number = n }) f

pub called_block : (symbols : List Symbol) (t : Tree) → IsSoundTree symbols t → (p : ℕ) (b : Block)
    (l : BlockLayout) (id : BlockId) → IsSoundBlock symbols t p b l → l.id ≡ Some id
    → is_code id.kind ≡ true
    → block_with (kind_number id.kind) id.number
    (map signature_of (map record_of_block (map compiled_block (code_blocks_of t symbols (layouts_of t symbols)))))
    ≡ Some (record { kind = kind_number id.kind; instance_len = instance_len b l; params = map record_of_param (params_of b l) })
called_block symbols t tree p b l id h is code =
    finds (kind_number id.kind) id.number (instance_len b l) (map record_of_param (params_of b l))
    (code_blocks_of t symbols (layouts_of t symbols))
    (sound_code_blocks symbols t
    (λ x. matches (kind_number id.kind) id.number x ≡ true
    → ((sig_of x).instance_len ≡ instance_len b l) × ((sig_of x).params ≡ map record_of_param (params_of b l)))
    tree each)
    (λ none. clash (code_block_there symbols t (λ x. matches (kind_number id.kind) id.number x ≡ false) none
    p b l id h is code))
  where
    clash : matches (kind_number id.kind) id.number (code_block (context_at symbols t p) b l id) ≡ false → ⊥
    clash e =
        let one : (kind_number id.kind == kind_number id.kind) ≡ true = eq-eqb (kind_number id.kind) (kind_number id.kind) refl in
        let two : (id.number == id.number) ≡ true = eq-eqb id.number id.number refl in
        let both : matches (kind_number id.kind) id.number (code_block (context_at symbols t p) b l id) ≡ true
        = ap (λ (t' : Bool). t' && id.number == id.number) one ∙ two in
        absurd cc

    each : (k : ℕ) (c : Block) (m : BlockLayout) (other : BlockId) → IsSoundBlock symbols t k c m
        → m.id ≡ Some other → is_code other.kind ≡ true
        → matches (kind_number id.kind) id.number (code_block (context_at symbols t k) c m other) ≡ true
        → (instance_len c m ≡ instance_len b l)
        × (map record_of_param (params_of c m) ≡ map record_of_param (params_of b l))
    each k c m other g e f fits = (
      ap (λ (x : Block). instance_len x m) blocks ∙ ap (λ (x : BlockLayout). instance_len b x) layouts,
      ap (λ (x : Block). map record_of_param (params_of x m)) blocks
          ∙ ap (λ (x : BlockLayout). map record_of_param (params_of b x)) layouts,
    )
      where
        same : other ≡ id
        same = id_by other id
            (code_kind_same other.kind id.kind f code
            (eqb-true (kind_number other.kind) (kind_number id.kind)
            (and_first (kind_number other.kind == kind_number id.kind) (other.number == id.number) fits)))
            (eqb-true other.number id.number
            (and_second (kind_number other.kind == kind_number id.kind) (other.number == id.number) fits))

        place : k ≡ p
        place = one_block symbols t id k p c b m l g h (e ∙ ap (λ (x : BlockId). Some x) same) is

        blocks : c ≡ b
        blocks = same_there t.blocks k p c b place g.block_there h.block_there

        layouts : m ≡ l
        layouts = same_there (layouts_of t symbols) k p m l place g.layout_there h.layout_there

-- ---- the data block of an instance

pub initial_long : (l : List BlockLayout) (blocks : List Block) (k : ℕ)
    → length (initial_bytes l blocks k) ≡ length_at (slice_get l k)
unfolding initial_bytes
initial_long l blocks k =
    written_length (replicate (length_at (slice_get l k)) 0)
    (structure_writes l (structure_of l k) ++ setting_writes l k (settings_at (slice_get blocks k)))
    ∙ length-replicate (length_at (slice_get l k)) 0

len_finds : (number len : ℕ) (ds : List DataBlock)
    → AllByRecursion (λ d. (d.number == number) ≡ true → length d.bytes ≡ len) ds
    → (AllByRecursion (λ d. (d.number == number) ≡ false) ds → ⊥)
    → length_of_data number (lens_of ds) ≡ Some len
len_finds number len [] h some = absurd (some tt)
len_finds number len (d ∷ ds) h some = by (d.number == number) refl (len_finds number len ds h.1)
  where
    by : (t : Bool) → (d.number == number) ≡ t
        → ((AllByRecursion (λ d. (d.number == number) ≡ false) ds → ⊥) → length_of_data number (lens_of ds) ≡ Some len)
        → (if t then Some (length d.bytes) else length_of_data number (lens_of ds)) ≡ Some len
    by true is more = ap (λ (n : ℕ). Some n) (h.0 is)
    by false is more = more (λ none. some (is, none))

pub instance_found : (symbols : List Symbol) (t : Tree) → IsSoundTree symbols t → (q : ℕ)
    (b : Block) (l : BlockLayout) (id : BlockId) → IsSoundBlock symbols t q b l → l.id ≡ Some id
    → is_data_block id.kind ≡ true
    → length_of_data id.number (lens_of (data_blocks_of t symbols (layouts_of t symbols))) ≡ Some l.length
instance_found symbols t tree q b l id h is kind =
    len_finds id.number l.length (data_blocks_of t symbols (layouts_of t symbols))
    (sound_data_blocks symbols t (λ d. (d.number == id.number) ≡ true → length d.bytes ≡ l.length) tree each)
    (λ none. clash (data_block_there symbols t (λ d. (d.number == id.number) ≡ false) none q b l id h is kind))
  where
    clash : (id.number == id.number) ≡ false → ⊥
    clash e =
        let two : (id.number == id.number) ≡ true = eq-eqb id.number id.number refl in
        absurd cc

    each : (k : ℕ) (c : Block) (m : BlockLayout) (other : BlockId) → IsSoundBlock symbols t k c m
        → m.id ≡ Some other → is_data_block other.kind ≡ true → (other.number == id.number) ≡ true
        → length (generated_data_block (context_at symbols t k) m other).bytes ≡ l.length
    each k c m other g e f fits =
        initial_long (layouts_of t symbols) t.blocks k ∙ ap length_at g.layout_there
        ∙ ap (λ (x : BlockLayout). x.length) layouts
      where
        same : other ≡ id
        same = id_by other id (data_block_kind other.kind f ∙ sym (data_block_kind id.kind kind))
            (eqb-true other.number id.number fits)

        place : k ≡ q
        place = one_block symbols t id k q c b m l g h (e ∙ ap (λ (x : BlockId). Some x) same) is

        layouts : m ≡ l
        layouts = same_there (layouts_of t symbols) k q m l place g.layout_there h.layout_there
