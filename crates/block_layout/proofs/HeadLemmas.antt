-- Rules that a block breaks as a whole.
use Rattle.std.proofs.Common.{ℕ, ◌≡◌, ◌<◌, ◌≤◌, ◌+◌, min, map, List, [], ◌∷◌, ◌++◌, length, drop, get_or, Option, Bool, true, false, ◌||◌, refl, sym, ◌∙◌, ap, arith, if◌then◌else◌}
use Rattle.std.specs.Prelude.{sum_by}
use Rattle.std.proofs.Math.ListN.{drop_of_length-le}
use Rattle.std.proofs.lemmas.List.{drop_more, get_or-map}
use Rattle.std.proofs.lemmas.List.Sums.{sum_by-cons}
use Rattle.std.specs.List.{count_by, flat_map}
use Rattle.plc_base.specs.Kinds.{is_data_block}
use Rattle.plc_base.specs.declared.refusals.Refusal.{Refusal}
use Rattle.plc_base.specs.RefusalsAlong.{refusals_along}
use Rattle.plc_base.specs.Least.{broken_if, least, lesser}
use Rattle.plc_base.proofs.LeastLemmas.{least-append}
use Rattle.plc_base.proofs.GatheredLemmas.{gathered_done, gathered_next}
use Rattle.stl_ast.specs.declared.blocks.Block.{Block}
use Rattle.stl_ast.specs.declared.blocks.Part.{Part}
use Rattle.block_layout.specs.Heads.{on_heads}
use Rattle.block_layout.specs.Rule53.{data_blocks}
use Rattle.block_layout.specs.Rule54.{data_length, total_data_length}
use Rattle.block_layout.specs.Types.{Types}
use Rattle.block_layout.proofs.CommonLemmas.{none_left, none_right, not_broken}

gathered_by_itself : (p : Block → Bool) (rule : ℕ) (before blocks : List Block) →
    refusals_along (λ b. false) (λ before b. broken_if (p b) b.line rule) (λ before b. b ∷ before) before blocks ≡ flat_map (λ b. broken_if (p b) b.line rule) blocks
gathered_by_itself p rule before [] = refl
gathered_by_itself p rule before (b ∷ bs) = ap (λ (rs : List Refusal). broken_if (p b) b.line rule ++ rs) (gathered_by_itself p rule (b ∷ before) bs)

-- a rule that asks nothing of the blocks before
pub by_itself : (p : Block → Bool) (rule : ℕ) (blocks : List Block) → on_heads (λ before b. p b) rule blocks ≡ flat_map (λ b. broken_if (p b) b.line rule) blocks
by_itself p rule blocks = gathered_by_itself p rule [] blocks

-- a sum that is held at a greatest number
pub sum_end : (f : Part → ℕ) (ps : List Part) (i sum most : ℕ) → length ps ≤ i → sum ≤ most →
    min (sum + sum_by f (drop i ps)) most ≡ min (sum_by f ps) most → sum ≡ min (sum_by f ps) most
sum_end f ps i sum most over held so_far =
    let none : sum_by f (drop i ps) ≡ 0 = ap (λ (l : List Part). sum_by f l) (drop_of_length-le ps over) in
    omega (arith, none, held, so_far)

-- a count of what passes a test
pub count_turn : {X : Type 0} (p : X → Bool) (xs : List X) (i : ℕ) (x : X) (count one whole : ℕ) → i < length xs → x ≡ get_or xs i x → one ≡ (if p x then 1 else 0) →
    count + count_by p (drop i xs) ≡ whole → (count + one) + count_by p (drop (i + 1) xs) ≡ whole
count_turn {X = X} p xs i x count one whole within is_x is_one so_far =
    let split : drop i xs ≡ x ∷ drop (i + 1) xs = drop_more xs i x within ∙ ap (λ (y : X). y ∷ drop (i + 1) xs) (sym is_x) in
    let all : count_by p (drop i xs) ≡ count_by p (x ∷ drop (i + 1) xs) = ap (λ (l : List X). count_by p l) split in
    let turn : count_by p (x ∷ drop (i + 1) xs) ≡ (if p x then 1 else 0) + count_by p (drop (i + 1) xs) = sum_by-cons (λ y. if p y then 1 else 0) x (drop (i + 1) xs) in
    omega (arith, all, turn, is_one, so_far)

pub count_end : {X : Type 0} (p : X → Bool) (xs : List X) (i count whole : ℕ) → length xs ≤ i → count + count_by p (drop i xs) ≡ whole → count ≡ whole
count_end {X = X} p xs i count whole over so_far =
    let none : count_by p (drop i xs) ≡ 0 = ap (λ (l : List X). count_by p l) (drop_of_length-le xs over) in
    omega (arith, none, so_far)

-- how the walk over the blocks goes on
pub heads_turn : (p : List Block → Block → Bool) (rule : ℕ) (blocks : List Block) (i : ℕ) (b : Block) (found one next whole : Option Refusal) (before : List Block) →
    i < length blocks → b ≡ get_or blocks i b → one ≡ least (broken_if (p before b) b.line rule) → next ≡ lesser found one →
    lesser found (least (refusals_along (λ b. false) (λ before b. broken_if (p before b) b.line rule) (λ before b. b ∷ before) before (drop i blocks))) ≡ whole →
    lesser next (least (refusals_along (λ b. false) (λ before b. broken_if (p before b) b.line rule) (λ before b. b ∷ before) (b ∷ before) (drop (i + 1) blocks))) ≡ whole
heads_turn p rule blocks i b found one next whole before within is_b is_one is_next so_far =
    gathered_next (λ b. false) (λ before b. broken_if (p before b) b.line rule) (λ before b. b ∷ before) before (b ∷ before) blocks i b found one next whole within is_b refl is_one is_next refl so_far

pub heads_end : (p : List Block → Block → Bool) (rule : ℕ) (blocks : List Block) (i : ℕ) (found whole : Option Refusal) (before : List Block) → length blocks ≤ i →
    lesser found (least (refusals_along (λ b. false) (λ before b. broken_if (p before b) b.line rule) (λ before b. b ∷ before) before (drop i blocks))) ≡ whole → found ≡ whole
heads_end p rule blocks i found whole before over so_far =
    gathered_done (λ b. false) (λ before b. broken_if (p before b) b.line rule) (λ before b. b ∷ before) before blocks i found whole over so_far

-- one data block more
pub one_block_more : (b : Block) (before : List Block) (count one : ℕ) → data_blocks before ≡ count → one ≡ (if is_data_block b.kind then 1 else 0) →
    data_blocks (b ∷ before) ≡ count + one
one_block_more b before count one is_count is_one =
    let all : data_blocks (b ∷ before) ≡ (if is_data_block b.kind then 1 else 0) + data_blocks before = sum_by-cons (λ x. if is_data_block x.kind then 1 else 0) b before in
    omega (arith, all, is_count, is_one)

pub at_most_one : (v : Bool) (one : ℕ) → one ≡ (if v then 1 else 0) → one ≤ 1
at_most_one true one is = omega (arith, is)
at_most_one false one is = omega (arith, is)

-- the least of two lists one behind the other
pub two_lists : (xs ys : List Refusal) (x y whole : Option Refusal) → x ≡ least xs → y ≡ least ys → whole ≡ lesser x y → whole ≡ least (xs ++ ys)
two_lists xs ys x y whole is_x is_y is_whole =
    is_whole ∙ ap (λ (o : Option Refusal). lesser o y) is_x ∙ ap (λ (o : Option Refusal). lesser (least xs) o) is_y ∙ sym (least-append xs ys)

-- the least of three lists one behind the other
pub three_lists : (xs ys zs : List Refusal) (x y z inner whole : Option Refusal) → x ≡ least xs → y ≡ least ys → z ≡ least zs → inner ≡ lesser x y → whole ≡ lesser inner z →
    whole ≡ least (xs ++ ys ++ zs)
three_lists xs ys zs x y z inner whole is_x is_y is_z is_inner is_whole =
    is_whole ∙ ap (λ (o : Option Refusal). lesser o z) (is_inner ∙ ap (λ (o : Option Refusal). lesser o y) is_x ∙ ap (λ (o : Option Refusal). lesser (least xs) o) is_y ∙ sym (least-append xs ys))
    ∙ ap (λ (o : Option Refusal). lesser (least (xs ++ ys)) o) is_z ∙ sym (least-append (xs ++ ys) zs)

-- what a list made of blocks has at the place of one
pub mapped_at : (f : Block → ℕ) (blocks : List Block) (ns : List ℕ) (i : ℕ) (b : Block) → ns ≡ map f blocks → i < length blocks → b ≡ get_or blocks i b → get_or ns i 0 ≡ f b
mapped_at f blocks ns i b are within is_b = ap (λ (l : List ℕ). get_or l i 0) are ∙ get_or-map f blocks i b 0 within ∙ ap f (sym is_b)

-- one block more in a total that is held at a greatest number
pub total_more : (y : Types) (blocks : List Block) (b : Block) (before : List Block) (sum one next most : ℕ) → sum ≡ min (total_data_length y blocks before) most → one ≡ data_length y blocks b →
    next ≡ min (sum + one) most → next ≡ min (total_data_length y blocks (b ∷ before)) most
total_more y blocks b before sum one next most is_sum is_one is_next =
    let all : total_data_length y blocks (b ∷ before) ≡ data_length y blocks b + total_data_length y blocks before = sum_by-cons (data_length y blocks) b before in
    omega (arith, all, is_sum, is_one, is_next)

-- ten tests in two steps
pub all_ten : (a b c d e f g h i j a' b' c' d' e' f' g' h' i' j' first whole : Bool) → first ≡ (a || b || c || d || e) → whole ≡ (first || f || g || h || i || j) →
    a ≡ a' → b ≡ b' → c ≡ c' → d ≡ d' → e ≡ e' → f ≡ f' → g ≡ g' → h ≡ h' → i ≡ i' → j ≡ j' → whole ≡ (a' || b' || c' || d' || e' || f' || g' || h' || i' || j')
all_ten a b c d e f g h i j a' b' c' d' e' f' g' h' i' j' first whole is_first is_whole ea eb ec ed ee ef eg eh ei ej = cc

-- ---- what holds of each block by its head

-- what holds of each block with the blocks before it
abbrev pub AllHeads : (List Block → Block → Type 0) → (before : List Block) → List Block → Type 0
AllHeads P before [] = Unit {0}
AllHeads P before (b ∷ bs) = P before b × AllHeads P (b ∷ before) bs

pub heads_both : (P Q : List Block → Block → Type 0) (before bs : List Block) → AllHeads P before bs
    → AllHeads Q before bs → AllHeads (λ k b. P k b × Q k b) before bs
heads_both P Q before [] h g = tt
heads_both P Q before (b ∷ bs) h g = ((h.0, g.0), heads_both P Q (b ∷ before) bs h.1 g.1)

-- a rule of heads
pub heads_none : (breaks : List Block → Block → Bool) (rule : ℕ) (before bs : List Block)
    → refusals_along (λ b. false) (λ before b. broken_if (breaks before b) b.line rule)
    (λ before b. b ∷ before) before bs ≡ []
    → AllHeads (λ before b. breaks before b ≡ false) before bs
heads_none breaks rule before [] e = tt
heads_none breaks rule before (b ∷ bs) e = (
  not_broken (breaks before b) b.line rule
      (none_left (broken_if (breaks before b) b.line rule)
      (refusals_along (λ b. false) (λ before b. broken_if (breaks before b) b.line rule)
      (λ before b. b ∷ before) (b ∷ before) bs) e),
  heads_none breaks rule (b ∷ before) bs
      (none_right (broken_if (breaks before b) b.line rule)
      (refusals_along (λ b. false) (λ before b. broken_if (breaks before b) b.line rule)
      (λ before b. b ∷ before) (b ∷ before) bs) e),
)
