-- The heads of a listing break no rule on kinds and numbers.
use Rattle.std.proofs.Common.{◌≡◌, ℕ, Bool, false, not, List, [], ◌∷◌, ◌++◌, length, length-append, append_assoc, map, Option, Some, slice_get, refl, sym, ap, subst, ◌∙◌, arith}
use Rattle.std.specs.Prelude.{nat_lt}
use Rattle.std.specs.List.{AllByRecursion}
use Rattle.std.specs.Option.{option_and_then}
use Rattle.std.proofs.lemmas.Bool.Decides.{nat_tests}
use Rattle.plc_base.specs.RefusalsAlong.{refusals_along}
use Rattle.plc_base.specs.Least.{broken_if}
use Rattle.plc_base.specs.declared.blocks.BlockId.{BlockId}
use Rattle.stl_ast.specs.declared.blocks.Block.{Block}
use Rattle.stl_symbols.specs.Symbol.{Symbol}
use Rattle.block_layout.specs.Blocks.{place_of_block, id_of, ids_of}
use Rattle.block_layout.specs.Measures.{types_of_source}
use Rattle.block_layout.specs.Rule22.{is_block_twice, is_earlier, rule_22}
use Rattle.block_layout.specs.Rule44.{has_wrong_number, is_number_beyond_limits, rule_44}
use Rattle.block_layout.specs.Types.{Types}
use Rattle.stl_list.specs.Listing.{listed_tree}
use Rattle.listing_laws.specs.Heads.{AreBlocksOnce, AreNumbersRight}
use Rattle.listing_laws.specs.Ids.{program_ids}
use Rattle.sem_kept.specs.AcceptedSource.{program_in}
use Rattle.listing_laws.proofs.IdLemmas.{IsRight, NotSame, ids_listed, place_of, program_apart, program_right, source_apart, source_ids, source_right, source_symbols}
use Rattle.listing_laws.proofs.OrderLemmas.{Pairs}

heads : {A : Type 0} (x y : A) (xs ys : List A) → x ∷ xs ≡ y ∷ ys → (x ≡ y) × (xs ≡ ys)
heads x y xs ys e = (cc, cc)

got_behind : (front rest : List BlockId) (id : BlockId) → slice_get (front ++ id ∷ rest) (length front) ≡ Some id
got_behind [] rest id = refl
got_behind (i ∷ front) rest id = got_behind front rest id

not_earlier : (n : ℕ) → nat_lt n n ≡ false
not_earlier n = grind (arith, nat_tests)

-- none stands twice, of blocks that have these kinds and numbers
once_from : (y : Types) (front ids : List BlockId) (before bs : List Block) → y.ids ≡ map (λ i. Some i) (front ++ ids) → map (λ b. id_of y.symbols b) bs ≡ map (λ i. Some i) ids
    → length before ≡ length front → Pairs NotSame (front ++ ids)
    → refusals_along (λ b. false) (λ before b. broken_if (is_block_twice y before b) b.line 22) (λ before b. b ∷ before) before bs ≡ []
once_from y front ids before [] whole same size apart = refl
once_from y front [] before (b ∷ bs) whole same size apart = absurd cc
once_from y front (id ∷ ids) before (b ∷ bs) whole same size apart =
    let parts = heads (id_of y.symbols b) (Some id) (map (λ b. id_of y.symbols b) bs) (map (λ i. Some i) ids) same in
    let place : place_of_block id y.ids ≡ Some (length front) = ap (place_of_block id) whole ∙ place_of (front ++ id ∷ ids) (length front) id apart (got_behind front ids id) in
    let once : is_block_twice y before b ≡ false =
    ap (λ (o : Option BlockId). is_earlier (option_and_then (λ d. place_of_block d y.ids) o) (length before)) parts.0
    ∙ ap (λ (o : Option ℕ). is_earlier o (length before)) place ∙ ap (nat_lt (length front)) size ∙ not_earlier (length front) in
    let group : (front ++ id ∷ []) ++ ids ≡ front ++ id ∷ ids = append_assoc front (id ∷ []) ids in
    let longer = length-append front (id ∷ []) in
    let more = once_from y (front ++ id ∷ []) ids (b ∷ before) bs (whole ∙ ap (map (λ i. Some i)) (sym group)) parts.1 (omega (arith, size, longer)) (subst (Pairs NotSame) (sym group) apart) in
    ap (λ (t : Bool). broken_if t b.line 22 ++ refusals_along (λ b. false) (λ before b. broken_if (is_block_twice y before b) b.line 22) (λ before b. b ∷ before) (b ∷ before) bs) once ∙ more

pub blocks_once : AreBlocksOnce
unfolding rule_22
blocks_once t symbols listed h =
    let p = program_in symbols t in
    let blocks : List Block = (listed_tree p).blocks in
    let y = types_of_source listed blocks in
    once_from y [] (program_ids p) [] blocks (source_ids listed blocks ∙ ids_listed listed p) (ap (λ (z : List Symbol). ids_of z blocks) (source_symbols listed blocks) ∙ ids_listed listed p) refl
    (program_apart t symbols (source_apart symbols t.blocks h))

-- none has a number beyond the limits
right_from : (symbols : List Symbol) (ids : List BlockId) (before bs : List Block) → map (λ b. id_of symbols b) bs ≡ map (λ i. Some i) ids → AllByRecursion IsRight ids
    → refusals_along (λ b. false) (λ before b. broken_if (has_wrong_number symbols b) b.line 44) (λ before b. b ∷ before) before bs ≡ []
right_from symbols ids before [] same right = refl
right_from symbols [] before (b ∷ bs) same right = absurd cc
right_from symbols (id ∷ ids) before (b ∷ bs) same right =
    let parts = heads (id_of symbols b) (Some id) (map (λ b. id_of symbols b) bs) (map (λ i. Some i) ids) same in
    let within : has_wrong_number symbols b ≡ false = ap is_number_beyond_limits parts.0 ∙ ap (λ (t : Bool). not t) right.0 in
    ap (λ (t : Bool). broken_if t b.line 44 ++ refusals_along (λ b. false) (λ before b. broken_if (has_wrong_number symbols b) b.line 44) (λ before b. b ∷ before) (b ∷ before) bs) within
    ∙ right_from symbols ids (b ∷ before) bs parts.1 right.1

pub numbers_right : AreNumbersRight
unfolding rule_44
numbers_right t symbols listed h =
    let p = program_in symbols t in
    right_from listed (program_ids p) [] (listed_tree p).blocks (ids_listed listed p) (program_right t symbols (source_right symbols t.blocks h))
