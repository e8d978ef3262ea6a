-- Blocks by kind, number and name: the same kind and number is the same block, and a block that is
-- found stands at its place.
use Rattle.std.proofs.Common.{◌≡◌, ℕ, suc, Bool, true, false, List, [], ◌∷◌, Option, Some, None, refl, sym, ap, ◌∙◌, subst, nat_eq, if◌then◌else◌, eqb-true}
use Rattle.std.specs.Prelude.{slice_get}
use Rattle.std.specs.Option.{option_and_then, option_map}
use Rattle.plc_base.specs.Kinds.{is_same_kind, is_same_block}
use Rattle.plc_base.specs.declared.blocks.BlockId.{BlockId}
use Rattle.plc_base.specs.declared.blocks.BlockKind.{BlockKind}
use Rattle.plc_base.proofs.TruthLemmas.{and_first, and_second}
use Rattle.plc_base.specs.declared.blocks.BlockKind.TheVariants as kinds
use Rattle.stl_ast.specs.declared.blocks.Block.{Block}
use Rattle.stl_ast.specs.declared.names.BlockName.{BlockName}
use Rattle.stl_symbols.specs.Symbol.{Symbol}
use Rattle.block_layout.specs.Blocks.{id_of, named_block, of_kind, place_of_block, found_block, is_block_number, is_id, known_block}

-- ---- kinds

pub same_kind : (j k : BlockKind) → is_same_kind j k ≡ true → j ≡ k
same_kind kinds.Ob kinds.Ob h = refl
same_kind kinds.Fc kinds.Fc h = refl
same_kind kinds.Fb kinds.Fb h = refl
same_kind kinds.Db kinds.Db h = refl
same_kind kinds.Udt kinds.Udt h = refl
same_kind kinds.Sfc kinds.Sfc h = refl
same_kind j k h = absurd cc

-- a block has the kind of its head
pub kind_there : (symbols : List Symbol) (b : Block) (id : BlockId) → id_of symbols b ≡ Some id → b.kind ≡ id.kind
kind_there symbols b id e = by (named_block symbols b.name) e
  where
    whether : (i : BlockId) (t : Bool) → is_same_kind b.kind i.kind ≡ t → (if t then Some i else None) ≡ Some id → b.kind ≡ id.kind
    whether i true is e = let one : i ≡ id = cc in same_kind b.kind i.kind is ∙ ap (λ (x : BlockId). x.kind) one
    whether i false is e = absurd cc

    by : (o : Option BlockId) → of_kind (is_same_kind b.kind) o ≡ Some id → b.kind ≡ id.kind
    by None e = absurd cc
    by (Some i) e = whether i (is_same_kind b.kind i.kind) refl e

-- ---- numbers and names

pub same_block : (a b : BlockId) → is_same_block a b ≡ true → a ≡ b
same_block a b e =
    let kind : a.kind ≡ b.kind = same_kind a.kind b.kind (and_first (is_same_kind a.kind b.kind) (nat_eq a.number b.number) e) in
    let number : a.number ≡ b.number = eqb-true a.number b.number (and_second (is_same_kind a.kind b.kind) (nat_eq a.number b.number) e) in
    ap (λ (k : BlockKind). record { kind = k; number = a.number }) kind
    ∙ ap (λ (n : ℕ). record { kind = b.kind; number = n }) number

pub place_there : (id : BlockId) (ids : List (Option BlockId)) (k : ℕ) → place_of_block id ids ≡ Some k
    → slice_get ids k ≡ Some (Some id)
place_there id [] k e = absurd cc
place_there id (i ∷ is) k e = by (is_id id i) refl e (place_there id is)
  where
    some_same : (m n : ℕ) → Some m ≡ Some n → m ≡ n
    some_same m n h = cc

    first : (o : Option BlockId) → is_id id o ≡ true → Some o ≡ Some (Some id)
    first None h = absurd cc
    first (Some other) h = ap (λ (z : BlockId). Some (Some z)) (sym (same_block id other h))

    later : (o : Option ℕ) → option_map (λ k. suc k) o ≡ Some k
        → ((m : ℕ) → o ≡ Some m → slice_get is m ≡ Some (Some id))
        → slice_get (i ∷ is) k ≡ Some (Some id)
    later None h more = absurd cc
    later (Some m) h more =
        let same : suc m ≡ k = some_same (suc m) k h in
        subst (λ (n : ℕ). slice_get (i ∷ is) n ≡ Some (Some id)) same (more m refl)

    by : (t : Bool) → is_id id i ≡ t
        → (if t then Some 0 else option_map (λ k. suc k) (place_of_block id is)) ≡ Some k
        → ((m : ℕ) → place_of_block id is ≡ Some m → slice_get is m ≡ Some (Some id))
        → slice_get (i ∷ is) k ≡ Some (Some id)
    by true found h more =
        let same : 0 ≡ k = some_same 0 k h in
        subst (λ (n : ℕ). slice_get (i ∷ is) n ≡ Some (Some id)) same (first i found)
    by false other h more = later (place_of_block id is) h more

pub known_there : (id : BlockId) (ids : List (Option BlockId)) (k : ℕ) → known_block id ids ≡ Some k
    → slice_get ids k ≡ Some (Some id)
known_there id ids k e = by (is_block_number id.kind id.number) e
  where
    by : (t : Bool) → (if t then place_of_block id ids else None) ≡ Some k
        → slice_get ids k ≡ Some (Some id)
    by true h = place_there id ids k h
    by false h = absurd cc

-- a block that is found has one of the kinds that are looked for
pub record IsFoundBlock (ids : List (Option BlockId)) (kinds : BlockKind → Bool) (k : ℕ) : Type 0 where
  pub id : BlockId
  pub there : slice_get ids k ≡ Some (Some id)
  pub kind : kinds id.kind ≡ true

pub found_there : (symbols : List Symbol) (ids : List (Option BlockId)) (kinds : BlockKind → Bool)
    (name : BlockName) (k : ℕ) → found_block symbols ids kinds name ≡ Some k
    → IsFoundBlock ids kinds k
found_there symbols ids kinds name k e = by (named_block symbols name) e
  where
    whether : (id : BlockId) (t : Bool) → kinds id.kind ≡ t
        → option_and_then (λ id. known_block id ids) (if t then Some id else None) ≡ Some k
        → IsFoundBlock ids kinds k
    whether id true is h = record { id = id; there = known_there id ids k h; kind = is }
    whether id false is h = absurd cc

    by : (o : Option BlockId)
        → option_and_then (λ id. known_block id ids) (of_kind kinds o) ≡ Some k
        → IsFoundBlock ids kinds k
    by None h = absurd cc
    by (Some id) h = whether id (kinds id.kind) refl h
