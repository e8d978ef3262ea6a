-- The table by which a block is found.
use Rattle.std.proofs.Common.{◌≡◌, ℕ, ◌+◌, ◌*◌, ◌<◌, ◌≤◌, Bool, true, false, cond, eqb, ltb, ◌&&◌, List, [], ◌∷◌, length, drop, get_or, set, slice_get, is_some, Option, Some, None, option_map, option_and_then, refl, sym, ap, ◌∙◌, arith}
use Rattle.std.proofs.lemmas.Bool.{eqb-true, eqb-false, eq-eqb, ltb-true, lt-ltb, and_parts}
use Rattle.std.proofs.lemmas.List.{get_or-set_same, get_or-set_other, length-set}
use Rattle.std.proofs.lemmas.Option.{same_Some, slice_get-get_or}
use Rattle.std.proofs.Math.ListN.{drop_of_length-le}
use Rattle.plc_base.specs.Kinds.{kind_order}
use Rattle.plc_base.specs.declared.blocks.BlockId.{BlockId}
use Rattle.plc_base.proofs.ListLemmas.{drop_next, get_past}
use Rattle.flat_code.specs.Programs.{CodeBlock}
use Rattle.image_file.specs.Readers.{is_same_id, block_by_id}
use Rattle.image_file.specs.Tables.{slots, slot_of, FindsBlocks, HaveSlots}

record HasSlot (id : BlockId) (slot : ℕ) : Type 0 where
  kind : kind_order id.kind < 3
  number : id.number < 2048
  is : slot ≡ 2048 * kind_order id.kind + id.number

has_slot : (id : BlockId) (slot : ℕ) → slot_of id ≡ Some slot → HasSlot id slot
has_slot id slot h = by (ltb (kind_order id.kind) 3 && ltb id.number 2048) refl h
  where
    by : (b : Bool) → (ltb (kind_order id.kind) 3 && ltb id.number 2048) ≡ b → cond b (Some (2048 * kind_order id.kind + id.number)) None ≡ Some slot → HasSlot id slot
    by false t e = absurd cc
    by true t e =
        let p = and_parts (ltb (kind_order id.kind) 3) (ltb id.number 2048) t in
        record { kind = ltb-true _ _ p.0; number = ltb-true _ _ p.1; is = sym (same_Some (2048 * kind_order id.kind + id.number) slot e) }

pub slot_small : (id : BlockId) (slot : ℕ) → slot_of id ≡ Some slot → slot < slots
slot_small id slot h = let p = has_slot id slot h in omega (arith, p.kind, p.number, p.is)

-- two blocks are the same where they have the same slot
same_slots : (a b : BlockId) (s t : ℕ) → HasSlot a s → HasSlot b t → s ≡ t → is_same_id a b ≡ true
same_slots a b s t p q e =
    let kind : kind_order a.kind ≡ kind_order b.kind = omega (arith, p.kind, p.number, p.is, q.kind, q.number, q.is, e) in
    let number : a.number ≡ b.number = omega (arith, p.kind, p.number, p.is, q.kind, q.number, q.is, e, kind) in
    rw (eq-eqb (kind_order a.kind) (kind_order b.kind) kind, eq-eqb a.number b.number number) refl

same_block_slots : (a b : BlockId) (s t : ℕ) → HasSlot a s → HasSlot b t → is_same_id a b ≡ true → s ≡ t
same_block_slots a b s t p q e =
    let parts = and_parts (eqb (kind_order a.kind) (kind_order b.kind)) (eqb a.number b.number) e in
    let kind = eqb-true (kind_order a.kind) (kind_order b.kind) parts.0 in
    let number = eqb-true a.number b.number parts.1 in
    omega (arith, kind, number, p.is, q.is)

no_slot : (a b : BlockId) (s : ℕ) → HasSlot b s → slot_of a ≡ None → is_same_id a b ≡ true → ⊥
no_slot a b s q none e =
    let parts = and_parts (eqb (kind_order a.kind) (kind_order b.kind)) (eqb a.number b.number) e in
    let kind : kind_order a.kind < 3 = let k = eqb-true (kind_order a.kind) (kind_order b.kind) parts.0 in omega (arith, k, q.kind) in
    let number : a.number < 2048 = let k = eqb-true a.number b.number parts.1 in omega (arith, k, q.number) in
    let there : slot_of a ≡ Some (2048 * kind_order a.kind + a.number) = rw (lt-ltb (kind_order a.kind) 3 kind, lt-ltb a.number 2048 number) refl in
    let both : ◌≡◌ {A = Option ℕ} None (Some (2048 * kind_order a.kind + a.number)) = sym none ∙ there in
    absurd cc

-- the table has the blocks from one on
pub record FindsFrom (blocks : List CodeBlock) (i : ℕ) (table : List ℕ) : Type 0 where
  pub size : length table ≡ slots
  pub there : (id : BlockId) (slot : ℕ) → slot_of id ≡ Some slot → slice_get blocks (get_or table slot 0) ≡ block_by_id id (drop i blocks)

pub finds_none : (blocks : List CodeBlock) (i : ℕ) (table : List ℕ) → length blocks ≤ i → length blocks ≤ 0xFFFF → length table ≡ slots → ((slot : ℕ) → slot < slots → get_or table slot 0 ≡ 0xFFFF) → FindsFrom blocks i table
finds_none blocks i table past few size all = record {
  size = size;
  there = λ id slot h.
      rw (all slot (slot_small id slot h)) (get_past blocks 0xFFFF few)
      ∙ sym (ap (block_by_id id) (drop_of_length-le blocks {i = i} past));
}

-- a block is put into the table, in its slot if it has one
pub finds_more : (blocks : List CodeBlock) (table : List ℕ) (i slot : ℕ) (b : CodeBlock) → i < length blocks → b ≡ get_or blocks i b → slot_of b.id ≡ Some slot → FindsFrom blocks (i + 1) table → FindsFrom blocks i (set table slot i)
finds_more blocks table i slot b lt is has h = record {
  size = length-set table slot i ∙ h.size;
  there = λ id s hs.
      let cut : drop i blocks ≡ b ∷ drop (i + 1) blocks = drop_next blocks i b lt is in
      by id s hs (eqb s slot) refl ∙ sym (ap (block_by_id id) cut);
}
  where
    mine : HasSlot b.id slot
    mine = has_slot b.id slot has

    by : (id : BlockId) (s : ℕ) → slot_of id ≡ Some s → (e : Bool) → eqb s slot ≡ e → slice_get blocks (get_or (set table slot i) s 0) ≡ block_by_id id (b ∷ drop (i + 1) blocks)
    by id s hs true e =
        let same : s ≡ slot = eqb-true s slot e in
        let within : slot < length table = let k = slot_small b.id slot has in omega (arith, k, h.size) in
        let there : get_or (set table slot i) s 0 ≡ i = ap (λ (k : ℕ). get_or (set table slot i) k 0) same ∙ get_or-set_same table slot i 0 within in
        let found : slice_get blocks i ≡ Some b = slice_get-get_or blocks i b lt ∙ ap (λ (z : CodeBlock). Some z) (sym is) in
        let this : is_same_id b.id id ≡ true = same_slots b.id id slot s mine (has_slot id s hs) (sym same) in
        rw (there, found, this) refl
    by id s hs false e =
        let other : get_or (set table slot i) s 0 ≡ get_or table s 0 = get_or-set_other table slot s i 0 (eqb-false s slot e) in
        let differs : is_same_id b.id id ≡ false = not_this (is_same_id b.id id) refl in
        rw (other, differs) (h.there id s hs)
      where
        not_this : (z : Bool) → is_same_id b.id id ≡ z → z ≡ false
        not_this false q = refl
        not_this true q = absurd (eqb-false s slot e (sym (same_block_slots b.id id slot s mine (has_slot id s hs) q)))

-- a block without slot stays out of the table, and is none that has a slot
pub finds_skip : (blocks : List CodeBlock) (table : List ℕ) (i : ℕ) (b : CodeBlock) → i < length blocks → b ≡ get_or blocks i b → slot_of b.id ≡ None → FindsFrom blocks (i + 1) table → FindsFrom blocks i table
finds_skip blocks table i b lt is none h = record {
  size = h.size;
  there = λ id s hs.
      let differs : is_same_id b.id id ≡ false = not_this id s hs (is_same_id b.id id) refl in
      h.there id s hs ∙ sym (ap (block_by_id id) (drop_next blocks i b lt is) ∙ rw differs refl);
}
  where
    not_this : (id : BlockId) (s : ℕ) → slot_of id ≡ Some s → (z : Bool) → is_same_id b.id id ≡ z → z ≡ false
    not_this id s hs false q = refl
    not_this id s hs true q = absurd (no_slot b.id id s (has_slot id s hs) none q)

pub finds_all : (blocks : List CodeBlock) (table : List ℕ) → FindsFrom blocks 0 table → FindsBlocks blocks table
finds_all blocks table h = record { size = h.size; there = h.there }

-- a block without slot isn't there
pub not_there : (id : BlockId) (blocks : List CodeBlock) → slot_of id ≡ None → HaveSlots blocks → block_by_id id blocks ≡ None
not_there id [] none h = refl
not_there id (b ∷ bs) none h = by (slot_of b.id) refl h.0 (not_there id bs none h.1)
  where
    by : (o : Option ℕ) → slot_of b.id ≡ o → is_some o ≡ true → block_by_id id bs ≡ None → cond (is_same_id b.id id) (Some b) (block_by_id id bs) ≡ None
    by None e t more = absurd cc
    by (Some s) e t more = rw (differs (is_same_id b.id id) refl) more
      where
        differs : (z : Bool) → is_same_id b.id id ≡ z → z ≡ false
        differs false q = refl
        differs true q = absurd (no_slot id b.id s (has_slot b.id s e) none (let p = and_parts (eqb (kind_order b.id.kind) (kind_order id.kind)) (eqb b.id.number id.number) q in rw (eq-eqb _ _ (sym (eqb-true _ _ p.0)), eq-eqb _ _ (sym (eqb-true _ _ p.1))) refl))

-- the block at the place that a table has for it
pub found_by : (id : BlockId) (blocks : List CodeBlock) (table : List ℕ) → FindsBlocks blocks table → HaveSlots blocks → option_and_then (λ place. slice_get blocks place) (option_map (λ slot. get_or table slot 0) (slot_of id)) ≡ block_by_id id blocks
found_by id blocks table finds have = by (slot_of id) refl
  where
    by : (o : Option ℕ) → slot_of id ≡ o → option_and_then (λ place. slice_get blocks place) (option_map (λ slot. get_or table slot 0) o) ≡ block_by_id id blocks
    by None e = sym (not_there id blocks e have)
    by (Some slot) e = finds.there id slot e
