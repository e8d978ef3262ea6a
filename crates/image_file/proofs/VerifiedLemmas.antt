-- What a program that verifies gives.
use Rattle.std.proofs.Common.{◌≡◌, ◌⊎◌, ℕ, zero, suc, ◌+◌, ◌-◌, ◌<◌, ◌≤◌, Bool, true, false, cond, eqb, leb, not, List, [], ◌∷◌, ◌++◌, length, map, take, drop, slice_get, length-append, Option, Some, None, refl, sym, ap, subst, ◌∙◌, arith, inl, inr}
use Rattle.std.proofs.lemmas.Bool.{and_parts, eqb-true, eqb-false, eq-eqb, ne_eqb, le-leb, cases_lt}
use Rattle.std.proofs.lemmas.Option.{same_Some}
use Rattle.plc_base.proofs.ListLemmas.{nil_parts}
use Rattle.flat_code.specs.declared.image_fields.OpenBracket.{OpenBracket}
use Rattle.flat_code.specs.Ops.{OpData, op_bytes}
use Rattle.flat_code.specs.Codes.{size_of_op, ends_by_be, overlong_statement}
use Rattle.flat_code.specs.OpCodes.{op_code_of}
use Rattle.flat_code.specs.declared.operations.EndOperation.TheVariants as end
use Rattle.flat_code.specs.declared.operations.Operation.TheVariants as operation
use Rattle.flat_code.specs.declared.operations.RelayOperation.TheVariants as relay
use Rattle.flat_code.specs.Programs.{CodeBlock, Program}
use Rattle.flat_code.specs.Records.{BlockRecord}
use Rattle.flat_code.specs.Image.{record_of_block, end_marks}
use Rattle.flat_code.specs.Loading.{AreVerified, lens_of, environment_of_block}
use Rattle.flat_code.specs.PlacedOps.{PlacedOp, ops_placed, code_places, op_placed, line_placed, begins_its_statement, is_empty_list, most_brackets, most_zones, StatementStart, starts_of_statements, is_opening, outer_brackets, brackets_after, zones_behind_op, open_behind, zones_left, before_next}
use Rattle.flat_code.specs.Blocks.{Environment, operand_fault, call_fault, mark_fault, bracket_fault, zone_fault, at_offset, op_faults, faults_over, open_faults, open_zone_faults, block_faults, prepares_statement, seven_if}
use Rattle.image_file.specs.Readers.{is_same_id, block_by_id}
use Rattle.image_file.specs.VerifiedProgram.{placed_op_at, IsVerifiedOp, HasNext, BracketsAreRight, ZonesAreRight, StatementIsRight, HasLine}

-- ---- no fault of a block is none of its ops

pub option_by_test : {A : Type 0} (b : Bool) (x : A) (o : Option A) (y : A) → cond b (Some x) o ≡ Some y → (P : Type 0) → (b ≡ true → x ≡ y → P) → (b ≡ false → o ≡ Some y → P) → P
option_by_test true x o y e P f g = f refl (same_Some x y e)
option_by_test false x o y e P f g = g refl e

none_here : (at : ℕ) (o : Option ℕ) → at_offset at o ≡ [] → o ≡ None
none_here at None e = refl
none_here at (Some code) e = absurd cc

-- an op without fault
pub record NoFault (a : Environment) (ss : List StatementStart) (q : PlacedOp) : Type 0 where
  pub operand : operand_fault a ss q q.op.operand ≡ None
  pub call : call_fault a a.data_lens q ≡ None
  pub mark : mark_fault q.op ≡ None
  pub bracket : bracket_fault q.op.code q.brackets ≡ None
  pub zone : zone_fault q.op.code q.zones ≡ None

no_fault : (a : Environment) (ss : List StatementStart) (start : ℕ) (q : PlacedOp) → op_faults a ss start q ≡ [] → NoFault a ss q
unfolding op_faults
no_fault a ss start q none =
    let at = start + q.at in
    let one = at_offset at (operand_fault a ss q q.op.operand) in
    let two = at_offset at (call_fault a a.data_lens q) in
    let three = at_offset at (mark_fault q.op) in
    let four = at_offset at (bracket_fault q.op.code q.brackets) in
    let five = at_offset at (zone_fault q.op.code q.zones) in
    let w = nil_parts (one ++ two ++ three ++ four) five none in
    let x = nil_parts (one ++ two ++ three) four w.0 in
    let y = nil_parts (one ++ two) three x.0 in
    let z = nil_parts one two y.0 in
    record {
      operand = none_here at (operand_fault a ss q q.op.operand) z.0;
      call = none_here at (call_fault a a.data_lens q) z.1;
      mark = none_here at (mark_fault q.op) y.1;
      bracket = none_here at (bracket_fault q.op.code q.brackets) x.1;
      zone = none_here at (zone_fault q.op.code q.zones) w.1;
    }

each : (a : Environment) (ss : List StatementStart) (start : ℕ) (rest : List PlacedOp) (at : ℕ) (q : PlacedOp) → faults_over a ss start rest ≡ [] → placed_op_at at rest ≡ Some q → op_faults a ss start q ≡ []
each a ss start [] at q none found = absurd cc
each a ss start (p ∷ rest) at q none found =
    let n = nil_parts (op_faults a ss start p) (faults_over a ss start rest) none in
    option_by_test (eqb p.at at) p (placed_op_at at rest) q found (op_faults a ss start q ≡ [])
    (λ t e. subst (λ (z : PlacedOp). op_faults a ss start z ≡ []) e n.0)
    (λ f e. each a ss start rest at q n.1 e)

-- what surrounds a block of a program
abbrev pub environment_in : Program → CodeBlock → Environment
environment_in p b = environment_of_block (Some (lens_of p.data_blocks)) (map record_of_block p.code_blocks) (record_of_block b)

verified_at : (lens : List (ℕ × ℕ)) (all : List BlockRecord) (bs : List CodeBlock) (b : CodeBlock) (id : _) → AreVerified lens all (map record_of_block bs) → block_by_id id bs ≡ Some b → block_faults (environment_of_block (Some lens) all (record_of_block b)) 0 b.code ≡ []
verified_at lens all [] b id h found = absurd cc
verified_at lens all (c ∷ bs) b id h found =
    option_by_test (is_same_id c.id id) c (block_by_id id bs) b found (block_faults (environment_of_block (Some lens) all (record_of_block b)) 0 b.code ≡ [])
    (λ t e. subst (λ (z : CodeBlock). block_faults (environment_of_block (Some lens) all (record_of_block z)) 0 z.code ≡ []) e h.0)
    (λ f e. verified_at lens all bs b id h.1 e)

-- the parts of a block without fault
record NoneIn (a : Environment) (ops : List OpData) : Type 0 where
  over : faults_over a (starts_of_statements ops) 0 (code_places ops) ≡ []
  ends : open_behind 0 [] ops ≡ []
  zones_end : zones_left 0 [] ops ≡ []

none_open : (start : ℕ) (bs : List OpenBracket) → open_faults start bs ≡ [] → bs ≡ []
none_open start [] e = refl
none_open start (b ∷ bs) e = absurd cc

no_zone_open : (start : ℕ) (zones : List ℕ) → open_zone_faults start zones ≡ [] → zones ≡ []
no_zone_open start [] e = refl
no_zone_open start (at ∷ zones) e = absurd cc

none_in : (a : Environment) (ops : List OpData) → block_faults a 0 ops ≡ [] → NoneIn a ops
unfolding block_faults
none_in a ops e =
    let m = nil_parts (faults_over a (starts_of_statements ops) 0 (code_places ops) ++ open_faults 0 (open_behind 0 [] ops)) (open_zone_faults 0 (zones_left 0 [] ops)) e in
    let n = nil_parts (faults_over a (starts_of_statements ops) 0 (code_places ops)) (open_faults 0 (open_behind 0 [] ops)) m.0 in
    record { over = n.0; ends = none_open 0 (open_behind 0 [] ops) n.1; zones_end = no_zone_open 0 (zones_left 0 [] ops) m.1 }

none_of : (p : Program) (b : CodeBlock) (q : PlacedOp) → IsVerifiedOp p b q → NoneIn (environment_in p b) b.code
none_of p b q h = none_in (environment_in p b) b.code (verified_at (lens_of p.data_blocks) (map record_of_block p.code_blocks) p.code_blocks b h.id h.verifies.blocks h.block)

pub op_none : (p : Program) (b : CodeBlock) (q : PlacedOp) → IsVerifiedOp p b q → NoFault (environment_in p b) (starts_of_statements b.code) q
op_none p b q h = no_fault (environment_in p b) (starts_of_statements b.code) 0 q (each (environment_in p b) (starts_of_statements b.code) 0 (code_places b.code) q.at q (none_of p b q h).over h.place)

-- ---- the readers' op is the one in its place

pub read_at : (from : ℕ) (brackets : List OpenBracket) (zones : List ℕ) (before ops : List OpData) (at : ℕ) (op : OpData) (next : ℕ) → op_placed from ops at ≡ Some (op, next) → (q : PlacedOp) × (placed_op_at at (ops_placed from brackets zones before ops) ≡ Some q) × (q.at ≡ at) × (q.op ≡ op) × (next ≡ at + size_of_op op)
read_at from brackets zones before [] at op next e = absurd cc
read_at from brackets zones before (o ∷ ops) at op next e = by (eqb from at) refl e (λ h. read_at (from + size_of_op o) (brackets_after from o.code brackets) (zones_behind_op from o.code zones) (before_next o before) ops at op next h)
  where
    here : PlacedOp
    here = record { at = from; brackets = brackets; zones = zones; before = before; op = o; rest = ops }

    by : (b : Bool) → eqb from at ≡ b → cond b (Some (o, from + size_of_op o)) (op_placed (from + size_of_op o) ops at) ≡ Some (op, next)
        → (op_placed (from + size_of_op o) ops at ≡ Some (op, next) → (q : PlacedOp) × (placed_op_at at (ops_placed (from + size_of_op o) (brackets_after from o.code brackets) (zones_behind_op from o.code zones) (before_next o before) ops) ≡ Some q) × (q.at ≡ at) × (q.op ≡ op) × (next ≡ at + size_of_op op))
        → (q : PlacedOp) × (cond b (Some here) (placed_op_at at (ops_placed (from + size_of_op o) (brackets_after from o.code brackets) (zones_behind_op from o.code zones) (before_next o before) ops)) ≡ Some q) × (q.at ≡ at) × (q.op ≡ op) × (next ≡ at + size_of_op op)
    by true t f more =
        let s = same_Some (o, from + size_of_op o) (op, next) f in
        let same : o ≡ op = ap (λ (z : OpData × ℕ). z.0) s in
        let here_at : from ≡ at = eqb-true from at t in
        let after : from + size_of_op o ≡ next = ap (λ (z : OpData × ℕ). z.1) s in
        (here, refl, here_at, same, sym after ∙ ap (λ (k : ℕ). k + size_of_op o) here_at ∙ ap (λ (z : OpData). at + size_of_op z) same)
    by false t f more = more f

-- ---- places follow each other

pub op_long : (op : OpData) → 0 < size_of_op op
unfolding size_of_op op_bytes
op_long op = omega arith

-- no op of code begins before it
not_before : (from : ℕ) (brackets : List OpenBracket) (zones : List ℕ) (before ops : List OpData) (at : ℕ) → at < from → placed_op_at at (ops_placed from brackets zones before ops) ≡ None
not_before from brackets zones before [] at lt = refl
not_before from brackets zones before (op ∷ ops) at lt =
    let other : eqb from at ≡ false = ne_eqb from at (λ e. omega (arith, e, lt)) in
    let p = op_long op in
    rw other (not_before (from + size_of_op op) (brackets_after from op.code brackets) (zones_behind_op from op.code zones) (before_next op before) ops at (omega (arith, lt, p)))

place_is : (from : ℕ) (brackets : List OpenBracket) (zones : List ℕ) (before ops : List OpData) (at : ℕ) (q : PlacedOp) → placed_op_at at (ops_placed from brackets zones before ops) ≡ Some q → from ≤ at
place_is from brackets zones before ops at q found = by (cases_lt at from)
  where
    by : (at < from) ⊎ (from ≤ at) → from ≤ at
    by (inl lt) = let e : ◌≡◌ {A = Option PlacedOp} None (Some q) = sym (not_before from brackets zones before ops at lt) ∙ found in absurd cc
    by (inr le) = le

-- behind an op stands the next one of its list
abbrev pub NextIn : List PlacedOp → PlacedOp → List OpData → Type 0
NextIn ps q [] = Unit {0}
NextIn ps q (op ∷ ops) = placed_op_at (q.at + size_of_op q.op) ps ≡ Some (record { at = q.at + size_of_op q.op; brackets = brackets_after q.at q.op.code q.brackets; zones = zones_behind_op q.at q.op.code q.zones; before = before_next q.op q.before; op = op; rest = ops })

pub place_offset : (qs : List PlacedOp) (at : ℕ) (q : PlacedOp) → placed_op_at at qs ≡ Some q → q.at ≡ at
place_offset [] at q found = absurd cc
place_offset (p ∷ qs) at q found =
    option_by_test (eqb p.at at) p (placed_op_at at qs) q found (q.at ≡ at)
    (λ t e. sym (ap (λ (z : PlacedOp). z.at) e) ∙ eqb-true p.at at t)
    (λ f e. place_offset qs at q e)

next_in : (from : ℕ) (brackets : List OpenBracket) (zones : List ℕ) (before ops : List OpData) (at : ℕ) (q : PlacedOp) → placed_op_at at (ops_placed from brackets zones before ops) ≡ Some q → NextIn (ops_placed from brackets zones before ops) q q.rest
next_in from brackets zones before [] at q found = absurd cc
next_in from brackets zones before (o ∷ ops) at q found =
    option_by_test (eqb from at) here behind q found (NextIn (ops_placed from brackets zones before (o ∷ ops)) q q.rest)
    (λ t e. subst (λ (z : PlacedOp). NextIn (ops_placed from brackets zones before (o ∷ ops)) z z.rest) e (first ops))
    (λ f e. later q.rest (next_in (from + size_of_op o) (brackets_after from o.code brackets) (zones_behind_op from o.code zones) (before_next o before) ops at q e) (place_is (from + size_of_op o) (brackets_after from o.code brackets) (zones_behind_op from o.code zones) (before_next o before) ops at q e) (place_offset (ops_placed (from + size_of_op o) (brackets_after from o.code brackets) (zones_behind_op from o.code zones) (before_next o before) ops) at q e))
  where
    here : PlacedOp
    here = record { at = from; brackets = brackets; zones = zones; before = before; op = o; rest = ops }

    behind : Option PlacedOp
    behind = placed_op_at at (ops_placed (from + size_of_op o) (brackets_after from o.code brackets) (zones_behind_op from o.code zones) (before_next o before) ops)

    first : (rest : List OpData) → NextIn (ops_placed from brackets zones before (o ∷ rest)) (record { at = from; brackets = brackets; zones = zones; before = before; op = o; rest = rest }) rest
    first [] = tt
    first (n ∷ rest) =
        let p = op_long o in
        let other : eqb from (from + size_of_op o) ≡ false = ne_eqb from (from + size_of_op o) (λ e. omega (arith, e, p)) in
        rw (other, eq-eqb (from + size_of_op o) (from + size_of_op o) refl) refl

    later : (rest : List OpData) → NextIn (ops_placed (from + size_of_op o) (brackets_after from o.code brackets) (zones_behind_op from o.code zones) (before_next o before) ops) q rest → from + size_of_op o ≤ at → q.at ≡ at → NextIn (ops_placed from brackets zones before (o ∷ ops)) q rest
    later [] h le is = tt
    later (n ∷ rest) h le is =
        let p = op_long o in
        let other : eqb from (q.at + size_of_op q.op) ≡ false = ne_eqb from (q.at + size_of_op q.op) (λ e. omega (arith, e, le, is, p)) in
        rw other h

pub goes_on : (ops : List OpData) (q : PlacedOp) → placed_op_at q.at (code_places ops) ≡ Some q → NextIn (code_places ops) q q.rest
goes_on ops q found = next_in 0 [] [] [] ops q.at q found

-- ---- the last op

-- what stands behind an op is what the whole comes to
record Same (from : ℕ) (brackets : List OpenBracket) (zones : List ℕ) (ops : List OpData) (q : PlacedOp) : Type 0 where
  open_same : open_behind from brackets ops ≡ open_behind (q.at + size_of_op q.op) (brackets_after q.at q.op.code q.brackets) q.rest
  left_same : zones_left from zones ops ≡ zones_left (q.at + size_of_op q.op) (zones_behind_op q.at q.op.code q.zones) q.rest
  ends_same : ends_by_be ops ≡ ends_by_be (q.op ∷ q.rest)

same_behind : (from : ℕ) (brackets : List OpenBracket) (zones : List ℕ) (before ops : List OpData) (at : ℕ) (q : PlacedOp) → placed_op_at at (ops_placed from brackets zones before ops) ≡ Some q → Same from brackets zones ops q
same_behind from brackets zones before [] at q found = absurd cc
same_behind from brackets zones before (o ∷ []) at q found =
    option_by_test (eqb from at) (record { at = from; brackets = brackets; zones = zones; before = before; op = o; rest = [] }) None q found (Same from brackets zones (o ∷ []) q)
    (λ t e. subst (λ (z : PlacedOp). Same from brackets zones (o ∷ []) z) e (record { open_same = refl; left_same = refl; ends_same = refl }))
    (λ f e. absurd cc)
same_behind from brackets zones before (o ∷ n ∷ ops) at q found =
    option_by_test (eqb from at) (record { at = from; brackets = brackets; zones = zones; before = before; op = o; rest = n ∷ ops }) (placed_op_at at (ops_placed (from + size_of_op o) (brackets_after from o.code brackets) (zones_behind_op from o.code zones) (before_next o before) (n ∷ ops))) q found (Same from brackets zones (o ∷ n ∷ ops) q)
    (λ t e. subst (λ (z : PlacedOp). Same from brackets zones (o ∷ n ∷ ops) z) e (record { open_same = refl; left_same = refl; ends_same = refl }))
    (λ f e. let more = same_behind (from + size_of_op o) (brackets_after from o.code brackets) (zones_behind_op from o.code zones) (before_next o before) (n ∷ ops) at q e in record { open_same = more.open_same; left_same = more.left_same; ends_same = more.ends_same })

last_brackets : (at code : ℕ) (brackets : List OpenBracket) → code ≡ op_code_of (operation.End end.Be) → brackets_after at code brackets ≡ [] → brackets ≡ []
last_brackets at code brackets is none = rw is at none

last_zones : (at code : ℕ) (zones : List ℕ) → code ≡ op_code_of (operation.End end.Be) → zones_behind_op at code zones ≡ [] → zones ≡ []
last_zones at code zones is none = rw is at none

pub next_of_op : (p : Program) (b : CodeBlock) (q : PlacedOp) → ends_by_be b.code ≡ true → IsVerifiedOp p b q → (rest : List OpData) → q.rest ≡ rest → HasNext b q rest
next_of_op p b q ended h [] is =
    let same = same_behind 0 [] [] [] b.code q.at q h.place in
    let last : ends_by_be (q.op ∷ []) ≡ true = ap (λ (z : List OpData). ends_by_be (q.op ∷ z)) (sym is) ∙ sym same.ends_same ∙ ended in
    let be = op_code_of (operation.End end.Be) in
    let parts = and_parts (eqb q.op.code be) q.op.last last in
    let code : q.op.code ≡ be = eqb-true q.op.code be parts.0 in
    let none : brackets_after q.at q.op.code q.brackets ≡ [] = sym (ap (open_behind (q.at + size_of_op q.op) (brackets_after q.at q.op.code q.brackets)) is) ∙ sym same.open_same ∙ (none_of p b q h).ends in
    let no_zone : zones_behind_op q.at q.op.code q.zones ≡ [] = sym (ap (zones_left (q.at + size_of_op q.op) (zones_behind_op q.at q.op.code q.zones)) is) ∙ sym same.left_same ∙ (none_of p b q h).zones_end in
    (code, parts.1, last_brackets q.at q.op.code q.brackets code none, last_zones q.at q.op.code q.zones code no_zone)
next_of_op p b q ended h (op ∷ ops) is = subst (λ (z : List OpData). NextIn (code_places b.code) q z) is (goes_on b.code q h.place)

-- ---- brackets and zones

length_take : {A : Type 0} (n : ℕ) (xs : List A) → length (take n xs) ≤ length xs
length_take zero xs = omega arith
length_take (suc n) [] = omega arith
length_take (suc n) (x ∷ xs) = let more = length_take n xs in omega (arith, more)

room_by : (b : Bool) → cond {A = Option ℕ} b (Some 8) None ≡ None → b ≡ false
room_by true e = absurd cc
room_by false e = refl

room_below : (most n : ℕ) → cond {A = Option ℕ} (leb most n) (Some 8) None ≡ None → n < most
room_below most n none = by (cases_lt n most)
  where
    by : (n < most) ⊎ (most ≤ n) → n < most
    by (inl lt) = lt
    by (inr le) = let t = le-leb most n le in let f : true ≡ false = sym t ∙ room_by (leb most n) none in absurd cc

room_for : (code : ℕ) (brackets : List OpenBracket) → bracket_fault code brackets ≡ None → is_opening code ≡ true → length brackets < most_brackets
room_for code brackets none open_one = room_below most_brackets (length brackets) (rw open_one at none)

few_opened : (at code : ℕ) (brackets : List OpenBracket) → bracket_fault code brackets ≡ None → length brackets ≤ most_brackets → length (brackets_after at code brackets) ≤ most_brackets
few_opened at code brackets none most = by (is_opening code) refl
  where
    by_close : (c : Bool) → length (cond c (outer_brackets brackets) brackets) ≤ most_brackets
    by_close true = let l = length_take (length brackets - 1) brackets in omega (arith, l, most)
    by_close false = most

    by : (b : Bool) → is_opening code ≡ b → length (cond b (brackets ++ record { at = at; code = code } ∷ []) (cond (eqb code (op_code_of operation.Unnest)) (outer_brackets brackets) brackets)) ≤ most_brackets
    by true e = let room = room_for code brackets none e in let l = length-append brackets (record { at = at; code = code } ∷ []) in omega (arith, room, l)
    by false e = by_close (eqb code (op_code_of operation.Unnest))

few_at : (a : Environment) (ss : List StatementStart) (from : ℕ) (brackets : List OpenBracket) (zones : List ℕ) (before ops : List OpData) (at : ℕ) (q : PlacedOp) → faults_over a ss 0 (ops_placed from brackets zones before ops) ≡ [] → length brackets ≤ most_brackets → placed_op_at at (ops_placed from brackets zones before ops) ≡ Some q → length q.brackets ≤ most_brackets
few_at a ss from brackets zones before [] at q none most found = absurd cc
few_at a ss from brackets zones before (o ∷ ops) at q none most found =
    let here : PlacedOp = record { at = from; brackets = brackets; zones = zones; before = before; op = o; rest = ops } in
    let n = nil_parts (op_faults a ss 0 here) (faults_over a ss 0 (ops_placed (from + size_of_op o) (brackets_after from o.code brackets) (zones_behind_op from o.code zones) (before_next o before) ops)) none in
    option_by_test (eqb from at) here (placed_op_at at (ops_placed (from + size_of_op o) (brackets_after from o.code brackets) (zones_behind_op from o.code zones) (before_next o before) ops)) q found (length q.brackets ≤ most_brackets)
    (λ t e. subst (λ (z : PlacedOp). length z.brackets ≤ most_brackets) e most)
    (λ f e. few_at a ss (from + size_of_op o) (brackets_after from o.code brackets) (zones_behind_op from o.code zones) (before_next o before) ops at q n.1 (few_opened from o.code brackets (no_fault a ss 0 here n.0).bracket most) e)

there_by : (code : ℕ) (brackets : List OpenBracket) → bracket_fault code brackets ≡ None → code ≡ op_code_of operation.Unnest → 0 < length brackets
there_by code [] none is = let e : ◌≡◌ {A = Option ℕ} (Some 8) None = rw is at none in absurd cc
there_by code (b ∷ bs) none is = omega arith

pub brackets_right : (p : Program) (b : CodeBlock) (q : PlacedOp) → IsVerifiedOp p b q → BracketsAreRight q
brackets_right p b q h =
    let none = op_none p b q h in
    record {
      few = few_at (environment_in p b) (starts_of_statements b.code) 0 [] [] [] b.code q.at q (none_of p b q h).over (omega arith) h.place;
      room = λ e. room_for q.op.code q.brackets none.bracket e;
      there = λ e. there_by q.op.code q.brackets none.bracket e;
    }

few_zones_behind : (at code : ℕ) (zones : List ℕ) → zone_fault code zones ≡ None → length zones ≤ most_zones → length (zones_behind_op at code zones) ≤ most_zones
few_zones_behind at code zones none most = by (eqb code (op_code_of (operation.Relay relay.Open))) refl
  where
    by_close : (c : Bool) → length (cond c (take (length zones - 1) zones) zones) ≤ most_zones
    by_close true = let l = length_take (length zones - 1) zones in omega (arith, l, most)
    by_close false = most

    by : (b : Bool) → eqb code (op_code_of (operation.Relay relay.Open)) ≡ b → length (cond b (zones ++ at ∷ []) (cond (eqb code (op_code_of (operation.Relay relay.Close))) (take (length zones - 1) zones) zones)) ≤ most_zones
    by true e = let room = room_below most_zones (length zones) (rw e at none) in let l = length-append zones (at ∷ []) in omega (arith, room, l)
    by false e = by_close (eqb code (op_code_of (operation.Relay relay.Close)))

few_zones_at : (a : Environment) (ss : List StatementStart) (from : ℕ) (brackets : List OpenBracket) (zones : List ℕ) (before ops : List OpData) (at : ℕ) (q : PlacedOp) → faults_over a ss 0 (ops_placed from brackets zones before ops) ≡ [] → length zones ≤ most_zones → placed_op_at at (ops_placed from brackets zones before ops) ≡ Some q → length q.zones ≤ most_zones
few_zones_at a ss from brackets zones before [] at q none most found = absurd cc
few_zones_at a ss from brackets zones before (o ∷ ops) at q none most found =
    let here : PlacedOp = record { at = from; brackets = brackets; zones = zones; before = before; op = o; rest = ops } in
    let n = nil_parts (op_faults a ss 0 here) (faults_over a ss 0 (ops_placed (from + size_of_op o) (brackets_after from o.code brackets) (zones_behind_op from o.code zones) (before_next o before) ops)) none in
    option_by_test (eqb from at) here (placed_op_at at (ops_placed (from + size_of_op o) (brackets_after from o.code brackets) (zones_behind_op from o.code zones) (before_next o before) ops)) q found (length q.zones ≤ most_zones)
    (λ t e. subst (λ (z : PlacedOp). length z.zones ≤ most_zones) e most)
    (λ f e. few_zones_at a ss (from + size_of_op o) (brackets_after from o.code brackets) (zones_behind_op from o.code zones) (before_next o before) ops at q n.1 (few_zones_behind from o.code zones (no_fault a ss 0 here n.0).zone most) e)

zone_room : (code : ℕ) (zones : List ℕ) → zone_fault code zones ≡ None → code ≡ op_code_of (operation.Relay relay.Open) → length zones < most_zones
zone_room code zones none is = room_below most_zones (length zones) (rw is at none)

zone_there : (code : ℕ) (zones : List ℕ) → zone_fault code zones ≡ None → code ≡ op_code_of (operation.Relay relay.Close) → 0 < length zones
zone_there code [] none is = let e : ◌≡◌ {A = Option ℕ} (Some 8) None = rw is at none in absurd cc
zone_there code (at ∷ zones) none is = omega arith

pub zones_right : (p : Program) (b : CodeBlock) (q : PlacedOp) → IsVerifiedOp p b q → ZonesAreRight q
zones_right p b q h =
    let none = op_none p b q h in
    record {
      few = few_zones_at (environment_in p b) (starts_of_statements b.code) 0 [] [] [] b.code q.at q (none_of p b q h).over (omega arith) h.place;
      room = λ e. zone_room q.op.code q.zones none.zone e;
      there = λ e. zone_there q.op.code q.zones none.zone e;
    }

-- ---- statements

few_next : (op : OpData) (before : List OpData) → length (before_next op before) ≡ cond op.last 0 (suc (length before))
few_next op before = by op.last
  where
    by : (b : Bool) → length (cond b [] (before ++ op ∷ [])) ≡ cond b 0 (suc (length before))
    by true = refl
    by false = length-append before (op ∷ []) ∙ omega arith

pub none_if : (b : Bool) (from : ℕ) (more : Option ℕ) → cond b (Some from) more ≡ None → (b ≡ false) × (more ≡ None)
none_if true from more e = absurd cc
none_if false from more e = (refl, e)

few_before : (from : ℕ) (brackets : List OpenBracket) (zones : List ℕ) (before ops : List OpData) (at : ℕ) (q : PlacedOp) → overlong_statement (length before) from ops ≡ None → length before ≤ 64 → placed_op_at at (ops_placed from brackets zones before ops) ≡ Some q → length q.before < 64
few_before from brackets zones before [] at q none most found = absurd cc
few_before from brackets zones before (o ∷ ops) at q none most found =
    let n = none_if (eqb (length before) 64) from (overlong_statement (cond o.last 0 (suc (length before))) (from + size_of_op o) ops) none in
    let lt : length before < 64 = let ne = eqb-false (length before) 64 n.0 in grind (arith, ne, most) in
    let next = few_next o before in
    let more : overlong_statement (length (before_next o before)) (from + size_of_op o) ops ≡ None = ap (λ (k : ℕ). overlong_statement k (from + size_of_op o) ops) next ∙ n.1 in
    option_by_test (eqb from at) (record { at = from; brackets = brackets; zones = zones; before = before; op = o; rest = ops }) (placed_op_at at (ops_placed (from + size_of_op o) (brackets_after from o.code brackets) (zones_behind_op from o.code zones) (before_next o before) ops)) q found (length q.before < 64)
    (λ t e. subst (λ (z : PlacedOp). length z.before < 64) e lt)
    (λ f e. few_before (from + size_of_op o) (brackets_after from o.code brackets) (zones_behind_op from o.code zones) (before_next o before) ops at q more (most_next o.last next lt) e)
  where
    most_next : (b : Bool) → length (before_next o before) ≡ cond b 0 (suc (length before)) → length before < 64 → length (before_next o before) ≤ 64
    most_next true e lt = omega (arith, e)
    most_next false e lt = omega (arith, e, lt)

ended_by : (code : ℕ) (last : Bool) → seven_if (cond (prepares_statement code) last (not last)) ≡ None → last ≡ not (prepares_statement code)
ended_by code last none = by (prepares_statement code) last none
  where
    by : (p l : Bool) → seven_if (cond p l (not l)) ≡ None → l ≡ not p
    by true true e = absurd cc
    by true false e = refl
    by false true e = refl
    by false false e = absurd cc

pub statement_right : (p : Program) (b : CodeBlock) (q : PlacedOp) → overlong_statement 0 0 b.code ≡ None → IsVerifiedOp p b q → StatementIsRight q
statement_right p b q none h = record {
  few = few_before 0 [] [] [] b.code q.at q none (omega arith) h.place;
  ended = ended_by q.op.code q.op.last (op_none p b q h).mark;
}

-- ---- lines

mark_there : (ops : List OpData) → ends_by_be ops ≡ true → 0 < end_marks ops
mark_there [] e = absurd cc
mark_there (o ∷ []) e = let last = (and_parts (eqb o.code 0x7B) o.last e).1 in rw last (omega arith)
mark_there (o ∷ n ∷ ops) e = let more = mark_there (n ∷ ops) e in omega (arith, more)

first_line : (lines : List ℕ) → 0 < length lines → (line : ℕ) × (slice_get lines 0 ≡ Some line)
first_line [] lt = absurd (omega (arith, lt))
first_line (line ∷ lines) lt = (line, refl)

pub empty_next : (op : OpData) (before : List OpData) → is_empty_list (before_next op before) ≡ op.last
empty_next op before = by op.last before
  where
    by : (b : Bool) (xs : List OpData) → is_empty_list (cond b [] (xs ++ op ∷ [])) ≡ b
    by true xs = refl
    by false [] = refl
    by false (x ∷ xs) = refl

line_room : (last : Bool) (marks : ℕ) (lines : List ℕ) → cond last 1 0 + marks ≤ length lines → marks ≤ length (cond last (drop 1 lines) lines)
line_room true marks [] le = absurd (omega (arith, le))
line_room true marks (line ∷ lines) le = omega (arith, le)
line_room false marks lines le = omega (arith, le)

abbrev HasLineAt : ℕ → Bool → List OpData → List ℕ → ℕ → Type 0
HasLineAt from begin ops lines at = (line : ℕ) × (line_placed from begin ops lines at ≡ Some line)

line_here : (from : ℕ) (begin : Bool) (o : OpData) (ops : List OpData) (lines : List ℕ) (at : ℕ) → ends_by_be (o ∷ ops) ≡ true → end_marks (o ∷ ops) ≤ length lines → eqb from at ≡ true → begin ≡ true → HasLineAt from begin (o ∷ ops) lines at
line_here from begin o ops lines at ended most t is =
    let mark = mark_there (o ∷ ops) ended in
    let l = first_line lines (omega (arith, mark, most)) in
    (l.0, rw (t, is) l.1)

line_later : (from : ℕ) (begin : Bool) (o : OpData) (ops : List OpData) (lines : List ℕ) (at : ℕ) → eqb from at ≡ false → HasLineAt (from + size_of_op o) o.last ops (cond o.last (drop 1 lines) lines) at → HasLineAt from begin (o ∷ ops) lines at
line_later from begin o ops lines at f l = (l.0, rw f l.1)

line_there : (from : ℕ) (brackets : List OpenBracket) (zones : List ℕ) (before ops : List OpData) (lines : List ℕ) (at : ℕ) (q : PlacedOp) → ends_by_be ops ≡ true → end_marks ops ≤ length lines → placed_op_at at (ops_placed from brackets zones before ops) ≡ Some q → is_empty_list q.before ≡ true → HasLineAt from (is_empty_list before) ops lines at
line_there from brackets zones before [] lines at q ended most found first = absurd cc
line_there from brackets zones before (o ∷ []) lines at q ended most found first =
    option_by_test (eqb from at) (record { at = from; brackets = brackets; zones = zones; before = before; op = o; rest = [] }) None q found (HasLineAt from (is_empty_list before) (o ∷ []) lines at)
    (λ t e. line_here from (is_empty_list before) o [] lines at ended most t (ap (λ (z : PlacedOp). is_empty_list z.before) e ∙ first))
    (λ f e. absurd cc)
line_there from brackets zones before (o ∷ n ∷ ops) lines at q ended most found first =
    option_by_test (eqb from at) (record { at = from; brackets = brackets; zones = zones; before = before; op = o; rest = n ∷ ops }) (placed_op_at at (ops_placed (from + size_of_op o) (brackets_after from o.code brackets) (zones_behind_op from o.code zones) (before_next o before) (n ∷ ops))) q found (HasLineAt from (is_empty_list before) (o ∷ n ∷ ops) lines at)
    (λ t e. line_here from (is_empty_list before) o (n ∷ ops) lines at ended most t (ap (λ (z : PlacedOp). is_empty_list z.before) e ∙ first))
    (λ f e. line_later from (is_empty_list before) o (n ∷ ops) lines at f
    (subst (λ (z : Bool). HasLineAt (from + size_of_op o) z (n ∷ ops) (cond o.last (drop 1 lines) lines) at) (empty_next o before)
    (line_there (from + size_of_op o) (brackets_after from o.code brackets) (zones_behind_op from o.code zones) (before_next o before) (n ∷ ops) (cond o.last (drop 1 lines) lines) at q ended (line_room o.last (end_marks (n ∷ ops)) lines most) e first)))

pub has_line : (p : Program) (b : CodeBlock) (q : PlacedOp) → ends_by_be b.code ≡ true → end_marks b.code ≡ length b.lines → IsVerifiedOp p b q → begins_its_statement q ≡ true → HasLine b q.at
has_line p b q ended marks h first = let l = line_there 0 [] [] [] b.code b.lines q.at q ended (omega (arith, marks)) h.place first in record { line = l.0; is = l.1 }
