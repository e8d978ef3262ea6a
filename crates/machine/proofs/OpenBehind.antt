-- What stands open behind an op: brackets and zones go by its operation alone.
use Rattle.std.proofs.Common.{◌≡◌, ◌∙◌, ◌⊎◌, inl, inr, ◌+◌, ◌-◌, ℕ, zero, suc, Bool, true, false, cond, eqb, leb, ◌&&◌, ◌||◌, List, [], ◌∷◌, ◌++◌, length, map, take, reverse, get_or, length-append, refl, sym, ap, arith}
use Rattle.std.proofs.lemmas.Bool.{and_parts, eqb-true, leb-true}
use Rattle.std.proofs.lemmas.Bool.Decides.{nat_tests}
use Rattle.std.proofs.lemmas.List.{reverse-append, map_push}
use Rattle.std.proofs.Math.Seq.{take-append_seam}
use Rattle.status_word.specs.declared.Check.{Check}
use Rattle.flat_code.specs.declared.image_fields.OpenBracket.{OpenBracket}
use Rattle.flat_code.specs.declared.operations.RelayOperation.TheVariants as relay
use Rattle.flat_code.specs.declared.operations.Operation.{Operation}
use Rattle.flat_code.specs.declared.operations.Operation.TheVariants as operation
use Rattle.flat_code.specs.declared.operations.TheConstants.{OPERATIONS}
use Rattle.flat_code.specs.Blocks.{prepares_statement}
use Rattle.flat_code.specs.Codes.{size_of_op}
use Rattle.flat_code.specs.OpCodes.{op_code_of as op_code}
use Rattle.flat_code.specs.Ops.{OpData}
use Rattle.flat_code.specs.PlacedOps.{PlacedOp, bracket_codes, is_opening, brackets_after, zones_behind_op, outer_brackets, before_next}
use Rattle.flat_code.specs.Operations.{operation_of}
use Rattle.machine.specs.Fitting.{OpenAt}
use Rattle.machine.specs.OpenBrackets.{check_named, checks_of, open_at}
use Rattle.machine.proofs.Keeping.{codes_after, zones_after, open_after_operation}

-- ---- brackets

abbrev pub is_other : Operation → Bool
is_other (operation.Nest with) = false
is_other operation.Unnest = false
is_other _ = true

other_same : (w : Operation) (codes : List Check) → is_other w ≡ true → codes_after w codes ≡ codes
other_same (operation.Nest with) codes h = absurd cc
other_same operation.Unnest codes h = absurd cc
other_same _ codes h = refl

-- no zone begins or ends
abbrev keeps_zones : Operation → Bool
keeps_zones (operation.Relay relay.Open) = false
keeps_zones (operation.Relay relay.Close) = false
keeps_zones _ = true

zones_same : (w : Operation) (zones : ℕ) → keeps_zones w ≡ true → zones_after w zones ≡ zones
zones_same (operation.Relay relay.Open) zones h = absurd cc
zones_same (operation.Relay relay.Close) zones h = absurd cc
zones_same (operation.Relay relay.Activate) zones h = refl
zones_same (operation.Relay relay.Deactivate) zones h = refl
zones_same _ zones h = refl

-- in a table all operations are of a kind, but for those of some codes
abbrev all_known : (Operation → Bool) → (ℕ → Bool) → ℕ → List Operation → Bool
all_known kind named from [] = true
all_known kind named from (w ∷ ws) = (kind w || named from) && all_known kind named (from + 1) ws

is_of_kind :
    (kind : Operation → Bool) (named : ℕ → Bool) (from : ℕ) (ws : List Operation) (i : ℕ)
    → kind operation.NoOperation ≡ true → all_known kind named from ws ≡ true → named (from + i) ≡ false
    → kind (get_or ws i operation.NoOperation) ≡ true
is_of_kind kind named from [] i none all o = none
is_of_kind kind named from (w ∷ ws) zero none all o =
    let e : from + 0 ≡ from = omega arith in
    quiet (kind w) (named from) (and_parts (kind w || named from) (all_known kind named (from + 1) ws) all).0 (rw e at o)
  where
    quiet : (x y : Bool) → (x || y) ≡ true → y ≡ false → x ≡ true
    quiet true y h a = refl
    quiet false true h a = absurd cc
    quiet false false h a = absurd cc
is_of_kind kind named from (w ∷ ws) (suc i) none all o =
    let e : from + suc i ≡ from + 1 + i = omega arith in
    is_of_kind kind named (from + 1) ws i none (and_parts (kind w || named from) (all_known kind named (from + 1) ws) all).1 (rw e at o)

-- only A( to XN( open a bracket, and only `)` closes one
abbrev of_brackets : ℕ → Bool
of_brackets code = is_opening code || eqb code (op_code operation.Unnest)

brackets_known : all_known is_other of_brackets 0 OPERATIONS ≡ true
brackets_known = refl

-- only `MCR(` begins a zone, and only `)MCR` ends one
abbrev of_zones : ℕ → Bool
of_zones code = eqb code (op_code (operation.Relay relay.Open)) || eqb code (op_code (operation.Relay relay.Close))

zones_known : all_known keeps_zones of_zones 0 OPERATIONS ≡ true
zones_known = refl

neither : (x y : Bool) → x ≡ false → y ≡ false → (x || y) ≡ false
neither false y a b = b
neither true y a b = absurd cc

other_code : (code : ℕ) → is_opening code ≡ false → eqb code (op_code operation.Unnest) ≡ false → is_other (operation_of code) ≡ true
unfolding operation_of
other_code code o c =
    let e : 0 + code ≡ code = omega arith in
    is_of_kind is_other of_brackets 0 OPERATIONS code refl brackets_known
    (rw (sym e) at (neither (is_opening code) (eqb code (op_code operation.Unnest)) o c))

quiet_operation : (code : ℕ) (codes : List Check) → is_opening code ≡ false → eqb code (op_code operation.Unnest) ≡ false → codes_after (operation_of code) codes ≡ codes
quiet_operation code codes o c = other_same (operation_of code) codes (other_code code o c)

-- an operation that opens a bracket has such a code, and the one that closes has its own
pub nest_opens : (code : ℕ) → is_other (operation_of code) ≡ false → (eqb code (op_code operation.Unnest) ≡ true → ⊥) → is_opening code ≡ true
nest_opens code known_by other = by (is_opening code) refl
  where
    by : (o : Bool) → is_opening code ≡ o → o ≡ true
    by true o = refl
    by false o =
        let is = other_code code o (not_true (eqb code (op_code operation.Unnest)) other) in
        absurd (let f : false ≡ true = sym known_by ∙ is in cc)
      where
        not_true : (x : Bool) → (x ≡ true → ⊥) → x ≡ false
        not_true true h = absurd (h refl)
        not_true false h = refl

one_of_six : (code : ℕ) → is_opening code ≡ true → (code ≡ 0x18) ⊎ ((code ≡ 0x19) ⊎ ((code ≡ 0x1A) ⊎ ((code ≡ 0x1B) ⊎ ((code ≡ 0x1C) ⊎ (code ≡ 0x1D)))))
one_of_six code h =
    let parts = and_parts (leb 0x18 code) (leb code 0x1D) h in
    let low = leb-true 0x18 code parts.0 in
    let high = leb-true code 0x1D parts.1 in
    grind (arith, low, high)

pub opening_operation : (code : ℕ) (codes : List Check) → is_opening code ≡ true → codes_after (operation_of code) codes ≡ check_named code ∷ codes
unfolding operation_of
opening_operation code codes h = by (one_of_six code h)
  where
    by : (code ≡ 0x18) ⊎ ((code ≡ 0x19) ⊎ ((code ≡ 0x1A) ⊎ ((code ≡ 0x1B) ⊎ ((code ≡ 0x1C) ⊎ (code ≡ 0x1D)))))
        → codes_after (get_or OPERATIONS code operation.NoOperation) codes ≡ check_named code ∷ codes
    by (inl e) = rw e refl
    by (inr (inl e)) = rw e refl
    by (inr (inr (inl e))) = rw e refl
    by (inr (inr (inr (inl e)))) = rw e refl
    by (inr (inr (inr (inr (inl e))))) = rw e refl
    by (inr (inr (inr (inr (inr e))))) = rw e refl

closing_operation : (code : ℕ) (codes : List Check) → eqb code (op_code operation.Unnest) ≡ true → codes_after (operation_of code) codes ≡ codes_after operation.Unnest codes
unfolding operation_of
closing_operation code codes h = let e : code ≡ 0x1E = eqb-true code (op_code operation.Unnest) h in rw e refl

codes_push : (bs : List OpenBracket) (b : OpenBracket) → bracket_codes (bs ++ b ∷ []) ≡ bracket_codes bs ++ b.code ∷ []
codes_push [] b = refl
codes_push (c ∷ bs) b = ap (λ (z : List ℕ). c.code ∷ z) (codes_push bs b)

checks_push : (bs : List OpenBracket) (b : OpenBracket) → checks_of (bs ++ b ∷ []) ≡ check_named b.code ∷ checks_of bs
checks_push bs b =
    ap (λ (z : List ℕ). reverse (map check_named z)) (codes_push bs b)
    ∙ ap reverse (map_push check_named (bracket_codes bs) b.code)
    ∙ reverse-append (map check_named (bracket_codes bs)) (check_named b.code ∷ [])

-- the innermost bracket
record Last (bs : List OpenBracket) : Type 0 where
  front : List OpenBracket
  one : OpenBracket
  is : bs ≡ front ++ one ∷ []

last_of : (b : OpenBracket) (bs : List OpenBracket) → Last (b ∷ bs)
last_of b [] = record { front = []; one = b; is = refl }
last_of b (c ∷ bs) =
    let more = last_of c bs in
    record { front = b ∷ more.front; one = more.one; is = ap (λ (z : List OpenBracket). b ∷ z) more.is }

inner_push : (bs : List OpenBracket) (b : OpenBracket) → outer_brackets (bs ++ b ∷ []) ≡ bs
inner_push bs b =
    let e = length-append bs (b ∷ []) in
    let n : length (bs ++ b ∷ []) - 1 ≡ length bs = omega (arith, e) in
    ap (λ (k : ℕ). take k (bs ++ b ∷ [])) n ∙ take-append_seam bs (b ∷ [])

checks_inner : (bs : List OpenBracket) → checks_of (outer_brackets bs) ≡ codes_after operation.Unnest (checks_of bs)
checks_inner [] = refl
checks_inner (b ∷ bs) =
    let l = last_of b bs in
    ap (λ (z : List OpenBracket). checks_of (outer_brackets z)) l.is
    ∙ ap checks_of (inner_push l.front l.one)
    ∙ sym (ap (λ (z : List OpenBracket). codes_after operation.Unnest (checks_of z)) l.is
    ∙ ap (codes_after operation.Unnest) (checks_push l.front l.one))

pub checks_behind : (at code : ℕ) (bs : List OpenBracket) → checks_of (brackets_after at code bs) ≡ codes_after (operation_of code) (checks_of bs)
checks_behind at code bs = by (is_opening code) refl
  where
    closes : (c : Bool) → is_opening code ≡ false → eqb code (op_code operation.Unnest) ≡ c → checks_of (cond c (outer_brackets bs) bs) ≡ codes_after (operation_of code) (checks_of bs)
    closes true o e = checks_inner bs ∙ sym (closing_operation code (checks_of bs) e)
    closes false o e = sym (quiet_operation code (checks_of bs) o e)

    by : (o : Bool) → is_opening code ≡ o → checks_of (cond o (bs ++ record { at = at; code = code } ∷ []) (cond (eqb code (op_code operation.Unnest)) (outer_brackets bs) bs)) ≡ codes_after (operation_of code) (checks_of bs)
    by true o = checks_push bs (record { at = at; code = code }) ∙ sym (opening_operation code (checks_of bs) o)
    by false o = closes (eqb code (op_code operation.Unnest)) o refl

-- ---- zones

zone_begins : (code : ℕ) (zones : ℕ) → eqb code (op_code (operation.Relay relay.Open)) ≡ true → zones_after (operation_of code) zones ≡ suc zones
unfolding operation_of
zone_begins code zones h = let e : code ≡ 7 = eqb-true code (op_code (operation.Relay relay.Open)) h in rw e refl

zone_ends : (code : ℕ) (zones : ℕ) → eqb code (op_code (operation.Relay relay.Close)) ≡ true → zones_after (operation_of code) zones ≡ zones - 1
unfolding operation_of
zone_ends code zones h = let e : code ≡ 8 = eqb-true code (op_code (operation.Relay relay.Close)) h in rw e refl

quiet_zones :
    (code zones : ℕ) → eqb code (op_code (operation.Relay relay.Open)) ≡ false
    → eqb code (op_code (operation.Relay relay.Close)) ≡ false → zones_after (operation_of code) zones ≡ zones
unfolding operation_of
quiet_zones code zones o c =
    let e : 0 + code ≡ code = omega arith in
    zones_same (get_or OPERATIONS code operation.NoOperation) zones
    (is_of_kind keeps_zones of_zones 0 OPERATIONS code refl zones_known
    (rw (sym e) at (neither (eqb code (op_code (operation.Relay relay.Open))) (eqb code (op_code (operation.Relay relay.Close))) o c)))

-- these operations have these codes alone
pub opening_code : (code : ℕ) → operation_of code ≡ operation.Relay relay.Open → code ≡ op_code (operation.Relay relay.Open)
opening_code code is = by (eqb code (op_code (operation.Relay relay.Open))) refl
  where
    by : (t : Bool) → eqb code (op_code (operation.Relay relay.Open)) ≡ t → code ≡ op_code (operation.Relay relay.Open)
    by true e = eqb-true code (op_code (operation.Relay relay.Open)) e
    by false e = absurd (closes (eqb code (op_code (operation.Relay relay.Close))) refl)
      where
        counted : zones_after (operation_of code) 0 ≡ 1
        counted = ap (λ (v : Operation). zones_after v 0) is

        closes : (t : Bool) → eqb code (op_code (operation.Relay relay.Close)) ≡ t → ⊥
        closes true c = let f : 0 ≡ 1 = sym (zone_ends code 0 c) ∙ counted in omega (arith, f)
        closes false c = let f : 0 ≡ 1 = sym (quiet_zones code 0 e c) ∙ counted in omega (arith, f)

pub ending_code : (code : ℕ) → operation_of code ≡ operation.Relay relay.Close → code ≡ op_code (operation.Relay relay.Close)
ending_code code is = by (eqb code (op_code (operation.Relay relay.Close))) refl
  where
    by : (t : Bool) → eqb code (op_code (operation.Relay relay.Close)) ≡ t → code ≡ op_code (operation.Relay relay.Close)
    by true e = eqb-true code (op_code (operation.Relay relay.Close)) e
    by false e = absurd (opens_one (eqb code (op_code (operation.Relay relay.Open))) refl)
      where
        counted : zones_after (operation_of code) 1 ≡ 0
        counted = ap (λ (v : Operation). zones_after v 1) is

        opens_one : (t : Bool) → eqb code (op_code (operation.Relay relay.Open)) ≡ t → ⊥
        opens_one true o = let f : 2 ≡ 0 = sym (zone_begins code 1 o) ∙ counted in omega (arith, f)
        opens_one false o = let f : 1 ≡ 0 = sym (quiet_zones code 1 o e) ∙ counted in omega (arith, f)

push_count : (zones : List ℕ) (at : ℕ) → length (zones ++ at ∷ []) ≡ suc (length zones)
push_count zones at = let e = length-append zones (at ∷ []) in omega (arith, e)

pop_count : (zones : List ℕ) → length (take (length zones - 1) zones) ≡ length zones - 1
pop_count [] = refl
pop_count (zone ∷ zones) =
    let n : length (zone ∷ zones) - 1 ≡ length zones = omega arith in
    rw n (taken zones zone)
  where
    taken : (zones : List ℕ) (zone : ℕ) → length (take (length zones) (zone ∷ zones)) ≡ length zones
    taken [] zone = refl
    taken (z ∷ zones) zone = ap suc (taken zones z)

count_behind : (at code : ℕ) (zones : List ℕ) → length (zones_behind_op at code zones) ≡ zones_after (operation_of code) (length zones)
count_behind at code zones = by (eqb code (op_code (operation.Relay relay.Open))) refl
  where
    ends : (c : Bool) → eqb code (op_code (operation.Relay relay.Open)) ≡ false → eqb code (op_code (operation.Relay relay.Close)) ≡ c
        → length (cond c (take (length zones - 1) zones) zones) ≡ zones_after (operation_of code) (length zones)
    ends true o e = pop_count zones ∙ sym (zone_ends code (length zones) e)
    ends false o e = sym (quiet_zones code (length zones) o e)

    by : (o : Bool) → eqb code (op_code (operation.Relay relay.Open)) ≡ o
        → length (cond o (zones ++ at ∷ []) (cond (eqb code (op_code (operation.Relay relay.Close))) (take (length zones - 1) zones) zones))
        ≡ zones_after (operation_of code) (length zones)
    by true o = push_count zones at ∙ sym (zone_begins code (length zones) o)
    by false o = ends (eqb code (op_code (operation.Relay relay.Close))) o refl

-- ---- both

-- what is open, by its two parts
pub same_open : (codes checks : List Check) (zones count : ℕ) → codes ≡ checks → zones ≡ count
    → (let r : OpenAt = record { codes = codes; zones = zones } in r) ≡ (let r : OpenAt = record { codes = checks; zones = count } in r)
same_open codes checks zones count a b = rw (a, b) refl

-- the place behind an op
abbrev pub behind_op : PlacedOp → OpData → List OpData → PlacedOp
behind_op q op rest = record {
  at = q.at + size_of_op q.op;
  brackets = brackets_after q.at q.op.code q.brackets;
  zones = zones_behind_op q.at q.op.code q.zones;
  before = before_next q.op q.before;
  op = op;
  rest = rest;
}

-- behind an op that stands behind these
pub open_behind_op : (q : PlacedOp) (op : OpData) (rest : List OpData) → open_at (behind_op q op rest) ≡ open_after_operation (operation_of q.op.code) (open_at q)
open_behind_op q op rest =
    same_open (checks_of (brackets_after q.at q.op.code q.brackets)) (codes_after (operation_of q.op.code) (checks_of q.brackets))
    (length (zones_behind_op q.at q.op.code q.zones)) (zones_after (operation_of q.op.code) (length q.zones))
    (checks_behind q.at q.op.code q.brackets) (count_behind q.at q.op.code q.zones)

-- ops that prepare leave brackets and zones
pub two_or_four : (code : ℕ) → prepares_statement code ≡ true → (code ≡ 2) ⊎ (code ≡ 4)
two_or_four code h = grind (arith, nat_tests, h)

pub prepared_same : (at code : ℕ) (bs : List OpenBracket) → prepares_statement code ≡ true → brackets_after at code bs ≡ bs
prepared_same at code bs h = by (two_or_four code h)
  where
    by : (code ≡ 2) ⊎ (code ≡ 4) → brackets_after at code bs ≡ bs
    by (inl e) = rw e refl
    by (inr e) = rw e refl

pub prepared_zones : (at code : ℕ) (zones : List ℕ) → prepares_statement code ≡ true → zones_behind_op at code zones ≡ zones
prepared_zones at code zones h = by (two_or_four code h)
  where
    by : (code ≡ 2) ⊎ (code ≡ 4) → zones_behind_op at code zones ≡ zones
    by (inl e) = rw e refl
    by (inr e) = rw e refl
