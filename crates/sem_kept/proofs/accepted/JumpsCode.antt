-- Brackets, zones and jumps of code that lies statement by statement.
use Rattle.std.proofs.Common.{◌≡◌, ℕ, ◌+◌, ◌-◌, Bool, true, false, if◌then◌else◌, eqb, List, [], ◌∷◌, ◌++◌, length, Option, Some, refl, sym, ap, subst, ◌∙◌, arith}
use Rattle.std.specs.Prelude.{◌==◌}
use Rattle.std.proofs.lemmas.Bool.{eq-eqb, ne_eqb}
use Rattle.std.specs.List.{AllByRecursion}
use Rattle.flat_code.specs.Codes.{size_of_op}
use Rattle.flat_code.specs.Ops.{OpData}
use Rattle.flat_code.specs.PlacedOps.{PlacedOp, StatementStart, before_next, bracket_codes, codes_of_few_brackets, open_behind, brackets_after, is_opening, ops_placed, statement_start_at, statement_starts_from, zones_behind_op, zones_left}
use Rattle.flat_code.specs.declared.image_fields.OpenBracket.{OpenBracket}
use Rattle.flat_code.specs.OpCodes.{op_code_of}
use Rattle.flat_code.specs.declared.operations.Operation.TheVariants as operation
use Rattle.flat_code.specs.declared.operations.RelayOperation.TheVariants as relay
use Rattle.flat_code.proofs.BracketLemmas.{codes_behind, few_codes, codes_opened, few_is, count_behind, count_is}
use Rattle.sem_kept.specs.Back.{is_target}
use Rattle.sem_kept.proofs.compiled.Runs.{total, InstrParts, IsPreparing, IsPartedStatement, AreStatements, flat, bytes_of, bytes_long, extent}

-- ---- ops that prepare

-- an op that has nothing to do with brackets and zones and doesn't jump
pub record IsQuiet (op : OpData) : Type 0 where
  pub opens : is_opening op.code ≡ false
  pub closes : (op.code == op_code_of operation.Unnest) ≡ false
  pub opens_zone : (op.code == op_code_of (operation.Relay relay.Open)) ≡ false
  pub ends_zone : (op.code == op_code_of (operation.Relay relay.Close)) ≡ false
  pub stays : is_target op.operand ≡ false

-- statements of which only the last op may have to do with brackets and zones, or jump
abbrev pub AreQuiet : List InstrParts → Type 0
AreQuiet ps = AllByRecursion (λ p. AllByRecursion IsQuiet p.front) ps

quiet_opens : (at : ℕ) (op : OpData) (bs : List OpenBracket) → IsQuiet op
    → brackets_after at op.code bs ≡ bs
quiet_opens at op bs h = rw h.opens (rw h.closes refl)

quiet_zones : (at : ℕ) (op : OpData) (zones : List ℕ) → IsQuiet op
    → zones_behind_op at op.code zones ≡ zones
quiet_zones at op zones h = rw h.opens_zone (rw h.ends_zone refl)

-- ---- the statements

-- what follows an op that stands at an offset
abbrev starts_past : (at : ℕ) → List OpenBracket → (zones : List ℕ) → OpData → (rest : List OpData)
    → List StatementStart
starts_past at bs zones op rest =
    statement_starts_from (at + size_of_op op) true (brackets_after at op.code bs) (zones_behind_op at op.code zones) rest

starts_inside : (at : ℕ) (bs : List OpenBracket) (zones : List ℕ) (front : List OpData) (op : OpData)
    (rest : List OpData)
    → AllByRecursion IsQuiet front → AllByRecursion IsPreparing front → op.last ≡ true
    → statement_starts_from at false bs zones (front ++ op ∷ rest)
    ≡ starts_past (at + total front) bs zones op rest
starts_inside at bs zones [] op rest quiet fs last =
    ap (λ (t : Bool).
    statement_starts_from (at + size_of_op op) t (brackets_after at op.code bs) (zones_behind_op at op.code zones) rest) last
    ∙ ap (λ (k : ℕ). starts_past k bs zones op rest) (omega arith)
starts_inside at bs zones (x ∷ front) op rest quiet fs last =
    ap (λ (t : Bool). next t (brackets_after at x.code bs) (zones_behind_op at x.code zones)) fs.0
    ∙ ap (λ (z : List OpenBracket). next false z (zones_behind_op at x.code zones))
    (quiet_opens at x bs quiet.0)
    ∙ ap (next false bs) (quiet_zones at x zones quiet.0)
    ∙ starts_inside (at + size_of_op x) bs zones front op rest quiet.1 fs.1 last
    ∙ ap (λ (k : ℕ). starts_past k bs zones op rest) (omega arith)
  where
    next : Bool → List OpenBracket → (zones : List ℕ) → List StatementStart
    next begin bs zones = statement_starts_from (at + size_of_op x) begin bs zones (front ++ op ∷ rest)

-- a statement, and those behind it
starts_next : (at : ℕ) (bs : List OpenBracket) (zones : List ℕ) (p : InstrParts) (rest : List OpData)
    → AllByRecursion IsQuiet p.front → IsPartedStatement p
    → statement_starts_from at true bs zones (p.front ++ p.end ∷ rest)
    ≡ record { at = at; codes = codes_of_few_brackets bs; zones = length zones }
    ∷ statement_starts_from (at + bytes_of p) true (brackets_after (at + total p.front) p.end.code bs)
    (zones_behind_op (at + total p.front) p.end.code zones) rest
starts_next at bs zones p rest quiet h =
    by p.front quiet h.front
    ∙ ap (λ (k : ℕ). here ∷ statement_starts_from k true (brackets_after (at + total p.front) p.end.code bs)
    (zones_behind_op (at + total p.front) p.end.code zones) rest) (omega arith)
  where
    here : StatementStart
    here = record { at = at; codes = codes_of_few_brackets bs; zones = length zones }

    by : (front : List OpData) → AllByRecursion IsQuiet front → AllByRecursion IsPreparing front
        → statement_starts_from at true bs zones (front ++ p.end ∷ rest)
        ≡ here ∷ starts_past (at + total front) bs zones p.end rest
    by [] q fs =
        ap (λ (z : List StatementStart). here ∷ z) (starts_inside at bs zones [] p.end rest q fs h.end)
    by (x ∷ front) q fs =
        ap (λ (z : List StatementStart). here ∷ z)
        (starts_inside at bs zones (x ∷ front) p.end rest q fs h.end)

-- the codes of the brackets that are open behind statements
abbrev pub codes_after : List InstrParts → List ℕ → List ℕ
codes_after [] codes = codes
codes_after (p ∷ ps) codes = codes_after ps (codes_behind p.end.code codes)

-- and how many zones are
abbrev pub count_after : List InstrParts → ℕ → ℕ
count_after [] count = count
count_after (p ∷ ps) count = count_after ps (count_behind p.end.code count)

-- a statement is found, at which these brackets and so many zones are open
pub record IsFound (found : Option StatementStart) (codes : Option (List ℕ)) (zones : ℕ) : Type 0 where
  pub start : StatementStart
  pub is : found ≡ Some start
  pub codes_are : start.codes ≡ codes
  pub zones_are : start.zones ≡ zones

pub found_by : (a b : Option StatementStart) (codes others : Option (List ℕ)) (zones more : ℕ)
    → a ≡ b → codes ≡ others → zones ≡ more → IsFound b codes zones → IsFound a others more
found_by a b codes others zones more e same count h = record {
  start = h.start;
  is = e ∙ h.is;
  codes_are = h.codes_are ∙ same;
  zones_are = h.zones_are ∙ count;
}

-- the statement behind others is found by its offset
pub start_there : (at : ℕ) (bs : List OpenBracket) (zones : List ℕ) (ps : List InstrParts) (p : InstrParts)
    (qs : List InstrParts)
    → AreStatements ps → AreQuiet ps → AllByRecursion IsQuiet p.front → IsPartedStatement p
    → IsFound (statement_start_at (statement_starts_from at true bs zones (flat (ps ++ p ∷ qs))) (at + extent ps))
    (few_codes (codes_after ps (bracket_codes bs))) (count_after ps (length zones))
start_there at bs zones [] p qs hs quiets quiet h = record {
  start = record { at = at; codes = codes_of_few_brackets bs; zones = length zones };
  is = rw (starts_next at bs zones p (flat qs) quiet h) (rw (eq-eqb at (at + 0) (omega arith)) refl);
  codes_are = few_is bs;
  zones_are = refl;
}
start_there at bs zones (q ∷ ps) p qs hs quiets quiet h =
    let long = bytes_long q in
    let other : eqb at (at + (bytes_of q + extent ps)) ≡ false =
    ne_eqb at (at + (bytes_of q + extent ps)) (λ e. omega (arith, e, long)) in
    let moved : at + (bytes_of q + extent ps) ≡ at + bytes_of q + extent ps = omega arith in
    let next : List OpenBracket = brackets_after (at + total q.front) q.end.code bs in
    let left : List ℕ = zones_behind_op (at + total q.front) q.end.code zones in
    found_by _ _ _ _ _ _
    (rw (starts_next at bs zones q (flat (ps ++ p ∷ qs)) quiets.0 hs.0)
    (rw other
    (ap (statement_start_at (statement_starts_from (at + bytes_of q) true next left (flat (ps ++ p ∷ qs)))) moved)))
    (ap (λ (z : List ℕ). few_codes (codes_after ps z)) (codes_opened (at + total q.front) q.end.code bs))
    (ap (count_after ps) (count_is (at + total q.front) q.end.code zones))
    (start_there (at + bytes_of q) next left ps p qs hs.1 quiets.1 quiet h)

-- ---- brackets and zones open behind all

open_inside : (at : ℕ) (bs : List OpenBracket) (front rest : List OpData)
    → AllByRecursion IsQuiet front
    → open_behind at bs (front ++ rest) ≡ open_behind (at + total front) bs rest
open_inside at bs [] rest quiet = ap (λ (k : ℕ). open_behind k bs rest) (omega arith)
open_inside at bs (x ∷ front) rest quiet =
    ap (λ (z : List OpenBracket). open_behind (at + size_of_op x) z (front ++ rest))
    (quiet_opens at x bs quiet.0)
    ∙ open_inside (at + size_of_op x) bs front rest quiet.1
    ∙ ap (λ (k : ℕ). open_behind k bs rest) (omega arith)

pub open_after : (at : ℕ) (bs : List OpenBracket) (ps : List InstrParts) → AreQuiet ps
    → bracket_codes (open_behind at bs (flat ps)) ≡ codes_after ps (bracket_codes bs)
open_after at bs [] quiets = refl
open_after at bs (p ∷ ps) quiets =
    ap bracket_codes (open_inside at bs p.front (p.end ∷ flat ps) quiets.0)
    ∙ open_after (at + total p.front + size_of_op p.end) (brackets_after (at + total p.front) p.end.code bs) ps quiets.1
    ∙ ap (codes_after ps) (codes_opened (at + total p.front) p.end.code bs)

left_inside : (at : ℕ) (zones : List ℕ) (front rest : List OpData) → AllByRecursion IsQuiet front
    → zones_left at zones (front ++ rest) ≡ zones_left (at + total front) zones rest
left_inside at zones [] rest quiet = ap (λ (k : ℕ). zones_left k zones rest) (omega arith)
left_inside at zones (x ∷ front) rest quiet =
    ap (λ (z : List ℕ). zones_left (at + size_of_op x) z (front ++ rest)) (quiet_zones at x zones quiet.0)
    ∙ left_inside (at + size_of_op x) zones front rest quiet.1
    ∙ ap (λ (k : ℕ). zones_left k zones rest) (omega arith)

pub left_after : (at : ℕ) (zones : List ℕ) (ps : List InstrParts) → AreQuiet ps
    → length (zones_left at zones (flat ps)) ≡ count_after ps (length zones)
left_after at zones [] quiets = refl
left_after at zones (p ∷ ps) quiets =
    ap (λ (z : List ℕ). length z) (left_inside at zones p.front (p.end ∷ flat ps) quiets.0)
    ∙ left_after (at + total p.front + size_of_op p.end)
    (zones_behind_op (at + total p.front) p.end.code zones) ps quiets.1
    ∙ ap (count_after ps) (count_is (at + total p.front) p.end.code zones)

-- ---- each op

-- the ops behind one that ends its statement at an offset
abbrev pub placed_past : (at : ℕ) → List OpenBracket → (zones : List ℕ) → OpData
    → (rest : List OpData) → List PlacedOp
placed_past at bs zones op rest =
    ops_placed (at + size_of_op op) (brackets_after at op.code bs) (zones_behind_op at op.code zones) [] rest

-- what holds of each op of a statement, and of those behind it
pub placed_all : (P : PlacedOp → Type 0) (at : ℕ) (bs : List OpenBracket) (zones : List ℕ)
    (before front : List OpData) (op : OpData) (rest : List OpData)
    → AllByRecursion IsQuiet front → AllByRecursion IsPreparing front → op.last ≡ true
    → ((q : PlacedOp) → IsQuiet q.op → P q)
    → ((done : List OpData)
    → P (record { at = at + total front; brackets = bs; zones = zones; before = done; op = op; rest = rest }))
    → AllByRecursion P (placed_past (at + total front) bs zones op rest)
    → AllByRecursion P (ops_placed at bs zones before (front ++ op ∷ rest))
placed_all P at bs zones before [] op rest quiet fs last one end more =
    let here : at + total [] ≡ at = omega arith in
    let none : [] ≡ before_next op before =
    ap (λ (t : Bool). if t then [] else before ++ op ∷ []) (sym last) in (
      subst (λ (k : ℕ). P (record { at = k; brackets = bs; zones = zones; before = before; op = op; rest = rest })) here (end before),
      subst (λ (z : List OpData). AllByRecursion P (ops_placed (at + size_of_op op) (brackets_after at op.code bs) (zones_behind_op at op.code zones) z rest)) none
          (subst (λ (k : ℕ). AllByRecursion P (placed_past k bs zones op rest)) here more),
    )
placed_all P at bs zones before (x ∷ front) op rest quiet fs last one end more =
    let here : at + (size_of_op x + total front) ≡ at + size_of_op x + total front = omega arith in
    let same : bs ≡ brackets_after at x.code bs = sym (quiet_opens at x bs quiet.0) in
    let stay : zones ≡ zones_behind_op at x.code zones = sym (quiet_zones at x zones quiet.0) in (
      one (record { at = at; brackets = bs; zones = zones; before = before; op = x; rest = front ++ op ∷ rest }) quiet.0,
      subst (λ (z : List OpenBracket). AllByRecursion P
          (ops_placed (at + size_of_op x) z (zones_behind_op at x.code zones) (before_next x before) (front ++ op ∷ rest))) same
          (subst (λ (z : List ℕ). AllByRecursion P
          (ops_placed (at + size_of_op x) bs z (before_next x before) (front ++ op ∷ rest))) stay
          (placed_all P (at + size_of_op x) bs zones (before_next x before) front op rest quiet.1 fs.1 last one
          (λ done. subst (λ (k : ℕ). P (record { at = k; brackets = bs; zones = zones; before = done; op = op; rest = rest })) here (end done))
          (subst (λ (k : ℕ). AllByRecursion P (placed_past k bs zones op rest)) here more))),
    )
