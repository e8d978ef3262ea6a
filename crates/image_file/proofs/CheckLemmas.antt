-- Checking the ops of a block, one behind the other.
use Rattle.std.proofs.Common.{◌≡◌, ℕ, zero, suc, ◌+◌, ◌-◌, ◌<◌, ◌≤◌, Bool, true, false, cond, eqb, List, [], ◌∷◌, ◌++◌, length, take, drop, get_or, drop-cons, add-one, Option, refl, sym, ap, subst, ◌∙◌, append_assoc, length-append, arith}
use Rattle.std.proofs.Math.ListN.{drop_of_length-le}
use Rattle.std.proofs.lemmas.List.{append-nil}
use Rattle.plc_base.proofs.ListLemmas.{drop_next}
use Rattle.flat_code.specs.declared.image_fields.OpenBracket.{OpenBracket}
use Rattle.flat_code.specs.Ops.{OpData, op_bytes}
use Rattle.flat_code.specs.Codes.{size_of_op, code_bytes}
use Rattle.flat_code.specs.OpCodes.{op_code_of}
use Rattle.flat_code.specs.declared.operations.Operation.TheVariants as operation
use Rattle.flat_code.specs.declared.operations.RelayOperation.TheVariants as relay
use Rattle.flat_code.specs.PlacedOps.{PlacedOp, ops_placed, code_places, is_opening, outer_brackets, brackets_after, zones_behind_op, before_next, open_behind, zones_left, StatementStart, starts_of_statements, statement_starts_from, codes_of_few_brackets}
use Rattle.flat_code.specs.Blocks.{Environment, is_ju_operand, leads_to_target, op_faults, faults_over, open_faults, open_zone_faults, block_faults}
use Rattle.image_file.specs.declared.faults.LoadFault.{LoadFault}
use Rattle.image_file.specs.Least.{with_fault, with_faults}
use Rattle.image_file.specs.OpChecking.{AllUpTo, ZonesUpTo}
use Rattle.image_file.proofs.RunLemmas.{with_more}

pub code_len : (op : OpData) (ops : List OpData) → length (code_bytes (op ∷ ops)) ≡ size_of_op op + length (code_bytes ops)
unfolding size_of_op
code_len op ops = length-append (op_bytes op) (code_bytes ops)

pub leads_step : (most target at : ℕ) (op : OpData) (ops : List OpData) → eqb at target ≡ false → is_ju_operand op.operand ≡ true → (most ≡ 0 → ⊥) → leads_to_target (most - 1) target (at + size_of_op op) ops ≡ leads_to_target most target at (op ∷ ops)
leads_step zero target at op ops e j some = absurd (some refl)
leads_step (suc m) target at op ops e j some = let k : suc m - 1 ≡ m = omega arith in rw (k, e, j) refl

pub five : (least : Option LoadFault) (a b c d e : List (ℕ × ℕ)) → with_faults least (a ++ b ++ c ++ d ++ e) ≡ with_faults (with_faults (with_faults (with_faults (with_faults least a) b) c) d) e
five least a b c d e =
    with_more least (a ++ b ++ c ++ d) e
    ∙ ap (λ (z : Option LoadFault). with_faults z e) (with_more least (a ++ b ++ c) d
    ∙ ap (λ (z : Option LoadFault). with_faults z d) (with_more least (a ++ b) c ∙ ap (λ (z : Option LoadFault). with_faults z c) (with_more least a b)))

-- ---- open brackets lie in the code

pub up_to_more : (n m : ℕ) (bs : List OpenBracket) → n ≤ m → AllUpTo n bs → AllUpTo m bs
up_to_more n m [] le h = tt
up_to_more n m (b ∷ bs) le h = (omega (arith, le, h.0), up_to_more n m bs le h.1)

up_to_push : (n : ℕ) (bs : List OpenBracket) (b : OpenBracket) → b.at ≤ n → AllUpTo n bs → AllUpTo n (bs ++ b ∷ [])
up_to_push n [] b le h = (le, tt)
up_to_push n (c ∷ bs) b le h = (h.0, up_to_push n bs b le h.1)

up_to_take : (n k : ℕ) (bs : List OpenBracket) → AllUpTo n bs → AllUpTo n (take k bs)
up_to_take n zero bs h = tt
up_to_take n (suc k) [] h = tt
up_to_take n (suc k) (b ∷ bs) h = (h.0, up_to_take n k bs h.1)

up_to_opened : (at code : ℕ) (bs : List OpenBracket) (x y : Bool) → AllUpTo at bs → AllUpTo at (cond x (bs ++ record { at = at; code = code } ∷ []) (cond y (outer_brackets bs) bs))
up_to_opened at code bs true y h = up_to_push at bs (record { at = at; code = code }) (omega arith) h
up_to_opened at code bs false true h = up_to_take at (length bs - 1) bs h
up_to_opened at code bs false false h = h

pub up_to_next : (at next code : ℕ) (bs after : List OpenBracket) → at ≤ next → after ≡ brackets_after at code bs → AllUpTo at bs → AllUpTo next after
up_to_next at next code bs after le is h = subst (λ (z : List OpenBracket). AllUpTo next z) (sym is) (up_to_more at next (brackets_after at code bs) le (up_to_opened at code bs (is_opening code) (eqb code (op_code_of operation.Unnest)) h))

pub up_to_at : (n i : ℕ) (d : OpenBracket) (bs : List OpenBracket) → i < length bs → AllUpTo n bs → (get_or bs i d).at ≤ n
up_to_at n i d [] lt h = absurd (omega (arith, lt))
up_to_at n zero d (c ∷ bs) lt h = h.0
up_to_at n (suc i) d (c ∷ bs) lt h = up_to_at n i d bs (omega (arith, lt)) h.1

-- ---- open zones lie in the code

zones_more : (n m : ℕ) (zones : List ℕ) → n ≤ m → ZonesUpTo n zones → ZonesUpTo m zones
zones_more n m [] le h = tt
zones_more n m (at ∷ zones) le h = (omega (arith, le, h.0), zones_more n m zones le h.1)

zones_push : (n at : ℕ) (zones : List ℕ) → at ≤ n → ZonesUpTo n zones → ZonesUpTo n (zones ++ at ∷ [])
zones_push n at [] le h = (le, tt)
zones_push n at (x ∷ zones) le h = (h.0, zones_push n at zones le h.1)

zones_take : (n k : ℕ) (zones : List ℕ) → ZonesUpTo n zones → ZonesUpTo n (take k zones)
zones_take n zero zones h = tt
zones_take n (suc k) [] h = tt
zones_take n (suc k) (at ∷ zones) h = (h.0, zones_take n k zones h.1)

zones_passed : (at : ℕ) (zones : List ℕ) (x y : Bool) → ZonesUpTo at zones → ZonesUpTo at (cond x (zones ++ at ∷ []) (cond y (take (length zones - 1) zones) zones))
zones_passed at zones true y h = zones_push at at zones (omega arith) h
zones_passed at zones false true h = zones_take at (length zones - 1) zones h
zones_passed at zones false false h = h

pub zones_next : (at next code : ℕ) (zones after : List ℕ) → at ≤ next → after ≡ zones_behind_op at code zones → ZonesUpTo at zones → ZonesUpTo next after
zones_next at next code zones after le is h = subst (λ (z : List ℕ). ZonesUpTo next z) (sym is) (zones_more at next (zones_behind_op at code zones) le (zones_passed at zones (eqb code (op_code_of (operation.Relay relay.Open))) (eqb code (op_code_of (operation.Relay relay.Close))) h))

pub zone_at : (n i d : ℕ) (zones : List ℕ) → i < length zones → ZonesUpTo n zones → get_or zones i d ≤ n
zone_at n i d [] lt h = absurd (omega (arith, lt))
zone_at n zero d (x ∷ zones) lt h = h.0
zone_at n (suc i) d (x ∷ zones) lt h = zone_at n i d zones (omega (arith, lt)) h.1

-- ---- one op more

pub faults_next : (environment : Environment) (ss : List StatementStart) (start at i : ℕ) (brackets after : List OpenBracket) (zones zones' : List ℕ) (before next : List OpData) (ops : List OpData) (op : OpData) (least mid : Option LoadFault) (end : ℕ)
    → i < length ops → op ≡ get_or ops i op → mid ≡ with_faults least (op_faults environment ss start (record { at = at; brackets = brackets; zones = zones; before = before; op = op; rest = drop (i + 1) ops }))
    → end ≡ at + size_of_op op → after ≡ brackets_after at op.code brackets → zones' ≡ zones_behind_op at op.code zones → next ≡ before_next op before
    → with_faults mid (faults_over environment ss start (ops_placed end after zones' next (drop (i + 1) ops))) ≡ with_faults least (faults_over environment ss start (ops_placed at brackets zones before (drop i ops)))
faults_next environment ss start at i brackets after zones zones' before next ops op least mid end lt is m e a o b =
    let p : PlacedOp = record { at = at; brackets = brackets; zones = zones; before = before; op = op; rest = drop (i + 1) ops } in
    let behind = ops_placed (at + size_of_op op) (brackets_after at op.code brackets) (zones_behind_op at op.code zones) (before_next op before) (drop (i + 1) ops) in
    sym (ap (λ (z : List OpData). with_faults least (faults_over environment ss start (ops_placed at brackets zones before z))) (drop_next ops i op lt is)
    ∙ with_more least (op_faults environment ss start p) (faults_over environment ss start behind)
    ∙ ap (λ (z : Option LoadFault). with_faults z (faults_over environment ss start behind)) (sym m)
    ∙ ap (λ (n : ℕ). with_faults mid (faults_over environment ss start (ops_placed n (brackets_after at op.code brackets) (zones_behind_op at op.code zones) (before_next op before) (drop (i + 1) ops)))) (sym e)
    ∙ ap (λ (z : List OpenBracket). with_faults mid (faults_over environment ss start (ops_placed end z (zones_behind_op at op.code zones) (before_next op before) (drop (i + 1) ops)))) (sym a)
    ∙ ap (λ (z : List ℕ). with_faults mid (faults_over environment ss start (ops_placed end after z (before_next op before) (drop (i + 1) ops)))) (sym o)
    ∙ ap (λ (z : List OpData). with_faults mid (faults_over environment ss start (ops_placed end after zones' z (drop (i + 1) ops)))) (sym b))

pub faults_done : (environment : Environment) (ss : List StatementStart) (start at i : ℕ) (brackets : List OpenBracket) (zones : List ℕ) (before ops : List OpData) (least : Option LoadFault) → length ops ≤ i → with_faults least (faults_over environment ss start (ops_placed at brackets zones before (drop i ops))) ≡ least
unfolding with_faults
faults_done environment ss start at i brackets zones before ops least le = rw (drop_of_length-le ops {i = i} le) refl

pub open_next : (at i end : ℕ) (brackets after : List OpenBracket) (ops : List OpData) (op : OpData) → i < length ops → op ≡ get_or ops i op → end ≡ at + size_of_op op → after ≡ brackets_after at op.code brackets → open_behind end after (drop (i + 1) ops) ≡ open_behind at brackets (drop i ops)
open_next at i end brackets after ops op lt is e a =
    sym (ap (open_behind at brackets) (drop_next ops i op lt is) ∙ ap (λ (n : ℕ). open_behind n (brackets_after at op.code brackets) (drop (i + 1) ops)) (sym e) ∙ ap (λ (z : List OpenBracket). open_behind end z (drop (i + 1) ops)) (sym a))

pub open_done : (at i : ℕ) (brackets : List OpenBracket) (ops : List OpData) → length ops ≤ i → open_behind at brackets (drop i ops) ≡ brackets
open_done at i brackets ops le = rw (drop_of_length-le ops {i = i} le) refl

pub left_open_next : (at i end : ℕ) (zones after : List ℕ) (ops : List OpData) (op : OpData) → i < length ops → op ≡ get_or ops i op → end ≡ at + size_of_op op → after ≡ zones_behind_op at op.code zones → zones_left end after (drop (i + 1) ops) ≡ zones_left at zones (drop i ops)
left_open_next at i end zones after ops op lt is e a =
    sym (ap (zones_left at zones) (drop_next ops i op lt is) ∙ ap (λ (n : ℕ). zones_left n (zones_behind_op at op.code zones) (drop (i + 1) ops)) (sym e) ∙ ap (λ (z : List ℕ). zones_left end z (drop (i + 1) ops)) (sym a))

left_open_done : (at i : ℕ) (zones : List ℕ) (ops : List OpData) → length ops ≤ i → zones_left at zones (drop i ops) ≡ zones
left_open_done at i zones ops le = rw (drop_of_length-le ops {i = i} le) refl

-- the code that is left takes the op's bytes less
pub left_next : (at i end total : ℕ) (ops : List OpData) (op : OpData) → i < length ops → op ≡ get_or ops i op → end ≡ at + size_of_op op → at + length (code_bytes (drop i ops)) ≡ total → end + length (code_bytes (drop (i + 1) ops)) ≡ total
left_next at i end total ops op lt is e h =
    omega (arith, h, e, ap (λ (z : List OpData). length (code_bytes z)) (drop_next ops i op lt is), code_len op (drop (i + 1) ops))

pub here_fits : (at i total : ℕ) (ops : List OpData) (op : OpData) → i < length ops → op ≡ get_or ops i op → at + length (code_bytes (drop i ops)) ≡ total → at + size_of_op op ≤ total
here_fits at i total ops op lt is h = omega (arith, h, ap (λ (z : List OpData). length (code_bytes z)) (drop_next ops i op lt is), code_len op (drop (i + 1) ops))

-- ---- the statements

pub starts_next : (front : List StatementStart) (at i end : ℕ) (begin : Bool) (brackets after : List OpenBracket) (zones zones' : List ℕ) (ops : List OpData) (op : OpData) (now : List StatementStart)
    → i < length ops → op ≡ get_or ops i op → end ≡ at + size_of_op op → after ≡ brackets_after at op.code brackets → zones' ≡ zones_behind_op at op.code zones
    → now ≡ cond begin (front ++ record { at = at; codes = codes_of_few_brackets brackets; zones = length zones } ∷ []) front
    → now ++ statement_starts_from end op.last after zones' (drop (i + 1) ops) ≡ front ++ statement_starts_from at begin brackets zones (drop i ops)
starts_next front at i end begin brackets after zones zones' ops op now lt is e a o n =
    rw (n, e, a, o, drop_next ops i op lt is) (by begin)
  where
    here : StatementStart
    here = record { at = at; codes = codes_of_few_brackets brackets; zones = length zones }

    behind : List StatementStart
    behind = statement_starts_from (at + size_of_op op) op.last (brackets_after at op.code brackets) (zones_behind_op at op.code zones) (drop (i + 1) ops)

    by : (b : Bool) → cond b (front ++ here ∷ []) front ++ behind ≡ front ++ cond b (here ∷ behind) behind
    by true = append_assoc front (here ∷ []) behind
    by false = refl

pub starts_done : (front : List StatementStart) (at i : ℕ) (begin : Bool) (brackets : List OpenBracket) (zones : List ℕ) (ops : List OpData) → length ops ≤ i → front ++ statement_starts_from at begin brackets zones (drop i ops) ≡ front
starts_done front at i begin brackets zones ops le = rw (drop_of_length-le ops {i = i} le) (append-nil front)

one_fault : (least : Option LoadFault) (f : ℕ × ℕ) → with_faults least (f ∷ []) ≡ with_fault least f
unfolding with_faults
one_fault least f = refl

pub open_faults_next : (start i : ℕ) (d : OpenBracket) (bs : List OpenBracket) (least mid : Option LoadFault) → i < length bs → mid ≡ with_fault least (start + (get_or bs i d).at, 8) → with_faults mid (open_faults start (drop (i + 1) bs)) ≡ with_faults least (open_faults start (drop i bs))
open_faults_next start i d bs least mid lt m =
    let b = get_or bs i d in
    let cut : drop i bs ≡ b ∷ drop (i + 1) bs = rw add-one (drop-cons bs i d lt) in
    ap (λ (z : Option LoadFault). with_faults z (open_faults start (drop (i + 1) bs))) (m ∙ sym (one_fault least (start + b.at, 8)))
    ∙ sym (with_more least ((start + b.at, 8) ∷ []) (open_faults start (drop (i + 1) bs)))
    ∙ sym (ap (λ (z : List OpenBracket). with_faults least (open_faults start z)) cut)

pub open_faults_done : (start i : ℕ) (bs : List OpenBracket) (least : Option LoadFault) → length bs ≤ i → least ≡ with_faults least (open_faults start (drop i bs))
unfolding with_faults
open_faults_done start i bs least le = rw (drop_of_length-le bs {i = i} le) refl

pub zone_faults_next : (start i d : ℕ) (zones : List ℕ) (least mid : Option LoadFault) → i < length zones → mid ≡ with_fault least (start + get_or zones i d, 8) → with_faults mid (open_zone_faults start (drop (i + 1) zones)) ≡ with_faults least (open_zone_faults start (drop i zones))
zone_faults_next start i d zones least mid lt m =
    let at = get_or zones i d in
    let cut : drop i zones ≡ at ∷ drop (i + 1) zones = rw add-one (drop-cons zones i d lt) in
    ap (λ (z : Option LoadFault). with_faults z (open_zone_faults start (drop (i + 1) zones))) (m ∙ sym (one_fault least (start + at, 8)))
    ∙ sym (with_more least ((start + at, 8) ∷ []) (open_zone_faults start (drop (i + 1) zones)))
    ∙ sym (ap (λ (z : List ℕ). with_faults least (open_zone_faults start z)) cut)

pub zone_faults_done : (start i : ℕ) (zones : List ℕ) (least : Option LoadFault) → length zones ≤ i → least ≡ with_faults least (open_zone_faults start (drop i zones))
unfolding with_faults
zone_faults_done start i zones least le = rw (drop_of_length-le zones {i = i} le) refl

pub room_here : (at i total : ℕ) (ops : List OpData) (op : OpData) → i < length ops → op ≡ get_or ops i op → at + length (code_bytes (drop i ops)) ≡ total → at + size_of_op op + length (code_bytes (drop (i + 1) ops)) ≡ total
room_here at i total ops op lt is h = omega (arith, h, ap (λ (z : List OpData). length (code_bytes z)) (drop_next ops i op lt is), code_len op (drop (i + 1) ops))

pub same_place : (environment : Environment) (ss ss' : List StatementStart) (start at : ℕ) (brackets brackets' : List OpenBracket) (zones zones' : List ℕ) (before before' : List OpData) (op : OpData) (rest rest' : List OpData) (least : Option LoadFault)
    → ss ≡ ss' → brackets ≡ brackets' → zones ≡ zones' → before ≡ before' → rest ≡ rest'
    → with_faults least (op_faults environment ss start (record { at = at; brackets = brackets; zones = zones; before = before; op = op; rest = rest })) ≡ with_faults least (op_faults environment ss' start (record { at = at; brackets = brackets'; zones = zones'; before = before'; op = op; rest = rest' }))
same_place environment ss ss' start at brackets brackets' zones zones' before before' op rest rest' least p q o r s = rw (p, q, o, r, s) refl

pub check_done : (environment : Environment) (ss : List StatementStart) (start at i : ℕ) (brackets : List OpenBracket) (zones : List ℕ) (before ops : List OpData) (least first result : Option LoadFault) → length ops ≤ i → ss ≡ starts_of_statements ops
    → with_faults least (faults_over environment ss start (ops_placed at brackets zones before (drop i ops))) ≡ with_faults first (faults_over environment ss start (code_places ops))
    → open_behind at brackets (drop i ops) ≡ open_behind 0 [] ops → zones_left at zones (drop i ops) ≡ zones_left 0 [] ops
    → result ≡ with_faults (with_faults least (open_faults start brackets)) (open_zone_faults start zones) → result ≡ with_faults first (block_faults environment start ops)
unfolding block_faults
check_done environment ss start at i brackets zones before ops least first result le s f o l r =
    let over = faults_over environment (starts_of_statements ops) start (code_places ops) in
    let done : least ≡ with_faults first over = sym (faults_done environment ss start at i brackets zones before ops least le) ∙ f ∙ ap (λ (z : List StatementStart). with_faults first (faults_over environment z start (code_places ops))) s in
    let open_ones : brackets ≡ open_behind 0 [] ops = sym (open_done at i brackets ops le) ∙ o in
    let left : zones ≡ zones_left 0 [] ops = sym (left_open_done at i zones ops le) ∙ l in
    r ∙ ap (λ (z : Option LoadFault). with_faults (with_faults z (open_faults start brackets)) (open_zone_faults start zones)) done
    ∙ ap (λ (z : List OpenBracket). with_faults (with_faults (with_faults first over) (open_faults start z)) (open_zone_faults start zones)) open_ones
    ∙ ap (λ (z : List ℕ). with_faults (with_faults (with_faults first over) (open_faults start (open_behind 0 [] ops))) (open_zone_faults start z)) left
    ∙ sym (with_more first (over ++ open_faults start (open_behind 0 [] ops)) (open_zone_faults start (zones_left 0 [] ops))
    ∙ ap (λ (z : Option LoadFault). with_faults z (open_zone_faults start (zones_left 0 [] ops))) (with_more first over (open_faults start (open_behind 0 [] ops))))
