-- Where the jumps of a program that verifies lead.
use Rattle.std.proofs.Common.{◌≡◌, ◌⊎◌, ℕ, ◌+◌, ◌<◌, ◌≤◌, Bool, true, false, cond, eqb, leb, not, ◌||◌, List, [], ◌∷◌, length, Option, Some, None, refl, sym, ap, subst, ◌∙◌, arith, inl, inr}
use Rattle.std.proofs.lemmas.Bool.{and_parts, eqb-true, ne_eqb, le-leb, cases_lt, not-false}
use Rattle.std.proofs.lemmas.Option.{same_Some}
use Rattle.flat_code.specs.declared.image_fields.OpenBracket.{OpenBracket}
use Rattle.flat_code.specs.declared.operands.Operand.{Operand}
use Rattle.flat_code.specs.declared.operands.Operand.TheVariants as operand
use Rattle.flat_code.specs.Ops.{OpData}
use Rattle.flat_code.specs.Codes.{size_of_op}
use Rattle.flat_code.specs.Programs.{CodeBlock, Program}
use Rattle.flat_code.specs.PlacedOps.{PlacedOp, ops_placed, code_places, is_empty_list, bracket_codes, codes_of_few_brackets, most_brackets, StatementStart, starts_of_statements, statement_starts_from, statement_start_at, brackets_after, zones_behind_op, before_next}
use Rattle.flat_code.specs.Kinds.{jump_number}
use Rattle.flat_code.specs.declared.kinds.JumpOperation.TheVariants as jump
use Rattle.flat_code.specs.Blocks.{are_same_codes, are_other_brackets, target_fault, is_bad_list, operand_fault, leads_to_target}
use Rattle.image_file.specs.VerifiedProgram.{placed_op_at, IsVerifiedOp, Lands}
use Rattle.image_file.proofs.VerifiedLemmas.{option_by_test, none_if, empty_next, op_long, place_offset, op_none, environment_in, brackets_right}

start_none : (from : ℕ) (begin : Bool) (brackets : List OpenBracket) (zones : List ℕ) (ops : List OpData) (at : ℕ) → at < from → statement_start_at (statement_starts_from from begin brackets zones ops) at ≡ None
start_none from begin brackets zones [] at lt = refl
start_none from begin brackets zones (op ∷ ops) at lt =
    let p = op_long op in
    by begin (ne_eqb from at (λ e. omega (arith, e, lt))) (start_none (from + size_of_op op) op.last (brackets_after from op.code brackets) (zones_behind_op from op.code zones) ops at (omega (arith, lt, p)))
  where
    behind : List StatementStart
    behind = statement_starts_from (from + size_of_op op) op.last (brackets_after from op.code brackets) (zones_behind_op from op.code zones) ops

    by : (b : Bool) → eqb from at ≡ false → statement_start_at behind at ≡ None → statement_start_at (cond b (record { at = from; codes = codes_of_few_brackets brackets; zones = length zones } ∷ behind) behind) at ≡ None
    by true f more = rw f more
    by false f more = more

start_past : (from : ℕ) (begin : Bool) (brackets : List OpenBracket) (zones : List ℕ) (ops : List OpData) (at : ℕ) (s : StatementStart) → statement_start_at (statement_starts_from from begin brackets zones ops) at ≡ Some s → from ≤ at
start_past from begin brackets zones ops at s found = by (cases_lt at from)
  where
    by : (at < from) ⊎ (from ≤ at) → from ≤ at
    by (inl lt) = let e : ◌≡◌ {A = Option StatementStart} None (Some s) = sym (start_none from begin brackets zones ops at lt) ∙ found in absurd cc
    by (inr le) = le

-- a statement of a block as the op that begins it
record IsStart (qs : List PlacedOp) (at : ℕ) (s : StatementStart) : Type 0 where
  there : PlacedOp
  place : placed_op_at at qs ≡ Some there
  first : is_empty_list there.before ≡ true
  codes_are : codes_of_few_brackets there.brackets ≡ s.codes
  zones_are : length there.zones ≡ s.zones

start_there : (from : ℕ) (brackets : List OpenBracket) (zones : List ℕ) (before ops : List OpData) (at : ℕ) (s : StatementStart) → statement_start_at (statement_starts_from from (is_empty_list before) brackets zones ops) at ≡ Some s → IsStart (ops_placed from brackets zones before ops) at s
start_there from brackets zones before [] at s found = absurd cc
start_there from brackets zones before (o ∷ ops) at s found = by (is_empty_list before) refl found (λ h. start_there (from + size_of_op o) (brackets_after from o.code brackets) (zones_behind_op from o.code zones) (before_next o before) ops at s (subst (λ (z : Bool). statement_start_at (statement_starts_from (from + size_of_op o) z (brackets_after from o.code brackets) (zones_behind_op from o.code zones) ops) at ≡ Some s) (sym (empty_next o before)) h))
  where
    here : PlacedOp
    here = record { at = from; brackets = brackets; zones = zones; before = before; op = o; rest = ops }

    start : StatementStart
    start = record { at = from; codes = codes_of_few_brackets brackets; zones = length zones }

    behind : List StatementStart
    behind = statement_starts_from (from + size_of_op o) o.last (brackets_after from o.code brackets) (zones_behind_op from o.code zones) ops

    rest : List PlacedOp
    rest = ops_placed (from + size_of_op o) (brackets_after from o.code brackets) (zones_behind_op from o.code zones) (before_next o before) ops

    later : IsStart rest at s → eqb from at ≡ false → IsStart (here ∷ rest) at s
    later i f = record { there = i.there; place = rw f i.place; first = i.first; codes_are = i.codes_are; zones_are = i.zones_are }

    apart : statement_start_at behind at ≡ Some s → eqb from at ≡ false
    apart h =
        let past = start_past (from + size_of_op o) o.last (brackets_after from o.code brackets) (zones_behind_op from o.code zones) ops at s h in
        let p = op_long o in
        ne_eqb from at (λ e. omega (arith, e, past, p))

    by : (b : Bool) → is_empty_list before ≡ b → statement_start_at (cond b (start ∷ behind) behind) at ≡ Some s → (statement_start_at behind at ≡ Some s → IsStart rest at s) → IsStart (here ∷ rest) at s
    by true first e more =
        option_by_test (eqb from at) start (statement_start_at behind at) s e (IsStart (here ∷ rest) at s)
        (λ t same. record {
          there = here;
          place = rw t refl;
          first = first;
          codes_are = ap (λ (z : StatementStart). z.codes) same;
          zones_are = ap (λ (z : StatementStart). z.zones) same;
        })
        (λ f h. later (more h) f)
    by false first e more = later (more e) (apart e)

few_codes : (bs : List OpenBracket) (codes : List ℕ) → codes_of_few_brackets bs ≡ Some codes → bracket_codes bs ≡ codes
few_codes bs codes e = by (leb (length bs) most_brackets) e
  where
    by : (b : Bool) → cond b (Some (bracket_codes bs)) None ≡ Some codes → bracket_codes bs ≡ codes
    by true e = same_Some (bracket_codes bs) codes e
    by false e = absurd cc

same_list : (xs ys : List ℕ) → are_same_codes xs ys ≡ true → xs ≡ ys
same_list [] [] e = refl
same_list [] (y ∷ ys) e = absurd cc
same_list (x ∷ xs) [] e = absurd cc
same_list (x ∷ xs) (y ∷ ys) e = let p = and_parts (eqb x y) (are_same_codes xs ys) e in rw (eqb-true x y p.0, same_list xs ys p.1) refl

-- the brackets at a target
same_brackets : (codes : List ℕ) (others : Option (List ℕ)) → are_other_brackets (Some codes) others ≡ false → others ≡ Some codes
same_brackets codes None e = absurd cc
same_brackets codes (Some others) e = ap (λ (z : List ℕ). Some z) (sym (same_list codes others (not-false (are_same_codes codes others) e)))

-- what stands open at a target
record HasTarget (codes : List ℕ) (zones : ℕ) (found : Option StatementStart) : Type 0 where
  start : StatementStart
  is : found ≡ Some start
  same_codes : start.codes ≡ Some codes
  same_zones : zones ≡ start.zones

has_target : (codes : List ℕ) (zones : ℕ) (found : Option StatementStart) → target_fault (Some codes) zones found ≡ None → HasTarget codes zones found
has_target codes zones None e = absurd cc
has_target codes zones (Some s) e = by (are_other_brackets (Some codes) s.codes) refl (eqb zones s.zones) refl e
  where
    by : (a : Bool) → are_other_brackets (Some codes) s.codes ≡ a → (b : Bool) → eqb zones s.zones ≡ b → cond {A = Option ℕ} (a || not b) (Some 8) None ≡ None → HasTarget codes zones (Some s)
    by true o b n e = absurd cc
    by false o true n e = record { start = s; is = refl; same_codes = same_brackets codes s.codes o; same_zones = eqb-true zones s.zones n }
    by false o false n e = absurd cc

-- a jump without fault
record IsRightJump (p : Program) (b : CodeBlock) (q : PlacedOp) (kind target : ℕ) : Type 0 where
  list : is_bad_list q kind target ≡ false
  target_is : target_fault (codes_of_few_brackets q.brackets) (length q.zones) (statement_start_at (starts_of_statements b.code) target) ≡ None

right_jump : (p : Program) (b : CodeBlock) (q : PlacedOp) (kind target : ℕ) → IsVerifiedOp p b q → q.op.operand ≡ operand.Jump kind target → IsRightJump p b q kind target
right_jump p b q kind target h is =
    let none = subst (λ (z : Operand). operand_fault (environment_in p b) (starts_of_statements b.code) q z ≡ None) is (op_none p b q h).operand in
    let parts = none_if (is_bad_list q kind target) 6 (target_fault (codes_of_few_brackets q.brackets) (length q.zones) (statement_start_at (starts_of_statements b.code) target)) none in
    record { list = parts.0; target_is = parts.1 }

pub jump_lands : (p : Program) (b : CodeBlock) (q : PlacedOp) (kind target : ℕ) → IsVerifiedOp p b q → q.op.operand ≡ operand.Jump kind target → Lands b q target
jump_lands p b q kind target h is =
    let few_here : codes_of_few_brackets q.brackets ≡ Some (bracket_codes q.brackets) = rw (le-leb (length q.brackets) most_brackets (brackets_right p b q h).few) refl in
    let t = has_target (bracket_codes q.brackets) (length q.zones) (statement_start_at (starts_of_statements b.code) target) (ap (λ (z : Option (List ℕ)). target_fault z (length q.zones) (statement_start_at (starts_of_statements b.code) target)) (sym few_here) ∙ (right_jump p b q kind target h is).target_is) in
    let s = start_there 0 [] [] [] b.code target t.start t.is in
    record {
      there = s.there;
      place = s.place;
      offset = place_offset (code_places b.code) target s.there s.place;
      statement = s.first;
      same = sym (few_codes s.there.brackets (bracket_codes q.brackets) (s.codes_are ∙ t.same_codes));
      same_zones = t.same_zones ∙ sym s.zones_are;
    }

pub list_leads : (p : Program) (b : CodeBlock) (q : PlacedOp) (target : ℕ) → IsVerifiedOp p b q → q.op.operand ≡ operand.Jump (jump_number jump.Jl) target → leads_to_target 255 target (q.at + size_of_op q.op) q.rest ≡ true
list_leads p b q target h is = not-false (leads_to_target 255 target (q.at + size_of_op q.op) q.rest) (right_jump p b q (jump_number jump.Jl) target h is).list
