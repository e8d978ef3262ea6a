-- Where a frame stands in the code of an image: the run of its statement, the statement behind it,
-- and the brackets and zones that stand open there.
use Rattle.std.proofs.Common.{◌≡◌, ◌∙◌, ◌+◌, ℕ, zero, suc, Bool, true, false, cond, eqb, not, IsSome, List, [], ◌∷◌, ◌++◌, length, map, reverse, append_assoc, length-append, Option, Some, None, refl, sym, ap, subst, arith}
use Rattle.std.proofs.lemmas.Bool.{eqb-true, true≢false}
use Rattle.std.proofs.lemmas.Option.{same_Some}
use Rattle.std.specs.Option.{option_map, option_and_then}
use Rattle.plc_base.specs.declared.BlockId.{BlockId}
use Rattle.flat_code.specs.declared.image_fields.OpenBracket.{OpenBracket}
use Rattle.flat_code.specs.declared.operations.EndOperation.TheVariants as ends
use Rattle.flat_code.specs.declared.operations.Operation.TheVariants as operation
use Rattle.flat_code.specs.Blocks.{prepares_statement}
use Rattle.flat_code.specs.Codes.{size_of_op, most_ops}
use Rattle.flat_code.specs.Loading.{Verifies}
use Rattle.flat_code.specs.OpCodes.{op_code_of as op_code}
use Rattle.flat_code.specs.Ops.{OpData}
use Rattle.flat_code.specs.declared.operands.Operand.TheVariants as operand
use Rattle.flat_code.specs.PlacedOps.{PlacedOp, ops_placed, code_places, op_placed, line_placed, begins_its_statement, is_empty_list, brackets_after, zones_behind_op, before_next, ending_op, last_op}
use Rattle.flat_code.specs.Programs.{CodeBlock, Program}
use Rattle.flat_code.specs.Operations.{operation_of}
use Rattle.image_file.specs.Readers.{block_by_id}
use Rattle.image_file.specs.VerifiedProgram.{placed_op_at, IsVerifiedOp, HasNext}
use Rattle.machine.specs.Flat.{OpRun, op_run_at, with_op, fetched_of, statement_fetched, code_of}
use Rattle.machine.specs.ImageLaws.{ImageLaws}
use Rattle.machine.specs.Fitting.{OpenAt}
use Rattle.machine.specs.OpenBrackets.{check_named, checks_of, open_at, open_before, open_in, open_codes}
use Rattle.machine.proofs.Keeping.{open_after_operation}
use Rattle.machine.proofs.OpenBehind.{same_open, prepared_same, prepared_zones, open_behind_op, behind_op}

-- ---- ops in their places

pub op_here : (from : ℕ) (brackets : List OpenBracket) (zones : List ℕ) (before ops : List OpData) (at : ℕ) (q : PlacedOp) → placed_op_at at (ops_placed from brackets zones before ops) ≡ Some q → op_placed from ops at ≡ Some (q.op, q.at + size_of_op q.op)
op_here from brackets zones before [] at q found = absurd cc
op_here from brackets zones before (o ∷ ops) at q found =
    by (eqb from at) found
    (λ e. op_here (from + size_of_op o) (brackets_after from o.code brackets) (zones_behind_op from o.code zones) (before_next o before) ops at q e)
  where
    here : PlacedOp
    here = record { at = from; brackets = brackets; zones = zones; before = before; op = o; rest = ops }

    behind : Option PlacedOp
    behind = placed_op_at at (ops_placed (from + size_of_op o) (brackets_after from o.code brackets) (zones_behind_op from o.code zones) (before_next o before) ops)

    by : (t : Bool) → cond t (Some here) behind ≡ Some q → (behind ≡ Some q → op_placed (from + size_of_op o) ops at ≡ Some (q.op, q.at + size_of_op q.op)) → cond t (Some (o, from + size_of_op o)) (op_placed (from + size_of_op o) ops at) ≡ Some (q.op, q.at + size_of_op q.op)
    by true e more = ap (λ (z : PlacedOp). Some (z.op, z.at + size_of_op z.op)) (same_Some here q e)
    by false e more = more e

pub next_op : (l : ImageLaws) (p : Program) (b : CodeBlock) (q : PlacedOp) (op : OpData) (rest : List OpData) → IsVerifiedOp p b q → q.rest ≡ op ∷ rest → IsVerifiedOp p b (behind_op q op rest)
next_op l p b q op rest h is = record {
  verifies = h.verifies;
  id = h.id;
  block = h.block;
  place = subst (λ (z : List OpData). HasNext b q z) is (l.goes_on p b q h);
}

pub last_ends : (l : ImageLaws) (p : Program) (b : CodeBlock) (q : PlacedOp) → IsVerifiedOp p b q → q.rest ≡ [] → (q.op.code ≡ op_code (operation.End ends.Be)) × (q.op.last ≡ true)
last_ends l p b q h is = let e = subst (λ (z : List OpData). HasNext b q z) is (l.goes_on p b q h) in (e.0, e.1)

-- ---- the run of a statement is there

run_there : (l : ImageLaws) (p : Program) (b : CodeBlock) (most : ℕ) (q : PlacedOp) → IsVerifiedOp p b q → most + length q.before ≡ 64 → IsSome (op_run_at most b.code q.at)
unfolding op_run_at
run_there l p b zero q h e = let few = (l.statements p b q h).few in absurd (omega (arith, e, few))
run_there l p b (suc most) q h e =
    rw (op_here 0 [] [] [] b.code q.at q h.place)
    (by q.op.last refl q.rest refl (λ op rest is. run_there l p b most (behind_op q op rest) (next_op l p b q op rest h is)))
  where
    longer : q.op.last ≡ false → most + length (before_next q.op q.before) ≡ 64
    longer is =
        let n = length-append q.before (q.op ∷ []) in
        let same : length (before_next q.op q.before) ≡ length (q.before ++ q.op ∷ []) =
        ap (λ (t : Bool). length (cond t [] (q.before ++ q.op ∷ []))) is in
        omega (arith, n, e, same)

    with_first : (o : Option OpRun) → IsSome o → IsSome (option_map (with_op q.op) o)
    with_first (Some r) there = refl
    with_first None there = there

    by : (last : Bool) → q.op.last ≡ last → (rest : List OpData) → q.rest ≡ rest
        → ((op : OpData) (rest : List OpData) → q.rest ≡ op ∷ rest → most + length (before_next q.op q.before) ≡ 64 → IsSome (op_run_at most b.code (q.at + size_of_op q.op)))
        → IsSome (cond last (Some (record { before = []; last = q.op; next = q.at + size_of_op q.op })) (option_map (with_op q.op) (op_run_at most b.code (q.at + size_of_op q.op))))
    by true is rest e more = refl
    by false is [] e more = absurd (true≢false (sym (last_ends l p b q h e).1 ∙ is))
    by false is (op ∷ rest) e more = with_first (op_run_at most b.code (q.at + size_of_op q.op)) (more op rest e (longer is))

-- ---- where a run ends

-- ops before the last one of a statement, in their places
abbrev pub AllBefore : Program → CodeBlock → (last : OpData) → List OpData → Type 0
AllBefore p b last [] = Unit {0}
AllBefore p b last (op ∷ ops) =
    ((q : PlacedOp) × IsVerifiedOp p b q × (q.op ≡ op) × (last_op q ≡ last)) × AllBefore p b last ops

pub record RunEnd (p : Program) (b : CodeBlock) (q : PlacedOp) (r : OpRun) : Type 0 where
  pub last : PlacedOp
  pub op : IsVerifiedOp p b last
  pub same : last.op ≡ r.last
  pub next : r.next ≡ last.at + size_of_op last.op
  pub ended : last.op.last ≡ true
  pub held : open_at last ≡ open_at q
  pub before : last.before ≡ q.before ++ r.before
  pub ends : last_op q ≡ r.last
  pub passes : AllBefore p b r.last r.before

append_nil : (xs : List OpData) → xs ≡ xs ++ []
append_nil [] = refl
append_nil (x ∷ xs) = ap (λ (z : List OpData). x ∷ z) (append_nil xs)

pub ends_here : (op : OpData) (rest : List OpData) → op.last ≡ true → ending_op op rest ≡ op
ends_here op [] is = refl
ends_here op (n ∷ rest) is = rw is refl

pub run_is : (l : ImageLaws) (p : Program) (b : CodeBlock) (most : ℕ) (q : PlacedOp) (r : OpRun) → IsVerifiedOp p b q → op_run_at most b.code q.at ≡ Some r → RunEnd p b q r
unfolding op_run_at
run_is l p b zero q r h e = absurd cc
run_is l p b (suc most) q r h e =
    by q.op.last refl q.rest refl (rw (op_here 0 [] [] [] b.code q.at q h.place) at e)
    (λ op rest is s. run_is l p b most (behind_op q op rest) s (next_op l p b q op rest h is))
  where
    only : q.op.last ≡ true → RunEnd p b q (record { before = []; last = q.op; next = q.at + size_of_op q.op })
    only is = record {
      last = q;
      op = h;
      same = refl;
      next = refl;
      ended = is;
      held = refl;
      before = append_nil q.before;
      ends = ends_here q.op q.rest is;
      passes = tt;
    }

    prepared : q.op.last ≡ false → prepares_statement q.op.code ≡ true
    prepared is = not_not (prepares_statement q.op.code) (sym (l.statements p b q h).ended ∙ is)
      where
        not_not : (x : Bool) → not x ≡ false → x ≡ true
        not_not true e = refl
        not_not false e = absurd cc

    more_before : q.op.last ≡ false → before_next q.op q.before ≡ q.before ++ q.op ∷ []
    more_before is = ap (λ (t : Bool). cond t [] (q.before ++ q.op ∷ [])) is

    longer : (op : OpData) (rest : List OpData) (s : OpRun) → q.op.last ≡ false → q.rest ≡ op ∷ rest → RunEnd p b (behind_op q op rest) s → RunEnd p b q (with_op q.op s)
    longer op rest s is split run_end =
        let ends : last_op q ≡ s.last = ap (λ (z : List OpData). ending_op q.op z) split ∙ ap (λ (t : Bool). cond t q.op (ending_op op rest)) is ∙ run_end.ends in
        record {
          last = run_end.last;
          op = run_end.op;
          same = run_end.same;
          next = run_end.next;
          ended = run_end.ended;
          held = run_end.held
              ∙ same_open (checks_of (brackets_after q.at q.op.code q.brackets)) (checks_of q.brackets) (length (zones_behind_op q.at q.op.code q.zones)) (length q.zones)
              (ap checks_of (prepared_same q.at q.op.code q.brackets (prepared is)))
              (ap length (prepared_zones q.at q.op.code q.zones (prepared is)));
          before = run_end.before ∙ ap (λ (z : List OpData). z ++ s.before) (more_before is) ∙ append_assoc q.before (q.op ∷ []) s.before;
          ends = ends;
          passes = ((q, h, refl, ends), run_end.passes);
        }

    found : (o : Option OpRun) → option_map (with_op q.op) o ≡ Some r → ((s : OpRun) → o ≡ Some s → RunEnd p b q (with_op q.op s)) → RunEnd p b q r
    found None e f = absurd cc
    found (Some s) e f = subst (λ (z : OpRun). RunEnd p b q z) (same_Some (with_op q.op s) r e) (f s refl)

    by : (last : Bool) → q.op.last ≡ last → (rest : List OpData) → q.rest ≡ rest
        → cond last (Some (record { before = []; last = q.op; next = q.at + size_of_op q.op })) (option_map (with_op q.op) (op_run_at most b.code (q.at + size_of_op q.op))) ≡ Some r
        → ((op : OpData) (rest : List OpData) → q.rest ≡ op ∷ rest → (s : OpRun) → op_run_at most b.code (q.at + size_of_op q.op) ≡ Some s → RunEnd p b (behind_op q op rest) s)
        → RunEnd p b q r
    by true is rest split e more = subst (λ (z : OpRun). RunEnd p b q z) (same_Some (record { before = []; last = q.op; next = q.at + size_of_op q.op }) r e) (only is)
    by false is [] split e more = absurd (true≢false (sym (last_ends l p b q h split).1 ∙ is))
    by false is (op ∷ rest) split e more =
        found (op_run_at most b.code (q.at + size_of_op q.op)) e (λ s s_is. longer op rest s is split (more op rest split s s_is))

-- ---- a statement begins

-- a statement of a block begins at an offset, and this is open before it
pub record IsStatementStart (p : Program) (block : BlockId) (at : ℕ) (held : OpenAt) : Type 0 where
  pub b : CodeBlock
  pub q : PlacedOp
  pub found : block_by_id block p.code_blocks ≡ Some b
  pub op : IsVerifiedOp p b q
  pub offset : q.at ≡ at
  pub begun : begins_its_statement q ≡ true
  pub same : open_at q ≡ held

pub none_before : (before : List OpData) → is_empty_list before ≡ true → before ≡ []
none_before [] e = refl
none_before (op ∷ before) e = absurd cc

-- a statement of a block at an offset: where it begins, its source line and its run of ops
pub record Statement (p : Program) (block : BlockId) (at : ℕ) (held : OpenAt) : Type 0 where
  pub statement_start : IsStatementStart p block at held
  pub line : ℕ
  pub run : OpRun
  pub fetched : (code_of p).fetch block at ≡ Some (fetched_of statement_start.b.code line run)
  pub run_end : RunEnd p statement_start.b statement_start.q run

run_found : (o : Option OpRun) → IsSome o → (r : OpRun) × (o ≡ Some r)
run_found (Some r) there = (r, refl)
run_found None there = absurd cc

fetched_there :
    (b : CodeBlock) (at line : ℕ) (r : OpRun) → line_placed 0 true b.code b.lines at ≡ Some line
    → op_run_at most_ops b.code at ≡ Some r → statement_fetched b at ≡ Some (fetched_of b.code line r)
unfolding statement_fetched
fetched_there b at line r has run = rw (has, run) refl

pub statement_there :
    (l : ImageLaws) (p : Program) (block : BlockId) (at : ℕ) (held : OpenAt) → IsStatementStart p block at held
    → Statement p block at held
statement_there l p block at held s =
    let few : most_ops + length s.q.before ≡ 64 = ap (λ (z : List OpData). 64 + length z) (none_before s.q.before s.begun) in
    let r = run_found (op_run_at most_ops s.b.code s.q.at) (run_there l p s.b most_ops s.q s.op few) in
    let line = l.lines p s.b s.q s.op s.begun in
    let there : statement_fetched s.b at ≡ Some (fetched_of s.b.code line.line r.0) =
    ap (statement_fetched s.b) (sym s.offset) ∙ fetched_there s.b s.q.at line.line r.0 line.is r.1 in
    record {
      statement_start = s;
      line = line.line;
      run = r.0;
      fetched = rw s.found there;
      run_end = run_is l p s.b most_ops s.q r.0 s.op r.1;
    }

pub opens_there :
    (p : Program) (block : BlockId) (at : ℕ) (held : OpenAt) → IsStatementStart p block at held
    → open_codes p block at ≡ Some held
opens_there p block at held s =
    let place : placed_op_at at (code_places s.b.code) ≡ Some s.q = ap (λ (k : ℕ). placed_op_at k (code_places s.b.code)) (sym s.offset) ∙ s.op.place in
    rw (s.found, place, s.begun) (ap (λ (z : OpenAt). Some z) s.same)

place_offset : (qs : List PlacedOp) (at : ℕ) (q : PlacedOp) → placed_op_at at qs ≡ Some q → q.at ≡ at
place_offset [] at q found = absurd cc
place_offset (p ∷ qs) at q found = by (eqb p.at at) refl found (λ e. place_offset qs at q e)
  where
    by : (t : Bool) → eqb p.at at ≡ t → cond t (Some p) (placed_op_at at qs) ≡ Some q → (placed_op_at at qs ≡ Some q → q.at ≡ at) → q.at ≡ at
    by true is e more = sym (ap (λ (z : PlacedOp). z.at) (same_Some p q e)) ∙ eqb-true p.at at is
    by false is e more = more e

pub statement_start_there :
    (p : Program) (block : BlockId) (at : ℕ) (held : OpenAt) → Verifies p → open_codes p block at ≡ Some held
    → IsStatementStart p block at held
statement_start_there p block at held verifies h = by_block (block_by_id block p.code_blocks) refl h
  where
    begun : (b : CodeBlock) (q : PlacedOp) (t : Bool) → block_by_id block p.code_blocks ≡ Some b → placed_op_at at (code_places b.code) ≡ Some q → begins_its_statement q ≡ t
        → cond t (Some (open_at q)) None ≡ Some held → IsStatementStart p block at held
    begun b q true found place is e =
        let offset = place_offset (code_places b.code) at q place in
        record {
          b = b;
          q = q;
          found = found;
          op = record {
            verifies = verifies;
            id = block;
            block = found;
            place = ap (λ (k : ℕ). placed_op_at k (code_places b.code)) offset ∙ place;
          };
          offset = offset;
          begun = is;
          same = same_Some (open_at q) held e;
        }
    begun b q false found place is e = absurd cc

    by_place : (b : CodeBlock) (o : Option PlacedOp) → block_by_id block p.code_blocks ≡ Some b → placed_op_at at (code_places b.code) ≡ o → open_before o ≡ Some held → IsStatementStart p block at held
    by_place b None found place e = absurd cc
    by_place b (Some q) found place e = begun b q (begins_its_statement q) found place refl e

    by_block : (o : Option CodeBlock) → block_by_id block p.code_blocks ≡ o → option_and_then (λ b. open_in b at) o ≡ Some held → IsStatementStart p block at held
    by_block None found e = absurd cc
    by_block (Some b) found e = by_place b (placed_op_at at (code_places b.code)) found refl e

-- ---- where a statement leads

pub next_start :
    (l : ImageLaws) (p : Program) (block : BlockId) (at : ℕ) (held : OpenAt) (s : Statement p block at held)
    → (s.run.last.code ≡ op_code (operation.End ends.Be) → ⊥) → IsStatementStart p block s.run.next (open_after_operation (operation_of s.run.last.code) held)
next_start l p block at held s more = by s.run_end.last.rest refl
  where
    by : (rest : List OpData) → s.run_end.last.rest ≡ rest → IsStatementStart p block s.run.next (open_after_operation (operation_of s.run.last.code) held)
    by [] is = absurd (more (ap (λ (z : OpData). z.code) (sym s.run_end.same) ∙ (last_ends l p s.statement_start.b s.run_end.last s.run_end.op is).0))
    by (op ∷ rest) is = record {
      b = s.statement_start.b;
      q = behind_op s.run_end.last op rest;
      found = s.statement_start.found;
      op = next_op l p s.statement_start.b s.run_end.last op rest s.run_end.op is;
      offset = sym s.run_end.next;
      begun = rw s.run_end.ended refl;
      same = open_behind_op s.run_end.last op rest
          ∙ ap (λ (z : OpData). open_after_operation (operation_of z.code) (open_at s.run_end.last)) s.run_end.same
          ∙ ap (open_after_operation (operation_of s.run.last.code)) (s.run_end.held ∙ s.statement_start.same);
    }

pub target_start :
    (l : ImageLaws) (p : Program) (block : BlockId) (at : ℕ) (held : OpenAt) (s : Statement p block at held)
    (kind target : ℕ) → s.run.last.operand ≡ operand.Jump kind target → IsStatementStart p block target held
target_start l p block at held s kind target is =
    let lands = l.targets p s.statement_start.b s.run_end.last kind target s.run_end.op (ap (λ (z : OpData). z.operand) s.run_end.same ∙ is) in
    record {
      b = s.statement_start.b;
      q = lands.there;
      found = s.statement_start.found;
      op = record {
        verifies = s.run_end.op.verifies;
        id = s.run_end.op.id;
        block = s.run_end.op.block;
        place = ap (λ (k : ℕ). placed_op_at k (code_places s.statement_start.b.code)) lands.offset ∙ lands.place;
      };
      offset = lands.offset;
      begun = lands.statement;
      same = same_open (checks_of lands.there.brackets) (checks_of s.run_end.last.brackets) (length lands.there.zones) (length s.run_end.last.zones)
          (ap (λ (z : List ℕ). reverse (map check_named z)) (sym lands.same)) (sym lands.same_zones)
          ∙ s.run_end.held ∙ s.statement_start.same;
    }

-- where a block begins nothing is open
abbrev pub nothing_open : OpenAt
nothing_open = record { codes = []; zones = 0 }

pub entry_start :
    (l : ImageLaws) (p : Program) (block : BlockId) (b : CodeBlock) → Verifies p → block_by_id block p.code_blocks ≡ Some b
    → IsStatementStart p block 0 nothing_open
entry_start l p block b verifies found =
    let begun = (l.blocks p b block verifies found).begins in
    record {
      b = b;
      q = begun.first;
      found = found;
      op = record {
        verifies = verifies;
        id = block;
        block = found;
        place = ap (λ (k : ℕ). placed_op_at k (code_places b.code)) begun.offset ∙ begun.place;
      };
      offset = begun.offset;
      begun = begun.statement;
      same = same_open (checks_of begun.first.brackets) [] (length begun.first.zones) 0 (ap checks_of begun.closed) (ap length begun.no_zones);
    }
