-- Ops and lines by the marks of their offsets.
use Rattle.std.proofs.Common.{◌≡◌, ◌⊎◌, inl, inr, ℕ, zero, suc, ◌+◌, ◌-◌, ◌*◌, ◌<◌, ◌≤◌, Bool, true, false, cond, eqb, List, [], ◌∷◌, ◌++◌, length, replicate, drop, get_or, slice_get, is_some, append_assoc, Option, Some, None, option_map, option_and_then, refl, sym, ap, subst, ◌∙◌, arith}
use Rattle.std.proofs.Math.Seq.{drop-append-add}
use Rattle.std.proofs.Math.ListN.{drop_of_length-le}
use Rattle.std.proofs.lemmas.Bool.{and_parts, and_from, eq-eqb, ne_eqb}
use Rattle.std.proofs.lemmas.List.{append-nil}
use Rattle.std.proofs.lemmas.Option.{same_Some}
use Rattle.plc_base.proofs.ListLemmas.{drop_next, get_past}
use Rattle.flat_code.proofs.OpLemmas.{op_again}
use Rattle.flat_code.specs.Codes.{size_of_op, code_bytes, are_ops}
use Rattle.flat_code.specs.Image.{end_marks}
use Rattle.flat_code.specs.Ops.{OpData, IsOp, is_op, op_at, op_bytes}
use Rattle.flat_code.specs.PlacedOps.{op_placed, line_placed}
use Rattle.flat_code.specs.Programs.{CodeBlock}
use Rattle.image_file.specs.Marks.{inside_mark, marks_from, ops_of_bytes, IsInPlace}
use Rattle.image_file.specs.Tables.{no_index, HasSmallCode, AreSmall}
use Rattle.image_file.proofs.CodeLemmas.{ops_again}
use Rattle.image_file.proofs.CheckLemmas.{code_len}

-- ---- ops and their bytes

size_is : (op : OpData) → length (op_bytes op) ≡ size_of_op op
unfolding size_of_op
size_is op = refl

pub two_bytes : (op : OpData) → 2 ≤ size_of_op op
unfolding size_of_op op_bytes
two_bytes op = omega arith

-- a statement takes two bytes at least
pub few_statements : (ops : List OpData) → 2 * end_marks ops ≤ length (code_bytes ops)
few_statements [] = omega arith
few_statements (op ∷ ops) =
    let more = few_statements ops in
    let two = two_bytes op in
    let long = code_len op ops in
    by op.last (omega (arith, more, two, long)) (omega (arith, more, two, long))
  where
    by : (last : Bool) → 2 * (1 + end_marks ops) ≤ length (code_bytes (op ∷ ops)) → 2 * (0 + end_marks ops) ≤ length (code_bytes (op ∷ ops)) → 2 * (cond last 1 0 + end_marks ops) ≤ length (code_bytes (op ∷ ops))
    by true ends other = ends
    by false ends other = other

-- before the first op none begins
op_before : (from : ℕ) (ops : List OpData) (at : ℕ) → at < from → op_placed from ops at ≡ None
op_before from [] at less = refl
op_before from (op ∷ ops) at less =
    rw (ne_eqb from at (omega (arith, less))) (op_before (from + size_of_op op) ops at (omega (arith, less)))

line_before : (from : ℕ) (begins : Bool) (ops : List OpData) (lines : List ℕ) (at : ℕ) → at < from → line_placed from begins ops lines at ≡ None
line_before from begins [] lines at less = refl
line_before from begins (op ∷ ops) lines at less =
    rw (ne_eqb from at (omega (arith, less))) (line_before (from + size_of_op op) op.last ops (cond op.last (drop 1 lines) lines) at (omega (arith, less)))

-- ---- where an offset lies behind the first byte of an op

abbrev Within : (k j : ℕ) → Type 0
Within k j = (j < k) ⊎ ((i : ℕ) × (j ≡ k + i))

within : (k j : ℕ) → Within k j
within zero j = inr (j, omega arith)
within (suc k) zero = inl (omega arith)
within (suc k) (suc j) = more (within k j)
  where
    more : Within k j → (suc j < suc k) ⊎ ((i : ℕ) × (suc j ≡ suc k + i))
    more (inl less) = inl (omega (arith, less))
    more (inr past) = inr (past.0, omega (arith, past.1))

in_front : (n i e : ℕ) (more : List ℕ) → i < n → slice_get (replicate n e ++ more) i ≡ Some e
in_front zero i e more less = absurd (omega arith)
in_front (suc n) zero e more less = refl
in_front (suc n) (suc i) e more less = in_front n i e more (omega arith)

behind : (n i e : ℕ) (more : List ℕ) → slice_get (replicate n e ++ more) (n + i) ≡ slice_get more i
behind zero i e more = ap (slice_get more) (omega arith)
behind (suc n) i e more =
    let next : suc n + i ≡ suc (n + i) = omega arith in
    ap (slice_get (e ∷ (replicate n e ++ more))) next ∙ behind n i e more

-- ---- ops by their marks

-- the op and the offset behind it, where a mark says that one begins
abbrev pub op_marked : (mark : Option ℕ) → (at : ℕ) → Option (OpData × List ℕ) → Option (OpData × ℕ)
op_marked None at found = None
op_marked (Some mark) at found = cond (eqb mark no_index) None (option_map (λ r. (r.0, at + size_of_op r.0)) found)

-- a mark tells what ops have at an offset, and where it says that an op begins there bytes begin with one
pub record Tells (mark : Option ℕ) (at : ℕ) (found : Option (OpData × List ℕ)) (placed : Option (OpData × ℕ)) : Type 0 where
  pub is : placed ≡ op_marked mark at found
  pub known : (m : ℕ) → mark ≡ Some m → eqb m no_index ≡ false → is_some found ≡ true

first_mark : (begins : Bool) (n : ℕ) → n < no_index → eqb (cond begins n inside_mark) no_index ≡ false
first_mark true n few = ne_eqb n no_index (omega (arith, few))
first_mark false n few = refl

statements_behind_op : (last : Bool) (n rest : ℕ) → n + (cond last 1 0 + rest) ≡ cond last (suc n) n + rest
statements_behind_op true n rest = omega arith
statements_behind_op false n rest = omega arith

first_tells : (from n : ℕ) (begins : Bool) (op : OpData) (rest : List ℕ) → IsOp op → n < no_index → Tells (Some (cond begins n inside_mark)) from (op_at (op_bytes op ++ rest)) (Some (op, from + size_of_op op))
first_tells from n begins op rest is few =
    rw (op_again op rest is) (record { is = rw (first_mark begins n few) refl; known = λ m same there. refl })

pub marks_tell : (from n : ℕ) (begins : Bool) (ops : List OpData) (at : ℕ) → are_ops ops ≡ true → n + end_marks ops < no_index → Tells (slice_get (marks_from n begins ops) at) (from + at) (op_at (drop at (code_bytes ops))) (op_placed from ops (from + at))
marks_tell from n begins [] at are few = record { is = refl; known = λ m same there. absurd cc }
marks_tell from n begins (op ∷ ops) zero are few =
    let here : from + 0 ≡ from = omega arith in
    let parts = and_parts (is_op op.code op.operand) (are_ops ops) are in
    rw here (rw (eq-eqb from from refl) (first_tells from n begins op (code_bytes ops) parts.0 (omega (arith, few))))
marks_tell from n begins (op ∷ ops) (suc j) are few =
    rw (ne_eqb from (from + suc j) (omega arith))
    (by (within (size_of_op op - 1) j)
    (λ i. marks_tell (from + size_of_op op) (cond op.last (suc n) n) op.last ops i (and_parts (is_op op.code op.operand) (are_ops ops) are).1
    (subst (λ (k : ℕ). k < no_index) (statements_behind_op op.last n (end_marks ops)) few)))
  where
    rest : List ℕ
    rest = marks_from (cond op.last (suc n) n) op.last ops

    by : Within (size_of_op op - 1) j
        → ((i : ℕ) → Tells (slice_get rest i) (from + size_of_op op + i) (op_at (drop i (code_bytes ops))) (op_placed (from + size_of_op op) ops (from + size_of_op op + i)))
        → Tells (slice_get (replicate (size_of_op op - 1) no_index ++ rest) j) (from + suc j) (op_at (drop (suc j) (op_bytes op ++ code_bytes ops))) (op_placed (from + size_of_op op) ops (from + suc j))
    by (inl less) next =
        rw (in_front (size_of_op op - 1) j no_index rest less)
        (record {
          is = op_before (from + size_of_op op) ops (from + suc j) (omega (arith, less, two_bytes op));
          known = λ m same there. absurd cc;
        })
    by (inr past) next =
        let i : ℕ = past.0 in
        let there : from + suc j ≡ from + size_of_op op + i = omega (arith, past.1, two_bytes op) in
        let mark : slice_get (replicate (size_of_op op - 1) no_index ++ rest) j ≡ slice_get rest i =
        ap (slice_get (replicate (size_of_op op - 1) no_index ++ rest)) past.1 ∙ behind (size_of_op op - 1) i no_index rest in
        let place : suc j ≡ length (op_bytes op) + i = omega (arith, past.1, two_bytes op, size_is op) in
        let bytes : drop (suc j) (op_bytes op ++ code_bytes ops) ≡ drop i (code_bytes ops) =
        ap (λ (k : ℕ). drop k (op_bytes op ++ code_bytes ops)) place ∙ drop-append-add (op_bytes op) (code_bytes ops) i in
        rw mark (rw bytes (rw there (next i)))

-- ---- lines by the marks

first_line : (n : ℕ) (lines : List ℕ) → slice_get (drop n lines) 0 ≡ slice_get lines n
first_line zero lines = refl
first_line (suc n) [] = refl
first_line (suc n) (x ∷ lines) = first_line n lines

one_more : (n : ℕ) (lines : List ℕ) → drop 1 (drop n lines) ≡ drop (suc n) lines
one_more zero lines = refl
one_more (suc n) [] = refl
one_more (suc n) (x ∷ lines) = one_more n lines

lines_left : (last : Bool) (n : ℕ) (lines : List ℕ) → cond last (drop 1 (drop n lines)) (drop n lines) ≡ drop (cond last (suc n) n) lines
lines_left true n lines = one_more n lines
lines_left false n lines = refl

abbrev line_marked : (mark : Option ℕ) → (lines : List ℕ) → Option ℕ
line_marked mark lines = option_and_then (λ m. slice_get lines m) mark

line_here : (begins : Bool) (n : ℕ) (lines : List ℕ) → length lines < 65536 → cond begins (slice_get (drop n lines) 0) None ≡ slice_get lines (cond begins n inside_mark)
line_here true n lines few = first_line n lines
line_here false n lines few = sym (get_past lines inside_mark (omega (arith, few)))

lines_tell : (from n : ℕ) (begins : Bool) (ops : List OpData) (lines : List ℕ) (at : ℕ) → length lines < 65536 → line_placed from begins ops (drop n lines) (from + at) ≡ line_marked (slice_get (marks_from n begins ops) at) lines
lines_tell from n begins [] lines at few = refl
lines_tell from n begins (op ∷ ops) lines zero few =
    rw (eq-eqb from (from + 0) (omega arith)) (line_here begins n lines few)
lines_tell from n begins (op ∷ ops) lines (suc j) few =
    rw (ne_eqb from (from + suc j) (omega arith))
    (by (within (size_of_op op - 1) j)
    (λ i. ap (λ (left : List ℕ). line_placed (from + size_of_op op) op.last ops left (from + size_of_op op + i)) (lines_left op.last n lines)
    ∙ lines_tell (from + size_of_op op) (cond op.last (suc n) n) op.last ops lines i few))
  where
    rest : List ℕ
    rest = marks_from (cond op.last (suc n) n) op.last ops

    left : List ℕ
    left = cond op.last (drop 1 (drop n lines)) (drop n lines)

    by : Within (size_of_op op - 1) j
        → ((i : ℕ) → line_placed (from + size_of_op op) op.last ops left (from + size_of_op op + i) ≡ line_marked (slice_get rest i) lines)
        → line_placed (from + size_of_op op) op.last ops left (from + suc j) ≡ line_marked (slice_get (replicate (size_of_op op - 1) no_index ++ rest) j) lines
    by (inl less) next =
        rw (in_front (size_of_op op - 1) j no_index rest less)
        (line_before (from + size_of_op op) op.last ops left (from + suc j) (omega (arith, less, two_bytes op)) ∙ sym (get_past lines no_index (omega (arith, few))))
    by (inr past) next =
        let i : ℕ = past.0 in
        let there : from + suc j ≡ from + size_of_op op + i = omega (arith, past.1, two_bytes op) in
        let mark : slice_get (replicate (size_of_op op - 1) no_index ++ rest) j ≡ slice_get rest i =
        ap (slice_get (replicate (size_of_op op - 1) no_index ++ rest)) past.1 ∙ behind (size_of_op op - 1) i no_index rest in
        rw mark (rw there (next i))

-- ---- what the readers give

zero_more : (i : ℕ) → 0 + i ≡ i
zero_more i = omega arith

tells : (b : CodeBlock) (bytes marks lines : List ℕ) (at : ℕ) → IsInPlace b bytes marks lines → Tells (slice_get marks at) at (op_at (drop at bytes)) (op_placed 0 b.code at)
tells b bytes marks lines at h =
    let few : 0 + end_marks b.code < no_index = omega (arith, few_statements b.code, h.small.code) in
    let here : Tells (slice_get (marks_from 0 true b.code) at) at (op_at (drop at (code_bytes b.code))) (op_placed 0 b.code at) =
    subst (λ (k : ℕ). Tells (slice_get (marks_from 0 true b.code) at) k (op_at (drop at (code_bytes b.code))) (op_placed 0 b.code k)) (zero_more at)
    (marks_tell 0 0 true b.code at h.ops few) in
    rw h.marked (rw h.spelled here)

-- where an offset has no mark, or `no_index`, no op begins
pub op_missing : (b : CodeBlock) (bytes marks lines : List ℕ) (at : ℕ) → IsInPlace b bytes marks lines → slice_get marks at ≡ None → op_placed 0 b.code at ≡ None
op_missing b bytes marks lines at h none = (tells b bytes marks lines at h).is ∙ ap (λ (m : Option ℕ). op_marked m at (op_at (drop at bytes))) none

pub op_nowhere : (b : CodeBlock) (bytes marks lines : List ℕ) (at mark : ℕ) → IsInPlace b bytes marks lines → slice_get marks at ≡ Some mark → mark ≡ no_index → op_placed 0 b.code at ≡ None
op_nowhere b bytes marks lines at mark h there is =
    (tells b bytes marks lines at h).is ∙ ap (λ (m : Option ℕ). op_marked m at (op_at (drop at bytes))) (there ∙ ap (λ (m : ℕ). Some m) is)

-- where it has another mark the bytes begin with the op that begins there
pub op_known : (b : CodeBlock) (bytes marks lines : List ℕ) (at mark : ℕ) → IsInPlace b bytes marks lines → slice_get marks at ≡ Some mark → (mark ≡ no_index → ⊥) → is_some (op_at (drop at bytes)) ≡ true
op_known b bytes marks lines at mark h there begins = (tells b bytes marks lines at h).known mark there (ne_eqb mark no_index begins)

pub op_there : (b : CodeBlock) (bytes marks lines : List ℕ) (at mark : ℕ) → IsInPlace b bytes marks lines → slice_get marks at ≡ Some mark → (mark ≡ no_index → ⊥) → op_placed 0 b.code at ≡ option_map (λ r. (r.0, at + size_of_op r.0)) (op_at (drop at bytes))
op_there b bytes marks lines at mark h there begins =
    (tells b bytes marks lines at h).is ∙ ap (λ (m : Option ℕ). op_marked m at (op_at (drop at bytes))) there
    ∙ ap (λ (t : Bool). cond t None (option_map (λ (r : OpData × List ℕ). (r.0, at + size_of_op r.0)) (op_at (drop at bytes)))) (ne_eqb mark no_index begins)

-- the line of a statement is that of its number
pub line_by_mark : (b : CodeBlock) (bytes marks lines : List ℕ) (at : ℕ) → IsInPlace b bytes marks lines → option_and_then (λ mark. slice_get lines mark) (slice_get marks at) ≡ line_placed 0 true b.code b.lines at
line_by_mark b bytes marks lines at h =
    rw h.marked (rw h.lined (sym (lines_tell 0 0 true b.code b.lines at h.small.lines) ∙ ap (line_placed 0 true b.code b.lines) (zero_more at)))

-- ops are what their bytes begin with
pub ops_are_in : (ops : List OpData) → are_ops ops ≡ true → ops_of_bytes (code_bytes ops) ≡ ops
ops_are_in ops are = ap (λ (r : List OpData × List ℕ). r.0) (ops_again (length (code_bytes ops)) ops are (omega arith))

-- a block, and the ops that were marked are its code
pub block_again : (b fields : CodeBlock) (ops : List OpData) (bytes : List ℕ) → fields ≡ b → ops ≡ fields.code → bytes ≡ code_bytes ops → are_ops ops ≡ true → (record fields { code = ops_of_bytes bytes }) ≡ b
block_again b fields ops bytes is code spelled are =
    let ops_is : ops_of_bytes bytes ≡ fields.code = ap ops_of_bytes spelled ∙ ops_are_in ops are ∙ code in
    ap (λ (z : List OpData). record fields { code = z }) ops_is ∙ is

pub in_place : (b fields : CodeBlock) (ops : List OpData) (bytes marks : List ℕ) → fields ≡ b → ops ≡ fields.code → bytes ≡ code_bytes ops → marks ≡ marks_from 0 true ops → are_ops ops ≡ true → HasSmallCode b → IsInPlace (record fields { code = ops_of_bytes bytes }) bytes marks fields.lines
in_place b fields ops bytes marks is code spelled marked are small =
    let ops_is : ops_of_bytes bytes ≡ ops = ap ops_of_bytes spelled ∙ ops_are_in ops are in record {
      ops = ap are_ops ops_is ∙ are;
      spelled = spelled ∙ sym (ap code_bytes ops_is);
      marked = marked ∙ sym (ap (marks_from 0 true) ops_is);
      lined = refl;
      small = subst HasSmallCode (sym (block_again b fields ops bytes is code spelled are)) small;
    }

pub small_at : (bs : List CodeBlock) (i : ℕ) (b : CodeBlock) → AreSmall bs → i < length bs → b ≡ get_or bs i b → HasSmallCode b
small_at [] i b h lt is = absurd (omega (arith, lt))
small_at (c ∷ bs) zero b h lt is = subst HasSmallCode (sym is) h.0
small_at (c ∷ bs) (suc i) b h lt is = small_at bs i b h.1 (omega (arith, lt)) is

-- ---- ops that are marked one behind the other

-- what was made of the ops before an op, and what is left of them
pub record IsMade (ops : List OpData) (i statements : ℕ) (begins : Bool) (bytes marks : List ℕ) : Type 0 where
  pub bytes_left : bytes ++ code_bytes (drop i ops) ≡ code_bytes ops
  pub marks_left : marks ++ marks_from statements begins (drop i ops) ≡ marks_from 0 true ops
  pub ops_left : are_ops (drop i ops) ≡ true → are_ops ops ≡ true
  pub count : statements + end_marks (drop i ops) ≡ end_marks ops

pub made_none : (ops : List OpData) (bytes marks : List ℕ) → bytes ≡ [] → marks ≡ [] → IsMade ops 0 0 true bytes marks
made_none ops bytes marks b m = rw b (rw m (record { bytes_left = refl; marks_left = refl; ops_left = λ h. h; count = omega arith }))

pub made_more : (ops : List OpData) (i statements next : ℕ) (begins last : Bool) (bytes marks more_bytes more_marks : List ℕ) (mark : ℕ) (op : OpData) → i < length ops → op ≡ get_or ops i op → IsOp op → mark ≡ cond begins statements inside_mark
    → more_bytes ≡ bytes ++ op_bytes op → more_marks ≡ marks ++ mark ∷ replicate (size_of_op op - 1) no_index → last ≡ op.last → next ≡ cond last (suc statements) statements
    → IsMade ops i statements begins bytes marks → IsMade ops (i + 1) next last more_bytes more_marks
made_more ops i statements next begins last bytes marks more_bytes more_marks mark op lt is valid mark_is b m l n h =
    let cut : drop i ops ≡ op ∷ drop (i + 1) ops = drop_next ops i op lt is in
    let left : List OpData = drop (i + 1) ops in
    let rest : List ℕ = marks_from (cond op.last (suc statements) statements) op.last left in
    let number : next ≡ cond op.last (suc statements) statements = n ∙ ap (λ (t : Bool). cond t (suc statements) statements) l in record {
      bytes_left =
          ap (λ (z : List ℕ). z ++ code_bytes left) b ∙ append_assoc bytes (op_bytes op) (code_bytes left)
          ∙ sym (ap (λ (z : List OpData). bytes ++ code_bytes z) cut) ∙ h.bytes_left;
      marks_left =
          ap (λ (z : List ℕ). z ++ marks_from next last left) m
          ∙ append_assoc marks (mark ∷ replicate (size_of_op op - 1) no_index) (marks_from next last left)
          ∙ ap (λ (k : ℕ). marks ++ k ∷ (replicate (size_of_op op - 1) no_index ++ marks_from next last left)) mark_is
          ∙ ap (λ (k : ℕ). marks ++ cond begins statements inside_mark ∷ (replicate (size_of_op op - 1) no_index ++ marks_from k last left)) number
          ∙ ap (λ (t : Bool). marks ++ cond begins statements inside_mark ∷ (replicate (size_of_op op - 1) no_index ++ marks_from (cond op.last (suc statements) statements) t left)) l
          ∙ sym (ap (λ (z : List OpData). marks ++ marks_from statements begins z) cut) ∙ h.marks_left;
      ops_left = λ are. h.ops_left (ap are_ops cut ∙ and_from (is_op op.code op.operand) (are_ops left) valid are);
      count = more op.last number (ap end_marks cut);
    }
  where
    more : (t : Bool) → next ≡ cond t (suc statements) statements → end_marks (drop i ops) ≡ cond t 1 0 + end_marks (drop (i + 1) ops) → next + end_marks (drop (i + 1) ops) ≡ end_marks ops
    more true e after = omega (arith, e, after, h.count)
    more false e after = omega (arith, e, after, h.count)

pub made_all : (ops : List OpData) (i statements : ℕ) (begins : Bool) (bytes marks : List ℕ) → length ops ≤ i → IsMade ops i statements begins bytes marks → (bytes ≡ code_bytes ops) × (marks ≡ marks_from 0 true ops) × (are_ops ops ≡ true)
made_all ops i statements begins bytes marks past h =
    let none : drop i ops ≡ [] = drop_of_length-le ops {i = i} past in (
      sym (append-nil bytes) ∙ sym (ap (λ (z : List OpData). bytes ++ code_bytes z) none) ∙ h.bytes_left,
      sym (append-nil marks) ∙ sym (ap (λ (z : List OpData). marks ++ marks_from statements begins z) none) ∙ h.marks_left,
      h.ops_left (ap are_ops none),
    )

-- there is a number left for a further statement
pub number_left : (ops : List OpData) (i statements : ℕ) (begins : Bool) (bytes marks : List ℕ) → length (code_bytes ops) ≤ no_index → IsMade ops i statements begins bytes marks → statements < no_index
number_left ops i statements begins bytes marks short h = omega (arith, short, few_statements ops, h.count)

-- ---- ops that are decoded one behind the other

-- these are the ops of a block up to an offset
pub record IsFront (ops all : List OpData) (at : ℕ) : Type 0 where
  pub rest : List OpData
  pub whole : ops ++ rest ≡ all
  pub place : at ≡ length (code_bytes ops)

pub front_none : (ops all : List OpData) → ops ≡ [] → IsFront ops all 0
front_none ops all none = rw none (record { rest = all; whole = refl; place = refl })

-- behind its front a list has its ops where the front ends
placed_behind : (from : ℕ) (front rest : List OpData) → op_placed from (front ++ rest) (from + length (code_bytes front)) ≡ op_placed (from + length (code_bytes front)) rest (from + length (code_bytes front))
placed_behind from [] rest = rw (from_zero from) refl
  where
    from_zero : (k : ℕ) → k + 0 ≡ k
    from_zero k = omega arith
placed_behind from (op ∷ front) rest =
    let end : from + length (code_bytes (op ∷ front)) ≡ from + size_of_op op + length (code_bytes front) = omega (arith, code_len op front) in
    rw (ne_eqb from (from + length (code_bytes (op ∷ front))) (omega (arith, code_len op front, two_bytes op)))
    (rw end (placed_behind (from + size_of_op op) front rest))

bytes_long : (front rest : List OpData) → length (code_bytes (front ++ rest)) ≡ length (code_bytes front) + length (code_bytes rest)
bytes_long [] rest = omega arith
bytes_long (op ∷ front) rest = omega (arith, code_len op (front ++ rest), code_len op front, bytes_long front rest)

placed_at : (ops all : List OpData) (at : ℕ) (h : IsFront ops all at) → op_placed 0 all at ≡ op_placed at h.rest at
placed_at ops all at h =
    let end : 0 + length (code_bytes ops) ≡ at = omega (arith, h.place) in
    ap (λ (z : List OpData). op_placed 0 z at) (sym h.whole) ∙ subst (λ (k : ℕ). op_placed 0 (ops ++ h.rest) k ≡ op_placed k h.rest k) end (placed_behind 0 ops h.rest)

-- the op that is found at the offset is the next one
pub front_more : (ops all now : List OpData) (at next : ℕ) (op : OpData) → op_placed 0 all at ≡ Some (op, next) → now ≡ ops ++ op ∷ [] → IsFront ops all at → IsFront now all next × (at < next) × (next ≤ length (code_bytes all))
front_more ops all now at next op found is h = by h.rest refl (sym (placed_at ops all at h) ∙ found)
  where
    by : (rest : List OpData) → h.rest ≡ rest → op_placed at rest at ≡ Some (op, next) → IsFront now all next × (at < next) × (next ≤ length (code_bytes all))
    by [] e there = absurd cc
    by (o ∷ rest) e there =
        let here : ◌≡◌ {A = Option (OpData × ℕ)} (Some (o, at + size_of_op o)) (Some (op, next)) = sym (rw (eq-eqb at at refl) refl) ∙ there in
        let pair = same_Some (o, at + size_of_op o) (op, next) here in
        let op_is : o ≡ op = ap (λ (z : OpData × ℕ). z.0) pair in
        let next_is : at + size_of_op o ≡ next = ap (λ (z : OpData × ℕ). z.1) pair in
        let all_is : ops ++ o ∷ rest ≡ all = ap (λ (z : List OpData). ops ++ z) (sym e) ∙ h.whole in
        let end : length (code_bytes (ops ++ o ∷ [])) ≡ length (code_bytes ops) + length (code_bytes (o ∷ [])) = bytes_long ops (o ∷ []) in
        let one = code_len o [] in
        let long : length (code_bytes all) ≡ length (code_bytes ops) + length (code_bytes (o ∷ rest)) = ap (λ (z : List OpData). length (code_bytes z)) (sym all_is) ∙ bytes_long ops (o ∷ rest) in
        let first = code_len o rest in
        let two = two_bytes o in
        let now_is : now ≡ ops ++ o ∷ [] = is ∙ ap (λ (z : OpData). ops ++ z ∷ []) (sym op_is) in (
          record {
            rest = rest;
            whole = ap (λ (z : List OpData). z ++ rest) now_is ∙ append_assoc ops (o ∷ []) rest ∙ all_is;
            place = omega (arith, next_is, h.place, end, one) ∙ ap (λ (z : List OpData). length (code_bytes z)) (sym now_is);
          },
          omega (arith, next_is, two),
          omega (arith, next_is, h.place, long, first),
        )

-- where none is found these are all
pub front_all : (ops all : List OpData) (at : ℕ) → op_placed 0 all at ≡ None → IsFront ops all at → ops ≡ all
front_all ops all at none h = by h.rest refl (sym (placed_at ops all at h) ∙ none)
  where
    by : (rest : List OpData) → h.rest ≡ rest → op_placed at rest at ≡ None → ops ≡ all
    by [] e there = sym (append-nil ops) ∙ ap (λ (z : List OpData). ops ++ z) (sym e) ∙ h.whole
    by (o ∷ rest) e there =
        let met : ◌≡◌ {A = Option (OpData × ℕ)} None (Some (o, at + size_of_op o)) = sym there ∙ rw (eq-eqb at at refl) refl in
        absurd cc
