-- Tables by which statements, data blocks and called blocks are found.
use Rattle.std.proofs.Common.{◌⊎◌, ◌≡◌, ℕ, suc, ◌+◌, ◌*◌, ◌<◌, ◌≤◌, Bool, true, false, cond, eqb, ltb, ◌&&◌, List, [], ◌∷◌, length, map, drop, get_or, set, slice_get, drop-cons, add-one, Option, Some, None, option_map, option_and_then, refl, sym, ap, ◌∙◌, arith, inl, inr}
use Rattle.std.proofs.lemmas.Bool.{eqb-true, eqb-false, eq-eqb, ne_eqb, lt-ltb, cases_lt}
use Rattle.std.proofs.lemmas.List.{get_or-set_same, get_or-set_other, length-set, length-map}
use Rattle.std.proofs.lemmas.Option.{slice_get-get_or}
use Rattle.std.proofs.Math.ListN.{drop_of_length-le}
use Rattle.plc_base.proofs.ListLemmas.{get_past}
use Rattle.plc_base.specs.Kinds.{kind_number}
use Rattle.plc_base.specs.declared.blocks.BlockKind.TheVariants as kinds
use Rattle.flat_code.specs.Ops.{OpData}
use Rattle.flat_code.specs.Codes.{size_of_op, code_bytes}
use Rattle.flat_code.specs.declared.image_fields.OpenBracket.{OpenBracket}
use Rattle.flat_code.specs.Blocks.{BlockSignature, block_with, callee_of_block, length_of_data}
use Rattle.flat_code.specs.PlacedOps.{StatementStart, starts_of_statements, statement_starts_from, statement_start_at, codes_of_few_brackets, brackets_after, zones_behind_op}
use Rattle.image_file.specs.Tables.{start_index, no_index, table_entry, IsTableOf, FindsStatements, FindsLens, call_key, found_callee, FindsCallees}
use Rattle.image_file.proofs.CheckLemmas.{code_len}
use Rattle.image_file.proofs.MarkLemmas.{two_bytes}

-- a table holds the places of the starts from one on
pub record Holds (starts : List ℕ) (len i : ℕ) (table : List ℕ) : Type 0 where
  pub size : length table ≡ len
  pub places : (at : ℕ) → at < len → get_or table at no_index ≡ table_entry (option_map (λ p. i + p) (start_index at (drop i starts)))

pub holds_none : (starts : List ℕ) (len i : ℕ) (table : List ℕ) → length starts ≤ i → length table ≡ len → ((at : ℕ) → at < len → get_or table at no_index ≡ no_index) → Holds starts len i table
holds_none starts len i table past size none = record {
  size = size;
  places = λ at lt. none at lt ∙ sym (ap (λ (z : List ℕ). table_entry (option_map (λ p. i + p) (start_index at z))) (drop_of_length-le starts {i = i} past));
}

moved : (i : ℕ) (o : Option ℕ) → table_entry (option_map (λ p. i + 1 + p) o) ≡ table_entry (option_map (λ p. i + p) (option_map suc o))
moved i None = refl
moved i (Some k) = omega arith

-- the start next before is put into the table
pub holds_more : (starts table after : List ℕ) (len i at : ℕ) → i < length starts → at ≡ get_or starts i 0 → after ≡ cond (ltb at (length table)) (set table at i) table → Holds starts len (i + 1) table → Holds starts len i after
holds_more starts table after len i at lt is put h = record {
  size = size_is (ltb at (length table)) put;
  places = λ q within.
      let cut : drop i starts ≡ at ∷ drop (i + 1) starts = rw add-one (drop-cons starts i 0 lt ∙ ap (λ (z : ℕ). z ∷ drop (suc i) starts) (sym is)) in
      by q within (eqb at q) refl ∙ sym (ap (λ (z : List ℕ). table_entry (option_map (λ p. i + p) (start_index q z))) cut);
}
  where
    size_is : (b : Bool) → after ≡ cond b (set table at i) table → length after ≡ len
    size_is true e = ap length e ∙ length-set table at i ∙ h.size
    size_is false e = ap length e ∙ h.size

    there : (q : ℕ) → q < len → at ≡ q → get_or after q no_index ≡ i
    there q within same =
        let in_table : at < length table = omega (arith, within, same, h.size) in
        let written : after ≡ set table at i = put ∙ ap (λ (b : Bool). cond b (set table at i) table) (lt-ltb at (length table) in_table) in
        ap (λ (z : List ℕ). get_or z q no_index) written ∙ ap (λ (k : ℕ). get_or (set table at i) k no_index) (sym same) ∙ get_or-set_same table at i no_index in_table

    other : (q : ℕ) → (q ≡ at → ⊥) → (b : Bool) → after ≡ cond b (set table at i) table → get_or after q no_index ≡ get_or table q no_index
    other q differs true e = ap (λ (z : List ℕ). get_or z q no_index) e ∙ get_or-set_other table at q i no_index differs
    other q differs false e = ap (λ (z : List ℕ). get_or z q no_index) e

    by : (q : ℕ) → q < len → (b : Bool) → eqb at q ≡ b → get_or after q no_index ≡ table_entry (option_map (λ p. i + p) (cond b (Some 0) (option_map suc (start_index q (drop (i + 1) starts)))))
    by q within true e = there q within (eqb-true at q e) ∙ omega arith
    by q within false e = other q (λ s. eqb-false at q e (sym s)) (ltb at (length table)) put ∙ h.places q within ∙ moved i (start_index q (drop (i + 1) starts))

pub holds_all : (starts table : List ℕ) (len : ℕ) → length starts ≤ no_index → Holds starts len 0 table → IsTableOf starts len table
holds_all starts table len few h = record { size = h.size; few = few; places = λ at lt. h.places at lt ∙ same (start_index at starts) }
  where
    same : (o : Option ℕ) → table_entry (option_map (λ p. 0 + p) o) ≡ table_entry o
    same None = refl
    same (Some k) = omega arith

-- ---- other lists, found by a table

-- by a table the place of a key is found, and past it nothing
pub by_table : {A : Type 0} (xs : List A) (keys : List ℕ) (len : ℕ) (table : List ℕ) → IsTableOf keys len table → length xs ≡ length keys → (key : ℕ) → key < len → option_and_then (λ place. slice_get xs place) (slice_get table key) ≡ option_and_then (λ place. slice_get xs place) (start_index key keys)
by_table {A = A} xs keys len table t count key within =
    ap (λ (o : Option ℕ). option_and_then (λ place. slice_get xs place) o) (slice_get-get_or table key no_index (omega (arith, within, t.size)))
    ∙ by (start_index key keys) (t.places key within)
  where
    by : (o : Option ℕ) → get_or table key no_index ≡ table_entry o → slice_get xs (get_or table key no_index) ≡ option_and_then (λ place. slice_get xs place) o
    by None e = get_past xs (get_or table key no_index) (omega (arith, e, count, t.few))
    by (Some place) e = ap (λ (k : ℕ). slice_get xs k) e

-- a statement at its place
start_moved : (s : StatementStart) (ss : List StatementStart) (o : Option ℕ) → option_and_then (λ place. slice_get (s ∷ ss) place) (option_map suc o) ≡ option_and_then (λ place. slice_get ss place) o
start_moved s ss None = refl
start_moved s ss (Some k) = refl

starts_found : (ss : List StatementStart) (at : ℕ) → option_and_then (λ place. slice_get ss place) (start_index at (map (λ z. z.at) ss)) ≡ statement_start_at ss at
starts_found [] at = refl
starts_found (s ∷ ss) at = by (eqb s.at at) (starts_found ss at)
  where
    by : (b : Bool) → option_and_then (λ place. slice_get ss place) (start_index at (map (λ z. z.at) ss)) ≡ statement_start_at ss at
        → option_and_then (λ place. slice_get (s ∷ ss) place) (cond b (Some 0) (option_map suc (start_index at (map (λ z. z.at) ss)))) ≡ cond b (Some s) (statement_start_at ss at)
    by true more = refl
    by false more = start_moved s ss (start_index at (map (λ z. z.at) ss)) ∙ more

starts_end : (from : ℕ) (begin : Bool) (brackets : List OpenBracket) (zones : List ℕ) (ops : List OpData) (at : ℕ) → from + length (code_bytes ops) ≤ at → statement_start_at (statement_starts_from from begin brackets zones ops) at ≡ None
starts_end from begin brackets zones [] at past = refl
starts_end from begin brackets zones (op ∷ ops) at past =
    let len = code_len op ops in
    let p = two_bytes op in
    by begin (ne_eqb from at (λ e. omega (arith, e, p, len, past))) (starts_end (from + size_of_op op) op.last (brackets_after from op.code brackets) (zones_behind_op from op.code zones) ops at (omega (arith, len, past)))
  where
    behind : List StatementStart
    behind = statement_starts_from (from + size_of_op op) op.last (brackets_after from op.code brackets) (zones_behind_op from op.code zones) ops

    by : (b : Bool) → eqb from at ≡ false → statement_start_at behind at ≡ None → statement_start_at (cond b (record { at = from; codes = codes_of_few_brackets brackets; zones = length zones } ∷ behind) behind) at ≡ None
    by true f more = rw f more
    by false f more = more

pub finds_statements : (ops : List OpData) (ss : List StatementStart) (keys : List ℕ) (len : ℕ) (table : List ℕ) → ss ≡ starts_of_statements ops → keys ≡ map (λ z. z.at) ss → len ≡ length (code_bytes ops) → IsTableOf keys len table → FindsStatements ss table
finds_statements ops ss keys len table is keys_is len_is t at = by (cases_lt at len)
  where
    by : (at < len) ⊎ (len ≤ at) → option_and_then (λ place. slice_get ss place) (slice_get table at) ≡ statement_start_at ss at
    by (inl within) =
        by_table ss keys len table t (sym (ap length keys_is ∙ length-map ss (λ z. z.at))) at within
        ∙ ap (λ (z : List ℕ). option_and_then (λ place. slice_get ss place) (start_index at z)) keys_is
        ∙ starts_found ss at
    by (inr past) =
        ap (λ (o : Option ℕ). option_and_then (λ place. slice_get ss place) o) (get_past table at (omega (arith, past, t.size)))
        ∙ sym (ap (λ (z : List StatementStart). statement_start_at z at) is ∙ starts_end 0 true [] [] ops at (omega (arith, past, len_is)))

-- a length at its place
len_moved : (d : ℕ × ℕ) (ds : List (ℕ × ℕ)) (o : Option ℕ) → option_map (λ z. z.1) (option_and_then (λ place. slice_get (d ∷ ds) place) (option_map suc o)) ≡ option_map (λ z. z.1) (option_and_then (λ place. slice_get ds place) o)
len_moved d ds None = refl
len_moved d ds (Some k) = refl

lens_found : (ds : List (ℕ × ℕ)) (number : ℕ) → option_map (λ z. z.1) (option_and_then (λ place. slice_get ds place) (start_index number (map (λ z. z.0) ds))) ≡ length_of_data number ds
lens_found [] number = refl
lens_found (d ∷ ds) number = by (eqb d.0 number) (lens_found ds number)
  where
    by : (b : Bool) → option_map (λ z. z.1) (option_and_then (λ place. slice_get ds place) (start_index number (map (λ z. z.0) ds))) ≡ length_of_data number ds
        → option_map (λ z. z.1) (option_and_then (λ place. slice_get (d ∷ ds) place) (cond b (Some 0) (option_map suc (start_index number (map (λ z. z.0) ds))))) ≡ cond b (Some d.1) (length_of_data number ds)
    by true more = refl
    by false more = len_moved d ds (start_index number (map (λ z. z.0) ds)) ∙ more

pub finds_lens : (ds : List (ℕ × ℕ)) (keys : List ℕ) (len : ℕ) (table : List ℕ) → keys ≡ map (λ z. z.0) ds → 65536 ≤ len → IsTableOf keys len table → FindsLens ds table
finds_lens ds keys len table keys_is room t number small =
    ap (option_map (λ z. z.1)) (by_table ds keys len table t (sym (ap length keys_is ∙ length-map ds (λ z. z.0))) number (omega (arith, small, room)))
    ∙ ap (λ (z : List ℕ). option_map (λ y. y.1) (option_and_then (λ place. slice_get ds place) (start_index number z))) keys_is
    ∙ lens_found ds number

-- a block at its place
callee_moved : (b : BlockSignature) (bs : List BlockSignature) (o : Option ℕ) → option_map callee_of_block (option_and_then (λ place. slice_get (b ∷ bs) place) (option_map suc o)) ≡ option_map callee_of_block (option_and_then (λ place. slice_get bs place) o)
callee_moved b bs None = refl
callee_moved b bs (Some k) = refl

callees_found : (bs : List BlockSignature) (kind number key : ℕ) → ((b : BlockSignature) → eqb (call_key b) key ≡ (eqb b.kind kind && eqb b.number number)) → option_map callee_of_block (option_and_then (λ place. slice_get bs place) (start_index key (map call_key bs))) ≡ block_with kind number bs
callees_found [] kind number key tell = refl
callees_found (b ∷ bs) kind number key tell = by (eqb (call_key b) key) (tell b) (callees_found bs kind number key tell)
  where
    by : (t : Bool) → t ≡ (eqb b.kind kind && eqb b.number number) → option_map callee_of_block (option_and_then (λ place. slice_get bs place) (start_index key (map call_key bs))) ≡ block_with kind number bs
        → option_map callee_of_block (option_and_then (λ place. slice_get (b ∷ bs) place) (cond t (Some 0) (option_map suc (start_index key (map call_key bs))))) ≡ cond (eqb b.kind kind && eqb b.number number) (Some (callee_of_block b)) (block_with kind number bs)
    by true e more = rw (sym e) refl
    by false e more = rw (sym e) (callee_moved b bs (start_index key (map call_key bs)) ∙ more)

same_tests : (x y : Bool) → (x ≡ true → y ≡ true) → (y ≡ true → x ≡ true) → x ≡ y
same_tests true true f g = refl
same_tests true false f g = sym (f refl)
same_tests false true f g = g refl
same_tests false false f g = refl

key_of_function : (number : ℕ) → number < 65536 → (b : BlockSignature) → eqb (call_key b) (2 * number) ≡ (eqb b.kind (kind_number kinds.Fc) && eqb b.number number)
key_of_function number small b = by (eqb b.kind (kind_number kinds.Fc)) (eqb b.kind (kind_number kinds.Fb))
  where
    by : (f g : Bool) → eqb (cond f (2 * b.number) (cond g (2 * b.number + 1) 131072)) (2 * number) ≡ (f && eqb b.number number)
    by true g = same_tests (eqb (2 * b.number) (2 * number)) (eqb b.number number)
        (λ e. let s = eqb-true (2 * b.number) (2 * number) e in eq-eqb b.number number (omega (arith, s)))
        (λ e. let s = eqb-true b.number number e in eq-eqb (2 * b.number) (2 * number) (omega (arith, s)))
    by false true = ne_eqb (2 * b.number + 1) (2 * number) (λ e. omega (arith, e))
    by false false = ne_eqb 131072 (2 * number) (λ e. omega (arith, e, small))

key_of_function_block : (number : ℕ) → number < 65536 → (b : BlockSignature) → eqb (call_key b) (2 * number + 1) ≡ (eqb b.kind (kind_number kinds.Fb) && eqb b.number number)
key_of_function_block number small b = by_kind (eqb b.kind (kind_number kinds.Fc)) refl
  where
    by_block : (g : Bool) → eqb (cond g (2 * b.number + 1) 131072) (2 * number + 1) ≡ (g && eqb b.number number)
    by_block true = same_tests (eqb (2 * b.number + 1) (2 * number + 1)) (eqb b.number number)
        (λ e. let s = eqb-true (2 * b.number + 1) (2 * number + 1) e in eq-eqb b.number number (omega (arith, s)))
        (λ e. let s = eqb-true b.number number e in eq-eqb (2 * b.number + 1) (2 * number + 1) (omega (arith, s)))
    by_block false = ne_eqb 131072 (2 * number + 1) (λ e. omega (arith, e, small))

    by_kind : (f : Bool) → eqb b.kind (kind_number kinds.Fc) ≡ f → eqb (cond f (2 * b.number) (cond (eqb b.kind (kind_number kinds.Fb)) (2 * b.number + 1) 131072)) (2 * number + 1) ≡ (eqb b.kind (kind_number kinds.Fb) && eqb b.number number)
    by_kind true e =
        let kind = eqb-true b.kind (kind_number kinds.Fc) e in
        let other : eqb b.kind (kind_number kinds.Fb) ≡ false = ne_eqb b.kind (kind_number kinds.Fb) (λ z. omega (arith, z, kind)) in
        rw other (ne_eqb (2 * b.number) (2 * number + 1) (λ z. omega (arith, z)))
    by_kind false e = by_block (eqb b.kind (kind_number kinds.Fb))

pub finds_callees : (bs : List BlockSignature) (keys table : List ℕ) → keys ≡ map call_key bs → IsTableOf keys 131072 table → FindsCallees bs table
finds_callees bs keys table keys_is t = record {
  functions = λ number small. found (kind_number kinds.Fc) number (2 * number) (omega (arith, small)) (key_of_function number small);
  function_blocks = λ number small. found (kind_number kinds.Fb) number (2 * number + 1) (omega (arith, small)) (key_of_function_block number small);
}
  where
    found : (kind number key : ℕ) → key < 131072 → ((b : BlockSignature) → eqb (call_key b) key ≡ (eqb b.kind kind && eqb b.number number)) → found_callee bs table key ≡ block_with kind number bs
    found kind number key small tell =
        ap (option_map callee_of_block) (by_table bs keys 131072 table t (sym (ap length keys_is ∙ length-map bs call_key)) key small)
        ∙ ap (λ (z : List ℕ). option_map callee_of_block (option_and_then (λ place. slice_get bs place) (start_index key z))) keys_is
        ∙ callees_found bs kind number key tell
