-- The local bytes of each frame by itself: what opening, closing, reading and writing make of them.
use Rattle.std.proofs.Common.{◌≡◌, ◌≢◌, ◌∙◌, ◌⊎◌, inl, inr, ℕ, zero, suc, ◌+◌, ◌-◌, ◌/◌, ◌%◌, ◌^◌, ◌<◌, ◌≤◌, Bool, true, false, cond, ◌&&◌, List, [], ◌∷◌, ◌++◌, length, take, drop, set, replicate, slice_get, slice_index, slice_range, nat_lt, nat_le, unwrap_or, Option, Some, None, MatchOption, option_and_then, refl, sym, ap, subst, arith, rules, add-one, add-zero, add_assoc, zero-add, suc-add, lit<}
use Rattle.std.specs.List.{concat}
use Rattle.std.specs.Option.{option_map}
use Rattle.std.proofs.lemmas.Bool.{lt-ltb, leb-true, le-leb}
use Rattle.std.proofs.lemmas.Bool.Decides.{nat_tests}
use Rattle.std.proofs.lemmas.List.{drop-drop, drop-set-add, drop-set-lt, drop-take, drop_all, drop_at, length-drop, length-take, length-take-le, length_push, places, get_or-take, get_or-drop, take-append-drop, take-set-le, take-take, take_at, take_rest}
use Rattle.std.proofs.lemmas.Option.{slice_get_past}
use Rattle.plc_base.specs.declared.Width.{Width}
use Rattle.plc_base.specs.declared.Width.TheVariants.{Bit, Byte, Word, Dword}
use Rattle.plc_base.specs.Widths.{byte_count}
use Rattle.plc_mem.specs.Bits.{bit_of_byte}
use Rattle.plc_mem.specs.Run.{number_over, operand_bit_of}
use Rattle.plc_mem.specs.Writing.{is_within, put_number, bytes_with_number, byte_with_bit}
use Rattle.plc_mem.proofs.Numbers.{run_none, weights_same}
use Rattle.plc_mem.proofs.StoredNumbers.{length-stored}
use Rattle.frames.specs.Locals.{LocalData, no_locals, frame_bytes_end, local_number, local_written, open_locals, close_locals, close_locals_at, last_start}
use Rattle.frames.specs.OwnBytes.{IsLaidOut, IsOwnWritten, frame_bytes, own_bytes, bytes_cut}

-- ---- where the pieces begin

-- where the piece at a place begins; past the last, where all end
abbrev begin : (starts : List ℕ) (end k : ℕ) → ℕ
begin starts end k = unwrap_or (slice_get starts k) end

-- none ends before it begins
abbrev Rises : (starts : List ℕ) (end : ℕ) → Type 0
Rises starts end = (k : ℕ) → begin starts end k ≤ begin starts end (suc k)

begin_past : (starts : List ℕ) (end k : ℕ) → length starts ≤ k → begin starts end k ≡ end
begin_past starts end k past = ap (λ (o : Option ℕ). unwrap_or o end) (slice_get_past starts k past)

begin_is : (starts : List ℕ) (end k start : ℕ) → slice_get starts k ≡ Some start → begin starts end k ≡ start
begin_is starts end k start is = ap (λ (o : Option ℕ). unwrap_or o end) is

-- with one more behind them, where that is where they ended
begin_push : (starts : List ℕ) (s end k : ℕ) → k ≤ length starts → begin (starts ++ s ∷ []) end k ≡ begin starts s k
begin_push [] s end zero le = refl
begin_push [] s end (suc k) le = absurd (omega (arith, le))
begin_push (x ∷ starts) s end zero le = refl
begin_push (x ∷ starts) s end (suc k) le = begin_push starts s end k (omega (arith, le))

begin_push_past : (starts : List ℕ) (s end k : ℕ) → length starts < k → begin (starts ++ s ∷ []) end k ≡ end
begin_push_past starts s end k past =
    let long : length (starts ++ s ∷ []) ≡ length starts + 1 = length_push starts s in
    begin_past (starts ++ s ∷ []) end k (omega (arith, long, past))

climb : (starts : List ℕ) (end : ℕ) → Rises starts end → (d i j : ℕ) → j ≡ i + d
    → begin starts end i ≤ begin starts end j
climb starts end rises zero i j is =
    let same : j ≡ i = omega (arith, is) in
    let e : begin starts end j ≡ begin starts end i = ap (begin starts end) same in omega (arith, e)
climb starts end rises (suc d) i j is =
    let one = rises i in
    let more = climb starts end rises d (suc i) j (omega (arith, is)) in
    omega (arith, one, more)

later : (starts : List ℕ) (end : ℕ) → Rises starts end → (i j : ℕ) → i ≤ j → begin starts end i ≤ begin starts end j
later starts end rises i j le = climb starts end rises (j - i) i j (omega (arith, le))

-- none begins past the end of all
before_end : (starts : List ℕ) (end : ℕ) → Rises starts end → (k : ℕ) → begin starts end k ≤ end
before_end starts end rises k =
    let up = later starts end rises k (k + length starts) (omega arith) in
    let last = begin_past starts end (k + length starts) (omega arith) in
    omega (arith, up, last)

below_or_from : (n m : ℕ) → (n < m) ⊎ (m ≤ n)
below_or_from n m = grind arith

same_or_past : (n m : ℕ) → m ≤ n → (n ≡ m) ⊎ (m < n)
same_or_past n m h = grind arith

rises_push : (starts : List ℕ) (s end : ℕ) → Rises starts s → s ≤ end → Rises (starts ++ s ∷ []) end
rises_push starts s end rises le k =
    elim (below_or_from k (length starts)) [
      | inl below ↦
          let here = begin_push starts s end k (omega (arith, below)) in
          let next = begin_push starts s end (suc k) (omega (arith, below)) in
          let up = rises k in
          omega (arith, here, next, up)
      | inr from ↦
          let next = begin_push_past starts s end (suc k) (omega (arith, from)) in
          elim (same_or_past k (length starts) from) [
            | inl last ↦
                let here = begin_push starts s end k (omega (arith, last)) in
                let is = begin_past starts s k from in
                omega (arith, here, is, next, le)
            | inr past ↦ let here = begin_push_past starts s end k past in omega (arith, here, next)
          ]
    ]

rises_front : (starts : List ℕ) (s end : ℕ) → Rises (starts ++ s ∷ []) end → Rises starts s
rises_front starts s end rises k =
    elim (below_or_from k (length starts)) [
      | inl below ↦
          let here = begin_push starts s end k (omega (arith, below)) in
          let next = begin_push starts s end (suc k) (omega (arith, below)) in
          let up = rises k in
          omega (arith, here, next, up)
      | inr from ↦
          let here = begin_past starts s k from in
          let next = begin_past starts s (suc k) (omega (arith, from)) in
          omega (arith, here, next)
    ]

last_before_end : (starts : List ℕ) (s end : ℕ) → Rises (starts ++ s ∷ []) end → s ≤ end
last_before_end starts s end rises =
    let here = begin_push starts s end (length starts) (omega arith) in
    let is = begin_past starts s (length starts) (omega arith) in
    let up = before_end (starts ++ s ∷ []) end rises (length starts) in
    omega (arith, here, is, up)

-- the first begins where it did, where that one more is where they ended
first_push : (starts : List ℕ) (s end : ℕ) → begin (starts ++ s ∷ []) end 0 ≡ begin starts s 0
first_push starts s end = begin_push starts s end 0 (omega arith)

rises_from : (l : LocalData) → IsLaidOut l → Rises l.starts (length l.bytes)
rises_from l laid k =
    let up = laid.rises k in
    let next : begin l.starts (length l.bytes) (k + 1) ≡ begin l.starts (length l.bytes) (suc k) =
    ap (begin l.starts (length l.bytes)) (add-one k) in
    omega (arith, up, next)

laid_from : (l : LocalData) → begin l.starts (length l.bytes) 0 ≡ 0 → Rises l.starts (length l.bytes) → IsLaidOut l
laid_from l first rises = record {
  begins = first;
  rises = λ k.
      let up = rises k in
      let next : begin l.starts (length l.bytes) (k + 1) ≡ begin l.starts (length l.bytes) (suc k) =
      ap (begin l.starts (length l.bytes)) (add-one k) in
      omega (arith, up, next);
}

-- ---- each piece

pub piece_is :
    (starts bytes : List ℕ) (k : ℕ)
    → slice_get (bytes_cut starts bytes) k
    ≡ option_map (λ start. slice_range bytes start (begin starts (length bytes) (suc k))) (slice_get starts k)
piece_is [] bytes k = refl
piece_is (s ∷ rest) bytes zero = refl
piece_is (s ∷ rest) bytes (suc k) = piece_is rest bytes k

pub each_is : (l : LocalData) (frame : ℕ) → slice_get (own_bytes l) frame ≡ frame_bytes l frame
each_is l frame =
    piece_is l.starts l.bytes frame
    ∙ ap (λ (n : ℕ). option_map (λ start. slice_range l.bytes start (begin l.starts (length l.bytes) n)) (slice_get l.starts frame)) (sym (add-one frame))

-- a range and what is behind it
range_and_rest : (xs : List ℕ) (a b : ℕ) → a ≤ b → slice_range xs a b ++ drop b xs ≡ drop a xs
range_and_rest xs a b le =
    let to : a + (b - a) ≡ b = omega (arith, le) in
    let rest : drop (b - a) (drop a xs) ≡ drop b xs = drop-drop (b - a) a xs ∙ ap (λ (n : ℕ). drop n xs) to in
    ap (λ (ys : List ℕ). slice_range xs a b ++ ys) (sym rest) ∙ take-append-drop (b - a) (drop a xs)

-- the pieces, one behind the other
concat_pieces :
    (starts bytes : List ℕ) → Rises starts (length bytes)
    → concat (bytes_cut starts bytes) ≡ drop (begin starts (length bytes) 0) bytes
concat_pieces [] bytes rises = sym (drop_all (length bytes) bytes (omega arith))
concat_pieces (s ∷ rest) bytes rises =
    let more = concat_pieces rest bytes (λ k. rises (suc k)) in
    ap (λ (ys : List ℕ). slice_range bytes s (begin rest (length bytes) 0) ++ ys) more
    ∙ range_and_rest bytes s (begin rest (length bytes) 0) (rises 0)

pub together : (l : LocalData) → IsLaidOut l → concat (own_bytes l) ≡ l.bytes
together l laid =
    concat_pieces l.starts l.bytes (rises_from l laid) ∙ ap (λ (n : ℕ). drop n l.bytes) laid.begins

-- ---- one piece more

-- a range ends within what is kept
range_in_front : (xs : List ℕ) (a b s : ℕ) → a ≤ b → b ≤ s → slice_range xs a b ≡ slice_range (take s xs) a b
range_in_front xs a b s le within =
    let to : a + (s - a) ≡ s = omega (arith, le, within) in
    let front : drop a (take s xs) ≡ take (s - a) (drop a xs) =
    ap (λ (n : ℕ). drop a (take n xs)) (sym to) ∙ drop-take a (s - a) xs in
    sym (ap (λ (ys : List ℕ). take (b - a) ys) front ∙ take-take (b - a) (s - a) (drop a xs) (omega (arith, le, within)))

pieces_push :
    (starts : List ℕ) (s : ℕ) (bytes : List ℕ) → Rises (starts ++ s ∷ []) (length bytes)
    → bytes_cut (starts ++ s ∷ []) bytes ≡ bytes_cut starts (take s bytes) ++ drop s bytes ∷ []
pieces_push [] s bytes rises = ap (λ (ys : List ℕ). ys ∷ []) (take_rest bytes s)
pieces_push (a ∷ rest) s bytes rises =
    let behind : Rises (rest ++ s ∷ []) (length bytes) = λ k. rises (suc k) in
    let within : s ≤ length bytes = last_before_end rest s (length bytes) behind in
    let size : length (take s bytes) ≡ s = length-take-le s bytes within in
    let next : begin (rest ++ s ∷ []) (length bytes) 0 ≡ begin rest s 0 = first_push rest s (length bytes) in
    let up : a ≤ begin (rest ++ s ∷ []) (length bytes) 0 = rises 0 in
    let low : begin rest s 0 ≤ s = before_end rest s (rises_front rest s (length bytes) behind) 0 in
    let front : slice_range bytes a (begin (rest ++ s ∷ []) (length bytes) 0)
    ≡ slice_range (take s bytes) a (begin rest (length (take s bytes)) 0) =
    ap (slice_range bytes a) next
    ∙ range_in_front bytes a (begin rest s 0) s (omega (arith, up, next)) low
    ∙ ap (λ (n : ℕ). slice_range (take s bytes) a (begin rest n 0)) (sym size) in
    ap (λ (ys : List ℕ). ys ∷ bytes_cut (rest ++ s ∷ []) bytes) front
    ∙ ap (λ (p : List (List ℕ)). slice_range (take s bytes) a (begin rest (length (take s bytes)) 0) ∷ p) (pieces_push rest s bytes behind)

-- ---- opening and closing

pub none_laid : IsLaidOut no_locals
none_laid = record { begins = refl; rises = λ k. omega arith }

pub opened_own :
    (len : ℕ) (l : LocalData) → IsLaidOut l
    → IsLaidOut (open_locals len l) × (own_bytes (open_locals len l) ≡ own_bytes l ++ replicate len 0 ∷ [])
opened_own len l laid =
    let zeros : List ℕ = replicate len 0 in
    let all : List ℕ = l.bytes ++ zeros in
    let more : length l.bytes ≤ length all = search (rules, places) in
    let rises = rises_push l.starts (length l.bytes) (length all) (rises_from l laid) more in (
      laid_from (open_locals len l) (first_push l.starts (length l.bytes) (length all) ∙ laid.begins) rises,
      pieces_push l.starts (length l.bytes) all rises
          ∙ ap (λ (ys : List ℕ). bytes_cut l.starts ys ++ drop (length l.bytes) all ∷ []) (take_at l.bytes zeros (length l.bytes) refl)
          ∙ ap (λ (ys : List ℕ). own_bytes l ++ ys ∷ []) (drop_at l.bytes zeros (length l.bytes) refl),
    )

-- a list is empty or has a last one
abbrev HasLast : List ℕ → Type 0
HasLast xs = (front : List ℕ) × (last : ℕ) × (xs ≡ front ++ last ∷ [])

last_or_none : (xs : List ℕ) → (xs ≡ []) ⊎ HasLast xs
last_or_none [] = inl refl
last_or_none (x ∷ rest) =
    elim (last_or_none rest) [
      | inl none ↦ inr ([], x, ap (λ (ys : List ℕ). x ∷ ys) none)
      | inr is ↦ inr (x ∷ is.0, is.1, ap (λ (ys : List ℕ). x ∷ ys) is.2)
    ]

last_at : (front : List ℕ) (s : ℕ) → slice_get (front ++ s ∷ []) (length front) ≡ Some s
last_at [] s = refl
last_at (x ∷ front) s = last_at front s

one_less : {A : Type 0} (front : List A) (x : A) → length (front ++ x ∷ []) - 1 ≡ length front
one_less front x = let e = length_push front x in omega (arith, e)

without_last : {A : Type 0} (front : List A) (x : A) → take (length (front ++ x ∷ []) - 1) (front ++ x ∷ []) ≡ front
without_last front x =
    ap (λ (n : ℕ). take n (front ++ x ∷ [])) (one_less front x) ∙ take_at front (x ∷ []) (length front) refl

closed_last :
    (front : List ℕ) (s : ℕ) (bytes : List ℕ)
    → close_locals (record { starts = front ++ s ∷ []; bytes = bytes }) ≡ record { starts = front; bytes = take s bytes }
closed_last front s bytes =
    let l : LocalData = record { starts = front ++ s ∷ []; bytes = bytes } in
    let last : last_start (front ++ s ∷ []) ≡ Some s =
    ap (slice_get (front ++ s ∷ [])) (one_less front s) ∙ last_at front s in
    ap (close_locals_at l) last
    ∙ ap (λ (z : List ℕ). let r : LocalData = record { starts = z; bytes = take s bytes } in r) (without_last front s)

abbrev IsClosed : LocalData → Type 0
IsClosed l = IsLaidOut (close_locals l) × (own_bytes (close_locals l) ≡ take (length (own_bytes l) - 1) (own_bytes l))

closed_none : (bytes : List ℕ) → (let l : LocalData = record { starts = []; bytes = bytes } in IsLaidOut l → IsClosed l)
closed_none bytes laid = (laid, refl)

closed_some :
    (front : List ℕ) (s : ℕ) (bytes : List ℕ)
    → (let l : LocalData = record { starts = front ++ s ∷ []; bytes = bytes } in IsLaidOut l → IsClosed l)
closed_some front s bytes laid =
    let l : LocalData = record { starts = front ++ s ∷ []; bytes = bytes } in
    let k : LocalData = record { starts = front; bytes = take s bytes } in
    let rises = rises_from l laid in
    let within : s ≤ length bytes = last_before_end front s (length bytes) rises in
    let size : length (take s bytes) ≡ s = length-take-le s bytes within in
    let first : begin front (length (take s bytes)) 0 ≡ 0 =
    ap (λ (n : ℕ). begin front n 0) size ∙ sym (first_push front s (length bytes)) ∙ laid.begins in
    let up : Rises front (length (take s bytes)) =
    subst (λ (n : ℕ). Rises front n) (sym size) (rises_front front s (length bytes) rises) in
    let parts = pieces_push front s bytes rises in
    let less : own_bytes k ≡ take (length (own_bytes l) - 1) (own_bytes l) =
    sym (ap (λ (p : List (List ℕ)). take (length p - 1) p) parts ∙ without_last (own_bytes k) (drop s bytes)) in
    subst
    (λ (z : LocalData). IsLaidOut z × (own_bytes z ≡ take (length (own_bytes l) - 1) (own_bytes l)))
    (sym (closed_last front s bytes))
    (laid_from k first up, less)

pub closed_own : (l : LocalData) → IsLaidOut l → IsClosed l
closed_own l laid =
    elim (last_or_none l.starts) [
      | inl none ↦
          subst (λ (z : List ℕ). let r : LocalData = record { starts = z; bytes = l.bytes } in IsLaidOut r → IsClosed r) (sym none) (closed_none l.bytes) laid
      | inr is ↦
          subst (λ (z : List ℕ). let r : LocalData = record { starts = z; bytes = l.bytes } in IsLaidOut r → IsClosed r) (sym is.2) (closed_some is.0 is.1 l.bytes) laid
    ]

-- ---- reading

get_take : (xs : List ℕ) (n i : ℕ) → i < n → slice_get (take n xs) i ≡ slice_get xs i
get_take xs zero i h = absurd (omega (arith, h))
get_take [] (suc n) i h = refl
get_take (x ∷ xs) (suc n) zero h = refl
get_take (x ∷ xs) (suc n) (suc i) h = get_take xs n i (omega (arith, h))

get_drop : (xs : List ℕ) (n i : ℕ) → slice_get (drop n xs) i ≡ slice_get xs (n + i)
get_drop xs zero i = ap (slice_get xs) (sym (zero-add i))
get_drop [] (suc n) i = refl
get_drop (x ∷ xs) (suc n) i = get_drop xs n i ∙ ap (slice_get (x ∷ xs)) (sym (suc-add n i))

range_get : (xs : List ℕ) (a b i : ℕ) → a + i < b → slice_get (slice_range xs a b) i ≡ slice_get xs (a + i)
range_get xs a b i within = get_take (drop a xs) (b - a) i (omega (arith, within)) ∙ get_drop xs a i

range_short : (xs : List ℕ) (a b : ℕ) → length (slice_range xs a b) ≤ b - a
range_short xs a b = let e = length-take (b - a) (drop a xs) in grind (arith)

range_length : (xs : List ℕ) (a b : ℕ) → b ≤ length xs → length (slice_range xs a b) ≡ b - a
range_length xs a b within =
    let left = length-drop a xs in
    length-take-le (b - a) (drop a xs) (omega (arith, left, within))

-- operands whose bytes are the same have the same number
same_bytes :
    (f g : ℕ → Option ℕ) (at here bit : ℕ) (width : Width)
    → ((i : ℕ) → i < byte_count width → f (at + i) ≡ g (here + i))
    → number_over f at bit width ≡ number_over g here bit width
unfolding number_over
same_bytes f g at here bit Bit same =
    weights_same (operand_bit_of f at bit Bit) (operand_bit_of g here bit Bit) 1
    (λ j h. ap (λ (o : Option ℕ). bit_of_byte o bit) (ap f (sym (add-zero at)) ∙ same 0 (lit< tt) ∙ ap g (add-zero here)))
same_bytes f g at here bit Byte same =
    weights_same (operand_bit_of f at bit Byte) (operand_bit_of g here bit Byte) 8
    (λ j h. ap (λ (o : Option ℕ). bit_of_byte o (j % 8)) (same (1 - 1 - j / 8) (omega arith)))
same_bytes f g at here bit Word same =
    weights_same (operand_bit_of f at bit Word) (operand_bit_of g here bit Word) 16
    (λ j h. ap (λ (o : Option ℕ). bit_of_byte o (j % 8)) (same (2 - 1 - j / 8) (omega arith)))
same_bytes f g at here bit Dword same =
    weights_same (operand_bit_of f at bit Dword) (operand_bit_of g here bit Dword) 32
    (λ j h. ap (λ (o : Option ℕ). bit_of_byte o (j % 8)) (same (4 - 1 - j / 8) (omega arith)))

-- each operand has a first byte
some_first : (width : Width) → 0 < byte_count width
some_first Bit = lit< tt
some_first Byte = lit< tt
some_first Word = lit< tt
some_first Dword = lit< tt

-- an operand that ends past a run does not lie within it
not_within : (bytes : List ℕ) (at bit : ℕ) (width : Width) → length bytes < at + byte_count width → is_within bytes at bit width ≡ false
not_within bytes at bit Bit past = let test : nat_lt at (length bytes) ≡ false = grind (arith, nat_tests) in rw test refl
not_within bytes at bit Byte past = grind (arith, nat_tests)
not_within bytes at bit Word past = grind (arith, nat_tests)
not_within bytes at bit Dword past = grind (arith, nat_tests)

leb-false : (a b : ℕ) → nat_le a b ≡ false → b < a
leb-false a b test = grind (arith, nat_tests)

-- the number of an operand that ends within a range is that of the range alone
number_in :
    (bytes : List ℕ) (start end at bit : ℕ) (width : Width) (within : Bool)
    → nat_le (start + at + byte_count width) end ≡ within
    → option_and_then (λ place. number_over (slice_get bytes) place bit width) (cond within (Some (start + at)) None)
    ≡ number_over (slice_get (slice_range bytes start end)) at bit width
number_in bytes start end at bit width true test =
    let le = leb-true (start + at + byte_count width) end test in
    same_bytes (slice_get bytes) (slice_get (slice_range bytes start end)) (start + at) at bit width
    (λ i h. ap (slice_get bytes) (add_assoc start at i) ∙ sym (range_get bytes start end (at + i) (omega (arith, le, h))))
number_in bytes start end at bit width false test =
    let past = leb-false (start + at + byte_count width) end test in
    let short = range_short bytes start end in
    let some = some_first width in
    let own : List ℕ = slice_range bytes start end in
    sym (run_none own at bit width (not_within own at bit width (omega (arith, past, short, some))))

pub number_own :
    (l : LocalData) (frame at bit : ℕ) (width : Width)
    → local_number l frame at bit width
    ≡ option_and_then (λ own. number_over (slice_get own) at bit width) (frame_bytes l frame)
unfolding local_number
number_own l frame at bit width = by (slice_get l.starts frame)
  where
    by : (o : Option ℕ)
        → option_and_then (λ place. number_over (slice_get l.bytes) place bit width)
        (option_and_then (λ start. cond (nat_le (start + at + byte_count width) (frame_bytes_end l frame)) (Some (start + at)) None) o)
        ≡ option_and_then (λ own. number_over (slice_get own) at bit width) (option_map (λ start. slice_range l.bytes start (frame_bytes_end l frame)) o)
    by None = refl
    by (Some start) =
        number_in l.bytes start (frame_bytes_end l frame) at bit width (nat_le (start + at + byte_count width) (frame_bytes_end l frame)) refl

-- ---- writing

take_of_set : (n : ℕ) (xs : List ℕ) (i v : ℕ) → take n (set xs i v) ≡ set (take n xs) i v
take_of_set zero xs i v = refl
take_of_set (suc n) [] i v = refl
take_of_set (suc n) (x ∷ xs) zero v = refl
take_of_set (suc n) (x ∷ xs) (suc i) v = ap (λ (ys : List ℕ). x ∷ ys) (take_of_set n xs i v)

-- a byte of a range, and one outside it
range_set : (xs : List ℕ) (a b i v : ℕ) → slice_range (set xs (a + i) v) a b ≡ set (slice_range xs a b) i v
range_set xs a b i v =
    ap (take (b - a)) (drop-set-add a xs i v) ∙ take_of_set (b - a) (drop a xs) i v

range_other :
    (xs : List ℕ) (a b p v : ℕ) → (b ≤ p) ⊎ (p < a) → slice_range (set xs p v) a b ≡ slice_range xs a b
range_other xs a b p v out =
    elim (below_or_from p a) [
      | inl below ↦ ap (take (b - a)) (drop-set-lt a xs p v below)
      | inr from ↦
          let to : a + (p - a) ≡ p = omega (arith, from) in
          let past : b ≤ p = elim out [ inl le ↦ le | inr below ↦ absurd (omega (arith, below, from)) ] in
          ap (λ (i : ℕ). slice_range (set xs i v) a b) (sym to)
          ∙ ap (take (b - a)) (drop-set-add a xs (p - a) v)
          ∙ take-set-le (b - a) (drop a xs) (p - a) v (omega (arith, past, from))
    ]

-- an operand that lies outside a range
abbrev IsOutsideRange : (a b p k : ℕ) → Type 0
IsOutsideRange a b p k = (b ≤ p) ⊎ (p + k ≤ a)

outside_at : (a b p k i : ℕ) → i < k → IsOutsideRange a b p k → (b ≤ p + i) ⊎ (p + i < a)
outside_at a b p k i h (inl le) = inl (omega (arith, le))
outside_at a b p k i h (inr le) = inr (omega (arith, le, h))

outside_first : (a b p k : ℕ) → 0 < k → IsOutsideRange a b p k → (b ≤ p) ⊎ (p < a)
outside_first a b p k h (inl le) = inl le
outside_first a b p k h (inr le) = inr (omega (arith, le, h))

stored_other :
    (bytes : List ℕ) (a b p bit : ℕ) (width : Width) (value : ℕ) → IsOutsideRange a b p (byte_count width)
    → slice_range (bytes_with_number bytes p bit width value) a b ≡ slice_range bytes a b
stored_other bytes a b p bit Bit value out =
    range_other bytes a b p (byte_with_bit (slice_index bytes p) bit value) (outside_first a b p 1 (lit< tt) out)
stored_other bytes a b p bit Byte value out = range_other bytes a b p value (outside_first a b p 1 (lit< tt) out)
stored_other bytes a b p bit Word value out =
    let one = set bytes p (value / 2 ^ 8) in
    range_other one a b (p + 1) (value % 2 ^ 8) (outside_at a b p 2 1 (lit< tt) out)
    ∙ range_other bytes a b p (value / 2 ^ 8) (outside_first a b p 2 (lit< tt) out)
stored_other bytes a b p bit Dword value out =
    let one = set bytes p (value / 2 ^ 24) in
    let two = set one (p + 1) (value / 2 ^ 16 % 2 ^ 8) in
    let three = set two (p + 2) (value / 2 ^ 8 % 2 ^ 8) in
    range_other three a b (p + 3) (value % 2 ^ 8) (outside_at a b p 4 3 (lit< tt) out)
    ∙ range_other two a b (p + 2) (value / 2 ^ 8 % 2 ^ 8) (outside_at a b p 4 2 (lit< tt) out)
    ∙ range_other one a b (p + 1) (value / 2 ^ 16 % 2 ^ 8) (outside_at a b p 4 1 (lit< tt) out)
    ∙ range_other bytes a b p (value / 2 ^ 24) (outside_first a b p 4 (lit< tt) out)

-- the same, with the operand's further bytes
range_set_on :
    (xs : List ℕ) (a b at i v : ℕ) → slice_range (set xs (a + at + i) v) a b ≡ set (slice_range xs a b) (at + i) v
range_set_on xs a b at i v =
    ap (λ (p : ℕ). slice_range (set xs p v) a b) (add_assoc a at i) ∙ range_set xs a b (at + i) v

range_index : (xs : List ℕ) (a b i : ℕ) → a + i < b → slice_index (slice_range xs a b) i ≡ slice_index xs (a + i)
range_index xs a b i within = get_or-take (b - a) (drop a xs) i 0 (omega (arith, within)) ∙ get_or-drop a xs i 0

stored_own :
    (bytes : List ℕ) (a b at bit : ℕ) (width : Width) (value : ℕ) → a + at + byte_count width ≤ b
    → slice_range (bytes_with_number bytes (a + at) bit width value) a b ≡ bytes_with_number (slice_range bytes a b) at bit width value
stored_own bytes a b at bit Bit value within =
    range_set bytes a b at (byte_with_bit (slice_index bytes (a + at)) bit value)
    ∙ ap (λ (n : ℕ). set (slice_range bytes a b) at (byte_with_bit n bit value)) (sym (range_index bytes a b at (omega (arith, within))))
stored_own bytes a b at bit Byte value within = range_set bytes a b at value
stored_own bytes a b at bit Word value within =
    range_set_on (set bytes (a + at) (value / 2 ^ 8)) a b at 1 (value % 2 ^ 8)
    ∙ ap (λ (ys : List ℕ). set ys (at + 1) (value % 2 ^ 8)) (range_set bytes a b at (value / 2 ^ 8))
stored_own bytes a b at bit Dword value within =
    let one = set bytes (a + at) (value / 2 ^ 24) in
    let two = set one (a + at + 1) (value / 2 ^ 16 % 2 ^ 8) in
    let three = set two (a + at + 2) (value / 2 ^ 8 % 2 ^ 8) in
    range_set_on three a b at 3 (value % 2 ^ 8)
    ∙ ap (λ (ys : List ℕ). set ys (at + 3) (value % 2 ^ 8))
    (range_set_on two a b at 2 (value / 2 ^ 8 % 2 ^ 8)
    ∙ ap (λ (ys : List ℕ). set ys (at + 2) (value / 2 ^ 8 % 2 ^ 8))
    (range_set_on one a b at 1 (value / 2 ^ 16 % 2 ^ 8)
    ∙ ap (λ (ys : List ℕ). set ys (at + 1) (value / 2 ^ 16 % 2 ^ 8)) (range_set bytes a b at (value / 2 ^ 24))))

-- an operand that ends within a range lies in all bytes where it lies in the range
within_own :
    (bytes : List ℕ) (a b at bit : ℕ) (width : Width) → a + at + byte_count width ≤ b → b ≤ length bytes
    → is_within (slice_range bytes a b) at bit width ≡ is_within bytes (a + at) bit width
within_own bytes a b at bit Bit le all =
    let size = range_length bytes a b all in
    let one : nat_lt at (length (slice_range bytes a b)) ≡ true = lt-ltb at (length (slice_range bytes a b)) (omega (arith, le, size)) in
    let two : nat_lt (a + at) (length bytes) ≡ true = lt-ltb (a + at) (length bytes) (omega (arith, le, all)) in
    ap (λ (t : Bool). t && nat_lt bit 8) (one ∙ sym two)
within_own bytes a b at bit Byte le all =
    let size = range_length bytes a b all in
    le-leb (at + 1) (length (slice_range bytes a b)) (omega (arith, le, size)) ∙ sym (le-leb (a + at + 1) (length bytes) (omega (arith, le, all)))
within_own bytes a b at bit Word le all =
    let size = range_length bytes a b all in
    le-leb (at + 2) (length (slice_range bytes a b)) (omega (arith, le, size)) ∙ sym (le-leb (a + at + 2) (length bytes) (omega (arith, le, all)))
within_own bytes a b at bit Dword le all =
    let size = range_length bytes a b all in
    le-leb (at + 4) (length (slice_range bytes a b)) (omega (arith, le, size)) ∙ sym (le-leb (a + at + 4) (length bytes) (omega (arith, le, all)))

put_stored : (bytes : List ℕ) (at bit : ℕ) (width : Width) (value : ℕ) → is_within bytes at bit width ≡ true
    → put_number bytes at bit width value ≡ Some (bytes_with_number bytes at bit width value)
unfolding put_number
put_stored bytes at bit width value is = rw is refl

put_none : (bytes : List ℕ) (at bit : ℕ) (width : Width) (value : ℕ) → is_within bytes at bit width ≡ false
    → put_number bytes at bit width value ≡ None
unfolding put_number
put_none bytes at bit width value is = rw is refl

-- where the next frame's bytes begin
end_is : (l : LocalData) (frame : ℕ) → frame_bytes_end l frame ≡ begin l.starts (length l.bytes) (suc frame)
end_is l frame = ap (begin l.starts (length l.bytes)) (add-one frame)

apart : (n m : ℕ) → n ≢ m → (n < m) ⊎ (m < n)
apart n m other = grind arith

-- every other frame's bytes lie outside an operand of this one's
outside_others :
    (l : LocalData) → IsLaidOut l → (frame start at k other from : ℕ)
    → slice_get l.starts frame ≡ Some start → slice_get l.starts other ≡ Some from → other ≢ frame
    → start + at + k ≤ frame_bytes_end l frame → IsOutsideRange from (frame_bytes_end l other) (start + at) k
outside_others l laid frame start at k other from is there apart_is within =
    let rises = rises_from l laid in
    let here = begin_is l.starts (length l.bytes) frame start is in
    let its = begin_is l.starts (length l.bytes) other from there in
    elim (apart other frame apart_is) [
      | inl before ↦
          let up = later l.starts (length l.bytes) rises (suc other) frame (omega (arith, before)) in
          let end = end_is l other in
          inl (omega (arith, up, end, here))
      | inr behind ↦
          let up = later l.starts (length l.bytes) rises (suc frame) other (omega (arith, behind)) in
          let end = end_is l frame in
          inr (omega (arith, up, end, its, within))
    ]

written_there :
    (l : LocalData) → IsLaidOut l → (frame start at bit : ℕ) (width : Width) (value : ℕ)
    → slice_get l.starts frame ≡ Some start
    → start + at + byte_count width ≤ frame_bytes_end l frame
    → is_within l.bytes (start + at) bit width ≡ true
    → (let new : LocalData = record l { bytes = bytes_with_number l.bytes (start + at) bit width value } in IsOwnWritten l new frame at bit width value)
written_there l laid frame start at bit width value is le within =
    let bytes : List ℕ = bytes_with_number l.bytes (start + at) bit width value in
    let new : LocalData = record l { bytes = bytes } in
    let rises = rises_from l laid in
    let size : length bytes ≡ length l.bytes = length-stored l.bytes (start + at) bit width value in
    let ends : (k : ℕ) → frame_bytes_end new k ≡ frame_bytes_end l k = λ k. ap (λ (n : ℕ). begin l.starts n (k + 1)) size in
    let past = before_end l.starts (length l.bytes) rises (suc frame) in
    let end = end_is l frame in
    let own : List ℕ = slice_range l.bytes start (frame_bytes_end l frame) in
    let mine : frame_bytes l frame ≡ Some own = ap (option_map (λ s. slice_range l.bytes s (frame_bytes_end l frame))) is in
    record {
      own =
          ap (option_map (λ s. slice_range bytes s (frame_bytes_end new frame))) is
          ∙ ap (λ (e : ℕ). Some (slice_range bytes start e)) (ends frame)
          ∙ ap Some (stored_own l.bytes start (frame_bytes_end l frame) at bit width value le)
          ∙ sym
          (ap (option_and_then (λ ys. put_number ys at bit width value)) mine
          ∙ put_stored own at bit width value
          (within_own l.bytes start (frame_bytes_end l frame) at bit width le (omega (arith, past, end)) ∙ within));
      others = λ other apart_is. by other apart_is size ends (slice_get l.starts other) refl;
      laid =
          laid_from new
          (ap (λ (n : ℕ). begin l.starts n 0) size ∙ laid.begins)
          (subst (λ (n : ℕ). Rises l.starts n) (sym size) rises);
    }
  where
    by : (other : ℕ) → other ≢ frame
        → length (bytes_with_number l.bytes (start + at) bit width value) ≡ length l.bytes
        → ((k : ℕ) → begin l.starts (length (bytes_with_number l.bytes (start + at) bit width value)) (k + 1) ≡ frame_bytes_end l k)
        → (o : Option ℕ) → slice_get l.starts other ≡ o
        → option_map (λ s. slice_range (bytes_with_number l.bytes (start + at) bit width value) s (begin l.starts (length (bytes_with_number l.bytes (start + at) bit width value)) (other + 1))) o
        ≡ option_map (λ s. slice_range l.bytes s (frame_bytes_end l other)) o
    by other apart_is size ends None there = refl
    by other apart_is size ends (Some from) there =
        ap (λ (e : ℕ). Some (slice_range (bytes_with_number l.bytes (start + at) bit width value) from e)) (ends other)
        ∙ ap Some
        (stored_other l.bytes from (frame_bytes_end l other) (start + at) bit width value
        (outside_others l laid frame start at (byte_count width) other from is there apart_is le))

-- what a write of a frame leaves, or that the frame's own bytes have no such operand
abbrev IsWritten : (l : LocalData) (frame at bit : ℕ) (width : Width) (value : ℕ) → (done : Option LocalData) (own : Option (List ℕ)) → Type 0
IsWritten l frame at bit width value done own =
    MatchOption done
    (option_and_then (λ ys. put_number ys at bit width value) own ≡ None)
    (λ new. IsOwnWritten l new frame at bit width value)

pub written_own :
    (l : LocalData) (frame at bit : ℕ) (width : Width) (value : ℕ) → IsLaidOut l
    → IsWritten l frame at bit width value (local_written l frame at bit width value) (frame_bytes l frame)
unfolding local_written put_number
written_own l frame at bit width value laid = by (slice_get l.starts frame) refl
  where
    stored_or_not : (start : ℕ) → slice_get l.starts frame ≡ Some start
        → start + at + byte_count width ≤ frame_bytes_end l frame
        → (within : Bool) → is_within l.bytes (start + at) bit width ≡ within
        → IsWritten l frame at bit width value
        (option_map (λ bytes. record l { bytes = bytes }) (cond within (Some (bytes_with_number l.bytes (start + at) bit width value)) None))
        (Some (slice_range l.bytes start (frame_bytes_end l frame)))
    stored_or_not start is le true within = written_there l laid frame start at bit width value is le within
    stored_or_not start is le false within =
        let past = before_end l.starts (length l.bytes) (rises_from l laid) (suc frame) in
        let end = end_is l frame in
        put_none (slice_range l.bytes start (frame_bytes_end l frame)) at bit width value
        (within_own l.bytes start (frame_bytes_end l frame) at bit width le (omega (arith, past, end)) ∙ within)

    placed : (start : ℕ) → slice_get l.starts frame ≡ Some start
        → (ends : Bool) → nat_le (start + at + byte_count width) (frame_bytes_end l frame) ≡ ends
        → IsWritten l frame at bit width value
        (option_and_then (λ place. option_map (λ bytes. record l { bytes = bytes }) (put_number l.bytes place bit width value)) (cond ends (Some (start + at)) None))
        (Some (slice_range l.bytes start (frame_bytes_end l frame)))
    placed start is true test =
        stored_or_not start is (leb-true (start + at + byte_count width) (frame_bytes_end l frame) test) (is_within l.bytes (start + at) bit width) refl
    placed start is false test =
        let past = leb-false (start + at + byte_count width) (frame_bytes_end l frame) test in
        let short = range_short l.bytes start (frame_bytes_end l frame) in
        let some = some_first width in
        put_none (slice_range l.bytes start (frame_bytes_end l frame)) at bit width value
        (not_within (slice_range l.bytes start (frame_bytes_end l frame)) at bit width (omega (arith, past, short, some)))

    by : (o : Option ℕ) → slice_get l.starts frame ≡ o
        → IsWritten l frame at bit width value
        (option_and_then (λ place. option_map (λ bytes. record l { bytes = bytes }) (put_number l.bytes place bit width value))
        (option_and_then (λ start. cond (nat_le (start + at + byte_count width) (frame_bytes_end l frame)) (Some (start + at)) None) o))
        (option_map (λ start. slice_range l.bytes start (frame_bytes_end l frame)) o)
    by None is = refl
    by (Some start) is = placed start is (nat_le (start + at + byte_count width) (frame_bytes_end l frame)) refl
