-- The local bytes of frames: which places there are, and what opening and closing leave.
use Rattle.std.proofs.Common.{◌≡◌, ◌∙◌, ◌+◌, ◌-◌, ◌≤◌, ℕ, zero, suc, Bool, true, false, cond, leb, ltb, IsSome, List, [], ◌∷◌, ◌++◌, length, take, replicate, reverse, slice_get, length-append, unwrap_or, Option, Some, None, refl, sym, ap, arith}
use Rattle.std.proofs.lemmas.Bool.{and_parts, leb-true, le-leb, ltb-true, lt-ltb}
use Rattle.std.proofs.lemmas.Grind.{reverse_onto}
use Rattle.std.proofs.lemmas.List.{length-take-le, length-reverse, length-replicate}
use Rattle.std.proofs.Math.Seq.{take-append_seam}
use Rattle.std.specs.Option.{option_map, option_and_then}
use Rattle.plc_base.specs.declared.Width.{Width}
use Rattle.plc_base.specs.declared.Width.TheVariants as widths
use Rattle.plc_base.specs.Widths.{byte_count}
use Rattle.plc_mem.specs.Run.{number_over}
use Rattle.plc_mem.specs.Writing.{put_number, is_within}
use Rattle.plc_mem.proofs.Lawful.{run_exists}
use Rattle.plc_mem.proofs.Runs.{put_done}
use Rattle.frames.specs.Locals.{LocalData, frame_bytes_end, local_operand_start, local_number, local_written, open_locals, close_locals, close_locals_at, last_start}
use Rattle.frames.specs.declared.frame.Frame.{Frame}
use Rattle.machine.specs.Fitting.{local_len_at, HasBit, LiesIn, local_starts_from, bytes_together, LocalsFit}

-- ---- sums and starts of a list of frames

together_append :
    (xs ys : List Frame) → bytes_together (xs ++ ys) ≡ bytes_together xs + bytes_together ys
together_append [] ys = omega arith
together_append (f ∷ xs) ys = let more = together_append xs ys in omega (arith, more)

together_reverse : (xs : List Frame) → bytes_together (reverse xs) ≡ bytes_together xs
together_reverse [] = refl
together_reverse (f ∷ xs) =
    let more = together_reverse xs in
    let split = together_append (reverse xs) (f ∷ []) in
    ap bytes_together (reverse_onto xs f []) ∙ split ∙ omega (arith, more)

starts_append :
    (at : ℕ) (xs ys : List Frame)
    → local_starts_from at (xs ++ ys) ≡ local_starts_from at xs ++ local_starts_from (at + bytes_together xs) ys
starts_append at [] ys = let e : at ≡ at + 0 = omega arith in ap (λ (k : ℕ). local_starts_from k ys) e
starts_append at (f ∷ xs) ys =
    let e : at + f.local_len + bytes_together xs ≡ at + (f.local_len + bytes_together xs) = omega arith in
    ap (λ (z : List ℕ). at ∷ z)
    (starts_append (at + f.local_len) xs ys
    ∙ ap (λ (k : ℕ). local_starts_from (at + f.local_len) xs ++ local_starts_from k ys) e)

length_starts : (at : ℕ) (xs : List Frame) → length (local_starts_from at xs) ≡ length xs
length_starts at [] = refl
length_starts at (f ∷ xs) = ap suc (length_starts (at + f.local_len) xs)

-- the frames with one more on them
starts_on :
    (f : Frame) (below : List Frame)
    → local_starts_from 0 (reverse (f ∷ below)) ≡ local_starts_from 0 (reverse below) ++ bytes_together below ∷ []
starts_on f below =
    let e : 0 + bytes_together (reverse below) ≡ bytes_together below = let r = together_reverse below in omega (arith, r) in
    ap (λ (z : List Frame). local_starts_from 0 z) (reverse_onto below f [])
    ∙ starts_append 0 (reverse below) (f ∷ [])
    ∙ ap (λ (k : ℕ). local_starts_from 0 (reverse below) ++ k ∷ []) e

-- ---- as many frames have local data as stand

pub depth_is :
    (frames : List Frame) (l : LocalData) → LocalsFit frames l → length l.starts ≡ length frames
depth_is frames l fits = ap length fits.starts ∙ length_starts 0 (reverse frames) ∙ length-reverse frames

-- ---- what changes no length

pub locals_kept :
    (frames : List Frame) (l k : LocalData) → k.starts ≡ l.starts → length k.bytes ≡ length l.bytes
    → LocalsFit frames l → LocalsFit frames k
locals_kept frames l k starts len fits = record { starts = starts ∙ fits.starts; len = len ∙ fits.len }

-- another frame with as many bytes
pub locals_moved :
    (f g : Frame) (below : List Frame) (l : LocalData) → g.local_len ≡ f.local_len
    → LocalsFit (f ∷ below) l → LocalsFit (g ∷ below) l
locals_moved f g below l same fits = record {
  starts = fits.starts ∙ starts_on f below ∙ sym (starts_on g below);
  len = let e = fits.len in omega (arith, e, same);
}

-- ---- opening and closing

pub locals_opened :
    (f : Frame) (frames : List Frame) (l : LocalData) → LocalsFit frames l
    → LocalsFit (f ∷ frames) (open_locals f.local_len l)
locals_opened f frames l fits = record {
  starts = ap (λ (z : List ℕ). z ++ length l.bytes ∷ []) fits.starts
      ∙ ap (λ (k : ℕ). local_starts_from 0 (reverse frames) ++ k ∷ []) fits.len ∙ sym (starts_on f frames);
  len = let e = fits.len in
      let all = length-append l.bytes (replicate f.local_len 0) in
      let zeros : length {A = ℕ} (replicate f.local_len 0) ≡ f.local_len = length-replicate f.local_len 0 in
      omega (arith, e, all, zeros);
}

seam : (xs : List ℕ) (x : ℕ) → slice_get (xs ++ x ∷ []) (length xs) ≡ Some x
seam [] x = refl
seam (y ∷ xs) x = seam xs x

one_longer : (xs : List ℕ) (x : ℕ) → length (xs ++ x ∷ []) - 1 ≡ length xs
one_longer xs x = let e = length-append xs (x ∷ []) in omega (arith, e)

closed_last :
    (l : LocalData) (xs : List ℕ) (x : ℕ) → l.starts ≡ xs ++ x ∷ []
    → close_locals l ≡ record { starts = xs; bytes = take x l.bytes }
closed_last l xs x is =
    let last : last_start l.starts ≡ Some x =
    ap (λ (z : List ℕ). slice_get z (length z - 1)) is
    ∙ ap (λ (k : ℕ). slice_get (xs ++ x ∷ []) k) (one_longer xs x) ∙ seam xs x in
    let front : take (length l.starts - 1) l.starts ≡ xs =
    ap (λ (z : List ℕ). take (length z - 1) z) is
    ∙ ap (λ (k : ℕ). take k (xs ++ x ∷ [])) (one_longer xs x) ∙ take-append_seam xs (x ∷ []) in
    ap (λ (o : Option ℕ). close_locals_at l o) last
    ∙ ap (λ (z : List ℕ). let r : LocalData = record { starts = z; bytes = take x l.bytes } in r) front

pub locals_closed :
    (f : Frame) (below : List Frame) (l : LocalData) → LocalsFit (f ∷ below) l → LocalsFit below (close_locals l)
locals_closed f below l fits =
    let e = fits.len in
    rw (closed_last l (local_starts_from 0 (reverse below)) (bytes_together below) (fits.starts ∙ starts_on f below))
    (record {
      starts = refl;
      len = length-take-le (bytes_together below) l.bytes (omega (arith, e));
    })

-- ---- the place of a frame in the local bytes

record Spans (starts : List ℕ) (total k len : ℕ) : Type 0 where
  start : ℕ
  is : slice_get starts k ≡ Some start
  end : unwrap_or (slice_get starts (k + 1)) total ≡ start + len
  within : start + len ≤ total

some_len : (f : Frame) (len : ℕ) → Some f.local_len ≡ Some len → f.local_len ≡ len
some_len f len e = cc

spans :
    (s total : ℕ) (fs : List Frame) (k len : ℕ) → total ≡ s + bytes_together fs
    → option_map (λ (f : Frame). f.local_len) (slice_get fs k) ≡ Some len → Spans (local_starts_from s fs) total k len
spans s total [] k len all found = absurd cc
spans s total (f ∷ []) zero len all found =
    let e = some_len f len found in
    record { start = s; is = refl; end = omega (arith, all, e); within = omega (arith, all, e) }
spans s total (f ∷ g ∷ fs) zero len all found =
    let e = some_len f len found in
    record { start = s; is = refl; end = ap (λ (n : ℕ). s + n) e; within = omega (arith, all, e) }
spans s total (f ∷ fs) (suc k) len all found =
    let more = spans (s + f.local_len) total fs k len (omega (arith, all)) found in
    let next : suc k + 1 ≡ suc (k + 1) = omega arith in
    record {
      start = more.start;
      is = more.is;
      end = ap (λ (n : ℕ). unwrap_or (slice_get (s ∷ local_starts_from (s + f.local_len) fs) n) total) next ∙ more.end;
      within = more.within;
    }

frame_spans :
    (frames : List Frame) (l : LocalData) (k len : ℕ) → LocalsFit frames l → local_len_at frames k ≡ Some len
    → Spans l.starts (length l.bytes) k len
frame_spans frames l k len fits found =
    rw fits.starts
    (spans 0 (length l.bytes) (reverse frames) k len
    (let e = fits.len in let r = together_reverse frames in omega (arith, e, r)) found)

-- ---- which operands lie in the bytes of a frame

bit_lies :
    (bytes : List ℕ) (at bit : ℕ) (width : Width) → at + byte_count width ≤ length bytes → HasBit width bit
    → is_within bytes at bit width ≡ true
bit_lies bytes at bit widths.Bit le has =
    rw (lt-ltb at (length bytes) (omega (arith, le)), lt-ltb bit 8 has) refl
bit_lies bytes at bit widths.Byte le has = le-leb (at + 1) (length bytes) le
bit_lies bytes at bit widths.Word le has = le-leb (at + 2) (length bytes) le
bit_lies bytes at bit widths.Dword le has = le-leb (at + 4) (length bytes) le

put_there :
    (bytes : List ℕ) (at bit : ℕ) (width : Width) (value : ℕ) → is_within bytes at bit width ≡ true
    → IsSome (put_number bytes at bit width value)
unfolding put_number
put_there bytes at bit width value within = rw within refl

bit_has :
    (bytes : List ℕ) (at bit : ℕ) (width : Width) → is_within bytes at bit width ≡ true → HasBit width bit
bit_has bytes at bit widths.Bit within = ltb-true bit 8 (and_parts (ltb at (length bytes)) (ltb bit 8) within).1
bit_has bytes at bit widths.Byte within = tt
bit_has bytes at bit widths.Word within = tt
bit_has bytes at bit widths.Dword within = tt

put_is :
    (bytes : List ℕ) (at bit : ℕ) (width : Width) (o : Option (List ℕ)) → put_number bytes at bit width 0 ≡ o → IsSome o
    → HasBit width bit
put_is bytes at bit width None is there = absurd cc
put_is bytes at bit width (Some new) is there = bit_has bytes at bit width (put_done bytes new at bit width 0 is).0

number_has :
    (bytes : List ℕ) (at bit : ℕ) (width : Width) → IsSome (number_over (slice_get bytes) at bit width)
    → HasBit width bit
number_has bytes at bit width there =
    put_is bytes at bit width (put_number bytes at bit width 0) refl
    (run_exists bytes at bit width 0 (is_within bytes at bit width) refl ∙ there)

lies_is :
    (l : LocalData) (k at len : ℕ) (width : Width) → Spans l.starts (length l.bytes) k len
    → at + byte_count width ≤ len → (start : ℕ) × (local_operand_start l k at width ≡ Some (start + at))
    × (start + at + byte_count width ≤ length l.bytes)
lies_is l k at len width spans le =
    let e = spans.end in
    let w = spans.within in
    let test : leb (spans.start + at + byte_count width) (frame_bytes_end l k) ≡ true =
    le-leb (spans.start + at + byte_count width) (frame_bytes_end l k) (omega (arith, e, le)) in
    (spans.start, rw (spans.is, test) refl, omega (arith, w, le))

pub lies_local :
    (frames : List Frame) (l : LocalData) (k at bit : ℕ) (width : Width) → LocalsFit frames l
    → LiesIn (local_len_at frames k) at bit width → IsSome (local_number l k at bit width)
unfolding local_number
lies_local frames l k at bit width fits lies = by (local_len_at frames k) refl lies
  where
    by : (o : Option ℕ) → local_len_at frames k ≡ o → LiesIn o at bit width
        → IsSome (option_and_then (λ place. number_over (slice_get l.bytes) place bit width) (local_operand_start l k at width))
    by None is lies = absurd lies
    by (Some len) is lies =
        let there = lies_is l k at len width (frame_spans frames l k len fits is) lies.0 in
        rw there.1
        (sym (run_exists l.bytes (there.0 + at) bit width 0 true (bit_lies l.bytes (there.0 + at) bit width there.2 lies.1))
        ∙ put_there l.bytes (there.0 + at) bit width 0 (bit_lies l.bytes (there.0 + at) bit width there.2 lies.1))

pub mapped_there : {A B : Type 0} (f : A → B) (o : Option A) → IsSome o → IsSome (option_map f o)
mapped_there f (Some x) there = refl
mapped_there f None there = there

pub lies_written :
    (frames : List Frame) (l : LocalData) (k at bit value : ℕ) (width : Width) → LocalsFit frames l
    → LiesIn (local_len_at frames k) at bit width → IsSome (local_written l k at bit width value)
unfolding local_written
lies_written frames l k at bit value width fits lies = by (local_len_at frames k) refl lies
  where
    by : (o : Option ℕ) → local_len_at frames k ≡ o → LiesIn o at bit width
        → IsSome (option_and_then (λ place. option_map (λ bytes. record l { bytes = bytes }) (put_number l.bytes place bit width value)) (local_operand_start l k at width))
    by None is lies = absurd lies
    by (Some len) is lies =
        let there = lies_is l k at len width (frame_spans frames l k len fits is) lies.0 in
        rw there.1
        (mapped_there (λ (bytes : List ℕ). let r : LocalData = record l { bytes = bytes } in r) (put_number l.bytes (there.0 + at) bit width value)
        (put_there l.bytes (there.0 + at) bit width value (bit_lies l.bytes (there.0 + at) bit width there.2 lies.1)))

-- ---- and back

starts_there :
    (s : ℕ) (fs : List Frame) (k x : ℕ) → slice_get (local_starts_from s fs) k ≡ Some x
    → (len : ℕ) × (option_map (λ (f : Frame). f.local_len) (slice_get fs k) ≡ Some len)
starts_there s [] k x found = absurd cc
starts_there s (f ∷ fs) zero x found = (f.local_len, refl)
starts_there s (f ∷ fs) (suc k) x found = starts_there (s + f.local_len) fs k x found

pub local_lies :
    (frames : List Frame) (l : LocalData) (k at bit : ℕ) (width : Width) → LocalsFit frames l
    → IsSome (local_number l k at bit width) → LiesIn (local_len_at frames k) at bit width
unfolding local_number
local_lies frames l k at bit width fits there = by (slice_get l.starts k) refl there
  where
    fitting : (start len : ℕ) (test : Bool) → Spans l.starts (length l.bytes) k len
        → slice_get l.starts k ≡ Some start → leb (start + at + byte_count width) (frame_bytes_end l k) ≡ test
        → IsSome (option_and_then (λ place. number_over (slice_get l.bytes) place bit width) (cond test (Some (start + at)) None))
        → (at + byte_count width ≤ len) × HasBit width bit
    fitting start len false spans is t there = absurd cc
    fitting start len true spans is t there =
        let same : spans.start ≡ start = let e = spans.is in let s : Some spans.start ≡ Some start = sym e ∙ is in cc in
        let end = spans.end in
        let le = leb-true (start + at + byte_count width) (frame_bytes_end l k) t in
        (omega (arith, same, end, le), number_has l.bytes (start + at) bit width there)

    by : (o : Option ℕ) → slice_get l.starts k ≡ o
        → IsSome (option_and_then (λ place. number_over (slice_get l.bytes) place bit width)
        (option_and_then (λ start. cond (leb (start + at + byte_count width) (frame_bytes_end l k)) (Some (start + at)) None) o))
        → LiesIn (local_len_at frames k) at bit width
    by None is there = absurd cc
    by (Some start) is there =
        let found = starts_there 0 (reverse frames) k start (ap (λ (z : List ℕ). slice_get z k) (sym fits.starts) ∙ is) in
        rw found.1
        (fitting start found.0 (leb (start + at + byte_count width) (frame_bytes_end l k)) (frame_spans frames l k found.0 fits found.1) is refl there)
