-- The line of a place.
use Rattle.std.proofs.Common.{◌≡◌, ℕ, ◌+◌, ◌<◌, ◌≤◌, ◌-◌, List, length, take, drop, get_or, sym, ◌∙◌, ap, arith}
use Rattle.std.specs.List.{sum_by, All}
use Rattle.std.proofs.lemmas.List.{drop-drop, length-take, take-take}
use Rattle.std.proofs.Math.Seq.{take-add}
use Rattle.std.proofs.lemmas.List.Sums.{sum_by_more, sum_by-le, sum_by-take-le, sum_by-append}
use Rattle.std.proofs.lemmas.Bool.Decides.{nat_tests}
use Rattle.stl_lexer.specs.Gap.{line_at, newlines_of}

-- a line ends behind its byte 10
pub line_at_more : (s : List ℕ) (i : ℕ) → i < length s → line_at s (i + 1) ≡ line_at s i + newlines_of (get_or s i 0)
unfolding line_at
line_at_more s i h = omega (arith, sum_by_more newlines_of s i 0 h)

newlines_le : (b : ℕ) → newlines_of b ≤ 1
newlines_le b = grind (arith, nat_tests)

all_le : (s : List ℕ) → All (λ b. newlines_of b ≤ 1) s
all_le s = λ k h d. newlines_le _

-- there are no more lines than bytes, and one
pub line_at_limit : (s : List ℕ) (i : ℕ) → line_at s i ≤ 1 + length s
unfolding line_at
line_at_limit s i = omega (arith, sum_by-take-le newlines_of s i, sum_by-le newlines_of 1 s (all_le s))

-- one byte less is left
pub drop_more : (s : List ℕ) (i : ℕ) → drop 1 (drop i s) ≡ drop (i + 1) s
drop_more s i = drop-drop 1 i s

-- the lines that end in the bytes between two places
pub line_at_add : (s : List ℕ) (i n : ℕ) → line_at s (i + n) ≡ line_at s i + sum_by newlines_of (take n (drop i s))
unfolding line_at
line_at_add s i n = rw (take-add i n s, sum_by-append newlines_of (take i s) (take n (drop i s))) (omega arith)

-- the bytes in front of a place in a token are those in front of it in the text
pub line_in_token : (s : List ℕ) (i size n : ℕ) → n ≤ length (take size (drop i s)) → line_at s i + sum_by newlines_of (take n (take size (drop i s))) ≡ line_at s (i + n)
line_in_token s i size n h =
    let within : n ≤ size = omega (arith, length-take size (drop i s)) in
    rw (take-take n size (drop i s) within) (sym (line_at_add s i n))

-- the line behind a token
pub line_at_end : (s : List ℕ) (i j : ℕ) → i ≤ j → line_at s i + sum_by newlines_of (take (j - i) (drop i s)) ≡ line_at s j
line_at_end s i j h =
    let there : i + (j - i) ≡ j = omega arith in
    sym (line_at_add s i (j - i)) ∙ ap (line_at s) there

-- the line of a place in a token, where the token is the front of a text that begins at i
pub line_of_fault : (s : List ℕ) (i size n : ℕ) (text : List ℕ) (line lines : ℕ) → text ≡ drop i s → n ≤ length (take size text) → line ≡ line_at s i → lines ≡ sum_by newlines_of (take n (take size text)) → line + lines ≡ line_at s (i + n)
line_of_fault s i size n text line lines text_is h line_is lines_is =
    omega (arith, line_in_token s i size n (rw text_is at h), rw text_is at lines_is, line_is)
