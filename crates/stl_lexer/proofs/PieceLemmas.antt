-- Pieces that stand are the tokens of what they spell.
use Rattle.std.proofs.Common.{◌≡◌, ℕ, ◌+◌, ◌-◌, ◌<◌, ◌≤◌, Bool, false, List, [], ◌∷◌, ◌++◌, length, take, drop, None, refl, sym, ◌∙◌, ap, subst, arith}
use Rattle.std.specs.Prelude.{sum_by, slice_range}
use Rattle.std.proofs.lemmas.List.{append_assoc, length-append, drop-take}
use Rattle.std.proofs.lemmas.List.Sums.{sum_by-append}
use Rattle.std.proofs.Math.Seq.{drop-append_seam, take-append_seam}
use Rattle.stl_lexer.specs.declared.gaps.GapPart.TheVariants.{Blanks}
use Rattle.stl_lexer.specs.declared.kinds.Token.{Token}
use Rattle.stl_lexer.specs.Gap.{after_gap, line_at, newlines_of}
use Rattle.stl_lexer.specs.Longest.{IsLongestToken}
use Rattle.stl_lexer.specs.Rules.{fault_of}
use Rattle.stl_lexer.specs.Tokens.{AreTokens, TokensFollow, IsEndOfTokens, IsNextToken, is_minus, text_of}
use Rattle.stl_lexer.specs.Pieces.{ArePiecesRead, ArePiecesStanding, Piece, ShowPieces, StandsBefore, text_of_pieces, tokens_of}

-- a place in a source: what stands before it, with its length and its line
record IsAt (before : List ℕ) (from line : ℕ) : Type 0 where
  from_is : from ≡ length before
  line_is : line ≡ 1 + sum_by newlines_of before

-- the line of the place behind these bytes
line_behind : (before rest : List ℕ) → line_at (before ++ rest) (length before) ≡ 1 + sum_by newlines_of before
unfolding line_at
line_behind before rest = ap (λ s. 1 + sum_by newlines_of s) (take-append_seam before rest)

at_more : (before more : List ℕ) (from line : ℕ) → IsAt before from line → IsAt (before ++ more) (from + length more) (line + sum_by newlines_of more)
at_more before more from line h = record {
  from_is = omega (arith, h.from_is, length-append before more);
  line_is = omega (arith, h.line_is, sum_by-append newlines_of before more);
}

-- the bytes of a token that stands behind these
text_here : (before text after : List ℕ) (from line : ℕ) (t : Token) → IsAt before from line → t.start ≡ from → t.end ≡ from + length text → text_of (before ++ (text ++ after)) t ≡ text
text_here before text after from line t h start end =
    let from_is : t.start ≡ length before = start ∙ h.from_is in
    let end_is : t.end ≡ length before + length text = end ∙ ap (λ n. n + length text) h.from_is in
    let size : length before + length text - length before ≡ length text = omega arith in
    rw (from_is, end_is, size, drop-append_seam before (text ++ after)) (take-append_seam text after)

-- a piece that stands is the next token
next_piece : (source before : List ℕ) (p : Piece) (after : List ℕ) (from line : ℕ) (minus : Bool) (t : Token)
    → source ≡ before ++ (p.gap ++ (p.text ++ after)) → IsAt before from line → StandsBefore p minus after
    → t.kind ≡ p.kind → t.start ≡ from + length p.gap → t.end ≡ from + length p.gap + length p.text → t.line ≡ line + sum_by newlines_of p.gap
    → IsNextToken source from minus t × (text_of source t ≡ p.text)
next_piece source before p after from line minus t source_is h s kind start end line_is =
    let here : IsAt (before ++ p.gap) (from + length p.gap) (line + sum_by newlines_of p.gap) = at_more before p.gap from line h in
    let whole : source ≡ (before ++ p.gap) ++ (p.text ++ after) = source_is ∙ sym (append_assoc before p.gap (p.text ++ after)) in
    let start_is : t.start ≡ length (before ++ p.gap) = start ∙ here.from_is in
    let there : drop t.start source ≡ p.text ++ after = rw (whole, start_is) (drop-append_seam (before ++ p.gap) (p.text ++ after)) in
    let back : drop from source ≡ p.gap ++ (p.text ++ after) = rw (source_is, h.from_is) (drop-append_seam before (p.gap ++ (p.text ++ after))) in
    let long : length source ≡ length before + length p.gap + (length p.text + length after) =
    omega (arith, ap length whole, length-append (before ++ p.gap) (p.text ++ after), length-append before p.gap, length-append p.text after) in
    let text_is : text_of source t ≡ p.text = rw whole (text_here (before ++ p.gap) p.text after (from + length p.gap) (line + sum_by newlines_of p.gap) t here start end) in
    let size : t.end - t.start ≡ length p.text = omega (arith, start, end) in
    let some : 0 < length p.text = s.longest.fits.some in (
      record {
        start = record {
          forward = omega (arith, start);
          within = omega (arith, long, start, h.from_is, some);
          gap = rw (there, back) (sym s.gap);
        };
        forward = omega (arith, start, end, some);
        within = omega (arith, long, end, h.from_is);
        longest = rw (there, size, kind) s.longest;
        right = rw (kind, text_is) s.right;
        line = line_is ∙ here.line_is ∙ sym (line_behind (before ++ p.gap) (p.text ++ after)) ∙ ap (λ n. line_at ((before ++ p.gap) ++ (p.text ++ after)) n) (sym start_is) ∙ ap (λ l. line_at l t.start) (sym whole);
      },
      text_is,
    )

-- from a place on
read_behind : (source before : List ℕ) (ps : List Piece) (end : List ℕ) (from line : ℕ) (minus : Bool)
    → source ≡ before ++ text_of_pieces ps end → IsAt before from line → ArePiecesStanding minus ps end
    → TokensFollow source (λ at m. IsEndOfTokens source at) from minus (tokens_of from line ps) × ShowPieces source ps (tokens_of from line ps)
read_behind source before [] end from line minus source_is h stands =
    (rw (source_is, h.from_is, drop-append_seam before end) stands, tt)
read_behind source before (p ∷ ps) end from line minus source_is h (stands, others) =
    let t : Token = record { kind = p.kind; start = from + length p.gap; end = from + length p.gap + length p.text; line = line + sum_by newlines_of p.gap } in
    let one = next_piece source before p (text_of_pieces ps end) from line minus t source_is h stands refl refl refl refl in
    let here = at_more (before ++ p.gap) p.text (from + length p.gap) (line + sum_by newlines_of p.gap) (at_more before p.gap from line h) in
    let whole : source ≡ (before ++ p.gap ++ p.text) ++ text_of_pieces ps end =
    source_is ∙ sym (append_assoc before p.gap (p.text ++ text_of_pieces ps end)) ∙ sym (append_assoc (before ++ p.gap) p.text (text_of_pieces ps end)) in
    let rest = read_behind source (before ++ p.gap ++ p.text) ps end (from + length p.gap + length p.text) (line + sum_by newlines_of p.gap + sum_by newlines_of p.text) (is_minus p.kind p.text) whole here others in (
      (one.0, subst (λ m. TokensFollow source (λ at m. IsEndOfTokens source at) (from + length p.gap + length p.text) m (tokens_of (from + length p.gap + length p.text) (line + sum_by newlines_of p.gap + sum_by newlines_of p.text) ps)) (ap (is_minus p.kind) (sym one.1)) rest.0),
      (refl, one.1, rest.1),
    )

at_front : IsAt [] 0 1
at_front = record { from_is = refl; line_is = refl }

pub pieces_read : ArePiecesRead
unfolding AreTokens
pieces_read ps end stands = read_behind (text_of_pieces ps end) [] ps end 0 1 false refl at_front stands
