-- The tokens of pieces: one behind the other, and which marks they are.
use Rattle.std.proofs.Common.{◌≡◌, ◌<◌, ◌+◌, ℕ, suc, Bool, true, false, List, [], ◌∷◌, ◌++◌, length, take, drop, Some, refl, ◌∙◌, ap, arith}
use Rattle.std.specs.Prelude.{◌&&◌, not, nat_eq, nat_lt, sum_by}
use Rattle.std.specs.Str.{str_eq_ignore_ascii_case}
use Rattle.std.specs.List.{list_all, prefix_len}
use Rattle.std.proofs.lemmas.Bool.{and_parts, and_from}
use Rattle.std.proofs.lemmas.Bool.Decides.{nat_tests}
use Rattle.stl_lexer.specs.Gap.{newlines_of}
use Rattle.stl_lexer.specs.Marks.{mark_text}
use Rattle.stl_lexer.specs.Pieces.{Piece, tokens_of}
use Rattle.stl_lexer.specs.Tokens.{text_of}
use Rattle.stl_lexer.specs.declared.kinds.Token.{Token}
use Rattle.stl_lexer.specs.declared.kinds.TokenKind.{TokenKind}
use Rattle.stl_lexer.specs.declared.marks.Mark.{Mark}
use Rattle.stl_lexer.specs.declared.marks.Mark.TheVariants as mark
use Rattle.stl_parser.specs.Clauses.{semicolon_place, until_semicolon}
use Rattle.stl_parser.specs.Terminals.{has_kind, is_mark, kind_rank}
use Rattle.print_laws.proofs.parsing.Operands.{Texts}

-- where the text behind pieces begins
abbrev pub behind : (from : ℕ) → List Piece → ℕ
behind from [] = from
behind from (p ∷ ps) = behind (from + length p.gap + length p.text) ps

-- and on which line
abbrev pub line_past : (line : ℕ) → List Piece → ℕ
line_past line [] = line
line_past line (p ∷ ps) = line_past (line + sum_by newlines_of p.gap + sum_by newlines_of p.text) ps

pub tokens_joined : (from line : ℕ) (ps qs : List Piece)
    → tokens_of from line (ps ++ qs) ≡ tokens_of from line ps ++ tokens_of (behind from ps) (line_past line ps) qs
tokens_joined from line [] qs = refl
tokens_joined from line (p ∷ ps) qs =
    ap (λ ts. record {
      kind = p.kind;
      start = from + length p.gap;
      end = from + length p.gap + length p.text;
      line = line + sum_by newlines_of p.gap;
    } ∷ ts)
    (tokens_joined (from + length p.gap + length p.text) (line + sum_by newlines_of p.gap + sum_by newlines_of p.text) ps qs)

pub shown_front : (source : List ℕ) (from line : ℕ) (ps qs : List Piece) → Texts source from line (ps ++ qs) → Texts source from line ps
shown_front source from line [] qs t = tt
shown_front source from line (p ∷ ps) qs t =
    (t.0, t.1, shown_front source (from + length p.gap + length p.text) (line + sum_by newlines_of p.gap + sum_by newlines_of p.text) ps qs t.2)

pub shown_behind : (source : List ℕ) (from line : ℕ) (ps qs : List Piece) → Texts source from line (ps ++ qs)
    → Texts source (behind from ps) (line_past line ps) qs
shown_behind source from line [] qs t = t
shown_behind source from line (p ∷ ps) qs t =
    shown_behind source (from + length p.gap + length p.text) (line + sum_by newlines_of p.gap + sum_by newlines_of p.text) ps qs t.2

-- ---- marks

-- a piece of this kind and text is this mark
abbrev pub mark_is : TokenKind → List ℕ → Mark → Bool
mark_is k text m = nat_eq (kind_rank k) 8 && str_eq_ignore_ascii_case text (mark_text m)

-- none of the pieces is this mark
abbrev pub lacks : Mark → List Piece → Bool
lacks m [] = true
lacks m (p ∷ ps) = not (mark_is p.kind p.text m) && lacks m ps

pub lacks_joined : (m : Mark) (ps qs : List Piece) → lacks m ps ≡ true → lacks m qs ≡ true → lacks m (ps ++ qs) ≡ true
lacks_joined m [] qs a b = b
lacks_joined m (p ∷ ps) qs a b =
    let parts : (not (mark_is p.kind p.text m) ≡ true) × (lacks m ps ≡ true) = and_parts (not (mark_is p.kind p.text m)) (lacks m ps) a in
    and_from (not (mark_is p.kind p.text m)) (lacks m (ps ++ qs)) parts.0 (lacks_joined m ps qs parts.1 b)

-- none of the tokens is this mark
abbrev pub without : List ℕ → Mark → List Token → Bool
without source m ts = list_all (λ t. not (is_mark source t m)) ts

pub mark_shown : (source : List ℕ) (k : TokenKind) (text : List ℕ) (t : Token) (m : Mark) → t.kind ≡ k → text_of source t ≡ text
    → is_mark source t m ≡ mark_is k text m
unfolding is_mark has_kind
mark_shown source k text t m kind_is text_is =
    ap (λ (j : TokenKind). nat_eq (kind_rank j) 8 && str_eq_ignore_ascii_case (text_of source t) (mark_text m)) kind_is
    ∙ ap (λ (s : List ℕ). nat_eq (kind_rank k) 8 && str_eq_ignore_ascii_case s (mark_text m)) text_is

pub lack_shown : (source : List ℕ) (from line : ℕ) (m : Mark) (ps : List Piece) → Texts source from line ps → lacks m ps ≡ true
    → without source m (tokens_of from line ps) ≡ true
lack_shown source from line m [] t h = refl
lack_shown source from line m (p ∷ ps) t h =
    let parts : (not (mark_is p.kind p.text m) ≡ true) × (lacks m ps ≡ true) = and_parts (not (mark_is p.kind p.text m)) (lacks m ps) h in
    and_from _ _
    (ap not (mark_shown source p.kind p.text (record {
      kind = p.kind;
      start = from + length p.gap;
      end = from + length p.gap + length p.text;
      line = line + sum_by newlines_of p.gap;
    }) m t.0 t.1) ∙ parts.0)
    (lack_shown source (from + length p.gap + length p.text) (line + sum_by newlines_of p.gap + sum_by newlines_of p.text) m ps t.2 parts.1)

-- ---- up to a semicolon

inside_length : (p : Token → Bool) (inside rest : List Token) (t : Token) → list_all p inside ≡ true → p t ≡ false
    → prefix_len p (inside ++ t ∷ rest) ≡ length inside
inside_length p [] rest t all is = rw is refl
inside_length p (u ∷ inside) rest t all is =
    let parts : (p u ≡ true) × (list_all p inside ≡ true) = and_parts (p u) (list_all p inside) all in
    rw parts.0 (omega (arith, inside_length p inside rest t parts.1 is))

longer : (inside rest : List Token) (t : Token) → length inside < length (inside ++ t ∷ rest)
longer [] rest t = omega arith
longer (u ∷ inside) rest t = omega (arith, longer inside rest t)

pub front_taken : (ts us : List Token) → take (length ts) (ts ++ us) ≡ ts
front_taken [] us = refl
front_taken (t ∷ ts) us = ap (λ l. t ∷ l) (front_taken ts us)

pub front_dropped : (ts us : List Token) → drop (length ts) (ts ++ us) ≡ us
front_dropped [] us = refl
front_dropped (t ∷ ts) us = front_dropped ts us

rest_dropped : (ts us : List Token) (t : Token) → drop (length ts + 1) (ts ++ t ∷ us) ≡ us
rest_dropped [] us t = refl
rest_dropped (u ∷ ts) us t = let e : suc (length ts) + 1 ≡ suc (length ts + 1) = omega arith in
    ap (λ (n : ℕ). drop n (u ∷ (ts ++ t ∷ us))) e ∙ rest_dropped ts us t

pub until_read : (source : List ℕ) (inside rest : List Token) (t : Token) → without source mark.Semicolon inside ≡ true
    → is_mark source t mark.Semicolon ≡ true → until_semicolon source (inside ++ t ∷ rest) ≡ Some (inside, rest)
unfolding until_semicolon semicolon_place
until_read source inside rest t all is =
    let n : prefix_len (λ u. not (is_mark source u mark.Semicolon)) (inside ++ t ∷ rest) ≡ length inside = inside_length (λ u. not (is_mark source u mark.Semicolon)) inside rest t all (ap not is) in
    let less : nat_lt (length inside) (length (inside ++ t ∷ rest)) ≡ true = grind (arith, nat_tests, longer inside rest t) in
    rw (n, less, front_taken inside (t ∷ rest), rest_dropped inside rest t) refl
