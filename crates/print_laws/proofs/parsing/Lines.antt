-- The lines of printed clauses.
use Rattle.std.proofs.Common.{◌≡◌, ◌+◌, refl, ◌∙◌, ap, ℕ, Bool, true, List, [], ◌∷◌, ◌++◌, arith, append_assoc}
use Rattle.std.specs.Prelude.{not, ◌&&◌, sum_by}
use Rattle.std.specs.List.{list_all}
use Rattle.std.proofs.lemmas.Bool.{and_parts, and_from}
use Rattle.stl_lexer.specs.Gap.{newlines_of}
use Rattle.stl_lexer.specs.Marks.{mark_text}
use Rattle.stl_lexer.specs.Pieces.{Piece, tokens_of}
use Rattle.stl_lexer.specs.declared.kinds.Token.{Token}
use Rattle.stl_lexer.specs.declared.kinds.TokenKind.TheVariants as kind
use Rattle.stl_lexer.specs.declared.marks.Mark.TheVariants as mark
use Rattle.stl_ast.specs.declared.mnemonics.Mnemonic.{Mnemonic}
use Rattle.stl_ast.specs.declared.mnemonics.Mnemonic.TheVariants as mnemonic
use Rattle.stl_parser.specs.Terminals.{has_kind, is_mark}
use Rattle.stl_print.specs.Gaps.{gap_text}
use Rattle.stl_print.specs.Mnemonics.{Spelling, one, mnemonic_spelling, spelling_pieces, two}
use Rattle.stl_print.specs.Pieces.{mark_piece}
use Rattle.stl_print.specs.declared.gaps.Gap.{Gap}
use Rattle.stl_print.specs.declared.gaps.Gap.TheVariants as gap
use Rattle.print_laws.specs.Reading.{empty, syntax_of}
use Rattle.print_laws.proofs.parsing.Operands.{Texts}
use Rattle.print_laws.proofs.parsing.Shown.{behind, lacks, line_past, mark_is, shown_behind, tokens_joined}
use Rattle.print_laws.proofs.parsing.Statements.{calm_head}
use Rattle.print_laws.proofs.parsing.Tame.{all_tame, flat, flat_ends, tame}

-- no line ends in these pieces
abbrev pub all_flat : List Piece → Bool
all_flat ps = list_all (λ p. flat p.gap && flat p.text) ps

pub flat_all_joined : (ps qs : List Piece) → all_flat ps ≡ true → all_flat qs ≡ true → all_flat (ps ++ qs) ≡ true
flat_all_joined [] qs a b = b
flat_all_joined (p ∷ ps) qs a b =
    let parts = and_parts (flat p.gap && flat p.text) (all_flat ps) a in
    and_from (flat p.gap && flat p.text) (all_flat (ps ++ qs)) parts.0 (flat_all_joined ps qs parts.1 b)

pub tame_flat : (ps : List Piece) → all_tame ps ≡ true → all_flat ps ≡ true
tame_flat [] h = refl
tame_flat (p ∷ ps) h =
    let parts = and_parts (tame p) (all_tame ps) h in
    and_from (flat p.gap && flat p.text) (all_flat ps) (and_parts (flat p.gap && flat p.text) (not (mark_is p.kind p.text mark.Semicolon)) parts.0).0 (tame_flat ps parts.1)

pub flat_line : (ps : List Piece) (line : ℕ) → all_flat ps ≡ true → line_past line ps ≡ line
flat_line [] line h = refl
flat_line (p ∷ ps) line h =
    let parts = and_parts (flat p.gap && flat p.text) (all_flat ps) h in
    let both = and_parts (flat p.gap) (flat p.text) parts.0 in
    flat_line ps (line + sum_by newlines_of p.gap + sum_by newlines_of p.text) parts.1
    ∙ omega (arith, flat_ends p.gap both.0, flat_ends p.text both.1)

-- behind a first piece whose gap may end lines
pub first_line : (p : Piece) (ps : List Piece) (line : ℕ) → flat p.text ≡ true → all_flat ps ≡ true
    → line_past line (p ∷ ps) ≡ line + sum_by newlines_of p.gap
first_line p ps line h all =
    flat_line ps (line + sum_by newlines_of p.gap + sum_by newlines_of p.text) all ∙ omega (arith, flat_ends p.text h)

pub past_joined : (ps qs : List Piece) (line : ℕ) → line_past line (ps ++ qs) ≡ line_past (line_past line ps) qs
past_joined [] qs line = refl
past_joined (p ∷ ps) qs line = past_joined ps qs (line + sum_by newlines_of p.gap + sum_by newlines_of p.text)

-- ---- instruction words

abbrev pub quiet : Spelling → Bool
quiet (one k text) = flat text && not (mark_is k text mark.Semicolon)
quiet (two k text j after) = flat text && flat after && not (mark_is k text mark.Semicolon) && not (mark_is j after mark.Semicolon)

pub word_quiet : (m : Mnemonic) → (syntax_of m ≡ empty → ⊥) → quiet (mnemonic_spelling m) ≡ true
unfolding mnemonic_spelling mark_text
word_quiet mnemonic.Empty h = absurd (h refl)
word_quiet mnemonic.Nop h = refl
word_quiet mnemonic.Bld h = refl
word_quiet mnemonic.A h = refl
word_quiet mnemonic.An h = refl
word_quiet mnemonic.O h = refl
word_quiet mnemonic.On h = refl
word_quiet mnemonic.X h = refl
word_quiet mnemonic.Xn h = refl
word_quiet mnemonic.AOpen h = refl
word_quiet mnemonic.AnOpen h = refl
word_quiet mnemonic.OOpen h = refl
word_quiet mnemonic.OnOpen h = refl
word_quiet mnemonic.XOpen h = refl
word_quiet mnemonic.XnOpen h = refl
word_quiet mnemonic.Close h = refl
word_quiet mnemonic.Mcra h = refl
word_quiet mnemonic.Mcrd h = refl
word_quiet mnemonic.McrOpen h = refl
word_quiet mnemonic.McrClose h = refl
word_quiet mnemonic.L h = refl
word_quiet mnemonic.T h = refl
word_quiet mnemonic.Assign h = refl
word_quiet mnemonic.S h = refl
word_quiet mnemonic.R h = refl
word_quiet mnemonic.Fp h = refl
word_quiet mnemonic.Fn h = refl
word_quiet mnemonic.Set h = refl
word_quiet mnemonic.Clr h = refl
word_quiet mnemonic.Not h = refl
word_quiet mnemonic.Save h = refl
word_quiet mnemonic.Lc h = refl
word_quiet mnemonic.Lar1 h = refl
word_quiet mnemonic.Lar2 h = refl
word_quiet mnemonic.Tar1 h = refl
word_quiet mnemonic.Tar2 h = refl
word_quiet mnemonic.Car h = refl
word_quiet mnemonic.AddAr1 h = refl
word_quiet mnemonic.AddAr2 h = refl
word_quiet mnemonic.Tak h = refl
word_quiet mnemonic.Push h = refl
word_quiet mnemonic.Pop h = refl
word_quiet mnemonic.Caw h = refl
word_quiet mnemonic.Cad h = refl
word_quiet mnemonic.Inc h = refl
word_quiet mnemonic.Dec h = refl
word_quiet mnemonic.Add h = refl
word_quiet mnemonic.AddI h = refl
word_quiet mnemonic.SubI h = refl
word_quiet mnemonic.MulI h = refl
word_quiet mnemonic.DivI h = refl
word_quiet mnemonic.AddD h = refl
word_quiet mnemonic.SubD h = refl
word_quiet mnemonic.MulD h = refl
word_quiet mnemonic.DivD h = refl
word_quiet mnemonic.Mod h = refl
word_quiet mnemonic.EqI h = refl
word_quiet mnemonic.NeI h = refl
word_quiet mnemonic.GtI h = refl
word_quiet mnemonic.LtI h = refl
word_quiet mnemonic.GeI h = refl
word_quiet mnemonic.LeI h = refl
word_quiet mnemonic.EqD h = refl
word_quiet mnemonic.NeD h = refl
word_quiet mnemonic.GtD h = refl
word_quiet mnemonic.LtD h = refl
word_quiet mnemonic.GeD h = refl
word_quiet mnemonic.LeD h = refl
word_quiet mnemonic.Bti h = refl
word_quiet mnemonic.Itb h = refl
word_quiet mnemonic.Btd h = refl
word_quiet mnemonic.Dtb h = refl
word_quiet mnemonic.Itd h = refl
word_quiet mnemonic.Invi h = refl
word_quiet mnemonic.Invd h = refl
word_quiet mnemonic.Negi h = refl
word_quiet mnemonic.Negd h = refl
word_quiet mnemonic.Aw h = refl
word_quiet mnemonic.Ow h = refl
word_quiet mnemonic.Xow h = refl
word_quiet mnemonic.Ad h = refl
word_quiet mnemonic.Od h = refl
word_quiet mnemonic.Xod h = refl
word_quiet mnemonic.Ssi h = refl
word_quiet mnemonic.Ssd h = refl
word_quiet mnemonic.Slw h = refl
word_quiet mnemonic.Srw h = refl
word_quiet mnemonic.Sld h = refl
word_quiet mnemonic.Srd h = refl
word_quiet mnemonic.Rld h = refl
word_quiet mnemonic.Rrd h = refl
word_quiet mnemonic.Rlda h = refl
word_quiet mnemonic.Rrda h = refl
word_quiet mnemonic.Ju h = refl
word_quiet mnemonic.Jl h = refl
word_quiet mnemonic.Jc h = refl
word_quiet mnemonic.Jcn h = refl
word_quiet mnemonic.Jcb h = refl
word_quiet mnemonic.Jnb h = refl
word_quiet mnemonic.Jbi h = refl
word_quiet mnemonic.Jnbi h = refl
word_quiet mnemonic.Jo h = refl
word_quiet mnemonic.Jos h = refl
word_quiet mnemonic.Jz h = refl
word_quiet mnemonic.Jn h = refl
word_quiet mnemonic.Jp h = refl
word_quiet mnemonic.Jm h = refl
word_quiet mnemonic.Jpz h = refl
word_quiet mnemonic.Jmz h = refl
word_quiet mnemonic.Juo h = refl
word_quiet mnemonic.Loop h = refl
word_quiet mnemonic.Sp h = refl
word_quiet mnemonic.Se h = refl
word_quiet mnemonic.Sd h = refl
word_quiet mnemonic.Ss h = refl
word_quiet mnemonic.Sf h = refl
word_quiet mnemonic.Fr h = refl
word_quiet mnemonic.Cu h = refl
word_quiet mnemonic.Cd h = refl
word_quiet mnemonic.Call h = refl
word_quiet mnemonic.Uc h = refl
word_quiet mnemonic.Cc h = refl
word_quiet mnemonic.Be h = refl
word_quiet mnemonic.Bec h = refl
word_quiet mnemonic.Beu h = refl
word_quiet mnemonic.Opn h = refl
word_quiet mnemonic.Cdb h = refl

pub word_line : (s : Spelling) (g : Gap) (line : ℕ) → quiet s ≡ true → line_past line (spelling_pieces g s) ≡ line + sum_by newlines_of (gap_text g)
word_line (one k text) g line h =
    let parts = and_parts (flat text) (not (mark_is k text mark.Semicolon)) h in
    omega (arith, flat_ends text parts.0)
word_line (two k text j after) g line h =
    let a = and_parts (flat text && flat after && not (mark_is k text mark.Semicolon)) (not (mark_is j after mark.Semicolon)) h in
    let b = and_parts (flat text && flat after) (not (mark_is k text mark.Semicolon)) a.0 in
    let c = and_parts (flat text) (flat after) b.0 in
    omega (arith, flat_ends text c.0, flat_ends after c.1)

pub word_lacks : (s : Spelling) (g : Gap) → quiet s ≡ true → lacks mark.Semicolon (spelling_pieces g s) ≡ true
word_lacks (one k text) g h = and_from _ _ (and_parts (flat text) (not (mark_is k text mark.Semicolon)) h).1 refl
word_lacks (two k text j after) g h =
    let a = and_parts (flat text && flat after && not (mark_is k text mark.Semicolon)) (not (mark_is j after mark.Semicolon)) h in
    let b = and_parts (flat text && flat after) (not (mark_is k text mark.Semicolon)) a.0 in
    and_from _ _ b.1 (and_from _ _ a.1 refl)

-- the line of the first token
abbrev pub head_line : List Token → ℕ
head_line [] = 0
head_line (t ∷ ts) = t.line

pub word_head : (s : Spelling) (g : Gap) (from line : ℕ) (ps : List Piece)
    → head_line (tokens_of from line (spelling_pieces g s ++ ps)) ≡ line + sum_by newlines_of (gap_text g)
word_head (one k text) g from line ps = refl
word_head (two k text j after) g from line ps = refl

-- ---- the semicolon at the end

abbrev pub semicolon : Piece
semicolon = mark_piece gap.Nothing mark.Semicolon

-- its token behind these pieces
abbrev pub semicolon_behind : (from line : ℕ) → List Piece → Token
semicolon_behind from line ps = record {
  kind = kind.Mark;
  start = behind from ps + 0;
  end = behind from ps + 0 + 1;
  line = line_past line ps + 0;
}

pub semicolon_joined : (from line : ℕ) (ps : List Piece) (rest : List Token)
    → tokens_of from line (ps ++ semicolon ∷ []) ++ rest ≡ tokens_of from line ps ++ semicolon_behind from line ps ∷ rest
unfolding mark_text
semicolon_joined from line ps rest =
    ap (λ (ts : List Token). ts ++ rest) (tokens_joined from line ps (semicolon ∷ []))
    ∙ append_assoc (tokens_of from line ps) (semicolon_behind from line ps ∷ []) rest

pub semicolon_is : (source : List ℕ) (from line : ℕ) (ps : List Piece) → Texts source from line (ps ++ semicolon ∷ [])
    → is_mark source (semicolon_behind from line ps) mark.Semicolon ≡ true
unfolding is_mark has_kind mark_text
semicolon_is source from line ps t = rw (shown_behind source from line ps (semicolon ∷ []) t).1 refl

pub semicolon_calm : (source : List ℕ) (from line : ℕ) (ps : List Piece) → Texts source from line (ps ++ semicolon ∷ [])
    → calm_head source (semicolon_behind from line ps ∷ []) ≡ true
unfolding is_mark has_kind mark_text
semicolon_calm source from line ps t = rw (shown_behind source from line ps (semicolon ∷ []) t).1 refl
