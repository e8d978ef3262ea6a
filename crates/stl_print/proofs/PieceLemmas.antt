-- A text with pieces behind it.
use Rattle.std.proofs.Common.{◌≡◌, sym, ◌∙◌, ap, refl, ℕ, suc, List, [], ◌∷◌, ◌++◌, append_assoc}
use Rattle.std.proofs.lemmas.Grind.{fold-append}
use Rattle.std.proofs.lemmas.List.{append-nil}
use Rattle.std.specs.Prelude.{ℤ, pos, negsuc, decimal}
use Rattle.std.specs.Fmt.{signed_decimal}
use Rattle.stl_lexer.specs.Marks.{mark_text}
use Rattle.stl_lexer.specs.Pieces.{Piece, text_of_pieces}
use Rattle.stl_print.specs.Gaps.{gap_text}
use Rattle.stl_print.specs.Mnemonics.{Spelling, one, two, spelling_pieces, spelling_text}
use Rattle.stl_print.specs.Pieces.{signed_number_pieces, with_piece, with_pieces}
use Rattle.stl_print.specs.declared.gaps.Gap.{Gap}

-- a token in two parts
pub parts_joined : (text gap front behind : List ℕ) → ((text ++ gap) ++ front) ++ behind ≡ (text ++ gap) ++ (front ++ behind)
parts_joined text gap front behind = append_assoc (text ++ gap) front behind

-- what pieces spell behind a text, and the gap behind the last one
pub spelled-behind : (text : List ℕ) (ps : List Piece) (end : List ℕ) → text ++ text_of_pieces ps end ≡ with_pieces text ps ++ end
spelled-behind text [] end = refl
spelled-behind text (p ∷ ps) end =
    sym (append_assoc text p.gap (p.text ++ text_of_pieces ps end))
    ∙ sym (append_assoc (text ++ p.gap) p.text (text_of_pieces ps end))
    ∙ spelled-behind ((text ++ p.gap) ++ p.text) ps end

-- an instruction word behind a text
pub spelling_piece :
    (text : List ℕ) (g : Gap) (s : Spelling) → with_pieces text (spelling_pieces g s) ≡ (text ++ gap_text g) ++ spelling_text s
spelling_piece text g (one k word) = refl
spelling_piece text g (two k word j behind) =
    ap (λ (s : List ℕ). s ++ behind) (append-nil ((text ++ gap_text g) ++ word))
    ∙ append_assoc (text ++ gap_text g) word behind

-- a number with its sign behind a text
pub signed_piece :
    (text : List ℕ) (g : Gap) (n : ℤ) → with_pieces text (signed_number_pieces g n) ≡ (text ++ gap_text g) ++ signed_decimal n
unfolding mark_text
signed_piece text g (pos n) = refl
signed_piece text g (negsuc n) =
    ap (λ (s : List ℕ). s ++ decimal (suc n)) (append-nil ((text ++ gap_text g) ++ 45 ∷ []))
    ∙ append_assoc (text ++ gap_text g) (45 ∷ []) (decimal (suc n))

-- pieces behind others
pub pieces_then :
    (text between after : List ℕ) (ps qs : List Piece) → between ≡ with_pieces text ps → after ≡ with_pieces between qs
    → after ≡ with_pieces text (ps ++ qs)
pieces_then text between after ps qs first rest =
    rest ∙ ap (λ (s : List ℕ). with_pieces s qs) first ∙ sym (fold-append with_piece text ps qs)
