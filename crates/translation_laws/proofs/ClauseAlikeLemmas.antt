-- Clauses outside of bodies are the same of tokens that are alike.
use Rattle.std.proofs.Common.{ℕ, ◌≡◌, Bool, true, false, not, ◌&&◌, List, [], ◌∷◌, Option, Some, None, refl, sym, ◌∙◌, ap, inl, inr}
use Rattle.std.specs.Prelude.{◌⊎◌, ◌==◌, is_some, nat_lt, if◌then◌else◌}
use Rattle.std.specs.Option.{option_map}
use Rattle.std.specs.List.{list_all}
use Rattle.std.specs.Str.{str_to_ascii_lowercase}
use Rattle.plc_base.specs.declared.blocks.BlockKind.{BlockKind}
use Rattle.plc_base.specs.declared.blocks.BlockKind.TheVariants as kinds
use Rattle.stl_lexer.specs.declared.kinds.Token.{Token}
use Rattle.stl_lexer.specs.declared.kinds.TokenKind.TheVariants as kind
use Rattle.stl_lexer.specs.declared.marks.Mark.TheVariants as mark
use Rattle.stl_lexer.specs.Bytes.{hash}
use Rattle.stl_lexer.specs.Tokens.{text_of}
use Rattle.stl_ast.specs.declared.declarations.Simple.{Simple}
use Rattle.stl_ast.specs.declared.names.BlockName.{BlockName}
use Rattle.stl_symbols.specs.declared.languages.Language.TheVariants.{English, German}
use Rattle.stl_parser.specs.declared.clauses.Clause.{Clause}
use Rattle.stl_parser.specs.declared.clauses.Clause.TheVariants as clause
use Rattle.stl_parser.specs.declared.keywords.ClauseWord.TheVariants as key
use Rattle.stl_parser.specs.declared.places.ClausePlace.{ClausePlace}
use Rattle.stl_parser.specs.declared.tables.HeadWord.{HeadWord}
use Rattle.stl_parser.specs.declared.tables.HeadWord.TheVariants as head_word
use Rattle.stl_parser.specs.declared.tables.Keyword.{Keyword}
use Rattle.stl_parser.specs.declared.tables.Keyword.TheVariants as keyword
use Rattle.stl_parser.specs.Clauses.{base_block_at, behind_note, head_clause, head_word_at, head_word_clause, in_head, inner_end, is_base_block, is_of_kind, keyword_clause, level_at, block_of_kind_at, result_at, result_type, skip_semicolon, structure_clause, structure_end, takes_parameters, version_at, colon_and_word_at}
use Rattle.stl_parser.specs.Declarations.{structure_at}
use Rattle.stl_parser.specs.Tables.{look_up, simple_types}
use Rattle.stl_parser.specs.Terminals.{has_kind, is_mark}
use Rattle.de_mnemonics.specs.Words.{operand_partner}
use Rattle.translation_laws.proofs.AgreeAlikeLemmas.{Agree, Behind, IsNamedPair, IsSamePair, Like, OpensNone, Pair, Rests, agree_chained, agree_chosen, equal, goes_on, agree_guarded, lefts, agree_mapped, nothing, rest, rights, something, agree_tested}
use Rattle.translation_laws.proofs.LikeAlikeLemmas.{key_like, kind_like, mark_like}
use Rattle.translation_laws.proofs.NumberAlikeLemmas.{block_agrees}
use Rattle.translation_laws.proofs.TextAlikeLemmas.{SeesNoCase, is_operand, no_entry, no_type}
use Rattle.translation_laws.proofs.TypeAlikeLemmas.{HeadKind, colon_agrees, structure_agrees}
use Rattle.de_mnemonics.proofs.CaseLemmas.{same_to}
use Rattle.translation_laws.proofs.LookUpLemmas.{same_looked_up}

-- a `#` stands in front
abbrev begins_hash : List ℕ → Bool
begins_hash [] = false
begins_hash (b ∷ w) = b == hash

hash_blind : SeesNoCase (λ w. begins_hash (str_to_ascii_lowercase w))
hash_blind a b same = ap begins_hash (same_to a b same)

types_unhashed : list_all (λ x. not (begins_hash (str_to_ascii_lowercase x.0))) simple_types ≡ true
unfolding simple_types
types_unhashed = refl

no_hashed_type : (w : List ℕ) → look_up simple_types (hash ∷ w) ≡ None
no_hashed_type w = no_entry (λ w. begins_hash (str_to_ascii_lowercase w)) hash_blind simple_types types_unhashed (hash ∷ w) refl

module _ (s e : List ℕ) (F : List (Pair s e) → Type 0) (closed : (p : Pair s e) (ps : List (Pair s e)) → F (p ∷ ps) → F ps)
    (apart : (p q : Pair s e) (ps : List (Pair s e)) → F (p ∷ q ∷ ps) → IsNamedPair p → is_some (operand_partner English (text_of s p.left)) ≡ false → OpensNone q) where
  -- the same clause, with what follows it, and whether a label in it is too long
  abbrev pub SameRead : Clause × List Token × Bool → Clause × List Token × Bool → Type 0
  SameRead x y = (x.0 ≡ y.0) × Rests s e F x.1 y.1 × (x.2 ≡ y.2)

  skipped : (ps : List (Pair s e)) → F ps → Rests s e F (skip_semicolon s (lefts ps)) (skip_semicolon e (rights ps))
  unfolding skip_semicolon
  skipped [] h = rest s e F [] h
  skipped (p ∷ ps) h = by (is_mark s p.left mark.Semicolon) (is_mark e p.right mark.Semicolon) (mark_like s e p mark.Semicolon)
    where
      by : (x y : Bool) → x ≡ y → Rests s e F (if x then lefts ps else p.left ∷ lefts ps) (if y then rights ps else p.right ∷ rights ps)
      by true true k = rest s e F ps (closed p ps h)
      by false false k = rest s e F (p ∷ ps) h
      by true false k = absurd cc
      by false true k = absurd cc

  pub note_rests : (cp : ClausePlace) (ps : List (Pair s e)) → F ps → Rests s e F (behind_note s cp (lefts ps)) (behind_note e cp (rights ps))
  unfolding behind_note
  note_rests cp ps h = by (in_head cp)
    where
      by : (b : Bool) → Rests s e F (if b then skip_semicolon s (lefts ps) else lefts ps) (if b then skip_semicolon e (rights ps) else rights ps)
      by true = skipped ps h
      by false = rest s e F ps h

  note_of : (cp : ClausePlace) (ts us : List Token) → Rests s e F ts us → Rests s e F (behind_note s cp ts) (behind_note e cp us)
  note_of cp ts us r = rw (sym r.left, sym r.right) (note_rests cp r.pairs r.fits)

  named_agrees : (k : BlockKind) (ps : List (Pair s e)) → F ps → Agree (Behind s e F {X = BlockName}) (block_of_kind_at s k (lefts ps)) (block_of_kind_at e k (rights ps))
  unfolding block_of_kind_at
  named_agrees k ps h = goes_on _ _ (block_agrees s e F closed apart ps h) (λ x qs j. agree_guarded (is_of_kind k x) (something (refl, rest s e F qs j)))

  type_word : (p : Pair s e) → look_up simple_types (text_of s p.left) ≡ look_up simple_types (text_of e p.right)
  type_word p = by p.like
    where
      none : (is_operand English (text_of s p.left) ≡ true) ⊎ (is_operand German (text_of s p.left) ≡ true) → look_up simple_types (text_of s p.left) ≡ None
      none (inl is) = no_type English (text_of s p.left) is
      none (inr is) = no_type German (text_of s p.left) is

      by : Like s e p.left p.right → look_up simple_types (text_of s p.left) ≡ look_up simple_types (text_of e p.right)
      by (inl h) = ap (look_up simple_types) h.text
      by (inr (inl h)) = same_looked_up simple_types (text_of s p.left) (text_of e p.right) h.text
      by (inr (inr h)) = none h.named.operand ∙ sym (ap (look_up simple_types) h.named.text ∙ no_hashed_type (text_of s p.left))

  result_type_agrees : (ps : List (Pair s e)) → F ps → Agree (Behind s e F {X = Option Simple}) (result_type s (lefts ps)) (result_type e (rights ps))
  unfolding result_type
  result_type_agrees [] h = nothing
  result_type_agrees (p ∷ ps) h =
      agree_chosen (key_like s e p key.Void) (something (refl, rest s e F ps (closed p ps h)))
      (agree_mapped _ _ (equal _ _ (type_word p)) (λ x y k. (ap Some k, rest s e F ps (closed p ps h))))

  result_behind : (ts us : List Token) → Rests s e F ts us → Agree (Behind s e F {X = Option Simple}) (result_type s ts) (result_type e us)
  result_behind ts us r = rw (sym r.left, sym r.right) (result_type_agrees r.pairs r.fits)

  result_agrees : (k : BlockKind) (ps : List (Pair s e)) → F ps → Agree (Behind s e F {X = Option Simple}) (result_at s k (lefts ps)) (result_at e k (rights ps))
  unfolding result_at
  result_agrees kinds.Fc ps h = agree_chained _ _ (colon_agrees s e F closed apart ps h) (λ ts us r. result_behind ts us r)
  result_agrees _ ps h = something (refl, rest s e F ps h)

  head_agrees : (line : ℕ) (k : BlockKind) (ps : List (Pair s e)) → F ps → Agree SameRead (head_clause s line k (lefts ps)) (head_clause e line k (rights ps))
  unfolding head_clause
  head_agrees line k ps h =
      goes_on _ _ (named_agrees k ps h) (λ b qs j. agree_mapped _ _ (result_agrees k qs j) (λ x y l. (ap (λ r. clause.Head line k b r) l.0, l.1, refl)))

  inner_agrees : (ps : List (Pair s e)) → F ps → Agree SameRead (inner_end s (lefts ps)) (inner_end e (rights ps))
  unfolding inner_end
  inner_agrees [] h = nothing
  inner_agrees (p ∷ ps) h = agree_tested (mark_like s e p mark.Semicolon) (λ is. something (refl, rest s e F ps (closed p ps h), refl))

  structure_end_agrees : (cp : ClausePlace) (ps : List (Pair s e)) → F ps → Agree SameRead (structure_end s cp (lefts ps)) (structure_end e cp (rights ps))
  unfolding structure_end
  structure_end_agrees cp ps h = by (nat_lt 0 (level_at cp))
    where
      by : (b : Bool) → Agree SameRead (if b then inner_end s (lefts ps) else Some (clause.EndStructure, skip_semicolon s (lefts ps), false))
          (if b then inner_end e (rights ps) else Some (clause.EndStructure, skip_semicolon e (rights ps), false))
      by true = inner_agrees ps h
      by false = something (refl, skipped ps h, refl)

  pub keyword_agrees : (cp : ClausePlace) (line : ℕ) (k : Keyword) (ps : List (Pair s e)) → F ps → Agree SameRead (keyword_clause s cp line k (lefts ps)) (keyword_clause e cp line k (rights ps))
  unfolding keyword_clause
  keyword_agrees cp line (keyword.Opens k) ps h = head_agrees line k ps h
  keyword_agrees cp line (keyword.Ends k) ps h = something (refl, rest s e F ps h, refl)
  keyword_agrees cp line (keyword.Section k) ps h = something (refl, rest s e F ps h, refl)
  keyword_agrees cp line keyword.EndSection ps h = something (refl, rest s e F ps h, refl)
  keyword_agrees cp line keyword.Begin ps h = something (refl, rest s e F ps h, refl)
  keyword_agrees cp line keyword.Network ps h = something (refl, rest s e F ps h, refl)
  keyword_agrees cp line keyword.Structure ps h = something (refl, rest s e F ps h, refl)
  keyword_agrees cp line keyword.EndStructure ps h = structure_end_agrees cp ps h

  -- ---- words of a head

  version_agrees : (ps : List (Pair s e)) → F ps → Agree (Rests s e F) (version_at s (lefts ps)) (version_at e (rights ps))
  unfolding version_at
  version_agrees (a ∷ b ∷ c ∷ d ∷ ps) h =
      agree_tested (rw (mark_like s e a mark.Colon, kind_like s e b kind.Number refl refl, mark_like s e c mark.Dot, kind_like s e d kind.Number refl refl) refl)
      (λ is. something (rest s e F ps (closed d ps (closed c (d ∷ ps) (closed b (c ∷ d ∷ ps) (closed a (b ∷ c ∷ d ∷ ps) h))))))
  version_agrees _ h = nothing

  -- behind a `:` in front a word is one in both
  abbrev pub NoteKind : List (Pair s e) → Type 0
  NoteKind [] = Unit {0}
  NoteKind (p ∷ []) = Unit {0}
  NoteKind (p ∷ q ∷ ps) = is_mark s p.left mark.Colon ≡ true → has_kind q.left kind.Word ≡ has_kind q.right kind.Word

  colon_word : (a b c d : Bool) → a ≡ b → (a ≡ true → c ≡ d) → (a && c) ≡ (b && d)
  colon_word true true c d h k = k refl
  colon_word false false c d h k = refl
  colon_word true false c d h k = absurd cc
  colon_word false true c d h k = absurd cc

  word_agrees : (ps : List (Pair s e)) → F ps → NoteKind ps → Agree (Rests s e F) (colon_and_word_at s (lefts ps)) (colon_and_word_at e (rights ps))
  unfolding colon_and_word_at
  word_agrees (p ∷ q ∷ ps) h note =
      agree_tested (colon_word (is_mark s p.left mark.Colon) (is_mark e p.right mark.Colon) (has_kind q.left kind.Word) (has_kind q.right kind.Word) (mark_like s e p mark.Colon) note)
      (λ is. something (rest s e F ps (closed q ps (closed p (q ∷ ps) h))))
  word_agrees [] h note = nothing
  word_agrees (p ∷ []) h note = nothing

  pub head_word_agrees : (cp : ClausePlace) (w : HeadWord) (ps : List (Pair s e)) → F ps → NoteKind ps → Agree SameRead (head_word_clause s cp w (lefts ps)) (head_word_clause e cp w (rights ps))
  unfolding head_word_clause head_word_at
  head_word_agrees cp w ps h note = agree_mapped _ _ (at w) (λ ts us r. (refl, note_of cp ts us r, refl))
    where
      at : (w : HeadWord) → Agree (Rests s e F) (head_word_at s w (lefts ps)) (head_word_at e w (rights ps))
      at head_word.Version = version_agrees ps h
      at head_word.Named = word_agrees ps h note
      at head_word.Alone = something (rest s e F ps h)

  pub based_agrees : (ps : List (Pair s e)) → F ps → Agree SameRead (base_block_at s (lefts ps)) (base_block_at e (rights ps))
  unfolding base_block_at
  based_agrees ps h = goes_on _ _ (block_agrees s e F closed apart ps h) (λ x qs j. agree_guarded (is_base_block x) (something (refl, rest s e F qs j, refl)))

  -- a clause that opens a structure is the same where the declared name is
  abbrev pub NamedRead : Pair s e → Clause × List Token × Bool → Clause × List Token × Bool → Type 0
  NamedRead p x y = (IsSamePair p → x.0 ≡ y.0) × Rests s e F x.1 y.1 × (x.2 ≡ y.2)

  pub structure_clause_agrees : (cp : ClausePlace) (p : Pair s e) (ps : List (Pair s e)) → F (p ∷ ps) → HeadKind s e F closed apart (p ∷ ps)
      → Agree (NamedRead p) (structure_clause s cp (p.left ∷ lefts ps)) (structure_clause e cp (p.right ∷ rights ps))
  unfolding structure_clause
  structure_clause_agrees cp p ps h kinds = by (takes_parameters cp)
    where
      by : (b : Bool) → Agree (NamedRead p) (if b then None else option_map (λ r. (clause.Declares r.0, r.1, false)) (structure_at s (level_at cp) (p.left ∷ lefts ps)))
          (if b then None else option_map (λ r. (clause.Declares r.0, r.1, false)) (structure_at e (level_at cp) (p.right ∷ rights ps)))
      by true = nothing
      by false = agree_mapped _ _ (structure_agrees s e F closed apart (level_at cp) p ps h kinds) (λ x y k. ((λ same. ap clause.Declares (k.0 same)), k.1, refl))
