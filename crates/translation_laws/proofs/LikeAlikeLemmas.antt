-- What is seen of a token is the same of one that is like it.
use Rattle.std.proofs.Common.{ℕ, ◌≡◌, Bool, true, false, ◌&&◌, List, None, refl, sym, ◌∙◌, ap, inl, inr}
use Rattle.std.specs.Prelude.{◌⊎◌, nat_eq}
use Rattle.std.specs.Str.{str_eq_ignore_ascii_case, str_to_ascii_lowercase}
use Rattle.std.proofs.lemmas.Bool.{false≢true}
use Rattle.stl_lexer.specs.declared.kinds.Token.{Token}
use Rattle.stl_lexer.specs.declared.kinds.TokenKind.{TokenKind}
use Rattle.stl_lexer.specs.declared.kinds.TokenKind.TheVariants as kind
use Rattle.stl_lexer.specs.declared.marks.Mark.{Mark}
use Rattle.stl_lexer.specs.Tokens.{text_of}
use Rattle.stl_symbols.specs.declared.languages.Language.{Language}
use Rattle.stl_symbols.specs.declared.languages.Language.TheVariants.{English, German}
use Rattle.stl_parser.specs.declared.keywords.ClauseWord.{ClauseWord}
use Rattle.stl_parser.specs.declared.keywords.ClauseWord.TheVariants as key
use Rattle.stl_parser.specs.Numbers.{number_up_to}
use Rattle.stl_parser.specs.Terminals.{has_kind, is_key, is_mark, key_text, kind_rank}
use Rattle.translation_laws.specs.Alike.{IsOperandWordAsLocal, IsSameToken}
use Rattle.de_mnemonics.specs.Tables.{operand_pairs, result_pairs}
use Rattle.de_mnemonics.specs.Words.{numbered_partner, operand_partner, partner_in_table}
use Rattle.translation_laws.proofs.AgreeAlikeLemmas.{Like, Pair}
use Rattle.translation_laws.proofs.TextAlikeLemmas.{Same, is_operand, operand_same}
use Rattle.de_mnemonics.proofs.CaseLemmas.{same_from, same_text}

-- ---- kinds

pub of_kind : (t : Token) (j k : TokenKind) → t.kind ≡ j → has_kind t k ≡ nat_eq (kind_rank j) (kind_rank k)
unfolding has_kind
of_kind t j k e = ap (λ i. nat_eq (kind_rank i) (kind_rank k)) e

pub no_mark : (s : List ℕ) (t : Token) (m : Mark) → has_kind t kind.Mark ≡ false → is_mark s t m ≡ false
unfolding is_mark
no_mark s t m e = rw e refl

no_number : (most : ℕ) (s : List ℕ) (t : Token) → has_kind t kind.Number ≡ false → number_up_to most s t ≡ None
unfolding number_up_to
no_number most s t e = rw e refl

pub no_key : (s : List ℕ) (t : Token) (k : ClauseWord) → has_kind t kind.Word ≡ false → is_key s t k ≡ false
unfolding is_key
no_key s t k e = rw e refl

-- a language's operand words are none of the keys
keys_differ : (language : Language) (k : ClauseWord) → is_operand language (key_text k) ≡ false
unfolding operand_partner numbered_partner partner_in_table operand_pairs result_pairs key_text
keys_differ English key.True = refl
keys_differ English key.False = refl
keys_differ English key.Array = refl
keys_differ English key.Of = refl
keys_differ English key.Struct = refl
keys_differ English key.Void = refl
keys_differ English key.DateAndTime = refl
keys_differ English key.Ar1 = refl
keys_differ English key.Ar2 = refl
keys_differ English key.B = refl
keys_differ English key.W = refl
keys_differ English key.D = refl
keys_differ English key.Mcr = refl
keys_differ German key.True = refl
keys_differ German key.False = refl
keys_differ German key.Array = refl
keys_differ German key.Of = refl
keys_differ German key.Struct = refl
keys_differ German key.Void = refl
keys_differ German key.DateAndTime = refl
keys_differ German key.Ar1 = refl
keys_differ German key.Ar2 = refl
keys_differ German key.B = refl
keys_differ German key.W = refl
keys_differ German key.D = refl
keys_differ German key.Mcr = refl

operand_no_key : (language : Language) (s : List ℕ) (t : Token) (k : ClauseWord) → is_operand language (text_of s t) ≡ true → is_key s t k ≡ false
unfolding is_key
operand_no_key language s t k is = by (has_kind t kind.Word) (str_eq_ignore_ascii_case (text_of s t) (key_text k)) refl
  where
    by : (a b : Bool) → str_eq_ignore_ascii_case (text_of s t) (key_text k) ≡ b → (a && b) ≡ false
    by true true e = absurd (false≢true (sym (keys_differ language k) ∙ sym (operand_same language (text_of s t) (key_text k) e) ∙ is))
    by true false e = refl
    by false b e = refl

pub itself : (a b : List ℕ) → a ≡ b → Same a b
itself a b e = same_from a b (ap str_to_ascii_lowercase e)

module _ (s e : List ℕ) where
  pub line_like : (p : Pair s e) → p.left.line ≡ p.right.line
  line_like p = by p.like
    where
      by : Like s e p.left p.right → p.left.line ≡ p.right.line
      by (inl h) = h.line
      by (inr (inl h)) = h.line
      by (inr (inr h)) = h.named.line

  pub same_kind : (t u : Token) (k : TokenKind) → IsSameToken s e t u → has_kind t k ≡ has_kind u k
  unfolding has_kind
  same_kind t u k h = ap (λ i. nat_eq (kind_rank i) (kind_rank k)) h.kind

  pub mark_like : (p : Pair s e) (m : Mark) → is_mark s p.left m ≡ is_mark e p.right m
  unfolding is_mark
  mark_like p m = by p.like
    where
      by : Like s e p.left p.right → is_mark s p.left m ≡ is_mark e p.right m
      by (inl h) = rw (same_kind p.left p.right kind.Mark h, h.text) refl
      by (inr (inl h)) = no_mark s p.left m (of_kind p.left kind.Word kind.Mark h.word) ∙ sym (no_mark e p.right m (of_kind p.right kind.Word kind.Mark h.other))
      by (inr (inr h)) = no_mark s p.left m (of_kind p.left kind.Word kind.Mark h.named.word) ∙ sym (no_mark e p.right m (of_kind p.right kind.Local kind.Mark h.named.other))

  pub number_like : (most : ℕ) (p : Pair s e) → number_up_to most s p.left ≡ number_up_to most e p.right
  unfolding number_up_to
  number_like most p = by p.like
    where
      by : Like s e p.left p.right → number_up_to most s p.left ≡ number_up_to most e p.right
      by (inl h) = rw (same_kind p.left p.right kind.Number h, h.text) refl
      by (inr (inl h)) = no_number most s p.left (of_kind p.left kind.Word kind.Number h.word) ∙ sym (no_number most e p.right (of_kind p.right kind.Word kind.Number h.other))
      by (inr (inr h)) = no_number most s p.left (of_kind p.left kind.Word kind.Number h.named.word) ∙ sym (no_number most e p.right (of_kind p.right kind.Local kind.Number h.named.other))

  pub named_no_key : (t u : Token) (k : ClauseWord) → IsOperandWordAsLocal s e t u → is_key s t k ≡ false
  named_no_key t u k h = by h.operand
    where
      by : (is_operand English (text_of s t) ≡ true) ⊎ (is_operand German (text_of s t) ≡ true) → is_key s t k ≡ false
      by (inl is) = operand_no_key English s t k is
      by (inr is) = operand_no_key German s t k is

  pub key_like : (p : Pair s e) (k : ClauseWord) → is_key s p.left k ≡ is_key e p.right k
  unfolding is_key
  key_like p k = by p.like
    where
      by : Like s e p.left p.right → is_key s p.left k ≡ is_key e p.right k
      by (inl h) = rw (same_kind p.left p.right kind.Word h, h.text) refl
      by (inr (inl h)) = rw (of_kind p.left kind.Word kind.Word h.word, of_kind p.right kind.Word kind.Word h.other) (same_text (text_of s p.left) (text_of e p.right) (key_text k) h.text)
      by (inr (inr h)) = named_no_key p.left p.right k h.named ∙ sym (no_key e p.right k (of_kind p.right kind.Local kind.Word h.named.other))

  -- of a kind that is neither a word nor a local name
  pub kind_like : (p : Pair s e) (k : TokenKind) → nat_eq 0 (kind_rank k) ≡ false → nat_eq 3 (kind_rank k) ≡ false → has_kind p.left k ≡ has_kind p.right k
  kind_like p k a b = by p.like
    where
      by : Like s e p.left p.right → has_kind p.left k ≡ has_kind p.right k
      by (inl h) = same_kind p.left p.right k h
      by (inr (inl h)) = (of_kind p.left kind.Word k h.word ∙ a) ∙ sym (of_kind p.right kind.Word k h.other ∙ a)
      by (inr (inr h)) = (of_kind p.left kind.Word k h.named.word ∙ a) ∙ sym (of_kind p.right kind.Local k h.named.other ∙ b)

  -- and of such a kind the text is the same
  pub text_like : (p : Pair s e) (k : TokenKind) → nat_eq 0 (kind_rank k) ≡ false → has_kind p.left k ≡ true → text_of s p.left ≡ text_of e p.right
  text_like p k a is = by p.like
    where
      by : Like s e p.left p.right → text_of s p.left ≡ text_of e p.right
      by (inl h) = h.text
      by (inr (inl h)) = absurd (false≢true (sym (of_kind p.left kind.Word k h.word ∙ a) ∙ is))
      by (inr (inr h)) = absurd (false≢true (sym (of_kind p.left kind.Word k h.named.word ∙ a) ∙ is))
