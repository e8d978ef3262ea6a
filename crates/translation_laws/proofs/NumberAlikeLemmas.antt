-- Numbers, constants, addresses and blocks are the same of tokens that are alike.
use Rattle.std.proofs.Common.{ℕ, ◌≡◌, Bool, true, false, ◌&&◌, List, [], ◌∷◌, take, drop, Option, Some, None, refl, sym, ◌∙◌, ap, inl, inr}
use Rattle.std.specs.Prelude.{◌⊎◌, is_some, nat_le, if◌then◌else◌, pos, ◌-ℤ◌}
use Rattle.std.specs.Option.{option_map, option_or, option_and_then}
use Rattle.std.proofs.lemmas.Bool.{false≢true}
use Rattle.plc_base.specs.Decimal.{decimal_up_to}
use Rattle.plc_base.specs.declared.blocks.BlockKind.{BlockKind}
use Rattle.stl_lexer.specs.declared.kinds.Token.{Token}
use Rattle.stl_lexer.specs.declared.kinds.TokenKind.{TokenKind}
use Rattle.stl_lexer.specs.declared.kinds.TokenKind.TheVariants as kind
use Rattle.stl_lexer.specs.declared.marks.Mark.TheVariants as mark
use Rattle.stl_lexer.specs.Limits.{greatest_number}
use Rattle.stl_lexer.specs.Tokens.{text_of}
use Rattle.stl_ast.specs.declared.literals.Literal.TheVariants as literal
use Rattle.stl_ast.specs.declared.names.BlockName.TheVariants as block
use Rattle.stl_symbols.specs.declared.languages.Language.TheVariants.{English, German}
use Rattle.stl_parser.specs.declared.keywords.ClauseWord.TheVariants as key
use Rattle.stl_parser.specs.declared.tables.AddressKind.{AddressKind}
use Rattle.stl_parser.specs.Addresses.{address_at, bit_of, block_at, block_number_at, glued_letters_and_number, letter_count, letters_and_number_at, quoted_block_at, separate_letters_and_number}
use Rattle.stl_parser.specs.Literals.{byte_of, bytes_at, bytes_behind, characters_of, last_bytes, literal_at, literal_of, literal_token, long_literal, truth_of, text_between_quotes}
use Rattle.stl_parser.specs.Numbers.{int_at, number_of_token, number_up_to, signed_number_at}
use Rattle.stl_parser.specs.Tables.{addresses, block_kinds, flags, look_up}
use Rattle.stl_parser.specs.Terminals.{has_kind}
use Rattle.stl_parser.specs.Values.{based_value, duration_literal, long_or_count}
use Rattle.translation_laws.specs.Alike.{IsOperandWordAsLocal, IsSameToken}
use Rattle.de_mnemonics.specs.Words.{operand_partner}
use Rattle.translation_laws.proofs.AgreeAlikeLemmas.{Agree, Behind, IsNamedPair, Like, SameValueAndRest, OpensNone, Pair, agree_chained, agree_chosen, either, equal, lefts, agree_mapped, nothing, rest, rights, something, agree_tested, whole_same}
use Rattle.translation_laws.proofs.LikeAlikeLemmas.{itself, key_like, kind_like, mark_like, named_no_key, number_like, of_kind, same_kind, text_like}
use Rattle.translation_laws.proofs.TextAlikeLemmas.{Same, decimal_same, is_operand, no_address, no_address_letters, no_block, no_block_letters}
use Rattle.translation_laws.proofs.LookUpLemmas.{same_looked_up}
use Rattle.translation_laws.proofs.LetterLemmas.{same_letters}

module _ (s e : List ℕ) (F : List (Pair s e) → Type 0) (closed : (p : Pair s e) (ps : List (Pair s e)) → F (p ∷ ps) → F ps)
    (apart : (p q : Pair s e) (ps : List (Pair s e)) → F (p ∷ q ∷ ps) → IsNamedPair p → is_some (operand_partner English (text_of s p.left)) ≡ false → OpensNone q) where
  -- ---- numbers

  pub signed_agrees : (p : Pair s e) (ps : List (Pair s e)) → F ps → Agree (Behind s e F) (signed_number_at s p.left (lefts ps)) (signed_number_at e p.right (rights ps))
  unfolding signed_number_at number_of_token
  signed_agrees p [] h = nothing
  signed_agrees p (q ∷ qs) h =
      agree_chosen (mark_like s e p mark.Minus)
      (agree_mapped _ _ (equal _ _ (number_like s e (greatest_number true) q)) (λ n m k. (ap (λ n. pos 0 -ℤ pos n) k, rest s e F qs (closed q qs h))))
      (agree_chosen (mark_like s e p mark.Plus)
      (agree_mapped _ _ (equal _ _ (number_like s e (greatest_number false) q)) (λ n m k. (ap pos k, rest s e F qs (closed q qs h)))) nothing)

  pub int_agrees : (ps : List (Pair s e)) → F ps → Agree (Behind s e F) (int_at s (lefts ps)) (int_at e (rights ps))
  unfolding int_at number_of_token
  int_agrees [] h = nothing
  int_agrees (p ∷ ps) h =
      either (agree_mapped _ _ (equal _ _ (number_like s e (greatest_number false) p)) (λ n m k. (ap pos k, rest s e F ps (closed p ps h))))
      (signed_agrees p ps (closed p ps h))

  -- ---- constants

  pub truth_like : (p : Pair s e) → truth_of s p.left ≡ truth_of e p.right
  unfolding truth_of
  truth_like p = rw (key_like s e p key.True, key_like s e p key.False) refl

  pub number_of_like : (p : Pair s e) → number_of_token s p.left ≡ number_of_token e p.right
  unfolding number_of_token
  number_of_like p = number_like s e (greatest_number false) p

  same_token : (p : Pair s e) → IsSameToken s e p.left p.right → (k : TokenKind) → literal_token s p.left k ≡ literal_token e p.right k
  unfolding literal_token
  same_token p h kind.Word = truth_like p
  same_token p h kind.Number = ap (option_map (λ n. literal.Number (pos n))) (number_of_like p)
  same_token p h kind.Characters = ap (λ t. option_map literal.Characters (characters_of (text_between_quotes t))) h.text
  same_token p h kind.Based = ap based_value h.text
  same_token p h kind.NumberLiteral = ap long_or_count h.text
  same_token p h kind.TimeLiteral = ap duration_literal h.text
  same_token p h _ = refl

  pub no_truth : (p : Pair s e) → IsOperandWordAsLocal s e p.left p.right → truth_of s p.left ≡ None
  unfolding truth_of
  no_truth p h = rw (named_no_key s e p.left p.right key.True h, named_no_key s e p.left p.right key.False h) refl

  pub token_like : (p : Pair s e) → literal_token s p.left p.left.kind ≡ literal_token e p.right p.right.kind
  unfolding literal_token
  token_like p = by p.like
    where
      word : literal_token s p.left kind.Word ≡ literal_token e p.right kind.Word
      word = truth_like p

      name : IsOperandWordAsLocal s e p.left p.right → literal_token s p.left kind.Word ≡ literal_token e p.right kind.Local
      name h = no_truth p h

      by : Like s e p.left p.right → literal_token s p.left p.left.kind ≡ literal_token e p.right p.right.kind
      by (inl h) = same_token p h p.left.kind ∙ ap (literal_token e p.right) h.kind
      by (inr (inl h)) = ap (literal_token s p.left) h.word ∙ word ∙ sym (ap (literal_token e p.right) h.other)
      by (inr (inr h)) = ap (literal_token s p.left) h.named.word ∙ name h.named ∙ sym (ap (literal_token e p.right) h.named.other)

  byte_like : (p : Pair s e) → byte_of s p.left ≡ byte_of e p.right
  unfolding byte_of
  byte_like p = ap (option_and_then (λ n. if nat_le n 255 then Some n else None)) (number_of_like p)

  four : (a b x y z w : ℕ) → x ≡ y → z ≡ w → literal.Bytes (a ∷ b ∷ x ∷ z ∷ []) ≡ literal.Bytes (a ∷ b ∷ y ∷ w ∷ [])
  four a b x y z w k l = rw (k, l) refl

  pub both_marks : {a b c d : Bool} → a ≡ c → b ≡ d → (a && b) ≡ (c && d)
  both_marks h k = rw (h, k) refl

  last_agrees : (a b : ℕ) (ps : List (Pair s e)) → F ps → Agree (Behind s e F) (last_bytes s a b (lefts ps)) (last_bytes e a b (rights ps))
  unfolding last_bytes
  last_agrees a b (p ∷ q ∷ r ∷ t ∷ ps) h =
      agree_chosen (both_marks (mark_like s e q mark.Comma) (mark_like s e t mark.CloseParen))
      (agree_chained _ _ (equal _ _ (byte_like p)) (λ x y k. agree_mapped _ _ (equal _ _ (byte_like r)) (λ z w l. (four a b x y z w k l, rest s e F ps (closed t ps (closed r (t ∷ ps) (closed q (r ∷ t ∷ ps) (closed p (q ∷ r ∷ t ∷ ps) h))))))))
      nothing
  last_agrees a b _ h = nothing

  behind_agrees : (a b : ℕ) (p : Pair s e) (ps : List (Pair s e)) → F ps → Agree (Behind s e F) (bytes_behind s a b p.left (lefts ps)) (bytes_behind e a b p.right (rights ps))
  unfolding bytes_behind
  behind_agrees a b p ps h =
      agree_chosen (mark_like s e p mark.CloseParen) (something (refl, rest s e F ps h))
      (agree_chosen (mark_like s e p mark.Comma) (last_agrees a b ps h) nothing)

  bytes_agree : (ps : List (Pair s e)) → F ps → Agree (Behind s e F) (bytes_at s (lefts ps)) (bytes_at e (rights ps))
  unfolding bytes_at
  bytes_agree (p ∷ q ∷ r ∷ t ∷ ps) h =
      agree_chosen (mark_like s e q mark.Comma)
      (agree_chained _ _ (equal _ _ (byte_like p)) (λ x y k. agree_chained _ _ (equal _ _ (byte_like r))
      (λ z w l. rw (k, l) (behind_agrees y w t ps (closed t ps (closed r (t ∷ ps) (closed q (r ∷ t ∷ ps) (closed p (q ∷ r ∷ t ∷ ps) h))))))))
      nothing
  bytes_agree _ h = nothing

  pub long_agrees : (p : Pair s e) (ps : List (Pair s e)) → F ps → Agree (Behind s e F) (long_literal s p.left (lefts ps)) (long_literal e p.right (rights ps))
  unfolding long_literal
  long_agrees p ps h =
      agree_chosen (mark_like s e p mark.Bytes) (bytes_agree ps h)
      (agree_mapped _ _ (signed_agrees p ps h) (λ x y k. (ap literal.Number k.0, k.1)))

  pub literal_agrees : (ps : List (Pair s e)) → F ps → Agree (Behind s e F) (literal_at s (lefts ps)) (literal_at e (rights ps))
  unfolding literal_at
  literal_agrees [] h = nothing
  literal_agrees (p ∷ ps) h =
      either (agree_mapped _ _ (equal _ _ (token_like p)) (λ x y k. (k, rest s e F ps (closed p ps h)))) (long_agrees p ps (closed p ps h))

  pub literal_same : (ps : List (Pair s e)) → F ps → literal_of s (lefts ps) ≡ literal_of e (rights ps)
  unfolding literal_of
  literal_same ps h = whole_same {s = s} {e = e} {F = F} (literal_at s (lefts ps)) (literal_at e (rights ps)) (literal_agrees ps h)

  -- ---- letters and a number

  glued_agrees : {X : Type 0} (table : List (List ℕ × X)) (a b : List ℕ) → Same a b → (ps : List (Pair s e)) → F ps
      → Agree (SameValueAndRest s e F {X = X}) (glued_letters_and_number table a (lefts ps)) (glued_letters_and_number table b (rights ps))
  unfolding glued_letters_and_number
  glued_agrees table a b is ps h =
      agree_chained _ _ (equal _ _ (same_looked_up table (take (letter_count a) a) (take (letter_count b) b) (same_letters a b is)))
      (λ x y k. agree_mapped _ _ (equal _ _ (decimal_same (greatest_number false) a b is)) (λ n m l. (k, l, rest s e F ps h)))

  separate_agrees : {X : Type 0} (table : List (List ℕ × X)) (a b : List ℕ) → Same a b → (ps : List (Pair s e)) → F ps
      → Agree (SameValueAndRest s e F {X = X}) (separate_letters_and_number table s a (lefts ps)) (separate_letters_and_number table e b (rights ps))
  unfolding separate_letters_and_number
  separate_agrees table a b is [] h = nothing
  separate_agrees table a b is (p ∷ ps) h =
      agree_chained _ _ (equal _ _ (same_looked_up table a b is))
      (λ x y k. agree_mapped _ _ (equal _ _ (number_of_like p)) (λ n m l. (k, l, rest s e F ps (closed p ps h))))

  -- a name is neither letters of the table nor has it a number
  abbrev pub IsNone : {X : Type 0} → List (List ℕ × X) → List ℕ → List Token → Type 0
  IsNone table a ts = (glued_letters_and_number table a ts ≡ None) × (separate_letters_and_number table s a ts ≡ None)

  no_glued : {X : Type 0} (table : List (List ℕ × X)) (a : List ℕ) (ts : List Token) → look_up table (take (letter_count a) a) ≡ None → glued_letters_and_number table a ts ≡ None
  unfolding glued_letters_and_number
  no_glued table a ts none = rw none refl

  no_separate : {X : Type 0} (table : List (List ℕ × X)) (a : List ℕ) (ts : List Token) → look_up table a ≡ None → separate_letters_and_number table s a ts ≡ None
  unfolding separate_letters_and_number
  no_separate table a [] none = refl
  no_separate table a (t ∷ ts) none = rw none refl

  nothing_of : {X Y : Type 0} (o : Option X) → option_and_then {T = X} {U = Y} (λ x. None) o ≡ None
  nothing_of None = refl
  nothing_of (Some x) = refl

  -- without digits in the word
  no_digits : {X : Type 0} (table : List (List ℕ × X)) (a : List ℕ) (ts : List Token) → drop (letter_count a) a ≡ [] → glued_letters_and_number table a ts ≡ None
  unfolding glued_letters_and_number decimal_up_to
  no_digits table a ts none = rw none (nothing_of (look_up table (take (letter_count a) a)))

  -- and without a number behind it
  no_number : {X : Type 0} (table : List (List ℕ × X)) (a : List ℕ) (t : Token) (ts : List Token) → has_kind t kind.Number ≡ false → separate_letters_and_number table s a (t ∷ ts) ≡ None
  unfolding separate_letters_and_number number_of_token number_up_to
  no_number table a t ts none = rw none (nothing_of (look_up table a))

  numbered_agrees : {X : Type 0} (table : List (List ℕ × X)) (p : Pair s e) (ps : List (Pair s e)) → F ps
      → (IsNamedPair p → IsNone table (text_of s p.left) (lefts ps))
      → Agree (SameValueAndRest s e F {X = X}) (letters_and_number_at table s (p.left ∷ lefts ps)) (letters_and_number_at table e (p.right ∷ rights ps))
  unfolding letters_and_number_at
  numbered_agrees {X = X} table p ps h none = by p.like
    where
      two : (x y : Bool) → x ≡ y → Same (text_of s p.left) (text_of e p.right)
          → Agree (SameValueAndRest s e F {X = X}) (if x then option_or (glued_letters_and_number table (text_of s p.left) (lefts ps)) (separate_letters_and_number table s (text_of s p.left) (lefts ps)) else None)
          (if y then option_or (glued_letters_and_number table (text_of e p.right) (rights ps)) (separate_letters_and_number table e (text_of e p.right) (rights ps)) else None)
      two x y same text =
          agree_chosen same
          (either (glued_agrees table (text_of s p.left) (text_of e p.right) text ps h) (separate_agrees table (text_of s p.left) (text_of e p.right) text ps h)) nothing

      by : Like s e p.left p.right
          → Agree (SameValueAndRest s e F {X = X}) (if has_kind p.left kind.Word then option_or (glued_letters_and_number table (text_of s p.left) (lefts ps)) (separate_letters_and_number table s (text_of s p.left) (lefts ps)) else None)
          (if has_kind p.right kind.Word then option_or (glued_letters_and_number table (text_of e p.right) (rights ps)) (separate_letters_and_number table e (text_of e p.right) (rights ps)) else None)
      by (inl k) = two (has_kind p.left kind.Word) (has_kind p.right kind.Word) (same_kind s e p.left p.right kind.Word k) (itself (text_of s p.left) (text_of e p.right) k.text)
      by (inr (inl k)) = two (has_kind p.left kind.Word) (has_kind p.right kind.Word) (of_kind p.left kind.Word kind.Word k.word ∙ sym (of_kind p.right kind.Word kind.Word k.other)) k.text
      by (inr (inr k)) =
          let found = none k in
          rw (of_kind p.left kind.Word kind.Word k.named.word, of_kind p.right kind.Local kind.Word k.named.other, found.0, found.1) nothing

  pub block_number_agrees : (ps : List (Pair s e)) → F ps → Agree (SameValueAndRest s e F {X = BlockKind}) (block_number_at s (lefts ps)) (block_number_at e (rights ps))
  unfolding block_number_at letters_and_number_at
  block_number_agrees [] h = nothing
  block_number_agrees (p ∷ ps) h = numbered_agrees block_kinds p ps (closed p ps h) (λ named. by named.named.operand)
    where
      by : (is_operand English (text_of s p.left) ≡ true) ⊎ (is_operand German (text_of s p.left) ≡ true) → IsNone block_kinds (text_of s p.left) (lefts ps)
      by (inl is) = (no_glued block_kinds (text_of s p.left) (lefts ps) (no_block_letters English (text_of s p.left) is), no_separate block_kinds (text_of s p.left) (lefts ps) (no_block English (text_of s p.left) is))
      by (inr is) = (no_glued block_kinds (text_of s p.left) (lefts ps) (no_block_letters German (text_of s p.left) is), no_separate block_kinds (text_of s p.left) (lefts ps) (no_block German (text_of s p.left) is))

  -- a name with `#` is no address
  named_none : (p : Pair s e) (ps : List (Pair s e)) → F (p ∷ ps) → IsNamedPair p → IsNone addresses (text_of s p.left) (lefts ps)
  unfolding separate_letters_and_number
  named_none p ps h named = by named (is_operand English (text_of s p.left)) refl named.alone
    where
      behind : (qs : List (Pair s e)) → F (p ∷ qs) → IsNamedPair p → is_operand English (text_of s p.left) ≡ false → separate_letters_and_number addresses s (text_of s p.left) (lefts qs) ≡ None
      behind [] k named isnt = refl
      behind (q ∷ qs) k named isnt = no_number addresses (text_of s p.left) q.left (lefts qs) (apart p q qs k named isnt).0

      by : IsNamedPair p → (t : Bool) → is_operand English (text_of s p.left) ≡ t
          → (is_operand English (text_of s p.left) ≡ true) ⊎ ((drop (letter_count (text_of s p.left)) (text_of s p.left) ≡ []) × (look_up flags (text_of s p.left) ≡ None))
          → IsNone addresses (text_of s p.left) (lefts ps)
      by named true is alone =
          (no_glued addresses (text_of s p.left) (lefts ps) (no_address_letters (text_of s p.left) is), no_separate addresses (text_of s p.left) (lefts ps) (no_address (text_of s p.left) is))
      by named false is (inl english) = absurd (false≢true (sym is ∙ english))
      by named false is (inr none) = (no_digits addresses (text_of s p.left) (lefts ps) none.0, behind ps h named is)

  pub named_no_address : (p : Pair s e) (ps : List (Pair s e)) → F (p ∷ ps) → IsNamedPair p → address_at s (p.left ∷ lefts ps) ≡ None
  unfolding address_at letters_and_number_at
  named_no_address p ps h named =
      let found = named_none p ps h named in
      rw (of_kind p.left kind.Word kind.Word named.named.word, found.0, found.1) refl

  pub address_agrees : (ps : List (Pair s e)) → F ps → Agree (SameValueAndRest s e F {X = AddressKind}) (address_at s (lefts ps)) (address_at e (rights ps))
  unfolding address_at letters_and_number_at
  address_agrees [] h = nothing
  address_agrees (p ∷ ps) h = numbered_agrees addresses p ps (closed p ps h) (λ named. named_none p ps h named)

  pub quoted_agrees : (ps : List (Pair s e)) → F ps → Agree (Behind s e F) (quoted_block_at s (lefts ps)) (quoted_block_at e (rights ps))
  unfolding quoted_block_at
  quoted_agrees [] h = nothing
  quoted_agrees (p ∷ ps) h =
      agree_tested (kind_like s e p kind.Quoted refl refl)
      (λ is. something (ap (λ t. block.Quoted (text_between_quotes t)) (text_like s e p kind.Quoted refl is), rest s e F ps (closed p ps h)))

  block_name : (k l : BlockKind) (n m : ℕ) → k ≡ l → n ≡ m → block.Number (record { kind = k; number = n }) ≡ block.Number (record { kind = l; number = m })
  block_name k l n m a b = rw (a, b) refl

  pub block_agrees : (ps : List (Pair s e)) → F ps → Agree (Behind s e F) (block_at s (lefts ps)) (block_at e (rights ps))
  unfolding block_at
  block_agrees ps h =
      either (agree_mapped _ _ (block_number_agrees ps h) (λ x y k. (block_name x.0 y.0 x.1 y.1 k.0 k.1, k.2))) (quoted_agrees ps h)

  pub bit_same : (ps : List (Pair s e)) → bit_of s (lefts ps) ≡ bit_of e (rights ps)
  unfolding bit_of
  bit_same (p ∷ q ∷ []) = rw (mark_like s e p mark.Dot, number_of_like q) refl
  bit_same _ = refl
