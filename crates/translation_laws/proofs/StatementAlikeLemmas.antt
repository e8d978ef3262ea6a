-- Statements are the same of tokens that are alike.
use Rattle.std.proofs.Common.{ℕ, zero, suc, ◌≡◌, Bool, true, false, ◌&&◌, List, [], ◌∷◌, length, take, drop, Option, Some, None, refl, sym, ◌∙◌, ap, inl, inr}
use Rattle.std.specs.Prelude.{◌⊎◌, ◌||◌, codes, nat_eq, if◌then◌else◌}
use Rattle.std.specs.Option.{option_map, option_or, option_and_then}
use Rattle.std.specs.Str.{str_eq_ignore_ascii_case}
use Rattle.std.proofs.lemmas.Bool.{false≢true}
use Rattle.plc_base.specs.Kinds.{is_function_block, is_data_block}
use Rattle.stl_lexer.specs.declared.kinds.Token.{Token}
use Rattle.stl_lexer.specs.declared.kinds.TokenKind.{TokenKind}
use Rattle.stl_lexer.specs.declared.kinds.TokenKind.TheVariants as kind
use Rattle.stl_lexer.specs.declared.marks.Mark.{Mark}
use Rattle.stl_lexer.specs.declared.marks.Mark.TheVariants as mark
use Rattle.stl_lexer.specs.Marks.{mark_text}
use Rattle.stl_lexer.specs.Tokens.{text_of}
use Rattle.stl_ast.specs.declared.mnemonics.Mnemonic.{Mnemonic}
use Rattle.stl_ast.specs.declared.mnemonics.Mnemonic.TheVariants as mnemonic
use Rattle.stl_ast.specs.declared.names.BlockName.{BlockName}
use Rattle.stl_ast.specs.declared.names.BlockName.TheVariants as block
use Rattle.stl_ast.specs.declared.operands.Operand.{Operand}
use Rattle.stl_ast.specs.declared.operands.Operand.TheVariants as operand
use Rattle.stl_ast.specs.declared.operands.PathHead.{PathHead}
use Rattle.stl_ast.specs.declared.operands.PathHead.TheVariants as head
use Rattle.stl_ast.specs.declared.statements.Actual.{Actual}
use Rattle.stl_parser.specs.declared.keywords.ClauseWord.TheVariants as key
use Rattle.stl_parser.specs.declared.statements.BareStatement.{BareStatement}
use Rattle.stl_parser.specs.declared.tables.AddressKind.{AddressKind}
use Rattle.stl_parser.specs.declared.tables.OperandSyntax.{OperandSyntax}
use Rattle.stl_parser.specs.declared.tables.OperandSyntax.TheVariants as operand_syntax
use Rattle.stl_parser.specs.declared.keywords.ClauseWord.{ClauseWord}
use Rattle.stl_parser.specs.Addresses.{address_at, block_at, block_number_at, glued_letters_and_number, letter_count, letters_and_number_at, quoted_block_at, separate_letters_and_number}
use Rattle.stl_parser.specs.Literals.{literal_at, literal_of, literal_token, long_literal, truth_of, text_between_quotes}
use Rattle.stl_parser.specs.Numbers.{signed_number_at}
use Rattle.stl_parser.specs.Operands.{lone_word_operand, operand_by_register, direct_address_operand, is_operand_word, mark_operand, operand_by_kind, operand_of, path_end, path_of, plain_path, register_pointer, operand_by_sized_register, step_at, steps_from, operand_with_number, operand_with_pointer, word_operand}
use Rattle.stl_parser.specs.Parts.{parts_from}
use Rattle.stl_parser.specs.Statements.{actual_at, actuals_behind, actuals_end, actuals_of, after_paren, behind_word, block_call_of, call_of, one_token_instruction, data_block_at, instance_at, instruction_of, is_long_label, jump_of, labelled_statement, may_be_of_kind, next_actual, open_of, opening_instruction, statement_without_actuals, statement_with_label, statement_of, unlabelled_statement, value_ends, value_length, value_of, statement_with_operand, zone_end_of}
use Rattle.stl_parser.specs.Tables.{addresses, look_up, mnemonics, opening_mnemonics}
use Rattle.stl_parser.specs.Terminals.{has_kind, is_key, is_mark, key_text, kind_rank}
use Rattle.translation_laws.proofs.AgreeAlikeLemmas.{Agree, Behind, Equal, Follows, Pair, Rests, IsSamePair, also, counts, agree_decided, agree_guarded, equal, goes_on, lefts, agree_mapped, nothing, of_none, parts_follow, rest, rights, something, agree_tested, then_decided, then_either, then_goes_on, then_mapped, then_nothing, whole_follows, whole_same}
use Rattle.translation_laws.proofs.LikeAlikeLemmas.{key_like, kind_like, mark_like, no_key, no_mark, of_kind, same_kind, text_like}
use Rattle.translation_laws.proofs.NumberAlikeLemmas.{block_agrees}
use Rattle.translation_laws.proofs.OperandAlikeLemmas.{Fits, HeadForeign, HeadSame, JoinedTo, apart, closed, first, foreign_none, operand_follows, operand_same_or, second}
use Rattle.translation_laws.proofs.TextAlikeLemmas.{Same}
use Rattle.de_mnemonics.proofs.CaseLemmas.{same_text}
use Rattle.translation_laws.proofs.LookUpLemmas.{same_looked_up}
use Rattle.translation_laws.proofs.LetterLemmas.{same_letters}

-- ---- parts of a list of pairs

pub lefts_take : {s e : List ℕ} (n : ℕ) (ps : List (Pair s e)) → take n (lefts ps) ≡ lefts (take n ps)
lefts_take zero ps = refl
lefts_take (suc n) [] = refl
lefts_take (suc n) (p ∷ ps) = ap (λ (l : List Token). p.left ∷ l) (lefts_take n ps)

pub rights_take : {s e : List ℕ} (n : ℕ) (ps : List (Pair s e)) → take n (rights ps) ≡ rights (take n ps)
rights_take zero ps = refl
rights_take (suc n) [] = refl
rights_take (suc n) (p ∷ ps) = ap (λ (l : List Token). p.right ∷ l) (rights_take n ps)

pub lefts_drop : {s e : List ℕ} (n : ℕ) (ps : List (Pair s e)) → lefts (drop n ps) ≡ drop n (lefts ps)
lefts_drop zero ps = refl
lefts_drop (suc n) [] = refl
lefts_drop (suc n) (p ∷ ps) = lefts_drop n ps

pub rights_drop : {s e : List ℕ} (n : ℕ) (ps : List (Pair s e)) → rights (drop n ps) ≡ drop n (rights ps)
rights_drop zero ps = refl
rights_drop (suc n) [] = refl
rights_drop (suc n) (p ∷ ps) = rights_drop n ps

and_same : (a x y c : Bool) → (c ≡ true → x ≡ y) → (a && x && c) ≡ (a && y && c)
and_same true x y true h = rw (h refl) refl
and_same true true true false h = refl
and_same true true false false h = refl
and_same true false true false h = refl
and_same true false false false h = refl
and_same false x y c h = refl

two_same : (x y c : Bool) → (c ≡ true → x ≡ y) → (x && c) ≡ (y && c)
two_same x y true h = rw (h refl) refl
two_same true true false h = refl
two_same true false false h = refl
two_same false true false h = refl
two_same false false false h = refl

module _ (s e : List ℕ) where
  fits_take : (n : ℕ) (ps : List (Pair s e)) → Fits s e ps → Fits s e (take n ps)
  fits_take zero ps h = tt
  fits_take (suc n) [] h = tt
  fits_take (suc n) (p ∷ ps) h = (h.0, joined n ps h.1, fits_take n ps h.2)
    where
      joined : (n : ℕ) (ps : List (Pair s e)) → JoinedTo p ps → JoinedTo p (take n ps)
      joined zero ps h = tt
      joined (suc n) [] h = tt
      joined (suc n) (q ∷ qs) h = h

  fits_drop : (n : ℕ) (ps : List (Pair s e)) → Fits s e ps → Fits s e (drop n ps)
  fits_drop zero ps h = h
  fits_drop (suc n) [] h = h
  fits_drop (suc n) (p ∷ ps) h = fits_drop n ps h.2

  dropped : (n : ℕ) (ps : List (Pair s e)) → Fits s e ps → Rests s e (Fits s e) (drop n (lefts ps)) (drop n (rights ps))
  dropped n ps h = record { pairs = drop n ps; fits = fits_drop n ps h; left = lefts_drop n ps; right = rights_drop n ps }

  -- ---- actual parameters

  ends_same : (ps : List (Pair s e)) → Fits s e ps → value_ends s (lefts ps) ≡ value_ends e (rights ps)
  unfolding value_ends
  ends_same (p ∷ []) h = mark_like s e p mark.CloseParen
  ends_same (p ∷ q ∷ r ∷ ps) h =
      rw (mark_like s e p mark.Comma)
      (and_same (is_mark e p.right mark.Comma) (has_kind q.left kind.Word) (has_kind q.right kind.Word) (is_mark s r.left mark.Assign)
      (λ is. same_kind s e q.left q.right kind.Word (h.2.1.assigned is))
      ∙ ap (λ b. is_mark e p.right mark.Comma && has_kind q.right kind.Word && b) (mark_like s e r mark.Assign))
  ends_same _ h = refl

  length_same : (ps : List (Pair s e)) → Fits s e ps → value_length s (lefts ps) ≡ value_length e (rights ps)
  unfolding value_length
  length_same [] h = refl
  length_same (p ∷ ps) h = rw (ends_same (p ∷ ps) h, length_same ps h.2) refl

  value_follows : (ps : List (Pair s e)) → Fits s e ps → Follows Equal (value_of s (lefts ps)) (value_of e (rights ps))
  unfolding value_of
  value_follows [] h = then_nothing
  value_follows (p ∷ ps) h = operand_follows s e (p ∷ ps) h

  value_taken : (n : ℕ) (ps : List (Pair s e)) → Fits s e ps → Follows Equal (value_of s (take n (lefts ps))) (value_of e (take n (rights ps)))
  value_taken n ps h = rw (lefts_take n ps, rights_take n ps) (value_follows (take n ps) (fits_take n ps h))

  abbrev actual : List ℕ → Token → Operand → Actual
  actual source t value = record { line = t.line; name = text_of source t; value = value }

  actual_is : (p : Pair s e) (x y : Operand) → IsSamePair p → x ≡ y → actual s p.left x ≡ actual e p.right y
  actual_is p x y same k = rw (same.line, same.text, k) refl

  actual_follows : (ps : List (Pair s e)) → Fits s e ps → Follows (Behind s e (Fits s e) {X = Actual}) (actual_at s (lefts ps)) (actual_at e (rights ps))
  unfolding actual_at
  actual_follows (p ∷ q ∷ ps) h =
      then_decided
      (two_same (has_kind p.left kind.Word) (has_kind p.right kind.Word) (is_mark s q.left mark.Assign) (λ is. same_kind s e p.left p.right kind.Word (h.1.assigned is))
      ∙ ap (λ b. has_kind p.right kind.Word && b) (mark_like s e q mark.Assign))
      (λ is. rw (length_same ps h.2.2) (then_mapped _ _ (value_taken (value_length e (rights ps)) ps h.2.2)
      (λ x y k. (actual_is p x y (h.1.assigned (second (has_kind p.left kind.Word) (is_mark s q.left mark.Assign) is)) k, dropped (value_length e (rights ps)) ps h.2.2))))
      (λ isnt. then_nothing)
  actual_follows _ h = then_nothing

  next_follows : (ps : List (Pair s e)) → Fits s e ps → Follows (Behind s e (Fits s e) {X = Actual}) (next_actual s (lefts ps)) (next_actual e (rights ps))
  unfolding next_actual
  next_follows [] h = then_nothing
  next_follows (p ∷ ps) h = then_decided (mark_like s e p mark.Comma) (λ is. actual_follows ps h.2) (λ isnt. then_nothing)

  actuals_end_agree : (ps : List (Pair s e)) → Fits s e ps → Agree (Rests s e (Fits s e)) (actuals_end s (lefts ps)) (actuals_end e (rights ps))
  unfolding actuals_end
  actuals_end_agree (p ∷ []) h = agree_tested (mark_like s e p mark.CloseParen) (λ is. something (rest s e (Fits s e) [] tt))
  actuals_end_agree _ h = nothing

  actuals_behind_follow : (ps : List (Pair s e)) → Fits s e ps → Follows Equal (actuals_behind s (lefts ps)) (actuals_behind e (rights ps))
  unfolding actuals_behind
  actuals_behind_follow ps h =
      then_goes_on _ _ (actual_follows ps h)
      (λ x qs k. rw (counts qs) (whole_follows {s = s} {e = e} {F = Fits s e} _ _
      (parts_follow s e (Fits s e) (Rests s e (Fits s e)) (actuals_end s) (actuals_end e) (next_actual s) (next_actual e) actuals_end_agree next_follows (x ∷ []) (length (rights qs)) qs k)))

  actuals_follow : (ps : List (Pair s e)) → Fits s e ps → Follows Equal (actuals_of s (lefts ps)) (actuals_of e (rights ps))
  unfolding actuals_of
  actuals_follow [] h = also (something refl)
  actuals_follow (p ∷ ps) h = then_decided (mark_like s e p mark.OpenParen) (λ is. actuals_behind_follow ps h.2) (λ isnt. then_nothing)

  -- ---- calls

  blocks : (ps : List (Pair s e)) → Fits s e ps → Agree (Behind s e (Fits s e) {X = BlockName}) (block_at s (lefts ps)) (block_at e (rights ps))
  blocks ps h = block_agrees s e (Fits s e) (closed s e) (apart s e) ps h

  data_block_agrees : (ps : List (Pair s e)) → Fits s e ps → Agree (Behind s e (Fits s e) {X = BlockName}) (data_block_at s (lefts ps)) (data_block_at e (rights ps))
  unfolding data_block_at
  data_block_agrees ps h = goes_on _ _ (blocks ps h) (λ x qs k. agree_guarded (may_be_of_kind x is_data_block) (something (refl, rest s e (Fits s e) qs k)))

  instance_agrees : (name : BlockName) (ps : List (Pair s e)) → Fits s e ps → Agree (Behind s e (Fits s e) {X = Option BlockName}) (instance_at s name (lefts ps)) (instance_at e name (rights ps))
  unfolding instance_at
  instance_agrees name [] h = something (refl, rest s e (Fits s e) [] tt)
  instance_agrees name (p ∷ ps) h =
      agree_decided (mark_like s e p mark.Comma)
      (λ is. agree_guarded (may_be_of_kind name is_function_block) (agree_mapped _ _ (data_block_agrees ps h.2) (λ x y k. (ap Some k.0, k.1))))
      (λ isnt. something (refl, rest s e (Fits s e) (p ∷ ps) h))

  call_follows : (code : Mnemonic) (ps : List (Pair s e)) → Fits s e ps → Follows Equal (call_of s code (lefts ps)) (call_of e code (rights ps))
  unfolding call_of
  call_follows code ps h =
      then_goes_on _ _ (also (blocks ps h)) (λ b qs k. then_goes_on _ _ (also (instance_agrees b qs k))
      (λ i rs l. then_mapped _ _ (actuals_follow rs l) (λ x y m. ap (λ a. record { code = code; operand = operand.Called b i; actuals = a; long = false }) m)))

  block_call_same : (code : Mnemonic) (ps : List (Pair s e)) → Fits s e ps → block_call_of s code (lefts ps) ≡ block_call_of e code (rights ps)
  unfolding block_call_of
  block_call_same code ps h =
      ap (option_map (λ name. statement_without_actuals code (operand.Called name None))) (whole_same {s = s} {e = e} {F = Fits s e} (block_at s (lefts ps)) (block_at e (rights ps)) (blocks ps h))

  with_operand_follows : (code : Mnemonic) (ps : List (Pair s e)) → Fits s e ps → Follows Equal (statement_with_operand s code (lefts ps)) (statement_with_operand e code (rights ps))
  unfolding statement_with_operand
  with_operand_follows code ps h = then_mapped _ _ (operand_follows s e ps h) (λ x y k. ap (statement_without_actuals code) k)

  -- ---- what stands behind an instruction word

  long_same : (p : Pair s e) → IsSamePair p → is_long_label s p.left ≡ is_long_label e p.right
  unfolding is_long_label
  long_same p same = rw same.text refl

  abbrev jump : List ℕ → Mnemonic → Token → BareStatement
  jump source code t = record { code = code; operand = operand.Label (text_of source t); actuals = []; long = is_long_label source t }

  jump_is : (code : Mnemonic) (p : Pair s e) → IsSamePair p → jump s code p.left ≡ jump e code p.right
  jump_is code p same = rw (long_same p same, same.text) refl

  jump_follows : (code : Mnemonic) (ps : List (Pair s e)) → Fits s e ps → HeadSame s e ps → Follows Equal (jump_of s code (lefts ps)) (jump_of e code (rights ps))
  unfolding jump_of
  jump_follows code [] h same = with_operand_follows code [] h
  jump_follows code (p ∷ []) h same =
      then_decided (same_kind s e p.left p.right kind.Word same) (λ is. also (something (jump_is code p same))) (λ isnt. with_operand_follows code (p ∷ []) h)
  jump_follows code (p ∷ q ∷ ps) h same = with_operand_follows code (p ∷ q ∷ ps) h

  open_follows : (code : Mnemonic) (ps : List (Pair s e)) → Fits s e ps → Follows Equal (open_of s code (lefts ps)) (open_of e code (rights ps))
  unfolding open_of
  open_follows code [] h = with_operand_follows code [] h
  open_follows code (p ∷ []) h =
      then_decided (kind_like s e p kind.Quoted refl refl)
      (λ is. also (something (ap (λ t. statement_without_actuals code (operand.OpenBlock false (block.Quoted (text_between_quotes t)))) (text_like s e p kind.Quoted refl is))))
      (λ isnt. with_operand_follows code (p ∷ []) h)
  open_follows code (p ∷ q ∷ ps) h = with_operand_follows code (p ∷ q ∷ ps) h

  -- of a jump the first token behind the word is the same
  abbrev pub Labels : OperandSyntax → List (Pair s e) → Type 0
  Labels operand_syntax.Jump ps = HeadSame s e ps
  Labels _ ps = Unit {0}

  behind_follows : (f : OperandSyntax) (code : Mnemonic) (ps : List (Pair s e)) → Fits s e ps → Labels f ps → Follows Equal (behind_word s f code (lefts ps)) (behind_word e f code (rights ps))
  unfolding behind_word
  behind_follows operand_syntax.Operand code ps h same = with_operand_follows code ps h
  behind_follows operand_syntax.Jump code ps h same = jump_follows code ps h same
  behind_follows operand_syntax.Open code ps h same = open_follows code ps h
  behind_follows operand_syntax.BlockCall code ps h same = also (equal _ _ (block_call_same code ps h))
  behind_follows operand_syntax.Call code ps h same = call_follows code ps h

  -- ---- instructions

  -- the first token of an instruction, with what follows it
  pub record IsFirst (p : Pair s e) (ps : List (Pair s e)) : Type 0 where
    pub text : Same (text_of s p.left) (text_of e p.right)
    pub labels : (m : Mnemonic × OperandSyntax) → look_up mnemonics (text_of s p.left) ≡ Some m → Labels m.1 ps
    pub fits : Fits s e ps

  closed_follows : (p : Pair s e) (ps : List (Pair s e)) → IsFirst p ps → Follows Equal (one_token_instruction s p.left (lefts ps)) (one_token_instruction e p.right (rights ps))
  unfolding one_token_instruction
  closed_follows p ps h =
      rw (sym (same_looked_up mnemonics (text_of s p.left) (text_of e p.right) h.text))
      (by (look_up mnemonics (text_of s p.left)) h.labels)
    where
      by : (o : Option (Mnemonic × OperandSyntax)) → ((m : Mnemonic × OperandSyntax) → o ≡ Some m → Labels m.1 ps)
          → Follows Equal (option_and_then (λ m. behind_word s m.1 m.0 (lefts ps)) o) (option_and_then (λ m. behind_word e m.1 m.0 (rights ps)) o)
      by None labels = then_nothing
      by (Some m) labels = behind_follows m.1 m.0 ps h.fits (labels m refl)

  -- ---- a `(` is no operand

  kind_of_mark : (k : TokenKind) → nat_eq (kind_rank k) 8 ≡ true → k ≡ kind.Mark
  kind_of_mark kind.Mark is = refl
  kind_of_mark kind.Word is = absurd (false≢true is)
  kind_of_mark kind.Number is = absurd (false≢true is)
  kind_of_mark kind.Quoted is = absurd (false≢true is)
  kind_of_mark kind.Local is = absurd (false≢true is)
  kind_of_mark kind.Characters is = absurd (false≢true is)
  kind_of_mark kind.Based is = absurd (false≢true is)
  kind_of_mark kind.NumberLiteral is = absurd (false≢true is)
  kind_of_mark kind.TimeLiteral is = absurd (false≢true is)
  kind_of_mark kind.SignWord is = absurd (false≢true is)
  kind_of_mark kind.Attribute is = absurd (false≢true is)
  kind_of_mark kind.Title is = absurd (false≢true is)

  pub is_of_mark : (t : Token) (m : Mark) → is_mark s t m ≡ true → t.kind ≡ kind.Mark
  unfolding is_mark has_kind
  is_of_mark t m is = kind_of_mark t.kind (first (nat_eq (kind_rank t.kind) 8) (str_eq_ignore_ascii_case (text_of s t) (mark_text m)) is)

  -- a token that is one mark isn't another
  other_mark : (t : Token) (m n : Mark) → is_mark s t m ≡ true → str_eq_ignore_ascii_case (mark_text m) (mark_text n) ≡ false → is_mark s t n ≡ false
  unfolding is_mark
  other_mark t m n is apart =
      rw (same_text (text_of s t) (mark_text m) (mark_text n) (second (has_kind t kind.Mark) (str_eq_ignore_ascii_case (text_of s t) (mark_text m)) is), apart) (by (has_kind t kind.Mark))
    where
      by : (b : Bool) → (b && false) ≡ false
      by true = refl
      by false = refl

  paren_register : (t : Token) (ts : List Token) → is_mark s t mark.OpenParen ≡ true → register_pointer s (t ∷ ts) ≡ None
  unfolding register_pointer mark_text
  paren_register t (r ∷ c ∷ p ∷ n ∷ d ∷ b ∷ z ∷ []) is = rw (other_mark t mark.OpenParen mark.OpenBracket is refl) refl
  paren_register t _ is = refl

  paren_long : (t : Token) (ts : List Token) → is_mark s t mark.OpenParen ≡ true → long_literal s t ts ≡ None
  unfolding long_literal signed_number_at mark_text
  paren_long t [] is = rw (other_mark t mark.OpenParen mark.Bytes is refl) refl
  paren_long t (u ∷ us) is =
      rw (other_mark t mark.OpenParen mark.Bytes is refl, other_mark t mark.OpenParen mark.Minus is refl, other_mark t mark.OpenParen mark.Plus is refl) refl

  mark_literal : (t : Token) → literal_token s t kind.Mark ≡ None
  unfolding literal_token
  mark_literal t = refl

  paren_literal : (t : Token) (ts : List Token) → is_mark s t mark.OpenParen ≡ true → literal_of s (t ∷ ts) ≡ None
  unfolding literal_of literal_at
  paren_literal t ts is = rw (ap (literal_token s t) (is_of_mark t mark.OpenParen is) ∙ mark_literal t, paren_long t ts is) refl

  paren_mark : (t : Token) (ts : List Token) → is_mark s t mark.OpenParen ≡ true → mark_operand s t ts (t ∷ ts) ≡ None
  unfolding mark_operand operand_by_register mark_text
  paren_mark t ts is = rw (other_mark t mark.OpenParen mark.Pointer is refl, paren_register t ts is) refl

  or_none : {X : Type 0} (a b : Option X) → a ≡ None → b ≡ None → option_or a b ≡ None
  or_none a b h k = rw (h, k) refl

  paren_operand : (t : Token) (ts : List Token) → is_mark s t mark.OpenParen ≡ true → operand_of s (t ∷ ts) ≡ None
  unfolding operand_of operand_by_kind
  paren_operand t ts is =
      or_none _ _ (ap (option_map operand.Constant) (paren_literal t ts is))
      (ap (λ k. operand_by_kind s t ts (t ∷ ts) k) (is_of_mark t mark.OpenParen is) ∙ paren_mark t ts is)

  paren_with : (code : Mnemonic) (t : Token) (ts : List Token) → is_mark s t mark.OpenParen ≡ true → statement_with_operand s code (t ∷ ts) ≡ None
  unfolding statement_with_operand
  paren_with code t ts is = ap (option_map (statement_without_actuals code)) (paren_operand t ts is)

  paren_jump : (code : Mnemonic) (t : Token) (ts : List Token) → is_mark s t mark.OpenParen ≡ true → jump_of s code (t ∷ ts) ≡ None
  unfolding jump_of
  paren_jump code t [] is = rw (of_kind t kind.Mark kind.Word (is_of_mark t mark.OpenParen is)) (paren_with code t [] is)
  paren_jump code t (u ∷ us) is = paren_with code t (u ∷ us) is

  paren_open : (code : Mnemonic) (t : Token) (ts : List Token) → is_mark s t mark.OpenParen ≡ true → open_of s code (t ∷ ts) ≡ None
  unfolding open_of
  paren_open code t [] is = rw (of_kind t kind.Mark kind.Quoted (is_of_mark t mark.OpenParen is)) (paren_with code t [] is)
  paren_open code t (u ∷ us) is = paren_with code t (u ∷ us) is

  paren_block : (t : Token) (ts : List Token) → is_mark s t mark.OpenParen ≡ true → block_at s (t ∷ ts) ≡ None
  unfolding block_at block_number_at letters_and_number_at quoted_block_at
  paren_block t ts is =
      rw (of_kind t kind.Mark kind.Word (is_of_mark t mark.OpenParen is), of_kind t kind.Mark kind.Quoted (is_of_mark t mark.OpenParen is)) refl

  paren_behind : (f : OperandSyntax) (code : Mnemonic) (t : Token) (ts : List Token) → is_mark s t mark.OpenParen ≡ true → behind_word s f code (t ∷ ts) ≡ None
  unfolding behind_word block_call_of call_of
  paren_behind operand_syntax.Operand code t ts is = paren_with code t ts is
  paren_behind operand_syntax.Jump code t ts is = paren_jump code t ts is
  paren_behind operand_syntax.Open code t ts is = paren_open code t ts is
  paren_behind operand_syntax.BlockCall code t ts is = rw (paren_block t ts is) refl
  paren_behind operand_syntax.Call code t ts is = rw (paren_block t ts is) refl

  nothing_of : {X Y : Type 0} (o : Option X) → option_and_then {T = X} {U = Y} (λ x. None) o ≡ None
  nothing_of None = refl
  nothing_of (Some x) = refl

  none_of : {X Y : Type 0} (f : X → Option Y) (o : Option X) → ((x : X) → f x ≡ None) → option_and_then f o ≡ None
  none_of f None h = refl
  none_of f (Some x) h = h x

  paren_closed : (w t : Token) (ts : List Token) → is_mark s t mark.OpenParen ≡ true → one_token_instruction s w (t ∷ ts) ≡ None
  unfolding one_token_instruction
  paren_closed w t ts is = none_of _ _ (λ m. paren_behind m.1 m.0 t ts is)

  -- ---- brackets

  -- without a `(` none opens
  no_opening : (source : List ℕ) (w t : Token) (ts : List Token) → is_mark source t mark.OpenParen ≡ false → opening_instruction source w (t ∷ ts) ≡ None
  unfolding opening_instruction after_paren
  no_opening source w t ts isnt = rw isnt (nothing_of (look_up opening_mnemonics (text_of source w)))

  no_opening_end : (source : List ℕ) (w : Token) → opening_instruction source w [] ≡ None
  unfolding opening_instruction after_paren
  no_opening_end source w = nothing_of (look_up opening_mnemonics (text_of source w))

  opening_at : (source : List ℕ) (w t : Token) (ts : List Token) → is_mark source t mark.OpenParen ≡ true
      → opening_instruction source w (t ∷ ts) ≡ option_and_then (λ code. statement_with_operand source code ts) (look_up opening_mnemonics (text_of source w))
  unfolding opening_instruction after_paren
  opening_at source w t ts is = rw is refl

  no_zone : (source : List ℕ) (w t : Token) (ts : List Token) → (is_mark source w mark.CloseParen && is_key source t key.Mcr) ≡ false → zone_end_of source w (t ∷ ts) ≡ None
  unfolding zone_end_of
  no_zone source w t ts isnt = rw isnt refl

  zone_at : (source : List ℕ) (w t : Token) (ts : List Token) → (is_mark source w mark.CloseParen && is_key source t key.Mcr) ≡ true
      → zone_end_of source w (t ∷ ts) ≡ statement_with_operand source mnemonic.McrClose ts
  unfolding zone_end_of
  zone_at source w t ts is = rw is refl

  paren_no_zone : (source : List ℕ) (w t : Token) → has_kind t kind.Word ≡ false → (is_mark source w mark.CloseParen && is_key source t key.Mcr) ≡ false
  paren_no_zone source w t isnt = rw (no_key source t key.Mcr isnt) (by (is_mark source w mark.CloseParen))
    where
      by : (b : Bool) → (b && false) ≡ false
      by true = refl
      by false = refl

  both_none : {X : Type 0} (o o' : Option X) → o ≡ None → o' ≡ None → Agree Equal o o'
  both_none o o' a b = rw (a, b) nothing

  with_same : (code : Mnemonic) (ps : List (Pair s e)) → operand_of s (lefts ps) ≡ operand_of e (rights ps) → statement_with_operand s code (lefts ps) ≡ statement_with_operand e code (rights ps)
  unfolding statement_with_operand
  with_same code ps same = ap (option_map (statement_without_actuals code)) same

  with_none : (code : Mnemonic) (ts : List Token) → operand_of s ts ≡ None → statement_with_operand s code ts ≡ None
  unfolding statement_with_operand
  with_none code ts none = ap (option_map (statement_without_actuals code)) none

  -- ---- behind `)MCR`

  -- a path ends before a word
  word_path : (h : PathHead) (u : Token) (us : List Token) → u.kind ≡ kind.Word → path_of s h (u ∷ us) ≡ None
  unfolding path_of steps_from parts_from path_end step_at
  word_path h u us is =
      rw (no_mark s u mark.Assign (of_kind u kind.Word kind.Mark is), no_mark s u mark.Dot (of_kind u kind.Word kind.Mark is), no_mark s u mark.OpenBracket (of_kind u kind.Word kind.Mark is)) refl

  -- a word that is one key isn't another
  other_key : (t : Token) (k l : ClauseWord) → is_key s t k ≡ true → str_eq_ignore_ascii_case (key_text k) (key_text l) ≡ false → is_key s t l ≡ false
  unfolding is_key
  other_key t k l is differ =
      rw (same_text (text_of s t) (key_text k) (key_text l) (second (has_kind t kind.Word) (str_eq_ignore_ascii_case (text_of s t) (key_text k)) is), differ) (by (has_kind t kind.Word))
    where
      by : (b : Bool) → (b && false) ≡ false
      by true = refl
      by false = refl

  zone_text : (w : Token) → is_key s w key.Mcr ≡ true → Same (text_of s w) (codes "MCR")
  unfolding is_key key_text
  zone_text w is = second (has_kind w kind.Word) (str_eq_ignore_ascii_case (text_of s w) (codes "MCR")) is

  zone_letters : (w : Token) → is_key s w key.Mcr ≡ true → look_up addresses (take (letter_count (text_of s w)) (text_of s w)) ≡ None
  unfolding look_up addresses
  zone_letters w is = same_looked_up addresses (take (letter_count (text_of s w)) (text_of s w)) (codes "MCR") (same_letters (text_of s w) (codes "MCR") (zone_text w is))

  zone_whole : (w : Token) → is_key s w key.Mcr ≡ true → look_up addresses (text_of s w) ≡ None
  unfolding look_up addresses
  zone_whole w is = same_looked_up addresses (text_of s w) (codes "MCR") (zone_text w is)

  zone_address : (w : Token) (ts : List Token) → is_key s w key.Mcr ≡ true → operand_with_number s (w ∷ ts) ≡ None
  unfolding operand_with_number address_at letters_and_number_at glued_letters_and_number separate_letters_and_number
  zone_address w [] is = rw (zone_letters w is) (by (has_kind w kind.Word))
    where
      by : (b : Bool) → option_and_then (λ (r : AddressKind × ℕ × List Token). direct_address_operand s r.0 r.1 r.2) (if b then None else None) ≡ None
      by true = refl
      by false = refl
  zone_address w (t ∷ ts) is = rw (zone_letters w is, zone_whole w is) (by (has_kind w kind.Word))
    where
      by : (b : Bool) → option_and_then (λ (r : AddressKind × ℕ × List Token). direct_address_operand s r.0 r.1 r.2) (if b then None else None) ≡ None
      by true = refl
      by false = refl

  zone_plain : (w u : Token) (us : List Token) → u.kind ≡ kind.Word → plain_path s w (u ∷ us) ≡ None
  unfolding plain_path
  zone_plain w u us is = by (is_operand_word s w) (path_of s (head.Local (text_of s w)) (u ∷ us)) (word_path (head.Local (text_of s w)) u us is)
    where
      by : (b : Bool) (x : Option Operand) → x ≡ None → (if b then None else x) ≡ None
      by true x k = refl
      by false x k = k

  zone_rest : (w u : Token) (us : List Token) → is_key s w key.Mcr ≡ true → u.kind ≡ kind.Word → word_operand s w (u ∷ us) (w ∷ u ∷ us) ≡ None
  unfolding word_operand lone_word_operand operand_with_pointer operand_by_sized_register key_text
  zone_rest w u us is word =
      rw (zone_address w (u ∷ us) is, zone_whole w is, other_key w key.Mcr key.B is refl, other_key w key.Mcr key.W is refl, other_key w key.Mcr key.D is refl, zone_plain w u us word) refl

  is_word : (t : Token) (k : ClauseWord) → is_key s t k ≡ true → t.kind ≡ kind.Word
  unfolding is_key has_kind
  is_word t k is = by t.kind (first (nat_eq (kind_rank t.kind) 0) (str_eq_ignore_ascii_case (text_of s t) (key_text k)) is)
    where
      by : (j : TokenKind) → nat_eq (kind_rank j) 0 ≡ true → j ≡ kind.Word
      by kind.Word is = refl
      by kind.Mark is = absurd (false≢true is)
      by kind.Number is = absurd (false≢true is)
      by kind.Quoted is = absurd (false≢true is)
      by kind.Local is = absurd (false≢true is)
      by kind.Characters is = absurd (false≢true is)
      by kind.Based is = absurd (false≢true is)
      by kind.NumberLiteral is = absurd (false≢true is)
      by kind.TimeLiteral is = absurd (false≢true is)
      by kind.SignWord is = absurd (false≢true is)
      by kind.Attribute is = absurd (false≢true is)
      by kind.Title is = absurd (false≢true is)

  zone_truth : (w : Token) → is_key s w key.Mcr ≡ true → literal_token s w kind.Word ≡ None
  unfolding literal_token truth_of key_text
  zone_truth w is = rw (other_key w key.Mcr key.True is refl, other_key w key.Mcr key.False is refl) refl

  word_long : (t u : Token) (us : List Token) → t.kind ≡ kind.Word → long_literal s t (u ∷ us) ≡ None
  unfolding long_literal signed_number_at
  word_long t u us is =
      rw (no_mark s t mark.Bytes (of_kind t kind.Word kind.Mark is), no_mark s t mark.Minus (of_kind t kind.Word kind.Mark is), no_mark s t mark.Plus (of_kind t kind.Word kind.Mark is)) refl

  zone_literal : (w u : Token) (us : List Token) → is_key s w key.Mcr ≡ true → literal_of s (w ∷ u ∷ us) ≡ None
  unfolding literal_of literal_at
  zone_literal w u us is = rw (ap (literal_token s w) (is_word w key.Mcr is) ∙ zone_truth w is, word_long w u us (is_word w key.Mcr is)) refl

  zone_operand : (w u : Token) (us : List Token) → is_key s w key.Mcr ≡ true → u.kind ≡ kind.Word → operand_of s (w ∷ u ∷ us) ≡ None
  unfolding operand_of operand_by_kind
  zone_operand w u us is word =
      or_none _ _ (ap (option_map operand.Constant) (zone_literal w u us is))
      (ap (λ k. operand_by_kind s w (u ∷ us) (w ∷ u ∷ us) k) (is_word w key.Mcr is) ∙ zone_rest w u us is word)

  closing : (t : Token) → is_mark s t mark.CloseParen ≡ true → look_up mnemonics (text_of s t) ≡ Some (mnemonic.Close, operand_syntax.Operand)
  unfolding look_up mnemonics is_mark mark_text
  closing t is = same_looked_up mnemonics (text_of s t) (codes ")") (second (has_kind t kind.Mark) (str_eq_ignore_ascii_case (text_of s t) (codes ")")) is)

  zone_closed : (t w u : Token) (us : List Token) → is_mark s t mark.CloseParen ≡ true → is_key s w key.Mcr ≡ true → u.kind ≡ kind.Word → one_token_instruction s t (w ∷ u ∷ us) ≡ None
  unfolding one_token_instruction behind_word
  zone_closed t w u us close is word = rw (closing t close) (with_none mnemonic.Close (w ∷ u ∷ us) (zone_operand w u us is word))

  -- ---- an instruction

  all_none : (w : Token) (ts : List Token) → opening_instruction s w ts ≡ None → zone_end_of s w ts ≡ None → one_token_instruction s w ts ≡ None → instruction_of s (w ∷ ts) ≡ None
  unfolding instruction_of
  all_none w ts a b c = rw (a, b, c) refl

  three : (p : Pair s e) (ps : List (Pair s e)) → Agree Equal (opening_instruction s p.left (lefts ps)) (opening_instruction e p.right (rights ps))
      → Agree Equal (zone_end_of s p.left (lefts ps)) (zone_end_of e p.right (rights ps)) → IsFirst p ps
      → Follows Equal (instruction_of s (p.left ∷ lefts ps)) (instruction_of e (p.right ∷ rights ps))
  unfolding instruction_of
  three p ps opening zone h = then_either opening (then_either zone (closed_follows p ps h))

  foreign_word : (ps : List (Pair s e)) → HeadForeign s e ps → (w : Token) → is_key s w key.Mcr ≡ true → (t : Token) → is_mark s t mark.CloseParen ≡ true
      → one_token_instruction s t (w ∷ lefts ps) ≡ None
  foreign_word [] foreign w is t close = absurd foreign
  foreign_word (p ∷ ps) foreign w is t close = zone_closed t w p.left (lefts ps) close is foreign.0.named.word

  zones_end : (p : Pair s e) → Agree Equal (zone_end_of s p.left []) (zone_end_of e p.right [])
  unfolding zone_end_of
  zones_end p = nothing

  pub instruction_follows : (p : Pair s e) (ps : List (Pair s e)) → IsFirst p ps → Follows Equal (instruction_of s (p.left ∷ lefts ps)) (instruction_of e (p.right ∷ rights ps))
  instruction_follows p [] h = three p [] (both_none _ _ (no_opening_end s p.left) (no_opening_end e p.right)) (zones_end p) h
  instruction_follows p (q ∷ qs) h = by_paren (is_mark s q.left mark.OpenParen) refl
    where
      zone_same : (is_mark s p.left mark.CloseParen && is_key s q.left key.Mcr) ≡ (is_mark e p.right mark.CloseParen && is_key e q.right key.Mcr)
      zone_same = ap (λ b. b && is_key s q.left key.Mcr) (mark_like s e p mark.CloseParen) ∙ ap (λ b. is_mark e p.right mark.CloseParen && b) (key_like s e q key.Mcr)

      zones_none : (is_mark s p.left mark.CloseParen && is_key s q.left key.Mcr) ≡ false → Agree Equal (zone_end_of s p.left (q.left ∷ lefts qs)) (zone_end_of e p.right (q.right ∷ rights qs))
      zones_none isnt = both_none _ _ (no_zone s p.left q.left (lefts qs) isnt) (no_zone e p.right q.right (rights qs) (sym zone_same ∙ isnt))

      opening_none : is_mark s q.left mark.OpenParen ≡ false → Agree Equal (opening_instruction s p.left (q.left ∷ lefts qs)) (opening_instruction e p.right (q.right ∷ rights qs))
      opening_none isnt = both_none _ _ (no_opening s p.left q.left (lefts qs) isnt) (no_opening e p.right q.right (rights qs) (sym (mark_like s e q mark.OpenParen) ∙ isnt))

      opened : is_mark s q.left mark.OpenParen ≡ true → operand_of s (lefts qs) ≡ operand_of e (rights qs)
          → opening_instruction s p.left (q.left ∷ lefts qs) ≡ opening_instruction e p.right (q.right ∷ rights qs)
      opened is same =
          opening_at s p.left q.left (lefts qs) is
          ∙ ap (option_and_then (λ code. statement_with_operand s code (lefts qs))) (same_looked_up opening_mnemonics (text_of s p.left) (text_of e p.right) h.text)
          ∙ each (look_up opening_mnemonics (text_of e p.right))
          ∙ sym (opening_at e p.right q.right (rights qs) (sym (mark_like s e q mark.OpenParen) ∙ is))
        where
          each : (o : Option Mnemonic) → option_and_then (λ code. statement_with_operand s code (lefts qs)) o ≡ option_and_then (λ code. statement_with_operand e code (rights qs)) o
          each None = refl
          each (Some code) = with_same code qs same

      unread : is_mark s q.left mark.OpenParen ≡ true → operand_of s (lefts qs) ≡ None → opening_instruction s p.left (q.left ∷ lefts qs) ≡ None
      unread is none = opening_at s p.left q.left (lefts qs) is ∙ none_of _ _ (λ code. with_none code (lefts qs) none)

      at_paren : is_mark s q.left mark.OpenParen ≡ true → (operand_of s (lefts qs) ≡ operand_of e (rights qs)) ⊎ HeadForeign s e qs
          → Follows Equal (instruction_of s (p.left ∷ q.left ∷ lefts qs)) (instruction_of e (p.right ∷ q.right ∷ rights qs))
      at_paren is (inl same) = three p (q ∷ qs) (equal _ _ (opened is same)) (zones_none (paren_no_zone s p.left q.left (of_kind q.left kind.Mark kind.Word (is_of_mark q.left mark.OpenParen is)))) h
      at_paren is (inr foreign) = of_none _ _ (all_none p.left (q.left ∷ lefts qs) (unread is (foreign_none s e qs h.fits.2 foreign))
          (no_zone s p.left q.left (lefts qs) (paren_no_zone s p.left q.left (of_kind q.left kind.Mark kind.Word (is_of_mark q.left mark.OpenParen is))))
          (paren_closed p.left q.left (lefts qs) is))

      at_zone : is_mark s q.left mark.OpenParen ≡ false → (is_mark s p.left mark.CloseParen && is_key s q.left key.Mcr) ≡ true
          → (operand_of s (lefts qs) ≡ operand_of e (rights qs)) ⊎ HeadForeign s e qs
          → Follows Equal (instruction_of s (p.left ∷ q.left ∷ lefts qs)) (instruction_of e (p.right ∷ q.right ∷ rights qs))
      at_zone isnt is (inl same) = three p (q ∷ qs) (opening_none isnt)
          (equal _ _ (zone_at s p.left q.left (lefts qs) is ∙ with_same mnemonic.McrClose qs same ∙ sym (zone_at e p.right q.right (rights qs) (sym zone_same ∙ is)))) h
      at_zone isnt is (inr foreign) = of_none _ _ (all_none p.left (q.left ∷ lefts qs) (no_opening s p.left q.left (lefts qs) isnt)
          (zone_at s p.left q.left (lefts qs) is ∙ with_none mnemonic.McrClose (lefts qs) (foreign_none s e qs h.fits.2 foreign))
          (foreign_word qs foreign q.left (second (is_mark s p.left mark.CloseParen) (is_key s q.left key.Mcr) is) p.left (first (is_mark s p.left mark.CloseParen) (is_key s q.left key.Mcr) is)))

      by_zone : is_mark s q.left mark.OpenParen ≡ false → (b : Bool) → (is_mark s p.left mark.CloseParen && is_key s q.left key.Mcr) ≡ b
          → Follows Equal (instruction_of s (p.left ∷ q.left ∷ lefts qs)) (instruction_of e (p.right ∷ q.right ∷ rights qs))
      by_zone isnt true is = at_zone isnt is (operand_same_or s e qs h.fits.2)
      by_zone isnt false none = three p (q ∷ qs) (opening_none isnt) (zones_none none) h

      by_paren : (b : Bool) → is_mark s q.left mark.OpenParen ≡ b
          → Follows Equal (instruction_of s (p.left ∷ q.left ∷ lefts qs)) (instruction_of e (p.right ∷ q.right ∷ rights qs))
      by_paren true is = at_paren is (operand_same_or s e qs h.fits.2)
      by_paren false isnt = by_zone isnt (is_mark s p.left mark.CloseParen && is_key s q.left key.Mcr) refl

  -- ---- statements

  -- the tokens of an instruction
  abbrev pub AreInstruction : List (Pair s e) → Type 0
  AreInstruction [] = Unit {0}
  AreInstruction (p ∷ ps) = IsFirst p ps

  -- the tokens of a statement: a label is the same
  pub record IsStatement (p q : Pair s e) (ps : List (Pair s e)) : Type 0 where
    pub kinds : has_kind p.left kind.Word ≡ has_kind p.right kind.Word
    pub label : is_mark s q.left mark.Colon ≡ true → has_kind p.left kind.Word ≡ true → IsSamePair p × AreInstruction ps
    pub bare : (has_kind p.left kind.Word && is_mark s q.left mark.Colon) ≡ false → IsFirst p (q ∷ ps)

  abbrev pub AreStatement : List (Pair s e) → Type 0
  AreStatement [] = Unit {0}
  AreStatement (p ∷ []) = IsFirst p []
  AreStatement (p ∷ q ∷ ps) = IsStatement p q ps

  instructions_follow : (ps : List (Pair s e)) → AreInstruction ps → Follows Equal (instruction_of s (lefts ps)) (instruction_of e (rights ps))
  unfolding instruction_of
  instructions_follow [] h = then_nothing
  instructions_follow (p ∷ ps) h = instruction_follows p ps h

  unlabelled_follows : (line : ℕ) (ps : List (Pair s e)) → AreInstruction ps → Follows Equal (unlabelled_statement s line (lefts ps)) (unlabelled_statement e line (rights ps))
  unfolding unlabelled_statement
  unlabelled_follows line ps h = then_mapped _ _ (instructions_follow ps h) (λ x y k. ap (λ (i : BareStatement). (statement_with_label line None i, i.long)) k)

  labelled_follows : (line : ℕ) (p : Pair s e) (ps : List (Pair s e)) → IsSamePair p → AreInstruction ps → Follows Equal (labelled_statement s line p.left (lefts ps)) (labelled_statement e line p.right (rights ps))
  unfolding labelled_statement
  labelled_follows line p ps same h =
      rw (same.text, long_same p same)
      (then_mapped _ _ (instructions_follow ps h) (λ x y k. ap (λ (i : BareStatement). (statement_with_label line (Some (text_of e p.right)) i, i.long || is_long_label e p.right)) k))

  pub statement_follows : (line : ℕ) (ps : List (Pair s e)) → AreStatement ps → Follows Equal (statement_of s line (lefts ps)) (statement_of e line (rights ps))
  unfolding statement_of
  statement_follows line [] h = also (something refl)
  statement_follows line (p ∷ []) h = unlabelled_follows line (p ∷ []) h
  statement_follows line (p ∷ q ∷ ps) h =
      then_decided (ap (λ b. b && is_mark s q.left mark.Colon) h.kinds ∙ ap (λ b. has_kind p.right kind.Word && b) (mark_like s e q mark.Colon))
      (λ is. let parts = h.label (second (has_kind p.left kind.Word) (is_mark s q.left mark.Colon) is) (first (has_kind p.left kind.Word) (is_mark s q.left mark.Colon) is) in
      labelled_follows line p ps parts.0 parts.1)
      (λ isnt. unlabelled_follows line (p ∷ q ∷ ps) (h.bare isnt))
