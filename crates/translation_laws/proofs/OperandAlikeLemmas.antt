-- Operands are the same of tokens that are alike.
use Rattle.std.proofs.Common.{ℕ, ◌≡◌, Bool, true, false, ◌&&◌, List, [], ◌∷◌, length, drop, Option, Some, None, ℤ, refl, sym, ◌∙◌, ap, inl, inr}
use Rattle.std.specs.Prelude.{◌⊎◌, is_some, if◌then◌else◌}
use Rattle.std.specs.Option.{option_map, option_or, option_and_then}
use Rattle.std.proofs.lemmas.Bool.{false≢true}
use Rattle.plc_base.specs.declared.places.Width.{Width}
use Rattle.plc_base.specs.declared.places.Width.TheVariants as width
use Rattle.stl_lexer.specs.declared.kinds.Token.{Token}
use Rattle.stl_lexer.specs.declared.kinds.TokenKind.{TokenKind}
use Rattle.stl_lexer.specs.declared.kinds.TokenKind.TheVariants as kind
use Rattle.stl_lexer.specs.declared.marks.Mark.TheVariants as mark
use Rattle.stl_lexer.specs.Tokens.{text_of}
use Rattle.stl_ast.specs.declared.blocks.PathStep.{PathStep}
use Rattle.stl_ast.specs.declared.blocks.PathStep.TheVariants as step
use Rattle.stl_ast.specs.declared.names.BlockName.{BlockName}
use Rattle.stl_ast.specs.declared.names.BlockName.TheVariants as block
use Rattle.stl_ast.specs.declared.operands.Letters.{Letters}
use Rattle.stl_ast.specs.declared.operands.Letters.TheVariants as letters
use Rattle.stl_ast.specs.declared.operands.Numbered.{Numbered as NumberedKind}
use Rattle.stl_ast.specs.declared.operands.Operand.{Operand}
use Rattle.stl_ast.specs.declared.operands.Operand.TheVariants as operand
use Rattle.stl_ast.specs.declared.operands.PathHead.{PathHead}
use Rattle.stl_ast.specs.declared.operands.PathHead.TheVariants as head
use Rattle.stl_symbols.specs.declared.languages.Language.TheVariants.{English, German}
use Rattle.stl_parser.specs.declared.keywords.ClauseWord.TheVariants as key
use Rattle.stl_parser.specs.declared.tables.AddressKind.{AddressKind}
use Rattle.stl_parser.specs.declared.tables.AddressKind.TheVariants as address
use Rattle.stl_parser.specs.Addresses.{address_at, bit_of, is_address_word, letter_count}
use Rattle.stl_parser.specs.Literals.{literal_at, literal_of, literal_token, long_literal, text_between_quotes}
use Rattle.stl_parser.specs.Numbers.{number_of_token, signed_number_at}
use Rattle.stl_parser.specs.Operands.{lone_word_operand, operand_by_pointer, area_operand, area_pointer, operand_behind_block, block_path, block_place, operand_by_register, condition_word_operand, data_block_operand, data_block_name, direct_address_operand, operand_in_block, index_end, indirect_operand, is_operand_word, local_path, mark_operand, memory_pointer, name_step, operand_by_memory_number, offset_of, operand_by_kind, operand_of, register_name_operand_if, register_name_operand, path_end, path_of, place_bit, place_of_data_address, plain_path, plain_pointer, pointer_close, pointer_end, pointer_constant_operand, quoted_operand, register_number, register_pointer, sign_operand, operand_by_sized_register, step_at, steps_from, operand_with_number, operand_with_pointer, word_operand}
use Rattle.stl_parser.specs.Tables.{addresses, flags, look_up, registers}
use Rattle.stl_parser.specs.Terminals.{has_kind, is_mark}
use Rattle.translation_laws.specs.Alike.{IsSameWordButForCase, IsSameToken}
use Rattle.de_mnemonics.specs.Words.{operand_partner}
use Rattle.translation_laws.proofs.AgreeAlikeLemmas.{Agree, Behind, Equal, Follows, IsName, IsNamedPair, IsSamePair, SameValueAndRest, OpensNone, Pair, Rests, also, agree_chained, counts, agree_decided, equal, goes_on, if_same, lefts, nothing, numbers_on, of_none, parts_agree, rest, rights, same_option, something, agree_tested, whole_same}
use Rattle.translation_laws.proofs.LikeAlikeLemmas.{itself, key_like, mark_like, named_no_key, no_mark, of_kind, same_kind}
use Rattle.translation_laws.proofs.NumberAlikeLemmas.{address_agrees, bit_same, int_agrees, literal_same, named_no_address, no_truth, number_of_like}
use Rattle.translation_laws.proofs.TextAlikeLemmas.{Same, address_word_same, english_word, is_operand, no_address, no_address_letters, no_flag, no_register}
use Rattle.translation_laws.proofs.LookUpLemmas.{same_looked_up}

-- the same but for case is an operand word alone
abbrev pub IsKnown : {s e : List ℕ} → Pair s e → Type 0
IsKnown {s = s} {e = e} p =
    IsSameToken s e p.left p.right ⊎ ((IsSameWordButForCase s e p.left p.right × (is_operand German (text_of s p.left) ≡ true)) ⊎ IsName s e p.left p.right)

-- what two tokens that stand side by side say of each other: behind a `.` and before `:=` they are the same, and no number stands
-- behind a name
pub record SideBySide {s e : List ℕ} (p q : Pair s e) : Type 0 where
  pub dotted : is_mark s p.left mark.Dot ≡ true → IsSamePair q
  pub assigned : is_mark s q.left mark.Assign ≡ true → IsSamePair p
  pub apart : IsNamedPair p → is_operand English (text_of s p.left) ≡ false → OpensNone q

abbrev pub JoinedTo : {s e : List ℕ} → Pair s e → List (Pair s e) → Type 0
JoinedTo p [] = Unit {0}
JoinedTo p (q ∷ qs) = SideBySide p q

-- the tokens behind an instruction word
abbrev pub Fits : (s e : List ℕ) → List (Pair s e) → Type 0
Fits s e [] = Unit {0}
Fits s e (p ∷ ps) = IsKnown p × JoinedTo p ps × Fits s e ps

-- the first of them is the same
abbrev pub HeadSame : (s e : List ℕ) → List (Pair s e) → Type 0
HeadSame s e [] = Unit {0}
HeadSame s e (p ∷ ps) = IsSamePair p

pub second : (x y : Bool) → (x && y) ≡ true → y ≡ true
second true y e = e
second false y e = absurd (false≢true e)

pub first : (x y : Bool) → (x && y) ≡ true → x ≡ true
first true y e = refl
first false y e = absurd (false≢true e)

module _ (s e : List ℕ) where
  pub closed : (p : Pair s e) (ps : List (Pair s e)) → Fits s e (p ∷ ps) → Fits s e ps
  closed p ps h = h.2

  pub apart : (p q : Pair s e) (ps : List (Pair s e)) → Fits s e (p ∷ q ∷ ps) → IsNamedPair p → is_some (operand_partner English (text_of s p.left)) ≡ false → OpensNone q
  apart p q ps h named isnt = h.1.apart named isnt

  dotted_head : (p : Pair s e) (ps : List (Pair s e)) → Fits s e (p ∷ ps) → is_mark s p.left mark.Dot ≡ true → HeadSame s e ps
  dotted_head p [] h is = tt
  dotted_head p (q ∷ qs) h is = h.1.dotted is

  addressed : (ps : List (Pair s e)) → Fits s e ps → Agree (SameValueAndRest s e (Fits s e) {X = AddressKind}) (address_at s (lefts ps)) (address_at e (rights ps))
  addressed ps h = address_agrees s e (Fits s e) closed apart ps h

  bits : (ps : List (Pair s e)) → bit_of s (lefts ps) ≡ bit_of e (rights ps)
  bits ps = bit_same s e (Fits s e) closed apart ps

  counted : (p : Pair s e) → number_of_token s p.left ≡ number_of_token e p.right
  counted p = number_of_like s e (Fits s e) closed apart p

  -- ---- paths

  index_agrees : (at : ℤ) (ps : List (Pair s e)) → Fits s e ps → Agree (Behind s e (Fits s e)) (index_end s at (lefts ps)) (index_end e at (rights ps))
  unfolding index_end
  index_agrees at [] h = nothing
  index_agrees at (p ∷ ps) h = agree_tested (mark_like s e p mark.CloseBracket) (λ is. something (refl, rest s e (Fits s e) ps h.2))

  name_agrees : (ps : List (Pair s e)) → Fits s e ps → HeadSame s e ps → Agree (Behind s e (Fits s e)) (name_step s (lefts ps)) (name_step e (rights ps))
  unfolding name_step
  name_agrees [] h same = nothing
  name_agrees (p ∷ ps) h same = agree_tested (same_kind s e p.left p.right kind.Word same) (λ is. something (ap step.Named same.text, rest s e (Fits s e) ps h.2))

  step_agrees : (ps : List (Pair s e)) → Fits s e ps → Agree (Behind s e (Fits s e)) (step_at s (lefts ps)) (step_at e (rights ps))
  unfolding step_at
  step_agrees [] h = nothing
  step_agrees (p ∷ ps) h =
      agree_decided (mark_like s e p mark.Dot) (λ is. name_agrees ps h.2 (dotted_head p ps h is))
      (λ isnt. agree_tested (mark_like s e p mark.OpenBracket)
      (λ is. goes_on _ _ (int_agrees s e (Fits s e) closed apart ps h.2) (λ n qs k. index_agrees n qs k)))

  end_agrees : (ps : List (Pair s e)) → Fits s e ps → Agree (Rests s e (Fits s e)) (path_end s (lefts ps)) (path_end e (rights ps))
  unfolding path_end
  end_agrees [] h = something (rest s e (Fits s e) [] tt)
  end_agrees (p ∷ ps) h = agree_tested (mark_like s e p mark.Assign) (λ is. something (rest s e (Fits s e) (p ∷ ps) h))

  pub steps_agree : (first : List PathStep) (ps : List (Pair s e)) → Fits s e ps → Agree (Behind s e (Fits s e)) (steps_from s first (lefts ps)) (steps_from e first (rights ps))
  unfolding steps_from
  steps_agree first ps h = rw (counts ps)
      (parts_agree s e (Fits s e) (Rests s e (Fits s e)) (path_end s) (path_end e) (step_at s) (step_at e) end_agrees step_agrees first (length (rights ps)) ps h)

  path_same : (h : PathHead) (ps : List (Pair s e)) → Fits s e ps → path_of s h (lefts ps) ≡ path_of e h (rights ps)
  unfolding path_of
  path_same h ps fits = ap (option_map (λ steps. operand.Named h steps))
      (whole_same {s = s} {e = e} {F = Fits s e} (steps_from s [] (lefts ps)) (steps_from e [] (rights ps)) (steps_agree [] ps fits))

  -- ---- addresses

  bit_at : (w : Width) (ps : List (Pair s e)) → place_bit s w (lefts ps) ≡ place_bit e w (rights ps)
  unfolding place_bit
  bit_at width.Bit ps = bits ps
  bit_at _ [] = refl
  bit_at _ (p ∷ ps) = refl

  area_same : (area : Letters) (w : Width) (byte : ℕ) (ps : List (Pair s e)) → area_operand s area w byte (lefts ps) ≡ area_operand e area w byte (rights ps)
  unfolding area_operand
  area_same area w byte ps = ap (option_map (λ bit. operand.Direct None area w byte bit)) (bit_at w ps)

  place_same : (a : AddressKind) (byte : ℕ) (ps : List (Pair s e)) → place_of_data_address s a byte (lefts ps) ≡ place_of_data_address e a byte (rights ps)
  unfolding place_of_data_address
  place_same (address.Area letters.Db w) byte ps = ap (option_map (λ bit. (w, byte, bit))) (bit_at w ps)
  place_same _ byte ps = refl

  block_place_same : (ps : List (Pair s e)) → Fits s e ps → block_place s (lefts ps) ≡ block_place e (rights ps)
  unfolding block_place
  block_place_same ps h = same_option _ _ (numbers_on _ _ (addressed ps h) (λ a n qs k. equal _ _ (place_same a n qs)))

  block_path_same : (name : BlockName) (ps : List (Pair s e)) → Fits s e ps → HeadSame s e ps → block_path s name (lefts ps) ≡ block_path e name (rights ps)
  unfolding block_path
  block_path_same name [] h same = refl
  block_path_same name (p ∷ ps) h same =
      if_same (same_kind s e p.left p.right kind.Word same)
      (λ is. rw same.text (ap (option_map (λ steps. operand.Named (head.InBlock name) steps))
      (whole_same {s = s} {e = e} {F = Fits s e} (steps_from s (step.Named (text_of e p.right) ∷ []) (lefts ps)) (steps_from e (step.Named (text_of e p.right) ∷ []) (rights ps)) (steps_agree (step.Named (text_of e p.right) ∷ []) ps h.2))))
      (λ isnt. refl)

  in_block_same : (name : BlockName) (ps : List (Pair s e)) → Fits s e ps → HeadSame s e ps → operand_in_block s name (lefts ps) ≡ operand_in_block e name (rights ps)
  unfolding operand_in_block
  in_block_same name ps h same = rw (block_place_same ps h, block_path_same name ps h same) refl

  pub behind_block_same : (name : BlockName) (ps : List (Pair s e)) → Fits s e ps → operand_behind_block s name (lefts ps) ≡ operand_behind_block e name (rights ps)
  unfolding operand_behind_block
  behind_block_same name [] h = refl
  behind_block_same name (p ∷ ps) h = if_same (mark_like s e p mark.Dot) (λ is. in_block_same name ps h.2 (dotted_head p ps h is)) (λ isnt. refl)

  data_block_same : (n : ℕ) (ps : List (Pair s e)) → Fits s e ps → data_block_operand s n (lefts ps) ≡ data_block_operand e n (rights ps)
  unfolding data_block_operand
  data_block_same n [] h = refl
  data_block_same n (p ∷ ps) h = behind_block_same (data_block_name n) (p ∷ ps) h

  direct_same : (a : AddressKind) (n : ℕ) (ps : List (Pair s e)) → Fits s e ps → direct_address_operand s a n (lefts ps) ≡ direct_address_operand e a n (rights ps)
  unfolding direct_address_operand
  direct_same (address.Area area w) n ps h = area_same area w n ps
  direct_same address.Timer n [] h = refl
  direct_same address.Timer n (p ∷ ps) h = refl
  direct_same address.Counter n [] h = refl
  direct_same address.Counter n (p ∷ ps) h = refl
  direct_same (address.Block false) n ps h = data_block_same n ps h
  direct_same (address.Block true) n [] h = refl
  direct_same (address.Block true) n (p ∷ ps) h = refl

  -- ---- pointers

  register_like : (p : Pair s e) → register_number s p.left ≡ register_number e p.right
  unfolding register_number
  register_like p = rw (key_like s e p key.Ar1, key_like s e p key.Ar2) refl

  offset_same : (p n : Pair s e) (ps : List (Pair s e)) → offset_of s p.left n.left (lefts ps) ≡ offset_of e p.right n.right (rights ps)
  unfolding offset_of
  offset_same p n ps = rw (mark_like s e p mark.Pointer, counted n, bits ps) refl

  register_pointer_same : (ps : List (Pair s e)) → register_pointer s (lefts ps) ≡ register_pointer e (rights ps)
  unfolding register_pointer
  register_pointer_same (o ∷ r ∷ c ∷ p ∷ n ∷ d ∷ b ∷ z ∷ []) =
      rw (mark_like s e o mark.OpenBracket, mark_like s e c mark.Comma, mark_like s e z mark.CloseBracket, register_like r, offset_same p n (d ∷ b ∷ [])) refl
  register_pointer_same _ = refl

  by_register_same : (area : Option Letters) (w : Width) (ps : List (Pair s e)) → operand_by_register s area w (lefts ps) ≡ operand_by_register e area w (rights ps)
  unfolding operand_by_register
  by_register_same area w ps = ap (option_map (λ p. operand.ByRegister area w p.0 p.1)) (register_pointer_same ps)

  pointer_close_same : (area : Letters) (byte : ℕ) (ps : List (Pair s e)) → pointer_close s area byte (lefts ps) ≡ pointer_close e area byte (rights ps)
  unfolding pointer_close
  pointer_close_same area byte (p ∷ []) = rw (mark_like s e p mark.CloseBracket) refl
  pointer_close_same area byte _ = refl

  pointer_end_same : (pointer : Bool) (a : AddressKind) (byte : ℕ) (ps : List (Pair s e)) → pointer_end s pointer a byte (lefts ps) ≡ pointer_end e pointer a byte (rights ps)
  unfolding pointer_end
  pointer_end_same pointer (address.Area area width.Dword) byte ps = rw (pointer_close_same area byte ps) refl
  pointer_end_same pointer (address.Area area width.Word) byte ps = rw (pointer_close_same area byte ps) refl
  pointer_end_same pointer _ byte ps = refl

  memory_same : (pointer : Bool) (ps : List (Pair s e)) → Fits s e ps → memory_pointer s pointer (lefts ps) ≡ memory_pointer e pointer (rights ps)
  unfolding memory_pointer
  memory_same pointer [] h = refl
  memory_same pointer (p ∷ ps) h =
      if_same (mark_like s e p mark.OpenBracket)
      (λ is. same_option _ _ (numbers_on _ _ (addressed ps h.2) (λ a n qs k. equal _ _ (pointer_end_same pointer a n qs))))
      (λ isnt. refl)

  number_by_same : (what : NumberedKind) (ps : List (Pair s e)) → Fits s e ps → operand_by_memory_number s what (lefts ps) ≡ operand_by_memory_number e what (rights ps)
  unfolding operand_by_memory_number
  number_by_same what ps h = ap (option_map (λ p. operand.NumberBy what p.0 p.1)) (memory_same false ps h)

  area_by_same : (area : Letters) (w : Width) (ps : List (Pair s e)) → Fits s e ps → operand_by_pointer s area w (lefts ps) ≡ operand_by_pointer e area w (rights ps)
  unfolding operand_by_pointer
  area_by_same area w ps h = rw (memory_same true ps h, by_register_same (Some area) w ps) refl

  indirect_same : (a : AddressKind) (ps : List (Pair s e)) → Fits s e ps → indirect_operand s a (lefts ps) ≡ indirect_operand e a (rights ps)
  unfolding indirect_operand
  indirect_same (address.Area area w) ps h = area_by_same area w ps h
  indirect_same address.Timer ps h = number_by_same _ ps h
  indirect_same address.Counter ps h = number_by_same _ ps h
  indirect_same (address.Block false) ps h = number_by_same _ ps h
  indirect_same (address.Block true) ps h = number_by_same _ ps h

  area_pointer_same : (a : AddressKind) (byte : ℕ) (ps : List (Pair s e)) → area_pointer s a byte (lefts ps) ≡ area_pointer e a byte (rights ps)
  unfolding area_pointer
  area_pointer_same (address.Area area width.Bit) byte ps = ap (option_map (λ bit. operand.Pointer (Some area) byte bit)) (bits ps)
  area_pointer_same _ byte ps = refl

  plain_pointer_same : (ps : List (Pair s e)) → plain_pointer s (lefts ps) ≡ plain_pointer e (rights ps)
  unfolding plain_pointer
  plain_pointer_same [] = refl
  plain_pointer_same (p ∷ ps) = rw (counted p, bits ps) refl

  pointer_same : (ps : List (Pair s e)) → Fits s e ps → pointer_constant_operand s (lefts ps) ≡ pointer_constant_operand e (rights ps)
  unfolding pointer_constant_operand
  pointer_same ps h = rw (plain_pointer_same ps)
      (ap (option_or (plain_pointer e (rights ps))) (same_option _ _ (numbers_on _ _ (addressed ps h) (λ a n qs k. equal _ _ (area_pointer_same a n qs)))))

  -- ---- words

  -- two words that are the same but for case, and by every letter where they are no operand word of English
  pub record IsWordPair (p : Pair s e) : Type 0 where
    pub kinds : has_kind p.left kind.Word ≡ has_kind p.right kind.Word
    pub text : Same (text_of s p.left) (text_of e p.right)
    pub exact : (text_of s p.left ≡ text_of e p.right) ⊎ (is_operand German (text_of s p.left) ≡ true)

  condition_same : (p : Pair s e) → Same (text_of s p.left) (text_of e p.right) → condition_word_operand s p.left ≡ condition_word_operand e p.right
  unfolding condition_word_operand
  condition_same p same = ap (option_map operand.OfStatus) (same_looked_up flags (text_of s p.left) (text_of e p.right) same)

  other_same : (p : Pair s e) → IsWordPair p → register_name_operand s p.left ≡ register_name_operand e p.right
  unfolding register_name_operand
  other_same p h = by h.exact
    where
      registered : look_up registers (text_of s p.left) ≡ look_up registers (text_of e p.right)
      registered = same_looked_up registers (text_of s p.left) (text_of e p.right) h.text

      by : (text_of s p.left ≡ text_of e p.right) ⊎ (is_operand German (text_of s p.left) ≡ true)
          → register_name_operand_if (text_of s p.left) (look_up registers (text_of s p.left)) ≡ register_name_operand_if (text_of e p.right) (look_up registers (text_of e p.right))
      by (inl same) = ap (λ w. register_name_operand_if w (look_up registers w)) same
      by (inr is) = rw (sym registered, no_register German (text_of s p.left) is) refl

  alone_same : (p : Pair s e) (ps : List (Pair s e)) → IsWordPair p → lone_word_operand s p.left (lefts ps) ≡ lone_word_operand e p.right (rights ps)
  unfolding lone_word_operand
  alone_same p [] h = rw (condition_same p h.text, other_same p h) refl
  alone_same p (q ∷ qs) h = refl

  sized_same : (p : Pair s e) (ps : List (Pair s e)) → operand_by_sized_register s p.left (lefts ps) ≡ operand_by_sized_register e p.right (rights ps)
  unfolding operand_by_sized_register
  sized_same p ps =
      rw (key_like s e p key.B, key_like s e p key.W, key_like s e p key.D, by_register_same None width.Byte ps, by_register_same None width.Word ps, by_register_same None width.Dword ps) refl

  word_like : (p : Pair s e) → Same (text_of s p.left) (text_of e p.right) → is_operand_word s p.left ≡ is_operand_word e p.right
  unfolding is_operand_word
  word_like p same =
      rw (
        address_word_same (text_of s p.left) (text_of e p.right) same,
        same_looked_up flags (text_of s p.left) (text_of e p.right) same,
        same_looked_up registers (text_of s p.left) (text_of e p.right) same,
        key_like s e p key.True,
        key_like s e p key.False,
      ) refl

  known_word : (p : Pair s e) → is_operand German (text_of s p.left) ≡ true → is_operand_word s p.left ≡ true
  unfolding is_operand_word
  known_word p is = rw (english_word (text_of s p.left) is) refl

  plain_same : (p : Pair s e) (ps : List (Pair s e)) → IsWordPair p → Fits s e ps → plain_path s p.left (lefts ps) ≡ plain_path e p.right (rights ps)
  unfolding plain_path
  plain_same p ps h fits = by h.exact
    where
      by : (text_of s p.left ≡ text_of e p.right) ⊎ (is_operand German (text_of s p.left) ≡ true)
          → (if is_operand_word s p.left then None else path_of s (head.Local (text_of s p.left)) (lefts ps))
          ≡ (if is_operand_word e p.right then None else path_of e (head.Local (text_of e p.right)) (rights ps))
      by (inl same) = if_same (word_like p h.text) (λ is. refl) (λ isnt. rw same (path_same (head.Local (text_of e p.right)) ps fits))
      by (inr is) = rw (sym (word_like p h.text), known_word p is) refl

  with_pointer_same : (p : Pair s e) (ps : List (Pair s e)) → IsWordPair p → Fits s e ps → operand_with_pointer s p.left (lefts ps) ≡ operand_with_pointer e p.right (rights ps)
  unfolding operand_with_pointer
  with_pointer_same p ps h fits =
      rw (same_looked_up addresses (text_of s p.left) (text_of e p.right) h.text)
      (same_option _ _ (agree_chained _ _ (equal (look_up addresses (text_of e p.right)) (look_up addresses (text_of e p.right)) refl) (λ a b k. rw k (equal _ _ (indirect_same b ps fits)))))

  or_same : {X : Type 0} (a b c d : Option X) → a ≡ c → b ≡ d → option_or a b ≡ option_or c d
  or_same a b c d h k = rw (h, k) refl

  with_number_same : (ps : List (Pair s e)) → Fits s e ps → operand_with_number s (lefts ps) ≡ operand_with_number e (rights ps)
  unfolding operand_with_number
  with_number_same ps h = same_option _ _ (numbers_on _ _ (addressed ps h) (λ a n qs k. equal _ _ (direct_same a n qs k)))

  word_same : (p : Pair s e) (ps : List (Pair s e)) → IsWordPair p → Fits s e (p ∷ ps)
      → word_operand s p.left (lefts ps) (p.left ∷ lefts ps) ≡ word_operand e p.right (rights ps) (p.right ∷ rights ps)
  unfolding word_operand
  word_same p ps h fits =
      or_same _ _ _ _ (alone_same p ps h) (or_same _ _ _ _ (with_number_same (p ∷ ps) fits)
      (or_same _ _ _ _ (with_pointer_same p ps h fits.2) (or_same _ _ _ _ (sized_same p ps) (plain_same p ps h fits.2))))

  -- ---- other tokens

  quoted_same : (p : Pair s e) (ps : List (Pair s e)) → IsSamePair p → Fits s e ps → quoted_operand s p.left (lefts ps) ≡ quoted_operand e p.right (rights ps)
  unfolding quoted_operand
  quoted_same p [] same h = ap (λ t. Some (operand.Named (head.Symbol (text_between_quotes t)) [])) same.text
  quoted_same p (q ∷ qs) same h = rw same.text (behind_block_same (block.Quoted (text_between_quotes (text_of e p.right))) (q ∷ qs) h)

  mark_same : (p : Pair s e) (ps : List (Pair s e)) → Fits s e ps
      → mark_operand s p.left (lefts ps) (p.left ∷ lefts ps) ≡ mark_operand e p.right (rights ps) (p.right ∷ rights ps)
  unfolding mark_operand
  mark_same p ps h = if_same (mark_like s e p mark.Pointer) (λ is. pointer_same ps h) (λ isnt. by_register_same None width.Bit (p ∷ ps))

  sign_same : (p : Pair s e) (ps : List (Pair s e)) → IsSamePair p → sign_operand s p.left (lefts ps) ≡ sign_operand e p.right (rights ps)
  unfolding sign_operand
  sign_same p [] same = condition_same p (itself (text_of s p.left) (text_of e p.right) same.text)
  sign_same p (q ∷ qs) same = refl

  local_same : (p : Pair s e) (ps : List (Pair s e)) → IsSamePair p → Fits s e ps → local_path s p.left (lefts ps) ≡ local_path e p.right (rights ps)
  unfolding local_path
  local_same p ps same h = rw same.text (path_same (head.Local (drop 1 (text_of e p.right))) ps h)

  same_word : (p : Pair s e) → IsSamePair p → IsWordPair p
  same_word p same = record {
    kinds = same_kind s e p.left p.right kind.Word same;
    text = itself (text_of s p.left) (text_of e p.right) same.text;
    exact = inl same.text;
  }

  kind_same : (p : Pair s e) (ps : List (Pair s e)) → IsSamePair p → Fits s e (p ∷ ps) → (k : TokenKind)
      → operand_by_kind s p.left (lefts ps) (p.left ∷ lefts ps) k ≡ operand_by_kind e p.right (rights ps) (p.right ∷ rights ps) k
  unfolding operand_by_kind
  kind_same p ps same h kind.Word = word_same p ps (same_word p same) h
  kind_same p ps same h kind.Quoted = quoted_same p ps same h.2
  kind_same p ps same h kind.Local = local_same p ps same h.2
  kind_same p ps same h kind.Mark = mark_same p ps h.2
  kind_same p ps same h kind.SignWord = sign_same p ps same
  kind_same p ps same h _ = refl

  -- ---- names with `#`

  no_pointer : (p : Pair s e) (ps : List (Pair s e)) → IsNamedPair p → operand_by_sized_register s p.left (lefts ps) ≡ None
  unfolding operand_by_sized_register
  no_pointer p ps h =
      rw (named_no_key s e p.left p.right key.B h.named, named_no_key s e p.left p.right key.W h.named, named_no_key s e p.left p.right key.D h.named) refl

  no_number : (p : Pair s e) (ps : List (Pair s e)) → IsNamedPair p → Fits s e (p ∷ ps) → operand_with_number s (p.left ∷ lefts ps) ≡ None
  unfolding operand_with_number
  no_number p ps named h = rw (named_no_address s e (Fits s e) closed apart p ps h named) refl

  no_alone : (t : Token) (ts : List Token) → look_up flags (text_of s t) ≡ None → look_up registers (text_of s t) ≡ None → lone_word_operand s t ts ≡ None
  unfolding lone_word_operand condition_word_operand register_name_operand
  no_alone t [] a b = rw (a, b) refl
  no_alone t (u ∷ us) a b = refl

  not_operand : (p : Pair s e) → IsNamedPair p → is_operand English (text_of s p.left) ≡ true → is_operand_word s p.left ≡ false
  unfolding is_operand_word is_address_word
  not_operand p h is =
      rw (
        no_address_letters (text_of s p.left) is,
        no_flag (text_of s p.left) is,
        no_register English (text_of s p.left) is,
        named_no_key s e p.left p.right key.True h.named,
        named_no_key s e p.left p.right key.False h.named,
      ) refl

  german_pointer : (t : Token) (ts : List Token) → is_operand English (text_of s t) ≡ true → operand_with_pointer s t ts ≡ None
  unfolding operand_with_pointer
  german_pointer t ts is = rw (no_address (text_of s t) is) refl

  german_path : (p : Pair s e) (ps : List (Pair s e)) → IsNamedPair p → is_operand English (text_of s p.left) ≡ true → Fits s e ps
      → plain_path s p.left (lefts ps) ≡ local_path e p.right (rights ps)
  unfolding plain_path local_path
  german_path p ps h is fits =
      rw (not_operand p h is, h.named.text) (path_same (head.Local (text_of s p.left)) ps fits)

  -- a name that is no operand word of English
  german_name : (p : Pair s e) (ps : List (Pair s e)) → IsNamedPair p → is_operand English (text_of s p.left) ≡ true → Fits s e (p ∷ ps)
      → word_operand s p.left (lefts ps) (p.left ∷ lefts ps) ≡ local_path e p.right (rights ps)
  unfolding word_operand
  german_name p ps named is h =
      rw (
        no_alone p.left (lefts ps) (no_flag (text_of s p.left) is) (no_register English (text_of s p.left) is),
        no_number p ps named h,
        german_pointer p.left (lefts ps) is,
        no_pointer p ps named,
      ) (german_path p ps named is h.2)

  none_of : {X Y : Type 0} (f : X → Option Y) (o : Option X) → ((x : X) → f x ≡ None) → option_and_then f o ≡ None
  none_of f None h = refl
  none_of f (Some x) h = h x

  register_none : (t : Token) (ts : List Token) → is_mark s t mark.OpenBracket ≡ false → register_pointer s (t ∷ ts) ≡ None
  unfolding register_pointer
  register_none t (r ∷ c ∷ p ∷ n ∷ d ∷ b ∷ z ∷ []) isnt = rw isnt refl
  register_none t _ isnt = refl

  memory_none : (pointer : Bool) (t : Token) (ts : List Token) → is_mark s t mark.OpenBracket ≡ false → memory_pointer s pointer (t ∷ ts) ≡ None
  unfolding memory_pointer
  memory_none pointer t ts isnt = rw isnt refl

  indirect_none : (a : AddressKind) (t : Token) (ts : List Token) → is_mark s t mark.OpenBracket ≡ false → indirect_operand s a (t ∷ ts) ≡ None
  unfolding indirect_operand operand_by_pointer operand_by_memory_number operand_by_register
  indirect_none (address.Area area w) t ts isnt = rw (memory_none true t ts isnt, register_none t ts isnt) refl
  indirect_none address.Timer t ts isnt = rw (memory_none false t ts isnt) refl
  indirect_none address.Counter t ts isnt = rw (memory_none false t ts isnt) refl
  indirect_none (address.Block false) t ts isnt = rw (memory_none false t ts isnt) refl
  indirect_none (address.Block true) t ts isnt = rw (memory_none false t ts isnt) refl

  indirect_end : (a : AddressKind) → indirect_operand s a [] ≡ None
  unfolding indirect_operand operand_by_pointer operand_by_memory_number operand_by_register memory_pointer register_pointer
  indirect_end (address.Area area w) = refl
  indirect_end address.Timer = refl
  indirect_end address.Counter = refl
  indirect_end (address.Block false) = refl
  indirect_end (address.Block true) = refl

  english_pointer : (p : Pair s e) (ps : List (Pair s e)) → IsNamedPair p → is_operand English (text_of s p.left) ≡ false → Fits s e (p ∷ ps)
      → operand_with_pointer s p.left (lefts ps) ≡ None
  unfolding operand_with_pointer
  english_pointer p [] named isnt h = none_of _ _ indirect_end
  english_pointer p (q ∷ qs) named isnt h = none_of _ _ (λ a. indirect_none a q.left (lefts qs) (h.1.apart named isnt).1)

  english_path : (p : Pair s e) (ps : List (Pair s e)) → is_operand German (text_of s p.left) ≡ true → plain_path s p.left (lefts ps) ≡ None
  unfolding plain_path
  english_path p ps is = rw (known_word p is) refl

  -- a name that is one
  english_name : (p : Pair s e) (ps : List (Pair s e)) → IsNamedPair p → is_operand English (text_of s p.left) ≡ false → Fits s e (p ∷ ps)
      → word_operand s p.left (lefts ps) (p.left ∷ lefts ps) ≡ None
  unfolding word_operand
  english_name p ps named isnt h =
      let is = english named.named.operand in
      rw (
        no_alone p.left (lefts ps) (flag named.alone) (no_register German (text_of s p.left) is),
        no_number p ps named h,
        english_pointer p ps named isnt h,
        no_pointer p ps named,
        english_path p ps is,
      ) refl
    where
      english : (is_some (operand_partner English (text_of s p.left)) ≡ true) ⊎ (is_some (operand_partner German (text_of s p.left)) ≡ true) → is_operand German (text_of s p.left) ≡ true
      english (inl there) = absurd (false≢true (sym isnt ∙ there))
      english (inr is) = is

      flag : (is_some (operand_partner English (text_of s p.left)) ≡ true) ⊎ ((drop (letter_count (text_of s p.left)) (text_of s p.left) ≡ []) × (look_up flags (text_of s p.left) ≡ None)) → look_up flags (text_of s p.left) ≡ None
      flag (inl there) = absurd (false≢true (sym isnt ∙ there))
      flag (inr none) = none.1

  long_none : (t : Token) (ts : List Token) → has_kind t kind.Mark ≡ false → long_literal s t ts ≡ None
  unfolding long_literal signed_number_at
  long_none t [] isnt = rw (no_mark s t mark.Bytes isnt) refl
  long_none t (u ∷ us) isnt = rw (no_mark s t mark.Bytes isnt, no_mark s t mark.Minus isnt, no_mark s t mark.Plus isnt) refl

  no_literal : (p : Pair s e) (ps : List (Pair s e)) → IsNamedPair p → literal_of s (p.left ∷ lefts ps) ≡ None
  unfolding literal_of literal_at literal_token
  no_literal p ps named =
      rw (token, long_none p.left (lefts ps) (of_kind p.left kind.Word kind.Mark named.named.word)) refl
    where
      word : literal_token s p.left kind.Word ≡ None
      word = no_truth s e (Fits s e) closed apart p named.named

      token : literal_token s p.left p.left.kind ≡ None
      token = ap (literal_token s p.left) named.named.word ∙ word

  -- ---- all of them

  constants : (ps : List (Pair s e)) → Fits s e ps → option_map operand.Constant (literal_of s (lefts ps)) ≡ option_map operand.Constant (literal_of e (rights ps))
  constants ps h = ap (option_map operand.Constant) (literal_same s e (Fits s e) closed apart ps h)

  -- the first token is a name that is an operand word of English
  abbrev pub HeadForeign : List (Pair s e) → Type 0
  HeadForeign [] = ⊥
  HeadForeign (p ∷ ps) = IsNamedPair p × (is_operand English (text_of s p.left) ≡ false)

  pub operand_same_or : (ps : List (Pair s e)) → Fits s e ps → (operand_of s (lefts ps) ≡ operand_of e (rights ps)) ⊎ HeadForeign ps
  unfolding operand_of operand_by_kind
  operand_same_or [] h = inl refl
  operand_same_or (p ∷ ps) h = by h.0
    where
      left : TokenKind → Option Operand
      left k = operand_by_kind s p.left (lefts ps) (p.left ∷ lefts ps) k

      right : TokenKind → Option Operand
      right k = operand_by_kind e p.right (rights ps) (p.right ∷ rights ps) k

      both : left p.left.kind ≡ right p.right.kind → (operand_of s (p.left ∷ lefts ps) ≡ operand_of e (p.right ∷ rights ps)) ⊎ HeadForeign (p ∷ ps)
      both k = inl (or_same _ _ _ _ (constants (p ∷ ps) h) k)

      name : IsNamedPair p → (t : Bool) → is_operand English (text_of s p.left) ≡ t → (operand_of s (p.left ∷ lefts ps) ≡ operand_of e (p.right ∷ rights ps)) ⊎ HeadForeign (p ∷ ps)
      name named true is = both (ap left named.named.word ∙ german_name p ps named is h ∙ sym (ap right named.named.other))
      name named false isnt = inr (named, isnt)

      by : IsKnown p → (operand_of s (p.left ∷ lefts ps) ≡ operand_of e (p.right ∷ rights ps)) ⊎ HeadForeign (p ∷ ps)
      by (inl same) = both (kind_same p ps same h p.left.kind ∙ ap right same.kind)
      by (inr (inl (k, known))) = both (ap left k.word ∙ word_same p ps (record {
        kinds = of_kind p.left kind.Word kind.Word k.word ∙ sym (of_kind p.right kind.Word kind.Word k.other);
        text = k.text;
        exact = inr known;
      }) h ∙ sym (ap right k.other))
      by (inr (inr named)) = name named (is_operand English (text_of s p.left)) refl

  -- such a name is no operand
  pub foreign_none : (ps : List (Pair s e)) → Fits s e ps → HeadForeign ps → operand_of s (lefts ps) ≡ None
  unfolding operand_of operand_by_kind
  foreign_none [] h foreign = absurd foreign
  foreign_none (p ∷ ps) h (named, isnt) =
      or_same _ _ None None (ap (option_map operand.Constant) (no_literal p ps named)) (ap left named.named.word ∙ english_name p ps named isnt h)
    where
      left : TokenKind → Option Operand
      left k = operand_by_kind s p.left (lefts ps) (p.left ∷ lefts ps) k

  pub operand_follows : (ps : List (Pair s e)) → Fits s e ps → Follows Equal (operand_of s (lefts ps)) (operand_of e (rights ps))
  operand_follows ps h = by (operand_same_or ps h)
    where
      by : (operand_of s (lefts ps) ≡ operand_of e (rights ps)) ⊎ HeadForeign ps → Follows Equal (operand_of s (lefts ps)) (operand_of e (rights ps))
      by (inl same) = also (equal _ _ same)
      by (inr foreign) = of_none _ _ (foreign_none ps h foreign)
