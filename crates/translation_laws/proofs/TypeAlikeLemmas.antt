-- Types and declarations are the same of tokens that are alike, but for the case of a declared name.
use Rattle.std.proofs.Common.{ℕ, ◌≡◌, Bool, true, false, List, [], ◌∷◌, length, Option, Some, None, ℤ, refl, sym, ◌∙◌, ap, inl, inr}
use Rattle.std.specs.Prelude.{◌⊎◌, is_some, if◌then◌else◌}
use Rattle.std.specs.Option.{option_map, option_and_then}
use Rattle.stl_lexer.specs.declared.kinds.Token.{Token}
use Rattle.stl_lexer.specs.declared.kinds.TokenKind.TheVariants as kind
use Rattle.stl_lexer.specs.declared.marks.Mark.TheVariants as mark
use Rattle.stl_lexer.specs.Tokens.{text_of}
use Rattle.stl_ast.specs.declared.declarations.Bounds.{Bounds}
use Rattle.stl_ast.specs.declared.declarations.Declaration.{Declaration}
use Rattle.stl_ast.specs.declared.declarations.ElementType.{ElementType}
use Rattle.stl_ast.specs.declared.declarations.ElementType.TheVariants as element
use Rattle.stl_ast.specs.declared.declarations.Init.{Init}
use Rattle.stl_ast.specs.declared.literals.Literal.{Literal}
use Rattle.stl_symbols.specs.declared.languages.Language.TheVariants.{English, German}
use Rattle.stl_parser.specs.declared.keywords.ClauseWord.TheVariants as key
use Rattle.stl_parser.specs.Declarations.{after_attribute, after_colon, after_struct, declaration_of, declaration_from_parts, declared_name_at, init_behind, structure_at}
use Rattle.stl_parser.specs.Tables.{look_up, simple_types}
use Rattle.stl_parser.specs.Terminals.{has_kind}
use Rattle.stl_parser.specs.Types.{array_at, array_end, array_high, arrays_at, arrays_end, end_of_tokens, counted_init_at, counted_init_end, element_at, init_at, init_list, init_of, next_init, no_array, simple_at, single_init, udt_at, udt_of}
use Rattle.de_mnemonics.specs.Words.{operand_partner}
use Rattle.translation_laws.proofs.AgreeAlikeLemmas.{Agree, Behind, IsNamedPair, IsSamePair, Like, OpensNone, Pair, Rests, agree_chained, agree_chosen, counts, either, equal, goes_on, if_same, lefts, agree_mapped, nothing, parts_agree, rest, rights, same_option, something, agree_tested, whole_same}
use Rattle.translation_laws.proofs.LikeAlikeLemmas.{itself, key_like, kind_like, mark_like, named_no_key, of_kind, same_kind}
use Rattle.translation_laws.proofs.NumberAlikeLemmas.{block_agrees, both_marks, int_agrees, literal_agrees, literal_same, number_of_like}
use Rattle.translation_laws.proofs.TextAlikeLemmas.{Same, is_operand, no_type}
use Rattle.translation_laws.proofs.LookUpLemmas.{same_looked_up}

module _ (s e : List ℕ) (F : List (Pair s e) → Type 0) (closed : (p : Pair s e) (ps : List (Pair s e)) → F (p ∷ ps) → F ps)
    (apart : (p q : Pair s e) (ps : List (Pair s e)) → F (p ∷ q ∷ ps) → IsNamedPair p → is_some (operand_partner English (text_of s p.left)) ≡ false → OpensNone q) where
  -- ---- arrays

  array_end_agrees : (low high : ℤ) (ps : List (Pair s e)) → F ps → Agree (Behind s e F {X = Bounds}) (array_end s low high (lefts ps)) (array_end e low high (rights ps))
  unfolding array_end
  array_end_agrees low high (p ∷ q ∷ ps) h =
      agree_tested (both_marks s e F closed apart (mark_like s e p mark.CloseBracket) (key_like s e q key.Of))
      (λ is. something (refl, rest s e F ps (closed q ps (closed p (q ∷ ps) h))))
  array_end_agrees low high _ h = nothing

  array_high_agrees : (low : ℤ) (ps : List (Pair s e)) → F ps → Agree (Behind s e F {X = Bounds}) (array_high s low (lefts ps)) (array_high e low (rights ps))
  unfolding array_high
  array_high_agrees low [] h = nothing
  array_high_agrees low (p ∷ ps) h =
      agree_tested (mark_like s e p mark.DotDot)
      (λ is. goes_on _ _ (int_agrees s e F closed apart ps (closed p ps h)) (λ n qs k. array_end_agrees low n qs k))

  array_agrees : (ps : List (Pair s e)) → F ps → Agree (Behind s e F {X = Bounds}) (array_at s (lefts ps)) (array_at e (rights ps))
  unfolding array_at
  array_agrees (p ∷ q ∷ ps) h =
      agree_tested (both_marks s e F closed apart (key_like s e p key.Array) (mark_like s e q mark.OpenBracket))
      (λ is. goes_on _ _ (int_agrees s e F closed apart ps (closed q ps (closed p (q ∷ ps) h))) (λ n qs k. array_high_agrees n qs k))
  array_agrees _ h = nothing

  none_agrees : (o o' : Option (Bounds × List Token)) (ts us : List Token) → Agree (Behind s e F {X = Bounds}) o o' → Rests s e F ts us
      → Agree (Rests s e F) (no_array o ts) (no_array o' us)
  none_agrees None None ts us a r = something r
  none_agrees (Some x) (Some y) ts us a r = nothing
  none_agrees None (Some y) ts us a r = absurd a.agree
  none_agrees (Some x) None ts us a r = absurd a.agree

  arrays_end_agree : (ps : List (Pair s e)) → F ps → Agree (Rests s e F) (arrays_end s (lefts ps)) (arrays_end e (rights ps))
  unfolding arrays_end
  arrays_end_agree ps h = none_agrees (array_at s (lefts ps)) (array_at e (rights ps)) (lefts ps) (rights ps) (array_agrees ps h) (rest s e F ps h)

  pub arrays_agree : (ps : List (Pair s e)) → F ps → Agree (Behind s e F {X = List Bounds}) (arrays_at s (lefts ps)) (arrays_at e (rights ps))
  unfolding arrays_at
  arrays_agree ps h = rw (counts ps)
      (parts_agree s e F (Rests s e F) (arrays_end s) (arrays_end e) (array_at s) (array_at e) arrays_end_agree array_agrees [] (length (rights ps)) ps h)

  -- ---- types

  type_there : (p : Pair s e) (ps : List (Pair s e)) → F ps → has_kind p.left kind.Word ≡ has_kind p.right kind.Word → Same (text_of s p.left) (text_of e p.right)
      → Agree (Behind s e F {X = ElementType}) (simple_at s p.left (lefts ps)) (simple_at e p.right (rights ps))
  unfolding simple_at
  type_there p ps h kinds text =
      agree_tested kinds (λ is. agree_chosen (key_like s e p key.DateAndTime) (something (refl, rest s e F ps h))
      (agree_mapped _ _ (equal _ _ (same_looked_up simple_types (text_of s p.left) (text_of e p.right) text)) (λ x y k. (ap element.Plain k, rest s e F ps h))))

  name_no_type : (p : Pair s e) (ps : List (Pair s e)) → IsNamedPair p → Agree (Behind s e F {X = ElementType}) (simple_at s p.left (lefts ps)) (simple_at e p.right (rights ps))
  unfolding simple_at
  name_no_type p ps named =
      rw (
        of_kind p.left kind.Word kind.Word named.named.word,
        of_kind p.right kind.Local kind.Word named.named.other,
        named_no_key s e p.left p.right key.DateAndTime named.named,
        none named.named.operand,
      ) nothing
    where
      none : (is_operand English (text_of s p.left) ≡ true) ⊎ (is_operand German (text_of s p.left) ≡ true) → look_up simple_types (text_of s p.left) ≡ None
      none (inl is) = no_type English (text_of s p.left) is
      none (inr is) = no_type German (text_of s p.left) is

  simple_agrees : (p : Pair s e) (ps : List (Pair s e)) → F ps → Agree (Behind s e F {X = ElementType}) (simple_at s p.left (lefts ps)) (simple_at e p.right (rights ps))
  simple_agrees p ps h = by p.like
    where
      by : Like s e p.left p.right → Agree (Behind s e F {X = ElementType}) (simple_at s p.left (lefts ps)) (simple_at e p.right (rights ps))
      by (inl k) = type_there p ps h (same_kind s e p.left p.right kind.Word k) (itself (text_of s p.left) (text_of e p.right) k.text)
      by (inr (inl k)) = type_there p ps h (of_kind p.left kind.Word kind.Word k.word ∙ sym (of_kind p.right kind.Word kind.Word k.other)) k.text
      by (inr (inr named)) = name_no_type p ps named

  udt_agrees : (ps : List (Pair s e)) → F ps → Agree (Behind s e F {X = ElementType}) (udt_at s (lefts ps)) (udt_at e (rights ps))
  unfolding udt_at
  udt_agrees ps h =
      goes_on _ _ (block_agrees s e F closed apart ps h)
      (λ x qs k. agree_mapped _ _ (equal (udt_of x) (udt_of x) refl) (λ a b l. (ap element.Udt l, rest s e F qs k)))

  pub element_agrees : (ps : List (Pair s e)) → F ps → Agree (Behind s e F {X = ElementType}) (element_at s (lefts ps)) (element_at e (rights ps))
  unfolding element_at
  element_agrees [] h = nothing
  element_agrees (p ∷ ps) h = either (simple_agrees p ps (closed p ps h)) (udt_agrees (p ∷ ps) h)

  -- ---- initial values

  counted_end_agrees : (count : ℕ) (value : Literal) (ps : List (Pair s e)) → F ps → Agree (Behind s e F {X = Init}) (counted_init_end s count value (lefts ps)) (counted_init_end e count value (rights ps))
  unfolding counted_init_end
  counted_end_agrees count value [] h = nothing
  counted_end_agrees count value (p ∷ ps) h = agree_tested (mark_like s e p mark.CloseParen) (λ is. something (refl, rest s e F ps (closed p ps h)))

  counted_agrees : (ps : List (Pair s e)) → F ps → Agree (Behind s e F {X = Init}) (counted_init_at s (lefts ps)) (counted_init_at e (rights ps))
  unfolding counted_init_at
  counted_agrees (p ∷ q ∷ ps) h =
      agree_tested (mark_like s e q mark.OpenParen)
      (λ is. agree_chained _ _ (equal _ _ (number_of_like s e F closed apart p))
      (λ n m k. rw k (goes_on _ _ (literal_agrees s e F closed apart ps (closed q ps (closed p (q ∷ ps) h))) (λ l qs j. counted_end_agrees m l qs j))))
  counted_agrees _ h = nothing

  abbrev single : Literal → Init
  single value = record { count = None; value = value }

  value_is : (x y : Literal) → x ≡ y → single x ≡ single y
  value_is x y k = rw k refl

  init_agrees : (ps : List (Pair s e)) → F ps → Agree (Behind s e F {X = Init}) (init_at s (lefts ps)) (init_at e (rights ps))
  unfolding init_at
  init_agrees ps h = either (counted_agrees ps h) (agree_mapped _ _ (literal_agrees s e F closed apart ps h) (λ x y k. (value_is x.0 y.0 k.0, k.1)))

  next_agrees : (ps : List (Pair s e)) → F ps → Agree (Behind s e F {X = Init}) (next_init s (lefts ps)) (next_init e (rights ps))
  unfolding next_init
  next_agrees [] h = nothing
  next_agrees (p ∷ ps) h = agree_tested (mark_like s e p mark.Comma) (λ is. init_agrees ps (closed p ps h))

  at_end_agrees : (ps : List (Pair s e)) → F ps → Agree (Rests s e F) (end_of_tokens (lefts ps)) (end_of_tokens (rights ps))
  unfolding end_of_tokens
  at_end_agrees [] h = something (rest s e F [] h)
  at_end_agrees (p ∷ ps) h = nothing

  init_list_same : (ps : List (Pair s e)) → F ps → init_list s (lefts ps) ≡ init_list e (rights ps)
  unfolding init_list
  init_list_same ps h = same_option _ _
      (goes_on _ _ (init_agrees ps h) (λ x qs k. equal _ _ (rw (counts qs) (whole_same {s = s} {e = e} {F = F} _ _
      (parts_agree s e F (Rests s e F) end_of_tokens end_of_tokens (next_init s) (next_init e) at_end_agrees next_agrees (x ∷ []) (length (rights qs)) qs k)))))

  single_same : (ps : List (Pair s e)) → F ps → single_init s (lefts ps) ≡ single_init e (rights ps)
  unfolding single_init
  single_same ps h = ap (option_map (λ value. single value ∷ [])) (literal_same s e F closed apart ps h)

  init_of_same : (arrays : List Bounds) (t : ElementType) (ps : List (Pair s e)) → F ps → init_of s arrays t (lefts ps) ≡ init_of e arrays t (rights ps)
  unfolding init_of
  init_of_same (b ∷ []) (element.Plain k) ps h = init_list_same ps h
  init_of_same _ _ ps h = single_same ps h

  init_behind_same : (arrays : List Bounds) (t : ElementType) (ps : List (Pair s e)) → F ps → init_behind s arrays t (lefts ps) ≡ init_behind e arrays t (rights ps)
  unfolding init_behind
  init_behind_same arrays t [] h = refl
  init_behind_same arrays t (p ∷ ps) h = if_same (mark_like s e p mark.Assign) (λ is. init_of_same arrays t ps (closed p ps h)) (λ isnt. refl)

  -- ---- declarations

  attribute_rests : (ps : List (Pair s e)) → F ps → Rests s e F (after_attribute (lefts ps)) (after_attribute (rights ps))
  unfolding after_attribute
  attribute_rests [] h = rest s e F [] h
  attribute_rests (p ∷ ps) h = by (has_kind p.left kind.Attribute) (has_kind p.right kind.Attribute) (kind_like s e p kind.Attribute refl refl)
    where
      by : (x y : Bool) → x ≡ y → Rests s e F (if x then lefts ps else p.left ∷ lefts ps) (if y then rights ps else p.right ∷ rights ps)
      by true true k = rest s e F ps (closed p ps h)
      by false false k = rest s e F (p ∷ ps) h
      by true false k = absurd cc
      by false true k = absurd cc

  pub colon_agrees : (ps : List (Pair s e)) → F ps → Agree (Rests s e F) (after_colon s (lefts ps)) (after_colon e (rights ps))
  unfolding after_colon
  colon_agrees [] h = nothing
  colon_agrees (p ∷ ps) h = agree_tested (mark_like s e p mark.Colon) (λ is. something (rest s e F ps (closed p ps h)))

  colon_behind : (ts us : List Token) → Rests s e F ts us → Agree (Rests s e F) (after_colon s ts) (after_colon e us)
  colon_behind ts us r = rw (sym r.left, sym r.right) (colon_agrees r.pairs r.fits)

  -- the first token is a word in both, or in none
  abbrev pub HeadKind : List (Pair s e) → Type 0
  HeadKind [] = Unit {0}
  HeadKind (p ∷ ps) = has_kind p.left kind.Word ≡ has_kind p.right kind.Word

  -- the token of a declared name, and what follows
  abbrev NameAndRest : Pair s e → Token × List Token → Token × List Token → Type 0
  NameAndRest p x y = (x.0 ≡ p.left) × (y.0 ≡ p.right) × Rests s e F x.1 y.1

  declared_agrees : (p : Pair s e) (ps : List (Pair s e)) → F (p ∷ ps) → HeadKind (p ∷ ps)
      → Agree (NameAndRest p) (declared_name_at s (p.left ∷ lefts ps)) (declared_name_at e (p.right ∷ rights ps))
  unfolding declared_name_at
  declared_agrees p ps h kinds =
      agree_tested kinds (λ is. agree_mapped _ _ (colon_behind (after_attribute (lefts ps)) (after_attribute (rights ps)) (attribute_rests ps (closed p ps h))) (λ x y k. (refl, refl, k)))

  pub struct_agrees : (ps : List (Pair s e)) → F ps → Agree (Rests s e F) (after_struct s (lefts ps)) (after_struct e (rights ps))
  unfolding after_struct
  struct_agrees [] h = nothing
  struct_agrees (p ∷ ps) h = agree_tested (key_like s e p key.Struct) (λ is. something (rest s e F ps (closed p ps h)))

  -- a declaration is the same where the declared name is
  declaration_is : (level : ℕ) (p : Pair s e) (arrays : List Bounds) (t : ElementType) (x y : List Init) → x ≡ y → IsSamePair p
      → declaration_from_parts s level p.left arrays t x ≡ declaration_from_parts e level p.right arrays t y
  declaration_is level p arrays t x y k same = rw (same.line, same.text, k) refl

  -- the declaration of a name
  abbrev SameDeclaration : Pair s e → Declaration → Declaration → Type 0
  SameDeclaration p x y = IsSamePair p → x ≡ y

  declared_on : {Y : Type 0} {Q : Y → Y → Type 0} (p : Pair s e) (o o' : Option (Token × List Token)) (f g : Token × List Token → Option Y)
      → Agree (NameAndRest p) o o' → ((qs : List (Pair s e)) → F qs → Agree Q (f (p.left, lefts qs)) (g (p.right, rights qs)))
      → Agree Q (option_and_then f o) (option_and_then g o')
  declared_on p None None f g a h = nothing
  declared_on p (Some (t, ts)) (Some (u, us)) f g a h =
      rw (a.agree.0, a.agree.1, sym a.agree.2.left, sym a.agree.2.right) (h a.agree.2.pairs a.agree.2.fits)
  declared_on p None (Some y) f g a h = absurd a.agree
  declared_on p (Some x) None f g a h = absurd a.agree

  pub structure_agrees : (level : ℕ) (p : Pair s e) (ps : List (Pair s e)) → F (p ∷ ps) → HeadKind (p ∷ ps)
      → Agree (λ x y. SameDeclaration p x.0 y.0 × Rests s e F x.1 y.1) (structure_at s level (p.left ∷ lefts ps)) (structure_at e level (p.right ∷ rights ps))
  unfolding structure_at
  structure_agrees level p ps h kinds =
      declared_on p _ _ _ _ (declared_agrees p ps h kinds)
      (λ qs k. goes_on _ _ (arrays_agree qs k) (λ a rs l. agree_mapped _ _ (struct_agrees rs l) (λ x y m. (declaration_is level p a element.Structure [] [] refl, m))))

  pub declaration_agrees : (level : ℕ) (p : Pair s e) (ps : List (Pair s e)) → F (p ∷ ps) → HeadKind (p ∷ ps)
      → Agree (SameDeclaration p) (declaration_of s level (p.left ∷ lefts ps)) (declaration_of e level (p.right ∷ rights ps))
  unfolding declaration_of
  declaration_agrees level p ps h kinds =
      declared_on p _ _ _ _ (declared_agrees p ps h kinds)
      (λ qs k. goes_on _ _ (arrays_agree qs k) (λ a rs l. goes_on _ _ (element_agrees rs l)
      (λ t vs m. agree_mapped _ _ (equal _ _ (init_behind_same a t vs m)) (λ x y j. declaration_is level p a t x y j))))
