-- What the walk over places says of tokens that are alike.
use Rattle.std.proofs.Common.{arith, ℕ, zero, suc, ◌≡◌, Bool, true, false, not, ◌&&◌, List, [], ◌∷◌, ◌++◌, length, take, drop, Option, Some, None, refl, sym, ◌∙◌, ap, subst, inl, inr}
use Rattle.std.specs.Prelude.{◌⊎◌, ◌||◌, is_some, nat_eq, nat_lt, if◌then◌else◌}
use Rattle.std.specs.Option.{option_map, option_or}
use Rattle.std.specs.List.{list_all}
use Rattle.std.specs.Char.{is_ascii_digit}
use Rattle.std.specs.Str.{str_eq_ignore_ascii_case}
use Rattle.std.proofs.lemmas.Bool.{false≢true}
use Rattle.std.proofs.lemmas.Bool.Decides.{nat_tests}
use Rattle.std.proofs.lemmas.List.{take-append-drop, append-nil}
use Rattle.plc_base.specs.declared.flags.Flag.{Flag}
use Rattle.stl_lexer.specs.declared.kinds.Token.{Token}
use Rattle.stl_lexer.specs.declared.kinds.TokenKind.{TokenKind}
use Rattle.stl_lexer.specs.declared.kinds.TokenKind.TheVariants as kind
use Rattle.stl_lexer.specs.declared.marks.Mark.{Mark}
use Rattle.stl_lexer.specs.declared.marks.Mark.TheVariants as mark
use Rattle.stl_lexer.specs.Marks.{mark_text}
use Rattle.stl_lexer.specs.Tokens.{text_of}
use Rattle.stl_symbols.specs.declared.languages.Language.TheVariants.{English, German}
use Rattle.stl_parser.specs.Addresses.{letter_count}
use Rattle.stl_parser.specs.Tables.{flags, look_up}
use Rattle.stl_parser.specs.Terminals.{has_kind, is_mark, kind_rank}
use Rattle.de_mnemonics.specs.declared.classes.TokenClass.{TokenClass}
use Rattle.de_mnemonics.specs.declared.classes.TokenClass.TheVariants as class
use Rattle.de_mnemonics.specs.declared.places.TokenPlace.{TokenPlace}
use Rattle.de_mnemonics.specs.declared.places.TokenPlace.TheVariants as place
use Rattle.de_mnemonics.specs.declared.roles.Role.{Role}
use Rattle.de_mnemonics.specs.declared.roles.Role.TheVariants as role
use Rattle.translation_laws.specs.Alike.{AreTokensAlike, ComesBackInRole, IsSameWordButForCase, IsOperandWordAsLocal, IsSameToken}
use Rattle.de_mnemonics.specs.Places.{token_place_behind, place_behind_closing, place_behind_opening, place_behind_part, place_behind_sign, place_behind_word, token_class, class_of_mark, is_word_in_list, is_component_word, is_dot, is_word_in_pairs, is_numbered_operand, is_operand_place, is_pointer_mark, is_mark_text, opens_number, opens_path, role_at_start, role_first, role_in, role_of, role_of_word}
use Rattle.de_mnemonics.specs.Tables.{block_end_words, network_words, operand_pairs, result_pairs, zone_words}
use Rattle.de_mnemonics.specs.Translation.{token_class_in, next_class}
use Rattle.de_mnemonics.specs.Words.{digits_of_word, letters_of_word, numbered_partner, operand_partner, partner_in_table}
use Rattle.translation_laws.proofs.AgreeAlikeLemmas.{IsName, IsNamedPair, Like, OpensNone, Pair, lefts, rights}
use Rattle.translation_laws.proofs.LikeAlikeLemmas.{of_kind}
use Rattle.translation_laws.proofs.OperandAlikeLemmas.{Fits, IsKnown, SideBySide, JoinedTo, second}
use Rattle.translation_laws.proofs.StatementAlikeLemmas.{is_of_mark}
use Rattle.translation_laws.proofs.TextAlikeLemmas.{Same, is_operand, own, partner_passes}
use Rattle.de_mnemonics.proofs.CaseLemmas.{same_text}
use Rattle.translation_laws.proofs.LookUpLemmas.{same_looked_up}

-- ---- roles

-- what is known of a word that begins a path
pub record IsPath (before : TokenClass) (text : List ℕ) (next : TokenClass) : Type 0 where
  pub component : is_component_word before next ≡ false
  pub place : is_operand_place before text next ≡ false

path_in : (p : TokenPlace) (before : TokenClass) (text : List ℕ) (next : TokenClass) → role_in p before text next ≡ role.Path → IsPath before text next
unfolding role_in
path_in p before text next is = by (is_component_word before next) (is_operand_place before text next) (opens_path p before) refl refl is
  where
    by : (a b c : Bool) → is_component_word before next ≡ a → is_operand_place before text next ≡ b
        → (if a then role.Stays else (if b then role.Operand else (if c then role.Path else role.Stays))) ≡ role.Path → IsPath before text next
    by true b c h k e = absurd cc
    by false true c h k e = absurd cc
    by false false c h k e = record { component = h; place = k }

no_path_first : (b : Bool) (next : TokenClass) → (if b then role.Stays else role_first next) ≡ role.Path → ⊥
no_path_first true next e = cc
no_path_first false class.Colon e = cc
no_path_first false class.Word e = cc
no_path_first false class.Number e = cc
no_path_first false class.Note e = cc
no_path_first false class.Semicolon e = cc
no_path_first false class.Dot e = cc
no_path_first false class.Assign e = cc
no_path_first false class.OpenBracket e = cc
no_path_first false class.OpenParen e = cc
no_path_first false class.CloseParen e = cc
no_path_first false class.Pointer e = cc
no_path_first false class.Other e = cc

path_word : (p : TokenPlace) (before : TokenClass) (text : List ℕ) (next : TokenClass) → role_of_word p before text next ≡ role.Path → IsPath before text next
unfolding role_of_word role_at_start
path_word place.Outside before text next is = absurd cc
path_word place.Head before text next is = absurd cc
path_word place.Start before text next is = absurd (no_path_first (is_word_in_list block_end_words text || is_word_in_list network_words text) next is)
path_word place.Label before text next is = absurd cc
path_word place.Labelled before text next is = absurd cc
path_word place.Jump before text next is = absurd cc
path_word place.Instruction before text next is = path_in place.Instruction before text next is
path_word place.Closing before text next is = path_in place.Closing before text next is
path_word place.Path before text next is = path_in place.Path before text next is
path_word place.Inside before text next is = path_in place.Inside before text next is

pub path_role : (p : TokenPlace) (before c : TokenClass) (text : List ℕ) (next : TokenClass) → role_of p before c text next ≡ role.Path → IsPath before text next
unfolding role_of
path_role p before class.Word text next is = path_word p before text next is
path_role p before _ text next is = absurd cc

-- ---- an English operand word in front of a path stands alone

pub neither : (a b : Bool) → (a || b) ≡ false → (a ≡ false) × (b ≡ false)
neither true b e = absurd (false≢true (sym e))
neither false b e = (refl, e)

no_bytes : (ds : List ℕ) → nat_lt 0 (length ds) ≡ false → ds ≡ []
no_bytes [] e = refl
no_bytes (d ∷ ds) e = absurd (grind (arith, nat_tests))

none_some : {X : Type 0} (o : Option X) → is_some o ≡ false → o ≡ None
none_some None e = refl
none_some (Some x) e = absurd (false≢true (sym e))

operand_flags : list_all (λ x. not (is_some (look_up flags (own German x)))) operand_pairs ≡ true
unfolding look_up flags operand_pairs
operand_flags = refl

no_operand_flag : (a : List ℕ) → is_some (partner_in_table German operand_pairs a) ≡ true → look_up flags a ≡ None
no_operand_flag a is = none_some (look_up flags a)
    (turn (is_some (look_up flags a)) (partner_passes German (λ w. not (is_some (look_up flags w))) (λ x y same. ap (λ (o : Option Flag). not (is_some o)) (same_looked_up flags x y same)) operand_pairs operand_flags a is))
  where
    turn : (b : Bool) → not b ≡ true → b ≡ false
    turn true e = sym e
    turn false e = refl

all_letters : (a : List ℕ) → digits_of_word a ≡ [] → letters_of_word a ≡ a
all_letters a none = sym (append-nil (letters_of_word a)) ∙ ap (λ (l : List ℕ). letters_of_word a ++ l) (sym none) ∙ take-append-drop (letter_count a) a

pub record IsAlone (text : List ℕ) (next : TokenClass) : Type 0 where
  pub bare : digits_of_word text ≡ []
  pub flag : look_up flags text ≡ None
  pub opens : opens_number next ≡ false

english_alone : (text : List ℕ) (next : TokenClass) → is_operand German text ≡ true → is_numbered_operand text next ≡ false → is_word_in_pairs result_pairs text ≡ false → IsAlone text next
unfolding is_numbered_operand is_word_in_pairs operand_partner numbered_partner
english_alone text next is apart result =
    by (list_all is_ascii_digit (digits_of_word text)) (partner_in_table German operand_pairs (letters_of_word text)) (partner_in_table German result_pairs text) refl refl (neither (is_some (partner_in_table German result_pairs text)) (is_some (partner_in_table English result_pairs text)) result).0 is apart
  where
    found : (x : List ℕ) → partner_in_table German operand_pairs (letters_of_word text) ≡ Some x → (nat_lt 0 (length (digits_of_word text)) || opens_number next) ≡ false → IsAlone text next
    found x e none =
        let parts = neither (nat_lt 0 (length (digits_of_word text))) (opens_number next) none in
        let bare = no_bytes (digits_of_word text) parts.0 in
        record {
          bare = bare;
          flag = ap (look_up flags) (sym (all_letters text bare)) ∙ no_operand_flag (letters_of_word text) (ap is_some e);
          opens = parts.1;
        }

    by : (t : Bool) (o p : Option (List ℕ)) → list_all is_ascii_digit (digits_of_word text) ≡ t → partner_in_table German operand_pairs (letters_of_word text) ≡ o → is_some p ≡ false
        → is_some (option_or (if t then option_map (λ found. found ++ digits_of_word text) o else None) p) ≡ true
        → ((is_some o || is_some (partner_in_table English operand_pairs (letters_of_word text))) && t && (nat_lt 0 (length (digits_of_word text)) || opens_number next)) ≡ false
        → IsAlone text next
    by true (Some x) p d e r is n = found x e n
    by true None None d e r is n = absurd (false≢true is)
    by false o None d e r is n = absurd (false≢true is)
    by true None (Some y) d e r is n = absurd (false≢true (sym r))
    by false o (Some y) d e r is n = absurd (false≢true (sym r))

pub alone_on_path : (before : TokenClass) (text : List ℕ) (next : TokenClass) → IsPath before text next → is_operand German text ≡ true → IsAlone text next
unfolding is_operand_place
alone_on_path before text next path is =
    let parts = neither (is_pointer_mark before || is_numbered_operand text next) (is_word_in_pairs result_pairs text) path.place in
    english_alone text next is (neither (is_pointer_mark before) (is_numbered_operand text next) parts.0).1 parts.1

-- ---- marks

same_mark : (a b : List ℕ) → Same a b → class_of_mark a ≡ class_of_mark b
unfolding class_of_mark
same_mark a b same =
    rw (
      same_text a b (mark_text mark.Semicolon) same,
      same_text a b (mark_text mark.Dot) same,
      same_text a b (mark_text mark.Assign) same,
      same_text a b (mark_text mark.Colon) same,
      same_text a b (mark_text mark.OpenBracket) same,
      same_text a b (mark_text mark.OpenParen) same,
      same_text a b (mark_text mark.CloseParen) same,
      same_text a b (mark_text mark.Pointer) same,
    ) refl

pub dot_class : class_of_mark (mark_text mark.Dot) ≡ class.Dot
unfolding class_of_mark mark_text
dot_class = refl

pub assign_class : class_of_mark (mark_text mark.Assign) ≡ class.Assign
unfolding class_of_mark mark_text
assign_class = refl

pub colon_class : class_of_mark (mark_text mark.Colon) ≡ class.Colon
unfolding class_of_mark mark_text
colon_class = refl

pub bracket_class : class_of_mark (mark_text mark.OpenBracket) ≡ class.OpenBracket
unfolding class_of_mark mark_text
bracket_class = refl

pub semicolon_class : class_of_mark (mark_text mark.Semicolon) ≡ class.Semicolon
unfolding class_of_mark mark_text
semicolon_class = refl

-- ---- pairs

module _ (s e : List ℕ) where
  pub name_not_same : (t u : Token) → IsOperandWordAsLocal s e t u → IsSameToken s e t u → ⊥
  name_not_same t u named same = by (sym named.word ∙ same.kind ∙ named.other)
    where
      by : kind.Word ≡ kind.Local → ⊥
      by e = cc

  pub name_not_cased : (t u : Token) → IsOperandWordAsLocal s e t u → IsSameWordButForCase s e t u → ⊥
  name_not_cased t u named cased = by (sym cased.other ∙ named.other)
    where
      by : kind.Word ≡ kind.Local → ⊥
      by e = cc

  name_on_path : (p : TokenPlace) (before c : TokenClass) (next : TokenClass) (t u : Token) → IsOperandWordAsLocal s e t u → role_of p before c (text_of s t) next ≡ role.Path → IsName s e t u
  name_on_path p before c next t u named is = record { named = named; alone = by named.operand }
    where
      by : (is_some (operand_partner English (text_of s t)) ≡ true) ⊎ (is_some (operand_partner German (text_of s t)) ≡ true)
          → (is_some (operand_partner English (text_of s t)) ≡ true) ⊎ ((drop (letter_count (text_of s t)) (text_of s t) ≡ []) × (look_up flags (text_of s t) ≡ None))
      by (inl german) = inl german
      by (inr english) = let alone = alone_on_path before (text_of s t) next (path_role p before c (text_of s t) next is) english in inr (alone.bare, alone.flag)

  known_like : (p : TokenPlace) (before c next : TokenClass) (t u : Token) → ComesBackInRole s e (role_of p before c (text_of s t) next) t u → Like s e t u
  known_like p before c next t u h = by (role_of p before c (text_of s t) next) refl h
    where
      by : (r : Role) → role_of p before c (text_of s t) next ≡ r → ComesBackInRole s e r t u → Like s e t u
      by role.Instruction is (inl k) = inl k
      by role.Instruction is (inr k) = inr (inl k)
      by role.Operand is (inl k) = inl k
      by role.Operand is (inr k) = inr (inl k.0)
      by role.Path is (inl k) = inl k
      by role.Path is (inr k) = inr (inr (name_on_path p before c next t u k is))
      by role.Stays is k = inl k

  -- pairs come back as the walk says
  abbrev pub Walk : TokenPlace → TokenClass → List (Pair s e) → Type 0
  Walk p before [] = Unit {0}
  Walk p before (q ∷ qs) =
      ComesBackInRole s e (role_of p before (token_class_in s q.left) (text_of s q.left) (next_class s (lefts qs))) q.left q.right
      × Walk (token_place_behind p before (token_class_in s q.left) (text_of s q.left) (next_class s (lefts qs))) (token_class_in s q.left) qs

  pub record IsZipped (p : TokenPlace) (before : TokenClass) (ts us : List Token) : Type 0 where
    pub pairs : List (Pair s e)
    pub left : lefts pairs ≡ ts
    pub right : rights pairs ≡ us
    pub walk : Walk p before pairs

  pub zipped : (p : TokenPlace) (before : TokenClass) (ts us : List Token) → AreTokensAlike s e p before ts us → IsZipped p before ts us
  zipped p before [] [] h = record { pairs = []; left = refl; right = refl; walk = tt }
  zipped p before [] (u ∷ us) h = absurd h
  zipped p before (t ∷ ts) [] h = absurd h
  zipped p before (t ∷ ts) (u ∷ us) h =
      let z = zipped (token_place_behind p before (token_class_in s t) (text_of s t) (next_class s ts)) (token_class_in s t) ts us h.1 in record {
        pairs = record { left = t; right = u; like = known_like p before (token_class_in s t) (next_class s ts) t u h.0 } ∷ z.pairs;
        left = ap (λ (l : List Token). t ∷ l) z.left;
        right = ap (λ (l : List Token). u ∷ l) z.right;
        walk = subst (λ (l : List Token). ComesBackInRole s e (role_of p before (token_class_in s t) (text_of s t) (next_class s l)) t u
            × Walk (token_place_behind p before (token_class_in s t) (text_of s t) (next_class s l)) (token_class_in s t) z.pairs) (sym z.left) (h.0, z.walk);
      }

  -- ---- classes

  pub class_mark : (t : Token) (m : Mark) → is_mark s t m ≡ true → token_class_in s t ≡ class_of_mark (mark_text m)
  unfolding token_class is_mark
  class_mark t m is = ap (λ (k : TokenKind). token_class k (text_of s t)) (is_of_mark s e t m is) ∙ marked (second (has_kind t kind.Mark) (str_eq_ignore_ascii_case (text_of s t) (mark_text m)) is)
    where
      marked : Same (text_of s t) (mark_text m) → class_of_mark (text_of s t) ≡ class_of_mark (mark_text m)
      marked same = same_mark (text_of s t) (mark_text m) same

  pub number_class : (t : Token) → has_kind t kind.Number ≡ true → token_class_in s t ≡ class.Number
  unfolding token_class has_kind
  number_class t is = ap (λ (k : TokenKind). token_class k (text_of s t)) (by t.kind is)
    where
      by : (k : TokenKind) → nat_eq (kind_rank k) 1 ≡ true → k ≡ kind.Number
      by kind.Number is = refl
      by kind.Word is = absurd (false≢true is)
      by kind.Mark is = absurd (false≢true is)
      by kind.Quoted is = absurd (false≢true is)
      by kind.Local is = absurd (false≢true is)
      by kind.Characters is = absurd (false≢true is)
      by kind.Based is = absurd (false≢true is)
      by kind.NumberLiteral is = absurd (false≢true is)
      by kind.TimeLiteral is = absurd (false≢true is)
      by kind.SignWord is = absurd (false≢true is)
      by kind.Attribute is = absurd (false≢true is)
      by kind.Title is = absurd (false≢true is)

  -- a token that opens no number
  pub opens_none : (q : Pair s e) → opens_number (token_class_in s q.left) ≡ false → OpensNone q
  opens_none q none = (by_number (has_kind q.left kind.Number) refl, by_bracket (is_mark s q.left mark.OpenBracket) refl)
    where
      by_number : (b : Bool) → has_kind q.left kind.Number ≡ b → b ≡ false
      by_number true is = absurd (false≢true (sym none ∙ ap opens_number (number_class q.left is)))
      by_number false is = refl

      by_bracket : (b : Bool) → is_mark s q.left mark.OpenBracket ≡ b → b ≡ false
      by_bracket true is = absurd (false≢true (sym none ∙ ap opens_number (class_mark q.left mark.OpenBracket is ∙ bracket_class)))
      by_bracket false is = refl

  -- ---- the tokens behind an instruction word

  -- a `;`
  abbrev pub is_end : TokenClass → Bool
  is_end class.Semicolon = true
  is_end _ = false

  cascade : (a b c d f g h : Bool) → is_end (if a then class.Dot else (if b then class.Assign else (if c then class.Colon else (if d then class.OpenBracket
      else (if f then class.OpenParen else (if g then class.CloseParen else (if h then class.Pointer else class.Other))))))) ≡ false
  cascade true b c d f g h = refl
  cascade false true c d f g h = refl
  cascade false false true d f g h = refl
  cascade false false false true f g h = refl
  cascade false false false false true g h = refl
  cascade false false false false false true h = refl
  cascade false false false false false false true = refl
  cascade false false false false false false false = refl

  no_end_mark : (a : List ℕ) → is_mark_text a mark.Semicolon ≡ false → is_end (class_of_mark a) ≡ false
  unfolding class_of_mark
  no_end_mark a isnt = rw isnt
      (cascade (is_mark_text a mark.Dot) (is_mark_text a mark.Assign) (is_mark_text a mark.Colon) (is_mark_text a mark.OpenBracket) (is_mark_text a mark.OpenParen) (is_mark_text a mark.CloseParen) (is_mark_text a mark.Pointer))

  no_end_kind : (t : Token) (k : TokenKind) → t.kind ≡ k → is_mark s t mark.Semicolon ≡ false → is_end (token_class k (text_of s t)) ≡ false
  unfolding token_class is_mark
  no_end_kind t kind.Mark e isnt = no_end_mark (text_of s t) (by (has_kind t kind.Mark) (of_kind t kind.Mark kind.Mark e) isnt)
    where
      by : (b : Bool) → b ≡ true → (b && str_eq_ignore_ascii_case (text_of s t) (mark_text mark.Semicolon)) ≡ false → is_mark_text (text_of s t) mark.Semicolon ≡ false
      by true is isnt = isnt
      by false is isnt = absurd (false≢true is)
  no_end_kind t _ e isnt = refl

  pub no_end : (t : Token) → is_mark s t mark.Semicolon ≡ false → is_end (token_class_in s t) ≡ false
  no_end t isnt = no_end_kind t t.kind refl isnt

  -- behind the instruction word of a statement
  abbrev pub in_statement : TokenPlace → Bool
  in_statement place.Jump = true
  in_statement place.Instruction = true
  in_statement place.Closing = true
  in_statement place.Path = true
  in_statement place.Inside = true
  in_statement _ = false

  at_end : (b : Bool) → (b || true) ≡ true
  at_end true = refl
  at_end false = refl

  stays_in : (p : TokenPlace) (before : TokenClass) (text : List ℕ) (next : TokenClass) → is_component_word before next ≡ true → role_in p before text next ≡ role.Stays
  unfolding role_in
  stays_in p before text next is = rw is refl

  component_stays : (p : TokenPlace) (before c : TokenClass) (text : List ℕ) (next : TokenClass) → in_statement p ≡ true → is_component_word before next ≡ true
      → role_of p before c text next ≡ role.Stays
  unfolding role_of role_of_word
  component_stays place.Jump before class.Word text next inside is = refl
  component_stays place.Instruction before class.Word text next inside is = stays_in place.Instruction before text next is
  component_stays place.Closing before class.Word text next inside is = stays_in place.Closing before text next is
  component_stays place.Path before class.Word text next inside is = stays_in place.Path before text next is
  component_stays place.Inside before class.Word text next inside is = stays_in place.Inside before text next is
  component_stays place.Outside before class.Word text next inside is = absurd (false≢true inside)
  component_stays place.Head before class.Word text next inside is = absurd (false≢true inside)
  component_stays place.Start before class.Word text next inside is = absurd (false≢true inside)
  component_stays place.Label before class.Word text next inside is = absurd (false≢true inside)
  component_stays place.Labelled before class.Word text next inside is = absurd (false≢true inside)
  component_stays p before _ text next inside is = refl

  no_instruction_in : (p : TokenPlace) (before : TokenClass) (text : List ℕ) (next : TokenClass) → role_in p before text next ≡ role.Instruction → ⊥
  unfolding role_in
  no_instruction_in p before text next is = by (is_component_word before next) (is_operand_place before text next) (opens_path p before) is
    where
      by : (a b c : Bool) → (if a then role.Stays else (if b then role.Operand else (if c then role.Path else role.Stays))) ≡ role.Instruction → ⊥
      by true b c e = cc
      by false true c e = cc
      by false false true e = cc
      by false false false e = cc

  no_instruction : (p : TokenPlace) (before c : TokenClass) (text : List ℕ) (next : TokenClass) → in_statement p ≡ true → role_of p before c text next ≡ role.Instruction → ⊥
  unfolding role_of role_of_word
  no_instruction place.Jump before class.Word text next inside is = cc
  no_instruction place.Instruction before class.Word text next inside is = no_instruction_in place.Instruction before text next is
  no_instruction place.Closing before class.Word text next inside is = no_instruction_in place.Closing before text next is
  no_instruction place.Path before class.Word text next inside is = no_instruction_in place.Path before text next is
  no_instruction place.Inside before class.Word text next inside is = no_instruction_in place.Inside before text next is
  no_instruction place.Outside before class.Word text next inside is = absurd (false≢true inside)
  no_instruction place.Head before class.Word text next inside is = absurd (false≢true inside)
  no_instruction place.Start before class.Word text next inside is = absurd (false≢true inside)
  no_instruction place.Label before class.Word text next inside is = absurd (false≢true inside)
  no_instruction place.Labelled before class.Word text next inside is = absurd (false≢true inside)
  no_instruction p before _ text next inside is = cc

  opening_stays : (c : TokenClass) → is_end c ≡ false → in_statement (place_behind_opening c) ≡ true
  opening_stays class.Semicolon e = absurd (false≢true (sym e))
  opening_stays class.OpenParen e = refl
  opening_stays _ e = refl

  part_stays : (p : TokenPlace) (c : TokenClass) → in_statement p ≡ true → is_end c ≡ false → in_statement (place_behind_part p c) ≡ true
  part_stays p class.Semicolon h e = absurd (false≢true (sym e))
  part_stays p _ h e = h

  closing_stays : (text : List ℕ) → in_statement (place_behind_closing text) ≡ true
  unfolding place_behind_closing
  closing_stays text = by (is_word_in_list zone_words text)
    where
      by : (b : Bool) → in_statement (if b then place.Path else place.Inside) ≡ true
      by true = refl
      by false = refl

  sign_stays : (p : TokenPlace) (c : TokenClass) → in_statement p ≡ true → is_end c ≡ false → in_statement (place_behind_sign p c) ≡ true
  unfolding place_behind_sign
  sign_stays place.Jump c inside e = part_stays place.Jump c refl e
  sign_stays place.Instruction c inside e = opening_stays c e
  sign_stays place.Closing c inside e = part_stays place.Inside c refl e
  sign_stays place.Path c inside e = part_stays place.Inside c refl e
  sign_stays place.Inside c inside e = part_stays place.Inside c refl e
  sign_stays place.Outside c inside e = absurd (false≢true inside)
  sign_stays place.Head c inside e = absurd (false≢true inside)
  sign_stays place.Start c inside e = absurd (false≢true inside)
  sign_stays place.Label c inside e = absurd (false≢true inside)
  sign_stays place.Labelled c inside e = absurd (false≢true inside)

  word_stays : (p : TokenPlace) (before : TokenClass) (text : List ℕ) (next : TokenClass) → in_statement p ≡ true → in_statement (place_behind_word p before text next) ≡ true
  unfolding place_behind_word
  word_stays place.Jump before text next inside = refl
  word_stays place.Instruction before text next inside = refl
  word_stays place.Closing before text next inside = closing_stays text
  word_stays place.Path before text next inside = refl
  word_stays place.Inside before text next inside = refl
  word_stays place.Outside before text next inside = absurd (false≢true inside)
  word_stays place.Head before text next inside = absurd (false≢true inside)
  word_stays place.Start before text next inside = absurd (false≢true inside)
  word_stays place.Label before text next inside = absurd (false≢true inside)
  word_stays place.Labelled before text next inside = absurd (false≢true inside)

  pub stays : (p : TokenPlace) (before c : TokenClass) (text : List ℕ) (next : TokenClass) → in_statement p ≡ true → is_end c ≡ false
      → in_statement (token_place_behind p before c text next) ≡ true
  unfolding token_place_behind
  stays p before class.Word text next inside e = word_stays p before text next inside
  stays p before class.Number text next inside e = sign_stays p class.Number inside e
  stays p before class.Note text next inside e = sign_stays p class.Note inside e
  stays p before class.Semicolon text next inside e = sign_stays p class.Semicolon inside e
  stays p before class.Dot text next inside e = sign_stays p class.Dot inside e
  stays p before class.Assign text next inside e = sign_stays p class.Assign inside e
  stays p before class.Colon text next inside e = sign_stays p class.Colon inside e
  stays p before class.OpenBracket text next inside e = sign_stays p class.OpenBracket inside e
  stays p before class.OpenParen text next inside e = sign_stays p class.OpenParen inside e
  stays p before class.CloseParen text next inside e = sign_stays p class.CloseParen inside e
  stays p before class.Pointer text next inside e = sign_stays p class.Pointer inside e
  stays p before class.Other text next inside e = sign_stays p class.Other inside e

  -- none of the first n tokens is a `;`
  abbrev pub NoEnd : ℕ → List (Pair s e) → Type 0
  NoEnd zero ps = Unit {0}
  NoEnd (suc n) [] = Unit {0}
  NoEnd (suc n) (q ∷ qs) = (is_mark s q.left mark.Semicolon ≡ false) × NoEnd n qs

  known : (p : TokenPlace) (before c next : TokenClass) (q : Pair s e) → in_statement p ≡ true → ComesBackInRole s e (role_of p before c (text_of s q.left) next) q.left q.right → IsKnown q
  known p before c next q inside h = by (role_of p before c (text_of s q.left) next) refl h
    where
      by : (r : Role) → role_of p before c (text_of s q.left) next ≡ r → ComesBackInRole s e r q.left q.right → IsKnown q
      by role.Instruction is k = absurd (no_instruction p before c (text_of s q.left) next inside is)
      by role.Operand is (inl k) = inl k
      by role.Operand is (inr k) = inr (inl k)
      by role.Path is (inl k) = inl k
      by role.Path is (inr k) = inr (inr (name_on_path p before c next q.left q.right k is))
      by role.Stays is k = inl k

  -- a name stands where a path begins
  pub name_opens_none : (p : TokenPlace) (before c next : TokenClass) (q : Pair s e) → ComesBackInRole s e (role_of p before c (text_of s q.left) next) q.left q.right
      → IsNamedPair q → is_operand English (text_of s q.left) ≡ false → opens_number next ≡ false
  name_opens_none p before c next q h named isnt = by (role_of p before c (text_of s q.left) next) refl h
    where
      english : (is_some (operand_partner English (text_of s q.left)) ≡ true) ⊎ (is_some (operand_partner German (text_of s q.left)) ≡ true) → is_operand German (text_of s q.left) ≡ true
      english (inl there) = absurd (false≢true (sym isnt ∙ there))
      english (inr is) = is

      by : (r : Role) → role_of p before c (text_of s q.left) next ≡ r → ComesBackInRole s e r q.left q.right → opens_number next ≡ false
      by role.Instruction is (inl k) = absurd (name_not_same q.left q.right named.named k)
      by role.Instruction is (inr k) = absurd (name_not_cased q.left q.right named.named k)
      by role.Operand is (inl k) = absurd (name_not_same q.left q.right named.named k)
      by role.Operand is (inr k) = absurd (name_not_cased q.left q.right named.named k.0)
      by role.Path is k = (alone_on_path before (text_of s q.left) next (path_role p before c (text_of s q.left) next is) (english named.named.operand)).opens
      by role.Stays is k = absurd (name_not_same q.left q.right named.named k)

  component_dot : (before next : TokenClass) → before ≡ class.Dot → is_component_word before next ≡ true
  component_dot before next e = ap (λ (c : TokenClass). is_component_word c next) e

  component_assign : (before next : TokenClass) → next ≡ class.Assign → is_component_word before next ≡ true
  component_assign before next e = ap (λ (c : TokenClass). is_component_word before c) e ∙ at_end (is_dot before)

  joined : (p : TokenPlace) (before : TokenClass) (q r : Pair s e) (rs : List (Pair s e)) → in_statement p ≡ true → is_mark s q.left mark.Semicolon ≡ false → Walk p before (q ∷ r ∷ rs) → SideBySide q r
  joined p before q r rs inside isnt h = record {
    dotted = λ is. subst (λ (x : Role). ComesBackInRole s e x r.left r.right)
        (component_stays (token_place_behind p before (token_class_in s q.left) (text_of s q.left) (token_class_in s r.left)) (token_class_in s q.left) (token_class_in s r.left) (text_of s r.left) (next_class s (lefts rs))
        (stays p before (token_class_in s q.left) (text_of s q.left) (token_class_in s r.left) inside (no_end q.left isnt))
        (component_dot (token_class_in s q.left) (next_class s (lefts rs)) (class_mark q.left mark.Dot is ∙ dot_class))) h.1.0;
    assigned = λ is. subst (λ (x : Role). ComesBackInRole s e x q.left q.right)
        (component_stays p before (token_class_in s q.left) (text_of s q.left) (token_class_in s r.left) inside
        (component_assign before (token_class_in s r.left) (class_mark r.left mark.Assign is ∙ assign_class))) h.0;
    apart = λ named none. opens_none r (name_opens_none p before (token_class_in s q.left) (token_class_in s r.left) q h.0 named none);
  }

  pub fits_until : (n : ℕ) (p : TokenPlace) (before : TokenClass) (ps : List (Pair s e)) → in_statement p ≡ true → NoEnd n ps → Walk p before ps → Fits s e (take n ps)
  fits_until zero p before ps inside none h = tt
  fits_until (suc n) p before [] inside none h = tt
  fits_until (suc n) p before (q ∷ qs) inside none h = (
    known p before (token_class_in s q.left) (next_class s (lefts qs)) q inside h.0,
    beside n qs none h,
    fits_until n (token_place_behind p before (token_class_in s q.left) (text_of s q.left) (next_class s (lefts qs))) (token_class_in s q.left) qs
        (stays p before (token_class_in s q.left) (text_of s q.left) (next_class s (lefts qs)) inside (no_end q.left none.0)) none.1 h.1,
  )
    where
      beside : (n : ℕ) (qs : List (Pair s e)) → NoEnd (suc n) (q ∷ qs) → Walk p before (q ∷ qs) → JoinedTo q (take n qs)
      beside zero qs none h = tt
      beside (suc n) [] none h = tt
      beside (suc n) (r ∷ rs) none h = joined p before q r rs inside none.0 h

  -- the walk within a statement comes to its `;`, and behind it to the start of the next
  pub walked : (n : ℕ) (p : TokenPlace) (before : TokenClass) (ps : List (Pair s e)) (q : Pair s e) (qs : List (Pair s e)) → in_statement p ≡ true → NoEnd n ps → Walk p before ps
      → drop n ps ≡ q ∷ qs → is_mark s q.left mark.Semicolon ≡ true → Walk place.Start class.Semicolon qs
  unfolding token_place_behind place_behind_sign
  walked zero p before [] q qs inside none h there is = absurd cc
  walked zero p before (r ∷ rs) q qs inside none h there is =
      ended (subst (λ (l : List (Pair s e)). Walk p before l) there h)
    where
      here : token_class_in s q.left ≡ class.Semicolon
      here = class_mark q.left mark.Semicolon is ∙ semicolon_class

      ends : (p : TokenPlace) → in_statement p ≡ true → place_behind_sign p class.Semicolon ≡ place.Start
      ends place.Jump inside = refl
      ends place.Instruction inside = refl
      ends place.Closing inside = refl
      ends place.Path inside = refl
      ends place.Inside inside = refl
      ends place.Outside inside = absurd (false≢true inside)
      ends place.Head inside = absurd (false≢true inside)
      ends place.Start inside = absurd (false≢true inside)
      ends place.Label inside = absurd (false≢true inside)
      ends place.Labelled inside = absurd (false≢true inside)

      ended : Walk p before (q ∷ qs) → Walk place.Start class.Semicolon qs
      ended h = subst (λ (c : TokenClass). Walk place.Start c qs) here
          (subst (λ (x : TokenPlace). Walk x (token_class_in s q.left) qs)
          (ap (λ (c : TokenClass). token_place_behind p before c (text_of s q.left) (next_class s (lefts qs))) here ∙ ends p inside) h.1)
  walked (suc n) p before [] q qs inside none h there is = absurd cc
  walked (suc n) p before (r ∷ rs) q qs inside none h there is =
      walked n (token_place_behind p before (token_class_in s r.left) (text_of s r.left) (next_class s (lefts rs))) (token_class_in s r.left) rs q qs
      (stays p before (token_class_in s r.left) (text_of s r.left) (next_class s (lefts rs)) inside (no_end r.left none.0)) none.1 h.1 there is
