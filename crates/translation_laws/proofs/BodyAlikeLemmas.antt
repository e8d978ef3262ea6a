-- A clause of a body, of tokens that are alike.
use Rattle.std.proofs.Common.{ℕ, zero, suc, ◌≡◌, Bool, false, List, [], ◌∷◌, take, Option, Some, None, refl, sym, ◌∙◌, ap, subst, inl, inr}
use Rattle.std.specs.Prelude.{is_some}
use Rattle.std.specs.Option.{option_map, option_or, option_and_then}
use Rattle.std.proofs.lemmas.Option.{same_Some}
use Rattle.plc_base.specs.declared.blocks.BlockKind.{BlockKind}
use Rattle.stl_lexer.specs.declared.kinds.Token.{Token}
use Rattle.stl_lexer.specs.declared.kinds.TokenKind.{TokenKind}
use Rattle.stl_lexer.specs.declared.kinds.TokenKind.TheVariants as kind
use Rattle.stl_lexer.specs.Tokens.{text_of}
use Rattle.stl_ast.specs.declared.blocks.Setting.{Setting}
use Rattle.stl_ast.specs.declared.declarations.Declaration.{Declaration}
use Rattle.stl_ast.specs.declared.statements.Statement.{Statement}
use Rattle.stl_symbols.specs.declared.languages.Language.TheVariants.{English}
use Rattle.stl_parser.specs.declared.clauses.Clause.{Clause}
use Rattle.stl_parser.specs.declared.clauses.Clause.TheVariants as clause
use Rattle.stl_parser.specs.declared.places.ClausePlace.{ClausePlace}
use Rattle.stl_parser.specs.declared.places.ClausePlace.TheVariants as place
use Rattle.stl_parser.specs.declared.tables.HeadWord.{HeadWord}
use Rattle.stl_parser.specs.declared.tables.Keyword.{Keyword}
use Rattle.stl_parser.specs.Clauses.{clause_at, clause_by_kind, declaration_clause, free_word_clause, inside_clause, keyword_clause, other_clause, plain_clause, setting_clause, statement_clause, structure_clause, word_clause}
use Rattle.stl_parser.specs.Declarations.{declaration_of, declared_name_at}
use Rattle.stl_parser.specs.Frame.{next_place, next_place_in_body}
use Rattle.stl_parser.specs.Tables.{head_words, keywords, look_up}
use Rattle.stl_parser.specs.Terminals.{has_kind}
use Rattle.de_mnemonics.specs.Words.{operand_partner}
use Rattle.translation_laws.proofs.AgreeAlikeLemmas.{Equal, Follows, IsNamedPair, OpensNone, Pair, agree_chained, lefts, rights, some_follows, something, then_mapped}
use Rattle.translation_laws.proofs.LikeAlikeLemmas.{line_like}
use Rattle.translation_laws.proofs.TypeAlikeLemmas.{declaration_agrees}
use Rattle.translation_laws.proofs.ClauseAlikeLemmas.{keyword_agrees, note_rests, structure_clause_agrees}
use Rattle.translation_laws.proofs.FormAlikeLemmas.{IsFront, front_kinds, front_text}
use Rattle.translation_laws.proofs.StatementAlikeLemmas.{AreStatement, statement_follows}
use Rattle.translation_laws.proofs.StepAlikeLemmas.{IsCut, IsFound, agree_gives, none_too, or_gives, semicolon_gives}
use Rattle.translation_laws.proofs.LookUpLemmas.{same_looked_up}

-- no number stands behind a name
abbrev pub ApartFrom : {s e : List ℕ} → Pair s e → List (Pair s e) → Type 0
ApartFrom p [] = Unit {0}
ApartFrom {s = s} p (q ∷ qs) = IsNamedPair p → is_some (operand_partner English (text_of s p.left)) ≡ false → OpensNone q

abbrev pub Weak : (s e : List ℕ) → List (Pair s e) → Type 0
Weak s e [] = Unit {0}
Weak s e (p ∷ ps) = ApartFrom p ps × Weak s e ps

pub weak_closed : (s e : List ℕ) (p : Pair s e) (ps : List (Pair s e)) → Weak s e (p ∷ ps) → Weak s e ps
weak_closed s e p ps h = h.1

pub weak_apart : (s e : List ℕ) (p q : Pair s e) (ps : List (Pair s e)) → Weak s e (p ∷ q ∷ ps) → IsNamedPair p
    → is_some (operand_partner English (text_of s p.left)) ≡ false → OpensNone q
weak_apart s e p q ps h named isnt = h.0 named isnt

weak_take : (s e : List ℕ) (n : ℕ) (ps : List (Pair s e)) → Weak s e ps → Weak s e (take n ps)
weak_take s e zero ps h = tt
weak_take s e (suc n) [] h = tt
weak_take s e (suc n) (p ∷ ps) h = (beside n ps h.0, weak_take s e n ps h.1)
  where
    beside : (n : ℕ) (ps : List (Pair s e)) → ApartFrom p ps → ApartFrom p (take n ps)
    beside zero ps h = tt
    beside (suc n) [] h = tt
    beside (suc n) (q ∷ qs) h = h

-- the first token is a word in both, or in none
abbrev FirstKind : (s e : List ℕ) → List (Pair s e) → Type 0
FirstKind s e [] = Unit {0}
FirstKind s e (p ∷ ps) = has_kind p.left kind.Word ≡ has_kind p.right kind.Word

kind_take : (s e : List ℕ) (n : ℕ) (ps : List (Pair s e)) → FirstKind s e ps → FirstKind s e (take n ps)
kind_take s e zero ps h = tt
kind_take s e (suc n) [] h = tt
kind_take s e (suc n) (p ∷ ps) h = h

-- ---- what may stand in a body

no_declares : (k : BlockKind) (next : ClausePlace) (c : Clause) (d : Declaration) → clause.Declares d ≡ c → next_place (place.Body k) c ≡ Some next → ⊥
unfolding next_place next_place_in_body
no_declares k next c d e may = by (ap (next_place (place.Body k)) e ∙ may)
  where
    by : None ≡ Some next → ⊥
    by e = cc

no_sets : (k : BlockKind) (next : ClausePlace) (c : Clause) (z : Setting) → clause.Sets z ≡ c → next_place (place.Body k) c ≡ Some next → ⊥
unfolding next_place next_place_in_body
no_sets k next c z e may = by (ap (next_place (place.Body k)) e ∙ may)
  where
    by : None ≡ Some next → ⊥
    by e = cc

declaration_stays_out : (s : List ℕ) (k : BlockKind) (next : ClausePlace) (ts : List Token) (x : Clause × Bool) → next_place (place.Body k) x.0 ≡ Some next
    → declaration_clause s (place.Body k) ts ≡ Some x → ⊥
unfolding declaration_clause
declaration_stays_out s k next ts x may is = by (declaration_of s 0 ts) is
  where
    by : (o : Option Declaration) → option_and_then (λ d. Some (clause.Declares d, false)) o ≡ Some x → ⊥
    by None is = cc
    by (Some d) is = no_declares k next x.0 d (ap (λ (z : Clause × Bool). z.0) (same_Some (clause.Declares d, false) x is)) may

setting_stays_out : (s : List ℕ) (k : BlockKind) (next : ClausePlace) (line : ℕ) (ts : List Token) (x : Clause × Bool) → next_place (place.Body k) x.0 ≡ Some next
    → setting_clause s line ts ≡ Some x → ⊥
unfolding setting_clause
setting_stays_out s k next line ts x may is = by _ is
  where
    by : (o : Option Setting) → option_map (λ z. (clause.Sets z, false)) o ≡ Some x → ⊥
    by None is = cc
    by (Some z) is = no_sets k next x.0 z (ap (λ (y : Clause × Bool). y.0) (same_Some (clause.Sets z, false) x is)) may

structure_stays_out : (s : List ℕ) (k : BlockKind) (next : ClausePlace) (ts : List Token) (r : Clause × List Token × Bool) → next_place (place.Body k) r.0 ≡ Some next
    → structure_clause s (place.Body k) ts ≡ Some r → ⊥
unfolding structure_clause
structure_stays_out s k next ts r may is = by _ is
  where
    by : (o : Option (Declaration × List Token)) → option_map (λ d. (clause.Declares d.0, d.1, false)) o ≡ Some r → ⊥
    by None is = cc
    by (Some d) is = no_declares k next r.0 d.0 (ap (λ (z : Clause × List Token × Bool). z.0) (same_Some (clause.Declares d.0, d.1, false) r is)) may

free_body : (s : List ℕ) (k : BlockKind) (t : Token) (ts us : List Token) (o : Option HeadWord) → free_word_clause s (place.Body k) t ts us o ≡ plain_clause s (place.Body k) t.line us
unfolding free_word_clause other_clause
free_body s k t ts us None = refl
free_body s k t ts us (Some w) = refl

module _ (s e : List ℕ) where
  declarations_none : (k : BlockKind) (ps : List (Pair s e)) → Weak s e ps → FirstKind s e ps → declaration_clause s (place.Body k) (lefts ps) ≡ None
      → declaration_clause e (place.Body k) (rights ps) ≡ None
  unfolding declaration_clause declaration_of declared_name_at
  declarations_none k [] h kinds none = refl
  declarations_none k (p ∷ ps) h kinds none =
      none_too {R = λ x y. Unit {0}} _ _ (agree_chained _ _ (declaration_agrees s e (Weak s e) (weak_closed s e) (weak_apart s e) 0 p ps h kinds) (λ d f same. something tt)) none

  statement_found : (line : ℕ) (ps : List (Pair s e)) → AreStatement s e ps → Follows Equal (statement_clause s line (lefts ps)) (statement_clause e line (rights ps))
  unfolding statement_clause
  statement_found line ps h = then_mapped _ _ (statement_follows s e line ps h) (λ x y same. ap (λ (r : Statement × Bool). (clause.Runs r.0, r.1)) same)

  runs_only : (line : ℕ) (ts : List Token) (x : Clause × Bool) → statement_clause s line ts ≡ Some x → (y : Statement) × (x.0 ≡ clause.Runs y)
  unfolding statement_clause
  runs_only line ts x is = by _ is
    where
      by : (o : Option (Statement × Bool)) → option_map (λ r. (clause.Runs r.0, r.1)) o ≡ Some x → (y : Statement) × (x.0 ≡ clause.Runs y)
      by None is = absurd cc
      by (Some r) is = (r.0, sym (ap (λ (z : Clause × Bool). z.0) (same_Some (clause.Runs r.0, r.1) x is)))

  inside_body : (k : BlockKind) (next : ClausePlace) (line : ℕ) (ps : List (Pair s e)) → Weak s e ps → FirstKind s e ps → (x : Clause × Bool)
      → ((y : Statement) → x.0 ≡ clause.Runs y → AreStatement s e ps)
      → next_place (place.Body k) x.0 ≡ Some next → inside_clause s (place.Body k) line (lefts ps) ≡ Some x → inside_clause e (place.Body k) line (rights ps) ≡ Some x
  unfolding inside_clause
  inside_body k next line ps weak kinds x h may is =
      by (declaration_clause s (place.Body k) (lefts ps)) refl (statement_clause s line (lefts ps)) refl is
    where
      by : (a : Option (Clause × Bool)) → declaration_clause s (place.Body k) (lefts ps) ≡ a → (b : Option (Clause × Bool)) → statement_clause s line (lefts ps) ≡ b
          → option_or a (option_or b (setting_clause s line (lefts ps))) ≡ Some x
          → option_or (declaration_clause e (place.Body k) (rights ps)) (option_or (statement_clause e line (rights ps)) (setting_clause e line (rights ps))) ≡ Some x
      by (Some d) first b second is = absurd (declaration_stays_out s k next (lefts ps) x may (first ∙ is))
      by None first None second is = absurd (setting_stays_out s k next line (lefts ps) x may is)
      by None first (Some y) second is =
          let runs = runs_only line (lefts ps) x (second ∙ is) in
          rw (declarations_none k ps weak kinds first, some_follows x (statement_found line ps (h runs.0 runs.1)) (second ∙ is)) refl

  module _ (F : List (Pair s e) → Type 0) (behind : (p : Pair s e) (ps : List (Pair s e)) → F (p ∷ ps) → F ps)
      (beside : (p q : Pair s e) (ps : List (Pair s e)) → F (p ∷ q ∷ ps) → IsNamedPair p → is_some (operand_partner English (text_of s p.left)) ≡ false → OpensNone q) where
    -- the tokens of a statement at the front are alike
    abbrev pub StatementTokens : List (Pair s e) → Clause × List Token × Bool → Type 0
    StatementTokens ps r = (n : ℕ) (cut : IsCut s e n ps) (y : Statement) → r.0 ≡ clause.Runs y → AreStatement s e (take n ps)

    plain_body : (k : BlockKind) (next : ClausePlace) (line : ℕ) (p : Pair s e) (ps : List (Pair s e)) → F (p ∷ ps) → Weak s e (p ∷ ps)
        → has_kind p.left kind.Word ≡ has_kind p.right kind.Word → (r : Clause × List Token × Bool) → StatementTokens (p ∷ ps) r → next_place (place.Body k) r.0 ≡ Some next
        → plain_clause s (place.Body k) line (p.left ∷ lefts ps) ≡ Some r → IsFound s e F behind beside r (plain_clause e (place.Body k) line (p.right ∷ rights ps))
    unfolding plain_clause
    plain_body k next line p ps h weak kinds r stated may is =
        or_gives s e F behind beside r _ _ _ _ (λ there. absurd (structure_stays_out s k next (p.left ∷ lefts ps) r may there))
        (none_too _ _ (structure_clause_agrees s e F behind beside (place.Body k) p ps h kinds))
        (semicolon_gives s e F behind beside (place.Body k) line (p ∷ ps) h r
        (λ n cut rest x first at. inside_body k next line (take n (p ∷ ps)) (weak_take s e n (p ∷ ps) weak) (kind_take s e n (p ∷ ps) kinds) x
        (λ y runs. stated n cut y (sym first ∙ runs)) (ap (next_place (place.Body k)) first ∙ may) at)) is

    word_body : (k : BlockKind) (next : ClausePlace) (p : Pair s e) (ps : List (Pair s e)) → F (p ∷ ps) → Weak s e (p ∷ ps)
        → IsFront s e p → (r : Clause × List Token × Bool) → StatementTokens (p ∷ ps) r → next_place (place.Body k) r.0 ≡ Some next → (o : Option Keyword)
        → word_clause s (place.Body k) p.left (lefts ps) (p.left ∷ lefts ps) o ≡ Some r
        → IsFound s e F behind beside r (word_clause e (place.Body k) p.right (rights ps) (p.right ∷ rights ps) o)
    unfolding word_clause
    word_body k next p ps h weak front r stated may (Some w) is =
        subst (λ (l : ℕ). IsFound s e F behind beside r (keyword_clause e (place.Body k) l w (rights ps))) (line_like s e p)
        (agree_gives s e F behind beside r _ _ (keyword_agrees s e F behind beside (place.Body k) p.left.line w ps (behind p ps h)) is)
    word_body k next p ps h weak front r stated may None is =
        rw (free_body e k p.right (rights ps) (p.right ∷ rights ps) (look_up head_words (text_of e p.right)))
        (subst (λ (l : ℕ). IsFound s e F behind beside r (plain_clause e (place.Body k) l (p.right ∷ rights ps))) (line_like s e p)
        (plain_body k next p.left.line p ps h weak (front_kinds s e p front) r stated may
        (sym (free_body s k p.left (lefts ps) (p.left ∷ lefts ps) (look_up head_words (text_of s p.left))) ∙ is)))

    kind_body : (k : BlockKind) (next : ClausePlace) (p : Pair s e) (ps : List (Pair s e)) → F (p ∷ ps) → Weak s e (p ∷ ps)
        → IsFront s e p → (r : Clause × List Token × Bool) → StatementTokens (p ∷ ps) r → next_place (place.Body k) r.0 ≡ Some next → (j : TokenKind)
        → clause_by_kind s (place.Body k) p.left (lefts ps) (p.left ∷ lefts ps) j ≡ Some r
        → IsFound s e F behind beside r (clause_by_kind e (place.Body k) p.right (rights ps) (p.right ∷ rights ps) j)
    unfolding clause_by_kind other_clause
    kind_body k next p ps h weak front r stated may kind.Word is =
        rw (sym (same_looked_up keywords (text_of s p.left) (text_of e p.right) (front_text s e p front)))
        (word_body k next p ps h weak front r stated may (look_up keywords (text_of s p.left)) is)
    kind_body k next p ps h weak front r stated may kind.Attribute is =
        agree_gives s e F behind beside r _ _ (something (refl, note_rests s e F behind beside (place.Body k) ps (behind p ps h), refl)) is
    kind_body k next p ps h weak front r stated may kind.Title is =
        agree_gives s e F behind beside r _ _ (something (refl, note_rests s e F behind beside (place.Body k) ps (behind p ps h), refl)) is
    kind_body k next p ps h weak front r stated may _ is =
        subst (λ (l : ℕ). IsFound s e F behind beside r (plain_clause e (place.Body k) l (p.right ∷ rights ps))) (line_like s e p)
        (plain_body k next p.left.line p ps h weak (front_kinds s e p front) r stated may is)

    front_kind : (p : Pair s e) → IsFront s e p → p.left.kind ≡ p.right.kind
    front_kind p (inl same) = same.kind
    front_kind p (inr cased) = cased.word ∙ sym cased.other

    pub body_gives : (k : BlockKind) (next : ClausePlace) (p : Pair s e) (ps : List (Pair s e)) → F (p ∷ ps) → Weak s e (p ∷ ps)
        → IsFront s e p → (r : Clause × List Token × Bool) → StatementTokens (p ∷ ps) r → next_place (place.Body k) r.0 ≡ Some next
        → clause_at s (place.Body k) (p.left ∷ lefts ps) ≡ Some r → IsFound s e F behind beside r (clause_at e (place.Body k) (p.right ∷ rights ps))
    unfolding clause_at
    body_gives k next p ps h weak front r stated may is =
        subst (λ (j : TokenKind). IsFound s e F behind beside r (clause_by_kind e (place.Body k) p.right (rights ps) (p.right ∷ rights ps) j)) (front_kind p front)
        (kind_body k next p ps h weak front r stated may p.left.kind is)
