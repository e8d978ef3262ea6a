-- A clause of tokens that are alike, and what follows it.
use Rattle.std.proofs.Common.{arith, ℕ, zero, suc, ◌+◌, ◌≡◌, Bool, true, false, not, ◌&&◌, List, [], ◌∷◌, length, take, drop, cond, Option, Some, None, refl, sym, ◌∙◌, ap, subst, inl}
use Rattle.std.specs.Prelude.{is_some, nat_lt, if◌then◌else◌}
use Rattle.std.specs.Option.{option_map, option_or, option_and_then}
use Rattle.std.specs.List.{prefix_len}
use Rattle.std.proofs.lemmas.Bool.Decides.{nat_tests}
use Rattle.std.proofs.lemmas.Option.{same_Some}
use Rattle.stl_lexer.specs.declared.kinds.Token.{Token}
use Rattle.stl_lexer.specs.declared.kinds.TokenKind.{TokenKind}
use Rattle.stl_lexer.specs.declared.kinds.TokenKind.TheVariants as kind
use Rattle.stl_lexer.specs.declared.marks.Mark.TheVariants as mark
use Rattle.stl_lexer.specs.Tokens.{text_of}
use Rattle.stl_ast.specs.declared.blocks.PathStep.{PathStep}
use Rattle.stl_ast.specs.declared.blocks.PathStep.TheVariants as step
use Rattle.stl_ast.specs.declared.blocks.Setting.{Setting}
use Rattle.stl_ast.specs.declared.declarations.Declaration.{Declaration}
use Rattle.stl_ast.specs.Declarations.{is_elementary}
use Rattle.stl_ast.specs.declared.statements.Statement.{Statement}
use Rattle.stl_symbols.specs.declared.languages.Language.TheVariants.{English}
use Rattle.stl_parser.specs.declared.clauses.Clause.{Clause}
use Rattle.stl_parser.specs.declared.clauses.Clause.TheVariants as clause
use Rattle.stl_parser.specs.declared.places.ClausePlace.{ClausePlace}
use Rattle.stl_parser.specs.declared.tables.HeadWord.{HeadWord}
use Rattle.stl_parser.specs.declared.tables.OperandSyntax.{OperandSyntax}
use Rattle.stl_parser.specs.declared.tables.OperandSyntax.TheVariants as operand_syntax
use Rattle.stl_parser.specs.declared.tables.Keyword.{Keyword}
use Rattle.stl_parser.specs.Clauses.{base_block_at, behind_note, clause_at, clause_by_kind, declaration_clause, first_step, free_word_clause, head_word_clause, in_data_head, inside_clause, is_outer, keyword_clause, level_at, other_clause, plain_clause, semicolon_clause, semicolon_place, setting_clause, setting_of, statement_clause, structure_clause, takes_parameters, until_semicolon, value_behind, word_clause}
use Rattle.stl_parser.specs.Declarations.{declaration_of, declared_name_at}
use Rattle.stl_parser.specs.Operands.{steps_from}
use Rattle.stl_parser.specs.Statements.{statement_of}
use Rattle.stl_parser.specs.Tables.{head_words, keywords, look_up}
use Rattle.stl_parser.specs.Terminals.{is_mark}
use Rattle.de_mnemonics.specs.Words.{operand_partner}
use Rattle.translation_laws.proofs.AgreeAlikeLemmas.{Agree, Equal, Follows, IsNamedPair, IsSamePair, OpensNone, Pair, Rests, counts, equal, goes_on, if_same, lefts, rights, same_option, something}
use Rattle.translation_laws.proofs.LikeAlikeLemmas.{itself, mark_like, same_kind}
use Rattle.translation_laws.proofs.NumberAlikeLemmas.{literal_same}
use Rattle.translation_laws.proofs.OperandAlikeLemmas.{Fits, JoinedTo, apart, closed, steps_agree}
use Rattle.translation_laws.proofs.StatementAlikeLemmas.{AreInstruction, AreStatement, IsFirst, Labels, lefts_drop, lefts_take, rights_drop, rights_take, statement_follows}
use Rattle.translation_laws.proofs.TypeAlikeLemmas.{declaration_agrees}
use Rattle.translation_laws.proofs.ClauseAlikeLemmas.{NamedRead, NoteKind, SameRead, based_agrees, head_word_agrees, keyword_agrees, note_rests, structure_clause_agrees}
use Rattle.translation_laws.proofs.WalkAlikeLemmas.{NoEnd, name_not_same}

-- ---- the first `;`

one_more : (n : ℕ) → 1 + n ≡ suc n
one_more n = omega arith

one_behind : (n : ℕ) → n + 1 ≡ suc n
one_behind n = omega arith

-- the first n tokens are none, and the next is one
pub record IsCut (s e : List ℕ) (n : ℕ) (ps : List (Pair s e)) : Type 0 where
  pub none : NoEnd s e n ps
  pub end : Pair s e
  pub rest : List (Pair s e)
  pub at : drop n ps ≡ end ∷ rest
  pub is : is_mark s end.left mark.Semicolon ≡ true

module _ (s e : List ℕ) where
  counts_same : (ps : List (Pair s e)) → prefix_len (λ t. not (is_mark s t mark.Semicolon)) (lefts ps) ≡ prefix_len (λ t. not (is_mark e t mark.Semicolon)) (rights ps)
  counts_same [] = refl
  counts_same (p ∷ ps) = rw (mark_like s e p mark.Semicolon, counts_same ps) refl

  pub place_same : (ps : List (Pair s e)) → semicolon_place s (lefts ps) ≡ semicolon_place e (rights ps)
  unfolding semicolon_place
  place_same ps = rw (counts_same ps, counts ps) refl

  cut_from : (ps : List (Pair s e)) (n : ℕ) → prefix_len (λ t. not (is_mark s t mark.Semicolon)) (lefts ps) ≡ n → nat_lt n (length (lefts ps)) ≡ true → IsCut s e n ps
  cut_from [] n is within = absurd (grind (arith, nat_tests))
  cut_from (p ∷ ps) n is within = by (is_mark s p.left mark.Semicolon) refl (λ short. cut_from ps (prefix_len (λ t. not (is_mark s t mark.Semicolon)) (lefts ps)) refl short) is
    where
      shorter : (m : ℕ) → n ≡ suc m → nat_lt n (suc (length (lefts ps))) ≡ true → nat_lt m (length (lefts ps)) ≡ true
      shorter m same within = grind (arith, nat_tests)

      further : (m : ℕ) → n ≡ suc m → is_mark s p.left mark.Semicolon ≡ false → IsCut s e m ps → IsCut s e n (p ∷ ps)
      further m same isnt cut = subst (λ (k : ℕ). IsCut s e k (p ∷ ps)) (sym same)
          (record { none = (isnt, cut.none); end = cut.end; rest = cut.rest; at = cut.at; is = cut.is })

      by : (b : Bool) → is_mark s p.left mark.Semicolon ≡ b
          → ((short : nat_lt (prefix_len (λ t. not (is_mark s t mark.Semicolon)) (lefts ps)) (length (lefts ps)) ≡ true) → IsCut s e (prefix_len (λ t. not (is_mark s t mark.Semicolon)) (lefts ps)) ps)
          → cond (not b) (1 + prefix_len (λ t. not (is_mark s t mark.Semicolon)) (lefts ps)) 0 ≡ n → IsCut s e n (p ∷ ps)
      by true is more at = subst (λ (k : ℕ). IsCut s e k (p ∷ ps)) at (record { none = tt; end = p; rest = ps; at = refl; is = is })
      by false isnt more at =
          let m = prefix_len (λ t. not (is_mark s t mark.Semicolon)) (lefts ps) in
          let same = sym at ∙ one_more m in
          further m same isnt (more (shorter m same within))

  pub cut_at : (ps : List (Pair s e)) (n : ℕ) → semicolon_place s (lefts ps) ≡ Some n → IsCut s e n ps
  unfolding semicolon_place
  cut_at ps n found = by (prefix_len (λ t. not (is_mark s t mark.Semicolon)) (lefts ps)) refl (nat_lt (prefix_len (λ t. not (is_mark s t mark.Semicolon)) (lefts ps)) (length (lefts ps))) refl found
    where
      by : (m : ℕ) → prefix_len (λ t. not (is_mark s t mark.Semicolon)) (lefts ps) ≡ m → (b : Bool) → nat_lt m (length (lefts ps)) ≡ b
          → cond b (Some m) None ≡ Some n → IsCut s e n ps
      by m is true within found = subst (λ (k : ℕ). IsCut s e k ps) (same_Some m n found) (cut_from ps m is within)
      by m is false within found = absurd cc

  pub next_drop : (n : ℕ) (ps : List (Pair s e)) (q : Pair s e) (qs : List (Pair s e)) → drop n ps ≡ q ∷ qs → drop (suc n) ps ≡ qs
  next_drop zero [] q qs there = absurd cc
  next_drop zero (p ∷ ps) q qs there = ap (drop 1) there
  next_drop (suc n) [] q qs there = absurd cc
  next_drop (suc n) (p ∷ ps) q qs there = next_drop n ps q qs there

  -- the tokens before it, and those behind it
  pub cut_left : (ps : List (Pair s e)) (n : ℕ) → semicolon_place s (lefts ps) ≡ Some n → (cut : IsCut s e n ps) → until_semicolon s (lefts ps) ≡ Some (lefts (take n ps), lefts cut.rest)
  unfolding until_semicolon
  cut_left ps n found cut =
      rw (found, one_behind n, lefts_take n ps, sym (lefts_drop (suc n) ps), next_drop n ps cut.end cut.rest cut.at) refl

  pub cut_right : (ps : List (Pair s e)) (n : ℕ) → semicolon_place s (lefts ps) ≡ Some n → (cut : IsCut s e n ps) → until_semicolon e (rights ps) ≡ Some (rights (take n ps), rights cut.rest)
  unfolding until_semicolon
  cut_right ps n found cut =
      rw (sym (place_same ps), found, one_behind n, rights_take n ps, sym (rights_drop (suc n) ps), next_drop n ps cut.end cut.rest cut.at) refl

  -- ---- tokens that are the same

  abbrev pub AllSame : List (Pair s e) → Type 0
  AllSame [] = Unit {0}
  AllSame (p ∷ ps) = IsSamePair p × AllSame ps

  fits_same : (ps : List (Pair s e)) → AllSame ps → Fits s e ps
  fits_same [] h = tt
  fits_same (p ∷ ps) h = (inl h.0, joined ps h.1, fits_same ps h.1)
    where
      joined : (ps : List (Pair s e)) → AllSame ps → JoinedTo p ps
      joined [] h = tt
      joined (q ∷ qs) k = record {
        dotted = λ is. k.0;
        assigned = λ is. h.0;
        apart = λ named isnt. absurd (name_not_same s e p.left p.right named.named h.0);
      }

  labels_same : (f : OperandSyntax) (ps : List (Pair s e)) → AllSame ps → Labels s e f ps
  labels_same operand_syntax.Jump [] h = tt
  labels_same operand_syntax.Jump (p ∷ ps) h = h.0
  labels_same operand_syntax.Operand ps h = tt
  labels_same operand_syntax.Open ps h = tt
  labels_same operand_syntax.BlockCall ps h = tt
  labels_same operand_syntax.Call ps h = tt

  first_same : (p : Pair s e) (ps : List (Pair s e)) → IsSamePair p → AllSame ps → IsFirst s e p ps
  first_same p ps same h = record {
    text = itself (text_of s p.left) (text_of e p.right) same.text;
    labels = λ m found. labels_same m.1 ps h;
    fits = fits_same ps h;
  }

  instruction_same : (ps : List (Pair s e)) → AllSame ps → AreInstruction s e ps
  instruction_same [] h = tt
  instruction_same (p ∷ ps) h = first_same p ps h.0 h.1

  pub statement_same : (ps : List (Pair s e)) → AllSame ps → AreStatement s e ps
  statement_same [] h = tt
  statement_same (p ∷ []) h = first_same p [] h.0 tt
  statement_same (p ∷ q ∷ ps) h = record {
    kinds = same_kind s e p.left p.right kind.Word h.0;
    label = λ colon word. (h.0, instruction_same ps h.1.1);
    bare = λ isnt. first_same p (q ∷ ps) h.0 h.1;
  }

both_ways : {X : Type 0} (o o' : Option X) → Follows Equal o o' → Follows Equal o' o → o ≡ o'
both_ways None None a b = refl
both_ways (Some x) (Some y) a b = ap Some a.follows
both_ways None (Some y) a b = absurd b.follows
both_ways (Some x) None a b = absurd a.follows

equal_where : {X : Type 0} {P : Type 0} (o o' : Option X) → Agree (λ x y. P → x ≡ y) o o' → P → o ≡ o'
equal_where None None a h = refl
equal_where (Some x) (Some y) a h = ap Some (a.agree h)
equal_where None (Some y) a h = absurd a.agree
equal_where (Some x) None a h = absurd a.agree

pub none_too : {X : Type 0} {R : X → X → Type 0} (o o' : Option X) → Agree R o o' → o ≡ None → o' ≡ None
none_too None None a e = refl
none_too (Some x) (Some y) a e = absurd cc
none_too None (Some y) a e = absurd a.agree
none_too (Some x) None a e = absurd a.agree

module _ (s e : List ℕ) where
  -- the same the other way round
  flip : (p : Pair s e) → IsSamePair p → Pair e s
  flip p same = record { left = p.right; right = p.left; like = inl (record { kind = sym same.kind; line = sym same.line; text = sym same.text }) }

  flips : (ps : List (Pair s e)) → AllSame s e ps → List (Pair e s)
  flips [] h = []
  flips (p ∷ ps) h = flip p h.0 ∷ flips ps h.1

  flips_left : (ps : List (Pair s e)) (h : AllSame s e ps) → lefts (flips ps h) ≡ rights ps
  unfolding flips flip
  flips_left [] h = refl
  flips_left (p ∷ ps) h = ap (λ (l : List Token). p.right ∷ l) (flips_left ps h.1)

  flips_right : (ps : List (Pair s e)) (h : AllSame s e ps) → rights (flips ps h) ≡ lefts ps
  unfolding flips flip
  flips_right [] h = refl
  flips_right (p ∷ ps) h = ap (λ (l : List Token). p.left ∷ l) (flips_right ps h.1)

  flips_same : (ps : List (Pair s e)) (h : AllSame s e ps) → AllSame e s (flips ps h)
  unfolding flips flip
  flips_same [] h = tt
  flips_same (p ∷ ps) h = (record { kind = sym h.0.kind; line = sym h.0.line; text = sym h.0.text }, flips_same ps h.1)

  statement_equal : (line : ℕ) (ps : List (Pair s e)) → AllSame s e ps → statement_of s line (lefts ps) ≡ statement_of e line (rights ps)
  statement_equal line ps h =
      both_ways (statement_of s line (lefts ps)) (statement_of e line (rights ps)) (statement_follows s e line ps (statement_same s e ps h)) back
    where
      back : Follows Equal (statement_of e line (rights ps)) (statement_of s line (lefts ps))
      back = rw (sym (flips_left ps h), sym (flips_right ps h)) (statement_follows e s line (flips ps h) (statement_same e s (flips ps h) (flips_same ps h)))

  -- ---- a clause before its `;`

  step_same : (p : Pair s e) → IsSamePair p → (k : TokenKind) → first_step s p.left k ≡ first_step e p.right k
  unfolding first_step
  step_same p same kind.Word = ap (λ t. Some (step.Named t)) same.text
  step_same p same kind.Local = ap (λ t. Some (step.Named (drop 1 t))) same.text
  step_same p same _ = refl

  value_same : (line : ℕ) (path : List PathStep) (ps : List (Pair s e)) → Fits s e ps → value_behind s line path (lefts ps) ≡ value_behind e line path (rights ps)
  unfolding value_behind
  value_same line path [] h = refl
  value_same line path (p ∷ ps) h =
      if_same (mark_like s e p mark.Assign)
      (λ is. ap (option_map (λ v. record { line = line; path = path; value = v })) (literal_same s e (Fits s e) (closed s e) (apart s e) ps h.2)) (λ isnt. refl)

  path_value : (line : ℕ) (first : PathStep) (ps : List (Pair s e)) → Fits s e ps
      → option_and_then (λ r. value_behind s line r.0 r.1) (steps_from s (first ∷ []) (lefts ps)) ≡ option_and_then (λ r. value_behind e line r.0 r.1) (steps_from e (first ∷ []) (rights ps))
  path_value line first ps h = same_option _ _ (goes_on _ _ (steps_agree s e (first ∷ []) ps h) (λ path qs k. equal _ _ (value_same line path qs k)))

  setting_same : (line : ℕ) (ps : List (Pair s e)) → AllSame s e ps → setting_of s line (lefts ps) ≡ setting_of e line (rights ps)
  unfolding setting_of
  setting_same line [] h = refl
  setting_same line (p ∷ ps) h =
      rw (step_same p h.0 p.left.kind ∙ ap (first_step e p.right) h.0.kind) (by (first_step e p.right p.right.kind))
    where
      by : (o : Option PathStep)
          → option_and_then (λ first. option_and_then (λ r. value_behind s line r.0 r.1) (steps_from s (first ∷ []) (lefts ps))) o
          ≡ option_and_then (λ first. option_and_then (λ r. value_behind e line r.0 r.1) (steps_from e (first ∷ []) (rights ps))) o
      by None = refl
      by (Some first) = path_value line first ps (fits_same s e ps h.1)

  declaration_equal : (level : ℕ) (ps : List (Pair s e)) → AllSame s e ps → declaration_of s level (lefts ps) ≡ declaration_of e level (rights ps)
  unfolding declaration_of declared_name_at
  declaration_equal level [] h = refl
  declaration_equal level (p ∷ ps) h =
      equal_where _ _ (declaration_agrees s e (Fits s e) (closed s e) (apart s e) level p ps (fits_same s e (p ∷ ps) h) (same_kind s e p.left p.right kind.Word h.0)) h.0

  inside_equal : (cp : ClausePlace) (line : ℕ) (ps : List (Pair s e)) → AllSame s e ps → inside_clause s cp line (lefts ps) ≡ inside_clause e cp line (rights ps)
  unfolding inside_clause declaration_clause statement_clause setting_clause
  inside_equal cp line ps h = rw (declaration_equal (level_at cp) ps h, statement_equal line ps h, setting_same line ps h) refl

  module _ (F : List (Pair s e) → Type 0) (behind : (p : Pair s e) (ps : List (Pair s e)) → F (p ∷ ps) → F ps)
      (beside : (p q : Pair s e) (ps : List (Pair s e)) → F (p ∷ q ∷ ps) → IsNamedPair p → is_some (operand_partner English (text_of s p.left)) ≡ false → OpensNone q) where
    dropped : (n : ℕ) (ps : List (Pair s e)) → F ps → F (drop n ps)
    dropped zero ps h = h
    dropped (suc n) [] h = h
    dropped (suc n) (p ∷ ps) h = dropped n ps (behind p ps h)

    -- the same clause is found, with what follows it
    pub record IsFound (r : Clause × List Token × Bool) (o : Option (Clause × List Token × Bool)) : Type 0 where
      pub left : List Token
      pub found : o ≡ Some (r.0, left, r.2)
      pub rests : Rests s e F r.1 left

    -- behind the first `;`
    pub cut_fits : (n : ℕ) (ps : List (Pair s e)) → F ps → (cut : IsCut s e n ps) → F cut.rest
    cut_fits n ps h cut = subst F (next_drop s e n ps cut.end cut.rest cut.at) (dropped (suc n) ps h)

    -- a clause before its `;`, with what follows that
    abbrev joined : List ℕ → ClausePlace → ℕ → List Token × List Token → Option (Clause × List Token × Bool)
    joined source cp line cut = option_map (λ c. (c.0, cut.1, c.1)) (inside_clause source cp line cut.0)

    abbrev read : Clause → List Token → Bool → Option (Clause × List Token × Bool)
    read c us a = Some (c, us, a)

    read_is : (c d : Clause) (us : List Token) (a b : Bool) → c ≡ d → a ≡ b → read c us a ≡ read d us b
    read_is c d us a b k l = rw (k, l) refl

    cut_none : (ts : List Token) → semicolon_place s ts ≡ None → until_semicolon s ts ≡ None
    unfolding until_semicolon
    cut_none ts none = rw none refl

    pub no_read : (r : Clause × List Token × Bool) → None ≡ Some r → ⊥
    no_read r e = cc

    -- a clause that runs to its `;` is the same where that before the `;` is
    pub semicolon_gives : (cp : ClausePlace) (line : ℕ) (ps : List (Pair s e)) → F ps → (r : Clause × List Token × Bool)
        → ((n : ℕ) (cut : IsCut s e n ps) → r.1 ≡ lefts cut.rest → (x : Clause × Bool) → x.0 ≡ r.0 → inside_clause s cp line (lefts (take n ps)) ≡ Some x
        → inside_clause e cp line (rights (take n ps)) ≡ Some x)
        → semicolon_clause s cp line (lefts ps) ≡ Some r → IsFound r (semicolon_clause e cp line (rights ps))
    unfolding semicolon_clause
    semicolon_gives cp line ps h r same found = by_place (semicolon_place s (lefts ps)) refl
      where
        by_inside : (n : ℕ) (cut : IsCut s e n ps) → until_semicolon e (rights ps) ≡ Some (rights (take n ps), rights cut.rest)
            → (o : Option (Clause × Bool)) → inside_clause s cp line (lefts (take n ps)) ≡ o
            → option_map (λ c. (c.0, lefts cut.rest, c.1)) o ≡ Some r
            → IsFound r (option_and_then (joined e cp line) (until_semicolon e (rights ps)))
        by_inside n cut right None at found = absurd (no_read r found)
        by_inside n cut right (Some x) at found =
            let is = same_Some (x.0, lefts cut.rest, x.1) r found in
            let first = ap (λ (z : Clause × List Token × Bool). z.0) is in
            let behind = ap (λ (z : Clause × List Token × Bool). z.1) is in
            let long = ap (λ (z : Clause × List Token × Bool). z.2) is in
            record {
              left = rights cut.rest;
              found = ap (option_and_then (joined e cp line)) right ∙ ap (option_map (λ c. (c.0, rights cut.rest, c.1))) (same n cut (sym behind) x first at)
                  ∙ read_is x.0 r.0 (rights cut.rest) x.1 r.2 first long;
              rests = record { pairs = cut.rest; fits = cut_fits n ps h cut; left = behind; right = refl };
            }

        by_place : (o : Option ℕ) → semicolon_place s (lefts ps) ≡ o → IsFound r (option_and_then (joined e cp line) (until_semicolon e (rights ps)))
        by_place None none = absurd (no_read r (sym (ap (option_and_then (joined s cp line)) (cut_none (lefts ps) none)) ∙ found))
        by_place (Some n) is =
            let cut = cut_at s e ps n is in
            by_inside n cut (cut_right s e ps n is cut) (inside_clause s cp line (lefts (take n ps))) refl
            (sym (ap (option_and_then (joined s cp line)) (cut_left s e ps n is cut)) ∙ found)

    -- ---- readings one behind the other

    pub or_gives : (r : Clause × List Token × Bool) (a b c d : Option (Clause × List Token × Bool)) → (a ≡ Some r → IsFound r c) → (a ≡ None → c ≡ None) → (b ≡ Some r → IsFound r d)
        → option_or a b ≡ Some r → IsFound r (option_or c d)
    or_gives r (Some x) b c d h k l is = let f = h is in record { left = f.left; found = ap (λ o. option_or o d) f.found; rests = f.rests }
    or_gives r None b c d h k l is = let f = l is in record { left = f.left; found = ap (λ o. option_or o d) (k refl) ∙ f.found; rests = f.rests }

    read_found : (r : Clause × List Token × Bool) (x y : Clause × List Token × Bool) → x.0 ≡ y.0 → Rests s e F x.1 y.1 → x.2 ≡ y.2 → x ≡ r → IsFound r (Some y)
    read_found r x y a b c is = record {
      left = y.1;
      found = read_is y.0 r.0 y.1 y.2 r.2 (sym a ∙ ap (λ (z : Clause × List Token × Bool). z.0) is) (sym c ∙ ap (λ (z : Clause × List Token × Bool). z.2) is);
      rests = subst (λ (l : List Token). Rests s e F l y.1) (ap (λ (z : Clause × List Token × Bool). z.1) is) b;
    }

    pub agree_gives : (r : Clause × List Token × Bool) (o o' : Option (Clause × List Token × Bool)) → Agree (SameRead s e F behind beside) o o' → o ≡ Some r → IsFound r o'
    agree_gives r (Some x) (Some y) a is = read_found r x y a.agree.0 a.agree.1 a.agree.2 (same_Some x r is)
    agree_gives r None o' a is = absurd (no_read r is)
    agree_gives r (Some x) None a is = absurd a.agree

    named_gives : (p : Pair s e) (r : Clause × List Token × Bool) (o o' : Option (Clause × List Token × Bool)) → IsSamePair p → Agree (NamedRead s e F behind beside p) o o' → o ≡ Some r → IsFound r o'
    named_gives p r (Some x) (Some y) same a is = read_found r x y (a.agree.0 same) a.agree.1 a.agree.2 (same_Some x r is)
    named_gives p r None o' same a is = absurd (no_read r is)
    named_gives p r (Some x) None same a is = absurd a.agree

    -- ---- outside of bodies

    -- the tokens of such a clause are the same up to its `;`
    abbrev pub SameToSemicolon : ClausePlace → ℕ → List (Pair s e) → Clause × List Token × Bool → Type 0
    SameToSemicolon cp line ps r = (n : ℕ) (cut : IsCut s e n ps) → r.1 ≡ lefts cut.rest → (x : Clause × Bool) → x.0 ≡ r.0 → inside_clause s cp line (lefts (take n ps)) ≡ Some x → AllSame s e (take n ps)

    plain_gives : (cp : ClausePlace) (line : ℕ) (p : Pair s e) (ps : List (Pair s e)) → F (p ∷ ps) → IsSamePair p → (r : Clause × List Token × Bool) → SameToSemicolon cp line (p ∷ ps) r
        → plain_clause s cp line (p.left ∷ lefts ps) ≡ Some r → IsFound r (plain_clause e cp line (p.right ∷ rights ps))
    unfolding plain_clause
    plain_gives cp line p ps h same r held is =
        or_gives r _ _ _ _ (named_gives p r _ _ same agrees) (none_too _ _ agrees)
        (semicolon_gives cp line (p ∷ ps) h r (λ n cut behind x first at. sym (inside_equal cp line (take n (p ∷ ps)) (held n cut behind x first at)) ∙ at)) is
      where
        agrees : Agree (NamedRead s e F behind beside p) (structure_clause s cp (p.left ∷ lefts ps)) (structure_clause e cp (p.right ∷ rights ps))
        agrees = structure_clause_agrees s e F behind beside cp p ps h (same_kind s e p.left p.right kind.Word same)

    other_gives : (cp : ClausePlace) (line : ℕ) (p : Pair s e) (ps : List (Pair s e)) → F (p ∷ ps) → IsSamePair p → (r : Clause × List Token × Bool) → SameToSemicolon cp line (p ∷ ps) r
        → other_clause s cp line (p.left ∷ lefts ps) ≡ Some r → IsFound r (other_clause e cp line (p.right ∷ rights ps))
    unfolding other_clause
    other_gives cp line p ps h same r held = by (in_data_head cp)
      where
        by : (b : Bool) → (if b then option_or (base_block_at s (p.left ∷ lefts ps)) (plain_clause s cp line (p.left ∷ lefts ps)) else plain_clause s cp line (p.left ∷ lefts ps)) ≡ Some r
            → IsFound r (if b then option_or (base_block_at e (p.right ∷ rights ps)) (plain_clause e cp line (p.right ∷ rights ps)) else plain_clause e cp line (p.right ∷ rights ps))
        by true is = or_gives r _ _ _ _ (agree_gives r _ _ (based_agrees s e F behind beside (p ∷ ps) h)) (none_too _ _ (based_agrees s e F behind beside (p ∷ ps) h))
            (plain_gives cp line p ps h same r held) is
        by false is = plain_gives cp line p ps h same r held is

    note_only : (cp : ClausePlace) (w : HeadWord) (ts : List Token) (r : Clause × List Token × Bool) → head_word_clause s cp w ts ≡ Some r → r.0 ≡ clause.Note
    unfolding head_word_clause
    note_only cp w ts r is = by _ is
      where
        by : (o : Option (List Token)) → option_map (λ behind. (clause.Note, behind_note s cp behind, false)) o ≡ Some r → r.0 ≡ clause.Note
        by None is = absurd (no_read r is)
        by (Some ts) is = sym (ap (λ (z : Clause × List Token × Bool). z.0) (same_Some (clause.Note, behind_note s cp ts, false) r is))

    free_gives : (cp : ClausePlace) (p : Pair s e) (ps : List (Pair s e)) → F (p ∷ ps) → IsSamePair p → (r : Clause × List Token × Bool) → SameToSemicolon cp p.left.line (p ∷ ps) r
        → (r.0 ≡ clause.Note → NoteKind s e F behind beside ps) → (o : Option HeadWord)
        → free_word_clause s cp p.left (lefts ps) (p.left ∷ lefts ps) o ≡ Some r → IsFound r (free_word_clause e cp p.right (rights ps) (p.right ∷ rights ps) o)
    unfolding free_word_clause
    free_gives cp p ps h same r held note None is =
        subst (λ (l : ℕ). IsFound r (other_clause e cp l (p.right ∷ rights ps))) same.line (other_gives cp p.left.line p ps h same r held is)
    free_gives cp p ps h same r held note (Some w) is = by (is_outer cp) is
      where
        by : (b : Bool) → (if b then head_word_clause s cp w (lefts ps) else other_clause s cp p.left.line (p.left ∷ lefts ps)) ≡ Some r
            → IsFound r (if b then head_word_clause e cp w (rights ps) else other_clause e cp p.right.line (p.right ∷ rights ps))
        by true is = agree_gives r _ _ (head_word_agrees s e F behind beside cp w ps (behind p ps h) (note (note_only cp w (lefts ps) r is))) is
        by false is = subst (λ (l : ℕ). IsFound r (other_clause e cp l (p.right ∷ rights ps))) same.line (other_gives cp p.left.line p ps h same r held is)

    word_gives : (cp : ClausePlace) (p : Pair s e) (ps : List (Pair s e)) → F (p ∷ ps) → IsSamePair p → (r : Clause × List Token × Bool) → SameToSemicolon cp p.left.line (p ∷ ps) r
        → (r.0 ≡ clause.Note → NoteKind s e F behind beside ps) → (o : Option Keyword)
        → word_clause s cp p.left (lefts ps) (p.left ∷ lefts ps) o ≡ Some r → IsFound r (word_clause e cp p.right (rights ps) (p.right ∷ rights ps) o)
    unfolding word_clause
    word_gives cp p ps h same r held note (Some k) is =
        subst (λ (l : ℕ). IsFound r (keyword_clause e cp l k (rights ps))) same.line
        (agree_gives r _ _ (keyword_agrees s e F behind beside cp p.left.line k ps (behind p ps h)) is)
    word_gives cp p ps h same r held note None is =
        subst (λ (w : List ℕ). IsFound r (free_word_clause e cp p.right (rights ps) (p.right ∷ rights ps) (look_up head_words w))) same.text
        (free_gives cp p ps h same r held note (look_up head_words (text_of s p.left)) is)

    kind_gives : (cp : ClausePlace) (p : Pair s e) (ps : List (Pair s e)) → F (p ∷ ps) → IsSamePair p → (r : Clause × List Token × Bool) → SameToSemicolon cp p.left.line (p ∷ ps) r
        → (r.0 ≡ clause.Note → NoteKind s e F behind beside ps) → (k : TokenKind)
        → clause_by_kind s cp p.left (lefts ps) (p.left ∷ lefts ps) k ≡ Some r → IsFound r (clause_by_kind e cp p.right (rights ps) (p.right ∷ rights ps) k)
    unfolding clause_by_kind
    kind_gives cp p ps h same r held note kind.Word is =
        subst (λ (w : List ℕ). IsFound r (word_clause e cp p.right (rights ps) (p.right ∷ rights ps) (look_up keywords w))) same.text
        (word_gives cp p ps h same r held note (look_up keywords (text_of s p.left)) is)
    kind_gives cp p ps h same r held note kind.Attribute is =
        agree_gives r _ _ (something (refl, note_rests s e F behind beside cp ps (behind p ps h), refl)) is
    kind_gives cp p ps h same r held note kind.Title is =
        agree_gives r _ _ (something (refl, note_rests s e F behind beside cp ps (behind p ps h), refl)) is
    kind_gives cp p ps h same r held note _ is =
        subst (λ (l : ℕ). IsFound r (other_clause e cp l (p.right ∷ rights ps))) same.line (other_gives cp p.left.line p ps h same r held is)

    pub clause_gives : (cp : ClausePlace) (p : Pair s e) (ps : List (Pair s e)) → F (p ∷ ps) → IsSamePair p → (r : Clause × List Token × Bool) → SameToSemicolon cp p.left.line (p ∷ ps) r
        → (r.0 ≡ clause.Note → NoteKind s e F behind beside ps)
        → clause_at s cp (p.left ∷ lefts ps) ≡ Some r → IsFound r (clause_at e cp (p.right ∷ rights ps))
    unfolding clause_at
    clause_gives cp p ps h same r held note is =
        subst (λ (k : TokenKind). IsFound r (clause_by_kind e cp p.right (rights ps) (p.right ∷ rights ps) k)) same.kind
        (kind_gives cp p ps h same r held note p.left.kind is)

    -- no clause before a `;` begins a body
    pub inside_no_begin : (cp : ClausePlace) (line : ℕ) (ts : List Token) (x : Clause × Bool) → inside_clause s cp line ts ≡ Some x → x.0 ≡ clause.Begins → ⊥
    unfolding inside_clause declaration_clause statement_clause setting_clause
    inside_no_begin cp line ts x is begins = by (declaration_of s (level_at cp) ts) (statement_of s line ts) (setting_of s line ts) is
      where
        begin_is : (c : Clause) (l : Bool) → Some (c, l) ≡ Some x → c ≡ clause.Begins
        begin_is c l e = ap (λ (z : Clause × Bool). z.0) (same_Some (c, l) x e) ∙ begins

        later : (b : Option (Statement × Bool)) (c : Option Setting) → option_or (option_map (λ r. (clause.Runs r.0, r.1)) b) (option_map (λ s. (clause.Sets s, false)) c) ≡ Some x → ⊥
        later (Some y) c e = absurd (cc_runs y.0 (begin_is (clause.Runs y.0) y.1 e))
          where
            cc_runs : (y : Statement) → clause.Runs y ≡ clause.Begins → ⊥
            cc_runs y e = cc
        later None (Some z) e = cc_sets z (begin_is (clause.Sets z) false e)
          where
            cc_sets : (z : Setting) → clause.Sets z ≡ clause.Begins → ⊥
            cc_sets z e = cc
        later None None e = cc

        test : (t : Bool) (d : Declaration) (o : Option (Clause × Bool)) → (o ≡ Some x → ⊥) → option_or (if t then None else Some (clause.Declares d, false)) o ≡ Some x → ⊥
        test true d o more e = more e
        test false d o more e = cc_declares d (begin_is (clause.Declares d) false e)
          where
            cc_declares : (d : Declaration) → clause.Declares d ≡ clause.Begins → ⊥
            cc_declares d e = cc

        by : (a : Option Declaration) (b : Option (Statement × Bool)) (c : Option Setting)
            → option_or (option_and_then (λ d. if takes_parameters cp && not (is_elementary d) then None else Some (clause.Declares d, false)) a)
            (option_or (option_map (λ r. (clause.Runs r.0, r.1)) b) (option_map (λ s. (clause.Sets s, false)) c)) ≡ Some x → ⊥
        by None b c e = later b c e
        by (Some d) b c e = test (takes_parameters cp && not (is_elementary d)) d _ (later b c) e
