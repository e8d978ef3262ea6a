-- Tokens that are alike have the same tree.
use Rattle.std.proofs.Common.{arith, ℕ, zero, suc, ◌+◌, ◌≡◌, ◌≤◌, Bool, true, false, List, [], ◌∷◌, ◌++◌, length, take, drop, Option, Some, Ok, refl, sym, ◌∙◌, ap, subst}
use Rattle.std.specs.Prelude.{is_some}
use Rattle.std.proofs.lemmas.Bool.{false≢true}
use Rattle.std.proofs.lemmas.List.{length-append}
use Rattle.std.proofs.lemmas.Option.{same_Some}
use Rattle.std.proofs.Math.Seq.{drop-append_seam, take-append_seam}
use Rattle.plc_base.specs.Kinds.{is_code}
use Rattle.plc_base.specs.declared.blocks.BlockKind.{BlockKind}
use Rattle.plc_base.specs.declared.blocks.BlockKind.TheVariants as kinds
use Rattle.stl_lexer.specs.declared.kinds.Token.{Token}
use Rattle.stl_lexer.specs.declared.kinds.TokenKind.TheVariants as kind
use Rattle.stl_lexer.specs.declared.marks.Mark.TheVariants as mark
use Rattle.stl_lexer.specs.Tokens.{text_of}
use Rattle.stl_ast.specs.declared.statements.Statement.{Statement}
use Rattle.stl_symbols.specs.declared.languages.Language.TheVariants.{English}
use Rattle.stl_parser.specs.declared.clauses.Clause.{Clause}
use Rattle.stl_parser.specs.declared.clauses.Clause.TheVariants as clause
use Rattle.stl_parser.specs.declared.places.ClausePlace.{ClausePlace}
use Rattle.stl_parser.specs.declared.places.ClausePlace.TheVariants as clause_place
use Rattle.stl_parser.specs.Clauses.{clause_at, semicolon_place}
use Rattle.stl_parser.specs.Frame.{next_place, next_place_in_body}
use Rattle.stl_parser.specs.Source.{ReadsClauses, step_of}
use Rattle.stl_parser.specs.Terminals.{has_kind}
use Rattle.stl_parser.proofs.FrameLemmas.{right_clause}
use Rattle.de_mnemonics.specs.declared.classes.TokenClass.{TokenClass}
use Rattle.de_mnemonics.specs.declared.classes.TokenClass.TheVariants as class
use Rattle.de_mnemonics.specs.declared.places.TokenPlace.{TokenPlace}
use Rattle.de_mnemonics.specs.declared.places.TokenPlace.TheVariants as place
use Rattle.de_mnemonics.specs.declared.roles.Role.{Role}
use Rattle.de_mnemonics.specs.declared.roles.Role.TheVariants as role
use Rattle.translation_laws.specs.Alike.{ComesBackInRole, TreesAlike}
use Rattle.de_mnemonics.specs.Places.{token_place_behind, is_word_in_list, may_be_keyword, role_of}
use Rattle.de_mnemonics.specs.Tables.{block_end_words, network_words}
use Rattle.de_mnemonics.specs.Translation.{token_class_in, next_class}
use Rattle.de_mnemonics.specs.Words.{operand_partner}
use Rattle.translation_laws.proofs.AgreeAlikeLemmas.{IsNamedPair, IsSamePair, OpensNone, Pair, lefts, rights}
use Rattle.translation_laws.proofs.LikeAlikeLemmas.{same_kind}
use Rattle.translation_laws.proofs.BodyAlikeLemmas.{Weak, body_gives}
use Rattle.translation_laws.proofs.CalmLemmas.{AreCalm, IsCalmClause, calm_of, is_statement, last_class}
use Rattle.translation_laws.proofs.ClauseAlikeLemmas.{NoteKind}
use Rattle.translation_laws.proofs.FormAlikeLemmas.{AreFormed, tokens_formed, start_front, statement_from, statement_walked}
use Rattle.translation_laws.proofs.FrameAlikeLemmas.{Stands, is_body, is_note, is_quiet, place_after, quiet_place}
use Rattle.translation_laws.proofs.StatementAlikeLemmas.{lefts_drop, lefts_take}
use Rattle.translation_laws.proofs.StepAlikeLemmas.{AllSame, IsFound, clause_gives, cut_at, inside_no_begin, next_drop}
use Rattle.translation_laws.proofs.WalkAlikeLemmas.{Walk, class_mark, colon_class, name_opens_none, opens_none, zipped}

-- what is known of the walk and the clauses of one source
pub record Frame : Type 0 where
  pub calm : (s : List ℕ) (p : ClausePlace) (ts : List Token) (c : Clause) (rest : List Token) (long : Bool) → is_statement c ≡ false
      → clause_at s p ts ≡ Some (c, rest, long) → IsCalmClause s ts rest
  pub stands_quiet : (p : ClausePlace) (pl : TokenPlace) (b : TokenClass) → is_body p ≡ false → Stands p pl b → (is_quiet pl ≡ true) × (may_be_keyword b ≡ true)
  pub stands_after : (p : ClausePlace) (c : Clause) (next : ClausePlace) (pl : TokenPlace) (before after : TokenClass) → is_body p ≡ false → Stands p pl before
      → next_place p c ≡ Some next → may_be_keyword after ≡ true → Stands next (place_after c pl) after
  pub no_statement : (p : ClausePlace) (c : Clause) (next : ClausePlace) → is_body p ≡ false → next_place p c ≡ Some next → is_statement c ≡ false
  pub first_place : (s : List ℕ) (p : ClausePlace) (t : Token) (ts : List Token) (c : Clause) (rest : List Token) (long : Bool) (pl : TokenPlace) (before nc : TokenClass)
      → is_quiet pl ≡ true → may_be_keyword before ≡ true → is_statement c ≡ false → clause_at s p (t ∷ ts) ≡ Some (c, rest, long)
      → token_place_behind pl before (token_class_in s t) (text_of s t) nc ≡ place_after c pl
  pub begins_rest : (s : List ℕ) (p : ClausePlace) (t : Token) (ts rest : List Token) (long : Bool)
      → clause_at s p (t ∷ ts) ≡ Some (clause.Begins, rest, long) → rest ≡ ts
  pub calm_place : (pl : TokenPlace) (b c : TokenClass) (text : List ℕ) (nc : TokenClass) → is_quiet pl ≡ true → calm_of b c text ≡ true → token_place_behind pl b c text nc ≡ pl
  pub quiet_role : (pl : TokenPlace) (b c : TokenClass) (text : List ℕ) (nc : TokenClass) → is_quiet pl ≡ true → role_of pl b c text nc ≡ role.Stays
  pub body_step : (s : List ℕ) (k : BlockKind) (t : Token) (ts : List Token) (c : Clause) (rest : List Token) (long : Bool) (next : ClausePlace) (before nc : TokenClass)
      → is_code k ≡ true → is_statement c ≡ false → clause_at s (clause_place.Body k) (t ∷ ts) ≡ Some (c, rest, long) → next_place (clause_place.Body k) c ≡ Some next
      → (rest ≡ ts) × Stands next (token_place_behind place.Start before (token_class_in s t) (text_of s t) nc) (token_class_in s t)
  pub body_free : (s : List ℕ) (k : BlockKind) (t : Token) (ts : List Token) (y : Statement) (rest : List Token) (long : Bool)
      → clause_at s (clause_place.Body k) (t ∷ ts) ≡ Some (clause.Runs y, rest, long)
      → (is_note (token_class_in s t) ≡ false)
      × (has_kind t kind.Word ≡ true → (is_word_in_list block_end_words (text_of s t) ≡ false) × (is_word_in_list network_words (text_of s t) ≡ false))
  pub body_rest : (s : List ℕ) (k : BlockKind) (t : Token) (ts : List Token) (y : Statement) (rest : List Token) (long : Bool)
      → clause_at s (clause_place.Body k) (t ∷ ts) ≡ Some (clause.Runs y, rest, long)
      → (n : ℕ) × (semicolon_place s (t ∷ ts) ≡ Some n) × (rest ≡ drop (n + 1) (t ∷ ts))

-- ---- lists

length_lefts : {s e : List ℕ} (ps : List (Pair s e)) → length (lefts ps) ≡ length ps
length_lefts [] = refl
length_lefts (p ∷ ps) = ap suc (length_lefts ps)

drop_shorter : {X : Type 0} (n : ℕ) (xs : List X) → length (drop n xs) ≤ length xs
drop_shorter zero xs = omega arith
drop_shorter (suc n) [] = omega arith
drop_shorter (suc n) (x ∷ xs) = omega (arith, drop_shorter n xs)

longer : (m n : ℕ) → suc m ≡ n → n ≤ m → ⊥
longer m n e le = omega (arith, e, le)

-- what follows is known by its length
same_drop : {X : Type 0} (k m : ℕ) (xs : List X) → length (drop k xs) ≡ length (drop m xs) → drop k xs ≡ drop m xs
same_drop zero zero xs e = refl
same_drop zero (suc m) [] e = refl
same_drop (suc k) zero [] e = refl
same_drop (suc k) (suc m) [] e = refl
same_drop zero (suc m) (x ∷ xs) e = absurd (longer (length xs) (length (drop m xs)) e (drop_shorter m xs))
same_drop (suc k) zero (x ∷ xs) e = absurd (longer (length xs) (length (drop k xs)) (sym e) (drop_shorter k xs))
same_drop (suc k) (suc m) (x ∷ xs) e = same_drop k m xs e

nothing_before : {X : Type 0} (a b : List X) → a ++ b ≡ b → a ≡ []
nothing_before [] b e = refl
nothing_before (x ∷ a) b e = absurd (by (ap length e))
  where
    by : length ((x ∷ a) ++ b) ≡ length b → ⊥
    by h = omega (arith, sym (length-append (x ∷ a) b) ∙ h)

abbrev first_or : Token → List Token → Token
first_or d [] = d
first_or d (t ∷ ts) = t

module _ (frame : Frame) (s e : List ℕ) where
  -- ---- the walk through a clause outside of bodies

  same_at : (pl : TokenPlace) (b nc : TokenClass) (q : Pair s e) → is_quiet pl ≡ true → ComesBackInRole s e (role_of pl b (token_class_in s q.left) (text_of s q.left) nc) q.left q.right → IsSamePair q
  same_at pl b nc q quiet h = subst (λ (r : Role). ComesBackInRole s e r q.left q.right) (frame.quiet_role pl b (token_class_in s q.left) (text_of s q.left) nc quiet) h

  calm_pairs : (j : ℕ) (pl : TokenPlace) (b : TokenClass) (qs : List (Pair s e)) → is_quiet pl ≡ true → AreCalm s b (lefts (take j qs)) → Walk s e pl b qs
      → AllSame s e (take j qs) × Walk s e pl (last_class s b (lefts (take j qs))) (drop j qs)
  calm_pairs zero pl b qs quiet calm h = (tt, h)
  calm_pairs (suc j) pl b [] quiet calm h = (tt, tt)
  calm_pairs (suc j) pl b (q ∷ qs) quiet calm h =
      let more = calm_pairs j pl (token_class_in s q.left) qs quiet calm.1
      (subst (λ (x : TokenPlace). Walk s e x (token_class_in s q.left) qs) (frame.calm_place pl b (token_class_in s q.left) (text_of s q.left) (next_class s (lefts qs)) quiet calm.0) h.1) in
      ((same_at pl b (next_class s (lefts qs)) q quiet h.0, more.0), more.1)

  -- the tokens that a clause has behind its first
  pub record IsPassed (p : Pair s e) (ps : List (Pair s e)) (rest : List Token) : Type 0 where
    pub count : ℕ
    pub left : lefts (drop count ps) ≡ rest
    pub calm : AreCalm s (token_class_in s p.left) (lefts (take count ps))
    pub ends : may_be_keyword (last_class s (token_class_in s p.left) (lefts (take count ps))) ≡ true

  passed : (p : Pair s e) (ps : List (Pair s e)) (rest : List Token) → IsCalmClause s (p.left ∷ lefts ps) rest → IsPassed p ps rest
  passed p ps rest c =
      let first = ap (first_or p.left) c.whole in
      let behind = ap (drop 1) c.whole in
      let n = length c.front in
      let front = sym (lefts_take n ps) ∙ ap (take n) behind ∙ take-append_seam c.front rest in
      record {
        count = n;
        left = lefts_drop n ps ∙ ap (drop n) behind ∙ drop-append_seam c.front rest;
        calm = subst (λ (l : List Token). AreCalm s (token_class_in s p.left) l) (sym front)
            (subst (λ (t : Token). AreCalm s (token_class_in s t) c.front) (sym first) c.calm);
        ends = subst (λ (l : List Token). may_be_keyword (last_class s (token_class_in s p.left) l) ≡ true) (sym front)
            (subst (λ (t : Token). may_be_keyword (last_class s (token_class_in s t) c.front) ≡ true) (sym first) c.ends);
      }

  -- ---- numbers stand behind no name

  weak_walk : (pl : TokenPlace) (b : TokenClass) (ps : List (Pair s e)) → Walk s e pl b ps → Weak s e ps
  weak_walk pl b [] h = tt
  weak_walk pl b (p ∷ []) h = (tt, tt)
  weak_walk pl b (p ∷ q ∷ ps) h = (
    (λ named isnt. opens_none s e q (name_opens_none s e pl b (token_class_in s p.left) (token_class_in s q.left) p h.0 named isnt)),
    weak_walk (token_place_behind pl b (token_class_in s p.left) (text_of s p.left) (token_class_in s q.left)) (token_class_in s p.left) (q ∷ ps) h.1,
  )

  -- what follows some tokens
  pub record IsTail (all : List (Pair s e)) (qs : List (Pair s e)) : Type 0 where
    pub weak : Weak s e qs
    pub count : ℕ
    pub at : drop count all ≡ qs

  tail_closed : (all : List (Pair s e)) (p : Pair s e) (ps : List (Pair s e)) → IsTail all (p ∷ ps) → IsTail all ps
  tail_closed all p ps h = record { weak = h.weak.1; count = suc h.count; at = next_drop s e h.count all p ps h.at }

  tail_apart : (all : List (Pair s e)) (p q : Pair s e) (ps : List (Pair s e)) → IsTail all (p ∷ q ∷ ps) → IsNamedPair p
      → is_some (operand_partner English (text_of s p.left)) ≡ false → OpensNone q
  tail_apart all p q ps h named isnt = h.weak.0 named isnt

  abbrev IsFoundHere : List (Pair s e) → Clause × List Token × Bool → Option (Clause × List Token × Bool) → Type 0
  IsFoundHere all r o = IsFound s e (IsTail all) (tail_closed all) (tail_apart all) r o

  -- the same clause of the other source, and where the walk stands behind it
  pub record IsStep (cp : ClausePlace) (c : Clause) (next : ClausePlace) (rest : List Token) (ps : List (Pair s e)) : Type 0 where
    pub pairs : List (Pair s e)
    pub left : lefts pairs ≡ rest
    pub right : List Token
    pub right_is : rights pairs ≡ right
    pub found : clause_at e cp (rights ps) ≡ Some (c, right, false)
    pub count : ℕ
    pub at : drop count ps ≡ pairs
    pub place : TokenPlace
    pub before : TokenClass
    pub walk : Walk s e place before pairs
    pub stands : Stands next place before

  -- what was found, with the walk behind it
  joined : (cp : ClausePlace) (c : Clause) (next : ClausePlace) (rest : List Token) (ps qs : List (Pair s e)) (n : ℕ) (pl : TokenPlace) (b : TokenClass)
      → IsFoundHere ps (c, rest, false) (clause_at e cp (rights ps)) → drop n ps ≡ qs → lefts qs ≡ rest → Walk s e pl b qs → Stands next pl b → IsStep cp c next rest ps
  joined cp c next rest ps qs n pl b f at left walk stands =
      let r = f.rests in
      let same : r.pairs ≡ qs = sym r.fits.at ∙ same_drop r.fits.count n ps
      (ap length r.fits.at ∙ sym (length_lefts r.pairs) ∙ ap length (r.left ∙ sym left) ∙ length_lefts qs ∙ sym (ap length at)) ∙ at in
      record {
        pairs = r.pairs;
        left = r.left;
        right = f.left;
        right_is = r.right;
        found = f.found;
        count = r.fits.count;
        at = r.fits.at;
        place = pl;
        before = b;
        walk = subst (λ (l : List (Pair s e)). Walk s e pl b l) (sym same) walk;
        stands = stands;
      }

  take_same : (n j : ℕ) (ps : List (Pair s e)) (q : Pair s e) (qs : List (Pair s e)) → drop n ps ≡ q ∷ qs → length (drop j ps) ≡ length qs → AllSame s e (take j ps) → AllSame s e (take n ps)
  take_same zero j ps q qs there size h = tt
  take_same (suc n) j [] q qs there size h = absurd cc
  take_same (suc n) zero (p ∷ ps) q qs there size h = absurd (longer (length qs) (length (drop n ps)) (sym (ap length there)) (short n ps there size))
    where
      short : (n : ℕ) (ps : List (Pair s e)) → drop n ps ≡ q ∷ qs → suc (length ps) ≡ length qs → length (drop n ps) ≤ length qs
      short n ps there size = omega (arith, drop_shorter n ps, size)
  take_same (suc n) (suc j) (p ∷ ps) q qs there size h = (h.0, take_same n j ps q qs there size h.1)

  -- ---- outside of bodies

  abbrev is_begin : Clause → Bool
  is_begin clause.Begins = true
  is_begin _ = false

  begin_is : (c : Clause) → is_begin c ≡ true → c ≡ clause.Begins
  begin_is clause.Begins is = refl
  begin_is (clause.Head line k n r) is = absurd (false≢true is)
  begin_is (clause.Ends line k) is = absurd (false≢true is)
  begin_is (clause.Section line k) is = absurd (false≢true is)
  begin_is clause.EndSection is = absurd (false≢true is)
  begin_is clause.Network is = absurd (false≢true is)
  begin_is clause.Structure is = absurd (false≢true is)
  begin_is clause.EndStructure is = absurd (false≢true is)
  begin_is (clause.Based n) is = absurd (false≢true is)
  begin_is clause.Note is = absurd (false≢true is)
  begin_is clause.Title is = absurd (false≢true is)
  begin_is (clause.Declares d) is = absurd (false≢true is)
  begin_is (clause.Sets z) is = absurd (false≢true is)
  begin_is (clause.Runs y) is = absurd (false≢true is)

  quiet_if : (k : BlockKind) → is_quiet (quiet_place k) ≡ true
  quiet_if kinds.Ob = refl
  quiet_if kinds.Fc = refl
  quiet_if kinds.Fb = refl
  quiet_if kinds.Db = refl
  quiet_if kinds.Sfc = refl
  quiet_if kinds.Udt = refl

  after_quiet : (c : Clause) (pl : TokenPlace) → is_quiet pl ≡ true → is_begin c ≡ false → is_quiet (place_after c pl) ≡ true
  after_quiet clause.Begins pl quiet isnt = absurd (false≢true (sym isnt))
  after_quiet (clause.Head line k n r) pl quiet isnt = quiet_if k
  after_quiet (clause.Ends line k) pl quiet isnt = quiet
  after_quiet (clause.Section line k) pl quiet isnt = quiet
  after_quiet clause.EndSection pl quiet isnt = quiet
  after_quiet clause.Network pl quiet isnt = quiet
  after_quiet clause.Structure pl quiet isnt = quiet
  after_quiet clause.EndStructure pl quiet isnt = quiet
  after_quiet (clause.Based n) pl quiet isnt = quiet
  after_quiet clause.Note pl quiet isnt = quiet
  after_quiet clause.Title pl quiet isnt = quiet
  after_quiet (clause.Declares d) pl quiet isnt = quiet
  after_quiet (clause.Sets z) pl quiet isnt = quiet
  after_quiet (clause.Runs y) pl quiet isnt = quiet

  -- behind a `:` a word stays
  note_from : (pl : TokenPlace) (b : TokenClass) (ps : List (Pair s e)) (all : List (Pair s e)) → is_quiet pl ≡ true → Walk s e pl b ps → NoteKind s e (IsTail all) (tail_closed all) (tail_apart all) ps
  note_from pl b [] all quiet h = tt
  note_from pl b (q ∷ []) all quiet h = tt
  note_from pl b (q ∷ r ∷ ps) all quiet h = λ colon.
      let c = class_mark s e q.left mark.Colon colon ∙ colon_class in
      let stays = frame.calm_place pl b (token_class_in s q.left) (text_of s q.left) (token_class_in s r.left) quiet (ap (λ (x : TokenClass). calm_of b x (text_of s q.left)) c) in
      same_kind s e r.left r.right kind.Word
      (same_at pl (token_class_in s q.left) (next_class s (lefts ps)) r quiet
      (subst (λ (x : TokenPlace). ComesBackInRole s e (role_of x (token_class_in s q.left) (token_class_in s r.left) (text_of s r.left) (next_class s (lefts ps))) r.left r.right) stays h.1.0))

  abbrev whole : (p : Pair s e) (ps : List (Pair s e)) → Weak s e (p ∷ ps) → IsTail (p ∷ ps) (p ∷ ps)
  whole p ps weak = record { weak = weak; count = 0; at = refl }

  not_note : clause.Begins ≡ clause.Note → ⊥
  not_note h = cc

  -- BEGIN
  begin_step : (cp : ClausePlace) (next : ClausePlace) (rest : List Token) (pl : TokenPlace) (b : TokenClass) (p : Pair s e) (ps : List (Pair s e))
      → is_body cp ≡ false → Stands cp pl b → Walk s e pl b (p ∷ ps) → clause_at s cp (p.left ∷ lefts ps) ≡ Some (clause.Begins, rest, false)
      → next_place cp clause.Begins ≡ Some next → IsStep cp clause.Begins next rest (p ∷ ps)
  begin_step cp next rest pl b p ps outside stands h found may =
      let quiet = frame.stands_quiet cp pl b outside stands in
      let same = same_at pl b (next_class s (lefts ps)) p quiet.0 h.0 in
      let rest_is = frame.begins_rest s cp p.left (lefts ps) rest false found in
      let calm = frame.calm s cp (p.left ∷ lefts ps) clause.Begins rest false refl found in
      let place_is = frame.first_place s cp p.left (lefts ps) clause.Begins rest false pl b (next_class s (lefts ps)) quiet.0 quiet.1 refl found in
      let front_is = nothing_before calm.front (lefts ps) (ap (λ (l : List Token). calm.front ++ l) (sym rest_is) ∙ sym (ap (drop 1) calm.whole)) in
      let ends = subst (λ (t : Token). may_be_keyword (token_class_in s t) ≡ true) (sym (ap (first_or p.left) calm.whole))
      (subst (λ (l : List Token). may_be_keyword (last_class s (token_class_in s calm.first) l) ≡ true) front_is calm.ends) in
      joined cp clause.Begins next rest (p ∷ ps) ps 1 (place_after clause.Begins pl) (token_class_in s p.left)
      (clause_gives s e (IsTail (p ∷ ps)) (tail_closed (p ∷ ps)) (tail_apart (p ∷ ps)) cp p ps (whole p ps (weak_walk pl b (p ∷ ps) h)) same (clause.Begins, rest, false)
      (λ n cut behind x first at. absurd (inside_no_begin s e (IsTail (p ∷ ps)) (tail_closed (p ∷ ps)) (tail_apart (p ∷ ps)) cp p.left.line (lefts (take n (p ∷ ps))) x at first))
      (λ note. absurd (not_note note)) found)
      refl (sym rest_is) (subst (λ (x : TokenPlace). Walk s e x (token_class_in s p.left) ps) place_is h.1)
      (frame.stands_after cp clause.Begins next pl b (token_class_in s p.left) outside stands may ends)

  -- any other clause outside of bodies
  quiet_step : (cp : ClausePlace) (c : Clause) (next : ClausePlace) (rest : List Token) (pl : TokenPlace) (b : TokenClass) (p : Pair s e) (ps : List (Pair s e))
      → is_body cp ≡ false → is_begin c ≡ false → Stands cp pl b → Walk s e pl b (p ∷ ps) → clause_at s cp (p.left ∷ lefts ps) ≡ Some (c, rest, false)
      → next_place cp c ≡ Some next → IsStep cp c next rest (p ∷ ps)
  quiet_step cp c next rest pl b p ps outside plain stands h found may =
      let quiet = frame.stands_quiet cp pl b outside stands in
      let stated = frame.no_statement cp c next outside may in
      let same = same_at pl b (next_class s (lefts ps)) p quiet.0 h.0 in
      let pass = passed p ps rest (frame.calm s cp (p.left ∷ lefts ps) c rest false stated found) in
      let place_is = frame.first_place s cp p.left (lefts ps) c rest false pl b (next_class s (lefts ps)) quiet.0 quiet.1 stated found in
      let quiet_after = after_quiet c pl quiet.0 plain in
      let walk = subst (λ (x : TokenPlace). Walk s e x (token_class_in s p.left) ps) place_is h.1 in
      let pairs = calm_pairs pass.count (place_after c pl) (token_class_in s p.left) ps quiet_after pass.calm walk in
      joined cp c next rest (p ∷ ps) (drop pass.count ps) (suc pass.count) (place_after c pl) (last_class s (token_class_in s p.left) (lefts (take pass.count ps)))
      (clause_gives s e (IsTail (p ∷ ps)) (tail_closed (p ∷ ps)) (tail_apart (p ∷ ps)) cp p ps (whole p ps (weak_walk pl b (p ∷ ps) h)) same (c, rest, false)
      (λ n cut behind x first at. take_same n (suc pass.count) (p ∷ ps) cut.end cut.rest cut.at
      (sym (length_lefts (drop pass.count ps)) ∙ ap length (pass.left ∙ behind) ∙ length_lefts cut.rest) (same, pairs.0))
      (λ note. note_from (place_after c pl) (token_class_in s p.left) ps (p ∷ ps) quiet_after walk) found)
      refl pass.left pairs.1
      (frame.stands_after cp c next pl b (last_class s (token_class_in s p.left) (lefts (take pass.count ps))) outside stands may pass.ends)

  -- ---- in a body

  no_runs : (c : Clause) (y : Statement) → is_statement c ≡ false → c ≡ clause.Runs y → ⊥
  no_runs c y isnt e = false≢true (sym isnt ∙ ap is_statement e)

  other_step : (k : BlockKind) (c : Clause) (next : ClausePlace) (rest : List Token) (b : TokenClass) (p : Pair s e) (ps : List (Pair s e))
      → is_code k ≡ true → is_statement c ≡ false → Walk s e place.Start b (p ∷ ps) → clause_at s (clause_place.Body k) (p.left ∷ lefts ps) ≡ Some (c, rest, false)
      → next_place (clause_place.Body k) c ≡ Some next → IsStep (clause_place.Body k) c next rest (p ∷ ps)
  other_step k c next rest b p ps code plain h found may =
      let there = frame.body_step s k p.left (lefts ps) c rest false next b (next_class s (lefts ps)) code plain found may in
      let weak = weak_walk place.Start b (p ∷ ps) h in
      joined (clause_place.Body k) c next rest (p ∷ ps) ps 1 (token_place_behind place.Start b (token_class_in s p.left) (text_of s p.left) (next_class s (lefts ps))) (token_class_in s p.left)
      (body_gives s e (IsTail (p ∷ ps)) (tail_closed (p ∷ ps)) (tail_apart (p ∷ ps)) k next p ps (whole p ps weak) weak (start_front s e b (next_class s (lefts ps)) p h.0) (c, rest, false)
      (λ n cut y runs. absurd (no_runs c y plain runs)) may found)
      refl (sym there.0) h.1 there.1

  one_behind : (n : ℕ) → n + 1 ≡ suc n
  one_behind n = omega arith

  statement_step : (k : BlockKind) (y : Statement) (next : ClausePlace) (rest : List Token) (b : TokenClass) (p : Pair s e) (ps : List (Pair s e))
      → AreFormed s (p.left ∷ lefts ps) → (next ≡ clause_place.Body k) → is_code k ≡ true
      → Walk s e place.Start b (p ∷ ps) → clause_at s (clause_place.Body k) (p.left ∷ lefts ps) ≡ Some (clause.Runs y, rest, false)
      → next_place (clause_place.Body k) (clause.Runs y) ≡ Some next → IsStep (clause_place.Body k) (clause.Runs y) next rest (p ∷ ps)
  statement_step k y next rest b p ps shape same code h found may =
      let free = frame.body_free s k p.left (lefts ps) y rest false found in
      let weak = weak_walk place.Start b (p ∷ ps) h in
      let behind = frame.body_rest s k p.left (lefts ps) y rest false found in
      let cut = cut_at s e (p ∷ ps) behind.0 behind.1 in
      let rest_is : lefts cut.rest ≡ rest = sym (ap lefts (next_drop s e behind.0 (p ∷ ps) cut.end cut.rest cut.at)) ∙ lefts_drop (suc behind.0) (p ∷ ps)
      ∙ sym (behind.2 ∙ ap (λ (n : ℕ). drop n (p.left ∷ lefts ps)) (one_behind behind.0)) in
      joined (clause_place.Body k) (clause.Runs y) next rest (p ∷ ps) cut.rest (suc behind.0) place.Start class.Semicolon
      (body_gives s e (IsTail (p ∷ ps)) (tail_closed (p ∷ ps)) (tail_apart (p ∷ ps)) k next p ps (whole p ps weak) weak (start_front s e b (next_class s (lefts ps)) p h.0) (clause.Runs y, rest, false)
      (λ n cut z runs. statement_from s e n b (p ∷ ps) shape cut.none h free) may found)
      (next_drop s e behind.0 (p ∷ ps) cut.end cut.rest cut.at) rest_is
      (statement_walked s e behind.0 b (p ∷ ps) cut.end cut.rest cut.none h free cut.at cut.is)
      (subst (λ (q : ClausePlace). Stands q place.Start class.Semicolon) (sym same) (refl, code))

  -- ---- each clause

  outside_step : (cp : ClausePlace) (c : Clause) (next : ClausePlace) (rest : List Token) (pl : TokenPlace) (b : TokenClass) (p : Pair s e) (ps : List (Pair s e))
      → is_body cp ≡ false → Stands cp pl b → Walk s e pl b (p ∷ ps) → clause_at s cp (p.left ∷ lefts ps) ≡ Some (c, rest, false)
      → next_place cp c ≡ Some next → IsStep cp c next rest (p ∷ ps)
  outside_step cp c next rest pl b p ps outside stands h found may = by (is_begin c) refl
    where
      by : (t : Bool) → is_begin c ≡ t → IsStep cp c next rest (p ∷ ps)
      by false plain = quiet_step cp c next rest pl b p ps outside plain stands h found may
      by true begins =
          let same = begin_is c begins in
          subst (λ (x : Clause). IsStep cp x next rest (p ∷ ps)) (sym same)
          (begin_step cp next rest pl b p ps outside stands h
          (subst (λ (x : Clause). clause_at s cp (p.left ∷ lefts ps) ≡ Some (x, rest, false)) same found)
          (subst (λ (x : Clause). next_place cp x ≡ Some next) same may))

  runs_next : (k : BlockKind) (y : Statement) (next : ClausePlace) → next_place (clause_place.Body k) (clause.Runs y) ≡ Some next → next ≡ clause_place.Body k
  unfolding next_place next_place_in_body
  runs_next k y next may = sym (same_Some (clause_place.Body k) next may)

  inside_step : (k : BlockKind) (c : Clause) (next : ClausePlace) (rest : List Token) (b : TokenClass) (p : Pair s e) (ps : List (Pair s e))
      → AreFormed s (p.left ∷ lefts ps) → is_code k ≡ true → Walk s e place.Start b (p ∷ ps)
      → clause_at s (clause_place.Body k) (p.left ∷ lefts ps) ≡ Some (c, rest, false) → next_place (clause_place.Body k) c ≡ Some next
      → IsStep (clause_place.Body k) c next rest (p ∷ ps)
  inside_step k (clause.Runs y) next rest b p ps shape code h found may = statement_step k y next rest b p ps shape (runs_next k y next may) code h found may
  inside_step k (clause.Head line j n r) next rest b p ps shape code h found may = other_step k (clause.Head line j n r) next rest b p ps code refl h found may
  inside_step k (clause.Ends line j) next rest b p ps shape code h found may = other_step k (clause.Ends line j) next rest b p ps code refl h found may
  inside_step k (clause.Section line j) next rest b p ps shape code h found may = other_step k (clause.Section line j) next rest b p ps code refl h found may
  inside_step k clause.EndSection next rest b p ps shape code h found may = other_step k clause.EndSection next rest b p ps code refl h found may
  inside_step k clause.Begins next rest b p ps shape code h found may = other_step k clause.Begins next rest b p ps code refl h found may
  inside_step k clause.Network next rest b p ps shape code h found may = other_step k clause.Network next rest b p ps code refl h found may
  inside_step k clause.Structure next rest b p ps shape code h found may = other_step k clause.Structure next rest b p ps code refl h found may
  inside_step k clause.EndStructure next rest b p ps shape code h found may = other_step k clause.EndStructure next rest b p ps code refl h found may
  inside_step k (clause.Based n) next rest b p ps shape code h found may = other_step k (clause.Based n) next rest b p ps code refl h found may
  inside_step k clause.Note next rest b p ps shape code h found may = other_step k clause.Note next rest b p ps code refl h found may
  inside_step k clause.Title next rest b p ps shape code h found may = other_step k clause.Title next rest b p ps code refl h found may
  inside_step k (clause.Declares d) next rest b p ps shape code h found may = other_step k (clause.Declares d) next rest b p ps code refl h found may
  inside_step k (clause.Sets z) next rest b p ps shape code h found may = other_step k (clause.Sets z) next rest b p ps code refl h found may

  place_step : (cp : ClausePlace) (c : Clause) (next : ClausePlace) (rest : List Token) (pl : TokenPlace) (b : TokenClass) (p : Pair s e) (ps : List (Pair s e))
      → AreFormed s (p.left ∷ lefts ps) → Stands cp pl b → Walk s e pl b (p ∷ ps) → clause_at s cp (p.left ∷ lefts ps) ≡ Some (c, rest, false)
      → next_place cp c ≡ Some next → IsStep cp c next rest (p ∷ ps)
  place_step (clause_place.Body k) c next rest pl b p ps shape stands h found may =
      inside_step k c next rest b p ps shape stands.1 (subst (λ (x : TokenPlace). Walk s e x b (p ∷ ps)) stands.0 h) found may
  place_step clause_place.Outside c next rest pl b p ps shape stands h found may = outside_step clause_place.Outside c next rest pl b p ps refl stands h found may
  place_step (clause_place.Head k) c next rest pl b p ps shape stands h found may = outside_step (clause_place.Head k) c next rest pl b p ps refl stands h found may
  place_step (clause_place.Section k j l) c next rest pl b p ps shape stands h found may = outside_step (clause_place.Section k j l) c next rest pl b p ps refl stands h found may
  place_step (clause_place.Between k j) c next rest pl b p ps shape stands h found may = outside_step (clause_place.Between k j) c next rest pl b p ps refl stands h found may
  place_step (clause_place.Shape k l) c next rest pl b p ps shape stands h found may = outside_step (clause_place.Shape k l) c next rest pl b p ps refl stands h found may
  place_step (clause_place.Shaped k) c next rest pl b p ps shape stands h found may = outside_step (clause_place.Shaped k) c next rest pl b p ps refl stands h found may
  place_step clause_place.Settings c next rest pl b p ps shape stands h found may = outside_step clause_place.Settings c next rest pl b p ps refl stands h found may

  no_clause : (cp : ClausePlace) (c : Clause) (rest : List Token) → clause_at s cp [] ≡ Some (c, rest, false) → ⊥
  unfolding clause_at
  no_clause cp c rest found = cc

  one_step : (cp : ClausePlace) (c : Clause) (next : ClausePlace) (rest : List Token) (pl : TokenPlace) (b : TokenClass) (ps : List (Pair s e))
      → AreFormed s (lefts ps) → Stands cp pl b → Walk s e pl b ps → clause_at s cp (lefts ps) ≡ Some (c, rest, false) → next_place cp c ≡ Some next
      → IsStep cp c next rest ps
  one_step cp c next rest pl b [] shape stands h found may = absurd (no_clause cp c rest found)
  one_step cp c next rest pl b (p ∷ ps) shape stands h found may = place_step cp c next rest pl b p ps shape stands h found may

  right_step : (cp : ClausePlace) (ts : List Token) (c : Clause) (rest : List Token) (next : ClausePlace)
      → clause_at e cp ts ≡ Some (c, rest, false) → next_place cp c ≡ Some next → step_of e cp ts ≡ Ok (c, rest, next)
  unfolding step_of
  right_step cp ts c rest next found may = rw (found, may) refl

  formed_drop : (n : ℕ) (ts : List Token) → AreFormed s ts → AreFormed s (drop n ts)
  formed_drop zero ts h = h
  formed_drop (suc n) [] h = h
  formed_drop (suc n) (t ∷ ts) h = formed_drop n ts h.1

  -- ---- all of them

  reads_alike : (cs : List Clause) (cp : ClausePlace) (pl : TokenPlace) (b : TokenClass) (ps : List (Pair s e)) → AreFormed s (lefts ps) → Stands cp pl b → Walk s e pl b ps
      → ReadsClauses s cp (lefts ps) cs clause_place.Outside [] → ReadsClauses e cp (rights ps) cs clause_place.Outside []
  reads_alike [] cp pl b [] shape stands h reads = (reads.0, refl)
  reads_alike [] cp pl b (p ∷ ps) shape stands h reads = absurd cc
  reads_alike (c ∷ cs) cp pl b ps shape stands h (rest, next, step, more) =
      let right = right_clause s cp (lefts ps) c rest next step in
      let there = one_step cp c next rest pl b ps shape stands h right.0 right.1 in
      let shape_then = subst (λ (l : List Token). AreFormed s l) (sym (lefts_drop there.count ps) ∙ ap lefts there.at) (formed_drop there.count (lefts ps) shape) in (
        there.right,
        next,
        right_step cp (rights ps) c there.right next there.found right.1,
        subst (λ (l : List Token). ReadsClauses e next l cs clause_place.Outside []) there.right_is
            (reads_alike cs next there.place there.before there.pairs shape_then there.stands there.walk
            (subst (λ (l : List Token). ReadsClauses s next l cs clause_place.Outside []) (sym there.left) more)),
      )

pub alike_by : Frame → TreesAlike
alike_by frame s e ts us t are alike is =
    let z = zipped s e place.Outside class.Other ts us alike in
    record {
      clauses = is.clauses;
      reads = subst (λ (l : List Token). ReadsClauses e clause_place.Outside l is.clauses clause_place.Outside []) z.right
          (reads_alike frame s e is.clauses clause_place.Outside place.Outside class.Other z.pairs
          (subst (λ (l : List Token). AreFormed s l) (sym z.left) (tokens_formed s ts are)) (refl, refl) z.walk
          (subst (λ (l : List Token). ReadsClauses s clause_place.Outside l is.clauses clause_place.Outside []) (sym z.left) is.reads));
      those = is.those;
    }
