-- The characters of the constants of a source are bytes, as the source's are.
use Rattle.std.proofs.Common.{◌≡◌, refl, ℕ, zero, suc, ◌-◌, Bool, true, false, List, [], ◌∷◌, ◌++◌, length, take, drop, map, filter, cond, Option, Some, None, sym, subst, arith}
use Rattle.std.specs.Prelude.{slice_range}
use Rattle.std.specs.List.{AllByRecursion, flat_map, slice_get}
use Rattle.std.specs.Option.{option_map, IfSome}
use Rattle.plc_base.proofs.ListLemmas.{all_back, all_front}
use Rattle.plc_base.specs.declared.places.Width.{Width}
use Rattle.stl_lexer.specs.Tokens.{text_of}
use Rattle.stl_lexer.specs.declared.kinds.Token.{Token}
use Rattle.stl_lexer.specs.declared.kinds.TokenKind.{TokenKind}
use Rattle.stl_parser.specs.Operands as reads
use Rattle.stl_parser.specs.Literals as literals
use Rattle.stl_parser.specs.Values as values
use Rattle.stl_parser.specs.Statements as states
use Rattle.stl_parser.specs.Types as types
use Rattle.stl_parser.specs.Declarations as declares
use Rattle.stl_parser.specs.Clauses as clauses
use Rattle.stl_parser.specs.Parts.{parts_from, complete_reading}
use Rattle.stl_ast.specs.Literals.{AreBytes}
use Rattle.stl_ast.specs.declared.operands.Operand.{Operand}
use Rattle.stl_ast.specs.declared.operands.PathHead.{PathHead}
use Rattle.stl_ast.specs.declared.operands.Letters.{Letters}
use Rattle.stl_ast.specs.declared.names.BlockName.{BlockName}
use Rattle.stl_ast.specs.declared.mnemonics.Mnemonic.{Mnemonic}
use Rattle.stl_ast.specs.declared.statements.Actual.{Actual}
use Rattle.stl_ast.specs.declared.declarations.Declaration.{Declaration}
use Rattle.stl_ast.specs.declared.declarations.Bounds.{Bounds}
use Rattle.stl_ast.specs.declared.declarations.ElementType.{ElementType}
use Rattle.stl_ast.specs.declared.declarations.Init.{Init}
use Rattle.stl_ast.specs.declared.blocks.PathStep.{PathStep}
use Rattle.stl_parser.specs.declared.statements.BareStatement.{BareStatement}
use Rattle.stl_parser.specs.declared.tables.AddressKind.{AddressKind}
use Rattle.stl_parser.specs.declared.tables.OperandSyntax.{OperandSyntax}
use Rattle.stl_parser.specs.declared.clauses.Clause.{Clause}
use Rattle.stl_parser.specs.declared.clauses.Clause.TheVariants as clause
use Rattle.stl_parser.specs.declared.places.ClausePlace.{ClausePlace}
use Rattle.stl_parser.proofs.OptionLemmas.{all_push, either, map_holds, parts_hold, some_holds, whole_holds, weaker_holds}
use Rattle.stl_ast.specs.declared.blocks.Block.{Block}
use Rattle.stl_ast.specs.declared.blocks.Tree.{Tree}
use Rattle.stl_ast.specs.declared.declarations.ElementType.TheVariants as element
use Rattle.stl_ast.specs.declared.declarations.TypeTree.{TypeTree}
use Rattle.stl_parser.specs.Source.{IsTree, ReadsClauses}
use Rattle.stl_parser.specs.Spelling.{is_kept_by_tree, spelled_block, spelled_part, spelled_shape, spelled_type}
use Rattle.stl_parser.specs.declared.places.ClausePlace.TheVariants as place
use Rattle.stl_parser.proofs.FrameLemmas.{right_clause}
use Rattle.sem_kept.proofs.accepted.CodedViews.{got_holds}
use Rattle.sem_kept.specs.CodedBlocks.{ActualHasBytes, BlockHasBytes, DeclarationHasBytes, HasBytes, InitHasBytes, OperandHasBytes, PartHasBytes, SettingHasBytes, StatementHasBytes, TreeHasBytes}

-- ---- texts

bytes_drop : (n : ℕ) (bytes : List ℕ) → AreBytes bytes → AreBytes (drop n bytes)
bytes_drop zero bytes h = h
bytes_drop (suc n) [] h = tt
bytes_drop (suc n) (b ∷ bytes) h = bytes_drop n bytes h.1

bytes_take : (n : ℕ) (bytes : List ℕ) → AreBytes bytes → AreBytes (take n bytes)
bytes_take zero bytes h = tt
bytes_take (suc n) [] h = tt
bytes_take (suc n) (b ∷ bytes) h = (h.0, bytes_take n bytes h.1)

bytes_range : (bytes : List ℕ) (from to : ℕ) → AreBytes bytes → AreBytes (slice_range bytes from to)
bytes_range bytes from to h = bytes_take (to - from) (drop from bytes) (bytes_drop from bytes h)

-- ---- lists, and what follows one another in a clause

all_listed : {X : Type 0} (P : X → Type 0) (end : List Token → Option (List Token))
    (part : List Token → Option (X × List Token)) (read : List X) (n : ℕ) (tokens : List Token)
    → ((ts : List Token) → IfSome (part ts) (λ r. P r.0)) → AllByRecursion P read
    → IfSome (complete_reading (parts_from end part read n tokens)) (AllByRecursion P)
all_listed P end part read n tokens each h =
    whole_holds (parts_from end part read n tokens) (AllByRecursion P)
    (parts_hold end part read n tokens (λ xs ts. AllByRecursion P xs) (AllByRecursion P) h
    (λ xs ts all. weaker_holds (part ts) (λ r. P r.0) (λ r. AllByRecursion P (xs ++ r.0 ∷ [])) (each ts)
    (λ r one. all_push P xs r.0 all one))
    (λ xs ts all. all))

all_of_map : {A B : Type 0} (P : B → Type 0) (Q : A → Type 0) (f : A → B) → ((x : A) → P (f x) → Q x) → (xs : List A)
    → AllByRecursion P (map f xs) → AllByRecursion Q xs
all_of_map P Q f each [] h = tt
all_of_map P Q f each (x ∷ xs) h = (each x h.0, all_of_map P Q f each xs h.1)

all_of_parts : {A : Type 0} (P : A → Type 0) (xs ys : List A) → AllByRecursion P (xs ++ ys) → AllByRecursion P xs × AllByRecursion P ys
all_of_parts P xs ys h = (all_front P xs ys h, all_back P xs ys h)

all_of_flat_map : {A B : Type 0} (P : B → Type 0) (Q : A → Type 0) (f : A → List B) → ((x : A) → AllByRecursion P (f x) → Q x)
    → (xs : List A) → AllByRecursion P (flat_map f xs) → AllByRecursion Q xs
all_of_flat_map P Q f each [] h = tt
all_of_flat_map P Q f each (x ∷ xs) h =
    let both = all_of_parts P (f x) (flat_map f xs) h in (each x both.0, all_of_flat_map P Q f each xs both.1)

-- the characters of the constants in a clause are bytes
abbrev ClauseHas : Clause → Type 0
ClauseHas (clause.Runs s) = StatementHasBytes s
ClauseHas (clause.Declares d) = DeclarationHasBytes d
ClauseHas (clause.Sets s) = SettingHasBytes s
ClauseHas _ = Unit {0}

-- a clause that a tree keeps
abbrev KeptHas : Clause → Type 0
KeptHas c = ClauseHas c × (is_kept_by_tree c ≡ true)

module _ (source : List ℕ) (bytes : AreBytes source) where
  -- ---- constants

  characters_bytes : (text : List ℕ) → AreBytes text → IfSome (literals.characters_of text) AreBytes
  unfolding literals.characters_of
  characters_bytes text h = grind arith

  unquoted_bytes : (t : Token) → AreBytes (literals.text_between_quotes (text_of source t))
  unfolding literals.text_between_quotes
  unquoted_bytes t =
      bytes_range (text_of source t) 1 (length (text_of source t) - 1) (bytes_range source t.start t.end bytes)

  token_bytes : (t : Token) (k : TokenKind) → IfSome (literals.literal_token source t k) HasBytes
  unfolding literals.literal_token literals.truth_of values.based_value values.based_literal values.long_or_count values.duration_literal
  token_bytes t k =
      grind (arith, characters_bytes (literals.text_between_quotes (text_of source t)) (unquoted_bytes t))

  long_bytes : (t : Token) (rest : List Token) → IfSome (literals.long_literal source t rest) (λ r. HasBytes r.0)
  unfolding literals.long_literal literals.bytes_at literals.bytes_behind literals.last_bytes
  long_bytes t rest = grind arith

  literal_at_has : (tokens : List Token) → IfSome (literals.literal_at source tokens) (λ r. HasBytes r.0)
  unfolding literals.literal_at
  literal_at_has [] = tt
  literal_at_has (t ∷ rest) =
      either (option_map (λ l. (l, rest)) (literals.literal_token source t t.kind)) _ (λ r. HasBytes r.0)
      (map_holds (literals.literal_token source t t.kind) _ HasBytes (λ r. HasBytes r.0) (token_bytes t t.kind) (λ l k. k))
      (long_bytes t rest)

  literal_has : (tokens : List Token) → IfSome (literals.literal_of source tokens) HasBytes
  unfolding literals.literal_of
  literal_has tokens = whole_holds (literals.literal_at source tokens) HasBytes (literal_at_has tokens)

  -- ---- operands

  abbrev Has : Option Operand → Type 0
  Has o = IfSome o OperandHasBytes

  register_has : (a : Option Letters) (w : Width) (tokens : List Token) → Has (reads.operand_by_register source a w tokens)
  unfolding reads.operand_by_register
  register_has a w tokens = grind arith

  path_has : (h : PathHead) (tokens : List Token) → Has (reads.path_of source h tokens)
  unfolding reads.path_of
  path_has h tokens = grind arith

  behind_block_has : (name : BlockName) (tokens : List Token) → Has (reads.operand_behind_block source name tokens)
  unfolding reads.operand_behind_block reads.operand_in_block reads.block_path
  behind_block_has name tokens = grind arith

  direct_has : (a : AddressKind) (n : ℕ) (rest : List Token) → Has (reads.direct_address_operand source a n rest)
  unfolding reads.direct_address_operand reads.area_operand reads.data_block_operand
  direct_has a n rest = grind (arith, behind_block_has)

  indirect_has : (a : AddressKind) (tokens : List Token) → Has (reads.indirect_operand source a tokens)
  unfolding reads.indirect_operand reads.operand_by_pointer reads.operand_by_memory_number
  indirect_has a tokens = grind (arith, register_has)

  pointer_has : (tokens : List Token) → Has (reads.pointer_constant_operand source tokens)
  unfolding reads.pointer_constant_operand reads.plain_pointer reads.area_pointer
  pointer_has tokens = grind arith

  alone_has : (t : Token) (rest : List Token) → Has (reads.lone_word_operand source t rest)
  unfolding reads.lone_word_operand reads.condition_word_operand reads.register_name_operand
  alone_has t rest = grind arith

  word_has : (t : Token) (rest tokens : List Token) → Has (reads.word_operand source t rest tokens)
  unfolding reads.word_operand reads.operand_with_number reads.operand_with_pointer reads.operand_by_sized_register reads.plain_path
  word_has t rest tokens = grind (arith, alone_has, direct_has, indirect_has, register_has, path_has)

  kind_has : (t : Token) (rest tokens : List Token) (k : TokenKind)
      → Has (reads.operand_by_kind source t rest tokens k)
  unfolding reads.operand_by_kind reads.quoted_operand reads.local_path reads.mark_operand reads.sign_operand reads.condition_word_operand
  kind_has t rest tokens k = grind (arith, word_has, behind_block_has, path_has, pointer_has, register_has)

  operand_has : (tokens : List Token) → Has (reads.operand_of source tokens)
  unfolding reads.operand_of
  operand_has tokens = grind (arith, (λ (ts : List Token). literal_has ts), kind_has)

  -- ---- statements

  actual_has : (tokens : List Token) → IfSome (states.actual_at source tokens) (λ r. ActualHasBytes r.0)
  unfolding states.actual_at states.value_of
  actual_has tokens = grind (arith, (λ (ts : List Token). operand_has ts))

  next_has : (tokens : List Token) → IfSome (states.next_actual source tokens) (λ r. ActualHasBytes r.0)
  unfolding states.next_actual
  next_has tokens = grind (arith, (λ (ts : List Token). actual_has ts))

  actuals_has : (tokens : List Token) → IfSome (states.actuals_of source tokens) (AllByRecursion ActualHasBytes)
  unfolding states.actuals_of states.actuals_behind
  actuals_has tokens = grind (arith, (λ (ts : List Token). actual_has ts), listed)
    where
      listed : (a : Actual) (n : ℕ) (ts : List Token) → ActualHasBytes a
          → IfSome (complete_reading (parts_from (states.actuals_end source) (states.next_actual source) (a ∷ []) n ts)) (AllByRecursion ActualHasBytes)
      listed a n ts one = all_listed ActualHasBytes (states.actuals_end source) (states.next_actual source) (a ∷ []) n ts next_has (one, tt)

  record BareHas (i : BareStatement) : Type 0 where
    operand : OperandHasBytes i.operand
    actuals : AllByRecursion ActualHasBytes i.actuals

  with_operand_has : (code : Mnemonic) (tokens : List Token) → IfSome (states.statement_with_operand source code tokens) BareHas
  unfolding states.statement_with_operand
  with_operand_has code tokens = grind (arith, (λ (ts : List Token). operand_has ts))

  behind_word_has : (f : OperandSyntax) (code : Mnemonic) (tokens : List Token)
      → IfSome (states.behind_word source f code tokens) BareHas
  unfolding states.behind_word states.jump_of states.open_of states.block_call_of states.call_of
  behind_word_has f code tokens = grind (arith, with_operand_has, (λ (ts : List Token). actuals_has ts))

  instruction_has : (tokens : List Token) → IfSome (states.instruction_of source tokens) BareHas
  unfolding states.instruction_of states.opening_instruction states.zone_end_of states.one_token_instruction
  instruction_has tokens = grind (arith, with_operand_has, behind_word_has)

  labelled_has : (line : ℕ) (w : Token) (tokens : List Token) → IfSome (states.labelled_statement source line w tokens) (λ r. StatementHasBytes r.0)
  unfolding states.labelled_statement
  labelled_has line w tokens =
      map_holds (states.instruction_of source tokens) _ BareHas (λ r. StatementHasBytes r.0) (instruction_has tokens) (λ i k. search)

  unlabelled_has : (line : ℕ) (tokens : List Token) → IfSome (states.unlabelled_statement source line tokens) (λ r. StatementHasBytes r.0)
  unfolding states.unlabelled_statement
  unlabelled_has line tokens =
      map_holds (states.instruction_of source tokens) _ BareHas (λ r. StatementHasBytes r.0) (instruction_has tokens) (λ i k. search)

  statement_has : (line : ℕ) (tokens : List Token) → IfSome (states.statement_of source line tokens) (λ r. StatementHasBytes r.0)
  unfolding states.statement_of
  statement_has line tokens = grind (arith, labelled_has, unlabelled_has)

  -- ---- initial values

  init_at_has : (tokens : List Token) → IfSome (types.init_at source tokens) (λ r. InitHasBytes r.0)
  unfolding types.init_at types.counted_init_at types.counted_init_end
  init_at_has tokens = grind (arith, (λ (ts : List Token). literal_at_has ts))

  next_init_has : (tokens : List Token) → IfSome (types.next_init source tokens) (λ r. InitHasBytes r.0)
  unfolding types.next_init
  next_init_has tokens = grind (arith, init_at_has)

  init_of_has : (arrays : List Bounds) (e : ElementType) (tokens : List Token)
      → IfSome (types.init_of source arrays e tokens) (AllByRecursion InitHasBytes)
  unfolding types.init_of types.init_list types.single_init
  init_of_has arrays e tokens = grind (arith, (λ (ts : List Token). init_at_has ts), (λ (ts : List Token). literal_has ts), listed)
    where
      listed : (i : Init) (n : ℕ) (ts : List Token) → InitHasBytes i
          → IfSome (complete_reading (parts_from types.end_of_tokens (types.next_init source) (i ∷ []) n ts)) (AllByRecursion InitHasBytes)
      listed i n ts one = all_listed InitHasBytes types.end_of_tokens (types.next_init source) (i ∷ []) n ts next_init_has (one, tt)

  declaration_has : (level : ℕ) (tokens : List Token) → IfSome (declares.declaration_of source level tokens) DeclarationHasBytes
  unfolding declares.declaration_of declares.init_behind
  declaration_has level tokens = grind (arith, (λ (arrays : List Bounds) (e : ElementType) (ts : List Token). init_of_has arrays e ts))

  opens_has : (level : ℕ) (tokens : List Token) → IfSome (declares.structure_at source level tokens) (λ r. DeclarationHasBytes r.0)
  unfolding declares.structure_at
  opens_has level tokens = grind arith

  value_has : (line : ℕ) (path : List PathStep) (tokens : List Token) → IfSome (clauses.value_behind source line path tokens) SettingHasBytes
  unfolding clauses.value_behind
  value_has line path tokens = grind (arith, (λ (ts : List Token). literal_has ts))

  setting_has : (line : ℕ) (tokens : List Token) → IfSome (clauses.setting_of source line tokens) SettingHasBytes
  unfolding clauses.setting_of
  setting_has line tokens = grind (arith, value_has)

  -- ---- clauses

  inside_has : (p : ClausePlace) (line : ℕ) (inside : List Token) → IfSome (clauses.inside_clause source p line inside) (λ r. ClauseHas r.0)
  unfolding clauses.inside_clause clauses.declaration_clause clauses.statement_clause clauses.setting_clause
  inside_has p line inside = grind (arith, declaration_has (clauses.level_at p) inside, statement_has line inside, setting_has line inside)

  other_has : (p : ClausePlace) (line : ℕ) (tokens : List Token) → IfSome (clauses.other_clause source p line tokens) (λ r. ClauseHas r.0)
  unfolding clauses.other_clause clauses.base_block_at clauses.plain_clause clauses.structure_clause clauses.semicolon_clause
  other_has p line tokens = grind (arith, opens_has (clauses.level_at p) tokens, (λ (ts : List Token). inside_has p line ts))

  clause_has : (p : ClausePlace) (tokens : List Token) → IfSome (clauses.clause_at source p tokens) (λ r. ClauseHas r.0)
  unfolding clauses.clause_at clauses.clause_by_kind clauses.word_clause clauses.free_word_clause clauses.keyword_clause clauses.head_clause clauses.structure_end clauses.inner_end clauses.head_word_clause
  clause_has p tokens = grind (arith, other_has)

  -- ---- the tree

  reads_has : (p : ClausePlace) (ts : List Token) (cs : List Clause) (q : ClausePlace) (rest : List Token)
      → ReadsClauses source p ts cs q rest → AllByRecursion KeptHas (filter is_kept_by_tree cs)
  reads_has p ts [] q rest reads = tt
  reads_has p ts (c ∷ cs) q rest reads = by (is_kept_by_tree c) refl (reads_has reads.1 reads.0 cs q rest reads.3)
    where
      by : (b : Bool) → is_kept_by_tree c ≡ b → AllByRecursion KeptHas (filter is_kept_by_tree cs)
          → AllByRecursion KeptHas (cond b (c ∷ filter is_kept_by_tree cs) (filter is_kept_by_tree cs))
      by true is more =
          let right = right_clause source p ts c reads.0 reads.1 reads.2 in
          ((some_holds (clauses.clause_at source p ts) (c, reads.0, false) (λ r. ClauseHas r.0) right.0 (clause_has p ts), is), more)
      by false is more = more

declared_has : (ds : List Declaration) → AllByRecursion KeptHas (map clause.Declares ds) → AllByRecursion DeclarationHasBytes ds
declared_has ds h = all_of_map KeptHas DeclarationHasBytes clause.Declares (λ d k. k.0) ds h

shape_has : (shape : Option TypeTree) (instance : Option BlockName) (components : List Declaration)
    → AllByRecursion KeptHas (spelled_shape shape instance components) → AllByRecursion DeclarationHasBytes components
shape_has shape instance [] h = tt
shape_has (Some t) None (d ∷ ds) h = by t.arrays t.of h
  where
    by : (arrays : List Bounds) (of : ElementType) → AllByRecursion KeptHas (spelled_type arrays of (d ∷ ds))
        → AllByRecursion DeclarationHasBytes (d ∷ ds)
    by [] element.Structure h = declared_has (d ∷ ds) h.1
    by _ _ h = grind arith
shape_has _ _ (d ∷ ds) h = grind arith

block_has : (b : Block) → AllByRecursion KeptHas (spelled_block b) → BlockHasBytes b
block_has b h =
    let parts = all_of_parts KeptHas (flat_map spelled_part b.parts) _ h.1 in
    let shape = all_of_parts KeptHas (spelled_shape b.shape b.instance_of b.components) _ parts.1 in
    let set = all_of_parts KeptHas (map clause.Sets b.settings) _ shape.1 in
    record {
      parts = all_of_flat_map KeptHas PartHasBytes spelled_part (λ p k. declared_has p.items k.1) b.parts parts.0;
      components = shape_has b.shape b.instance_of b.components shape.0;
      settings = all_of_map KeptHas SettingHasBytes clause.Sets (λ s k. k.0) b.settings set.0;
      body = all_of_map KeptHas StatementHasBytes clause.Runs (λ s k. k.0) b.body (all_front KeptHas (map clause.Runs b.body) _ set.1);
    }

module _ (source : List ℕ) (tokens : List Token) (t : Tree) (bytes : AreBytes source)
    (tree : IsTree source tokens t) where
  spelled_has : AllByRecursion KeptHas (flat_map spelled_block t.blocks)
  spelled_has =
      subst (AllByRecursion KeptHas) (sym tree.those)
      (reads_has source bytes place.Outside tokens tree.clauses place.Outside [] tree.reads)

  pub block_has_bytes : (k : ℕ) (b : Block) → slice_get t.blocks k ≡ Some b → BlockHasBytes b
  block_has_bytes k b there =
      some_holds (slice_get t.blocks k) b BlockHasBytes there
      (got_holds BlockHasBytes t.blocks k (all_of_flat_map KeptHas BlockHasBytes spelled_block block_has t.blocks spelled_has))

  -- the characters of the constants in the statements of a source are bytes
  pub tree_has : TreeHasBytes t
  tree_has =
      all_of_flat_map KeptHas (λ b. AllByRecursion StatementHasBytes b.body) spelled_block (λ b h. (block_has b h).body)
      t.blocks spelled_has
