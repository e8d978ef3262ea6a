-- What a statement keeps, and how many bytes its code takes at most for its tokens.
use Rattle.std.proofs.Common.{arith, ℕ, zero, suc, ◌+◌, ◌*◌, ◌≡◌, ◌≤◌, ◌<◌, Bool, true, false, List, [], ◌∷◌, ◌++◌, length, Option, Some, None, refl, sym, ◌∙◌, ap, subst, length-append}
use Rattle.std.specs.Prelude.{◌&&◌, ◌||◌, not, nat_lt, take, drop}
use Rattle.std.specs.Option.{option_map, IfSome}
use Rattle.std.specs.List.{list_all}
use Rattle.std.proofs.lemmas.Bool.Decides.{nat_tests}
use Rattle.std.proofs.lemmas.List.{length-drop}
use Rattle.std.proofs.lemmas.Bool.{not-true}
use Rattle.plc_base.specs.Kinds as of_kind
use Rattle.plc_base.specs.declared.blocks.BlockKind.{BlockKind}
use Rattle.plc_base.specs.declared.blocks.BlockKind.TheVariants as kinds
use Rattle.plc_base.proofs.TruthLemmas.{and_first, and_second}
use Rattle.stl_lexer.specs.declared.kinds.Token.{Token}
use Rattle.stl_lexer.specs.declared.kinds.TokenKind.TheVariants as kind
use Rattle.stl_lexer.specs.Tokens.{text_of}
use Rattle.stl_ast.specs.declared.mnemonics.Mnemonic.{Mnemonic}
use Rattle.stl_ast.specs.declared.mnemonics.Mnemonic.TheVariants as mnemonic
use Rattle.stl_ast.specs.declared.names.BlockName.{BlockName}
use Rattle.stl_ast.specs.declared.names.BlockName.TheVariants as block
use Rattle.stl_ast.specs.declared.operands.Operand.{Operand}
use Rattle.stl_ast.specs.declared.operands.Operand.TheVariants as operand
use Rattle.stl_ast.specs.declared.statements.Actual.{Actual}
use Rattle.stl_ast.specs.declared.statements.Statement.{Statement}
use Rattle.stl_ast.specs.Operands.{IsNameOf, IsAnyName, IsDataBlockName, IsInstance, IsOperand}
use Rattle.stl_ast.specs.Sizes.{operand_ops_size, code_size, statement_size}
use Rattle.stl_ast.specs.Statements.{is_jump, is_call, has_actuals, is_empty_statement, is_nothing, is_label, names_called_block, has_instance, IsTarget, IsLabelOf, IsActual, AreActuals, IsStatement}
use Rattle.stl_lexer.specs.declared.marks.Mark.TheVariants as mark
use Rattle.stl_parser.specs.declared.keywords.ClauseWord.TheVariants as key
use Rattle.stl_parser.specs.declared.statements.BareStatement.{BareStatement}
use Rattle.stl_parser.specs.declared.tables.OperandSyntax.{OperandSyntax}
use Rattle.stl_parser.specs.declared.tables.OperandSyntax.TheVariants as operand_syntax
use Rattle.stl_parser.specs.Terminals.{has_kind, is_mark, is_key}
use Rattle.stl_parser.specs.Tables.{look_up, mnemonics, opening_mnemonics}
use Rattle.stl_parser.specs.Parts.{parts_from, complete_reading}
use Rattle.stl_parser.specs.Literals.{text_between_quotes}
use Rattle.stl_parser.specs.Addresses.{block_at}
use Rattle.stl_parser.specs.Operands.{operand_of}
use Rattle.stl_parser.specs.Statements as spec
use Rattle.stl_parser.proofs.OptionLemmas.{map_holds, chain_holds, either, both, then_holds, also, weaker_holds, whole_holds, parts_hold, all_push, entry_passes}
use Rattle.stl_parser.proofs.AddressLemmas.{block_holds}
use Rattle.stl_parser.proofs.OperandLemmas.{IsRead, operand_holds, nothing_holds}
use Rattle.stl_parser.proofs.LengthLemmas.{block_rest}

-- what an instruction with `more` tokens behind its word keeps
pub record IsInstruction (more : ℕ) (i : BareStatement) : Type 0 where
  pub value : IsOperand i.operand
  pub called : names_called_block i.operand ≡ is_call i.code
  pub instance : has_actuals i.code ≡ false → has_instance i.operand ≡ false
  pub target : i.long ≡ false → IsTarget i.operand
  pub jumps : is_label i.operand ≡ true → is_jump i.code ≡ true
  pub some : is_empty_statement i.code ≡ false
  pub actuals : AreActuals i.actuals
  pub no_actuals : has_actuals i.code ≡ false → i.actuals ≡ []
  pub size : operand_ops_size i.operand + 11 * length i.actuals ≤ 4 + 4 * more

-- an instruction word goes with what may stand behind it
abbrev goes_with : Mnemonic → OperandSyntax → Bool
goes_with m operand_syntax.Operand = not (is_call m)
goes_with m operand_syntax.Jump = is_jump m
goes_with m operand_syntax.Open = not (is_call m)
goes_with m operand_syntax.BlockCall = is_call m && not (has_actuals m)
goes_with m operand_syntax.Call = has_actuals m

all_go : list_all (λ e. goes_with e.1.0 e.1.1 && not (is_empty_statement e.1.0)) mnemonics ≡ true
unfolding mnemonics
all_go = refl

all_open : list_all (λ e. not (is_call e.1) && not (is_empty_statement e.1)) opening_mnemonics ≡ true
unfolding opening_mnemonics
all_open = refl

no_call : (m : Mnemonic) → is_jump m ≡ true → is_call m ≡ false
no_call mnemonic.Call h = cc
no_call mnemonic.Uc h = cc
no_call mnemonic.Cc h = cc
no_call _ h = refl

no_actuals_of : (m : Mnemonic) → is_call m ≡ false → has_actuals m ≡ false
no_actuals_of mnemonic.Call h = cc
no_actuals_of _ h = refl

calls : (m : Mnemonic) → has_actuals m ≡ true → is_call m ≡ true
calls mnemonic.Call h = refl
calls _ h = cc

true_is_no_false : {A : Type 0} (b : Bool) → b ≡ false → b ≡ true → A
true_is_no_false true h k = cc
true_is_no_false false h k = cc

-- an instruction that calls no block
plain_instruction : (code : Mnemonic) (o : Operand) (more : ℕ) → is_call code ≡ false → is_empty_statement code ≡ false → IsOperand o →
    names_called_block o ≡ false → is_label o ≡ false → operand_ops_size o ≤ 4 + 4 * more → IsInstruction more (spec.statement_without_actuals code o)
plain_instruction code o more call some value called label size =
    record {
      value = value;
      called = called ∙ sym call;
      instance = λ none. no_instance o called;
      target = λ short. no_target o label;
      jumps = λ is. true_is_no_false (is_label o) label is;
      some = some;
      actuals = tt;
      no_actuals = λ none. refl;
      size = omega (arith, size);
    }
  where
    no_instance : (o : Operand) → names_called_block o ≡ false → has_instance o ≡ false
    no_instance (operand.Called name instance) h = cc
    no_instance _ h = refl

    no_target : (o : Operand) → is_label o ≡ false → IsTarget o
    no_target (operand.Label name) h = cc
    no_target _ h = tt

with_operand_holds : (source : List ℕ) (code : Mnemonic) (tokens : List Token) → is_call code ≡ false → is_empty_statement code ≡ false →
    IfSome (spec.statement_with_operand source code tokens) (IsInstruction (length tokens))
unfolding spec.statement_with_operand
with_operand_holds source code [] call some =
    weaker_holds (option_map (spec.statement_without_actuals code) (operand_of source [])) (λ i. i ≡ spec.statement_without_actuals code operand.Nothing) (IsInstruction 0)
    (map_holds (operand_of source []) _ (λ o. o ≡ operand.Nothing) (λ i. i ≡ spec.statement_without_actuals code operand.Nothing) (nothing_read source)
    (λ o h. ap (spec.statement_without_actuals code) h))
    (λ i h. subst (IsInstruction 0) (sym h)
    (plain_instruction code operand.Nothing 0 call some tt refl refl (omega arith)))
  where
    nothing_read : (source : List ℕ) → IfSome (operand_of source []) (λ o. o ≡ operand.Nothing)
    nothing_read source = subst (λ found. IfSome found (λ o. o ≡ operand.Nothing)) (sym (nothing_holds source)) refl
with_operand_holds source code (t ∷ rest) call some =
    map_holds (operand_of source (t ∷ rest)) _ (IsRead (length rest)) (IsInstruction (length (t ∷ rest))) (operand_holds source t rest)
    (λ o h. plain_instruction code o (length (t ∷ rest)) call some h.0 h.2 h.3 (omega (arith, h.1)))

short : (n : ℕ) → nat_lt 4 n ≡ false → n ≤ 4
short n test = grind (arith, nat_tests)

jump_holds : (source : List ℕ) (code : Mnemonic) (tokens : List Token) → is_jump code ≡ true → is_empty_statement code ≡ false →
    IfSome (spec.jump_of source code tokens) (IsInstruction (length tokens))
unfolding spec.jump_of spec.is_long_label
jump_holds source code [] jump some = with_operand_holds source code [] (no_call code jump) some
jump_holds source code (t ∷ []) jump some =
    both (has_kind t kind.Word) _ _ (IsInstruction 1)
    (record {
      value = tt;
      called = sym (no_call code jump);
      instance = λ none. refl;
      target = λ test. short (length (text_of source t)) test;
      jumps = λ is. jump;
      some = some;
      actuals = tt;
      no_actuals = λ none. refl;
      size = omega arith;
    })
    (with_operand_holds source code (t ∷ []) (no_call code jump) some)
jump_holds source code (t ∷ u ∷ rest) jump some = with_operand_holds source code (t ∷ u ∷ rest) (no_call code jump) some

open_holds : (source : List ℕ) (code : Mnemonic) (tokens : List Token) → is_call code ≡ false → is_empty_statement code ≡ false →
    IfSome (spec.open_of source code tokens) (IsInstruction (length tokens))
unfolding spec.open_of
open_holds source code [] call some = with_operand_holds source code [] call some
open_holds source code (t ∷ []) call some =
    both (has_kind t kind.Quoted) _ _ (IsInstruction 1)
    (plain_instruction code (operand.OpenBlock false (block.Quoted (text_between_quotes (text_of source t)))) 1 call some tt refl refl (omega arith))
    (with_operand_holds source code (t ∷ []) call some)
open_holds source code (t ∷ u ∷ rest) call some = with_operand_holds source code (t ∷ u ∷ rest) call some

-- a name, and fewer tokens behind it
abbrev FirstIsBlockName : ℕ → BlockName × List Token → Type 0
FirstIsBlockName n r = IsAnyName r.0 × (length r.1 < n)

named_holds : (source : List ℕ) (tokens : List Token) → IfSome (block_at source tokens) (FirstIsBlockName (length tokens))
named_holds source tokens =
    also (block_at source tokens) (λ r. IsAnyName r.0) (λ r. length r.1 < length tokens) (block_holds source tokens) (block_rest source tokens)

block_call_holds : (source : List ℕ) (code : Mnemonic) (tokens : List Token) → is_call code ≡ true → has_actuals code ≡ false →
    is_empty_statement code ≡ false → IfSome (spec.block_call_of source code tokens) (IsInstruction (length tokens))
unfolding spec.block_call_of
block_call_holds source code tokens call none some =
    map_holds (complete_reading (block_at source tokens)) _ (λ name. IsAnyName name × (1 ≤ length tokens)) (IsInstruction (length tokens))
    (whole_holds (block_at source tokens) (λ name. IsAnyName name × (1 ≤ length tokens))
    (weaker_holds (block_at source tokens) (FirstIsBlockName (length tokens)) (λ r. IsAnyName r.0 × (1 ≤ length tokens)) (named_holds source tokens)
    (λ r h. (h.0, omega (arith, h.1)))))
    (λ name h. record {
      value = (h.0, tt);
      called = sym call;
      instance = λ lacks. refl;
      target = λ lacks. tt;
      jumps = λ is. true_is_no_false false refl is;
      some = some;
      actuals = tt;
      no_actuals = λ lacks. refl;
      size = omega (arith, h.1);
    })

is_data_block : (k : BlockKind) → of_kind.is_data_block k ≡ true → k ≡ kinds.Db
is_data_block kinds.Db h = refl
is_data_block _ h = cc

is_function_block : (k : BlockKind) → of_kind.is_function_block k ≡ true → k ≡ kinds.Fb
is_function_block kinds.Fb h = refl
is_function_block _ h = cc

-- a name that may be that of a block of the kind
may_be_holds : (name : BlockName) (test : BlockKind → Bool) (kinds : BlockKind → Type 0) → IsAnyName name →
    ((k : BlockKind) → test k ≡ true → kinds k) → spec.may_be_of_kind name test ≡ true → IsNameOf kinds name
may_be_holds (block.Number id) test kinds h k passes = (k id.kind passes, h.1)
may_be_holds (block.Quoted name) test kinds h k passes = tt

abbrev FirstIsDataBlock : ℕ → BlockName × List Token → Type 0
FirstIsDataBlock n r = IsDataBlockName r.0 × (length r.1 ≤ n)

data_block_holds : (source : List ℕ) (tokens : List Token) → IfSome (spec.data_block_at source tokens) (FirstIsDataBlock (length tokens))
unfolding spec.data_block_at
data_block_holds source tokens =
    chain_holds (block_at source tokens) _ (FirstIsBlockName (length tokens)) (FirstIsDataBlock (length tokens)) (named_holds source tokens)
    (λ r h. then_holds (spec.may_be_of_kind r.0 of_kind.is_data_block) _ (FirstIsDataBlock (length tokens))
    (λ test. (may_be_holds r.0 of_kind.is_data_block (λ k. k ≡ kinds.Db) h.0 is_data_block test, omega (arith, h.1))))

abbrev FirstIsInstance : BlockName → ℕ → Option BlockName × List Token → Type 0
FirstIsInstance name n r = IsInstance name r.0 × (length r.1 ≤ n)

instance_holds : (source : List ℕ) (name : BlockName) (tokens : List Token) → IsAnyName name →
    IfSome (spec.instance_at source name tokens) (FirstIsInstance name (length tokens))
unfolding spec.instance_at
instance_holds source name [] h = (tt, omega arith)
instance_holds source name (t ∷ rest) h =
    both (is_mark source t mark.Comma) _ _ (FirstIsInstance name (length (t ∷ rest)))
    (then_holds (spec.may_be_of_kind name of_kind.is_function_block) _ (FirstIsInstance name (length (t ∷ rest)))
    (λ test. map_holds (spec.data_block_at source rest) _ (FirstIsDataBlock (length rest)) (FirstIsInstance name (length (t ∷ rest)))
    (data_block_holds source rest)
    (λ r k. ((may_be_holds name of_kind.is_function_block (λ k. k ≡ kinds.Fb) h is_function_block test, k.0), omega (arith, k.1)))))
    (tt, omega arith)

-- the value of an actual parameter
abbrev IsValue : Operand → Type 0
IsValue o = IsOperand o × (names_called_block o ≡ false) × (is_label o ≡ false) × (is_nothing o ≡ false)

value_holds : (source : List ℕ) (tokens : List Token) → IfSome (spec.value_of source tokens) (λ o. IsValue o × (1 ≤ length tokens))
unfolding spec.value_of
value_holds source [] = tt
value_holds source (t ∷ rest) =
    weaker_holds (operand_of source (t ∷ rest)) (IsRead (length rest)) (λ o. IsValue o × (1 ≤ length (t ∷ rest))) (operand_holds source t rest)
    (λ o h. ((h.0, h.2, h.3, h.4), omega arith))

-- an actual parameter takes three tokens at least
abbrev FirstIsActual : ℕ → Actual × List Token → Type 0
FirstIsActual n r = IsActual r.0 × (length r.1 + 3 ≤ n)

some_taken : (n : ℕ) (tokens : List Token) → 1 ≤ length (take n tokens) → length (drop n tokens) + 1 ≤ length tokens
some_taken zero tokens h = absurd (none_taken tokens h)
  where
    none_taken : (tokens : List Token) → 1 ≤ length (take 0 tokens) → ⊥
    none_taken [] h = omega (arith, h)
    none_taken (t ∷ ts) h = omega (arith, h)
some_taken (suc n) [] h = absurd (omega (arith, h))
some_taken (suc n) (t ∷ ts) h = omega (arith, length-drop n ts)

actual_holds : (source : List ℕ) (tokens : List Token) → IfSome (spec.actual_at source tokens) (FirstIsActual (length tokens))
unfolding spec.actual_at
actual_holds source (w ∷ assign ∷ rest) =
    then_holds (has_kind w kind.Word && is_mark source assign mark.Assign) _ (FirstIsActual (length (w ∷ assign ∷ rest)))
    (λ test. map_holds (spec.value_of source (take (spec.value_length source rest) rest)) _
    (λ o. IsValue o × (1 ≤ length (take (spec.value_length source rest) rest))) (FirstIsActual (length (w ∷ assign ∷ rest)))
    (value_holds source (take (spec.value_length source rest) rest))
    (λ o h. (
      record { value = h.0.0; no_block = h.0.1; no_label = h.0.2; something = h.0.3 },
      omega (arith, some_taken (spec.value_length source rest) rest h.1),
    )))
actual_holds source _ = tt

next_actual_holds : (source : List ℕ) (tokens : List Token) →
    IfSome (spec.next_actual source tokens) (λ r. IsActual r.0 × (length r.1 + 4 ≤ length tokens))
unfolding spec.next_actual
next_actual_holds source [] = tt
next_actual_holds source (t ∷ rest) =
    then_holds (is_mark source t mark.Comma) _ (λ r. IsActual r.0 × (length r.1 + 4 ≤ length (t ∷ rest)))
    (λ test. weaker_holds (spec.actual_at source rest) (FirstIsActual (length rest)) (λ r. IsActual r.0 × (length r.1 + 4 ≤ length (t ∷ rest)))
    (actual_holds source rest) (λ r h. (h.0, omega (arith, h.1))))

-- actual parameters, with four tokens for each
abbrev AreReadActuals : ℕ → List Actual → List Token → Type 0
AreReadActuals n xs ts = AreActuals xs × (4 * length xs + length ts ≤ n)

abbrev AreSized : ℕ → List Actual → Type 0
AreSized n xs = AreActuals xs × (4 * length xs ≤ n)

further_actuals : (source : List ℕ) (n : ℕ) (first : Actual) (left : ℕ) (tokens : List Token) → IsActual first → 4 + length tokens ≤ n →
    IfSome (parts_from (spec.actuals_end source) (spec.next_actual source) (first ∷ []) left tokens) (λ r. AreSized n r.0)
further_actuals source n first left tokens h fits =
    parts_hold (spec.actuals_end source) (spec.next_actual source) (first ∷ []) left tokens (AreReadActuals n) (AreSized n)
    ((h, tt), omega (arith, fits))
    (λ xs ts k. weaker_holds (spec.next_actual source ts) (λ r. IsActual r.0 × (length r.1 + 4 ≤ length ts))
    (λ r. AreReadActuals n (xs ++ r.0 ∷ []) r.1) (next_actual_holds source ts)
    (λ r one. (all_push IsActual xs r.0 k.0 one.0, omega (arith, k.1, one.1, length-append xs (r.0 ∷ [])))))
    (λ xs ts k. (k.0, omega (arith, k.1)))

actuals_behind_hold : (source : List ℕ) (tokens : List Token) →
    IfSome (spec.actuals_behind source tokens) (AreSized (1 + length tokens))
unfolding spec.actuals_behind
actuals_behind_hold source tokens =
    chain_holds (spec.actual_at source tokens) _ (FirstIsActual (length tokens)) (AreSized (1 + length tokens)) (actual_holds source tokens)
    (λ r h. whole_holds (parts_from (spec.actuals_end source) (spec.next_actual source) (r.0 ∷ []) (length r.1) r.1) (AreSized (1 + length tokens))
    (further_actuals source (1 + length tokens) r.0 (length r.1) r.1 h.0 (omega (arith, h.1))))

actuals_hold : (source : List ℕ) (tokens : List Token) → IfSome (spec.actuals_of source tokens) (AreSized (length tokens))
unfolding spec.actuals_of
actuals_hold source [] = (tt, omega arith)
actuals_hold source (t ∷ rest) =
    then_holds (is_mark source t mark.OpenParen) _ (AreSized (length (t ∷ rest)))
    (λ test. weaker_holds (spec.actuals_behind source rest) (AreSized (1 + length rest)) (AreSized (length (t ∷ rest))) (actuals_behind_hold source rest)
    (λ xs h. (h.0, omega (arith, h.1))))

call_holds : (source : List ℕ) (code : Mnemonic) (tokens : List Token) → has_actuals code ≡ true → is_empty_statement code ≡ false →
    IfSome (spec.call_of source code tokens) (IsInstruction (length tokens))
unfolding spec.call_of
call_holds source code tokens has some =
    chain_holds (block_at source tokens) _ (FirstIsBlockName (length tokens)) (IsInstruction (length tokens)) (named_holds source tokens)
    (λ b h. chain_holds (spec.instance_at source b.0 b.1) _ (FirstIsInstance b.0 (length b.1)) (IsInstruction (length tokens))
    (instance_holds source b.0 b.1 h.0)
    (λ i k. map_holds (spec.actuals_of source i.1) _ (AreSized (length i.1)) (IsInstruction (length tokens)) (actuals_hold source i.1)
    (λ xs l. record {
      value = (h.0, k.0);
      called = sym (calls code has);
      instance = λ lacks. true_is_no_false (has_actuals code) lacks has;
      target = λ lacks. tt;
      jumps = λ is. true_is_no_false false refl is;
      some = some;
      actuals = l.0;
      no_actuals = λ lacks. true_is_no_false (has_actuals code) lacks has;
      size = omega (arith, h.1, k.1, l.1);
    })))

behind_word_holds : (source : List ℕ) (f : OperandSyntax) (code : Mnemonic) (tokens : List Token) → goes_with code f ≡ true → is_empty_statement code ≡ false →
    IfSome (spec.behind_word source f code tokens) (IsInstruction (length tokens))
unfolding spec.behind_word
behind_word_holds source operand_syntax.Operand code tokens goes some = with_operand_holds source code tokens (not-true (is_call code) goes) some
behind_word_holds source operand_syntax.Jump code tokens goes some = jump_holds source code tokens goes some
behind_word_holds source operand_syntax.Open code tokens goes some = open_holds source code tokens (not-true (is_call code) goes) some
behind_word_holds source operand_syntax.BlockCall code tokens goes some =
    block_call_holds source code tokens (and_first (is_call code) _ goes)
    (not-true (has_actuals code) (and_second (is_call code) _ goes)) some
behind_word_holds source operand_syntax.Call code tokens goes some = call_holds source code tokens goes some

paren_holds : (source : List ℕ) (tokens : List Token) → IfSome (spec.after_paren source tokens) (λ rest. length rest < length tokens)
unfolding spec.after_paren
paren_holds source [] = tt
paren_holds source (t ∷ rest) =
    then_holds (is_mark source t mark.OpenParen) _ (λ r. length r < length (t ∷ rest)) (λ test. omega arith)

-- more tokens leave more room
roomier : (low high : ℕ) (i : BareStatement) → low ≤ high → IsInstruction low i → IsInstruction high i
roomier low high i more h =
    record {
      value = h.value;
      called = h.called;
      instance = h.instance;
      target = h.target;
      jumps = h.jumps;
      some = h.some;
      actuals = h.actuals;
      no_actuals = h.no_actuals;
      size = omega (arith, more, h.size);
    }

opening_holds : (source : List ℕ) (t : Token) (rest : List Token) → IfSome (spec.opening_instruction source t rest) (IsInstruction (length rest))
unfolding spec.opening_instruction
opening_holds source t rest =
    chain_holds (look_up opening_mnemonics (text_of source t)) _ (λ m. not (is_call m) && not (is_empty_statement m) ≡ true) (IsInstruction (length rest))
    (entry_passes opening_mnemonics (text_of source t) (λ m. not (is_call m) && not (is_empty_statement m)) all_open)
    (λ m h. chain_holds (spec.after_paren source rest) _ (λ behind. length behind < length rest) (IsInstruction (length rest)) (paren_holds source rest)
    (λ behind k. weaker_holds (spec.statement_with_operand source m behind) (IsInstruction (length behind)) (IsInstruction (length rest))
    (with_operand_holds source m behind (not-true (is_call m) (and_first (not (is_call m)) _ h))
    (not-true (is_empty_statement m) (and_second (not (is_call m)) _ h)))
    (λ i l. roomier (length behind) (length rest) i (omega (arith, k)) l)))

zone_end_holds : (source : List ℕ) (t : Token) (rest : List Token) → IfSome (spec.zone_end_of source t rest) (IsInstruction (length rest))
unfolding spec.zone_end_of
zone_end_holds source t [] = tt
zone_end_holds source t (w ∷ rest) =
    then_holds (is_mark source t mark.CloseParen && is_key source w key.Mcr) _ (IsInstruction (length (w ∷ rest)))
    (λ test. weaker_holds (spec.statement_with_operand source mnemonic.McrClose rest) (IsInstruction (length rest)) (IsInstruction (length (w ∷ rest)))
    (with_operand_holds source mnemonic.McrClose rest refl refl)
    (λ i h. roomier (length rest) (length (w ∷ rest)) i (omega arith) h))

closed_holds : (source : List ℕ) (t : Token) (rest : List Token) → IfSome (spec.one_token_instruction source t rest) (IsInstruction (length rest))
unfolding spec.one_token_instruction
closed_holds source t rest =
    chain_holds (look_up mnemonics (text_of source t)) _ (λ m. goes_with m.0 m.1 && not (is_empty_statement m.0) ≡ true) (IsInstruction (length rest))
    (entry_passes mnemonics (text_of source t) (λ m. goes_with m.0 m.1 && not (is_empty_statement m.0)) all_go)
    (λ m h. behind_word_holds source m.1 m.0 rest (and_first (goes_with m.0 m.1) _ h)
    (not-true (is_empty_statement m.0) (and_second (goes_with m.0 m.1) _ h)))

-- an instruction, with the tokens behind its word
abbrev IsInstructionOf : List Token → BareStatement → Type 0
IsInstructionOf [] i = ⊥
IsInstructionOf (t ∷ rest) i = IsInstruction (length rest) i

instruction_holds : (source : List ℕ) (tokens : List Token) → IfSome (spec.instruction_of source tokens) (IsInstructionOf tokens)
unfolding spec.instruction_of
instruction_holds source [] = tt
instruction_holds source (t ∷ rest) =
    either (spec.opening_instruction source t rest) _ (IsInstruction (length rest)) (opening_holds source t rest)
    (either (spec.zone_end_of source t rest) _ (IsInstruction (length rest)) (zone_end_holds source t rest) (closed_holds source t rest))

most_size : (code : Mnemonic) (o : Operand) (n : ℕ) → code_size code o n ≤ 4 + operand_ops_size o + 11 * n
most_size mnemonic.Empty o n = omega arith
most_size _ o n = omega arith

-- a statement of so many tokens before its `;`: it is right where no label is too long
abbrev pub IsReadStatement : ℕ → Statement × Bool → Type 0
IsReadStatement n r = (r.1 ≡ false → IsStatement r.0) × (statement_size r.0 ≤ 4 + 4 * n)

of_instruction : (line more : ℕ) (label : Option (List ℕ)) (i : BareStatement) → IsInstruction more i → i.long ≡ false → IsLabelOf label →
    IsStatement (spec.statement_with_label line label i)
of_instruction line more label i h short named =
    record {
      label = named;
      value = h.value;
      called = h.called;
      instance = h.instance;
      target = h.target short;
      jumps = h.jumps;
      empty = λ is. true_is_no_false (is_empty_statement i.code) h.some is;
      unlabelled = λ is. true_is_no_false (is_empty_statement i.code) h.some is;
      actuals = h.actuals;
      no_actuals = h.no_actuals;
    }

unlabelled_holds : (source : List ℕ) (line : ℕ) (tokens : List Token) →
    IfSome (spec.unlabelled_statement source line tokens) (IsReadStatement (length tokens))
unfolding spec.unlabelled_statement
unlabelled_holds source line [] =
    map_holds (spec.instruction_of source []) _ (IsInstructionOf []) (IsReadStatement 0) (instruction_holds source []) (λ i h. absurd h)
unlabelled_holds source line (t ∷ rest) =
    map_holds (spec.instruction_of source (t ∷ rest)) _ (IsInstruction (length rest)) (IsReadStatement (length (t ∷ rest)))
    (instruction_holds source (t ∷ rest))
    (λ i h. (
      λ short. of_instruction line (length rest) None i h short tt,
      omega (arith, h.size, most_size i.code i.operand (length i.actuals)),
    ))

or_left : (a b : Bool) → a || b ≡ false → a ≡ false
or_left true b h = cc
or_left false b h = refl

or_right : (a b : Bool) → a || b ≡ false → b ≡ false
or_right true b h = cc
or_right false b h = h

labelled_holds : (source : List ℕ) (line : ℕ) (w : Token) (tokens : List Token) →
    IfSome (spec.labelled_statement source line w tokens) (IsReadStatement (length tokens))
unfolding spec.labelled_statement spec.is_long_label
labelled_holds source line w [] =
    map_holds (spec.instruction_of source []) _ (IsInstructionOf []) (IsReadStatement 0) (instruction_holds source []) (λ i h. absurd h)
labelled_holds source line w (t ∷ rest) =
    map_holds (spec.instruction_of source (t ∷ rest)) _ (IsInstruction (length rest)) (IsReadStatement (length (t ∷ rest)))
    (instruction_holds source (t ∷ rest))
    (λ i h. (
      λ test. of_instruction line (length rest) (Some (text_of source w)) i h (or_left i.long _ test)
          (short (length (text_of source w)) (or_right i.long _ test)),
      omega (arith, h.size, most_size i.code i.operand (length i.actuals)),
    ))

-- a statement before its `;`
pub statement_holds : (source : List ℕ) (line : ℕ) (tokens : List Token) →
    IfSome (spec.statement_of source line tokens) (IsReadStatement (length tokens))
unfolding spec.statement_of
statement_holds source line [] = (
  λ test. record {
    label = tt;
    value = tt;
    called = refl;
    instance = λ lacks. refl;
    target = tt;
    jumps = λ is. true_is_no_false false refl is;
    empty = λ is. refl;
    unlabelled = λ is. refl;
    actuals = tt;
    no_actuals = λ lacks. refl;
  },
  omega arith,
)
statement_holds source line (w ∷ []) = unlabelled_holds source line (w ∷ [])
statement_holds source line (w ∷ colon ∷ rest) =
    both (has_kind w kind.Word && is_mark source colon mark.Colon) _ _ (IsReadStatement (length (w ∷ colon ∷ rest)))
    (weaker_holds (spec.labelled_statement source line w rest) (IsReadStatement (length rest)) (IsReadStatement (length (w ∷ colon ∷ rest)))
    (labelled_holds source line w rest) (λ r h. (h.0, omega (arith, h.1))))
    (unlabelled_holds source line (w ∷ colon ∷ rest))
