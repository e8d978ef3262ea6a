-- The operands of an accepted source are right ones.
use Rattle.std.proofs.Common.{◌≡◌, ℕ, suc, ◌≤◌, List, [], ◌∷◌, Option, Some, None, find, true, false, Bool, if◌then◌else◌, subst, arith}
use Rattle.std.specs.List.{AllByRecursion}
use Rattle.plc_base.specs.Folding.{is_same_name}
use Rattle.plc_base.specs.declared.places.Area.{Area}
use Rattle.plc_base.specs.declared.places.Area.TheVariants as area
use Rattle.plc_base.specs.declared.places.Width.TheVariants as width
use Rattle.stl_ast.specs.Literals.{IsLiteral}
use Rattle.stl_ast.specs.Operands.{IsOperand}
use Rattle.stl_ast.specs.Statements.{AreActuals}
use Rattle.stl_ast.specs.declared.blocks.Block.{Block}
use Rattle.stl_ast.specs.declared.blocks.Tree.{Tree}
use Rattle.stl_ast.specs.declared.declarations.Simple.TheVariants as simple
use Rattle.stl_ast.specs.declared.literals.Literal.{Literal}
use Rattle.stl_ast.specs.declared.operands.Letters.{Letters}
use Rattle.stl_ast.specs.declared.operands.Operand.{Operand}
use Rattle.stl_ast.specs.declared.operands.Operand.TheVariants as operand
use Rattle.stl_ast.specs.declared.statements.Actual.{Actual}
use Rattle.stl_ast.specs.declared.statements.Statement.{Statement}
use Rattle.stl_symbols.specs.Symbol.{IsSymbol, IsSymbolTarget, Symbol, symbol_named}
use Rattle.stl_symbols.proofs.FileLemmas.{symbols_right}
use Rattle.block_layout.specs.Fits.{bits_of, fits_elementary_type}
use Rattle.block_layout.specs.Layouts.{layouts_of}
use Rattle.block_layout.specs.Measures.{types_of_source}
use Rattle.block_layout.specs.declared.blocks.BlockLayout.{BlockLayout}
use Rattle.stl_types.specs.Addresses.{area_of_pointer, area_for_letters}
use Rattle.stl_types.specs.Context.{Context}
use Rattle.sem_kept.specs.CodedBlocks.{HasBytes, OperandHasBytes, StatementHasBytes}
use Rattle.sem_kept.proofs.accepted.Accepted.{AllLaid, IsSoundBlock, IsSoundStatement, right_tree}
use Rattle.sem_kept.proofs.accepted.CodedBits.{value_fits}
use Rattle.sem_kept.proofs.accepted.CodedBytes.{tree_has}
use Rattle.listing_laws.specs.ListedSource.{source_context_at}
use Rattle.listing_laws.specs.Bodies.{IsNoBit}
use Rattle.listing_laws.specs.CallsAgain.{AreOperandsRight, IsRightStatement}
use Rattle.listing_laws.specs.Instructions.{IsCodedOperand, IsRightOperand}
use Rattle.listing_laws.specs.Operands.{IsConstantCoded}
use Rattle.listing_laws.proofs.naming.Read.{OperandIsNoBit, ActualIsNoBit, StatementIsNoBit}
use Rattle.listing_laws.proofs.naming.Trees.{BlockIsNoBit, tree_plain}

-- ---- operands

constant_coded : (value : Literal) → IsLiteral value → HasBytes value → IsConstantCoded value
constant_coded value is has = record { literal = is; word = word }
  where
    word : fits_elementary_type value simple.Word ≡ true → bits_of value ≤ 65535
    word e = let few = value_fits value simple.Word is has e in omega (arith, few)

pointer_coded : (a : Option Letters) (byte bit : ℕ) → OperandIsNoBit (operand.Pointer a byte bit) → area_of_pointer a ≡ Some area.P → ⊥
pointer_coded None byte bit h e = absurd cc
pointer_coded (Some a) byte bit h e = subst (λ (z : Area). IsNoBit z width.Bit) (same (area_for_letters a) e) h
  where
    same : (z : Area) → Some z ≡ Some area.P → z ≡ area.P
    same z e = cc

operand_coded : (o : Operand) → IsOperand o → OperandHasBytes o → OperandIsNoBit o → IsCodedOperand o
operand_coded (operand.Constant value) is has plain = constant_coded value is has
operand_coded (operand.Pointer a byte bit) is has plain = pointer_coded a byte bit plain
operand_coded _ is has plain = tt

-- ---- symbols

found_symbol : (test : Symbol → Bool) (ss : List Symbol) → AllByRecursion IsSymbol ss → (s : Symbol) → find test ss ≡ Some s → IsSymbolTarget s.target
found_symbol test [] h s e = absurd cc
found_symbol test (x ∷ ss) h s e = by (test x) e (found_symbol test ss h.1 s)
  where
    same : (y : Symbol) → Some x ≡ Some y → x ≡ y
    same y k = cc

    by : (b : Bool) → (if b then Some x else find test ss) ≡ Some s → (find test ss ≡ Some s → IsSymbolTarget s.target) → IsSymbolTarget s.target
    by true k more = subst (λ (z : Symbol). IsSymbolTarget z.target) (same s k) h.0.target
    by false k more = more k

named_target : (name : List ℕ) (symbols : List Symbol) → AllByRecursion IsSymbol symbols → (s : Symbol) → symbol_named name symbols ≡ Some s → IsSymbolTarget s.target
unfolding symbol_named
named_target name symbols h s e = found_symbol (λ symbol. is_same_name name symbol.name) symbols h s e

-- ---- statements

actuals_right : (symbols : List Symbol) → AllByRecursion IsSymbol symbols → (xs : List Actual) → AreActuals xs → AllByRecursion (λ a. OperandHasBytes a.value) xs → AllByRecursion ActualIsNoBit xs
    → AllByRecursion (λ (a : Actual). IsRightOperand symbols a.value) xs
actuals_right symbols each [] is has plain = tt
actuals_right symbols each (x ∷ xs) is has plain = (
  record { written = is.0.value; coded = operand_coded x.value is.0.value has.0 plain.0; targets = λ name s e. named_target name symbols each s e },
  actuals_right symbols each xs is.1 has.1 plain.1,
)

statements_right : (symbols : List Symbol) (t : Tree) (c : Context) → AllByRecursion IsSymbol symbols → (ss : List Statement) → AllByRecursion (IsSoundStatement (types_of_source symbols t.blocks) c) ss
    → AllByRecursion StatementHasBytes ss → AllByRecursion StatementIsNoBit ss → AllByRecursion (IsRightStatement symbols) ss
statements_right symbols t c each [] sound has plain = tt
statements_right symbols t c each (s ∷ ss) sound has plain = (
  record {
    operand = record {
      written = sound.0.well_formed.value;
      coded = operand_coded s.operand sound.0.well_formed.value has.0.operand plain.0.0;
      targets = λ name z e. named_target name symbols each z e;
    };
    actuals = actuals_right symbols each s.actuals sound.0.well_formed.actuals has.0.actuals plain.0.1;
  },
  statements_right symbols t c each ss sound.1 has.1 plain.1,
)

all_right : (symbols : List Symbol) (t : Tree) → AllByRecursion IsSymbol symbols → (k : ℕ) (bs : List Block) (ls : List BlockLayout) → AllLaid (IsSoundBlock symbols t) k bs ls
    → AllByRecursion (λ b. AllByRecursion StatementHasBytes b.body) bs → AllByRecursion BlockIsNoBit bs → AllByRecursion (λ b. AllByRecursion (IsRightStatement symbols) b.body) bs
all_right symbols t each k [] ls laid has plain = tt
all_right symbols t each k (b ∷ bs) [] laid has plain = absurd laid
all_right symbols t each k (b ∷ bs) (l ∷ ls) laid has plain = (
  statements_right symbols t (source_context_at symbols t k) each b.body laid.0.statements has.0 plain.0,
  all_right symbols t each (suc k) bs ls laid.1 has.1 plain.1,
)

pub operands_right : AreOperandsRight
operands_right source file symbols t accepted bytes =
    all_right symbols t (symbols_right accepted.language file symbols accepted.named).each 0 t.blocks (layouts_of t symbols) (right_tree source file symbols t accepted).blocks
    (tree_has source accepted.tokens t bytes accepted.parsed) (tree_plain source accepted.tokens t accepted.parsed)
