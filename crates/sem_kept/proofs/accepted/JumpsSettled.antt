-- In an accepted source the operand of each statement but a call is checked.
use Rattle.std.proofs.Common.{◌≡◌, ◌≤◌, ℕ, Bool, true, false, List, [], ◌∷◌, map, Some, None, refl, sym, subst}
use Rattle.std.specs.List.{AllByRecursion, slice_get}
use Rattle.plc_base.specs.Kinds.{kind_number, is_code}
use Rattle.flat_code.specs.Blocks.{Environment}
use Rattle.flat_code.specs.Image.{record_of_param}
use Rattle.stl_ast.specs.Statements.{names_called_block}
use Rattle.stl_ast.specs.declared.blocks.Block.{Block}
use Rattle.stl_ast.specs.declared.blocks.Tree.{Tree}
use Rattle.stl_ast.specs.declared.statements.Statement.{Statement}
use Rattle.stl_symbols.specs.Symbol.{Symbol}
use Rattle.block_layout.specs.Lengths.{farthest_operand_end, local_len}
use Rattle.block_layout.specs.Measures.{types_of_source}
use Rattle.block_layout.specs.declared.blocks.BlockLayout.{BlockLayout}
use Rattle.stl_types.specs.Resolution.{resolution_of}
use Rattle.stl_types.specs.declared.resolved_operands.Resolution.{Resolution}
use Rattle.stl_codegen.specs.GeneratedProgram.{params_of}
use Rattle.sem_kept.specs.AcceptedSource.{IsAccepted}
use Rattle.sem_kept.specs.SettledStatements.{context_at}
use Rattle.sem_kept.proofs.accepted.Accepted.{IsSoundBlock, IsSoundStatement, IsSoundTree, right_tree}
use Rattle.sem_kept.proofs.accepted.JumpsOperands.{Settles}
use Rattle.sem_kept.proofs.accepted.OperandsCells.{layout_of_block}
use Rattle.sem_kept.proofs.accepted.OperandsSymbols.{IsRightSymbol, symbols_fit}
use Rattle.sem_kept.proofs.accepted.OperandsViews.{EndsBy, ResolvesRight, ends_by, holds_locals, layout_local, operand_seen}

-- the operand of a statement of the block at a place
abbrev pub Settle : List Symbol → Tree → ℕ → Statement → Type 0
Settle symbols t k s = names_called_block s.operand ≡ false → Settles (resolution_of (context_at symbols t k) s.operand)

seen_settles : (a : Environment) (x : Resolution) → ResolvesRight a x → Settles x
seen_settles a x h = subst Settles (sym h.is) tt

-- no other block has a part in it
abbrev environment_of_alone : Block → BlockLayout → Environment
environment_of_alone b l = record {
  kind = kind_number b.kind;
  local_len = l.local_len;
  params = map record_of_param (params_of b l);
  blocks = [];
  data_lens = None;
}

all_settle : (symbols : List Symbol) (t : Tree) → IsSoundTree symbols t
    → AllByRecursion IsRightSymbol symbols → (k : ℕ) (b : Block) (l : BlockLayout)
    → IsSoundBlock symbols t k b l → is_code b.kind ≡ true → (ss : List Statement)
    → AllByRecursion (IsSoundStatement (types_of_source symbols t.blocks) (context_at symbols t k)) ss
    → AllByRecursion (EndsBy l.local_len) ss → AllByRecursion (Settle symbols t k) ss
all_settle symbols t tree fit k b l block is [] h ends = tt
all_settle symbols t tree fit k b l block is (s ∷ ss) h ends = (
  λ other.
      seen_settles (environment_of_alone b l) (resolution_of (context_at symbols t k) s.operand)
      (operand_seen symbols t tree fit k b l block is (environment_of_alone b l)
      (record { kind = refl; local = refl; params = refl }) s.operand (record {
        well_formed = h.0.well_formed.value;
        known = h.0.known;
        there = h.0.there;
        inside = h.0.inside;
      }) other ends.0.0),
  all_settle symbols t tree fit k b l block is ss h.1 ends.1,
)

block_settles : (symbols : List Symbol) (t : Tree) → IsSoundTree symbols t
    → AllByRecursion IsRightSymbol symbols → (k : ℕ) (b : Block) (l : BlockLayout)
    → IsSoundBlock symbols t k b l → AllByRecursion (Settle symbols t k) b.body
block_settles symbols t tree fit k b l block = by (is_code b.kind) refl
  where
    by : (code : Bool) → is_code b.kind ≡ code → AllByRecursion (Settle symbols t k) b.body
    by true is =
        all_settle symbols t tree fit k b l block is b.body block.statements
        (ends_by l.local_len b.body
        (subst (λ (n : ℕ). farthest_operand_end b.body ≤ n) (sym (layout_local symbols t k b l block))
        (holds_locals (types_of_source symbols t.blocks) b is block.head.by_50).operands))
    by false is =
        subst (AllByRecursion (Settle symbols t k))
        (sym (block.well_formed.runs.1 is)) tt

pub operands_settle : (source file : List ℕ) (symbols : List Symbol) (t : Tree)
    → IsAccepted source file symbols t → (k : ℕ) (b : Block) → slice_get t.blocks k ≡ Some b
    → AllByRecursion (Settle symbols t k) b.body
operands_settle source file symbols t accepted k b there =
    let tree = right_tree source file symbols t accepted in
    let laid = layout_of_block symbols t tree k b there in
    block_settles symbols t tree (symbols_fit accepted.language file symbols accepted.named) k b laid.0 laid.2
