-- The labels of a listing.
use Rattle.std.specs.Prelude.{◌≡◌, ℕ, ◌<◌, ◌≤◌, true, List, [], length}
use Rattle.std.specs.List.{AllByRecursion}
use Rattle.flat_code.specs.Instr.{Instr}
use Rattle.stl_ast.specs.declared.blocks.Block.{Block}
use Rattle.stl_types.specs.Context.{Context}
use Rattle.stl_types.specs.Labels.{labels_of, labels_twice, unknown_labels}
use Rattle.stl_codegen.specs.CompiledBlock.{StatedBlock, compiled_block}
use Rattle.stl_codegen.specs.GeneratedProgram.{statements_of}
use Rattle.stl_list.specs.Signatures.{Signature}
use Rattle.stl_list.specs.Statements.{body_of}
use Rattle.listing_laws.specs.Statements.{jumps_to}

-- no two statements of the listed body of a block have one label
abbrev pub AreStatementLabelsOnce : Type 0
AreStatementLabelsOnce =
    (signatures : List Signature) (lines : List ℕ) (b : StatedBlock)
    → length b.statements ≤ 93312
    → labels_twice [] (body_of signatures lines (compiled_block b)) ≡ []

-- an instruction that jumps leads to one of `count` statements
abbrev pub LeadsWithin : (count : ℕ) → Instr → Type 0
LeadsWithin count i = (n : ℕ) → jumps_to n i ≡ true → n < count

-- where the jumps of a block lead to its statements, each jump of its listed body is to a label
-- that stands in that body
abbrev pub AreJumpLabelsKnown : Type 0
AreJumpLabelsKnown =
    (signatures : List Signature) (lines : List ℕ) (b : StatedBlock)
    → AllByRecursion (λ s. LeadsWithin (length b.statements) s.instr) b.statements
    → unknown_labels (labels_of (body_of signatures lines (compiled_block b)))
    (body_of signatures lines (compiled_block b)) ≡ []

-- the jumps of a block of a source lead to its statements, whatever it breaks
abbrev pub AreJumpsWithin : Type 0
AreJumpsWithin =
    (c : Context) (b : Block)
    → AllByRecursion (λ s. LeadsWithin (length (statements_of c b)) s.instr) (statements_of c b)
