-- The calls of a source hand on the types of its parameters.
use Rattle.std.proofs.Common.{◌≡◌, ℕ, suc, Bool, true, false, List, [], ◌∷◌, length, map, Option, Some, None, refl, if◌then◌else◌}
use Rattle.std.specs.List.{AllByRecursion}
use Rattle.plc_base.proofs.ListLemmas.{all_append}
use Rattle.plc_base.specs.Kinds.{is_code}
use Rattle.plc_base.specs.declared.blocks.BlockId.{BlockId}
use Rattle.flat_code.specs.Programs.{CodeBlock}
use Rattle.stl_ast.specs.Statements.{is_empty_statement}
use Rattle.stl_ast.specs.declared.blocks.Block.{Block}
use Rattle.stl_ast.specs.declared.blocks.Tree.{Tree}
use Rattle.stl_ast.specs.declared.declarations.Simple.{Simple}
use Rattle.stl_ast.specs.declared.statements.Statement.{Statement}
use Rattle.stl_symbols.specs.Symbol.{Symbol}
use Rattle.block_layout.specs.declared.blocks.BlockLayout.{BlockLayout}
use Rattle.stl_types.specs.Bodies.{first_context}
use Rattle.stl_types.specs.Context.{Context}
use Rattle.stl_codegen.specs.CompiledBlock.{SourceInstruction, StatedBlock, compiled_block}
use Rattle.stl_codegen.specs.GeneratedProgram.{code_block, code_block_of, code_blocks_of, each_block, statements_of, instructions_from}
use Rattle.stl_codegen.specs.Instruction.{instruction}
use Rattle.stl_codegen.specs.Order.{is_code_before}
use Rattle.listing_laws.specs.HandedTypes.{HandsTypesOn, SeesOwn}
use Rattle.listing_laws.specs.SourceTypes.{AreSourceTypesKept, AreSourcesHandedOn, BodiesOweTypes, BodyOwesTypes, SourceOwesTypes, StatementOwesTypes}
use Rattle.listing_laws.proofs.NameLemmas.{either_way}
use Rattle.listing_laws.proofs.called.HandedOn.{types_listed}
use Rattle.listing_laws.proofs.called.Passed.{statements_handed_on}
use Rattle.listing_laws.proofs.BlockLemmas.{all_sorted}

module _ (types : BlockId → List Simple) (all : List CodeBlock) where
  abbrev IsHandedStated : (own : List Simple) → SourceInstruction → Type 0
  IsHandedStated own s = HandsTypesOn types all own s.instr

  stated_handed : (c : Context) (own : List Simple) (body : List Statement) (n : ℕ) (ss : List Statement) → SeesOwn c own
      → AllByRecursion (StatementOwesTypes types all c) ss → AllByRecursion (IsHandedStated own) (instructions_from c body n ss)
  stated_handed c own body n [] sees h = tt
  stated_handed c own body n (s ∷ ss) sees (one, more) =
      either_way (λ l. AllByRecursion (IsHandedStated own) l) (is_empty_statement s.code) (instructions_from c body n ss) (record { instr = instruction c body n s; line = s.line } ∷ instructions_from c body (suc n) ss)
      (stated_handed c own body n ss sees more) (statements_handed_on types all c own body n s sees one, stated_handed c own body (suc n) ss sees more)

  statements_handed : (c : Context) (b : Block) (l : BlockLayout) (id : BlockId) → BodyOwesTypes types all c b l id
      → AllByRecursion (IsHandedStated (types id)) (statements_of c b)
  unfolding statements_of
  statements_handed c b l id h =
      all_append (IsHandedStated (types id)) (instructions_from c b.body 0 b.body) _ (stated_handed c (types id) b.body 0 b.body h.sees h.statements) (tt, tt)

  -- a block of the program with the length of its types, whose instructions hand types on
  abbrev IsHandedBlock : StatedBlock → Type 0
  IsHandedBlock b = (length (types b.id) ≡ length b.params) × AllByRecursion (IsHandedStated (types b.id)) b.statements

  block_handed : (c : Context) (b : Block) (l : BlockLayout) (o : Option BlockId)
      → ((id : BlockId) → o ≡ Some id → is_code id.kind ≡ true → BodyOwesTypes types all c b l id)
      → AllByRecursion IsHandedBlock (code_block_of c b l o)
  block_handed c b l None h = tt
  block_handed c b l (Some id) h = by (is_code id.kind) refl
    where
      by : (t : Bool) → is_code id.kind ≡ t → AllByRecursion IsHandedBlock (if t then code_block c b l id ∷ [] else [])
      by true e = let owes = h id refl e in ((owes.size, statements_handed c b l id owes), tt)
      by false e = tt

  blocks_handed : (c : Context) (bs : List Block) (ls : List BlockLayout) → BodiesOweTypes types all c bs ls
      → AllByRecursion IsHandedBlock (each_block (λ c b l. code_block_of c b l l.id) c bs ls)
  blocks_handed c [] ls h = tt
  blocks_handed c (b ∷ bs) [] h = tt
  blocks_handed c (b ∷ bs) (l ∷ ls) h =
      all_append IsHandedBlock (code_block_of c b l l.id) _ (block_handed c b l l.id h.0) (blocks_handed (record c { block = suc c.block }) bs ls h.1)

  parted : (bs : List StatedBlock) → AllByRecursion IsHandedBlock bs
      → AllByRecursion (λ (b : StatedBlock). length (types b.id) ≡ length b.params) bs
      × AllByRecursion (λ (b : StatedBlock). AllByRecursion (λ s. HandsTypesOn types all (types b.id) s.instr) b.statements) bs
  parted [] h = (tt, tt)
  parted (b ∷ bs) h = let rest = parted bs h.1 in ((h.0.0, rest.0), (h.0.1, rest.1))

sorted_handed : (types : BlockId → List Simple) (t : Tree) (symbols : List Symbol) (layouts : List BlockLayout) → SourceOwesTypes types t symbols layouts
    → AllByRecursion (IsHandedBlock types (map compiled_block (code_blocks_of t symbols layouts))) (code_blocks_of t symbols layouts)
unfolding code_blocks_of
sorted_handed types t symbols layouts h =
    all_sorted (IsHandedBlock types (map compiled_block (code_blocks_of t symbols layouts))) is_code_before
    (each_block (λ c b l. code_block_of c b l l.id) (first_context symbols layouts t.blocks) t.blocks layouts)
    (blocks_handed types (map compiled_block (code_blocks_of t symbols layouts)) (first_context symbols layouts t.blocks) t.blocks layouts h)

pub sources_handed_on : AreSourcesHandedOn
sources_handed_on types t symbols layouts h =
    let parts = parted types (map compiled_block (code_blocks_of t symbols layouts)) (code_blocks_of t symbols layouts) (sorted_handed types t symbols layouts h) in
    record { lengths = parts.0; calls = parts.1 }

pub source_types_kept : AreSourceTypesKept
source_types_kept types t symbols layouts h = types_listed types (code_blocks_of t symbols layouts) (sources_handed_on types t symbols layouts h)
