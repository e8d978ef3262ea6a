-- The program of a source by its code blocks in the order of the source.
use Rattle.std.proofs.Common.{◌≡◌, Bool, true, false, cond, List, [], ◌∷◌, map, ap, subst, ◌∙◌}
use Rattle.std.specs.List.{AllByRecursion}
use Rattle.flat_code.specs.Image.{IsProgram}
use Rattle.flat_code.specs.Programs.{CodeBlock}
use Rattle.stl_ast.specs.declared.blocks.Block.{Block}
use Rattle.stl_ast.specs.declared.blocks.Tree.{Tree}
use Rattle.stl_symbols.specs.Symbol.{Symbol}
use Rattle.block_layout.specs.declared.blocks.BlockLayout.{BlockLayout}
use Rattle.stl_types.specs.Bodies.{first_context}
use Rattle.stl_types.specs.Context.{Context}
use Rattle.stl_codegen.specs.CompiledBlock.{compiled_block}
use Rattle.stl_codegen.specs.Fitting.{BlockFits}
use Rattle.stl_codegen.specs.GeneratedProgram.{code_block_of, code_blocks_of, each_block, program_of}
use Rattle.stl_codegen.specs.Order.{sorted_insertion, is_block_before, sorted_list}
use Rattle.stl_codegen.proofs.FitLemmas.{program_fits}
use Rattle.stl_codegen.proofs.OrderLemmas.{compiled_sorted}

-- what holds of all in order holds of all
out_of_step : {A : Type 0} (P : A → Type 0) (x y : A) (more ys : List A) (behind : Bool) → (AllByRecursion P more → P x × AllByRecursion P ys) →
    AllByRecursion P (cond behind (y ∷ more) (x ∷ y ∷ ys)) → P x × AllByRecursion P (y ∷ ys)
out_of_step P x y more ys true out h = let o = out h.1 in (o.0, (h.0, o.1))
out_of_step P x y more ys false out h = h

pub out_of : {A : Type 0} (P : A → Type 0) (before : A → A → Bool) (x : A) (ys : List A) → AllByRecursion P (sorted_insertion before x ys) → P x × AllByRecursion P ys
out_of P before x [] h = h
out_of P before x (y ∷ ys) h = out_of_step P x y (sorted_insertion before x ys) ys (before y x) (out_of P before x ys) h

pub all_before : {A : Type 0} (P : A → Type 0) (before : A → A → Bool) (xs : List A) → AllByRecursion P (sorted_list before xs) → AllByRecursion P xs
unfolding sorted_list
all_before P before [] h = h
all_before P before (x ∷ xs) h = let o = out_of P before x (sorted_list before xs) h in (o.0, all_before P before xs o.1)

-- the code blocks of a source as ops, in its order
abbrev pub blocks_in : Tree → List Symbol → List BlockLayout → List CodeBlock
blocks_in t symbols layouts = map compiled_block (each_block (λ c b l. code_block_of c b l l.id) (first_context symbols layouts t.blocks) t.blocks layouts)

pub blocks_here : (t : Tree) (symbols : List Symbol) (layouts : List BlockLayout) (k : Context) (bs : List Block) (ls : List BlockLayout) →
    k ≡ first_context symbols layouts t.blocks → bs ≡ t.blocks → ls ≡ layouts →
    map compiled_block (each_block (λ c b l. code_block_of c b l l.id) (record k { block = 0 }) bs ls) ≡ blocks_in t symbols layouts
blocks_here t symbols layouts k bs ls is_k is_bs is_ls =
    let each : Context → List Block → List BlockLayout → List CodeBlock = λ k bs ls. map compiled_block (each_block (λ c b l. code_block_of c b l l.id) (record k { block = 0 }) bs ls) in
    ap (λ (z : Context). each z bs ls) is_k
    ∙ ap (λ (z : List Block). each (first_context symbols layouts t.blocks) z ls) is_bs
    ∙ ap (λ (z : List BlockLayout). each (first_context symbols layouts t.blocks) t.blocks z) is_ls

pub blocks_sorted : (t : Tree) (symbols : List Symbol) (layouts : List BlockLayout) → map compiled_block (code_blocks_of t symbols layouts) ≡ sorted_list is_block_before (blocks_in t symbols layouts)
unfolding code_blocks_of
blocks_sorted t symbols layouts = compiled_sorted (each_block (λ c b l. code_block_of c b l l.id) (first_context symbols layouts t.blocks) t.blocks layouts)

-- where one of them doesn't fit there is no program
pub no_program : (t : Tree) (symbols : List Symbol) (layouts : List BlockLayout) → (AllByRecursion BlockFits (blocks_in t symbols layouts) → ⊥) → IsProgram (program_of t symbols layouts) → ⊥
no_program t symbols layouts none is =
    none (all_before BlockFits is_block_before (blocks_in t symbols layouts)
    (subst (AllByRecursion BlockFits) (blocks_sorted t symbols layouts) (program_fits (program_of t symbols layouts) is)))
