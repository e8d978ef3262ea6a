-- The parameters of a block, which stand in another order in its code than in its declaration.
use Rattle.std.proofs.Common.{◌≡◌, ◌≤◌, Bool, List, [], ◌∷◌, ◌++◌, length, take, drop, Option, Some, None, sym, ap, subst, ◌∙◌, arith}
use Rattle.std.specs.List.{AllByRecursion, flat_map}
use Rattle.plc_base.specs.Kinds.{is_function_block}
use Rattle.plc_base.proofs.ListLemmas.{all_front, all_back}
use Rattle.flat_code.specs.declared.programs.Param.{Param}
use Rattle.stl_ast.specs.declared.blocks.Block.{Block}
use Rattle.stl_ast.specs.declared.declarations.Simple.{Simple}
use Rattle.block_layout.specs.declared.blocks.BlockLayout.{BlockLayout}
use Rattle.stl_codegen.specs.Fitting.{ParamFits, ParamsFit}
use Rattle.stl_codegen.specs.GeneratedProgram.{param_here, params_of}
use Rattle.stl_codegen.specs.Instruction.{in_parameter_order, return_last}

first_back : {A : Type 0} (P : A → Type 0) (xs : List A) → AllByRecursion P (drop 1 xs ++ take 1 xs) → AllByRecursion P xs
first_back P [] h = tt
first_back P (x ∷ xs) h = ((all_back P xs (x ∷ []) h).0, all_front P xs (x ∷ []) h)

last_back : {A : Type 0} (P : A → Type 0) (result : Option Simple) (xs : List A) → AllByRecursion P (return_last result xs) → AllByRecursion P xs
last_back P None xs h = h
last_back P (Some result) xs h = first_back P xs h

-- the parameters in the order of their declaration
abbrev pub declared_in : (in_instance : Bool) → BlockLayout → List Param
declared_in in_instance l = flat_map (λ c. param_here in_instance l.components c) l.components

pub params_are : (b : Block) (l : BlockLayout) (in_instance : Bool) (found params : List Param) → in_instance ≡ is_function_block b.kind →
    found ≡ declared_in in_instance l → params ≡ in_parameter_order (Some b) found → params ≡ params_of b l
unfolding params_of
params_are b l in_instance found params kind is made =
    made ∙ ap (λ (ps : List Param). in_parameter_order (Some b) ps) (is ∙ ap (λ (t : Bool). declared_in t l) kind)

pub far_misfits : (b : Block) (l : BlockLayout) (in_instance : Bool) → in_instance ≡ is_function_block b.kind →
    (AllByRecursion ParamFits (declared_in in_instance l) → ⊥) → ParamsFit (params_of b l) → ⊥
unfolding params_of
far_misfits b l in_instance kind none fits =
    none (subst (λ (t : Bool). AllByRecursion ParamFits (declared_in t l)) (sym kind)
    (last_back ParamFits b.result (declared_in (is_function_block b.kind) l) fits.places))

pub many_misfit : (b : Block) (l : BlockLayout) (params : List Param) → params ≡ params_of b l → 61 ≤ length params → ParamsFit (params_of b l) → ⊥
many_misfit b l params are many fits =
    let same : length params ≡ length (params_of b l) = ap length are in
    absurd (omega (arith, fits.count, same))
