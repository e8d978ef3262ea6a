-- The outline of plain declarations.
use Rattle.std.proofs.Common.{◌≡◌, ℕ, eqb, Bool, true, false, cond, List, [], ◌∷◌, ◌++◌, refl, arith}
use Rattle.stl_ast.specs.Outline.{IsOutline}
use Rattle.stl_ast.specs.declared.blocks.PartKind.{PartKind}
use Rattle.stl_ast.specs.declared.declarations.Init.{Init}
use Rattle.stl_types.specs.declared.parameters.Formal.{Formal}
use Rattle.stl_list.specs.Sections.{bytes_here, declarations_of_section, is_declared_in, plain_declaration}

-- the parameters of a section stand at level 0
pub declared_outline : (line : ℕ) (formals : List Formal) (kind : PartKind) → IsOutline 0 (declarations_of_section line formals kind)
declared_outline line [] kind = tt
declared_outline line (f ∷ fs) kind = by_test (is_declared_in kind f) (declared_outline line fs kind)
  where
    by_test : (b : Bool) → IsOutline 0 (declarations_of_section line fs kind) → IsOutline 0 (cond b (plain_declaration line f ∷ []) [] ++ declarations_of_section line fs kind)
    by_test true more = (omega arith, more)
    by_test false more = more

-- and so do bytes
pub bytes_outline : (line : ℕ) (name : List ℕ) (count : ℕ) (values : List Init) → IsOutline 0 (bytes_here line name count values)
bytes_outline line name count values = by_test (eqb count 0) refl
  where
    by_test : (b : Bool) → eqb count 0 ≡ b → IsOutline 0 (bytes_here line name count values)
    by_test true e = rw e tt
    by_test false e = rw e (omega arith, tt)
