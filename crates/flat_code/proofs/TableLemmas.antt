-- Each cell of the table of op codes is empty or stands at its own code: one test along the table.
use Rattle.std.proofs.Common.{◌≡◌, ◌⊎◌, inl, inr, ℕ, zero, suc, ◌+◌, Bool, true, false, List, [], ◌∷◌, get_or, refl, arith}
use Rattle.std.specs.Prelude.{◌==◌, ◌&&◌, ◌||◌}
use Rattle.std.proofs.lemmas.Bool.{and_parts, eqb-true}
use Rattle.flat_code.specs.Laws.{CodesHaveTheirOperations}
use Rattle.flat_code.specs.OpCodes.{op_code_of}
use Rattle.flat_code.specs.Operations.{operation_of}
use Rattle.flat_code.specs.declared.operations.Operation.{Operation}
use Rattle.flat_code.specs.declared.operations.Operation.TheVariants as operation
use Rattle.flat_code.specs.declared.operations.TheConstants.{OPERATIONS}

-- no instruction has the code
abbrev is_none : Operation → Bool
is_none operation.NoOperation = true
is_none _ = false

-- each cell of a part of the table that begins at a code is right
abbrev all_right : ℕ → List Operation → Bool
all_right from [] = true
all_right from (w ∷ ws) = (is_none w || op_code_of w == from) && all_right (from + 1) ws

table_right : all_right 0 OPERATIONS ≡ true
table_right = refl

-- a cell is empty, or stands at the code of its operation
Right : ℕ → Operation → Type 0
Right code w = (w ≡ operation.NoOperation) ⊎ (op_code_of w ≡ code)

none_is : (w : Operation) → is_none w ≡ true → w ≡ operation.NoOperation
none_is operation.NoOperation is = refl
none_is _ is = absurd cc

right_by : (from : ℕ) (w : Operation) → (is_none w || op_code_of w == from) ≡ true → Right from w
unfolding Right
right_by from w is = by (is_none w) refl is
  where
    by : (test : Bool) → is_none w ≡ test → (test || op_code_of w == from) ≡ true
        → (w ≡ operation.NoOperation) ⊎ (op_code_of w ≡ from)
    by true t h = inl (none_is w t)
    by false t h = inr (eqb-true (op_code_of w) from h)

-- the cell at an index of such a part
right : (from : ℕ) (ws : List Operation) (i : ℕ) → all_right from ws ≡ true → Right (from + i) (get_or ws i operation.NoOperation)
unfolding Right
right from [] i all = inl refl
right from (w ∷ ws) zero all =
    at (right_by from w (and_parts (is_none w || op_code_of w == from) (all_right (from + 1) ws) all).0)
  where
    at : (w ≡ operation.NoOperation) ⊎ (op_code_of w ≡ from) → (w ≡ operation.NoOperation) ⊎ (op_code_of w ≡ from + 0)
    at (inl none) = inl none
    at (inr is) = inr (omega (arith, is))
right from (w ∷ ws) (suc i) all =
    at (right (from + 1) ws i (and_parts (is_none w || op_code_of w == from) (all_right (from + 1) ws) all).1)
  where
    at : (get_or ws i operation.NoOperation ≡ operation.NoOperation) ⊎ (op_code_of (get_or ws i operation.NoOperation) ≡ from + 1 + i)
        → (get_or ws i operation.NoOperation ≡ operation.NoOperation) ⊎ (op_code_of (get_or ws i operation.NoOperation) ≡ from + suc i)
    at (inl none) = inl none
    at (inr is) = inr (omega (arith, is))

pub codes_have_their_operations : CodesHaveTheirOperations
unfolding operation_of Right
codes_have_their_operations code = at (right 0 OPERATIONS code table_right)
  where
    at : (get_or OPERATIONS code operation.NoOperation ≡ operation.NoOperation) ⊎ (op_code_of (get_or OPERATIONS code operation.NoOperation) ≡ 0 + code)
        → (get_or OPERATIONS code operation.NoOperation ≡ operation.NoOperation) ⊎ (op_code_of (get_or OPERATIONS code operation.NoOperation) ≡ code)
    at (inl none) = inl none
    at (inr is) = inr (omega (arith, is))
