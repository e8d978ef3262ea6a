-- The statements of a body one behind the other: what each adds to the code, and the numbers of
-- those that have labels.
use Rattle.std.specs.Prelude.{◌≡◌, ℕ, ◌+◌, List, [], ◌∷◌, ◌++◌, Option, Some, None, if◌then◌else◌}
use Rattle.std.specs.List.{flat_map}
use Rattle.flat_code.specs.Ops.{OpData}
use Rattle.flat_code.specs.declared.operations.EndOperation.TheVariants as ends
use Rattle.stl_ast.specs.Statements.{is_empty_statement}
use Rattle.stl_ast.specs.declared.blocks.Block.{Block}
use Rattle.stl_ast.specs.declared.statements.Statement.{Statement}
use Rattle.stl_types.specs.Context.{Context}
use Rattle.stl_types.specs.Labels.{labels_of}
use Rattle.stl_codegen.specs.EmittedOps.{end_op, ops_of}
use Rattle.stl_codegen.specs.Instruction.{count_of_statement, instruction}

-- the ops that a statement of this body adds to the code; its number has no part in them
unfoldable pub ops_here : Context → List Statement → Statement → List OpData
ops_here c body s = if is_empty_statement s.code then [] else ops_of (instruction c body 0 s)

-- the ops of a body and of its END clause, whose targets are still numbers of statements
abbrev pub body_ops : Context → Block → List OpData
body_ops c b = flat_map (λ s. ops_here c b.body s) b.body ++ end_op ends.Be ∷ []

-- the line of a statement; an empty one has none
abbrev pub line_here : Statement → List ℕ
line_here s = if is_empty_statement s.code then [] else s.line ∷ []

-- the lines of a body: of each statement but the empty ones, and of its END clause
abbrev pub body_lines : Block → List ℕ
body_lines b = flat_map line_here b.body ++ b.end_line ∷ []

-- how many statements these are, empty ones left out
abbrev pub count_of_statements : List Statement → ℕ
count_of_statements [] = 0
count_of_statements (s ∷ ss) = count_of_statement s + count_of_statements ss

-- the list that holds the number of a statement; it is empty where the statement has no label
abbrev pub number_here : (n : ℕ) → Option (List ℕ) → List ℕ
number_here n None = []
number_here n (Some label) = n ∷ []

-- the number of the statement of each label, of statements from a number on
abbrev pub numbers_of_labels : (n : ℕ) → List Statement → List ℕ
numbers_of_labels n [] = []
numbers_of_labels n (s ∷ ss) =
    number_here n s.label ++ numbers_of_labels (n + count_of_statement s) ss

-- the labels of a body with the numbers of their statements, and how many statements it has
pub record AreTargets (body : List Statement) (names : List (List ℕ)) (places : List ℕ) (total : ℕ)
    : Type 0 where
  -- the labels of the body, in their order
  pub labels : names ≡ labels_of body
  -- of each label the number of its statement, from 0
  pub numbers : places ≡ numbers_of_labels 0 body
  -- how many statements the body has, empty ones left out
  pub count : total ≡ count_of_statements body
