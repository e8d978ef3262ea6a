-- The statements of a code block.
use Rattle.std.specs.Prelude.{ℕ, suc, ◌==◌, Bool, false, List, [], ◌∷◌, ◌++◌, length, Option, Some, None, if◌then◌else◌, slice_get}
use Rattle.std.specs.Option.{unwrap_or}
use Rattle.flat_code.specs.Programs.{CodeBlock}
use Rattle.stl_ast.specs.declared.mnemonics.Mnemonic.TheVariants as code
use Rattle.stl_ast.specs.declared.operands.Operand.TheVariants as operand
use Rattle.stl_ast.specs.declared.statements.Statement.{Statement}
use Rattle.stl_types.specs.declared.parameters.Formal.{Formal}
use Rattle.stl_list.specs.Actuals.{actuals_by}
use Rattle.stl_list.specs.Labels.{label_of_number}
use Rattle.stl_list.specs.Lines.{line_of_statement}
use Rattle.stl_list.specs.Mnemonics.{mnemonic_of}
use Rattle.stl_list.specs.Operands.{operand_of_run}
use Rattle.stl_list.specs.Runs.{StatementOps, runs, statement_starts, target_marks}
use Rattle.stl_list.specs.Signatures.{Signature, formals_of_block}

-- what the statements of a block refer to: the blocks of the program, the block's own parameters,
-- the lines on which its statements stand, their offsets, and of each whether a jump leads to it
pub record ListingContext : Type 0 where
  -- the code blocks of the program, with their parameters
  pub signatures : List Signature
  -- the parameters of the block itself
  pub formals : List Formal
  -- the lines of the statements, one for each
  pub lines : List ℕ
  -- the offsets at which the statements begin
  pub starts : List ℕ
  -- of each statement whether a jump leads to it
  pub targets : List Bool

-- what the statements of a block refer to, where they stand on these lines
abbrev pub listing_context : List Signature → (lines : List ℕ) → CodeBlock → ListingContext
listing_context signatures lines b = record {
  signatures = signatures;
  formals = formals_of_block signatures b.id;
  lines = lines;
  starts = statement_starts b.code;
  targets = target_marks (statement_starts b.code) b.code;
}

-- the label of the statement of a number in its block: it has one where a jump leads to it
abbrev pub label_at : (targets : List Bool) → (n : ℕ) → Option (List ℕ)
label_at targets n =
    if unwrap_or (slice_get targets n) false then Some (label_of_number n) else None

-- the statement with this number in its block, made from its ops
abbrev pub listed_statement : ListingContext → (n : ℕ) → StatementOps → Statement
listed_statement s n r = record {
  line = line_of_statement s.lines n;
  code = mnemonic_of r.op;
  label = label_at s.targets n;
  operand = operand_of_run s.formals s.starts r;
  actuals = actuals_by s.signatures (line_of_statement s.lines n) s.formals r.before r.op.operand;
}

-- a label alone, with nothing behind its colon
abbrev pub label_alone : (line : ℕ) → List ℕ → Statement
label_alone line label = record {
  line = line;
  code = code.Empty;
  label = Some label;
  operand = operand.Nothing;
  actuals = [];
}

-- the label before the END clause on a line, alone, as a list of one; none where no jump leads
-- there (None)
abbrev pub label_of_end : (line : ℕ) → Option (List ℕ) → List Statement
label_of_end line None = []
label_of_end line (Some label) = label_alone line label ∷ []

-- what the statement of a number adds to the body: itself, or only a label where it is the last,
-- the END clause; there are as many statements as lines
unfoldable pub statement_at : ListingContext → (n : ℕ) → StatementOps → List Statement
statement_at s n r =
    if suc n == length s.lines
    then label_of_end (line_of_statement s.lines n) (label_at s.targets n)
    else listed_statement s n r ∷ []

-- what statements add to the body, of which the first has the number n
abbrev pub statements_from : ListingContext → (n : ℕ) → List StatementOps → List Statement
statements_from s n [] = []
statements_from s n (r ∷ rs) = statement_at s n r ++ statements_from s (suc n) rs

-- the body of a block whose statements stand on these lines
unfoldable pub body_of : List Signature → (lines : List ℕ) → CodeBlock → List Statement
body_of signatures lines b =
    statements_from (listing_context signatures lines b) 0 (runs b.code)
