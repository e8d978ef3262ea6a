-- The code blocks of a listing.
use Rattle.std.specs.Prelude.{ℕ, max, List, [], ◌∷◌, Option, None, find}
use Rattle.std.specs.Option.{option_map}
use Rattle.flat_code.specs.Programs.{CodeBlock}
use Rattle.stl_ast.specs.declared.blocks.Block.{Block}
use Rattle.stl_ast.specs.declared.declarations.Simple.{Simple}
use Rattle.stl_ast.specs.declared.names.BlockName.TheVariants as block
use Rattle.stl_types.specs.declared.parameters.Formal.{Formal}
use Rattle.stl_codegen.specs.Order.{sorted_list}
use Rattle.stl_list.specs.Sections.{section_parts}
use Rattle.stl_list.specs.Lines.{first_statement_line, line_behind_statements, lines_from, stands_before}
use Rattle.stl_list.specs.Parameters.{is_return}
use Rattle.stl_list.specs.Signatures.{Signature, formals_of_block}
use Rattle.stl_list.specs.Statements.{body_of}

-- the type of the return value among a block's parameters; none where there is no return value, as
-- in a function of type VOID
abbrev pub result_of : List Formal → Option Simple
result_of formals = option_map (λ f. f.kind) (find is_return formals)

-- a code block behind what reaches to a line: its head stands on the line of its first statement,
-- its END clause on that of its last
abbrev pub listed_block : List Signature → (reached : ℕ) → CodeBlock → Block
listed_block signatures reached b = record {
  line = max reached (first_statement_line b);
  end_line = line_behind_statements reached b.lines;
  kind = b.id.kind;
  name = block.Number b.id;
  result = result_of (formals_of_block signatures b.id);
  parts = section_parts (max reached (first_statement_line b)) (formals_of_block signatures b.id) b;
  shape = None;
  components = [];
  instance_of = None;
  settings = [];
  body = body_of signatures (lines_from reached b.lines) b;
}

-- the code blocks of a listing, one behind the other, the first behind what reaches to a line
abbrev pub listed_blocks : List Signature → (reached : ℕ) → List CodeBlock → List Block
listed_blocks signatures reached [] = []
listed_blocks signatures reached (b ∷ bs) =
    listed_block signatures reached b
    ∷ listed_blocks signatures (line_behind_statements reached b.lines) bs

-- the line that code blocks reach, one behind the other, behind what reaches to a line
abbrev pub line_reached : (reached : ℕ) → List CodeBlock → ℕ
line_reached reached [] = reached
line_reached reached (b ∷ bs) = line_reached (line_behind_statements reached b.lines) bs

-- code blocks in the order in which a listing has them
unfoldable pub in_lines : List CodeBlock → List CodeBlock
in_lines blocks = sorted_list stands_before blocks
