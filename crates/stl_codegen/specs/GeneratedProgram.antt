-- The program of a source that breaks no rule.
use Rattle.std.specs.Prelude.{ℕ, suc, ◌+◌, ◌/◌, ◌%◌, Bool, true, false, List, [], ◌∷◌, ◌++◌, map, flat_map, Option, Some, None, if◌then◌else◌, slice_get}
use Rattle.std.specs.Option.{option_and_then}
use Rattle.plc_base.specs.Kinds.{is_code, is_data_block, is_function_block}
use Rattle.plc_base.specs.declared.blocks.BlockId.{BlockId}
use Rattle.plc_base.specs.declared.places.Area.{Area}
use Rattle.plc_base.specs.declared.places.Area.TheVariants as area
use Rattle.plc_base.specs.declared.places.Width.{Width}
use Rattle.flat_code.specs.Instr.{Returns}
use Rattle.plc_base.specs.Folding.{upper_case_name}
use Rattle.flat_code.specs.Programs.{DataBlock, NameEntry, Program}
use Rattle.flat_code.specs.Records.{section_in, section_out, section_in_out}
use Rattle.flat_code.specs.declared.programs.Param.{Param}
use Rattle.flat_code.specs.declared.operations.EndOperation.TheVariants as ends
use Rattle.stl_ast.specs.Statements.{is_empty_statement}
use Rattle.stl_ast.specs.declared.blocks.Block.{Block}
use Rattle.stl_ast.specs.declared.blocks.PartKind.{PartKind}
use Rattle.stl_ast.specs.declared.blocks.PartKind.TheVariants as part
use Rattle.stl_ast.specs.declared.blocks.Tree.{Tree}
use Rattle.stl_ast.specs.declared.statements.Statement.{Statement}
use Rattle.stl_symbols.specs.Symbol.{Symbol}
use Rattle.stl_symbols.specs.declared.targets.Target.{Target}
use Rattle.stl_symbols.specs.declared.targets.Target.TheVariants as target
use Rattle.block_layout.specs.InitialBytes.{initial_bytes}
use Rattle.block_layout.specs.Members.{component_of_name}
use Rattle.block_layout.specs.Offsets.{width_of}
use Rattle.block_layout.specs.ListedParameters.{offset_of_member}
use Rattle.block_layout.specs.declared.blocks.BlockLayout.{BlockLayout}
use Rattle.block_layout.specs.declared.blocks.Shape.{Shape}
use Rattle.block_layout.specs.declared.blocks.Shape.TheVariants as shape
use Rattle.block_layout.specs.declared.cells.Cell.{Cell}
use Rattle.block_layout.specs.declared.cells.Element.{Element}
use Rattle.block_layout.specs.declared.cells.Element.TheVariants as element
use Rattle.stl_types.specs.Bodies.{first_context}
use Rattle.stl_types.specs.Context.{Context}
use Rattle.stl_ast.specs.Blocks.{is_parameter}
use Rattle.stl_codegen.specs.CompiledBlock.{SourceInstruction, StatedBlock, compiled_block}
use Rattle.stl_codegen.specs.Instruction.{instruction, in_parameter_order}
use Rattle.stl_codegen.specs.Order.{is_code_before, is_data_before, is_entry_before, sorted_list}

-- ---- statements

-- the instructions of statements of a body, from the number `n` on, with their lines; empty
-- statements have no number
abbrev pub instructions_from : Context → (body : List Statement) → (n : ℕ) → List Statement
    → List SourceInstruction
instructions_from c body n [] = []
instructions_from c body n (s ∷ ss) =
    if is_empty_statement s.code then instructions_from c body n ss
    else record { instr = instruction c body n s; line = s.line }
    ∷ instructions_from c body (suc n) ss

-- the statement that returns at the end of a block, with the line of the END clause
abbrev pub return_statement : Block → SourceInstruction
return_statement b = record { instr = Returns ends.Be; line = b.end_line }

-- the statements of a code block: those of its body, numbered from 0, and the one that returns
unfoldable pub statements_of : Context → Block → List SourceInstruction
statements_of c b = instructions_from c b.body 0 b.body ++ return_statement b ∷ []

-- ---- parameters

-- the number of a parameter's section in an image: IN, OUT or IN_OUT
abbrev pub section_number : PartKind → ℕ
section_number part.Input = section_in
section_number part.Output = section_out
section_number _ = section_in_out

-- a parameter by its section, its width, and its place so many bits from the start
abbrev pub param_at_bits : (section : ℕ) → Width → (bits : ℕ) → Param
param_at_bits section width bits =
    record { section = section; width = width; byte = bits / 8; bit = bits % 8 }

-- a parameter of a function block has its place in the instance, that of the component of its name;
-- one of a function has none, which is written 0
abbrev pub param_bits : (in_instance : Bool) → List Cell → Cell → ℕ
param_bits in_instance cells c =
    if in_instance then offset_of_member (component_of_name 0 0 0 c.name cells) else 0

-- the parameter that a component of elementary type is; no other type makes one
abbrev pub param_of : (in_instance : Bool) → List Cell → Cell → Element → List Param
param_of in_instance cells c (element.Plain kind) =
    param_at_bits (section_number c.section) (width_of kind) (param_bits in_instance cells c) ∷ []
param_of in_instance cells c _ = []

-- the parameter that a component is, if its section is IN, OUT or IN_OUT
abbrev pub param_here : (in_instance : Bool) → List Cell → Cell → List Param
param_here in_instance cells c =
    if is_parameter c.section then param_of in_instance cells c c.of else []

-- the parameters of a block by their index in a call: in the order of the text, RET_VAL the last
unfoldable pub params_of : Block → BlockLayout → List Param
params_of b l =
    in_parameter_order (Some b)
    (flat_map (λ c. param_here (is_function_block b.kind) l.components c) l.components)

-- ---- blocks

-- the bytes of an instance of a block: as many as the structure of a function block; other blocks
-- have none
abbrev pub instance_len : Block → BlockLayout → ℕ
instance_len b l = if is_function_block b.kind then l.length else 0

-- a code block of the source by its kind and number: its lengths, its parameters, its statements
abbrev pub code_block : Context → Block → BlockLayout → BlockId → StatedBlock
code_block c b l id = record {
  id = id;
  local_len = l.local_len;
  instance_len = instance_len b l;
  params = params_of b l;
  statements = statements_of c b;
}

-- the code block of an OB, FC or FB; no other block has one, nor does one without kind and number
abbrev pub code_block_of : Context → Block → BlockLayout → Option BlockId → List StatedBlock
code_block_of c b l None = []
code_block_of c b l (Some id) = if is_code id.kind then code_block c b l id ∷ [] else []

-- the number of a block that is a function block; none of another
abbrev pub function_block_number : Option BlockId → Option ℕ
function_block_number None = None
function_block_number (Some id) = if is_function_block id.kind then Some id.number else None

-- the number of the function block whose structure a data block has; none where it has its own,
-- or that of a data type
abbrev pub instance_in : List BlockLayout → Shape → Option ℕ
instance_in layouts (shape.Of block) =
    option_and_then (λ l. function_block_number l.id) (slice_get layouts block)
instance_in layouts _ = None

-- a data block: its number, the function block whose instance it is, its initial bytes
abbrev pub generated_data_block : Context → BlockLayout → BlockId → DataBlock
generated_data_block c l id = record {
  number = id.number;
  instance_of = instance_in c.layouts l.shape;
  bytes = initial_bytes c.layouts c.blocks c.block;
}

-- the data block of a DB; no other block has one, nor does one without kind and number
abbrev pub data_block_of : Context → BlockLayout → Option BlockId → List DataBlock
data_block_of c l None = []
data_block_of c l (Some id) = if is_data_block id.kind then generated_data_block c l id ∷ [] else []

-- what comes of each block of a source with its layout, one behind the other; the context has the
-- place of the first
abbrev pub each_block : {A : Type 0} → (Context → Block → BlockLayout → List A) → Context
    → List Block → List BlockLayout → List A
each_block of c [] ls = []
each_block of c (b ∷ bs) [] = []
each_block of c (b ∷ bs) (l ∷ ls) =
    of c b l ++ each_block of (record c { block = suc c.block }) bs ls

-- ---- names

-- an area whose variables have their names in the program: I, Q and M
abbrev pub has_name : Area → Bool
has_name area.I = true
has_name area.Q = true
has_name area.M = true
has_name _ = false

-- the name of a symbol in upper case, with its variable in I, Q or M; none for another symbol
abbrev pub name_entry : List ℕ → Target → List NameEntry
name_entry name (target.Variable place width) =
    if has_name place.area
    then record { name = upper_case_name name; place = place; width = width } ∷ [] else []
name_entry name _ = []

-- the names of a program, rising by their bytes
abbrev pub name_entries_of : List Symbol → List NameEntry
name_entries_of symbols =
    sorted_list is_entry_before (flat_map (λ s. name_entry s.name s.target) symbols)

-- ---- the program

-- the code blocks of a source, before their statements are ops, by kind and number
unfoldable pub code_blocks_of : Tree → List Symbol → List BlockLayout → List StatedBlock
code_blocks_of t symbols layouts =
    sorted_list is_code_before
    (each_block (λ c b l. code_block_of c b l l.id) (first_context symbols layouts t.blocks)
    t.blocks layouts)

-- the data blocks of a source, by number
unfoldable pub data_blocks_of : Tree → List Symbol → List BlockLayout → List DataBlock
data_blocks_of t symbols layouts =
    sorted_list is_data_before
    (each_block (λ c b l. data_block_of c l l.id) (first_context symbols layouts t.blocks)
    t.blocks layouts)

-- the program of a source: its code blocks, its data blocks, and the names of its symbols
abbrev pub program_of : Tree → List Symbol → List BlockLayout → Program
program_of t symbols layouts = record {
  code_blocks = map compiled_block (code_blocks_of t symbols layouts);
  data_blocks = data_blocks_of t symbols layouts;
  names = name_entries_of symbols;
}
