-- Which parameters a chain of passings joins to an INT or a TIME of a system function. A parameter
-- is a number here: those of all code blocks are counted in the image's order.
use Rattle.std.specs.Prelude.{ℕ, ◌+◌, ◌==◌, Bool, true, false, List, [], ◌∷◌, ◌++◌, length, map, replicate, Option, Some, None, if◌then◌else◌, slice_get, slice_set}
use Rattle.std.specs.List.{flat_map, fold, range_with_len}
use Rattle.std.specs.Option.{unwrap_or}
use Rattle.plc_base.specs.Kinds.{is_same_block, is_system_function}
use Rattle.plc_base.specs.declared.blocks.BlockId.{BlockId}
use Rattle.plc_base.specs.declared.blocks.BlockKind.{BlockKind}
use Rattle.plc_base.specs.declared.blocks.BlockKind.TheVariants as kinds
use Rattle.plc_base.specs.declared.places.Width.{Width}
use Rattle.flat_code.specs.Forms.{kind_of_code}
use Rattle.flat_code.specs.Ops.{OpData}
use Rattle.flat_code.specs.Programs.{CodeBlock}
use Rattle.flat_code.specs.declared.operands.Operand.{Operand}
use Rattle.flat_code.specs.declared.operands.Operand.TheVariants as flat
use Rattle.flat_code.specs.declared.operands.Passed.{Passed}
use Rattle.flat_code.specs.declared.operands.Passed.TheVariants as passed
use Rattle.stl_ast.specs.declared.declarations.Simple.{Simple}
use Rattle.stl_ast.specs.declared.declarations.Simple.TheVariants as simple
use Rattle.stl_types.specs.Parameters.{system_formals}
use Rattle.stl_types.specs.declared.parameters.Formal.{Formal}
use Rattle.stl_list.specs.declared.links.Link.{Link}
use Rattle.stl_list.specs.declared.links.Link.TheVariants.{Joins, Has}
use Rattle.stl_list.specs.Parameters.{kind_of_width}
use Rattle.stl_list.specs.Runs.{StatementOps, runs}

-- ---- blocks that are called

-- the kind of a block that is called, by its number in an op; a function where none has the number
abbrev pub called_kind : ℕ → BlockKind
called_kind kind = unwrap_or (kind_of_code kind) kinds.Fc

-- the block that an op calls
abbrev pub called_id : (kind number : ℕ) → BlockId
called_id kind number = record { kind = called_kind kind; number = number }

-- the parameters of a system function; none where there is no such function
abbrev pub system_parameters : ℕ → List Formal
system_parameters number = unwrap_or (system_formals number) []

-- the number of the first parameter of a block; past all parameters where there is no such block
abbrev pub first_of : List CodeBlock → BlockId → ℕ
first_of [] id = 0
first_of (b ∷ bs) id = if is_same_block b.id id then 0 else length b.params + first_of bs id

-- ---- passings

-- where a parameter of the block that calls is passed: the index of the one that it is passed for,
-- and its own
abbrev pub own_parameter_passed : (index : ℕ) → Passed → Option (ℕ × ℕ)
own_parameter_passed index (passed.Parameter own width) = Some (index, own)
own_parameter_passed index _ = None

-- where an op before a call passes a parameter of the block that calls: the index of the one that
-- it is passed for, and its own
abbrev pub passed_parameter : Operand → Option (ℕ × ℕ)
passed_parameter (flat.Pass index actual) = own_parameter_passed index actual
passed_parameter _ = None

-- the link of a parameter that is passed to a block; `first` is the number of the first parameter
-- of the block that calls, `other` that of the called block
abbrev pub joined_link : (first other : ℕ) → Option (ℕ × ℕ) → List Link
joined_link first other None = []
joined_link first other (Some p) = Joins (first + p.1) (other + p.0) ∷ []

-- the link of the parameter of a number to the type of the one of a system function for which it is
-- passed
abbrev pub typed_link : (own : ℕ) → Option Formal → List Link
typed_link own None = []
typed_link own (Some f) = Has own f.kind ∷ []

-- the link of a parameter that is passed to a system function with these parameters; `first` is the
-- number of the first parameter of the block that calls
abbrev pub system_link : List Formal → (first : ℕ) → Option (ℕ × ℕ) → List Link
system_link formals first None = []
system_link formals first (Some p) = typed_link (first + p.1) (slice_get formals p.0)

-- the links of the ops before a call of a block; `first` is the number of the first parameter of
-- the block that calls, `other` that of the called block
abbrev pub joined_links : (first other : ℕ) → List OpData → List Link
joined_links first other before =
    flat_map (λ op. joined_link first other (passed_parameter op.operand)) before

-- the links of the ops before a call of a system function with these parameters; `first` is the
-- number of the first parameter of the block that calls
abbrev pub system_links : List Formal → (first : ℕ) → List OpData → List Link
system_links formals first before =
    flat_map (λ op. system_link formals first (passed_parameter op.operand)) before

-- the links of the ops before a call of a block or of a system function; `first` is the number of
-- the first parameter of the block that calls
abbrev pub call_links : List CodeBlock → BlockId → (first : ℕ) → List OpData → List Link
call_links blocks id first before =
    if is_system_function id.kind then system_links (system_parameters id.number) first before
    else joined_links first (first_of blocks id) before

-- the links of a statement, by the operand of its last op
abbrev pub run_links : List CodeBlock → (first : ℕ) → List OpData → Operand → List Link
run_links blocks first before (flat.Called kind number instance) =
    call_links blocks (called_id kind number) first before
run_links blocks first before _ = []

-- the links of statements
abbrev pub links_of_runs : List CodeBlock → (first : ℕ) → List StatementOps → List Link
links_of_runs blocks first rs =
    flat_map (λ r. run_links blocks first r.before r.op.operand) rs

-- the links of the statements of a block whose first parameter has the number `first`
abbrev pub block_links : List CodeBlock → (first : ℕ) → List OpData → List Link
block_links blocks first ops = links_of_runs blocks first (runs ops)

-- the links of the statements of blocks, of which the first has its parameters from the number
-- `first` on; the calls go to any of all the blocks
abbrev pub links_from : List CodeBlock → (first : ℕ) → List CodeBlock → List Link
links_from blocks first [] = []
links_from blocks first (b ∷ bs) =
    block_links blocks first b.code ++ links_from blocks (first + length b.params) bs

-- the links of all statements of a program's code blocks
unfoldable pub links : List CodeBlock → List Link
links blocks = links_from blocks 0 blocks

-- how many parameters blocks have together
abbrev pub total_parameter_count : List CodeBlock → ℕ
total_parameter_count [] = 0
total_parameter_count (b ∷ bs) = length b.params + total_parameter_count bs

-- ---- chains

-- the label itself, but `to` in place of the label `from`
abbrev pub replaced_label : (from to label : ℕ) → ℕ
replaced_label from to label = if label == from then to else label

-- labels with the second of two labels in place of each that is the first; where one of the two is
-- absent (None), the labels as they are
abbrev pub merged_labels : Option ℕ → Option ℕ → List ℕ → List ℕ
merged_labels (Some from) (Some to) labels = map (replaced_label from to) labels
merged_labels _ _ labels = labels

-- the labels of parameters after a link: two that are joined have the same label, and so have all
-- that were joined to one of them before
abbrev pub labels_after_link : List ℕ → Link → List ℕ
labels_after_link labels (Joins own other) =
    merged_labels (slice_get labels own) (slice_get labels other) labels
labels_after_link labels (Has own kind) = labels

-- the labels of so many parameters, by all links: those that a chain of passings joins have the
-- same label, and no others have
unfoldable pub chain_labels : (count : ℕ) → List Link → List ℕ
chain_labels count links = fold labels_after_link (range_with_len 0 count) links

-- whether a type is INT, which a chain of passings hands on
abbrev pub is_int_kind : Simple → Bool
is_int_kind simple.Int = true
is_int_kind _ = false

-- whether a type is TIME, which a chain of passings hands on
abbrev pub is_time_kind : Simple → Bool
is_time_kind simple.Time = true
is_time_kind _ = false

-- the marks of labels, with this label marked, where there is one (Some)
abbrev pub set_label : List Bool → Option ℕ → List Bool
set_label marks None = marks
set_label marks (Some label) = slice_set marks label true

-- the marks of labels after a link to a parameter of a type that is meant
abbrev pub marks_after_link : (Simple → Bool) → (labels : List ℕ) → List Bool → Link → List Bool
marks_after_link is_meant labels marks (Joins own other) = marks
marks_after_link is_meant labels marks (Has own kind) =
    if is_meant kind then set_label marks (slice_get labels own) else marks

-- of each label whether a chain of passings joins it to a parameter of a type that is meant
unfoldable pub marks_of : (Simple → Bool) → (labels : List ℕ) → List Link → List Bool
marks_of is_meant labels links =
    fold (marks_after_link is_meant labels) (replicate (length labels) false) links

-- ---- types

-- the labels of all parameters, and which labels are INT or TIME
pub record PassingChains : Type 0 where
  -- of each parameter, by its number, the label that all have that a chain joins to it
  pub labels : List ℕ
  -- of each label whether a chain joins it to an INT of a system function
  pub ints : List Bool
  -- of each label whether a chain joins it to a TIME of a system function
  pub times : List Bool

-- the chains of parameters with these labels, by links that say which are INT or TIME
abbrev pub chains_by : (labels : List ℕ) → List Link → PassingChains
chains_by labels links = record {
  labels = labels;
  ints = marks_of is_int_kind labels links;
  times = marks_of is_time_kind labels links;
}

-- the chains of a program
unfoldable pub chains_of : List CodeBlock → PassingChains
chains_of blocks =
    chains_by (chain_labels (total_parameter_count blocks) (links blocks)) (links blocks)

-- whether a label is marked among these marks; where there is no label (None), none is
abbrev pub mark_at : List Bool → Option ℕ → Bool
mark_at marks None = false
mark_at marks (Some label) = unwrap_or (slice_get marks label) false

-- the type of a parameter: INT or TIME where a chain joins it to one, else by its width
abbrev pub kind_by : (int time : Bool) → Width → Simple
kind_by true time width = simple.Int
kind_by false true width = simple.Time
kind_by false false width = kind_of_width width

-- the type of the parameter of a number
unfoldable pub kind_at : PassingChains → (parameter : ℕ) → Width → Simple
kind_at c parameter width =
    kind_by (mark_at c.ints (slice_get c.labels parameter))
    (mark_at c.times (slice_get c.labels parameter)) width
