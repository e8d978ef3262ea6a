-- What the tree of a source keeps.
use Rattle.std.specs.Prelude.{◌≡◌, ◌⊎◌, ℕ, ◌+◌, ◌≤◌, Bool, true, false, List, [], ◌∷◌, Option, Some, None}
use Rattle.std.specs.List.{AllByRecursion}
use Rattle.plc_base.specs.Kinds.{is_code, is_data_block}
use Rattle.plc_base.specs.declared.blocks.BlockKind.{BlockKind}
use Rattle.plc_base.specs.declared.blocks.BlockKind.TheVariants as kinds
use Rattle.stl_ast.specs.declared.blocks.Block.{Block}
use Rattle.stl_ast.specs.declared.blocks.Part.{Part}
use Rattle.stl_ast.specs.declared.blocks.PartKind.{PartKind}
use Rattle.stl_ast.specs.declared.blocks.Setting.{Setting}
use Rattle.stl_ast.specs.declared.blocks.Tree.{Tree}
use Rattle.stl_ast.specs.declared.declarations.Declaration.{Declaration}
use Rattle.stl_ast.specs.declared.declarations.ElementType.{ElementType}
use Rattle.stl_ast.specs.declared.declarations.ElementType.TheVariants as element
use Rattle.stl_ast.specs.declared.declarations.Simple.{Simple}
use Rattle.stl_ast.specs.declared.declarations.TypeTree.{TypeTree}
use Rattle.stl_ast.specs.declared.names.BlockName.{BlockName}
use Rattle.stl_ast.specs.declared.statements.Statement.{Statement}
use Rattle.stl_ast.specs.Blocks.{part_rank, is_parameter, may_have_section, may_declare, is_date_and_time}
use Rattle.stl_ast.specs.Declarations.{IsDeclaration, is_elementary}
use Rattle.stl_ast.specs.Literals.{IsLiteral}
use Rattle.stl_ast.specs.Operands.{IsNameOf, AreSteps, BeginsByName}
use Rattle.stl_ast.specs.Outline.{IsOutline}
use Rattle.stl_ast.specs.Statements.{IsStatement}

-- a block that a source declares: an organization block, a function, a function block, a data block
-- or a data type
abbrev pub IsSourceKind : BlockKind → Type 0
IsSourceKind kinds.Sfc = ⊥
IsSourceKind _ = Unit {0}

-- a block by its number has the kind of its head
abbrev pub IsHeadName : BlockKind → BlockName → Type 0
IsHeadName k name = IsNameOf (λ j. j ≡ k) name

-- a function alone has a return value
abbrev pub MayReturn : BlockKind → Option Simple → Type 0
MayReturn kinds.Fc result = Unit {0}
MayReturn _ result = result ≡ None

-- a declaration that may stand in this section; a parameter is of an elementary type
abbrev pub IsDeclaredIn : BlockKind → PartKind → Declaration → Type 0
IsDeclaredIn k p d =
    IsDeclaration d × (may_declare k p d.level d ≡ true)
    × (is_parameter p ≡ true → is_elementary d ≡ true)

-- all declarations of a section, the components of its structures among them
abbrev pub AreDeclaredIn : BlockKind → PartKind → List Declaration → Type 0
AreDeclaredIn k p ds = AllByRecursion (IsDeclaredIn k p) ds

-- a section that a block of this kind has; levels rise by one into a structure, and by no more
abbrev pub IsSection : BlockKind → Part → Type 0
IsSection k p =
    (may_have_section k p.kind ≡ true) × IsOutline 0 p.items × AreDeclaredIn k p.kind p.items

-- the sections stand in their order, each kind at most once: none before the rank `least`
abbrev pub AreSectionsInOrder : ℕ → List Part → Type 0
AreSectionsInOrder least [] = Unit {0}
AreSectionsInOrder least (p ∷ ps) =
    (least ≤ part_rank p.kind) × AreSectionsInOrder (part_rank p.kind + 1) ps

-- the sections of a block: each at most once, from VAR_INPUT to VAR_TEMP, and right by itself
abbrev pub AreSections : BlockKind → List Part → Type 0
AreSections k ps = AreSectionsInOrder 0 ps × AllByRecursion (IsSection k) ps

-- a component of a structure that is the type of a block: it isn't of type DATE_AND_TIME
abbrev pub IsComponent : Declaration → Type 0
IsComponent d = IsDeclaration d × (is_date_and_time d.of.of ≡ false)

-- all components of a structure that is the type of a block, those of inner structures among them;
-- the outermost stand at level 0
abbrev pub AreComponents : List Declaration → Type 0
AreComponents ds = IsOutline 0 ds × AllByRecursion IsComponent ds

-- the type of a data block: a structure with its components, or a user-defined data type
abbrev pub IsDataType : ElementType → List Declaration → Type 0
IsDataType element.Structure components = AreComponents components
IsDataType (element.Udt name) components = IsNameOf (λ k. k ≡ kinds.Udt) name × (components ≡ [])
IsDataType _ components = ⊥

-- a data block has a type, or is the instance of a function block
abbrev pub IsDataShape : Option TypeTree → Option BlockName → List Declaration → Type 0
IsDataShape (Some t) None components = (t.arrays ≡ []) × IsDataType t.of components
IsDataShape None (Some name) components = IsNameOf (λ k. k ≡ kinds.Fb) name × (components ≡ [])
IsDataShape _ _ components = ⊥

-- a data type is a structure
abbrev pub IsTypeShape : Option TypeTree → Option BlockName → List Declaration → Type 0
IsTypeShape (Some t) None components =
    (t.arrays ≡ []) × (t.of ≡ element.Structure) × AreComponents components
IsTypeShape _ _ components = ⊥

-- the type, the function block of an instance, and the components that a block of a kind may have:
-- none of these but for data blocks and data types
abbrev pub IsShapeOf : BlockKind → Option TypeTree → Option BlockName → List Declaration → Type 0
IsShapeOf kinds.Db shape instance components = IsDataShape shape instance components
IsShapeOf kinds.Udt shape instance components = IsTypeShape shape instance components
IsShapeOf _ shape instance components = (shape ≡ None) × (instance ≡ None) × (components ≡ [])

-- a setting: its path begins with a name
abbrev pub IsSetting : Setting → Type 0
IsSetting s = BeginsByName s.path × AreSteps s.path × IsLiteral s.value

-- a data block alone has settings
abbrev pub AreSettings : BlockKind → List Setting → Type 0
AreSettings k ss = AllByRecursion IsSetting ss × (is_data_block k ≡ false → ss ≡ [])

-- organization blocks, functions and function blocks alone have statements
abbrev pub IsBody : BlockKind → List Statement → Type 0
IsBody k body = AllByRecursion IsStatement body × (is_code k ≡ false → body ≡ [])

-- a block of the source: its kind says which return value, sections, type, settings and statements
-- it may have
pub record IsBlock (b : Block) : Type 0 where
  -- the kind is OB, FC, FB, DB or UDT
  pub head : IsSourceKind b.kind
  -- a block by its number has the kind of its head
  pub named : IsHeadName b.kind b.name
  -- only a function has the type of a return value
  pub returns : MayReturn b.kind b.result
  -- each section is one that the kind may have, stands at most once and in its order, and is right
  -- by itself
  pub sections : AreSections b.kind b.parts
  -- a data block has a type or a function block whose instance it is, a data type has a structure,
  -- and other kinds have none of these
  pub shaped : IsShapeOf b.kind b.shape b.instance_of b.components
  -- only a data block has settings, and each is right by itself
  pub set : AreSettings b.kind b.settings
  -- only OB, FC and FB have statements, and each is right by itself
  pub runs : IsBody b.kind b.body

-- the tree of a source: what its grammar and its frame keep of each block
abbrev pub IsWellFormed : Tree → Type 0
IsWellFormed t = AllByRecursion IsBlock t.blocks
