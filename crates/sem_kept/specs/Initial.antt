-- In an accepted source no initial value is cut: each is written whole within its data block, each
-- setting is written, and no component has more initial values than elements.
use Rattle.std.specs.Prelude.{◌≡◌, ◌⊎◌, ℕ, ◌+◌, ◌*◌, ◌%◌, ◌^◌, ◌≤◌, ◌<◌, true, false, List, [], ◌∷◌, ◌++◌, length, replicate, Some, is_some, slice_get}
use Rattle.std.specs.List.{AllByRecursion, fold}
use Rattle.plc_base.specs.Kinds.{is_data_block}
use Rattle.plc_base.specs.declared.blocks.BlockId.{BlockId}
use Rattle.stl_ast.specs.Literals.{AreBytes}
use Rattle.stl_ast.specs.declared.blocks.Block.{Block}
use Rattle.stl_ast.specs.declared.blocks.Setting.{Setting}
use Rattle.stl_ast.specs.declared.blocks.Tree.{Tree}
use Rattle.stl_ast.specs.declared.declarations.Bounds.{Bounds}
use Rattle.stl_symbols.specs.Symbol.{Symbol}
use Rattle.block_layout.specs.InitialBytes.{Write, element_starts, initial_bytes, preset_values, bytes_with_write, setting_write, setting_writes, settings_at, structure_writes}
use Rattle.block_layout.specs.Layouts.{layouts_of}
use Rattle.block_layout.specs.Paths.{cells_at, folded_path, structure_of, path_end_in_data_block}
use Rattle.block_layout.specs.declared.blocks.BlockLayout.{BlockLayout}
use Rattle.block_layout.specs.declared.cells.Cell.{Cell}
use Rattle.block_layout.specs.declared.cells.Element.{Element}
use Rattle.block_layout.specs.declared.cells.Element.TheVariants.{Plain}
use Rattle.block_layout.specs.declared.cells.Preset.{Preset}
use Rattle.sem_kept.specs.AcceptedSource.{IsAccepted}

-- a write in so many bytes cuts nothing: it ends within them, is a single bit or whole bytes from
-- the start of one on, and has no fewer bits than its value
pub record IsWhole (len : ℕ) (w : Write) : Type 0 where
  -- it ends within the bytes
  pub within : w.offset + w.width ≤ 8 * len
  -- it is a single bit, or whole bytes from the start of one on
  pub begins : (w.width ≡ 1) ⊎ ((w.offset % 8 ≡ 0) × (w.width % 8 ≡ 0))
  -- its value has no more bits than it
  pub fits : w.value < 2 ^ w.width

-- an elementary component, or an array of one, has an element for each of its initial values,
-- wherever it begins; no other component has initial values
abbrev pub HasElements : List Bounds → List Preset → Element → Type 0
HasElements bounds presets (Plain kind) =
    (element start : ℕ)
    → length (preset_values presets) ≤ length (element_starts bounds element (start ∷ []))
HasElements bounds presets _ = presets ≡ []

-- a component breaks no rule, and has room for its initial values
pub record HasRoom (c : Cell) : Type 0 where
  -- it breaks no rule
  pub sound : c.sound ≡ true
  -- it has an element for each of its initial values
  pub elements : HasElements c.bounds c.presets c.of

-- a setting of the data block at a place of the source comes to one write, and to no other
pub record IsSettingWritten (l : List BlockLayout) (block : ℕ) (s : Setting) : Type 0 where
  -- the write of the setting
  pub write : Write
  -- the setting comes to this one alone
  pub alone : setting_write l s.value (path_end_in_data_block l block (folded_path s.path))
      ≡ write ∷ []

-- the writes of the data block at a place of the source: its initial values, and behind them its
-- settings
abbrev pub writes_of : List BlockLayout → List Block → (block : ℕ) → List Write
writes_of l blocks block =
    structure_writes l (structure_of l block)
    ++ setting_writes l block (settings_at (slice_get blocks block))

-- the initial bytes of the data block at a place of the source are made by its writes alone,
-- each of them whole, over as many zeros as it is long. Its structure is known, the components
-- of this and of each other block have room, and each setting is written
pub record IsMadeByWrites
    (l : List BlockLayout) (blocks : List Block) (block len : ℕ)
    : Type 0 where
  -- the writes, one after the other over zeros, give its initial bytes
  pub made : initial_bytes l blocks block
      ≡ fold bytes_with_write (replicate len 0) (writes_of l blocks block)
  -- each write lies within the bytes and cuts nothing
  pub whole : AllByRecursion (IsWhole len) (writes_of l blocks block)
  -- the block that declares its components is known
  pub known : is_some (structure_of l block) ≡ true
  -- the components of each block have room for their initial values
  pub room : (k : ℕ) → AllByRecursion HasRoom (cells_at l k false)
  -- each of its settings is written
  pub set : AllByRecursion (IsSettingWritten l block) (settings_at (slice_get blocks block))

-- the initial bytes of each data block of an accepted source, whose elements are bytes, are made
-- by whole writes alone
abbrev pub InitialValuesAreWhole : Type 0
InitialValuesAreWhole =
    (source file : List ℕ) (symbols : List Symbol) (t : Tree)
    → IsAccepted source file symbols t → AreBytes source
    → (k : ℕ) (l : BlockLayout) (id : BlockId) → slice_get (layouts_of t symbols) k ≡ Some l
    → l.id ≡ Some id → is_data_block id.kind ≡ true
    → IsMadeByWrites (layouts_of t symbols) t.blocks k l.length
