use Rattle.std.proofs.Common.{◌≡◌, ℕ, Bool, List, Option, refl, ◌∙◌, ap}
use Rattle.plc_base.specs.declared.blocks.BlockId.{BlockId}
use Rattle.stl_ast.specs.declared.blocks.Block.{Block}
use Rattle.block_layout.specs.Blocks.{id_of}
use Rattle.block_layout.specs.Facts.{outline_of}
use Rattle.block_layout.specs.Layouts.{block_layout, is_broken}
use Rattle.block_layout.specs.Lengths.{length_of_block, local_len, shape_of}
use Rattle.block_layout.specs.Types.{Types}
use Rattle.block_layout.specs.declared.blocks.Shape.{Shape}
use Rattle.block_layout.specs.declared.outlines.Outline.{Outline}
use Rattle.block_layout.proofs.building.block_layout.Goals as goal

made : (y : Types) (blocks some : List Block) (b : Block) (i : Option BlockId) (broken : Bool) (s : Shape) (o : Outline) (local len : ℕ) → i ≡ id_of y.symbols b →
    broken ≡ is_broken y blocks some b → s ≡ shape_of y b → o ≡ outline_of y b → local ≡ local_len y b → len ≡ length_of_block y blocks b →
    record { id = i; broken = broken; shape = s; components = o.components; temps = o.temps; local_len = local; length = len } ≡ block_layout y blocks some b
unfolding block_layout
made y blocks some b i broken s o local len is_id is_broken_ is_shape is_outline is_local is_len =
    rw is_id (rw is_broken_ (rw is_shape (rw is_outline (rw is_local (rw is_len refl)))))

pub returns : goal.returns
returns c = λ blocks some outline facts before.
    made c.args.types.now blocks some c.args.block.now c.id_of.result c.is_broken-broken.result c.shape_of.result c.args.outline c.args.local c.args.len
    (c.id_of.ensures ∙ ap (λ (t : Types). id_of t.symbols c.args.block.now) c.types.view_is)
    (c.is_broken-broken.ensures blocks some facts before)
    c.shape_of.ensures outline facts.locals facts.bytes
