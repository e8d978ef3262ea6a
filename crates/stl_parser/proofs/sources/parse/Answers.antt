use Rattle.std.proofs.Common.{arith, ◌≤◌, length, ap}
use Rattle.std.proofs.Math.Logic.{∥∥₁_elim}
use Rattle.std.proofs.Props.{props}
use Rattle.stl_lexer.specs.declared.lists.Tokens.{Tokens}
use Rattle.stl_parser.proofs.SizeLemmas.{fewer_tokens, well_formed, bounded_by_tokens}
use Rattle.stl_parser.proofs.sources.parse.Goals as goal

few : (t : Tokens) → length t.list.items ≤ length t.source.items
few t = ∥∥₁_elim t.cut (hlevel props) (λ are. fewer_tokens t.source.items t.list.items are)

pub source_blocks-requires : goal.source_blocks-requires
source_blocks-requires c =
    let t = c.args.t.now in record { few = omega (arith, few t, t.limited, ap length c.as_slice-tokens.ensures.value) }

pub returns-clause-well_formed : goal.returns-clause-well_formed
returns-clause-well_formed c =
    well_formed c.as_slice.result.now c.as_slice-tokens.result.now (record { blocks = c.from_vec.result })
    (rw c.from_vec.ensures c.in_ok-blocks.ensures.read)

pub returns-clause-bounded : goal.returns-clause-bounded
returns-clause-bounded c =
    omega (
      arith,
      few c.args.t.now,
      ap length c.as_slice-tokens.ensures.value,
      bounded_by_tokens c.as_slice.result.now c.as_slice-tokens.result.now (record { blocks = c.from_vec.result })
          (rw c.from_vec.ensures c.in_ok-blocks.ensures.read),
    )
