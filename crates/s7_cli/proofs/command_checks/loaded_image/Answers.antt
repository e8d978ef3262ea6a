use Rattle.std.proofs.Common.{arith}
use Rattle.std.proofs.lemmas.Result.{IfOk-weaker}
use Rattle.s7_cli.proofs.command_checks.loaded_image.Goals as goal

pub returns-clause-loads : goal.returns-clause-loads
returns-clause-loads c =
    IfOk-weaker c.load.result _ _
    (λ l image. record {
      image = image;
      loadable = (c.gives_exactly_images.ensures c.args.image.now image.stamp l.program (λ i. omega (arith, c.type_inv.image i))).0 image.given;
    })
    c.load.ensures.gives
