use Rattle.std.proofs.Common.{sym, subst, arith}
use Rattle.flat_code.specs.Loading.{faults_of, GivesProgram}
use Rattle.image_file.proofs.LeastLemmas.{kept_is_least}
use Rattle.image_file.proofs.LoadLemmas.{image_loads}
use Rattle.image_file.proofs.loading.load.Goals as goal

pub program_of_image-requires-clause-program : goal.program_of_image-requires-clause-program
program_of_image-requires-clause-program c = (image_loads c.args.bytes.now c.in-Clean.image (λ i. omega (arith, c.type_inv.bytes i)) (rw c.in-Clean.is at c.in_ok-fault.ensures)).program

pub program_of_image-requires-clause-few : goal.program_of_image-requires-clause-few
program_of_image-requires-clause-few c = (image_loads c.args.bytes.now c.in-Clean.image (λ i. omega (arith, c.type_inv.bytes i)) (rw c.in-Clean.is at c.in_ok-fault.ensures)).few

pub program_of_image-requires-clause-verifies : goal.program_of_image-requires-clause-verifies
program_of_image-requires-clause-verifies c = (image_loads c.args.bytes.now c.in-Clean.image (λ i. omega (arith, c.type_inv.bytes i)) (rw c.in-Clean.is at c.in_ok-fault.ensures)).verifies

pub returns-in-Faulty-clause-refused : goal.returns-in-Faulty-clause-refused
returns-in-Faulty-clause-refused c = kept_is_least (faults_of c.args.bytes.now) c.in-Faulty.fault (rw c.in-Faulty.is at c.in_ok-fault.ensures)

pub returns-in_ok-loaded-in-Clean-clause-gives : goal.returns-in_ok-loaded-in-Clean-clause-gives
returns-in_ok-loaded-in-Clean-clause-gives c =
    let image = c.in-Clean.image in
    let loads = image_loads c.args.bytes.now image (λ i. omega (arith, c.type_inv.bytes i)) (rw c.in-Clean.is at c.in_ok-fault.ensures) in
    let e = c.in_ok-loaded-in-Clean.ensures in
    record {
      stamp = image.stamp;
      given = subst (GivesProgram c.args.bytes.now image.stamp) (sym e.program) loads.gives;
      profile = e.profile;
    }
