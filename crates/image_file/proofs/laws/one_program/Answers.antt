use Rattle.std.proofs.Common.{true}
use Rattle.image_file.proofs.ImageLemmas.{image_again, image_one, image_takes}
use Rattle.image_file.proofs.laws.one_program.Goals as goal

pub returns : goal.returns
returns c = record {
  one = image_one;
  read = λ s p is right. let h = image_again true s p right is.short in (_, h.found, h.clean);
  spelled = λ bytes s p end are found clean. image_takes bytes s p end are (record { found = found; clean = clean });
}
