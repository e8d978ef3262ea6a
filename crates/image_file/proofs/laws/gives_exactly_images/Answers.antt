use Rattle.image_file.proofs.WholeLemmas.{gives_image, image_gives}
use Rattle.image_file.proofs.laws.gives_exactly_images.Goals as goal

pub returns : goal.returns
returns c = λ bytes s p are. (gives_image bytes s p are, image_gives bytes s p are)
