use Rattle.image_file.proofs.LandingLemmas.{jump_lands, list_leads}
use Rattle.image_file.proofs.laws.jumps_land.Goals as goal

pub returns : goal.returns
returns c = record { targets = λ p b q kind target h is. jump_lands p b q kind target h is; lists = λ p b q target h is. list_leads p b q target h is }
