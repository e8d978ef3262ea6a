use Rattle.s7_cli.proofs.UpgradeLemmas.{keeps-alike, lives-alike, load-alike, runs-alike}
use Rattle.s7_cli.proofs.upgraded_images.law_of_upgrades.Goals as goal

pub returns-clause-loads : goal.returns-clause-loads
returns-clause-loads c = load-alike c.gives_exactly_images.ensures

pub returns-clause-runs : goal.returns-clause-runs
returns-clause-runs c = runs-alike c.gives_exactly_images.ensures

pub returns-clause-lives : goal.returns-clause-lives
returns-clause-lives c = lives-alike c.gives_exactly_images.ensures

pub returns-clause-keeps : goal.returns-clause-keeps
returns-clause-keeps c = keeps-alike c.one_program.ensures.one
