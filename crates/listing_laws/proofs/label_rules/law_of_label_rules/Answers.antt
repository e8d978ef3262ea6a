use Rattle.listing_laws.proofs.label_rules.law_of_label_rules.Goals as goal
use Rattle.listing_laws.proofs.ruled.Labels.{labels_once}
use Rattle.listing_laws.proofs.ruled.Reached.{labels_known}
use Rattle.listing_laws.proofs.ruled.Within.{jumps_within}

pub returns : goal.returns
returns c = record { once = labels_once; known = labels_known; within = jumps_within }
