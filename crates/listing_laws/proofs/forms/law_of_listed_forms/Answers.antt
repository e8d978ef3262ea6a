use Rattle.listing_laws.proofs.FormLemmas.{data_printed, frames_printed, labels_printed}
use Rattle.listing_laws.proofs.forms.law_of_listed_forms.Goals as goal

pub returns : goal.returns
returns c = record { data_blocks = data_printed; frames = frames_printed; labels = labels_printed }
