use Rattle.listing_laws.proofs.LabelLemmas.{labels_apart, labels_reached}
use Rattle.listing_laws.proofs.WordLemmas.{call_words_found, end_words_found, have_words, jump_words_found, words_found}
use Rattle.listing_laws.proofs.labels.law_of_listed_labels.Goals as goal

pub returns : goal.returns
returns c = record {
  words = words_found;
  jump_words = jump_words_found;
  call_words = call_words_found;
  end_words = end_words_found;
  have_words = have_words;
  apart = labels_apart;
  reached = labels_reached;
}
