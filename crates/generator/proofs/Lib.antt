mod DrawLemmas
mod RoundLemmas
