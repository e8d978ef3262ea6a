-- What refuses the contents of files, handed on by a caller that says more of it.
use Rattle.std.proofs.Common.{◌≡◌, sym, subst, Result, Err}
use Rattle.s7_cli.specs.declared.failures.Failure.{Failure}
use Rattle.s7_cli.specs.declared.failures.Failure.TheVariants.{WordsRefused, ReadFault, TooLong, Refused, ImageRefused, NoListing, SaysNo, TooDeep, WriteFault, NoMemory}
use Rattle.s7_cli.specs.Answer.{CallAnswer, refused_file_answer, refused_image_answer, no_listing_answer, says_no_answer, too_long_answer}
use Rattle.s7_cli.specs.Inner.{SaysRefusal}

pub refusal_says_more : (V W : Type 0) (said says : CallAnswer → Type 0) (failure : Failure) → ((a : CallAnswer) → said a → says a)
    → SaysRefusal {V = V} said (Err failure) → SaysRefusal {V = W} says (Err failure)
refusal_says_more V W said says (Refused file refusal) each refused = each (refused_file_answer file refusal) refused
refusal_says_more V W said says (ImageRefused fault) each refused = each (refused_image_answer fault) refused
refusal_says_more V W said says (TooLong file) each refused = each (too_long_answer file) refused
refusal_says_more V W said says NoListing each refused = each no_listing_answer refused
refusal_says_more V W said says SaysNo each refused = each says_no_answer refused
refusal_says_more V W said says NoMemory each refused = tt
refusal_says_more V W said says TooDeep each refused = absurd refused
refusal_says_more V W said says WordsRefused each refused = absurd refused
refusal_says_more V W said says ReadFault each refused = absurd refused
refusal_says_more V W said says WriteFault each refused = absurd refused

pub refused-more : (V W : Type 0) (said says : CallAnswer → Type 0) (failure : Failure) (r : Result W Failure) → r ≡ Err failure
    → ((a : CallAnswer) → said a → says a) → SaysRefusal {V = V} said (Err failure) → SaysRefusal says r
refused-more V W said says failure r is each refused =
    subst (λ (q : Result W Failure). SaysRefusal says q) (sym is) (refusal_says_more V W said says failure each refused)
