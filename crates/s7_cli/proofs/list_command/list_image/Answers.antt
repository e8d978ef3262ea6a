use Rattle.std.proofs.Common.{ap, inl, inr, refl, sym, ◌∙◌, List, [], ◌∷◌, ℕ, Ok, Err}
use Rattle.std.proofs.lemmas.Result.{err_from_is_err_and}
use Rattle.stl_list.specs.declared.listing.Listing.{Listing}
use Rattle.s7_cli.specs.Answer.{CallAnswer}
use Rattle.s7_cli.specs.Command.{ListImage}
use Rattle.s7_cli.specs.ListSays.{ListSays}
use Rattle.s7_cli.proofs.ComesLemmas.{comes-refused}
use Rattle.s7_cli.proofs.list_command.list_image.Goals as goal

pub returns-in_err-listing : goal.returns-in_err-listing
returns-in_err-listing g c img start read =
    let fault = err_from_is_err_and c.from_residual.result c.from_residual.ensures.1 in
    comes-refused Listing (ListImage img c.args.src.now c.args.sym.now) start _ _ (c.args.image.now ∷ []) (ListSays c.args.image.now) _ _
    (fault.1 ∙ ap Err fault.2) read (λ (a : CallAnswer) said. said) c.in_err-listing.ensures.refused

pub returns : goal.returns
returns g c img start read =
    let image : List ℕ = c.args.image.now in
    let is = c.in_ok-listing.ensures.lists in
    c.write_outputs.ensures (ListImage img c.args.src.now c.args.sym.now) (image ∷ []) (record {
      outputs = refl;
      apart = c.requires;
      writes_first = (is.0, is.1, is.2.compiles, inl (refl, c.as_slice.ensures.value ∙ is.2.source_is));
      writes_second = (is.0, is.1, is.2.compiles, inr (refl, c.as_slice-2.ensures.value ∙ is.2.symbols_are));
      says = (Ok is.0, is.1, inr (inr (is.2.short, is.2.compiles, refl)));
    }) start read
