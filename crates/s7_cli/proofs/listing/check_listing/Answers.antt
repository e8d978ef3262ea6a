use Rattle.std.proofs.Common.{◌∙◌, ap, Err}
use Rattle.std.proofs.lemmas.Result.{IfOk-weaker, err_from_is_err_and}
use Rattle.stl_list.specs.declared.listing.Listing.{Listing}
use Rattle.s7_cli.proofs.ListLemmas.{list-refused, listing-refused}
use Rattle.s7_cli.proofs.listing.check_listing.Goals as goal

pub returns-in_err-loaded-clause-refused : goal.returns-in_err-loaded-clause-refused
returns-in_err-loaded-clause-refused c =
    let fault = err_from_is_err_and c.from_residual.result c.from_residual.ensures.1 in
    list-refused Listing c.args.image.now c.in_err-loaded.field-0.0 _ (fault.1 ∙ ap Err fault.2) c.in_err-loaded.ensures.refused

pub listing_that_compiles-requires : goal.listing_that_compiles-requires
listing_that_compiles-requires c = c.in_ok-loaded.ensures.loads.loadable.program

pub returns-clause-lists : goal.returns-clause-lists
returns-clause-lists c =
    IfOk-weaker c.listing_that_compiles.result _ _ (λ x is. (c.in_ok-loaded.loaded, c.in_ok-loaded.ensures.loads, is)) c.listing_that_compiles.ensures.lists

pub returns-clause-refused : goal.returns-clause-refused
returns-clause-refused c = listing-refused Listing c.args.image.now c.in_ok-loaded.loaded _ c.in_ok-loaded.ensures.loads c.listing_that_compiles.ensures.refused
