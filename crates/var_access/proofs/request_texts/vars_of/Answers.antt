use Rattle.std.proofs.Common.{ℕ, List, ◌≡◌, ◌∷◌, ◌∙◌, [], ap, arith, false}
use Rattle.flat_code.specs.Names.{find}
use Rattle.var_access.specs.Readings.{Reading, trim}
use Rattle.var_access.specs.Requests.{comma_parts}
use Rattle.var_access.specs.Variables.{var_of}
use Rattle.var_access.specs.declared.requests.Var.{Var}
use Rattle.var_access.proofs.PartLemmas.{parts_some}
use Rattle.var_access.proofs.RequestLemmas.{with_more, read_last, read_length, read_many, read_more, read_rest}
use Rattle.var_access.proofs.request_texts.vars_of.Goals as goal

pub returns-in-None : goal.returns-in-None
returns-in-None c =
    let f : List ℕ → Reading Var = λ part. var_of (find c.args.names.now) (trim part) in
    let last : comma_parts false c.loop.left.now ≡ c.first_part.result.0.now ∷ [] = rw c.in-None.is at c.first_part.ensures in
    c.with_var-vars.ensures
    ∙ ap (λ r. with_more c.loop.vars r) (c.var_of.ensures ∙ ap (λ t. var_of (find c.args.names.now) t) c.trim.ensures)
    ∙ read_last f (comma_parts false c.args.text.now) c.loop.counter c.first_part.result.0.now c.loop.vars
    (c.loop.invariant.others ∙ last) c.loop-test.true c.loop.invariant.vars_are

pub loop-preserved : goal.loop-preserved
loop-preserved c =
    let f : List ℕ → Reading Var = λ part. var_of (find c.args.names.now) (trim part) in
    let next : comma_parts false c.loop.left.now ≡ c.first_part.result.0.now ∷ comma_parts false c.in-Some.rest.now = rw c.in-Some.is at c.first_part.ensures in
    record {
      others = read_rest (comma_parts false c.args.text.now) c.loop.counter _ _ (c.loop.invariant.others ∙ next);
      vars_are =
          c.with_var-vars.ensures
          ∙ ap (λ r. with_more c.loop.vars r) (c.var_of.ensures ∙ ap (λ t. var_of (find c.args.names.now) t) c.trim.ensures)
          ∙ read_more f (comma_parts false c.args.text.now) c.loop.counter c.first_part.result.0.now _ c.loop.vars
          (c.loop.invariant.others ∙ next) c.loop.invariant.vars_are;
      few = rw c.with_var-vars.ensures (read_length c.loop.counter c.loop.vars c.var_of.result c.loop.invariant.few);
    }

pub returns : goal.returns
returns c =
    let f : List ℕ → Reading Var = λ part. var_of (find c.args.names.now) (trim part) in
    read_many f (comma_parts false c.args.text.now) (comma_parts false c.loop.left.now) c.loop.counter (omega (arith, c.loop-test.false)) c.loop.invariant.others (parts_some c.loop.left.now)
