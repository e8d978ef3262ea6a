use Rattle.std.proofs.Common.{◌≡◌, ◌∙◌, ap}
use Rattle.std.specs.Prelude.{Option, Some, None, IsSomeAnd}
use Rattle.clap.specs.Words.{Rule, rule_of}
use Rattle.clap.specs.Lexer.{usize_max}
use Rattle.clap.specs.declared.builder.action.ArgAction.TheVariants.{Append}
use Rattle.clap.specs.declared.builder.arg.Arg.{Arg}
use Rattle.clap.specs.declared.builder.range.ValueRange.{ValueRange}
use Rattle.s7_cli.proofs.words.file_words.Goals as goal

-- the one value that has to be there
only_value : (range : Option ValueRange) (r : ValueRange) → IsSomeAnd range (λ x. x ≡ r) → range ≡ Some r
only_value (Some x) r is = ap (λ (v : ValueRange). Some v) is
only_value None r is = absurd is

pub returns-clause-rule : goal.returns-clause-rule
returns-clause-rule c =
    ap rule_of c.action.ensures
    ∙ ap (λ (a : Arg). record (rule_of a) { action = Some Append }) c.num_args.ensures.0
    ∙ ap (λ (range : Option ValueRange). record (rule_of c.new.result) { action = Some Append; range = range }) (only_value _ _ c.num_args.ensures.1)
    ∙ ap (λ (r : Rule). record r { action = Some Append; range = Some (record { start_inclusive = 0; end_inclusive = usize_max }) }) c.new.ensures.rule
