use Rattle.std.proofs.Common.{◌≡◌, ◌++◌, length, drop}
use Rattle.flat_code.specs.PlacedOps.{bracket_codes}
use Rattle.image_file.proofs.checking.codes_of_few_brackets.Given as goal

abbrev pub invariant-loop-bracket : goal.invariant-loop-bracket
invariant-loop-bracket l = (length l.codes.items ≡ l.bracket-index) × (l.codes.items ++ bracket_codes (drop l.bracket-index l.brackets) ≡ bracket_codes l.brackets)
