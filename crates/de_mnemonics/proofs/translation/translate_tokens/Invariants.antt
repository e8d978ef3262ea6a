use Rattle.std.proofs.Common.{◌≡◌, length}
use Rattle.de_mnemonics.specs.Translation.{with_bytes_before, translation_of, translation_from}
use Rattle.de_mnemonics.proofs.translation.translate_tokens.Given as goal

-- what was written, and then the translation of what is left, is all
abbrev pub invariant-loop-left : goal.invariant-loop-left
invariant-loop-left l =
    translation_of l.language l.source l.tokens ≡ with_bytes_before l.text.items (translation_from l.language l.source l.position l.left)

abbrev pub decreases-loop-left : goal.decreases-loop-left
decreases-loop-left l = length l.left
