use Rattle.std.proofs.Common.{◌≡◌, ◌++◌, length}
use Rattle.stack_bound.specs.CertificateText.{certificate_text}
use Rattle.stack_bound.proofs.texts.write_certificate.Given as goal

-- the text so far, and that of what is left
abbrev pub invariant-loop-left : goal.invariant-loop-left
invariant-loop-left l = l.initial.out.items ++ certificate_text l.list ≡ l.out.items ++ certificate_text l.left

abbrev pub decreases-loop-left : goal.decreases-loop-left
decreases-loop-left l = length l.left
