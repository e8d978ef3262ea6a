use Rattle.std.proofs.Common.{nat_lt, ap, subst, length, List, refl}
use mathlib.Core.List.{IsPrefix}
use Rattle.watch_board.specs.declared.shown.Shown.{Shown}
use Rattle.watch_board.proofs.PrefixLemmas.{shorter_of_two}
use Rattle.watch_board.proofs.prefixes.Prefix.is_shorter.Goals as goal

-- both have learned of one list
pub returns : goal.returns
returns c =
    let both = c.learn.new.self.log in
    let xs = c.self.inside.seen.log in
    let ys = c.other.inside.seen.log in
    let this : IsPrefix xs both = subst (λ (l : List Shown). IsPrefix l both) (ap (λ s. s.log) c.again-both.ensures) c.learn.ensures.2 in
    rw (← c.self.view_is, ← c.other.view_is, c.self.invariant.0, c.other.invariant.0) (shorter_of_two xs ys both this c.learn.ensures.3 (nat_lt (length xs) (length ys)) refl)
