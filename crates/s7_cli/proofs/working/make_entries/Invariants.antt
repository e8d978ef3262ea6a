use Rattle.std.proofs.Common.{◌≡◌, ◌≤◌, false, [], ◌∷◌, length, take}
use Rattle.s7_cli.proofs.working.make_entries.Given as goal

abbrev pub invariant-loop-turn : goal.invariant-loop-turn
invariant-loop-turn g l =
    (l.turn ≤ length l.entries) × (l.p.lock ≡ l.s) × (l.p.out ≡ false) × (l.p.number ≡ l.fn.p.number)
    × (l.p.made ≡ record { number = l.fn.p.number; entries = take l.turn l.entries } ∷ [])
