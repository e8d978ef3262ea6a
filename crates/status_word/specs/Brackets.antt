-- Nesting: A(, AN(, O(, ON(, X(, XN( and ), over the list of the open brackets, the innermost one
-- first.
-- Siemens, Statement List (STL): Bit Logic Instructions, "Nesting Open" and "Nesting Closed".
use Rattle.std.specs.Prelude.{Bool, true, false, List, [], ◌∷◌, ◌≡◌}
use Rattle.plc_base.specs.declared.instructions.Check.{Check}
use Rattle.status_word.specs.declared.nesting.Bracket.{Bracket}
use Rattle.status_word.specs.declared.registers.Regs.{Regs}
use Rattle.status_word.specs.Check.{after_check}

-- the entry of the nesting stack for a bracket that begins: RLO, OR, /FC and the function code
abbrev pub bracket_entry : Check → Regs → Bracket
bracket_entry code r = record { rlo = r.status.rlo; or = r.status.or; fc = r.status.fc; code = code }

-- the registers at the begin of a bracket, in which a new logic string begins: OR 0, STA 1, /FC 0
unfoldable pub bracket_begun : Regs → Regs
bracket_begun r = record r { status = record r.status { or = false; sta = true; fc = false } }

-- registers with RLO, OR and /FC as an entry of the nesting stack keeps them
abbrev pub bracket_restored : Bracket → Regs → Regs
bracket_restored b r = record r { status = record r.status { rlo = b.rlo; or = b.or; fc = b.fc } }

-- registers with STA 1
abbrev pub with_sta : Regs → Regs
with_sta r = record r { status = record r.status { sta = true } }

-- the registers after ), which makes the check of the bracket's entry, on what the entry kept, with
-- the RLO inside the bracket as the value read; STA 1
unfoldable pub bracket_ended : Bracket → Regs → Regs
bracket_ended b r = with_sta (after_check b.code r.status.rlo (bracket_restored b r))

-- what ) does to the list of open brackets and to the registers; it answers whether a bracket was
-- open
abbrev pub Closes :
    (old : List Bracket) (before : Regs) (new : List Bracket) (after : Regs) (answer : Bool)
    → Type 0
Closes [] before new after answer = (answer ≡ false) × (new ≡ []) × (after ≡ before)
Closes (b ∷ rest) before new after answer =
    (answer ≡ true) × (new ≡ rest) × (after ≡ bracket_ended b before)
