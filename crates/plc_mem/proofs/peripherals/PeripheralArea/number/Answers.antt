use Rattle.std.proofs.Common.{sym, ◌∙◌, arith}
use Rattle.plc_mem.proofs.Numbers.{low_number, high_number}
use Rattle.plc_mem.proofs.peripherals.PeripheralArea.number.Goals as goal

pub returns-then-at-lt-HIGH_START : goal.returns-then-at-lt-HIGH_START
returns-then-at-lt-HIGH_START c =
    rw
    (← c.self.view_is)
    (c.number.ensures.value ∙ sym (low_number (record { low = c.self.inside.low; high = c.self.inside.high }) c.args.at c.args.bit c.args.width (omega arith) (omega arith)))

pub returns-else-at-lt-HIGH_START : goal.returns-else-at-lt-HIGH_START
returns-else-at-lt-HIGH_START c =
    rw
    (← c.self.view_is)
    (c.number-else-at-lt-HIGH_START.ensures ∙ sym (high_number (record { low = c.self.inside.low; high = c.self.inside.high }) c.args.at c.args.bit c.args.width (omega arith)))
