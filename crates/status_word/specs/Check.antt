-- Bit logic instructions A, AN, O, ON, X and XN: the check of one bit.
-- Siemens, Statement List (STL): Bit Logic Instructions.
use Rattle.std.specs.Prelude.{Bool, true, false, not, ◌&&◌, ◌||◌, if◌then◌else◌}
use Rattle.plc_base.specs.declared.instructions.Check.{Check}
use Rattle.plc_base.specs.declared.instructions.Check.TheVariants.{A, An, O, On, X, Xn}
use Rattle.status_word.specs.declared.registers.Regs.{Regs}

-- the value of a check, where `read` is the bit read: AN, ON and XN invert it
abbrev pub check_value : (code : Check) (read : Bool) → Bool
check_value A read = read
check_value An read = not read
check_value O read = read
check_value On read = not read
check_value X read = read
check_value Xn read = not read

-- 1 where just one of the two is 1
abbrev pub exclusive_or : Bool → Bool → Bool
exclusive_or true b = not b
exclusive_or false b = b

-- the RLO combined with the value of a check: by AND, OR or exclusive OR
abbrev pub rlo_joined : (code : Check) (rlo value : Bool) → Bool
rlo_joined A rlo value = rlo && value
rlo_joined An rlo value = rlo && value
rlo_joined O rlo value = rlo || value
rlo_joined On rlo value = rlo || value
rlo_joined X rlo value = exclusive_or rlo value
rlo_joined Xn rlo value = exclusive_or rlo value

-- whether a check is one by exclusive OR: X or XN
abbrev pub is_exclusive : Check → Bool
is_exclusive A = false
is_exclusive An = false
is_exclusive O = false
is_exclusive On = false
is_exclusive X = true
is_exclusive Xn = true

-- whether a check is one by AND: A or AN
abbrev pub is_and : Check → Bool
is_and A = true
is_and An = true
is_and O = false
is_and On = false
is_and X = false
is_and Xn = false

-- what a check makes of the RLO, without the OR bit: the value of the check where it is the first
-- one of a logic string (/FC 0), else the RLO combined with the value
abbrev pub check_base : (code : Check) (fc rlo value : Bool) → Bool
check_base code fc rlo value = if fc then rlo_joined code rlo value else value

-- the RLO after a check: `check_base` or the OR bit, but for X and XN within a logic string
-- `check_base` alone
abbrev pub rlo_after : (code : Check) (fc rlo or read : Bool) → Bool
rlo_after code fc rlo or read =
    if fc && is_exclusive code then check_base code fc rlo (check_value code read)
    else check_base code fc rlo (check_value code read) || or

-- the OR bit after a check: A and AN keep it, the others clear it
abbrev pub or_after : (code : Check) (or : Bool) → Bool
or_after code or = is_and code && or

-- a check of a bit that reads as `read`: RLO by `rlo_after`, OR by `or_after`, STA the bit as it
-- was read, /FC 1
unfoldable pub after_check : (code : Check) (read : Bool) → Regs → Regs
after_check code read r =
    record r {
      status = record r.status {
        rlo = rlo_after code r.status.fc r.status.rlo r.status.or read;
        or = or_after code r.status.or;
        sta = read;
        fc = true;
      };
    }
