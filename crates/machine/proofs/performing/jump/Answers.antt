use Rattle.std.proofs.Common.{◌≡◌, false, sym, refl}
use Rattle.machine.specs.Flat.{is_jl}
use Rattle.machine.proofs.performing.jump.Goals as goal

pub returns-else-is_jl : goal.returns-else-is_jl
returns-else-is_jl c = λ code w other.
    let no : is_jl c.args.operation ≡ false = rw (sym c.is_jl.ensures) c.if-is_jl.false
    in rw no (c.jump_to.ensures, refl)
