-- The names of the parameters of the blocks in a listing: each has its own.
use Rattle.std.specs.Prelude.{◌≡◌, ◌≤◌, ℕ, Bool, true, false, ◌&&◌, ◌==◌, List, [], ◌∷◌, length, Some}
use Rattle.flat_code.specs.Records.{section_out}
use Rattle.flat_code.specs.declared.programs.Param.{Param}
use Rattle.stl_types.specs.Parameters.{system_formals}
use Rattle.stl_types.specs.declared.parameters.Formal.{Formal}
use Rattle.stl_list.specs.JoinedParameters.{PassingChains}
use Rattle.stl_list.specs.Signatures.{formals_from, is_behind}
use Rattle.listing_laws.specs.Passings.{AreNamedApart}

-- an OUT behind an IN_OUT of a function, its return value, is the last of its parameters
abbrev pub ReturnsLast : (returns behind : Bool) → List Param → Type 0
ReturnsLast returns behind [] = Unit {0}
ReturnsLast returns behind (p ∷ ps) =
    ((behind && p.section == section_out) ≡ true → ps ≡ [])
    × ReturnsLast returns (is_behind returns behind p) ps

-- the parameters of a block in a listing have names of their own, where a return value is the last
-- of them
abbrev pub AreOwnNamesApart : Type 0
AreOwnNamesApart =
    (c : PassingChains) (returns : Bool) (first : ℕ) (ps : List Param) → length ps ≤ 65536
    → ReturnsLast returns false ps → AreNamedApart (formals_from c returns false 0 first ps)

-- the parameters of each system function have names of their own
abbrev pub AreSystemNamesApart : Type 0
AreSystemNamesApart = (n : ℕ) (fs : List Formal) → system_formals n ≡ Some fs → AreNamedApart fs
