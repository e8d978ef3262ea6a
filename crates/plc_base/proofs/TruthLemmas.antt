-- The parts of truth values, one by one.
use Rattle.std.proofs.Common.{◌≡◌, Bool, true, false, ◌&&◌, ◌||◌, refl}
use Rattle.std.proofs.lemmas.Bool.{and_parts}

pub and_first : (a b : Bool) → (a && b) ≡ true → a ≡ true
and_first a b h = (and_parts a b h).0

pub and_second : (a b : Bool) → (a && b) ≡ true → b ≡ true
and_second a b h = (and_parts a b h).1

-- what isn't so makes the whole not so
pub and_unmet : (a b : Bool) → a ≡ false → (a && b) ≡ false
and_unmet true b h = absurd cc
and_unmet false b h = refl

pub and_unmet_behind : (a b : Bool) → b ≡ false → (a && b) ≡ false
and_unmet_behind true b h = h
and_unmet_behind false b h = refl

pub or_met_behind : (a b : Bool) → b ≡ true → (a || b) ≡ true
or_met_behind true b h = refl
or_met_behind false b h = h
