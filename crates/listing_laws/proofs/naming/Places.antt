-- Places that are no bit of the peripherals.
use Rattle.std.proofs.Common.{◌≡◌, Bool, true, false, List, [], ◌∷◌, Option, Some, None}
use Rattle.std.specs.Prelude.{find, if◌then◌else◌}
use Rattle.std.specs.List.{AllByRecursion}
use Rattle.std.specs.Option.{option_map, IfSome}
use Rattle.std.proofs.lemmas.Bool.{false≢true}
use Rattle.plc_base.specs.declared.places.Area.{Area}
use Rattle.plc_base.specs.declared.places.Area.TheVariants as area
use Rattle.plc_base.specs.declared.places.Width.{Width}
use Rattle.plc_base.specs.declared.places.Width.TheVariants as width
use Rattle.listing_laws.specs.Bodies.{IsNoBit}

-- the test
abbrev pub no_bit : Area → Width → Bool
no_bit area.P width.Bit = false
no_bit a w = true

pub no_bit_is : (a : Area) (w : Width) → no_bit a w ≡ true → IsNoBit a w
no_bit_is area.P width.Bit e = absurd (false≢true e)
no_bit_is area.P width.Byte e = tt
no_bit_is area.P width.Word e = tt
no_bit_is area.P width.Dword e = tt
no_bit_is area.I w e = tt
no_bit_is area.Q w e = tt
no_bit_is area.M w e = tt
no_bit_is area.Db w e = tt
no_bit_is area.Di w e = tt
no_bit_is area.L w e = tt

-- whatever an option is made of
pub mapped_holds : {A B : Type 0} (o : Option A) (f : A → B) (P : B → Type 0) → ((x : A) → P (f x)) → IfSome (option_map f o) P
mapped_holds None f P h = tt
mapped_holds (Some x) f P h = h x

-- what is found has what all have
pub found_among : {A : Type 0} (P : A → Type 0) (test : A → Bool) (xs : List A) → AllByRecursion P xs → IfSome (find test xs) P
found_among P test [] h = tt
found_among P test (x ∷ xs) (one, more) = by (test x) (found_among P test xs more)
  where
    by : (b : Bool) → IfSome (find test xs) P → IfSome (if b then Some x else find test xs) P
    by true k = one
    by false k = k
