-- An area-crossing pointer: the bit in bits 0 to 2, the byte in bits 3 to 18, the area in bits 24
-- to 26, and bit 31 set. The other bits mean nothing.
use Rattle.std.specs.Prelude.{ℕ, ◌+◌, ◌*◌, ◌/◌, ◌%◌, ◌^◌, ◌==◌, if◌then◌else◌, Option, Some, None, option_map}
use Rattle.plc_base.specs.declared.places.Area.{Area}
use Rattle.plc_base.specs.declared.places.Area.TheVariants.{P, I, Q, M, Db, Di, L}
use Rattle.plc_base.specs.declared.places.Place.{Place}

-- the number of an area in a pointer
abbrev pub area_number : Area → ℕ
area_number P = 0
area_number I = 1
area_number Q = 2
area_number M = 3
area_number Db = 4
area_number Di = 5
area_number L = 6

-- the area of a number in a pointer; none above 6
abbrev pub area_numbered : ℕ → Option Area
area_numbered number =
    if number == 0 then Some P
    else if number == 1 then Some I
    else if number == 2 then Some Q
    else if number == 3 then Some M
    else if number == 4 then Some Db
    else if number == 5 then Some Di
    else if number == 6 then Some L
    else None

-- the place that an area-crossing pointer names, with data block number 0; none where bit 31 is 0
-- or the area number is 7
unfoldable pub place_at_pointer : ℕ → Option Place
place_at_pointer pointer =
    if pointer / 2 ^ 31 % 2 == 1
    then option_map
    (λ area. record {
      area = area;
      number = 0;
      byte = pointer / 2 ^ 3 % 2 ^ 16;
      bit = pointer % 2 ^ 3;
    })
    (area_numbered (pointer / 2 ^ 24 % 8))
    else None

-- the area-crossing pointer to a place, with all bits that mean nothing 0
abbrev pub pointer_of : Place → ℕ
pointer_of place = 2 ^ 31 + 2 ^ 24 * area_number place.area + 2 ^ 3 * place.byte + place.bit
