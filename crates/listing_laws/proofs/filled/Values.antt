-- The values of settings are those of the bytes that they stand for.
use Rattle.std.proofs.Common.{◌≡◌, ℕ, zero, suc, ◌+◌, ◌*◌, ◌/◌, ◌%◌, ◌^◌, ◌<◌, ◌≤◌, true, List, length, refl, sym, ap, ◌∙◌, arith}
use Rattle.std.specs.Prelude.{get_or, nat_le}
use Rattle.std.specs.List.{AllByRecursion}
use Rattle.std.proofs.lemmas.Bool.Decides.{nat_tests}
use Rattle.std.proofs.lemmas.Option.{unwrap_or-slice_get}
use Rattle.plc_base.specs.Widths.{bit_count, width_number}
use Rattle.plc_base.specs.declared.places.Width.{Width}
use Rattle.plc_base.specs.declared.places.Width.TheVariants as width
use Rattle.flat_code.specs.Blocks.{literal_fits}
use Rattle.flat_code.specs.declared.programs.Param.{Param}
use Rattle.stl_ast.specs.declared.declarations.Simple.{Simple}
use Rattle.block_layout.specs.Fits.{bits_of}
use Rattle.block_layout.specs.InitialBytes.{Write, big_endian_bytes}
use Rattle.block_layout.specs.Offsets.{width_of}
use Rattle.block_layout.specs.RebuiltBytes.{IsTrueOf, OfBit, OfBytes, bit_in}
use Rattle.stl_list.specs.Constants.{typed_constant}
use Rattle.stl_list.specs.Initial.{byte_at, value_in, word_in_bytes}
use Rattle.listing_laws.specs.Chains.{is_listed_type}
use Rattle.listing_laws.proofs.BlockLemmas.{byte_is as byte_small, value_is}
use Rattle.listing_laws.proofs.called.Passings.{literal_bits}

-- ---- bytes of numbers

pub byte_is : (bytes : List ℕ) (at : ℕ) → byte_at bytes at ≡ get_or bytes at 0
byte_is bytes at = unwrap_or-slice_get bytes at 0

one_of : (a : ℕ) → a < 256 → a / 256 ^ 0 % 256 ≡ a
one_of a h = omega (arith, h)

high_of : (a b : ℕ) → a < 256 → b < 256 → (256 * a + b) / 256 ^ 1 % 256 ≡ a
high_of a b h k = omega (arith, h, k)

low_of : (a b : ℕ) → a < 256 → b < 256 → (256 * a + b) / 256 ^ 0 % 256 ≡ b
low_of a b h k = omega (arith, h, k)

first_of : (a b c d : ℕ) → a < 256 → b < 256 → c < 256 → d < 256 → (65536 * (256 * a + b) + (256 * c + d)) / 256 ^ 3 % 256 ≡ a
first_of a b c d h k m n = omega (arith, h, k, m, n)

second_of : (a b c d : ℕ) → a < 256 → b < 256 → c < 256 → d < 256 → (65536 * (256 * a + b) + (256 * c + d)) / 256 ^ 2 % 256 ≡ b
second_of a b c d h k m n = omega (arith, h, k, m, n)

third_of : (a b c d : ℕ) → a < 256 → b < 256 → c < 256 → d < 256 → (65536 * (256 * a + b) + (256 * c + d)) / 256 ^ 1 % 256 ≡ c
third_of a b c d h k m n = omega (arith, h, k, m, n)

last_of : (a b c d : ℕ) → a < 256 → b < 256 → c < 256 → d < 256 → (65536 * (256 * a + b) + (256 * c + d)) / 256 ^ 0 % 256 ≡ d
last_of a b c d h k m n = omega (arith, h, k, m, n)

half : (n : ℕ) → n % 2 % 2 ≡ n % 2
half n = omega arith

byte_in : (byte bit : ℕ) → bit < 8 → (8 * byte + bit) / 8 ≡ byte
byte_in byte bit h = omega (arith, h)

bit_of : (byte bit : ℕ) → bit < 8 → (8 * byte + bit) % 8 ≡ bit
bit_of byte bit h = omega (arith, h)

small_bit : (bit : ℕ) → bit < 8 → bit % 8 ≡ bit
small_bit bit h = omega (arith, h)

-- ---- the value of a parameter

-- a write of the value that a parameter has
abbrev pub value_write : (bytes : List ℕ) → Param → Write
value_write bytes p = record { offset = 8 * p.byte + p.bit; width = bit_count p.width; value = value_in bytes p.width p.byte p.bit }

module _ (bytes : List ℕ) (are : AllByRecursion (λ b. b < 256) bytes) where
  small_at : (at : ℕ) → byte_at bytes at < 256
  small_at at = byte_small bytes at are

  -- a byte of the value is that of the bytes
  read : (offset byte k : ℕ) → offset / 8 ≡ byte → byte_at bytes (byte + k) ≡ get_or bytes (offset / 8 + k) 0
  read offset byte k e = byte_is bytes (byte + k) ∙ ap (λ n. get_or bytes (n + k) 0) (sym e)

  pub value_true : (p : Param) → p.bit < 8 → 8 * p.byte + p.bit + bit_count p.width ≤ 8 * length bytes → IsTrueOf bytes (value_write bytes p)
  value_true p few = by p.width
    where
      at : (8 * p.byte + p.bit) / 8 ≡ p.byte
      at = byte_in p.byte p.bit few

      zero_read : byte_at bytes p.byte ≡ get_or bytes ((8 * p.byte + p.bit) / 8 + 0) 0
      zero_read = ap (byte_at bytes) (plus p.byte) ∙ read (8 * p.byte + p.bit) p.byte 0 at
        where
          plus : (n : ℕ) → n ≡ n + 0
          plus n = omega arith

      further : (k n : ℕ) → p.byte + 2 + k ≡ p.byte + n → byte_at bytes (p.byte + 2 + k) ≡ get_or bytes ((8 * p.byte + p.bit) / 8 + n) 0
      further k n e = ap (byte_at bytes) e ∙ read (8 * p.byte + p.bit) p.byte n at

      bit : (byte_at bytes p.byte / 2 ^ (p.bit % 8) % 2) % 2 ≡ bit_in bytes ((8 * p.byte + p.bit) / 8) ((8 * p.byte + p.bit) % 8)
      bit =
          let number = bit_of p.byte p.bit few in
          let same = small_bit p.bit few in
          half (byte_at bytes p.byte / 2 ^ (p.bit % 8)) ∙ (λ i. byte_is bytes p.byte i / 2 ^ (same i) % 2) ∙ sym (λ i. bit_in bytes (at i) (number i))

      byte : (k : ℕ) → k < 1 → get_or (big_endian_bytes 1 (byte_at bytes p.byte)) k 0 ≡ get_or bytes ((8 * p.byte + p.bit) / 8 + k) 0
      byte zero less = one_of (byte_at bytes p.byte) (small_at p.byte) ∙ zero_read
      byte (suc k) less = absurd (omega (arith, less))

      word : (k : ℕ) → k < 2 → get_or (big_endian_bytes 2 (word_in_bytes bytes p.byte)) k 0 ≡ get_or bytes ((8 * p.byte + p.bit) / 8 + k) 0
      word zero less = high_of (byte_at bytes p.byte) (byte_at bytes (p.byte + 1)) (small_at p.byte) (small_at (p.byte + 1)) ∙ zero_read
      word (suc zero) less = low_of (byte_at bytes p.byte) (byte_at bytes (p.byte + 1)) (small_at p.byte) (small_at (p.byte + 1)) ∙ read (8 * p.byte + p.bit) p.byte 1 at
      word (suc (suc k)) less = absurd (omega (arith, less))

      a : ℕ
      a = byte_at bytes p.byte

      b : ℕ
      b = byte_at bytes (p.byte + 1)

      c : ℕ
      c = byte_at bytes (p.byte + 2)

      d : ℕ
      d = byte_at bytes (p.byte + 2 + 1)

      double : (k : ℕ) → k < 4 → get_or (big_endian_bytes 4 (65536 * word_in_bytes bytes p.byte + word_in_bytes bytes (p.byte + 2))) k 0 ≡ get_or bytes ((8 * p.byte + p.bit) / 8 + k) 0
      double zero less = first_of a b c d (small_at p.byte) (small_at (p.byte + 1)) (small_at (p.byte + 2)) (small_at (p.byte + 2 + 1)) ∙ zero_read
      double (suc zero) less = second_of a b c d (small_at p.byte) (small_at (p.byte + 1)) (small_at (p.byte + 2)) (small_at (p.byte + 2 + 1)) ∙ read (8 * p.byte + p.bit) p.byte 1 at
      double (suc (suc zero)) less = third_of a b c d (small_at p.byte) (small_at (p.byte + 1)) (small_at (p.byte + 2)) (small_at (p.byte + 2 + 1)) ∙ read (8 * p.byte + p.bit) p.byte 2 at
      double (suc (suc (suc zero))) less =
          last_of a b c d (small_at p.byte) (small_at (p.byte + 1)) (small_at (p.byte + 2)) (small_at (p.byte + 2 + 1)) ∙ further 1 3 (omega arith)
      double (suc (suc (suc (suc k)))) less = absurd (omega (arith, less))

      by : (w : Width) → 8 * p.byte + p.bit + bit_count w ≤ 8 * length bytes
          → IsTrueOf bytes (record { offset = 8 * p.byte + p.bit; width = bit_count w; value = value_in bytes w p.byte p.bit })
      by width.Bit h = OfBit refl (omega (arith, h)) bit
      by width.Byte h = OfBytes refl (omega (arith, h)) byte
      by width.Word h = OfBytes refl (omega (arith, h)) word
      by width.Dword h = OfBytes refl (omega (arith, h)) double

  value_fits : (w : Width) (byte bit : ℕ) → literal_fits (width_number w) (value_in bytes w byte bit) ≡ true
  value_fits width.Bit byte bit = one (byte_at bytes byte / 2 ^ (bit % 8))
    where
      one : (n : ℕ) → nat_le (n % 2) 1 ≡ true
      one n = grind (arith, nat_tests)
  value_fits width.Byte byte bit = one (byte_at bytes byte) (small_at byte)
    where
      one : (n : ℕ) → n < 256 → nat_le n 255 ≡ true
      one n h = grind (arith, nat_tests)
  value_fits width.Word byte bit = two (byte_at bytes byte) (byte_at bytes (byte + 1)) (small_at byte) (small_at (byte + 1))
    where
      two : (m n : ℕ) → m < 256 → n < 256 → nat_le (256 * m + n) 65535 ≡ true
      two m n h k = grind (arith, nat_tests)
  value_fits width.Dword byte bit = refl

  -- the value of a setting is that of the parameter
  pub value_bits : (kind : Simple) (p : Param) → is_listed_type kind ≡ true → width_of kind ≡ p.width → bits_of (typed_constant kind (value_in bytes p.width p.byte p.bit)) ≡ value_in bytes p.width p.byte p.bit
  value_bits kind p listed wide =
      literal_bits kind (value_in bytes p.width p.byte p.bit) listed
      (ap (λ w. literal_fits (width_number w) (value_in bytes p.width p.byte p.bit)) wide ∙ value_fits p.width p.byte p.bit) (value_is bytes p.width p.byte p.bit are)
