-- Bytes that are written again, component by component.
use Rattle.std.specs.Prelude.{◌≡◌, ◌≤◌, ◌<◌, ◌⊎◌, ℕ, ◌+◌, ◌/◌, ◌%◌, nat_eq, List, [], ◌∷◌, get_or, length, replicate, false}
use Rattle.std.specs.List.{fold, AllByRecursion}
use Rattle.std.specs.Int.{bit_at}
use Rattle.block_layout.specs.InitialBytes.{Write, big_endian_bytes, bytes_with_write}

-- a bit of a byte of some bytes
abbrev pub bit_in : List ℕ → (byte bit : ℕ) → ℕ
bit_in bytes byte bit = bit_at (get_or bytes byte 0) bit

-- a write of a single bit, or of whole bytes, that writes what these bytes have there
pub data IsTrueOf (bytes : List ℕ) (w : Write) : Type 0 where
  -- a write of one bit, whose byte is there and has that bit
  OfBit : (w.width ≡ 1) → (w.offset / 8 < length bytes)
      → (w.value % 2 ≡ bit_in bytes (w.offset / 8) (w.offset % 8)) → IsTrueOf bytes w
  -- a write of whole bytes, the high one first, which are all there and equal
  OfBytes : (nat_eq w.width 1 ≡ false) → (w.offset / 8 + w.width / 8 ≤ length bytes)
      → ((k : ℕ) → k < w.width / 8
      → get_or (big_endian_bytes (w.width / 8) w.value) k 0 ≡ get_or bytes (w.offset / 8 + k) 0)
      → IsTrueOf bytes w

-- a write reaches a bit
pub data Reaches (w : Write) (byte bit : ℕ) : Type 0 where
  -- the single bit that is written
  InBit : (w.width ≡ 1) → (byte ≡ w.offset / 8) → (bit ≡ w.offset % 8) → Reaches w byte bit
  -- a bit of one of the whole bytes that are written
  InBytes : (nat_eq w.width 1 ≡ false) → (w.offset / 8 ≤ byte) → (byte < w.offset / 8 + w.width / 8)
      → Reaches w byte bit

-- one of these writes reaches a bit
abbrev pub OneReaches : List Write → (byte bit : ℕ) → Type 0
OneReaches [] byte bit = ⊥
OneReaches (w ∷ ws) byte bit = Reaches w byte bit ⊎ OneReaches ws byte bit

-- bytes are there again where each write writes what they have, and each bit that is set is reached
abbrev pub AreRebuilt : Type 0
AreRebuilt =
    (bytes : List ℕ) (ws : List Write) → ((k : ℕ) → get_or bytes k 0 < 256)
    → AllByRecursion (IsTrueOf bytes) ws
    → ((byte bit : ℕ) → bit < 8 → bit_in bytes byte bit ≡ 1 → OneReaches ws byte bit)
    → fold bytes_with_write (replicate (length bytes) 0) ws ≡ bytes
