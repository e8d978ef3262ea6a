-- What contracts see of a memory.
use Rattle.std.specs.Prelude.{ℕ, List, refl}
use Rattle.std.specs.Ordering.{nat_cmp}
use Rattle.std.specs.FinMap as map
use Rattle.std.specs.Coded.{Coded, code_by, coded×, coded_ℕ, coded_list}

-- The bytes of a peripheral area, that of the inputs (PI) or that of the outputs (PQ), by rising
-- number: bytes 0 to 127 and bytes 256 to 767. Between them there are none.
pub record PeripheralBytes : Type 0 where
  -- peripheral bytes 0 to 127, as many as a process image has
  pub low : List ℕ
  -- peripheral bytes 256 to 767, which no process image has
  pub high : List ℕ

-- The memory areas but local data (L): the bytes of each area by rising number, and those of each
-- loaded data block.
pub record Areas : Type 0 where
  -- the bytes of the process image of the inputs (I)
  pub inputs : List ℕ
  -- the bytes of the process image of the outputs (Q)
  pub outputs : List ℕ
  -- the bytes of bit memory (M)
  pub bit_memory : List ℕ
  -- the bytes of the peripheral inputs (PI)
  pub peripheral_inputs : PeripheralBytes
  -- the bytes of the peripheral outputs (PQ)
  pub peripheral_outputs : PeripheralBytes
  -- the bytes of each loaded data block (DB), by the number of the data block
  pub data_blocks : map.FinMap nat_cmp (List ℕ)

-- How the data blocks are coded as data that a Rust value can have as its model.
abbrev pub data_blocks_code : Coded (map.FinMap nat_cmp (List ℕ))
data_blocks_code = map.code coded_ℕ (coded_list coded_ℕ)

-- How a peripheral area is coded as data that a Rust value can have as its model: its two parts as
-- a pair.
abbrev pub peripheral_code : Coded PeripheralBytes
peripheral_code =
    code_by
    (List ℕ × List ℕ)
    (coded× (coded_list coded_ℕ) (coded_list coded_ℕ))
    (λ p. (p.low, p.high))
    (λ p. record { low = p.0; high = p.1 })
    (λ _. refl)

-- How the memory areas are coded as data that a Rust value can have as its model: as pairs of the
-- process images, the peripheral areas, and bit memory with the data blocks.
abbrev pub areas_code : Coded Areas
areas_code =
    code_by
    ((List ℕ × List ℕ)
    × ((PeripheralBytes × PeripheralBytes) × (List ℕ × map.FinMap nat_cmp (List ℕ))))
    (coded×
    (coded× (coded_list coded_ℕ) (coded_list coded_ℕ))
    (coded×
    (coded× peripheral_code peripheral_code)
    (coded× (coded_list coded_ℕ) data_blocks_code)))
    (λ m. (
      (m.inputs, m.outputs),
      ((m.peripheral_inputs, m.peripheral_outputs), (m.bit_memory, m.data_blocks)),
    ))
    (λ p.
    let images = p.0 in
    let peripheral = p.1.0 in
    let others = p.1.1 in
    record {
      inputs = images.0;
      outputs = images.1;
      bit_memory = others.0;
      peripheral_inputs = peripheral.0;
      peripheral_outputs = peripheral.1;
      data_blocks = others.1;
    })
    (λ _. refl)
