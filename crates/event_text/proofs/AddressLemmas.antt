-- Variables and requests that are written, part by part.
use Rattle.std.proofs.Common.{◌≡◌, ◌≤◌, ◌<◌, ◌^◌, ℕ, true, List, [], ◌∷◌, length, arith}
use Rattle.std.specs.List.{AllByRecursion, list_all}
use Rattle.std.proofs.lemmas.Bool.{eqb-true, leb-true}
use Rattle.plc_base.proofs.TruthLemmas.{and_first, and_second}
use Rattle.plc_base.specs.Kinds.{is_code}
use Rattle.plc_base.specs.Widths.{bit_count}
use Rattle.plc_base.specs.declared.blocks.BlockKind.{BlockKind}
use Rattle.plc_base.specs.declared.blocks.BlockKind.TheVariants as kind
use Rattle.plc_base.specs.declared.places.Area.{Area}
use Rattle.plc_base.specs.declared.places.Area.TheVariants.{P, I, Q, M, Db, Di, L}
use Rattle.plc_base.specs.declared.places.Width.{Width}
use Rattle.plc_base.specs.declared.places.Width.TheVariants.{Bit, Byte, Word, Dword}
use Rattle.var_access.specs.Entry.{has_variables, is_bit_of_width, is_var, IsRequest}
use Rattle.var_access.specs.declared.requests.Request.{Request}
use Rattle.var_access.specs.declared.requests.Request.TheVariants.{ReadVars, WriteVar, Stop, Restart, MonitorOn, MonitorOff, Diag}
use Rattle.var_access.specs.declared.requests.Var.{Var}
use Rattle.event_text.specs.Regular.{FitsPlace, RequestFits}

-- I, Q and M have no block number
abbrev pub HasArea : Area → ℕ → Type 0
HasArea I number = number ≡ 0
HasArea Q number = number ≡ 0
HasArea M number = number ≡ 0
HasArea Db number = Unit {0}
HasArea _ number = ⊥

-- only a bit has a bit's number
abbrev pub HasBit : Width → ℕ → Type 0
HasBit Bit bit = bit ≤ 7
HasBit _ bit = bit ≡ 0

-- a variable whose address can be written
pub record IsAddress (v : Var) : Type 0 where
  pub number : v.place.number < 65536
  pub byte : v.place.byte < 65536
  pub area : HasArea v.place.area v.place.number
  pub bit : HasBit v.width v.place.bit

has-area : (area : Area) (number : ℕ) → has_variables area number ≡ true → HasArea area number
has-area I number h = eqb-true number 0 h
has-area Q number h = eqb-true number 0 h
has-area M number h = eqb-true number 0 h
has-area Db number h = tt
has-area P number h = cc
has-area Di number h = cc
has-area L number h = cc

has-bit : (width : Width) (bit : ℕ) → is_bit_of_width width bit ≡ true → HasBit width bit
has-bit Bit bit h = leb-true bit 7 h
has-bit Byte bit h = eqb-true bit 0 h
has-bit Word bit h = eqb-true bit 0 h
has-bit Dword bit h = eqb-true bit 0 h

pub address : (v : Var) → is_var v ≡ true → FitsPlace v → IsAddress v
address v is fits = record {
  number = omega (arith, fits.0);
  byte = omega (arith, fits.1);
  area = has-area v.place.area v.place.number (and_first _ _ is);
  bit = has-bit v.width v.place.bit (and_second _ _ is);
}

abbrev pub AreAddresses : List Var → Type 0
AreAddresses vs = AllByRecursion IsAddress vs

addresses : (vs : List Var) → list_all is_var vs ≡ true → AllByRecursion FitsPlace vs → AreAddresses vs
addresses [] is fits = tt
addresses (v ∷ vs) is fits = (address v (and_first _ _ is) fits.0, addresses vs (and_second _ _ is) fits.1)

-- a kind of blocks that can be monitored
abbrev pub IsKind : BlockKind → Type 0
IsKind kind.Ob = Unit {0}
IsKind kind.Fc = Unit {0}
IsKind kind.Fb = Unit {0}
IsKind _ = ⊥

code-kind : (k : BlockKind) → is_code k ≡ true → IsKind k
code-kind kind.Ob h = tt
code-kind kind.Fc h = tt
code-kind kind.Fb h = tt
code-kind kind.Db h = cc
code-kind kind.Sfc h = cc
code-kind kind.Udt h = cc

-- a request that can be written
abbrev pub IsWritable : Request → Type 0
IsWritable (ReadVars vars) = (1 ≤ length vars) × (length vars ≤ 8) × AreAddresses vars
IsWritable (WriteVar var value) = IsAddress var × (value < 2 ^ bit_count var.width)
IsWritable (MonitorOn block) = IsKind block.kind × (block.number < 65536)
IsWritable _ = Unit {0}

pub writable : (r : Request) → IsRequest r → RequestFits r → IsWritable r
writable (ReadVars vars) is fits = (is.0, is.1, addresses vars is.2 fits)
writable (WriteVar var value) is fits = (address var is.0 fits, is.1)
writable Stop is fits = tt
writable Restart is fits = tt
writable (MonitorOn block) is fits = (code-kind block.kind is, omega (arith, fits))
writable MonitorOff is fits = tt
writable Diag is fits = tt
