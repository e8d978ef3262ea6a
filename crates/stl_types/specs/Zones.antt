-- Rules 47, 48 and 49: zones of the master control relay, from MCR( to )MCR.
use Rattle.std.specs.Prelude.{ℕ, ◌-◌, ◌&&◌, nat_eq, nat_le, Bool, true, false, List, [], ◌∷◌, ◌++◌, length, take, if◌then◌else◌}
use Rattle.std.specs.List.{flat_map}
use Rattle.plc_base.specs.declared.refusals.Refusal.{Refusal}
use Rattle.stl_ast.specs.declared.blocks.Block.{Block}
use Rattle.stl_ast.specs.declared.mnemonics.Mnemonic.{Mnemonic}
use Rattle.stl_ast.specs.declared.mnemonics.Mnemonic.TheVariants as code
use Rattle.stl_ast.specs.declared.statements.Statement.{Statement}
use Rattle.plc_base.specs.RefusalsAlong.{refusals_along}
use Rattle.plc_base.specs.Least.{broken_if}
use Rattle.stl_types.specs.Bodies.{in_bodies}

-- an instruction that opens a zone
unfoldable pub opens_zone : Mnemonic → Bool
opens_zone code.McrOpen = true
opens_zone _ = false

-- an instruction that ends a zone
unfoldable pub ends_zone : Mnemonic → Bool
ends_zone code.McrClose = true
ends_zone _ = false

-- the zones that are open behind a statement that opens none, by the lines of their MCR(. A )MCR
-- without open zone leaves none
abbrev pub zones_after_ending : (zones : List ℕ) → Mnemonic → List ℕ
zones_after_ending zones m = if ends_zone m then take (length zones - 1) zones else zones

-- the zones that are open behind a statement, by the lines of their MCR(, the outermost first
abbrev pub zones_behind : (zones : List ℕ) → Statement → List ℕ
zones_behind zones s =
    if opens_zone s.code then zones ++ s.line ∷ [] else zones_after_ending zones s.code

-- the zones that are open behind all statements of a list, by the lines of their MCR(, the
-- outermost first
abbrev pub zones_behind_all : (zones : List ℕ) → List Statement → List ℕ
zones_behind_all zones [] = zones
zones_behind_all zones (s ∷ ss) = zones_behind_all (zones_behind zones s) ss

-- the refusals of the statements of a body, by the zones that are open before each
abbrev pub with_zones : (List ℕ → Statement → List Refusal) → (zones : List ℕ)
    → List Statement → List Refusal
with_zones broken zones body = refusals_along (λ s. false) broken zones_behind zones body

-- a zone ends where none is open
abbrev pub ends_no_zone : (zones : List ℕ) → Statement → Bool
ends_no_zone zones s = ends_zone s.code && nat_eq (length zones) 0

-- a zone opens where eight are open, which is the limit
abbrev pub is_ninth_zone : (zones : List ℕ) → Statement → Bool
is_ninth_zone zones s = opens_zone s.code && nat_le 8 (length zones)

-- rule 47, in all bodies: a )MCR without open zone; the line is that of the )MCR
unfoldable pub rule_47 : List Block → List Refusal
rule_47 blocks =
    in_bodies (with_zones (λ zones s. broken_if (ends_no_zone zones s) s.line 47) []) blocks

-- rule 48 in a body: a zone that is open at the block's end; the line is that of its MCR(
abbrev pub zones_left_open : List Statement → List Refusal
zones_left_open body = flat_map (λ line. broken_if true line 48) (zones_behind_all [] body)

-- rule 48, in all bodies: a zone open at the block's end
unfoldable pub rule_48 : List Block → List Refusal
rule_48 blocks = in_bodies zones_left_open blocks

-- rule 49, in all bodies: the ninth open zone, and each one inside it
unfoldable pub rule_49 : List Block → List Refusal
rule_49 blocks =
    in_bodies (with_zones (λ zones s. broken_if (is_ninth_zone zones s) s.line 49) []) blocks
