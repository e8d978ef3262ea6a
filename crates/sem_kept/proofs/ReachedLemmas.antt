-- What paths, addresses and symbols come to: a place, a parameter, a timer, a counter, a block, or
-- a variable that isn't elementary. One walk along them, for all that asks what they can't be or
-- how long their ops are.
use Rattle.std.proofs.Common.{ℕ, Bool, true, false, if◌then◌else◌, List, Option, Some, None}
use Rattle.std.specs.Option.{IfSome}
use Rattle.std.specs.Prelude.{◌/◌, nat_le}
use Rattle.plc_base.specs.declared.places.Area.{Area}
use Rattle.plc_base.specs.declared.places.Area.TheVariants as area
use Rattle.plc_base.specs.declared.places.Width.{Width}
use Rattle.stl_ast.specs.declared.blocks.PathStep.{PathStep}
use Rattle.stl_ast.specs.declared.declarations.Simple.{Simple}
use Rattle.stl_ast.specs.declared.names.BlockName.{BlockName}
use Rattle.stl_ast.specs.declared.operands.Letters.{Letters}
use Rattle.stl_ast.specs.declared.operands.PathHead.{PathHead}
use Rattle.stl_ast.specs.declared.operands.PathHead.TheVariants as head
use Rattle.stl_symbols.specs.Symbol.{Symbol}
use Rattle.stl_symbols.specs.declared.targets.Target.{Target}
use Rattle.stl_symbols.specs.declared.targets.Target.TheVariants as target
use Rattle.block_layout.specs.Offsets.{elementary_place, place_at, width_of}
use Rattle.block_layout.specs.Paths.{elementary_at}
use Rattle.block_layout.specs.declared.cells.Cell.{Cell}
use Rattle.block_layout.specs.declared.cells.Element.{Element}
use Rattle.block_layout.specs.declared.cells.Element.TheVariants as element
use Rattle.block_layout.specs.declared.path_ends.PathEnd.{PathEnd}
use Rattle.block_layout.specs.declared.path_ends.PathEnd.TheVariants as path_end
use Rattle.stl_types.specs.Addresses.{address_in_block}
use Rattle.stl_types.specs.Context.{Context, data_number, in_function}
use Rattle.stl_types.specs.Resolution.{resolution_of_address, resolution_of_path, resolution_of_symbol, resolved_target}
use Rattle.stl_types.specs.Variables.{composite_operand, data_at, data_path, data_at_path_end, date_or_composite, own_at, own_at_path_end, parameter_at, parameter_resolution, variable_in_area}
use Rattle.stl_types.specs.declared.resolved_operands.Resolution.{Resolution}
use Rattle.stl_types.specs.declared.resolved_operands.Resolution.TheVariants.{Resolved}
use Rattle.stl_types.specs.declared.resolved_operands.ResolvedOperand.TheVariants as resolved

-- one of these, or nothing that is resolved; the data block of a place has such a number
abbrev pub IsReached : (ℕ → Type 0) → Resolution → Type 0
IsReached P (Resolved (resolved.Direct place width side declared)) = P place.number
IsReached P (Resolved (resolved.Parameter index section declared)) = Unit {0}
IsReached P (Resolved resolved.Composite) = Unit {0}
IsReached P (Resolved resolved.Date) = Unit {0}
IsReached P (Resolved (resolved.Timer number)) = Unit {0}
IsReached P (Resolved (resolved.Counter number)) = Unit {0}
IsReached P (Resolved resolved.Block) = Unit {0}
IsReached P (Resolved _) = ⊥
IsReached P _ = Unit {0}

-- any data block
abbrev pub AnyNumber : ℕ → Type 0
AnyNumber number = Unit {0}

composite_reached : (P : ℕ → Type 0) (c : Option Cell) → IsReached P (Resolved (composite_operand c))
composite_reached P None = tt
composite_reached P (Some c) = by c.of
  where
    by : (e : Element) → IsReached P (Resolved (date_or_composite e))
    by element.DateAndTime = tt
    by _ = tt

area_reached : (P : ℕ → Type 0) (a : Area) (number bits : ℕ) (kind : Simple) → P number
    → IsReached P (variable_in_area kind (elementary_place a number bits (Some kind)))
area_reached P a number bits kind h = by (nat_le (bits / 8) 65535)
  where
    by : (near : Bool)
        → IsReached P (variable_in_area kind (if near then Some (place_at a number bits, width_of kind) else None))
    by true = h
    by false = tt

parameter_reached : (P : ℕ → Type 0) (index : ℕ) (kind : Simple) (c : Option Cell)
    → IsReached P (parameter_resolution index kind c)
parameter_reached P index kind None = tt
parameter_reached P index kind (Some c) = tt

pub own_reached : (P : ℕ → Type 0) → P 0 → (c : Context) (temporary : Bool) (w : PathEnd)
    → IsReached P (own_at_path_end c temporary w)
own_reached P h c temporary path_end.Unknown = tt
own_reached P h c temporary path_end.Unjudged = tt
own_reached P h c temporary (path_end.Reaches component) = by (elementary_at c.layouts component)
  where
    elementary : (temporary function : Bool) (kind : Simple)
        → IsReached P (if temporary then variable_in_area kind (elementary_place area.L 0 component.offset (Some kind))
        else if function then parameter_at c component kind
        else variable_in_area kind (elementary_place area.Di 0 component.offset (Some kind)))
    elementary true function kind = area_reached P area.L 0 component.offset kind h
    elementary false true kind = parameter_reached P _ kind _
    elementary false false kind = area_reached P area.Di 0 component.offset kind h

    by : (o : Option Simple) → IsReached P (own_at c temporary component o)
    by None = composite_reached P _
    by (Some kind) = elementary temporary (in_function c) kind

data_reached : (P : ℕ → Type 0) (c : Context) (number : ℕ) → P number → (w : PathEnd)
    → IsReached P (data_at_path_end c number w)
data_reached P c number h path_end.Unknown = tt
data_reached P c number h path_end.Unjudged = tt
data_reached P c number h (path_end.Reaches component) = by (elementary_at c.layouts component)
  where
    by : (o : Option Simple) → IsReached P (data_at c number component o)
    by None = composite_reached P _
    by (Some kind) = area_reached P area.Db number component.offset kind h

pub data_path_reached : (c : Context) (steps : List PathStep) (number place : Option ℕ)
    → IsReached AnyNumber (data_path c steps number place)
data_path_reached c steps (Some number) (Some block) = data_reached AnyNumber c number tt _
data_path_reached c steps (Some number) None = tt
data_path_reached c steps None place = tt

-- the number that stands with the variable of a symbol
abbrev pub HasNumber : (ℕ → Type 0) → Target → Type 0
HasNumber P (target.Variable place width) = P place.number
HasNumber P _ = Unit {0}

target_reached : (P : ℕ → Type 0) (t : Target) → HasNumber P t → IsReached P (Resolved (resolved_target t))
target_reached P (target.Variable place width) h = h
target_reached P (target.Timer number) h = tt
target_reached P _ h = tt

pub symbol_reached : (P : ℕ → Type 0) (s : Option Symbol) → IfSome s (λ s. HasNumber P s.target) → IsReached P (resolution_of_symbol s)
symbol_reached P None h = tt
symbol_reached P (Some s) h = target_reached P s.target h

any_symbol : (s : Option Symbol) → IfSome s (λ s. HasNumber AnyNumber s.target)
any_symbol None = tt
any_symbol (Some s) = by s.target
  where
    by : (t : Target) → HasNumber AnyNumber t
    by (target.Variable place width) = tt
    by _ = tt

pub path_reached : (c : Context) (h : PathHead) (steps : List PathStep) → IsReached AnyNumber (resolution_of_path c h steps)
path_reached c (head.Local name) steps = own_reached AnyNumber tt c _ _
path_reached c (head.InBlock name) steps = data_path_reached c _ _ _
path_reached c (head.Symbol name) steps = symbol_reached AnyNumber _ (any_symbol _)

pub direct_reached : (c : Context) (name : Option BlockName) (a : Letters) (w : Width) (byte bit : ℕ)
    → IsReached AnyNumber (resolution_of_address c name a w byte bit)
direct_reached c None a w byte bit = tt
direct_reached c (Some name) a w byte bit = by (data_number c name)
  where
    by : (number : Option ℕ) → IsReached AnyNumber (address_in_block number a w byte bit)
    by None = tt
    by (Some number) = tt
