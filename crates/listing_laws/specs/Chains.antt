-- The types of the parameters in a listing: those that a chain of passings joins have one.
use Rattle.std.specs.Prelude.{◌≡◌, ◌⊎◌, ◌↔◌, ◌<◌, ℕ, Bool, true, false, List, [], ◌∷◌, slice_get}
use Rattle.std.specs.List.{AllByRecursion}
use Rattle.plc_base.specs.declared.places.Width.{Width}
use Rattle.flat_code.specs.Programs.{CodeBlock}
use Rattle.stl_ast.specs.declared.declarations.Simple.{Simple}
use Rattle.stl_ast.specs.declared.declarations.Simple.TheVariants as simple
use Rattle.block_layout.specs.Offsets.{width_of}
use Rattle.stl_list.specs.declared.links.Link.{Link}
use Rattle.stl_list.specs.declared.links.Link.TheVariants.{Joins, Has}
use Rattle.stl_list.specs.JoinedParameters.{chains_of, is_int_kind, is_time_kind, kind_at, chain_labels, links, mark_at, marks_of, total_parameter_count}

-- ---- chains

-- a link is a passing of one of two parameters for the other
abbrev pub IsPassingStep : Link → (m n : ℕ) → Type 0
IsPassingStep (Joins own other) m n = ((own ≡ m) × (other ≡ n)) ⊎ ((own ≡ n) × (other ≡ m))
IsPassingStep (Has own kind) m n = ⊥

-- one of these links is a passing of one of two parameters for the other
abbrev pub HasStep : List Link → (m n : ℕ) → Type 0
HasStep [] m n = ⊥
HasStep (l ∷ ls) m n = IsPassingStep l m n ⊎ HasStep ls m n

-- a chain of passings leads from a parameter, over the others of a list, to one
abbrev pub IsPassingChain : List Link → (m : ℕ) → (over : List ℕ) → (n : ℕ) → Type 0
IsPassingChain ls m [] n = m ≡ n
IsPassingChain ls m (k ∷ over) n = HasStep ls m k × IsPassingChain ls k over n

-- a chain of passings leads from the parameter `m` to the parameter `n`
abbrev pub AreChained : List Link → (m n : ℕ) → Type 0
AreChained ls m n = (over : List ℕ) × IsPassingChain ls m over n

-- a link says that a parameter has a type that is meant
abbrev pub IsSeed : (Simple → Bool) → Link → (n : ℕ) → Type 0
IsSeed is_meant (Has own kind) n = (own ≡ n) × (is_meant kind ≡ true)
IsSeed is_meant (Joins own other) n = ⊥

-- one of these links says that the parameter `n` has a type that is meant
abbrev pub HasSeed : (Simple → Bool) → List Link → (n : ℕ) → Type 0
HasSeed is_meant [] n = ⊥
HasSeed is_meant (l ∷ ls) n = IsSeed is_meant l n ⊎ HasSeed is_meant ls n

-- a chain joins a parameter to one of a type that is meant
abbrev pub IsHandedType : (Simple → Bool) → List Link → (n : ℕ) → Type 0
IsHandedType is_meant ls n = (own : ℕ) × HasSeed is_meant ls own × AreChained ls own n

-- a link is of parameters below a number
abbrev pub IsLinkBelow : (count : ℕ) → Link → Type 0
IsLinkBelow count (Joins own other) = (own < count) × (other < count)
IsLinkBelow count (Has own kind) = own < count

-- ---- labels

-- parameters have the same label exactly where a chain joins them
abbrev pub AreLabelsJoined : Type 0
AreLabelsJoined =
    (count : ℕ) (ls : List Link) → AllByRecursion (IsLinkBelow count) ls
    → (m n : ℕ) → m < count → n < count
    → (slice_get (chain_labels count ls) m ≡ slice_get (chain_labels count ls) n)
    ↔ AreChained ls m n

-- the label of a parameter is marked exactly where a chain joins the parameter to one of a type
-- that is meant
abbrev pub AreMarksHanded : Type 0
AreMarksHanded =
    (is_meant : Simple → Bool) (count : ℕ) (ls : List Link) → AllByRecursion (IsLinkBelow count) ls
    → (n : ℕ) → n < count
    → (mark_at (marks_of is_meant (chain_labels count ls) ls)
    (slice_get (chain_labels count ls) n) ≡ true)
    ↔ IsHandedType is_meant ls n

-- ---- types

-- the declared types agree with a link: its two parameters have one type, or its parameter has the
-- type that it says
abbrev pub IsKeptBy : (declared : ℕ → Simple) → Link → Type 0
IsKeptBy declared (Joins own other) = declared own ≡ declared other
IsKeptBy declared (Has own kind) = declared own ≡ kind

-- a link says that a parameter has this type
abbrev pub LinkHasType : Link → (n : ℕ) → Simple → Type 0
LinkHasType (Has own kind) n type = (own ≡ n) × (kind ≡ type)
LinkHasType (Joins own other) n type = ⊥

-- one of these links says that the parameter `n` has this type
abbrev pub LinksHaveType : List Link → (n : ℕ) → Simple → Type 0
LinksHaveType [] n type = ⊥
LinksHaveType (l ∷ ls) n type = LinkHasType l n type ⊎ LinksHaveType ls n type

-- a type that a listing gives to a parameter
abbrev pub is_listed_type : Simple → Bool
is_listed_type simple.Char = false
is_listed_type simple.S5time = false
is_listed_type simple.Dint = false
is_listed_type _ = true

-- what a listing says of the types of parameters, beside what a source declared
pub record AreTypesAsDeclared (blocks : List CodeBlock) (declared : ℕ → Simple) : Type 0 where
  -- a parameter that is INT in the listing was declared INT
  pub ints : (n : ℕ) → n < total_parameter_count blocks → (w : Width)
      → is_int_kind (kind_at (chains_of blocks) n w) ≡ true → declared n ≡ simple.Int
  -- a parameter that is TIME in the listing was declared TIME
  pub times : (n : ℕ) → n < total_parameter_count blocks → (w : Width)
      → is_time_kind (kind_at (chains_of blocks) n w) ≡ true → declared n ≡ simple.Time
  -- the listed type of a parameter is as wide as its declared one
  pub widths : (n : ℕ) → n < total_parameter_count blocks
      → width_of (kind_at (chains_of blocks) n (width_of (declared n))) ≡ width_of (declared n)
  -- both ends of a passing have one type
  pub ends : (m n : ℕ) → HasStep (links blocks) m n → (w : Width)
      → kind_at (chains_of blocks) m w ≡ kind_at (chains_of blocks) n w
  -- what is passed to a system function has the type that it asks for
  pub seeds : (n : ℕ) (type : Simple) → LinksHaveType (links blocks) n type
      → is_listed_type type ≡ true
      → kind_at (chains_of blocks) n (width_of type) ≡ type

-- a listing says of the types of parameters what was declared, where the declared types agree with
-- each link of the program
abbrev pub AreTypesKept : Type 0
AreTypesKept =
    (blocks : List CodeBlock) (declared : ℕ → Simple)
    → AllByRecursion (IsLinkBelow (total_parameter_count blocks)) (links blocks)
    → AllByRecursion (IsKeptBy declared) (links blocks) → AreTypesAsDeclared blocks declared
