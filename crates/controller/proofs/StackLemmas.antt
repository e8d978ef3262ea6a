-- At most two activations stand in each of 24 classes.
use Rattle.std.proofs.Common.{◌≡◌, ℕ, ◌+◌, ◌-◌, ◌*◌, ◌<◌, ◌≤◌, Bool, true, false, ◌||◌, ◌&&◌, IsTrue, List, [], ◌∷◌, length, Option, refl, sym, subst, arith, if◌then◌else◌}
use Rattle.std.specs.Prelude.{◌==◌, nat_le}
use Rattle.std.proofs.lemmas.Bool.Decides.{nat_tests}
use Rattle.plc_base.specs.declared.Mode.{Mode}
use Rattle.plc_base.specs.declared.Mode.TheVariants.{Run, Startup, Stop}
use Rattle.plc_base.specs.declared.Spot.{Spot}
use Rattle.frames.specs.declared.Activation.{Activation}
use Rattle.ob_sched.specs.OrganizationBlock.{priority_class_in}
use Rattle.controller.specs.Errors.{is_synchronous}
use Rattle.controller.specs.Stack.{may_ob_be_started, IsStarted, StandsOn, IsStack, AtMost48}

-- the classes of an operating mode, numbered without a gap
pub IsClass : Mode → ℕ → Type 0
IsClass Run class = IsTrue (nat_le 1 class && (nat_le class 23 || class == 26))
IsClass Startup class = IsTrue (class == 27 || class == 28)
IsClass (Stop cause at) class = ⊥

abbrev pub level : ℕ → ℕ
level class = if nat_le class 23 then class else if class == 26 then 24 else class - 26

class_known : (mode : Mode) (ob : ℕ) (below : List Activation)
    → IsTrue (may_ob_be_started mode ob below) → IsClass mode (priority_class_in mode ob)
unfolding IsClass
class_known Run ob below h = grind (arith, nat_tests)
class_known Startup ob [] h = grind (arith, nat_tests)
class_known Startup ob (b ∷ below) h = grind (arith, nat_tests)
class_known (Stop cause at) ob below h = absurd cc

level_some : (mode : Mode) (class : ℕ) → IsClass mode class → 1 ≤ level class
unfolding IsClass
level_some Run class h = grind (arith, nat_tests)
level_some Startup class h = grind (arith, nat_tests)
level_some (Stop cause at) class h = absurd h

level_most : (mode : Mode) (class : ℕ) → IsClass mode class → level class ≤ 24
unfolding IsClass
level_most Run class h = grind (arith, nat_tests)
level_most Startup class h = grind (arith, nat_tests)
level_most (Stop cause at) class h = absurd h

level_rises : (mode : Mode) (lower higher : ℕ) → IsClass mode lower → IsClass mode higher
    → lower < higher → level lower + 1 ≤ level higher
unfolding IsClass
level_rises Run lower higher l h rises = grind (arith, nat_tests)
level_rises Startup lower higher l h rises = grind (arith, nat_tests)
level_rises (Stop cause at) lower higher l h rises = absurd l

-- how many more may stand in the class of an activation
pub left_in : (is_error : Bool) → ℕ
left_in true = 0
left_in false = 1

pub record IsRoomy (mode : Mode) (a : Activation) (below : List Activation) : Type 0 where
  pub class : IsClass mode a.class
  pub room : length (a ∷ below) + left_in (is_synchronous a.ob) ≤ 2 * level a.class

known_of : (mode : Mode) (class ob : ℕ) (below : List Activation) → IsStarted mode class ob below
    → IsClass mode class
known_of mode class ob below started =
    subst (λ c. IsClass mode c) (sym started.class_is) (class_known mode ob below started.stands)

-- the lowest one
lowest_roomy : (test : Bool) (mode : Mode) (a : Activation) → is_synchronous a.ob ≡ test
    → StandsOn test mode a [] → IsRoomy mode a []
unfolding left_in
lowest_roomy true mode a is stands = absurd stands
lowest_roomy false mode a is stands =
    let known : IsClass mode a.class = known_of mode a.class a.ob [] stands in
    record { class = known; room = rw is (omega (arith, level_some mode a.class known)) }

-- one above another
higher_roomy : (test : Bool) (mode : Mode) (a b : Activation) (more : List Activation)
    → is_synchronous a.ob ≡ test → StandsOn test mode a (b ∷ more) → IsRoomy mode b more
    → IsRoomy mode a (b ∷ more)
unfolding left_in
higher_roomy true mode a b more is stands lower =
    let single : length (b ∷ more) + 1 ≤ 2 * level b.class =
    subst (λ t. length (b ∷ more) + left_in t ≤ 2 * level b.class) stands.1 lower.room in
    record {
      class = subst (λ class. IsClass mode class) (sym stands.0) lower.class;
      room = rw (is, stands.0) (omega (arith, single));
    }
higher_roomy false mode a b more is stands lower =
    let known : IsClass mode a.class = known_of mode a.class a.ob (b ∷ more) stands in
    record {
      class = known;
      room =
          rw is
          (omega (arith, lower.room, level_rises mode b.class a.class lower.class known stands.above));
    }

pub roomy : (mode : Mode) (a : Activation) (below : List Activation) → IsStack mode (a ∷ below)
    → IsRoomy mode a below
roomy mode a [] stack = lowest_roomy (is_synchronous a.ob) mode a refl stack.0
roomy mode a (b ∷ more) stack =
    higher_roomy (is_synchronous a.ob) mode a b more refl stack.0 (roomy mode b more stack.1)

pub at_most_48 : AtMost48
at_most_48 mode [] stack = omega arith
at_most_48 mode (a ∷ below) stack =
    let r : IsRoomy mode a below = roomy mode a below stack in
    omega (arith, r.room, level_most mode a.class r.class)

-- in STARTUP the classes are 27 and 28
startup_least : (class : ℕ) → IsClass Startup class → 27 ≤ class
unfolding IsClass
startup_least class h = grind (arith, nat_tests)

pub startup_class : (a : Activation) (below : List Activation) → IsStack Startup (a ∷ below)
    → 27 ≤ a.class
startup_class a below stack = startup_least a.class (roomy Startup a below stack).class

-- in STOP none stands
pub no_stack : (cause : ℕ) (at : Option Spot) (a : Activation) (below : List Activation)
    → IsStack (Stop cause at) (a ∷ below) → ⊥
unfolding IsClass
no_stack cause at a below stack = (roomy (Stop cause at) a below stack).class
