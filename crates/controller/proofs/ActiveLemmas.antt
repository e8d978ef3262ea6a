-- The activations that stand, in the front of a list.
use Rattle.std.proofs.Common.{◌≡◌, ℕ, ◌+◌, ◌<◌, ◌≤◌, List, [], ◌∷◌, ◌++◌, length, take, set, get_or, Option, Some, None, true, false, refl, sym, ap, ◌∙◌, rules}
use Rattle.std.specs.Prelude.{map, reverse, min, IfSome}
use Rattle.std.specs.Option.{option_map}
use Rattle.std.proofs.lemmas.List.{length-reverse, length-take-le, take_more_set, take_more, reverse-append, reverse-reverse}
use Rattle.plc_base.specs.declared.Profile.{Profile}
use Rattle.frames.specs.Activations.{activation_begun, frame_begun}
use Rattle.frames.specs.declared.Activation.{Activation}
use Rattle.machine.specs.Code.{BlockHead}
use Rattle.ob_sched.specs.declared.start_infos.StartInfo.{StartInfo}
use Rattle.machine.specs.Lasting.{ob_block}
use Rattle.controller.specs.Beginning.{ob_begun, ob_frame, with_start_bytes}
use Rattle.controller.specs.Leaves.{ObBegins}
use Rattle.controller.specs.Ticking.{active_obs}
use Rattle.controller.specs.Views.{activations_of}
use Rattle.controller.proofs.SameLemmas.{with_start_bytes_class, with_start_bytes_ob}

pub one_more : (xs : List ℕ) (x : ℕ) (ys : List ℕ) → (xs ++ x ∷ []) ++ ys ≡ xs ++ x ∷ ys
one_more [] x ys = refl
one_more (first ∷ rest) x ys = ap (λ (more : List ℕ). first ∷ more) (one_more rest x ys)

pub no_more : (xs : List ℕ) → xs ++ [] ≡ xs
no_more [] = refl
no_more (first ∷ rest) = ap (λ (more : List ℕ). first ∷ more) (no_more rest)

-- how many stand
pub standing_count : (n : ℕ) (all : List Activation) → n ≤ length all
    → length (activations_of n all) ≡ n
standing_count n all h = length-reverse (take n all) ∙ length-take-le n all h

pub front_count : (n : ℕ) (all : List Activation) → n ≤ length all → length (take n all) ≡ n
front_count n all h = length-take-le n all h

-- their organization blocks
pub active_standing : (n : ℕ) (all : List Activation)
    → map (λ (b : Activation). b.ob) (take n all) ≡ active_obs (activations_of n all)
active_standing n all = ap (map (λ (b : Activation). b.ob)) (sym (reverse-reverse (take n all)))

-- one more stands
pub one_begun : (n : ℕ) (old all : List Activation) (a : Activation) → n < length all
    → take n all ≡ take n old
    → activations_of (n + 1) (set all n a) ≡ a ∷ activations_of n old
one_begun n old all a h same =
    ap reverse (take_more_set all n a h) ∙ reverse-append (take n all) (a ∷ [])
    ∙ ap (λ (front : List Activation). a ∷ reverse front) same

-- the running one is the last of them
pub running_last : (n : ℕ) (all : List Activation) (a : Activation) → n < length all
    → a ≡ get_or all n a → activations_of (n + 1) all ≡ a ∷ activations_of n all
running_last n all a h here =
    ap reverse (take_more all n a h ∙ ap (λ (b : Activation). take n all ++ b ∷ []) (sym here))
    ∙ reverse-append (take n all) (a ∷ [])

-- an organization block of a program as it begins
pub block_begins : (profile : Profile) (found : Option BlockHead) (class ob : ℕ) (info : StartInfo) (n : ℕ)
    (old : List Activation) → Some n ≡ option_map (λ (head : BlockHead). min head.local_len 1024) found
    → ObBegins (option_map (ob_begun profile class ob info) found) old
    (with_start_bytes 0 info.bytes (activation_begun profile class ob (frame_begun (ob_block ob) n)) ∷ old) true
unfolding ob_begun
block_begins profile None class ob info n old h = absurd cc
block_begins profile (Some head) class ob info n old h = search (rules, h)

pub block_missing : (profile : Profile) (found : Option BlockHead) (class ob : ℕ) (info : StartInfo) (old : List Activation)
    → None ≡ option_map (λ (head : BlockHead). min head.local_len 1024) found
    → ObBegins (option_map (ob_begun profile class ob info) found) old old false
block_missing profile None class ob info old h = refl
block_missing profile (Some head) class ob info old h = absurd cc

-- its class and its number
pub block_is : (profile : Profile) (found : Option BlockHead) (class ob : ℕ) (info : StartInfo)
    → IfSome (option_map (ob_begun profile class ob info) found)
    (λ (a : Activation). (a.class ≡ class) × (a.ob ≡ ob))
unfolding ob_begun
block_is profile None class ob info = tt
block_is profile (Some head) class ob info = (
  with_start_bytes_class info.bytes 0 (activation_begun profile class ob (ob_frame ob head)),
  with_start_bytes_ob info.bytes 0 (activation_begun profile class ob (ob_frame ob head)),
)
