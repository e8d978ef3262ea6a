-- What holds of whatever is found.
use Rattle.std.proofs.Common.{◌≡◌, Bool, true, false, Option, Some, None, IfSome, if◌then◌else◌, refl}
use Rattle.std.specs.Option.{option_and_then, option_map}

pub map_holds : {A B : Type 0} (o : Option A) (f : A → B) (Q : A → Type 0) (P : B → Type 0) → IfSome o Q
    → ((x : A) → Q x → P (f x)) → IfSome (option_map f o) P
map_holds None f Q P h k = tt
map_holds (Some x) f Q P h k = k x h

pub chain_holds : {A B : Type 0} (o : Option A) (f : A → Option B) (Q : A → Type 0) (P : B → Type 0) → IfSome o Q
    → ((x : A) → Q x → IfSome (f x) P) → IfSome (option_and_then f o) P
chain_holds None f Q P h k = tt
chain_holds (Some x) f Q P h k = k x h

-- where a test passes
pub then_holds : {A : Type 0} (b : Bool) (x : Option A) (P : A → Type 0) → (b ≡ true → IfSome x P)
    → IfSome (if b then x else None) P
then_holds true x P h = h refl
then_holds false x P h = tt

-- what is shown of a value that is found
pub search_holds : {A : Type 0} (o : Option A) (P : A → Type 0) → ((x : A) → o ≡ Some x → P x) → IfSome o P
search_holds None P k = tt
search_holds (Some x) P k = k x refl
