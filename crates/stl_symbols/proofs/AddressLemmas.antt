-- Letters of addresses.
use Rattle.std.proofs.Common.{ℕ, ◌≡◌, List, [], ◌∷◌, Some, Bool, true, false, cond, refl, find, map, bytes_eq}
use Rattle.std.specs.Option.{option_map}
use Rattle.stl_symbols.specs.Address.{letters_spelled_as, letters_in_language}
use Rattle.stl_symbols.specs.declared.addresses.AddressLetters.{AddressLetters}
use Rattle.stl_symbols.specs.declared.languages.Language.{Language}

-- a look-up in a table whose entries are first made plain
pub look_up-map : {A : Type 0} (english german : A → List ℕ) (value : A → AddressLetters) (language : Language) (xs : List A) (word : List ℕ) →
    letters_spelled_as language (map (λ e. (english e, german e, value e)) xs) word
    ≡ option_map value (find (λ e. bytes_eq word (letters_in_language language (english e) (german e))) xs)
unfolding letters_spelled_as
look_up-map english german value language [] word = refl
look_up-map english german value language (x ∷ xs) word =
    let Test : Bool → Type 0 = λ b.
    option_map {T = List ℕ × List ℕ × AddressLetters} (λ e. e.2)
    (cond b (Some (english x, german x, value x))
    (find {X = List ℕ × List ℕ × AddressLetters} (λ e. bytes_eq word (letters_in_language language e.0 e.1)) (map (λ e. (english e, german e, value e)) xs)))
    ≡ option_map value (cond b (Some x) (find (λ e. bytes_eq word (letters_in_language language (english e) (german e))) xs)) in
    elim (bytes_eq word (letters_in_language language (english x) (german x))) as Test [
      | true ↦ refl
      | false ↦ look_up-map english german value language xs word
    ]
