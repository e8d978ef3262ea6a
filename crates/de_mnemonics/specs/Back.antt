-- What the translation of a word comes back to.
use Rattle.std.specs.Prelude.{◌≡◌, true, ℕ, List, Some}
use Rattle.std.specs.Str.{str_eq_ignore_ascii_case}
use Rattle.stl_symbols.specs.declared.languages.Language.{Language}
use Rattle.de_mnemonics.specs.declared.roles.Role.{Role}
use Rattle.de_mnemonics.specs.Words.{opposite_language, translated_word}

-- a word `there`, to which `word` is translated in this role, has a translation back, and that is
-- `word` but for the case of its letters
abbrev pub ComesBack : Language → Role → List ℕ → List ℕ → Type 0
ComesBack language role word there =
    (again : List ℕ) × (translated_word (opposite_language language) role there ≡ Some again)
    × (str_eq_ignore_ascii_case word again ≡ true)

-- each word that has a translation in this role comes back from it, but for the case of its letters
abbrev pub WordsComeBack : Role → Type 0
WordsComeBack role =
    (language : Language) (word there : List ℕ) → translated_word language role word ≡ Some there
    → ComesBack language role word there
