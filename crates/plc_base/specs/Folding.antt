-- Names are compared without case of ASCII letters.
use Rattle.std.specs.Prelude.{ℕ, List, Bool}
use Rattle.std.specs.Str.{str_to_ascii_uppercase, bytes_eq}

-- a name with the letters a to z as A to Z
abbrev pub upper_case_name : List ℕ → List ℕ
upper_case_name name = str_to_ascii_uppercase name

-- whether two names are the same but for the case of ASCII letters
abbrev pub is_same_name : List ℕ → List ℕ → Bool
is_same_name a b = bytes_eq (upper_case_name a) (upper_case_name b)
