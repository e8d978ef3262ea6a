-- Bytes of texts.
use Rattle.std.specs.Prelude.{ℕ, Bool, ◌||◌, ◌==◌}

-- whether a byte is a blank or a tab
abbrev pub is_blank : ℕ → Bool
is_blank byte = byte == 32 || byte == 9
