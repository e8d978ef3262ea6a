-- Repetition in a clause.
use Rattle.std.specs.Prelude.{ℕ, zero, suc, List, [], ◌∷◌, ◌++◌, Option, Some, None}
use Rattle.std.specs.Option.{option_map, option_or, option_and_then}
use Rattle.stl_lexer.specs.declared.kinds.Token.{Token}

-- parts that follow one another, up to n of them, behind those that are `read`, until what is left
-- can be read as the end: all the parts, and the end
unfoldable pub parts_from : {X Y : Type 0} → (List Token → Option Y)
    → (List Token → Option (X × List Token)) → List X → ℕ → List Token → Option (List X × Y)
parts_from end part read zero tokens = option_map (λ y. (read, y)) (end tokens)
parts_from end part read (suc n) tokens =
    option_or (option_map (λ y. (read, y)) (end tokens))
    (option_and_then (λ p. parts_from end part (read ++ p.0 ∷ []) n p.1) (part tokens))

-- a value that was read, or none where tokens are left
abbrev pub value_if_nothing_left : {X : Type 0} → X → List Token → Option X
value_if_nothing_left x [] = Some x
value_if_nothing_left x (t ∷ ts) = None

-- what was read, where nothing is left behind it
abbrev pub complete_reading : {X : Type 0} → Option (X × List Token) → Option X
complete_reading None = None
complete_reading (Some r) = value_if_nothing_left r.0 r.1
