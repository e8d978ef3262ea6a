-- How the parts that follow one another in a clause are read, turn by turn, up to their end.
use Rattle.std.proofs.Common.{ℕ, zero, suc, ◌≡◌, ◌<◌, ◌≤◌, ◌-◌, ◌+◌, List, [], ◌∷◌, ◌++◌, Option, Some, None, refl, ◌∙◌, ap, arith}
use Rattle.stl_lexer.specs.declared.kinds.Token.{Token}
use Rattle.stl_parser.specs.Parts.{parts_from}

-- the end is read
pub parts_from_end : {X Y : Type 0} (end : List Token → Option Y) (part : List Token → Option (X × List Token)) (read : List X) (n : ℕ)
    (tokens : List Token) (y : Y) → end tokens ≡ Some y → parts_from end part read n tokens ≡ Some (read, y)
unfolding parts_from
parts_from_end end part read zero tokens y ended = rw ended refl
parts_from_end end part read (suc n) tokens y ended = rw ended refl

-- neither the end nor a part can be read
pub parts_from_stuck : {X Y : Type 0} (end : List Token → Option Y) (part : List Token → Option (X × List Token)) (read : List X) (n : ℕ)
    (tokens : List Token) → end tokens ≡ None → part tokens ≡ None → parts_from end part read n tokens ≡ None
unfolding parts_from
parts_from_stuck end part read zero tokens goes_on stuck = rw goes_on refl
parts_from_stuck end part read (suc n) tokens goes_on stuck = rw (goes_on, stuck) refl

-- one part more
parts_from_suc : {X Y : Type 0} (end : List Token → Option Y) (part : List Token → Option (X × List Token)) (read : List X) (n : ℕ)
    (tokens : List Token) (x : X) (rest : List Token) → end tokens ≡ None → part tokens ≡ Some (x, rest) →
    parts_from end part read (suc n) tokens ≡ parts_from end part (read ++ x ∷ []) n rest
unfolding parts_from
parts_from_suc end part read n tokens x rest goes_on found = rw (goes_on, found) refl

-- one part more, in the turn i of n
pub parts_from_part : {X Y : Type 0} (end : List Token → Option Y) (part : List Token → Option (X × List Token)) (read : List X) (n i : ℕ)
    (tokens : List Token) (x : X) (rest : List Token) → i < n → end tokens ≡ None → part tokens ≡ Some (x, rest) →
    parts_from end part read (n - i) tokens ≡ parts_from end part (read ++ x ∷ []) (n - (i + 1)) rest
parts_from_part end part read n i tokens x rest within goes_on found =
    let one_more : n - i ≡ suc (n - (i + 1)) = omega arith in
    ap (λ m. parts_from end part read m tokens) one_more
    ∙ parts_from_suc end part read (n - (i + 1)) tokens x rest goes_on found

-- the end isn't read, and no part may follow
parts_from_zero : {X Y : Type 0} (end : List Token → Option Y) (part : List Token → Option (X × List Token)) (read : List X)
    (tokens : List Token) → end tokens ≡ None → parts_from end part read zero tokens ≡ None
unfolding parts_from
parts_from_zero end part read tokens goes_on = rw goes_on refl

pub parts_from_over : {X Y : Type 0} (end : List Token → Option Y) (part : List Token → Option (X × List Token)) (read : List X) (n i : ℕ)
    (tokens : List Token) → n ≤ i → end tokens ≡ None → parts_from end part read (n - i) tokens ≡ None
parts_from_over end part read n i tokens over goes_on =
    let none_more : n - i ≡ zero = omega arith in
    ap (λ m. parts_from end part read m tokens) none_more ∙ parts_from_zero end part read tokens goes_on
