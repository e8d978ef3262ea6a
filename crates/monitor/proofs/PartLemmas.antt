-- Parts that are appended one by one.
use Rattle.std.proofs.Common.{◌≡◌, refl, ℕ, List, ◌++◌, append_assoc}

parts_joined : (front a b c d e f : List ℕ) → (((((front ++ a) ++ b) ++ c) ++ d) ++ e) ++ f ≡ front ++ (a ++ b ++ c ++ d ++ e ++ f)
parts_joined front a b c d e f = simp append_assoc refl

-- six parts in a row
pub six-parts : (front l1 l2 l3 l4 l5 l6 a b c d e f : List ℕ) → l1 ≡ front ++ a → l2 ≡ l1 ++ b → l3 ≡ l2 ++ c → l4 ≡ l3 ++ d
    → l5 ≡ l4 ++ e → l6 ≡ l5 ++ f → l6 ≡ front ++ (a ++ b ++ c ++ d ++ e ++ f)
six-parts front l1 l2 l3 l4 l5 l6 a b c d e f is1 is2 is3 is4 is5 is6 =
    rw is6 (rw is5 (rw is4 (rw is3 (rw is2 (rw is1 (parts_joined front a b c d e f))))))
