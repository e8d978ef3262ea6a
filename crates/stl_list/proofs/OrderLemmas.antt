-- The order of code blocks in a listing.
use Rattle.std.proofs.Common.{◌≡◌, ℕ, Bool, true, false, eqb, ltb, ◌&&◌, ◌||◌, arith}
use Rattle.std.specs.Cmp.{IsStrictWeakOrder}
use Rattle.std.proofs.lemmas.Bool.Decides.{nat_tests}
use Rattle.stl_list.specs.Lines.{first_statement_line, last_statement_line, stands_before}

abbrev pair_before : ℕ → ℕ → ℕ → ℕ → Bool
pair_before r n s m = ltb r s || eqb r s && ltb n m

pair_one_way : (r n s m : ℕ) → pair_before r n s m ≡ true → pair_before s m r n ≡ false
pair_one_way r n s m h = grind (arith, nat_tests)

pair_chain : (r n s m t k : ℕ) → pair_before r n s m ≡ false → pair_before s m t k ≡ false → pair_before r n t k ≡ false
pair_chain r n s m t k h g = grind (arith, nat_tests)

pub lines_ordered : IsStrictWeakOrder stands_before
lines_ordered = record {
  one_way = λ a b h. pair_one_way (first_statement_line a) (last_statement_line a) (first_statement_line b) (last_statement_line b) h;
  chain = λ a b c h g. pair_chain (first_statement_line a) (last_statement_line a) (first_statement_line b) (last_statement_line b) (first_statement_line c) (last_statement_line c) h g;
}
