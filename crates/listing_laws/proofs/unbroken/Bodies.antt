-- A listed code block has at most as many statements as its source, but for the one that returns (rule 55).
use Rattle.std.proofs.Common.{◌≡◌, ℕ, zero, suc, ◌+◌, ◌-◌, ◌<◌, ◌≤◌, Bool, true, false, cond, not, List, [], ◌∷◌, ◌++◌, length, max, Option, Some, None, refl, sym, ap, ◌∙◌, arith}
use Rattle.std.specs.Prelude.{◌==◌, if◌then◌else◌, nat_lt}
use Rattle.std.specs.List.{count_by}
use Rattle.std.proofs.lemmas.Bool.Decides.{nat_tests}
use Rattle.std.proofs.lemmas.List.{length-map}
use Rattle.std.proofs.lemmas.List.Sums.{count_by-le-length, sum_by-append}
use Rattle.flat_code.specs.Programs.{CodeBlock}
use Rattle.stl_ast.specs.Statements.{is_empty_statement}
use Rattle.stl_ast.specs.declared.statements.Statement.{Statement}
use Rattle.block_layout.specs.Rule55.{has_too_many_statements}
use Rattle.stl_codegen.specs.CompiledBlock.{StatedBlock, compiled_block}
use Rattle.stl_list.specs.CodeBlocks.{listed_block}
use Rattle.stl_list.specs.Lines.{line_of_statement, lines_from}
use Rattle.stl_list.specs.Runs.{StatementOps, runs}
use Rattle.stl_list.specs.Signatures.{Signature}
use Rattle.stl_list.specs.Statements.{ListingContext, body_of, label_at, label_of_end, listed_statement, statement_at, statements_from, listing_context}
use Rattle.listing_laws.specs.Statements.{statement_offset, run_of}
use Rattle.listing_laws.proofs.RunLemmas.{runs_found}

-- how many statements aren't empty
abbrev written_count : List Statement → ℕ
written_count ss = count_by (λ s. not (is_empty_statement s.code)) ss

written_cons : (ss rest : List Statement) → written_count (ss ++ rest) ≡ written_count ss + written_count rest
written_cons ss rest = sum_by-append (λ (s : Statement). cond (not (is_empty_statement s.code)) 1 0) ss rest

end_unwritten : (line : ℕ) (label : Option (List ℕ)) → written_count (label_of_end line label) ≡ 0
end_unwritten line None = refl
end_unwritten line (Some label) = refl

one_written : (s : Statement) → written_count (s ∷ []) ≤ 1
one_written s = count_by-le-length (λ (s : Statement). not (is_empty_statement s.code)) (s ∷ [])

-- the last one is the END clause
few_from : (s : ListingContext) (n : ℕ) (rs : List StatementOps) → n + length rs ≡ length s.lines → written_count (statements_from s n rs) ≤ length rs - 1
unfolding statement_at
few_from s n [] e = omega arith
few_from s n (r ∷ rs) e = by (suc n == length s.lines) refl (few_from s (suc n) rs (omega (arith, e)))
  where
    rest : List Statement
    rest = statements_from s (suc n) rs

    last : suc n ≡ length s.lines → length rs ≡ 0
    last is = omega (arith, e, is)

    some : (suc n ≡ length s.lines → ⊥) → 1 ≤ length rs
    some other = positive (length rs) refl
      where
        positive : (m : ℕ) → length rs ≡ m → 1 ≤ m
        positive zero is = absurd (other (omega (arith, e, is)))
        positive (suc m) is = omega arith

    not_same : (m k : ℕ) → (m == k) ≡ false → m ≡ k → ⊥
    not_same m k is e = grind (arith, nat_tests)

    by : (t : Bool) → (suc n == length s.lines) ≡ t → written_count rest ≤ length rs - 1
        → written_count ((if t then label_of_end (line_of_statement s.lines n) (label_at s.targets n) else listed_statement s n r ∷ []) ++ rest) ≤ length (r ∷ rs) - 1
    by true is more =
        let all = written_cons (label_of_end (line_of_statement s.lines n) (label_at s.targets n)) rest in
        let none = end_unwritten (line_of_statement s.lines n) (label_at s.targets n) in
        omega (arith, all, none, more)
    by false is more =
        let all = written_cons (listed_statement s n r ∷ []) rest in
        let one = one_written (listed_statement s n r) in
        let behind = some (not_same (suc n) (length s.lines) is) in
        omega (arith, all, one, more, behind)

lines_long : (reached : ℕ) (lines : List ℕ) → length (lines_from reached lines) ≡ length lines
lines_long reached [] = refl
lines_long reached (line ∷ lines) = ap suc (lines_long (max reached line) lines)

not_above : (n : ℕ) → n < 65535 → nat_lt 65534 n ≡ false
not_above n h = grind (arith, nat_tests)

body_few : (ss : List Signature) (lines : List ℕ) (b : CodeBlock) → length (runs b.code) ≡ length lines → length lines < 65536 → written_count (body_of ss lines b) < 65535
unfolding body_of
body_few ss lines b same few =
    let most = few_from (listing_context ss lines b) 0 (runs b.code) (omega (arith, same)) in
    omega (arith, most, same, few)

-- as many statements as lines
runs_long : (x : StatedBlock) → length (runs (compiled_block x).code) ≡ length (compiled_block x).lines
runs_long x =
    ap length (runs_found x.statements) ∙ length-map x.statements (λ s. run_of (statement_offset x.statements) s.instr) ∙ sym (length-map x.statements (λ s. s.line))

pub few_statements : (ss : List Signature) (reached : ℕ) (x : StatedBlock) → length (compiled_block x).lines < 65536 → has_too_many_statements (listed_block ss reached (compiled_block x)) ≡ false
few_statements ss reached x few =
    let lines = lines_from reached (compiled_block x).lines in
    let long = lines_long reached (compiled_block x).lines in
    let body = body_few ss lines (compiled_block x) (runs_long x ∙ sym long) (omega (arith, long, few)) in
    not_above (count_by (λ (s : Statement). not (is_empty_statement s.code)) (listed_block ss reached (compiled_block x)).body) body
