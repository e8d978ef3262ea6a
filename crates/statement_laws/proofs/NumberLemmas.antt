-- Each statement that isn't empty has the number that counts those before it.
use Rattle.std.proofs.Common.{ℕ, suc, ◌≡◌, ◌+◌, Bool, true, false, List, [], ◌∷◌, ◌++◌, length, slice_get, Some, if◌then◌else◌, refl, sym, ◌∙◌, ap, add-zero, zero-add, length-append, arith}
use Rattle.stl_ast.specs.Statements.{is_empty_statement}
use Rattle.stl_ast.specs.declared.mnemonics.Mnemonic.TheVariants as code
use Rattle.stl_ast.specs.declared.statements.Statement.{Statement}
use Rattle.stl_types.specs.Context.{Context}
use Rattle.stl_codegen.specs.CompiledBlock.{SourceInstruction}
use Rattle.stl_codegen.specs.GeneratedProgram.{return_statement, instructions_from, statements_of}
use Rattle.sem_kept.proofs.accepted.Jumps.{statement_of_number}
use Rattle.statement_laws.specs.Jumps.{numbered_statement_count}
use Rattle.statement_laws.specs.Laws.{FamiliesAreAll, StatementsAreNumbered}

number_of_statement_at : (c : Context) (body : List Statement) (n : ℕ) (front : List Statement) (s : Statement)
    (rest : List Statement) (tail : List SourceInstruction) → is_empty_statement s.code ≡ false
    → slice_get (instructions_from c body n (front ++ s ∷ rest) ++ tail) (numbered_statement_count front)
    ≡ Some (statement_of_number c body (n + numbered_statement_count front) s)
number_of_statement_at c body n [] s rest tail e =
    ap (λ b. slice_get ((if b then instructions_from c body n rest
    else statement_of_number c body n s ∷ instructions_from c body (suc n) rest) ++ tail) 0) e
    ∙ ap (λ k. Some (statement_of_number c body k s)) (sym (add-zero n))
number_of_statement_at c body n (t ∷ ts) s rest tail e =
    by (is_empty_statement t.code) (number_of_statement_at c body n ts s rest tail e) (number_of_statement_at c body (suc n) ts s rest tail e)
  where
    by : (b : Bool)
        → slice_get (instructions_from c body n (ts ++ s ∷ rest) ++ tail) (numbered_statement_count ts)
        ≡ Some (statement_of_number c body (n + numbered_statement_count ts) s)
        → slice_get (instructions_from c body (suc n) (ts ++ s ∷ rest) ++ tail) (numbered_statement_count ts)
        ≡ Some (statement_of_number c body (suc n + numbered_statement_count ts) s)
        → slice_get ((if b then instructions_from c body n (ts ++ s ∷ rest)
        else statement_of_number c body n t ∷ instructions_from c body (suc n) (ts ++ s ∷ rest)) ++ tail)
        ((if b then 0 else 1) + numbered_statement_count ts)
        ≡ Some (statement_of_number c body (n + ((if b then 0 else 1) + numbered_statement_count ts)) s)
    by true here more =
        let same : 0 + numbered_statement_count ts ≡ numbered_statement_count ts = zero-add (numbered_statement_count ts) in
        ap (slice_get (instructions_from c body n (ts ++ s ∷ rest) ++ tail)) same ∙ here
        ∙ ap (λ k. Some (statement_of_number c body (n + k) s)) (sym same)
    by false here more =
        let one : 1 + numbered_statement_count ts ≡ suc (numbered_statement_count ts) = omega arith in
        let sum : suc n + numbered_statement_count ts ≡ n + (1 + numbered_statement_count ts) = omega arith in
        ap (slice_get ((statement_of_number c body n t ∷ instructions_from c body (suc n) (ts ++ s ∷ rest)) ++ tail)) one
        ∙ more ∙ ap (λ k. Some (statement_of_number c body k s)) sum

length_same : (c : Context) (body : List Statement) (n : ℕ) (ss : List Statement)
    → length (instructions_from c body n ss) ≡ numbered_statement_count ss
length_same c body n [] = refl
length_same c body n (s ∷ ss) =
    by (is_empty_statement s.code) (length_same c body n ss) (length_same c body (suc n) ss)
  where
    by : (b : Bool) → length (instructions_from c body n ss) ≡ numbered_statement_count ss
        → length (instructions_from c body (suc n) ss) ≡ numbered_statement_count ss
        → length (if b then instructions_from c body n ss else statement_of_number c body n s ∷ instructions_from c body (suc n) ss)
        ≡ (if b then 0 else 1) + numbered_statement_count ss
    by true here more = here ∙ sym (zero-add (numbered_statement_count ss))
    by false here more =
        let one : suc (numbered_statement_count ss) ≡ 1 + numbered_statement_count ss = omega arith in ap suc more ∙ one

behind : (xs : List SourceInstruction) (x : SourceInstruction) → slice_get (xs ++ x ∷ []) (length xs) ≡ Some x
behind [] x = refl
behind (y ∷ xs) x = behind xs x

pub statements_are_numbered : StatementsAreNumbered
unfolding statements_of
statements_are_numbered c b = record {
  each = λ front s rest is e.
      ap (λ ss. slice_get (instructions_from c b.body 0 ss ++ return_statement b ∷ []) (numbered_statement_count front)) is
      ∙ number_of_statement_at c b.body 0 front s rest (return_statement b ∷ []) e
      ∙ ap (λ k. Some (statement_of_number c b.body k s)) (zero-add (numbered_statement_count front));
  last = ap (slice_get (statements_of c b)) (sym (length_same c b.body 0 b.body))
      ∙ behind (instructions_from c b.body 0 b.body) (return_statement b);
  count = length-append (instructions_from c b.body 0 b.body) (return_statement b ∷ [])
      ∙ ap (λ k. k + 1) (length_same c b.body 0 b.body);
}

pub families_are_all : FamiliesAreAll
families_are_all code.Empty = refl
families_are_all _ = refl
