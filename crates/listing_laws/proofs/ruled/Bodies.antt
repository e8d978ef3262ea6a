-- The statements of a listed body are those of the block.
use Rattle.std.proofs.Common.{◌≡◌, ℕ, suc, ◌+◌, ◌<◌, Bool, false, List, [], ◌∷◌, ◌++◌, append-nil, length, length-append, Option, Some, None, if◌then◌else◌, refl, sym, ap, ◌∙◌, arith}
use Rattle.std.proofs.lemmas.Bool.{eq-eqb, ne_eqb}
use Rattle.flat_code.specs.Instr.{Instr}
use Rattle.stl_ast.specs.Statements.{is_empty_statement}
use Rattle.stl_ast.specs.declared.statements.Statement.{Statement}
use Rattle.stl_types.specs.Context.{Context}
use Rattle.stl_codegen.specs.CompiledBlock.{SourceInstruction, compiled_block, lines_in}
use Rattle.stl_codegen.specs.GeneratedProgram.{instructions_from}
use Rattle.stl_codegen.specs.Instruction.{instruction}
use Rattle.stl_list.specs.Lines.{line_of_statement}
use Rattle.stl_list.specs.Runs.{StatementOps}
use Rattle.stl_list.specs.Statements.{ListingContext, body_of, label_at, label_of_end, listed_statement, statement_at, statements_from, listing_context}
use Rattle.listing_laws.specs.ListedBodies.{AreBodiesKept, AreKeptFrom}
use Rattle.listing_laws.specs.Statements.{statement_offset, run_of}
use Rattle.listing_laws.proofs.RunLemmas.{runs_found}
use Rattle.listing_laws.proofs.ruled.Marks.{AreLinesAt, behind_start, from_start, lines_length, run_all}

end_stated : (c : Context) (body : List Statement) (n line : ℕ) (label : Option (List ℕ)) → instructions_from c body n (label_of_end line label) ≡ []
end_stated c body n line None = refl
end_stated c body n line (Some label) = refl

last_stated : (c : Context) (body : List Statement) (sur : ListingContext) (n k : ℕ) (r : StatementOps) → length sur.lines ≡ suc k → instructions_from c body n (statement_at sur k r ++ []) ≡ []
unfolding statement_at
last_stated c body sur n k r size =
    ap (λ (b : Bool). instructions_from c body n ((if b then label_of_end (line_of_statement sur.lines k) (label_at sur.targets k) else listed_statement sur k r ∷ []) ++ [])) (eq-eqb (suc k) (length sur.lines) (sym size))
    ∙ ap (instructions_from c body n) (append-nil (label_of_end (line_of_statement sur.lines k) (label_at sur.targets k)))
    ∙ end_stated c body n (line_of_statement sur.lines k) (label_at sur.targets k)

next_stated : (c : Context) (body : List Statement) (sur : ListingContext) (k : ℕ) (r : StatementOps) (rest : List Statement) → suc k < length sur.lines → is_empty_statement (listed_statement sur k r).code ≡ false
    → instructions_from c body k (statement_at sur k r ++ rest) ≡ record { instr = instruction c body k (listed_statement sur k r); line = line_of_statement sur.lines k } ∷ instructions_from c body (suc k) rest
unfolding statement_at
next_stated c body sur k r rest more some =
    ap (λ (b : Bool). instructions_from c body k ((if b then label_of_end (line_of_statement sur.lines k) (label_at sur.targets k) else listed_statement sur k r ∷ []) ++ rest)) (ne_eqb (suc k) (length sur.lines) (λ e. omega (arith, e, more)))
    ∙ ap (λ (b : Bool). if b then instructions_from c body k rest else record { instr = instruction c body k (listed_statement sur k r); line = line_of_statement sur.lines k } ∷ instructions_from c body (suc k) rest) some

all_stated : (c : Context) (body : List Statement) (sur : ListingContext) (f : ℕ → ℕ) (k : ℕ) (ss : List SourceInstruction) (last : SourceInstruction) → length sur.lines ≡ k + length ss + 1 → AreLinesAt sur.lines k (ss ++ last ∷ [])
    → AreKeptFrom c body sur f k ss → instructions_from c body k (statements_from sur k (run_all f (ss ++ last ∷ []))) ≡ ss
all_stated c body sur f k [] last size lines kept = last_stated c body sur k k (run_of f last.instr) (omega (arith, size))
all_stated c body sur f k (s ∷ ss) last size lines (some, is, kept) =
    next_stated c body sur k (run_of f s.instr) (statements_from sur (suc k) (run_all f (ss ++ last ∷ []))) (omega (arith, size)) some
    ∙ ap (λ (xs : List SourceInstruction). record { instr = instruction c body k (listed_statement sur k (run_of f s.instr)); line = line_of_statement sur.lines k } ∷ xs)
    (all_stated c body sur f (suc k) ss last (omega (arith, size)) (λ j. ap (line_of_statement sur.lines) (one_more k j) ∙ lines (suc j)) kept)
    ∙ ap (λ (i : Instr). stated i (line_of_statement sur.lines k) ∷ ss) is
    ∙ ap (λ (line : ℕ). stated s.instr line ∷ ss) (ap (line_of_statement sur.lines) (none_more k) ∙ lines 0)
  where
    stated : Instr → ℕ → SourceInstruction
    stated i line = record { instr = i; line = line }

    none_more : (k : ℕ) → k ≡ k + 0
    none_more k = omega arith

    one_more : (k j : ℕ) → suc k + j ≡ k + suc j
    one_more k j = omega arith

pub bodies_kept : AreBodiesKept
unfolding body_of
bodies_kept c signatures b ss last e kept =
    let sur = listing_context signatures (lines_in b.statements) (compiled_block b) in
    let f = statement_offset b.statements in
    let body : List Statement = body_of signatures (lines_in b.statements) (compiled_block b) in
    let size : length sur.lines ≡ 0 + length ss + 1 = lines_length b.statements ∙ ap length e ∙ length-append ss (last ∷ []) ∙ behind_start (length ss) in
    ap (λ (rs : List StatementOps). instructions_from c body 0 (statements_from sur 0 rs)) (runs_found b.statements)
    ∙ ap (λ (xs : List SourceInstruction). instructions_from c body 0 (statements_from sur 0 (run_all f xs))) e
    ∙ all_stated c body sur f 0 ss last size (λ j. ap (line_of_statement (lines_in b.statements)) (from_start j) ∙ ap (λ (xs : List SourceInstruction). line_of_statement (lines_in xs) j) e) kept
