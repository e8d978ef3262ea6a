-- Where a statement stands in the code of its block, and the block among the blocks of its program.
use Rattle.std.proofs.Common.{◌≡◌, ℕ, suc, Bool, true, false, List, [], ◌∷◌, ◌++◌, append_assoc, Some, refl, sym, ap, subst, ◌∙◌, if◌then◌else◌}
use Rattle.std.specs.List.{AllByRecursion}
use Rattle.plc_base.specs.Kinds.{is_code}
use Rattle.plc_base.specs.declared.blocks.BlockId.{BlockId}
use Rattle.stl_ast.specs.Statements.{is_empty_statement}
use Rattle.stl_ast.specs.declared.blocks.Block.{Block}
use Rattle.stl_ast.specs.declared.blocks.Tree.{Tree}
use Rattle.stl_ast.specs.declared.statements.Statement.{Statement}
use Rattle.stl_symbols.specs.Symbol.{Symbol}
use Rattle.block_layout.specs.Layouts.{layouts_of}
use Rattle.block_layout.specs.declared.blocks.BlockLayout.{BlockLayout}
use Rattle.stl_types.specs.Context.{Context}
use Rattle.stl_codegen.specs.CompiledBlock.{SourceInstruction, StatedBlock}
use Rattle.stl_codegen.specs.GeneratedProgram.{code_block, code_blocks_of, return_statement, instructions_from, statements_of}
use Rattle.stl_codegen.specs.Instruction.{instruction}
use Rattle.sem_kept.proofs.accepted.Accepted.{IsSoundBlock}
use Rattle.sem_kept.proofs.accepted.OperandsMembers.{code_block_there}
use Rattle.listing_laws.specs.ListedSource.{source_context_at}

-- what holds of each element, where it stands, holds of all
split_from : {A : Type 0} (P : A → Type 0) (xs front rest : List A) → ((front : List A) (x : A) (back : List A) → xs ≡ front ++ x ∷ back → P x) → xs ≡ front ++ rest → AllByRecursion P rest
split_from P xs front [] h e = tt
split_from P xs front (x ∷ rest) h e = (h front x rest e, split_from P xs (front ++ x ∷ []) rest h (e ∙ sym (append_assoc front (x ∷ []) rest)))

pub all_split : {A : Type 0} (P : A → Type 0) (xs : List A) → ((front : List A) (x : A) (back : List A) → xs ≡ front ++ x ∷ back → P x) → AllByRecursion P xs
all_split P xs h = split_from P xs [] xs h refl

-- and what holds of all holds of one that stands among them
seam_holds : {A : Type 0} (P : A → Type 0) (front : List A) (x : A) (back : List A) → AllByRecursion P (front ++ x ∷ back) → P x
seam_holds P [] x back h = h.0
seam_holds P (y ∷ front) x back h = seam_holds P front x back h.1

pub split_holds : {A : Type 0} (P : A → Type 0) (xs front : List A) (x : A) (back : List A) → AllByRecursion P xs → xs ≡ front ++ x ∷ back → P x
split_holds P xs front x back h e = seam_holds P front x back (subst (AllByRecursion P) e h)

-- ---- blocks

-- a block among the code blocks of a source
pub record IsAmong (symbols : List Symbol) (t : Tree) (x : StatedBlock) : Type 0 where
  pub front : List StatedBlock
  pub back : List StatedBlock
  pub is : code_blocks_of t symbols (layouts_of t symbols) ≡ front ++ x ∷ back

pub among : (symbols : List Symbol) (t : Tree) (k : ℕ) (b : Block) (l : BlockLayout) (id : BlockId) → IsSoundBlock symbols t k b l → l.id ≡ Some id → is_code id.kind ≡ true
    → IsAmong symbols t (code_block (source_context_at symbols t k) b l id)
among symbols t k b l id sound known code =
    code_block_there symbols t (IsAmong symbols t)
    (all_split (IsAmong symbols t) (code_blocks_of t symbols (layouts_of t symbols)) (λ front x back e. record { front = front; back = back; is = e }))
    k b l id sound known code

-- ---- statements

-- a statement among those of a block
pub record IsStated (c : Context) (body : List Statement) (all : List SourceInstruction) (s : Statement) : Type 0 where
  pub before : List SourceInstruction
  pub after : List SourceInstruction
  pub number : ℕ
  pub is : all ≡ before ++ record { instr = instruction c body number s; line = s.line } ∷ after

stated_among : (c : Context) (body : List Statement) (n : ℕ) (front : List Statement) (s : Statement) (rest : List Statement) → is_empty_statement s.code ≡ false
    → IsStated c body (instructions_from c body n (front ++ s ∷ rest)) s
stated_among c body n [] s rest some = record {
  before = [];
  after = instructions_from c body (suc n) rest;
  number = n;
  is = ap (λ (b : Bool). if b then instructions_from c body n rest else record { instr = instruction c body n s; line = s.line } ∷ instructions_from c body (suc n) rest) some;
}
stated_among c body n (x ∷ front) s rest some = by (is_empty_statement x.code) (stated_among c body n front s rest some) (stated_among c body (suc n) front s rest some)
  where
    by : (b : Bool) → IsStated c body (instructions_from c body n (front ++ s ∷ rest)) s → IsStated c body (instructions_from c body (suc n) (front ++ s ∷ rest)) s
        → IsStated c body
        (if b then instructions_from c body n (front ++ s ∷ rest)
        else record { instr = instruction c body n x; line = x.line } ∷ instructions_from c body (suc n) (front ++ s ∷ rest)) s
    by true same next = same
    by false same next = record {
      before = record { instr = instruction c body n x; line = x.line } ∷ next.before;
      after = next.after;
      number = next.number;
      is = ap (λ z. record { instr = instruction c body n x; line = x.line } ∷ z) next.is;
    }

pub statement_stated : (c : Context) (b : Block) (front : List Statement) (s : Statement) (rest : List Statement) → b.body ≡ front ++ s ∷ rest → is_empty_statement s.code ≡ false
    → IsStated c b.body (statements_of c b) s
unfolding statements_of
statement_stated c b front s rest e some =
    let inner = subst (λ z. IsStated c b.body (instructions_from c b.body 0 z) s) (sym e) (stated_among c b.body 0 front s rest some) in
    record {
      before = inner.before;
      after = inner.after ++ return_statement b ∷ [];
      number = inner.number;
      is = ap (λ z. z ++ return_statement b ∷ []) inner.is ∙ append_assoc inner.before (record { instr = instruction c b.body inner.number s; line = s.line } ∷ inner.after) (return_statement b ∷ []);
    }
