-- A certificate that holds is one of the code of the program.
use Rattle.plc_base.specs.declared.Profile.{Profile}
use Rattle.std.proofs.Common.{◌≡◌, ℕ, List, [], Option, Some, None, refl, sym, ap, subst, arith}
use Rattle.std.specs.Prelude.{IsSome}
use Rattle.std.specs.Option.{option_map, option_and_then}
use Rattle.plc_base.specs.declared.blocks.BlockId.{BlockId}
use Rattle.flat_code.specs.Instr.{Calls, Passing}
use Rattle.flat_code.specs.Loading.{Verifies}
use Rattle.flat_code.specs.Programs.{CodeBlock, Program}
use Rattle.flat_code.specs.declared.operations.CallOperation.{CallOperation}
use Rattle.image_file.specs.Readers.{block_by_id}
use Rattle.machine.specs.Code.{Fetched, BlockHead}
use Rattle.machine.specs.Flat.{code_of, block_head_of, statement_fetched}
use Rattle.machine.specs.Lasting.{ob_block}
use Rattle.controller.specs.Fitting.{EntriesKeepFit, StartIsFit}
use Rattle.stack_bound.specs.Certificates.{bound_of, CountsItself, CountsCalled, IsCertificateOf, IsBoundWithinLimits}
use Rattle.stack_bound.specs.Overflow.{NeverOverflows}
use Rattle.stack_bound.proofs.BlockLemmas.{found_id}
use Rattle.stack_bound.proofs.Stacks.{RoomFor, Certifies}
use Rattle.stack_bound.specs.declared.certificates.Bound.{Bound}
use Rattle.stack_bound.proofs.CallLemmas.{statement_calls}
use Rattle.stack_bound.proofs.Histories.{never_overflows}

abbrev head_or : BlockHead → Option BlockHead → BlockHead
head_or h None = h
head_or h (Some x) = x

-- the bound of an organization block has room in an activation that is empty
first_room : (z : Profile) (b : Option Bound) → IsBoundWithinLimits z b → RoomFor z b []
first_room z None within = absurd within
first_room z (Some b) within = (omega (arith, within.0), omega (arith, within.1))

pub certificate_certifies : (z : Profile) (p : Program) (c : List Bound) → IsCertificateOf z p c → Certifies z (code_of p) c
certificate_certifies z p c holds = record {
  obs = λ ob there. ob_by ob (block_by_id (ob_block ob) p.code_blocks) refl there;
  own = λ block h found. own_by block h (block_by_id block p.code_blocks) refl found;
  calls = λ block at f how called instance passings h d fetched is user found there.
      calls_by block at f how called instance passings h d (block_by_id block p.code_blocks) refl
      (block_by_id called p.code_blocks) refl fetched is found there;
}
  where
    ob_by : (ob : ℕ) (found : Option CodeBlock) → block_by_id (ob_block ob) p.code_blocks ≡ found
        → IsSome (option_map block_head_of found) → RoomFor z (bound_of (ob_block ob) c) []
    ob_by ob None is there = absurd cc
    ob_by ob (Some b) is there =
        let same : b.id ≡ ob_block ob = found_id (ob_block ob) p.code_blocks b is in
        subst (λ (id : BlockId). RoomFor z (bound_of id c) []) same
        (first_room z (bound_of b.id c) (holds.obs b (subst (λ (id : BlockId). block_by_id id p.code_blocks ≡ Some b) (sym same) is)
        (ap (λ (id : BlockId). id.kind) same)))

    own_by : (block : BlockId) (h : BlockHead) (found : Option CodeBlock)
        → block_by_id block p.code_blocks ≡ found → option_map block_head_of found ≡ Some h
        → CountsItself h.local_len (bound_of block c)
    own_by block h None is same = absurd cc
    own_by block h (Some b) is same =
        subst (λ (n : ℕ). CountsItself n (bound_of block c))
        (ap (λ (o : Option BlockHead). (head_or h o).local_len) same) (holds.own block b is)

    calls_by : (block : BlockId) (at : ℕ) (f : Fetched) (how : CallOperation) (called : BlockId)
        (instance : Option ℕ) (passings : List Passing) (h d : BlockHead)
        (found : Option CodeBlock) → block_by_id block p.code_blocks ≡ found
        → (there : Option CodeBlock) → block_by_id called p.code_blocks ≡ there
        → option_and_then (λ b. statement_fetched b at) found ≡ Some f
        → f.instr ≡ Calls how called instance passings
        → option_map block_head_of found ≡ Some h → option_map block_head_of there ≡ Some d
        → CountsCalled h.local_len (bound_of block c) (bound_of called c)
    calls_by block at f how called instance passings h d None is there other fetched instr one two = absurd cc
    calls_by block at f how called instance passings h d (Some b) is None other fetched instr one two = absurd cc
    calls_by block at f how called instance passings h d (Some b) is (Some e) other fetched instr one two =
        subst (λ (n : ℕ). CountsCalled n (bound_of block c) (bound_of called c))
        (ap (λ (o : Option BlockHead). (head_or h o).local_len) one)
        (holds.calls block called b e is other
        (statement_calls b at f how called instance passings fetched instr))

-- so no valid history of the program overflows
pub never : (z : Profile) (p : Program) (c : List Bound) → StartIsFit → EntriesKeepFit → Verifies p
    → IsCertificateOf z p c → NeverOverflows z p
never z p c first keep verifies holds = never_overflows z p c first keep verifies (certificate_certifies z p c holds)
