-- The links of a program are of parameters of one type, where its calls hand types on.
use Rattle.std.proofs.Common.{◌≡◌, ℕ, zero, suc, ◌+◌, ◌<◌, Bool, true, false, ◌||◌, nat_eq, List, [], ◌∷◌, ◌++◌, length, map, append_assoc, Option, Some, None, slice_get, refl, sym, ap, ap₂, subst, ◌∙◌, arith, if◌then◌else◌, eqb-true}
use Rattle.std.specs.Prelude.{unwrap_or}
use Rattle.std.specs.List.{AllByRecursion, flat_map, list_any}
use Rattle.std.proofs.lemmas.List.{length-append}
use Rattle.std.proofs.lemmas.Option.{same_Some, slice_get_within}
use Rattle.plc_base.proofs.ListLemmas.{all_append}
use Rattle.plc_base.proofs.TruthLemmas.{and_first, and_second}
use Rattle.plc_base.specs.Kinds.{is_callable, is_same_block, is_same_kind, is_system_function, kind_number}
use Rattle.plc_base.specs.declared.blocks.BlockId.{BlockId}
use Rattle.plc_base.specs.declared.blocks.BlockKind.{BlockKind}
use Rattle.plc_base.specs.declared.blocks.BlockKind.TheVariants as kinds
use Rattle.flat_code.specs.Instr.{Instr, Passing, Does, Jumps, JumpsByList, Calls, Returns}
use Rattle.flat_code.specs.Programs.{CodeBlock}
use Rattle.flat_code.specs.declared.operands.Operand.{Operand}
use Rattle.flat_code.specs.declared.operands.Operand.TheVariants as flat
use Rattle.flat_code.specs.declared.operands.Passed.{Passed}
use Rattle.flat_code.specs.declared.operands.Passed.TheVariants as passed
use Rattle.stl_ast.specs.declared.declarations.Simple.{Simple}
use Rattle.stl_ast.specs.declared.declarations.Simple.TheVariants as simple
use Rattle.stl_types.specs.declared.parameters.Formal.{Formal}
use Rattle.stl_codegen.specs.CompiledBlock.{SourceInstruction, StatedBlock, operand_with_target, code_in, compiled_block}
use Rattle.stl_codegen.specs.EmittedOps.{use_db_ops, pass_ops}
use Rattle.stl_list.specs.declared.links.Link.{Link}
use Rattle.stl_list.specs.declared.links.Link.TheVariants.{Joins, Has}
use Rattle.stl_list.specs.JoinedParameters.{block_links, call_links, called_id, first_of, joined_link, joined_links, links, links_from, links_of_runs, total_parameter_count, own_parameter_passed, run_links, system_link, system_links, system_parameters, typed_link}
use Rattle.stl_list.specs.Runs.{StatementOps}
use Rattle.listing_laws.specs.Chains.{IsLinkBelow, IsKeptBy}
use Rattle.listing_laws.specs.HandedTypes.{AreLinksHandedOn, AreTypesListed, BlocksHandTypesOn, HandsTypesOn, IsCallable, IsHandedOn, called_kinds, declared_type_in, kinds_in}
use Rattle.listing_laws.specs.Statements.{statement_offset, run_of}
use Rattle.listing_laws.proofs.RunLemmas.{runs_found}
use Rattle.listing_laws.proofs.called.Chains.{types_kept}

-- ---- lists

got_front : {A : Type 0} (xs ys : List A) (i : ℕ) (x : A) → slice_get xs i ≡ Some x → slice_get (xs ++ ys) i ≡ Some x
got_front [] ys i x e = absurd cc
got_front (z ∷ xs) ys zero x e = e
got_front (z ∷ xs) ys (suc i) x e = got_front xs ys i x e

got_behind : {A : Type 0} (front xs : List A) (n i k : ℕ) → length front ≡ n → k ≡ n + i → slice_get (front ++ xs) k ≡ slice_get xs i
got_behind [] xs n i k e f = let same : k ≡ i = omega (arith, e, f) in ap (slice_get xs) same
got_behind (y ∷ front) xs n i zero e f = absurd (omega (arith, e, f))
got_behind (y ∷ front) xs n i (suc k) e f = got_behind front xs (length front) i k refl (omega (arith, e, f))

got_mapped : (fs : List Formal) (i : ℕ) (kind : Simple) → slice_get (map (λ (f : Formal). f.kind) fs) i ≡ Some kind
    → (f : Formal) × (slice_get fs i ≡ Some f) × (f.kind ≡ kind)
got_mapped [] i kind e = absurd cc
got_mapped (f ∷ fs) zero kind e = (f, refl, same_Some f.kind kind e)
got_mapped (f ∷ fs) (suc i) kind e = got_mapped fs i kind e

all_mapped : {A B : Type 0} (P : B → Type 0) (f : A → List B) (xs : List A) → AllByRecursion (λ (x : A). AllByRecursion P (f x)) xs
    → AllByRecursion P (flat_map f xs)
all_mapped P f [] h = tt
all_mapped P f (x ∷ xs) h = all_append P (f x) (flat_map f xs) h.0 (all_mapped P f xs h.1)

-- ---- blocks

same_kinds : (a b : BlockKind) → is_same_kind a b ≡ true → a ≡ b
same_kinds kinds.Ob kinds.Ob e = refl
same_kinds kinds.Fc kinds.Fc e = refl
same_kinds kinds.Fb kinds.Fb e = refl
same_kinds kinds.Db kinds.Db e = refl
same_kinds kinds.Sfc kinds.Sfc e = refl
same_kinds kinds.Udt kinds.Udt e = refl
same_kinds kinds.Ob _ e = absurd cc
same_kinds kinds.Fc _ e = absurd cc
same_kinds kinds.Fb _ e = absurd cc
same_kinds kinds.Db _ e = absurd cc
same_kinds kinds.Sfc _ e = absurd cc
same_kinds kinds.Udt _ e = absurd cc

same_blocks : (a b : BlockId) → is_same_block a b ≡ true → a ≡ b
same_blocks a b e =
    ap₂ (λ (k : BlockKind) (n : ℕ). record { kind = k; number = n })
    (same_kinds a.kind b.kind (and_first (is_same_kind a.kind b.kind) (nat_eq a.number b.number) e))
    (eqb-true a.number b.number (and_second (is_same_kind a.kind b.kind) (nat_eq a.number b.number) e))

pub called_is : (id : BlockId) → is_callable id.kind ≡ true → called_id (kind_number id.kind) id.number ≡ id
called_is id e = by id.kind e
  where
    by : (k : BlockKind) → is_callable k ≡ true → called_id (kind_number k) id.number ≡ record { kind = k; number = id.number }
    by kinds.Fc e = refl
    by kinds.Fb e = refl
    by kinds.Sfc e = refl
    by kinds.Ob e = absurd cc
    by kinds.Db e = absurd cc
    by kinds.Udt e = absurd cc

-- ---- numbers of parameters

module _ (types : BlockId → List Simple) where
  abbrev AreLong : List CodeBlock → Type 0
  AreLong bs = AllByRecursion (λ (b : CodeBlock). length (types b.id) ≡ length b.params) bs

  all_long : (bs : List CodeBlock) → AreLong bs → length (kinds_in types bs) ≡ total_parameter_count bs
  all_long [] h = refl
  all_long (b ∷ bs) h =
      let front = h.0 in
      let rest = all_long bs h.1 in
      length-append (types b.id) (kinds_in types bs) ∙ ap₂ (λ (m n : ℕ). m + n) front rest

  type_at : (bs : List CodeBlock) (id : BlockId) (index : ℕ) (kind : Simple) → AreLong bs
      → list_any (λ (b : CodeBlock). is_same_block b.id id) bs ≡ true → slice_get (types id) index ≡ Some kind
      → slice_get (kinds_in types bs) (first_of bs id + index) ≡ Some kind
  type_at [] id index kind long any e = absurd cc
  type_at (b ∷ bs) id index kind long any e = by (is_same_block b.id id) refl (λ k. type_at bs id index kind long.1 k e) any
    where
      by : (t : Bool) → is_same_block b.id id ≡ t
          → (list_any (λ (b : CodeBlock). is_same_block b.id id) bs ≡ true → slice_get (kinds_in types bs) (first_of bs id + index) ≡ Some kind)
          → (t || list_any (λ (b : CodeBlock). is_same_block b.id id) bs) ≡ true
          → slice_get (types b.id ++ kinds_in types bs) ((if t then 0 else length b.params + first_of bs id) + index) ≡ Some kind
      by true is more any =
          got_front (types b.id) (kinds_in types bs) (0 + index) kind (ap (λ (i : BlockId). slice_get (types i) (0 + index)) (same_blocks b.id id is) ∙ ap (slice_get (types id)) (omega arith) ∙ e)
      by false is more any =
          got_behind (types b.id) (kinds_in types bs) (length b.params) (first_of bs id + index) (length b.params + first_of bs id + index) long.0 (omega arith)
          ∙ more any

  -- ---- links

  module _ (all : List CodeBlock) (long : AreLong all) where
    -- the parameter of a number has a type
    abbrev IsOf : ℕ → Simple → Type 0
    IsOf n kind = slice_get (kinds_in types all) n ≡ Some kind

    -- a link is of parameters that are there, with one declared type
    abbrev IsLinkKept : Link → Type 0
    IsLinkKept l = IsLinkBelow (total_parameter_count all) l × IsKeptBy (declared_type_in types all) l

    few : (n : ℕ) (kind : Simple) → IsOf n kind → n < total_parameter_count all
    few n kind e = subst (λ (k : ℕ). n < k) (all_long all long) (slice_get_within (kinds_in types all) n kind e)

    of_type : (n : ℕ) (kind : Simple) → IsOf n kind → declared_type_in types all n ≡ kind
    of_type n kind e = ap (λ (o : Option Simple). unwrap_or o simple.Bool) e

    joins_fine : (m n : ℕ) (kind : Simple) → IsOf m kind → IsOf n kind → IsLinkKept (Joins m n)
    joins_fine m n kind e f = ((few m kind e, few n kind f), of_type m kind e ∙ sym (of_type n kind f))

    has_fine : (m : ℕ) (kind : Simple) → IsOf m kind → IsLinkKept (Has m kind)
    has_fine m kind e = (few m kind e, of_type m kind e)

    -- of the block whose first parameter has a number
    abbrev IsFirst : (own : List Simple) → (first : ℕ) → Type 0
    IsFirst own first = (number : ℕ) (kind : Simple) → slice_get own number ≡ Some kind → IsOf (first + number) kind

    joined_fine : (own : List Simple) (first : ℕ) (id : BlockId) → IsFirst own first
        → list_any (λ (b : CodeBlock). is_same_block b.id id) all ≡ true
        → (ps : List Passing) → AllByRecursion (λ (p : Passing). IsHandedOn own (types id) p.index p.actual) ps
        → AllByRecursion IsLinkKept (joined_links first (first_of all id) (pass_ops ps))
    joined_fine own first id at any [] h = tt
    joined_fine own first id at any (p ∷ ps) h =
        all_append IsLinkKept (joined_link first (first_of all id) (own_parameter_passed p.index p.actual)) (joined_links first (first_of all id) (pass_ops ps))
        (one p.actual h.0) (joined_fine own first id at any ps h.1)
      where
        one : (a : Passed) → IsHandedOn own (types id) p.index a → AllByRecursion IsLinkKept (joined_link first (first_of all id) (own_parameter_passed p.index a))
        one (passed.Parameter number w) k =
            (joins_fine (first + number) (first_of all id + p.index) k.0 (at number k.0 k.1) (type_at all id p.index k.0 long any k.2), tt)
        one (passed.Literal value) k = tt
        one (passed.Direct a w byte bit) k = tt
        one (passed.InBlock n a w byte bit) k = tt

    system_fine : (own : List Simple) (first : ℕ) (formals : List Formal) → IsFirst own first
        → (ps : List Passing) → AllByRecursion (λ (p : Passing). IsHandedOn own (map (λ (f : Formal). f.kind) formals) p.index p.actual) ps
        → AllByRecursion IsLinkKept (system_links formals first (pass_ops ps))
    system_fine own first formals at [] h = tt
    system_fine own first formals at (p ∷ ps) h =
        all_append IsLinkKept (system_link formals first (own_parameter_passed p.index p.actual)) (system_links formals first (pass_ops ps))
        (one p.actual h.0) (system_fine own first formals at ps h.1)
      where
        one : (a : Passed) → IsHandedOn own (map (λ (f : Formal). f.kind) formals) p.index a → AllByRecursion IsLinkKept (system_link formals first (own_parameter_passed p.index a))
        one (passed.Parameter number w) k =
            let f = got_mapped formals p.index k.0 k.2 in
            subst (λ (o : Option Formal). AllByRecursion IsLinkKept (typed_link (first + number) o)) (sym f.1)
            (has_fine (first + number) f.0.kind (at number k.0 k.1 ∙ ap Some (sym f.2)), tt)
        one (passed.Literal value) k = tt
        one (passed.Direct a w byte bit) k = tt
        one (passed.InBlock n a w byte bit) k = tt

    call_fine : (own : List Simple) (first : ℕ) (id : BlockId) → IsFirst own first → IsCallable all id
        → (ps : List Passing) → AllByRecursion (λ (p : Passing). IsHandedOn own (called_kinds types id) p.index p.actual) ps
        → AllByRecursion IsLinkKept (call_links all id first (pass_ops ps))
    call_fine own first id at callable ps h = by (is_system_function id.kind) callable.1 h
      where
        by : (t : Bool) → (t || list_any (λ (b : CodeBlock). is_same_block b.id id) all) ≡ true
            → AllByRecursion (λ (p : Passing). IsHandedOn own (if t then map (λ (f : Formal). f.kind) (system_parameters id.number) else types id) p.index p.actual) ps
            → AllByRecursion IsLinkKept (if t then system_links (system_parameters id.number) first (pass_ops ps) else joined_links first (first_of all id) (pass_ops ps))
        by true any k = system_fine own first (system_parameters id.number) at ps k
        by false any k = joined_fine own first id at any ps k

    -- an instruction that calls nothing has no links
    no_links : (first : ℕ) (use_db : Option ℕ) (o : Operand) → AllByRecursion IsLinkKept (run_links all first (use_db_ops use_db) o)
    no_links first None (flat.Called kind number instance) = by (is_system_function (called_id kind number).kind)
      where
        by : (t : Bool) → AllByRecursion IsLinkKept (if t then system_links (system_parameters (called_id kind number).number) first [] else joined_links first (first_of all (called_id kind number)) [])
        by true = tt
        by false = tt
    no_links first (Some n) (flat.Called kind number instance) = by (is_system_function (called_id kind number).kind)
      where
        by : (t : Bool) → AllByRecursion IsLinkKept (if t then system_links (system_parameters (called_id kind number).number) first (use_db_ops (Some n)) else joined_links first (first_of all (called_id kind number)) (use_db_ops (Some n)))
        by true = tt
        by false = tt
    no_links first use_db _ = tt

    instr_fine : (own : List Simple) (first : ℕ) (f : ℕ → ℕ) → IsFirst own first → (i : Instr) → HandsTypesOn types all own i
        → AllByRecursion IsLinkKept (run_links all first (run_of f i).before (run_of f i).op.operand)
    instr_fine own first f at (Does use_db w o) h = no_links first use_db (operand_with_target f o)
    instr_fine own first f at (Jumps how target) h = tt
    instr_fine own first f at (JumpsByList targets otherwise) h = tt
    instr_fine own first f at (Returns how) h = tt
    instr_fine own first f at (Calls how id instance ps) h =
        subst (λ (i : BlockId). AllByRecursion IsLinkKept (call_links all i first (pass_ops ps))) (sym (called_is id h.0.0))
        (call_fine own first id at h.0 ps h.1)

    runs_fine : (own : List Simple) (first : ℕ) (f : ℕ → ℕ) → IsFirst own first → (ss : List SourceInstruction)
        → AllByRecursion (λ (s : SourceInstruction). HandsTypesOn types all own s.instr) ss
        → AllByRecursion IsLinkKept (links_of_runs all first (map (λ (s : SourceInstruction). run_of f s.instr) ss))
    runs_fine own first f at [] h = tt
    runs_fine own first f at (s ∷ ss) h =
        all_append IsLinkKept (run_links all first (run_of f s.instr).before (run_of f s.instr).op.operand)
        (links_of_runs all first (map (λ (s : SourceInstruction). run_of f s.instr) ss))
        (instr_fine own first f at s.instr h.0) (runs_fine own first f at ss h.1)

    block_fine : (first : ℕ) (b : StatedBlock) → IsFirst (types b.id) first
        → AllByRecursion (λ (s : SourceInstruction). HandsTypesOn types all (types b.id) s.instr) b.statements
        → AllByRecursion IsLinkKept (block_links all first (code_in b.statements))
    block_fine first b at h =
        subst (λ (rs : List StatementOps). AllByRecursion IsLinkKept (links_of_runs all first rs)) (sym (runs_found b.statements))
        (runs_fine (types b.id) first (statement_offset b.statements) at b.statements h)

    blocks_fine : (front : List Simple) (first : ℕ) (bs : List StatedBlock) → length front ≡ first
        → kinds_in types all ≡ front ++ kinds_in types (map compiled_block bs) → AreLong (map compiled_block bs)
        → AllByRecursion (λ (b : StatedBlock). AllByRecursion (λ (s : SourceInstruction). HandsTypesOn types all (types b.id) s.instr) b.statements) bs
        → AllByRecursion IsLinkKept (links_from all first (map compiled_block bs))
    blocks_fine front first [] n e l h = tt
    blocks_fine front first (b ∷ bs) n e l h =
        all_append IsLinkKept (block_links all first (code_in b.statements)) (links_from all (first + length b.params) (map compiled_block bs))
        (block_fine first b at h.0)
        (blocks_fine (front ++ types b.id) (first + length b.params) bs longer (e ∙ sym (append_assoc front (types b.id) (kinds_in types (map compiled_block bs)))) l.1 h.1)
      where
        longer : length (front ++ types b.id) ≡ first + length b.params
        longer = length-append front (types b.id) ∙ ap₂ (λ (x y : ℕ). x + y) n l.0

        at : IsFirst (types b.id) first
        at number kind k =
            ap (λ (z : List Simple). slice_get z (first + number)) e
            ∙ got_behind front (types b.id ++ kinds_in types (map compiled_block bs)) first number (first + number) n refl
            ∙ got_front (types b.id) (kinds_in types (map compiled_block bs)) number kind k

  long_compiled : (bs : List StatedBlock) → AllByRecursion (λ (b : StatedBlock). length (types b.id) ≡ length b.params) bs → AreLong (map compiled_block bs)
  long_compiled [] h = tt
  long_compiled (b ∷ bs) h = (h.0, long_compiled bs h.1)

  all_fine : (bs : List StatedBlock) → (h : BlocksHandTypesOn types bs)
      → AllByRecursion (λ (l : Link). IsLinkBelow (total_parameter_count (map compiled_block bs)) l × IsKeptBy (declared_type_in types (map compiled_block bs)) l) (links (map compiled_block bs))
  unfolding links
  all_fine bs h =
      let long = long_compiled bs h.lengths in
      blocks_fine (map compiled_block bs) long [] 0 bs refl refl long h.calls

all_parted : (P Q : Link → Type 0) (ls : List Link) → AllByRecursion (λ (l : Link). P l × Q l) ls → AllByRecursion P ls × AllByRecursion Q ls
all_parted P Q [] h = (tt, tt)
all_parted P Q (l ∷ ls) h = let rest = all_parted P Q ls h.1 in ((h.0.0, rest.0), (h.0.1, rest.1))

pub links_handed_on : AreLinksHandedOn
links_handed_on types blocks h =
    all_parted (IsLinkBelow (total_parameter_count (map compiled_block blocks))) (IsKeptBy (declared_type_in types (map compiled_block blocks))) (links (map compiled_block blocks)) (all_fine types blocks h)

pub types_listed : AreTypesListed
types_listed types blocks h =
    let fine = links_handed_on types blocks h in
    types_kept (map compiled_block blocks) (declared_type_in types (map compiled_block blocks)) fine.0 fine.1
