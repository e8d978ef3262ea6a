-- A call passes no more than it names: no two parameters of a block have one name.
use Rattle.std.proofs.Common.{◌≡◌, ℕ, zero, suc, ◌+◌, ◌≤◌, Bool, true, false, List, [], ◌∷◌, ◌++◌, length, length-append, take, drop, Option, Some, None, refl, sym, ap, subst, ◌∙◌, arith}
use Rattle.std.specs.Prelude.{is_some, if◌then◌else◌}
use Rattle.std.specs.List.{AllByRecursion, list_all, sum_by}
use Rattle.std.specs.Option.{IfSome}
use Rattle.std.specs.Str.{bytes_eq}
use Rattle.std.proofs.lemmas.List.Sums.{sum_by-append, sum_by-cons}
use Rattle.plc_base.specs.Kinds.{is_function, is_function_block, is_system_function}
use Rattle.plc_base.specs.declared.blocks.BlockId.{BlockId}
use Rattle.plc_base.specs.declared.blocks.BlockKind.{BlockKind}
use Rattle.flat_code.specs.declared.operands.Passed.{Passed}
use Rattle.stl_ast.specs.declared.blocks.Block.{Block}
use Rattle.stl_ast.specs.declared.blocks.Tree.{Tree}
use Rattle.stl_ast.specs.declared.declarations.Simple.{Simple}
use Rattle.stl_ast.specs.declared.operands.Operand.{Operand}
use Rattle.stl_ast.specs.declared.operands.Operand.TheVariants as operand
use Rattle.stl_ast.specs.declared.statements.Actual.{Actual}
use Rattle.stl_ast.specs.declared.statements.Statement.{Statement}
use Rattle.plc_base.specs.Folding.{upper_case_name}
use Rattle.stl_symbols.specs.Symbol.{Symbol}
use Rattle.block_layout.specs.Blocks.{named_block}
use Rattle.block_layout.specs.Cells.{components_of}
use Rattle.block_layout.specs.Layouts.{block_layout}
use Rattle.block_layout.specs.Measures.{types_of_source}
use Rattle.block_layout.specs.Paths.{cells_at}
use Rattle.block_layout.specs.declared.blocks.BlockLayout.{BlockLayout}
use Rattle.stl_types.specs.Context.{Context, whole_place}
use Rattle.stl_types.specs.Parameters.{Callee, callee_by, callee_of, formals_of, is_sound_formal, sound_formals, source_callee, system_formals}
use Rattle.stl_types.specs.Resolution.{resolution_of}
use Rattle.stl_types.specs.declared.parameters.Formal.{Formal}
use Rattle.stl_parser.proofs.OptionLemmas.{both, chain_holds, map_holds, none_holds, then_holds}
use Rattle.stl_codegen.specs.Instruction.{source_block_at, in_parameter_order, passings_to, return_last}
use Rattle.stl_codegen.specs.PassedParameters.{passed_actual, passed_resolution, passings_from, actual_of_formal, with_index}
use Rattle.sem_kept.proofs.accepted.Accepted.{IsSoundBlock}
use Rattle.block_layout.proofs.SoundnessLemmas.{block_unbroken}
use Rattle.sem_kept.proofs.accepted.OperandsFormals.{Distinct, FreshFrom, block_formals, fresh_distinct, same_bytes, system_matched}
use Rattle.block_layout.proofs.CountLemmas.{bit}
use Rattle.sem_kept.proofs.accepted.SizesOps.{PassesFew}
use Rattle.sem_kept.proofs.accepted.SizesSums.{every, summed_le}
use Rattle.block_layout.proofs.CommonLemmas.{summed_two}

-- ---- of formal parameters with names of their own

-- those of a name
abbrev named_so : List ℕ → Formal → ℕ
named_so n f = bit (bytes_eq n f.name)

-- no name stands twice
pub record AreNamesOnce (fs : List Formal) : Type 0 where
  pub each : (n : List ℕ) → sum_by (named_so n) fs ≤ 1

-- those that are supplied
abbrev is_given : List Actual → Formal → ℕ
is_given actuals f = bit (is_some (actual_of_formal actuals f))

given_more : (a : Actual) (here : Bool) (rest : Option Actual)
    → bit (is_some (if here then Some a else rest)) ≤ bit here + bit (is_some rest)
given_more a true rest = omega arith
given_more a false rest = omega arith

no_sum : {X : Type 0} (f : X → ℕ) (xs : List X) → ((x : X) → f x ≡ 0) → sum_by f xs ≡ 0
no_sum f [] h = refl
no_sum f (x ∷ xs) h = omega (arith, h x, sum_by-cons f x xs, no_sum f xs h)

given_few : (actuals : List Actual) (fs : List Formal) → AreNamesOnce fs
    → sum_by (is_given actuals) fs ≤ length actuals
given_few [] fs once = omega (arith, no_sum (is_given []) fs (λ f. refl))
given_few (a ∷ actuals) fs once =
    omega (
      arith,
      given_few actuals fs once,
      once.each (upper_case_name a.name),
      summed_two (named_so (upper_case_name a.name)) (is_given actuals) fs,
      summed_le (is_given (a ∷ actuals))
          (λ f. named_so (upper_case_name a.name) f + is_given actuals f) fs
          (every (λ f. is_given (a ∷ actuals) f ≤ named_so (upper_case_name a.name) f + is_given actuals f)
          (λ f. given_more a (bytes_eq (upper_case_name a.name) f.name) (actual_of_formal actuals f)) fs),
    )

index_few : (index : ℕ) (p : Option Passed) → length (with_index index p) ≤ 1
index_few index None = omega arith
index_few index (Some actual) = omega arith

one_passed : (c : Context) (index : ℕ) (a : Option Actual)
    → length (passed_actual c index a) ≤ bit (is_some a)
one_passed c index None = omega arith
one_passed c index (Some a) = index_few index (passed_resolution a.value (resolution_of c a.value))

passed_given : (c : Context) (actuals : List Actual) (index : ℕ) (fs : List Formal)
    → length (passings_from c actuals index fs) ≤ sum_by (is_given actuals) fs
passed_given c actuals index [] = omega arith
passed_given c actuals index (f ∷ fs) =
    omega (
      arith,
      one_passed c index (actual_of_formal actuals f),
      passed_given c actuals (suc index) fs,
      length-append (passed_actual c index (actual_of_formal actuals f))
          (passings_from c actuals (suc index) fs),
      sum_by-cons (is_given actuals) f fs,
    )

-- in the order of a call they are the same
last_sum : (f : Formal → ℕ) (xs : List Formal)
    → sum_by f (drop 1 xs ++ take 1 xs) ≡ sum_by f xs
last_sum f [] = refl
last_sum f (x ∷ xs) =
    omega (arith, sum_by-append f xs (x ∷ []), sum_by-cons f x [], sum_by-cons f x xs)

ordered_sum : (f : Formal → ℕ) (result : Option Simple) (xs : List Formal)
    → sum_by f (return_last result xs) ≡ sum_by f xs
ordered_sum f None xs = refl
ordered_sum f (Some result) xs = last_sum f xs

in_order_sum : (f : Formal → ℕ) (b : Option Block) (xs : List Formal)
    → sum_by f (in_parameter_order b xs) ≡ sum_by f xs
in_order_sum f None xs = refl
in_order_sum f (Some b) xs = ordered_sum f b.result xs

ordered_once : (b : Option Block) (xs : List Formal) → AreNamesOnce xs → AreNamesOnce (in_parameter_order b xs)
ordered_once b xs once =
    record { each = λ n. omega (arith, once.each n, in_order_sum (named_so n) b xs) }

passings_few : (c : Context) (s : Statement) (callee : Option Callee)
    → IfSome callee (λ callee. AreNamesOnce callee.formals)
    → length (passings_to c s callee) ≤ length s.actuals
passings_few c s None once = omega arith
passings_few c s (Some callee) once =
    let fs = in_parameter_order (source_block_at c.blocks callee.place) callee.formals in
    omega (
      arith,
      passed_given c s.actuals 0 fs,
      given_few s.actuals fs (ordered_once (source_block_at c.blocks callee.place) callee.formals once),
    )

-- ---- of a block

-- no formal parameter has the name of one from which all differ
none_named : (n : List ℕ) (g : Formal) (fs : List Formal) → bytes_eq n g.name ≡ true
    → AllByRecursion (λ (f : Formal). bytes_eq f.name g.name ≡ false) fs → sum_by (named_so n) fs ≡ 0
none_named n g [] e h = refl
none_named n g (f ∷ fs) e h =
    omega (arith, by (bytes_eq n f.name) refl, none_named n g fs e h.1, sum_by-cons (named_so n) f fs)
  where
    by : (here : Bool) → bytes_eq n f.name ≡ here → bit here ≡ 0
    by false is = refl
    by true is =
        let same = ap (λ (m : List ℕ). bytes_eq m g.name) (sym (same_bytes n f.name is)) ∙ e in
        let other = h.0 in
        absurd cc

distinct_once : (n : List ℕ) (fs : List Formal) → Distinct fs → sum_by (named_so n) fs ≤ 1
distinct_once n [] h = omega arith
distinct_once n (f ∷ fs) h =
    omega (arith, by (bytes_eq n f.name) refl (distinct_once n fs h.1), sum_by-cons (named_so n) f fs)
  where
    by : (here : Bool) → bytes_eq n f.name ≡ here → sum_by (named_so n) fs ≤ 1
        → bit here + sum_by (named_so n) fs ≤ 1
    by true e more = omega (arith, none_named n f fs e h.0)
    by false e more = omega (arith, more)

fresh_once : (fs : List Formal) → FreshFrom [] fs → AreNamesOnce fs
fresh_once fs h = record { each = λ n. distinct_once n fs (fresh_distinct [] fs h) }

system_once : (n : ℕ) → IfSome (system_formals n) AreNamesOnce
system_once n = by (system_formals n) refl
  where
    by : (o : Option (List Formal)) → system_formals n ≡ o → IfSome o AreNamesOnce
    by None e = tt
    by (Some fs) e = fresh_once fs (system_matched n fs e).fresh

pub sound_once : (symbols : List Symbol) (t : Tree) (k : ℕ) (b : Block) (l : BlockLayout) → IsSoundBlock symbols t k b l
    → AreNamesOnce (formals_of l.components)
unfolding block_layout
sound_once symbols t k b l h =
    let y = types_of_source symbols t.blocks in
    subst (λ (l : BlockLayout). AreNamesOnce (formals_of l.components)) (sym h.layout)
    (fresh_once (formals_of (components_of y b))
    (block_formals y b h.well_formed (block_unbroken y b h.declarations)))

-- ---- of a call

none_once : AreNamesOnce []
none_once = record { each = λ n. omega arith }

-- the parameters of each block
abbrev pub AllAreOnce : List BlockLayout → Type 0
AllAreOnce ls = AllByRecursion (λ l. AreNamesOnce (formals_of l.components)) ls

cells_once : (ls : List BlockLayout) (place : ℕ) → AllAreOnce ls
    → AreNamesOnce (formals_of (cells_at ls place false))
cells_once [] place h = none_once
cells_once (l ∷ ls) zero h = h.0
cells_once (l ∷ ls) (suc place) h = cells_once ls place h.1

abbrev IsOnceCalled : Callee → Type 0
IsOnceCalled callee = AreNamesOnce callee.formals

source_once : (c : Context) (id : BlockId) → AllAreOnce c.layouts
    → IfSome (source_callee c id) IsOnceCalled
source_once c id h =
    chain_holds (whole_place c id) _ (λ place. Unit {0}) IsOnceCalled (none_holds (whole_place c id))
    (λ place k. map_holds (sound_formals (cells_at c.layouts place false)) _ AreNamesOnce IsOnceCalled
    (then_holds (list_all is_sound_formal (cells_at c.layouts place false)) _ AreNamesOnce
    (λ test. cells_once c.layouts place h)) (λ fs once. once))

callee_once : (c : Context) (id : BlockId) (k : BlockKind) → AllAreOnce c.layouts
    → IfSome (callee_by c id k) IsOnceCalled
callee_once c id k h =
    both (is_system_function k) _ _ IsOnceCalled
    (map_holds (system_formals id.number) _ AreNamesOnce IsOnceCalled (system_once id.number)
    (λ fs once. once))
    (both (is_function k) _ _ IsOnceCalled (source_once c id h)
    (both (is_function_block k) _ _ IsOnceCalled (source_once c id h) tt))

called_once : (c : Context) (o : Operand) → AllAreOnce c.layouts
    → IfSome (callee_of c o) IsOnceCalled
unfolding callee_of
called_once c (operand.Called name instance) h =
    chain_holds (named_block c.symbols name) _ (λ id. Unit {0}) IsOnceCalled
    (none_holds (named_block c.symbols name)) (λ id k. callee_once c id id.kind h)
called_once c _ h = tt

pub passes_few : (c : Context) (s : Statement) → AllAreOnce c.layouts → PassesFew c s
passes_few c s h =
    passings_few c s (callee_of c s.operand) (called_once c s.operand h)
