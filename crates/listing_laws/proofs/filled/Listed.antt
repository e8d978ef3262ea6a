-- The data blocks of an accepted source's program, in its listing.
use Rattle.std.proofs.Common.{◌≡◌, ℕ, suc, ◌*◌, ◌/◌, ◌%◌, ◌<◌, ◌≤◌, true, false, List, [], ◌∷◌, length, map, Some, refl, sym, ap, subst, ◌∙◌, arith}
use Rattle.std.specs.Prelude.{nat_lt, slice_get}
use Rattle.std.specs.List.{AllByRecursion}
use Rattle.plc_base.specs.Kinds.{is_function}
use Rattle.flat_code.specs.Programs.{CodeBlock, DataBlock, Program}
use Rattle.stl_ast.specs.Literals.{AreBytes}
use Rattle.stl_ast.specs.declared.blocks.Tree.{Tree}
use Rattle.stl_symbols.specs.Symbol.{Symbol}
use Rattle.block_layout.specs.Layouts.{layouts_of}
use Rattle.block_layout.specs.Lengths.{length_of_block}
use Rattle.block_layout.specs.Measures.{types_of_source}
use Rattle.block_layout.specs.Rule22.{rule_22}
use Rattle.block_layout.specs.Rule44.{rule_44}
use Rattle.block_layout.specs.Sizes.{structure_bits}
use Rattle.block_layout.specs.declared.blocks.BlockLayout.{BlockLayout}
use Rattle.stl_codegen.specs.CompiledBlock.{StatedBlock, compiled_block}
use Rattle.stl_codegen.specs.GeneratedProgram.{code_block, code_blocks_of, generated_data_block, data_block_of}
use Rattle.stl_codegen.specs.Order.{sorted_list}
use Rattle.stl_codegen.proofs.ProgramLemmas.{all_before}
use Rattle.stl_list.specs.CodeBlocks.{in_lines, line_reached}
use Rattle.stl_list.specs.DataBlocks.{function_block, listed_data, listed_data_blocks}
use Rattle.stl_list.specs.JoinedParameters.{PassingChains, chains_of}
use Rattle.stl_list.specs.Lines.{stands_before}
use Rattle.stl_list.specs.Listing.{listed_tree}
use Rattle.stl_list.specs.Signatures.{Signature, signatures}
use Rattle.sem_kept.specs.AcceptedSource.{IsAccepted, program_in}
use Rattle.sem_kept.specs.SettledStatements.{context_at}
use Rattle.sem_kept.proofs.accepted.Accepted.{IsSoundTree, right_tree, sound_code_blocks, sound_data_blocks}
use Rattle.sem_kept.proofs.accepted.OperandsMembers.{code_block_there, data_block_there}
use Rattle.block_layout.proofs.AlignmentLemmas.{structure_even}
use Rattle.sem_kept.proofs.accepted.RecordBlocks.{code_blocks_rise}
use Rattle.sem_kept.proofs.accepted.Verified.{accepted_verifies}
use Rattle.listing_laws.specs.ListedSource.{IsWholeAgain, listed_tree_again}
use Rattle.listing_laws.specs.Chains.{is_listed_type}
use Rattle.listing_laws.specs.ListedDeclarations.{AreWide, signatures_in}
use Rattle.listing_laws.specs.Ids.{data_id_of_number}
use Rattle.listing_laws.specs.Instances.{AreInstancesAgain, AreInstancesLong, IsInstanceAgain, IsInstanceLong, data_again}
use Rattle.listing_laws.proofs.CompiledLemmas.{written_compiled}
use Rattle.listing_laws.proofs.IdLemmas.{blocks_found, source_symbols}
use Rattle.listing_laws.proofs.RangeLemmas.{IsListedData, program_listed}
use Rattle.listing_laws.proofs.declared.Blocks.{IsKnown, IsLaidInstance, IsSourced, all_codes, all_compiled, all_known, kinds_wide, laid_instance, rise_after, sourced}
use Rattle.listing_laws.proofs.declared.Groups.{AreListed, all_listed}
use Rattle.listing_laws.proofs.declared.Kept.{IsKeptInstance, instance_groups, instance_kept, own_length}
use Rattle.listing_laws.proofs.declared.OwnData.{not_long}
use Rattle.listing_laws.proofs.filled.Instances.{HasSignature, IsFunctionBlockAt, IsListedAt, all_signed, data_back, data_long, formals_listed, in_front, lies_there, listed_there, slice_get_mapped, settings_right}
use Rattle.listing_laws.proofs.filled.Origins.{IsSourceInstance, source_instance}
use Rattle.listing_laws.proofs.filled.Settings.{IsRight}

-- ---- the code blocks of a program

-- where one of some stands
pub record HasPlace {A : Type 0} (xs : List A) (x : A) : Type 0 where
  pub place : ℕ
  pub there : slice_get xs place ≡ Some x

later_places : {A : Type 0} (z : A) (xs ys : List A) → AllByRecursion (HasPlace xs) ys → AllByRecursion (HasPlace (z ∷ xs)) ys
later_places z xs [] h = tt
later_places z xs (y ∷ ys) (one, more) = (record { place = suc one.place; there = one.there }, later_places z xs ys more)

all_places : {A : Type 0} (xs : List A) → AllByRecursion (HasPlace xs) xs
all_places [] = tt
all_places (x ∷ xs) = (record { place = 0; there = refl }, later_places x xs xs (all_places xs))

in_lines_places : (bs : List CodeBlock) → AllByRecursion (HasPlace (in_lines bs)) bs
unfolding in_lines
in_lines_places bs = all_before (HasPlace (sorted_list stands_before bs)) stands_before bs (all_places (sorted_list stands_before bs))

-- what is known of a code block in a listing
record IsReady (c : PassingChains) (ss : List Signature) (bs : List CodeBlock) (b : CodeBlock) : Type 0 where
  known : IsKnown c ss b
  signature : HasSignature ss b
  place : HasPlace (in_lines bs) b

all_ready : (c : PassingChains) (ss : List Signature) (bs xs : List CodeBlock) → AllByRecursion (IsKnown c ss) xs → AllByRecursion (HasSignature ss) xs → AllByRecursion (HasPlace (in_lines bs)) xs
    → AllByRecursion (IsReady c ss bs) xs
all_ready c ss bs [] h k m = tt
all_ready c ss bs (x ∷ xs) (a, h) (b, k) (d, m) = (record { known = a; signature = b; place = d }, all_ready c ss bs xs h k m)

all_uncompiled : (P : CodeBlock → Type 0) (xs : List StatedBlock) → AllByRecursion P (map compiled_block xs) → AllByRecursion (λ x. P (compiled_block x)) xs
all_uncompiled P [] h = tt
all_uncompiled P (x ∷ xs) (one, more) = (one, all_uncompiled P xs more)

-- ---- a data block in the listing

-- it comes to itself again, and its settings break no rule
pub record IsAgain (symbols : List Symbol) (t : Tree) (others : List Symbol) (d : DataBlock) : Type 0 where
  pub again : IsInstanceAgain symbols t others d
  pub right : (k line : ℕ) (l : BlockLayout) → slice_get (listed_tree_again symbols t).blocks k ≡ Some (data_again symbols t line d)
      → slice_get (layouts_of (listed_tree_again symbols t) others) k ≡ Some l
      → AllByRecursion (IsRight (layouts_of (listed_tree_again symbols t) others) k d.bytes) (data_again symbols t line d).settings

whole_size : (whole len : ℕ) → len ≡ whole / 8 → whole % 16 ≡ 0 → whole ≡ 8 * len
whole_size whole len e f = omega (arith, e, f)

module _ (source file : List ℕ) (symbols : List Symbol) (t : Tree) (accepted : IsAccepted source file symbols t) (bytes : AreBytes source) (file_bytes : AreBytes file) (others : List Symbol) where
  abbrev p : Program
  p = program_in symbols t

  abbrev ss : List Signature
  ss = signatures_in (program_in symbols t)

  abbrev again : Tree
  again = listed_tree_again symbols t

  tree : IsSoundTree symbols t
  tree = right_tree source file symbols t accepted

  ready : AllByRecursion (λ x. IsReady (chains_of p.code_blocks) ss p.code_blocks (compiled_block x)) (code_blocks_of t symbols (layouts_of t symbols))
  unfolding signatures
  ready =
      let blocks = code_blocks_of t symbols (layouts_of t symbols) in
      let verified = (accepted_verifies source file symbols t accepted bytes file_bytes).1 in
      let from = all_compiled IsSourced blocks (sound_code_blocks symbols t (λ x. IsSourced (compiled_block x)) tree (sourced symbols t)) in
      let after = rise_after blocks (code_blocks_rise symbols t tree) in
      all_uncompiled (IsReady (chains_of p.code_blocks) ss p.code_blocks) blocks
      (all_ready (chains_of p.code_blocks) ss p.code_blocks p.code_blocks (all_known (chains_of p.code_blocks) 0 p.code_blocks after (kinds_wide p (all_codes p.code_blocks from) verified))
      (all_signed (chains_of p.code_blocks) 0 p.code_blocks after) (in_lines_places p.code_blocks))

  by_22 : rule_22 (types_of_source symbols t.blocks) t.blocks ≡ []
  by_22 = tree.by_layout.by_22

  by_44 : rule_44 symbols t.blocks ≡ []
  by_44 = ap (λ (s : List Symbol). rule_44 s t.blocks) (sym (source_symbols symbols t.blocks)) ∙ tree.by_layout.by_44

  stands : (j : ℕ) (b : CodeBlock) → slice_get (in_lines p.code_blocks) j ≡ Some b → IsListedAt ss again.blocks j b
  unfolding listed_tree
  stands j b e = listed_there p ss j b e (listed_data_blocks ss (line_reached 1 (in_lines p.code_blocks)) p.data_blocks)

  module _ (n : ℕ) (d : DataBlock) (s : IsSourceInstance symbols t n d) where
    abbrev b : CodeBlock
    b = compiled_block (code_block (context_at symbols t s.place) s.block s.layout (function_block n))

    own_ready : IsReady (chains_of p.code_blocks) ss p.code_blocks b
    own_ready =
        code_block_there symbols t (λ x. IsReady (chains_of p.code_blocks) ss p.code_blocks (compiled_block x)) ready s.place s.block s.layout (function_block n) s.sound s.is refl

    listed_block_there : IsListedAt ss again.blocks own_ready.place.place b
    listed_block_there = stands own_ready.place.place b own_ready.place.there

    laid : IsLaidInstance s.layout b
    laid = laid_instance symbols t s.place s.block s.layout (function_block n) s.sound s.is refl refl

    few : length b.params ≤ 60
    few = (sourced symbols t s.place s.block s.layout (function_block n) s.sound s.is refl).few

    kept : IsKeptInstance (types_of_source others again.blocks) ss listed_block_there.reached b laid.instance.cells
    kept =
        let known = own_ready.known in
        let g = instance_groups b (is_function b.id.kind) laid.instance few in
        instance_kept (types_of_source others again.blocks) ss listed_block_there.reached b (is_function b.id.kind) laid.instance few refl
        (subst (AreListed (is_function b.id.kind) b.params g) (sym known.are) (all_listed (chains_of p.code_blocks) (is_function b.id.kind) known.first b.params g known.wide))

    function_block_at : IsFunctionBlockAt others again ss n b laid.instance.cells
    function_block_at =
        let known = own_ready.known in
        let j = own_ready.place.place in
        record {
          id = refl;
          place = j;
          reached = listed_block_there.reached;
          there = listed_block_there.there;
          found = blocks_found t symbols others j (function_block n) by_22 by_44
              (in_front (map (λ (x : CodeBlock). x.id) (in_lines p.code_blocks)) (map (λ (x : DataBlock). data_id_of_number x.number) p.data_blocks) j (function_block n)
              (slice_get_mapped (λ (x : CodeBlock). x.id) (in_lines p.code_blocks) j b own_ready.place.there));
          both = kept.both;
          long = sym (own_length (types_of_source others again.blocks) ss listed_block_there.reached b again.blocks refl) ∙ kept.length again.blocks;
          short = laid.instance.short;
          size = whole_size (structure_bits laid.instance.cells) b.instance_len laid.instance.length (structure_even laid.instance.cells);
          signature = own_ready.signature;
          wide = subst (AreWide b.params) (sym known.are) known.wide;
          kinds = subst (AllByRecursion (λ f. is_listed_type f.kind ≡ true)) (sym known.are)
              (formals_listed (chains_of p.code_blocks) (is_function b.id.kind) false 0 known.first b.params);
        }

    long_again : (line : ℕ) → d.instance_of ≡ Some n → length_of_block (types_of_source others again.blocks) again.blocks (data_again symbols t line d) ≡ length d.bytes
    long_again line e =
        ap (λ o. length_of_block (types_of_source others again.blocks) again.blocks (listed_data ss line d.number d.bytes o)) e
        ∙ data_long others again ss n b laid.instance.cells function_block_at line d.number d.bytes ∙ sym s.long

    is_long : d.instance_of ≡ Some n → IsInstanceLong symbols t others d
    is_long e = record {
      length = λ line. long_again line e;
      by_51 = λ line. ap (nat_lt 16384) (long_again line e) ∙ not_long (length d.bytes) (subst (λ m. m ≤ 16384) (sym s.long) laid.instance.short);
    }

    is_again : AllByRecursion (λ b. b < 256) d.bytes → IsWholeAgain symbols t others → d.instance_of ≡ Some n → IsAgain symbols t others d
    is_again small whole e = record { again = λ k line l there laid_. back k line l there laid_; right = λ k line l there laid_. fine k line l there laid_ }
      where
        at : (k line : ℕ) → slice_get again.blocks k ≡ Some (data_again symbols t line d) → slice_get again.blocks k ≡ Some (listed_data ss line d.number d.bytes (Some n))
        at k line there = there ∙ ap (λ o. Some (listed_data ss line d.number d.bytes o)) e

        back : (k line : ℕ) (l : BlockLayout) → slice_get again.blocks k ≡ Some (data_again symbols t line d) → slice_get (layouts_of again others) k ≡ Some l
            → data_block_of (context_at others again k) l l.id ≡ d ∷ []
        back k line l there laid_ =
            data_back others again ss n b laid.instance.cells function_block_at k line d.number d.bytes l (at k line there) laid_ whole s.long small
            (lies_there others again ss n b laid.instance.cells function_block_at k line d.number d.bytes l (at k line there) laid_ whole s.long small
            (λ first rest ps start are. s.set first rest ps start (laid.are ∙ are)))
            ∙ ap (λ o. record { number = d.number; instance_of = o; bytes = d.bytes } ∷ []) (sym e)

        fine : (k line : ℕ) (l : BlockLayout) → slice_get again.blocks k ≡ Some (data_again symbols t line d) → slice_get (layouts_of again others) k ≡ Some l
            → AllByRecursion (IsRight (layouts_of again others) k d.bytes) (data_again symbols t line d).settings
        fine k line l there laid_ =
            subst (λ o. AllByRecursion (IsRight (layouts_of again others) k d.bytes) (listed_data ss line d.number d.bytes o).settings) (sym e)
            (settings_right others again ss n b laid.instance.cells function_block_at k line d.number d.bytes l (at k line there) laid_ whole s.long small)

  small_bytes : AllByRecursion (λ d. AllByRecursion (λ b. b < 256) d.bytes) p.data_blocks
  small_bytes =
      let good = (accepted_verifies source file symbols t accepted bytes file_bytes).0 in
      from p.data_blocks (program_listed p good (written_compiled t symbols (layouts_of t symbols) tree.well_formed)).data_blocks
    where
      from : (ds : List DataBlock) → AllByRecursion IsListedData ds → AllByRecursion (λ d. AllByRecursion (λ b. b < 256) d.bytes) ds
      from [] h = tt
      from (d ∷ ds) (one, more) = (one.bytes, from ds more)

  instances_long : AllByRecursion (λ d. (n : ℕ) → d.instance_of ≡ Some n → IsInstanceLong symbols t others d) p.data_blocks
  instances_long =
      sound_data_blocks symbols t (λ d. (n : ℕ) → d.instance_of ≡ Some n → IsInstanceLong symbols t others d) tree
      (λ k b l id h e db n is. is_long n (generated_data_block (context_at symbols t k) l id) (source_instance source file symbols t accepted bytes k b l id h e db n is) is)

  pub all_instances : IsWholeAgain symbols t others → AllByRecursion (λ d. (n : ℕ) → d.instance_of ≡ Some n → IsAgain symbols t others d) p.data_blocks
  all_instances whole =
      sound_data_blocks symbols t (λ d. (n : ℕ) → d.instance_of ≡ Some n → IsAgain symbols t others d) tree
      (λ k b l id h e db n is. is_again n (generated_data_block (context_at symbols t k) l id) (source_instance source file symbols t accepted bytes k b l id h e db n is)
      (data_block_there symbols t (λ d. AllByRecursion (λ b. b < 256) d.bytes) small_bytes k b l id h e db) whole is)

pub instances_are_long : AreInstancesLong
instances_are_long source file symbols t accepted bytes file_bytes others = instances_long source file symbols t accepted bytes file_bytes others

pub instances_again : AreInstancesAgain
instances_again source file symbols t accepted bytes file_bytes others whole =
    from (program_in symbols t).data_blocks (all_instances source file symbols t accepted bytes file_bytes others whole)
  where
    from : (ds : List DataBlock) → AllByRecursion (λ d. (n : ℕ) → d.instance_of ≡ Some n → IsAgain symbols t others d) ds
        → AllByRecursion (λ d. (n : ℕ) → d.instance_of ≡ Some n → IsInstanceAgain symbols t others d) ds
    from [] h = tt
    from (d ∷ ds) (one, more) = (λ n e. (one n e).again, from ds more)
