-- The settings of a listing break no rule.
use Rattle.std.proofs.Common.{◌≡◌, ℕ, zero, suc, ◌+◌, Bool, false, List, [], ◌∷◌, ◌++◌, map, Option, Some, None, refl, sym, ap, subst, ◌∙◌, arith}
use Rattle.std.specs.Prelude.{slice_get}
use Rattle.std.specs.List.{AllByRecursion}
use Rattle.flat_code.specs.Programs.{CodeBlock, DataBlock, Program}
use Rattle.stl_ast.specs.declared.blocks.Block.{Block}
use Rattle.stl_ast.specs.declared.blocks.Setting.{Setting}
use Rattle.stl_ast.specs.declared.blocks.Tree.{Tree}
use Rattle.stl_symbols.specs.Symbol.{Symbol}
use Rattle.block_layout.specs.Layouts.{layouts_of}
use Rattle.block_layout.specs.Rule41.{setting_misfits}
use Rattle.block_layout.specs.Rule42.{setting_is_outside}
use Rattle.block_layout.specs.Settings.{in_settings, on_settings}
use Rattle.block_layout.specs.declared.blocks.BlockLayout.{BlockLayout}
use Rattle.stl_types.specs.Unknown.{sets_unknown}
use Rattle.stl_list.specs.CodeBlocks.{in_lines, line_reached, listed_block, listed_blocks}
use Rattle.stl_list.specs.DataBlocks.{listed_data}
use Rattle.stl_list.specs.Lines.{line_behind_statements}
use Rattle.stl_list.specs.Listing.{listed_tree}
use Rattle.stl_list.specs.Signatures.{Signature}
use Rattle.sem_kept.specs.AcceptedSource.{program_in}
use Rattle.sem_kept.proofs.accepted.Accepted.{all_mapped}
use Rattle.listing_laws.specs.ListedSource.{listed_tree_again}
use Rattle.listing_laws.specs.ListedDeclarations.{signatures_in}
use Rattle.listing_laws.specs.Instances.{AreListedSettingsRight, data_again}
use Rattle.listing_laws.proofs.declared.OwnKept.{HasLayout, layout_there}
use Rattle.listing_laws.proofs.filled.Listed.{IsAgain, all_instances}
use Rattle.listing_laws.proofs.filled.Settings.{IsRight}

-- ---- refusals of settings

settings_none : (breaks : Setting → Bool) (rule : ℕ) (ss : List Setting) → AllByRecursion (λ s. breaks s ≡ false) ss → in_settings breaks rule ss ≡ []
settings_none breaks rule [] h = refl
settings_none breaks rule (s ∷ ss) (one, more) = rw one (settings_none breaks rule ss more)

blocks_none : (breaks : ℕ → Setting → Bool) (rule j : ℕ) (bs : List Block) → ((i : ℕ) (b : Block) → slice_get bs i ≡ Some b → AllByRecursion (λ s. breaks (j + i) s ≡ false) b.settings)
    → on_settings breaks rule j bs ≡ []
blocks_none breaks rule j [] each = refl
blocks_none breaks rule j (b ∷ bs) each =
    let none : j + 0 ≡ j = omega arith in
    let here = settings_none (breaks j) rule b.settings (subst (λ k. AllByRecursion (λ s. breaks k s ≡ false) b.settings) none (each 0 b refl)) in
    let rest = blocks_none breaks rule (j + 1) bs later in
    λ i. here i ++ rest i
  where
    later : (i : ℕ) (c : Block) → slice_get bs i ≡ Some c → AllByRecursion (λ s. breaks (j + 1 + i) s ≡ false) c.settings
    later i c e = let further : j + suc i ≡ j + 1 + i = omega arith in subst (λ k. AllByRecursion (λ s. breaks k s ≡ false) c.settings) further (each (suc i) c e)

-- ---- the blocks of a listing

-- a block without settings, or one that a data block is listed as
pub data IsBareOrListed (P : DataBlock → Type 0) (of : DataBlock → Block) (b : Block) : Type 0 where
  Bare : b.settings ≡ [] → IsBareOrListed P of b
  Data : (d : DataBlock) → P d → b ≡ of d → IsBareOrListed P of b

data_listed : (P : DataBlock → Type 0) (of : DataBlock → Block) (ds : List DataBlock) (i : ℕ) (b : Block) → AllByRecursion P ds → slice_get (map of ds) i ≡ Some b → IsBareOrListed P of b
data_listed P of [] i b h e = absurd cc
data_listed P of (d ∷ ds) zero b (one, more) e = let same : of d ≡ b = cc in Data d one (sym same)
data_listed P of (d ∷ ds) (suc i) b (one, more) e = data_listed P of ds i b more e

block_listed : (P : DataBlock → Type 0) (of : DataBlock → Block) (ss : List Signature) (reached : ℕ) (cs : List CodeBlock) (ds : List DataBlock) (i : ℕ) (b : Block) → AllByRecursion P ds
    → slice_get (listed_blocks ss reached cs ++ map of ds) i ≡ Some b → IsBareOrListed P of b
block_listed P of ss reached [] ds i b h e = data_listed P of ds i b h e
block_listed P of ss reached (c ∷ cs) ds zero b h e = let same : listed_block ss reached c ≡ b = cc in Bare (ap (λ (x : Block). x.settings) (sym same))
block_listed P of ss reached (c ∷ cs) ds (suc i) b h e = block_listed P of ss (line_behind_statements reached c.lines) cs ds i b h e

-- a setting, of the block at a place, breaks no rule of settings
record BreaksNoSettingRule (l : List BlockLayout) (k : ℕ) (s : Setting) : Type 0 where
  known : sets_unknown l k s ≡ false
  fit : setting_misfits l k s ≡ false
  inside : setting_is_outside l k s ≡ false

module _ (symbols : List Symbol) (t : Tree) (others : List Symbol) (line : ℕ) where
  abbrev ls : List BlockLayout
  ls = layouts_of (listed_tree_again symbols t) others

  abbrev IsInstanceFine : DataBlock → Type 0
  IsInstanceFine d = (n : ℕ) → d.instance_of ≡ Some n → IsAgain symbols t others d

  fine_at : (i : ℕ) (b : Block) → slice_get (listed_tree_again symbols t).blocks i ≡ Some b → IsBareOrListed IsInstanceFine (data_again symbols t line) b → AllByRecursion (BreaksNoSettingRule ls i) b.settings
  fine_at i b there (Bare none) = subst (AllByRecursion (BreaksNoSettingRule ls i)) (sym none) tt
  fine_at i b there (Data d h same) = subst (λ (x : Block). AllByRecursion (BreaksNoSettingRule ls i) x.settings) (sym same) (by d.instance_of refl)
    where
      at : slice_get (listed_tree_again symbols t).blocks i ≡ Some (data_again symbols t line d)
      at = there ∙ ap (λ x. Some x) same

      laid : HasLayout ls i
      laid = layout_there others (listed_tree_again symbols t) i (data_again symbols t line d) at

      by : (o : Option ℕ) → d.instance_of ≡ o → AllByRecursion (BreaksNoSettingRule ls i) (data_again symbols t line d).settings
      by None e = subst (λ o. AllByRecursion (BreaksNoSettingRule ls i) (listed_data (signatures_in (program_in symbols t)) line d.number d.bytes o).settings) (sym e) tt
      by (Some n) e =
          all_mapped (IsRight ls i d.bytes) (BreaksNoSettingRule ls i) (λ s r. record { known = r.known; fit = r.fit; inside = r.inside }) (data_again symbols t line d).settings
          ((h n e).right i line laid.layout at laid.there)

pub settings_are_right : AreListedSettingsRight
unfolding listed_tree
settings_are_right source file symbols t accepted bytes file_bytes others whole = record {
  by_20 = blocks_none (sets_unknown ls) 20 0 again.blocks (λ i b e. at (sets_unknown ls) (λ k s f. f.known) i b e);
  by_41 = blocks_none (setting_misfits ls) 41 0 again.blocks (λ i b e. at (setting_misfits ls) (λ k s f. f.fit) i b e);
  by_42 = blocks_none (setting_is_outside ls) 42 0 again.blocks (λ i b e. at (setting_is_outside ls) (λ k s f. f.inside) i b e);
}
  where
    p : Program
    p = program_in symbols t

    again : Tree
    again = listed_tree_again symbols t

    ls : List BlockLayout
    ls = layouts_of (listed_tree_again symbols t) others

    line : ℕ
    line = line_reached 1 (in_lines p.code_blocks)

    at : (breaks : ℕ → Setting → Bool) → ((k : ℕ) (s : Setting) → BreaksNoSettingRule ls k s → breaks k s ≡ false) → (i : ℕ) (b : Block) → slice_get again.blocks i ≡ Some b
        → AllByRecursion (λ s. breaks (0 + i) s ≡ false) b.settings
    at breaks holds i b e =
        let none : i ≡ 0 + i = omega arith in
        subst (λ k. AllByRecursion (λ s. breaks k s ≡ false) b.settings) none
        (all_mapped (BreaksNoSettingRule ls i) (λ s. breaks i s ≡ false) (holds i) b.settings
        (fine_at symbols t others line i b e
        (block_listed (λ d. (n : ℕ) → d.instance_of ≡ Some n → IsAgain symbols t others d) (data_again symbols t line) (signatures_in p) 1 (in_lines p.code_blocks) p.data_blocks i b
        (all_instances source file symbols t accepted bytes file_bytes others whole) e)))
