-- Heads and declarations that break no rule: their blocks are whole, and no rule refuses them.
use Rattle.std.proofs.Common.{◌≡◌, ℕ, Bool, false, List, [], ◌∷◌, ◌++◌, refl, sym, ap, ◌∙◌}
use Rattle.std.specs.List.{AllByRecursion}
use Rattle.plc_base.specs.RefusalsAlong.{refusals_along}
use Rattle.plc_base.specs.Least.{broken_if}
use Rattle.plc_base.specs.declared.refusals.Refusal.{Refusal}
use Rattle.stl_ast.specs.declared.blocks.Block.{Block}
use Rattle.stl_ast.specs.declared.declarations.Declaration.{Declaration}
use Rattle.stl_symbols.specs.Symbol.{Symbol}
use Rattle.block_layout.specs.Around.{Outside, refusals_in_block, refusals_in_blocks}
use Rattle.block_layout.specs.Layouts.{block_layout, layouts_from}
use Rattle.block_layout.specs.Measures.{types_of_source}
use Rattle.block_layout.specs.Rule21.{refusals_21, rule_21}
use Rattle.block_layout.specs.Rule22.{is_block_twice, rule_22}
use Rattle.block_layout.specs.Rule23.{refusals_23, has_unknown_head}
use Rattle.block_layout.specs.Rule41.{refusals_41}
use Rattle.block_layout.specs.Rule42.{refusals_42}
use Rattle.block_layout.specs.Rule43.{contains_itself, rule_43}
use Rattle.block_layout.specs.Rule44.{has_wrong_number, rule_44}
use Rattle.block_layout.specs.Rule50.{has_too_much_local, rule_50}
use Rattle.block_layout.specs.Rule51.{is_too_long, rule_51}
use Rattle.block_layout.specs.Rule52.{has_too_many_parameters, rule_52}
use Rattle.block_layout.specs.Rule53.{is_one_too_many, rule_53}
use Rattle.block_layout.specs.Rule54.{exceeds_total, rule_54}
use Rattle.block_layout.specs.Rule55.{has_too_many_statements, rule_55}
use Rattle.block_layout.specs.Rule56.{refusals_56, rule_56}
use Rattle.block_layout.specs.Types.{Types}
use Rattle.block_layout.proofs.HeadLemmas.{AllHeads}
use Rattle.sem_kept.proofs.accepted.Accepted.{IsSoundHead, all_mapped}
use Rattle.listing_laws.specs.Rules.{AreDeclarationsRight}
use Rattle.listing_laws.specs.Whole.{AreBlocksRight}
use Rattle.listing_laws.proofs.IdLemmas.{source_symbols}

-- ---- whole blocks

not_broken : (y : Types) (blocks before : List Block) (b : Block) → IsSoundHead y blocks before b → (block_layout y blocks before b).broken ≡ false
unfolding block_layout
not_broken y blocks before b h =
    let h22 = h.by_22 in
    let h23 = h.by_23 in
    let h43 = h.by_43 in
    let h44 = h.by_44 in
    let h50 = h.by_50 in
    let h51 = h.by_51 in
    let h52 = h.by_52 in
    let h53 = h.by_53 in
    let h54 = h.by_54 in
    let h55 = h.by_55 in
    rw h22 (rw h23 (rw h43 (rw h44 (rw h50 (rw h51 (rw h52 (rw h53 (rw h54 h55))))))))

pub heads_whole : (y : Types) (blocks before bs : List Block) → AllHeads (IsSoundHead y blocks) before bs → AllByRecursion (λ l. l.broken ≡ false) (layouts_from y blocks before bs)
heads_whole y blocks before [] h = tt
heads_whole y blocks before (b ∷ bs) h = (not_broken y blocks before b h.0, heads_whole y blocks (b ∷ before) bs h.1)

-- ---- no refusal of a head

heads_weaker : (P Q : List Block → Block → Type 0) → ((before : List Block) (b : Block) → P before b → Q before b) → (before bs : List Block) → AllHeads P before bs → AllHeads Q before bs
heads_weaker P Q f before [] h = tt
heads_weaker P Q f before (b ∷ bs) h = (f before b h.0, heads_weaker P Q f (b ∷ before) bs h.1)

none_refused : (breaks : List Block → Block → Bool) (rule : ℕ) (before bs : List Block) → AllHeads (λ before b. breaks before b ≡ false) before bs
    → refusals_along (λ b. false) (λ before b. broken_if (breaks before b) b.line rule) (λ before b. b ∷ before) before bs ≡ []
none_refused breaks rule before [] h = refl
none_refused breaks rule before (b ∷ bs) h =
    ap (λ (t : Bool). broken_if t b.line rule ++ refusals_along (λ b. false) (λ before b. broken_if (breaks before b) b.line rule) (λ before b. b ∷ before) (b ∷ before) bs) h.0
    ∙ none_refused breaks rule (b ∷ before) bs h.1

-- of all heads, by what each has
by_head : (P : List Block → Block → Type 0) (breaks : List Block → Block → Bool) (rule : ℕ) (bs : List Block) → ((before : List Block) (b : Block) → P before b → breaks before b ≡ false) → AllHeads P [] bs
    → refusals_along (λ b. false) (λ before b. broken_if (breaks before b) b.line rule) (λ before b. b ∷ before) [] bs ≡ []
by_head P breaks rule bs f h = none_refused breaks rule [] bs (heads_weaker P (λ before b. breaks before b ≡ false) f [] bs h)

-- ---- no refusal of a declaration

none_declared : (broken : Outside → List Declaration → Declaration → List Refusal) (bs : List Block) → AllByRecursion (λ b. refusals_in_block broken b ≡ []) bs → refusals_in_blocks broken bs ≡ []
none_declared broken [] h = refl
none_declared broken (b ∷ bs) h = ap (λ (rs : List Refusal). rs ++ refusals_in_blocks broken bs) h.0 ∙ none_declared broken bs h.1

pub blocks_right : (symbols : List Symbol) (blocks : List Block) → AllHeads (IsSoundHead (types_of_source symbols blocks) blocks) [] blocks → AllByRecursion (AreDeclarationsRight (types_of_source symbols blocks)) blocks
    → AreBlocksRight symbols blocks
unfolding rule_21 rule_22 rule_43 rule_44 rule_50 rule_51 rule_52 rule_53 rule_54 rule_55 rule_56
blocks_right symbols blocks h d = record {
  by_21 = none_declared refusals_21 blocks (all_mapped (AreDeclarationsRight y) (λ b. refusals_in_block refusals_21 b ≡ []) (λ b r. r.by_21) blocks d);
  by_22 = by_head P (is_block_twice y) 22 blocks (λ before b s. s.by_22) h;
  heads_23 = by_head P (λ before b. has_unknown_head y b) 23 blocks (λ before b s. s.by_23) h;
  declared_23 = none_declared (refusals_23 y) blocks (all_mapped (AreDeclarationsRight y) (λ b. refusals_in_block (refusals_23 y) b ≡ []) (λ b r. r.by_23) blocks d);
  declared_41 = none_declared refusals_41 blocks (all_mapped (AreDeclarationsRight y) (λ b. refusals_in_block refusals_41 b ≡ []) (λ b r. r.by_41) blocks d);
  declared_42 = none_declared refusals_42 blocks (all_mapped (AreDeclarationsRight y) (λ b. refusals_in_block refusals_42 b ≡ []) (λ b r. r.by_42) blocks d);
  by_43 = by_head P (contains_itself y blocks) 43 blocks (λ before b s. s.by_43) h;
  by_44 = by_head P (λ before b. has_wrong_number symbols b) 44 blocks (λ before b s. ap (λ (z : List Symbol). has_wrong_number z b) (sym (source_symbols symbols blocks)) ∙ s.by_44) h;
  by_50 = by_head P (λ before b. has_too_much_local y b) 50 blocks (λ before b s. s.by_50) h;
  by_51 = by_head P (λ before b. is_too_long y blocks b) 51 blocks (λ before b s. s.by_51) h;
  by_52 = by_head P (λ before b. has_too_many_parameters b) 52 blocks (λ before b s. s.by_52) h;
  by_53 = by_head P is_one_too_many 53 blocks (λ before b s. s.by_53) h;
  by_54 = by_head P (exceeds_total y blocks) 54 blocks (λ before b s. s.by_54) h;
  by_55 = by_head P (λ before b. has_too_many_statements b) 55 blocks (λ before b s. s.by_55) h;
  by_56 = none_declared (refusals_56 y) blocks (all_mapped (AreDeclarationsRight y) (λ b. refusals_in_block (refusals_56 y) b ≡ []) (λ b r. r.by_56) blocks d);
}
  where
    y : Types
    y = types_of_source symbols blocks

    P : List Block → Block → Type 0
    P = IsSoundHead y blocks
