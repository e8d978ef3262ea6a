-- The rules that are checked with the layout, joined.
use Rattle.std.proofs.Common.{◌≡◌, List, [], ◌∷◌, ◌++◌, append_assoc, Option, Some, None, map, refl, sym, ◌∙◌, ap}
use Rattle.std.proofs.lemmas.List.{append-nil}
use Rattle.std.specs.List.{flat_map}
use Rattle.std.specs.Option.{option_to_list}
use Rattle.plc_base.specs.declared.refusals.Refusal.{Refusal}
use Rattle.stl_ast.specs.declared.blocks.Block.{Block}
use Rattle.plc_base.specs.Least.{least, lesser}
use Rattle.plc_base.proofs.LeastLemmas.{least-append, lesser_nothing}
use Rattle.block_layout.specs.Rule21.{rule_21}
use Rattle.block_layout.specs.Rule22.{rule_22}
use Rattle.block_layout.specs.Rule23.{rule_23}
use Rattle.block_layout.specs.Rule41.{rule_41}
use Rattle.block_layout.specs.Rule42.{rule_42}
use Rattle.block_layout.specs.Rule43.{rule_43}
use Rattle.block_layout.specs.Rule44.{rule_44}
use Rattle.block_layout.specs.Rule50.{rule_50}
use Rattle.block_layout.specs.Rule51.{rule_51}
use Rattle.block_layout.specs.Rule52.{rule_52}
use Rattle.block_layout.specs.Rule53.{rule_53}
use Rattle.block_layout.specs.Rule54.{rule_54}
use Rattle.block_layout.specs.Rule55.{rule_55}
use Rattle.block_layout.specs.Rule56.{rule_56}
use Rattle.block_layout.specs.Table.{refusals_of_blocks}
use Rattle.block_layout.specs.Types.{Types}
use Rattle.block_layout.specs.declared.blocks.BlockLayout.{BlockLayout}

pub least_one : (o : Option Refusal) → o ≡ least (option_to_list o)
unfolding lesser
least_one None = refl
least_one (Some r) = refl

-- the least of what rules find is the least of all that they find
pub least_all : (rules : List (List Refusal)) → least (flat_map option_to_list (map least rules)) ≡ least (flat_map (λ r. r) rules)
least_all [] = refl
least_all (r ∷ rs) =
    least-append (option_to_list (least r)) (flat_map option_to_list (map least rs))
    ∙ ap (λ (o : Option Refusal). lesser o (least (flat_map option_to_list (map least rs)))) (sym (least_one (least r)))
    ∙ ap (λ (o : Option Refusal). lesser (least r) o) (least_all rs)
    ∙ sym (least-append r (flat_map (λ r. r) rs))

-- the rules of the table
abbrev pub all_rules : Types → List BlockLayout → List Block → List (List Refusal)
all_rules y l blocks =
    rule_21 blocks ∷ rule_22 y blocks ∷ rule_23 y blocks ∷ rule_41 l blocks ∷ rule_42 y l blocks ∷ rule_43 y blocks ∷ rule_44 y.symbols blocks ∷ rule_50 y blocks
    ∷ rule_51 y blocks ∷ rule_52 blocks ∷ rule_53 blocks ∷ rule_54 y blocks ∷ rule_55 blocks ∷ rule_56 y blocks ∷ []

pub table_joined : (y : Types) (l : List BlockLayout) (blocks : List Block) → flat_map (λ r. r) (all_rules y l blocks) ≡ refusals_of_blocks y l blocks
unfolding refusals_of_blocks
table_joined y l blocks = simp (append_assoc, append-nil)

pub fourteen : (a b c d e f g h i j k l m n a' b' c' d' e' f' g' h' i' j' k' l' m' n' : Option Refusal) →
    a ≡ a' → b ≡ b' → c ≡ c' → d ≡ d' → e ≡ e' → f ≡ f' → g ≡ g' → h ≡ h' → i ≡ i' → j ≡ j' → k ≡ k' → l ≡ l' → m ≡ m' → n ≡ n' →
    a ∷ b ∷ c ∷ d ∷ e ∷ f ∷ g ∷ h ∷ i ∷ j ∷ k ∷ l ∷ m ∷ n ∷ [] ≡ a' ∷ b' ∷ c' ∷ d' ∷ e' ∷ f' ∷ g' ∷ h' ∷ i' ∷ j' ∷ k' ∷ l' ∷ m' ∷ n' ∷ []
fourteen a b c d e f g h i j k l m n a' b' c' d' e' f' g' h' i' j' k' l' m' n' ea eb ec ed ee ef eg eh ei ej ek el em en = cc
