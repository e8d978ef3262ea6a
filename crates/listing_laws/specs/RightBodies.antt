-- The bodies of a listing break no rule.
use Rattle.std.specs.Prelude.{◌≡◌, ℕ, List, []}
use Rattle.std.specs.List.{flat_map}
use Rattle.stl_ast.specs.Literals.{AreBytes}
use Rattle.stl_ast.specs.declared.blocks.Block.{Block}
use Rattle.stl_ast.specs.declared.blocks.Tree.{Tree}
use Rattle.stl_symbols.specs.Symbol.{Symbol}
use Rattle.block_layout.specs.Layouts.{layouts_of}
use Rattle.block_layout.specs.Measures.{types_of_source}
use Rattle.block_layout.specs.Operands.{in_body}
use Rattle.block_layout.specs.Rule23.{operand_23}
use Rattle.block_layout.specs.Rule42.{bodies_42}
use Rattle.block_layout.specs.Types.{Types}
use Rattle.stl_types.specs.Bodies.{first_context, in_contexts}
use Rattle.stl_types.specs.Brackets.{rule_29, rule_30, rule_31}
use Rattle.stl_types.specs.Calls.{rule_24_of_actuals, rule_34, rule_35, rule_36, rule_37, rule_38, rule_40, rule_46}
use Rattle.stl_types.specs.Context.{Context}
use Rattle.stl_types.specs.Labels.{rule_26, rule_27}
use Rattle.stl_types.specs.Landings.{rule_33}
use Rattle.stl_types.specs.Lists.{rule_32}
use Rattle.stl_types.specs.Operands.{rules_24_25_39}
use Rattle.stl_types.specs.Unknown.{operand_20}
use Rattle.stl_types.specs.Zones.{rule_47, rule_48, rule_49}
use Rattle.sem_kept.specs.AcceptedSource.{IsAccepted}
use Rattle.listing_laws.specs.ListedSource.{IsWholeAgain, listed_tree_again}

-- no body of the blocks breaks a rule of a source (docs/REFUSALS.md): those of the layout on
-- operands, 23 and 42, and those of statements; the field `by_20` states that rule 20 isn't broken,
-- and so on
pub record AreBodiesRight (y : Types) (c : Context) (blocks : List Block) : Type 0 where
  -- no operand and no actual parameter has an unknown name or component
  pub by_20 : in_contexts (λ c body. in_body (operand_20 c) body) c blocks ≡ []
  -- no operand names an unknown block
  pub by_23 : flat_map (λ b. in_body (operand_23 y) b.body) blocks ≡ []
  -- no operand breaks rule 24, 25 or 39
  pub by_24 : rules_24_25_39 c blocks ≡ []
  -- rule 24 on actual parameters: none is a DATE_AND_TIME
  pub dates : rule_24_of_actuals c blocks ≡ []
  -- no jump is to an unknown label
  pub by_26 : rule_26 blocks ≡ []
  -- no label stands twice in a body
  pub by_27 : rule_27 blocks ≡ []
  -- no `)` is without an open bracket
  pub by_29 : rule_29 blocks ≡ []
  -- no bracket is open at the end of a block
  pub by_30 : rule_30 blocks ≡ []
  -- no eighth bracket is opened
  pub by_31 : rule_31 blocks ≡ []
  -- each JL has its list of JU and its label behind it
  pub by_32 : rule_32 blocks ≡ []
  -- at a jump and its label equal brackets and as many zones are open
  pub by_33 : rule_33 blocks ≡ []
  -- no call names a parameter that the block doesn't have
  pub by_34 : rule_34 c blocks ≡ []
  -- no call supplies a parameter twice
  pub by_35 : rule_35 c blocks ≡ []
  -- no CALL of a function or a system function leaves out a parameter
  pub by_36 : rule_36 c blocks ≡ []
  -- each actual parameter fits its parameter
  pub by_37 : rule_37 c blocks ≡ []
  -- the data block of a call is an instance of the block that is called
  pub by_38 : rule_38 c blocks ≡ []
  -- no UC or CC is of a block with parameters, and no CALL of a function block lacks its instance
  pub by_40 : rule_40 c blocks ≡ []
  -- no index of an operand is outside its array
  pub by_42 : bodies_42 y c.layouts 0 blocks ≡ []
  -- no unknown system function is called
  pub by_46 : rule_46 c blocks ≡ []
  -- no `)MCR` is without an open zone
  pub by_47 : rule_47 blocks ≡ []
  -- no zone is open at the end of a block
  pub by_48 : rule_48 blocks ≡ []
  -- no ninth zone is opened
  pub by_49 : rule_49 blocks ≡ []

-- the bodies of the listing of an accepted source's program break no rule, where none of its blocks
-- breaks a rule as a whole
abbrev pub AreListedBodiesRight : Type 0
AreListedBodiesRight =
    (source file : List ℕ) (symbols : List Symbol) (t : Tree)
    → IsAccepted source file symbols t → AreBytes source → AreBytes file → (others : List Symbol)
    → IsWholeAgain symbols t others
    → AreBodiesRight (types_of_source others (listed_tree_again symbols t).blocks)
    (first_context others (layouts_of (listed_tree_again symbols t) others)
    (listed_tree_again symbols t).blocks)
    (listed_tree_again symbols t).blocks
