use Rattle.std.proofs.Common.{◌≡◌, ◌<◌, drop, ◌++◌, List, ℕ, length}
use Rattle.stl_ast.specs.declared.declarations.Declaration.{Declaration}
use Rattle.stl_ast.specs.Outline.{IsOutline}
use Rattle.block_layout.specs.Around.{Outside, declarations_before_next}
use Rattle.block_layout.specs.DeclarationFacts.{AreOpen, facts_of_declarations}
use Rattle.block_layout.proofs.declaration_facts.check_all.Given as goal

abbrev pub invariant-loop-declaration : goal.invariant-loop-declaration
invariant-loop-declaration l = record {
  outline : (deepest : ℕ) × (IsOutline deepest (drop l.declaration-index l.declarations) × (deepest < length l.open_.items));
  count : length l.all_facts.items ≡ l.declaration-index;
  facts : (o : Outside) (before : List Declaration) → AreOpen l.types o before l.fn.open_.items
      → (now : List Declaration) × (AreOpen l.types o now l.open_.items × (declarations_before_next now (drop l.declaration-index l.declarations) ≡ declarations_before_next before l.declarations)
      × (l.all_facts.items ++ facts_of_declarations l.types o now (drop l.declaration-index l.declarations) ≡ facts_of_declarations l.types o before l.declarations));
}
