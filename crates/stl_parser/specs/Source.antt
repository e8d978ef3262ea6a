-- The clauses of a source, and its first violation.
use Rattle.std.specs.Prelude.{◌≡◌, ◌⊎◌, ℕ, Bool, true, false, List, [], ◌∷◌, filter, Option, Some, None, Result, Ok, Err}
use Rattle.std.specs.List.{flat_map}
use Rattle.stl_ast.specs.declared.blocks.Tree.{Tree}
use Rattle.stl_ast.specs.WellFormed.{IsWellFormed}
use Rattle.plc_base.specs.declared.refusals.SourceFault.{SourceFault}
use Rattle.plc_base.specs.declared.refusals.SourceFault.TheVariants as fault
use Rattle.stl_lexer.specs.declared.kinds.Token.{Token}
use Rattle.stl_parser.specs.declared.clauses.Clause.{Clause}
use Rattle.stl_parser.specs.declared.places.ClausePlace.{ClausePlace}
use Rattle.stl_parser.specs.declared.places.ClausePlace.TheVariants as place
use Rattle.stl_parser.specs.Spelling.{is_kept_by_tree, spelled_block}
use Rattle.stl_parser.specs.Clauses.{ClauseReading, clause_at}
use Rattle.stl_parser.specs.Frame.{next_place}

-- rule 10: a clause isn't in the grammar
abbrev pub no_clause_rule : ℕ
no_clause_rule = 10

-- rule 11: a clause of the grammar may not stand at its place
abbrev pub misplaced_clause_rule : ℕ
misplaced_clause_rule = 11

-- rule 12: a label is too long
abbrev pub long_label_rule : ℕ
long_label_rule = 12

-- rule 13: a source ends inside a block
abbrev pub open_block_rule : ℕ
open_block_rule = 13

-- a clause that is right, what follows it, and where that stands
abbrev pub ClauseStep : Type 0
ClauseStep = Clause × List Token × ClausePlace

-- where the clauses behind one of the grammar stand, or the rule that it breaks: rule 11 where its
-- kind may not stand here, else rule 12 where a label is too long
abbrev pub place_or_rule : Bool → Option ClausePlace → Result ClausePlace ℕ
place_or_rule long None = Err misplaced_clause_rule
place_or_rule true (Some next) = Err long_label_rule
place_or_rule false (Some next) = Ok next

-- the step over a clause of the grammar: the clause, the tokens behind it and the place where those
-- stand, or the rule that the clause breaks
abbrev pub step_or_rule : Clause → List Token → Result ClausePlace ℕ → Result ClauseStep ℕ
step_or_rule c rest (Ok next) = Ok (c, rest, next)
step_or_rule c rest (Err rule) = Err rule

-- the step over a clause that is read at a place, or the rule that it breaks; what isn't in the
-- grammar breaks rule 10, whatever else it breaks
abbrev pub step_of_reading : ClausePlace → ClauseReading → Result ClauseStep ℕ
step_of_reading p None = Err no_clause_rule
step_of_reading p (Some r) = step_or_rule r.0 r.1 (place_or_rule r.2 (next_place p r.0))

-- the clause at the front of the tokens, or the rule that it breaks
unfoldable pub step_of : List ℕ → ClausePlace → List Token → Result ClauseStep ℕ
step_of source p tokens = step_of_reading p (clause_at source p tokens)

-- from the front of the tokens, at the place `p`, on these clauses follow one another, each of them
-- right, and behind them stand the tokens `rest` at the place `q`
abbrev pub ReadsClauses :
    List ℕ → ClausePlace → List Token → List Clause → ClausePlace → List Token → Type 0
ReadsClauses source p tokens [] q rest = (p ≡ q) × (tokens ≡ rest)
ReadsClauses source p tokens (c ∷ cs) q rest =
    (behind : List Token) × (next : ClausePlace) × (step_of source p tokens ≡ Ok (c, behind, next))
    × ReadsClauses source next behind cs q rest

-- the line of the last token, or `line` where there is none
abbrev pub last_line : ℕ → List Token → ℕ
last_line line [] = line
last_line line (t ∷ ts) = last_line t.line ts

-- a place between blocks, where no block is open
abbrev pub is_outside : ClausePlace → Bool
is_outside place.Outside = true
is_outside _ = false

-- the clause at the front of the tokens, at the place `p`, breaks this rule in this line; where no
-- token is left, the source ends inside a block, which breaks rule 13 in the line `last` of its
-- last token
abbrev pub BreaksClauseRule : List ℕ → ClausePlace → List Token → ℕ → ℕ → ℕ → Type 0
BreaksClauseRule source p [] last line rule =
    (is_outside p ≡ false) × (line ≡ last) × (rule ≡ open_block_rule)
BreaksClauseRule source p (t ∷ ts) last line rule =
    (line ≡ t.line) × (step_of source p (t ∷ ts) ≡ Err rule)

-- a refusal is right about the clause at the front of the tokens, at the place `p`: that clause
-- breaks the rule of the refusal in its line; nothing is said of want of memory
abbrev pub IsBrokenAt : List ℕ → ClausePlace → List Token → ℕ → SourceFault → Type 0
IsBrokenAt source p tokens last (fault.Refused refusal) =
    BreaksClauseRule source p tokens last refusal.line refusal.rule
IsBrokenAt source p tokens last fault.NoMemory = Unit {0}

-- from the front of the tokens, at the place `p`, on: the first clause that breaks a rule breaks
-- this one in this line; all the clauses before it are right
pub record BreaksClauseRuleBehind (source : List ℕ) (p : ClausePlace) (tokens : List Token)
    (last line rule : ℕ) : Type 0 where
  -- the right clauses in front of the one that breaks the rule
  pub before : List Clause
  -- where the clause that breaks the rule stands
  pub at : ClausePlace
  -- the tokens from that clause on
  pub rest : List Token
  -- the clauses in front are right and lead from the place `p` to that clause
  pub reads : ReadsClauses source p tokens before at rest
  -- that clause breaks the rule in this line; without a token left, the open block breaks rule 13
  pub breaks : BreaksClauseRule source at rest last line rule

-- a refusal is right about the tokens from the place `p` on: the first clause that breaks a rule
-- breaks that of the refusal in its line; nothing is said of want of memory
abbrev pub IsBrokenBehind : List ℕ → ClausePlace → List Token → ℕ → SourceFault → Type 0
IsBrokenBehind source p tokens last (fault.Refused refusal) =
    BreaksClauseRuleBehind source p tokens last refusal.line refusal.rule
IsBrokenBehind source p tokens last fault.NoMemory = Unit {0}

-- the first violation of a source by its clauses
abbrev pub IsClauseViolation : List ℕ → List Token → ℕ → ℕ → Type 0
IsClauseViolation source tokens line rule =
    BreaksClauseRuleBehind source place.Outside tokens (last_line 0 tokens) line rule

-- the clauses of a source without violation: they are all right, no token is left behind them, and
-- no block is open
abbrev pub AreClauses : List ℕ → List Token → List Clause → Type 0
AreClauses source tokens clauses = ReadsClauses source place.Outside tokens clauses place.Outside []

-- right clauses lead from the front of the tokens, at the place `p`, to the tokens `rest` at the
-- place `q`, and `kept` are those of them that a tree keeps
pub record ReadsKeptClauses (source : List ℕ) (p : ClausePlace) (tokens : List Token)
    (kept : List Clause) (q : ClausePlace) (rest : List Token) : Type 0 where
  -- all the clauses, also those that no tree keeps
  pub clauses : List Clause
  -- all the clauses are right and lead from the place `p` to the tokens `rest` at the place `q`
  pub reads : ReadsClauses source p tokens clauses q rest
  -- the kept clauses are those of all the clauses that a tree keeps
  pub those : kept ≡ filter is_kept_by_tree clauses

-- the clauses of the source are right, and `kept` are those of them that a tree keeps
abbrev pub AreKeptClauses : List ℕ → List Token → List Clause → Type 0
AreKeptClauses source tokens kept =
    ReadsKeptClauses source place.Outside tokens kept place.Outside []

-- the tree of a source: the clauses that it keeps are those that spell it
abbrev pub IsTree : List ℕ → List Token → Tree → Type 0
IsTree source tokens tree = AreKeptClauses source tokens (flat_map spelled_block tree.blocks)

-- the source is refused by its first violation
abbrev pub IsRefusedBy : List ℕ → List Token → SourceFault → Type 0
IsRefusedBy source tokens refused =
    IsBrokenBehind source place.Outside tokens (last_line 0 tokens) refused

-- a source with its tokens has at most one list of clauses that are all right, with no block open
-- at the end
abbrev pub AreClausesUnique : Type 0
AreClausesUnique =
    (source : List ℕ) (tokens : List Token) (cs ds : List Clause) → AreClauses source tokens cs →
    AreClauses source tokens ds → cs ≡ ds

-- a source whose clauses are all right, with no block open at the end, has no violation
abbrev pub ClausesExcludeViolation : Type 0
ClausesExcludeViolation =
    (source : List ℕ) (tokens : List Token) (cs : List Clause) (line rule : ℕ) →
    AreClauses source tokens cs → IsClauseViolation source tokens line rule → ⊥

-- a source has at most one violation: two have the same line and the same rule
abbrev pub IsClauseViolationUnique : Type 0
IsClauseViolationUnique =
    (source : List ℕ) (tokens : List Token) (line rule line' rule' : ℕ) →
    IsClauseViolation source tokens line rule → IsClauseViolation source tokens line' rule' →
    (line ≡ line') × (rule ≡ rule')

-- a source whose clauses are all right, with no block open at the end, has a tree, which is
-- well-formed
abbrev pub ClausesHaveTree : Type 0
ClausesHaveTree =
    (source : List ℕ) (tokens : List Token) (cs : List Clause) → AreClauses source tokens cs →
    (t : Tree) × IsTree source tokens t × IsWellFormed t

-- the tokens have a tree, which is well-formed, or a violation
abbrev pub HasTreeOrViolation : List ℕ → List Token → Type 0
HasTreeOrViolation source tokens =
    ((t : Tree) × IsTree source tokens t × IsWellFormed t)
    ⊎ ((line : ℕ) × (rule : ℕ) × IsClauseViolation source tokens line rule)

-- each source has a tree, which is well-formed, or a violation of the clauses, whatever its tokens
-- are
abbrev pub IsParsingTotal : Type 0
IsParsingTotal = (source : List ℕ) (tokens : List Token) → HasTreeOrViolation source tokens

-- a source with its tokens has at most one tree
abbrev pub IsTreeUnique : Type 0
IsTreeUnique =
    (source : List ℕ) (tokens : List Token) (t u : Tree) → IsTree source tokens t →
    IsTree source tokens u → t ≡ u

-- a source that has a tree has no violation of the clauses
abbrev pub TreeExcludesViolation : Type 0
TreeExcludesViolation =
    (source : List ℕ) (tokens : List Token) (t : Tree) (line rule : ℕ) → IsTree source tokens t →
    IsClauseViolation source tokens line rule → ⊥
