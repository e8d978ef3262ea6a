-- Rules 29, 30 and 31: brackets, from A( to XN( and ).
use Rattle.std.specs.Prelude.{ℕ, ◌-◌, ◌&&◌, nat_eq, nat_le, Bool, true, false, is_some, List, [], ◌∷◌, ◌++◌, length, take, Option, Some, None, if◌then◌else◌}
use Rattle.std.specs.List.{flat_map}
use Rattle.plc_base.specs.declared.refusals.Refusal.{Refusal}
use Rattle.stl_ast.specs.declared.blocks.Block.{Block}
use Rattle.stl_ast.specs.declared.mnemonics.Mnemonic.{Mnemonic}
use Rattle.stl_ast.specs.declared.mnemonics.Mnemonic.TheVariants as code
use Rattle.stl_ast.specs.declared.statements.Statement.{Statement}
use Rattle.plc_base.specs.RefusalsAlong.{refusals_along}
use Rattle.plc_base.specs.Least.{broken_if}
use Rattle.stl_types.specs.Bodies.{in_bodies}
use Rattle.stl_types.specs.declared.brackets.SourceBracket.{SourceBracket}

-- the function code of an opening bracket: 0 to 5 for A( AN( O( ON( X( XN(
unfoldable pub bracket_function : Mnemonic → Option ℕ
bracket_function code.AOpen = Some 0
bracket_function code.AnOpen = Some 1
bracket_function code.OOpen = Some 2
bracket_function code.OnOpen = Some 3
bracket_function code.XOpen = Some 4
bracket_function code.XnOpen = Some 5
bracket_function _ = None

-- an instruction that closes a bracket
unfoldable pub is_closing_bracket : Mnemonic → Bool
is_closing_bracket code.Close = true
is_closing_bracket _ = false

-- the brackets that are open behind a statement that opens none, the outermost first. A ) without
-- open bracket leaves none
abbrev pub brackets_after_closing : List SourceBracket → Mnemonic → List SourceBracket
brackets_after_closing brackets m =
    if is_closing_bracket m then take (length brackets - 1) brackets else brackets

-- the brackets that are open behind a statement with this function code, if it opens one: it stands
-- behind those that are open
abbrev pub brackets_after_opening : List SourceBracket → Statement → Option ℕ → List SourceBracket
brackets_after_opening brackets s None = brackets_after_closing brackets s.code
brackets_after_opening brackets s (Some function) =
    brackets ++ record { function = function; line = s.line } ∷ []

-- the brackets that are open behind a statement, by those that are open before it, the outermost
-- first
abbrev pub brackets_behind : List SourceBracket → Statement → List SourceBracket
brackets_behind brackets s = brackets_after_opening brackets s (bracket_function s.code)

-- the brackets that are open behind all statements of a list, by those that are open before it
abbrev pub brackets_behind_all : List SourceBracket → List Statement → List SourceBracket
brackets_behind_all brackets [] = brackets
brackets_behind_all brackets (s ∷ ss) = brackets_behind_all (brackets_behind brackets s) ss

-- the refusals of the statements of a body, by the brackets that are open before each
abbrev pub with_brackets : (List SourceBracket → Statement → List Refusal) → List SourceBracket
    → List Statement → List Refusal
with_brackets broken brackets body =
    refusals_along (λ s. false) broken brackets_behind brackets body

-- a bracket closes where none is open
abbrev pub closes_no_bracket : List SourceBracket → Statement → Bool
closes_no_bracket brackets s = is_closing_bracket s.code && nat_eq (length brackets) 0

-- a bracket opens where seven are open: the nesting stack has seven entries
abbrev pub is_eighth_bracket : List SourceBracket → Statement → Bool
is_eighth_bracket brackets s = is_some (bracket_function s.code) && nat_le 7 (length brackets)

-- rule 29, in all bodies: a ) without open bracket; the line is that of the )
unfoldable pub rule_29 : List Block → List Refusal
rule_29 blocks =
    in_bodies
    (with_brackets (λ brackets s. broken_if (closes_no_bracket brackets s) s.line 29) []) blocks

-- rule 30 in a body: a bracket that is open at the block's end; the line is that of the bracket
abbrev pub brackets_left_open : List Statement → List Refusal
brackets_left_open body = flat_map (λ b. broken_if true b.line 30) (brackets_behind_all [] body)

-- rule 30, in all bodies: a bracket open at the block's end
unfoldable pub rule_30 : List Block → List Refusal
rule_30 blocks = in_bodies brackets_left_open blocks

-- rule 31, in all bodies: the eighth open bracket, and each one inside it
unfoldable pub rule_31 : List Block → List Refusal
rule_31 blocks =
    in_bodies
    (with_brackets (λ brackets s. broken_if (is_eighth_bracket brackets s) s.line 31) []) blocks
