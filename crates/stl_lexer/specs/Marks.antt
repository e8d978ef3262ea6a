-- The marks.
use Rattle.std.specs.Prelude.{ℕ, List, [], ◌∷◌, map, codes}
use Rattle.stl_lexer.specs.declared.marks.Mark.{Mark}
use Rattle.stl_lexer.specs.declared.marks.Mark.TheVariants as mark

-- how a mark is written
unfoldable pub mark_text : Mark → List ℕ
mark_text mark.Assign = codes ":="
mark_text mark.Colon = codes ":"
mark_text mark.Semicolon = codes ";"
mark_text mark.Comma = codes ","
mark_text mark.Dot = codes "."
mark_text mark.DotDot = codes ".."
mark_text mark.OpenParen = codes "("
mark_text mark.CloseParen = codes ")"
mark_text mark.OpenBracket = codes "["
mark_text mark.CloseBracket = codes "]"
mark_text mark.Equals = codes "="
mark_text mark.Plus = codes "+"
mark_text mark.Minus = codes "-"
mark_text mark.Pointer = codes "P#"
mark_text mark.Bytes = codes "B#("

-- all marks of STL as texts
unfoldable pub marks : List (List ℕ)
marks =
    map mark_text
    (mark.Assign ∷ mark.Colon ∷ mark.Semicolon ∷ mark.Comma ∷ mark.Dot ∷ mark.DotDot
    ∷ mark.OpenParen ∷ mark.CloseParen ∷ mark.OpenBracket ∷ mark.CloseBracket ∷ mark.Equals
    ∷ mark.Plus ∷ mark.Minus ∷ mark.Pointer ∷ mark.Bytes ∷ [])
