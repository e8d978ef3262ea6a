-- Instruction words.
use Rattle.std.specs.Prelude.{ℕ, List, [], ◌∷◌, ◌++◌, codes}
use Rattle.stl_ast.specs.declared.mnemonics.Mnemonic.{Mnemonic}
use Rattle.stl_ast.specs.declared.mnemonics.Mnemonic.TheVariants as mnemonic
use Rattle.stl_lexer.specs.Marks.{mark_text}
use Rattle.stl_lexer.specs.Pieces.{Piece}
use Rattle.stl_lexer.specs.declared.kinds.TokenKind.{TokenKind}
use Rattle.stl_lexer.specs.declared.kinds.TokenKind.TheVariants as kind
use Rattle.stl_lexer.specs.declared.marks.Mark.{Mark}
use Rattle.stl_lexer.specs.declared.marks.Mark.TheVariants as mark_of
use Rattle.stl_print.specs.Pieces.{token_piece}
use Rattle.stl_print.specs.declared.gaps.Gap.{Gap}
use Rattle.stl_print.specs.declared.gaps.Gap.TheVariants as gap

-- how an instruction word is written
pub data Spelling : Type 0 where
  -- as one token, of a kind and with these bytes
  one : TokenKind → List ℕ → Spelling
  -- as two tokens, each of a kind and with its bytes, and nothing between them
  two : TokenKind → List ℕ → TokenKind → List ℕ → Spelling

-- an instruction word that is one word
abbrev pub word_spelling : List ℕ → Spelling
word_spelling text = one kind.Word text

-- an instruction word that is one sign word
abbrev pub sign_word_spelling : List ℕ → Spelling
sign_word_spelling text = one kind.SignWord text

-- an instruction word that is one mark
abbrev pub mark_spelling : Mark → Spelling
mark_spelling m = one kind.Mark (mark_text m)

-- an instruction word that is a word and the `(` of a bracket or of a zone
abbrev pub opening_spelling : List ℕ → Spelling
opening_spelling text = two kind.Word text kind.Mark (mark_text mark_of.OpenParen)

-- the instruction word `)MCR`, which ends a zone of the master control relay
abbrev pub zone_end_spelling : Spelling
zone_end_spelling = two kind.Mark (mark_text mark_of.CloseParen) kind.Word (codes "MCR")

-- the tokens of an instruction word, the first behind a gap
abbrev pub spelling_pieces : Gap → Spelling → List Piece
spelling_pieces g (one k text) = token_piece g k text ∷ []
spelling_pieces g (two k text j behind) =
    token_piece g k text ∷ token_piece gap.Nothing j behind ∷ []

-- the bytes of an instruction word, with nothing between its tokens
abbrev pub spelling_text : Spelling → List ℕ
spelling_text (one k text) = text
spelling_text (two k text j behind) = text ++ behind

-- how each instruction word is written; the empty statement is the mark `;`
unfoldable pub mnemonic_spelling : Mnemonic → Spelling
mnemonic_spelling mnemonic.Empty = mark_spelling mark_of.Semicolon
mnemonic_spelling mnemonic.Nop = word_spelling (codes "NOP")
mnemonic_spelling mnemonic.Bld = word_spelling (codes "BLD")
mnemonic_spelling mnemonic.A = word_spelling (codes "A")
mnemonic_spelling mnemonic.An = word_spelling (codes "AN")
mnemonic_spelling mnemonic.O = word_spelling (codes "O")
mnemonic_spelling mnemonic.On = word_spelling (codes "ON")
mnemonic_spelling mnemonic.X = word_spelling (codes "X")
mnemonic_spelling mnemonic.Xn = word_spelling (codes "XN")
mnemonic_spelling mnemonic.AOpen = opening_spelling (codes "A")
mnemonic_spelling mnemonic.AnOpen = opening_spelling (codes "AN")
mnemonic_spelling mnemonic.OOpen = opening_spelling (codes "O")
mnemonic_spelling mnemonic.OnOpen = opening_spelling (codes "ON")
mnemonic_spelling mnemonic.XOpen = opening_spelling (codes "X")
mnemonic_spelling mnemonic.XnOpen = opening_spelling (codes "XN")
mnemonic_spelling mnemonic.Close = mark_spelling mark_of.CloseParen
mnemonic_spelling mnemonic.Mcra = word_spelling (codes "MCRA")
mnemonic_spelling mnemonic.Mcrd = word_spelling (codes "MCRD")
mnemonic_spelling mnemonic.McrOpen = opening_spelling (codes "MCR")
mnemonic_spelling mnemonic.McrClose = zone_end_spelling
mnemonic_spelling mnemonic.L = word_spelling (codes "L")
mnemonic_spelling mnemonic.T = word_spelling (codes "T")
mnemonic_spelling mnemonic.Assign = mark_spelling mark_of.Equals
mnemonic_spelling mnemonic.S = word_spelling (codes "S")
mnemonic_spelling mnemonic.R = word_spelling (codes "R")
mnemonic_spelling mnemonic.Fp = word_spelling (codes "FP")
mnemonic_spelling mnemonic.Fn = word_spelling (codes "FN")
mnemonic_spelling mnemonic.Set = word_spelling (codes "SET")
mnemonic_spelling mnemonic.Clr = word_spelling (codes "CLR")
mnemonic_spelling mnemonic.Not = word_spelling (codes "NOT")
mnemonic_spelling mnemonic.Save = word_spelling (codes "SAVE")
mnemonic_spelling mnemonic.Lc = word_spelling (codes "LC")
mnemonic_spelling mnemonic.Lar1 = word_spelling (codes "LAR1")
mnemonic_spelling mnemonic.Lar2 = word_spelling (codes "LAR2")
mnemonic_spelling mnemonic.Tar1 = word_spelling (codes "TAR1")
mnemonic_spelling mnemonic.Tar2 = word_spelling (codes "TAR2")
mnemonic_spelling mnemonic.Car = word_spelling (codes "CAR")
mnemonic_spelling mnemonic.AddAr1 = sign_word_spelling (codes "+AR1")
mnemonic_spelling mnemonic.AddAr2 = sign_word_spelling (codes "+AR2")
mnemonic_spelling mnemonic.Tak = word_spelling (codes "TAK")
mnemonic_spelling mnemonic.Push = word_spelling (codes "PUSH")
mnemonic_spelling mnemonic.Pop = word_spelling (codes "POP")
mnemonic_spelling mnemonic.Caw = word_spelling (codes "CAW")
mnemonic_spelling mnemonic.Cad = word_spelling (codes "CAD")
mnemonic_spelling mnemonic.Inc = word_spelling (codes "INC")
mnemonic_spelling mnemonic.Dec = word_spelling (codes "DEC")
mnemonic_spelling mnemonic.Add = mark_spelling mark_of.Plus
mnemonic_spelling mnemonic.AddI = sign_word_spelling (codes "+I")
mnemonic_spelling mnemonic.SubI = sign_word_spelling (codes "-I")
mnemonic_spelling mnemonic.MulI = sign_word_spelling (codes "*I")
mnemonic_spelling mnemonic.DivI = sign_word_spelling (codes "/I")
mnemonic_spelling mnemonic.AddD = sign_word_spelling (codes "+D")
mnemonic_spelling mnemonic.SubD = sign_word_spelling (codes "-D")
mnemonic_spelling mnemonic.MulD = sign_word_spelling (codes "*D")
mnemonic_spelling mnemonic.DivD = sign_word_spelling (codes "/D")
mnemonic_spelling mnemonic.Mod = word_spelling (codes "MOD")
mnemonic_spelling mnemonic.EqI = sign_word_spelling (codes "==I")
mnemonic_spelling mnemonic.NeI = sign_word_spelling (codes "<>I")
mnemonic_spelling mnemonic.GtI = sign_word_spelling (codes ">I")
mnemonic_spelling mnemonic.LtI = sign_word_spelling (codes "<I")
mnemonic_spelling mnemonic.GeI = sign_word_spelling (codes ">=I")
mnemonic_spelling mnemonic.LeI = sign_word_spelling (codes "<=I")
mnemonic_spelling mnemonic.EqD = sign_word_spelling (codes "==D")
mnemonic_spelling mnemonic.NeD = sign_word_spelling (codes "<>D")
mnemonic_spelling mnemonic.GtD = sign_word_spelling (codes ">D")
mnemonic_spelling mnemonic.LtD = sign_word_spelling (codes "<D")
mnemonic_spelling mnemonic.GeD = sign_word_spelling (codes ">=D")
mnemonic_spelling mnemonic.LeD = sign_word_spelling (codes "<=D")
mnemonic_spelling mnemonic.Bti = word_spelling (codes "BTI")
mnemonic_spelling mnemonic.Itb = word_spelling (codes "ITB")
mnemonic_spelling mnemonic.Btd = word_spelling (codes "BTD")
mnemonic_spelling mnemonic.Dtb = word_spelling (codes "DTB")
mnemonic_spelling mnemonic.Itd = word_spelling (codes "ITD")
mnemonic_spelling mnemonic.Invi = word_spelling (codes "INVI")
mnemonic_spelling mnemonic.Invd = word_spelling (codes "INVD")
mnemonic_spelling mnemonic.Negi = word_spelling (codes "NEGI")
mnemonic_spelling mnemonic.Negd = word_spelling (codes "NEGD")
mnemonic_spelling mnemonic.Aw = word_spelling (codes "AW")
mnemonic_spelling mnemonic.Ow = word_spelling (codes "OW")
mnemonic_spelling mnemonic.Xow = word_spelling (codes "XOW")
mnemonic_spelling mnemonic.Ad = word_spelling (codes "AD")
mnemonic_spelling mnemonic.Od = word_spelling (codes "OD")
mnemonic_spelling mnemonic.Xod = word_spelling (codes "XOD")
mnemonic_spelling mnemonic.Ssi = word_spelling (codes "SSI")
mnemonic_spelling mnemonic.Ssd = word_spelling (codes "SSD")
mnemonic_spelling mnemonic.Slw = word_spelling (codes "SLW")
mnemonic_spelling mnemonic.Srw = word_spelling (codes "SRW")
mnemonic_spelling mnemonic.Sld = word_spelling (codes "SLD")
mnemonic_spelling mnemonic.Srd = word_spelling (codes "SRD")
mnemonic_spelling mnemonic.Rld = word_spelling (codes "RLD")
mnemonic_spelling mnemonic.Rrd = word_spelling (codes "RRD")
mnemonic_spelling mnemonic.Rlda = word_spelling (codes "RLDA")
mnemonic_spelling mnemonic.Rrda = word_spelling (codes "RRDA")
mnemonic_spelling mnemonic.Ju = word_spelling (codes "JU")
mnemonic_spelling mnemonic.Jl = word_spelling (codes "JL")
mnemonic_spelling mnemonic.Jc = word_spelling (codes "JC")
mnemonic_spelling mnemonic.Jcn = word_spelling (codes "JCN")
mnemonic_spelling mnemonic.Jcb = word_spelling (codes "JCB")
mnemonic_spelling mnemonic.Jnb = word_spelling (codes "JNB")
mnemonic_spelling mnemonic.Jbi = word_spelling (codes "JBI")
mnemonic_spelling mnemonic.Jnbi = word_spelling (codes "JNBI")
mnemonic_spelling mnemonic.Jo = word_spelling (codes "JO")
mnemonic_spelling mnemonic.Jos = word_spelling (codes "JOS")
mnemonic_spelling mnemonic.Jz = word_spelling (codes "JZ")
mnemonic_spelling mnemonic.Jn = word_spelling (codes "JN")
mnemonic_spelling mnemonic.Jp = word_spelling (codes "JP")
mnemonic_spelling mnemonic.Jm = word_spelling (codes "JM")
mnemonic_spelling mnemonic.Jpz = word_spelling (codes "JPZ")
mnemonic_spelling mnemonic.Jmz = word_spelling (codes "JMZ")
mnemonic_spelling mnemonic.Juo = word_spelling (codes "JUO")
mnemonic_spelling mnemonic.Loop = word_spelling (codes "LOOP")
mnemonic_spelling mnemonic.Sp = word_spelling (codes "SP")
mnemonic_spelling mnemonic.Se = word_spelling (codes "SE")
mnemonic_spelling mnemonic.Sd = word_spelling (codes "SD")
mnemonic_spelling mnemonic.Ss = word_spelling (codes "SS")
mnemonic_spelling mnemonic.Sf = word_spelling (codes "SF")
mnemonic_spelling mnemonic.Fr = word_spelling (codes "FR")
mnemonic_spelling mnemonic.Cu = word_spelling (codes "CU")
mnemonic_spelling mnemonic.Cd = word_spelling (codes "CD")
mnemonic_spelling mnemonic.Call = word_spelling (codes "CALL")
mnemonic_spelling mnemonic.Uc = word_spelling (codes "UC")
mnemonic_spelling mnemonic.Cc = word_spelling (codes "CC")
mnemonic_spelling mnemonic.Be = word_spelling (codes "BE")
mnemonic_spelling mnemonic.Bec = word_spelling (codes "BEC")
mnemonic_spelling mnemonic.Beu = word_spelling (codes "BEU")
mnemonic_spelling mnemonic.Opn = word_spelling (codes "OPN")
mnemonic_spelling mnemonic.Cdb = word_spelling (codes "CDB")
