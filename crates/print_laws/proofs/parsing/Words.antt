-- Instruction words that are printed are found again, and begin nothing but a statement.
use Rattle.std.proofs.Common.{◌≡◌, refl, ℕ, Bool, true, false, List, Some, None, take}
use Rattle.std.specs.Prelude.{codes}
use Rattle.std.specs.Str.{str_eq_ignore_ascii_case}
use Rattle.stl_lexer.specs.Marks.{mark_text}
use Rattle.stl_lexer.specs.declared.kinds.TokenKind.{TokenKind}
use Rattle.stl_lexer.specs.declared.kinds.TokenKind.TheVariants as kind
use Rattle.stl_lexer.specs.declared.marks.Mark.TheVariants as mark
use Rattle.stl_ast.specs.declared.mnemonics.Mnemonic.{Mnemonic}
use Rattle.stl_ast.specs.declared.mnemonics.Mnemonic.TheVariants as mnemonic
use Rattle.stl_parser.specs.Addresses.{letter_count}
use Rattle.stl_parser.specs.Tables.{block_kinds, keywords, look_up, mnemonics, simple_types}
use Rattle.stl_parser.specs.declared.tables.OperandSyntax.{OperandSyntax}
use Rattle.stl_parser.specs.declared.tables.OperandSyntax.TheVariants as operand_syntax
use Rattle.stl_print.specs.Mnemonics.{Spelling, one, mnemonic_spelling, two}
use Rattle.print_laws.specs.Reading.{PrintedSyntax, block_call, bracket, call, empty, jump, opens, plain, syntax_of}
use Rattle.print_laws.proofs.parsing.Shown.{mark_is}

-- the kinds of tokens that an instruction begins with
abbrev pub begins : TokenKind → Bool
begins kind.Word = true
begins kind.SignWord = true
begins kind.Mark = true
begins _ = false

-- a token of this kind and text begins no clause by itself, and no type
pub record IsCalm (k : TokenKind) (text : List ℕ) : Type 0 where
  pub begin : begins k ≡ true
  pub no_keyword : look_up keywords text ≡ None
  pub no_semicolon : mark_is k text mark.Semicolon ≡ false
  pub no_array : str_eq_ignore_ascii_case text (codes "ARRAY") ≡ false
  pub no_struct : str_eq_ignore_ascii_case text (codes "STRUCT") ≡ false
  pub no_date : str_eq_ignore_ascii_case text (codes "DATE_AND_TIME") ≡ false
  pub no_simple : look_up simple_types text ≡ None
  pub no_block : look_up block_kinds text ≡ None
  pub no_number : look_up block_kinds (take (letter_count text) text) ≡ None

-- the first token of an instruction word
abbrev pub first_kind : Spelling → TokenKind
first_kind (one k text) = k
first_kind (two k text j behind) = k

abbrev pub first_text : Spelling → List ℕ
first_text (one k text) = text
first_text (two k text j behind) = text

pub calm : (m : Mnemonic) → (syntax_of m ≡ empty → ⊥) → IsCalm (first_kind (mnemonic_spelling m)) (first_text (mnemonic_spelling m))
unfolding mnemonic_spelling look_up keywords simple_types block_kinds mark_text
calm mnemonic.Empty h = absurd (h refl)
calm mnemonic.Nop h = record { begin = refl; no_keyword = refl; no_semicolon = refl; no_array = refl; no_struct = refl; no_date = refl; no_simple = refl; no_block = refl; no_number = refl }
calm mnemonic.Bld h = record { begin = refl; no_keyword = refl; no_semicolon = refl; no_array = refl; no_struct = refl; no_date = refl; no_simple = refl; no_block = refl; no_number = refl }
calm mnemonic.A h = record { begin = refl; no_keyword = refl; no_semicolon = refl; no_array = refl; no_struct = refl; no_date = refl; no_simple = refl; no_block = refl; no_number = refl }
calm mnemonic.An h = record { begin = refl; no_keyword = refl; no_semicolon = refl; no_array = refl; no_struct = refl; no_date = refl; no_simple = refl; no_block = refl; no_number = refl }
calm mnemonic.O h = record { begin = refl; no_keyword = refl; no_semicolon = refl; no_array = refl; no_struct = refl; no_date = refl; no_simple = refl; no_block = refl; no_number = refl }
calm mnemonic.On h = record { begin = refl; no_keyword = refl; no_semicolon = refl; no_array = refl; no_struct = refl; no_date = refl; no_simple = refl; no_block = refl; no_number = refl }
calm mnemonic.X h = record { begin = refl; no_keyword = refl; no_semicolon = refl; no_array = refl; no_struct = refl; no_date = refl; no_simple = refl; no_block = refl; no_number = refl }
calm mnemonic.Xn h = record { begin = refl; no_keyword = refl; no_semicolon = refl; no_array = refl; no_struct = refl; no_date = refl; no_simple = refl; no_block = refl; no_number = refl }
calm mnemonic.AOpen h = record { begin = refl; no_keyword = refl; no_semicolon = refl; no_array = refl; no_struct = refl; no_date = refl; no_simple = refl; no_block = refl; no_number = refl }
calm mnemonic.AnOpen h = record { begin = refl; no_keyword = refl; no_semicolon = refl; no_array = refl; no_struct = refl; no_date = refl; no_simple = refl; no_block = refl; no_number = refl }
calm mnemonic.OOpen h = record { begin = refl; no_keyword = refl; no_semicolon = refl; no_array = refl; no_struct = refl; no_date = refl; no_simple = refl; no_block = refl; no_number = refl }
calm mnemonic.OnOpen h = record { begin = refl; no_keyword = refl; no_semicolon = refl; no_array = refl; no_struct = refl; no_date = refl; no_simple = refl; no_block = refl; no_number = refl }
calm mnemonic.XOpen h = record { begin = refl; no_keyword = refl; no_semicolon = refl; no_array = refl; no_struct = refl; no_date = refl; no_simple = refl; no_block = refl; no_number = refl }
calm mnemonic.XnOpen h = record { begin = refl; no_keyword = refl; no_semicolon = refl; no_array = refl; no_struct = refl; no_date = refl; no_simple = refl; no_block = refl; no_number = refl }
calm mnemonic.Close h = record { begin = refl; no_keyword = refl; no_semicolon = refl; no_array = refl; no_struct = refl; no_date = refl; no_simple = refl; no_block = refl; no_number = refl }
calm mnemonic.Mcra h = record { begin = refl; no_keyword = refl; no_semicolon = refl; no_array = refl; no_struct = refl; no_date = refl; no_simple = refl; no_block = refl; no_number = refl }
calm mnemonic.Mcrd h = record { begin = refl; no_keyword = refl; no_semicolon = refl; no_array = refl; no_struct = refl; no_date = refl; no_simple = refl; no_block = refl; no_number = refl }
calm mnemonic.McrOpen h = record { begin = refl; no_keyword = refl; no_semicolon = refl; no_array = refl; no_struct = refl; no_date = refl; no_simple = refl; no_block = refl; no_number = refl }
calm mnemonic.McrClose h = record { begin = refl; no_keyword = refl; no_semicolon = refl; no_array = refl; no_struct = refl; no_date = refl; no_simple = refl; no_block = refl; no_number = refl }
calm mnemonic.L h = record { begin = refl; no_keyword = refl; no_semicolon = refl; no_array = refl; no_struct = refl; no_date = refl; no_simple = refl; no_block = refl; no_number = refl }
calm mnemonic.T h = record { begin = refl; no_keyword = refl; no_semicolon = refl; no_array = refl; no_struct = refl; no_date = refl; no_simple = refl; no_block = refl; no_number = refl }
calm mnemonic.Assign h = record { begin = refl; no_keyword = refl; no_semicolon = refl; no_array = refl; no_struct = refl; no_date = refl; no_simple = refl; no_block = refl; no_number = refl }
calm mnemonic.S h = record { begin = refl; no_keyword = refl; no_semicolon = refl; no_array = refl; no_struct = refl; no_date = refl; no_simple = refl; no_block = refl; no_number = refl }
calm mnemonic.R h = record { begin = refl; no_keyword = refl; no_semicolon = refl; no_array = refl; no_struct = refl; no_date = refl; no_simple = refl; no_block = refl; no_number = refl }
calm mnemonic.Fp h = record { begin = refl; no_keyword = refl; no_semicolon = refl; no_array = refl; no_struct = refl; no_date = refl; no_simple = refl; no_block = refl; no_number = refl }
calm mnemonic.Fn h = record { begin = refl; no_keyword = refl; no_semicolon = refl; no_array = refl; no_struct = refl; no_date = refl; no_simple = refl; no_block = refl; no_number = refl }
calm mnemonic.Set h = record { begin = refl; no_keyword = refl; no_semicolon = refl; no_array = refl; no_struct = refl; no_date = refl; no_simple = refl; no_block = refl; no_number = refl }
calm mnemonic.Clr h = record { begin = refl; no_keyword = refl; no_semicolon = refl; no_array = refl; no_struct = refl; no_date = refl; no_simple = refl; no_block = refl; no_number = refl }
calm mnemonic.Not h = record { begin = refl; no_keyword = refl; no_semicolon = refl; no_array = refl; no_struct = refl; no_date = refl; no_simple = refl; no_block = refl; no_number = refl }
calm mnemonic.Save h = record { begin = refl; no_keyword = refl; no_semicolon = refl; no_array = refl; no_struct = refl; no_date = refl; no_simple = refl; no_block = refl; no_number = refl }
calm mnemonic.Lc h = record { begin = refl; no_keyword = refl; no_semicolon = refl; no_array = refl; no_struct = refl; no_date = refl; no_simple = refl; no_block = refl; no_number = refl }
calm mnemonic.Lar1 h = record { begin = refl; no_keyword = refl; no_semicolon = refl; no_array = refl; no_struct = refl; no_date = refl; no_simple = refl; no_block = refl; no_number = refl }
calm mnemonic.Lar2 h = record { begin = refl; no_keyword = refl; no_semicolon = refl; no_array = refl; no_struct = refl; no_date = refl; no_simple = refl; no_block = refl; no_number = refl }
calm mnemonic.Tar1 h = record { begin = refl; no_keyword = refl; no_semicolon = refl; no_array = refl; no_struct = refl; no_date = refl; no_simple = refl; no_block = refl; no_number = refl }
calm mnemonic.Tar2 h = record { begin = refl; no_keyword = refl; no_semicolon = refl; no_array = refl; no_struct = refl; no_date = refl; no_simple = refl; no_block = refl; no_number = refl }
calm mnemonic.Car h = record { begin = refl; no_keyword = refl; no_semicolon = refl; no_array = refl; no_struct = refl; no_date = refl; no_simple = refl; no_block = refl; no_number = refl }
calm mnemonic.AddAr1 h = record { begin = refl; no_keyword = refl; no_semicolon = refl; no_array = refl; no_struct = refl; no_date = refl; no_simple = refl; no_block = refl; no_number = refl }
calm mnemonic.AddAr2 h = record { begin = refl; no_keyword = refl; no_semicolon = refl; no_array = refl; no_struct = refl; no_date = refl; no_simple = refl; no_block = refl; no_number = refl }
calm mnemonic.Tak h = record { begin = refl; no_keyword = refl; no_semicolon = refl; no_array = refl; no_struct = refl; no_date = refl; no_simple = refl; no_block = refl; no_number = refl }
calm mnemonic.Push h = record { begin = refl; no_keyword = refl; no_semicolon = refl; no_array = refl; no_struct = refl; no_date = refl; no_simple = refl; no_block = refl; no_number = refl }
calm mnemonic.Pop h = record { begin = refl; no_keyword = refl; no_semicolon = refl; no_array = refl; no_struct = refl; no_date = refl; no_simple = refl; no_block = refl; no_number = refl }
calm mnemonic.Caw h = record { begin = refl; no_keyword = refl; no_semicolon = refl; no_array = refl; no_struct = refl; no_date = refl; no_simple = refl; no_block = refl; no_number = refl }
calm mnemonic.Cad h = record { begin = refl; no_keyword = refl; no_semicolon = refl; no_array = refl; no_struct = refl; no_date = refl; no_simple = refl; no_block = refl; no_number = refl }
calm mnemonic.Inc h = record { begin = refl; no_keyword = refl; no_semicolon = refl; no_array = refl; no_struct = refl; no_date = refl; no_simple = refl; no_block = refl; no_number = refl }
calm mnemonic.Dec h = record { begin = refl; no_keyword = refl; no_semicolon = refl; no_array = refl; no_struct = refl; no_date = refl; no_simple = refl; no_block = refl; no_number = refl }
calm mnemonic.Add h = record { begin = refl; no_keyword = refl; no_semicolon = refl; no_array = refl; no_struct = refl; no_date = refl; no_simple = refl; no_block = refl; no_number = refl }
calm mnemonic.AddI h = record { begin = refl; no_keyword = refl; no_semicolon = refl; no_array = refl; no_struct = refl; no_date = refl; no_simple = refl; no_block = refl; no_number = refl }
calm mnemonic.SubI h = record { begin = refl; no_keyword = refl; no_semicolon = refl; no_array = refl; no_struct = refl; no_date = refl; no_simple = refl; no_block = refl; no_number = refl }
calm mnemonic.MulI h = record { begin = refl; no_keyword = refl; no_semicolon = refl; no_array = refl; no_struct = refl; no_date = refl; no_simple = refl; no_block = refl; no_number = refl }
calm mnemonic.DivI h = record { begin = refl; no_keyword = refl; no_semicolon = refl; no_array = refl; no_struct = refl; no_date = refl; no_simple = refl; no_block = refl; no_number = refl }
calm mnemonic.AddD h = record { begin = refl; no_keyword = refl; no_semicolon = refl; no_array = refl; no_struct = refl; no_date = refl; no_simple = refl; no_block = refl; no_number = refl }
calm mnemonic.SubD h = record { begin = refl; no_keyword = refl; no_semicolon = refl; no_array = refl; no_struct = refl; no_date = refl; no_simple = refl; no_block = refl; no_number = refl }
calm mnemonic.MulD h = record { begin = refl; no_keyword = refl; no_semicolon = refl; no_array = refl; no_struct = refl; no_date = refl; no_simple = refl; no_block = refl; no_number = refl }
calm mnemonic.DivD h = record { begin = refl; no_keyword = refl; no_semicolon = refl; no_array = refl; no_struct = refl; no_date = refl; no_simple = refl; no_block = refl; no_number = refl }
calm mnemonic.Mod h = record { begin = refl; no_keyword = refl; no_semicolon = refl; no_array = refl; no_struct = refl; no_date = refl; no_simple = refl; no_block = refl; no_number = refl }
calm mnemonic.EqI h = record { begin = refl; no_keyword = refl; no_semicolon = refl; no_array = refl; no_struct = refl; no_date = refl; no_simple = refl; no_block = refl; no_number = refl }
calm mnemonic.NeI h = record { begin = refl; no_keyword = refl; no_semicolon = refl; no_array = refl; no_struct = refl; no_date = refl; no_simple = refl; no_block = refl; no_number = refl }
calm mnemonic.GtI h = record { begin = refl; no_keyword = refl; no_semicolon = refl; no_array = refl; no_struct = refl; no_date = refl; no_simple = refl; no_block = refl; no_number = refl }
calm mnemonic.LtI h = record { begin = refl; no_keyword = refl; no_semicolon = refl; no_array = refl; no_struct = refl; no_date = refl; no_simple = refl; no_block = refl; no_number = refl }
calm mnemonic.GeI h = record { begin = refl; no_keyword = refl; no_semicolon = refl; no_array = refl; no_struct = refl; no_date = refl; no_simple = refl; no_block = refl; no_number = refl }
calm mnemonic.LeI h = record { begin = refl; no_keyword = refl; no_semicolon = refl; no_array = refl; no_struct = refl; no_date = refl; no_simple = refl; no_block = refl; no_number = refl }
calm mnemonic.EqD h = record { begin = refl; no_keyword = refl; no_semicolon = refl; no_array = refl; no_struct = refl; no_date = refl; no_simple = refl; no_block = refl; no_number = refl }
calm mnemonic.NeD h = record { begin = refl; no_keyword = refl; no_semicolon = refl; no_array = refl; no_struct = refl; no_date = refl; no_simple = refl; no_block = refl; no_number = refl }
calm mnemonic.GtD h = record { begin = refl; no_keyword = refl; no_semicolon = refl; no_array = refl; no_struct = refl; no_date = refl; no_simple = refl; no_block = refl; no_number = refl }
calm mnemonic.LtD h = record { begin = refl; no_keyword = refl; no_semicolon = refl; no_array = refl; no_struct = refl; no_date = refl; no_simple = refl; no_block = refl; no_number = refl }
calm mnemonic.GeD h = record { begin = refl; no_keyword = refl; no_semicolon = refl; no_array = refl; no_struct = refl; no_date = refl; no_simple = refl; no_block = refl; no_number = refl }
calm mnemonic.LeD h = record { begin = refl; no_keyword = refl; no_semicolon = refl; no_array = refl; no_struct = refl; no_date = refl; no_simple = refl; no_block = refl; no_number = refl }
calm mnemonic.Bti h = record { begin = refl; no_keyword = refl; no_semicolon = refl; no_array = refl; no_struct = refl; no_date = refl; no_simple = refl; no_block = refl; no_number = refl }
calm mnemonic.Itb h = record { begin = refl; no_keyword = refl; no_semicolon = refl; no_array = refl; no_struct = refl; no_date = refl; no_simple = refl; no_block = refl; no_number = refl }
calm mnemonic.Btd h = record { begin = refl; no_keyword = refl; no_semicolon = refl; no_array = refl; no_struct = refl; no_date = refl; no_simple = refl; no_block = refl; no_number = refl }
calm mnemonic.Dtb h = record { begin = refl; no_keyword = refl; no_semicolon = refl; no_array = refl; no_struct = refl; no_date = refl; no_simple = refl; no_block = refl; no_number = refl }
calm mnemonic.Itd h = record { begin = refl; no_keyword = refl; no_semicolon = refl; no_array = refl; no_struct = refl; no_date = refl; no_simple = refl; no_block = refl; no_number = refl }
calm mnemonic.Invi h = record { begin = refl; no_keyword = refl; no_semicolon = refl; no_array = refl; no_struct = refl; no_date = refl; no_simple = refl; no_block = refl; no_number = refl }
calm mnemonic.Invd h = record { begin = refl; no_keyword = refl; no_semicolon = refl; no_array = refl; no_struct = refl; no_date = refl; no_simple = refl; no_block = refl; no_number = refl }
calm mnemonic.Negi h = record { begin = refl; no_keyword = refl; no_semicolon = refl; no_array = refl; no_struct = refl; no_date = refl; no_simple = refl; no_block = refl; no_number = refl }
calm mnemonic.Negd h = record { begin = refl; no_keyword = refl; no_semicolon = refl; no_array = refl; no_struct = refl; no_date = refl; no_simple = refl; no_block = refl; no_number = refl }
calm mnemonic.Aw h = record { begin = refl; no_keyword = refl; no_semicolon = refl; no_array = refl; no_struct = refl; no_date = refl; no_simple = refl; no_block = refl; no_number = refl }
calm mnemonic.Ow h = record { begin = refl; no_keyword = refl; no_semicolon = refl; no_array = refl; no_struct = refl; no_date = refl; no_simple = refl; no_block = refl; no_number = refl }
calm mnemonic.Xow h = record { begin = refl; no_keyword = refl; no_semicolon = refl; no_array = refl; no_struct = refl; no_date = refl; no_simple = refl; no_block = refl; no_number = refl }
calm mnemonic.Ad h = record { begin = refl; no_keyword = refl; no_semicolon = refl; no_array = refl; no_struct = refl; no_date = refl; no_simple = refl; no_block = refl; no_number = refl }
calm mnemonic.Od h = record { begin = refl; no_keyword = refl; no_semicolon = refl; no_array = refl; no_struct = refl; no_date = refl; no_simple = refl; no_block = refl; no_number = refl }
calm mnemonic.Xod h = record { begin = refl; no_keyword = refl; no_semicolon = refl; no_array = refl; no_struct = refl; no_date = refl; no_simple = refl; no_block = refl; no_number = refl }
calm mnemonic.Ssi h = record { begin = refl; no_keyword = refl; no_semicolon = refl; no_array = refl; no_struct = refl; no_date = refl; no_simple = refl; no_block = refl; no_number = refl }
calm mnemonic.Ssd h = record { begin = refl; no_keyword = refl; no_semicolon = refl; no_array = refl; no_struct = refl; no_date = refl; no_simple = refl; no_block = refl; no_number = refl }
calm mnemonic.Slw h = record { begin = refl; no_keyword = refl; no_semicolon = refl; no_array = refl; no_struct = refl; no_date = refl; no_simple = refl; no_block = refl; no_number = refl }
calm mnemonic.Srw h = record { begin = refl; no_keyword = refl; no_semicolon = refl; no_array = refl; no_struct = refl; no_date = refl; no_simple = refl; no_block = refl; no_number = refl }
calm mnemonic.Sld h = record { begin = refl; no_keyword = refl; no_semicolon = refl; no_array = refl; no_struct = refl; no_date = refl; no_simple = refl; no_block = refl; no_number = refl }
calm mnemonic.Srd h = record { begin = refl; no_keyword = refl; no_semicolon = refl; no_array = refl; no_struct = refl; no_date = refl; no_simple = refl; no_block = refl; no_number = refl }
calm mnemonic.Rld h = record { begin = refl; no_keyword = refl; no_semicolon = refl; no_array = refl; no_struct = refl; no_date = refl; no_simple = refl; no_block = refl; no_number = refl }
calm mnemonic.Rrd h = record { begin = refl; no_keyword = refl; no_semicolon = refl; no_array = refl; no_struct = refl; no_date = refl; no_simple = refl; no_block = refl; no_number = refl }
calm mnemonic.Rlda h = record { begin = refl; no_keyword = refl; no_semicolon = refl; no_array = refl; no_struct = refl; no_date = refl; no_simple = refl; no_block = refl; no_number = refl }
calm mnemonic.Rrda h = record { begin = refl; no_keyword = refl; no_semicolon = refl; no_array = refl; no_struct = refl; no_date = refl; no_simple = refl; no_block = refl; no_number = refl }
calm mnemonic.Ju h = record { begin = refl; no_keyword = refl; no_semicolon = refl; no_array = refl; no_struct = refl; no_date = refl; no_simple = refl; no_block = refl; no_number = refl }
calm mnemonic.Jl h = record { begin = refl; no_keyword = refl; no_semicolon = refl; no_array = refl; no_struct = refl; no_date = refl; no_simple = refl; no_block = refl; no_number = refl }
calm mnemonic.Jc h = record { begin = refl; no_keyword = refl; no_semicolon = refl; no_array = refl; no_struct = refl; no_date = refl; no_simple = refl; no_block = refl; no_number = refl }
calm mnemonic.Jcn h = record { begin = refl; no_keyword = refl; no_semicolon = refl; no_array = refl; no_struct = refl; no_date = refl; no_simple = refl; no_block = refl; no_number = refl }
calm mnemonic.Jcb h = record { begin = refl; no_keyword = refl; no_semicolon = refl; no_array = refl; no_struct = refl; no_date = refl; no_simple = refl; no_block = refl; no_number = refl }
calm mnemonic.Jnb h = record { begin = refl; no_keyword = refl; no_semicolon = refl; no_array = refl; no_struct = refl; no_date = refl; no_simple = refl; no_block = refl; no_number = refl }
calm mnemonic.Jbi h = record { begin = refl; no_keyword = refl; no_semicolon = refl; no_array = refl; no_struct = refl; no_date = refl; no_simple = refl; no_block = refl; no_number = refl }
calm mnemonic.Jnbi h = record { begin = refl; no_keyword = refl; no_semicolon = refl; no_array = refl; no_struct = refl; no_date = refl; no_simple = refl; no_block = refl; no_number = refl }
calm mnemonic.Jo h = record { begin = refl; no_keyword = refl; no_semicolon = refl; no_array = refl; no_struct = refl; no_date = refl; no_simple = refl; no_block = refl; no_number = refl }
calm mnemonic.Jos h = record { begin = refl; no_keyword = refl; no_semicolon = refl; no_array = refl; no_struct = refl; no_date = refl; no_simple = refl; no_block = refl; no_number = refl }
calm mnemonic.Jz h = record { begin = refl; no_keyword = refl; no_semicolon = refl; no_array = refl; no_struct = refl; no_date = refl; no_simple = refl; no_block = refl; no_number = refl }
calm mnemonic.Jn h = record { begin = refl; no_keyword = refl; no_semicolon = refl; no_array = refl; no_struct = refl; no_date = refl; no_simple = refl; no_block = refl; no_number = refl }
calm mnemonic.Jp h = record { begin = refl; no_keyword = refl; no_semicolon = refl; no_array = refl; no_struct = refl; no_date = refl; no_simple = refl; no_block = refl; no_number = refl }
calm mnemonic.Jm h = record { begin = refl; no_keyword = refl; no_semicolon = refl; no_array = refl; no_struct = refl; no_date = refl; no_simple = refl; no_block = refl; no_number = refl }
calm mnemonic.Jpz h = record { begin = refl; no_keyword = refl; no_semicolon = refl; no_array = refl; no_struct = refl; no_date = refl; no_simple = refl; no_block = refl; no_number = refl }
calm mnemonic.Jmz h = record { begin = refl; no_keyword = refl; no_semicolon = refl; no_array = refl; no_struct = refl; no_date = refl; no_simple = refl; no_block = refl; no_number = refl }
calm mnemonic.Juo h = record { begin = refl; no_keyword = refl; no_semicolon = refl; no_array = refl; no_struct = refl; no_date = refl; no_simple = refl; no_block = refl; no_number = refl }
calm mnemonic.Loop h = record { begin = refl; no_keyword = refl; no_semicolon = refl; no_array = refl; no_struct = refl; no_date = refl; no_simple = refl; no_block = refl; no_number = refl }
calm mnemonic.Sp h = record { begin = refl; no_keyword = refl; no_semicolon = refl; no_array = refl; no_struct = refl; no_date = refl; no_simple = refl; no_block = refl; no_number = refl }
calm mnemonic.Se h = record { begin = refl; no_keyword = refl; no_semicolon = refl; no_array = refl; no_struct = refl; no_date = refl; no_simple = refl; no_block = refl; no_number = refl }
calm mnemonic.Sd h = record { begin = refl; no_keyword = refl; no_semicolon = refl; no_array = refl; no_struct = refl; no_date = refl; no_simple = refl; no_block = refl; no_number = refl }
calm mnemonic.Ss h = record { begin = refl; no_keyword = refl; no_semicolon = refl; no_array = refl; no_struct = refl; no_date = refl; no_simple = refl; no_block = refl; no_number = refl }
calm mnemonic.Sf h = record { begin = refl; no_keyword = refl; no_semicolon = refl; no_array = refl; no_struct = refl; no_date = refl; no_simple = refl; no_block = refl; no_number = refl }
calm mnemonic.Fr h = record { begin = refl; no_keyword = refl; no_semicolon = refl; no_array = refl; no_struct = refl; no_date = refl; no_simple = refl; no_block = refl; no_number = refl }
calm mnemonic.Cu h = record { begin = refl; no_keyword = refl; no_semicolon = refl; no_array = refl; no_struct = refl; no_date = refl; no_simple = refl; no_block = refl; no_number = refl }
calm mnemonic.Cd h = record { begin = refl; no_keyword = refl; no_semicolon = refl; no_array = refl; no_struct = refl; no_date = refl; no_simple = refl; no_block = refl; no_number = refl }
calm mnemonic.Call h = record { begin = refl; no_keyword = refl; no_semicolon = refl; no_array = refl; no_struct = refl; no_date = refl; no_simple = refl; no_block = refl; no_number = refl }
calm mnemonic.Uc h = record { begin = refl; no_keyword = refl; no_semicolon = refl; no_array = refl; no_struct = refl; no_date = refl; no_simple = refl; no_block = refl; no_number = refl }
calm mnemonic.Cc h = record { begin = refl; no_keyword = refl; no_semicolon = refl; no_array = refl; no_struct = refl; no_date = refl; no_simple = refl; no_block = refl; no_number = refl }
calm mnemonic.Be h = record { begin = refl; no_keyword = refl; no_semicolon = refl; no_array = refl; no_struct = refl; no_date = refl; no_simple = refl; no_block = refl; no_number = refl }
calm mnemonic.Bec h = record { begin = refl; no_keyword = refl; no_semicolon = refl; no_array = refl; no_struct = refl; no_date = refl; no_simple = refl; no_block = refl; no_number = refl }
calm mnemonic.Beu h = record { begin = refl; no_keyword = refl; no_semicolon = refl; no_array = refl; no_struct = refl; no_date = refl; no_simple = refl; no_block = refl; no_number = refl }
calm mnemonic.Opn h = record { begin = refl; no_keyword = refl; no_semicolon = refl; no_array = refl; no_struct = refl; no_date = refl; no_simple = refl; no_block = refl; no_number = refl }
calm mnemonic.Cdb h = record { begin = refl; no_keyword = refl; no_semicolon = refl; no_array = refl; no_struct = refl; no_date = refl; no_simple = refl; no_block = refl; no_number = refl }

-- what stands behind an instruction word that is one token, as the parser has it
abbrev pub form_of : PrintedSyntax → OperandSyntax
form_of plain = operand_syntax.Operand
form_of bracket = operand_syntax.Operand
form_of jump = operand_syntax.Jump
form_of opens = operand_syntax.Open
form_of block_call = operand_syntax.BlockCall
form_of call = operand_syntax.Call
form_of empty = operand_syntax.Operand

-- an instruction word that is one token and no bracket
pub record IsSingle (m : Mnemonic) : Type 0 where
  pub kind : TokenKind
  pub text : List ℕ
  pub spelled : mnemonic_spelling m ≡ one kind text
  pub found : look_up mnemonics text ≡ Some (m, form_of (syntax_of m))
  pub no_close : mark_is kind text mark.CloseParen ≡ false

pub single : (m : Mnemonic) → (syntax_of m ≡ empty → ⊥) → (syntax_of m ≡ bracket → ⊥) → IsSingle m
unfolding mnemonic_spelling look_up mnemonics mark_text
single mnemonic.Empty h k = absurd (h refl)
single mnemonic.Nop h k = record { kind = kind.Word; text = codes "NOP"; spelled = refl; found = refl; no_close = refl }
single mnemonic.Bld h k = record { kind = kind.Word; text = codes "BLD"; spelled = refl; found = refl; no_close = refl }
single mnemonic.A h k = record { kind = kind.Word; text = codes "A"; spelled = refl; found = refl; no_close = refl }
single mnemonic.An h k = record { kind = kind.Word; text = codes "AN"; spelled = refl; found = refl; no_close = refl }
single mnemonic.O h k = record { kind = kind.Word; text = codes "O"; spelled = refl; found = refl; no_close = refl }
single mnemonic.On h k = record { kind = kind.Word; text = codes "ON"; spelled = refl; found = refl; no_close = refl }
single mnemonic.X h k = record { kind = kind.Word; text = codes "X"; spelled = refl; found = refl; no_close = refl }
single mnemonic.Xn h k = record { kind = kind.Word; text = codes "XN"; spelled = refl; found = refl; no_close = refl }
single mnemonic.AOpen h k = absurd (k refl)
single mnemonic.AnOpen h k = absurd (k refl)
single mnemonic.OOpen h k = absurd (k refl)
single mnemonic.OnOpen h k = absurd (k refl)
single mnemonic.XOpen h k = absurd (k refl)
single mnemonic.XnOpen h k = absurd (k refl)
single mnemonic.Close h k = absurd (k refl)
single mnemonic.Mcra h k = record { kind = kind.Word; text = codes "MCRA"; spelled = refl; found = refl; no_close = refl }
single mnemonic.Mcrd h k = record { kind = kind.Word; text = codes "MCRD"; spelled = refl; found = refl; no_close = refl }
single mnemonic.McrOpen h k = absurd (k refl)
single mnemonic.McrClose h k = absurd (k refl)
single mnemonic.L h k = record { kind = kind.Word; text = codes "L"; spelled = refl; found = refl; no_close = refl }
single mnemonic.T h k = record { kind = kind.Word; text = codes "T"; spelled = refl; found = refl; no_close = refl }
single mnemonic.Assign h k = record { kind = kind.Mark; text = mark_text mark.Equals; spelled = refl; found = refl; no_close = refl }
single mnemonic.S h k = record { kind = kind.Word; text = codes "S"; spelled = refl; found = refl; no_close = refl }
single mnemonic.R h k = record { kind = kind.Word; text = codes "R"; spelled = refl; found = refl; no_close = refl }
single mnemonic.Fp h k = record { kind = kind.Word; text = codes "FP"; spelled = refl; found = refl; no_close = refl }
single mnemonic.Fn h k = record { kind = kind.Word; text = codes "FN"; spelled = refl; found = refl; no_close = refl }
single mnemonic.Set h k = record { kind = kind.Word; text = codes "SET"; spelled = refl; found = refl; no_close = refl }
single mnemonic.Clr h k = record { kind = kind.Word; text = codes "CLR"; spelled = refl; found = refl; no_close = refl }
single mnemonic.Not h k = record { kind = kind.Word; text = codes "NOT"; spelled = refl; found = refl; no_close = refl }
single mnemonic.Save h k = record { kind = kind.Word; text = codes "SAVE"; spelled = refl; found = refl; no_close = refl }
single mnemonic.Lc h k = record { kind = kind.Word; text = codes "LC"; spelled = refl; found = refl; no_close = refl }
single mnemonic.Lar1 h k = record { kind = kind.Word; text = codes "LAR1"; spelled = refl; found = refl; no_close = refl }
single mnemonic.Lar2 h k = record { kind = kind.Word; text = codes "LAR2"; spelled = refl; found = refl; no_close = refl }
single mnemonic.Tar1 h k = record { kind = kind.Word; text = codes "TAR1"; spelled = refl; found = refl; no_close = refl }
single mnemonic.Tar2 h k = record { kind = kind.Word; text = codes "TAR2"; spelled = refl; found = refl; no_close = refl }
single mnemonic.Car h k = record { kind = kind.Word; text = codes "CAR"; spelled = refl; found = refl; no_close = refl }
single mnemonic.AddAr1 h k = record { kind = kind.SignWord; text = codes "+AR1"; spelled = refl; found = refl; no_close = refl }
single mnemonic.AddAr2 h k = record { kind = kind.SignWord; text = codes "+AR2"; spelled = refl; found = refl; no_close = refl }
single mnemonic.Tak h k = record { kind = kind.Word; text = codes "TAK"; spelled = refl; found = refl; no_close = refl }
single mnemonic.Push h k = record { kind = kind.Word; text = codes "PUSH"; spelled = refl; found = refl; no_close = refl }
single mnemonic.Pop h k = record { kind = kind.Word; text = codes "POP"; spelled = refl; found = refl; no_close = refl }
single mnemonic.Caw h k = record { kind = kind.Word; text = codes "CAW"; spelled = refl; found = refl; no_close = refl }
single mnemonic.Cad h k = record { kind = kind.Word; text = codes "CAD"; spelled = refl; found = refl; no_close = refl }
single mnemonic.Inc h k = record { kind = kind.Word; text = codes "INC"; spelled = refl; found = refl; no_close = refl }
single mnemonic.Dec h k = record { kind = kind.Word; text = codes "DEC"; spelled = refl; found = refl; no_close = refl }
single mnemonic.Add h k = record { kind = kind.Mark; text = mark_text mark.Plus; spelled = refl; found = refl; no_close = refl }
single mnemonic.AddI h k = record { kind = kind.SignWord; text = codes "+I"; spelled = refl; found = refl; no_close = refl }
single mnemonic.SubI h k = record { kind = kind.SignWord; text = codes "-I"; spelled = refl; found = refl; no_close = refl }
single mnemonic.MulI h k = record { kind = kind.SignWord; text = codes "*I"; spelled = refl; found = refl; no_close = refl }
single mnemonic.DivI h k = record { kind = kind.SignWord; text = codes "/I"; spelled = refl; found = refl; no_close = refl }
single mnemonic.AddD h k = record { kind = kind.SignWord; text = codes "+D"; spelled = refl; found = refl; no_close = refl }
single mnemonic.SubD h k = record { kind = kind.SignWord; text = codes "-D"; spelled = refl; found = refl; no_close = refl }
single mnemonic.MulD h k = record { kind = kind.SignWord; text = codes "*D"; spelled = refl; found = refl; no_close = refl }
single mnemonic.DivD h k = record { kind = kind.SignWord; text = codes "/D"; spelled = refl; found = refl; no_close = refl }
single mnemonic.Mod h k = record { kind = kind.Word; text = codes "MOD"; spelled = refl; found = refl; no_close = refl }
single mnemonic.EqI h k = record { kind = kind.SignWord; text = codes "==I"; spelled = refl; found = refl; no_close = refl }
single mnemonic.NeI h k = record { kind = kind.SignWord; text = codes "<>I"; spelled = refl; found = refl; no_close = refl }
single mnemonic.GtI h k = record { kind = kind.SignWord; text = codes ">I"; spelled = refl; found = refl; no_close = refl }
single mnemonic.LtI h k = record { kind = kind.SignWord; text = codes "<I"; spelled = refl; found = refl; no_close = refl }
single mnemonic.GeI h k = record { kind = kind.SignWord; text = codes ">=I"; spelled = refl; found = refl; no_close = refl }
single mnemonic.LeI h k = record { kind = kind.SignWord; text = codes "<=I"; spelled = refl; found = refl; no_close = refl }
single mnemonic.EqD h k = record { kind = kind.SignWord; text = codes "==D"; spelled = refl; found = refl; no_close = refl }
single mnemonic.NeD h k = record { kind = kind.SignWord; text = codes "<>D"; spelled = refl; found = refl; no_close = refl }
single mnemonic.GtD h k = record { kind = kind.SignWord; text = codes ">D"; spelled = refl; found = refl; no_close = refl }
single mnemonic.LtD h k = record { kind = kind.SignWord; text = codes "<D"; spelled = refl; found = refl; no_close = refl }
single mnemonic.GeD h k = record { kind = kind.SignWord; text = codes ">=D"; spelled = refl; found = refl; no_close = refl }
single mnemonic.LeD h k = record { kind = kind.SignWord; text = codes "<=D"; spelled = refl; found = refl; no_close = refl }
single mnemonic.Bti h k = record { kind = kind.Word; text = codes "BTI"; spelled = refl; found = refl; no_close = refl }
single mnemonic.Itb h k = record { kind = kind.Word; text = codes "ITB"; spelled = refl; found = refl; no_close = refl }
single mnemonic.Btd h k = record { kind = kind.Word; text = codes "BTD"; spelled = refl; found = refl; no_close = refl }
single mnemonic.Dtb h k = record { kind = kind.Word; text = codes "DTB"; spelled = refl; found = refl; no_close = refl }
single mnemonic.Itd h k = record { kind = kind.Word; text = codes "ITD"; spelled = refl; found = refl; no_close = refl }
single mnemonic.Invi h k = record { kind = kind.Word; text = codes "INVI"; spelled = refl; found = refl; no_close = refl }
single mnemonic.Invd h k = record { kind = kind.Word; text = codes "INVD"; spelled = refl; found = refl; no_close = refl }
single mnemonic.Negi h k = record { kind = kind.Word; text = codes "NEGI"; spelled = refl; found = refl; no_close = refl }
single mnemonic.Negd h k = record { kind = kind.Word; text = codes "NEGD"; spelled = refl; found = refl; no_close = refl }
single mnemonic.Aw h k = record { kind = kind.Word; text = codes "AW"; spelled = refl; found = refl; no_close = refl }
single mnemonic.Ow h k = record { kind = kind.Word; text = codes "OW"; spelled = refl; found = refl; no_close = refl }
single mnemonic.Xow h k = record { kind = kind.Word; text = codes "XOW"; spelled = refl; found = refl; no_close = refl }
single mnemonic.Ad h k = record { kind = kind.Word; text = codes "AD"; spelled = refl; found = refl; no_close = refl }
single mnemonic.Od h k = record { kind = kind.Word; text = codes "OD"; spelled = refl; found = refl; no_close = refl }
single mnemonic.Xod h k = record { kind = kind.Word; text = codes "XOD"; spelled = refl; found = refl; no_close = refl }
single mnemonic.Ssi h k = record { kind = kind.Word; text = codes "SSI"; spelled = refl; found = refl; no_close = refl }
single mnemonic.Ssd h k = record { kind = kind.Word; text = codes "SSD"; spelled = refl; found = refl; no_close = refl }
single mnemonic.Slw h k = record { kind = kind.Word; text = codes "SLW"; spelled = refl; found = refl; no_close = refl }
single mnemonic.Srw h k = record { kind = kind.Word; text = codes "SRW"; spelled = refl; found = refl; no_close = refl }
single mnemonic.Sld h k = record { kind = kind.Word; text = codes "SLD"; spelled = refl; found = refl; no_close = refl }
single mnemonic.Srd h k = record { kind = kind.Word; text = codes "SRD"; spelled = refl; found = refl; no_close = refl }
single mnemonic.Rld h k = record { kind = kind.Word; text = codes "RLD"; spelled = refl; found = refl; no_close = refl }
single mnemonic.Rrd h k = record { kind = kind.Word; text = codes "RRD"; spelled = refl; found = refl; no_close = refl }
single mnemonic.Rlda h k = record { kind = kind.Word; text = codes "RLDA"; spelled = refl; found = refl; no_close = refl }
single mnemonic.Rrda h k = record { kind = kind.Word; text = codes "RRDA"; spelled = refl; found = refl; no_close = refl }
single mnemonic.Ju h k = record { kind = kind.Word; text = codes "JU"; spelled = refl; found = refl; no_close = refl }
single mnemonic.Jl h k = record { kind = kind.Word; text = codes "JL"; spelled = refl; found = refl; no_close = refl }
single mnemonic.Jc h k = record { kind = kind.Word; text = codes "JC"; spelled = refl; found = refl; no_close = refl }
single mnemonic.Jcn h k = record { kind = kind.Word; text = codes "JCN"; spelled = refl; found = refl; no_close = refl }
single mnemonic.Jcb h k = record { kind = kind.Word; text = codes "JCB"; spelled = refl; found = refl; no_close = refl }
single mnemonic.Jnb h k = record { kind = kind.Word; text = codes "JNB"; spelled = refl; found = refl; no_close = refl }
single mnemonic.Jbi h k = record { kind = kind.Word; text = codes "JBI"; spelled = refl; found = refl; no_close = refl }
single mnemonic.Jnbi h k = record { kind = kind.Word; text = codes "JNBI"; spelled = refl; found = refl; no_close = refl }
single mnemonic.Jo h k = record { kind = kind.Word; text = codes "JO"; spelled = refl; found = refl; no_close = refl }
single mnemonic.Jos h k = record { kind = kind.Word; text = codes "JOS"; spelled = refl; found = refl; no_close = refl }
single mnemonic.Jz h k = record { kind = kind.Word; text = codes "JZ"; spelled = refl; found = refl; no_close = refl }
single mnemonic.Jn h k = record { kind = kind.Word; text = codes "JN"; spelled = refl; found = refl; no_close = refl }
single mnemonic.Jp h k = record { kind = kind.Word; text = codes "JP"; spelled = refl; found = refl; no_close = refl }
single mnemonic.Jm h k = record { kind = kind.Word; text = codes "JM"; spelled = refl; found = refl; no_close = refl }
single mnemonic.Jpz h k = record { kind = kind.Word; text = codes "JPZ"; spelled = refl; found = refl; no_close = refl }
single mnemonic.Jmz h k = record { kind = kind.Word; text = codes "JMZ"; spelled = refl; found = refl; no_close = refl }
single mnemonic.Juo h k = record { kind = kind.Word; text = codes "JUO"; spelled = refl; found = refl; no_close = refl }
single mnemonic.Loop h k = record { kind = kind.Word; text = codes "LOOP"; spelled = refl; found = refl; no_close = refl }
single mnemonic.Sp h k = record { kind = kind.Word; text = codes "SP"; spelled = refl; found = refl; no_close = refl }
single mnemonic.Se h k = record { kind = kind.Word; text = codes "SE"; spelled = refl; found = refl; no_close = refl }
single mnemonic.Sd h k = record { kind = kind.Word; text = codes "SD"; spelled = refl; found = refl; no_close = refl }
single mnemonic.Ss h k = record { kind = kind.Word; text = codes "SS"; spelled = refl; found = refl; no_close = refl }
single mnemonic.Sf h k = record { kind = kind.Word; text = codes "SF"; spelled = refl; found = refl; no_close = refl }
single mnemonic.Fr h k = record { kind = kind.Word; text = codes "FR"; spelled = refl; found = refl; no_close = refl }
single mnemonic.Cu h k = record { kind = kind.Word; text = codes "CU"; spelled = refl; found = refl; no_close = refl }
single mnemonic.Cd h k = record { kind = kind.Word; text = codes "CD"; spelled = refl; found = refl; no_close = refl }
single mnemonic.Call h k = record { kind = kind.Word; text = codes "CALL"; spelled = refl; found = refl; no_close = refl }
single mnemonic.Uc h k = record { kind = kind.Word; text = codes "UC"; spelled = refl; found = refl; no_close = refl }
single mnemonic.Cc h k = record { kind = kind.Word; text = codes "CC"; spelled = refl; found = refl; no_close = refl }
single mnemonic.Be h k = record { kind = kind.Word; text = codes "BE"; spelled = refl; found = refl; no_close = refl }
single mnemonic.Bec h k = record { kind = kind.Word; text = codes "BEC"; spelled = refl; found = refl; no_close = refl }
single mnemonic.Beu h k = record { kind = kind.Word; text = codes "BEU"; spelled = refl; found = refl; no_close = refl }
single mnemonic.Opn h k = record { kind = kind.Word; text = codes "OPN"; spelled = refl; found = refl; no_close = refl }
single mnemonic.Cdb h k = record { kind = kind.Word; text = codes "CDB"; spelled = refl; found = refl; no_close = refl }
