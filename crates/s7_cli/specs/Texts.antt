-- What was read of a source.
use Rattle.std.specs.Prelude.{ℕ, List, [], ◌∷◌, ◌≤◌, Option, length, option_map, option_to_list, unwrap_or}
use Rattle.s7_cli.specs.declared.files.ProgramText.{ProgramText}

-- the bytes of the symbols file, if there is one
abbrev pub symbols_file : ProgramText → Option (List ℕ)
symbols_file text = option_map (λ v. v.items) text.symbols

-- the bytes of the symbols file, and no bytes where there is none
abbrev pub symbols_text_of : ProgramText → List ℕ
symbols_text_of text = unwrap_or (symbols_file text) []

-- the contents of the source and of the symbols file, if there is one, in the order of reading
abbrev pub file_contents_of : ProgramText → List (List ℕ)
file_contents_of text = text.source.items ∷ option_to_list (symbols_file text)

-- neither the source nor the symbols file is longer than it may be
pub record AreFilesWithinLimits (text : ProgramText) : Type 0 where
  -- the source has at most 1,048,576 bytes
  pub source : length text.source.items ≤ 1048576
  -- the symbols file has at most 1,048,576 bytes
  pub symbols : length (symbols_text_of text) ≤ 1048576
