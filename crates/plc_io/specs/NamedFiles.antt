-- Files in memory: a list of names with their bytes.
use Rattle.std.specs.Prelude.{◌≡◌, ℕ, List, [], ◌∷◌, true, Option, None, Some, unwrap_or, option_map, find, if◌then◌else◌, bytes_eq}
use Rattle.plc_io.specs.Contents.{Contents}
use Rattle.plc_io.specs.Counts.{for_every_name}
use Rattle.plc_io.specs.Moments.{FilesAt}

-- the bytes under a name in a list of files; `None` where no file has the name
abbrev pub bytes_of_file : List (List ℕ × List ℕ) → List ℕ → Option (List ℕ)
bytes_of_file files name = option_map (λ f. f.1) (find (λ f. bytes_eq f.0 name) files)

-- a list of files with these bytes under this name: in place of those that stood there, else at the
-- end
abbrev pub with_file : List (List ℕ × List ℕ) → List ℕ → List ℕ → List (List ℕ × List ℕ)
with_file [] name bytes = (name, bytes) ∷ []
with_file (f ∷ fs) name bytes =
    if bytes_eq f.0 name then (f.0, bytes) ∷ fs else f ∷ with_file fs name bytes

-- the contents of a list of files, which are told name by name
abbrev pub contents_of : List (List ℕ × List ℕ) → Contents
contents_of files = record { told = true; at = bytes_of_file files }

-- the bytes under a name in a list of files; no bytes where no file has the name
abbrev pub bytes_or_empty : List (List ℕ × List ℕ) → List ℕ → List ℕ
bytes_or_empty files name = unwrap_or (bytes_of_file files name) []

-- the contents of named files where an absent name is an empty file
abbrev pub sure_contents_of : List (List ℕ × List ℕ) → Contents
sure_contents_of files = record { told = true; at = λ name. Some (bytes_or_empty files name) }

-- no name stands twice in a list of files
abbrev pub EachNameOnce : List (List ℕ × List ℕ) → Type 0
EachNameOnce [] = Unit {0}
EachNameOnce (f ∷ fs) = (bytes_of_file fs f.0 ≡ None) × EachNameOnce fs

-- what files show that tell these contents, with one count of failed reads and one of failed writes
-- for all names
abbrev pub told_files : Contents → (failed_reads failed_writes : ℕ) → FilesAt
told_files contents failed_reads failed_writes = record {
  contents = contents;
  failed_reads = for_every_name failed_reads;
  failed_writes = for_every_name failed_writes;
}

-- files given by names and bytes, as an outside in memory shows them
abbrev pub memory_files : List (List ℕ × List ℕ) → (failed_reads failed_writes : ℕ) → FilesAt
memory_files files = told_files (contents_of files)

-- files in memory at one moment of which no call fails
abbrev pub sure_files : List (List ℕ × List ℕ) → FilesAt
sure_files files = told_files (sure_contents_of files) 0 0
