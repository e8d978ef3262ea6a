-- The labels of a listing: none stands twice in a body.
use Rattle.std.specs.Prelude.{◌≡◌, ◌≤◌, ℕ, List, [], length}
use Rattle.flat_code.specs.Programs.{CodeBlock}
use Rattle.stl_types.specs.Labels.{labels_twice}
use Rattle.stl_list.specs.Runs.{runs}
use Rattle.stl_list.specs.Signatures.{Signature}
use Rattle.stl_list.specs.Statements.{body_of}

-- in the listed body of any code block, with at most 93,312 statements in its code, no label stands
-- twice
abbrev pub AreLabelsOnce : Type 0
AreLabelsOnce =
    (signatures : List Signature) (lines : List ℕ) (b : CodeBlock) → length (runs b.code) ≤ 93312
    → labels_twice [] (body_of signatures lines b) ≡ []
