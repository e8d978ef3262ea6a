use Rattle.std.proofs.Common.{◌≡◌, ℕ, ◌<◌, List, [], length, map, get_or, sym, subst, arith, Bor}
use Rattle.std.proofs.lemmas.List.{get_or-map, length-map}
use Rattle.stl_lexer.specs.Forms.{is_entry}
use Rattle.stl_lexer.specs.Longest.{FindsLongest}
use Rattle.stl_lexer.proofs.EntryLemmas.{listed_none, listed_more, listed_all, entry_some}
use Rattle.stl_lexer.proofs.entries.longest_entry.Goals as goal

abbrev texts : List (Bor (List ℕ)) → List (List ℕ)
texts table = map (λ entry. entry.now) table

text_at : (table : List (Bor (List ℕ))) (i : ℕ) → i < length table → get_or (texts table) i [] ≡ (get_or table i (record { ref_ptr = (0, 0); now = [] })).now
text_at table i h = get_or-map (λ (entry : Bor (List ℕ)). entry.now) table i (record { ref_ptr = (0, 0); now = [] }) [] h

below : (table : List (Bor (List ℕ))) (i : ℕ) → i < length table → i < length (texts table)
below table i h = omega (arith, length-map table (λ (entry : Bor (List ℕ)). entry.now))

pub entry_length-requires : goal.entry_length-requires
entry_length-requires c =
    let table : List (Bor (List ℕ)) = c.args.table.now in
    let i = c.loop-entry.entry-index in
    subst (λ (entry : List ℕ). 0 < length entry) (text_at table i c.loop-entry-test.true) (entry_some (texts table) i c.requires (below table i c.loop-entry-test.true))

pub loop-entry-preserved : goal.loop-entry-preserved
loop-entry-preserved c =
    let table : List (Bor (List ℕ)) = c.args.table.now in
    let i = c.loop-entry.entry-index in
    let h = c.loop-entry-test.true in
    let next = subst (λ (entry : List ℕ). FindsLongest (is_entry c.args.tail entry) c.args.text.now c.entry_length.result) (sym (text_at table i h)) c.entry_length.ensures in
    rw c.longer-longest.ensures (listed_more c.args.tail (texts table) i c.args.text.now c.loop-entry.longest c.entry_length.result (below table i h) c.loop-entry.invariant next)

pub loop-entry-init : goal.loop-entry-init
loop-entry-init c = listed_none c.args.tail c.args.text.now

pub returns : goal.returns
returns c = listed_all c.args.tail (texts c.args.table.now) c.loop-entry.entry-index c.args.text.now c.loop-entry.longest (omega (arith, length-map c.args.table.now (λ (entry : Bor (List ℕ)). entry.now))) c.loop-entry.invariant
