-- The names of a program are in order, since no name of its image is a fault.
use Rattle.std.proofs.Common.{◌≡◌, ℕ, Bool, true, false, ◌&&◌, List, [], ◌∷◌, length, map, refl}
use Rattle.std.proofs.lemmas.Bool.{and_parts, and_from}
use Rattle.plc_base.proofs.TruthLemmas.{and_first, and_second}
use Rattle.flat_code.specs.Programs.{Program, NameEntry}
use Rattle.flat_code.specs.Layout.{is_fine, good_many}
use Rattle.flat_code.specs.Faults.{is_earlier_name, is_upper, fault_unless_met, name_fault}
use Rattle.flat_code.specs.Names.{names_rise}
use Rattle.flat_code.specs.Image.{name_bytes, name_rows, name_record, after_name, names_layout, counts_layout, code_blocks_layout, data_blocks_layout, body_rows, records_layout, body_layout, parts_of_records, records_of, name_of_entry, IsProgram}

is_met : (test : Bool) (code : ℕ) → is_fine (fault_unless_met test code) ≡ true → test ≡ true
is_met true code h = refl
is_met false code h = absurd cc

name_is_fine : (before : List ℕ) (entry : NameEntry) → (name_record before).good (name_of_entry entry) ≡ true → is_fine (name_fault before entry.name) ≡ true
unfolding name_record name_rows name_bytes
name_is_fine before entry h = and_second _ _ (and_first _ _ (and_second _ _ h))

name_is_next : (before : List ℕ) (entry : NameEntry) → (name_record before).good (name_of_entry entry) ≡ true → (is_earlier_name before entry.name && is_upper entry.name) ≡ true
unfolding name_fault
name_is_next before entry h = and_first _ _ (is_met _ 4 (name_is_fine before entry h))

good_names : (before : List ℕ) (entries : List NameEntry) → good_many name_record after_name before (length (map name_of_entry entries)) (map name_of_entry entries) ≡ true → names_rise before entries ≡ true
good_names before [] h = refl
good_names before (entry ∷ entries) h =
    let p = and_parts ((name_record before).good (name_of_entry entry)) (good_many name_record after_name entry.name (length (map name_of_entry entries)) (map name_of_entry entries)) h in
    and_from _ _ (name_is_next before entry p.0) (good_names entry.name entries p.1)

pub names_of_program : (p : Program) → IsProgram p → names_rise [] p.names ≡ true
unfolding body_layout records_layout body_rows names_layout
names_of_program p h =
    let r = parts_of_records (records_of p) in
    let codes = (code_blocks_layout false r.counts.code_blocks).good r.code_blocks in
    let datas = (data_blocks_layout r.counts.data_blocks).good r.data_blocks in
    let named = (names_layout r.counts.names).good r.names in
    good_names [] p.names (and_second datas named (and_second codes (datas && named) (and_second (counts_layout.good r.counts) (codes && (datas && named)) h.good)))
