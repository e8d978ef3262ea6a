-- Records written one behind the other.
use Rattle.std.proofs.Common.{◌≡◌, ℕ, false, List, [], ◌∷◌, ◌++◌, refl, sym, ap, subst, ◌∙◌, append_assoc}
use Rattle.std.specs.Int.{w32, to_be_bytes}
use Rattle.flat_code.specs.Codes.{code_bytes, code_layout}
use Rattle.flat_code.specs.Image.{parameter_byte, parameter_bit, parameter_rows, parameter_layout, same_state, kind_field, block_number_layout, head_rows, head_layout, head_of_block, parameters_layout, line_field, line_after, lines_layout, code_and_lines, block_rows, plain_block, code_block_layout, after_block, data_number_layout, data_length_layout, data_rows, data_block_layout, after_data, name_bytes, name_rows, name_record, after_name, names_layout, counts_layout, counts_of, code_blocks_layout, data_blocks_layout, body_rows, records_of, records_layout, body_layout}
use Rattle.flat_code.specs.Layout.{FieldLayout, spell_many}
use Rattle.flat_code.specs.Programs.{Program}
use Rattle.flat_code.specs.Records.{BlockRecord}
use Rattle.flat_code.specs.declared.image_fields.ParameterRecord.{ParameterRecord}
use Rattle.image_file.proofs.ImageLemmas.{many_text}

-- what was written, and the records that are left to be written from some state, are all
pub record Left {S A : Type 0} (l : S → FieldLayout A) (next : S → A → S) (out : List ℕ) (xs : List A) (all : List ℕ) : Type 0 where
  pub state : S
  pub is : out ++ spell_many l next state xs ≡ all

-- layouts that spell the same, whatever came before
pub record Spells {S A : Type 0} (l : S → FieldLayout A) (spell : A → List ℕ) : Type 0 where
  pub same : (s : S) (x : A) → (l s).spell x ≡ spell x

pub one_left : {S A : Type 0} (l : S → FieldLayout A) (next : S → A → S) (spell : A → List ℕ) (out after : List ℕ) (x : A) (xs ys : List A) (all : List ℕ) → Spells l spell → ys ≡ x ∷ xs → after ≡ out ++ spell x → Left l next out ys all → Left l next after xs all
one_left {A = A} l next spell out after x xs ys all same shape e left =
    let here = subst (λ (z : List A). out ++ spell_many l next left.state z ≡ all) shape left.is in
    record {
      state = next left.state x;
      is = ap (λ (z : List ℕ). z ++ spell_many l next (next left.state x) xs) (e ∙ ap (λ (z : List ℕ). out ++ z) (sym (same.same left.state x)))
          ∙ append_assoc out ((l left.state).spell x) (spell_many l next (next left.state x) xs) ∙ here;
    }

-- ---- no spelling depends on what came before

pub line_spells : Spells (line_field false) (λ n. to_be_bytes w32 n)
unfolding line_field
line_spells = record { same = λ s n. refl }

pub block_spells : Spells (code_block_layout false) (λ b. (code_block_layout false (0, 0)).spell b)
unfolding code_block_layout plain_block block_rows head_layout head_rows kind_field block_number_layout
block_spells = record { same = λ s b. refl }

pub data_spells : Spells data_block_layout (λ d. (data_block_layout (0, 0)).spell d)
unfolding data_block_layout data_rows data_number_layout data_length_layout
data_spells = record { same = λ s d. refl }

pub name_spells : Spells name_record (λ n. (name_record []).spell n)
unfolding name_record name_rows name_bytes
name_spells = record { same = λ s n. refl }

same_parameter : (kind instance s : ℕ) (p : ParameterRecord) → (parameter_layout 0 0).spell p ≡ (parameter_layout kind instance).spell p
unfolding parameter_layout parameter_rows parameter_byte parameter_bit
same_parameter kind instance s p = refl

-- ---- records of parts

pub three_put : (out a b c w x y : List ℕ) → a ≡ out ++ w → b ≡ a ++ x → c ≡ b ++ y → c ≡ out ++ (w ++ (x ++ y))
three_put out a b c w x y p q r =
    r ∙ ap (λ (z : List ℕ). z ++ y) (q ∙ ap (λ (z : List ℕ). z ++ x) p) ∙ append_assoc (out ++ w) x y ∙ append_assoc out w (x ++ y)

pub four_put : (out a b c d w x y v : List ℕ) → a ≡ out ++ w → b ≡ a ++ x → c ≡ b ++ y → d ≡ c ++ v → d ≡ out ++ (w ++ (x ++ (y ++ v)))
four_put out a b c d w x y v p q r s =
    s ∙ ap (λ (z : List ℕ). z ++ v) (three_put out a b c w x y p q r) ∙ append_assoc out (w ++ (x ++ y)) v
    ∙ ap (λ (z : List ℕ). out ++ z) (append_assoc w (x ++ y) v ∙ ap (λ (z : List ℕ). w ++ z) (append_assoc x y v))

pub block_spelled : (b : BlockRecord) → (head_layout (0, 0)).spell (head_of_block b) ++ (spell_many (λ s. parameter_layout 0 0) same_state 0 b.params ++ (code_bytes b.code ++ spell_many (line_field false) line_after 0 b.lines)) ≡ (code_block_layout false (0, 0)).spell b
unfolding code_block_layout plain_block block_rows code_and_lines lines_layout code_layout parameters_layout
block_spelled b =
    let h = head_of_block b in
    ap (λ (z : List ℕ). (head_layout (0, 0)).spell h ++ (z ++ (code_bytes b.code ++ spell_many (line_field false) line_after 0 b.lines)))
    (many_text (λ s. parameter_layout 0 0) (λ s. parameter_layout h.kind h.instance_bytes) same_state (same_parameter h.kind h.instance_bytes) 0 b.params)

pub body_spelled : (p : Program) → counts_layout.spell (counts_of (records_of p)) ++ (spell_many (code_block_layout false) after_block (0, 0) (records_of p).code_blocks ++ (spell_many data_block_layout after_data (0, 0) p.data_blocks ++ spell_many name_record after_name [] (records_of p).names)) ≡ (body_layout false).spell p
unfolding body_layout records_layout body_rows code_blocks_layout data_blocks_layout names_layout
body_spelled p = refl
