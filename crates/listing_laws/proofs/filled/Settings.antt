-- The settings of a listed instance: each breaks no rule and writes what the bytes have, and together they reach each bit that is set.
use Rattle.std.proofs.Common.{◌≡◌, ℕ, zero, suc, ◌+◌, ◌*◌, ◌/◌, ◌%◌, ◌^◌, ◌<◌, ◌≤◌, inl, inr, Bool, true, false, not, List, [], ◌∷◌, ◌++◌, append-nil, length, map, pos, refl, sym, ap, subst, ◌∙◌, arith}
use Rattle.std.specs.Prelude.{◌==◌, get_or, if◌then◌else◌, nat_eq, nat_le}
use Rattle.std.specs.List.{AllByRecursion, flat_map, range_with_len}
use Rattle.std.specs.Int.{bit_at}
use Rattle.std.proofs.lemmas.Bool.{eqb-true}
use Rattle.std.proofs.lemmas.Bool.Decides.{nat_tests}
use Rattle.std.proofs.lemmas.Grind.{flat_map-append}
use Rattle.std.proofs.lemmas.Nat.Bits.{bit_at-zero}
use Rattle.plc_base.proofs.ListLemmas.{all_append}
use Rattle.plc_base.specs.Folding.{upper_case_name}
use Rattle.plc_base.specs.Widths.{bit_count}
use Rattle.flat_code.specs.declared.programs.Param.{Param}
use Rattle.stl_ast.specs.declared.blocks.PathStep.TheVariants as step
use Rattle.stl_ast.specs.declared.blocks.Setting.{Setting}
use Rattle.stl_ast.specs.declared.declarations.Simple.{Simple}
use Rattle.stl_ast.specs.declared.declarations.Simple.TheVariants as simple
use Rattle.stl_ast.specs.declared.literals.Literal.TheVariants as literal
use Rattle.block_layout.specs.Fits.{bits_of, fits_elementary_type}
use Rattle.block_layout.specs.InitialBytes.{Write, big_endian_bytes, setting_write, setting_writes, write_of}
use Rattle.block_layout.specs.Offsets.{width_of}
use Rattle.block_layout.specs.Paths.{folded_path, path_end_in_data_block}
use Rattle.block_layout.specs.RebuiltBytes.{InBytes, IsTrueOf, OfBytes, OneReaches, Reaches, bit_in}
use Rattle.block_layout.specs.Rule41.{fits_kind, misfits_component, setting_misfits}
use Rattle.block_layout.specs.Rule42.{setting_is_outside}
use Rattle.block_layout.specs.Sizes.{plain_bits}
use Rattle.block_layout.specs.declared.blocks.BlockLayout.{BlockLayout}
use Rattle.stl_types.specs.Unknown.{leads_nowhere, sets_unknown}
use Rattle.stl_types.specs.declared.parameters.Formal.{Formal}
use Rattle.stl_list.specs.Initial.{byte_at, byte_here, byte_setting, byte_settings, parameter_here, parameter_setting, parameter_settings, value_in}
use Rattle.stl_list.specs.Sections.{static_name}
use Rattle.listing_laws.specs.Chains.{is_listed_type}
use Rattle.listing_laws.proofs.BlockLemmas.{byte_is as byte_small}
use Rattle.listing_laws.proofs.called.Passings.{literal_kind}
use Rattle.listing_laws.proofs.declared.Own.{past_end}
use Rattle.listing_laws.proofs.declared.Placed.{plain_width}
use Rattle.listing_laws.proofs.filled.Params.{bare}
use Rattle.listing_laws.proofs.filled.Reached.{not_reached, reaches_back, reaches_front, same_reach}
use Rattle.listing_laws.proofs.filled.Values.{byte_is, value_bits, value_true, value_write}
use Rattle.listing_laws.proofs.filled.Walks.{AllLead, LeadsTo}

-- a setting breaks no rule, and writes what these bytes have
pub record IsRight (l : List BlockLayout) (k : ℕ) (bytes : List ℕ) (s : Setting) : Type 0 where
  pub write : Write
  pub alone : setting_write l s.value (path_end_in_data_block l k (folded_path s.path)) ≡ write ∷ []
  pub true_of : IsTrueOf bytes write
  pub known : sets_unknown l k s ≡ false
  pub fit : setting_misfits l k s ≡ false
  pub inside : setting_is_outside l k s ≡ false

-- a setting whose path leads to an elementary component that its value fits
right_setting : (l : List BlockLayout) (k : ℕ) (bytes : List ℕ) (s : Setting) (offset : ℕ) (kind : Simple) (w : Write) → LeadsTo l k (folded_path s.path) offset kind → fits_elementary_type s.value kind ≡ true
    → w.offset ≡ offset → w.width ≡ plain_bits kind → w.value ≡ bits_of s.value → IsTrueOf bytes w → IsRight l k bytes s
right_setting l k bytes s offset kind w leads fit at wide value true_of = record {
  write = w;
  alone = ap (setting_write l s.value) leads.leads ∙ ap (write_of leads.component.offset (bits_of s.value)) leads.of_kind
      ∙ (λ i. record { offset = (leads.at ∙ sym at) i; width = sym wide i; value = sym value i } ∷ []);
  true_of = true_of;
  known = ap leads_nowhere leads.leads;
  fit = ap (misfits_component l s.value) leads.sets ∙ ap (λ o. not (fits_kind s.value o)) leads.of_kind ∙ ap not fit;
  inside = leads.inside;
}

writes_joined : (l : List BlockLayout) (k : ℕ) (xs ys : List Setting) → setting_writes l k (xs ++ ys) ≡ setting_writes l k xs ++ setting_writes l k ys
writes_joined l k xs ys = flat_map-append (λ (s : Setting). setting_write l s.value (path_end_in_data_block l k (folded_path s.path))) xs ys

pub reached_front : (l : List BlockLayout) (k j i : ℕ) (xs ys : List Setting) → OneReaches (setting_writes l k xs) j i → OneReaches (setting_writes l k (xs ++ ys)) j i
reached_front l k j i xs ys r = subst (λ ws. OneReaches ws j i) (sym (writes_joined l k xs ys)) (reaches_front (setting_writes l k xs) (setting_writes l k ys) j i r)

pub reached_back : (l : List BlockLayout) (k j i : ℕ) (xs ys : List Setting) → OneReaches (setting_writes l k ys) j i → OneReaches (setting_writes l k (xs ++ ys)) j i
reached_back l k j i xs ys r = subst (λ ws. OneReaches ws j i) (sym (writes_joined l k xs ys)) (reaches_back (setting_writes l k xs) (setting_writes l k ys) j i r)

reached_alone : (l : List BlockLayout) (k j i : ℕ) (s : Setting) (w : Write) → setting_write l s.value (path_end_in_data_block l k (folded_path s.path)) ≡ w ∷ [] → Reaches w j i
    → OneReaches (setting_writes l k (s ∷ [])) j i
reached_alone l k j i s w alone r = subst (λ ws. OneReaches ws j i) (sym (append-nil _ ∙ alone)) (inl r)

pub writes_true : (l : List BlockLayout) (k : ℕ) (bytes : List ℕ) (ss : List Setting) → AllByRecursion (IsRight l k bytes) ss → AllByRecursion (IsTrueOf bytes) (setting_writes l k ss)
writes_true l k bytes [] h = tt
writes_true l k bytes (s ∷ ss) (one, more) =
    all_append (IsTrueOf bytes) (setting_write l s.value (path_end_in_data_block l k (folded_path s.path))) (setting_writes l k ss) (subst (AllByRecursion (IsTrueOf bytes)) (sym one.alone) (one.true_of, tt))
    (writes_true l k bytes ss more)

-- a parameter with its value, as a listing sets it
pub record IsSettable (bytes : List ℕ) (f : Formal) (p : Param) : Type 0 where
  pub listed : is_listed_type f.kind ≡ true
  pub wide : width_of f.kind ≡ p.width
  pub bit : p.bit < 8
  pub within : 8 * p.byte + p.bit + bit_count p.width ≤ 8 * length bytes

abbrev pub AllSettable : (bytes : List ℕ) → List Formal → List Param → Type 0
AllSettable bytes [] [] = Unit {0}
AllSettable bytes (f ∷ fs) (p ∷ ps) = IsSettable bytes f p × AllSettable bytes fs ps
AllSettable bytes _ _ = ⊥

module _ (l : List BlockLayout) (k line : ℕ) (bytes : List ℕ) (are : AllByRecursion (λ b. b < 256) bytes) where
  -- ---- parameters

  parameter_right : (f : Formal) (p : Param) → LeadsTo l k (step.Named (upper_case_name f.name) ∷ []) (8 * p.byte + p.bit) f.kind → IsSettable bytes f p
      → IsRight l k bytes (parameter_setting line f (value_in bytes p.width p.byte p.bit))
  parameter_right f p leads h =
      right_setting l k bytes (parameter_setting line f (value_in bytes p.width p.byte p.bit)) (8 * p.byte + p.bit) f.kind (value_write bytes p) leads
      (literal_kind f.kind (value_in bytes p.width p.byte p.bit) h.listed) refl (ap bit_count (sym h.wide) ∙ sym (plain_width f.kind)) (sym (value_bits bytes are f.kind p h.listed h.wide))
      (value_true bytes are p h.bit h.within)

  pub parameters_right : (fs : List Formal) (ps : List Param) → AllLead l k fs ps → AllSettable bytes fs ps → AllByRecursion (IsRight l k bytes) (parameter_settings line bytes fs ps)
  parameters_right [] [] leads h = tt
  parameters_right [] (p ∷ ps) leads h = absurd h
  parameters_right (f ∷ fs) [] leads h = absurd h
  parameters_right (f ∷ fs) (p ∷ ps) (lead, leads) (one, more) =
      all_append (IsRight l k bytes) (parameter_here line f value) (parameter_settings line bytes fs ps) (by (value == 0)) (parameters_right fs ps leads more)
    where
      value : ℕ
      value = value_in bytes p.width p.byte p.bit

      by : (t : Bool) → AllByRecursion (IsRight l k bytes) (if t then [] else parameter_setting line f value ∷ [])
      by true = tt
      by false = (parameter_right f p lead one, tt)

  parameter_reached : (f : Formal) (p : Param) (j i : ℕ) → LeadsTo l k (step.Named (upper_case_name f.name) ∷ []) (8 * p.byte + p.bit) f.kind → IsSettable bytes f p → Reaches (bare p) j i
      → bit_in bytes j i ≡ 1 → OneReaches (setting_writes l k (parameter_here line f (value_in bytes p.width p.byte p.bit))) j i
  parameter_reached f p j i lead h r set = by (value == 0) refl
    where
      value : ℕ
      value = value_in bytes p.width p.byte p.bit

      right : IsRight l k bytes (parameter_setting line f value)
      right = parameter_right f p lead h

      by : (t : Bool) → (value == 0) ≡ t → OneReaches (setting_writes l k (if t then [] else parameter_setting line f value ∷ [])) j i
      by true e =
          let none = not_reached bytes (value_write bytes p) j i (value_true bytes are p h.bit h.within) (eqb-true value 0 e) (same_reach (bare p) (value_write bytes p) j i refl refl r) in
          absurd (omega (arith, none, set))
      by false e =
          let s = parameter_setting line f value in
          reached_alone l k j i s (value_write bytes p)
          (ap (setting_write l s.value) lead.leads ∙ ap (write_of lead.component.offset (bits_of s.value)) lead.of_kind
          ∙ (λ n. record { offset = lead.at n; width = (plain_width f.kind ∙ ap bit_count h.wide) n; value = value_bits bytes are f.kind p h.listed h.wide n } ∷ []))
          (same_reach (bare p) (value_write bytes p) j i refl refl r)

  pub parameters_reached : (fs : List Formal) (ps : List Param) (j i : ℕ) → AllLead l k fs ps → AllSettable bytes fs ps → OneReaches (map bare ps) j i → bit_in bytes j i ≡ 1
      → OneReaches (setting_writes l k (parameter_settings line bytes fs ps)) j i
  parameters_reached [] [] j i leads h r set = absurd r
  parameters_reached [] (p ∷ ps) j i leads h r set = absurd h
  parameters_reached (f ∷ fs) [] j i leads h r set = absurd h
  parameters_reached (f ∷ fs) (p ∷ ps) j i (lead, leads) (one, more) (inl r) set =
      reached_front l k j i (parameter_here line f (value_in bytes p.width p.byte p.bit)) (parameter_settings line bytes fs ps) (parameter_reached f p j i lead one r set)
  parameters_reached (f ∷ fs) (p ∷ ps) j i (lead, leads) (one, more) (inr r) set =
      reached_back l k j i (parameter_here line f (value_in bytes p.width p.byte p.bit)) (parameter_settings line bytes fs ps) (parameters_reached fs ps j i leads more r set)

  -- ---- the bytes of VAR

  abbrev pub IndicesLead : (start count : ℕ) → Type 0
  IndicesLead start count = (n : ℕ) → n < count → LeadsTo l k (step.Named (upper_case_name static_name) ∷ step.Index (pos n) ∷ []) (8 * start + 8 * n) simple.Byte

  byte_write : (start n : ℕ) → Write
  byte_write start n = record { offset = 8 * start + 8 * n; width = 8; value = byte_at bytes (start + n) }

  byte_true : (start n : ℕ) → start + n < length bytes → IsTrueOf bytes (byte_write start n)
  unfolding byte_write
  byte_true start n less = OfBytes refl (omega (arith, less)) each
    where
      one_of : (a : ℕ) → a < 256 → a / 256 ^ 0 % 256 ≡ a
      one_of a h = omega (arith, h)

      at : (8 * start + 8 * n) / 8 + 0 ≡ start + n
      at = omega arith

      each : (j : ℕ) → j < 1 → get_or (big_endian_bytes 1 (byte_at bytes (start + n))) j 0 ≡ get_or bytes ((8 * start + 8 * n) / 8 + j) 0
      each zero h = one_of (byte_at bytes (start + n)) (byte_small bytes (start + n) are) ∙ byte_is bytes (start + n) ∙ ap (λ m. get_or bytes m 0) (sym at)
      each (suc j) h = absurd (omega (arith, h))

  byte_bits : (value : ℕ) → bits_of (literal.Byte value) ≡ value
  unfolding bits_of
  byte_bits value = refl

  byte_fits : (value : ℕ) → fits_elementary_type (literal.Byte value) simple.Byte ≡ true
  unfolding fits_elementary_type
  byte_fits value = refl

  byte_right : (start count n : ℕ) → IndicesLead start count → n < count → start + count ≤ length bytes → IsRight l k bytes (byte_setting line n (byte_at bytes (start + n)))
  unfolding byte_write
  byte_right start count n leads less few =
      right_setting l k bytes (byte_setting line n (byte_at bytes (start + n))) (8 * start + 8 * n) simple.Byte (byte_write start n) (leads n less) (byte_fits (byte_at bytes (start + n))) refl refl
      (sym (byte_bits (byte_at bytes (start + n)))) (byte_true start n (omega (arith, less, few)))

  bytes_from : (start count from size : ℕ) → from + size ≡ count → start + count ≤ length bytes → IndicesLead start count
      → AllByRecursion (IsRight l k bytes) (flat_map (λ n. byte_here line n (byte_at bytes (start + n))) (range_with_len from size))
  bytes_from start count from zero e few leads = tt
  bytes_from start count from (suc size) e few leads =
      all_append (IsRight l k bytes) (byte_here line from (byte_at bytes (start + from))) (flat_map (λ n. byte_here line n (byte_at bytes (start + n))) (range_with_len (from + 1) size))
      (by (byte_at bytes (start + from) == 0)) (bytes_from start count (from + 1) size (omega (arith, e)) few leads)
    where
      by : (t : Bool) → AllByRecursion (IsRight l k bytes) (if t then [] else byte_setting line from (byte_at bytes (start + from)) ∷ [])
      by true = tt
      by false = (byte_right start count from leads (omega (arith, e)) few, tt)

  pub bytes_right : (start count : ℕ) → start + count ≤ length bytes → IndicesLead start count → AllByRecursion (IsRight l k bytes) (byte_settings line bytes start count)
  bytes_right start count few leads = bytes_from start count 0 count (omega arith) few leads

  byte_reached : (start count n j i : ℕ) → IndicesLead start count → n < count → j ≡ start + n → bit_in bytes j i ≡ 1
      → OneReaches (setting_writes l k (byte_here line n (byte_at bytes (start + n)))) j i
  unfolding byte_write
  byte_reached start count n j i leads less at set = by (byte_at bytes (start + n) == 0) refl
    where
      by : (t : Bool) → (byte_at bytes (start + n) == 0) ≡ t → OneReaches (setting_writes l k (if t then [] else byte_setting line n (byte_at bytes (start + n)) ∷ [])) j i
      by true e =
          let none : get_or bytes j 0 ≡ 0 = ap (λ m. get_or bytes m 0) at ∙ sym (byte_is bytes (start + n)) ∙ eqb-true (byte_at bytes (start + n)) 0 e in
          absurd (omega (arith, sym (ap (λ b. bit_at b i) none) ∙ set, bit_at-zero i))
      by false e =
          let lead = leads n less in
          let s = byte_setting line n (byte_at bytes (start + n)) in
          reached_alone l k j i s (byte_write start n)
          (ap (setting_write l s.value) lead.leads ∙ ap (write_of lead.component.offset (bits_of s.value)) lead.of_kind
          ∙ (λ m. record { offset = lead.at m; width = 8; value = byte_bits (byte_at bytes (start + n)) m } ∷ []))
          (InBytes refl (omega (arith, at)) (omega (arith, at)))

  reached_from : (start count from size j i : ℕ) → from + size ≡ count → IndicesLead start count → start + from ≤ j → j < start + count → bit_in bytes j i ≡ 1
      → OneReaches (setting_writes l k (flat_map (λ n. byte_here line n (byte_at bytes (start + n))) (range_with_len from size))) j i
  reached_from start count from zero j i e leads low high set = absurd (omega (arith, e, low, high))
  reached_from start count from (suc size) j i e leads low high set =
      by (nat_eq j (start + from)) refl (λ further. reached_from start count (from + 1) size j i (omega (arith, e)) leads further high set)
    where
      first : List Setting
      first = byte_here line from (byte_at bytes (start + from))

      rest : List Setting
      rest = flat_map (λ n. byte_here line n (byte_at bytes (start + n))) (range_with_len (from + 1) size)

      by : (t : Bool) → nat_eq j (start + from) ≡ t → (start + (from + 1) ≤ j → OneReaches (setting_writes l k rest) j i) → OneReaches (setting_writes l k (first ++ rest)) j i
      by true is more = reached_front l k j i first rest (byte_reached start count from j i leads (omega (arith, e)) (eqb-true j (start + from) is) set)
      by false is more =
          let further : start + (from + 1) ≤ j = grind (arith, nat_tests) in
          reached_back l k j i first rest (more further)

  pub bytes_reached : (start count j i : ℕ) → IndicesLead start count → start + count ≡ length bytes → start ≤ j → bit_in bytes j i ≡ 1
      → OneReaches (setting_writes l k (byte_settings line bytes start count)) j i
  bytes_reached start count j i leads size low set = reached_from start count 0 count j i (omega arith) leads (omega (arith, low)) (inside (nat_le (length bytes) j) refl) set
    where
      inside : (t : Bool) → nat_le (length bytes) j ≡ t → j < start + count
      inside true e =
          let past : length bytes ≤ j = grind (arith, nat_tests) in
          absurd (omega (arith, sym (ap (λ b. bit_at b i) (past_end bytes j past)) ∙ set, bit_at-zero i))
      inside false e = let less : j < length bytes = grind (arith, nat_tests) in omega (arith, less, size)
