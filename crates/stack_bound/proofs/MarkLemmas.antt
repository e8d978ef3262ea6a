-- Marks of a list of bounds.
use Rattle.std.proofs.Common.{◌≡◌, ℕ, suc, ◌<◌, Bool, true, false, List, [], ◌∷◌, ◌++◌, length, refl, ap, arith, if◌then◌else◌}
use Rattle.plc_base.specs.declared.blocks.BlockId.{BlockId}
use Rattle.image_file.specs.Readers.{is_same_id}
use Rattle.stack_bound.specs.Marks.{with_block_marked, marked_bounds_behind}
use Rattle.stack_bound.specs.declared.certificates.Bound.{Bound}

-- ---- lengths

one_more : (a b : ℕ) → a ≡ b → suc a ≡ suc b
one_more a b same = omega (arith, same)

pub mark_len : (marks : List Bool) (list : List Bound) (block : BlockId)
    → length (with_block_marked marks list block) ≡ length marks
mark_len [] list block = refl
mark_len (m ∷ marks) [] block = refl
mark_len (m ∷ marks) (b ∷ list) block = by (is_same_id b.block block) (mark_len marks list block)
  where
    by : (test : Bool) → length (with_block_marked marks list block) ≡ length marks
        → length (if test then true ∷ marks else m ∷ with_block_marked marks list block) ≡ length (m ∷ marks)
    by true rest = one_more (length marks) (length marks) refl
    by false rest = one_more (length (with_block_marked marks list block)) (length marks) rest

-- ---- the end of a list

no_more : (list : List Bound) → list ++ [] ≡ list
no_more [] = refl
no_more (b ∷ list) = ap (λ (rest : List Bound). b ∷ rest) (no_more list)

pub none_kept : (seen : List Bound) (marks : List Bool) (left : List Bound) → length left < 1
    → seen ++ marked_bounds_behind seen marks left ≡ seen
none_kept seen [] left none = no_more seen
none_kept seen (m ∷ marks) [] none = no_more seen
none_kept seen (m ∷ marks) (b ∷ left) none = absurd (omega (arith, none))
