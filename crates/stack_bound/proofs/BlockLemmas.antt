-- Blocks by kind and number.
use Rattle.std.proofs.Common.{◌≡◌, ℕ, Bool, true, false, List, [], ◌∷◌, Option, Some, None, refl, sym, ap, ◌∙◌, arith, if◌then◌else◌}
use Rattle.std.specs.Prelude.{◌==◌}
use Rattle.std.proofs.lemmas.Bool.{and_parts, and_from, eqb-true}
use Rattle.std.proofs.lemmas.Bool.Decides.{nat_tests}
use Rattle.plc_base.specs.Kinds.{kind_order}
use Rattle.plc_base.specs.declared.blocks.BlockId.{BlockId}
use Rattle.plc_base.specs.declared.blocks.BlockKind.{BlockKind}
use Rattle.plc_base.specs.declared.blocks.BlockKind.TheVariants.{Ob, Fc, Fb, Db, Sfc, Udt}
use Rattle.flat_code.specs.Programs.{CodeBlock}
use Rattle.image_file.specs.Readers.{block_by_id, is_same_id}

-- the kind of a place in the order of kinds
abbrev kind_at : ℕ → BlockKind
kind_at n =
    if n == 0 then Ob
    else if n == 1 then Fc
    else if n == 2 then Fb
    else if n == 3 then Db
    else if n == 4 then Sfc
    else Udt

kind_there : (k : BlockKind) → kind_at (kind_order k) ≡ k
kind_there Ob = refl
kind_there Fc = refl
kind_there Fb = refl
kind_there Db = refl
kind_there Sfc = refl
kind_there Udt = refl

kind_is : (a b : BlockKind) → kind_order a ≡ kind_order b → a ≡ b
kind_is a b is = sym (kind_there a) ∙ ap kind_at is ∙ kind_there b

id_of : (a b : BlockId) → a.kind ≡ b.kind → a.number ≡ b.number → a ≡ b
id_of a b one other = rw (sym one) (rw (sym other) refl)

pub same_is : (a b : BlockId) → is_same_id a b ≡ true → a ≡ b
same_is a b is =
    let parts = and_parts (kind_order a.kind == kind_order b.kind) (a.number == b.number) is in
    id_of a b (kind_is a.kind b.kind (eqb-true (kind_order a.kind) (kind_order b.kind) parts.0))
    (eqb-true a.number b.number parts.1)

-- the block that is found has the kind and number
pub found_id : (id : BlockId) (blocks : List CodeBlock) (b : CodeBlock) → block_by_id id blocks ≡ Some b → b.id ≡ id
found_id id [] b is = absurd cc
found_id id (one ∷ blocks) b is =
    by (λ same. found_id id blocks b same) (is_same_id one.id id) refl is
  where
    block_in : CodeBlock → Option CodeBlock → BlockId
    block_in x None = x.id
    block_in x (Some y) = y.id

    by : (block_by_id id blocks ≡ Some b → b.id ≡ id) → (test : Bool) → is_same_id one.id id ≡ test
        → (if test then Some one else block_by_id id blocks) ≡ Some b → b.id ≡ id
    by next true t same = sym (ap (λ (o : Option CodeBlock). block_in one o) same) ∙ same_is one.id id t
    by next false t same = next same

kind_self : (k : BlockKind) → (kind_order k == kind_order k) ≡ true
kind_self Ob = refl
kind_self Fc = refl
kind_self Fb = refl
kind_self Db = refl
kind_self Sfc = refl
kind_self Udt = refl

-- a block is the same as itself
pub same_self : (a : BlockId) → is_same_id a a ≡ true
same_self a =
    and_from (kind_order a.kind == kind_order a.kind) (a.number == a.number) (kind_self a.kind)
    number_self
  where
    number_self : (a.number == a.number) ≡ true
    number_self = grind (arith, nat_tests)
