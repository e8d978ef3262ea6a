-- Operands that name no place, number or block.
use Rattle.std.proofs.Common.{◌≡◌, ℕ, Option, refl}
use Rattle.plc_base.specs.declared.places.Area.{Area}
use Rattle.plc_base.specs.declared.places.Width.{Width}
use Rattle.flat_code.specs.declared.operands.Operand.{Operand}
use Rattle.flat_code.specs.declared.operands.Operand.TheVariants as flat
use Rattle.flat_code.specs.declared.operations.Operation.{Operation}
use Rattle.stl_list.specs.Operands.{condition_operand, plain_operand}

pub plain_else : (opened : Option ℕ) (o : Operation) (x : Operand)
    → ((a : Area) (w : Width) (byte bit : ℕ) → x ≡ flat.Direct a w byte bit → ⊥)
    → ((a : Area) (w : Width) (from : Area) (byte : ℕ) → x ≡ flat.ByMemory a w from byte → ⊥)
    → ((a : Option Area) (w : Width) (register bits : ℕ) → x ≡ flat.ByRegister a w register bits → ⊥)
    → ((kind number : ℕ) → x ≡ flat.Numbered kind number → ⊥)
    → ((kind : ℕ) (from : Area) (byte : ℕ) → x ≡ flat.NumberedBy kind from byte → ⊥)
    → ((kind number instance : ℕ) → x ≡ flat.Called kind number instance → ⊥)
    → ((register number : ℕ) → x ≡ flat.OpenBlock register number → ⊥)
    → ((register : ℕ) (from : Area) (byte : ℕ) → x ≡ flat.OpenBy register from byte → ⊥)
    → plain_operand opened o x ≡ condition_operand x
unfolding plain_operand
plain_else opened o (flat.Direct a w byte bit) p q r s t u v w' = absurd (p a w byte bit refl)
plain_else opened o (flat.ByMemory a w from byte) p q r s t u v w' = absurd (q a w from byte refl)
plain_else opened o (flat.ByRegister a w register bits) p q r s t u v w' = absurd (r a w register bits refl)
plain_else opened o (flat.Numbered kind number) p q r s t u v w' = absurd (s kind number refl)
plain_else opened o (flat.NumberedBy kind from byte) p q r s t u v w' = absurd (t kind from byte refl)
plain_else opened o (flat.Called kind number instance) p q r s t u v w' = absurd (u kind number instance refl)
plain_else opened o (flat.OpenBlock register number) p q r s t u v w' = absurd (v register number refl)
plain_else opened o (flat.OpenBy register from byte) p q r s t u v w' = absurd (w' register from byte refl)
plain_else opened o other p q r s t u v w' = refl
