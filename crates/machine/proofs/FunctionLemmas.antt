-- No system function has more than three IN parameters.
use Rattle.std.proofs.Common.{◌≡◌, ◌≤◌, ◌==◌, ◌||◌, ℕ, Bool, true, false, if◌then◌else◌, List, map, Option, Some, None, IfSome, sym, subst, arith}
use Rattle.std.specs.Option.{option_map}
use Rattle.flat_code.specs.declared.image_fields.ParameterRecord.{ParameterRecord}
use Rattle.flat_code.specs.declared.programs.Param.{Param}
use Rattle.flat_code.specs.Blocks.{system_params}
use Rattle.flat_code.specs.Image.{param_of_record}
use Rattle.machine.specs.SystemCalls.{count_inputs, system_function}

abbrev AreFew : List Param → Type 0
AreFew params = count_inputs params ≤ 3

abbrev RecordsAreFew : Option (List ParameterRecord) → Type 0
RecordsAreFew records = IfSome (option_map (map param_of_record) records) AreFew

either : (t : Bool) (x y : Option (List ParameterRecord)) → RecordsAreFew x → RecordsAreFew y → RecordsAreFew (if t then x else y)
either true x y a b = a
either false x y a b = b

few : (number : ℕ) → RecordsAreFew (system_params number)
few number =
    either (number == 32) _ _ (omega arith)
    (either (number == 33) _ _ (omega arith)
    (either (number == 39 || number == 40) _ _ (omega arith)
    (either (number == 41 || number == 42) _ _ (omega arith)
    (either (number == 43 || number == 46) _ _ (omega arith)
    (either (number == 64) _ _ (omega arith) tt)))))

pub few_inputs :
    {A : Type 0} (params : A → List Param) (found : Option A) (number : ℕ) → option_map params found ≡ system_function number
    → IfSome found (λ a. count_inputs (params a) ≤ 3)
few_inputs params (Some a) number is = subst (λ (o : Option (List Param)). IfSome o AreFew) (sym is) (few number)
few_inputs params None number is = tt
