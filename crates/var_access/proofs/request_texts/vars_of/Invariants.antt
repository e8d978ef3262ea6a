use Rattle.std.proofs.Common.{◌≡◌, drop, take, map, length, false}
use Rattle.std.specs.Result.{IfOk}
use Rattle.flat_code.specs.Names.{find}
use Rattle.var_access.specs.Readings.{all_readings, trim}
use Rattle.var_access.specs.Requests.{comma_parts}
use Rattle.var_access.specs.Variables.{var_of}
use Rattle.var_access.proofs.request_texts.vars_of.Given as goal

-- so many parts were read, and the others are left
abbrev pub invariant-loop : goal.invariant-loop
invariant-loop l = record {
  others : drop l.counter (comma_parts false l.fn.text) ≡ comma_parts false l.left;
  vars_are : l.vars ≡ all_readings (map (λ part. var_of (find l.fn.names) (trim part)) (take l.counter (comma_parts false l.fn.text)));
  few : IfOk l.vars (λ vars. length vars ≡ l.counter);
}
