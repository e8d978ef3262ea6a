-- Why a request isn't read.
use Rattle.std.specs.Prelude.{Result, Ok, Err}
use Rattle.var_access.specs.Readings.{Reading}
use Rattle.var_access.specs.declared.request_texts.RequestFault.{RequestFault}
use Rattle.var_access.specs.declared.request_texts.RequestFault.TheVariants.{BadRequest}
use Rattle.var_access.specs.declared.requests.Request.{Request}

-- the request that was read, or its refusal with the least rule that the text breaks
abbrev pub request_or_fault : Reading Request → Result Request RequestFault
request_or_fault (Ok request) = Ok request
request_or_fault (Err rule) = Err (BadRequest rule)
