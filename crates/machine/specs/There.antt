-- What a statement needs of a program: what it calls, and the head of its own block at a return.
use Rattle.std.specs.Prelude.{◌==◌, Bool, true, false, is_some, length, Option, Some, None, if◌then◌else◌}
use Rattle.plc_base.specs.Kinds.{is_system_function}
use Rattle.plc_base.specs.declared.BlockId.{BlockId}
use Rattle.frames.specs.Activations.{frames_of}
use Rattle.frames.specs.declared.Activation.{Activation}
use Rattle.flat_code.specs.Instr.{Instr, Calls, Returns}
use Rattle.machine.specs.Code.{Code, Fetched}
use Rattle.machine.specs.SystemCalls.{system_function}

-- whether a block can be called: it is one of the nine system functions, or a block of the program
abbrev pub is_block_callable : Code → BlockId → Bool
is_block_callable c block =
    if is_system_function block.kind
    then is_some (system_function block.number)
    else is_some (c.head block)

-- whether what an instruction calls is there, and at a return the head of its own block
abbrev pub is_called_block_there : Code → Instr → (own : BlockId) → Bool
is_called_block_there c (Calls how block instance passings) own = is_block_callable c block
is_called_block_there c (Returns how) own = is_some (c.head own)
is_called_block_there c _ own = true

-- whether a statement was found, and what it needs of the program is there
abbrev pub is_statement_complete : Code → Option Fetched → (own : BlockId) → Bool
is_statement_complete c None own = false
is_statement_complete c (Some f) own = is_called_block_there c f.instr own

-- whether a frame stands, as many frames have local data as stand, and what the next statement
-- needs of the program is there
abbrev pub is_activation_ready : Code → Activation → Bool
is_activation_ready c a =
    if a.ended then false
    else if length a.running.locals.starts == length (frames_of a) then
    is_statement_complete c (c.fetch a.running.frame.block a.running.frame.at) a.running.frame.block
    else false
