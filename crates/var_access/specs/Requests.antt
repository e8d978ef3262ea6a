-- Requests as texts spell them.
use Rattle.std.specs.Prelude.{ℕ, suc, ◌==◌, List, [], ◌∷◌, length, take, drop, reverse, map, nat_le, Bool, false, ◌&&◌, not, Option, Some, None, Ok, Err, bytes_eq, codes, if◌then◌else◌}
use Rattle.std.specs.List.{position_or_len, onto_first}
use Rattle.plc_base.specs.Texts.{is_blank}
use Rattle.plc_base.specs.declared.blocks.BlockKind.{BlockKind}
use Rattle.plc_base.specs.declared.blocks.BlockKind.TheVariants.{Ob, Fc, Fb}
use Rattle.var_access.specs.Readings.{Reading, both_readings, reading_map, all_readings, no_line, address_number, first_word, is_hex, trim, words_of}
use Rattle.var_access.specs.Variables.{Names, var_of, width_value, is_quote}
use Rattle.var_access.specs.declared.requests.Request.{Request}
use Rattle.var_access.specs.declared.requests.Request.TheVariants.{ReadVars, WriteVar, Stop, Restart, MonitorOn, MonitorOff, Diag}
use Rattle.var_access.specs.declared.requests.Var.{Var}

-- a byte is a comma, which separates variables
abbrev pub is_comma : ℕ → Bool
is_comma b = b == 44

-- the parts of a text between the commas that don't stand between quotes
abbrev pub comma_parts : (quoted : Bool) → List ℕ → List (List ℕ)
comma_parts quoted [] = [] ∷ []
comma_parts quoted (b ∷ t) =
    if is_quote b then onto_first b (comma_parts (not quoted) t)
    else if is_comma b && not quoted then [] ∷ comma_parts quoted t
    else onto_first b (comma_parts quoted t)

-- how many bytes stand before the first comma that doesn't stand between quotes
abbrev pub part_len : (quoted : Bool) → List ℕ → ℕ
part_len quoted [] = 0
part_len quoted (b ∷ t) =
    if is_quote b then suc (part_len (not quoted) t)
    else if is_comma b && not quoted then 0 else suc (part_len quoted t)

-- at most eight variables are read; more are not in the grammar
abbrev pub few_vars : List (Reading Var) → Reading (List Var)
few_vars vars = if nat_le (length vars) 8 then all_readings vars else no_line

-- the variables of a request that reads, with commas between them
abbrev pub vars_of : Names → List ℕ → Reading (List Var)
vars_of names text = few_vars (map (λ part. var_of names (trim part)) (comma_parts false text))

-- the request `read V, V ..`, by what stands behind `read`
unfoldable pub read_request : Names → List ℕ → Reading Request
read_request names rest = reading_map ReadVars (vars_of names rest)

-- the request that writes a value to a variable; for a variable that breaks a rule the value is
-- any hexadecimal number
abbrev pub write_to : Reading Var → List ℕ → Reading Request
write_to (Ok var) word = reading_map (WriteVar var) (width_value var.width word)
write_to (Err rule) word = if is_hex word then Err rule else no_line

-- the request `write V h`, by what stands behind `write`, from the last byte to the first: the
-- value is the last word
abbrev pub write_in : Names → (backwards : List ℕ) → Reading Request
write_in names backwards =
    write_to (var_of names (trim (reverse (drop (position_or_len is_blank backwards) backwards))))
    (reverse (take (position_or_len is_blank backwards) backwards))

-- the request `write V h`, by what stands behind `write`
unfoldable pub write_request : Names → List ℕ → Reading Request
write_request names rest = write_in names (reverse (trim rest))

-- the kind of a code block, by its word: OB, FC or FB; another word isn't in the grammar
unfoldable pub kind_of_word : List ℕ → Reading BlockKind
kind_of_word word =
    if bytes_eq word (codes "OB") then Ok Ob
    else if bytes_eq word (codes "FC") then Ok Fc
    else if bytes_eq word (codes "FB") then Ok Fb else no_line

-- the request `monitor on KIND n`, by its last three words
abbrev pub monitor_on : (how kind number : List ℕ) → Reading Request
monitor_on how kind number =
    if bytes_eq how (codes "on")
    then
    reading_map (λ b. MonitorOn (record { kind = b.0; number = b.1 }))
    (both_readings (kind_of_word kind) (address_number number))
    else no_line

-- the requests `monitor on KIND n` and `monitor off`, by the words behind `monitor`
unfoldable pub monitor_request : List (List ℕ) → Reading Request
monitor_request (how ∷ []) = if bytes_eq how (codes "off") then Ok MonitorOff else no_line
monitor_request (how ∷ kind ∷ number ∷ []) = monitor_on how kind number
monitor_request words = no_line

-- a request of one word, behind which no other stands
abbrev pub one_word : Request → List (List ℕ) → Reading Request
one_word r [] = Ok r
one_word r (word ∷ words) = no_line

-- a request by its first word and what follows it
unfoldable pub request_of : Names → (word rest : List ℕ) → Reading Request
request_of names word rest =
    if bytes_eq word (codes "read") then read_request names rest
    else if bytes_eq word (codes "write") then write_request names rest
    else if bytes_eq word (codes "stop") then one_word Stop (words_of rest)
    else if bytes_eq word (codes "restart") then one_word Restart (words_of rest)
    else if bytes_eq word (codes "monitor") then monitor_request (words_of rest)
    else if bytes_eq word (codes "diag") then one_word Diag (words_of rest) else no_line

-- a request by its first word and the rest, where it has a first word
abbrev pub request_by : Names → Option (List ℕ × List ℕ) → Reading Request
request_by names None = no_line
request_by names (Some w) = request_of names w.0 w.1

-- the request that a text spells, or the least rule that it breaks
unfoldable pub request_line : Names → List ℕ → Reading Request
request_line names text = request_by names (first_word text)
