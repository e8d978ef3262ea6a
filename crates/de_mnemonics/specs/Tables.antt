-- The words that differ between the English and the German mnemonics of the Statement List, in
-- pairs: the English word, the German word. All other words are the same in both (docs/LANGUAGE.md,
-- "German mnemonics").
use Rattle.std.specs.Prelude.{ℕ, List, [], ◌∷◌, codes}

-- a table of words in pairs: English, German
abbrev pub WordPairs : Type 0
WordPairs = List (List ℕ × List ℕ)

-- the instruction words that are no jumps
unfoldable pub instruction_pairs : WordPairs
instruction_pairs =
    (codes "A", codes "U")
    ∷ (codes "AN", codes "UN")
    ∷ (codes "AW", codes "UW")
    ∷ (codes "AD", codes "UD")
    ∷ (codes "SP", codes "SI")
    ∷ (codes "SE", codes "SV")
    ∷ (codes "SD", codes "SE")
    ∷ (codes "SF", codes "SA")
    ∷ (codes "CU", codes "ZV")
    ∷ (codes "CD", codes "ZR")
    ∷ (codes "BEC", codes "BEB")
    ∷ (codes "BEU", codes "BEA")
    ∷ (codes "OPN", codes "AUF")
    ∷ (codes "CDB", codes "TDB")
    ∷ (codes "CAW", codes "TAW")
    ∷ (codes "CAD", codes "TAD")
    ∷ (codes "CAR", codes "TAR")
    ∷ []

-- the instruction words of jumps
unfoldable pub jump_pairs : WordPairs
jump_pairs =
    (codes "JU", codes "SPA")
    ∷ (codes "JL", codes "SPL")
    ∷ (codes "JC", codes "SPB")
    ∷ (codes "JCN", codes "SPBN")
    ∷ (codes "JCB", codes "SPBB")
    ∷ (codes "JNB", codes "SPBNB")
    ∷ (codes "JBI", codes "SPBI")
    ∷ (codes "JNBI", codes "SPBIN")
    ∷ (codes "JO", codes "SPO")
    ∷ (codes "JOS", codes "SPS")
    ∷ (codes "JZ", codes "SPZ")
    ∷ (codes "JN", codes "SPN")
    ∷ (codes "JP", codes "SPP")
    ∷ (codes "JM", codes "SPM")
    ∷ (codes "JPZ", codes "SPPZ")
    ∷ (codes "JMZ", codes "SPMZ")
    ∷ (codes "JUO", codes "SPU")
    ∷ []

-- the operand words that take a number: inputs, outputs, counters, peripheral inputs and outputs
unfoldable pub operand_pairs : WordPairs
operand_pairs =
    (codes "I", codes "E")
    ∷ (codes "IB", codes "EB")
    ∷ (codes "IW", codes "EW")
    ∷ (codes "ID", codes "ED")
    ∷ (codes "Q", codes "A")
    ∷ (codes "QB", codes "AB")
    ∷ (codes "QW", codes "AW")
    ∷ (codes "QD", codes "AD")
    ∷ (codes "C", codes "Z")
    ∷ (codes "PIB", codes "PEB")
    ∷ (codes "PIW", codes "PEW")
    ∷ (codes "PID", codes "PED")
    ∷ (codes "PQB", codes "PAB")
    ∷ (codes "PQW", codes "PAW")
    ∷ (codes "PQD", codes "PAD")
    ∷ []

-- the operand word that stands alone: the binary result
unfoldable pub result_pairs : WordPairs
result_pairs = (codes "BR", codes "BIE") ∷ []

-- the jump whose word is the same in both languages
unfoldable pub common_jumps : List (List ℕ)
common_jumps = codes "LOOP" ∷ []

-- the words that open a block of statements
unfoldable pub code_openings : List (List ℕ)
code_openings = codes "ORGANIZATION_BLOCK" ∷ codes "FUNCTION" ∷ codes "FUNCTION_BLOCK" ∷ []

-- the words that open a block of data
unfoldable pub data_openings : List (List ℕ)
data_openings = codes "DATA_BLOCK" ∷ codes "TYPE" ∷ []

-- the word that opens a body
unfoldable pub begin_words : List (List ℕ)
begin_words = codes "BEGIN" ∷ []

-- the words that end a block of statements
unfoldable pub block_end_words : List (List ℕ)
block_end_words =
    codes "END_ORGANIZATION_BLOCK" ∷ codes "END_FUNCTION" ∷ codes "END_FUNCTION_BLOCK" ∷ []

-- the word that opens a network
unfoldable pub network_words : List (List ℕ)
network_words = codes "NETWORK" ∷ []

-- the word of `)MCR`, which ends a zone of the master control relay
unfoldable pub zone_words : List (List ℕ)
zone_words = codes "MCR" ∷ []
