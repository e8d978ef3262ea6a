-- The longest token at a place.
use Rattle.std.specs.Prelude.{◌≡◌, ℕ, ◌<◌, ◌≤◌, ◌⊎◌, Bool, true, List, length, take, drop, Option, None, Some, MatchOption, max, nat_lt, if◌then◌else◌}
use Rattle.stl_lexer.specs.declared.kinds.TokenKind.{TokenKind}
use Rattle.stl_lexer.specs.declared.kinds.TokenKind.TheVariants.{Word, Number, Quoted, Local, Characters, Based, NumberLiteral, TimeLiteral, Mark, SignWord, Attribute, Title}
use Rattle.stl_lexer.specs.declared.places.FoundToken.{FoundToken}
use Rattle.stl_lexer.specs.declared.tables.Tail.{Tail}
use Rattle.stl_lexer.specs.Forms.{is_tail, has_form}

-- a form says of some bytes, and of what follows them, whether they are such a token
abbrev pub Form : Type 0
Form = List ℕ → List ℕ → Bool

-- the first `n` bytes of a text, one at least, have a form
pub record IsFormAt (form : Form) (text : List ℕ) (n : ℕ) : Type 0 where
  -- at least one byte belongs to the token
  pub some : 0 < n
  -- the text has at least `n` bytes
  pub within : n ≤ length text
  -- the first `n` bytes have the form, before what follows them
  pub fits : form (take n text) (drop n text) ≡ true

-- no bytes at the front of a text have a form
abbrev pub HasNoneOfForm : Form → List ℕ → Type 0
HasNoneOfForm form text = (n : ℕ) → ¬ IsFormAt form text n

-- the first `n` bytes of a text have a form, and no more of them
pub record IsLongestOfForm (form : Form) (text : List ℕ) (n : ℕ) : Type 0 where
  -- the first `n` bytes have the form
  pub fits : IsFormAt form text n
  -- no more than `n` bytes at the front have the form
  pub longest : (m : ℕ) → IsFormAt form text m → m ≤ n

-- the number of the most bytes at the front of a text that have a form, or None where none have it
abbrev pub FindsLongest : Form → List ℕ → Option ℕ → Type 0
FindsLongest form text found =
    MatchOption found (HasNoneOfForm form text) (IsLongestOfForm form text)

-- the first `n` bytes of a text, or none where `n` is 0, are a tail of this kind
pub record IsTailAt (tail : Tail) (text : List ℕ) (n : ℕ) : Type 0 where
  -- the text has at least `n` bytes
  pub within : n ≤ length text
  -- the first `n` bytes are a tail of this kind, before what follows them
  pub fits : is_tail tail (take n text) (drop n text) ≡ true

-- the first `n` bytes of a text are a tail of this kind, and no more of them; `n` may be 0
pub record IsLongestTail (tail : Tail) (text : List ℕ) (n : ℕ) : Type 0 where
  -- the first `n` bytes are a tail of this kind
  pub fits : IsTailAt tail text n
  -- no more than `n` bytes at the front are a tail of this kind
  pub longest : (m : ℕ) → IsTailAt tail text m → m ≤ n

-- the length of the longest tail of this kind at the front of a text, or None
abbrev pub FindsTail : Tail → List ℕ → Option ℕ → Type 0
FindsTail tail text found =
    MatchOption found ((n : ℕ) → ¬ IsTailAt tail text n) (IsLongestTail tail text)

-- the greater of two lengths, where there are any
abbrev pub longer_of : Option ℕ → Option ℕ → Option ℕ
longer_of None b = b
longer_of (Some a) None = Some a
longer_of (Some a) (Some b) = Some (max a b)

-- the place of a kind in the table of tokens
abbrev pub kind_rank : TokenKind → ℕ
kind_rank Word = 0
kind_rank Number = 1
kind_rank Quoted = 2
kind_rank Local = 3
kind_rank Characters = 4
kind_rank Based = 5
kind_rank NumberLiteral = 6
kind_rank TimeLiteral = 7
kind_rank Mark = 8
kind_rank SignWord = 9
kind_rank Attribute = 10
kind_rank Title = 11

-- the longest token at the front of the text: it has the form of its kind, and any other token
-- there is shorter, or as long and of a kind that stands before it in the table (the word TITLE at
-- a line's end is a title)
pub record IsLongestToken (text : List ℕ) (kind : TokenKind) (n : ℕ) : Type 0 where
  -- the first `n` bytes have the form of the kind
  pub fits : IsFormAt (has_form kind) text n
  -- bytes with the form of any kind are fewer, or as many and of a kind no later in the table
  pub longest : (other : TokenKind) (m : ℕ) → IsFormAt (has_form other) text m
      → (m < n) ⊎ ((m ≡ n) × (kind_rank other ≤ kind_rank kind))

-- no token begins at the front of the text
abbrev pub HasNoForm : List ℕ → Type 0
HasNoForm text = (kind : TokenKind) → HasNoneOfForm (has_form kind) text

-- the longest token at the front of the text, or None
abbrev pub FindsToken : List ℕ → Option FoundToken → Type 0
FindsToken text found =
    MatchOption found (HasNoForm text) (λ token. IsLongestToken text token.kind token.length)

-- the better of the token found so far and one of a further kind: the longer, or the later of two
-- that are as long
abbrev pub better_of : Option FoundToken → TokenKind → Option ℕ → Option FoundToken
better_of best kind None = best
better_of None kind (Some n) = Some (record { kind = kind; length = n })
better_of (Some best) kind (Some n) =
    if nat_lt n best.length then Some best else Some (record { kind = kind; length = n })
