-- Walks over the bytes of code.
use Rattle.std.specs.Prelude.{◌≡◌, ◌≤◌, ℕ, Bool, List, ◌++◌, length, drop}
use Rattle.flat_code.specs.Ops.{OpData}
use Rattle.flat_code.specs.Codes.{ops_from, code_bytes, last_place, ends_by_be, overlong_statement}

-- the ops `front`, in front of at most n that `bytes` have from the offset `at` on, and the bytes
-- that are left behind them
abbrev pub ops_behind_front : List OpData → ℕ → List ℕ → ℕ → List OpData × List ℕ
ops_behind_front front n bytes at =
    (front ++ (ops_from n (drop at bytes)).0, (ops_from n (drop at bytes)).1)

-- the ops of a block's code were read up to the offset `at`: `before` is the offset of the last of
-- them, `end` whether it is BE with the end mark, `count` how many the unfinished statement has
pub record HasReadOps
    (code : List ℕ)
    (ops : List OpData)
    (at before : ℕ)
    (end : Bool)
    (count : ℕ) : Type 0 where
  -- the offset lies within the code
  pub within : at ≤ length code
  -- the ops that were read and those from the offset on are all ops of the code
  pub all : ops_behind_front ops (length code) code at ≡ ops_from (length code) code
  -- the ops that were read take the bytes up to the offset
  pub size : length (code_bytes ops) ≡ at
  -- `before` is the offset of the last op that was read
  pub last : before ≡ last_place 0 ops
  -- `end` says whether the last op that was read is BE with the end mark
  pub ended : end ≡ ends_by_be ops
  -- the 65th op of a statement, if there is one, is found from the offset on, with `count` ops of
  -- its statement before it
  pub few :
      overlong_statement 0 0 (ops_from (length code) code).0
      ≡ overlong_statement count at (ops_from (length code) (drop at code)).0
