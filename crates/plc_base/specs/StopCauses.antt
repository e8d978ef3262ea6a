-- The causes of STOP.
use Rattle.std.specs.Prelude.{ℕ}

-- the program stops the controller by SFC 46
abbrev pub by_program : ℕ
by_program = 1

-- the operator stops the controller
abbrev pub by_operator : ℕ
by_operator = 2

-- a synchronous error for which OB 121 isn't loaded
abbrev pub no_ob_121 : ℕ
no_ob_121 = 3

-- a synchronous error for which OB 122 isn't loaded
abbrev pub no_ob_122 : ℕ
no_ob_122 = 4

-- a synchronous error in OB 121 or OB 122
abbrev pub in_error_ob : ℕ
in_error_ob = 5

-- a block is called where the activation already has the most frames of its profile
abbrev pub block_depth : ℕ
block_depth = 6

-- a block is called whose local bytes don't fit into the 1024 of its activation
abbrev pub local_data : ℕ
local_data = 7

-- a request of an organization block that isn't loaded, without OB 85
abbrev pub no_ob_85 : ℕ
no_ob_85 = 8

-- a time error, without OB 80
abbrev pub no_ob_80 : ℕ
no_ob_80 = 9

-- the cycle time was exceeded a second time before a cycle point
abbrev pub cycle_time_twice : ℕ
cycle_time_twice = 10
