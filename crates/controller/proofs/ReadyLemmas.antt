-- Where a statement can go it is there, and so is its line.
use Rattle.std.proofs.Common.{◌≡◌, ℕ, true, Option, Some, None, IsSome, refl}
use Rattle.std.specs.Option.{option_map, option_and_then}
use Rattle.plc_base.specs.declared.Profile.TheVariants.{Small}
use Rattle.plc_base.specs.declared.BlockId.{BlockId}
use Rattle.plc_base.specs.declared.Spot.{Spot}
use Rattle.frames.specs.declared.Activation.{Activation}
use Rattle.flat_code.specs.PlacedOps.{line_placed}
use Rattle.flat_code.specs.Programs.{CodeBlock, Program}
use Rattle.image_file.specs.Readers.{block_by_id, line_at_offset}
use Rattle.machine.specs.Code.{Code, Fetched}
use Rattle.flat_code.specs.Codes.{most_ops}
use Rattle.machine.specs.Flat.{code_of, statement_fetched, op_run_at, OpRun, fetched_of}
use Rattle.machine.specs.Lasting.{IsStatementReady}
use Rattle.machine.specs.Statement.{GlobalStore, IsNotStuck, step_found, statement_step}
use Rattle.controller.specs.Ready.{HasStatement}
use Rattle.controller.specs.Start.{global_store_at_rest}
use Rattle.controller.specs.Stopping.{statement_spot}

fetched_there : (code : Code) (f : Option Fetched) (a : Activation) (w : GlobalStore)
    → IsNotStuck (step_found code f a w) → IsSome f
fetched_there code None a w goes = absurd goes
fetched_there code (Some f) a w goes = refl

pub statement_there : (code : Code) (a : Activation) (w : GlobalStore) → IsNotStuck (statement_step code a w)
    → HasStatement code a.running.frame.block a.running.frame.at
unfolding statement_step HasStatement
statement_there code a w goes =
    fetched_there code (code.fetch a.running.frame.block a.running.frame.at) a w goes

-- the reader of lines gives the line of a statement that is there
abbrev spot_by : BlockId → Option ℕ → Option Spot
spot_by block line = option_map (λ n. record { block = block; line = n }) line

run_spot : (b : CodeBlock) (block : BlockId) (line : ℕ) (run : Option OpRun)
    → IsSome (option_map (fetched_of b.code line) run)
    → spot_by block (Some line)
    ≡ option_map (λ (f : Fetched). record { block = block; line = f.line }) (option_map (fetched_of b.code line) run)
run_spot b block line None there = absurd cc
run_spot b block line (Some run) there = refl

line_spot : (b : CodeBlock) (block : BlockId) (at : ℕ) (line : Option ℕ)
    → IsSome (option_and_then (λ n. option_map (fetched_of b.code n) (op_run_at most_ops b.code at)) line)
    → spot_by block line
    ≡ option_map (λ (f : Fetched). record { block = block; line = f.line })
    (option_and_then (λ n. option_map (fetched_of b.code n) (op_run_at most_ops b.code at)) line)
line_spot b block at None there = absurd cc
line_spot b block at (Some line) there = run_spot b block line (op_run_at most_ops b.code at) there

block_spot : (block : BlockId) (at : ℕ) (b : Option CodeBlock)
    → IsSome (option_and_then (λ b. statement_fetched b at) b)
    → spot_by block (option_and_then (λ b. line_placed 0 true b.code b.lines at) b)
    ≡ option_map (λ (f : Fetched). record { block = block; line = f.line })
    (option_and_then (λ b. statement_fetched b at) b)
unfolding statement_fetched
block_spot block at None there = absurd cc
block_spot block at (Some b) there =
    line_spot b block at (line_placed 0 true b.code b.lines at) there

pub spot_read : (p : Program) (block : BlockId) (at : ℕ) → HasStatement (code_of p) block at
    → option_map (λ n. record { block = block; line = n }) (line_at_offset block at p.code_blocks)
    ≡ statement_spot (code_of p) block at
unfolding HasStatement
spot_read p block at there = block_spot block at (block_by_id block p.code_blocks) there

-- where an activation can execute, a statement stands at the position of its innermost frame
pub can_go_there : (code : Code) (a : Activation) → IsStatementReady code a
    → HasStatement code a.running.frame.block a.running.frame.at
can_go_there code a can =
    statement_there code a (global_store_at_rest Small code) (can.there (global_store_at_rest Small code))
