use Rattle.machine.proofs.laws.what_verifying_gives.Goals as goal

pub returns : goal.returns
returns c = record {
  placed = c.ops_are_placed.ensures;
  table = c.ops_are_of_the_table.ensures;
  blocks = c.blocks_are_right.ensures;
  goes_on = c.code_goes_on.ensures;
  statements = c.statements_are_right.ensures;
  lines = c.statements_have_lines.ensures;
  brackets = c.brackets_fit.ensures;
  zones = c.zones_fit.ensures;
  targets = c.jumps_land.ensures.targets;
  lists = c.jumps_land.ensures.lists;
  operands = c.operands_fit.ensures;
  prepared = c.prepared_fit.ensures;
  calls = c.calls_fit.ensures.calls;
  passed = c.calls_fit.ensures.passed;
  called = c.calls_fit.ensures.blocks;
}
