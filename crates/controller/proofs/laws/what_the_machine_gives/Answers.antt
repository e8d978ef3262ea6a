use Rattle.controller.proofs.laws.what_the_machine_gives.Goals as goal

pub returns : goal.returns
returns c = record {
  goes = c.what_fits_goes.ensures;
  lasts = c.what_fits_lasts.ensures.step;
  stays = c.what_fits_stays.ensures;
  begins = c.blocks_begin.ensures.fits;
  room = c.blocks_begin.ensures.room;
  registers = c.what_fits_may_change.ensures.registers;
  delay = c.what_fits_may_change.ensures.delay;
  local_byte = c.what_fits_may_change.ensures.local_byte;
  result = c.results_fit.ensures;
  first = c.memory_is_kept.ensures.begins;
  writes = c.memory_is_kept.ensures.writes;
  inputs = c.memory_is_kept.ensures.inputs;
  clears = c.memory_is_kept.ensures.clears;
  refreshes = c.memory_is_kept.ensures.refreshes;
}
