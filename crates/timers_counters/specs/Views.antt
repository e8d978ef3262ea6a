-- The timer and the counter that the fields of the code stand for.
use Rattle.timers_counters.specs.Counter.{Counter, IsCounter}
use Rattle.timers_counters.specs.Timer.{Timer, IsTimer}
use Rattle.timers_counters.specs.declared.counting.Counter.TheInside.{Inside as InsideCounter}
use Rattle.timers_counters.specs.declared.timing.Timer.TheInside.{Inside}

-- the timer that the fields of a Rust timer stand for
abbrev pub timer_of : Inside → Timer
timer_of t = record {
  kind = t.kind;
  base = t.base;
  left = t.left;
  running = t.running;
  output = t.output;
  start_edge = t.start_edge;
  free_edge = t.free_edge;
}

-- the fields of the Rust timer that stand for a timer
abbrev pub inside_of : Timer → Inside
inside_of t = record {
  kind = t.kind;
  base = t.base;
  left = t.left;
  running = t.running;
  output = t.output;
  start_edge = t.start_edge;
  free_edge = t.free_edge;
}

-- the fields of a Rust timer stand for a timer that can be: if it runs, time is left, at most 999
-- units of its base
abbrev pub KeepsTimer : Inside → Type 0
KeepsTimer t = IsTimer (timer_of t)

-- the counter that the fields of a Rust counter stand for
abbrev pub counter_of : InsideCounter → Counter
counter_of c = record {
  value = c.value;
  up_edge = c.up_edge;
  down_edge = c.down_edge;
  set_edge = c.set_edge;
  free_edge = c.free_edge;
}

-- the fields of the Rust counter that stand for a counter
abbrev pub inside_of_counter : Counter → InsideCounter
inside_of_counter c = record {
  value = c.value;
  up_edge = c.up_edge;
  down_edge = c.down_edge;
  set_edge = c.set_edge;
  free_edge = c.free_edge;
}

-- the fields of a Rust counter stand for a counter that can be: its value is at most 999
abbrev pub KeepsCounter : InsideCounter → Type 0
KeepsCounter c = IsCounter (counter_of c)
