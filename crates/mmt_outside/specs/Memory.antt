-- Sources and sinks in memory (this profile).
use Rattle.std.specs.Prelude.{ℕ, ◌+◌, ◌-◌, ◌^◌, ◌==◌, ◌&&◌, ◌||◌, min, nat_lt, if◌then◌else◌, Bool, List, length}
use Rattle.std.specs.List.{list_any}
use Rattle.mmt_outside.specs.Bytes.{Taken}

-- The calls made so far, the numbers of those that fail, the first call being number 1, and how many did.
pub record Calls : Type 0 where
  pub made : ℕ
  pub fails : List ℕ
  pub faults : ℕ

-- One more, up to the greatest number of 64 bits.
abbrev pub one_more : ℕ → ℕ
one_more count = min (count + 1) (2 ^ 64 - 1)

-- The state before the first call.
abbrev pub no_calls : List ℕ → Calls
no_calls fails = record { made = 0; fails = fails; faults = 0 }

-- The next call fails.
abbrev pub next_fails : Calls → Bool
next_fails calls = list_any (λ number. number == one_more calls.made) calls.fails

-- The same calls with one more fault.
abbrev pub with_fault : Calls → Calls
with_fault calls = record { made = calls.made; fails = calls.fails; faults = one_more calls.faults }

-- The same calls with one more made, which was no fault.
abbrev pub with_call : Calls → Calls
with_call calls = record { made = one_more calls.made; fails = calls.fails; faults = calls.faults }

-- The calls after the next one, where nothing else makes it fail.
abbrev pub after_call : Calls → Calls
after_call calls = if next_fails calls then with_fault (with_call calls) else with_call calls

-- A source in memory: the bytes left, and its calls.
pub record SourceState : Type 0 where
  pub left : List ℕ
  pub calls : Calls

-- A sink in memory: the bytes taken, how many it has room for in all, and its calls.
pub record SinkState : Type 0 where
  pub taken : Taken
  pub room : ℕ
  pub calls : Calls

-- How many bytes the sink has room for beside those it has taken.
abbrev pub room_left : SinkState → ℕ
room_left sink = sink.room - length sink.taken.bytes

-- The sink is full, and a piece of this length has a byte.
abbrev pub is_full_for : SinkState → ℕ → Bool
is_full_for sink count = nat_lt 0 count && room_left sink == 0

-- The next write of a piece of this length fails.
abbrev pub write_fails : SinkState → ℕ → Bool
write_fails sink count = next_fails sink.calls || is_full_for sink count

-- The calls of the sink after the next write, which is of a piece of this length.
abbrev pub after_write : SinkState → ℕ → Calls
after_write sink count = if write_fails sink count then with_fault (with_call sink.calls) else with_call sink.calls
