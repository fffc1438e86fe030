-- One role of a host in memory: what it holds, and what each call leaves.
use Rattle.std.specs.Prelude.{ℕ, ◌≤◌, Bool, true, false, List, [], ◌++◌, length, take, drop, Option, Some, None, Result, Ok, Err}
use Rattle.mn_edge.specs.declared.fail.Op.{Op}
use Rattle.mn_edge.specs.declared.fail.Op.TheVariants.{Begin, Read, Write, Finish}
use Rattle.mn_edge.specs.declared.host.Failed.{Failed}
use Rattle.mn_edge.specs.Part.{Part, one_more}

-- how many calls of each kind were made on the role, each count up to 2^64 - 1
pub record Calls : Type 0 where
  pub begins : ℕ
  pub reads : ℕ
  pub writes : ℕ
  pub finishes : ℕ

-- what the host holds for the role
pub record StreamView : Type 0 where
  pub left : List ℕ
  pub written : List ℕ
  -- how many written bytes it can hold
  pub room : ℕ
  pub name : Option (List ℕ)
  pub active : Bool
  pub faults : ℕ
  -- how many begins went well
  pub begins : ℕ
  pub calls : Calls

abbrev pub no_calls : Calls
no_calls = record { begins = 0; reads = 0; writes = 0; finishes = 0 }

-- a role with these bytes to read and room for so many to write, before any call
abbrev pub unused_stream : List ℕ → ℕ → StreamView
unused_stream bytes room = record {
  left = bytes;
  written = [];
  room = room;
  name = None;
  active = false;
  faults = 0;
  begins = 0;
  calls = no_calls;
}

-- what the host tells of the role: all its bytes
abbrev pub told_part : StreamView → Part
told_part stream = record {
  left = Some stream.left;
  written = Some stream.written;
  name = stream.name;
  active = stream.active;
  faults = stream.faults;
  begins = stream.begins;
}

-- it has no room for another written byte
abbrev pub IsFull : StreamView → Type 0
IsFull stream = stream.room ≤ length stream.written

-- how many calls of that kind were made
abbrev pub calls_of : Op → Calls → ℕ
calls_of Begin calls = calls.begins
calls_of Read calls = calls.reads
calls_of Write calls = calls.writes
calls_of Finish calls = calls.finishes

-- one more call of that kind
abbrev pub one_call_more : Op → Calls → Calls
one_call_more Begin calls = record calls { begins = one_more calls.begins }
one_call_more Read calls = record calls { reads = one_more calls.reads }
one_call_more Write calls = record calls { writes = one_more calls.writes }
one_call_more Finish calls = record calls { finishes = one_more calls.finishes }

-- after a call of that kind that failed
abbrev pub after_fault : Op → StreamView → StreamView
after_fault op stream = record stream { faults = one_more stream.faults; calls = one_call_more op stream.calls }

abbrev pub after_begin : List ℕ → StreamView → Result (Unit {0}) Failed → StreamView
after_begin text stream (Ok _) = record stream {
  name = Some text;
  active = true;
  begins = one_more stream.begins;
  calls = one_call_more Begin stream.calls;
}
after_begin text stream (Err _) = after_fault Begin stream

abbrev pub after_read : StreamView → Result ℕ Failed → StreamView
after_read stream (Ok n) = record stream { left = drop n stream.left; calls = one_call_more Read stream.calls }
after_read stream (Err _) = after_fault Read stream

abbrev pub after_write : List ℕ → StreamView → Result ℕ Failed → StreamView
after_write piece stream (Ok n) = record stream { written = stream.written ++ take n piece; calls = one_call_more Write stream.calls }
after_write piece stream (Err _) = after_fault Write stream

abbrev pub after_finish : StreamView → Result (Unit {0}) Failed → StreamView
after_finish stream (Ok _) = record stream { active = false; calls = one_call_more Finish stream.calls }
after_finish stream (Err _) = after_fault Finish stream
