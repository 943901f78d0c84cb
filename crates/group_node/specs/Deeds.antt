-- What the process of a node does, one deed after the other.
use Rattle.std.specs.Prelude.{ℕ}
use Rattle.paxos_msg.specs.Batches.{Msg, Record}

-- What a process does in one deed: it starts over the record that its load gave, hears a message,
-- takes a typed byte, campaigns, ticks, runs its machine for at most so many steps, releases a
-- byte, ends, or does nothing.
-- It ends by itself, or because it is killed or its computer fails. It does nothing (`Idle`) as at
-- a datagram that it drops, or in a call that ran out of memory.
pub data Deed : Type 0 where
  Idle : Deed
  Start : Record → Deed
  Hear : Msg → Deed
  Press : ℕ → Deed
  Campaign : Deed
  Tick : Deed
  Run : ℕ → Deed
  Release : Deed
  Crash : Deed
