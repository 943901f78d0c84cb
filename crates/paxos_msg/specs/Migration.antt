-- Messages and records with other values, and the values of version 1 as batches of one key.
use Rattle.std.specs.Prelude.{[], ◌∷◌, map, Option, Some, None}
use Rattle.std.specs.Option.{option_to_list}
use Rattle.paxos_msg.specs.declared.value.Value.{Value}
use Rattle.paxos_msg.specs.declared.value.Value.TheVariants.{Noop, Keys}
use Rattle.paxos_msg.specs.declared.record.Record.{Record}
use Rattle.paxos_msg.specs.declared.record.Change.{Change}
use Rattle.paxos_msg.specs.declared.record.Change.TheVariants as change
use Rattle.paxos_msg.specs.declared.message.Body.TheVariants.{Promise}
use Rattle.paxos_msg.specs.declared.message.Msg.{Msg}
use Rattle.paxos_msg.specs.Bodies.{body_with, vote_with}
use Rattle.paxos_msg.specs.Keys.{Key, Values}
use Rattle.paxos_msg.specs.Messages.{Sent}

-- ---- with other values

-- The message with each value replaced by `f`.
abbrev pub msg_with : {V W : Type 0} → (V → W) → Msg V → Msg W
msg_with f m = record { sender = m.sender; body = body_with f m.body }

-- The messages with each value replaced by `f`.
-- Forbids: A changed ballot, place or sender.
abbrev pub sent_with : {V W : Type 0} → (V → W) → Sent V → Sent W
sent_with f sent = map (msg_with f) sent

-- The record with each value replaced by `f`.
-- Forbids: A changed ballot or place.
abbrev pub record_with : {V W : Type 0} → (V → W) → Record V → Record W
record_with f r =
    record { starts = r.starts; promised = r.promised; votes = map (vote_with f) r.votes }

-- The change with its value replaced by `f`.
abbrev pub change_with : {V W : Type 0} → (V → W) → Change V → Change W
change_with f change.Start = change.Start
change_with f (change.Promise b) = change.Promise b
change_with f (change.Ballotted s b v) = change.Ballotted s b (f v)

-- ---- version 1

-- The values of version 1: a key, or a no-op.
abbrev pub single_keys : Values (Option Key)
single_keys = record { noop = None; keys = option_to_list }

-- The value of today for one of version 1: a key becomes a batch of one.
-- Allows: A no-op stays a no-op.
-- Forbids: A batch with another key.
abbrev pub as_batch : Option Key → Value
as_batch None = Noop
as_batch (Some k) = Keys k.node k.start k.serial (k.byte ∷ [])
