-- The growth of messages and records.
use Rattle.std.specs.Prelude.{◌≡◌, ℕ, List, [], ◌∷◌, ◌++◌, Option}
use Rattle.paxos_msg.specs.declared.record.Record.{Record}
use Rattle.paxos_msg.specs.declared.record.Change.{Change}
use Rattle.paxos_msg.specs.declared.message.Body.{Body}
use Rattle.paxos_msg.specs.Keys.{Key, Values}
use Rattle.paxos_msg.specs.Messages.{Sent}
use Rattle.paxos_msg.specs.Records.{empty_record, MaySave, IsSaved}
use Rattle.paxos_msg.specs.Sending.{MaySend}

-- The messages and the records, grown from nothing by allowed messages and saves, node after node
-- in any order. Each message is for some typed keys and some learned values, whichever they are. So
-- a law of all growths holds whatever was typed and learned.
-- Source: Simple 2.2.
-- Allows: Any interleaving; nodes that never take a step.
-- Forbids: A message that its sender was not allowed to send at that time.
pub data Grew {V : Type 0} (values : Values V) (size : ℕ) : Sent V → (ℕ → Record V) → Type 0 where
  nothing : (records : ℕ → Record V) → ((i : ℕ) → records i ≡ empty_record)
      → Grew values size [] records
  sends : (sent : Sent V) (records : ℕ → Record V) (typed : List Key) (learned : ℕ → Option V)
      (i : ℕ) (body : Body V) → Grew values size sent records
      → MaySend values size typed learned sent i (records i) body
      → Grew values size (sent ++ record { sender = i; body = body } ∷ []) records
  saves : (sent : Sent V) (records next : ℕ → Record V) (i : ℕ) (change : Change V)
      → Grew values size sent records → MaySave sent (records i) change
      → IsSaved records i change next → Grew values size sent next
