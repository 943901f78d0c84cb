-- What a call of a node may save, learn and send.
use Rattle.std.specs.Prelude.{◌≡◌, ℕ, List, ◌++◌, Option, Some, None}
use Rattle.std.specs.Ordering.{nat_cmp}
use Rattle.std.specs.FinMap.{FinMap, get}
use Rattle.paxos_msg.specs.declared.value.Value.{Value}
use Rattle.paxos_msg.specs.declared.message.Body.TheVariants.{Submit, Tell}
use Rattle.paxos_msg.specs.Batches.{Body, Change, IsTyped, MaySendAll, Record, Sent}
use Rattle.paxos_msg.specs.Chosen.{IsChosen}
use Rattle.paxos_msg.specs.Keys.{Key}
use Rattle.paxos_msg.specs.Messages.{IsSaid, IsSent, messages_of}
use Rattle.paxos_msg.specs.Records.{changed, MaySave}
use Rattle.paxos_learner.specs.Backed.{IsLearnerBacked}
use Rattle.paxos_learner.specs.Learner.{HasLearnedMore}
use Rattle.group_protocol.specs.Known.{Response, Known}
use Rattle.group_protocol.specs.Packets.{Packet, bodies_of}
use Rattle.group_protocol.specs.Backs.{Backs}
use Rattle.group_protocol.specs.Ranges.{IsHeardFit}

-- The save of a change, if there is one, that may be made and leads from one record to the other.
-- Source: Simple 2.5.
abbrev pub IsSavedBy : Sent → Record → Option Change → Record → Type 0
IsSavedBy sent old None new = new ≡ old
IsSavedBy sent old (Some c) new = MaySave sent old c × (new ≡ changed old c)

-- The messages by which a node sends these packets.
abbrev pub messages_handed_out : ℕ → List Packet → Sent
messages_handed_out i packets = messages_of i (bodies_of packets)

-- The calls of a node that the rules allow.
-- Before it the record was `old`, and these values were learned. It saves what it may. What it has
-- learned is backed by what was sent before the call. What was learned stays. What it sends may be
-- sent, one message after another. Then the node is backed.
-- Source: Simple 2.2, 2.3 and 2.5.
-- Allows: a call that does nothing.
-- Forbids: a place learned from what the call itself sends.
pub record IsLawful (sent : Sent) (typed : List Key) (old : Record) (before : FinMap nat_cmp Value)
    (done : Response) : Type 0 where
  pub saves : IsSavedBy sent old done.saves done.node.kept
  pub learns : IsLearnerBacked sent done.node.learner
  pub keeps : HasLearnedMore before done.node.learner.learned
  pub sends : MaySendAll done.node.me.group.size typed
      (get done.node.learner.learned) sent done.node.me.node done.node.kept (bodies_of done.sends)
  pub backs : Backs (sent ++ messages_handed_out done.node.me.node done.sends) typed done.node

-- The calls of this node that the rules allow.
abbrev pub IsLawfulCall : Sent → List Key → Known → Response → Type 0
IsLawfulCall sent typed n done = IsLawful sent typed n.kept n.learner.learned done

-- The messages that node `j` has sent and that have a spelling in the group.
-- Source: Simple 2.1, messages are not corrupted.
-- Allows: a message from long ago.
-- Forbids: a message that nobody sent.
pub record IsDelivered (sent : Sent) (n : Known) (j : ℕ) (body : Body) : Type 0 where
  pub is_sent : IsSent sent j body
  pub fits : IsHeardFit n.me j body

-- ---- what a group says of all that was sent

-- The claim that each value that a Tell reports is chosen.
abbrev pub AllChosen : ℕ → Sent → Type 0
AllChosen size sent = (s : ℕ) (v : Value) → IsSaid sent (Tell s v) → IsChosen size sent s v

-- The claim that each value that was submitted was typed at its sender.
abbrev pub AllTyped : Sent → List Key → Type 0
AllTyped sent typed = (i : ℕ) (v : Value) → IsSent sent i (Submit v) → IsTyped typed i v
