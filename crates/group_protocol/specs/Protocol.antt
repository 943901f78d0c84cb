-- A node after a message, by the message's kind.
use Rattle.std.specs.Prelude.{◌≡◌, ◌≢◌, ℕ, ◌<◌, true, false, Some}
use Rattle.paxos_learner.specs.declared.heard.Heard.TheVariants.{Passed}
use Rattle.paxos_learner.specs.Learner.{heard_accepted, heard_tell}
use Rattle.paxos_proposer.specs.Proposer.{Proposer, is_covered, next_of}
use Rattle.paxos_msg.specs.declared.message.Body.TheVariants.{Prepare, Promise, Accept, Accepted, Refused, Submit, Ask, Tell}
use Rattle.paxos_msg.specs.Batches.{Body, Msg}
use Rattle.group_protocol.specs.AcceptorResponses.{on_accept, on_prepare}
use Rattle.group_protocol.specs.Known.{Response, Known, front}
use Rattle.group_protocol.specs.LearnerResponses.{on_accepted, on_ask, on_tell}
use Rattle.group_protocol.specs.ProposerResponses.{on_refused, on_promise, on_submit, is_known}
use Rattle.group_protocol.specs.WaitingKeys.{without_read}

-- The response to a message of node `j`, by its kind.
-- Forbids: a kind without a response.
abbrev pub response_to : Known → ℕ → Body → Response
response_to n j (Prepare b from) = on_prepare n b from
response_to n j (Promise b first upto votes) = on_promise n j b first upto votes
response_to n j (Accept b s v) = on_accept n b s v
response_to n j (Accepted b s v) = on_accepted n j b s v
response_to n j (Refused b promised) = on_refused n b promised
response_to n j (Submit v) = on_submit n v
response_to n j (Ask from) = on_ask n j from
response_to n j (Tell s v) = on_tell n s v

-- The messages at which a node may need memory: it answers them, or what they bring is new.
-- Forbids: memory for a Refused, and for what is ignored. That is a Promise under another ballot, a
-- Submit at a node that does not lead or that knows all its keys, an Ask from the front on, and an
-- Accepted and a Tell that change nothing.
abbrev pub NeedsMemory : Known → ℕ → Body → Type 0
NeedsMemory n j (Prepare b from) = Unit {0}
NeedsMemory n j (Promise b first upto votes) =
    (p : Proposer) × (n.proposer ≡ Some p) × (p.ballot ≡ b)
NeedsMemory n j (Accept b s v) = Unit {0}
NeedsMemory n j (Accepted b s v) = (heard_accepted n.learner j b s v).answer ≢ Passed
NeedsMemory n j (Refused b promised) = ⊥
NeedsMemory n j (Submit v) =
    (p : Proposer) × (n.proposer ≡ Some p) × (is_covered p (next_of p) ≡ true)
    × (is_known n v ≡ false)
NeedsMemory n j (Ask from) = from < front n
NeedsMemory n j (Tell s v) = (heard_tell n.learner s v).answer ≢ Passed

-- The response after which the first waiting keys, up to one that is not below the front, wait no
-- more.
abbrev pub without_read_keys : Response → Response
without_read_keys done = record done { node = without_read done.node }

-- The response to a message of node `j`, after which the first waiting keys, up to one that is not
-- below the front, wait no more.
-- Allows: a message that was delivered before; a later key that is below the front and still waits.
abbrev pub on_message : Known → ℕ → Body → Response
on_message n j body = without_read_keys (response_to n j body)

-- The response to this message.
abbrev pub answer_to : Msg → Known → Response
answer_to m n = on_message n m.sender m.body
