-- A node after an Accepted, a Tell and an Ask, with its learner.
use Rattle.std.specs.Prelude.{ℕ, ◌-◌, min, filter_map, Option, None, option_map}
use Rattle.std.specs.List.{range_with_len}
use Rattle.std.specs.Ordering.{nat_cmp}
use Rattle.std.specs.FinMap.{FinMap, get}
use Rattle.paxos_msg.specs.declared.ballot.Ballot.{Ballot}
use Rattle.paxos_msg.specs.declared.value.Value.{Value}
use Rattle.paxos_msg.specs.declared.message.Body.TheVariants.{Tell}
use Rattle.paxos_learner.specs.Learner.{heard_accepted, heard_tell}
use Rattle.group_protocol.specs.Packets.{Packet, to_one}
use Rattle.group_protocol.specs.Known.{Known, Response, quiet, front}
use Rattle.group_protocol.specs.declared.limits.TheConstants.{MOST_TOLD}

-- The response to an Accepted: the learner hears it.
-- Source: Simple 2.3.
-- Forbids: anything sent or saved.
abbrev pub on_accepted : Known → ℕ → Ballot → ℕ → Value → Response
on_accepted n i b s v = quiet (record n { learner = (heard_accepted n.learner i b s v).learner })

-- The response to a Tell: the learner hears it.
-- Source: Simple 2.3.
-- Forbids: anything sent or saved.
abbrev pub on_tell : Known → ℕ → Value → Response
on_tell n s v = quiet (record n { learner = (heard_tell n.learner s v).learner })

-- The Tell of what is learned at a place, to node `j`, if a value is learned there.
abbrev pub tell_packet : FinMap nat_cmp Value → ℕ → ℕ → Option Packet
tell_packet learned j s = option_map (λ v. to_one j (Tell s v)) (get learned s)

-- The response to an Ask: Tells of what is learned from this place on up to the front, at most 16
-- places.
-- Allows: an Ask from above the front, to which no Tell is sent.
-- Forbids: a Tell of a place above the front.
abbrev pub on_ask : Known → ℕ → ℕ → Response
on_ask n j from = record {
  node = n;
  saves = None;
  sends =
      filter_map (tell_packet n.learner.learned j)
      (range_with_len from (min MOST_TOLD (front n - from)));
}
