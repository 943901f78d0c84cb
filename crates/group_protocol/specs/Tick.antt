-- A node after a tick.
use Rattle.std.specs.Prelude.{ℕ, ◌-◌, List, [], ◌∷◌, ◌++◌, filter_map, Option, Some, None, option_map, if◌then◌else◌, nat_lt, take, is_none}
use Rattle.std.specs.List.{range_with_len}
use Rattle.std.specs.Ordering.{nat_cmp}
use Rattle.std.specs.FinMap.{FinMap, get}
use Rattle.paxos_msg.specs.declared.value.Value.{Value}
use Rattle.paxos_msg.specs.declared.message.Body.TheVariants.{Prepare, Accept, Ask, Submit}
use Rattle.paxos_proposer.specs.Proposer.{Proposer, coverage_of, is_covered, next_of, proposed_at}
use Rattle.paxos_learner.specs.Learner.{front_of}
use Rattle.group_protocol.specs.Packets.{Packet, to_all, to_one}
use Rattle.group_protocol.specs.Pump.{accepts_of, pump}
use Rattle.group_protocol.specs.Known.{Known, Response, front}
use Rattle.group_protocol.specs.WaitingKeys.{batch_of}
use Rattle.paxos_msg.specs.declared.limits.TheConstants.{LAST_PLACE, PLACES}
use Rattle.group_protocol.specs.declared.limits.TheConstants.{MOST_AGAIN}
use Rattle.paxos_proposer.specs.declared.proposer.TheConstants.{MOST_PUMPED}

-- The Prepare that asks acceptor `i` for the rest, unless it has promised all places.
abbrev pub asks_again : Proposer → ℕ → Option Packet
asks_again p i =
    if nat_lt (coverage_of p i) PLACES then Some (to_one i (Prepare p.ballot (coverage_of p i)))
    else None

-- The Prepares to all acceptors that have not promised all places, ascending.
-- There are none if a majority has promised all places.
-- Source: Simple 2.1 and 2.2.
abbrev pub prepares_again : Proposer → List Packet
prepares_again p =
    if is_covered p LAST_PLACE then [] else filter_map (asks_again p) (range_with_len 1 p.size)

-- The Accept of what is proposed at a place, if the place is not learned.
-- Forbids: an Accept of a learned place.
abbrev pub accept_again : FinMap nat_cmp Value → Proposer → ℕ → Option Packet
accept_again learned p s =
    if is_none (get learned s) then option_map (λ v. to_all (Accept p.ballot s v)) (proposed_at p s)
    else None

-- The Accepts that are sent again: those at the 16 lowest such places.
-- Source: Simple 2.1 and 2.2.
-- Allows: the same Accept sent many times.
abbrev pub accepts_again : FinMap nat_cmp Value → Proposer → List Packet
accepts_again learned p =
    take MOST_AGAIN (filter_map (accept_again learned p)
    (range_with_len (front_of learned) (next_of p - front_of learned)))

-- The Submit of a batch, if there is one.
abbrev pub submits : Option Value → List Packet
submits None = []
submits (Some v) = to_all (Submit v) ∷ []

-- The Submit of the first keys that wait, and the Ask of what is learned from the front on.
-- Allows: the same keys submitted again.
-- Forbids: a key submitted before one that waits in front of it.
abbrev pub asks : Known → List Packet
asks n = submits (batch_of n n.waiting) ++ to_all (Ask (front n)) ∷ []

-- The response to a tick by a node's proposer, if it has one.
abbrev pub ticked : Known → Option Proposer → Response
ticked n None = record { node = n; saves = None; sends = asks n }
ticked n (Some p) = record {
  node = record n { proposer = Some (pump MOST_PUMPED p).proposer };
  saves = None;
  sends =
      (prepares_again p ++ accepts_again n.learner.learned p)
      ++ (accepts_of (pump MOST_PUMPED p).made ++ asks n);
}

-- The response to a tick.
-- In this order acceptors are asked for more promises, open Accepts are sent again, the node pumps,
-- the first keys that wait are submitted, and all are asked for what is learned.
-- Source: Simple 2.1, messages may be lost.
-- Allows: a tick of a node without a proposer.
-- Forbids: a save.
abbrev pub on_tick : Known → Response
on_tick n = ticked n n.proposer
