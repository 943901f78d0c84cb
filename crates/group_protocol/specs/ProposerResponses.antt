-- A node after a campaign, a Promise, a Refused and a Submit, with its proposer.
use Rattle.std.specs.Prelude.{ℕ, ◌+◌, List, [], ◌∷◌, ◌++◌, length, Option, Some, None, option_map, if◌then◌else◌, nat_lt, ◌&&◌, ◌||◌, not, Bool, false}
use Rattle.paxos_msg.specs.declared.ballot.Ballot.{Ballot}
use Rattle.paxos_msg.specs.declared.value.Value.{Value}
use Rattle.paxos_msg.specs.declared.record.Change.TheVariants as change
use Rattle.paxos_msg.specs.declared.message.Body.TheVariants.{Prepare}
use Rattle.paxos_msg.specs.Keys.{Key, keys_of}
use Rattle.paxos_msg.specs.Records.{changed}
use Rattle.paxos_msg.specs.Tests.{ballot_lt, same_ballot}
use Rattle.paxos_proposer.specs.Proposer.{Proposer, new_proposer, greatest_round, proposer_after_part, asks_on, is_covered, is_kept_from, next_of}
use Rattle.paxos_learner.specs.Input.{has_key, is_learned}
use Rattle.group_protocol.specs.Packets.{Packet, to_all, to_one}
use Rattle.std.specs.List.{list_all}
use Rattle.paxos_msg.specs.Batches.{Vote}
use Rattle.paxos_learner.specs.Entered.{keys_with}
use Rattle.group_protocol.specs.Pump.{Proposals, accepts_of, offer, pump, stop}
use Rattle.group_protocol.specs.Known.{Known, Response, quiet, front}
use Rattle.paxos_msg.specs.declared.limits.TheConstants.{PLACES}
use Rattle.paxos_proposer.specs.declared.proposer.TheConstants.{MOST_PUMPED}

-- The greatest round of a ballot that the node has promised or that a Refused reported.
abbrev pub last_round : Known → ℕ
last_round n = greatest_round n.kept.promised n.remembered

-- The node's next ballot: one round above the greatest one, under its own number.
-- Source: Simple 2.5, proposal numbers.
-- Forbids: a ballot that is not above the promised one.
abbrev pub next_ballot : Known → Ballot
next_ballot n = record { round = last_round n + 1; node = n.me.node }

-- The response that begins a ballot.
-- The ballot is promised and saved. A proposer begins under it at the known front with nothing
-- offered, and asks all for their promises from there on.
-- Source: Simple 2.2, phase 1(a); 3, phase 1 for many places at once.
abbrev pub beginning : Known → Ballot → Response
beginning n b = record {
  node = record n {
    kept = changed n.kept (change.Promise b);
    proposer = Some (new_proposer b (front n) n.me.group.size);
    offered = [];
  };
  saves = Some (change.Promise b);
  sends = to_all (Prepare b (front n)) ∷ [];
}

-- The response to a campaign: the node begins its next ballot.
-- Source: Simple 2.2, phase 1(a); 2.5, proposal numbers; 3.
-- Allows: a campaign of a node that leads.
-- Forbids: a ballot that is not above the promised one.
abbrev pub on_campaign : Known → Response
on_campaign n = beginning n (next_ballot n)

-- The greater of two ballots, if there was one before.
-- Forbids: a smaller ballot in the place of a greater one.
abbrev pub greater_ballot : Option Ballot → Ballot → Ballot
greater_ballot None c = c
greater_ballot (Some b) c = if ballot_lt b c then c else b

-- The proposer, unless its ballot was refused.
abbrev pub unless_refused : Ballot → Option Proposer → Option Proposer
unless_refused b None = None
unless_refused b (Some p) = if same_ballot p.ballot b then None else Some p

-- The response to a Refused.
-- The reported ballot is remembered if it is greater, and the proposer of the refused ballot is
-- dropped.
-- Source: Simple 2.2, a proposer is informed of a greater ballot.
-- Allows: a Refused of another ballot, which is remembered all the same.
abbrev pub on_refused : Known → Ballot → Ballot → Response
on_refused n b promised =
    quiet (record n {
      remembered = Some (greater_ballot n.remembered promised);
      proposer = unless_refused b n.proposer;
    })

-- The ballot of a node's proposer, if it has one.
abbrev pub own_ballot : Option Proposer → Option Ballot
own_ballot proposer = option_map (λ p. p.ballot) proposer

-- The test that a majority has promised the place at which a node's proposer proposes next.
-- Forbids: a node without a proposer that leads.
abbrev pub is_leading : Option Proposer → Bool
is_leading None = false
is_leading (Some p) = is_covered p (next_of p)

-- The response of a proposer's proposals, whose Accepts are sent after other packets.
abbrev pub proposing_on : Known → List Packet → Proposals → Response
proposing_on n before proposals = record {
  node = record n { proposer = Some proposals.proposer };
  saves = None;
  sends = before ++ accepts_of proposals.made;
}

-- The Prepare that asks acceptor `j` for its promises from a place on, if there is one.
abbrev pub prepare_from : Ballot → ℕ → Option ℕ → List Packet
prepare_from b j None = []
prepare_from b j (Some s) = to_one j (Prepare b s) ∷ []

-- The response to a part of a promise for the proposer's own ballot.
-- The part is taken, the acceptor is asked for the rest if its coverage rose and does not reach all
-- places, and then the node pumps.
-- Source: Simple 2.2, phase 2(a).
-- Forbids: a change by a part under another ballot.
abbrev pub taking_part : Known → Option Proposer → ℕ → Ballot → ℕ → ℕ → List Vote → Response
taking_part n None j b first upto votes = quiet n
taking_part n (Some p) j b first upto votes =
    if same_ballot p.ballot b
    then proposing_on n (prepare_from b j (asks_on p j first upto))
    (pump MOST_PUMPED (proposer_after_part p j first upto votes))
    else quiet n

-- The response to a Promise: a part for the ballot of the node's proposer is taken.
-- Source: Simple 2.2, phase 2(a).
-- Allows: a pump after a part that is ignored.
-- Forbids: a change by a part under another ballot.
abbrev pub on_promise : Known → ℕ → Ballot → ℕ → ℕ → List Vote → Response
on_promise n j b first upto votes = taking_part n n.proposer j b first upto votes

-- The test that the key is learned at any place, or offered under the node's ballot.
-- Allows: a key above a hole.
abbrev pub is_known_key : Known → Key → Bool
is_known_key n k = is_learned n.learner.learned k || has_key n.offered k

-- The test that each of the keys is known.
abbrev pub are_known : Known → List Key → Bool
are_known n keys = list_all (is_known_key n) keys

-- The test that each key of the value is known.
-- Forbids: a batch that counts as known though one key of it is new.
abbrev pub is_known : Known → Value → Bool
is_known n v = are_known n (keys_of v)

-- The test that a pump leaves room for an offer.
-- It made fewer than 16 proposals, and its next place is one of the group's, with no vote kept
-- there or above.
-- Source: Simple 2.2, P2c.
-- Forbids: an offer at a place at or below a kept vote.
abbrev pub leaves_room : Proposals → Bool
leaves_room pumped =
    nat_lt (length pumped.made) MOST_PUMPED
    && (nat_lt (next_of pumped.proposer) PLACES
    && not (is_kept_from pumped.proposer.kept (next_of pumped.proposer)))

-- The proposals of the offer after a pump.
-- Allows: a pump alone.
abbrev pub offer_after : Proposals → Value → Proposals
offer_after pumped v = if leaves_room pumped then offer pumped.proposer v else stop pumped.proposer

-- The offered keys, with those of the value if its offer gave an Accept.
abbrev pub offered_with : List Key → Value → List Vote → List Key
offered_with offered v [] = offered
offered_with offered v (vote ∷ votes) = keys_with offered v

-- The response of a pump and the offer after it.
abbrev pub offering : Known → Value → Proposals → Proposals → Response
offering n v pumped made =
    proposing_on (record n { offered = offered_with n.offered v made.made })
    (accepts_of pumped.made) made

-- The response to a Submit by a node's proposer, if it has one.
-- It is ignored unless a majority has promised the next place and the value has a key that is not
-- known.
-- Source: Simple 3, the leader proposes what clients ask for.
-- Forbids: a proposal by a node that does not lead.
abbrev pub submitted : Known → Option Proposer → Value → Response
submitted n None v = quiet n
submitted n (Some p) v =
    if is_covered p (next_of p) && not (is_known n v)
    then offering n v (pump MOST_PUMPED p) (offer_after (pump MOST_PUMPED p) v) else quiet n

-- The response to a Submit: a node that leads pumps, and then offers the value.
-- Source: Simple 3, the leader proposes what clients ask for.
-- Allows: a key that is offered at two places, under two ballots.
-- Forbids: a proposal by a node that does not lead.
abbrev pub on_submit : Known → Value → Response
on_submit n v = submitted n n.proposer v
