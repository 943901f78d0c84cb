-- How a node campaigns once more for a request to campaign, if its ballot was refused.
use Rattle.std.specs.Prelude.{◌≡◌, ◌≢◌, ◌<◌, ◌+◌, ℕ, true, [], ◌∷◌, None, Some, Result, Ok, Err, if◌then◌else◌}
use Rattle.paxos_msg.specs.declared.ballot.Ballot.{Ballot}
use Rattle.paxos_msg.specs.Tests.{ballot_lt}
use Rattle.paxos_acceptor.specs.Stores.{StoreKind}
use Rattle.group_protocol.specs.declared.fault.NodeFault.TheVariants.{Stopped, Store}
use Rattle.group_protocol.specs.Known.{Known}
use Rattle.group_protocol.specs.ProposerResponses.{is_leading, own_ballot}
use Rattle.group_node.specs.Deeds.{Campaign}
use Rattle.group_node.specs.States.{NodeState}
use Rattle.group_wire.specs.Campaigns.{HasCampaigned}
use Rattle.group_wire.specs.Doings.{HasActed}
use Rattle.node_io.specs.declared.fault.GroupFault.{GroupFault}
use Rattle.node_run.specs.declared.retries.Retried.{Retried}
use Rattle.node_run.specs.declared.retries.Retried.TheVariants.{NotDue, Campaigned, CampaignRefused}
use Rattle.node_run.specs.Course.{Surroundings, FailsAt}

-- The node has no ballot. The greatest ballot that a Refused has reported to it is above the one
-- that it has promised.
-- Allows: a node whose ballot ended when it promised a greater one.
-- Forbids: a node that has promised the greatest ballot that was reported, or a greater one.
abbrev pub IsBallotRefused : Known → Type 0
IsBallotRefused n = (own_ballot n.proposer ≡ None) × (refusing promised : Ballot)
    × (n.remembered ≡ Some refusing) × (n.kept.promised ≡ Some promised)
    × (ballot_lt promised refusing ≡ true)

-- A node that may campaign so often again has to do so now.
abbrev pub IsRetryDue : ℕ → Known → Type 0
IsRetryDue retries n = (0 < retries) × IsBallotRefused n

-- How often it may campaign again: not at all if it leads now.
abbrev pub retries_unless_leading : ℕ → Known → ℕ
retries_unless_leading retries n = if is_leading n.proposer then 0 else retries

-- A campaign once more for a request, if it is due, and its answer. Only a save that fails ends the
-- node.
-- Forbids: a campaign of a node that has a ballot, or to which no Refused has reported one above
-- the promised one.
abbrev pub HasRetried : {S : Type 0} → StoreKind S → NodeState S → NodeState S → Surroundings
    → Surroundings → Result Retried GroupFault → Type 0
HasRetried kind old new from to (Ok NotDue) =
    (¬ IsRetryDue from.retries old.protocol.known) × (new ≡ old)
    × (to ≡ record from { retries = retries_unless_leading from.retries old.protocol.known })
HasRetried kind old new from to (Ok Campaigned) =
    IsRetryDue from.retries old.protocol.known × (to.keyboard ≡ from.keyboard)
    × (to.retries + 1 ≡ from.retries)
    × HasActed old new from.traffic to.traffic (Campaign ∷ [])
HasRetried kind old new from to (Ok (CampaignRefused f)) =
    IsRetryDue from.retries old.protocol.known × (to.keyboard ≡ from.keyboard)
    × (to.retries ≡ 0) × HasCampaigned kind old new from.traffic to.traffic (Err f)
    × (f ≢ Stopped) × (f ≢ Store) × HasActed old new from.traffic to.traffic []
HasRetried kind old new from to (Err e) =
    IsRetryDue from.retries old.protocol.known × (to.keyboard ≡ from.keyboard)
    × (to.retries + 1 ≡ from.retries)
    × FailsAt kind old new from.traffic to.traffic (Campaign ∷ []) e
