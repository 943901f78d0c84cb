-- A campaign of a node on its wire.
use Rattle.std.specs.Prelude.{◌≡◌, ◌⊎◌, ◌↔◌, ◌<◌, true, false, [], ◌∷◌, Option, Result, IsErrOf, OnErr, OnOk}
use Rattle.paxos_msg.specs.declared.limits.TheConstants.{LAST_ROUND, PLACES}
use Rattle.base.specs.Calls.{FailsOnlyWith}
use Rattle.paxos_acceptor.specs.Stores.{StoreKind}
use Rattle.group_protocol.specs.declared.fault.NodeFault.{NodeFault}
use Rattle.group_protocol.specs.declared.fault.NodeFault.TheVariants.{Memory, PlacesSpent, RoundsSpent, Stopped, Store}
use Rattle.group_protocol.specs.Calls.{RefusesIfStopped, Saves}
use Rattle.group_protocol.specs.Known.{front}
use Rattle.group_protocol.specs.ProposerResponses.{last_round, on_campaign}
use Rattle.group_node.specs.States.{NodeState}
use Rattle.group_wire.specs.Traffic.{Traffic, grown, handed, posted}

-- A node and its wire after a campaign, with the answer.
-- At `Ok` the node is that of `on_campaign`, and all that it sends went to the wire. At a refusal
-- nothing did, and the node knows what it knew. A refusal comes where `Node::campaign` says, but
-- none for a full outbox.
pub record HasCampaigned {S : Type 0} (kind : StoreKind S) (old new : NodeState S)
    (from to : Option Traffic) (result : Result (Unit {0}) NodeFault) : Type 0 where
  pub ok : OnOk result (new.protocol.known ≡ (on_campaign old.protocol.known).node)
  pub sends : OnOk result
      (to ≡ grown from (handed (posted old.protocol.known (on_campaign old.protocol.known).sends)))
  pub err : OnErr result (new.protocol.known ≡ old.protocol.known)
  pub unsent : OnErr result (to ≡ from)
  pub stops :
      (new.protocol.is_stopped ≡ true) ↔ ((old.protocol.is_stopped ≡ true) ⊎ IsErrOf result Store)
  pub saves : Saves kind old.protocol new.protocol (on_campaign old.protocol.known) result
  pub progress : new.progress ≡ old.progress
  pub stopped : RefusesIfStopped old.protocol result
  pub rounds : IsErrOf result RoundsSpent
      ↔ ((old.protocol.is_stopped ≡ false) × (last_round old.protocol.known ≡ LAST_ROUND))
  pub places : IsErrOf result PlacesSpent
      ↔ ((old.protocol.is_stopped ≡ false) × (last_round old.protocol.known < LAST_ROUND)
      × (front old.protocol.known ≡ PLACES))
  pub spare : OnOk result (last_round old.protocol.known < LAST_ROUND)
  pub spare_saved : IsErrOf result Store → last_round old.protocol.known < LAST_ROUND
  pub others : FailsOnlyWith (Stopped ∷ RoundsSpent ∷ PlacesSpent ∷ Memory ∷ Store ∷ []) result
