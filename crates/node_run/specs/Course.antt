-- What a node does between its start and its end: its deeds, and what it is prompted to do.
use Rattle.std.specs.Prelude.{◌≡◌, ◌≢◌, ◌+◌, ℕ, Bool, true, false, List, [], ◌∷◌, ◌++◌, Option, Result, Ok, Err}
use Rattle.paxos_acceptor.specs.Stores.{StoreKind}
use Rattle.group_protocol.specs.declared.fault.NodeFault.TheVariants.{PlacesSpent, RoundsSpent, SerialSpent, Store}
use Rattle.group_node.specs.Deeds.{Campaign, Deed}
use Rattle.group_protocol.specs.Known.{Known, front, next_serial}
use Rattle.group_protocol.specs.ProposerResponses.{last_round}
use Rattle.group_node.specs.States.{NodeState}
use Rattle.paxos_msg.specs.declared.limits.TheConstants.{LAST_ROUND, LAST_SERIAL, PLACES}
use Rattle.group_wire.specs.Doings.{Fails, HasActed}
use Rattle.group_wire.specs.Traffic.{Traffic}
use Rattle.node_io.specs.declared.fault.GroupFault.{GroupFault}
use Rattle.node_io.specs.declared.fault.GroupFault.TheVariants as group
use Rattle.node_io.specs.Prompts.{GivesWhatCame, KeyboardState}
use Rattle.node_run.specs.Prompted.{IsPrompted}
use Rattle.node_run.specs.declared.endpoints.Endpoints.{Endpoints}

-- What is around a node: what has passed over its wire, where that is known, its keyboard, and how
-- often it may campaign again for the last request.
pub record Surroundings : Type 0 where
  pub traffic : Option Traffic
  pub keyboard : KeyboardState
  pub retries : ℕ

-- These three, put together.
abbrev pub around : Option Traffic → KeyboardState → ℕ → Surroundings
around traffic keyboard retries =
    record { traffic = traffic; keyboard = keyboard; retries = retries }

-- What is around a node by its endpoints. The two functions tell what has passed over a wire, and
-- what a keyboard has left.
abbrev pub around_of : {T K : Type 0} → (T → Option Traffic) → (K → KeyboardState) → Endpoints T K
    → Surroundings
around_of traffic_of keys_of endpoints =
    around (traffic_of endpoints.wire) (keys_of endpoints.keyboard) endpoints.retries

-- The prompts of a plan before the first turn.
abbrev pub planned : Bool → List Deed
planned true = Campaign ∷ []
planned false = []

-- Why a node refuses so, by what it knows then: its serials, its rounds or its places are spent.
-- Forbids: such a refusal where some are left.
abbrev pub HasReason : GroupFault → Known → Type 0
HasReason (group.Node SerialSpent) n = next_serial n ≡ LAST_SERIAL + 1
HasReason (group.Node RoundsSpent) n = last_round n ≡ LAST_ROUND
HasReason (group.Node PlacesSpent) n = front n ≡ PLACES
HasReason _ n = Unit {0}

-- What a node did in so many turns. Its deeds have the prompts `first` and then `prompts`, as
-- `IsPrompted` says. Exactly what passes in its deeds has passed over its wire.
pub record HasMadeTurns {S : Type 0} (first : List Deed) (old new : NodeState S)
    (from to : Surroundings) (turns : ℕ) : Type 0 where
  pub gift : List Deed
  pub prompts : List Deed
  pub given : GivesWhatCame from.keyboard gift to.keyboard
  pub acts : HasActed old new from.traffic to.traffic (first ++ prompts)
  pub prompted : IsPrompted gift turns from.retries to.retries ⊥ prompts

-- What it did up to a refusal. Exactly if a save failed, its last deed is the one that failed.
pub record HasEnded {S : Type 0} (kind : StoreKind S) (first : List Deed) (old new : NodeState S)
    (from to : Surroundings) (turns : ℕ) (e : GroupFault) : Type 0 where
  pub gift : List Deed
  pub prompts : List Deed
  pub given : GivesWhatCame from.keyboard gift to.keyboard
  pub fails : e ≡ group.Node Store
      → Fails kind old new from.traffic to.traffic (first ++ prompts)
  pub acts : e ≢ group.Node Store → HasActed old new from.traffic to.traffic (first ++ prompts)
  pub prompted : IsPrompted gift turns from.retries to.retries (e ≡ group.Node SerialSpent)
      prompts
  pub due : HasReason e new.protocol.known

-- A call that is refused as `Store`: a save of the node failed in it, at the end of deeds with
-- these prompts.
pub record FailsAt {S : Type 0} (kind : StoreKind S) (old new : NodeState S)
    (from to : Option Traffic) (failing : List Deed) (e : GroupFault) : Type 0 where
  pub store : e ≡ group.Node Store
  pub fails : Fails kind old new from to failing

-- A rest, or a part of one: deeds without a prompt (`HearsOnce` has each receive). It is refused
-- only because a save fails at a message.
abbrev pub HasRested : {S T : Type 0} → StoreKind S → NodeState S → NodeState S → Option Traffic
    → Option Traffic → Result T GroupFault → Type 0
HasRested kind old new from to (Ok x) = HasActed old new from to []
HasRested kind old new from to (Err e) = FailsAt kind old new from to [] e

-- A campaign before the first turn, if the plan has one. It is refused because a save fails, or
-- does not begin.
-- Forbids: a campaign that was not asked for, and none where one was.
abbrev pub CampaignsIf : {S : Type 0} → StoreKind S → Bool → NodeState S → NodeState S
    → Option Traffic → Option Traffic → Result (Unit {0}) GroupFault → Type 0
CampaignsIf kind is_asked old new from to (Ok x) = HasActed old new from to (planned is_asked)
CampaignsIf kind is_asked old new from to (Err e) =
    (is_asked ≡ true) × (e ≡ group.Node Store → Fails kind old new from to (planned true))
    × (e ≢ group.Node Store → HasActed old new from to []) × HasReason e new.protocol.known
