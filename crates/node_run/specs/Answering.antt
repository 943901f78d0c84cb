-- What happens at a node's keyboard before a turn.
use Rattle.std.specs.Prelude.{◌≡◌, ◌≢◌, ◌<◌, ℕ, true, All, List, [], ◌∷◌, ◌++◌, map, Option, Result, Ok, Err, ◌-◌, drop, length, nat_lt, if◌then◌else◌}
use Rattle.paxos_acceptor.specs.Stores.{StoreKind}
use Rattle.group_protocol.specs.declared.fault.NodeFault.TheVariants.{SerialSpent, Stopped, Store}
use Rattle.group_protocol.specs.declared.limits.TheConstants.{MOST_WAITING}
use Rattle.group_node.specs.Deeds.{Campaign, Press}
use Rattle.group_protocol.specs.Known.{Known, front}
use Rattle.group_protocol.specs.ProposerResponses.{is_leading}
use Rattle.group_node.specs.States.{NodeState}
use Rattle.group_wire.specs.Campaigns.{HasCampaigned}
use Rattle.group_wire.specs.Doings.{HasActed}
use Rattle.group_wire.specs.Traffic.{Traffic}
use Rattle.node_io.specs.declared.fault.GroupFault.{GroupFault}
use Rattle.node_io.specs.declared.fault.GroupFault.TheVariants as group
use Rattle.node_run.specs.declared.answering.Answered.{Answered}
use Rattle.node_run.specs.declared.answering.Answered.TheVariants.{Bytes, Campaigned, CampaignRefused, Ignored}
use Rattle.node_run.specs.Course.{Surroundings, FailsAt, HasEnded, HasReason}
use Rattle.node_run.specs.declared.limits.TheConstants.{MOST_RETRIES}
use Rattle.node_io.specs.Prompts.{GivesWhatCame, HasGiven, KeyboardState, Remaining, looks_after}
use Rattle.node_io.specs.Refusals.{IsCycleRefusal}

-- A node that leads without a gap: each vote of its record is at a place below its known front.
abbrev pub LeadsAboveItsVotes : Known → Type 0
LeadsAboveItsVotes n = (is_leading n.proposer ≡ true) × All (λ v. v.place < front n) n.kept.votes

-- Typing of the bytes that a keyboard gave. If the serials are spent, the last of them may be lost.
-- Nothing passes over the wire, whatever it is (`passed`).
-- Forbids: a byte that is typed twice, or that the keyboard did not give.
abbrev pub HasTypedGiven : {S : Type 0} → NodeState S → NodeState S → KeyboardState → KeyboardState
    → Result (Unit {0}) GroupFault → Type 0
HasTypedGiven old new from to (Ok x) =
    (typed : List ℕ) × HasGiven from (map Press typed) to
    × ((passed : Option Traffic) → HasActed old new passed passed (map Press typed))
HasTypedGiven old new from to (Err e) =
    (typed lost : List ℕ) × (e ≡ group.Node SerialSpent)
    × HasGiven from (map Press (typed ++ lost)) to × HasReason e new.protocol.known
    × ((passed : Option Traffic) → HasActed old new passed passed (map Press typed))

-- What a keyboard has left that gave as many bytes as there was room for.
abbrev pub left_once_given : ℕ → Remaining → Remaining
left_once_given room left = record left { bytes = drop room left.bytes }

-- What a keyboard has left that was answered: a request fewer, if one was there, or else the bytes
-- for which there was no room.
-- Forbids: a request that is passed over; a byte that is given while a request is there; if none is
-- there, a byte that is left though there is room.
abbrev pub left_once_answered : ℕ → Remaining → Remaining
left_once_answered room left =
    if nat_lt 0 left.requests then record left { requests = left.requests - 1 }
    else left_once_given room left

-- How many keys a node has room for.
abbrev pub room_of : {S : Type 0} → NodeState S → ℕ
room_of n = MOST_WAITING - length n.protocol.known.waiting

-- A campaign that was asked for, and its answer. Exactly a node that leads without a gap
-- ignores it.
-- Only a save that fails ends the node.
-- Allows: a campaign that does not begin.
-- Forbids: a node that ends because no ballot or no place is left; a leader with a gap that ignores
-- the request.
abbrev pub HasCampaignedAsAsked : {S : Type 0} → StoreKind S → NodeState S → NodeState S
    → Option Traffic → Option Traffic → Result Answered GroupFault → Type 0
HasCampaignedAsAsked kind old new from to (Ok Bytes) = ⊥
HasCampaignedAsAsked kind old new from to (Ok Ignored) =
    LeadsAboveItsVotes old.protocol.known × HasActed old new from to []
HasCampaignedAsAsked kind old new from to (Ok Campaigned) =
    (¬ LeadsAboveItsVotes old.protocol.known) × HasActed old new from to (Campaign ∷ [])
HasCampaignedAsAsked kind old new from to (Ok (CampaignRefused f)) =
    (¬ LeadsAboveItsVotes old.protocol.known)
    × HasCampaigned kind old new from to (Err f) × (f ≢ Stopped) × (f ≢ Store)
    × HasActed old new from to []
HasCampaignedAsAsked kind old new from to (Err e) =
    (¬ LeadsAboveItsVotes old.protocol.known) × FailsAt kind old new from to (Campaign ∷ []) e

-- What a node did with what its keyboard had once it was looked at: it typed some bytes that the
-- keyboard gave; or it campaigned, could not, or leads already, as the answer says.
abbrev pub AnswersSeen : {S : Type 0} → StoreKind S → Answered → NodeState S → NodeState S
    → Option Traffic → Option Traffic → KeyboardState → KeyboardState → Type 0
AnswersSeen kind Bytes old new from to seen left =
    (typed : List ℕ) × HasGiven seen (map Press typed) left
    × HasActed old new from to (map Press typed)
AnswersSeen kind answer old new from to seen left =
    HasGiven seen (Campaign ∷ []) left × HasCampaignedAsAsked kind old new from to (Ok answer)

-- How often a node may campaign again once its keyboard was answered so: three times if it
-- campaigned, never if it ignored the request or could not campaign, and as often as before if it
-- typed.
abbrev pub retries_after : Answered → ℕ → ℕ
retries_after Bytes retries = retries
retries_after Campaigned retries = MOST_RETRIES
retries_after Ignored retries = 0
retries_after (CampaignRefused f) retries = 0

-- A keyboard that is looked at once, and then answered by what it has: by a request, if one is
-- there, or else by all bytes for which the node has room.
-- Forbids: a keyboard that counts looks, and at which nobody looks; a request that is passed over;
-- a byte that is given while a request is there; if none is there, a byte that is left though there
-- is room.
pub record AnswersWhatCame {S : Type 0} (kind : StoreKind S) (answer : Answered)
    (old new : NodeState S) (from to : Surroundings) : Type 0 where
  pub seen : KeyboardState
  pub looks : GivesWhatCame from.keyboard [] seen
  pub once : seen.looks ≡ looks_after 1 from.keyboard.looks
  pub did : AnswersSeen kind answer old new from.traffic to.traffic seen to.keyboard
  pub all : to.keyboard.left ≡ left_once_answered (room_of old) seen.left
  pub again : to.retries ≡ retries_after answer from.retries

-- What happens at a keyboard before a turn: typing of what it gave, or a campaign that it asked
-- for, as the answer says. At `Ok` this says less than `AnswersWhatCame`. At `Err` it says only why
-- it was refused and what prompts there may have been (`HasEnded`).
-- Allows: at `Ok`, a request that is passed over; a byte that is left though there is room. At
-- `Err`, no look.
abbrev pub HasAnsweredKeyboard : {S : Type 0} → StoreKind S → NodeState S → NodeState S
    → Surroundings → Surroundings → Result Answered GroupFault → Type 0
HasAnsweredKeyboard kind old new from to (Ok Bytes) =
    (to.retries ≡ from.retries) × (typed : List ℕ)
    × GivesWhatCame from.keyboard (map Press typed) to.keyboard
    × HasActed old new from.traffic to.traffic (map Press typed)
HasAnsweredKeyboard kind old new from to (Ok answer) =
    (to.retries ≡ retries_after answer from.retries)
    × GivesWhatCame from.keyboard (Campaign ∷ []) to.keyboard
    × HasCampaignedAsAsked kind old new from.traffic to.traffic (Ok answer)
HasAnsweredKeyboard kind old new from to (Err e) =
    IsCycleRefusal e × HasEnded kind [] old new from to 0 e
