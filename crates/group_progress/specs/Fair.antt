-- Endless runs of a group in which one node leads, and what it takes for each of them to go on.
use Rattle.std.specs.Prelude.{◌≡◌, ℕ, suc, ◌+◌, ◌<◌, ◌≤◌, Bool, IsTrue, List, length, slice_get, Some, IfSome}
use Rattle.pcode_file.specs.Parts.{Parts}
use Rattle.pcode_machine.specs.Runs.{out}
use Rattle.paxos_msg.specs.declared.message.Group.{Group}
use Rattle.paxos_msg.specs.declared.limits.TheConstants.{PLACES}
use Rattle.paxos_msg.specs.declared.ballot.Ballot.{Ballot}
use Rattle.paxos_msg.specs.declared.value.Value.{Value}
use Rattle.paxos_msg.specs.declared.message.Body.TheVariants.{Accept, Prepare, Refused}
use Rattle.paxos_msg.specs.Ballots.{IsAtMost, IsBelow, IsMajority}
use Rattle.paxos_msg.specs.Batches.{Body, Msg, Sent}
use Rattle.paxos_msg.specs.Fits.{IsNode}
use Rattle.paxos_msg.specs.Messages.{IsSaid}
use Rattle.paxos_proposer.specs.Proposer.{Proposer, coverage_of, next_of}
use Rattle.group_protocol.specs.Known.{front}
use Rattle.group_protocol.specs.declared.packet.To.{To}
use Rattle.group_protocol.specs.declared.packet.To.TheVariants.{All, One}
use Rattle.group_protocol.specs.Packets.{Datagram}
use Rattle.group_protocol.specs.ProposerResponses.{next_ballot}
use Rattle.group_node.specs.NodeCalls.{Running}
use Rattle.group_node.specs.States.{input}
use Rattle.group_world.specs.declared.event.Act.{Act}
use Rattle.group_world.specs.declared.event.Act.TheVariants.{Campaign, Crash, Deliver, Release, Run, Tick}
use Rattle.group_world.specs.declared.event.Done.{Done}
use Rattle.group_world.specs.declared.event.Done.TheVariants.{Applied}
use Rattle.group_world.specs.declared.event.Event.{Event}
use Rattle.group_world.specs.declared.event.Outcome.TheVariants.{Kept}
use Rattle.group_world.specs.Event.{Goes, LeadsBy, kept_event, node_of}
use Rattle.group_world.specs.Group.{HasUp, IsUp, member_at, message_of, new_world, World, world_state}
use Rattle.group_world.specs.Member.{Member}
use Rattle.group_progress.specs.GoingOn.{AllHaveRead, ShowsBytes, keys_waiting}

-- ---- endless runs

-- Events without end, one after another: the event at each moment, its answer, and the world before
-- it. The world at moment 0 is the first one.
-- Allows: any events that can happen, refused ones and failed saves too.
pub record Endless (first : World) : Type 0 where
  pub event : ℕ → Event
  pub done : ℕ → Done
  pub world : ℕ → World
  pub begins : world 0 ≡ first
  pub goes : (n : ℕ) → Goes (world n) (event n) (done n) (world (suc n))

-- At this moment or a later one.
abbrev pub Later : ℕ → (ℕ → Type 0) → Type 0
Later n P = (t : ℕ) × (n ≤ t) × P t

-- ---- one node leads

-- Bodies that may end the lead under the ballot: a Prepare above the ballot, and a Refused that
-- answers the ballot. No Accept is one: none above the ballot is sent before a node of the majority
-- has heard such a Prepare.
abbrev pub Outranks : Ballot → Body → Type 0
Outranks b (Prepare c from) = IsBelow b c
Outranks b (Refused c promised) = c ≡ b
Outranks b _ = ⊥

-- Acts of a node of the majority, where these messages were sent, while one node leads under the
-- ballot.
-- Allows: typed keys; any message that was ever sent, again and again, but for those that outrank.
-- Forbids: a crash; a campaign.
abbrev pub IsCalmAct : Ballot → Sent → Act → Type 0
IsCalmAct b sent (Deliver k i) = (m : Msg) → slice_get sent k ≡ Some m → ¬ Outranks b m.body
IsCalmAct b sent (Campaign i) = ⊥
IsCalmAct b sent (Crash i) = ⊥
IsCalmAct b sent _ = Unit {0}

-- An event that leaves the leading node in peace: if it is one of the majority's, its save is kept,
-- and its act is calm.
-- Allows: any event of another node: crashes, failed saves, campaigns.
pub record IsCalm (members : ℕ → Bool) (b : Ballot) (w : World) (e : Event) : Type 0 where
  pub kept : IsTrue (members (node_of e.act)) → e.save ≡ Kept
  pub calm : IsTrue (members (node_of e.act)) → IsCalmAct b (world_state w).sent e.act

-- Event 0 is a campaign of node `leader`, which happens, and its save is kept. The node is one of
-- these nodes. Before event 0 all of them are up, and none has promised a ballot above `b`, the
-- campaign's. Each later event is calm. At no moment has an Accept of the last place been sent.
-- That these nodes are a majority is a premise of the laws.
pub record IsLed (members : ℕ → Bool) (leader : ℕ) (b : Ballot) {w : World}
    (run : Endless w) : Type 0 where
  pub node : IsNode w.group.size leader
  pub own : IsTrue (members leader)
  pub campaigns : run.event 0 ≡ kept_event (Campaign leader)
  pub happens : run.done 0 ≡ Applied
  pub up : (i : ℕ) → IsNode w.group.size i → IsTrue (members i) → HasUp w i
  pub ballot : (m : Member) (q : Running) → IsUp w leader m q → next_ballot q.known ≡ b
  pub above : (i : ℕ) (m : Member) → IsTrue (members i) → member_at w.members i ≡ Some m
      → IfSome m.kept.promised (λ p. IsAtMost p b)
  pub calm : (n : ℕ) → IsCalm members b (run.world (suc n)) (run.event (suc n))
  pub room : (n s : ℕ) (c : Ballot) (v : Value)
      → IsSaid (world_state (run.world n)).sent (Accept c s v) → s + 1 < PLACES

-- ---- the network is fair

-- The addressees of a datagram.
abbrev pub IsAddressedTo : ℕ → To → Type 0
IsAddressedTo i All = Unit {0}
IsAddressedTo i (One j) = j ≡ i

-- Message `k` is `m`, from a node of the majority to node `i`, and was sent in this run before
-- moment `n`, so not before the run (`late`).
-- Allows: a message that was heard already.
pub record WasSentTo (members : ℕ → Bool) {w : World} (run : Endless w) (n k i : ℕ)
    (m : Msg) : Type 0 where
  pub datagram : Datagram
  pub there : slice_get (run.world n).sent k ≡ Some datagram
  pub addressed : IsAddressedTo i datagram.to
  pub spells : message_of w.group datagram ≡ Some m
  pub sender : IsTrue (members m.sender)
  pub late : length w.sent ≤ k

-- Event `n` sends this message.
pub record IsSentAt (members : ℕ → Bool) {w : World} (run : Endless w) (n k i : ℕ)
    (m : Msg) : Type 0 where
  pub sent : WasSentTo members run (suc n) k i m
  pub new : length (run.world n).sent ≤ k

-- Each node of the majority ticks again and again, and hears each message that one of them sends to
-- it, at least once after it was sent.
-- Allows: loss of all other messages, and of all that was sent before; any order; doubles.
pub record IsFair (members : ℕ → Bool) {w : World} (run : Endless w) : Type 0 where
  pub ticks : (n i : ℕ) → IsNode w.group.size i → IsTrue (members i)
      → Later n (λ t. (run.event t).act ≡ Tick i)
  pub hears : (n k i : ℕ) (m : Msg) → IsNode w.group.size i → IsTrue (members i)
      → IsSentAt members run n k i m → Later (suc n) (λ t. (run.event t).act ≡ Deliver k i)

-- ---- what is reached

-- Node `i` is up, and has promised the ballot and none above it.
pub record HoldsPromise (b : Ballot) (w : World) (i : ℕ) : Type 0 where
  pub node : Member
  pub running : Running
  pub up : IsUp w i node running
  pub promised : running.known.kept.promised ≡ Some b

-- Each of these nodes of a group of this size is up, and has promised the ballot and none above it.
abbrev pub AllHoldPromise : (ℕ → Bool) → Ballot → ℕ → World → Type 0
AllHoldPromise members b size w =
    (i : ℕ) → IsNode size i → IsTrue (members i) → HoldsPromise b w i

-- Node `i` is up and proposes under the ballot, and knows that each of these nodes has promised all
-- places.
pub record LeadsAllPlaces (among : ℕ → Bool) (b : Ballot) (i : ℕ) (w : World) : Type 0 where
  pub node : Member
  pub running : Running
  pub up : IsUp w i node running
  pub proposer : Proposer
  pub now : running.known.proposer ≡ Some proposer
  pub ballot : proposer.ballot ≡ b
  pub covers : (j : ℕ) → IsNode w.group.size j → IsTrue (among j) → PLACES ≤ coverage_of proposer j

-- Node `i` is up and proposes under the ballot, next at a place above this one.
-- Allows: a place that the node has learned, or at which it has proposed a no-op.
pub record HasProposedPast (b : Ballot) (s : ℕ) (w : World) (i : ℕ) : Type 0 where
  pub node : Member
  pub running : Running
  pub up : IsUp w i node running
  pub proposer : Proposer
  pub now : running.known.proposer ≡ Some proposer
  pub ballot : proposer.ballot ≡ b
  pub past : s < next_of proposer

-- Node `i` is up and has learned each place below this one.
pub record HasLearnedBelow (c : ℕ) (w : World) (i : ℕ) : Type 0 where
  pub node : Member
  pub running : Running
  pub up : IsUp w i node running
  pub below : c ≤ front running.known

-- Each of these nodes of a group of this size has learned each place below this one.
abbrev pub AllHaveLearned : (ℕ → Bool) → ℕ → ℕ → World → Type 0
AllHaveLearned members size c w =
    (i : ℕ) → IsNode size i → IsTrue (members i) → HasLearnedBelow c w i

-- Each key that waits at a node of the majority at moment `n` has been read by all of them from
-- some moment on, which is not before `n`.
abbrev pub AllIsRead : (ℕ → Bool) → {w : World} → Endless w → ℕ → Type 0
AllIsRead members {w} run n =
    Later n (λ t. (u : ℕ) → t ≤ u
    → AllHaveRead members w.group.size (keys_waiting members (run.world n)) (run.world u))

-- A node runs and releases again and again.
pub record KeepsPlaying (i : ℕ) {w : World} (run : Endless w) : Type 0 where
  pub runs : (n : ℕ) → Later n (λ t. (steps : ℕ) × (0 < steps) × ((run.event t).act ≡ Run i steps))
  pub releases : (n : ℕ) → Later n (λ t. (run.event t).act ≡ Release i)

-- What the program writes, in any number of steps below 2^64, on what node `i` has read at moment
-- `n` is on its console from some moment on, which is not before `n`.
abbrev pub AllIsShown : {w : World} → Endless w → ℕ → ℕ → Type 0
AllIsShown {w} run i n =
    (m : Member) (q : Running) (steps : ℕ) → IsUp (run.world n) i m q → steps ≤ 18446744073709551615
    → Later n (λ t. (u : ℕ) → t ≤ u
    → ShowsBytes (out w.program (input q.known) steps) i (run.world u))

-- A run that is led and fair, from a world that is reached.
-- Allows: a run in which no key is ever typed.
pub record HasFairRun (p : Parts) (group : Group) : Type 0 where
  pub events : List Event
  pub world : World
  pub members : ℕ → Bool
  pub leader : ℕ
  pub ballot : Ballot
  pub run : Endless world
  pub leads : LeadsBy (new_world p group) events world
  pub majority : IsMajority world.group.size members
  pub led : IsLed members leader ballot run
  pub fair : IsFair members run

-- ---- the claim

-- Each run that is led and fair goes on. Each key that waits at a node of the majority is read by
-- each of them. If one of them runs and releases again and again, each byte that the program writes
-- on what it has read, in fewer than 2^64 steps, is shown there.
-- Source: Simple 2.4, progress.
-- Allows: keys that are typed at any moment; other nodes that do anything.
-- Forbids: a run that is led and fair, in which a key waits for ever.
abbrev pub FairRunsGoOn : Parts → Group → Type 0
FairRunsGoOn p group =
    (events : List Event) (w : World) (members : ℕ → Bool) (leader : ℕ) (b : Ballot)
    (run : Endless w)
    → LeadsBy (new_world p group) events w → IsMajority w.group.size members
    → IsLed members leader b run → IsFair members run
    → ((n : ℕ) → AllIsRead members run n)
    × ((i n : ℕ) → IsNode w.group.size i → IsTrue (members i) → KeepsPlaying i run
    → AllIsShown run i n)
