-- A group that goes on: events of some of its nodes alone lead from a world to a better one.
use Rattle.std.specs.Prelude.{◌≡◌, ◌≢◌, ℕ, ◌+◌, ◌-◌, ◌*◌, min, ◌/◌, ◌<◌, ◌≤◌, Bool, IsTrue, All, Contains, List, [], length, sum_by, flat_map, if◌then◌else◌, Option, Some, None, IfSome}
use Rattle.std.specs.List.{range_with_len}
use Rattle.pcode_machine.specs.Runs.{IsPrefix, out}
use Rattle.paxos_msg.specs.declared.limits.TheConstants.{LAST_ROUND, LAST_START, MOST_CHARACTERS, MOST_VOTES, PLACES}
use Rattle.paxos_msg.specs.declared.ballot.Ballot.{Ballot}
use Rattle.paxos_msg.specs.Batches.{Vote}
use Rattle.paxos_msg.specs.Fits.{IsNode}
use Rattle.group_protocol.specs.declared.fault.NodeFault.TheVariants.{Busy}
use Rattle.paxos_msg.specs.Keys.{Key}
use Rattle.paxos_learner.specs.Input.{front_values, keys_in_order}
use Rattle.group_protocol.specs.Known.{front}
use Rattle.group_protocol.specs.WaitingKeys.{waiting_keys}
use Rattle.group_node.specs.NodeCalls.{Refuses, Running, call_of_press}
use Rattle.group_node.specs.States.{input}
use Rattle.group_world.specs.declared.event.Act.{Act}
use Rattle.group_world.specs.declared.event.Act.TheVariants.{Press, Deliver, Crash}
use Rattle.group_world.specs.declared.event.Event.{Event}
use Rattle.group_world.specs.declared.event.Outcome.TheVariants.{Kept}
use Rattle.group_world.specs.Event.{LeadsBy, node_of}
use Rattle.group_world.specs.Group.{IsUp, member_at, World, world_state}
use Rattle.group_world.specs.Member.{Member}

-- ---- events of some nodes

-- The acts by which a group goes on after so many messages were sent.
-- Allows: any number of campaigns.
-- Forbids: a crash, a typed key, and the delivery of one of these messages.
abbrev pub IsHelpful : ℕ → Act → Type 0
IsHelpful sent (Deliver k i) = sent ≤ k
IsHelpful sent (Press i byte) = ⊥
IsHelpful sent (Crash i) = ⊥
IsHelpful sent _ = Unit {0}

-- An event of one of these nodes, whose save is kept: no crash, no typed key, and no delivery of
-- one of the first `sent` messages.
pub record IsOwnEvent (members : ℕ → Bool) (sent : ℕ) (e : Event) : Type 0 where
  pub of_member : IsTrue (members (node_of e.act))
  pub kept : e.save ≡ Kept
  pub helpful : IsHelpful sent e.act

-- Events of these nodes alone that lead from a world to one with this property. They hear none of
-- the first `sent` messages.
pub record Reaches (members : ℕ → Bool) (sent : ℕ) (w : World) (P : World → Type 0) : Type 0 where
  pub events : List Event
  pub end : World
  pub own : All (IsOwnEvent members sent) events
  pub leads : LeadsBy w events end
  pub holds : P end

-- Events of these nodes alone may lead from the world to one with this property.
-- They hear only what is sent from now on. So all that is on its way may be lost, and the other
-- nodes may be down, or cut off.
-- Source: Simple 2.4, progress.
-- Forbids: an event of another node; a save that fails.
abbrev pub MayReach : (ℕ → Bool) → World → (World → Type 0) → Type 0
MayReach members w P = Reaches members (length (world_state w).sent) w P

-- 1 for an act by which a node hears a message, and 0 for each other one.
abbrev pub messages_by : Act → ℕ
messages_by (Deliver k i) = 1
messages_by _ = 0

-- 1 for each act by which a node hears no message, and 0 for a delivery.
abbrev pub ticks_by : Act → ℕ
ticks_by (Deliver k i) = 0
ticks_by _ = 1

-- How many messages are heard in these events.
abbrev pub messages_heard : List Event → ℕ
messages_heard events = sum_by (λ e. messages_by e.act) events

-- How many of these events are no delivery, such as ticks, starts, campaigns, runs and releases.
abbrev pub ticks_in : List Event → ℕ
ticks_in events = sum_by (λ e. ticks_by e.act) events

-- As `Reaches`, by at most so many events that hear no message, such as ticks, and at most so many
-- that hear one.
-- Forbids: more events in all than both numbers together.
pub record ReachesWithin (ticks messages : ℕ) (members : ℕ → Bool) (sent : ℕ) (w : World)
    (P : World → Type 0) : Type 0 where
  pub reaches : Reaches members sent w P
  pub few_ticks : ticks_in reaches.events ≤ ticks
  pub few_messages : messages_heard reaches.events ≤ messages
  pub few : length reaches.events ≤ ticks + messages

-- As `MayReach`, by at most so many events that hear no message, and at most so many that hear one.
-- Nodes hear only what is sent from the world `w` on.
-- Source: Simple 2.4, progress.
abbrev pub MayReachWithin : ℕ → ℕ → (ℕ → Bool) → World → (World → Type 0) → Type 0
MayReachWithin ticks messages members w P =
    ReachesWithin ticks messages members (length (world_state w).sent) w P

-- ---- keys that wait

-- The keys that wait at a node, if it is up.
abbrev pub waiting_at : Option Running → List Key
waiting_at None = []
waiting_at (Some q) = waiting_keys q.known

-- The keys that wait at a node, if there is such a node.
abbrev pub waiting_of : Option Member → List Key
waiting_of None = []
waiting_of (Some m) = waiting_at m.node

-- The keys that wait at these nodes.
abbrev pub keys_waiting : (ℕ → Bool) → World → List Key
keys_waiting members w =
    flat_map (λ i. if members i then waiting_of (member_at w.members i) else [])
    (range_with_len 1 w.group.size)

-- ---- numbers that are left

-- A ballot with a round that is not the last one.
abbrev pub HasRoundAbove : Ballot → Type 0
HasRoundAbove b = b.round < LAST_ROUND

-- What has to be left for a node that takes part: a start, if it is down; and a round above that of
-- the ballot that it has promised and, if it is up, of the greatest one that a Refused reported to
-- it. All its votes are at places below `top`.
-- Allows: a node that has never started.
pub record HasLeft (top : ℕ) (m : Member) : Type 0 where
  pub start : m.node ≡ None → m.kept.starts < LAST_START
  pub promised : IfSome m.kept.promised HasRoundAbove
  pub remembered : IfSome m.node (λ q. IfSome q.known.remembered HasRoundAbove)
  pub votes : (vote : Vote) → Contains m.kept.votes vote → vote.place < top

-- What has to be left for these nodes to read so many keys: what each of them needs, and above all
-- of their votes a place for each of the keys, the last place (65,535) not counted.
-- Allows: a node that has never started; votes for any values.
-- Forbids: a vote at place 65,535; one at 65,534 if `keys` is not 0.
pub record HaveLeftFor (keys : ℕ) (members : ℕ → Bool) (w : World) : Type 0 where
  pub top : ℕ
  pub room : top + keys < PLACES
  pub nodes : (i : ℕ) (m : Member) → IsTrue (members i) → member_at w.members i ≡ Some m
      → HasLeft top m

-- What has to be left for these nodes to read all keys that wait at them.
abbrev pub HaveLeft : (ℕ → Bool) → World → Type 0
HaveLeft members w = HaveLeftFor (length (keys_waiting members w)) members w

-- ---- how many events

-- The place up to which a node has learned all. One that is down learns from the first place on.
abbrev pub learned_to : Option Running → ℕ
learned_to None = 0
learned_to (Some q) = front q.known

-- At each of these nodes at most so many places below this one are open: it has learned all below
-- them.
-- Allows: a node that has learned some of them, or places above.
abbrev pub HaveOpen : ℕ → ℕ → (ℕ → Bool) → World → Type 0
HaveOpen k top members w =
    (i : ℕ) (m : Member) → IsTrue (members i) → member_at w.members i ≡ Some m
    → top ≤ learned_to m.node + k

-- The most batches that `w` keys make which wait at `n` nodes: at most one for each key, and at
-- most one for each 32, if each node's keys are rounded up to whole batches.
abbrev pub most_batches : ℕ → ℕ → ℕ
most_batches n w = min w ((w + n * (MOST_CHARACTERS - 1)) / MOST_CHARACTERS)

-- The most ticks by which each of `n` nodes reads one more batch: one of the node where it waits,
-- which submits it, and one of each node, which asks.
abbrev pub ticks_of_batch : ℕ → ℕ
ticks_of_batch n = 1 + n

-- The most messages by which each of `n` nodes reads one more batch: the Submit, an Accept and an
-- Accepted of each node, an Ask of each and a Tell to each.
abbrev pub messages_of_batch : ℕ → ℕ
messages_of_batch n = 1 + 2 * n + n * 2

-- The most ticks by which `n` nodes read `w` keys, where `k` places are open: each node starts, and
-- one of them campaigns; it ticks for each open place, and proposes there; each node ticks for each
-- open place, and asks; and then each reads one batch after another.
-- Source: Simple 2.4, progress.
abbrev pub most_ticks : ℕ → ℕ → ℕ → ℕ
most_ticks n k w = n + 1 + k + n * k + most_batches n w * ticks_of_batch n

-- The most messages by which `n` nodes read `w` keys, where `k` places are open. By summands:
-- 1. each node's promise has a part for each 8 votes at open places, and a last one; for each part
--    there are the Prepare and the part
-- 2. for each open place, an Accept and an Accepted of each node
-- 3. for each open place, an Ask of each node and a Tell to it
-- 4. then each node reads one batch after another
-- Source: Simple 2.4, progress.
abbrev pub most_messages : ℕ → ℕ → ℕ → ℕ
most_messages n k w =
    n * ((k / MOST_VOTES + 1) * 2) + k * (2 * n) + n * (k * 2)
    + most_batches n w * messages_of_batch n

-- ---- what is reached

-- Node `i` is up, and has read these keys.
pub record HasRead (keys : List Key) (w : World) (i : ℕ) : Type 0 where
  pub node : Member
  pub running : Running
  pub up : IsUp w i node running
  pub read : (k : Key) → Contains keys k
      → Contains (keys_in_order (front_values running.known.learner.learned)) k

-- Each of these nodes of a group of this size is up and has read these keys.
abbrev pub AllHaveRead : (ℕ → Bool) → ℕ → List Key → World → Type 0
AllHaveRead members size keys w = (i : ℕ) → IsNode size i → IsTrue (members i) → HasRead keys w i

-- Node `i` has read these keys, and no key waits there.
-- Forbids: a key that waits there and that it has not read.
pub record HasFinishedReading (keys : List Key) (w : World) (i : ℕ) : Type 0 where
  pub has : HasRead keys w i
  pub none : waiting_keys has.running.known ≡ []

-- Each of these nodes of a group of this size has read these keys and has none that wait.
abbrev pub AllHaveFinishedReading : (ℕ → Bool) → ℕ → List Key → World → Type 0
AllHaveFinishedReading members size keys w =
    (i : ℕ) → IsNode size i → IsTrue (members i) → HasFinishedReading keys w i

-- Node `i` is up, and refuses no typed byte as `Busy`. In a world that is reached, fewer than 256
-- keys wait there.
-- Allows: a byte that is refused because no serial is left.
pub record TakesKeys (w : World) (i : ℕ) : Type 0 where
  pub node : Member
  pub running : Running
  pub up : IsUp w i node running
  pub room : (byte : ℕ) → call_of_press running.known byte ≢ Refuses Busy

-- Each of these nodes of a group of this size has room for a typed byte.
abbrev pub AllTakeKeys : (ℕ → Bool) → ℕ → World → Type 0
AllTakeKeys members size w = (i : ℕ) → IsNode size i → IsTrue (members i) → TakesKeys w i

-- The console of node `i` begins with these bytes.
pub record ShowsBytes (bytes : List ℕ) (i : ℕ) (w : World) : Type 0 where
  pub node : Member
  pub there : member_at w.members i ≡ Some node
  pub shown : IsPrefix bytes node.console

-- Each of these nodes that is up may show what the program writes on its learned input, in any
-- number of steps below 2^64, by events of these nodes alone.
abbrev pub AllMayShow : (ℕ → Bool) → World → Type 0
AllMayShow members w =
    (i : ℕ) (m : Member) (q : Running) (n : ℕ) → IsTrue (members i) → IsUp w i m q
    → n ≤ 18446744073709551615
    → MayReach members w (ShowsBytes (out w.program (input q.known) n) i)

-- Node `i` is up and has read these keys, no key waits there, and its console begins with what the
-- program writes in so many steps on what the node has read.
pub record HasReadAndShown (keys : List Key) (steps : ℕ) (w : World) (i : ℕ) : Type 0 where
  pub finished : HasFinishedReading keys w i
  pub shown : IsPrefix (out w.program (input finished.has.running.known) steps)
      finished.has.node.console

-- Each of these nodes of a group of this size has read these keys, has none that wait, and shows
-- what the program writes in so many steps.
abbrev pub AllHaveReadAndShown : (ℕ → Bool) → ℕ → List Key → ℕ → World → Type 0
AllHaveReadAndShown members size keys steps w =
    (i : ℕ) → IsNode size i → IsTrue (members i) → HasReadAndShown keys steps w i
