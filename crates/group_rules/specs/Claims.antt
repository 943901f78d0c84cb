-- The claims of the main theorem, each of one group or of two moments of it.
use Rattle.std.specs.Prelude.{◌≡◌, ◌≢◌, ◌≤◌, ℕ, ◌==◌, ◌&&◌, Bool, List, Contains, filter, length, map, take, Some, slice_get}
use Rattle.std.specs.FinMap.{get}
use Rattle.std.specs.List.{AllPairs, range_with_len}
use Rattle.pcode_machine.specs.Runs.{AreComparable, IsPrefix, IsOutput}
use Rattle.paxos_msg.specs.declared.value.Value.{Value}
use Rattle.paxos_msg.specs.Chosen.{IsChosen}
use Rattle.paxos_msg.specs.Keys.{Key, keys_of}
use Rattle.paxos_learner.specs.Input.{keys_in_order}
use Rattle.group_node.specs.declared.console.Offer.TheVariants.{Gap, Repeat}
use Rattle.group_node.specs.Console.{offer_answer}
use Rattle.group_node.specs.Inputs.{AreChosen, IsInput}
use Rattle.group_rules.specs.Rules.{Up, WorldState}

-- A node `i` that is up and has learned the value `v` at place `s`.
pub record HasLearned (w : WorldState) (i s : ℕ) (v : Value) : Type 0 where
  pub node : Up
  pub up : (w.seats i).up ≡ Some node
  pub learned : get node.learned s ≡ Some v

-- No two nodes have learned different values for one place.
-- Source: Simple 2.1, only a single value is chosen.
-- Allows: nodes that have learned less than others.
-- Forbids: two values at one place.
abbrev pub LearnedAgree : WorldState → Type 0
LearnedAgree w = (i j s : ℕ) (v u : Value) → HasLearned w i s v → HasLearned w j s u → v ≡ u

-- What is learned is chosen, and each of its keys was typed.
-- Source: Simple 2.1, a value is learned only if it is chosen, and chosen only if it was proposed.
-- Allows: a no-op, which has no key.
-- Forbids: a key that nobody typed.
abbrev pub LearnedChosen : WorldState → Type 0
LearnedChosen w =
    (i s : ℕ) (v : Value) → HasLearned w i s v
    → IsChosen w.size w.sent s v × ((k : Key) → Contains (keys_of v) k → Contains w.typed k)

-- Each console holds a prefix of the program's output on the chosen input.
-- Source: Simple 3, all servers produce the same sequences of states and outputs.
-- Allows: a console that shows nothing.
-- Forbids: a byte that the program does not write.
abbrev pub ConsolesHoldOutput : WorldState → Type 0
ConsolesHoldOutput w =
    (x : List ℕ) (i : ℕ) → IsInput w.size w.sent x → IsOutput w.program x (w.seats i).console

-- Of two consoles one is a prefix of the other.
-- Source: Simple 3, all servers produce the same sequences of states and outputs.
-- Forbids: two histories.
abbrev pub ConsolesAgree : WorldState → Type 0
ConsolesAgree w = (i j : ℕ) → AreComparable (w.seats i).console (w.seats j).console

-- No byte that a node releases next comes too early for its console.
-- If the console has shown a byte of that number, it is the same byte.
-- Allows: a byte that is released again after a restart.
-- Forbids: another byte with the same number.
abbrev pub HasNoGap : WorldState → Type 0
HasNoGap w =
    (i byte : ℕ) (node : Up) → (w.seats i).up ≡ Some node
    → slice_get node.configuration.output node.released ≡ Some byte →
    (offer_answer (w.seats i).console node.released ≢ Gap)
    × (offer_answer (w.seats i).console node.released ≡ Repeat
    → slice_get (w.seats i).console node.released ≡ Some byte)

-- What a node that is up has released is on its console: the first bytes of both are the same.
abbrev pub ConsolesShowReleased : WorldState → Type 0
ConsolesShowReleased w =
    (i : ℕ) (node : Up) → (w.seats i).up ≡ Some node
    → (node.released ≤ length (w.seats i).console)
    × (take node.released node.configuration.output ≡ take node.released (w.seats i).console)

-- ---- the order of keys

-- Two keys with one node, start and serial.
pub record HaveOneName (key other : Key) : Type 0 where
  pub node : key.node ≡ other.node
  pub start : key.start ≡ other.start
  pub serial : key.serial ≡ other.serial

-- Keys that pairwise differ in node, start or serial.
-- Forbids: one serial with two characters.
abbrev pub AreApart : List Key → Type 0
AreApart keys = AllPairs (λ key other. ¬ HaveOneName key other) keys

-- True if the key is of start `start` of node `node`.
abbrev pub is_of : ℕ → ℕ → Key → Bool
is_of node start key = (key.node == node) && (key.start == start)

-- The serials of the keys of one start of one node, in order.
abbrev pub serials_of : ℕ → ℕ → List Key → List ℕ
serials_of node start keys = map (λ key. key.serial) (filter (is_of node start) keys)

-- Keys whose serials are, for each start of each node, 1, 2, .. k for some k, in this order.
-- Allows: any order between the keys of two nodes.
-- Forbids: a second key before the first.
abbrev pub AreInOrder : List Key → Type 0
AreInOrder keys = (node start : ℕ) → (k : ℕ) × (serials_of node start keys ≡ range_with_len 1 k)

-- Of the keys that are read in values chosen at the places 0, 1, 2 and so on, no two have one name.
-- Allows: a key that is chosen twice.
-- Forbids: one serial with two characters.
abbrev pub KeysOnce : WorldState → Type 0
KeysOnce w =
    (values : List Value) → AreChosen w.size w.sent values → AreApart (keys_in_order values)

-- The keys of one start of one node are read in the order of their serials, with none left out.
-- Allows: any order between the keys of two nodes.
-- Forbids: a second key before the first.
abbrev pub SerialsInOrder : WorldState → Type 0
SerialsInOrder w =
    (values : List Value) → AreChosen w.size w.sent values → AreInOrder (keys_in_order values)

-- ---- two moments of a group, the second after the first

-- A value that a node has learned for a place stays the value of that place.
-- `w` and `v` are two moments of a group, `v` the later one. In `v` the node may be the same or
-- another.
abbrev pub LearnedStays : WorldState → WorldState → Type 0
LearnedStays w v = (i j s : ℕ) (a b : Value) → HasLearned w i s a → HasLearned v j s b → a ≡ b

-- Each console shows in `v` all that it had shown in `w`, and perhaps more.
-- `w` and `v` are two moments of a group, `v` the later one.
-- Forbids: a byte that a console loses.
abbrev pub ConsolesGrow : WorldState → WorldState → Type 0
ConsolesGrow w v = (i : ℕ) → IsPrefix (w.seats i).console (v.seats i).console
