-- What always holds of a group to which steps lead, from which the claims follow.
use Rattle.std.specs.Prelude.{◌≡◌, ℕ, ◌+◌, ◌≤◌, ◌⊎◌, All, Contains, List, ◌++◌, length, Some, IfSome, filter}
use Rattle.std.specs.List.{range_with_len}
use Rattle.std.specs.FinMap.{FinMap, get}
use Rattle.std.specs.Ordering.{nat_cmp}
use Rattle.pcode_file.specs.Parts.{Parts}
use Rattle.pcode_machine.specs.Runs.{IsOutput, LeadsIn}
use Rattle.paxos_msg.specs.declared.message.Body.TheVariants.{Submit}
use Rattle.paxos_msg.specs.declared.value.Value.{Value}
use Rattle.paxos_msg.specs.declared.value.Value.TheVariants.{Keys, Noop}
use Rattle.paxos_msg.specs.Batches.{Grew, Record, Sent}
use Rattle.paxos_msg.specs.Chosen.{IsChosen}
use Rattle.paxos_msg.specs.Keys.{Key}
use Rattle.paxos_msg.specs.Messages.{IsSaid}
use Rattle.paxos_learner.specs.Input.{front_values, input_of, keys_in_order, learned_input}
use Rattle.group_node.specs.Inputs.{AreChosen}
use Rattle.group_protocol.specs.Steps.{AllChosen, AllTyped}
use Rattle.group_rules.specs.Claims.{AreApart, is_of, serials_of}
use Rattle.group_rules.specs.Rules.{Seat, Up, WorldState}

-- Learned values that are all chosen.
pub record IsLearnedChosen (size : ℕ) (sent : Sent) (learned : FinMap nat_cmp Value) : Type 0 where
  pub chosen : (s : ℕ) (v : Value) → get learned s ≡ Some v → IsChosen size sent s v

-- A console that has shown output on the input of chosen values.
pub record IsShown (p : Parts) (size : ℕ) (sent : Sent) (console : List ℕ) : Type 0 where
  pub values : List Value
  pub chosen : AreChosen size sent values
  pub output : IsOutput p (input_of values) console

-- A node that is up: what it has learned is chosen, its machine is where steps on its learned input
-- lead, and it has released no more bytes than it has written, nor than its console has shown.
pub record IsUpSound (p : Parts) (size : ℕ) (sent : Sent) (console : List ℕ) (u : Up) : Type 0 where
  pub learned : IsLearnedChosen size sent u.learned
  pub steps : ℕ
  pub made : LeadsIn p (learned_input u.learned) steps u.configuration
  pub written : u.released ≤ length u.configuration.output
  pub shown : u.released ≤ length console

-- A node, up or down.
pub record IsSeatSound (p : Parts) (size : ℕ) (sent : Sent) (seat : Seat) : Type 0 where
  pub shown : IsShown p size sent seat.console
  pub running : IfSome seat.up (IsUpSound p size sent seat.console)

-- What was sent and the records grew from nothing; what a Tell says is chosen, and what was
-- submitted was typed; each node is sound.
pub record IsGroupSound (w : WorldState) : Type 0 where
  pub grew : Grew w.size w.sent (λ i. (w.seats i).kept)
  pub told : AllChosen w.size w.sent
  pub submitted : AllTyped w.sent w.typed
  pub seats : (i : ℕ) → IsSeatSound w.program w.size w.sent (w.seats i)

-- ---- the order of keys

-- Keys among which one has this node, start and serial.
pub record HasSerial (keys : List Key) (node start serial : ℕ) : Type 0 where
  pub key : Key
  pub among : Contains keys key
  pub node_is : key.node ≡ node
  pub start_is : key.start ≡ start
  pub serial_is : key.serial ≡ serial

-- A value that goes on after keys of chosen values, and is not one of these values.
pub record IsPrepared (size : ℕ) (sent : Sent) (v : Value) (node start serial : ℕ) : Type 0 where
  pub below : List Value
  pub chosen : AreChosen size sent below
  pub before : ℕ
  pub next : before + 1 ≡ serial
  pub has : HasSerial (keys_in_order below) node start before
  pub lacks : ¬ Contains below v

-- A value whose first serial is 1, or is prepared.
abbrev pub IsDue : ℕ → Sent → Value → Type 0
IsDue size sent Noop = Unit {0}
IsDue size sent (Keys node start first bytes) =
    (first ≡ 1) ⊎ IsPrepared size sent (Keys node start first bytes) node start first

-- The keys of one start of one node, in order.
abbrev pub those_of : ℕ → ℕ → List Key → List Key
those_of node start keys = filter (is_of node start) keys

-- The typed keys of one start of a node have the serials 1 to `last`: first those that no longer
-- wait, which are read, then those that wait.
pub record AreTypedKeys (typed : List Key) (node start last : ℕ)
    (waiting read : List Key) : Type 0 where
  pub serials : serials_of node start typed ≡ range_with_len 1 last
  pub gone : List Key
  pub newest : those_of node start typed ≡ gone ++ waiting
  pub below : All (λ k. Contains read k) gone

-- The keys of a node that is up.
pub record IsRowOf (typed : List Key) (i : ℕ) (kept : Record) (u : Up) : Type 0 where
  pub last : ℕ
  pub next : last + 1 ≡ u.next
  pub row : AreTypedKeys typed i kept.starts last u.waiting
      (keys_in_order (front_values u.learned))

-- The key that would be typed next at node `i`, which is up and has this record.
-- Allows: any character.
pub record IsNextKey (i : ℕ) (kept : Record) (u : Up) (key : Key) : Type 0 where
  pub node : key.node ≡ i
  pub start : key.start ≡ kept.starts
  pub serial : key.serial ≡ u.next

-- No typed key is there twice, or is of a later start than its node has counted; the keys of each
-- node that is up are a row; and what was submitted is due.
pub record IsOrdered (w : WorldState) : Type 0 where
  pub once : AreApart w.typed
  pub past : (k : Key) → Contains w.typed k → k.start ≤ (w.seats k.node).kept.starts
  pub rows : (i : ℕ) → IfSome (w.seats i).up (IsRowOf w.typed i (w.seats i).kept)
  pub due : (v : Value) → IsSaid w.sent (Submit v) → IsDue w.size w.sent v

-- All that always holds.
pub record HoldsByRules (w : WorldState) : Type 0 where
  pub sound : IsGroupSound w
  pub ordered : IsOrdered w
