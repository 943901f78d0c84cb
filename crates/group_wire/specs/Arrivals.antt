-- The datagrams that came to a node, and what became of each.
use Rattle.std.specs.Prelude.{◌≡◌, ◌<◌, ◌≤◌, ℕ, List, [], ◌∷◌, ◌++◌, length, map, sum_by, None, Option, Some}
use Rattle.std.specs.List.{filter_map}
use Rattle.paxos_msg.specs.declared.limits.TheConstants.{LONGEST_DATAGRAM}
use Rattle.paxos_msg.specs.declared.message.Group.{Group}
use Rattle.paxos_msg.specs.Batches.{Msg}
use Rattle.paxos_msg.specs.Datagrams.{Msgs}

-- A datagram of at most 1,400 bytes that spells this message of the group.
pub record Spells (g : Group) (bytes : List ℕ) (m : Msg) : Type 0 where
  pub short : length bytes ≤ LONGEST_DATAGRAM
  pub spelled : Msgs g bytes m

-- The fate of a datagram: heard, lost since memory ran out, or dropped.
-- It is dropped as too long, or as no message of the group.
pub data Fate : Type 0 where
  Hears : Msg → Fate
  Loses : Msg → Fate
  TooLong : Fate
  NoMessage : Fate

-- A datagram that came, with its fate.
pub record Arrival : Type 0 where
  pub bytes : List ℕ
  pub fate : Fate

-- A fate that these bytes may have in the group.
-- Forbids: a message of at most 1,400 bytes that is dropped: it is heard or lost.
abbrev pub IsFateOf : Group → List ℕ → Fate → Type 0
IsFateOf g bytes (Hears m) = Spells g bytes m
IsFateOf g bytes (Loses m) = Spells g bytes m
IsFateOf g bytes TooLong = LONGEST_DATAGRAM < length bytes
IsFateOf g bytes NoMessage = (m : Msg) → ¬ Msgs g bytes m

-- The message that a fate says was heard, if it says so.
abbrev pub heard_message : Fate → Option Msg
heard_message (Hears m) = Some m
heard_message (Loses m) = None
heard_message TooLong = None
heard_message NoMessage = None

-- One for a lost message, and otherwise none.
abbrev pub loss_of : Fate → ℕ
loss_of (Hears m) = 0
loss_of (Loses m) = 1
loss_of TooLong = 0
loss_of NoMessage = 0

-- The messages that the node heard, in the order of their datagrams.
abbrev pub heard_of : List Arrival → List Msg
heard_of came = filter_map (λ a. heard_message a.fate) came

-- The number of messages that were lost because memory ran out.
abbrev pub lost_of : List Arrival → ℕ
lost_of came = sum_by (λ a. loss_of a.fate) came

-- Arrivals at which no message was heard or lost.
abbrev pub IsUnheard : List Arrival → Type 0
IsUnheard came = (heard_of came ≡ []) × (lost_of came ≡ 0)

-- How hearing ended: at a datagram that is among the arrivals (`GoesOn`), at a receive that gave
-- nothing, or at a message that the node refused, whose datagram is not among them.
pub data Ending : Type 0 where
  GoesOn : Ending
  NoneCame : Ending
  Refuses : List ℕ → Msg → Ending

-- What the last receive gave, if the arrivals do not have it.
abbrev pub last_receive : Ending → List (Option (List ℕ))
last_receive GoesOn = []
last_receive NoneCame = None ∷ []
last_receive (Refuses bytes m) = Some bytes ∷ []

-- What each receive gave, in order.
abbrev pub received : List Arrival → Ending → List (Option (List ℕ))
received came ending = map (λ a. Some a.bytes) came ++ last_receive ending

-- An end of hearing at a message that the node refused; `P` holds of the message.
abbrev pub EndsAt : Ending → (Msg → Type 0) → Type 0
EndsAt GoesOn P = ⊥
EndsAt NoneCame P = ⊥
EndsAt (Refuses bytes m) P = P m

-- An end of hearing whose refused message, if there is one, is spelled by its datagram.
abbrev pub IsSpelledEnding : Group → Ending → Type 0
IsSpelledEnding g GoesOn = Unit {0}
IsSpelledEnding g NoneCame = Unit {0}
IsSpelledEnding g (Refuses bytes m) = Spells g bytes m
