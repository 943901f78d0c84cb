-- The text of a group, as `show` writes it.
use Rattle.std.specs.Prelude.{ℕ, zero, suc, ◌+◌, codes, decimal}
use Rattle.std.specs.Prelude.{List, [], ◌∷◌, ◌++◌, length}
use Rattle.std.specs.Prelude.{Option, Some, None, option_map, option_and_then, unwrap_or}
use Rattle.std.specs.FinMap.{get}
use Rattle.std.specs.Option.{option_or}
use Rattle.digits.specs.Digits.{hex_text}
use Rattle.paxos_msg.specs.declared.ballot.Ballot.{Ballot}
use Rattle.paxos_msg.specs.declared.limits.TheConstants.{PLACES}
use Rattle.paxos_msg.specs.declared.value.Value.{Value}
use Rattle.paxos_msg.specs.declared.value.Value.TheVariants.{Noop, Keys}
use Rattle.group_protocol.specs.Known.{front}
use Rattle.group_world.specs.Group.{member_at, World}
use Rattle.group_node.specs.NodeCalls.{Running}

-- ---- parts of a line

-- A text, and then a number in decimal digits.
abbrev pub numbered : List ℕ → ℕ → List ℕ
numbered text n = text ++ decimal n

-- A ballot as `ROUND.NODE`.
abbrev pub ballot_text : Ballot → List ℕ
ballot_text b = decimal b.round ++ numbered (codes ".") b.node

-- Keys as their node, its start, the serial of the first, and their characters.
abbrev pub keys_text : ℕ → ℕ → ℕ → List ℕ → List ℕ
keys_text node start first bytes =
    numbered (codes "key ") node ++ numbered (codes " ") start ++ numbered (codes " ") first
    ++ codes " " ++ hex_text bytes

-- A value as `noop` or `key NODE START FIRST HH..`.
abbrev pub value_text : Value → List ℕ
value_text Noop = codes "noop"
value_text (Keys node start first bytes) = keys_text node start first bytes

-- ---- a node

-- Node i, if it is up.
abbrev pub node_at : World → ℕ → Option Running
node_at w i = option_and_then (λ m. m.node) (member_at w.members i)

-- The text of whether a node is up, and of its known front if it is.
abbrev pub known_text : Option Running → List ℕ
known_text None = codes " down known -"
known_text (Some q) = numbered (codes " up known ") (front q.known)

-- The ballot that the stored record of node i has promised.
abbrev pub promised_by : World → ℕ → Option Ballot
promised_by w i = option_and_then (λ m. m.kept.promised) (member_at w.members i)

-- The text of a promised ballot, or of none.
abbrev pub promised_text : Option Ballot → List ℕ
promised_text None = codes " promised -"
promised_text (Some b) = codes " promised " ++ ballot_text b

-- The bytes that the console of node i has shown.
abbrev pub console_at : World → ℕ → List ℕ
console_at w i = unwrap_or (option_map (λ m. m.console) (member_at w.members i)) []

-- The text of a console, or of an empty one.
abbrev pub console_text : List ℕ → List ℕ
console_text [] = codes " console -"
console_text (b ∷ bs) = codes " console " ++ hex_text (b ∷ bs)

-- The line of node i: whether it is up, its known front, its promised ballot, and its console.
-- Allows: a node that is down, whose record and console are shown.
abbrev pub node_line : World → ℕ → List ℕ
node_line w i =
    numbered (codes "node ") i ++ known_text (node_at w i) ++ promised_text (promised_by w i)
    ++ console_text (console_at w i) ++ codes "\n"

-- ---- a place

-- The value that node i has learned at a place, if it is up.
-- Forbids: a node that is down, for what it had learned.
abbrev pub learned_by : World → ℕ → ℕ → Option Value
learned_by w i place = option_and_then (λ q. get q.known.learner.learned place) (node_at w i)

-- The value at a place of the first of the nodes 1 to n that is up and has learned one there.
-- Allows: nodes that are down, or have learned nothing there.
abbrev pub learned_at : World → ℕ → ℕ → Option Value
learned_at w zero place = None
learned_at w (suc n) place = option_or (learned_at w n place) (learned_by w (1 + n) place)

-- The line of a place, if a value is learned there.
abbrev pub place_line : ℕ → Option Value → List ℕ
place_line place None = []
place_line place (Some v) =
    numbered (codes "place ") place ++ codes " " ++ value_text v ++ codes "\n"

-- ---- a group

-- The lines 0 to n - 1 in order.
-- It stays folded, since a group has 65,536 places.
unfoldable pub lines_below : (ℕ → List ℕ) → ℕ → List ℕ
lines_below line zero = []
lines_below line (suc n) = lines_below line n ++ line n

-- The lines of the nodes 1 to size.
abbrev pub node_lines : World → ℕ → List ℕ
node_lines w size = lines_below (λ k. node_line w (1 + k)) size

-- The lines of the places at which one of the nodes has learned a value.
abbrev pub place_lines : World → ℕ → List ℕ
place_lines w size = lines_below (λ place. place_line place (learned_at w size place)) PLACES

-- The text of a group of this size, as `show` writes it.
-- It has the line `node N up ..` or `node N down ..` of each node, in order. The line
-- `place P VALUE` follows for each place that a node which is up has learned, in order, with the
-- value of the first such node. Its last line is `sent K`, the number of sent messages.
-- Allows: a group in which nothing is learned.
-- Forbids: a node, a learned place or a message that is left out.
abbrev pub group_text : World → ℕ → List ℕ
group_text w size =
    node_lines w size ++ place_lines w size ++ numbered (codes "sent ") (length w.sent)
    ++ codes "\n"
