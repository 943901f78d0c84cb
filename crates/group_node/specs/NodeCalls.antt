-- A node that is up, and its calls before their saves.
use Rattle.std.specs.Prelude.{ℕ, ◌+◌, ◌==◌, nat_lt, if◌then◌else◌, List, [], ◌∷◌, length, Result, Ok, Err}
use Rattle.paxos_msg.specs.declared.limits.TheConstants.{LAST_ROUND, LAST_SERIAL, LAST_START, PLACES}
use Rattle.paxos_msg.specs.declared.value.Value.{Value}
use Rattle.paxos_msg.specs.Batches.{Record}
use Rattle.paxos_acceptor.specs.declared.me.Me.{Me}
use Rattle.group_protocol.specs.declared.fault.NodeFault.{NodeFault}
use Rattle.group_protocol.specs.declared.fault.NodeFault.TheVariants as fault
use Rattle.group_protocol.specs.declared.limits.TheConstants.{MOST_WAITING}
use Rattle.group_protocol.specs.Known.{Response, Known, front, new_key, next_serial, on_start, on_typed}
use Rattle.group_protocol.specs.ProposerResponses.{last_round, on_campaign}
use Rattle.group_node.specs.Output.{Progress, unreleased_of}
use Rattle.group_node.specs.States.{NodeState, input}

-- A node that is up: what it knows, and the progress of its machine.
pub record Running : Type 0 where
  pub known : Known
  pub progress : Progress

-- A node of the code as a node that is up.
abbrev pub running : {S : Type 0} → NodeState S → Running
running n = record { known = n.protocol.known; progress = n.progress }

-- The output bytes of a node that wait, on its learned input.
abbrev pub unreleased_by : Running → List ℕ
unreleased_by w = unreleased_of (input w.known) w.progress

-- A call of a node before its save: a refusal, or a response and the keys that were typed.
pub data NodeCall : Type 0 where
  Refuses : NodeFault → NodeCall
  Makes : Response → List Value → NodeCall

-- What a call answers whose save, if it makes one, is kept.
abbrev pub answer_to_call : NodeCall → Result (Unit {0}) NodeFault
answer_to_call (Refuses e) = Err e
answer_to_call (Makes done keys) = Ok tt

-- The call that types a byte.
-- It is refused if 256 keys wait, or else if the serials are spent.
-- Forbids: a refusal where there is a key to spare.
abbrev pub call_of_press : Known → ℕ → NodeCall
call_of_press n byte =
    if length n.waiting == MOST_WAITING then Refuses fault.Busy
    else (if next_serial n == LAST_SERIAL + 1 then Refuses fault.SerialSpent
    else Makes (on_typed n byte) (new_key n byte ∷ []))

-- The call that begins a ballot.
-- It is refused if the rounds are spent, or else if the places are.
-- Forbids: a refusal where there is a round and a place to spare.
abbrev pub call_of_campaign : Known → NodeCall
call_of_campaign n =
    if nat_lt (last_round n) LAST_ROUND
    then (if front n == PLACES then Refuses fault.PlacesSpent else Makes (on_campaign n) [])
    else Refuses fault.RoundsSpent

-- The call that starts a node over the record `r`. It is refused if the starts are spent.
abbrev pub call_of_start : Me → Record → NodeCall
call_of_start me r =
    if r.starts == LAST_START then Refuses fault.StartsSpent else Makes (on_start me r) []
