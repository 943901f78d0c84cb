-- Groups of nine nodes, written down by hand. Node 9 is in its third start, and steps lead from one
-- of these groups to another.
use Rattle.std.specs.Prelude.{ℕ, zero, suc, pos, ◌+◌, ◌-◌, ◌==◌, if◌then◌else◌, List, [], ◌∷◌, map, Some, None}
use Rattle.std.specs.Ordering.{nat_cmp}
use Rattle.std.specs.FinMap.{FinMap, empty}
use Rattle.pcode_file.specs.Parts.{Parts}
use Rattle.pcode_frames.specs.declared.frame.Frame.{Frame}
use Rattle.pcode_machine.specs.declared.turn.Direction.TheVariants.{Reading}
use Rattle.pcode_machine.specs.Configuration.{Configuration, configuration_of, unframed}
use Rattle.paxos_msg.specs.declared.ballot.Ballot.{Ballot}
use Rattle.paxos_msg.specs.declared.message.Body.TheVariants.{Accept, Accepted, Ask, Submit}
use Rattle.paxos_msg.specs.declared.value.Value.{Value}
use Rattle.paxos_msg.specs.declared.value.Value.TheVariants.{Keys}
use Rattle.paxos_msg.specs.Batches.{Body, Msg, Record, Sent}
use Rattle.paxos_msg.specs.Keys.{Key}
use Rattle.paxos_msg.specs.Messages.{messages_of}
use Rattle.paxos_msg.specs.Records.{empty_record}
use Rattle.group_node.specs.Deeds as deed
use Rattle.group_rules.specs.Rules.{Seat, Up, WorldState, WorldStep}

-- ---- ballots, keys and records

-- The ballot of a node and a round.
abbrev pub ballot_by : ℕ → ℕ → Ballot
ballot_by node round = record { round = round; node = node }

-- The key of the third start of node 9 with this serial and character.
abbrev pub key_of_9 : ℕ → ℕ → Key
key_of_9 serial byte = record { node = 9; start = 3; serial = serial; byte = byte }

-- Two keys of that start, with the serials 40 and 41.
abbrev pub both_keys : List Key
both_keys = key_of_9 40 65 ∷ key_of_9 41 66 ∷ []

-- The batch of key 40 of the third start of node 9, with this character.
abbrev pub batch_40 : ℕ → Value
batch_40 byte = Keys 9 3 40 (byte ∷ [])

-- The record of a node with this many starts, which has promised this ballot and has no vote.
abbrev pub kept_by : ℕ → Ballot → Record
kept_by starts b = record { starts = starts; promised = Some b; votes = [] }

-- The record of a third start, which has promised the ballot of node 7 and round 40.
abbrev pub kept_third : Record
kept_third = kept_by 3 (ballot_by 7 40)

-- The same record after a vote for `v` at place 700, under the ballot of node 7 and round 41.
abbrev pub kept_voted : Value → Record
kept_voted v =
    record {
      starts = 3;
      promised = Some (ballot_by 7 41);
      votes = (record { place = 700; ballot = ballot_by 7 41; value = v }) ∷ [];
    }

-- ---- nodes

-- A node that is up, has learned these values, has written `output`, has released `k` bytes of it,
-- and at which these keys wait. The next key that is typed there has serial 1.
abbrev pub up_as : FinMap nat_cmp Value → List ℕ → ℕ → List Key → Up
up_as learned output k waiting =
    record {
      learned = learned;
      configuration = configuration_of (unframed 0) 0 output;
      released = k;
      waiting = waiting;
      next = 1;
    }

-- A node that is up and has learned these values.
abbrev pub up_learned : FinMap nat_cmp Value → Up
up_learned learned = up_as learned [] 0 []

-- A node that is up, has written `output`, and has released `k` bytes of it.
abbrev pub up_written : List ℕ → ℕ → Up
up_written output k = up_as empty output k []

-- A node that is up, at which these keys wait.
abbrev pub up_waiting : List Key → Up
up_waiting keys = up_as empty [] 0 keys

-- The same, where the next key that is typed has this serial.
abbrev pub up_next : ℕ → List Key → Up
up_next next keys = record (up_waiting keys) { next = next }

-- The main frame of a machine that has two words.
abbrev pub main_frame : Frame
main_frame = record { procedure = 1; base = 0; size = 2; link = 0; back = 0 }

-- The two words of a machine, after none, one, two or three of the bytes 65, 66 and 67 were put
-- there.
abbrev pub words_with : ℕ → List ℕ
words_with zero = 0 ∷ 0 ∷ []
words_with (suc zero) = 65 ∷ 0 ∷ []
words_with (suc (suc zero)) = 16961 ∷ 0 ∷ []
words_with (suc (suc (suc n))) = 16961 ∷ 67 ∷ []

-- A machine that reads four bytes from the input into its two words, and has read the first `k` of
-- them, at most three. They were 65, 66 and 67.
abbrev pub reads_on : ℕ → Configuration
reads_on k = record {
  state = record {
    words = words_with k;
    frames = main_frame ∷ [];
    stack = [];
    next = 0;
    io_result = 0;
    transfer =
        Some (record {
          direction = Reading;
          unit = 2;
          address = pos (2 + k);
          left = 4 - k;
          at = 0;
        });
  };
  read = k;
  output = [];
}

-- A node that is up and has learned these values, and whose machine has read `k` bytes.
abbrev pub up_reading : FinMap nat_cmp Value → ℕ → Up
up_reading learned k =
    record {
      learned = learned;
      configuration = reads_on k;
      released = 0;
      waiting = [];
      next = 1;
    }

-- A node with its record and its console, which is up.
abbrev pub seat_up : Record → List ℕ → Up → Seat
seat_up kept console up = record { kept = kept; console = console; up = Some up }

-- A node with its record and its console, which is down.
abbrev pub seat_down : Record → List ℕ → Seat
seat_down kept console = record { kept = kept; console = console; up = None }

-- Node 6 that is up and has released a byte, which its console shows.
abbrev pub sixth_was : Seat
sixth_was = seat_up kept_third (65 ∷ []) (up_written (65 ∷ []) 1)

-- The same node, which is down.
abbrev pub sixth_now : Seat
sixth_now = seat_down kept_third (65 ∷ [])

-- ---- messages

-- The message of a node that asks what was learned from place 700 on.
abbrev pub ask_by : ℕ → Msg
ask_by node = record { sender = node; body = Ask 700 }

-- The message of node 9 with this body.
abbrev pub sent_by_ninth : Body → Msg
sent_by_ninth body = record { sender = 9; body = body }

-- The message of node 5 with this body.
abbrev pub sent_by_fifth : Body → Msg
sent_by_fifth body = record { sender = 5; body = body }

-- The one message of node 7 that proposes a value at place 700, under its ballot of round 40.
abbrev pub seventh_proposes : Sent
seventh_proposes =
    (record { sender = 7; body = Accept (ballot_by 7 40) 700 (batch_40 65) }) ∷ []

-- ---- groups

-- A program without code.
abbrev pub no_code : Parts
no_code = record { name = []; segment = []; number = 1; procs = [] }

-- Another program without code.
abbrev pub named_program : Parts
named_program = record { name = []; segment = []; number = 2; procs = [] }

-- Nine nodes, of which node 6 and node 9 are these; the others have done nothing.
abbrev pub sixth_and_ninth : Seat → Seat → Sent → List Key → WorldState
sixth_and_ninth sixth ninth sent typed = record {
  program = no_code;
  size = 9;
  seats = λ k. if k == 9 then ninth else (if k == 6 then sixth else seat_down empty_record []);
  sent = sent;
  typed = typed;
}

-- Nine nodes without messages and keys, of which node 6 and node 9 are these.
abbrev pub two_of_nine : Seat → Seat → WorldState
two_of_nine sixth ninth = sixth_and_ninth sixth ninth [] []

-- Nine nodes, of which node 9 is this; the others have done nothing.
abbrev pub nine : Seat → Sent → List Key → WorldState
nine ninth sent typed = sixth_and_ninth (seat_down empty_record []) ninth sent typed

-- Nine nodes without messages and keys; node 9 is up as this, with the record of its third start.
abbrev pub nine_up : Up → WorldState
nine_up up = nine (seat_up kept_third [] up) [] []

-- Nine nodes, of which node 9 is up with this record. Node 7 has proposed a value at place 700, and
-- then node 5 has sent the body.
abbrev pub nine_hear : Body → Record → WorldState
nine_hear body kept =
    nine (seat_up kept [] (up_learned empty))
    ((record { sender = 7; body = Accept (ballot_by 7 41) 700 (batch_40 65) })
    ∷ sent_by_fifth body ∷ []) []

-- Nine nodes without messages and keys; node 9 is up with this record.
abbrev pub nine_keep : Record → WorldState
nine_keep kept = nine (seat_up kept [] (up_learned empty)) [] []

-- Nine nodes without messages and keys; node 9 is down with this record, and its console is empty.
abbrev pub nine_fell : Record → WorldState
nine_fell kept = nine (seat_down kept []) [] []

-- Nine nodes without messages and keys; node 9 is up as this, with the record of its third start,
-- and its console has shown these bytes.
abbrev pub nine_show : List ℕ → Up → WorldState
nine_show console up = nine (seat_up kept_third console up) [] []

-- Nine nodes that have sent these messages; node 9 is up with the record of its third start.
abbrev pub nine_sent : Sent → WorldState
nine_sent sent = nine (seat_up kept_third [] (up_learned empty)) sent []

-- Nine nodes; the keys `waiting` wait at node 9, whose next key has the serial `next`, and the keys
-- `typed` were typed.
abbrev pub nine_type : ℕ → List Key → List Key → WorldState
nine_type next waiting typed = nine (seat_up kept_third [] (up_next next waiting)) [] typed

-- Nine nodes; the keys `waiting` wait at node 9, the keys `typed` were typed, and the node has
-- submitted these values.
abbrev pub nine_submit : List Key → List Key → List Value → WorldState
nine_submit waiting typed values =
    nine (seat_up kept_third [] (up_waiting waiting)) (messages_of 9 (map Submit values)) typed

-- The message of a node that has accepted a value at place 700, under node 7's ballot of round 41.
abbrev pub accepted_by : ℕ → Value → Msg
accepted_by node v = record { sender = node; body = Accepted (ballot_by 7 41) 700 v }

-- Messages by which four of nine nodes have accepted a value under one ballot.
abbrev pub four_accepted : Value → Sent
four_accepted v = accepted_by 2 v ∷ accepted_by 3 v ∷ accepted_by 4 v ∷ accepted_by 6 v ∷ []

-- ---- claims

-- The claim that node 9, which hears the body from node 5, may then have this record.
abbrev pub HearingLeaves : Body → Record → Type 0
HearingLeaves body kept =
    WorldStep (nine_hear body kept_third) 9 (deed.Hear (sent_by_fifth body)) (nine_hear body kept)
