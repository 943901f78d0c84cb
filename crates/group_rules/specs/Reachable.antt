-- Groups of one node and of three, to which deeds lead from the one in which nothing has happened.
use Rattle.std.specs.Prelude.{ℕ, ◌==◌, if◌then◌else◌, List, [], ◌∷◌, ◌++◌, Option, Some}
use Rattle.pcode_file.specs.Parts.{Parts}
use Rattle.paxos_msg.specs.declared.ballot.Ballot.{Ballot}
use Rattle.paxos_msg.specs.declared.message.Body.TheVariants.{Accept, Accepted, Prepare, Promise, Submit}
use Rattle.paxos_msg.specs.declared.record.Change.TheVariants as change
use Rattle.paxos_msg.specs.declared.value.Value.{Value}
use Rattle.paxos_msg.specs.declared.value.Value.TheVariants.{Keys}
use Rattle.paxos_msg.specs.Batches.{Body, Change, Record}
use Rattle.paxos_msg.specs.Keys.{Key}
use Rattle.paxos_msg.specs.Messages.{messages_of}
use Rattle.paxos_msg.specs.Records.{changed, empty_record}
use Rattle.paxos_acceptor.specs.Answers.{after}
use Rattle.group_node.specs.Deeds.{Deed, Campaign, Crash, Hear, Press, Release, Run, Start, Tick}
use Rattle.group_rules.specs.Rules.{Up, WorldState, fresh}
use Rattle.group_rules.specs.Leads.{NodeDeed, initial}
use Rattle.group_rules.specs.WrongSteps.{ballot_by}

-- Three nodes that run a program, and have done nothing.
abbrev pub three_new : Parts → WorldState
three_new p = initial p 3

-- A deed of node `i`.
abbrev pub by : ℕ → Deed → NodeDeed
by i deed = record { node = i; deed = deed }

-- The deed at which node `i` hears what node `j` said.
abbrev pub hears_from : ℕ → ℕ → Body → NodeDeed
hears_from i j body = by i (Hear (record { sender = j; body = body }))

-- The group after a call of node `i`, which has saved this change, if any, and sent these bodies,
-- and is then up as this. These keys were typed.
abbrev pub with_call : WorldState → ℕ → Option Change → List Body → Up → List Key → WorldState
with_call w i c bodies up keys = record w {
  seats = λ j.
      if j == i
      then
      record { kept = after (w.seats i).kept c; console = (w.seats i).console; up = Some up }
      else w.seats j;
  sent = w.sent ++ messages_of i bodies;
  typed = w.typed ++ keys;
}

-- The group after a start of node `i`.
abbrev pub with_start : WorldState → ℕ → WorldState
with_start w i = with_call w i (Some change.Start) [] (fresh w.program) []

-- The first key of the first start of node 1, as a batch of one.
abbrev pub first_batch : Value
first_batch = Keys 1 1 1 (65 ∷ [])

-- The first ballot of node 1.
abbrev pub opening_ballot : Ballot
opening_ballot = ballot_by 1 1

-- The deeds by which node 1 proposes a key of its own for a place.
-- Nodes 1 and 2 start; the key is typed. Node 1 campaigns, and both promise. It submits the key,
-- and proposes it.
abbrev pub propose_deeds : ℕ → List NodeDeed
propose_deeds s =
    by 1 (Start empty_record) ∷ by 2 (Start empty_record) ∷ by 1 (Press 65) ∷ by 1 Campaign
    ∷ hears_from 1 1 (Prepare opening_ballot s) ∷ hears_from 2 1 (Prepare opening_ballot s)
    ∷ by 1 Tick ∷ hears_from 1 1 (Submit first_batch) ∷ []

-- The deeds by which nodes 1 and 2 learn that key: both vote for it, and hear of node 2's vote.
abbrev pub two_learn_deeds : ℕ → List NodeDeed
two_learn_deeds s =
    propose_deeds s ++ hears_from 1 1 (Accept opening_ballot s first_batch)
    ∷ hears_from 2 1 (Accept opening_ballot s first_batch)
    ∷ hears_from 1 2 (Accepted opening_ballot s first_batch)
    ∷ hears_from 2 2 (Accepted opening_ballot s first_batch) ∷ []

-- The deeds by which node 3 takes over what node 2 has accepted for place 700 under that ballot.
-- Node 2 alone votes for the key. Node 3 starts and campaigns with a greater ballot. It and node 2
-- promise, and node 2 reports its vote. Node 3 proposes the same value, and both vote for it.
abbrev pub takeover_deeds : List NodeDeed
takeover_deeds =
    propose_deeds 700 ++ hears_from 2 1 (Accept opening_ballot 700 first_batch)
    ∷ by 3 (Start empty_record) ∷ by 3 Campaign ∷ hears_from 3 3 (Prepare (ballot_by 3 2) 700)
    ∷ hears_from 2 3 (Prepare (ballot_by 3 2) 700) ∷ hears_from 3 2 (Promise (ballot_by 3 2) 700 701
    ((record { place = 700; ballot = opening_ballot; value = first_batch }) ∷ []))
    ∷ hears_from 3 3 (Accept (ballot_by 3 2) 700 first_batch)
    ∷ hears_from 2 3 (Accept (ballot_by 3 2) 700 first_batch)
    ∷ hears_from 3 2 (Accepted (ballot_by 3 2) 700 first_batch) ∷ []

-- The deeds by which node 1 writes and shows a byte, crashes, starts again, and writes it again.
abbrev pub restart_deeds : List NodeDeed
restart_deeds =
    by 1 (Start empty_record) ∷ by 1 (Run 10) ∷ by 1 Release ∷ by 1 Crash
    ∷ by 1 (Start (changed empty_record change.Start)) ∷ by 1 (Run 10) ∷ []

-- The deeds by which nodes 1 and 2 read the key that they have learned, and show its echo.
abbrev pub two_show_deeds : List NodeDeed
two_show_deeds = by 1 (Run 10) ∷ by 1 Release ∷ by 2 (Run 10) ∷ by 2 Release ∷ []

-- ---- two starts

-- One node that runs a program, and has done nothing.
abbrev pub one_new : Parts → WorldState
one_new p = initial p 1

-- The first key of the second start of node 1, as a batch of one.
abbrev pub second_batch : Value
second_batch = Keys 1 2 1 (66 ∷ [])

-- What node 1 has in its record after its first start: its promise, and its vote for the first key.
abbrev pub first_kept : Record
first_kept = record {
  starts = 1;
  promised = Some opening_ballot;
  votes = (record { place = 0; ballot = opening_ballot; value = first_batch }) ∷ [];
}

-- The deeds by which a group of one node chooses a key at place 0.
-- The node starts; a key is typed; it campaigns, promises, submits, proposes and votes.
abbrev pub first_chosen_deeds : List NodeDeed
first_chosen_deeds =
    by 1 (Start empty_record) ∷ by 1 (Press 65) ∷ by 1 Campaign
    ∷ hears_from 1 1 (Prepare opening_ballot 0) ∷ by 1 Tick ∷ hears_from 1 1 (Submit first_batch)
    ∷ hears_from 1 1 (Accept opening_ballot 0 first_batch) ∷ []

-- Then the node crashes and starts again.
abbrev pub first_start_deeds : List NodeDeed
first_start_deeds = first_chosen_deeds ++ by 1 Crash ∷ by 1 (Start first_kept) ∷ []

-- The first ballot of its second start.
abbrev pub later_ballot : Ballot
later_ballot = ballot_by 1 2

-- The deeds by which that group then chooses a key of its second start at place 1.
-- The key is typed, and the node does as before. Then it hears of both votes.
abbrev pub two_starts_deeds : List NodeDeed
two_starts_deeds =
    first_start_deeds ++ by 1 (Press 66) ∷ by 1 Campaign
    ∷ hears_from 1 1 (Prepare later_ballot 0) ∷ by 1 Tick
    ∷ hears_from 1 1 (Submit second_batch) ∷ hears_from 1 1 (Accept later_ballot 1 second_batch)
    ∷ hears_from 1 1 (Accepted opening_ballot 0 first_batch)
    ∷ hears_from 1 1 (Accepted later_ballot 1 second_batch) ∷ []

-- ---- batches that overlap

-- The first two keys of node 1, as a batch.
abbrev pub first_two : Value
first_two = Keys 1 1 1 (65 ∷ 66 ∷ [])

-- Its second and third key, as a batch.
abbrev pub last_two : Value
last_two = Keys 1 1 2 (66 ∷ 67 ∷ [])

-- The deeds by which a group of one node chooses these three batches.
-- The first key is typed, and submitted; then the second, and both are submitted. The node proposes
-- both batches and votes for them. It learns the first, so that the first key no longer waits; the
-- third is typed, and the two that wait are submitted, proposed and accepted.
abbrev pub overlapping_deeds : List NodeDeed
overlapping_deeds =
    by 1 (Start empty_record) ∷ by 1 (Press 65) ∷ by 1 Campaign
    ∷ hears_from 1 1 (Prepare opening_ballot 0) ∷ by 1 Tick ∷ by 1 (Press 66) ∷ by 1 Tick
    ∷ hears_from 1 1 (Submit first_batch) ∷ hears_from 1 1 (Submit first_two)
    ∷ hears_from 1 1 (Accept opening_ballot 0 first_batch)
    ∷ hears_from 1 1 (Accept opening_ballot 1 first_two)
    ∷ hears_from 1 1 (Accepted opening_ballot 0 first_batch) ∷ by 1 (Press 67) ∷ by 1 Tick
    ∷ hears_from 1 1 (Submit last_two) ∷ hears_from 1 1 (Accept opening_ballot 2 last_two) ∷ []
