-- Deeds that lead, by the rules without one clause, to groups that break a claim.
use Rattle.std.specs.Prelude.{List, [], ◌∷◌, ◌++◌, Some}
use Rattle.paxos_msg.specs.declared.message.Body.TheVariants.{Accept, Accepted, Prepare, Submit, Tell}
use Rattle.paxos_msg.specs.declared.value.Value.{Value}
use Rattle.paxos_msg.specs.declared.value.Value.TheVariants.{Keys}
use Rattle.paxos_msg.specs.Batches.{Record}
use Rattle.paxos_msg.specs.Records.{empty_record}
use Rattle.group_node.specs.Deeds.{Campaign, Crash, Press, Release, Run, Start, Tick}
use Rattle.group_rules.specs.Leads.{NodeDeed}
use Rattle.group_rules.specs.Reachable.{by, first_batch, first_chosen_deeds, first_kept, first_start_deeds, first_two, hears_from, later_ballot, opening_ballot}

-- ---- the order of keys

-- The second key of the second start of node 1, as a batch of one.
abbrev pub late_batch : Value
late_batch = Keys 1 2 2 (66 ∷ [])

-- The first key of the first start with another character.
abbrev pub twin_batch : Value
twin_batch = Keys 1 1 1 (66 ∷ [])

-- The deeds by which a batch is chosen at place 1, after it was submitted.
abbrev pub chosen_next_deeds : Value → List NodeDeed
chosen_next_deeds v = hears_from 1 1 (Submit v) ∷ hears_from 1 1 (Accept later_ballot 1 v) ∷ []

-- The deeds by which a node that has started again campaigns, and submits this batch, which is
-- chosen at place 1.
abbrev pub chosen_later_deeds : Value → List NodeDeed
chosen_later_deeds v =
    by 1 Campaign ∷ hears_from 1 1 (Prepare later_ballot 0) ∷ by 1 Tick ∷ chosen_next_deeds v

-- Two keys are typed in the second start, and a tick submits the second alone.
abbrev pub second_alone_deeds : List NodeDeed
second_alone_deeds =
    first_start_deeds ++ by 1 (Press 65) ∷ by 1 (Press 66) ∷ chosen_later_deeds late_batch

-- Two keys are typed in the second start, and at a tick the first no longer waits.
abbrev pub left_unread_deeds : List NodeDeed
left_unread_deeds =
    first_start_deeds ++ by 1 (Press 65) ∷ by 1 (Press 66) ∷ by 1 Tick
    ∷ chosen_later_deeds late_batch

-- A tick counts a key that nobody typed, and the next one is typed.
abbrev pub counted_deeds : List NodeDeed
counted_deeds = first_start_deeds ++ by 1 Tick ∷ by 1 (Press 66) ∷ chosen_later_deeds late_batch

-- One key is typed in the second start.
abbrev pub typed_deeds : Value → List NodeDeed
typed_deeds v = first_start_deeds ++ by 1 (Press 66) ∷ chosen_later_deeds v

-- A campaign fails to save, and the node starts again over a record that has forgotten its start.
abbrev pub fallen_deeds : List NodeDeed
fallen_deeds =
    first_chosen_deeds ++ by 1 Campaign ∷ by 1 (Start (record first_kept { starts = 0 }))
    ∷ by 1 (Press 66) ∷ chosen_later_deeds twin_batch

-- A node learns its first key, and the same call counts a start. Then the next key is typed, and
-- chosen.
abbrev pub started_hearing_deeds : List NodeDeed
started_hearing_deeds =
    by 1 (Start empty_record) ∷ by 1 (Press 65) ∷ by 1 Campaign
    ∷ hears_from 1 1 (Prepare opening_ballot 0) ∷ by 1 Tick ∷ hears_from 1 1 (Submit first_batch)
    ∷ hears_from 1 1 (Accept opening_ballot 0 first_batch)
    ∷ hears_from 1 1 (Accepted opening_ballot 0 first_batch) ∷ by 1 (Press 66) ∷ by 1 Tick
    ∷ hears_from 1 1 (Submit late_batch) ∷ hears_from 1 1 (Accept opening_ballot 1 late_batch) ∷ []

-- ---- what is learned

-- A node starts, tells of a value that nobody has chosen, and hears it.
abbrev pub told_deeds : List NodeDeed
told_deeds =
    by 1 (Start empty_record) ∷ by 1 Tick ∷ hears_from 1 1 (Tell 700 first_batch) ∷ []

-- A node starts and ticks.
abbrev pub ticked_deeds : List NodeDeed
ticked_deeds = by 1 (Start empty_record) ∷ by 1 Tick ∷ []

-- A node votes under its second ballot, and then for what it proposed under its first.
-- Two keys are typed. Under the first ballot the node proposes the first key; under the second, for
-- the same place, both. It learns what was chosen under the first.
abbrev pub voted_back_deeds : List NodeDeed
voted_back_deeds =
    by 1 (Start empty_record) ∷ by 1 (Press 65) ∷ by 1 (Press 66) ∷ by 1 Campaign
    ∷ hears_from 1 1 (Prepare opening_ballot 0) ∷ by 1 Tick ∷ by 1 Tick
    ∷ hears_from 1 1 (Submit first_batch) ∷ by 1 Campaign
    ∷ hears_from 1 1 (Prepare later_ballot 0) ∷ hears_from 1 1 (Submit first_two)
    ∷ hears_from 1 1 (Accept later_ballot 0 first_two)
    ∷ hears_from 1 1 (Accept opening_ballot 0 first_batch)
    ∷ hears_from 1 1 (Accepted opening_ballot 0 first_batch) ∷ []

-- What the node has in its record then.
abbrev pub voted_back : Record
voted_back = record {
  starts = 1;
  promised = Some opening_ballot;
  votes = (record { place = 0; ballot = opening_ballot; value = first_batch }) ∷ [];
}

-- It crashes and starts again, and learns what was chosen under the second.
abbrev pub learned_again_deeds : List NodeDeed
learned_again_deeds =
    by 1 Crash ∷ by 1 (Start voted_back) ∷ hears_from 1 1 (Accepted later_ballot 0 first_two) ∷ []

-- ---- what is shown

-- A node starts and ticks, and releases a byte.
abbrev pub ticked_out_deeds : List NodeDeed
ticked_out_deeds = by 1 (Start empty_record) ∷ by 1 Tick ∷ by 1 Release ∷ []

-- A node starts and runs, and releases a byte.
abbrev pub run_out_deeds : List NodeDeed
run_out_deeds = by 1 (Start empty_record) ∷ by 1 (Run 10) ∷ by 1 Release ∷ []
