-- Logs in which something is shown. The log of a typed key is a log of nodes, for the law
-- `a_written_log`; the events of the witness lead to a world in which the key is learned and shown,
-- for `keys_may_show`; and two consoles show a byte, for `consoles_may_show`. First, what each node
-- of the first log knows after each of its calls.
use Rattle.std.proofs.Common.{ℕ, List, [], ◌∷◌, replicate, slice_set, Some, refl, arith, ◌++◌}
use Rattle.std.specs.FinMap.{empty, get-empty, insert, remove}
use Rattle.paxos_msg.specs.declared.message.Body.TheVariants.{Accept, Accepted, Ask, Prepare, Promise, Submit}
use Rattle.paxos_msg.specs.declared.record.Change.TheVariants as change
use Rattle.paxos_msg.specs.declared.value.Value.{Value}
use Rattle.paxos_msg.specs.Batches.{Record}
use Rattle.paxos_acceptor.specs.declared.me.Me.{Me}
use Rattle.paxos_proposer.specs.Proposer.{Proposer, new_proposer, proposing}
use Rattle.paxos_learner.specs.Entered.{keys_with}
use Rattle.paxos_learner.specs.Tallies.{Tally, begun_tally}
use Rattle.paxos_learner.proofs.OnePlace.{get_here}
use Rattle.group_protocol.specs.Known.{Known, Response, begun}
use Rattle.group_protocol.specs.Packets.{to_all, to_one}
use Rattle.group_protocol.specs.Pump.{pump}
use Rattle.group_world.specs.Event.{kept_event}
use Rattle.group_world.specs.Group.{new_world}
use Rattle.group_world.specs.KeyLog.{ballot, key_events, letter_value, node_1, node_2, node_3, promised_record, voted_record}
use Rattle.group_rules.specs.SmallPrograms.{echoes, letter_program}
use Rattle.group_world.specs.Witness.{letter_batch, one, shown_events}
use Rattle.group_world.specs.WrittenLogs.{started_times, three_nodes}
use Rattle.group_rules.proofs.WrittenVotes.{own_keys}
use Rattle.group_rules.proofs.SmallPrograms.{StepsLaw, echoes_first, writes_letter}
use Rattle.group_world.proofs.WorldAsGroup.{ReadLaw, stopped}
use Rattle.group_world.proofs.WrittenLogs.{◌▸◌, AreNumbered, Ran, Said, campaigns, hears, numbered, presses, releases, runs, starts, stop, ticks, crashes, fails, asking, campaigns_so, prepares, promised, unsaved}
use Rattle.group_protocol.proofs.Elements.{entries_none, entries_one}
use Rattle.group_world.specs.declared.event.Done.TheVariants.{Fell}
use Rattle.group_world.specs.declared.event.Outcome.TheVariants.{FailedOld}
use Rattle.group_world.specs.declared.event.Act.TheVariants.{Release, Run, Start}
use Rattle.group_world.specs.declared.event.Event.{Event}

-- ---- the nodes

abbrev pub me : Me
me = record { node = 1; group = one }

-- a node that has started, and one that has promised
abbrev just_started : Me → Known
just_started me = begun me (started_times 1)

abbrev promises : Me → Known
promises me = begun me promised_record

-- node 1 campaigns; it has one promise, and then two; it has proposed
abbrev leading : Proposer → Known
leading p = record (promises node_1) { proposer = Some p }

abbrev half : Proposer
half = record (new_proposer ballot 0 3) { coverages = slice_set (replicate 10 0) 2 65536 }

abbrev whole : Proposer
whole = record half { coverages = slice_set (slice_set (replicate 10 0) 2 65536) 3 65536 }

abbrev offers : Known
offers = record (leading (proposing whole (Some letter_value))) { offered = keys_with [] letter_value }

-- the letter waits at node 2
abbrev holds : Known
holds = record (promises node_2) { waiting = 65 ∷ [] }

-- node 3 has voted, has heard node 2, and has learned the letter
abbrev voter : Known
voter = begun node_3 voted_record

abbrev tally : Tally
tally = begun_tally 2 ballot letter_value

abbrev counts : Known
counts = record voter { learner = record { size = 3; learned = empty; tallies = insert empty 0 tally } }

abbrev knows : Known
knows = record voter {
  learner = record { size = 3; learned = insert empty 0 letter_value; tallies = remove (insert empty 0 tally) 0 };
}

-- ---- their calls

abbrev quiet : Known → Response
quiet n = unsaved n []

abbrev promising : Me → Response
promising me =
    record { node = promises me; saves = Some (change.Promise ballot); sends = to_one 1 (Promise ballot 0 65536 []) ∷ [] }

-- a node votes for the value, and has this record then
abbrev voting : Known → Record → Value → Response
voting n kept v = record {
  node = record n { kept = kept };
  saves = Some (change.Ballotted 0 ballot v);
  sends = to_all (Accepted ballot 0 v) ∷ [];
}

-- ---- what is sent

abbrev said : List Said
said =
    (1, to_all (Prepare ballot 0)) ∷ (2, to_one 1 (Promise ballot 0 65536 [])) ∷ (3, to_one 1 (Promise ballot 0 65536 []))
    ∷ (2, to_all (Submit letter_value)) ∷ (2, to_all (Ask 0)) ∷ (1, to_all (Accept ballot 0 letter_value))
    ∷ (2, to_all (Accepted ballot 0 letter_value)) ∷ (3, to_all (Accepted ballot 0 letter_value)) ∷ []

-- ---- the group after each entry

module _ (steps : StepsLaw) (read : ReadLaw) where
  -- the message with a number
  pub number : AreNumbered three_nodes said
  number = numbered read three_nodes (omega arith) said (grind (arith, own_keys))

  abbrev pub run : Ran (new_world echoes three_nodes) key_events
  unfolding pump
  run =
      starts 1 0 refl refl
      ▸ starts 2 0 refl refl
      ▸ starts 3 0 refl refl
      ▸ campaigns 1 (just_started node_1) refl (prepares node_1 1) (campaigns_so node_1 1)
      ▸ hears 2 (just_started node_2) refl 0 1 (Prepare ballot 0) (promising node_2) (number 1 0 _ refl) refl
      ▸ hears 3 (just_started node_3) refl 0 1 (Prepare ballot 0) (promising node_3) (number 2 0 _ refl) refl
      ▸ hears 1 (asking node_1 1) refl 1 2 (Promise ballot 0 65536 []) (quiet (leading half)) (number 3 1 _ refl) refl
      ▸ hears 1 (leading half) refl 2 3 (Promise ballot 0 65536 []) (quiet (leading whole)) (number 3 2 _ refl) refl
      ▸ presses 2 (promises node_2) refl 65 holds letter_value (omega arith) refl
      ▸ ticks 2 holds refl (unsaved holds (to_all (Submit letter_value) ∷ to_all (Ask 0) ∷ [])) (rw entries_none refl)
      ▸ hears 1 (leading whole) refl 3 2 (Submit letter_value) (unsaved offers (to_all (Accept ballot 0 letter_value) ∷ []))
      (number 5 3 _ refl) (rw entries_none refl)
      ▸ hears 2 holds refl 5 1 (Accept ballot 0 letter_value) (voting holds voted_record letter_value)
      (number 6 5 _ refl) (rw entries_none refl)
      ▸ hears 3 (promises node_3) refl 5 1 (Accept ballot 0 letter_value) (voting (promises node_3) voted_record letter_value)
      (number 7 5 _ refl) refl
      ▸ hears 3 voter refl 6 2 (Accepted ballot 0 letter_value) (quiet counts) (number 8 6 _ refl) (simp (get-empty, entries_none))
      ▸ hears 3 counts refl 7 3 (Accepted ballot 0 letter_value) (quiet knows) (number 8 7 _ refl)
      (simp (get-empty, entries_none, get_here))
      ▸ runs 3 knows (echoes_first 2 1) steps refl
      ▸ releases 3 knows (echoes_first 2 1) refl
      ▸ stop

-- ---- one node alone

abbrev voted : Record
voted = record (promised 2 1) { votes = (record { place = 0; ballot = ballot; value = letter_batch }) ∷ [] }

abbrev leads : Proposer
leads = record (new_proposer ballot 0 1) { coverages = slice_set (replicate 10 0) 1 65536 }

-- the node after each call: it leads; a key waits; it has proposed, voted for and learned it
abbrev leading_alone : Known
leading_alone = record (asking me 2) { proposer = Some leads }

abbrev holding : Known
holding = record leading_alone { waiting = 65 ∷ [] }

abbrev offering_alone : Known
offering_alone = record holding { proposer = Some (proposing leads (Some letter_batch)); offered = keys_with [] letter_batch }

abbrev voting_alone : Known
voting_alone = record offering_alone { kept = voted }

abbrev knowing : Known
knowing = record voting_alone {
  learner = record { size = 1; learned = insert empty 0 letter_batch; tallies = remove empty 0 };
  waiting = [];
  first = 2;
}

-- ---- what it sends

abbrev said_alone : List Said
said_alone =
    (1, to_all (Prepare ballot 0)) ∷ (1, to_one 1 (Promise ballot 0 65536 [])) ∷ (1, to_all (Submit letter_batch))
    ∷ (1, to_all (Ask 0)) ∷ (1, to_all (Accept ballot 0 letter_batch)) ∷ (1, to_all (Accepted ballot 0 letter_batch)) ∷ []

-- ---- its own events

module _ (steps : StepsLaw) (read : ReadLaw) where
  -- the message with a number
  pub number_alone : AreNumbered one said_alone
  number_alone = numbered read one (omega arith) said_alone (grind (arith, own_keys))

  abbrev pub run_alone : Ran (new_world echoes one) shown_events
  unfolding pump
  run_alone =
      fails 1 0 FailedOld (stopped (started_times 0)) refl
      (Fell, (refl, refl, record { answer = refl; left = refl; sends = refl; types = refl }))
      ▸ starts 1 0 refl refl
      ▸ crashes 1 (begun me (started_times 1)) refl
      ▸ starts 1 1 refl refl
      ▸ campaigns 1 (begun me (started_times 2)) refl (prepares me 2) (campaigns_so me 2)
      ▸ hears 1 (asking me 2) refl 0 1 (Prepare ballot 0) (unsaved (asking me 2) (to_one 1 (Promise ballot 0 65536 []) ∷ []))
      (number_alone 1 0 _ refl) refl
      ▸ hears 1 (asking me 2) refl 1 1 (Promise ballot 0 65536 []) (quiet leading_alone) (number_alone 2 1 _ refl) refl
      ▸ presses 1 leading_alone refl 65 holding letter_batch (omega arith) refl
      ▸ ticks 1 holding refl (unsaved holding (to_all (Submit letter_batch) ∷ to_all (Ask 0) ∷ [])) (rw entries_none refl)
      ▸ hears 1 holding refl 2 1 (Submit letter_batch) (unsaved offering_alone (to_all (Accept ballot 0 letter_batch) ∷ []))
      (number_alone 4 2 _ refl) (rw (entries_none, entries_none) refl)
      ▸ hears 1 offering_alone refl 4 1 (Accept ballot 0 letter_batch) (voting offering_alone voted letter_batch)
      (number_alone 5 4 _ refl) (rw entries_none refl)
      ▸ hears 1 voting_alone refl 5 1 (Accepted ballot 0 letter_batch) (quiet knowing) (number_alone 6 5 _ refl)
      (simp (get-empty, entries_none, entries_one, get_here))
      ▸ runs 1 knowing (echoes_first 1 2) steps refl
      ▸ releases 1 knowing (echoes_first 1 2) refl
      ▸ stop

-- ---- two consoles

-- the events of one node: it starts, runs and releases a byte
abbrev pub shows : ℕ → List Event
shows i = kept_event (Start i) ∷ kept_event (Run i 10) ∷ kept_event (Release i) ∷ []

-- two nodes of three do so
abbrev pub both_show : StepsLaw → Ran (new_world letter_program three_nodes) (shows 1 ++ shows 2)
both_show steps =
    starts 1 0 refl refl
    ▸ runs 1 (just_started node_1) (writes_letter _) steps refl
    ▸ releases 1 (just_started node_1) (writes_letter _) refl
    ▸ starts 2 0 refl refl
    ▸ runs 2 (just_started node_2) (writes_letter _) steps refl
    ▸ releases 2 (just_started node_2) (writes_letter _) refl
    ▸ stop
