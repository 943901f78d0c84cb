-- A run of node 1 of three with all that passes, is written and is on its disk.
use Rattle.std.proofs.Common.{◌≡◌, true, [], ◌∷◌, drop, None, Some, Ok, IsErrOf, length, inl, refl, ap, arith}
use Rattle.paxos_msg.specs.Batches.{Record}
use Rattle.paxos_msg.specs.Records.{empty_record}
use Rattle.paxos_acceptor.specs.declared.me.Me.{Me}
use Rattle.paxos_disk.specs.Found.{MayLoad, disk_kind}
use Rattle.group_protocol.proofs.Elements.{entries_none}
use Rattle.group_protocol.specs.declared.fault.NodeFault.TheVariants.{SerialSpent}
use Rattle.group_protocol.specs.Known.{front}
use Rattle.group_node.specs.Deeds.{Campaign, Run}
use Rattle.group_node.specs.NodeCalls.{Running}
use Rattle.group_node.specs.Output.{IsReplay, unreleased_of}
use Rattle.group_node.specs.States.{input}
use Rattle.group_wire.specs.Doings.{transfers_of}
use Rattle.group_wire.specs.Process.{IsProcess, doings_of, started}
use Rattle.group_wire.specs.Traffic.{grown}
use Rattle.group_process.specs.Runs.{NodeRun}
use Rattle.group_rules.specs.SmallPrograms.{letter_program}
use Rattle.group_rules.proofs.SmallPrograms.{replays, writes_letter}
use Rattle.node_io.specs.declared.fault.GroupFault.TheVariants as group
use Rattle.node_io.specs.Prompts.{GivesWhatCame, no_keys}
use Rattle.node_io.specs.Refusals.{write_failed}
use Rattle.node_run.specs.Course.{around}
use Rattle.node_run.specs.Prompted.{IsPrompted}
use Rattle.node_run.specs.Runs.{RunsNode, WritesReleased}
use Rattle.group_disk.specs.Recorded.{no_keyboard, recorded_plan, recorded_traffic, store_over}
use Rattle.group_disk.specs.TornStarts.{campaigned, changes_of_one, first_of_three, log_of_one, no_files, record_by_changes, synced_folder}
use Rattle.group_disk.proofs.TornFiles.{letter_output}

abbrev me : Me
me = first_of_three

-- the run, and its node at the end
abbrev run : NodeRun
run = campaigned letter_program me true

abbrev last : Running
last = run.last

-- its machine is where a replay is that has written the letter
replay : IsReplay (input last.known) last.progress
replay =
    let letter = writes_letter (input last.known) in
    let none : unreleased_of (input last.known) last.progress ≡ [] = ap (drop 1) letter.writes in
    record { made = (replays letter).made; released = omega (arith, ap length letter.writes); few = rw none (omega arith) }

-- ---- what passed, was typed and was written

front_is : front (started letter_program me empty_record).known ≡ 0
front_is = rw entries_none refl

traffic : Some recorded_traffic ≡ grown (Some []) (transfers_of me (doings_of run.process))
traffic = rw front_is refl

typed : GivesWhatCame no_keyboard [] no_keyboard
typed = record { came = no_keys; whole = refl; none_came = λ _. refl; stays = refl; more = refl; times = 0; looked = refl }

followed : IsPrompted [] 1 0 0 (IsErrOf {T = Unit {0}} (Ok tt) (group.Node SerialSpent)) (Run 10 ∷ [])
followed = record { lost = []; typed = refl; all = λ _. refl; campaigns = omega arith; made = refl }

written : WritesReleased 0 last (IsErrOf {T = Unit {0}} (Ok tt) write_failed) (Some []) (Some (65 ∷ []))
written = record {
  replay = replay;
  wrote = 65 ∷ [];
  lost = [];
  whole = letter_output last.known;
  some = λ f. absurd cc;
  few = omega arith;
  none = λ _. refl;
  appended = refl;
}

-- ---- the run

pub recorded : IsProcess letter_program me run.process last
    → ((s : Record) → MayLoad (synced_folder log_of_one) s → s ≡ record_by_changes changes_of_one)
    → RunsNode (disk_kind (Unit {0}) (λ folder. folder)) me letter_program (store_over no_files None)
    (store_over (synced_folder log_of_one) (Some (record_by_changes changes_of_one))) recorded_plan (around (Some []) no_keyboard 0)
    (around (Some recorded_traffic) no_keyboard 0) (Some []) (Some (65 ∷ [])) (Ok tt)
recorded process loads = record {
  last = last;
  first = Campaign ∷ [];
  prompts = Run 10 ∷ [];
  runs = record {
    process = run.process;
    left = store_over no_files (Some empty_record);
    loaded = record { me = refl; found = refl; lost = tt; cause = record { once = λ f. absurd cc; quiet = λ _. refl } };
    may = λ _. record { me = me; left = None; in_range = omega arith; found = inl refl; reads = refl };
    leaves = λ _ r may. inl (loads r may);
    runs = process;
    traffic = traffic;
    prompted = refl;
    failed = ((λ f. absurd cc), (λ f. absurd cc));
  };
  turns = 1;
  begun = inl refl;
  gift = [];
  given = typed;
  follows = followed;
  few = omega arith;
  all = refl;
  ends = tt;
  due = tt;
  writes = written;
  none_waits = ap (drop 1) (writes_letter (input last.known)).writes;
}
