-- Starts of two nodes of a group of three, each over one disk, with all bytes of its file: among
-- those of the first one a failed save that was made, a failed save that was torn, and a start over
-- what that left. The first run and the last one may show a byte.
use Rattle.std.specs.Prelude.{ℕ, ◌==◌, Bool, false, true, if◌then◌else◌, List, [], ◌∷◌, ◌++◌, drop, flat_map, take, Some, None}
use Rattle.pcode_file.specs.Parts.{Parts}
use Rattle.paxos_msg.specs.declared.ballot.Ballot.{Ballot}
use Rattle.paxos_msg.specs.declared.record.Change.TheVariants.{Promise, Start}
use Rattle.paxos_msg.specs.declared.message.Body.TheVariants.{Prepare}
use Rattle.paxos_msg.specs.Batches.{Change, Msg, Record}
use Rattle.paxos_msg.specs.Datagrams.{spelling}
use Rattle.paxos_msg.specs.Records.{empty_record}
use Rattle.paxos_acceptor.specs.declared.me.Me.{Me}
use Rattle.paxos_disk.specs.Disks.{Folder, on_disk}
use Rattle.paxos_disk.specs.Log.{folded}
use Rattle.group_node.specs.Deeds.{Campaign, Hear, Release, Run}
use Rattle.group_node.specs.Output.{Progress, no_progress}
use Rattle.group_node.specs.NodeCalls.{Running}
use Rattle.group_protocol.specs.Known.{Response, front}
use Rattle.group_protocol.specs.Packets.{datagrams_of}
use Rattle.group_protocol.specs.Protocol.{on_message}
use Rattle.group_protocol.specs.ProposerResponses.{next_ballot, on_campaign}
use Rattle.group_wire.specs.Doings.{Doing}
use Rattle.group_wire.specs.Process.{started}
use Rattle.group_world.specs.Processes.{Entry}
use Rattle.group_process.specs.Runs.{FailsToStart, IsOver, NodeRun, Starts, entries_of_start}
use Rattle.group_process.specs.Terminals.{TerminalRun}
use Rattle.group_process.specs.Wrong.{writes_from}
use Rattle.group_disk.specs.Folders.{DiskStart, start_over, starts_of}
use Rattle.group_disk.specs.Wrong.{campaigns}

-- The node: the first of three.
abbrev pub first_of_three : Me
first_of_three = record { node = 1; group = record { size = 3; session = 7 } }

-- The ballots of its first two campaigns.
abbrev pub opening : Ballot
opening = record { round = 1; node = 1 }

abbrev pub second_ballot : Ballot
second_ballot = record { round = 2; node = 1 }

-- ---- the bytes of the file, and the changes that they spell

-- The log after one start and a promise: its header, which ends in the session, and two entries.
abbrev pub log_of_one : List ℕ
log_of_one = 80 ∷ 76 ∷ 2 ∷ 1 ∷ 3 ∷ 0 ∷ 0 ∷ 0 ∷ 7 ∷ 1 ∷ 2 ∷ 0 ∷ 0 ∷ 0 ∷ 1 ∷ 1 ∷ []

-- The changes that its entries spell.
abbrev pub changes_of_one : List Change
changes_of_one = Start ∷ Promise opening ∷ []

-- The same after two, three and four starts.
abbrev pub log_of_two : List ℕ
log_of_two = log_of_one ++ 1 ∷ []

abbrev pub changes_of_two : List Change
changes_of_two = changes_of_one ++ Start ∷ []

abbrev pub log_of_three : List ℕ
log_of_three = log_of_two ++ 1 ∷ []

abbrev pub changes_of_three : List Change
changes_of_three = changes_of_two ++ Start ∷ []

abbrev pub log_of_four : List ℕ
log_of_four = log_of_three ++ 1 ∷ []

abbrev pub changes_of_four : List Change
changes_of_four = changes_of_three ++ Start ∷ []

-- The promise of the second ballot as an entry, of which a crash leaves three bytes.
abbrev pub promise_left : List ℕ
promise_left = 2 ∷ 0 ∷ 0 ∷ []

abbrev pub promise_lost : List ℕ
promise_lost = 0 ∷ 2 ∷ 1 ∷ []

-- ---- the folders

-- No file.
abbrev pub no_files : Folder
no_files = record { file = None; others = []; fresh = None }

-- A file with these bytes, all of them on the disk.
abbrev pub synced_folder : List ℕ → Folder
synced_folder bytes = record { file = Some (on_disk bytes); others = []; fresh = None }

-- A new log has the name of the one before it, and the sync of the folder has failed: a crash may
-- leave either.
abbrev pub renamed_folder : Folder
renamed_folder = record {
  file = Some (on_disk log_of_two);
  others = Some (on_disk log_of_one) ∷ [];
  fresh = None;
}

-- A promise was appended, and its sync has failed: a crash may leave any prefix of it.
abbrev pub appended_folder : Folder
appended_folder = record {
  file = Some (record {
    kept = log_of_three;
    more = promise_left ++ promise_lost;
    is_sound = false;
  });
  others = [];
  fresh = None;
}

-- ---- what is shown

-- What a node does to show the first byte of its program's output, if it is to: its machine makes
-- ten steps, and it releases the byte. The small programs that write a letter do so in ten steps.
abbrev pub shows_byte : Bool → List Doing
shows_byte false = []
shows_byte true =
    (record { deed = Run 10; given = []; sent = []; typed = [] })
    ∷ (record { deed = Release; given = []; sent = []; typed = [] }) ∷ []

-- The progress of its machine after that.
abbrev pub progress_if : Parts → Bool → Progress
progress_if p false = no_progress p
progress_if p true = record { program = p; steps = 10; released = 1 }

-- ---- the starts

-- The campaign of a node that has started over no record.
abbrev pub first_campaign : Parts → Me → Doing
first_campaign p me = record {
  deed = Campaign;
  given = [];
  sent = datagrams_of me (on_campaign (started p me empty_record).known).sends;
  typed = [];
}

-- A run over no record that campaigns, shows a byte if it is to, and is killed.
abbrev pub campaigned : Parts → Me → Bool → NodeRun
campaigned p me is_shown =
    let up = started p me empty_record in
    record {
      process = record {
        loaded = empty_record;
        doings = first_campaign p me ∷ shows_byte is_shown;
        failed = None;
      };
      last = record {
        known = (on_campaign up.known).node;
        progress = progress_if p is_shown;
      };
      stand = IsOver false;
    }

-- A run over this record that shows a byte if it is to, and is killed.
abbrev pub shows_over : Parts → Me → Record → Bool → NodeRun
shows_over p me loaded is_shown = record {
  process = record { loaded = loaded; doings = shows_byte is_shown; failed = None };
  last = record {
    known = (started p me loaded).known;
    progress = progress_if p is_shown;
  };
  stand = IsOver false;
}

-- The record of these changes.
abbrev pub record_by_changes : List Change → Record
record_by_changes changes = folded empty_record changes

-- Four starts of the node, each over what a crash has left of its folder. The first one finds no
-- file, promises a ballot, shows a byte if it is to, and is killed. The save of the second one
-- fails, and its log has been renamed for all that. The third one loads that log and campaigns, and
-- the append of its promise fails. The fourth one finds half of that promise behind the log, passes
-- it over, and shows the byte again.
abbrev pub torn_starts : Parts → Bool → List DiskStart
torn_starts p is_shown =
    start_over no_files (Starts (campaigned p first_of_three is_shown)) (synced_folder log_of_one)
    ∷ start_over (synced_folder log_of_one)
    (FailsToStart (record_by_changes changes_of_one) true) renamed_folder
    ∷ start_over (synced_folder log_of_two)
    (Starts (campaigns p first_of_three (record_by_changes changes_of_two) false)) appended_folder
    ∷ start_over (synced_folder (log_of_three ++ promise_left))
    (Starts (shows_over p first_of_three (record_by_changes changes_of_three) is_shown))
    (synced_folder log_of_four)
    ∷ []

-- ---- another node

-- The second node of three.
abbrev pub second_of_three : Me
second_of_three = record { node = 2; group = record { size = 3; session = 7 } }

-- Its log after one start and the promise of the first node's ballot.
abbrev pub log_of_second : List ℕ
log_of_second = 80 ∷ 76 ∷ 2 ∷ 2 ∷ 3 ∷ 0 ∷ 0 ∷ 0 ∷ 7 ∷ 1 ∷ 2 ∷ 0 ∷ 0 ∷ 0 ∷ 1 ∷ 1 ∷ []

-- The message of the first node's campaign.
abbrev pub first_prepare : Parts → Msg
first_prepare p =
    let n = (started p first_of_three empty_record).known in
    record { sender = 1; body = Prepare (next_ballot n) (front n) }

-- The second node as it has just started, and once it has heard that message.
abbrev pub second_up : Parts → Running
second_up p = started p second_of_three empty_record

abbrev pub second_promised : Parts → Response
second_promised p =
    on_message (second_up p).known (first_prepare p).sender (first_prepare p).body

-- A run of the second node over no record. It hears the message, promises the ballot, and is
-- killed.
abbrev pub first_heard : Parts → NodeRun
first_heard p = record {
  process = record {
    loaded = empty_record;
    doings = (record {
      deed = Hear (first_prepare p);
      given = Some (spelling second_of_three.group (first_prepare p)) ∷ [];
      sent = datagrams_of second_of_three (second_promised p).sends;
      typed = [];
    }) ∷ [];
    failed = None;
  };
  last = record (second_up p) { known = (second_promised p).node };
  stand = IsOver false;
}

-- Its one start, over its own disk.
abbrev pub second_starts : Parts → List DiskStart
second_starts p =
    start_over no_files (Starts (first_heard p)) (synced_folder log_of_second) ∷ []

-- ---- a log of the group

-- The starts of each node of that group: those of the first two, and none of the third.
abbrev pub torn_group : Parts → Bool → ℕ → List DiskStart
torn_group p is_shown i =
    if 1 == i then torn_starts p is_shown else (if 2 == i then second_starts p else [])

-- The entries of the first node.
abbrev pub torn_entries : Parts → Bool → List Entry
torn_entries p is_shown =
    flat_map (entries_of_start first_of_three) (starts_of (torn_starts p is_shown))

-- What they do, in order of time: the second node hears the campaign of the first one before that
-- is killed.
abbrev pub torn_log : Parts → Bool → List Entry
torn_log p is_shown =
    take 2 (torn_entries p is_shown)
    ++ (flat_map (entries_of_start second_of_three) (starts_of (second_starts p))
    ++ drop 2 (torn_entries p is_shown))

-- The runs of the first node at its terminal, if its program writes this letter first. The first
-- one writes it. The second one shows nothing. A crash takes the letter from the terminal, and the
-- last run, which is told so, writes it again.
abbrev pub letter_shown : ℕ → List TerminalRun
letter_shown letter =
    writes_from (letter ∷ []) 0 0 (letter ∷ [])
    ∷ writes_from [] 1 1 []
    ∷ writes_from (letter ∷ []) 0 0 (letter ∷ [])
    ∷ []
