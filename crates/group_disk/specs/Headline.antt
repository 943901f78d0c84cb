-- The claims about the processes of a group over their disks.
use Rattle.std.specs.Prelude.{◌≡◌, ℕ, List, ◌++◌, Some, None}
use Rattle.pcode_file.specs.Parts.{Parts}
use Rattle.paxos_msg.specs.declared.message.Group.{Group}
use Rattle.paxos_msg.specs.Fits.{IsGroup, IsNode}
use Rattle.group_protocol.specs.States.{IsSize}
use Rattle.group_rules.specs.Rules.{WorldState}
use Rattle.group_world.specs.Group.{member_at}
use Rattle.group_world.specs.Member.{Member}
use Rattle.group_world.specs.Processes.{Entry}
use Rattle.group_process.specs.Runs.{AreFirstRuns, NodeStart, IsAfterRuns, node_after, state_after}
use Rattle.group_disk.specs.Restarts.{IsDiskLog, IsKeptLog}

-- The nodes `now` of a group after a log of its processes over their disks. They are those after
-- the same runs over stores that keep their records, by a choice of what each disk has.
pub record IsAfterDisks (p : Parts) (group : Group) (restarts : ℕ → List NodeStart)
    (log : List Entry) (now : List Member) : Type 0 where
  pub runs : ℕ → List NodeStart
  pub kept : List Entry
  pub chosen : IsKeptLog p group restarts runs log kept
  pub after : IsAfterRuns p group runs kept now

-- The claim that a log over disks leaves such nodes.
abbrev pub DisksLeaveNodes : Parts → Group → (ℕ → List NodeStart) → List Entry → Type 0
DisksLeaveNodes p group restarts log =
    (now : List Member) × IsAfterDisks p group restarts log now

-- The claim that this is a log over disks, of starts that are the first of these.
abbrev pub HasFirstStarts : Parts → Group → (ℕ → List NodeStart) → List Entry → Type 0
HasFirstStarts p group restarts log =
    (cut : ℕ → List NodeStart) × IsDiskLog p group cut log
    × ((i : ℕ) → AreFirstRuns (cut i) (restarts i))

-- Each node of a group is up, or down, as its last start left it.
abbrev pub AreUpAsRun : Group → (ℕ → List NodeStart) → List Member → Type 0
AreUpAsRun group restarts now =
    (i : ℕ) → IsNode group.size i
    → (m : Member) × (member_at now i ≡ Some m) × (m.node ≡ node_after None (restarts i))

-- What is seen of the nodes is the same: their consoles, and the nodes that are up.
-- Allows: Another record of a node that is down.
abbrev pub AreSeenAlike : Group → List Member → List Member → Type 0
AreSeenAlike group now other =
    (i : ℕ) (m n : Member) → IsNode group.size i → member_at now i ≡ Some m
    → member_at other i ≡ Some n → (m.console ≡ n.console) × (m.node ≡ n.node)

-- What holds of the nodes of every program and group, whatever their processes do, over disks.
abbrev pub AlwaysOfDisks : (WorldState → Type 0) → Type 0
AlwaysOfDisks P =
    (p : Parts) (group : Group) (restarts : ℕ → List NodeStart) (log : List Entry)
    (now : List Member) → IsSize group.size → IsGroup group
    → IsAfterDisks p group restarts log now → P (state_after p group log now)

-- The same of what relates the nodes to their starts.
abbrev pub AlwaysOfDiskNodes : ((ℕ → List NodeStart) → List Member → Type 0) → Type 0
AlwaysOfDiskNodes Q =
    (p : Parts) (group : Group) (restarts : ℕ → List NodeStart) (log : List Entry)
    (now : List Member) → IsSize group.size → IsGroup group
    → IsAfterDisks p group restarts log now → Q restarts now

-- Two moments of a log over disks: after `log`, and after all of it. The starts `cut` up to the
-- first moment are the first of the starts, and the last one of each node may be cut off there.
pub record AreMomentsOfDisks (p : Parts) (group : Group) (cut restarts : ℕ → List NodeStart)
    (log more : List Entry) : Type 0 where
  pub before : IsDiskLog p group cut log
  pub all : IsDiskLog p group restarts (log ++ more)
  pub first : (i : ℕ) → AreFirstRuns (cut i) (restarts i)

-- The claim that a log over disks has such a moment after a prefix, and nodes at it.
abbrev pub HaveMomentOfDisks : Parts → Group → (ℕ → List NodeStart) → List Entry → List Entry
    → Type 0
HaveMomentOfDisks p group restarts log more =
    (cut : ℕ → List NodeStart) × AreMomentsOfDisks p group cut restarts log more
    × DisksLeaveNodes p group cut log

-- What holds of every two moments of a log: `mid` are the nodes after a prefix, and `now` those
-- after all of it, by whichever choice for each of the two.
-- Allows: a record that `mid` has of a node that is down, and that no later start finds.
abbrev pub AlwaysLaterOfDisks : (WorldState → WorldState → Type 0) → Type 0
AlwaysLaterOfDisks P =
    (p : Parts) (group : Group) (cut restarts : ℕ → List NodeStart) (log more : List Entry)
    (mid now : List Member) → IsSize group.size → IsGroup group
    → AreMomentsOfDisks p group cut restarts log more → IsAfterDisks p group cut log mid
    → IsAfterDisks p group restarts (log ++ more) now
    → P (state_after p group log mid) (state_after p group (log ++ more) now)
