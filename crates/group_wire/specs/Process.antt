-- A run of the process of a node: over which record it started, and what it did on its wire.
use Rattle.std.specs.Prelude.{◌≡◌, ◌≢◌, ◌↔◌, Bool, false, true, if◌then◌else◌, List, [], ◌∷◌, ◌++◌, IsSome, IfSome, Option, Some, None, Ok}
use Rattle.pcode_file.specs.Parts.{Parts}
use Rattle.paxos_msg.specs.declared.limits.TheConstants.{LAST_START}
use Rattle.paxos_msg.specs.Batches.{Record}
use Rattle.paxos_acceptor.specs.declared.me.Me.{Me}
use Rattle.paxos_acceptor.specs.Stores.{IsOneOf, StoreKind}
use Rattle.group_node.specs.Deeds.{Deed}
use Rattle.group_protocol.specs.Known.{on_start}
use Rattle.group_node.specs.Output.{no_progress}
use Rattle.group_node.specs.NodeCalls.{Running}
use Rattle.group_wire.specs.Doings.{DoesAll, Doing, FailsDeed, prompts_of, record_after, transfers_of}
use Rattle.group_wire.specs.Traffic.{Traffic, grown}

-- A run of a process: the record that its load gave, what it did on its wire, and the deed at which
-- its save failed, if one did.
pub record Process : Type 0 where
  pub loaded : Record
  pub doings : List Doing
  pub failed : Option Doing

-- The node of a process that has started over this record.
abbrev pub started : Parts → Me → Record → Running
started p me loaded = record { known = (on_start me loaded).node; progress = no_progress p }

-- The process was a run of the program, and its node came to be `last`.
pub record IsProcess (p : Parts) (me : Me) (process : Process) (last : Running) : Type 0 where
  pub spare : process.loaded.starts ≢ LAST_START
  pub does : DoesAll me (started p me process.loaded) process.doings last
  pub fails : IfSome process.failed (λ d. FailsDeed me last d.deed d)

-- The deed at which a save failed, if one did.
abbrev pub failed_doing : Option Doing → List Doing
failed_doing None = []
failed_doing (Some d) = d ∷ []

-- All deeds of a process, in order.
abbrev pub doings_of : Process → List Doing
doings_of process = process.doings ++ failed_doing process.failed

-- The record at the end of a process whose node was `last`, and whose failed save, if there was
-- one, has changed it or not.
abbrev pub record_of : Running → Bool → Option Doing → Record
record_of last is_changed None = last.known.kept
record_of last is_changed (Some d) =
    if is_changed then record_after last.known d.deed else last.known.kept

-- A run of a node that has started, whose node is `last` and whose store is `end` at its end, as a
-- process over the record that one load of its store gave. What passed over its wire is what passes
-- in its deeds, and these are their prompts. It ends at a failed save exactly if it `fails`.
-- An honest store gave a record that a restart might load before, and in the end a restart may load
-- the record of the process alone, or either of the two that a failed save leaves.
-- Forbids: a datagram that no deed sends; a message that no receive gave; a node that starts over
-- another record than its store has, or leaves another one there.
pub record RunsAsProcess {S : Type 0} (kind : StoreKind S) (me : Me) (program : Parts)
    (store : S) (last : Running) (end : S) (from to : Option Traffic) (prompts : List Deed)
    (fails : Type 0) : Type 0 where
  pub process : Process
  pub left : S
  pub loaded : kind.loads store (Ok process.loaded) left
  pub may : kind.honest → kind.may_load store process.loaded
  pub leaves : kind.honest → (r : Record) → kind.may_load end r
      → IsOneOf r (record_of last false process.failed) (record_of last true process.failed)
  pub runs : IsProcess program me process last
  pub traffic : to ≡ grown from (transfers_of me (doings_of process))
  pub prompted : prompts_of (doings_of process) ≡ prompts
  pub failed : fails ↔ IsSome process.failed
