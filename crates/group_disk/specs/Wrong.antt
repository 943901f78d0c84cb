-- Starts over a disk that are no runs over a store which keeps its record, call by call.
use Rattle.std.specs.Prelude.{◌+◌, ◌<◌, Bool, true, false, List, [], ◌∷◌, Some}
use Rattle.pcode_file.specs.Parts.{Parts}
use Rattle.paxos_msg.specs.Batches.{Record}
use Rattle.paxos_msg.specs.declared.limits.TheConstants.{LAST_START}
use Rattle.group_node.specs.NodeCalls.{call_of_campaign}
use Rattle.group_wire.specs.Doings.{IsMade}
use Rattle.paxos_acceptor.specs.declared.me.Me.{Me}
use Rattle.group_node.specs.Deeds.{Campaign}
use Rattle.group_wire.specs.Doings.{Doing}
use Rattle.group_wire.specs.Process.{started}
use Rattle.group_process.specs.Runs.{NodeStart, FailsToStart, IsOver, NodeRun, Starts, record_by}

-- A campaign at which the save fails.
abbrev pub failed_campaign : Doing
failed_campaign = record { deed = Campaign; given = []; sent = []; typed = [] }

-- A run of a node over this record, which ends as it campaigns.
abbrev pub campaigns : Parts → Me → Record → Bool → NodeRun
campaigns p me loaded is_changed = record {
  process = record { loaded = loaded; doings = []; failed = Some failed_campaign };
  last = started p me loaded;
  stand = IsOver is_changed;
}

-- After it a start loads the promise, and is cut off as it saves; the next one does not find the
-- promise any more.
abbrev pub taken_back : Parts → Me → Record → Bool → Bool → Bool → List NodeStart
taken_back p me loaded a b c =
    Starts (campaigns p me loaded a)
    ∷ FailsToStart (record_by (campaigns p me loaded a) (IsOver true)) b
    ∷ FailsToStart (record_by (campaigns p me loaded a) (IsOver false)) c ∷ []

-- A node over this record may start twice, and campaign.
pub record MayCampaign (p : Parts) (me : Me) (loaded : Record) : Type 0 where
  pub spare : loaded.starts + 1 < LAST_START
  pub made : IsMade (call_of_campaign (started p me loaded).known)
