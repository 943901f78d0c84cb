-- Runs of a node, and what they wrote at its terminal: each wrong in one thing, and the right ones
-- beside them.
use Rattle.std.specs.Prelude.{ℕ, false, List, [], ◌∷◌, None}
use Rattle.pcode_file.specs.Parts.{Parts}
use Rattle.paxos_msg.specs.Batches.{Record}
use Rattle.paxos_msg.specs.Records.{empty_record}
use Rattle.paxos_acceptor.specs.declared.me.Me.{Me}
use Rattle.group_wire.specs.Process.{started}
use Rattle.group_process.specs.Runs.{NodeStart, GoesOn, IsOver, NodeRun, Stand, Starts, record_by}
use Rattle.group_process.specs.Terminals.{TerminalRun}

-- A run over this record that has done nothing but start, and goes on or was killed.
abbrev pub only_starts : Parts → Me → Record → Stand → NodeRun
only_starts p me loaded stand = record {
  process = record { loaded = loaded; doings = []; failed = None };
  last = started p me loaded;
  stand = stand;
}

-- A first run over no record, and a second one over this record.
abbrev pub then_over : Parts → Me → Stand → Record → List NodeStart
then_over p me first loaded =
    Starts (only_starts p me empty_record first) ∷ Starts (only_starts p me loaded (IsOver false))
    ∷ []

-- The record that a first run leaves which is killed.
abbrev pub left_first : Parts → Me → Record
left_first p me = record_by (only_starts p me empty_record (IsOver false)) (IsOver false)

-- A second run over that record, while the first one goes on.
abbrev pub beside_a_run : Parts → Me → List NodeStart
beside_a_run p me = then_over p me GoesOn (left_first p me)

-- A run that has released these bytes, and was to write from number `seen` on at a terminal of
-- which `kept` bytes were there.
abbrev pub writes_from : List ℕ → ℕ → ℕ → List ℕ → TerminalRun
writes_from released kept seen wrote =
    record { released = released; survived = kept; seen = seen; wrote = wrote }

-- A run that wrote one byte, and a second one that released that byte too, was told this number,
-- and wrote this.
abbrev pub byte_then : ℕ → ℕ → List ℕ → List TerminalRun
byte_then byte seen wrote =
    writes_from (byte ∷ []) 0 0 (byte ∷ []) ∷ writes_from (byte ∷ []) 1 seen wrote ∷ []
