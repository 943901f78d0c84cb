-- What a run of a node writes, at the terminal that its writer is.
use Rattle.std.specs.Prelude.{◌≡◌, ℕ, List, Option, Some, OnOk, Result}
use Rattle.group_node.specs.NodeCalls.{Running}
use Rattle.node_io.specs.declared.fault.GroupFault.{GroupFault}
use Rattle.group_process.specs.Runs.{output_of}
use Rattle.group_process.specs.Terminals.{TerminalRun, WritesAt, WritesWhole, shown_after}

-- What a run whose node was `last` at its end wrote at a terminal of which the first `kept` bytes
-- of `shown` were there. At `Ok` it has written all that it had to.
-- Forbids: a terminal that has anything else after it.
pub record IsWrittenAt (shown : List ℕ) (kept : ℕ) (last : Running) (after : Option (List ℕ))
    (result : Result (Unit {0}) GroupFault) : Type 0 where
  pub run : TerminalRun
  pub released : run.released ≡ output_of last
  pub begun : run.survived ≡ kept
  pub writes : WritesAt shown run
  pub is_there : after ≡ Some (shown_after shown run)
  pub whole : OnOk result (WritesWhole run)
