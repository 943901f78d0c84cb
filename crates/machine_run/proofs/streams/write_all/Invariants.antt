use Rattle.std.proofs.Common.{◌≡◌, List, ℕ, ◌++◌, length}
use Rattle.std.specs.Io.KnownBytes.{Appends}
use Rattle.machine_run.proofs.streams.write_all.Given as goal

-- some first bytes are written
abbrev pub invariant-loop-rest : goal.invariant-loop-rest
invariant-loop-rest g l = record {
  written : (wrote : List ℕ) × (l.bytes ≡ wrote ++ l.rest)
      × Appends (g.W.Write.contents l.fn.writer) (g.W.Write.contents l.writer) wrote;
  faults : l.faults ≡ l.fn.faults;
}

abbrev pub decreases-loop-rest : goal.decreases-loop-rest
decreases-loop-rest g l = length l.rest
