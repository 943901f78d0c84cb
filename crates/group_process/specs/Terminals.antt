-- What the terminal of a node shows: what each run of the node wrote, one after the other.
use Rattle.std.specs.Prelude.{◌≡◌, ◌≤◌, ℕ, List, [], ◌∷◌, ◌++◌, drop, length, map, take, Some}
use Rattle.pcode_machine.specs.Runs.{IsPrefix}
use Rattle.group_world.specs.Group.{member_at}
use Rattle.group_world.specs.Member.{Member}
use Rattle.group_process.specs.Runs.{NodeStart, run_output, runs_in}

-- A run of a node at its terminal: what it had released by its end; how many bytes of the terminal
-- survived until it began; the number of the first byte that it was to write, its `--seen`; and
-- what it wrote.
pub record TerminalRun : Type 0 where
  pub released : List ℕ
  pub survived : ℕ
  pub seen : ℕ
  pub wrote : List ℕ

-- What a terminal has as a run begins: all that it had, or only the first bytes of it, as after a
-- cut of the power.
abbrev pub shown_before : List ℕ → TerminalRun → List ℕ
shown_before shown run = take run.survived shown

-- What it has after the run.
abbrev pub shown_after : List ℕ → TerminalRun → List ℕ
shown_after shown run = shown_before shown run ++ run.wrote

-- A run that was told how many bytes its terminal has. It wrote released bytes from this number on,
-- in order, up to some byte. What it had not written at its end is lost.
-- Allows: nothing is written.
-- Forbids: a byte that is written twice, or left out before another one; one that was not released.
pub record WritesAt (shown : List ℕ) (run : TerminalRun) : Type 0 where
  pub told : run.seen ≡ length (shown_before shown run)
  pub wrote : IsPrefix run.wrote (drop run.seen run.released)

-- Runs at one terminal, one after the other.
abbrev pub WriteInTurn : List ℕ → List TerminalRun → Type 0
WriteInTurn shown [] = Unit {0}
WriteInTurn shown (run ∷ runs) = WritesAt shown run × WriteInTurn (shown_after shown run) runs

-- What a terminal has after them.
abbrev pub terminal_after : List ℕ → List TerminalRun → List ℕ
terminal_after shown [] = shown
terminal_after shown (run ∷ runs) = terminal_after (shown_after shown run) runs

-- A run that has written all that it had to.
abbrev pub WritesWhole : TerminalRun → Type 0
WritesWhole run = run.wrote ≡ drop run.seen run.released

-- Runs at a terminal that is always kept whole, each of which has written all that it had to.
abbrev pub LoseNothing : List ℕ → List TerminalRun → Type 0
LoseNothing shown [] = Unit {0}
LoseNothing shown (run ∷ runs) =
    (length shown ≤ run.survived) × WritesWhole run × LoseNothing (shown_after shown run) runs

-- The runs of these starts at the terminal of their node, which had nothing at first.
-- Forbids: a run that is left out; what no run has released.
pub record AreAtTerminal (starts : List NodeStart) (runs : List TerminalRun) : Type 0 where
  pub released : map (λ run. run.released) runs ≡ map run_output (runs_in starts)
  pub writes : WriteInTurn [] runs

-- The terminal of each node shows a prefix of its console.
-- Allows: bytes at the end of the console that are not on the terminal yet.
-- Forbids: a byte that is there twice, or left out before another one.
abbrev pub TerminalsShowConsoles : (ℕ → List NodeStart) → List Member → Type 0
TerminalsShowConsoles starts now =
    (i : ℕ) (m : Member) (runs : List TerminalRun) → member_at now i ≡ Some m
    → AreAtTerminal (starts i) runs → IsPrefix (terminal_after [] runs) m.console

-- The terminal of a node shows all that its last run has released, if that run has written all that
-- it had to.
abbrev pub TerminalsShowLastRuns : (ℕ → List NodeStart) → List Member → Type 0
TerminalsShowLastRuns starts now =
    (i : ℕ) (m : Member) (runs : List TerminalRun) (last : TerminalRun) → member_at now i ≡ Some m
    → AreAtTerminal (starts i) (runs ++ last ∷ []) → WritesWhole last
    → IsPrefix last.released (terminal_after [] (runs ++ last ∷ []))

-- The terminal of a node shows exactly its console, if nothing was lost.
abbrev pub TerminalsAreConsoles : (ℕ → List NodeStart) → List Member → Type 0
TerminalsAreConsoles starts now =
    (i : ℕ) (m : Member) (runs : List TerminalRun) → member_at now i ≡ Some m
    → AreAtTerminal (starts i) runs → LoseNothing [] runs → terminal_after [] runs ≡ m.console
