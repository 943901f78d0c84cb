-- The lines of a script.
use Rattle.std.proofs.Common.{◌≡◌, ℕ, ◌+◌, ◌-◌, ◌<◌, List, get_or, length, Option, Result, Ok, Err, add-one, arith}
use Rattle.std.proofs.lemmas.Option.{slice_get-get_or}
use Rattle.machine_run.specs.declared.run.RunIo.{RunIo}
use Rattle.group_world.specs.declared.script.Line.{Line}
use Rattle.group_world.specs.Group.{World}
use Rattle.group_sim.specs.declared.simulation.Stopped.{Stopped}
use Rattle.group_sim.specs.declared.simulation.ScriptHalt.{ScriptHalt}
use Rattle.group_sim.specs.Texts.{Held}
use Rattle.group_sim.specs.Moments.{AreDone, IsHalted, LineIsDone, Moment, PerformsLines, Says, halt_answer, first_moment, Task, HaltsAt}

-- the task after `n` others halts
pub halts_at : (task : ℕ → Task) (first n : ℕ) (a mid : Moment) (h : ScriptHalt) (b : Moment) → AreDone task first n a mid
    → task (first + n) mid (Err h) b → HaltsAt task first (first + n) a h b
halts_at task first n a mid h b p q = grind arith

-- the line after `n` others, whose last one has this number
line_there : (size : ℕ) {n number : ℕ} (lines : List Line) (default : Line) {mid b : Moment} {r : Result (Unit {0}) ScriptHalt}
    → number ≡ n + 1 → n < length lines
    → Says size (number + 1) (get_or lines n default) mid r b → LineIsDone size lines (2 + n) mid r b
line_there size {n} {number} lines default {mid} {b} {r} e less q =
    let same : number + 1 ≡ 2 + n = omega arith in
    let at : n ≡ 2 + n - 2 = omega arith in
    (get_or lines n default, rw (← at) (slice_get-get_or lines n default less), rw (← same) q)

-- one more line is done
pub line_done : (size n number : ℕ) (lines : List Line) (default : Line) (a mid b : Moment) → number ≡ n + 1
    → n < length lines → AreDone (LineIsDone size lines) 2 n a mid
    → Says size (number + 1) (get_or lines n default) mid (Ok tt) b → AreDone (LineIsDone size lines) 2 (n + 1) a b
line_done size n number lines default a mid b e less p q =
    rw (add-one n) (mid, p, line_there _ lines default e less q)

-- the script halts at a line
pub line_halts : (w : World) (lines : List Line) (n number : ℕ) (default : Line) (mid b : Moment) (h : ScriptHalt) (old : Held)
    → number ≡ n + 1 → n < length lines → AreDone (LineIsDone w.group.size lines) 2 n (first_moment w old) mid
    → Says w.group.size (number + 1) (get_or lines n default) mid (Err h) b → IsHalted w lines (number + 1) h old b.written
line_halts w lines n number default mid b h old e less p q =
    grind (arith, halts_at (LineIsDone w.group.size lines) 2 n (first_moment w old) mid h b p (line_there _ lines default e less q))

-- and this is its outcome: a refused event, a settle that is too long, or a failed write
pub answers : {w : World} {lines : List Line} {old new : Held} (h : ScriptHalt) (number : ℕ) (r : Result (Option Stopped) RunIo)
    → r ≡ halt_answer number h → IsHalted w lines number h old new → PerformsLines w lines old new r
answers h number r e p = grind arith
