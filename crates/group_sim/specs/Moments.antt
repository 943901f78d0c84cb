-- What a script does to a group and to a writer, line by line.
use Rattle.std.specs.Prelude.{◌≡◌, ◌⊎◌, ℕ, zero, suc, ◌+◌, ◌-◌, ◌<◌, ◌≤◌, codes, decimal, Bool, true, false, ◌&&◌, ◌==◌, List, [], ◌++◌, length, slice_get, Option, Some, None, is_some, option_map, unwrap_or, IfSome, IsNone, Result, Ok, Err, IfOk, OnErr}
use Rattle.base.specs.Calls.{Mut}
use Rattle.pcode_file.specs.Parts.{Parts}
use Rattle.group_protocol.specs.declared.fault.NodeFault.{NodeFault}
use Rattle.group_protocol.specs.Fault.{code_of}
use Rattle.group_protocol.specs.declared.packet.To.{To}
use Rattle.group_protocol.specs.declared.packet.To.TheVariants as whom
use Rattle.group_protocol.specs.Packets.{Datagram}
use Rattle.group_protocol.specs.States.{IsSize}
use Rattle.group_node.specs.NodeCalls.{unreleased_by}
use Rattle.group_world.specs.declared.event.Act.{Act}
use Rattle.group_world.specs.declared.event.Act.TheVariants.{Deliver, Run, Release}
use Rattle.group_world.specs.declared.event.Done.{Done}
use Rattle.group_world.specs.declared.event.Done.TheVariants.{Applied, Refused, Fell}
use Rattle.group_world.specs.declared.event.Event.{Event}
use Rattle.group_world.specs.declared.fault.WorldFault.{WorldFault}
use Rattle.group_world.specs.declared.fault.WorldFault.TheVariants as fault
use Rattle.group_world.specs.declared.script.Line.{Line}
use Rattle.group_world.specs.declared.script.Line.TheVariants as line
use Rattle.group_world.specs.declared.script.Script.{Script}
use Rattle.group_world.specs.Event.{Goes, kept_event}
use Rattle.group_world.specs.Group.{World, new_world}
use Rattle.group_world.specs.Refusals.{IsRefused}
use Rattle.machine_run.specs.declared.run.RunIo.{RunIo}
use Rattle.machine_run.specs.declared.run.RunIo.TheVariants.{Write}
use Rattle.group_sim.specs.declared.limits.TheConstants.{DELIVERIES, SETTLE_STEPS}
use Rattle.group_sim.specs.declared.simulation.Stopped.{Stopped}
use Rattle.group_sim.specs.declared.simulation.ScriptHalt.{ScriptHalt}
use Rattle.group_sim.specs.declared.simulation.ScriptHalt.TheVariants as halt
use Rattle.group_sim.specs.declared.simulation.Simulation.{Simulation}
use Rattle.group_sim.specs.Texts.{AppendsText, AppendsPrefix, Held, held}
use Rattle.group_sim.specs.Groups.{group_text, node_at}

-- A moment of a script.
-- It has the group, the number of messages that the settles have passed, the number of deliveries
-- that the settle may still make, and what is known of the writer.
pub record Moment : Type 0 where
  pub world : World
  pub passed : ℕ
  pub left : ℕ
  pub written : Held

-- The moment of a simulation, with what is known of the writer.
abbrev pub moment : Simulation → Held → Moment
moment s written = record { world = s.world; passed = s.passed; left = s.left; written = written }

-- A relation of a moment, an answer (done, or the script halts) and the moment after it.
abbrev pub Task : Type 1
Task = Moment → Result (Unit {0}) ScriptHalt → Moment → Type 0

-- ---- one after the other

-- The first n of numbered tasks, from the number `first` on, are done in order.
abbrev pub AreDone : (ℕ → Task) → ℕ → ℕ → Moment → Moment → Type 0
AreDone task first zero a b = b ≡ a
AreDone task first (suc n) a b =
    (mid : Moment) × AreDone task first n a mid × task (first + n) mid (Ok tt) b

-- The task `number` is the first that halts, and halts with `h`.
pub record HaltsAt (task : ℕ → Task) (first number : ℕ) (a : Moment) (h : ScriptHalt)
    (b : Moment) : Type 0 where
  pub before : Moment
  pub done : AreDone task first (number - first) a before
  pub after_first : first ≤ number
  pub halts : task number before (Err h) b

-- A task that a call performs on a simulation and a writer which it borrows.
abbrev pub PerformsTask : {W : Type 0} → (W → Option (List ℕ)) → (W → ℕ) → Task
    → Mut Simulation → Mut W → Result (Unit {0}) ScriptHalt → Type 0
PerformsTask contents faults task simulation writer r =
    task (moment simulation.entry.now (held contents faults writer.entry.now)) r
    (moment simulation.exit.now (held contents faults writer.exit.now))

-- A task of n tasks in order, up to the first that halts.
abbrev pub InTurn : (ℕ → Task) → ℕ → ℕ → Task
InTurn task first n a (Ok x) b = AreDone task first n a b
InTurn task first n a (Err h) b =
    (number : ℕ) × (number < first + n) × HaltsAt task first number a h b

-- A task and then another, unless the first halts.
abbrev pub Then : Task → Task → Task
Then first second a (Ok x) b = (mid : Moment) × first a (Ok tt) mid × second mid (Ok tt) b
Then first second a (Err h) b =
    first a (Err h) b ⊎ ((mid : Moment) × first a (Ok tt) mid × second mid (Err h) b)

-- The task that changes nothing.
abbrev pub DoesNothing : Task
DoesNothing a r b = (r ≡ Ok tt) × (b ≡ a)

-- ---- an event

-- A moment after another in which only the world is new, and this text was written.
pub record LeavesWorld (a : Moment) (world : World) (text : List ℕ) (b : Moment) : Type 0 where
  pub world_is : b.world ≡ world
  pub passed : b.passed ≡ a.passed
  pub left : b.left ≡ a.left
  pub written : AppendsText a.written b.written text

-- A moment after another in which only the world is new, and a prefix of the text was written.
pub record LeavesPrefix (a : Moment) (world : World) (text : List ℕ) (b : Moment) : Type 0 where
  pub world_is : b.world ≡ world
  pub passed : b.passed ≡ a.passed
  pub left : b.left ≡ a.left
  pub written : AppendsPrefix a.written b.written text

-- The text of a node's refusal of an event of this line.
abbrev pub refusal_text : ℕ → NodeFault → List ℕ
refusal_text number f = codes "line " ++ decimal number ++ codes " node " ++ code_of f ++ codes "\n"

-- The text of an event of this line: `line N node Dk` if its node refused it, else nothing.
abbrev pub event_text : ℕ → Done → List ℕ
event_text number (Refused f) = refusal_text number f
event_text number Applied = []
event_text number Fell = []

-- An event of a line that happens or is refused.
-- If it happens, a refusal of its node is written, or a prefix of it if the write fails. If the
-- world refuses it, nothing has changed.
-- Allows: an event that its node refuses.
-- Forbids: a text that is not written.
abbrev pub HappensAt : ℕ → Event → Task
HappensAt number e a (Ok x) b =
    (world : World) × (done : Done) × Goes a.world e done world
    × LeavesWorld a world (event_text number done) b
HappensAt number e a (Err (halt.For (Some f))) b = IsRefused a.world e.act f × (b ≡ a)
HappensAt number e a (Err (halt.For None)) b = ⊥
HappensAt number e a (Err halt.Unwritten) b =
    (world : World) × (done : Done) × Goes a.world e done world
    × LeavesPrefix a world (event_text number done) b

-- ---- a settle

-- True if a message to these is for node i.
abbrev pub is_meant : To → ℕ → Bool
is_meant whom.All i = true
is_meant (whom.One j) i = j == i

-- A delivery, which is one of those that the settle may still make.
-- If none is left, the settle is too long.
abbrev pub Spends : ℕ → Act → Task
Spends number act a r b =
    ((a.left ≡ 0) × (r ≡ Err (halt.For None)) × (b ≡ a))
    ⊎ ((0 < a.left) × HappensAt number (kept_event act) (record a { left = a.left - 1 }) r b)

-- The delivery of message k to node i, if it is for that node and the node is up.
-- Allows: a message to a node that is down.
abbrev pub DeliversOne : ℕ → ℕ → To → ℕ → Task
DeliversOne number k to i a r b =
    ((is_meant to i && is_some (node_at a.world i) ≡ false) × DoesNothing a r b)
    ⊎ ((is_meant to i && is_some (node_at a.world i) ≡ true) × Spends number (Deliver k i) a r b)

-- The deliveries of message k to those whom it is for and who are up, in ascending order.
abbrev pub PassesOn : ℕ → ℕ → ℕ → Task
PassesOn number size k a r b =
    (message : Datagram) × (slice_get a.world.sent k ≡ Some message)
    × InTurn (DeliversOne number k message.to) 1 size a r b

-- The deliveries of the messages that no settle has passed, and of those that they cause.
-- They come in the order in which they were sent, until there are no more.
-- Forbids: a message that is passed twice.
abbrev pub DeliversAll : ℕ → ℕ → Task
DeliversAll number size a (Ok x) b =
    (n : ℕ) × (mid : Moment) × AreDone (PassesOn number size) a.passed n a mid
    × (length mid.world.sent ≤ a.passed + n) × (b ≡ record mid { passed = a.passed + n })
DeliversAll number size a (Err h) b = (k : ℕ) × HaltsAt (PassesOn number size) a.passed k a h b

-- The number of output bytes that node i has not released, 0 if it is not up.
abbrev pub unreleased_count : World → ℕ → ℕ
unreleased_count w i =
    unwrap_or (option_map (λ q. length (unreleased_by q)) (node_at w i)) 0

-- The release of all output that node i has not released.
abbrev pub ReleasesAll : ℕ → ℕ → Task
ReleasesAll number i a r b =
    InTurn (λ k. HappensAt number (kept_event (Release i))) 0 (unreleased_count a.world i) a r b

-- The steps of node i, if it is up, and the release of all output that it has not released.
abbrev pub Plays : ℕ → ℕ → Task
Plays number i a r b =
    ((is_some (node_at a.world i) ≡ false) × DoesNothing a r b)
    ⊎ ((is_some (node_at a.world i) ≡ true)
    × Then (HappensAt number (kept_event (Run i SETTLE_STEPS))) (ReleasesAll number i) a r b)

-- A settle: all deliveries, and then each node that is up runs and releases all, ascending.
abbrev pub Settles : ℕ → ℕ → Task
Settles number size a r b =
    Then (DeliversAll number size) (InTurn (Plays number) 1 size)
    (record a { left = DELIVERIES }) r b

-- ---- a script

-- A `show` of a group of this size: its text is written, and nothing else has changed.
-- Allows: a group whose nodes are all down; a failed write, which leaves a prefix of the text.
-- Forbids: another text.
abbrev pub Shows : ℕ → Task
Shows size a (Ok x) b = LeavesWorld a a.world (group_text a.world size) b
Shows size a (Err (halt.For why)) b = ⊥
Shows size a (Err halt.Unwritten) b = LeavesPrefix a a.world (group_text a.world size) b

-- The task of a line of this number.
abbrev pub Says : ℕ → ℕ → Line → Task
Says size number (line.Act e) = HappensAt number e
Says size number line.Settle = Settles number size
Says size number line.Show = Shows size

-- The task of line `number`, which is the item `number - 2` of the lines.
abbrev pub LineIsDone : ℕ → List Line → ℕ → Task
LineIsDone size lines number a r b =
    (said : Line) × (slice_get lines (number - 2) ≡ Some said) × Says size number said a r b

-- The group of a script, before its first event: all nodes are down.
abbrev pub group_of : Parts → Script → World
group_of program script =
    new_world program (record { size = script.size; session = script.session })

-- The moment before the first event of a script, with what is known of the writer.
abbrev pub first_moment : World → Held → Moment
first_moment w written = record { world = w; passed = 0; left = 0; written = written }

-- A script whose lines were all done in order, and what is then known of the writer.
-- Forbids: a line that is left out.
pub record IsScriptDone (w : World) (lines : List Line) (old new : Held) : Type 0 where
  pub end : Moment
  pub done : AreDone (LineIsDone w.group.size lines) 2 (length lines) (first_moment w old) end
  pub written : end.written ≡ new

-- A script that was done up to line `number`, which halts with `h`, and what is then known of
-- the writer.
-- Allows: a settle that halts in the middle.
pub record IsHalted (w : World) (lines : List Line) (number : ℕ) (h : ScriptHalt)
    (old new : Held) : Type 0 where
  pub end : Moment
  pub halted : HaltsAt (LineIsDone w.group.size lines) 2 number (first_moment w old) h end
  pub few : number < 2 + length lines
  pub written : end.written ≡ new

-- The answer of a script that halts at a line.
abbrev pub halt_answer : ℕ → ScriptHalt → Result (Option Stopped) RunIo
halt_answer number (halt.For why) = Ok (Some (record { line = number; fault = why }))
halt_answer number halt.Unwritten = Err Write

-- A script whose group cannot be made at line 1: the size is wrong, or memory runs out.
abbrev pub IsNoGroup : ℕ → ℕ → Option WorldFault → Type 0
IsNoGroup size number why =
    (number ≡ 1) × (((why ≡ Some fault.Size) × ¬ IsSize size)
    ⊎ ((why ≡ Some fault.Memory) × IsSize size))

-- What the lines of a script do on its group, and what is known of the writer before and after.
-- `Ok(None)` says that each was done, in order; a line and a cause, that this line halted for just
-- that, after all before it, or that there was no group and nothing was written; `Write`, that a
-- line halted since a write failed.
-- Forbids: a halt whose cause is made up, and a line that is done after it.
pub record PerformsLines (w : World) (lines : List Line) (old new : Held)
    (result : Result (Option Stopped) RunIo) : Type 0 where
  pub done : IfOk result (λ answer. IsNone answer → IsScriptDone w lines old new)
  pub halted : IfOk result (λ answer. IfSome answer
      (λ stopped. (IsNoGroup w.group.size stopped.line stopped.fault × (new ≡ old))
      ⊎ IsHalted w lines stopped.line (halt.For stopped.fault) old new))
  pub unwritten : OnErr result ((number : ℕ) × IsHalted w lines number halt.Unwritten old new)
