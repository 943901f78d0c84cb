-- The rules of a group: what one deed of a node may change.
--
-- No claim of the main theorem needs the bound of a run (`MakesRun.few`), the character of a typed
-- key (`Presses.character`), that what is delivered was sent (`Delivers.is_sent`), that a start is
-- of a node that is down and over its own record, and that a save fails only at a node that is up.
-- They are there since a node, its store and its network do no more, so that the rules say what a
-- group does and not only what keeps it safe. Of two more the proof makes use, and no group is
-- known that breaks a claim without them: what is learned stays (`LearnsOnly.keeps`), and a typed
-- key is its node's (`Presses.node`). Fourteen others are proved to be needed (`Clause` of
-- `WeakerRules.antt`). Of the rest, as that only its node changes, no law says so.
use Rattle.std.specs.Prelude.{◌≡◌, ◌≢◌, ℕ, zero, suc, ◌+◌, ◌≤◌, ◌==◌, ◌⊎◌, if◌then◌else◌, All, Contains, length, List, [], ◌∷◌, ◌++◌, Option, Some, None, IfSome, IsSome, slice_get}
use Rattle.std.specs.Ordering.{nat_cmp}
use Rattle.std.specs.FinMap.{FinMap, empty, get}
use Rattle.pcode_file.specs.Parts.{Parts}
use Rattle.pcode_machine.specs.Configuration.{Configuration}
use Rattle.pcode_machine.specs.Runs.{begin, IsPrefix}
use Rattle.pcode_machine.specs.Step.{Step}
use Rattle.paxos_msg.specs.declared.value.Value.{Value}
use Rattle.paxos_msg.specs.declared.record.Change.TheVariants as change
use Rattle.paxos_msg.specs.declared.message.Body.TheVariants.{Accept, Prepare, Submit}
use Rattle.paxos_msg.specs.Batches.{Body, Change, MaySendAll, Msg, Record, Sent}
use Rattle.paxos_msg.specs.Keys.{Key, keys_of}
use Rattle.paxos_msg.specs.Messages.{messages_of}
use Rattle.paxos_msg.specs.Records.{changed, MaySave}
use Rattle.paxos_acceptor.specs.Answers.{after}
use Rattle.paxos_acceptor.specs.Stores.{IsOneOf}
use Rattle.paxos_learner.specs.Backed.{MayLearn}
use Rattle.paxos_learner.specs.Learner.{HasLearnedMore}
use Rattle.paxos_learner.specs.Input.{front_values, keys_in_order, learned_input}
use Rattle.group_node.specs.Console.{offered}
use Rattle.group_node.specs.Deeds.{Deed, Idle, Start, Hear, Press, Campaign, Tick, Run, Release, Crash}
use Rattle.group_protocol.specs.Backs.{Backs}
use Rattle.group_protocol.specs.Known.{Response, Known, next_serial}
use Rattle.group_protocol.specs.Ranges.{IsInRange}
use Rattle.group_protocol.specs.WaitingKeys.{waiting_keys}
use Rattle.group_protocol.specs.Steps.{messages_handed_out}

-- A node that is up: what it has learned, its machine's configuration, the number of released
-- bytes, the keys that wait, and the serial of the next one.
-- Source: Simple 2.5; 3.
pub record Up : Type 0 where
  pub learned : FinMap nat_cmp Value
  pub configuration : Configuration
  pub released : ℕ
  pub waiting : List Key
  pub next : ℕ

-- A node's stored record, its console, and the node itself if it is up.
-- Source: Simple 2.5.
pub record Seat : Type 0 where
  pub kept : Record
  pub console : List ℕ
  pub up : Option Up

-- A group that runs a program: its nodes by number, all that was sent, and all keys that were
-- typed, the oldest first.
-- Source: Simple 2.1, asynchronous processes that may stop and restart.
-- Allows: a group of any size.
pub record WorldState : Type 0 where
  pub program : Parts
  pub size : ℕ
  pub seats : ℕ → Seat
  pub sent : Sent
  pub typed : List Key

-- A node that has just started.
abbrev pub fresh : Parts → Up
fresh p = record { learned = empty; configuration = begin p; released = 0; waiting = []; next = 1 }

-- The change of a group at node `i` alone, which sends these messages, and at which these keys were
-- typed.
-- Forbids: a message that is forgotten.
pub record ChangesOnly (w v : WorldState) (i : ℕ) (bodies : List Body)
    (keys : List Key) : Type 0 where
  pub program : v.program ≡ w.program
  pub size : v.size ≡ w.size
  pub others : (j : ℕ) → j ≢ i → v.seats j ≡ w.seats j
  pub sent : v.sent ≡ w.sent ++ messages_of i bodies
  pub typed : v.typed ≡ w.typed ++ keys

-- ---- calls that may save and send

-- The keys that still wait: of these keys only the first have left, and each that has left is read
-- in the learned values below the known front.
-- Allows: a key that is read and still waits.
-- Forbids: a key that leaves before it is read.
pub record AreParted (learned : FinMap nat_cmp Value) (keys stay : List Key) : Type 0 where
  pub gone : List Key
  pub parts : keys ≡ gone ++ stay
  pub below : All (λ k. Contains (keys_in_order (front_values learned)) k) gone

-- The changes that a node which is up may make to itself. It forgets nothing that it has learned,
-- and learns only what a Tell said, or a majority accepted under one ballot. Its machine and what
-- it has released stay. Typed keys wait after the others, and those that are read may leave
-- (`AreParted`).
-- Source: Simple 2.3.
pub record LearnsOnly (w : WorldState) (keys : List Key) (was now : Up) : Type 0 where
  pub keeps : HasLearnedMore was.learned now.learned
  pub gains : (s : ℕ) (v : Value) → get now.learned s ≡ Some v
      → (get was.learned s ≡ Some v) ⊎ MayLearn w.size w.sent s v
  pub configuration : now.configuration ≡ was.configuration
  pub released : now.released ≡ was.released
  pub waiting : AreParted now.learned (was.waiting ++ keys) now.waiting

-- Each value that these bodies submit is a batch of the first keys that wait.
-- Allows: a batch that is submitted again.
-- Forbids: a batch that leaves out the first key that waits.
pub record SubmitsWaiting (waiting : List Key) (bodies : List Body) : Type 0 where
  pub front : (v : Value) → Contains bodies (Submit v) → IsPrefix (keys_of v) waiting

-- The call of node `i`, which is up: it saves this change, if any, which it may, and then sends
-- what it may.
-- Source: Simple 2.2, 2.3 and 2.5.
-- Allows: any packets that may be sent.
pub record MakesCall (w v : WorldState) (i : ℕ) (c : Option Change) (keys : List Key) : Type 0 where
  pub bodies : List Body
  pub was : Up
  pub now : Up
  pub from : (w.seats i).up ≡ Some was
  pub left : v.seats i
      ≡ record { kept = after (w.seats i).kept c; console = (w.seats i).console; up = Some now }
  pub rest : ChangesOnly w v i bodies keys
  pub saves : IfSome c (MaySave w.sent (w.seats i).kept)
  pub sends : MaySendAll w.size v.typed (get now.learned) w.sent i (after (w.seats i).kept c) bodies
  pub learns : LearnsOnly w keys was now
  pub submits : SubmitsWaiting now.waiting bodies
  pub next : now.next ≡ was.next + length keys

-- The fall of a node whose save of this change has failed.
-- The record is the old one or the changed one, nothing was sent, and the node is down.
-- Source: Simple 2.5.
-- Allows: the changed record after a failed save.
-- Forbids: a packet of that call.
pub record Falls (w v : WorldState) (i : ℕ) (c : Change) : Type 0 where
  pub saves : MaySave w.sent (w.seats i).kept c
  pub kept : IsOneOf (v.seats i).kept (w.seats i).kept (changed (w.seats i).kept c)
  pub console : (v.seats i).console ≡ (w.seats i).console
  pub down : (v.seats i).up ≡ None
  pub rest : ChangesOnly w v i [] []

-- The call that saves this change, if any, and that may fail if it does.
abbrev pub CallOrFall : WorldState → WorldState → ℕ → Option Change → Type 0
CallOrFall w v i None = MakesCall w v i None []
CallOrFall w v i (Some c) = MakesCall w v i (Some c) [] ⊎ (IsSome (w.seats i).up × Falls w v i c)

-- This change, or none.
abbrev pub IsNoneOr : Change → Option Change → Type 0
IsNoneOr c o = (o ≡ None) ⊎ (o ≡ Some c)

-- The change that a delivered message may cause: a Prepare the promise of its ballot, an Accept a
-- vote for what it proposes, any other message none.
-- Source: Simple 2.2.
-- Forbids: a vote saved at a Promise.
abbrev pub MayCause : Body → Option Change → Type 0
MayCause (Prepare b from) o = IsNoneOr (change.Promise b) o
MayCause (Accept b s v) o = IsNoneOr (change.Ballotted s b v) o
MayCause _ o = o ≡ None

-- The delivery of a message that was sent, at any time.
-- Allows: a message to a node that it was not meant for.
pub record Delivers (w v : WorldState) (message : Msg) (i : ℕ) : Type 0 where
  pub is_sent : Contains w.sent message
  pub saved : Option Change
  pub cause : MayCause message.body saved
  pub call : CallOrFall w v i saved

-- The campaign of a node: a promise of an own ballot is saved.
-- Source: Simple 2.2; 2.5.
pub record Campaigns (w v : WorldState) (i : ℕ) : Type 0 where
  pub round : ℕ
  pub call : CallOrFall w v i (Some (change.Promise (record { round = round; node = i })))

-- The typing of one more key, which has the next serial.
-- Forbids: a serial that is left out.
pub record Presses (w v : WorldState) (i byte : ℕ) : Type 0 where
  pub key : Key
  pub node : key.node ≡ i
  pub start : key.start ≡ (w.seats i).kept.starts
  pub character : key.byte ≡ byte
  pub serial : IfSome (w.seats i).up (λ u. key.serial ≡ u.next)
  pub call : MakesCall w v i None (key ∷ [])

-- The start of a node: it is saved, and the node is up.
-- Source: Simple 2.5.
pub record StartsUp (w v : WorldState) (i : ℕ) : Type 0 where
  pub left : v.seats i
      ≡ record {
        kept = changed (w.seats i).kept change.Start;
        console = (w.seats i).console;
        up = Some (fresh w.program);
      }
  pub rest : ChangesOnly w v i [] []

-- ---- the machine, its output, and crashes

-- The configurations `c` and `d` before and after `n` steps on the input `x`.
-- Source: Manual, p-machine.
unfoldable pub MakesSteps : Parts → List ℕ → ℕ → Configuration → Configuration → Type 0
MakesSteps p x zero c d = d ≡ c
MakesSteps p x (suc n) c d = (b : Configuration) × MakesSteps p x n c b × Step p x b d

-- The run of node `i`: its machine makes at most `steps` steps on the learned input.
-- Source: Simple 3.
-- Allows: a run of fewer steps.
-- Forbids: a step on a byte from above a hole.
pub record MakesRun (w v : WorldState) (i steps : ℕ) : Type 0 where
  pub was : Up
  pub configuration : Configuration
  pub made : ℕ
  pub from : (w.seats i).up ≡ Some was
  pub few : made ≤ steps
  pub moves : MakesSteps w.program (learned_input was.learned) made was.configuration configuration
  pub left : v.seats i
      ≡ record (w.seats i) { up = Some (record was { configuration = configuration }) }
  pub rest : ChangesOnly w v i [] []

-- The seat after the release of a byte, if one waits: it is offered to the console by its number.
abbrev pub after_release : Seat → Up → Option ℕ → Seat
after_release seat was None = seat
after_release seat was (Some byte) =
    record {
      kept = seat.kept;
      console = offered seat.console was.released byte;
      up = Some (record was { released = was.released + 1 });
    }

-- The release of the first byte of the output that was not released, which goes to the console.
-- Allows: a release when nothing waits.
pub record Releases (w v : WorldState) (i : ℕ) : Type 0 where
  pub was : Up
  pub from : (w.seats i).up ≡ Some was
  pub left : v.seats i
      ≡ after_release (w.seats i) was (slice_get was.configuration.output was.released)
  pub rest : ChangesOnly w v i [] []

-- The crash of a node: it is down, and its record and its console stay.
-- Allows: a crash of a node that is down, which changes nothing.
-- Forbids: a console that is emptied by a crash.
pub record Crashes (w v : WorldState) (i : ℕ) : Type 0 where
  pub left : v.seats i ≡ record (w.seats i) { up = None }
  pub rest : ChangesOnly w v i [] []

-- ---- deeds

-- The groups before and after a deed of node `i`.
-- Only its node changes. That node saves at most one change, which it may, and sends what it may.
-- It learns only what a Tell said, or a majority accepted under one ballot. Its machine makes steps
-- on the learned input.
-- Source: Simple 2.1 to 2.3, 2.5 and 3.
-- Allows: a message heard by any node, at any time, any number of times, or never; a crash at any
-- time.
-- Forbids: a start saved except at a `Start`, or over another record than the node has; a promise
-- saved except at a Prepare under its ballot, an own campaign or, with a vote, an Accept; a change
-- of another node.
abbrev pub WorldStep : WorldState → ℕ → Deed → WorldState → Type 0
WorldStep w i Idle v = v ≡ w
WorldStep w i (Press byte) v = Presses w v i byte
WorldStep w i (Hear message) v = Delivers w v message i
WorldStep w i Campaign v = Campaigns w v i
WorldStep w i Tick v = MakesCall w v i None []
WorldStep w i (Run steps) v = MakesRun w v i steps
WorldStep w i Release v = Releases w v i
WorldStep w i Crash v = Crashes w v i
WorldStep w i (Start loaded) v = ((w.seats i).up ≡ None) × (loaded ≡ (w.seats i).kept)
    × (StartsUp w v i ⊎ Falls w v i change.Start)

-- ---- a node's calls as deeds

-- The seat of a node that is up, whose machine has come to `c` and has released `k` bytes.
abbrev pub seat_of : Known → Configuration → ℕ → List ℕ → Seat
seat_of n c k console =
    record {
      kept = n.kept;
      console = console;
      up =
          Some (record {
            learned = n.learner.learned;
            configuration = c;
            released = k;
            waiting = waiting_keys n;
            next = next_serial n;
          });
    }

-- The group with this seat of node `i`.
abbrev pub with_seat : WorldState → ℕ → Seat → WorldState
with_seat w i seat = record w { seats = λ j. if j == i then seat else w.seats j }

-- The group after a call of node `i`, in which these keys were typed.
abbrev pub after_call : WorldState → ℕ → Response → List Key → Configuration → ℕ → List ℕ
    → WorldState
after_call w i done keys c k console = record (with_seat w i (seat_of done.node c k console)) {
  sent = w.sent ++ messages_handed_out i done.sends;
  typed = w.typed ++ keys;
}

-- A node in its group: the group has the node's size, and the node's seat shows this node, with its
-- machine and its console (`seat_of`).
pub record Sits (w : WorldState) (n : Known) (c : Configuration) (k : ℕ)
    (console : List ℕ) : Type 0 where
  pub size : w.size ≡ n.me.group.size
  pub seat : w.seats n.me.node ≡ seat_of n c k console

-- A node that sits in its group, with its machine and its console, is in its ranges, and is backed
-- by what was sent and typed there.
pub record SitsSoundly (w : WorldState) (n : Known) (c : Configuration) (k : ℕ)
    (console : List ℕ) : Type 0 where
  pub sits : Sits w n c k console
  pub ranges : IsInRange n
  pub backs : Backs w.sent w.typed n
