-- What a cycle of a node writes, and several cycles.
use Rattle.std.proofs.Common.{◌≡◌, ◌≤◌, ◌<◌, ◌↔◌, ◌∙◌, ℕ, ◌-◌, List, [], ◌++◌, drop, length, Option, refl, ap, arith, append_assoc, length-append}
use Rattle.std.proofs.Math.Seq.{drop-append-add}
use Rattle.std.proofs.lemmas.Grind.{common_steps}
use Rattle.std.proofs.lemmas.List.{drop-append-le, drop_all, length-drop}
use Rattle.std.specs.Io.KnownBytes.{Appends}
use Rattle.std.proofs.KnownBytes.{Appends-nil}
use Rattle.pcode_file.specs.Parts.{Parts}
use Rattle.pcode_machine.specs.Runs.{after_steps, out}
use Rattle.group_node.specs.declared.limits.TheConstants.{RING_BYTES}
use Rattle.group_node.specs.NodeCalls.{running, unreleased_by}
use Rattle.group_node.specs.Output.{IsReplay, Progress, no_progress, unreleased_of}
use Rattle.group_node.specs.States.{NodeState, input}
use Rattle.group_wire.specs.Turns.{released_by}
use Rattle.node_run.specs.Output.{all_released, unreleased_from}
use Rattle.node_run.specs.Releases.{LosesOutput, NodeMoment, WritesAll}
use Rattle.node_run.proofs.Releasing.{ReleasesBytes, released_on}

-- no output waits at a node
abbrev pub NoneWaits : {S : Type 0} → NodeState S → Type 0
NoneWaits n = unreleased_by (running n) ≡ []

-- the bytes that were written between two moments of a node: what it released from byte `seen` on; if a write failed, the last of
-- them are lost
pub record WritesOutput {S : Type 0} (seen : ℕ) (old new : NodeState S) (fails : Type 0)
    (wrote : List ℕ) : Type 0 where
  pub lost : List ℕ
  pub whole : drop seen (released_by new) ≡ (drop seen (released_by old) ++ wrote) ++ lost
  pub some : fails → 0 < length lost
  pub few : length lost ≤ RING_BYTES
  pub none : ¬ fails → lost ≡ []

-- they were appended to what a writer held
abbrev pub AppendsOutput : {S : Type 0} → ℕ → NodeState S → NodeState S → Type 0
    → Option (List ℕ) → Option (List ℕ) → Type 0
AppendsOutput seen old new fails from to =
    (wrote : List ℕ) × WritesOutput seen old new fails wrote × Appends from to wrote

-- some bytes, and then others, without the first n
drop_both : (n m : ℕ) (a b : List ℕ) → m ≡ n - length a → drop n (a ++ b) ≡ drop n a ++ drop m b
drop_both n m a b e = grind (arith, common_steps, drop-append-le, drop-append-add {A = ℕ} a b m, drop_all)

-- what is lost of the bytes that waited
lost_are_few : (seen : ℕ) (x : List ℕ) (q : Progress) (wrote lost : List ℕ) → IsReplay x q
    → unreleased_from seen x q ≡ wrote ++ lost → length lost ≤ RING_BYTES
lost_are_few seen x q wrote lost replay parts =
    let both = ap length parts ∙ length-append wrote lost in
    omega (arith, both, length-drop (seen - q.released) (unreleased_of x q), replay.few)

-- nothing was lost
none_lost : {S : Type 0} {seen : ℕ} {old new : NodeState S} {fails : Type 0} {wrote : List ℕ} → ¬ fails
    → drop seen (released_by new) ≡ drop seen (released_by old) ++ wrote → WritesOutput seen old new fails wrote
none_lost not whole = grind (arith, common_steps)

-- nothing was released
pub wrote_none : {S : Type 0} (seen : ℕ) (old new : NodeState S) (fails : Type 0) (c : Option (List ℕ)) → ¬ fails
    → released_by new ≡ released_by old → AppendsOutput seen old new fails c c
wrote_none seen old new fails c not same = ([], none_lost not (grind (arith, common_steps)), Appends-nil c)

-- a node that has begun has written nothing
pub none_at_start : {S : Type 0} (n : NodeState S) (p : Parts) → n.progress ≡ no_progress p → NoneWaits n
unfolding after_steps out
none_at_start n p begins = rw begins refl

-- bytes were released, and those that were not seen were written or lost
unseen_gone : {S : Type 0} (seen : ℕ) (old mid new : NodeState S) {gone : List ℕ} → released_by mid ≡ released_by old
    → IsReplay (input mid.protocol.known) mid.progress → new.protocol ≡ mid.protocol
    → ReleasesBytes (input mid.protocol.known) mid.progress new.progress gone
    → drop seen (released_by new) ≡ drop seen (released_by old) ++ drop (seen - mid.progress.released) gone
unseen_gone seen old mid new same replay protocol h =
    grind (arith, common_steps, replay.released, released_on _ _ _ _ h, drop_both seen (seen - mid.progress.released))

-- all that waited was released
unseen_all : {S : Type 0} (seen : ℕ) (old mid new : NodeState S) → released_by mid ≡ released_by old
    → IsReplay (input mid.protocol.known) mid.progress → new.protocol ≡ mid.protocol
    → new.progress ≡ all_released (input mid.protocol.known) mid.progress
    → drop seen (released_by new) ≡ drop seen (released_by old) ++ unreleased_from seen (input mid.protocol.known) mid.progress
unseen_all seen old mid new same replay protocol all =
    unseen_gone seen old mid new same replay protocol (grind (arith, common_steps, drop_all))

pub wrote_all : {S : Type 0} {seen : ℕ} (old : NodeState S) {mid new : NodeMoment S} (fails : Type 0) → WritesAll seen mid new
    → released_by mid.node ≡ released_by old → IsReplay (input mid.node.protocol.known) mid.node.progress → ¬ fails
    → AppendsOutput seen old new.node fails mid.written new.written
wrote_all old fails h same replay not =
    (_, none_lost not (unseen_all _ old _ _ same replay h.protocol h.progress), h.appended)

pub wrote_part : {S : Type 0} {seen : ℕ} (old : NodeState S) {mid new : NodeMoment S} (fails : Type 0) → LosesOutput seen mid new
    → released_by mid.node ≡ released_by old → IsReplay (input mid.node.protocol.known) mid.node.progress → fails
    → AppendsOutput seen old new.node fails mid.written new.written
wrote_part {seen = seen} old {mid} fails h same replay is = (
  h.wrote.wrote,
  record {
    lost = h.wrote.lost;
    whole = grind (arith, append_assoc, h.wrote.parts, unseen_all seen old _ _ same replay h.protocol h.progress);
    some = λ _. h.wrote.some;
    few = lost_are_few seen _ mid.node.progress h.wrote.wrote h.wrote.lost replay h.wrote.parts;
    none = λ not. absurd (not is);
  },
  h.wrote.appended,
)

-- a cycle more, after cycles at which no write failed
pub wrote_then : {S : Type 0} (seen : ℕ) (old mid new : NodeState S) (failed fails now : Type 0) (c d e : Option (List ℕ))
    → ¬ failed → now ↔ fails → AppendsOutput seen old mid failed c d → AppendsOutput seen mid new fails d e
    → AppendsOutput seen old new now c e
wrote_then seen old mid new failed fails now c d e not same (first, g, before) (wrote, h, then) = grind (arith, append_assoc)
