-- What was released stays as it is, whatever a node hears and however far its machine runs.
use Rattle.std.proofs.Common.{◌≡◌, Bool, true, false, ℕ, ◌≤◌, List, [], ◌∷◌, ◌++◌, arith}
use Rattle.std.specs.Ordering.{nat_cmp}
use Rattle.std.specs.FinMap.{FinMap}
use Rattle.std.proofs.lemmas.Grind.{common_steps}
use Rattle.std.proofs.lemmas.List.{take-append-le}
use Rattle.pcode_file.specs.Parts.{Parts}
use Rattle.pcode_machine.specs.Runs.{IsPrefix, out}
use Rattle.paxos_msg.specs.Batches.{Body, Msg}
use Rattle.paxos_msg.specs.declared.value.Value.{Value}
use Rattle.paxos_learner.specs.Learner.{HasLearnedMore}
use Rattle.paxos_learner.specs.Input.{learned_input}
use Rattle.group_protocol.specs.Known.{Known}
use Rattle.group_node.specs.Output.{IsReplay, Progress}
use Rattle.group_protocol.specs.Protocol.{on_message}
use Rattle.group_node.specs.States.{NodeState, input}
use Rattle.group_protocol.specs.Tick.{on_tick}
use Rattle.group_wire.specs.Arrivals.{Arrival, heard_of}
use Rattle.group_wire.specs.Doings.{after_heard, ticked_if}
use Rattle.group_wire.specs.Turns.{released_by, released_of}

-- the laws of outputs and inputs that grow, and of what a node's calls learn
pub record Laws : Type 0 where
  pub steps : (p : Parts) (x : List ℕ) (m n : ℕ) → m ≤ n → IsPrefix (out p x m) (out p x n)
  pub longer : (p : Parts) (x y : List ℕ) (n : ℕ) → IsPrefix x y → IsPrefix (out p x n) (out p y n)
  pub inputs : (old new : FinMap nat_cmp Value) → HasLearnedMore old new → (rest : List ℕ) × (learned_input new ≡ learned_input old ++ rest)
  pub message : (n : Known) (j : ℕ) (body : Body) → HasLearnedMore n.learner.learned (on_message n j body).node.learner.learned
  pub tick : (n : Known) → HasLearnedMore n.learner.learned (on_tick n).node.learner.learned

-- on a longer input, after more steps
released_stays : Laws → {x y : List ℕ} {old new : Progress} → IsPrefix x y → IsReplay x old
    → new ≡ record old { steps = new.steps } → old.steps ≤ new.steps → released_of y new ≡ released_of x old
released_stays laws {x} {y} {old} {new} longer replay same more =
    let here = laws.longer old.program x y old.steps longer in
    let then = laws.steps old.program y old.steps new.steps more in
    grind (arith, common_steps, take-append-le, here.whole, then.whole, replay.released)

-- what is learned by one call, and then by others
learns_then : {a b c : FinMap nat_cmp Value} → HasLearnedMore a b → HasLearnedMore b c → HasLearnedMore a c
learns_then h k = record { stays = λ s v e. k.stays s v (h.stays s v e) }

-- by messages
heard_learns : Laws → (n : Known) (ms : List Msg) → HasLearnedMore n.learner.learned (after_heard n ms).learner.learned
heard_learns laws n [] = record { stays = λ s v e. e }
heard_learns laws n (m ∷ ms) = learns_then (laws.message n m.sender m.body) (heard_learns laws (on_message n m.sender m.body).node ms)

-- by a tick, or none
tick_learns : Laws → (ticks : Bool) (n : Known) → HasLearnedMore n.learner.learned (ticked_if ticks n).node.learner.learned
tick_learns laws true n = laws.tick n
tick_learns laws false n = record { stays = λ s v e. e }

-- after some messages, and a tick or none, with the machine further on
pub call_stays : {S : Type 0} (old new : NodeState S) (came : List Arrival) (ticks : Bool) → Laws
    → new.protocol.known ≡ (ticked_if ticks (after_heard old.protocol.known (heard_of came))).node
    → IsReplay (input old.protocol.known) old.progress
    → new.progress ≡ record old.progress { steps = new.progress.steps } → old.progress.steps ≤ new.progress.steps
    → released_by new ≡ released_by old
call_stays old new came ticks laws is replay rest more =
    let n : Known = old.protocol.known in
    let heard : List Msg = heard_of came in
    let grows = laws.inputs _ _ (learns_then (heard_learns laws n heard) (tick_learns laws ticks (after_heard n heard))) in
    rw is (released_stays laws (record { rest = grows.0; whole = grows.1 }) replay rest more)
