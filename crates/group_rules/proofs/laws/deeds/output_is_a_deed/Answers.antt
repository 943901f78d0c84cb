-- A run of a node's machine and the release of a byte are events of its group.
use Rattle.std.proofs.Common.{◌≡◌, ℕ, ◌+◌, ◌↔◌, List, ◌∷◌, slice_get, Some, sym, ◌∙◌, ap, arith, zero, suc, [], drop, subst}
use Rattle.std.proofs.lemmas.Bool.Decides.{nat_tests}
use Rattle.pcode_file.specs.Parts.{Parts}
use Rattle.pcode_machine.specs.Configuration.{Configuration}
use Rattle.pcode_machine.specs.Transition.{transition, Goes}
use Rattle.pcode_machine.specs.Runs.{after_steps, out, LeadsIn}
use Rattle.pcode_machine.specs.Step.{Step}
use Rattle.paxos_learner.specs.Input.{learned_input}
use Rattle.group_node.specs.Console.{offered}
use Rattle.group_protocol.specs.Known.{Known, next_serial}
use Rattle.group_protocol.specs.WaitingKeys.{waiting_keys}
use Rattle.group_rules.specs.Rules.{Seat, seat_of, Up, MakesSteps}
use Rattle.group_rules.proofs.Seats.{seat_alone, seat_here}
use Rattle.group_rules.proofs.laws.deeds.output_is_a_deed.Goals as goal

-- the law that steps which exist lead to what is after them
abbrev There : Type 0
There = (p : Parts) (x : List ℕ) (n : ℕ) (c : Configuration) → LeadsIn p x n c → after_steps p x n ≡ c

-- steps that exist lead on from what is after m of them
steps_from : There → ((p : Parts) (x : List ℕ) (c d : Configuration) → Step p x c d ↔ (transition p x c ≡ Goes d))
    → (p : Parts) (x : List ℕ) (m n : ℕ) (c : Configuration) → LeadsIn p x (m + n) c → MakesSteps p x n (after_steps p x m) c
unfolding LeadsIn MakesSteps
steps_from there step p x m zero c h = grind (arith, nat_tests)
steps_from there step p x m (suc n) c h =
    let one : m + suc n ≡ suc (m + n) = omega arith in
    let last : (b : Configuration) × LeadsIn p x (m + n) b × (transition p x b ≡ Goes c) = subst (λ (k : ℕ). LeadsIn p x k c) one h in
    (last.0, steps_from there step p x m n last.0 last.1, (step p x last.0 c).1 last.2)

-- the first of the bytes that wait is the one with the number of those that were released
first_waits : (output : List ℕ) (k b : ℕ) (rest : List ℕ) → drop k output ≡ b ∷ rest → slice_get output k ≡ Some b
first_waits [] zero b rest e = absurd cc
first_waits [] (suc k) b rest e = absurd cc
first_waits (y ∷ ys) zero b rest e = cc
first_waits (y ∷ ys) (suc k) b rest e = first_waits ys k b rest e

-- a node that is up, as its group sees it
up_of : Known → Configuration → ℕ → Up
up_of n c k = record { learned = n.learner.learned; configuration = c; released = k; waiting = waiting_keys n; next = next_serial n }

pub returns-clause-run : goal.returns-clause-run
unfolding up_of
returns-clause-run c w n steps m made k console sits few leads =
    let x : List ℕ = learned_input n.learner.learned in
    let now : Configuration = after_steps w.program x (m + made) in
    record {
      was = up_of n (after_steps w.program x m) k;
      configuration = now;
      made = made;
      from = ap (λ (s : Seat). s.up) sits.seat;
      few = few;
      moves = steps_from c.run_is_after.ensures c.step_is_transition.ensures.step w.program x m made now leads;
      left = seat_here w n.me.node (seat_of n now k console) ∙ sym (ap (λ (s : Seat). record s { up = Some (up_of n now k) }) sits.seat);
      rest = seat_alone w n.me.node (seat_of n now k console);
    }

pub returns-clause-release : goal.returns-clause-release
unfolding up_of out
returns-clause-release c w n m k byte rest console sits waits =
    let x : List ℕ = learned_input n.learner.learned in
    let now : Configuration = after_steps w.program x m in
    let first : slice_get now.output k ≡ Some byte = first_waits now.output k byte rest waits in
    record {
      was = up_of n now k;
      from = ap (λ (s : Seat). s.up) sits.seat;
      left = grind arith;
      rest = seat_alone w n.me.node (seat_of n now (k + 1) (offered console k byte));
    }

pub returns-clause-few : goal.returns-clause-few
returns-clause-few c x steps old new answer r = grind (arith, nat_tests)
