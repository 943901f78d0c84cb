-- One value is chosen at a place, and it was submitted or is the no-op.
use Rattle.std.proofs.Common.{◌⊎◌, arith, inl, inr, sym}
use Rattle.paxos_msg.proofs.Agreement.{chosen_proposed, invariant_of, later_same}
use Rattle.paxos_msg.specs.Ballots.{IsAtMost, IsBelow}
use Rattle.paxos_msg.proofs.laws.agreement.Goals as goal

pub returns : goal.returns
returns c = record {
  one_value = λ size s sent records v w grew by_v by_w.
      (let inv = invariant_of grew in
      let order : IsBelow by_v.0 by_w.0 ⊎ IsAtMost by_w.0 by_v.0 = grind arith in
      elim order [
        | inl below ↦ sym (later_same inv by_v.1 by_w.0 w (chosen_proposed inv by_w.1) (grind arith))
        | inr at_most ↦ later_same inv by_w.1 by_v.0 v (chosen_proposed inv by_v.1) at_most
      ]);
  kept = λ size s sent records b c v w grew chosen. later_same (invariant_of grew) chosen c w;
  submitted = λ size s sent records v grew chosen.
      (let inv = invariant_of grew in inv.submitted chosen.0 s v (chosen_proposed inv chosen.1));
}
