-- What a learner becomes when it hears of a place, and what stays of it.
use Rattle.std.proofs.Common.{◌≡◌, ℕ, IsTrue, Some, None, true, arith, ◌+◌, ◌<◌, ◌≤◌}
use Rattle.std.specs.Bool.{⊤}
use Rattle.std.specs.FinMap.{get, insert, FinMap}
use Rattle.std.proofs.lemmas.Bool.Decides.{nat_tests}
use Rattle.paxos_msg.specs.declared.ballot.Ballot.{Ballot}
use Rattle.paxos_msg.specs.declared.value.Value.{Value}
use Rattle.paxos_msg.specs.Tests.{is_majority, same_ballot, same_value}
use Rattle.paxos_learner.specs.Tallies.{Tally, begun_tally, has_node, with_node}
use Rattle.paxos_learner.specs.Learner.{Learner, is_open, learn, heard_accepted, front_of, AreInWindow, HasLearnedMore, IsLearnerInRange}
use Rattle.std.specs.Ordering.{nat_cmp}
use Rattle.paxos_msg.specs.Fits.{IsValue}
use Rattle.paxos_learner.proofs.OnePlace.{get_left, get_put}
use Rattle.paxos_learner.proofs.Fronts.{IsFront-front_of}

-- What holds of the learner as it was, once it has learned the value of a tally that is a majority, and with a tally more, holds after
-- an Accepted. That tally is one of the node alone, or one that has the node more.
pub accepted_by : (P : Learner → Type 0) (Q : Tally → Type 0) (l : Learner) (i s : ℕ) (b : Ballot) (v : Value) → P l → Q (begun_tally i b v)
    → ((u : Tally) → get l.tallies s ≡ Some u → same_ballot u.ballot b ≡ true → same_value u.value v ≡ true
    → Q (record u { nodes = with_node u.nodes i }))
    → ((t : Tally) → Q t → IsTrue (is_open l s) → IsTrue (is_majority l.size (has_node t.nodes)) → P (learn l s t.value).learner)
    → ((t : Tally) → Q t → P (record l { tallies = insert l.tallies s t })) → P (heard_accepted l i b s v).learner
accepted_by P Q l i s b v stays alone more learns counts = grind (arith, nat_tests)

-- ---- fronts

-- the front does not fall
pub front_rises : (old new : FinMap nat_cmp Value) → HasLearnedMore old new → front_of old ≤ front_of new
front_rises old new h = grind (arith, nat_tests, (IsFront-front_of new).here, (IsFront-front_of old).below (front_of new))

-- the place after the last one is not learned, so the front is not above it
pub front_few : (learned : FinMap nat_cmp Value) → AreInWindow learned → front_of learned ≤ 65536
front_few learned h = grind (arith, nat_tests, (IsFront-front_of learned).below 65536, h.place 65536)

-- ---- a place that is learned

-- an open place isn't learned, and is less than 1,024 above the front
pub open_place : (l : Learner) (s : ℕ) → IsTrue (is_open l s) → (get l.learned s ≡ None) × (s < front_of l.learned + 1024)
open_place l s test = grind (arith, nat_tests)

module _ (l : Learner) (s : ℕ) (v : Value) where
  pub insert_in_window : IsTrue (is_open l s) → s ≤ 65535 → AreInWindow l.learned → AreInWindow (insert l.learned s v)
  insert_in_window here place h = grind (arith, nat_tests, front_rises, get_put)

  pub learn_in_range : IsValue l.size v → IsLearnerInRange l → IsLearnerInRange (learn l s v).learner
  learn_in_range fits h = grind (arith, nat_tests, get_put, get_left)

module _ (l : Learner) (i s : ℕ) (b : Ballot) (v : Value) where
  pub accepted_in_window : s ≤ 65535 → AreInWindow l.learned → AreInWindow (heard_accepted l i b s v).learner.learned
  accepted_in_window place h =
      accepted_by (λ m. AreInWindow m.learned) (λ t. ⊤) l i s b v h tt (λ u there ballot value. tt)
      (λ t any here most. insert_in_window l s t.value here place h) (λ t any. h)

  pub accepted_in_range : IsValue l.size v → IsLearnerInRange l → IsLearnerInRange (heard_accepted l i b s v).learner
  accepted_in_range fits h =
      accepted_by IsLearnerInRange (λ t. IsValue l.size t.value) l i s b v h fits (λ u there ballot value. h.tallied s u there)
      (λ t now here most. learn_in_range l s t.value now h) (λ t now. grind (arith, nat_tests, get_put))
