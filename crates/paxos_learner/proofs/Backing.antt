-- What backs a learner backs it after it hears what was sent.
use Rattle.std.proofs.Common.{◌≡◌, ◌↔◌, ℕ, true, false, IsTrue, List, inr, Bool, arith}
use Rattle.std.proofs.lemmas.Bool.{cases_eq, ltb-true}
use Rattle.std.proofs.lemmas.Bool.Decides.{nat_tests}
use Rattle.std.proofs.lemmas.List.{get_or-set_other}
use Rattle.std.proofs.lemmas.Grind.{common_steps}
use Rattle.paxos_msg.specs.declared.ballot.Ballot.{Ballot}
use Rattle.paxos_msg.specs.declared.value.Value.{Value}
use Rattle.paxos_msg.specs.declared.message.Body.TheVariants.{Accepted}
use Rattle.paxos_msg.specs.Messages.{IsSent}
use Rattle.paxos_msg.specs.Batches.{Sent}
use Rattle.paxos_msg.specs.Tests.{same_ballot, same_value}
use Rattle.paxos_learner.specs.Tallies.{has_node, no_nodes, with_node}
use Rattle.paxos_learner.specs.Learner.{Learner, learn, heard_accepted}
use Rattle.paxos_learner.specs.Backed.{IsLearnerBacked, IsTallied, MayLearn}
use Rattle.paxos_learner.proofs.OnePlace.{get_left, get_put}
use Rattle.paxos_learner.proofs.Hearing.{accepted_by}

-- whatever holds of one node more, and of those before, holds of all
with_each : (P : ℕ → Type 0) (nodes : List Bool) (i : ℕ) → P i → ((j : ℕ) → IsTrue (has_node nodes j) → P j) → (j : ℕ)
    → IsTrue (has_node (with_node nodes i) j) → P j
with_each P nodes i here there j member = grind (arith, nat_tests, cases_eq j i, get_or-set_other nodes i j true false)

module _ (sent : Sent) (l : Learner) where
  pub learn_backed : (s : ℕ) (v : Value) → IsLearnerBacked sent l → MayLearn l.size sent s v → IsLearnerBacked sent (learn l s v).learner
  learn_backed s v h may = grind (arith, nat_tests, get_put, get_left)

  pub accepted_backed : ((a b : Ballot) → (same_ballot a b ≡ true) ↔ (a ≡ b)) → ((v w : Value) → (same_value v w ≡ true) ↔ (v ≡ w))
      → (i s : ℕ) (b : Ballot) (v : Value) → IsLearnerBacked sent l → IsSent sent i (Accepted b s v)
      → IsLearnerBacked sent (heard_accepted l i b s v).learner
  accepted_backed same same_values i s b v h new =
      accepted_by (IsLearnerBacked sent) (IsTallied sent s) l i s b v h
      (with_each (λ j. IsSent sent j (Accepted b s v)) no_nodes i new (λ j member. grind (arith, common_steps)))
      (λ u there ballot value.
      with_each (λ j. IsSent sent j (Accepted u.ballot s u.value)) u.nodes i
      (rw ((same u.ballot b).0 ballot, (same_values u.value v).0 value) new) (h.tallied s u there))
      (λ t whole here most. learn_backed s t.value h (inr (t.ballot, (has_node t.nodes, ltb-true _ _ most, whole))))
      (λ t whole. grind (arith, nat_tests, get_put))
