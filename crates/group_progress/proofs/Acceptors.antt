-- What a node answers to a Prepare and to an Accept under a ballot that it has promised, or may.
use Rattle.std.proofs.Common.{◌≡◌, ◌⊎◌, ◌↔◌, inl, inr, ℕ, Bool, [], ◌∷◌, Option, Some, None, IfSome, if◌then◌else◌, refl, ap, arith, false, true}
use Rattle.paxos_msg.specs.declared.ballot.Ballot.{Ballot}
use Rattle.paxos_msg.specs.declared.value.Value.{Value}
use Rattle.paxos_msg.specs.declared.record.Change.TheVariants as change
use Rattle.paxos_msg.specs.declared.message.Body.TheVariants.{Prepare, Accept, Accepted}
use Rattle.paxos_msg.specs.Ballots.{IsAtMost, IsBelow, IsMajority}
use Rattle.paxos_msg.specs.Batches.{Record, Vote}
use Rattle.paxos_msg.specs.Messages.{kept_vote_at}
use Rattle.paxos_msg.specs.Tests.{ballot_lt, is_majority, same_ballot, same_value}
use Rattle.paxos_acceptor.specs.Answers.{after, greater_promise, is_promised, part_of, value_under}
use Rattle.group_protocol.specs.AcceptorResponses.{unless_passed}
use Rattle.group_protocol.specs.Known.{Known, Response}
use Rattle.group_protocol.specs.Packets.{to_all, to_one}
use Rattle.group_protocol.specs.Protocol.{on_message}
use Rattle.group_progress.specs.Below.{TestLaws}

-- what stays of a node, whatever its acceptor answers
pub record KeepsRest (n new : Known) : Type 0 where
  pub me : new.me ≡ n.me
  pub learner : new.learner ≡ n.learner
  pub offered : new.offered ≡ n.offered

module _ (tests : TestLaws) where
  not_greater : (promised : Option Ballot) (b : Ballot) → IfSome promised (λ p. IsAtMost p b) → greater_promise promised b ≡ None
  not_greater None b h = refl
  not_greater (Some p) b h = rw ((tests.not_below b p).1 h) refl

  same_promise : (promised : Option Ballot) (b : Ballot) → is_promised promised b ≡ true → promised ≡ Some b
  same_promise None b h = absurd cc
  same_promise (Some p) b h = ap Some ((tests.same p b).0 h)

  -- ---- a Prepare

  after_promise : (r : Record) (b : Ballot) (t : Bool) → is_promised r.promised b ≡ t
      → (after r (if t then None else Some (change.Promise b))).promised ≡ Some b
  after_promise r b true e = same_promise r.promised b e
  after_promise r b false e = refl

  after_promise_votes : (r : Record) (b : Ballot) (t : Bool) → (after r (if t then None else Some (change.Promise b))).votes ≡ r.votes
  after_promise_votes r b true = refl
  after_promise_votes r b false = refl

  -- a node's answer to a Prepare of a ballot above all that it has promised
  pub record Promises (n : Known) (b : Ballot) (from : ℕ) (done : Response) : Type 0 where
    pub promised : done.node.kept.promised ≡ Some b
    pub votes : done.node.kept.votes ≡ n.kept.votes
    pub rest : KeepsRest n done.node
    pub proposer : done.node.proposer ≡ unless_passed (Some b) n.proposer
    pub sends : done.sends ≡ to_one b.node (part_of n.kept b from) ∷ []

  pub promises : (n : Known) (j : ℕ) (b : Ballot) (from : ℕ) → IfSome n.kept.promised (λ p. IsAtMost p b)
      → Promises n b from (on_message n j (Prepare b from))
  promises n j b from most =
      let none = not_greater n.kept.promised b most in
      let t : Bool = is_promised n.kept.promised b in
      let promised = after_promise n.kept b t refl in record {
        promised = rw none promised;
        votes = rw none (after_promise_votes n.kept b t);
        rest = record { me = refl; learner = refl; offered = refl };
        proposer = rw (none, promised) refl;
        sends = rw none refl;
      }

  -- ---- an Accept

  -- a node's answer to an Accept under the ballot that it has promised, where it has voted under it for
  -- nothing else
  pub record Votes (n : Known) (b : Ballot) (s : ℕ) (v : Value) (done : Response) : Type 0 where
    pub promised : done.node.kept.promised ≡ Some b
    pub rest : KeepsRest n done.node
    pub proposer : done.node.proposer ≡ unless_passed (Some b) n.proposer
    pub sends : done.sends ≡ to_all (Accepted b s v) ∷ []

  under_same : (b : Ballot) (v : Value) (o : Option Vote) → IfSome o (λ vote. vote.ballot ≡ b → vote.value ≡ v)
      → (value_under o b ≡ None) ⊎ (value_under o b ≡ Some v)
  under_same b v None h = inl refl
  under_same b v (Some vote) h = by (same_ballot vote.ballot b) refl where
    by : (t : Bool) → same_ballot vote.ballot b ≡ t → (value_under (Some vote) b ≡ None) ⊎ (value_under (Some vote) b ≡ Some v)
    by true e = inr (rw e (ap Some (h ((tests.same vote.ballot b).0 e))))
    by false e = inl (rw e refl)

  pub votes_for : (n : Known) (j : ℕ) (b : Ballot) (s : ℕ) (v : Value) → n.kept.promised ≡ Some b
      → IfSome (kept_vote_at n.kept.votes s) (λ vote. vote.ballot ≡ b → vote.value ≡ v)
      → Votes n b s v (on_message n j (Accept b s v))
  votes_for n j b s v promised one =
      let none : greater_promise n.kept.promised b ≡ None = not_greater n.kept.promised b (rw promised (inr (refl, omega arith))) in
      elim (under_same b v (kept_vote_at n.kept.votes s) one) [
        | inl new ↦ record {
          promised = rw (none, new) refl;
          rest = record { me = refl; learner = refl; offered = refl };
          proposer = rw (none, new) refl;
          sends = rw (none, new) refl;
        }
        | inr old ↦ record {
          promised = rw (none, old) promised;
          rest = record { me = refl; learner = refl; offered = refl };
          proposer = rw (none, old, promised) refl;
          sends = rw (none, old) refl;
        }
      ]
