-- What was sent backs a node as more is sent, if that proposes nothing under ballots of the node's
-- own.
use Rattle.std.proofs.Common.{◌≡◌, ℕ, ◌⊎◌, inl, inr, List, [], ◌∷◌, ◌++◌, ap, arith}
use Rattle.std.proofs.lemmas.Bool.Decides.{nat_tests}
use Rattle.std.proofs.lemmas.List.Elements.{Contains-append_left, Contains-push_cases}
use Rattle.std.proofs.lemmas.Option.{IfSome_then}
use Rattle.paxos_msg.specs.declared.ballot.Ballot.{Ballot}
use Rattle.paxos_msg.specs.declared.value.Value.{Value}
use Rattle.paxos_msg.specs.declared.message.Body.TheVariants.{Accept, Prepare}
use Rattle.paxos_msg.specs.Batches.{Body, Msg, Record, Sent}
use Rattle.paxos_msg.specs.Keys.{Key}
use Rattle.paxos_msg.specs.Messages.{IsSaid, IsSent}
use Rattle.paxos_acceptor.specs.Records.{HasBackedVotes as IsVotesBacked}
use Rattle.paxos_proposer.specs.Backed.{IsProposerBacked, IsQuietUnder}
use Rattle.paxos_proposer.specs.Proposer.{Proposer}
use Rattle.paxos_learner.specs.Backed.{IsLearnerBacked, Stays}
use Rattle.paxos_learner.specs.Learner.{Learner}
use Rattle.group_protocol.specs.Known.{Known}
use Rattle.group_protocol.specs.Backs.{Backs, HasPromised, IsRecordBacked}

-- The laws of the crates below: a record, a proposer and a learner that are backed are so as more
-- is sent.
pub record BackingLaws : Type 0 where
  pub votes : (sent more : Sent) (r : Record) → IsVotesBacked sent r → IsVotesBacked (sent ++ more) r
  pub proposer : (sent next : Sent) (me : ℕ) (p : Proposer) → IsQuietUnder p.ballot sent next
      → IsProposerBacked sent me p → IsProposerBacked next me p
  pub learner : (sent next : Sent) (l : Learner) → Stays sent next → IsLearnerBacked sent l → IsLearnerBacked next l

-- Of these messages none is a new Accept under a ballot of node me, and each Prepare under one is
-- of a ballot that its record has promised.
pub record IsQuiet (me : ℕ) (r : Record) (sent more : Sent) : Type 0 where
  pub asked : (b : Ballot) (from : ℕ) → b.node ≡ me → IsSaid (sent ++ more) (Prepare b from)
      → IsSaid sent (Prepare b from) ⊎ HasPromised r b
  pub old : (b : Ballot) (s : ℕ) (v : Value) → b.node ≡ me → IsSaid (sent ++ more) (Accept b s v) → IsSaid sent (Accept b s v)

-- what was sent is sent still
sent_still : (sent more : Sent) (i : ℕ) (body : Body) → IsSent sent i body → IsSent (sent ++ more) i body
sent_still sent more i body h = grind (arith, nat_tests, Contains-append_left)

-- what was said after one message more was said before, or is what it says
pub said_push : (sent : Sent) (j : ℕ) (body said : Body) → IsSaid (sent ++ record { sender = j; body = body } ∷ []) said
    → IsSaid sent said ⊎ (body ≡ said)
said_push sent j body said (i, h) =
    elim (Contains-push_cases _ _ _ h) [ inl old ↦ inl (i, old) | inr e ↦ inr (ap (λ (m : Msg). m.body) e) ]

module _ (laws : BackingLaws) where
  -- a learner stays backed, whatever is sent
  pub learner_later : (sent more : Sent) (l : Learner) → IsLearnerBacked sent l → IsLearnerBacked (sent ++ more) l
  learner_later sent more l h = grind (arith, nat_tests, sent_still)

  -- a stored record stays backed
  pub record_later : (me : ℕ) (sent more : Sent) (r : Record) → IsQuiet me r sent more → IsRecordBacked sent me r
      → IsRecordBacked (sent ++ more) me r
  record_later me sent more r quiet h = record {
    votes = laws.votes sent more r h.votes;
    asked = λ b from mine said. grind (arith, quiet.asked b from mine said, h.asked b from mine);
    own = λ b s v mine said. h.own b s v mine (quiet.old b s v mine said);
  }

  -- a node stays backed
  pub backs_later : (sent more : Sent) (typed : List Key) (n : Known) → IsQuiet n.me.node n.kept sent more
      → Backs sent typed n → Backs (sent ++ more) typed n
  backs_later sent more typed n quiet h = record {
    kept = record_later n.me.node sent more n.kept quiet h.kept;
    proposer = IfSome_then n.proposer h.proposer (λ p g.
        let still : IsQuietUnder p.ballot sent (sent ++ more) =
        record { stays = sent_still sent more; quiet = λ s v said. quiet.old p.ballot s v g.backed.own said } in
        record { backed = laws.proposer sent (sent ++ more) n.me.node p still g.backed; promised = g.promised });
    learner = learner_later sent more n.learner h.learner;
    waiting = h.waiting;
  }
