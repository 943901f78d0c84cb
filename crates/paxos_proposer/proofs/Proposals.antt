-- What a proposer proposes may be sent, and the proposer is backed again.
use Rattle.std.proofs.Common.{◌≡◌, ◌==◌, ℕ, zero, suc, ◌⊎◌, inl, inr, List, [], ◌∷◌, ◌++◌, length, slice_get, Option, Some, None, IfSome, if◌then◌else◌, ap, refl, arith}
use Rattle.std.proofs.lemmas.Bool.{cases_eq}
use Rattle.std.proofs.lemmas.List.{length_push}
use Rattle.std.proofs.lemmas.List.Elements.{Contains-push, Contains-push_cases}
use Rattle.std.proofs.lemmas.Option.{slice_get_past}
use Rattle.std.proofs.lemmas.Bool.Decides.{nat_tests}
use Rattle.paxos_msg.specs.declared.message.Body.TheVariants.{Accept}
use Rattle.paxos_msg.specs.Batches.{IsFree, MaySend, Msg, Record, Sent}
use Rattle.paxos_msg.specs.declared.value.Value.{Value}
use Rattle.paxos_msg.specs.Keys.{Key}
use Rattle.paxos_msg.specs.Messages.{IsSent, IsSaid}
use Rattle.paxos_msg.specs.Sending.{IsUnproposed}
use Rattle.paxos_proposer.specs.Proposer.{Proposer, next_of, next_value, proposed_at, proposing}
use Rattle.paxos_proposer.specs.Backed.{IsProposerBacked}
use Rattle.paxos_proposer.proofs.BackedAsMoreIsSent.{stays_with, heard_stays}
use Rattle.paxos_proposer.proofs.PassedVotes.{left_at}

-- ---- the values that are proposed, after one more

-- a value that is pushed is found after the others
pushed : (values : List Value) (v : Value) (i : ℕ)
    → slice_get (values ++ v ∷ []) i ≡ (if i == length values then Some v else slice_get values i)
pushed [] v zero = refl
pushed [] v (suc i) = grind (arith, nat_tests)
pushed (x ∷ xs) v zero = grind (arith, nat_tests)
pushed (x ∷ xs) v (suc i) = grind (arith, nat_tests, pushed xs v i)

pub proposed_next : (p : Proposer) (v : Value) (s : ℕ)
    → proposed_at (proposing p (Some v)) s ≡ (if s == next_of p then Some v else proposed_at p s)
proposed_next p v s = grind (arith, nat_tests, pushed)

-- nothing is proposed at the next place yet
none_next : (p : Proposer) → proposed_at p (next_of p) ≡ None
none_next p = grind (arith, nat_tests, slice_get_past)

module _ (sent : Sent) (me : ℕ) (p : Proposer) (h : IsProposerBacked sent me p) (v : Value) where
  unproposed : IsUnproposed sent p.ballot (next_of p)
  unproposed w said = grind (arith, none_next p, h.only (next_of p) w said)

  pub may_propose : (typed : List Key) (learned : ℕ → Option Value) (r : Record) (offered : Option Value)
      → IfSome offered (IsFree sent) → next_value p offered ≡ Some v
      → MaySend p.size typed learned sent me r (Accept p.ballot (next_of p) v)
  may_propose typed learned r offered free e = (h.own, inr (unproposed, grind (arith, nat_tests)))

  abbrev said : Msg
  said = record { sender = me; body = Accept p.ballot (next_of p) v }

  sent_all : (s : ℕ) (w : Value) → proposed_at (proposing p (Some v)) s ≡ Some w → IsSent (sent ++ said ∷ []) me (Accept p.ballot s w)
  sent_all s w e = elim (cases_eq s (next_of p)) [
    | inl here ↦
        let f : v ≡ w = grind (arith, nat_tests, proposed_next p v s) in
        rw (here, ← f) (Contains-push sent said)
    | inr there ↦ stays_with sent said me (Accept p.ballot s w) (h.sent_all s w (grind (arith, nat_tests, proposed_next p v s)))
  ]

  -- what is new under the ballot is the one proposal
  said_cases : (s : ℕ) (w : Value) → IsSaid (sent ++ said ∷ []) (Accept p.ballot s w)
      → IsSaid sent (Accept p.ballot s w) ⊎ ((next_of p ≡ s) × (v ≡ w))
  said_cases s w (i, g) = elim (Contains-push_cases sent said (record { sender = i; body = Accept p.ballot s w }) g) [
    | inl old ↦ inl (i, old)
    | inr e ↦ let f : Accept p.ballot (next_of p) v ≡ Accept p.ballot s w = ap (λ (m : Msg). m.body) e in inr (cc, cc)
  ]

  only : (s : ℕ) (w : Value) → IsSaid (sent ++ said ∷ []) (Accept p.ballot s w) → proposed_at (proposing p (Some v)) s ≡ Some w
  only s w g = grind (arith, nat_tests, said_cases s w g, proposed_next p v s, h.only s w, none_next)

  pub proposing_backed : IsProposerBacked (sent ++ record { sender = me; body = Accept p.ballot (next_of p) v } ∷ []) me
      (proposing p (Some v))
  proposing_backed = record {
    own = h.own;
    nodes = h.nodes;
    heard = λ s above. grind (arith, length_push, left_at, heard_stays sent (sent ++ said ∷ []) (stays_with sent said));
    sent_all = sent_all;
    only = only;
  }
