-- What a proposer keeps and proposes stays in its ranges.
use Rattle.std.proofs.Common.{◌≡◌, ℕ, ◌+◌, ◌≤◌, max, List, [], ◌∷◌, Option, Some, None, IfSome, refl, arith}
use Rattle.std.specs.Prelude.{All}
use Rattle.std.proofs.lemmas.List.Elements.{All-cons, All-filter, All-nil}
use Rattle.std.proofs.lemmas.Bool.Decides.{nat_tests}
use Rattle.base.proofs.Branches.{either}
use Rattle.paxos_msg.specs.declared.ballot.Ballot.{Ballot}
use Rattle.paxos_msg.specs.declared.message.Body.TheVariants.{Promise}
use Rattle.paxos_msg.specs.declared.value.Value.{Value}
use Rattle.paxos_msg.specs.Batches.{Vote}
use Rattle.paxos_msg.specs.Fits.{AreVotes, IsPlace, IsValue}
use Rattle.paxos_msg.specs.Bodies.{IsBody}
use Rattle.paxos_proposer.specs.Proposer.{Proposer, proposer_after_part, coverage_of, next_of, next_value, proposing, rises}
use Rattle.paxos_proposer.specs.States.{IsProposerInRange}
use Rattle.paxos_proposer.proofs.CountingCoverage.{covered_below, set_reach}
use Rattle.paxos_proposer.proofs.PassedVotes.{found_all, heard_all}
use Rattle.paxos_proposer.proofs.Proposals.{proposed_next}

-- ---- a part

values_of : (size next : ℕ) (b : Ballot) (low upto : ℕ) (votes : List Vote) → AreVotes size b low upto votes
    → All (λ vote. next ≤ vote.place → IsValue size vote.value) votes
values_of size next b low upto [] h = All-nil (λ vote. next ≤ vote.place → IsValue size vote.value)
values_of size next b low upto (x ∷ xs) h =
    All-cons (λ vote. next ≤ vote.place → IsValue size vote.value) x xs (λ from. h.0.value)
    (values_of size next b (x.place + 1) upto xs h.1)

pub part_in_range : (j first upto : ℕ) (p : Proposer) (votes : List Vote) → IsProposerInRange p
    → IsBody p.size j (Promise p.ballot first upto votes) → IsProposerInRange (proposer_after_part p j first upto votes)
part_in_range j first upto p votes h body =
    let low = max (coverage_of p j) (next_of p) in
    let fit = values_of p.size low p.ballot first upto votes body.5 in
    let kept = heard_all (λ vote. IsValue p.size vote.value) low p.kept votes h.kept fit in
    either IsProposerInRange (rises p j first upto) (grind (arith, kept, set_reach)) h

-- ---- a proposal

module _ (p : Proposer) (h : IsProposerInRange p) where
  pub next_fits : (offered : Option Value) → IfSome offered (IsValue p.size) → (v : Value) → next_value p offered ≡ Some v
      → IsPlace (next_of p) × IsValue p.size v
  next_fits offered free v e =
      grind (arith, nat_tests, covered_below, found_all (λ k. IsValue p.size k.value) p.kept (next_of p))

  pub proposing_in_range : (offered : Option Value) → IfSome offered (IsValue p.size)
      → IsProposerInRange (proposing p (next_value p offered))
  proposing_in_range offered free = by_value (next_value p offered) (next_fits offered free)
    where
      by_value : (o : Option Value) → ((v : Value) → o ≡ Some v → IsPlace (next_of p) × IsValue p.size v)
          → IsProposerInRange (proposing p o)
      by_value None fits = h
      by_value (Some v) fits = record {
        ballot = h.ballot;
        reach = h.reach;
        kept = All-filter _ (λ vote. IsValue p.size vote.value) p.kept h.kept;
        proposed = λ s w e. grind (arith, nat_tests, proposed_next p v s, h.proposed s w, fits v refl);
      }
