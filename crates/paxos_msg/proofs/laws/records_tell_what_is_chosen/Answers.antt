-- The vote under the greatest ballot, of the nodes of a majority, is for the chosen value.
use Rattle.std.proofs.Common.{IsTrue, ◌≡◌, ◌∙◌, ℕ, suc, Bool, List, [], ◌∷◌, ◌++◌, length, slice_get, Option, Some, None, IsSomeAnd, refl, ap, arith}
use Rattle.std.proofs.lemmas.Bool.Decides.{nat_tests}
use Rattle.std.proofs.lemmas.Option.{none-some, same_Some, slice_get_within}
use Rattle.std.specs.Option.{option_map}
use Rattle.base.proofs.Lists.{get_none, get_there}
use Rattle.paxos_msg.specs.declared.ballot.Ballot.{Ballot}
use Rattle.paxos_msg.specs.declared.message.Body.TheVariants.{Accept}
use Rattle.paxos_msg.specs.declared.value.Value.{Value}
use Rattle.paxos_msg.specs.Ballots.{IsAtMost, IsMajority}
use Rattle.paxos_msg.specs.Batches.{Grew, IsFree, Record, Sent, Vote}
use Rattle.paxos_msg.specs.Chosen.{IsChosen, IsChosenBy}
use Rattle.paxos_msg.specs.Messages.{IsSaid, kept_vote_at}
use Rattle.paxos_msg.specs.ReadRecords.{AreRead, IsRead}
use Rattle.paxos_msg.specs.Sending.{IsBest, IsGreatest}
use Rattle.paxos_msg.proofs.Agreement.{invariant_of, later_same}
use Rattle.paxos_msg.proofs.Invariant.{Invariant}
use Rattle.paxos_msg.proofs.CountingNodes.{majorities_meet}
use Rattle.paxos_msg.proofs.laws.records_tell_what_is_chosen.Goals as goal

module _ (size s : ℕ) (sent : Sent) (records : ℕ → Record) (members : ℕ → Bool) where
  abbrev reported : ℕ → Option Vote
  reported i = kept_vote_at (records i).votes s

  -- the best vote was proposed
  proposed : Invariant size sent records → (vote : Vote) → IsGreatest members reported vote → IsSaid sent (Accept vote.ballot s vote.value)
  proposed inv vote best = (rw best.reports at (inv.right best.reporter s)).proposed

  -- so it is for the chosen value, where a member has voted under the ballot of the choice or a greater one
  best_is_chosen : Invariant size sent records → (b : Ballot) (v : Value) → IsChosenBy size sent b s v → (i : ℕ) → IsTrue (members i)
      → IsSomeAnd (reported i) (λ vote. IsAtMost b vote.ballot) → (best : Option Vote) → IsBest members reported best
      → option_map (λ (vote : Vote). vote.value) best ≡ Some v
  best_is_chosen inv b v chosen i among voted None none = absurd (rw (none i among) at voted)
  best_is_chosen inv b v chosen i among voted (Some vote) great =
      ap Some (later_same inv chosen vote.ballot vote.value (proposed inv vote great)
      (grind (arith, nat_tests, great.greatest i among, voted)))

  read_is_chosen : (v : Value) (o : Option Value) → Grew size sent records → IsMajority size members → IsChosen size sent s v
      → IsRead members records s o → o ≡ Some v
  read_is_chosen v o grew majority (b, chosen) read =
      let inv = invariant_of grew in
      let (i, low, high, among, said) = majorities_meet size members chosen.0 majority chosen.1 in
      read.value ∙ best_is_chosen inv b v chosen i among (inv.kept i b s v (chosen.2 i said)) read.best read.is_best

  -- what is read was submitted, or is a no-op
  read_is_free : (v : Value) → Grew size sent records → IsRead members records s (Some v) → IsFree sent v
  read_is_free v grew read = free read.best read.is_best read.value
    where
      free : (best : Option Vote) → IsBest members reported best → Some v ≡ option_map (λ (vote : Vote). vote.value) best → IsFree sent v
      free None none e = absurd cc
      free (Some vote) great e =
          let inv = invariant_of grew in
          rw (same_Some v vote.value e) (inv.submitted vote.ballot s vote.value (proposed inv vote great))

-- ---- from place 0 on

-- a list whose elements are those of another at their places begins it
begins : {X : Type 0} (xs ys : List X) → ((s : ℕ) (x : X) → slice_get xs s ≡ Some x → slice_get ys s ≡ Some x)
    → (rest : List X) × (ys ≡ xs ++ rest)
begins [] ys h = (ys, refl)
begins (x ∷ xs) [] h = absurd (none-some x (h 0 x refl))
begins (x ∷ xs) (y ∷ ys) h =
    let (rest, same) = begins xs ys (λ s. h (suc s)) in
    (rest, cc (same_Some y x (h 0 x refl), same))

module _ (size : ℕ) (sent : Sent) (records : ℕ → Record) (members : ℕ → Bool) (chosen values : List Value)
    (grew : Grew size sent records) (majority : IsMajority size members)
    (is : (s : ℕ) (v : Value) → slice_get chosen s ≡ Some v → IsChosen size sent s v) (read : AreRead members records values) where
  -- where something is chosen, it is read
  same_there : (s : ℕ) (v : Value) → slice_get chosen s ≡ Some v → (o : Option Value) → slice_get values s ≡ o
      → slice_get values s ≡ Some v
  same_there s v e None none =
      let within = slice_get_within chosen s v e in
      let past = get_none values s none in
      let (u, there) = get_there chosen (length values) (omega arith) in
      absurd (none-some u (read_is_chosen size (length values) sent records members u None grew majority (is _ u there) read.over))
  same_there s v e (Some u) there =
      there ∙ read_is_chosen size s sent records members v (Some u) grew majority (is s v e) (read.each s u there)

  read_begins : (rest : List Value) × (values ≡ chosen ++ rest)
  read_begins = begins chosen values (λ s v e. same_there s v e (slice_get values s) refl)

pub returns : goal.returns
returns c = record { chosen = read_is_chosen; begins = read_begins; submitted = read_is_free }
