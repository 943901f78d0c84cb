-- A part raises an acceptor's coverage, and the kept votes stay the greatest that were reported.
use Rattle.std.proofs.Common.{◌≡◌, ℕ, ◌<◌, ◌≤◌, max, Bool, IsTrue, ◌⊎◌, inl, inr, List, length, slice_index, slice_set, ◌==◌, Option, Some, None, IfSome, nat_le, if◌then◌else◌, refl, arith, rules}
use Rattle.std.proofs.lemmas.Bool.{lt-ltb, cases_eq, cases_lt, eq-eqb, ne_eqb}
use Rattle.std.proofs.lemmas.Bool.Decides.{nat_tests}
use Rattle.std.proofs.lemmas.List.{get_or-set_same, get_or-set_other, length-set}
use Rattle.base.proofs.Branches.{either_by}
use Rattle.paxos_msg.specs.Batches.{Sent, Vote}
use Rattle.paxos_msg.specs.declared.message.Body.TheVariants.{Promise}
use Rattle.paxos_msg.specs.Ballots.{IsAtMost}
use Rattle.paxos_msg.specs.Bodies.{IsBody}
use Rattle.paxos_msg.specs.Messages.{IsSent, IsPromised, kept_vote_at}
use Rattle.paxos_msg.specs.Sending.{IsBest, IsGreatest}
use Rattle.paxos_msg.specs.Tests.{ballot_lt}
use Rattle.paxos_proposer.specs.Proposer.{Proposer, is_covered_by, coverage_of, heard, next_of, rises, proposer_after_part}
use Rattle.paxos_proposer.specs.Backed.{HasPromises, IsProposerBacked}
use Rattle.paxos_proposer.proofs.Reported.{merged, are_ascending, none_upto, heard_at}

-- the reports with a new one of acceptor j
abbrev with_report : (ℕ → Option Vote) → ℕ → Option Vote → ℕ → Option Vote
with_report reported j new i = if i == j then new else reported i

-- a part is heard at each place from the old coverage up to its end
module _ (coverages : List ℕ) (j upto s : ℕ) (node : j < length coverages) (old : slice_index coverages j ≤ s)
    (below : s < upto) (reported : ℕ → Option Vote) where
  abbrev before : ℕ → Bool
  before = is_covered_by coverages s

  abbrev after : ℕ → Bool
  after = is_covered_by (slice_set coverages j upto) s

  -- what holds of the new report, and of each older one, holds of all
  each : (new : Option Vote) (Q : ℕ → Option Vote → Type 0) → Q j new → ((i : ℕ) → IsTrue (before i) → Q i (reported i))
      → (i : ℕ) → IsTrue (after i) → Q i (with_report reported j new i)
  each new Q here there i member = grind (arith, nat_tests, cases_eq, eq-eqb, ne_eqb, get_or-set_other)

  -- the greatest report of the older ones stays the greatest, if the new one is not greater
  stays_best : (new : Option Vote) (x : Vote) → IsGreatest before reported x
      → IfSome new (λ other. IsAtMost other.ballot x.ballot) → IsGreatest after (with_report reported j new) x
  stays_best new x great small = grind (arith, nat_tests, get_or-set_other, cases_eq, each)

  new_best : (y : Vote) → ((i : ℕ) → IsTrue (before i) → IfSome (reported i) (λ other. IsAtMost other.ballot y.ballot))
      → IsGreatest after (with_report reported j (Some y)) y
  new_best y small = search (rules, get_or-set_same coverages j upto 0 node, lt-ltb s upto below)

  best_heard : (kept new : Option Vote) → IsBest before reported kept → IsBest after (with_report reported j new) (merged kept new)
  best_heard None None silent = each None (λ i r. r ≡ None) refl silent
  best_heard None (Some y) silent = new_best y (λ i member. rw (silent i member) tt)
  best_heard (Some x) None great = stays_best None x great tt
  best_heard (Some x) (Some y) great =
      either_by (IsGreatest after (with_report reported j (Some y))) (ballot_lt x.ballot y.ballot) (λ e. grind (arith, nat_tests, new_best))
      (λ e. stays_best (Some y) x great (grind (arith, nat_tests)))

-- a proposer is backed still after a part
module _ (sent : Sent) (me j first upto : ℕ) (p : Proposer) (votes : List Vote) (h : IsProposerBacked sent me p) (few : j ≤ 9)
    (body : IsBody p.size j (Promise p.ballot first upto votes)) (is_sent : IsSent sent j (Promise p.ballot first upto votes)) where
  -- the kept votes after the part
  abbrev kept_now : List Vote
  kept_now = heard (max (coverage_of p j) (next_of p)) p.kept votes

  -- the vote that is kept at a place where nothing is proposed yet
  kept_at : (s : ℕ) → next_of p ≤ s → kept_vote_at kept_now s
      ≡ (if nat_le (coverage_of p j) s then merged (kept_vote_at p.kept s) (kept_vote_at votes s) else kept_vote_at p.kept s)
  kept_at s above = grind (arith, nat_tests, heard_at, are_ascending p.size p.ballot first upto votes body.5)

  -- a place below the old coverage, or from the part's end on, keeps its vote and its promises
  unheard : (s : ℕ) → next_of p ≤ s → coverage_of p j < upto → (s < coverage_of p j) ⊎ (upto ≤ s)
      → HasPromises sent p.ballot s (is_covered_by (slice_set p.coverages j upto) s) (kept_vote_at kept_now s)
  unheard s above rise out =
      let same : (i : ℕ) → is_covered_by p.coverages s i ≡ is_covered_by (slice_set p.coverages j upto) s i =
      λ i. grind (arith, nat_tests, cases_eq, get_or-set_same, get_or-set_other) in
      let tests : is_covered_by p.coverages s ≡ is_covered_by (slice_set p.coverages j upto) s = (λ k i. same i k) in
      let kept : kept_vote_at p.kept s ≡ kept_vote_at kept_now s =
      grind (arith, nat_tests, kept_at s above, none_upto p.size p.ballot first upto s votes, body.5) in
      rw (← tests, ← kept) (h.heard s above)

  heard_now : (s : ℕ) → next_of p ≤ s → first ≤ coverage_of p j → coverage_of p j < upto
      → HasPromises sent p.ballot s (is_covered_by (slice_set p.coverages j upto) s) (kept_vote_at kept_now s)
  heard_now s above from rise =
      elim (cases_lt s (coverage_of p j)) [
        | inl low ↦ unheard s above rise (inl low)
        | inr old ↦ elim (cases_lt s upto) [
          | inl below ↦
              let new = kept_vote_at votes s in
              let there = h.heard s above in
              let kept : kept_vote_at kept_now s ≡ merged (kept_vote_at p.kept s) new = grind (arith, nat_tests, kept_at s above) in
              rw kept (record {
                reported = with_report there.reported j new;
                promised =
                    each p.coverages j upto s (omega arith) old below there.reported new (λ i r. IsPromised sent i p.ballot s r)
                    (grind arith) there.promised;
                is_best =
                    best_heard p.coverages j upto s (omega arith) old below there.reported (kept_vote_at p.kept s) new there.is_best;
              })
          | inr high ↦ unheard s above rise (inr high)
        ]
      ]

  pub part_backed : IsProposerBacked sent me (proposer_after_part p j first upto votes)
  part_backed = either_by (IsProposerBacked sent me) (rises p j first upto) (λ e. grind (arith, nat_tests, length-set, heard_now)) (λ e. h)
