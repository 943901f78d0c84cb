-- A message that a node may send keeps the invariant.
use Rattle.std.proofs.Common.{◌≡◌, ℕ, ◌⊎◌, inl, inr, List, [], ◌∷◌, ◌++◌, Option, Some, None, IsSomeAnd, MatchOption, IsTrue, sym, ◌∙◌, arith}
use Rattle.std.proofs.lemmas.List.Elements.{Contains-append_left, Contains-push_cases}
use Rattle.std.proofs.lemmas.Option.{IfSome_then}
use Rattle.std.proofs.lemmas.Bool.Decides.{nat_tests}
use Rattle.paxos_msg.specs.declared.ballot.Ballot.{Ballot}
use Rattle.paxos_msg.specs.declared.value.Value.{Value}
use Rattle.paxos_msg.specs.Batches.{Body, IsFree, IsSafe, MaySend, Msg, Record, Sent, Vote}
use Rattle.paxos_msg.specs.Ballots.{IsBelow, IsAtMost}
use Rattle.paxos_msg.specs.declared.message.Body.TheVariants.{Promise, Accept, Accepted, Submit}
use Rattle.paxos_msg.specs.Keys.{Key}
use Rattle.paxos_msg.specs.Messages.{IsSent, IsSaid, IsPromised, kept_vote_at}
use Rattle.paxos_msg.specs.Sending.{IsGreatest, IsBest, IsUnproposed}
use Rattle.paxos_msg.proofs.Invariant.{HasVoted, HasRight, Invariant, IsDecided}

-- A member of a silent majority accepted nothing below the ballot that it promised, and one of
-- another nothing above the greatest vote that was reported. So a proposal that is safe is free,
-- and is all that is left to the ballots below it.
module _ {size : ℕ} {sent : Sent} {records : ℕ → Record} (c : Ballot) (s : ℕ) (w : Value)
    (inv : Invariant size sent records) (safe : IsSafe size sent c s w) where
  -- where a majority accepted nothing else, the value is decided
  by_majority : (b : Ballot) → IsBelow b c → ((i : ℕ) → IsTrue (safe.members i) → (v : Value) → IsSent sent i (Accepted b s v) → v ≡ w)
      → IsDecided size sent records b s w
  by_majority b below only = record {
    members = safe.members;
    majority = safe.majority;
    past = λ i member. record {
      passed = grind (arith, nat_tests, below, inv.held i c s (safe.reported i) (safe.promised i member));
      only = only i member;
    };
  }

  -- the greatest vote was proposed
  great_proposed : (vote : Vote) → IsGreatest safe.members safe.reported vote → IsSaid sent (Accept vote.ballot s vote.value)
  great_proposed vote great = grind (arith, nat_tests)

  -- under the ballot of the greatest vote, and above it, nothing else was accepted
  none_else : (vote : Vote) (b : Ballot) (i : ℕ) (v : Value) → IsGreatest safe.members safe.reported vote → IsAtMost vote.ballot b
      → IsBelow b c → IsTrue (safe.members i) → IsSent sent i (Accepted b s v) → v ≡ vote.value
  none_else vote b i v great at_most below member h =
      let latest = (inv.reports i c s (safe.reported i) (safe.promised i member)).latest b v h below in
      let said = inv.accepted i b s v h in
      grind (arith, nat_tests, latest, said, great.greatest i member, great_proposed vote great, inv.one_value b s v vote.value)

  -- so it is by the best of the reported votes
  by_best : (best : Option Vote) → IsBest safe.members safe.reported best → MatchOption best (IsFree sent w) (λ vote. w ≡ vote.value)
      → IsFree sent w × ((b : Ballot) → IsBelow b c → IsDecided size sent records b s w)
  by_best None silent free = (
    free,
    λ b below. by_majority b below (λ i member v h.
        absurd (rw (silent i member) at ((inv.reports i c s (safe.reported i) (safe.promised i member)).latest b v h below))),
  )
  by_best (Some vote) great e =
      let proposed = great_proposed vote great in
      rw e (
        inv.submitted vote.ballot s vote.value proposed,
        λ b below. (
            let order : IsBelow b vote.ballot ⊎ IsAtMost vote.ballot b = grind arith in
            elim order [
              | inl before ↦ inv.decided vote.ballot s vote.value proposed b before
              | inr at_most ↦ rw (← e) (by_majority b below (λ i member v h. none_else vote b i v great at_most below member h ∙ sym e))
            ]),
      )

  safe_holds : IsFree sent w × ((b : Ballot) → IsBelow b c → IsDecided size sent records b s w)
  safe_holds = by_best safe.best safe.is_best safe.value

-- the invariant after one more message that may be sent
module _ (size : ℕ) (typed : List Key) (learned : ℕ → Option Value) (sent : Sent) (records : ℕ → Record) (m : Msg)
    (may : MaySend size typed learned sent m.sender (records m.sender) m.body) (inv : Invariant size sent records) where
  -- all that was sent then
  abbrev now : Sent
  now = sent ++ m ∷ []

  -- what was said is still said
  still_said : (body : Body) → IsSaid sent body → IsSaid now body
  still_said body (i, h) = (i, Contains-append_left sent (m ∷ []) _ h)

  -- what is sent was sent before, or its node was allowed to send it
  cases : (i : ℕ) (body : Body) → IsSent now i body → IsSent sent i body ⊎ MaySend size typed learned sent i (records i) body
  cases i body h = grind (arith, nat_tests, Contains-push_cases sent m (record { sender = i; body = body }) h)

  -- a proposal was made before, or is the new message, the first under its ballot and safe
  proposal : (b : Ballot) (s : ℕ) (v : Value) → IsSaid now (Accept b s v)
      → IsSaid sent (Accept b s v) ⊎ (IsUnproposed sent b s × IsSafe size sent b s v × (m.body ≡ Accept b s v))
  proposal b s v (i, h) =
      grind (arith, nat_tests, cases i (Accept b s v) h, Contains-push_cases sent m (record { sender = i; body = Accept b s v }) h)

  -- one value is proposed under a ballot at a place
  one_value : (b : Ballot) (s : ℕ) (v w : Value) → IsSaid now (Accept b s v) → IsSaid now (Accept b s w) → v ≡ w
  one_value b s v w h k =
      elim (proposal b s v h) [
        | inl old ↦ elim (proposal b s w k) [ inl old' ↦ inv.one_value b s v w old old' | inr new ↦ absurd (new.0 v old) ]
        | inr new ↦ elim (proposal b s w k) [ inl old ↦ absurd (new.0 w old) | inr new' ↦ cc (new.2, new'.2) ]
      ]

  -- a node has a vote under a ballot that it accepted, or a greater one
  kept : (i : ℕ) (b : Ballot) (s : ℕ) (v : Value) → IsSent now i (Accepted b s v) → HasVoted b s (records i)
  kept i b s v h = grind (arith, nat_tests, cases i (Accepted b s v) h, inv.kept i b s v)

  -- each vote is right still
  right : (i s : ℕ) → HasRight now s (records i)
  right i s = grind (arith, nat_tests, IfSome_then, still_said)

  -- a single promise was there before, or says what its node's record says now
  promise_cases : (i : ℕ) (b : Ballot) (s : ℕ) (reported : Option Vote) → IsPromised now i b s reported
      → IsPromised sent i b s reported
      ⊎ (((records i).promised ≡ Some b) × (kept_vote_at (records i).votes s ≡ reported))
  promise_cases i b s reported h =
      grind (arith, nat_tests, cases i (Promise b h.first h.upto h.votes) h.is_sent)

  -- who has promised b accepts nothing below it any more
  too_late : (i : ℕ) (c : Ballot) (s : ℕ) (v : Value) → IsSomeAnd (records i).promised (λ p. IsBelow c p)
      → IsSent now i (Accepted c s v) → IsSent sent i (Accepted c s v)
  too_late i c s v past h = grind (arith, nat_tests, cases i (Accepted c s v) h)

  pub sends_keep : Invariant size now records
  sends_keep =
      record {
        accepted = λ i b s v h. grind (arith, nat_tests, cases i (Accepted b s v) h, inv.accepted i b s v, still_said (Accept b s v));
        one_value = one_value;
        submitted = λ b s v said.
            grind (arith, nat_tests, proposal b s v said, still_said (Submit v), safe_holds b s v inv, inv.submitted b s v);
        kept = kept;
        right = right;
        held = λ i b s reported h. grind (arith, nat_tests, promise_cases i b s reported h, inv.held i b s reported);
        reports = λ i b s reported h. elim (promise_cases i b s reported h) [
          | inl old ↦ record {
            latest = λ c v k below. (inv.reports i b s reported old).latest c v
                (too_late i c s v (grind (arith, nat_tests, below, inv.held i b s reported old)) k) below;
            proposed = IfSome_then reported (inv.reports i b s reported old).proposed (λ v. still_said (Accept v.ballot s v.value));
          }
          | inr new ↦ record {
            latest = λ c v k below. rw new.1 at (kept i c s v k);
            proposed = IfSome_then reported (rw new.1 at (right i s)) (λ vote r. r.proposed);
          }
        ];
        decided = λ c s w said b below. (
            let d : IsDecided size sent records b s w =
            grind (arith, nat_tests, proposal c s w said, safe_holds c s w inv, inv.decided c s w) in
            record {
              members = d.members;
              majority = d.majority;
              past = λ i member. (let h = d.past i member in
                  record { passed = h.passed; only = λ v k. h.only v (too_late i b s v h.passed k) });
            });
      }
