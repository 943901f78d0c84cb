-- A node to which nothing was typed, in a group where nothing was proposed: what it hears and what it sends.
use Rattle.std.proofs.Common.{◌≡◌, ◌∙◌, ◌⊎◌, inl, inr, ℕ, zero, suc, ◌-◌, nat_lt, Bool, Contains, List, [], ◌∷◌, ◌++◌, drop, take, filter_map, slice_get, Option, Some, None, IfSome, option_map, is_none, refl, sym, ap, subst, arith, true, false}
use Rattle.std.specs.List.{range_with_len}
use Rattle.std.proofs.lemmas.Bool.{cond_both}
use Rattle.std.proofs.lemmas.List.Elements.{Contains-append_cases}
use Rattle.std.specs.FinMap.{get}
use Rattle.paxos_msg.specs.declared.ballot.Ballot.{Ballot}
use Rattle.paxos_msg.specs.declared.limits.TheConstants.{LAST_PLACE, PLACES}
use Rattle.paxos_msg.specs.declared.message.Body.TheVariants.{Prepare, Promise, Accept, Accepted, Refused, Submit, Ask, Tell}
use Rattle.paxos_msg.specs.declared.value.Value.{Value}
use Rattle.paxos_msg.specs.Ballots.{IsAtMost}
use Rattle.paxos_msg.specs.Batches.{Body, Vote}
use Rattle.paxos_msg.specs.Tests.{same_ballot}
use Rattle.paxos_acceptor.specs.Answers.{part_of}
use Rattle.paxos_proposer.specs.declared.proposer.TheConstants.{MOST_PUMPED}
use Rattle.paxos_proposer.specs.Proposer.{Proposer, asks_on, coverage_of, is_covered, is_kept_from, next_of, proposed_at, proposer_after_part, rises}
use Rattle.group_protocol.proofs.Elements.{in_cases, none_in}
use Rattle.group_protocol.specs.AcceptorResponses.{unless_passed}
use Rattle.group_protocol.specs.Known.{Known, Response, front}
use Rattle.group_protocol.specs.LearnerResponses.{tell_packet}
use Rattle.group_protocol.specs.Packets.{Packet, to_all, to_one}
use Rattle.group_protocol.specs.Protocol.{on_message, response_to}
use Rattle.group_protocol.specs.ProposerResponses.{next_ballot, on_campaign, prepare_from, taking_part}
use Rattle.group_protocol.specs.Pump.{pump, stop}
use Rattle.group_protocol.specs.Tick.{accept_again, accepts_again, asks, asks_again, on_tick, prepares_again, submits, ticked}
use Rattle.group_protocol.specs.WaitingKeys.{batch_of, count_gone}
use Rattle.group_progress.specs.Below.{TestLaws}
use Rattle.group_progress.proofs.Acceptors.{promises}
use Rattle.group_progress.proofs.Learning.{not_passed}
use Rattle.group_rules.proofs.Lists.{of_filter_map}
use Rattle.group_progress.proofs.Pumps.{rests}

-- a proposer under the ballot that keeps and has proposed nothing
pub record IsSilentProposer (b : Ballot) (p : Proposer) : Type 0 where
  pub ballot : p.ballot ≡ b
  pub kept : p.kept ≡ []
  pub values : p.values ≡ []

-- the node has voted for nothing, learned nothing, and proposed nothing, and keys wait only if `W` holds
pub record IsSilent (W : Type 0) (b : Ballot) (n : Known) : Type 0 where
  pub votes : n.kept.votes ≡ []
  pub promised : IfSome n.kept.promised (λ p. IsAtMost p b)
  pub learned : (s : ℕ) → get n.learner.learned s ≡ None
  pub proposer : IfSome n.proposer (IsSilentProposer b)
  pub waiting : W ⊎ (n.waiting ≡ [])

-- what such nodes send to each other: a Submit only if `S` holds
abbrev pub IsSilentBody : Type 0 → Ballot → Body → Type 0
IsSilentBody S b (Prepare c from) = c ≡ b
IsSilentBody S b (Promise c first upto votes) = votes ≡ []
IsSilentBody S b (Submit v) = S
IsSilentBody S b (Ask from) = Unit {0}
IsSilentBody S b _ = ⊥

-- packets that have only such bodies
abbrev pub AreSilent : Type 0 → Ballot → List Packet → Type 0
AreSilent S b packets = (packet : Packet) → Contains packets packet → IsSilentBody S b packet.body

-- the test that a body is a Submit
abbrev pub is_submit : Body → Bool
is_submit (Submit v) = true
is_submit _ = false

-- what is no Submit may be heard
pub silent_heard : (S : Type 0) (b : Ballot) (body : Body) → IsSilentBody S b body → is_submit body ≡ false → IsSilentBody ⊥ b body
silent_heard S b (Prepare c from) is none = is
silent_heard S b (Promise c first upto votes) is none = is
silent_heard S b (Accept c s v) is none = is
silent_heard S b (Accepted c s v) is none = is
silent_heard S b (Refused c promised) is none = is
silent_heard S b (Submit v) is none = absurd cc
silent_heard S b (Ask from) is none = tt
silent_heard S b (Tell s v) is none = is

-- where no Submit is said, nothing is one
pub none_submitted : (b : Ballot) (body : Body) → IsSilentBody ⊥ b body → is_submit body ≡ false
none_submitted b (Prepare c from) is = refl
none_submitted b (Promise c first upto votes) is = refl
none_submitted b (Accept c s v) is = absurd is
none_submitted b (Accepted c s v) is = absurd is
none_submitted b (Refused c promised) is = absurd is
none_submitted b (Submit v) is = absurd is
none_submitted b (Ask from) is = refl
none_submitted b (Tell s v) is = absurd is

-- nothing is left of nothing
drop_none : (k : ℕ) (xs : List ℕ) → xs ≡ [] → drop k xs ≡ []
drop_none zero xs e = e
drop_none (suc k) xs e = rw e refl

-- no packet
none_silent : (S : Type 0) (b : Ballot) → AreSilent S b []
none_silent S b packet among = absurd (none_in packet among)

-- one packet
one_silent : (S : Type 0) (b : Ballot) (first : Packet) → IsSilentBody S b first.body → AreSilent S b (first ∷ [])
one_silent S b first h packet among = elim (in_cases first [] packet among) [
  | inl same ↦ subst (λ (x : Packet). IsSilentBody S b x.body) same h
  | inr none ↦ absurd (none_in packet none)
]

-- packets after packets
both_silent : (S : Type 0) (b : Ballot) (xs ys : List Packet) → AreSilent S b xs → AreSilent S b ys → AreSilent S b (xs ++ ys)
both_silent S b xs ys h g packet among = elim (Contains-append_cases xs ys packet among) [
  | inl first ↦ h packet first
  | inr later ↦ g packet later
]

-- images that do not exist
pub no_images : {X Y : Type 0} (f : X → Option Y) (xs : List X) → ((x : X) → f x ≡ None) → filter_map f xs ≡ []
no_images f [] none = refl
no_images f (x ∷ xs) none = rw (none x) (no_images f xs none)

-- a proposer that keeps nothing proposes nothing
silent_pump : (b : Ballot) (n : ℕ) (p : Proposer) → IsSilentProposer b p → pump n p ≡ stop p
silent_pump b n p h = rests n p (ap (λ (votes : List Vote). is_kept_from votes (next_of p)) h.kept)

-- and so has proposed nothing anywhere
silent_proposed : (b : Ballot) (p : Proposer) (s : ℕ) → IsSilentProposer b p → proposed_at p s ≡ None
silent_proposed b p s h = cond_both (nat_lt s p.first) None (slice_get p.values (s - p.first)) (λ o. o ≡ None) (λ e. refl)
    (λ e. rw h.values refl)

module _ (S W : Type 0) (tests : TestLaws) (b : Ballot) where
  -- ---- messages

  -- a response that leaves the node so, and sends only such packets
  abbrev Answers : Response → Type 0
  Answers done = IsSilent W b done.node × AreSilent S b done.sends

  -- the waiting keys of a node at which none waits
  left_waiting : (n : Known) → W ⊎ (n.waiting ≡ []) → W ⊎ (drop (count_gone n) n.waiting ≡ [])
  left_waiting n (inl may) = inl may
  left_waiting n (inr e) = inr (drop_none (count_gone n) n.waiting e)

  -- its proposer stays, or goes
  stays_silent : (o : Option Proposer) → IfSome o (IsSilentProposer b) → IfSome (unless_passed (Some b) o) (IsSilentProposer b)
  stays_silent None h = tt
  stays_silent (Some p) h = rw (not_passed tests b p h.ballot) h

  -- a Prepare
  hears_prepare : (n : Known) (j from : ℕ) → IsSilent W b n → Answers (on_message n j (Prepare b from))
  hears_prepare n j from h =
      let made = promises tests n j b from h.promised in (
        record {
          votes = made.votes ∙ h.votes;
          promised = rw made.promised (inr (refl, omega arith));
          learned = λ s. ap (λ l. get l.learned s) made.rest.learner ∙ h.learned s;
          proposer = rw made.proposer (stays_silent n.proposer h.proposer);
          waiting = left_waiting (response_to n j (Prepare b from)).node h.waiting;
        },
        subst (AreSilent S b) (sym made.sends) (one_silent S b (to_one b.node (part_of n.kept b from)) (rw h.votes refl)),
      )

  -- a part without votes
  part_silent : (p : Proposer) (j first upto : ℕ) (votes : List Vote) → votes ≡ [] → IsSilentProposer b p
      → IsSilentProposer b (proposer_after_part p j first upto votes)
  part_silent p j first upto votes none h = rw none (cond_both (rises p j first upto) _ _ (IsSilentProposer b)
      (λ e. record { ballot = h.ballot; kept = h.kept; values = h.values }) (λ e. h))

  -- what it asks on
  asks_silent : (c : Ballot) (j : ℕ) (o : Option ℕ) → c ≡ b → AreSilent S b (prepare_from c j o)
  asks_silent c j None e = none_silent S b
  asks_silent c j (Some s) e = one_silent S b (to_one j (Prepare c s)) e

  -- a Promise
  hears_promise : (n : Known) (j : ℕ) (c : Ballot) (first upto : ℕ) (votes : List Vote) → votes ≡ [] → IsSilent W b n
      → Answers (on_message n j (Promise c first upto votes))
  hears_promise n j c first upto votes none h =
      let made = by n.proposer h.proposer in (
        record {
          votes = made.0.votes;
          promised = made.0.promised;
          learned = made.0.learned;
          proposer = made.0.proposer;
          waiting = left_waiting (response_to n j (Promise c first upto votes)).node made.0.waiting;
        },
        made.1,
      ) where
        same : IsSilent W b n
        same = h

        by : (o : Option Proposer) → IfSome o (IsSilentProposer b) → Answers (taking_part n o j c first upto votes)
        by None g = (h, none_silent S b)
        by (Some p) g = cond_both (same_ballot p.ballot c) _ _ Answers
            (λ e.
            let q : Proposer = proposer_after_part p j first upto votes in
            let silent = part_silent p j first upto votes none g in
            let rest = silent_pump b MOST_PUMPED (proposer_after_part p j first upto votes) silent in
            let is : c ≡ b = sym ((tests.same p.ballot c).0 e) ∙ g.ballot in
            rw rest (
              record { votes = h.votes; promised = h.promised; learned = h.learned; proposer = silent; waiting = h.waiting },
              both_silent S b (prepare_from c j (asks_on p j first upto)) [] (asks_silent c j (asks_on p j first upto) is)
                  (none_silent S b),
            ))
            (λ e. (h, none_silent S b))

  -- an Ask
  hears_ask : (n : Known) (j from : ℕ) → IsSilent W b n → Answers (on_message n j (Ask from))
  hears_ask n j from h = (
    record {
      votes = h.votes;
      promised = h.promised;
      learned = h.learned;
      proposer = h.proposer;
      waiting = left_waiting
          (response_to n j (Ask from)).node h.waiting;
    },
    rw (no_images (tell_packet n.learner.learned j) _ (λ s. ap (option_map (λ v. to_one j (Tell s v))) (h.learned s))) (none_silent S b),
  )

  -- each of them
  pub hears_silent : (n : Known) (j : ℕ) (body : Body) → IsSilent W b n → IsSilentBody ⊥ b body → Answers (on_message n j body)
  hears_silent n j (Prepare c from) h is = subst (λ d. Answers (on_message n j (Prepare d from))) (sym is) (hears_prepare n j from h)
  hears_silent n j (Promise c first upto votes) h is = hears_promise n j c first upto votes is h
  hears_silent n j (Accept c s v) h is = absurd is
  hears_silent n j (Accepted c s v) h is = absurd is
  hears_silent n j (Refused c promised) h is = absurd is
  hears_silent n j (Submit v) h is = absurd is
  hears_silent n j (Ask from) h is = hears_ask n j from h
  hears_silent n j (Tell s v) h is = absurd is

  -- ---- ticks

  -- what a tick asks
  submits_only : S → (o : Option Value) → AreSilent S b (submits o)
  submits_only may None = none_silent S b
  submits_only may (Some v) = one_silent S b (to_all (Submit v)) may

  -- and the Ask
  asks_only : (W → S) → (n : Known) → W ⊎ (n.waiting ≡ []) → AreSilent S b (asks n)
  asks_only speaks n (inl may) =
      both_silent S b (submits (batch_of n n.waiting)) (to_all (Ask (front n)) ∷ []) (submits_only (speaks may) (batch_of n n.waiting))
      (one_silent S b (to_all (Ask (front n))) tt)
  asks_only speaks n (inr e) = rw e (one_silent S b _ tt)

  -- the Prepares that it sends again
  prepares_only : (p : Proposer) → p.ballot ≡ b → AreSilent S b (prepares_again p)
  prepares_only p e = cond_both (is_covered p LAST_PLACE) [] (filter_map (asks_again p) (range_with_len 1 p.size)) (AreSilent S b)
      (λ f. none_silent S b)
      (λ f packet among.
      let (i, row, is) = of_filter_map (asks_again p) (range_with_len 1 p.size) packet among in
      again i packet is) where
        again : (i : ℕ) (packet : Packet) → asks_again p i ≡ Some packet → IsSilentBody S b packet.body
        again i packet = cond_both (nat_lt (coverage_of p i) PLACES) (Some (to_one i (Prepare p.ballot (coverage_of p i)))) None
            (λ o. o ≡ Some packet → IsSilentBody S b packet.body)
            (λ f is. (let same : to_one i (Prepare p.ballot (coverage_of p i)) ≡ packet = cc is in subst
            (λ (x : Packet). IsSilentBody S b x.body) same e))
            (λ f is. absurd (cc is))

  -- there is no Accept to send again
  accepts_none : (n : Known) (p : Proposer) → IsSilentProposer b p → accepts_again n.learner.learned p ≡ []
  accepts_none n p h =
      ap (take 16) (no_images (accept_again n.learner.learned p) _
      (λ s. cond_both (is_none (get n.learner.learned s)) _ None (λ o. o ≡ None)
      (λ e. ap (option_map (λ v. to_all (Accept p.ballot s v))) (silent_proposed b p s h)) (λ e. refl)))

  -- a tick
  pub ticks_silent : (W → S) → (n : Known) → IsSilent W b n → Answers (on_tick n)
  ticks_silent speaks n h = by n.proposer h.proposer where
    by : (o : Option Proposer) → IfSome o (IsSilentProposer b) → Answers (ticked n o)
    by None g = (h, asks_only speaks n h.waiting)
    by (Some p) g =
        let rest = silent_pump b MOST_PUMPED p g in
        rw rest (
          record { votes = h.votes; promised = h.promised; learned = h.learned; proposer = g; waiting = h.waiting },
          both_silent S b _ _ (both_silent S b (prepares_again p) (accepts_again n.learner.learned p) (prepares_only p g.ballot)
              (rw (accepts_none n p g) (none_silent S b))) (asks_only speaks n h.waiting),
        )

  -- ---- a campaign, and a start

  -- the campaign that begins the ballot
  pub campaigns_silent : (n : Known) → next_ballot n ≡ b → IsSilent W b n → Answers (on_campaign n)
  campaigns_silent n is h = (
    record {
      votes = h.votes;
      promised = inr (ap (λ (c : Ballot). c.round) is, omega (arith, ap (λ (c : Ballot). c.node) is));
      learned = h.learned;
      proposer = record { ballot = is; kept = refl; values = refl };
      waiting = h.waiting;
    },
    one_silent S b _ is,
  )
