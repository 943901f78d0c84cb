-- The next place of the leading node rises in a fair run, as long as it keeps votes there or above.
use Rattle.std.proofs.Common.{◌≡◌, ◌∙◌, ◌⊎◌, inl, inr, ℕ, zero, suc, ◌+◌, ◌-◌, ◌<◌, ◌≤◌, Bool, IsTrue, List, [], Option, Some, None, IfSome, IsSomeAnd, refl, sym, ap, subst, arith, true, false}
use Rattle.std.proofs.lemmas.Bool.{cases_lt, cases_Bool, lt-ltb}
use Rattle.std.specs.FinMap.{FinMap, get}
use Rattle.std.specs.Ordering.{nat_cmp}
use Rattle.paxos_msg.specs.declared.ballot.Ballot.{Ballot}
use Rattle.paxos_msg.specs.declared.message.Group.{Group}
use Rattle.paxos_msg.specs.declared.message.Body.TheVariants.{Accept}
use Rattle.paxos_msg.specs.declared.value.Value.{Value}
use Rattle.paxos_msg.specs.declared.limits.TheConstants.{PLACES}
use Rattle.paxos_msg.specs.Ballots.{IsAtMost, IsBelow, IsMajority}
use Rattle.paxos_msg.specs.Batches.{Vote}
use Rattle.paxos_msg.specs.Chosen.{IsChosen}
use Rattle.paxos_msg.specs.Keys.{Key}
use Rattle.paxos_msg.specs.Messages.{IsSaid, kept_vote_at}
use Rattle.paxos_msg.specs.Tests.{ballot_lt}
use Rattle.paxos_msg.proofs.Agreement.{later_same}
use Rattle.paxos_msg.proofs.CountingNodes.{majorities_meet}
use Rattle.paxos_acceptor.specs.declared.me.Me.{Me}
use Rattle.paxos_learner.specs.Learner.{AreInWindow, front_of}
use Rattle.paxos_proposer.specs.declared.proposer.TheConstants.{MOST_PUMPED}
use Rattle.paxos_proposer.specs.Backed.{IsProposerBacked}
use Rattle.paxos_proposer.specs.Proposer.{Proposer, coverage_of, is_covered, is_covered_by, is_kept_from, next_of, proposing}
use Rattle.group_protocol.specs.Backs.{IsLeadingBacked}
use Rattle.group_protocol.specs.Known.{Known}
use Rattle.group_protocol.specs.Pump.{pump}
use Rattle.group_protocol.specs.Ranges.{IsOwnProposer}
use Rattle.group_protocol.specs.Tick.{on_tick, ticked}
use Rattle.group_node.specs.Deeds as deed
use Rattle.group_node.specs.NodeCalls.{Running}
use Rattle.group_world.specs.declared.event.Act.TheVariants as act
use Rattle.group_world.specs.Event.{DoesAt}
use Rattle.group_world.specs.Group.{IsUp, World, world_state}
use Rattle.group_world.specs.Member.{Member}
use Rattle.group_progress.specs.Fair.{Endless, IsFair, IsLed, Later}
use Rattle.group_world.proofs.WorldAsGroup.{changed_here, running}
use Rattle.group_progress.specs.Below.{EventLaws, TestLaws}
use Rattle.group_progress.proofs.Above.{none_best, none_kept, none_proposed}
use Rattle.group_progress.proofs.Calm.{UpWith, made_leaves}
use Rattle.group_progress.proofs.Chasing.{proposed_in}
use Rattle.group_progress.proofs.Covered.{IsAllCovered, IsCoveredBy, at_more, covered, covered_stays, known_of}
use Rattle.group_progress.proofs.Going.{Good, by_rules}
use Rattle.group_progress.proofs.Lasting.{IsFirst, IsKeptOrProposed, IsNextAbove, LeadsWith, first_lasts, kept_lasts, kept_lower, leads_of, next_lasts, pump_lasts}
use Rattle.group_progress.proofs.Leading.{Covers, pump_same}
use Rattle.group_progress.proofs.Learners.{count_within}
use Rattle.group_progress.proofs.Learning.{one_ballot}
use Rattle.group_progress.proofs.Moments.{LeadsAt, inv_at, leads_stay, none_over, opened}
use Rattle.group_progress.proofs.Promising.{ticks_at}
use Rattle.group_progress.proofs.Pumps.{next_after, next_found}
use Rattle.group_progress.proofs.Runs.{good_at, group_at}
use Rattle.group_progress.proofs.Stages.{from_then, later_then, now}

-- a pump goes on where a vote is kept
pub pump_up : (tests : TestLaws) (b : Ballot) (n : ℕ) (p : Proposer) → is_covered p (next_of p) ≡ true
    → is_kept_from p.kept (next_of p) ≡ true
    → suc (next_of p) ≤ next_of (pump (suc n) p).proposer
unfolding pump
pump_up tests b n p covered kept =
    let found = next_found p covered kept in
    let q : Proposer = proposing p (Some found.0) in
    let up = next_after p found.0 in
    rw found.1 (pump_lasts tests b (IsNextAbove (suc (next_of p))) (next_lasts (suc (next_of p))) n q [] (omega (arith, up)))

-- so a tick raises the next place
tick_up : (tests : TestLaws) (b : Ballot) (c : ℕ) (n : Known) (h : LeadsWith b (IsNextAbove c) n)
    → is_covered h.proposer (next_of h.proposer) ≡ true
    → is_kept_from h.proposer.kept (next_of h.proposer) ≡ true → LeadsWith b (IsNextAbove (suc c)) (on_tick n).node
tick_up tests b c n h covered kept = by n.proposer h.now where
  by : (o : Option Proposer) → o ≡ Some h.proposer → LeadsWith b (IsNextAbove (suc c)) (ticked n o).node
  by o is = rw is (record {
    proposer = (pump MOST_PUMPED h.proposer).proposer;
    now = refl;
    ballot = (pump_same MOST_PUMPED h.proposer).ballot ∙ h.ballot;
    promised = h.promised;
    holds = omega (arith, h.holds, pump_up tests b 15 h.proposer covered kept);
  })

module _ (laws : EventLaws) (tests : TestLaws) (few : (learned : FinMap nat_cmp Value) → AreInWindow learned → front_of learned ≤ PLACES)
    {members : ℕ → Bool} {leader : ℕ} {b : Ballot} {w : World} (run : Endless w) (good : Good w) (most : IsMajority w.group.size members)
    (led : IsLed members leader b run) (fair : IsFair members run) where
  -- a fact of the leading node at a moment
  abbrev Reaches : (Proposer → List Key → Type 0) → ℕ → Type 0
  Reaches P n = LeadsAt laws tests few run good most led P n

  -- a majority that has promised all places, by what the leading node knows
  abbrev Covered : (ℕ → Bool) → ℕ → Type 0
  Covered among n = IsCoveredBy laws tests few run good most led fair among n

  -- the first place of its own
  from : ℕ
  from = (opened laws tests few run good most led).from

  -- which stays
  first_at : (n : ℕ) → Reaches (IsFirst (opened laws tests few run good most led).from) n
  first_at n =
      from_then (Reaches (IsFirst (opened laws tests few run good most led).from))
      (leads_stay laws tests few run good most led (IsFirst (opened laws tests few run good most led).from) (first_lasts _)) 0 n
      (omega arith) (opened laws tests few run good most led).first

  module _ (n : ℕ) {m : Member} {q : Running} (is_up : IsUp (run.world (suc n)) leader m q) (p : Proposer)
      (has : q.known.proposer ≡ Some p) where
    -- the messages back the proposer
    pub backed_at : IsProposerBacked (world_state (run.world (suc n))).sent leader p
    backed_at =
        let sound = running (good_at laws run good (suc n)).holds.sound is_up in
        let leads : IsLeadingBacked (world_state (run.world (suc n))).sent q.known.me.node q.known.kept p =
        subst (λ o. IfSome o (IsLeadingBacked
        (world_state (run.world (suc n))).sent q.known.me.node q.known.kept)) has sound.backs.proposer in
        subst (λ (me : Me). IsProposerBacked (world_state (run.world (suc n))).sent me.node p) sound.me_is leads.backed

    -- the proposer has the size of the group
    size_at : p.size ≡ w.group.size
    size_at =
        let runs = running (good_at laws run good (suc n)).holds.sound is_up in
        let own : IsOwnProposer q.known.me p = subst (λ o. IfSome o (IsOwnProposer q.known.me)) has runs.ranges.proposer in
        own.size ∙ ap (λ (me : Me). me.group.size) runs.me_is ∙ ap (λ (g : Group). g.size) (group_at run (suc n))

    -- the next place is one of the group's
    pub next_room : next_of p < PLACES
    next_room = elim (cases_lt p.first (next_of p)) [
      | inl some ↦
          let s : ℕ = next_of p - 1 in
          let (u, at) = proposed_in p (next_of p - 1) (omega (arith, some)) (omega (arith, some)) in
          let room = led.room (suc n) (next_of p - 1) p.ballot u (leader, backed_at.sent_all (next_of p - 1) u at) in
          omega (arith, room, some)
      | inr none ↦
          let first : p.first ≡ (opened laws tests few run good most led).from =
          leads_of (known_of (first_at n) is_up.there is_up.up) has in
          omega (arith, none, first, (opened laws tests few run good most led).room)
    ]

    -- a majority has promised each place, by what the leading node knows
    pub covered_is : (among : ℕ → Bool) → Covered among n → (s : ℕ) → s < PLACES → is_covered p s ≡ true
    covered_is among h s low =
        let reach : (i : ℕ) → 0 < i → i ≤ w.group.size → IsTrue (among i) → IsTrue (is_covered_by p.coverages s i) = λ i some below own.
        (let g = known_of {K = Covers b i PLACES} (h.all i some below own) is_up.there is_up.up in
        let same : g.proposer ≡ p = cc (sym g.now ∙ has) in
        let full : PLACES ≤ coverage_of p i = subst (λ (p : Proposer). PLACES ≤ coverage_of p i) same g.covers in
        lt-ltb s (coverage_of p i) (omega (arith, low, full))) in
        let within = count_within among (is_covered_by p.coverages s) w.group.size reach in
        (tests.majority p.size (is_covered_by p.coverages s)).1
        (subst (λ k. IsMajority k (is_covered_by p.coverages s)) (sym size_at) (omega (arith, h.majority, within)))

    -- a place above at which it has learned a value has a vote that is kept there or above
    pub learned_kept : (among : ℕ → Bool) → Covered among n → p.ballot ≡ b → (s : ℕ) (u : Value) → s < PLACES
        → get q.known.learner.learned s ≡ Some u
        → IsKeptOrProposed s p q.known.offered
    learned_kept among h ballot s u low at = by (cases_Bool (is_kept_from p.kept s)) (cases_lt s (next_of p)) where
      chosen : IsChosen (run.world (suc n)).group.size (world_state (run.world (suc n))).sent s u
      chosen = (by_rules (good_at laws run good (suc n)).holds is_up).learned.chosen s u at

      no : is_kept_from p.kept s ≡ false → next_of p ≤ s → ⊥
      no none above =
          let c : Ballot = chosen.0 in
          let members_of : ℕ → Bool = chosen.1.0 in
          let (i, some, below, here, there) = majorities_meet w.group.size among members_of h.majority
          (subst (λ (g : Group). IsMajority g.size members_of) (group_at run (suc n)) chosen.1.1) in
          let accepted = chosen.1.2 i there in
          let inv = inv_at laws tests few run good most led (suc n) in
          let said = inv.accepted i c s u accepted in
          let back = backed_at in
          let g = back.heard s above in
          let k = known_of {K = Covers b i PLACES} (h.all i some below here) is_up.there is_up.up in
          let same : k.proposer ≡ p = cc in
          let full : PLACES ≤ coverage_of p i = subst (λ (p : Proposer). PLACES ≤ coverage_of p i) same k.covers in
          let covers : is_covered_by p.coverages s i ≡ true = lt-ltb s (coverage_of p i) (omega (arith, low, full)) in
          let silent = none_best (is_covered_by p.coverages s) g.reported (kept_vote_at p.kept s)
          (none_kept s s p.kept none (omega arith)) g.is_best i covers in
          elim (cases_Bool (ballot_lt c b)) [
            | inl less ↦
                let latest = (inv.reports i p.ballot s (g.reported i) (g.promised i covers)).latest c u accepted
                (subst (λ d. IsBelow c d) (sym ballot) ((tests.below c b).0 less)) in
                subst (λ o. IsSomeAnd o (λ (vote : Vote). IsAtMost c vote.ballot)) silent latest
            | inr least ↦ elim (cases_Bool (ballot_lt b c)) [
              | inl more ↦ none_over laws tests few run good most led n c s u said ((tests.below b c).0 more)
              | inr most_of ↦
                  let is : c ≡ b = one_ballot tests c b ((tests.not_below c b).0 least) ((tests.not_below b c).0 most_of) in
                  let own : IsSaid (world_state (run.world (suc n))).sent (Accept p.ballot s u) =
                  subst (λ d. IsSaid (world_state (run.world (suc n))).sent (Accept d s u)) (is ∙ sym ballot) said in
                  let wrong : Some u ≡ None = sym (back.only s u own) ∙ none_proposed p s above in
                  absurd cc
            ]
          ]

      by : (is_kept_from p.kept s ≡ true) ⊎ (is_kept_from p.kept s ≡ false) → (s < next_of p) ⊎ (next_of p ≤ s)
          → IsKeptOrProposed s p q.known.offered
      by (inl kept) other = inl kept
      by (inr none) (inl below) = inr below
      by (inr none) (inr above) = absurd (no none above)

  -- ---- the next place rises

  -- a lower place is passed too
  pub more_next : (c e n : ℕ) → e ≤ c → Reaches (IsNextAbove c) n → Reaches (IsNextAbove e) n
  more_next c e n low at = at_more
      (λ k h. record {
        proposer = h.proposer;
        now = h.now;
        ballot = h.ballot;
        promised = h.promised;
        holds = omega
            (arith, low, h.holds);
      }) at

  -- the next place passes this one, or rises
  abbrev Rises : ℕ → ℕ → ℕ → Type 0
  Rises s c n = Reaches (IsNextAbove (suc s)) n ⊎ Reaches (IsNextAbove (suc c)) n

  -- one tick
  ticked_at : (among : ℕ → Bool) (s c n t : ℕ) → n ≤ t → Covered among t → Reaches (IsKeptOrProposed s) t → Reaches (IsNextAbove c) t
      → DoesAt (run.world (suc t)) leader None deed.Tick (run.done (suc t)) (run.world (suc (suc t))) → Later n (Rises s c)
  ticked_at among s c n t later covers kept next does =
      let (q, up, ends) = does.does in
      let is_up : IsUp (run.world (suc t)) leader does.node q = record { there = does.there; up = up } in
      let h = known_of {K = LeadsWith b (IsNextAbove c)} next does.there up in
      let p : Proposer = h.proposer in
      let k : IsKeptOrProposed s h.proposer q.known.offered =
      leads_of (known_of {K = LeadsWith b (IsKeptOrProposed s)} kept does.there up) h.now in
      let over : s < next_of h.proposer → Later n (Rises s c) = λ above. (
        t,
        later,
        inl (record {
          node = does.node;
          there = does.there;
          is_up = record {
            running = q;
            up = up;
            holds = record { proposer = h.proposer; now = h.now; ballot = h.ballot; promised = h.promised; holds = above };
          };
        }),
      ) in
      elim k [
        | inr above ↦ over above
        | inl votes ↦ elim (cases_lt s (next_of h.proposer)) [
          | inl above ↦ over above
          | inr reached ↦
              let room = next_room t is_up h.proposer h.now in
              let whole = covered_is t is_up h.proposer h.now among covers (next_of h.proposer) room in
              let new = tick_up tests b c q.known h whole (kept_lower s (next_of h.proposer) h.proposer.kept reached votes) in
              let left = made_leaves does.node q.progress (on_tick q.known) [] does.left ends in (
                suc t,
                omega (arith, later),
                inr (record {
                  node = does.left.member;
                  there = rw does.leads (changed_here (run.world (suc t)).members leader does.node does.left.member does.there);
                  is_up = subst (UpWith (LeadsWith b (IsNextAbove (suc c)))) (sym left) (record { running = _; up = refl; holds = new });
                }),
              )
        ]
      ]

  -- there is a tick
  rises_next : (among : ℕ → Bool) (s c n : ℕ) → Covered among n → Reaches (IsKeptOrProposed s) n → Reaches (IsNextAbove c) n
      → Later n (Rises s c)
  rises_next among s c n covers kept next = by (fair.ticks (suc n) leader led.node led.own) where
    by : Later (suc n) (λ t. (run.event t).act ≡ act.Tick leader) → Later n (Rises s c)
    by (zero, less, acts) = absurd (omega (arith, less))
    by (suc t, less, acts) =
        let on : n ≤ t = omega (arith, less) in
        ticked_at among s c n t on (from_then (Covered among) (covered_stays laws tests few run good most led fair among) n t on covers)
        (from_then (Reaches (IsKeptOrProposed s))
        (leads_stay laws tests few run good most led (IsKeptOrProposed s) (kept_lasts s)) n t on kept)
        (from_then (Reaches (IsNextAbove c)) (leads_stay laws tests few run good most led (IsNextAbove c) (next_lasts c)) n t on next)
        (ticks_at laws tests few run good most led t leader led.own acts)

  -- again and again
  rises_to : (among : ℕ → Bool) (s fuel c n : ℕ) → suc s ≤ c + fuel → Covered among n → Reaches (IsKeptOrProposed s) n
      → Reaches (IsNextAbove c) n
      → Later n (Reaches (IsNextAbove (suc s)))
  rises_to among s zero c n enough covers kept next = now n (more_next c (suc s) n (omega (arith, enough)) next)
  rises_to among s (suc fuel) c n enough covers kept next = later_then n (rises_next among s c n covers kept next) (λ t less up. elim up [
    | inl done ↦ now t done
    | inr more ↦ rises_to among s fuel (suc c) t (omega (arith, enough))
        (from_then (Covered among) (covered_stays laws tests few run good most led fair among) n t less covers)
        (from_then (Reaches (IsKeptOrProposed s))
        (leads_stay laws tests few run good most led (IsKeptOrProposed s) (kept_lasts s)) n t less kept) more
  ])

  -- a majority is covered from some moment on
  pub covered_later : (n : ℕ) → Later n (IsAllCovered laws tests few run good most led fair)
  covered_later n =
      let (t, less, (among, h)) = covered laws tests few run good most led fair in (
        n + t,
        omega arith,
        (
          among,
          from_then (Covered among) (covered_stays laws tests few run good most led fair among) t (n + t)
              (omega arith) h,
        ),
      )

  -- where a vote is kept at a place or above it, the place has its proposal later
  pub proposed_later : (s n : ℕ) → Reaches (IsKeptOrProposed s) n → Later n (Reaches (IsNextAbove (suc s)))
  proposed_later s n kept = later_then n (covered_later n) (λ t less covers.
      let on = from_then (Reaches (IsKeptOrProposed s))
      (leads_stay laws tests few run good most led (IsKeptOrProposed s) (kept_lasts s)) n t less kept in
      rises_to covers.0 s (suc s) 0 t (omega arith) covers.1 on
      (at_more (λ k h. record { proposer = h.proposer; now = h.now; ballot = h.ballot; promised = h.promised; holds = omega arith }) on))

  -- the value that is learned where it was proposed is the proposed one
  pub same_value_at : (n : ℕ) {i : ℕ} {m : Member} {q : Running} → IsUp (run.world (suc n)) i m q → (s : ℕ) (u v : Value)
      → get q.known.learner.learned s ≡ Some u
      → IsSaid (world_state (run.world (suc n))).sent (Accept b s v) → v ≡ u
  same_value_at n is_up s u v at said =
      let (c, chosen) = (by_rules (good_at laws run good (suc n)).holds is_up).learned.chosen s u at in
      let inv = inv_at laws tests few run good most led (suc n) in
      let (i, low, high, here, there) = majorities_meet (run.world (suc n)).group.size chosen.0 chosen.0 chosen.1 chosen.1 in
      let above = none_over laws tests few run good most led n c s u (inv.accepted i c s u (chosen.2 i here)) in
      later_same inv chosen b v said (elim (cases_Bool (ballot_lt b c)) [
        | inl more ↦ absurd (above ((tests.below b c).0 more))
        | inr not ↦ (tests.not_below b c).0 not
      ])
