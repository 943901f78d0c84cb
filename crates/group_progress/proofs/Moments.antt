-- What is at hand at each moment of a run under a leading node: what holds from the first event on,
-- what holds of all that was sent, and what the leading node's learner may count.
use Rattle.std.proofs.Common.{◌≡◌, ◌≢◌, ◌∙◌, ◌⊎◌, inl, inr, ℕ, suc, ◌<◌, ◌≤◌, Bool, List, Some, None, IfSome, refl, sym, ap, subst, arith, true, false}
use Rattle.std.proofs.lemmas.Bool.{cases_eq, cases_Bool}
use Rattle.std.specs.FinMap.{FinMap, get}
use Rattle.std.specs.Ordering.{nat_cmp}
use Rattle.paxos_msg.specs.declared.ballot.Ballot.{Ballot}
use Rattle.paxos_msg.specs.declared.message.Body.TheVariants.{Accept}
use Rattle.paxos_msg.specs.declared.value.Value.{Value}
use Rattle.paxos_msg.specs.declared.limits.TheConstants.{PLACES}
use Rattle.paxos_msg.specs.Ballots.{IsBelow, IsMajority}
use Rattle.paxos_msg.specs.Keys.{Key}
use Rattle.paxos_msg.specs.Messages.{IsSaid}
use Rattle.paxos_msg.specs.Tests.{ballot_lt}
use Rattle.paxos_msg.proofs.Agreement.{invariant_of}
use Rattle.paxos_msg.proofs.Invariant.{Invariant}
use Rattle.paxos_learner.specs.Learner.{AreInWindow, front_of}
use Rattle.paxos_learner.specs.Tallies.{Tally}
use Rattle.paxos_proposer.specs.Proposer.{Proposer}
use Rattle.group_protocol.proofs.Elements.{none_in}
use Rattle.group_protocol.specs.Known.{Known, front}
use Rattle.group_protocol.specs.ProposerResponses.{next_ballot, on_campaign}
use Rattle.group_node.specs.Deeds as deed
use Rattle.group_node.specs.NodeCalls.{Running}
use Rattle.group_world.specs.declared.event.Done.TheVariants.{Applied}
use Rattle.group_world.specs.Event.{DoesAt}
use Rattle.group_world.specs.Group.{IsUp, me_of, member_at, World, world_state}
use Rattle.group_world.specs.Member.{Member}
use Rattle.group_progress.specs.Fair.{Endless, IsLed}
use Rattle.group_world.proofs.WorldAsGroup.{changed_elsewhere, changed_here, running}
use Rattle.group_progress.specs.Below.{EventLaws, TestLaws}
use Rattle.group_progress.proofs.Calm.{UpWith}
use Rattle.group_progress.proofs.Covered.{known_of}
use Rattle.group_progress.proofs.Going.{Good}
use Rattle.group_progress.proofs.Lasting.{AreProposed, IsFirst, IsLasting, LeadsWith, leads_steady}
use Rattle.group_progress.proofs.Learners.{MayJoin}
use Rattle.group_progress.proofs.Learning.{one_ballot}
use Rattle.group_progress.proofs.Promising.{all_low, campaign_made, does_first, most_at, node_at, stays}
use Rattle.group_progress.proofs.Runs.{AtWith, good_at, none_above}
use Rattle.group_progress.proofs.Stages.{Stays}
use Rattle.group_progress.proofs.Tallies.{AreRight}
use Rattle.group_progress.proofs.Told.{IsFar}

-- a node that is up knows one thing
pub one_running : {v : World} {i : ℕ} {m x : Member} {q y : Running} → IsUp v i m q → IsUp v i x y → q ≡ y
one_running {m = m} {x} a c = let same : m ≡ x = cc (sym a.there ∙ c.there) in cc (sym a.up ∙ ap (λ (m : Member). m.node) same ∙ c.up)

module _ (laws : EventLaws) (tests : TestLaws) (few : (learned : FinMap nat_cmp Value) → AreInWindow learned → front_of learned ≤ PLACES)
    {members : ℕ → Bool} {leader : ℕ} {b : Ballot} {w : World} (run : Endless w) (good : Good w) (most : IsMajority w.group.size members)
    (led : IsLed members leader b run) where
  -- ---- the first event

  -- what the campaign keeps holds after it
  pub first_keeps : (K : Known → Type 0) → ((n : Known) → K n → K (on_campaign n).node) → (i : ℕ) → AtWith K w i → AtWith K (run.world 1) i
  first_keeps K keeps i at = by (cases_eq i leader) where
    first : DoesAt w leader None deed.Campaign Applied (run.world 1)
    first = does_first laws tests few run good most led

    by : (i ≡ leader) ⊎ (i ≢ leader) → AtWith K (run.world 1) i
    by (inr other) = record {
      node = at.node;
      there = rw first.leads (changed_elsewhere w.members leader i first.node first.left.member first.there other) ∙ at.there;
      is_up = at.is_up;
    }
    by (inl same) =
        let (q, up, ends) = first.does in
        let is_up : IsUp w leader first.node q = record { there = first.there; up = up } in
        let sound = running good.holds.sound is_up in
        let made = campaign_made (me_of w leader) first.node q.progress q.known first.left
        (few q.known.learner.learned sound.ranges.learner.window) first.answers ends in
        let known = known_of {K = K} (subst (AtWith K w) same at) first.there up in
        rw same (record {
          node = first.left.member;
          there = rw first.leads (changed_here w.members leader first.node first.left.member first.there);
          is_up = subst (UpWith K) (sym made.ends.left) (record { running = _; up = refl; holds = keeps q.known known });
        })

  -- the leading node begins to propose at a place of the group to which it has learned all, and has offered nothing
  pub record Opened : Type 0 where
    pub from : ℕ
    pub room : from < PLACES
    pub far : AtWith (IsFar from) (run.world 1) leader
    pub first : AtWith (LeadsWith b (IsFirst from)) (run.world 1) leader
    pub proposed : AtWith (LeadsWith b AreProposed) (run.world 1) leader

  -- which the campaign leaves so
  pub opened : Opened
  opened =
      let first = does_first laws tests few run good most led in
      let (q, up, ends) = first.does in
      let is_up : IsUp w leader first.node q = record { there = first.there; up = up } in
      let sound = running good.holds.sound is_up in
      let made = campaign_made (me_of w leader) first.node q.progress q.known first.left
      (few q.known.learner.learned sound.ranges.learner.window) first.answers ends in
      let is_b : next_ballot q.known ≡ b = led.ballot first.node q is_up in
      let there : member_at (run.world 1).members leader ≡ Some first.left.member =
      rw first.leads (changed_here w.members leader first.node first.left.member first.there) in
      record {
        from = front q.known;
        room = made.place;
        far = record {
          node = first.left.member;
          there = there;
          is_up = subst (UpWith (IsFar (front q.known))) (sym made.ends.left) (record { running = _; up = refl; holds = omega arith });
        };
        first = record {
          node = first.left.member;
          there = there;
          is_up = subst (UpWith (LeadsWith b (IsFirst (front q.known)))) (sym made.ends.left) (record {
            running = _;
            up = refl;
            holds = record { proposer = _; now = refl; ballot = is_b; promised = ap Some is_b; holds = refl };
          });
        };
        proposed = record {
          node = first.left.member;
          there = there;
          is_up = subst (UpWith (LeadsWith b AreProposed)) (sym made.ends.left) (record {
            running = _;
            up = refl;
            holds = record {
              proposer = _;
              now = refl;
              ballot = is_b;
              promised = ap Some is_b;
              holds = λ key among. absurd
                  (none_in key among);
            };
          });
        };
      }

  -- ---- the leading node's proposer

  -- a fact of it, a moment after the campaign
  abbrev pub LeadsAt : (Proposer → List Key → Type 0) → ℕ → Type 0
  LeadsAt P n = AtWith (LeadsWith b P) (run.world (suc n)) leader

  -- what lasts stays in the run
  pub leads_stay : (P : Proposer → List Key → Type 0) → IsLasting P → Stays (LeadsAt P)
  leads_stay P lasting = stays laws tests few run good most led (LeadsWith b P) (leads_steady tests b P lasting) leader led.own

  -- ---- what was sent

  -- what holds of all that was sent, and of the records
  pub inv_at : (n : ℕ) → Invariant (run.world n).group.size (world_state (run.world n)).sent
      (λ i. ((world_state (run.world n)).seats i).kept)
  inv_at n = invariant_of (good_at laws run good n).holds.rules.sound.grew

  -- nothing is proposed above the ballot
  pub none_over : (n : ℕ) (c : Ballot) (s : ℕ) (v : Value) → IsSaid (world_state (run.world (suc n))).sent (Accept c s v) → ¬ IsBelow b c
  none_over n =
      none_above tests (good_at laws run good (suc n)) (most_at laws tests few run good most led (suc n))
      (λ j at mine. all_low laws tests few run good most led n j (node_at laws tests few run good most led (suc n) j at) mine)

  -- ---- what the leading node's learner may count

  -- its tallies have a node each, and are no majority
  pub right_at : (n : ℕ) {i : ℕ} {m : Member} {q : Running} → IsUp (run.world n) i m q → AreRight q.known.learner
  right_at n {i} {m} is_up =
      subst (λ o. IfSome o (λ (q : Running). AreRight q.known.learner)) is_up.up ((good_at laws run good n).tallies.members i m is_up.there)

  -- a tally of a place may be joined by a vote for what was proposed under the ballot
  pub may_join_at : (n : ℕ) {i : ℕ} {m : Member} {q : Running} → IsUp (run.world (suc n)) i m q → (s : ℕ) (v : Value)
      → IsSaid (world_state (run.world (suc n))).sent (Accept b s v) → (t : Tally) → get q.known.learner.tallies s ≡ Some t
      → MayJoin tests b v t
  may_join_at n {i} {m} {q} is_up s v said t at =
      let sound = running (good_at laws run good (suc n)).holds.sound is_up in
      let one = right_at (suc n) is_up s t at in
      let accepted = sound.backs.learner.tallied s t at one.node one.has in
      let proposed = (inv_at (suc n)).accepted one.node t.ballot s t.value accepted in
      by (cases_Bool (ballot_lt t.ballot b)) (cases_Bool (ballot_lt b t.ballot)) (none_over n t.ballot s t.value proposed) proposed where
        by : (ballot_lt t.ballot b ≡ true) ⊎ (ballot_lt t.ballot b ≡ false) → (ballot_lt b t.ballot ≡ true) ⊎ (ballot_lt b t.ballot ≡ false)
            → ¬ IsBelow b t.ballot → IsSaid (world_state (run.world (suc n))).sent (Accept t.ballot s t.value) → MayJoin tests b v t
        by (inl less) other above proposed = inl less
        by (inr least) (inl more) above proposed = absurd (above ((tests.below b t.ballot).0 more))
        by (inr least) (inr most_of) above proposed =
            let same : t.ballot ≡ b = one_ballot tests t.ballot b ((tests.not_below t.ballot b).0 least)
            ((tests.not_below b t.ballot).0 most_of) in
            inr (
              same,
              (inv_at (suc n)).one_value b s t.value v
                  (subst (λ d. IsSaid (world_state (run.world (suc n))).sent (Accept d s t.value)) same proposed) said,
            )
