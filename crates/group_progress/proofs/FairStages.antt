-- What a fair run comes to, as its laws say it: kept votes are proposed, and what is proposed is learned by all.
use Rattle.std.proofs.Common.{◌≡◌, ◌∙◌, inl, ℕ, zero, suc, ◌≤◌, Bool, IsTrue, Contains, List, Some, sym, arith}
use Rattle.std.specs.FinMap.{FinMap}
use Rattle.std.specs.Ordering.{nat_cmp}
use Rattle.paxos_msg.specs.declared.ballot.Ballot.{Ballot}
use Rattle.paxos_msg.specs.declared.limits.TheConstants.{PLACES}
use Rattle.paxos_msg.specs.declared.value.Value.{Value}
use Rattle.paxos_learner.specs.Learner.{AreInWindow, front_of}
use Rattle.paxos_msg.specs.Ballots.{IsMajority}
use Rattle.paxos_msg.specs.Batches.{Vote}
use Rattle.paxos_msg.specs.Keys.{Key}
use Rattle.paxos_proposer.specs.Proposer.{Proposer, next_of}
use Rattle.group_node.specs.NodeCalls.{Running}
use Rattle.group_world.specs.Group.{IsUp, World}
use Rattle.group_world.specs.Member.{Member}
use Rattle.group_progress.specs.Fair.{AllHaveLearned, Endless, HasProposedPast, IsFair, IsLed, Later}
use Rattle.group_progress.specs.Below.{EventLaws, TestLaws, FairLaws}
use Rattle.group_progress.proofs.Covered.{known_of}
use Rattle.group_progress.proofs.Going.{Good}
use Rattle.group_progress.proofs.Lasting.{AreProposed, IsKeptOrProposed, IsNextAbove, LeadsWith, kept_at, next_lasts, proposed_lasts}
use Rattle.group_progress.proofs.Moments.{LeadsAt, leads_stay, opened}
use Rattle.group_progress.proofs.Promising.{stays}
use Rattle.group_progress.proofs.Rising.{proposed_later}
use Rattle.group_progress.proofs.Runs.{AtWith}
use Rattle.group_progress.proofs.Stages.{Stays, all_later, from_then, later_then, now}
use Rattle.group_progress.proofs.Told.{IsFar, far_steady, told_all}
use Rattle.group_progress.proofs.Voting.{front_reaches}
use Rattle.group_progress.proofs.Waited.{tell_of}

-- from a moment in the middle on
from_next : (P : ℕ → Type 0) (n : ℕ) → Later n (λ t. (u : ℕ) → t ≤ u → P (suc u)) → Later (suc n) (λ t. (u : ℕ) → t ≤ u → P u)
from_next P n (t, less, all) = (suc t, omega (arith, less), at) where
  at : (u : ℕ) → suc t ≤ u → P u
  at zero low = absurd (omega (arith, low))
  at (suc u) low = all u (omega (arith, low))

module _ (fl : FairLaws) {members : ℕ → Bool} {leader : ℕ} {b : Ballot} {w : World} (run : Endless w) (good : Good w)
    (most : IsMajority w.group.size members) (led : IsLed members leader b run) (fair : IsFair members run) where
  -- the laws of events, of tests and of fronts
  abbrev events : EventLaws
  events = fl.more.laws.events

  abbrev tests : TestLaws
  tests = fl.more.laws.tests

  abbrev few : (learned : FinMap nat_cmp Value) → AreInWindow learned → front_of learned ≤ PLACES
  few = fl.few

  -- a fact of the leading node at a moment
  abbrev Reaches : (Proposer → List Key → Type 0) → ℕ → Type 0
  Reaches P n = LeadsAt events tests few run good most led P n

  module _ (n : ℕ) {m : Member} {q : Running} (is_up : IsUp (run.world (suc n)) leader m q) (p : Proposer)
      (has : q.known.proposer ≡ Some p) where
    -- a fact of the leading node's proposer at the moment
    leads_by : (P : Proposer → List Key → Type 0) → P p q.known.offered → Reaches P n
    leads_by P holds =
        let start = (opened events tests few run good most led).proposed in
        let all = from_then (Reaches AreProposed) (leads_stay events tests few run good most led AreProposed proposed_lasts) 0 n
        (omega arith) start in
        let h = known_of {K = LeadsWith b AreProposed} all is_up.there is_up.up in
        let same : h.proposer ≡ p = cc (sym h.now ∙ has) in
        record {
          node = m;
          there = is_up.there;
          is_up = record {
            running = q;
            up = is_up.up;
            holds = record { proposer = p; now = has; ballot = rw (← same) h.ballot; promised = h.promised; holds = holds };
          };
        }

    -- each kept vote is proposed
    pub proposes_on : (vote : Vote) → Contains p.kept vote
        → Later (suc n) (λ t. (u : ℕ) → t ≤ u → HasProposedPast b vote.place (run.world u) leader)
    proposes_on vote among =
        from_next (λ u. HasProposedPast b vote.place (run.world u) leader) n
        (later_then n (proposed_later events tests few run good most led fair vote.place n
        (leads_by (IsKeptOrProposed vote.place) (inl (kept_at p.kept vote among))))
        (λ t less at. now t (λ u more.
        let on = from_then (Reaches (IsNextAbove (suc vote.place)))
        (leads_stay events tests few run good most led (IsNextAbove (suc vote.place)) (next_lasts (suc vote.place))) t u more at in
        let h = on.is_up.holds in
        record {
          node = on.node;
          running = on.is_up.running;
          up = record { there = on.there; up = on.is_up.up };
          proposer = h.proposer;
          now = h.now;
          ballot = h.ballot;
          past = h.holds;
        })))

    -- what is proposed is learned by all
    pub learns_on : Later (suc n) (λ t. (u : ℕ) → t ≤ u → AllHaveLearned members w.group.size (next_of p) (run.world u))
    learns_on = from_next (λ u. AllHaveLearned members w.group.size (next_of p) (run.world u)) n
        (later_then n (front_reaches (tell_of fl) events tests few run good most led fair (next_of p) n
        (leads_by (IsNextAbove (next_of p)) (omega arith)))
        (λ t less far. later_then t (all_later members Far (λ i u at own. far_stays i own u (at own)) t w.group.size
        (λ i some low own. later_then t
        (told_all (tell_of fl) events tests few run good most led fair i leader (some, low) own led.node led.own (next_of p) t far)
        (λ u more at. now u (λ own. at))))
        (λ u more all. now u (λ y further i node own.
        let at = from_then (λ u. AtWith (IsFar (next_of p)) (run.world (suc u)) i) (far_stays i own) u y further
        (all i node.0 node.1 own own) in
        record {
          node = at.node;
          running = at.is_up.running;
          up = record { there = at.there; up = at.is_up.up };
          below = at.is_up.holds;
        })))) where
          Far : ℕ → ℕ → Type 0
          Far i t = IsTrue (members i) → AtWith (IsFar (next_of p)) (run.world (suc t)) i

          far_stays : (i : ℕ) → IsTrue (members i) → Stays (λ u. AtWith (IsFar (next_of p)) (run.world (suc u)) i)
          far_stays i own = stays events tests few run good most led (IsFar (next_of p)) (far_steady (tell_of fl) b (next_of p)) i own
