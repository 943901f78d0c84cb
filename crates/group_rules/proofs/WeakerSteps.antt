-- Deeds by the rules, and one of them by the rules without a clause.
use Rattle.std.proofs.Common.{◌≡◌, ◌+◌, ◌⊎◌, ◌++◌, ℕ, List, [], ◌∷◌, Option, Some, IfSome, inl, inr, length, subst}
use Rattle.std.specs.FinMap.{get}
use Rattle.paxos_msg.specs.declared.value.Value.{Value}
use Rattle.paxos_msg.specs.Batches.{Body, Change, MaySendAll}
use Rattle.paxos_msg.specs.Keys.{Key}
use Rattle.paxos_msg.specs.Records.{MaySave}
use Rattle.paxos_acceptor.specs.Answers.{after}
use Rattle.paxos_learner.specs.Backed.{MayLearn}
use Rattle.paxos_learner.specs.Learner.{HasLearnedMore}
use Rattle.group_rules.specs.Leads.{LeadsByRules, LeadsUnder, NodeDeed}
use Rattle.group_rules.specs.Reachable.{with_call}
use Rattle.group_rules.specs.Rules.{AreParted, SubmitsWaiting, Up, WorldState}
use Rattle.group_rules.specs.WeakerRules.{CallsWithout, Clause, Configuration_stays, Gains, Next, Released_stays, Saves, Sends, StepWithout, Submits, Unless, Waiting, WeakerStep}
use Rattle.group_rules.proofs.ChainedSteps.{rest_by, seat_by}

module _ (left : Clause) where
  pub leads_without : (w v : WorldState) (deeds : List NodeDeed) → LeadsByRules w deeds v → LeadsUnder (StepWithout left) w deeds v
  unfolding LeadsUnder
  leads_without w v [] same = same
  leads_without w v (d ∷ deeds) (mid, step, rest) = (mid, inl step, leads_without mid v deeds rest)

  -- deeds by the rules, one without the clause, and more by the rules
  pub leads_past : (w v u x : WorldState) (deeds : List NodeDeed) (d : NodeDeed) (more : List NodeDeed) → LeadsByRules w deeds v
      → WeakerStep left v d.node d.deed u → LeadsByRules u more x → LeadsUnder (StepWithout left) w (deeds ++ d ∷ more) x
  unfolding LeadsUnder
  leads_past w v u x [] d more same step rest =
      (u, subst (λ (y : WorldState). StepWithout left y d.node d.deed u) same (inr step), leads_without u x more rest)
  leads_past w v u x (e ∷ deeds) d more (mid, first, later) step rest =
      (mid, inl first, leads_past mid v u x deeds d more later step rest)

  -- a call by the rules without the clause: `inl refl` stands where the clause does
  pub calls_without : (w : WorldState) (i : ℕ) (c : Option Change) (bodies : List Body) (was now : Up) (keys : List Key)
      → (w.seats i).up ≡ Some was
      → Unless left Saves (IfSome c (MaySave w.sent (w.seats i).kept))
      → Unless left Sends (MaySendAll w.size (w.typed ++ keys) (get now.learned) w.sent i (after (w.seats i).kept c) bodies)
      → HasLearnedMore was.learned now.learned
      → Unless left Gains ((s : ℕ) (x : Value) → get now.learned s ≡ Some x → (get was.learned s ≡ Some x) ⊎ MayLearn w.size w.sent s x)
      → Unless left Configuration_stays (now.configuration ≡ was.configuration)
      → Unless left Released_stays (now.released ≡ was.released)
      → Unless left Waiting (AreParted now.learned (was.waiting ++ keys) now.waiting)
      → Unless left Submits (SubmitsWaiting now.waiting bodies)
      → Unless left Next (now.next ≡ was.next + length keys)
      → CallsWithout left w (with_call w i c bodies now keys) i c keys
  calls_without w i c bodies was now keys from saves sends keeps gains configuration released waiting submits next = record {
    bodies = bodies;
    was = was;
    now = now;
    from = from;
    leaves = seat_by w i _;
    rest = rest_by w i c bodies now keys;
    saves = saves;
    sends = sends;
    keeps = keeps;
    gains = gains;
    configuration = configuration;
    released = released;
    waiting = waiting;
    submits = submits;
    next = next;
  }
