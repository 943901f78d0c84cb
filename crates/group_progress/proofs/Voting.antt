-- What the leading node has proposed is voted for and learned, in a fair run.
use Rattle.std.proofs.Common.{◌≡◌, ◌≢◌, ◌∙◌, ◌⊎◌, inl, inr, ℕ, zero, suc, ◌+◌, ◌-◌, ◌<◌, ◌≤◌, Bool, IsTrue, Contains, List, [], filter_map, take, Option, Some, None, IfSome, refl, sym, ap, subst, arith}
use Rattle.std.proofs.lemmas.Bool.{cases_eq, cases_lt}
use Rattle.std.proofs.lemmas.List.Elements.{Contains-append_left, Contains-append_right}
use Rattle.std.specs.FinMap.{FinMap, get}
use Rattle.std.specs.List.{range_with_len}
use Rattle.std.specs.Ordering.{nat_cmp}
use Rattle.paxos_msg.specs.declared.ballot.Ballot.{Ballot}
use Rattle.paxos_msg.specs.declared.message.Group.{Group}
use Rattle.paxos_msg.specs.declared.message.Body.TheVariants.{Accept, Accepted}
use Rattle.paxos_msg.specs.declared.value.Value.{Value}
use Rattle.paxos_msg.specs.declared.limits.TheConstants.{PLACES}
use Rattle.paxos_msg.specs.Ballots.{IsMajority}
use Rattle.paxos_msg.specs.Batches.{Body, Vote}
use Rattle.paxos_msg.specs.Fits.{IsNode}
use Rattle.paxos_msg.specs.Keys.{Key}
use Rattle.paxos_msg.specs.Messages.{IsSaid, kept_vote_at}
use Rattle.paxos_acceptor.specs.Records.{IsVoteBacked}
use Rattle.paxos_acceptor.specs.declared.me.Me.{Me}
use Rattle.paxos_learner.specs.Learner.{AreInWindow, Learner, front_of}
use Rattle.paxos_proposer.specs.Proposer.{Proposer, next_of, proposed_at}
use Rattle.group_protocol.proofs.Elements.{first_in}
use Rattle.group_protocol.specs.Known.{Known, Response, front}
use Rattle.group_protocol.specs.Packets.{Packet, to_all}
use Rattle.group_protocol.specs.Protocol.{on_message}
use Rattle.group_protocol.specs.Tick.{accept_again, accepts_again, on_tick, prepares_again, ticked}
use Rattle.group_node.specs.Deeds as deed
use Rattle.group_node.specs.NodeCalls.{Running}
use Rattle.group_world.specs.declared.event.Act.TheVariants as act
use Rattle.group_world.specs.Event.{DoesAt}
use Rattle.group_world.specs.Group.{IsUp, World, world_state}
use Rattle.group_progress.specs.Fair.{Endless, IsFair, IsLed, Later}
use Rattle.group_world.proofs.WorldAsGroup.{changed_here, running}
use Rattle.group_progress.specs.Below.{EventLaws, TestLaws, TellLaws}
use Rattle.group_progress.proofs.Above.{none_proposed}
use Rattle.group_progress.proofs.Acceptors.{votes_for}
use Rattle.group_progress.proofs.Calm.{UpWith, made_leaves}
use Rattle.group_progress.proofs.Chasing.{proposed_in}
use Rattle.group_progress.proofs.Counting.{IsCountedBy, counts_steady}
use Rattle.group_progress.proofs.Covered.{at_more, fits_heard, known_of}
use Rattle.group_progress.proofs.Going.{Good, fits_me}
use Rattle.group_progress.proofs.Hearing.{hears_it, made_sends, sends_it}
use Rattle.group_progress.proofs.Lasting.{HasProposal, IsFirst, IsNextAbove, LeadsWith, first_lasts, leads_more, leads_of, next_lasts, proposal_lasts}
use Rattle.group_progress.proofs.Learners.{hears_accepted, learned_by}
use Rattle.group_progress.proofs.Moments.{LeadsAt, inv_at, leads_stay, may_join_at, opened, right_at}
use Rattle.group_rules.proofs.Lists.{in_from_place}
use Rattle.group_progress.proofs.Promising.{Agreed, agreed_steady, all_low, all_promise, stays, ticks_at}
use Rattle.group_progress.proofs.Runs.{AtWith, good_at, group_at}
use Rattle.group_progress.proofs.Stages.{Stays, all_later, from_then, later_then, now}
use Rattle.group_progress.proofs.Telling.{some_at}
use Rattle.group_progress.proofs.Told.{IsFar, far_steady}

-- ---- the Accept that is sent again

-- the first open place is sent again
again_first : (learned : FinMap nat_cmp Value) (p : Proposer) (s k most : ℕ) (v : Value) → get learned s ≡ None → proposed_at p s ≡ Some v
    → 0 < k
    → Contains (take (suc most) (filter_map (accept_again learned p) (range_with_len s k))) (to_all (Accept p.ballot s v))
again_first learned p s zero most v none at some = absurd (omega (arith, some))
again_first learned p s (suc k) most v none at some =
    let first : accept_again learned p s ≡ Some (to_all (Accept p.ballot s v)) = rw (none, at) refl in
    rw first (first_in _ _)

-- so a tick sends the Accept of the front
tick_accepts : (n : Known) (o : Option Proposer) (p : Proposer) (v : Value) → o ≡ Some p → get n.learner.learned (front n) ≡ None
    → proposed_at p (front n) ≡ Some v → front n < next_of p → Contains (ticked n o).sends (to_all (Accept p.ballot (front n) v))
tick_accepts n o p v is none at below =
    let again : Contains (accepts_again n.learner.learned p) (to_all (Accept p.ballot (front n) v)) =
    again_first n.learner.learned p (front n) (next_of p - front n) 15 v none at (omega (arith, below)) in
    rw is (Contains-append_left _ _ _ (Contains-append_right (prepares_again p) _ _ again))

-- what is proposed is below the next place
pub proposed_below : (p : Proposer) (s : ℕ) (v : Value) → proposed_at p s ≡ Some v → s < next_of p
proposed_below p s v at = elim (cases_lt s (next_of p)) [
  | inl below ↦ below
  | inr above ↦ let no : None ≡ Some v = sym (none_proposed p s above) ∙ at in absurd cc
]

module _ (tell : TellLaws) (laws : EventLaws) (tests : TestLaws)
    (few : (learned : FinMap nat_cmp Value) → AreInWindow learned → front_of learned ≤ PLACES)
    {members : ℕ → Bool} {leader : ℕ} {b : Ballot} {w : World} (run : Endless w) (good : Good w) (most : IsMajority w.group.size members)
    (led : IsLed members leader b run) (fair : IsFair members run) where
  -- a fact of the leading node at a moment
  abbrev Reaches : (Proposer → List Key → Type 0) → ℕ → Type 0
  Reaches P n = LeadsAt laws tests few run good most led P n

  -- the leading node's front is at this place or above it
  abbrev pub LeaderFar : ℕ → ℕ → Type 0
  LeaderFar c n = AtWith (IsFar c) (run.world (suc n)) leader

  -- which only rises
  pub leader_far_stays : (c : ℕ) → Stays (LeaderFar c)
  leader_far_stays c = stays laws tests few run good most led (IsFar c) (far_steady tell b c) leader led.own

  -- the leading node has counted the vote of node `i`, or has learned the place
  abbrev CountsAt : ℕ → Value → ℕ → ℕ → Type 0
  CountsAt s v i n = AtWith (IsCountedBy tests b s v i) (run.world (suc n)) leader

  -- which stays
  counts_stay : (s : ℕ) (v : Value) (i : ℕ) → Stays (CountsAt s v i)
  counts_stay s v i = stays laws tests few run good most led (IsCountedBy tests b s v i)
      (counts_steady tests b s v i tell.message) leader led.own

  -- the node has promised the ballot
  abbrev AgreedAt : ℕ → ℕ → Type 0
  AgreedAt i n = AtWith (Agreed laws tests few run good most led) (run.world (suc n)) i

  -- and promises nothing above it
  agreed_stays : (i : ℕ) → IsTrue (members i) → Stays (AgreedAt i)
  agreed_stays i own = stays laws tests few run good most led (Agreed laws tests few run good most led)
      (agreed_steady laws tests few run good most led) i own

  -- nodes are at most nine
  low_of : (i : ℕ) → i ≤ w.group.size → i < 10
  low_of i low = omega (arith, low, good.holds.sound.size.few)

  -- ---- one vote

  -- the leading node hears it
  vote_heard : (n i s : ℕ) (v : Value) → i ≤ w.group.size → LeaderFar s n
      → DoesAt (run.world (suc n)) leader None (deed.Hear (record { sender = i; body = Accepted b s v })) (run.done (suc n))
      (run.world (suc (suc n)))
      → Contains (world_state (run.world (suc n))).sent (record { sender = i; body = Accepted b s v })
      → CountsAt s v i (suc n)
  vote_heard n i s v low at does among =
      let (q, up, ends) = does.does in
      let is_up : IsUp (run.world (suc n)) leader does.node q = record { there = does.there; up = up } in
      let far = known_of {K = IsFar s} at does.there up in
      let said = (inv_at laws tests few run good most led (suc n)).accepted i b s v among in
      let after = hears_accepted tests q.known.learner (right_at laws tests few run good most led (suc n) is_up) b s v i (low_of i low)
      (omega (arith, far))
      (may_join_at laws tests few run good most led n is_up s v said) in
      let left = made_leaves does.node q.progress (on_message q.known i (Accepted b s v)) [] does.left ends in
      record {
        node = does.left.member;
        there = rw does.leads (changed_here (run.world (suc n)).members leader does.node does.left.member does.there);
        is_up = subst (UpWith (IsCountedBy tests b s v i)) (sym left) (record { running = _; up = refl; holds = after.0 });
      }

  -- a node of the majority votes
  votes_then : (n i s : ℕ) (v : Value) → IsNode w.group.size i → IsTrue (members i) → AgreedAt i n → LeaderFar s n
      → DoesAt (run.world (suc n)) i None (deed.Hear (record { sender = leader; body = Accept b s v })) (run.done (suc n))
      (run.world (suc (suc n)))
      → Contains (world_state (run.world (suc n))).sent (record { sender = leader; body = Accept b s v })
      → Later n (CountsAt s v i)
  votes_then n i s v node own agreed far does among =
      let (q, up, ends) = does.does in
      let sound = (good_at laws run good (suc n)).holds.sound in
      let is_up : IsUp (run.world (suc n)) i does.node q = record { there = does.there; up = up } in
      let runs = running sound is_up in
      let promised = known_of {K = Agreed laws tests few run good most led} agreed does.there up in
      let made = votes_for tests q.known leader b s v promised
      (one q.known (kept_vote_at q.known.kept.votes s) (runs.backs.kept.votes.votes s)) in
      let done : Response = on_message q.known leader (Accept b s v) in
      let fits = fits_me sound is_up
      (laws.fits_message q.known leader (Accept b s v) runs.ranges
      (fits_heard laws tests few run good most led fair n i _ is_up among)) in
      let sends = subst (λ (ps : List Packet). Contains ps (to_all (Accepted b s v))) (sym made.sends)
      (first_in (to_all (Accepted b s v)) []) in
      let (k, way) = sends_it laws tests few run good most led (suc n) i leader own does.there done
      (to_all (Accepted b s v)) fits sends tt does.left
      (made_sends does.node q.progress done does.left ends) does.leads in
      let (t, less, (heard, place)) = hears_it laws tests few run good most led fair (suc n) k leader _ led.node led.own way in
      let still = from_then (LeaderFar s) (leader_far_stays s) n t (omega (arith, less)) far in
      (suc t, omega (arith, less), vote_heard t i s v node.1 still heard (in_from_place _ k _ place)) where
        one : (k : Known) (o : Option Vote) → IfSome o (IsVoteBacked (world_state (run.world (suc n))).sent k.kept s)
            → IfSome o (λ vote. vote.ballot ≡ b → vote.value ≡ v)
        one k None h = tt
        one k (Some vote) h = λ same.
            (inv_at laws tests few run good most led (suc n)).one_value b s vote.value v
            (subst (λ d. IsSaid (world_state (run.world (suc n))).sent (Accept d s vote.value)) same h.proposed) (leader, among)

  -- the leading node ticks
  accepts_then : (n t i s : ℕ) (v : Value) → n ≤ t → IsNode w.group.size i → IsTrue (members i) → AgreedAt i n → LeaderFar s n
      → Reaches (HasProposal s v) n
      → DoesAt (run.world (suc t)) leader None deed.Tick (run.done (suc t)) (run.world (suc (suc t))) → Later n (CountsAt s v i)
  accepts_then n t i s v later node own agreed far leads does = by (cases_eq s (front does.does.0.known)) where
    q : Running
    q = does.does.0

    proposal : AtWith (LeadsWith b (HasProposal s v)) (run.world (suc t)) leader
    proposal = from_then (Reaches (HasProposal s v))
        (leads_stay laws tests few run good most led (HasProposal s v) (proposal_lasts s v)) n t later leads

    h : LeadsWith b (HasProposal s v) does.does.0.known
    h = known_of {K = LeadsWith b (HasProposal s v)} proposal does.there does.does.1

    low : s ≤ front does.does.0.known
    low = known_of {K = IsFar s} (from_then (LeaderFar s) (leader_far_stays s) n t later far) does.there does.does.1

    by : (s ≡ front does.does.0.known) ⊎ (s ≢ front does.does.0.known) → Later n (CountsAt s v i)
    by (inr other) =
        let l : Learner = does.does.0.known.learner in
        let below : s < front_of l.learned = omega (arith, low, other) in
        let (u, at) = some_at l.learned s ((tell.front l).below s below) in (
          t,
          later,
          record {
            node = does.node;
            there = does.there;
            is_up = record { running = does.does.0; up = does.does.1; holds = inl (record { value = u; at = at }) };
          },
        )
    by (inl same) =
        let (q, up, ends) = does.does in
        let sound = (good_at laws run good (suc t)).holds.sound in
        let is_up : IsUp (run.world (suc t)) leader does.node q = record { there = does.there; up = up } in
        let fits = fits_me sound is_up (laws.fits_tick q.known (running sound is_up).ranges) in
        let at : proposed_at h.proposer (front q.known) ≡ Some v = subst (λ k. proposed_at h.proposer k ≡ Some v) same h.holds in
        let none = (tell.front q.known.learner).here in
        let sends = tick_accepts q.known q.known.proposer h.proposer v h.now none at (proposed_below h.proposer (front q.known) v at) in
        let (k, way) = sends_it laws tests few run good most led (suc t) leader i led.own does.there (on_tick q.known)
        (to_all (Accept h.proposer.ballot (front q.known) v))
        fits sends tt does.left (made_sends does.node q.progress (on_tick q.known) does.left ends) does.leads in
        let (u, less, (heard, place)) = hears_it laws tests few run good most led fair (suc t) k i _ node own way in
        let onward : n ≤ u = omega (arith, later, less) in
        let still = from_then (AgreedAt i) (agreed_stays i own) n u onward agreed in
        let further = from_then (LeaderFar s) (leader_far_stays s) n u onward far in
        let body : Accept h.proposer.ballot (front q.known) v ≡ Accept b s v =
        ap (λ d. Accept d (front q.known) v) h.ballot ∙ ap (λ k. Accept b k v) (sym same) in
        let (x, more, last) = votes_then u i s v node own still further
        (subst (λ (y : Body). DoesAt (run.world (suc u)) i None (deed.Hear (record { sender = leader; body = y })) (run.done (suc u))
        (run.world (suc (suc u)))) body heard)
        (subst (λ (y : Body). Contains (world_state (run.world (suc u))).sent (record { sender = leader; body = y })) body
        (in_from_place _ k _ place)) in
        (x, omega (arith, onward, more), last)

  -- there is a tick
  counts_once : (n i s : ℕ) (v : Value) → IsNode w.group.size i → IsTrue (members i) → AgreedAt i n → LeaderFar s n
      → Reaches (HasProposal s v) n
      → Later n (CountsAt s v i)
  counts_once n i s v node own agreed far leads = by (fair.ticks (suc n) leader led.node led.own) where
    by : Later (suc n) (λ t. (run.event t).act ≡ act.Tick leader) → Later n (CountsAt s v i)
    by (zero, less, acts) = absurd (omega (arith, less))
    by (suc t, less, acts) = accepts_then n t i s v (omega (arith, less)) node own agreed far leads
        (ticks_at laws tests few run good most led t leader led.own acts)

  -- ---- all votes

  -- all nodes of the majority have promised it
  abbrev AllAgreed : ℕ → Type 0
  AllAgreed n = (i : ℕ) → 0 < i → i ≤ w.group.size → IsTrue (members i) → AgreedAt i n

  -- from some moment on
  agreed_later : (n : ℕ) → Later n AllAgreed
  agreed_later n =
      let (t, less, all) = all_promise laws tests few run good most led fair in
      (n + t, omega arith, λ i some low own. from_then (AgreedAt i) (agreed_stays i own) t (n + t) (omega arith) (all i some low own))

  -- a place that all nodes of the majority have voted for is learned
  passes : (n s : ℕ) (v : Value) → LeaderFar s n →
      ((i : ℕ) → 0 < i → i ≤ w.group.size → IsTrue (members i) → IsTrue (members i) → CountsAt s v i n) → LeaderFar (suc s) n
  passes n s v far all =
      let q : Running = far.is_up.running in
      let is_up : IsUp (run.world (suc n)) leader far.node q = record { there = far.there; up = far.is_up.up } in
      let runs = running (good_at laws run good (suc n)).holds.sound is_up in
      let l : Learner = q.known.learner in
      let size : l.size ≡ w.group.size = runs.ranges.learner.size ∙ ap (λ (me : Me). me.group.size) runs.me_is ∙ ap (λ (g : Group). g.size)
      (group_at run (suc n)) in
      let learned = learned_by tests l (right_at laws tests few run good most led (suc n) is_up) members (rw size most) b s v
      (λ i some below own. known_of {K = IsCountedBy tests b s v i}
      (all i some (omega (arith, below, size)) own own) far.there far.is_up.up) in
      let low : s ≤ front_of l.learned = far.is_up.holds in
      record {
        node = far.node;
        there = far.there;
        is_up = record {
          running = q;
          up = far.is_up.up;
          holds = elim (cases_eq (front_of l.learned) s) [
            | inl same ↦ let no : Some learned.value ≡ None = sym learned.at ∙ subst (λ k. get l.learned k ≡ None) same
                (tell.front l).here in absurd cc
            | inr other ↦ omega (arith, low, other)
          ];
        };
      }

  -- and all vote for what is proposed
  learned_later : (n s : ℕ) (v : Value) → LeaderFar s n → Reaches (HasProposal s v) n → Later n (LeaderFar (suc s))
  learned_later n s v far leads = later_then n (agreed_later n) (λ t less agreed.
      let far_on = from_then (LeaderFar s) (leader_far_stays s) n t less far in
      let on = from_then (Reaches (HasProposal s v))
      (leads_stay laws tests few run good most led (HasProposal s v) (proposal_lasts s v)) n t less leads in
      later_then t (all_later members (λ i u. IsTrue (members i) → CountsAt s v i u)
      (λ i u at own. counts_stay s v i u (at own)) t w.group.size
      (λ i some low own. later_then t (counts_once t i s v (some, low) own (agreed i some low own) far_on on)
      (λ u more at. now u (λ mine. at))))
      (λ u more all. now u (passes u s v (from_then (LeaderFar s) (leader_far_stays s) t u more far_on) all)))

  -- ---- all that is proposed

  -- the leading node has a proposal at the place, or has learned all up to it
  reached : (n c : ℕ) → Reaches (IsNextAbove (suc c)) n → LeaderFar c n → Later n (LeaderFar (suc c))
  reached n c leads far = elim (cases_lt c (opened laws tests few run good most led).from) [
    | inl below ↦ now n (at_more (λ k h. omega (arith, h, below)) (opening n))
    | inr own ↦
        let h = leads.is_up.holds in
        let first : h.proposer.first ≡ (opened laws tests few run good most led).from =
        leads_of (known_of (first_at n) leads.there leads.is_up.up) h.now in
        let (u, at) = proposed_in h.proposer c (omega (arith, first, own)) h.holds in
        learned_later n c u far (record {
          node = leads.node;
          there = leads.there;
          is_up = record {
            running = leads.is_up.running;
            up = leads.is_up.up;
            holds = record { proposer = h.proposer; now = h.now; ballot = h.ballot; promised = h.promised; holds = at };
          };
        })
  ] where
    opening : (n : ℕ) → LeaderFar (opened laws tests few run good most led).from n
    opening n = from_then (LeaderFar (opened laws tests few run good most led).from) (leader_far_stays _) 0 n (omega arith)
        (opened laws tests few run good most led).far

    first_at : (n : ℕ) → Reaches (IsFirst (opened laws tests few run good most led).from) n
    first_at n =
        from_then (Reaches (IsFirst (opened laws tests few run good most led).from))
        (leads_stay laws tests few run good most led (IsFirst (opened laws tests few run good most led).from) (first_lasts _)) 0 n
        (omega arith) (opened laws tests few run good most led).first

  -- the leading node learns all that it has proposed
  pub front_reaches : (c n : ℕ) → Reaches (IsNextAbove c) n → Later n (LeaderFar c)
  front_reaches zero n leads = now n (at_more (λ k h. omega arith) (all_low laws tests few run good most led n leader led.node led.own))
  front_reaches (suc c) n leads =
      later_then n (front_reaches c n (at_more (leads_more (λ p ks h. omega (arith, h))) leads)) (λ t less far.
      reached t c (from_then (Reaches (IsNextAbove (suc c)))
      (leads_stay laws tests few run good most led (IsNextAbove (suc c)) (next_lasts (suc c))) n t less leads) far)
