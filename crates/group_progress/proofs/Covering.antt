-- All nodes promise the ballot, for all places.
use Rattle.std.proofs.Common.{nat_le, slice_index, length-append, ◌≡◌, ◌≢◌, ◌∙◌, ◌⊎◌, inl, inr, ℕ, zero, suc, ◌+◌, ◌*◌, ◌<◌, ◌≤◌, nat_lt, IsTrue, Contains, List, [], ◌++◌, length, slice_get, take, Some, None, IfSome, refl, sym, ap, subst, arith, true, ◌&&◌}
use Rattle.std.proofs.lemmas.Bool.{and_from, cases_eq, cases_lt, cond-true, lt-ltb}
use Rattle.paxos_msg.specs.declared.limits.TheConstants.{MOST_VOTES, PLACES}
use Rattle.paxos_msg.specs.declared.ballot.Ballot.{Ballot}
use Rattle.paxos_msg.specs.declared.message.Group.{Group}
use Rattle.paxos_msg.specs.declared.message.Body.TheVariants.{Accept, Prepare, Promise}
use Rattle.paxos_msg.specs.declared.value.Value.{Value}
use Rattle.paxos_msg.specs.Ballots.{IsAtMost}
use Rattle.paxos_msg.specs.Batches.{Body, Msg, Record, Sent, Vote}
use Rattle.paxos_msg.specs.Keys.{Key}
use Rattle.paxos_msg.specs.Places.{votes_from}
use Rattle.paxos_msg.specs.Tests.{same_ballot}
use Rattle.paxos_acceptor.specs.Answers.{part_of, upto_of}
use Rattle.paxos_learner.specs.Learner.{Learner, front_of}
use Rattle.paxos_proposer.specs.declared.proposer.TheConstants.{MOST_PUMPED}
use Rattle.paxos_proposer.specs.Proposer.{Proposer, asks_on, coverage_of, next_of, proposer_after_part, rises}
use Rattle.group_protocol.proofs.Elements.{first_in}
use Rattle.group_protocol.specs.AcceptorResponses.{unless_passed}
use Rattle.group_protocol.specs.Known.{Known, Response, quiet}
use Rattle.group_protocol.specs.Packets.{bodies_of, to_one}
use Rattle.group_protocol.specs.Protocol.{on_message}
use Rattle.group_protocol.specs.ProposerResponses.{prepare_from, proposing_on, taking_part}
use Rattle.group_protocol.specs.Pump.{accepts_of, pump}
use Rattle.group_protocol.specs.Ranges.{IsOwnProposer}
use Rattle.group_protocol.specs.Steps.{messages_handed_out}
use Rattle.group_world.specs.Group.{World, world_state}
use Rattle.group_progress.specs.GoingOn.{ReachesWithin}
use Rattle.group_world.proofs.WorldAsGroup.{running}
use Rattle.group_progress.specs.Below.{TestLaws, LeadLaws}
use Rattle.group_progress.proofs.Acceptors.{promises}
use Rattle.group_progress.proofs.Common.{IsOf, Setting, in_messages, old_or_new, one_known}
use Rattle.group_progress.proofs.Going.{Good}
use Rattle.group_progress.proofs.Within.{stay, then, within}
use Rattle.group_progress.proofs.KeysKept.{Shrinks, shrink_after}
use Rattle.group_progress.proofs.Learning.{Lead, lead_kept, not_passed}
use Rattle.group_progress.proofs.Proposers.{AreBelow, below_filter, below_take, reaches, reaches_many, reaches_votes, rises_on, takes}
use Rattle.group_progress.proofs.Pumps.{pumps}
use Rattle.group_progress.proofs.Steps.{Has, New, Step, each_within, hears, new_in, new_stays, still, turn_more}
use Rattle.group_progress.proofs.Telling.{in_bodies}

-- a node that may promise the ballot, with votes below a place
pub record Ready (x : Setting) (top : ℕ) (w : World) (i : ℕ) : Type 0 where
  pub known : Known
  pub has : Has w i known
  pub promised : IfSome known.kept.promised (λ p. IsAtMost p x.ballot)
  pub votes : AreBelow top known.kept.votes
  pub keys : Shrinks (x.keys i) known

-- what holds while the nodes promise
pub record Pre (x : Setting) (top : ℕ) (w : World) : Type 0 where
  pub good : Good w
  pub group : w.group ≡ x.group
  pub late : x.count ≤ length (world_state w).sent
  pub fresh : (k i s : ℕ) (v : Value) → slice_get (world_state w).sent k ≡ Some (record { sender = i; body = Accept x.ballot s v }) →
      x.count ≤ k
  pub ready : (i : ℕ) → IsOf x i → Ready x top w i

module _ (x : Setting) (top : ℕ) {w v : World} {i : ℕ} {done : Response} (c : Pre x top w) (step : Step w i done v) where
  fresh_after : (k j s : ℕ) (u : Value) → slice_get (world_state v).sent k ≡ Some (record { sender = j; body = Accept x.ballot s u }) →
      x.count ≤ k
  fresh_after k j s u e =
      elim (old_or_new (world_state w).sent (messages_handed_out i done.sends) k _ (rw step.sent at e)) [
        | inl old ↦ c.fresh k j s u old
        | inr new ↦ omega (arith, c.late, new)
      ]

  pre_after : IfSome done.node.kept.promised (λ p. IsAtMost p x.ballot) → AreBelow top done.node.kept.votes → Shrinks (x.keys i)
      done.node → Pre x top v
  pre_after promised votes keys = record {
    good = step.good;
    group = step.group ∙ c.group;
    late = omega (
      arith,
      c.late,
      ap (λ (sent : Sent). length sent) step.sent ∙ length-append (world_state w).sent
          (messages_handed_out i done.sends),
    );
    fresh = fresh_after;
    ready = λ j of. by j of (cases_eq j i);
  } where
    by : (j : ℕ) → IsOf x j → (j ≡ i) ⊎ (j ≢ i) → Ready x top v j
    by j of (inl same) = rw same (record { known = done.node; has = step.now; promised = promised; votes = votes; keys = keys })
    by j of (inr other) =
        let f = c.ready j of in
        record { known = f.known; has = still step j other f.has; promised = f.promised; votes = f.votes; keys = f.keys }

  pre_still : {m : Msg} → New x.count (world_state w).sent m → New x.count (world_state v).sent m
  pre_still new = rw step.sent (new_stays (messages_handed_out i done.sends) new)

  pre_sends : (body : Body) → Contains (bodies_of done.sends) body → New x.count (world_state v).sent (record { sender = i; body = body })
  pre_sends body among = rw step.sent (new_in (world_state w).sent _ _ c.late (in_messages i (bodies_of done.sends) body among))

-- ---- a part of a promise at the leading node

-- the node takes the part, asks on, and pumps
pub record TakesPart (n : Known) (p : Proposer) (i upto top : ℕ) (done : Response) : Type 0 where
  pub proposer : Proposer
  pub now : done.node.proposer ≡ Some proposer
  pub ballot : proposer.ballot ≡ p.ballot
  pub first : proposer.first ≡ p.first
  pub covers : coverage_of proposer i ≡ upto
  pub others : (j : ℕ) → j ≢ i → coverage_of proposer j ≡ coverage_of p j
  pub nodes : length proposer.coverages ≡ length p.coverages
  pub kept : AreBelow top proposer.kept
  pub within : next_of p ≤ top → next_of proposer ≤ top
  pub learner : done.node.learner ≡ n.learner
  pub offered : done.node.offered ≡ n.offered
  pub record_is : done.node.kept ≡ n.kept
  pub asks : upto < PLACES → Contains done.sends (to_one i (Prepare p.ballot upto))

asks_so : (p : Proposer) (j first upto : ℕ) → rises p j first upto ≡ true → upto < PLACES → asks_on p j first upto ≡ Some upto
asks_so p j first upto rise less =
    let room = lt-ltb upto PLACES less in
    let both : (rises p j first upto && nat_lt upto PLACES) ≡ true = and_from _ _ rise room in
    cond-true (rises p j first upto && nat_lt upto PLACES) (Some upto) None both

takes_by : TestLaws → (n : Known) (p : Proposer) (i first upto top : ℕ) (votes : List Vote) → coverage_of p i ≡ first → first < upto
    → i < length p.coverages → AreBelow top p.kept → AreBelow top votes
    → TakesPart n p i upto top (taking_part n (Some p) i p.ballot first upto votes)
takes_by tests n p i first upto top votes at less node kept below =
    let taken = takes p i first upto top votes at less node kept below in
    let q : Proposer = proposer_after_part p i first upto votes in
    let pumped = pumps MOST_PUMPED top q taken.kept in
    let last : Proposer = (pump MOST_PUMPED q).proposer in
    let same : same_ballot p.ballot p.ballot ≡ true = (tests.same p.ballot p.ballot).1 refl in
    let rise = rises_on p i first upto at less in
    let done : Response = proposing_on n (prepare_from p.ballot i (asks_on p i first upto)) (pump MOST_PUMPED q) in
    let is : taking_part n (Some p) i p.ballot first upto votes ≡ done = cond-true (same_ballot p.ballot p.ballot) done (quiet n) same in
    subst (TakesPart n p i upto top) (sym is) (record {
      proposer = last;
      now = refl;
      ballot = pumped.ballot ∙ taken.ballot;
      first = pumped.first ∙ taken.first;
      covers = ap (λ cs. slice_index cs i) pumped.coverages ∙ taken.covers;
      others = λ j other. ap (λ cs. slice_index cs j) pumped.coverages ∙ taken.others j other;
      nodes = ap (λ (cs : List ℕ). length cs) pumped.coverages ∙ taken.nodes;
      kept = pumped.kept;
      within = λ h. pumped.within (omega (arith, h, taken.next));
      learner = refl;
      offered = refl;
      record_is = refl;
      asks = λ room.
          subst (λ o. Contains (prepare_from p.ballot i o ++ accepts_of (pump MOST_PUMPED q).made) (to_one i (Prepare p.ballot upto)))
          (sym (asks_so p i first upto rise room)) (first_in (to_one i (Prepare p.ballot upto)) (accepts_of (pump MOST_PUMPED q).made));
    })

pub takes_part : TestLaws → (n : Known) (p : Proposer) (i : ℕ) (b : Ballot) (first upto top : ℕ) (votes : List Vote) → n.proposer ≡
    Some p → p.ballot ≡ b
    → coverage_of p i ≡ first → first < upto → i < length p.coverages → AreBelow top p.kept → AreBelow top votes
    → TakesPart n p i upto top (on_message n i (Promise b first upto votes))
takes_part tests n p i b first upto top votes e ballot at less node kept below =
    let t = subst (λ c. TakesPart n p i upto top (taking_part n (Some p) i c first upto votes)) ballot
    (takes_by tests n p i first upto top votes at less node kept below) in
    let u = subst (λ o. TakesPart n p i upto top (taking_part n o i b first upto votes)) (sym e) t in
    record {
      proposer = u.proposer;
      now = u.now;
      ballot = u.ballot;
      first = u.first;
      covers = u.covers;
      others = u.others;
      nodes = u.nodes;
      kept = u.kept;
      within = u.within;
      learner = u.learner;
      offered = u.offered;
      record_is = u.record_is;
      asks = u.asks;
    }

-- ---- one node after the other

-- node `i` has promised the ballot itself
pub record Promised (x : Setting) (w : World) (i : ℕ) : Type 0 where
  pub known : Known
  pub has : Has w i known
  pub promised : known.kept.promised ≡ Some x.ballot

promised_still : (x : Setting) {w v : World} {i : ℕ} {done : Response} → Step w i done v → (j : ℕ) → j ≢ i → Promised x w j → Promised x v j
promised_still x step j other h = record { known = h.known; has = still step j other h.has; promised = h.promised }

-- the leading node's proposer while it hears promises
pub record Cov (x : Setting) (top : ℕ) (w : World) (p : Proposer) (l : Learner) (offered : List Key) : Type 0 where
  pub pre : Pre x top w
  pub lead : Lead x w p l offered
  pub nodes : length p.coverages ≡ 10
  pub kept : AreBelow top p.kept
  pub next : next_of p ≤ top
  pub first : p.first ≡ front_of l.learned

abbrev pub AskNew : Setting → World → ℕ → Type 0
AskNew x w from = New x.count (world_state w).sent (record { sender = x.leader; body = Prepare x.ballot from })

module _ (laws : LeadLaws) (x : Setting) (top : ℕ) (leader : IsOf x x.leader) (l : Learner) (offered : List Key) where
  reach_of : {w : World} {p : Proposer} → Cov x top w p l offered → (i : ℕ) → coverage_of p i ≤ PLACES
  reach_of {w} {p} v i =
      let sound = running v.pre.good.holds.sound (record { there = v.lead.has.there; up = v.lead.has.up }) in
      let own : IsOwnProposer v.lead.known.me p = subst (λ o. IfSome o (IsOwnProposer v.lead.known.me)) v.lead.proposer
      sound.ranges.proposer in
      own.ranges.reach.upto i

  -- what one part leaves for the other nodes
  record Others (w v : World) (i : ℕ) (p q : Proposer) : Type 0 where
    pub coverages : (j : ℕ) → j ≢ i → coverage_of q j ≡ coverage_of p j
    pub asks : (from : ℕ) → AskNew x w from → AskNew x v from
    pub promised : (j : ℕ) → j ≢ i → j ≢ x.leader → Promised x w j → Promised x v j

  -- a world in which node `i` has promised up to this place, from another world
  record Part (w : World) (p : Proposer) (i from : ℕ) (v : World) : Type 0 where
    pub proposer : Proposer
    pub cov : Cov x top v proposer l offered
    pub upto : ℕ
    pub at : coverage_of proposer i ≡ upto
    pub above : from < upto
    pub low : upto < PLACES → upto ≤ top
    pub many : upto < PLACES → from + MOST_VOTES ≤ upto
    pub ask : upto < PLACES → AskNew x v upto
    pub others : Others w v i p proposer
    pub promised : i ≢ x.leader → Promised x v i

  cover_once : (i : ℕ) → IsOf x i → (w : World) (p : Proposer) (from : ℕ) → Cov x top w p l offered → coverage_of p i ≡ from → from < PLACES
      → AskNew x w from → ReachesWithin 0 2 x.members x.count w (Part w p i from)
  cover_once i here w p from v at room new =
      let g = v.pre.ready i here in
      let n : Known = g.known in
      let ranges = (running v.pre.good.holds.sound (record { there = g.has.there; up = g.has.up })).ranges in
      let answer = promises laws.tests n x.leader x.ballot from g.promised in
      let vs : List Vote = votes_from from n.kept.votes in
      let upto : ℕ = upto_of vs in
      let part : Body = part_of n.kept x.ballot from in
      within (then (hears laws.events v.pre.good i here.own g.has new (λ y s. s)) (λ v1 s1.
      let pre1 = pre_after x top v.pre s1 (subst (λ o. IfSome o (λ p. IsAtMost p x.ballot)) (sym answer.promised) (inr (refl, omega arith)))
      (subst (AreBelow top) (sym answer.votes) g.votes) (shrink_after laws.keys n x.leader (Prepare x.ballot from) g.keys) in
      let lead1 = lead_kept x s1 v.lead (λ is.
      let same : n ≡ v.lead.known = one_known g.has (subst (λ j. Has w j v.lead.known) (sym is) v.lead.has) in (
        answer.proposer ∙ ap (λ (k : Known). unless_passed (Some x.ballot) k.proposer) same ∙ ap (unless_passed (Some x.ballot))
            v.lead.proposer ∙ not_passed laws.tests x.ballot p v.lead.ballot,
        answer.rest.learner ∙ ap (λ (k : Known). k.learner) same ∙ v.lead.learner,
        answer.rest.offered ∙ ap (λ (k : Known). k.offered) same ∙ v.lead.offers,
      )) in
      let new_part = pre_sends x top v.pre s1 part (subst (λ ps. Contains (bodies_of ps) part) (sym answer.sends) (first_in part [])) in
      then (hears laws.events pre1.good x.leader leader.own lead1.has new_part (λ y s. s)) (λ v2 s2.
      let k1 : Known = lead1.known in
      let few : i < length p.coverages = omega (
        arith,
        here.below,
        v.nodes,
        v.pre.good.holds.sound.size.few,
        ap (λ (g : Group). g.size) v.pre.group,
      ) in
      let t = takes_part laws.tests k1 p i x.ballot from upto top (take MOST_VOTES vs) lead1.proposer v.lead.ballot at
      (reaches from n.kept.votes room) few v.kept
      (below_take top MOST_VOTES vs (below_filter top (λ vote. nat_le from vote.place) n.kept.votes g.votes)) in
      let lf = pre1.ready x.leader leader in
      let same : lf.known ≡ k1 = one_known lf.has lead1.has in
      let pre2 = pre_after x top pre1 s2
      (subst (λ (r : Record). IfSome r.promised (λ p. IsAtMost p x.ballot)) (sym t.record_is)
      (subst (λ (k : Known). IfSome k.kept.promised (λ p. IsAtMost p x.ballot)) same lf.promised))
      (subst (λ (r : Record). AreBelow top r.votes) (sym t.record_is) (subst (λ (k : Known). AreBelow top k.kept.votes) same lf.votes))
      (shrink_after laws.keys k1 i part (subst (λ (k : Known). Shrinks (x.keys x.leader) k) same lf.keys)) in
      let lead2 : Lead x v2 t.proposer l offered = record {
        known = (on_message k1 i part).node;
        has = s2.now;
        proposer = t.now;
        ballot = t.ballot ∙ v.lead.ballot;
        learner = t.learner ∙ lead1.learner;
        offers = t.offered ∙ lead1.offers;
      } in
      stay (record {
        proposer = t.proposer;
        cov = record {
          pre = pre2;
          lead = lead2;
          nodes = t.nodes ∙ v.nodes;
          kept = t.kept;
          next = t.within v.next;
          first = t.first ∙ v.first;
        };
        upto = upto;
        at = t.covers;
        above = reaches from n.kept.votes room;
        low = reaches_votes from top n.kept.votes g.votes;
        many = reaches_many from n.me.group.size n.kept.promised n.kept.votes ranges.kept.kept;
        ask = λ less. pre_sends x top pre1 s2 (Prepare x.ballot upto)
            (subst (λ b. Contains (bodies_of (on_message k1 i part).sends) (Prepare b upto)) v.lead.ballot
            (in_bodies _ (to_one i (Prepare p.ballot upto)) (t.asks less)));
        others = record {
          coverages = t.others;
          asks = λ q ask. pre_still x top pre1 s2 (pre_still x top v.pre s1 ask);
          promised = λ j other not_leader h. promised_still x s2 j not_leader (promised_still x s1 j other h);
        };
        promised = λ apart. promised_still x s2 i apart (record
            { known = (on_message n x.leader (Prepare x.ballot from)).node; has = s1.now; promised = answer.promised });
      })))) (omega arith) (omega arith)

  -- node `i` promises all places
  record Whole (w : World) (p : Proposer) (i : ℕ) (v : World) : Type 0 where
    pub proposer : Proposer
    pub cov : Cov x top v proposer l offered
    pub at : coverage_of proposer i ≡ PLACES
    pub others : Others w v i p proposer
    pub promised : i ≢ x.leader → Promised x v i

  then_others : {w v y : World} {i : ℕ} {p q r : Proposer} → Others w v i p q → Others v y i q r → Others w y i p r
  then_others a b = record {
    coverages = λ j other. b.coverages j other ∙ a.coverages j other;
    asks = λ from new. b.asks from (a.asks from new);
    promised = λ j other not_leader h. b.promised j other not_leader (a.promised j other not_leader h);
  }

  cover_node : (i : ℕ) → IsOf x i → (fuel : ℕ) (w : World) (p : Proposer) (from : ℕ) → Cov x top w p l offered → coverage_of p i ≡ from
      → from < PLACES
      → from ≤ top → AskNew x w from → top < from + fuel * MOST_VOTES → ReachesWithin 0 (fuel * 2) x.members x.count w (Whole w p i)
  cover_node i here zero w p from v at room low new near = absurd (omega (arith, low, near))
  cover_node i here (suc fuel) w p from v at room low new near = by (cover_node i here fuel) where
    by : ((w : World) (p : Proposer) (from : ℕ) → Cov x top w p l offered → coverage_of p i ≡ from → from < PLACES → from ≤ top → AskNew x w
        from → top < from + fuel * MOST_VOTES
        → ReachesWithin 0 (fuel * 2) x.members x.count w (Whole w p i))
        → ReachesWithin 0 (suc fuel * 2) x.members x.count w (Whole w p i)
    by again =
        within (then {c = 0} {d = fuel * 2} (cover_once i here w p from v at room new) (λ v1 part. elim (cases_lt part.upto PLACES) [
          | inl less ↦
              within (then (again v1 part.proposer part.upto part.cov part.at less (part.low less) (part.ask less) (omega (
                arith,
                near,
                part.many less,
              ))) (λ v2 whole.
              stay (record {
                proposer = whole.proposer;
                cov = whole.cov;
                at = whole.at;
                others = then_others part.others whole.others;
                promised = whole.promised;
              }))) (omega arith) (omega arith)
          | inr all ↦
              let reach = reach_of part.cov i in
              within (stay (record {
                proposer = part.proposer;
                cov = part.cov;
                at = omega (arith, all, reach, part.at);
                others = part.others;
                promised = part.promised;
              })) (omega arith) (omega arith)
        ])) (omega arith) (omega (arith, turn_more fuel 2))

  -- all nodes
  record Upto (from k : ℕ) (v : World) : Type 0 where
    pub proposer : Proposer
    pub cov : Cov x top v proposer l offered
    pub done : (j : ℕ) → IsOf x j → j ≤ k → coverage_of proposer j ≡ PLACES
    pub ahead : (j : ℕ) → k < j → j < 10 → coverage_of proposer j ≡ from
    pub ask : AskNew x v from

  cover_next : (from parts : ℕ) → from < PLACES → from ≤ top → top < from + parts * MOST_VOTES → (k : ℕ) (w : World) → suc k ≤ x.group.size
      → IsTrue (x.members (suc k)) → Upto from k w
      → ReachesWithin 0 (parts * 2) x.members x.count w (λ v. Upto from (suc k) v × (suc k ≢ x.leader → Promised x v (suc k))
      × ((j : ℕ) → j ≢ suc k → (j ≢ x.leader → Promised x w j) → j ≢ x.leader → Promised x v j))
  cover_next from parts room within_top short k w low own u =
      let here : IsOf x (suc k) = record { some = omega arith; below = low; own = own } in
      let few : suc k < 10 = omega (arith, low, u.cov.pre.good.holds.sound.size.few, ap (λ (g : Group). g.size) u.cov.pre.group) in
      within (then (cover_node (suc k) here parts w u.proposer from u.cov (u.ahead (suc k) (omega arith) few) room within_top u.ask short)
      (λ v whole.
      let done : (j : ℕ) → IsOf x j → j ≤ suc k → (j ≡ suc k) ⊎ (j ≢ suc k) → coverage_of whole.proposer j ≡ PLACES = λ j of below
      cases. elim cases [
        | inl is ↦ subst (λ i. coverage_of whole.proposer i ≡ PLACES) (sym is) whole.at
        | inr other ↦ whole.others.coverages j other ∙ u.done j of (omega (arith, below, other))
      ] in
      stay (
        record {
          proposer = whole.proposer;
          cov = whole.cov;
          done = λ j of below. done j of below (cases_eq j (suc k));
          ahead = λ j above small. whole.others.coverages j (λ is. absurd (omega (arith, above, is))) ∙ u.ahead j (omega (
            arith,
            above,
          )) small;
          ask = whole.others.asks from u.ask;
        },
        whole.promised,
        λ j other old not_leader. whole.others.promised j other not_leader (old not_leader),
      ))) (omega arith) (omega arith)

  skip_node : (from k : ℕ) (w : World) → ¬ IsTrue (x.members (suc k)) → Upto from k w → Upto from (suc k) w
  skip_node from k w none u = record {
    proposer = u.proposer;
    cov = u.cov;
    done = λ j of below. u.done j of (by j of below (cases_eq j (suc k)));
    ahead = λ j above small. u.ahead j (omega (arith, above)) small;
    ask = u.ask;
  } where
    by : (j : ℕ) → IsOf x j → j ≤ suc k → (j ≡ suc k) ⊎ (j ≢ suc k) → j ≤ k
    by j of below (inl is) = absurd (none (subst (λ i. IsTrue (x.members i)) is of.own))
    by j of below (inr other) = omega (arith, below, other)

  pub record Covered (v : World) : Type 0 where
    pub proposer : Proposer
    pub cov : Cov x top v proposer l offered
    pub covers : (i : ℕ) → IsOf x i → coverage_of proposer i ≡ PLACES
    pub promised : (i : ℕ) → IsOf x i → i ≢ x.leader → Promised x v i

  pub cover_all : (w : World) (p : Proposer) (from parts : ℕ) → top < from + parts * MOST_VOTES → from ≤ top → Cov x top w p l offered
      → ((i : ℕ) → i < 10 → coverage_of p i ≡ from) → from < PLACES → AskNew x w from
      → ReachesWithin 0 (x.group.size * (parts * 2)) x.members x.count w Covered
  cover_all w p from parts short low v at room new =
      let start : Upto from 0 w = record {
        proposer = p;
        cov = v;
        done = λ j of below. absurd (omega (arith, of.some, below));
        ahead = λ j above small. at j small;
        ask = new;
      } in
      within (then (each_within x.group.size 0 (parts * 2) (Upto from) (λ i v. i ≢ x.leader → Promised x v i) (skip_node from)
      (cover_next from parts room low short) w start)
      (λ v all.
      let u = all.0 in
      stay (record {
        proposer = u.proposer;
        cov = u.cov;
        covers = λ i of. u.done i of of.below;
        promised = λ i of apart. all.1 i of.some of.below of.own apart;
      }))) (omega arith) (omega arith)
