-- The node with the greatest promise campaigns, and all that waits is read.
use Rattle.std.proofs.Common.{length-append, ◌≡◌, ◌≢◌, ◌∙◌, ◌⊎◌, inl, inr, ℕ, zero, suc, ◌+◌, ◌-◌, ◌*◌, ◌/◌, ◌<◌, ◌≤◌, Bool, IsTrue, Contains, List, [], length, slice_get, Option, Some, None, IfSome, IsSomeAnd, refl, sym, ap, subst, arith, false, true}
use Rattle.std.proofs.lemmas.Bool.{both_ways, cases_eq, cases_lt, cases_Bool}
use Rattle.std.proofs.lemmas.List.{get_or-replicate, length-replicate}
use Rattle.paxos_msg.specs.declared.limits.TheConstants.{LAST_ROUND, MOST_VOTES, PLACES}
use Rattle.paxos_msg.specs.declared.ballot.Ballot.{Ballot}
use Rattle.paxos_msg.specs.declared.message.Group.{Group}
use Rattle.paxos_msg.specs.declared.message.Body.TheVariants.{Accept, Prepare}
use Rattle.paxos_msg.specs.declared.value.Value.{Value}
use Rattle.paxos_msg.specs.Ballots.{IsAtMost, IsMajority}
use Rattle.paxos_msg.specs.Batches.{Record, Sent, Vote}
use Rattle.paxos_msg.specs.Keys.{Key}
use Rattle.paxos_msg.specs.Messages.{kept_vote_at}
use Rattle.paxos_msg.proofs.Agreement.{invariant_of}
use Rattle.paxos_msg.proofs.CountingNodes.{majorities_meet}
use Rattle.paxos_proposer.specs.Proposer.{Proposer, new_proposer, round_of}
use Rattle.group_protocol.proofs.Elements.{first_in}
use Rattle.group_protocol.specs.Known.{Known, front}
use Rattle.group_protocol.specs.Packets.{bodies_of}
use Rattle.group_protocol.specs.ProposerResponses.{last_round, next_ballot, on_campaign}
use Rattle.group_protocol.specs.Steps.{messages_handed_out}
use Rattle.group_protocol.specs.WaitingKeys.{waiting_keys}
use Rattle.group_world.specs.Group.{World, member_at, seat_of_member, world_state}
use Rattle.group_progress.specs.GoingOn.{HasRoundAbove, ReachesWithin, messages_of_batch, most_batches, ticks_of_batch}
use Rattle.group_world.proofs.WorldAsGroup.{running}
use Rattle.group_progress.specs.Below.{LearnLaws, BatchLaws}
use Rattle.group_progress.proofs.Common.{IsOf, Setting, in_messages, old_or_new}
use Rattle.group_progress.proofs.Covering.{AskNew, Cov, Pre, Ready, cover_all}
use Rattle.group_progress.proofs.CountedKeys.{keys_to}
use Rattle.group_progress.proofs.Draining.{drain_all}
use Rattle.group_progress.proofs.Going.{Good, by_rules}
use Rattle.group_progress.proofs.Fronts.{ahead_on, then_on}
use Rattle.group_progress.proofs.Within.{stay, then, within}
use Rattle.group_progress.proofs.KeysKept.{Shrinks}
use Rattle.group_progress.proofs.Learners.{count_within, none_counted}
use Rattle.group_progress.proofs.Learning.{Lead}
use Rattle.group_rules.proofs.Lists.{in_from_place}
use Rattle.group_progress.proofs.Proposers.{AreBelow, found_below}
use Rattle.group_progress.proofs.Reading.{HasKey}
use Rattle.group_progress.proofs.Settling.{settle}
use Rattle.group_progress.proofs.Steps.{Has, campaigns, new_in, still}
use Rattle.group_progress.proofs.Telling.{Ahead, some_at}

-- ---- the greatest of some numbers

greatest : (members : ℕ → Bool) (f : ℕ → ℕ) (k : ℕ)
    → ((l : ℕ) × (0 < l) × (l ≤ k) × IsTrue (members l) × ((i : ℕ) → 0 < i → i ≤ k → IsTrue (members i) → f i ≤ f l))
    ⊎ ((i : ℕ) → 0 < i → i ≤ k → ¬ IsTrue (members i))
greatest members f zero = inr (λ i some low own. omega (arith, some, low))
greatest members f (suc k) = by (greatest members f k) (cases_Bool (members (suc k))) where
  by : ((l : ℕ) × (0 < l) × (l ≤ k) × IsTrue (members l) × ((i : ℕ) → 0 < i → i ≤ k → IsTrue (members i) → f i ≤ f l))
      ⊎ ((i : ℕ) → 0 < i → i ≤ k → ¬ IsTrue (members i))
      → (members (suc k) ≡ true) ⊎ (members (suc k) ≡ false)
      → ((l : ℕ) × (0 < l) × (l ≤ suc k) × IsTrue (members l) × ((i : ℕ) → 0 < i → i ≤ suc k → IsTrue (members i) → f i ≤ f l))
      ⊎ ((i : ℕ) → 0 < i → i ≤ suc k → ¬ IsTrue (members i))
  by (inr none) (inr not) = inr (λ i some low own. elim (cases_eq i (suc k)) [
    | inl is ↦ both_ways (members (suc k)) not (subst (λ j. IsTrue (members j)) is own)
    | inr other ↦ none i some (omega (arith, low, other)) own
  ])
  by (inr none) (inl here) = inl (
    suc k,
    omega arith,
    omega arith,
    here,
    λ i some low own. elim (cases_eq i (suc k)) [
      | inl is ↦ omega (arith, ap f is)
      | inr other ↦ absurd (none i some (omega (arith, low, other)) own)
    ],
  )
  by (inl (l, some_l, low_l, own_l, all)) (inr not) = inl (
    l,
    some_l,
    omega (arith, low_l),
    own_l,
    λ i some low own. elim (cases_eq i (suc k)) [
      | inl is ↦ absurd (both_ways (members (suc k)) not (subst (λ j. IsTrue (members j)) is own))
      | inr other ↦ all i some (omega (arith, low, other)) own
    ],
  )
  by (inl (l, some_l, low_l, own_l, all)) (inl here) = elim (cases_lt (f l) (f (suc k))) [
    | inl less ↦ inl (
      suc k,
      omega arith,
      omega arith,
      here,
      λ i some low own. elim (cases_eq i (suc k)) [
        | inl is ↦ omega (arith, ap f is)
        | inr other ↦ omega (arith, all i some (omega (arith, low, other)) own, less)
      ],
    )
    | inr least ↦ inl (
      l,
      some_l,
      omega (arith, low_l),
      own_l,
      λ i some low own. elim (cases_eq i (suc k)) [
        | inl is ↦ omega (arith, ap f is, least)
        | inr other ↦ all i some (omega (arith, low, other)) own
      ],
    )
  ]

-- ---- nodes that are up

-- a node that is up, with rounds left, and votes below a place down to which it has so many places open
pub record UpReady (keys : ℕ → List Key) (top gap : ℕ) (w : World) (i : ℕ) : Type 0 where
  pub known : Known
  pub has : Has w i known
  pub promised : IfSome known.kept.promised HasRoundAbove
  pub remembered : IfSome known.remembered HasRoundAbove
  pub votes : AreBelow top known.kept.votes
  pub far : top ≤ front known + gap
  pub keys_are : Shrinks (keys i) known

-- the round that a node has promised
abbrev promised_round : World → ℕ → ℕ
promised_round w i = round_of (seat_of_member (member_at w.members i)).kept.promised

round_low : (o : Option Ballot) → IfSome o HasRoundAbove → round_of o < LAST_ROUND
round_low None h = omega arith
round_low (Some b) h = h

at_most : (o : Option Ballot) (b : Ballot) → round_of o < b.round → IfSome o (λ p. IsAtMost p b)
at_most None b less = tt
at_most (Some p) b less = inl less

not_promised : (o : Option Ballot) (b : Ballot) → round_of o < b.round → ¬ IsSomeAnd o (λ p. IsAtMost b p)
not_promised None b less h = h
not_promised (Some p) b less (inl more) = omega (arith, less, more)
not_promised (Some p) b less (inr (same, node)) = omega (arith, less, same)

module _ (more : BatchLaws) (learn : LearnLaws) (members : ℕ → Bool) (n : ℕ) (group : Group) (keys : ℕ → List Key) (top gap : ℕ)
    (most : IsMajority group.size members) where
  -- what a node knows that has read all keys of all that act
  pub record ReadAll (v : World) (j : ℕ) : Type 0 where
    pub known : Known
    pub has : Has v j known
    pub read : (i : ℕ) → 0 < i → i ≤ group.size → IsTrue (members i) → (k : Key) → Contains (keys i) k → HasKey known k
    pub none : waiting_keys known ≡ []

  -- each node that acts has read all keys of all of them
  abbrev pub AllRead : World → Type 0
  AllRead v = (j : ℕ) → 0 < j → j ≤ group.size → IsTrue (members j) → ReadAll v j

  module _ (w : World) (good : Good w) (is : w.group ≡ group) (late : n ≤ length (world_state w).sent)
      (ready : (i : ℕ) → 0 < i → i ≤ group.size → IsTrue (members i) → UpReady keys top gap w i) where
    round_is : (i : ℕ) {k : Known} → Has w i k → promised_round w i ≡ round_of k.kept.promised
    round_is i {k} has =
        let sound = running good.holds.sound (record { there = has.there; up = has.up }) in
        ap (λ o. round_of (seat_of_member o).kept.promised) has.there ∙ ap (λ (r : Record). round_of r.promised) (sym sound.kept_is)

    -- no front is above the votes
    front_low : (i : ℕ) {k : Known} → Has w i k → front k ≤ top
    front_low i {k} has = elim (cases_lt top (front k)) [
      | inr within ↦ within
      | inl above ↦
          let inv = invariant_of good.holds.rules.sound.grew in
          let sound = by_rules good.holds (record { there = has.there; up = has.up }) in
          let (u, at) = some_at k.learner.learned top ((more.laws.front k.learner).below top above) in
          let (b, chosen) = sound.learned.chosen top u at in
          let (j, some, low, here, there) = majorities_meet group.size members chosen.0 most
          (subst (λ (g : Group). IsMajority g.size chosen.0) is chosen.1) in
          let voted = inv.kept j b top u (chosen.2 j there) in
          let r = ready j some low here in
          let other = running good.holds.sound (record { there = r.has.there; up = r.has.up }) in
          let votes : ((world_state w).seats j).kept.votes ≡ r.known.kept.votes =
          ap (λ o. (seat_of_member o).kept.votes) r.has.there ∙ ap (λ (r : Record). r.votes) (sym other.kept_is) in
          let below : AreBelow top ((world_state w).seats j).kept.votes = subst (AreBelow top) (sym votes) r.votes in
          absurd (by ((world_state w).seats j).kept.votes (kept_vote_at ((world_state w).seats j).kept.votes top) refl below
          (some_there _ _ voted))
    ] where
      some_there : (o : Option Vote) (P : Vote → Type 0) → IsSomeAnd o P → (vote : Vote) × (o ≡ Some vote)
      some_there None P h = absurd h
      some_there (Some vote) P h = (vote, refl)

      by : (votes : List Vote) (o : Option Vote) → kept_vote_at votes top ≡ o → AreBelow top votes → (vote : Vote) × (o ≡ Some vote) → ⊥
      by votes o e below (vote, is_vote) = omega (arith, found_below top top votes vote below (e ∙ is_vote))

    -- from the campaign on
    abbrev ticks : ℕ
    ticks = 1 + (gap + group.size * gap) + most_batches group.size (keys_to members keys group.size) * ticks_of_batch group.size

    abbrev messages : ℕ
    messages =
        group.size * ((gap / MOST_VOTES + 1) * 2) + (gap * (2 * group.size) + group.size * (gap * 2))
        + most_batches group.size (keys_to members keys group.size) * messages_of_batch group.size

    -- the node with the greatest promise leads
    from_leader : (l : ℕ) (some : 0 < l) (high : l ≤ group.size) (own : IsTrue (members l))
        → ((i : ℕ) → 0 < i → i ≤ group.size → IsTrue (members i) → promised_round w i ≤ promised_round w l) → top + keys_to members
        keys group.size < PLACES
        → ReachesWithin ticks messages members n w AllRead
    from_leader l some high own all room =
        let laws = more.laws in
        let r = ready l some high own in
        let k : Known = r.known in
        let b : Ballot = next_ballot k in
        let from : ℕ = front k in
        let x : Setting = record { members = members; count = n; group = group; ballot = b; leader = l; keys = keys } in
        let leader : IsOf x l = record { some = some; below = high; own = own } in
        let sound = running good.holds.sound (record { there = r.has.there; up = r.has.up }) in
        let promised = round_low k.kept.promised r.promised in
        let remembered = round_low k.remembered r.remembered in
        let spare : last_round k < LAST_ROUND = omega (arith, promised, remembered) in
        let above : round_of k.kept.promised < b.round = omega arith in
        let under : from ≤ top = front_low l r.has in
        let place : from < PLACES = omega (arith, under, room) in
        let low : (i : ℕ) → IsOf x i → Ahead (top - gap) w i = λ i of. (let f = ready i of.some of.below of.own in record
        { known = f.known; has = f.has; far = omega (arith, f.far) }) in
        within (then_on learn laws.front_rises (campaigns laws.events good l own r.has spare place (λ v s. s)) (λ v s rises1.
        let fresh : (q i s : ℕ) (u : Value) → slice_get (world_state v).sent q ≡ Some (record { sender = i; body = Accept b s u }) → n
        ≤ q = λ q i place u e.
        elim (old_or_new (world_state w).sent (messages_handed_out l (on_campaign k).sends) q _ (rw s.sent at e)) [
          | inl old ↦ absurd (not_promised k.kept.promised b above (sound.backs.kept.own b place u refl (
            i,
            in_from_place (world_state w).sent q _ old,
          )))
          | inr new ↦ omega (arith, late, new)
        ] in
        let ready_of : (i : ℕ) → IsOf x i → (i ≡ l) ⊎ (i ≢ l) → Ready x top v i = λ i of cases. elim cases [
          | inl same ↦ subst (λ j. Ready x top v j) (sym same) (record {
            known = (on_campaign k).node;
            has = s.now;
            promised = inr (refl, omega arith);
            votes = r.votes;
            keys = record { gone = r.keys_are.gone; parts = r.keys_are.parts; below = r.keys_are.below };
          })
          | inr other ↦
              let f = ready i of.some of.below of.own in
              let less : round_of f.known.kept.promised < b.round =
              omega (arith, above, all i of.some of.below of.own, round_is i f.has, round_is l r.has) in
              record {
                known = f.known;
                has = still s i other f.has;
                promised = at_most f.known.kept.promised b less;
                votes = f.votes;
                keys = f.keys_are;
              }
        ] in
        let pre : Pre x top v = record {
          good = s.good;
          group = s.group ∙ is;
          late = omega (
            arith,
            late,
            ap (λ (sent : Sent). length sent) s.sent ∙ length-append (world_state w).sent
                (messages_handed_out l (on_campaign k).sends),
          );
          fresh = fresh;
          ready = λ i of. ready_of i of (cases_eq i l);
        } in
        let p : Proposer = new_proposer b from k.me.group.size in
        let lead : Lead x v p k.learner [] = record {
          known = (on_campaign k).node;
          has = s.now;
          proposer = refl;
          ballot = refl;
          learner = refl;
          offers = refl;
        } in
        let cov : Cov x top v p k.learner [] = record {
          pre = pre;
          lead = lead;
          nodes = length-replicate 10 from;
          kept = tt;
          next = omega (arith, under);
          first = refl;
        } in
        let ask : AskNew x v from = rw s.sent (new_in (world_state w).sent _ _ late
        (in_messages l (bodies_of (on_campaign k).sends) (Prepare b from) (first_in (Prepare b from) []))) in
        then_on learn laws.front_rises (cover_all laws x top leader k.learner [] v p from (gap / MOST_VOTES + 1) (omega (arith, r.far))
        under cov (λ i small. get_or-replicate 10 i from 0 small) place ask)
        (λ v1 covered rises2.
        let low1 : (i : ℕ) → IsOf x i → Ahead (top - gap) v1 i = λ i of. ahead_on rises2 (covered.cov.pre.ready i of).has
        (ahead_on rises1 (pre.ready i of).has (low i of)) in
        then (settle more learn x most leader top k.learner [] (omega (arith, room)) refl gap v1 covered r.far low1) (λ v2 settles.
        then (drain_all more learn x most leader settles.proposer settles.learner [] v2 settles.settled (omega (
          arith,
          room,
          settles.low,
        ))) (λ v3 read.
        stay (λ j some_j low_j own_j.
        let (h, keys_read, none) = read j (record { some = some_j; below = low_j; own = own_j }) in
        record {
          known = h.known;
          has = h.has;
          read = λ i some_i low_i own_i. keys_read i (record { some = some_i; below = low_i; own = own_i });
          none = none;
        })))))) (omega arith) (omega arith)

    -- each of the nodes reads all keys
    pub read_all : top + keys_to members keys group.size < PLACES → ReachesWithin ticks messages members n w AllRead
    read_all room = by (greatest members (promised_round w) group.size) where
      by : ((l : ℕ) × (0 < l) × (l ≤ group.size) × IsTrue (members l) ×
          ((i : ℕ) → 0 < i → i ≤ group.size → IsTrue (members i) → promised_round w i ≤ promised_round w l))
          ⊎ ((i : ℕ) → 0 < i → i ≤ group.size → ¬ IsTrue (members i))
          → ReachesWithin ticks messages members n w AllRead
      by (inr none) =
          absurd (omega (
            arith,
            most,
            count_within members (λ i. false) group.size (λ i some low own. absurd (none i some low own)),
            none_counted group.size,
          ))
      by (inl (l, some, low, own, all)) = from_leader l some low own all room
