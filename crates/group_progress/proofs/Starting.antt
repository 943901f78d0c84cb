-- The nodes that are down start, and then all go on.
use Rattle.std.proofs.Common.{◌≡◌, ◌≢◌, ◌∙◌, inl, inr, ℕ, zero, suc, ◌+◌, ◌<◌, ◌≤◌, Bool, IsTrue, Contains, List, [], ◌∷◌, length, Option, Some, None, IfSome, refl, sym, ap, subst, arith, length-append, if◌then◌else◌}
use Rattle.std.specs.List.{range_with_len}
use Rattle.std.proofs.lemmas.Bool.{cases_Bool}
use Rattle.std.proofs.lemmas.List.Elements.{All-nil}
use Rattle.pcode_file.specs.Parts.{Parts}
use Rattle.paxos_msg.specs.declared.message.Group.{Group}
use Rattle.paxos_msg.specs.Ballots.{IsMajority}
use Rattle.paxos_msg.specs.Batches.{Record, Sent, Vote}
use Rattle.paxos_msg.specs.Keys.{Key}
use Rattle.group_protocol.proofs.Elements.{first_in, none_in, rest_in}
use Rattle.group_protocol.specs.Known.{on_start}
use Rattle.group_protocol.specs.States.{IsSize}
use Rattle.paxos_msg.specs.Fits.{IsGroup}
use Rattle.group_node.specs.NodeCalls.{Running}
use Rattle.group_world.specs.declared.event.Event.{Event}
use Rattle.group_world.specs.Event.{DoesAt, HearsOf, LeadsBy}
use Rattle.group_world.specs.declared.event.Done.{Done}
use Rattle.group_world.specs.Sound.{IsSound}
use Rattle.group_node.specs.Deeds.{Deed}
use Rattle.group_world.specs.Group.{IsUp, World, me_of, member_at, new_world, world_state}
use Rattle.group_world.specs.Member.{Member}
use Rattle.group_progress.specs.GoingOn.{AllHaveFinishedReading, HasLeft, HasRoundAbove, HaveLeft, HaveOpen, MayReachWithin, ReachesWithin, learned_to, most_messages, most_ticks, waiting_at, keys_waiting, waiting_of}
use Rattle.group_protocol.specs.WaitingKeys.{waiting_keys}
use Rattle.group_progress.specs.Below.{EventLaws, LearnLaws, BatchLaws}
use Rattle.group_progress.proofs.Campaigning.{UpReady, read_all}
use Rattle.group_progress.proofs.Chasing.{slice_some}
use Rattle.group_progress.proofs.Within.{stay, then, within}
use Rattle.group_progress.proofs.Going.{Good, deed_good, heard_by}
use Rattle.group_rules.proofs.Lists.{of_flat_map, of_range}
use Rattle.group_progress.proofs.Proposers.{AreBelow}
use Rattle.group_progress.proofs.Steps.{each_within, starts, still}
use Rattle.group_progress.proofs.NodesStay.{OfMember}
use Rattle.group_progress.proofs.Tallies.{AreRight}
use Rattle.group_progress.proofs.TalliesStay.{TalliesRight}
use Rattle.group_progress.proofs.Unread.{AreUnread, IsUnreadAt}
use Rattle.group_world.proofs.WorldAsGroup.{first_node, running}

-- ---- worlds that are reached

pub happens_good : EventLaws → (w : World) (events : List Event) (v : World) → Good w → LeadsBy w events v → Good v
happens_good laws w [] v good is = subst Good (sym is) good
happens_good laws w (e ∷ events) v good (mid, d, goes, rest) =
    let heard = heard_by w.group w.sent e.act goes.deed goes.is_deed in
    happens_good laws mid events v (deed_good laws w mid _ _ goes.deed d good heard goes.does) rest

first_tallies : (p : Parts) (group : Group) → TalliesRight (new_world p group)
first_tallies p group = record {
  members = λ i m at. subst (λ (x : Member). IfSome x.node (λ (q : Running). AreRight q.known.learner)) (first_node p group i m at) tt;
}

first_unread : (p : Parts) (group : Group) → AreUnread (new_world p group)
first_unread p group i m at = subst (OfMember IsUnreadAt) (first_node p group i m at) tt

-- what holds of each world that is reached
pub good_at_first : EventLaws → (p : Parts) (group : Group) → IsSize group.size → IsGroup group → Good (new_world p group)
good_at_first laws p group size session =
    record { holds = laws.begins p group size session; unread = first_unread p group; tallies = first_tallies p group }

pub reached : EventLaws → (p : Parts) (group : Group) → IsSize group.size → IsGroup group → (events : List Event) (w : World)
    → LeadsBy (new_world p group) events w → Good w
reached laws p group size session events w leads = happens_good laws _ events w (good_at_first laws p group size session) leads

-- ---- nodes that start

below_from : (top : ℕ) (votes : List Vote) → ((vote : Vote) → Contains votes vote → vote.place < top) → AreBelow top votes
below_from top [] all = tt
below_from top (x ∷ xs) all = (all x (first_in x xs), below_from top xs (λ vote among. all vote (rest_in x xs vote among)))

module _ (more : BatchLaws) (learn : LearnLaws) (members : ℕ → Bool) (w : World) (good : Good w) (left : HaveLeft members w) (gap : ℕ)
    (few : HaveOpen gap left.top members w)
    (most : IsMajority w.group.size members) where
  abbrev count : ℕ
  count = length (world_state w).sent

  abbrev keys : ℕ → List Key
  keys i = waiting_of (member_at w.members i)

  -- the nodes from this one on have not started
  record Rest (k : ℕ) (v : World) : Type 0 where
    pub fine : Good v
    pub group : v.group ≡ w.group
    pub late : count ≤ length (world_state v).sent
    pub ahead : (j : ℕ) → k < j → member_at v.members j ≡ member_at w.members j

  member_of_node : (i : ℕ) → 0 < i → i ≤ w.group.size → (m : Member) × (member_at w.members i ≡ Some m)
  member_of_node zero some low = absurd (omega (arith, some))
  member_of_node (suc k) some low = slice_some w.members k (omega (arith, low, good.holds.sound.places))

  start_one : (k : ℕ) (v : World) → suc k ≤ w.group.size → IsTrue (members (suc k)) → Rest k v
      → ReachesWithin 1 0 members count v (λ u. Rest (suc k) u × UpReady keys left.top gap u (suc k)
      × ((j : ℕ) → j ≢ suc k → UpReady keys left.top gap v j → UpReady keys left.top gap u j))
  start_one k v low own r =
      let i : ℕ = suc k in
      let (m, at) = member_of_node i (omega arith) low in
      let there : member_at v.members i ≡ Some m = r.ahead i (omega arith) ∙ at in
      by m at there (left.nodes i m own at) (few i m own at) m.node refl where
        by : (m : Member) → member_at w.members (suc k) ≡ Some m → member_at v.members (suc k) ≡ Some m → HasLeft left.top m →
            left.top ≤ learned_to m.node + gap → (o : Option Running) → m.node ≡ o
            → ReachesWithin 1 0 members count v (λ u. Rest (suc k) u × UpReady keys left.top gap u (suc k)
            × ((j : ℕ) → j ≢ suc k → UpReady keys left.top gap v j → UpReady keys left.top gap u j))
        by m at there has behind (Some q) up =
            let is_up : IsUp v (suc k) m q = record { there = there; up = up } in
            let sound = running r.fine.holds.sound is_up in
            let waits : keys (suc k) ≡ waiting_keys q.known = ap waiting_of at ∙ ap waiting_at up in
            within (stay (
              record { fine = r.fine; group = r.group; late = r.late; ahead = λ j above. r.ahead j (omega (arith, above)) },
              record {
                known = q.known;
                has = record { node = m; progress = q.progress; there = there; up = up };
                promised = subst (λ (c : Record). IfSome c.promised HasRoundAbove) (sym sound.kept_is) has.promised;
                remembered = subst (λ o. IfSome o (λ q. IfSome q.known.remembered HasRoundAbove)) up has.remembered;
                votes = subst (λ (c : Record). AreBelow left.top c.votes) (sym sound.kept_is) (below_from left.top m.kept.votes has.votes);
                far = omega (arith, behind, ap learned_to up);
                keys_are = record { gone = []; parts = waits; below = All-nil _ };
              },
              λ j other h. h,
            )) (omega arith) (omega arith)
        by m at there has behind None down =
            let none : keys (suc k) ≡ [] = ap waiting_of at ∙ ap waiting_at down in
            within ((then) (starts more.laws.events r.fine (suc k) own there down (has.start down) (λ u s. s)) (λ u s.
            stay (
              record {
                fine = s.good;
                group = s.group ∙ r.group;
                late = omega (arith, r.late, ap (λ (sent : Sent). length sent) s.sent ∙ length-append (world_state v).sent []);
                ahead = λ j above. s.others j (λ is. absurd (omega (arith, above, is))) ∙ r.ahead j (omega (arith, above));
              },
              record {
                known = (on_start (me_of v (suc k)) m.kept).node;
                has = s.now;
                promised = has.promised;
                remembered = tt;
                votes = below_from left.top m.kept.votes has.votes;
                far = omega (arith, behind, ap learned_to down);
                keys_are = record { gone = []; parts = none; below = All-nil _ };
              },
              λ j other h. record {
                known = h.known;
                has = still s j other h.has;
                promised = h.promised;
                remembered = h.remembered;
                votes = h.votes;
                far = h.far;
                keys_are = h.keys_are;
              },
            ))) (omega arith) (omega arith)

  skip_one : (k : ℕ) (v : World) → ¬ IsTrue (members (suc k)) → Rest k v → Rest (suc k) v
  skip_one k v none r = record { fine = r.fine; group = r.group; late = r.late; ahead = λ j above. r.ahead j (omega (arith, above)) }

  -- a key that waits, waits at one of the nodes
  waits_at : (key : Key) → Contains (keys_waiting members w) key → (i : ℕ) × (0 < i) × (i ≤ w.group.size) × IsTrue (members i) ×
      Contains (keys i) key
  waits_at key among =
      let (i, in_range, here) = of_flat_map (λ i. if members i then keys i else []) (range_with_len 1 w.group.size) key among in
      let (low, high) = of_range 1 w.group.size i in_range in
      elim (cases_Bool (members i)) [
        | inl own ↦ (i, omega (arith, low), omega (arith, high), own, subst (λ b. Contains (if b then keys i else []) key) own here)
        | inr not ↦ absurd (none_in key (subst (λ b. Contains (if b then keys i else []) key) not here))
      ]

  -- all waiting keys are read
  pub all_read : MayReachWithin (most_ticks w.group.size gap (length (keys_waiting members w)))
      (most_messages w.group.size gap (length (keys_waiting members w))) members w
      (AllHaveFinishedReading members w.group.size (keys_waiting members w))
  all_read =
      let start : Rest 0 w = record { fine = good; group = refl; late = omega arith; ahead = λ j above. refl } in
      within ((then) (each_within w.group.size 1 0 Rest (λ i v. UpReady keys left.top gap v i) skip_one start_one w start)
      (λ v all.
      let r = all.0 in
      (then) (read_all more learn members count w.group keys left.top gap most v r.fine r.group r.late all.1 left.room) (λ u read.
      stay (λ j node own.
      let h = read j node.0 node.1 own in
      record {
        has = record {
          node = h.has.node;
          running = record { known = h.known; progress = h.has.progress };
          up = record { there = h.has.there; up = h.has.up };
          read = λ key among. (let (i, some, low, of_i, here) = waits_at key among in h.read i some low of_i key here);
        };
        none = h.none;
      })))) (omega arith) (omega arith)
