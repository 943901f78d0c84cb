-- A node that has learned less asks, and is told.
use Rattle.std.proofs.Common.{◌≡◌, ◌≢◌, ◌∙◌, ◌⊎◌, inl, inr, ℕ, zero, suc, ◌+◌, ◌-◌, ◌*◌, ◌<◌, ◌≤◌, min, IsTrue, Contains, List, [], ◌∷◌, ◌++◌, filter_map, Option, Some, None, is_some, refl, sym, ap, subst, arith}
use Rattle.std.specs.List.{range_with_len}
use Rattle.std.proofs.lemmas.Bool.{cases_eq, cases_lt}
use Rattle.std.proofs.lemmas.List.Elements.{Contains-append_right}
use Rattle.std.specs.FinMap.{FinMap, get}
use Rattle.std.specs.Ordering.{nat_cmp}
use Rattle.paxos_msg.specs.declared.message.Body.TheVariants.{Ask, Tell}
use Rattle.paxos_msg.specs.declared.value.Value.{Value}
use Rattle.paxos_msg.specs.Ballots.{IsMajority}
use Rattle.paxos_msg.specs.Batches.{Record}
use Rattle.paxos_msg.specs.Keys.{Key}
use Rattle.paxos_learner.specs.Learner.{Learner, front_of}
use Rattle.paxos_proposer.specs.Proposer.{Proposer}
use Rattle.group_protocol.proofs.Elements.{first_in, in_cases, none_in, rest_in}
use Rattle.group_protocol.specs.Known.{Known, Response, front}
use Rattle.group_protocol.specs.LearnerResponses.{tell_packet}
use Rattle.group_protocol.specs.Packets.{Packet, bodies_of, to_all, to_one}
use Rattle.group_protocol.specs.Protocol.{on_message}
use Rattle.group_protocol.specs.Tick.{accepts_again, asks, prepares_again, on_tick, submits, ticked}
use Rattle.group_protocol.specs.WaitingKeys.{batch_of}
use Rattle.group_protocol.specs.Pump.{accepts_of, pump}
use Rattle.paxos_proposer.specs.declared.proposer.TheConstants.{MOST_PUMPED}
use Rattle.group_protocol.specs.declared.limits.TheConstants.{MOST_TOLD}
use Rattle.group_world.specs.Group.{World}
use Rattle.group_progress.specs.GoingOn.{ReachesWithin}
use Rattle.group_progress.specs.Below.{LeadLaws}
use Rattle.group_progress.proofs.Within.{stay, then, within}
use Rattle.group_progress.proofs.KeysKept.{Shrinks, shrink_after, shrink_ticked}
use Rattle.group_progress.proofs.Learners.{told}
use Rattle.group_progress.proofs.Steps.{Has, Step, each_within, hears, still, ticks, turn_more}
use Rattle.group_progress.proofs.Common.{Common, Follows, IsOf, Setting, common_after, one_known, sends_new}
use Rattle.group_progress.proofs.Learning.{Lead, lead_kept}

-- ---- packets

pub in_bodies : (packets : List Packet) (packet : Packet) → Contains packets packet → Contains (bodies_of packets) packet.body
in_bodies [] packet among = absurd (none_in packet among)
in_bodies (x ∷ xs) packet among =
    elim (in_cases x xs packet among) [
      | inl same ↦ subst (λ (y : Packet). Contains (bodies_of (x ∷ xs)) y.body) same (first_in x.body (bodies_of xs))
      | inr rest ↦ rest_in x.body (bodies_of xs) packet.body (in_bodies xs packet rest)
    ]

-- what a tick sends at its end
pub tick_sends : (n : Known) (o : Option Proposer) (packet : Packet) → Contains (asks n) packet → Contains (ticked n o).sends packet
tick_sends n None packet among = among
tick_sends n (Some p) packet among =
    let made : List Packet = accepts_of (pump MOST_PUMPED p).made in
    Contains-append_right (prepares_again p ++ accepts_again n.learner.learned p) (made ++ asks n) packet
    (Contains-append_right made (asks n) packet among)

pub asks_front : (n : Known) → Contains (asks n) (to_all (Ask (front n)))
asks_front n = Contains-append_right (submits (batch_of n n.waiting)) _ _ (first_in _ [])

-- what a tick leaves
pub record TickKeeps (n : Known) (done : Response) : Type 0 where
  pub kept : done.node.kept ≡ n.kept
  pub learner : done.node.learner ≡ n.learner
  pub offered : done.node.offered ≡ n.offered
  pub me : done.node.me ≡ n.me

pub tick_keeps : (n : Known) (o : Option Proposer) → TickKeeps n (ticked n o)
tick_keeps n None = record { kept = refl; learner = refl; offered = refl; me = refl }
tick_keeps n (Some p) = record { kept = refl; learner = refl; offered = refl; me = refl }

-- the first Tell that answers an Ask
pub tells : (learned : FinMap nat_cmp Value) (j from k : ℕ) (v : Value) → get learned from ≡ Some v → 0 < k
    → Contains (filter_map (tell_packet learned j) (range_with_len from k)) (to_one j (Tell from v))
tells learned j from zero v e some = absurd (omega (arith, some))
tells learned j from (suc k) v e some = rw e (first_in _ _)

-- ---- one node

pub record Ahead (f : ℕ) (w : World) (i : ℕ) : Type 0 where
  pub known : Known
  pub has : Has w i known
  pub far : f ≤ front_of known.learner.learned

pub still_ahead : {w v : World} {i : ℕ} {done : Response} → Step w i done v → (f j : ℕ) → j ≢ i → Ahead f w j → Ahead f v j
still_ahead step f j other ahead = record { known = ahead.known; has = still step j other ahead.has; far = ahead.far }

pub some_at : (learned : FinMap nat_cmp Value) (s : ℕ) → IsTrue (is_some (get learned s)) → (v : Value) × (get learned s ≡ Some v)
some_at learned s is = by (get learned s) refl is where
  by : (o : Option Value) → get learned s ≡ o → IsTrue (is_some o) → (v : Value) × (get learned s ≡ Some v)
  by None e is = absurd cc
  by (Some v) e is = (v, e)

module _ (laws : LeadLaws) (x : Setting) (most : IsMajority x.group.size x.members) (leader : IsOf x x.leader) (p : Proposer) (l : Learner)
    (offered : List Key) where
  abbrev f : ℕ
  f = front_of l.learned

  abbrev Others : World → World → ℕ → Type 0
  Others w v i = (c j : ℕ) → j ≢ i → j ≢ x.leader → Ahead c w j → Ahead c v j

  -- one place more is learned by node `i`
  ask_once : (i : ℕ) → IsOf x i → i ≢ x.leader → (w : World) → Common x w → Lead x w p l offered → (g : Follows x w i) → front g.known < f
      → ReachesWithin 1 2 x.members x.count w (λ v. Common x v × Lead x v p l offered × Others w v i
      × ((h : Follows x v i) → front g.known < front h.known))
  ask_once i here apart w c lead g behind =
      let n : Known = g.known in
      let from : ℕ = front n in
      let keeps = tick_keeps n n.proposer in
      within (then (ticks laws.events c.good i here.own g.has (λ v s. s)) (λ v1 s1.
      let n1 : Known = (on_tick n).node in
      let c1 = common_after x c s1 (ap (λ (r : Record). r.promised) keeps.kept ∙ g.promised) (shrink_ticked n g.keys) in
      let lead1 = lead_kept x s1 lead (λ is. absurd (apart is)) in
      let new_ask = sends_new x c s1 (Ask from) (in_bodies _ (to_all (Ask from)) (tick_sends n n.proposer _ (asks_front n))) in
      then (hears laws.events c1.good x.leader leader.own lead1.has new_ask (λ v s. s)) (λ v2 s2.
      let k1 : Known = lead1.known in
      let lf = c1.follow x.leader leader in
      let same : lf.known ≡ k1 = one_known lf.has lead1.has in
      let c2 = common_after x c1 s2 (ap (λ (k : Known). k.kept.promised) (sym same) ∙ lf.promised)
      (shrink_after laws.keys k1 i (Ask from) (subst (λ (k : Known). Shrinks (x.keys x.leader) k) same lf.keys)) in
      let lead2 = lead_kept x s2 lead1 (λ is. (lead1.proposer, lead1.learner, lead1.offers)) in
      let (u, at) = some_at l.learned from ((laws.front l).below from behind) in
      let there : get k1.learner.learned from ≡ Some u = ap (λ (l : Learner). get l.learned from) lead1.learner ∙ at in
      let room : 0 < min MOST_TOLD (front k1 - from) = omega (arith, behind, ap (λ (l : Learner). front_of l.learned) lead1.learner) in
      let new_tell = sends_new x c1 s2 (Tell from u)
      (in_bodies _ (to_one i (Tell from u)) (tells k1.learner.learned i from (min MOST_TOLD (front k1 - from)) u there room)) in
      let has2 = still s2 i apart s1.now in
      then (hears laws.events c2.good i here.own has2 new_tell (λ v s. s)) (λ v3 s3.
      let n3 : Known = (on_message n1 x.leader (Tell from u)).node in
      let c3 = common_after x c2 s3 (ap (λ (r : Record). r.promised) keeps.kept ∙ g.promised)
      (shrink_after laws.keys n1 x.leader (Tell from u) (shrink_ticked n g.keys)) in
      let lead3 = lead_kept x s3 lead2 (λ is. absurd (apart is)) in
      let at_front : from ≡ front n1 = ap (λ (l : Learner). front_of l.learned) (sym keeps.learner) in
      let none : get n1.learner.learned from ≡ None = subst (λ s. get n1.learner.learned s ≡ None) (sym at_front)
      (laws.front n1.learner).here in
      let learned : get n3.learner.learned from ≡ Some u = told n1.learner from u none (omega (arith, at_front)) in
      let rises = laws.front_rises n1.learner n3.learner (laws.keys.learned_message n1 x.leader (Tell from u)) in
      let above : from < front n3 = elim (cases_eq (front n3) from) [
        | inl is ↦ let no : Some u ≡ None = sym learned ∙ subst (λ s. get n3.learner.learned s ≡ None) is (laws.front n3.learner).here
            in absurd cc
        | inr other ↦ omega (arith, rises, at_front, other)
      ] in
      stay (
        c3,
        lead3,
        λ c j other not_leader a. still_ahead s3 c j other (still_ahead s2 c j not_leader (still_ahead s1 c j other a)),
        λ h. subst (λ (k : Known). from < front k) (one_known s3.now h.has) above,
      ))))) (omega arith) (omega arith)

  -- node `i` learns as much as the leading node
  ask_all : (i : ℕ) → IsOf x i → i ≢ x.leader → (fuel : ℕ) (w : World) → Common x w → Lead x w p l offered → (g : Follows x w i)
      → f ≤ front g.known + fuel
      → ReachesWithin fuel (fuel * 2) x.members x.count w (λ v. Common x v × Lead x v p l offered × Others w v i × Ahead f v i)
  ask_all i here apart zero w c lead g near =
      within (stay (c, lead, λ c j other not_leader a. a, record { known = g.known; has = g.has; far = omega (arith, near) }))
      (omega arith) (omega arith)
  ask_all i here apart (suc fuel) w c lead g near = by (ask_all i here apart fuel) (cases_lt (front g.known) f) where
    by : ((w : World) → Common x w → Lead x w p l offered → (g : Follows x w i) → f ≤ front g.known + fuel
        → ReachesWithin fuel (fuel * 2) x.members x.count w (λ v. Common x v × Lead x v p l offered × Others w v i × Ahead f v i))
        → (front g.known < f) ⊎ (f ≤ front g.known)
        → ReachesWithin (suc fuel) (suc fuel * 2) x.members x.count w (λ v. Common x v × Lead x v p l offered × Others w v i × Ahead f v i)
    by more (inr over) =
        within (stay (c, lead, λ c j other not_leader a. a, record { known = g.known; has = g.has; far = over })) (omega arith)
        (omega arith)
    by more (inl behind) =
        within (then (ask_once i here apart w c lead g behind) (λ v one.
        let (cv, leads, others, rises) = one in
        let h = cv.follow i here in
        then (more v cv leads h (omega (arith, near, rises h))) (λ y all.
        let (cy, leadsy, othersy, ahead) = all in
        stay (cy, leadsy, λ c j other not_leader a. othersy c j other not_leader (others c j other not_leader a), ahead))))
        (omega arith) (omega (arith, turn_more fuel 2))

  -- all nodes do, each of which is so many places behind at most
  pub tell_all : (low gap : ℕ) → f ≤ low + gap → (w : World) → Common x w → Lead x w p l offered → ((i : ℕ) → IsOf x i → Ahead low w i)
      → ReachesWithin (x.group.size * gap) (x.group.size * (gap * 2)) x.members x.count w (λ v. Common x v × Lead x v p l offered ×
      ((i : ℕ) → IsOf x i → Ahead f v i))
  tell_all low gap short w c lead behind =
      within (then (each_within x.group.size gap (gap * 2) Inv Q (λ k v none inv. (
        inv.0,
        inv.1,
        λ j above. inv.2 j (omega (arith, above)),
      )) one w (c, lead, λ j above of apart. behind j of)) (λ v all.
      let (cv, leads, rest) = all.0 in
      stay (
        cv,
        leads,
        λ i here. elim (cases_eq i x.leader) [
          | inl is ↦ subst (λ j. Ahead f v j) (sym is) (record {
            known = leads.known;
            has = leads.has;
            far = omega (
              arith,
              ap (λ (l : Learner). front_of l.learned) leads.learner,
            );
          })
          | inr apart ↦ all.1 i here.some here.below here.own apart
        ],
      ))) (omega arith) (omega arith) where
        Inv : ℕ → World → Type 0
        Inv k v = Common x v × Lead x v p l offered × ((j : ℕ) → k < j → IsOf x j → j ≢ x.leader → Ahead low v j)

        Q : ℕ → World → Type 0
        Q i v = i ≢ x.leader → Ahead f v i

        one : (k : ℕ) (v : World) → suc k ≤ x.group.size → IsTrue (x.members (suc k)) → Inv k v
            → ReachesWithin gap (gap * 2) x.members x.count v (λ y. Inv (suc k) y × Q (suc k) y × ((j : ℕ) → j ≢ suc k → Q j v → Q j y))
        one k v below own (c, lead, rest) = elim (cases_eq (suc k) x.leader) [
          | inl is ↦ within (stay ((c, lead, λ j above. rest j (omega (arith, above))), λ apart. absurd (apart is), λ j other q. q))
              (omega arith) (omega arith)
          | inr apart ↦
              let here : IsOf x (suc k) = record { some = omega arith; below = below; own = own } in
              let was = rest (suc k) (omega arith) here apart in
              let g = c.follow (suc k) here in
              let same : was.known ≡ g.known = one_known was.has g.has in
              within (then (ask_all (suc k) here apart gap v c lead g (omega (
                arith,
                short,
                was.far,
                ap front same,
              ))) (λ y done.
              let (cy, leads, others, ahead) = done in
              stay (
                (
                  cy,
                  leads,
                  λ j above of not_leader. others low j (λ is. omega (arith, above, is)) not_leader (rest j (omega (
                    arith,
                    above,
                  )) of not_leader),
                ),
                λ apart. ahead,
                λ j other q not_leader. others f j other not_leader (q not_leader),
              ))) (omega arith) (omega arith)
        ]
