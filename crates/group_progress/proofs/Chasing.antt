-- The leading node learns all that it has proposed.
use Rattle.std.proofs.Common.{◌≡◌, ◌∙◌, ◌⊎◌, inl, inr, ℕ, zero, suc, ◌+◌, ◌-◌, ◌*◌, ◌<◌, ◌≤◌, List, [], ◌∷◌, length, slice_get, Some, None, IfSome, refl, sym, ap, subst, arith}
use Rattle.std.proofs.lemmas.Bool.{cases_eq, cases_lt, le-ltb}
use Rattle.std.proofs.lemmas.Option.{slice_get-get_or}
use Rattle.std.specs.FinMap.{get}
use Rattle.paxos_msg.specs.declared.message.Body.TheVariants.{Accept}
use Rattle.paxos_msg.specs.declared.value.Value.{Value}
use Rattle.paxos_msg.specs.Ballots.{IsMajority}
use Rattle.paxos_msg.specs.Keys.{Key}
use Rattle.paxos_msg.specs.Messages.{IsSent}
use Rattle.paxos_acceptor.specs.declared.me.Me.{Me}
use Rattle.paxos_learner.specs.Learner.{Learner, front_of}
use Rattle.paxos_proposer.specs.Proposer.{Proposer, next_of, proposed_at}
use Rattle.paxos_proposer.specs.Backed.{IsProposerBacked}
use Rattle.group_protocol.specs.Backs.{IsLeadingBacked}
use Rattle.group_world.specs.Group.{World, world_state}
use Rattle.group_progress.specs.GoingOn.{ReachesWithin}
use Rattle.group_world.proofs.WorldAsGroup.{running}
use Rattle.group_progress.specs.Below.{LeadLaws}
use Rattle.group_progress.proofs.Within.{stay, then, within}
use Rattle.group_progress.proofs.Steps.{New, turn_more}
use Rattle.group_progress.proofs.Common.{Common, IsOf, Setting}
use Rattle.group_progress.proofs.Learning.{Further, Lead, accept_all, count_all, more_learned}

-- a value that is there
pub slice_some : {X : Type 0} (xs : List X) (k : ℕ) → k < length xs → (x : X) × (slice_get xs k ≡ Some x)
slice_some [] k less = absurd (omega (arith, less))
slice_some (x ∷ xs) zero less = (x, refl)
slice_some (x ∷ xs) (suc k) less = slice_some xs k (omega (arith, less))

-- each place from the first one on, below the next one, has a proposal
pub proposed_in : (p : Proposer) (s : ℕ) → p.first ≤ s → s < next_of p → (u : Value) × (proposed_at p s ≡ Some u)
proposed_in p s low high =
    let found = slice_some p.values (s - p.first) (omega (arith, low, high)) in
    let above = le-ltb s p.first low in
    (found.0, rw above found.1)

module _ (laws : LeadLaws) (x : Setting) (most : IsMajority x.group.size x.members) where
  module _ {w : World} {p : Proposer} {l : Learner} {offered : List Key} (c : Common x w) (lead : Lead x w p l offered) where
    -- the messages back the proposer
    pub backed : IsProposerBacked (world_state w).sent x.leader p
    backed =
        let sound = running c.good.holds.sound (record { there = lead.has.there; up = lead.has.up }) in
        let leads : IsLeadingBacked (world_state w).sent lead.known.me.node lead.known.kept p =
        subst (λ o. IfSome o (IsLeadingBacked (world_state w).sent lead.known.me.node lead.known.kept)) lead.proposer
        sound.backs.proposer in
        subst (λ (me : Me). IsProposerBacked (world_state w).sent me.node p) sound.me_is leads.backed

    -- the Accept of what it has proposed is new
    pub proposed_new : (s : ℕ) (u : Value) → proposed_at p s ≡ Some u
        → New x.count (world_state w).sent (record { sender = x.leader; body = Accept x.ballot s u })
    proposed_new s u e =
        let among : IsSent (world_state w).sent x.leader (Accept x.ballot s u) =
        subst (λ b. IsSent (world_state w).sent x.leader (Accept b s u)) lead.ballot (backed.sent_all s u e) in
        let at = slice_get-get_or (world_state w).sent among.0 _ among.1 ∙ ap Some among.2 in
        record { number = among.0; late = c.fresh among.0 x.leader s u at; at = at }

  -- the next place is learned
  pub learn_next : IsOf x x.leader → (w : World) (p : Proposer) (l : Learner) (offered : List Key) → Common x w → Lead x w p l offered
      → p.first ≤ front_of l.learned → front_of l.learned < next_of p
      → ReachesWithin 0 (2 * x.group.size) x.members x.count w (λ v. Common x v × ((far : Further laws x most v p l offered) ×
      (front_of l.learned < front_of far.now.learned)))
  learn_next leader w p l offered c lead low high =
      let s : ℕ = front_of l.learned in
      let (u, at) = proposed_in p s low high in
      within (then (accept_all laws x most s u w c lead (proposed_new c lead s u at)) (λ v voted.
      let (cv, leads, all) = voted in
      then (count_all laws x most leader p l offered s u v (omega arith) cv leads (proposed_new cv leads s u at) all) (λ y done.
      let (cy, (far, learned)) = done in
      let rises = laws.front_rises l far.now far.more in
      let here = (laws.front far.now).here in
      stay (
        cy,
        (
          far,
          elim (cases_eq (front_of far.now.learned) s) [
            | inl same ↦ let no : Some learned.value ≡ None = sym learned.at ∙ subst (λ k. get far.now.learned k ≡ None) same here in
                absurd cc
            | inr other ↦ omega (arith, rises, other)
          ],
        ),
      )))) (omega arith) (omega arith)

  -- all places are learned
  pub chase : IsOf x x.leader → (fuel : ℕ) (w : World) (p : Proposer) (l : Learner) (offered : List Key) → Common x w → Lead x w p l offered
      → p.first ≤ front_of l.learned → next_of p ≤ front_of l.learned + fuel
      → ReachesWithin 0 (fuel * (2 * x.group.size)) x.members x.count w (λ v. Common x v × ((far : Further laws x most v p l offered) ×
      (next_of p ≤ front_of far.now.learned)))
  chase leader zero w p l offered c lead low near =
      within (stay (c, (record { now = l; lead = lead; more = record { stays = λ s v e. e } }, omega (arith, near)))) (omega arith)
      (omega arith)
  chase leader (suc fuel) w p l offered c lead low near = by (chase leader fuel) (cases_lt (front_of l.learned) (next_of p)) where
    by : ((w : World) (p : Proposer) (l : Learner) (offered : List Key) → Common x w → Lead x w p l offered
        → p.first ≤ front_of l.learned → next_of p ≤ front_of l.learned + fuel
        → ReachesWithin 0 (fuel * (2 * x.group.size)) x.members x.count w (λ v. Common x v × ((far : Further laws x most v p l offered) ×
        (next_of p ≤ front_of far.now.learned))))
        → (front_of l.learned < next_of p) ⊎ (next_of p ≤ front_of l.learned)
        → ReachesWithin 0 (suc fuel * (2 * x.group.size)) x.members x.count w
        (λ v. Common x v × ((far : Further laws x most v p l offered) ×
        (next_of p ≤ front_of far.now.learned)))
    by more (inr over) =
        within (stay (c, (record { now = l; lead = lead; more = record { stays = λ s v e. e } }, over))) (omega arith) (omega arith)
    by more (inl behind) =
        within (then (learn_next leader w p l offered c lead low behind) (λ v one.
        let (cv, (far, above)) = one in
        then (more v p far.now offered cv far.lead (omega (arith, low, above)) (omega (arith, near, above))) (λ y all.
        let (cy, (further, over)) = all in
        stay (
          cy,
          (
            record {
              now = further.now;
              lead = further.lead;
              more = more_learned laws x most l far.now further.now far.more
                  further.more;
            },
            over,
          ),
        )))) (omega arith) (omega (arith, turn_more fuel (2 * x.group.size)))
