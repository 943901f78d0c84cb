-- From one settled world to the next: a batch of waiting keys is submitted, proposed, learned and told.
use Rattle.std.proofs.Common.{◌≡◌, ◌∙◌, inl, inr, ℕ, ◌<◌, ◌≤◌, IsTrue, Contains, List, [], ◌∷◌, take, Option, Some, None, IfSome, refl, sym, ap, subst, arith, false, true}
use Rattle.std.proofs.lemmas.Bool.{cases_lt, false_from_ne_true, or_cases}
use Rattle.std.specs.FinMap.{get}
use Rattle.paxos_msg.specs.declared.limits.TheConstants.{MOST_CHARACTERS, PLACES, LAST_PLACE}
use Rattle.paxos_msg.specs.declared.value.Value.{Value}
use Rattle.paxos_msg.specs.Ballots.{IsMajority}
use Rattle.paxos_msg.specs.Keys.{Key, keys_of}
use Rattle.paxos_learner.specs.Input.{StandsIn, front_values, has_key, is_learned, keys_in_order}
use Rattle.paxos_learner.specs.Learner.{Learner, front_of}
use Rattle.paxos_proposer.specs.Proposer.{Proposer, is_kept_from, next_of}
use Rattle.group_protocol.specs.Known.{Known, front}
use Rattle.group_protocol.specs.ProposerResponses.{is_known_key}
use Rattle.group_protocol.specs.WaitingKeys.{batch_of, waiting_keys}
use Rattle.group_world.specs.Group.{World}
use Rattle.group_progress.specs.Below.{LeadLaws, BatchLaws}
use Rattle.group_progress.proofs.Unread.{IsFirstUnread, IsUnreadAt}
use Rattle.group_world.proofs.WorldAsGroup.{running}
use Rattle.group_progress.proofs.Above.{Covers, front_within, none_above}
use Rattle.group_progress.proofs.Common.{Common, IsOf, Setting, one_known}
use Rattle.group_progress.proofs.Learning.{Lead}
use Rattle.group_progress.proofs.Reading.{HasKey, read_agree, read_at}
use Rattle.group_progress.proofs.Steps.{Has}
use Rattle.group_progress.proofs.Telling.{Ahead}

-- the first keys that wait are a batch
pub first_batch : (more : BatchLaws) (n : Known) (k : Key) (rest : List Key) → waiting_keys n ≡ k ∷ rest
    → (v : Value) × (batch_of n n.waiting ≡ Some v) × ((others : List Key) × (keys_of v ≡ k ∷ others))
first_batch more n k rest e = by (batch_of n n.waiting) refl where
  by : (o : Option Value) → batch_of n n.waiting ≡ o
      → (v : Value) × (batch_of n n.waiting ≡ Some v) × ((others : List Key) × (keys_of v ≡ k ∷ others))
  by None at = let no : k ∷ rest ≡ [] = sym e ∙ more.no_batch n at in absurd cc
  by (Some v) at = (v, at, (take 31 rest, more.batch n v at ∙ ap (take MOST_CHARACTERS) e))

-- the node leads, all have learned what it has proposed, and it has nothing more to propose by itself
pub record Settled (x : Setting) (w : World) (p : Proposer) (l : Learner) (offered : List Key) : Type 0 where
  pub common : Common x w
  pub lead : Lead x w p l offered
  pub covers : Covers x p
  pub none : is_kept_from p.kept (next_of p) ≡ false
  pub even : front_of l.learned ≡ next_of p
  pub first : p.first ≤ front_of l.learned
  pub read : (key : Key) → Contains offered key → Contains (keys_in_order (front_values l.learned)) key
  pub ahead : (i : ℕ) → IsOf x i → Ahead (front_of l.learned) w i

module _ (more : BatchLaws) (x : Setting) (most : IsMajority x.group.size x.members) (leader : IsOf x x.leader) where
  abbrev pub laws : LeadLaws
  laws = more.laws

  -- the first waiting key of a node is not read there
  pub unread : {w : World} (c : Common x w) {i : ℕ} {n : Known} → Has w i n
      → IsFirstUnread (keys_in_order (front_values n.learner.learned)) (waiting_keys n)
  unread {w} c {i} {n} has =
      subst (λ o. IfSome o (λ q. IsUnreadAt q.known)) has.up (c.good.unread i has.node has.there)

  module _ {w : World} {p : Proposer} {l : Learner} {offered : List Key} (s : Settled x w p l offered) where
    -- what the leading node has learned or offered, each node that acts has read
    known_read : (i : ℕ) → IsOf x i → {n : Known} → Has w i n → next_of p < PLACES → (k1 : Known) → k1.learner ≡ l → k1.offered ≡
        offered → (k : Key)
        → is_known_key k1 k ≡ true → HasKey n k
    known_read i here {n} has room k1 learner offers k e =
        let c = s.common in
        let ahead = s.ahead i here in
        let same : ahead.known ≡ n = one_known ahead.has has in
        let far : front s.lead.known ≤ front n = subst (λ (m : Known). front s.lead.known ≤ front m) same
        (subst (λ (l : Learner). front_of l.learned ≤ front ahead.known) (sym s.lead.learner) ahead.far) in
        let give : Contains (keys_in_order (front_values l.learned)) k → HasKey n k = λ read.
        read_agree more.reads laws.keys c.good s.lead.has has far k
        (subst (λ (l : Learner). Contains (keys_in_order (front_values l.learned)) k) (sym s.lead.learner) read) in
        elim (or_cases (is_learned k1.learner.learned k) (has_key k1.offered k) e) [
          | inl learned ↦
              let at = more.stands k1 k learned in
              let value : get l.learned at.place ≡ Some at.value = subst (λ (l : Learner). get l.learned at.place ≡ Some at.value)
              learner at.is_learned in
              give (place at.place at.value value at.has)
          | inr among ↦ give (s.read k (subst (λ ks. Contains ks k) offers (more.has k1.offered k among)))
        ] where
          place : (q : ℕ) (v : Value) → get l.learned q ≡ Some v → Contains (keys_of v) k → Contains
              (keys_in_order (front_values l.learned)) k
          place q v at among =
              let c = s.common in
              let at_lead : get s.lead.known.learner.learned q ≡ Some v = subst (λ (l : Learner). get l.learned q ≡ Some v)
              (sym s.lead.learner) at in
              let sound = running c.good.holds.sound (record { there = s.lead.has.there; up = s.lead.has.up }) in
              let high : q ≤ LAST_PLACE = sound.ranges.learner.window.place q v at_lead in
              elim (cases_lt q (next_of p)) [
                | inl low ↦ read_at more.reads l.learned q v k at (omega (arith, low, s.even)) among
                | inr above ↦ absurd (none_above laws x most c s.lead.has s.lead s.covers s.none q v above (omega (arith, high)) at_lead)
              ]

    pub new_key : (i : ℕ) → IsOf x i → {n : Known} → Has w i n → next_of p < PLACES → (k1 : Known) → k1.learner ≡ l → k1.offered ≡ offered
        → (k : Key) (rest : List Key) → waiting_keys n ≡ k ∷ rest → is_known_key k1 k ≡ false
    new_key i here {n} has room k1 learner offers k rest e =
        false_from_ne_true (is_known_key k1 k) (λ is.
        subst (IsFirstUnread (keys_in_order (front_values n.learner.learned))) e (unread s.common has)
        (known_read i here has room k1 learner offers k is))

    -- what a node has read, the leading node has
    pub lead_read : (i : ℕ) {n : Known} → Has w i n → next_of p < PLACES → (k : Key) → HasKey n k → Contains
        (keys_in_order (front_values l.learned)) k
    lead_read i {n} has room k read =
        let within = front_within laws x most s.common has s.lead s.covers s.none room in
        let far : front n ≤ front s.lead.known = subst (λ (l : Learner). front n ≤ front_of l.learned) (sym s.lead.learner)
        (omega (arith, within, s.even)) in
        subst (λ (l : Learner). Contains (keys_in_order (front_values l.learned)) k) s.lead.learner
        (read_agree more.reads laws.keys s.common.good has s.lead.has far k read)
