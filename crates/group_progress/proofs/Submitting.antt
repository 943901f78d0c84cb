-- The leading node proposes what was submitted, if it has a key that is not known.
use Rattle.std.proofs.Common.{◌≡◌, ◌∙◌, ◌⊎◌, inl, inr, ℕ, ◌+◌, ◌<◌, not, IsTrue, Contains, List, [], ◌∷◌, ◌++◌, Option, Some, None, IfSome, refl, sym, ap, subst, arith, false, true, ◌&&◌}
use Rattle.std.specs.List.{list_all, list_any}
use Rattle.std.proofs.lemmas.Bool.Decides.{nat_tests}
use Rattle.std.proofs.lemmas.Bool.{and_from, and_left, cond_both, cond-true, lt-ltb, not_from_false}
use Rattle.std.proofs.lemmas.List.Elements.{Contains-push_cases}
use Rattle.indexmap.specs.IndexSet.{insert_all, insert_key}
use Rattle.paxos_msg.specs.declared.limits.TheConstants.{PLACES}
use Rattle.paxos_msg.specs.declared.message.Group.{Group}
use Rattle.paxos_msg.specs.declared.message.Body.TheVariants.{Submit}
use Rattle.paxos_msg.specs.declared.value.Value.{Value}
use Rattle.paxos_msg.specs.Ballots.{IsMajority}
use Rattle.paxos_msg.specs.Batches.{Vote}
use Rattle.paxos_msg.specs.Keys.{Key, keys_of}
use Rattle.paxos_msg.specs.Places.{votes_from}
use Rattle.paxos_acceptor.specs.declared.me.Me.{Me}
use Rattle.paxos_learner.specs.Entered.{keys_with}
use Rattle.paxos_learner.specs.Input.{has_key, same_key}
use Rattle.paxos_learner.specs.Learner.{Learner}
use Rattle.paxos_proposer.specs.declared.proposer.TheConstants.{MOST_PUMPED}
use Rattle.paxos_proposer.specs.Proposer.{Proposer, coverage_of, is_covered, is_covered_by, is_kept_from, next_of, proposal, proposing}
use Rattle.group_protocol.proofs.Elements.{first_in, rest_in}
use Rattle.group_protocol.specs.Known.{Known, Response, quiet}
use Rattle.group_protocol.specs.ProposerResponses.{are_known, is_known, is_known_key, offer_after, offering, submitted}
use Rattle.group_protocol.specs.Protocol.{on_message}
use Rattle.group_protocol.specs.Pump.{Proposals, pump}
use Rattle.group_protocol.specs.Ranges.{IsOwnProposer}
use Rattle.group_protocol.specs.Tick.{ticked}
use Rattle.group_world.specs.Group.{World}
use Rattle.group_world.proofs.WorldAsGroup.{running}
use Rattle.group_progress.specs.Below.{LeadLaws}
use Rattle.group_progress.proofs.Above.{Covers}
use Rattle.group_progress.proofs.Common.{Common, Setting}
use Rattle.group_progress.proofs.Learners.{count_within}
use Rattle.group_progress.proofs.Learning.{Lead}
use Rattle.group_progress.proofs.Pumps.{offers, rests}

-- ---- the majority

module _ (laws : LeadLaws) (x : Setting) (most : IsMajority x.group.size x.members) where
  pub size_is : {w : World} {p : Proposer} {l : Learner} {offered : List Key} → Common x w → Lead x w p l offered → p.size ≡ x.group.size
  size_is {w} {p} c lead =
      let sound = running c.good.holds.sound (record { there = lead.has.there; up = lead.has.up }) in
      let own : IsOwnProposer lead.known.me p = subst (λ o. IfSome o (IsOwnProposer lead.known.me)) lead.proposer sound.ranges.proposer in
      own.size ∙ ap (λ (me : Me). me.group.size) sound.me_is ∙ ap (λ (g : Group). g.size) c.group

  pub covered : (p : Proposer) → p.size ≡ x.group.size → Covers x p → (s : ℕ) → s < PLACES → is_covered p s ≡ true
  covered p size covers s low =
      let few = count_within x.members (is_covered_by p.coverages s) x.group.size
      (λ i some below own. lt-ltb s (coverage_of p i) (subst (λ n. s < n)
      (sym (covers i (record { some = some; below = below; own = own }))) low)) in
      (laws.tests.majority p.size (is_covered_by p.coverages s)).1
      (subst (λ n. IsMajority n (is_covered_by p.coverages s)) (sym size) (omega (arith, most, few)))

-- ---- the offer

offer_is : (p : Proposer) (v : Value) → is_covered p (next_of p) ≡ true → is_kept_from p.kept (next_of p) ≡ false → next_of p < PLACES
    → offer_after (pump MOST_PUMPED p) v ≡ record { proposer = proposing p (Some v); made = proposal p v ∷ [] }
offer_is p v covered none room =
    let stops = rests MOST_PUMPED p none in
    let value = offers p v covered none in
    let place = lt-ltb (next_of p) PLACES room in
    rw (stops, place, none, value) refl

-- the response to a Submit that has a new key
pub record Offers (n : Known) (p : Proposer) (v : Value) (done : Response) : Type 0 where
  pub proposer : done.node.proposer ≡ Some (proposing p (Some v))
  pub learner : done.node.learner ≡ n.learner
  pub offered : done.node.offered ≡ keys_with n.offered v
  pub kept : done.node.kept ≡ n.kept

offers_by : (n : Known) (p : Proposer) (v : Value) → is_covered p (next_of p) ≡ true → is_kept_from p.kept (next_of p) ≡ false →
    next_of p < PLACES
    → is_known n v ≡ false → Offers n p v (submitted n (Some p) v)
offers_by n p v covered none room new =
    let test : (is_covered p (next_of p) && not (is_known n v)) ≡ true = and_from _ _ covered (not_from_false (is_known n v) new) in
    let made = offer_is p v covered none room in
    let is : submitted n (Some p) v ≡ offering n v (pump MOST_PUMPED p)
    (record { proposer = proposing p (Some v); made = proposal p v ∷ [] }) =
    cond-true (is_covered p (next_of p) && not (is_known n v)) (offering n v (pump MOST_PUMPED p) (offer_after (pump MOST_PUMPED p) v))
    (quiet n) test
    ∙ ap (offering n v (pump MOST_PUMPED p)) made in
    subst (Offers n p v) (sym is) (record { proposer = refl; learner = refl; offered = refl; kept = refl })

pub submit_offers : (n : Known) (j : ℕ) (p : Proposer) (v : Value) → n.proposer ≡ Some p → is_covered p (next_of p) ≡ true
    → is_kept_from p.kept (next_of p) ≡ false → next_of p < PLACES → is_known n v ≡ false → Offers n p v (on_message n j (Submit v))
submit_offers n j p v e covered none room new =
    let o = subst (λ o. Offers n p v (submitted n o v)) (sym e) (offers_by n p v covered none room new) in
    record { proposer = o.proposer; learner = o.learner; offered = o.offered; kept = o.kept }

-- ---- new keys

not_all_known : (n : Known) (k : Key) (keys : List Key) → is_known_key n k ≡ false → are_known n (k ∷ keys) ≡ false
not_all_known n k keys e = and_left (is_known_key n k) (list_all (is_known_key n) keys) e

-- a value whose first key is new
pub new_value : (n : Known) (v : Value) (k : Key) (keys : List Key) → keys_of v ≡ k ∷ keys → is_known_key n k ≡ false → is_known n v ≡ false
new_value n v k keys e new = ap (are_known n) e ∙ not_all_known n k keys new

-- ---- a tick of a node that has nothing to pump

pub tick_rests : (n : Known) (o : Option Proposer) (p : Proposer) → o ≡ Some p → is_kept_from p.kept (next_of p) ≡ false
    → (ticked n o).node.proposer ≡ Some p
tick_rests n None p e none = absurd cc
tick_rests n (Some q) p e none =
    let same : q ≡ p = cc e in
    ap (λ (r : Proposer). Some (pump MOST_PUMPED r).proposer) same ∙ ap (λ (r : Proposals). Some r.proposer) (rests MOST_PUMPED p none)

-- ---- offered keys

of_insert : (keys : List Key) (k key : Key) → Contains (insert_key same_key keys k) key → Contains keys key ⊎ (k ≡ key)
of_insert keys k key =
    cond_both (list_any (same_key k) keys) keys (keys ++ k ∷ []) (λ ks. Contains ks key → Contains keys key ⊎ (k ≡ key)) (λ e h. inl h)
    (λ e h. Contains-push_cases keys k key h)

pub of_offered : (keys more : List Key) (key : Key) → Contains (insert_all same_key keys more) key → Contains keys key ⊎ Contains more key
of_offered keys [] key h = inl h
of_offered keys (k ∷ more) key h = elim (of_offered (insert_key same_key keys k) more key h) [
  | inl old ↦ elim (of_insert keys k key old) [
    | inl there ↦ inl there
    | inr is ↦ inr (subst (Contains (k ∷ more)) is (first_in k more))
  ]
  | inr later ↦ inr (rest_in k more key later)
]

-- ---- nothing is kept after a proposal

pub none_after : (s : ℕ) (votes : List Vote) → is_kept_from votes s ≡ false → is_kept_from (votes_from (s + 1) votes) (s + 1) ≡ false
none_after s [] e = refl
none_after s (v ∷ votes) e = grind (arith, nat_tests, none_after s votes)
