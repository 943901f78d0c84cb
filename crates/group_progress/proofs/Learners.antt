-- A learner that hears a majority of Accepted messages, or a Tell.
use Rattle.std.proofs.Common.{◌≡◌, ◌∙◌, ◌⊎◌, inl, inr, ℕ, zero, suc, ◌+◌, ◌<◌, ◌≤◌, Bool, IsTrue, length, Option, Some, None, IfSome, refl, sym, subst, arith, false, true, ◌&&◌}
use Rattle.std.proofs.lemmas.Bool.Decides.{nat_tests}
use Rattle.std.proofs.lemmas.Bool.{and_from, both_ways, cond_both, lt-ltb, cond-true, cond-false}
use Rattle.std.specs.FinMap.{get, insert}
use Rattle.paxos_msg.specs.declared.ballot.Ballot.{Ballot}
use Rattle.paxos_msg.specs.declared.value.Value.{Value}
use Rattle.paxos_msg.specs.Ballots.{IsMajority, count_of}
use Rattle.paxos_msg.specs.Tests.{ballot_lt, is_majority, same_ballot, same_value}
use Rattle.paxos_learner.proofs.OnePlace.{get_here}
use Rattle.paxos_learner.specs.declared.learner.TheConstants.{WINDOW}
use Rattle.paxos_learner.specs.Learner.{Hearing, Learner, counted, front_of, heard_accepted, heard_tell, is_open, learn}
use Rattle.paxos_learner.specs.Tallies.{Tally, begun_tally, has_node, joined_tally, no_nodes, tallied, with_node}
use Rattle.group_progress.specs.Below.{TestLaws}
use Rattle.group_progress.proofs.Tallies.{AreRight, long_none, node_kept, node_put}

-- ---- what is learned at a place

pub record IsLearnedAt (l : Learner) (s : ℕ) : Type 0 where
  pub value : Value
  pub at : get l.learned s ≡ Some value

open_at : (l : Learner) (s : ℕ) → get l.learned s ≡ None → s < front_of l.learned + WINDOW → is_open l s ≡ true
open_at l s none below = and_from _ _ (rw none refl) (lt-ltb s (front_of l.learned + WINDOW) below)

-- a Tell at an open place
pub told : (l : Learner) (s : ℕ) (v : Value) → get l.learned s ≡ None → s < front_of l.learned + WINDOW
    → get (heard_tell l s v).learner.learned s ≡ Some v
told l s v none below = rw (open_at l s none below) (get_here l.learned s v)

-- ---- tallies

-- the tally of the place, for this ballot and value, has node `i`
pub record IsCounted (l : Learner) (b : Ballot) (s : ℕ) (v : Value) (i : ℕ) : Type 0 where
  pub tally : Tally
  pub at : get l.tallies s ≡ Some tally
  pub ballot : tally.ballot ≡ b
  pub value : tally.value ≡ v
  pub has : has_node tally.nodes i ≡ true

abbrev pub Counts : Learner → Ballot → ℕ → Value → ℕ → Type 0
Counts l b s v i = IsLearnedAt l s ⊎ IsCounted l b s v i

-- a tally of the place is under a smaller ballot, or under this one for this value
abbrev pub MayJoin : TestLaws → Ballot → Value → Tally → Type 0
MayJoin tests b v t = (ballot_lt t.ballot b ≡ true) ⊎ ((t.ballot ≡ b) × (t.value ≡ v))

module _ (tests : TestLaws) (l : Learner) (right : AreRight l) (b : Ballot) (s : ℕ) (v : Value) where
  -- the node and all that were counted before are counted after a new tally
  abbrev After : ℕ → Learner → Type 0
  After i new = Counts new b s v i × ((j : ℕ) → Counts l b s v j → Counts new b s v j)

  not_below : ballot_lt b b ≡ false
  not_below = (tests.not_below b b).1 (inr (refl, omega arith))

  -- a tally is put
  counted_put : (i : ℕ) (t : Tally) → get l.learned s ≡ None → t.ballot ≡ b → t.value ≡ v → has_node t.nodes i ≡ true
      → ((j : ℕ) → IsCounted l b s v j → has_node t.nodes j ≡ true) → After i (counted l s (Some t)).learner
  counted_put i t none ballot value has keeps =
      cond_both (is_majority l.size (has_node t.nodes)) _ _ (λ (x : Hearing). After i x.learner)
      (λ e. let known : IsLearnedAt (learn l s t.value).learner s = record { value = t.value; at = get_here l.learned s t.value } in
      (inl known, λ j old. inl known))
      (λ e.
      let at = get_here l.tallies s t in (
        inr (record { tally = t; at = at; ballot = ballot; value = value; has = has }),
        λ j old. by j at old,
      )) where
        by : (j : ℕ) → get (insert l.tallies s t) s ≡ Some t → Counts l b s v j
            → Counts (record l { tallies = insert l.tallies s t }) b s v j
        by j at (inl known) = inl (record { value = known.value; at = known.at })
        by j at (inr old) = inr (record { tally = t; at = at; ballot = ballot; value = value; has = keeps j old })

  -- what the place had
  heard_with : (i : ℕ) → i < 10 → get l.learned s ≡ None → (o : Option Tally) → get l.tallies s ≡ o → IfSome o (MayJoin tests b v)
      → After i (counted l s (tallied o i b v)).learner
  heard_with i few none None at may =
      counted_put i (begun_tally i b v) none refl refl (node_put no_nodes i (omega (arith, few, long_none)))
      (λ j old. let no : Some old.tally ≡ None = sym old.at ∙ at in absurd cc)
  heard_with i few none (Some t) at (inl below) =
      subst (λ o. After i (counted l s o).learner) (sym (cond-true (ballot_lt t.ballot b) _ _ below))
      (counted_put i (begun_tally i b v) none refl refl (node_put no_nodes i (omega (arith, few, long_none)))
      (λ j old.
      let same : old.tally ≡ t = cc (sym old.at ∙ at) in
      let is : t.ballot ≡ b = subst (λ (x : Tally). x.ballot ≡ b) same old.ballot in
      absurd (both_ways (ballot_lt b b) not_below (subst (λ x. ballot_lt x b ≡ true) is below))))
  heard_with i few none (Some t) at (inr (ballot, value)) =
      let low : ballot_lt t.ballot b ≡ false = rw ballot not_below in
      let same : (same_ballot t.ballot b && same_value t.value v) ≡ true =
      and_from _ _ ((tests.same t.ballot b).1 ballot) ((tests.same_values t.value v).1 value) in
      subst (λ o. After i (counted l s o).learner)
      (sym (cond-false (ballot_lt t.ballot b) _ _ low ∙ cond-true (same_ballot t.ballot b && same_value t.value v) _ _ same))
      (joins (has_node t.nodes i) refl) where
        own : (j : ℕ) (old : IsCounted l b s v j) → has_node t.nodes j ≡ true
        own j old = let same : old.tally ≡ t = cc (sym old.at ∙ at) in subst (λ (x : Tally). has_node x.nodes j ≡ true) same old.has

        long : length t.nodes ≡ 10
        long = (right s t at).long

        joins : (x : Bool) → has_node t.nodes i ≡ x → After i (counted l s (joined_tally t i)).learner
        joins true e =
            rw e (inr (record { tally = t; at = at; ballot = ballot; value = value; has = e }), λ j old. old)
        joins false e =
            rw e (counted_put i (record t { nodes = with_node t.nodes i }) none ballot value (node_put t.nodes i (omega (arith, few, long)))
            (λ j old. node_kept t.nodes i j (omega (arith, few, long)) (own j old)))

  -- an Accepted of node `i`
  pub hears_accepted : (i : ℕ) → i < 10 → s < front_of l.learned + WINDOW
      → ((t : Tally) → get l.tallies s ≡ Some t → MayJoin tests b v t) → After i (heard_accepted l i b s v).learner
  hears_accepted i few below may = by (get l.learned s) refl where
    joins : (o : Option Tally) → get l.tallies s ≡ o → IfSome o (MayJoin tests b v)
    joins None e = tt
    joins (Some t) e = may t e

    by : (o : Option Value) → get l.learned s ≡ o → After i (heard_accepted l i b s v).learner
    by None e = rw (open_at l s e below) (heard_with i few e (get l.tallies s) refl (joins (get l.tallies s) refl))
    by (Some u) e =
        let closed : is_open l s ≡ false = rw e refl in
        rw closed (inl (record { value = u; at = e }), λ j old. old)

-- ---- a majority

pub count_within : (p q : ℕ → Bool) (n : ℕ) → ((i : ℕ) → 0 < i → i ≤ n → IsTrue (p i) → IsTrue (q i)) → count_of p n ≤ count_of q n
count_within p q zero all = omega arith
count_within p q (suc n) all =
    let rest = count_within p q n (λ i some below. all i some (omega (arith, below))) in
    grind (arith, nat_tests, all (suc n) (omega arith) (omega arith))

pub none_counted : (n : ℕ) → count_of (λ i. false) n ≡ 0
none_counted zero = refl
none_counted (suc n) = grind (arith, none_counted n)

-- what a majority was counted for is learned
pub learned_by : TestLaws → (l : Learner) → AreRight l → (members : ℕ → Bool) → IsMajority l.size members → (b : Ballot) (s : ℕ) (v : Value)
    → ((i : ℕ) → 0 < i → i ≤ l.size → IsTrue (members i) → Counts l b s v i) → IsLearnedAt l s
learned_by tests l right members most b s v all = by (get l.learned s) refl (get l.tallies s) refl where
  none : (o : Option Value) → get l.learned s ≡ o → o ≡ None → IsLearnedAt l s → ⊥
  none o e is known = let no : Some known.value ≡ None = sym known.at ∙ e ∙ is in absurd cc

  by : (o : Option Value) → get l.learned s ≡ o → (t : Option Tally) → get l.tallies s ≡ t → IsLearnedAt l s
  by (Some u) e t at = record { value = u; at = e }
  by None e None at =
      let few = count_within members (λ i. false) l.size
      (λ i some below own.
      elim (all i some below own) [
        | inl known ↦ absurd (none None e refl known)
        | inr c ↦ let no : Some c.tally ≡ None = sym c.at ∙ at in absurd cc
      ]) in
      absurd (omega (arith, most, few, none_counted l.size))
  by None e (Some t) at =
      let few = count_within members (has_node t.nodes) l.size
      (λ i some below own.
      elim (all i some below own) [
        | inl known ↦ absurd (none None e refl known)
        | inr c ↦ let same : c.tally ≡ t = cc (sym c.at ∙ at) in subst (λ (x : Tally). IsTrue (has_node x.nodes i)) same c.has
      ]) in
      absurd (both_ways (is_majority l.size (has_node t.nodes)) (right s t at).minor
      ((tests.majority l.size (has_node t.nodes)).1 (omega (arith, most, few))))
