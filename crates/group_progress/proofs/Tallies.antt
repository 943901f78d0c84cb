-- Tallies of places: each has a node, and is no majority.
use Rattle.std.proofs.Common.{◌≡◌, ◌≢◌, ◌∙◌, ◌⊎◌, inl, inr, ℕ, ◌<◌, Bool, List, length, Option, Some, None, IfSome, refl, sym, arith, false, true, ◌&&◌, nat_cmp}
use Rattle.std.proofs.lemmas.Bool.{cases_eq, cond_both}
use Rattle.std.proofs.lemmas.List.{get_or-set_same, get_or-set_other, length-set, length-replicate}
use Rattle.std.specs.FinMap.{get, get-empty}
use Rattle.paxos_msg.specs.declared.ballot.Ballot.{Ballot}
use Rattle.paxos_msg.specs.declared.value.Value.{Value}
use Rattle.paxos_msg.specs.Tests.{ballot_lt, is_majority, same_ballot, same_value}
use Rattle.paxos_learner.proofs.OnePlace.{get_left, each_put}
use Rattle.paxos_learner.specs.Learner.{Hearing, Learner, counted, heard_accepted, heard_tell, is_open, learn, new_learner}
use Rattle.paxos_learner.specs.Tallies.{Tally, has_node, no_nodes, tallied, with_node}

-- a tally that has a node, and no majority
pub record IsRight (size : ℕ) (t : Tally) : Type 0 where
  pub node : ℕ
  pub has : has_node t.nodes node ≡ true
  pub minor : is_majority size (has_node t.nodes) ≡ false
  pub long : length t.nodes ≡ 10

-- each tally is so
abbrev pub AreRight : Learner → Type 0
AreRight l = (s : ℕ) (t : Tally) → get l.tallies s ≡ Some t → IsRight l.size t

-- ---- nodes of a tally

pub node_put : (nodes : List Bool) (i : ℕ) → i < length nodes → has_node (with_node nodes i) i ≡ true
node_put nodes i less = get_or-set_same nodes i true false less

pub node_kept : (nodes : List Bool) (i j : ℕ) → i < length nodes → has_node nodes j ≡ true → has_node (with_node nodes i) j ≡ true
node_kept nodes i j less h = by (cases_eq j i) where
  by : (j ≡ i) ⊎ (j ≢ i) → has_node (with_node nodes i) j ≡ true
  by (inr other) = get_or-set_other nodes i j true false other ∙ h
  by (inl same) = rw same (node_put nodes i less)

pub long_none : length no_nodes ≡ 10
long_none = length-replicate 10 false

-- ---- a learner that has heard nothing

pub right_first : (size : ℕ) → AreRight (new_learner size)
right_first size s t e = let no : None ≡ Some t = sym (get-empty nat_cmp s) ∙ e in absurd cc

-- ---- what it learns

module _ (l : Learner) (h : AreRight l) where
  right_learn : (s : ℕ) (v : Value) → AreRight (learn l s v).learner
  right_learn s v q t e = h q t (get_left l.tallies s q t e)

  pub right_told : (s : ℕ) (v : Value) → AreRight (heard_tell l s v).learner
  right_told s v = cond_both (is_open l s) _ _ (λ (x : Hearing). AreRight x.learner) (λ e. right_learn s v) (λ e. h)

  right_counted : (s : ℕ) (o : Option Tally) → IfSome o (λ t. (is_majority l.size (has_node t.nodes) ≡ false) → IsRight l.size t)
      → AreRight (counted l s o).learner
  right_counted s None new = h
  right_counted s (Some t) new =
      cond_both (is_majority l.size (has_node t.nodes)) _ _ (λ (x : Hearing). AreRight x.learner) (λ e. right_learn s t.value)
      (λ e. each_put l.tallies s (λ q t. IsRight l.size t) t (new e) h)

  -- the tally of a place after one more Accepted
  right_tallied : (o : Option Tally) (i : ℕ) (b : Ballot) (v : Value) → i < 10 → IfSome o (IsRight l.size)
      → IfSome (tallied o i b v) (λ t. (is_majority l.size (has_node t.nodes) ≡ false) → IsRight l.size t)
  right_tallied None i b v few old =
      λ minor. record {
        node = i;
        has = node_put no_nodes i (omega (
          arith,
          few,
          long_none,
        ));
        minor = minor;
        long = length-set no_nodes i true ∙ long_none;
      }
  right_tallied (Some t) i b v few old =
      cond_both (ballot_lt t.ballot b) _ _ (λ o. IfSome o (λ (t : Tally). (is_majority l.size (has_node t.nodes) ≡ false) → IsRight
      l.size t))
      (λ e minor.
      record {
        node = i;
        has = node_put no_nodes i (omega (
          arith,
          few,
          long_none,
        ));
        minor = minor;
        long = length-set no_nodes i true ∙ long_none;
      })
      (λ e.
      cond_both (same_ballot t.ballot b && same_value t.value v) _ _
      (λ o. IfSome o (λ (t : Tally). (is_majority l.size (has_node t.nodes) ≡ false) → IsRight l.size t))
      (λ e.
      cond_both (has_node t.nodes i) _ _ (λ o. IfSome o (λ (t : Tally). (is_majority l.size (has_node t.nodes) ≡ false) → IsRight
      l.size t)) (λ e. tt)
      (λ e minor.
      record {
        node = i;
        has = node_put t.nodes i (omega (
          arith,
          few,
          old.long,
        ));
        minor = minor;
        long = length-set t.nodes i true ∙ old.long;
      }))
      (λ e. tt))

  pub right_heard : (i s : ℕ) (b : Ballot) (v : Value) → i < 10 → AreRight (heard_accepted l i b s v).learner
  right_heard i s b v few = cond_both (is_open l s) _ _ (λ (x : Hearing). AreRight x.learner)
      (λ e. right_counted s _ (right_tallied (get l.tallies s) i b v few (old (get l.tallies s) refl))) (λ e. h) where
        old : (o : Option Tally) → get l.tallies s ≡ o → IfSome o (IsRight l.size)
        old None e = tt
        old (Some t) e = h s t e
