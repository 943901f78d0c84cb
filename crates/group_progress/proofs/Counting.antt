-- A vote that a learner has counted stays counted, or the place is learned, as long as no Accepted above the ballot is heard.
use Rattle.std.proofs.Common.{◌≡◌, ◌≢◌, ◌∙◌, ◌⊎◌, inl, inr, ℕ, Bool, List, Option, Some, None, refl, sym, ap, subst, arith, false, true, ◌&&◌, not}
use Rattle.std.proofs.lemmas.Bool.Decides.{nat_tests}
use Rattle.std.proofs.lemmas.Bool.{both_ways, cases_eq, cond_both}
use Rattle.std.proofs.lemmas.List.{get_or-set_other}
use Rattle.std.specs.FinMap.{FinMap, get, insert, remove}
use Rattle.std.specs.Ordering.{nat_cmp}
use Rattle.paxos_msg.specs.declared.ballot.Ballot.{Ballot}
use Rattle.paxos_msg.specs.declared.message.Body.TheVariants.{Prepare, Promise, Accept, Accepted, Refused, Submit, Ask, Tell}
use Rattle.paxos_msg.specs.declared.value.Value.{Value}
use Rattle.paxos_msg.specs.Ballots.{IsBelow}
use Rattle.paxos_msg.specs.Batches.{Body, Vote}
use Rattle.paxos_msg.specs.Tests.{ballot_lt, is_majority, same_ballot, same_value}
use Rattle.paxos_learner.proofs.OnePlace.{get_cut, get_here, get_put}
use Rattle.paxos_learner.specs.Learner.{HasLearnedMore, Hearing, Learner, counted, heard_accepted, heard_tell, is_open, learn}
use Rattle.paxos_learner.specs.Tallies.{Tally, begun_tally, has_node, joined_tally, tallied, with_node}
use Rattle.paxos_proposer.specs.Proposer.{Proposer, is_covered, next_of}
use Rattle.group_protocol.specs.Known.{Known, Response}
use Rattle.group_protocol.specs.Protocol.{on_message}
use Rattle.group_protocol.specs.ProposerResponses.{is_known, submitted, taking_part}
use Rattle.group_progress.specs.Below.{TestLaws}
use Rattle.group_progress.proofs.Calm.{IsCalmBody, IsSteady}
use Rattle.group_progress.proofs.Learners.{Counts, IsCounted}
use Rattle.group_progress.proofs.Telling.{tick_keeps}

-- what a map has at one place stays when another is put
put_elsewhere : {X : Type 0} (m : FinMap nat_cmp X) (q s : ℕ) (x y : X) → s ≢ q → get m s ≡ Some y → get (insert m q x) s ≡ Some y
put_elsewhere m q s x y other e = grind (arith, nat_tests, get_put m q x s)

-- or taken out
cut_elsewhere : {X : Type 0} (m : FinMap nat_cmp X) (q s : ℕ) (y : X) → s ≢ q → get m s ≡ Some y → get (remove m q) s ≡ Some y
cut_elsewhere m q s y other e = grind (arith, nat_tests, get_cut m q s)

-- a node of a set is one after another is added that was none of it
has_still : (nodes : List Bool) (i j : ℕ) → has_node nodes i ≡ true → has_node nodes j ≡ false → has_node (with_node nodes j) i ≡ true
has_still nodes i j e none = by (cases_eq i j) where
  by : (i ≡ j) ⊎ (i ≢ j) → has_node (with_node nodes j) i ≡ true
  by (inl same) = absurd (both_ways (has_node nodes j) none (ap (has_node nodes) (sym same) ∙ e))
  by (inr other) = get_or-set_other nodes j i true false other ∙ e

module _ (tests : TestLaws) (b : Ballot) (s : ℕ) (v : Value) (i : ℕ) where
  abbrev Still : Learner → Type 0
  Still l = Counts l b s v i

  -- another place
  counted_other : (l : Learner) (q : ℕ) (o : Option Tally) → s ≢ q → IsCounted l b s v i → Still (counted l q o).learner
  counted_other l q None other h = inr h
  counted_other l q (Some t) other h =
      cond_both (is_majority l.size (has_node t.nodes)) _ _ (λ (x : Hearing). Still x.learner)
      (λ e. inr (record {
        tally = h.tally;
        at = cut_elsewhere l.tallies q s h.tally other h.at;
        ballot = h.ballot;
        value = h.value;
        has = h.has;
      }))
      (λ e. inr (record {
        tally = h.tally;
        at = put_elsewhere l.tallies q s t h.tally other h.at;
        ballot = h.ballot;
        value = h.value;
        has = h.has;
      }))

  -- this place
  joined_here : (l : Learner) (t : Tally) (j : ℕ) → get l.tallies s ≡ Some t → t.ballot ≡ b → t.value ≡ v → has_node t.nodes i ≡ true
      → (x : Bool) → has_node t.nodes j ≡ x → Still (counted l s (joined_tally t j)).learner
  joined_here l t j at ballot value has true e = rw e (inr (record { tally = t; at = at; ballot = ballot; value = value; has = has }))
  joined_here l t j at ballot value has false e =
      let new : Tally = record t { nodes = with_node t.nodes j } in
      rw e (cond_both (is_majority l.size (has_node new.nodes)) (learn l s new.value) _ (λ (x : Hearing). Still x.learner)
      (λ more. inl (record { value = new.value; at = get_here l.learned s new.value }))
      (λ fewer. inr (record {
        tally = new;
        at = get_here l.tallies s new;
        ballot = ballot;
        value = value;
        has = has_still t.nodes i j has e;
      })))

  -- one more Accepted for this place, under a ballot that is not above
  counted_here : (l : Learner) (t : Tally) (j : ℕ) (c : Ballot) (u : Value) → get l.tallies s ≡ Some t → t.ballot ≡ b → t.value ≡ v
      → has_node t.nodes i ≡ true → ¬ IsBelow b c → Still (counted l s (tallied (Some t) j c u)).learner
  counted_here l t j c u at ballot value has low =
      cond_both (ballot_lt t.ballot c) (Some (begun_tally j c u)) _ (λ o. Still (counted l s o).learner)
      (λ e. absurd (low ((tests.below b c).0 (subst (λ d. ballot_lt d c ≡ true) ballot e))))
      (λ e. cond_both (same_ballot t.ballot c && same_value t.value u) (joined_tally t j) None (λ o. Still (counted l s o).learner)
      (λ f. joined_here l t j at ballot value has (has_node t.nodes j) refl)
      (λ f. inr (record { tally = t; at = at; ballot = ballot; value = value; has = has })))

  -- an Accepted of any place
  heard_counts : (l : Learner) (j : ℕ) (c : Ballot) (q : ℕ) (u : Value) → ¬ IsBelow b c → IsCounted l b s v i
      → Still (heard_accepted l j c q u).learner
  heard_counts l j c q u low h =
      cond_both (is_open l q) (counted l q (tallied (get l.tallies q) j c u)) _ (λ (x : Hearing). Still x.learner) (λ e. by (cases_eq s q))
      (λ e. inr h) where
        by : (s ≡ q) ⊎ (s ≢ q) → Still (counted l q (tallied (get l.tallies q) j c u)).learner
        by (inr other) = counted_other l q (tallied (get l.tallies q) j c u) other h
        by (inl same) =
            subst (λ k. Still (counted l k (tallied (get l.tallies k) j c u)).learner) same
            (subst (λ o. Still (counted l s (tallied o j c u)).learner) (sym h.at)
            (counted_here l h.tally j c u h.at h.ballot h.value h.has low))

  -- a Tell
  told_counts : (l : Learner) (q : ℕ) (u : Value) → IsCounted l b s v i → Still (heard_tell l q u).learner
  told_counts l q u h =
      cond_both (is_open l q) (learn l q u) _ (λ (x : Hearing). Still x.learner) (λ e. by (cases_eq s q)) (λ e. inr h) where
        by : (s ≡ q) ⊎ (s ≢ q) → Still (learn l q u).learner
        by (inr other) = inr (record {
          tally = h.tally;
          at = cut_elsewhere l.tallies q s h.tally other h.at;
          ballot = h.ballot;
          value = h.value;
          has = h.has;
        })
        by (inl same) = inl (record { value = u; at = rw same (get_here l.learned q u) })

  module _ (n : Known) (h : IsCounted n.learner b s v i) where
    -- the other messages, one kind after another
    part_counts : (o : Option Proposer) (j : ℕ) (c : Ballot) (first upto : ℕ) (votes : List Vote)
        → Still (taking_part n o j c first upto votes).node.learner
    part_counts None j c first upto votes = inr h
    part_counts (Some p) j c first upto votes =
        cond_both (same_ballot p.ballot c) _ _ (λ (x : Response). Still x.node.learner) (λ e. inr h) (λ e. inr h)

    -- a Submit
    submit_counts : (o : Option Proposer) (u : Value) → Still (submitted n o u).node.learner
    submit_counts None u = inr h
    submit_counts (Some p) u =
        cond_both (is_covered p (next_of p) && not (is_known n u)) _ _ (λ (x : Response). Still x.node.learner) (λ e. inr h) (λ e. inr h)

    -- any calm message
    message_counts : (j : ℕ) (body : Body) → IsCalmBody b body → Still (on_message n j body).node.learner
    message_counts j (Prepare c from) calm = inr h
    message_counts j (Promise c first upto votes) calm = part_counts n.proposer j c first upto votes
    message_counts j (Accept c q u) calm = inr h
    message_counts j (Accepted c q u) calm = heard_counts n.learner j c q u calm.0 h
    message_counts j (Refused c promised) calm = inr h
    message_counts j (Submit u) calm = submit_counts n.proposer u
    message_counts j (Ask from) calm = inr h
    message_counts j (Tell q u) calm = told_counts n.learner q u h

  -- the vote of node `i` is counted, or the place is learned
  abbrev pub IsCountedBy : Known → Type 0
  IsCountedBy n = Counts n.learner b s v i

  -- so it is a steady fact
  pub counts_steady : ((n : Known) (j : ℕ) (body : Body) → HasLearnedMore n.learner.learned (on_message n j body).node.learner.learned)
      → IsSteady b IsCountedBy
  counts_steady more = record {
    message = λ n j body calm h. elim h [
      | inl known ↦ inl (record { value = known.value; at = (more n j body).stays s known.value known.at })
      | inr c ↦ message_counts n c j body calm
    ];
    tick = λ n h. subst Still (sym (tick_keeps n n.proposer).learner) h;
    typed = λ n byte h. h;
  }
