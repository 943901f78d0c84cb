-- Nothing is learned at the places where the leading node proposes next, and what is learned below is what it has proposed.
use Rattle.std.proofs.Common.{◌≡◌, ◌∙◌, inl, inr, ℕ, ◌<◌, ◌≤◌, Bool, IsTrue, List, [], ◌∷◌, Option, Some, None, IsSomeAnd, refl, sym, subst, arith, false, true}
use Rattle.std.proofs.lemmas.Bool.Decides.{nat_tests}
use Rattle.std.proofs.lemmas.Bool.{cases_lt, cases_Bool, lt-ltb}
use Rattle.std.proofs.lemmas.Option.{slice_get_past}
use Rattle.std.specs.FinMap.{get}
use Rattle.paxos_msg.specs.declared.limits.TheConstants.{PLACES}
use Rattle.paxos_msg.specs.declared.message.Group.{Group}
use Rattle.paxos_msg.specs.declared.message.Body.TheVariants.{Accept}
use Rattle.paxos_msg.specs.declared.value.Value.{Value}
use Rattle.paxos_msg.specs.Ballots.{IsAtMost, IsBelow, IsMajority}
use Rattle.paxos_msg.specs.Batches.{Vote}
use Rattle.paxos_msg.specs.Chosen.{IsChosen}
use Rattle.paxos_msg.specs.Keys.{Key}
use Rattle.paxos_msg.specs.Messages.{IsSaid, kept_vote_at}
use Rattle.paxos_msg.specs.Sending.{IsBest}
use Rattle.paxos_msg.specs.Tests.{ballot_lt}
use Rattle.paxos_msg.proofs.Agreement.{later_same}
use Rattle.paxos_msg.proofs.CountingNodes.{majorities_meet}
use Rattle.paxos_learner.specs.Learner.{Learner, front_of}
use Rattle.paxos_proposer.specs.Proposer.{Proposer, coverage_of, is_covered_by, is_kept_from, next_of, proposed_at}
use Rattle.group_protocol.specs.Known.{Known}
use Rattle.group_world.specs.Group.{World, world_state}
use Rattle.group_progress.specs.Below.{LeadLaws}
use Rattle.group_progress.proofs.Going.{by_rules}
use Rattle.group_progress.proofs.Steps.{Has}
use Rattle.group_progress.proofs.Common.{Common, IsOf, Setting, grown, none_greater}
use Rattle.group_progress.proofs.Learning.{Lead, one_ballot}
use Rattle.group_progress.proofs.Chasing.{backed}
use Rattle.group_progress.proofs.Telling.{some_at}

pub none_kept : (n s : ℕ) (votes : List Vote) → is_kept_from votes n ≡ false → n ≤ s → kept_vote_at votes s ≡ None
none_kept n s [] e low = refl
none_kept n s (x ∷ xs) e low = grind (arith, nat_tests, none_kept n s xs)

pub none_proposed : (p : Proposer) (s : ℕ) → next_of p ≤ s → proposed_at p s ≡ None
none_proposed p s low = grind (arith, nat_tests, slice_get_past)

pub none_best : (members : ℕ → Bool) (reported : ℕ → Option Vote) (kept : Option Vote) → kept ≡ None → IsBest members reported kept
    → (i : ℕ) → IsTrue (members i) → reported i ≡ None
none_best members reported None e best i own = best i own
none_best members reported (Some vote) e best i own = absurd cc

-- all acceptors that act have promised all places
abbrev pub Covers : Setting → Proposer → Type 0
Covers x p = (i : ℕ) → IsOf x i → coverage_of p i ≡ PLACES

module _ (laws : LeadLaws) (x : Setting) (most : IsMajority x.group.size x.members) {w : World} (c : Common x w) where
  module _ {i : ℕ} {k : Known} (has : Has w i k) where
    pub chosen_at : (s : ℕ) (u : Value) → get k.learner.learned s ≡ Some u → IsChosen w.group.size (world_state w).sent s u
    chosen_at s u at = (by_rules c.good.holds (record { there = has.there; up = has.up })).learned.chosen s u at

    -- what is learned at a place is what was proposed there
    pub learned_is : (s : ℕ) (u proposed : Value) → get k.learner.learned s ≡ Some u → IsSaid (world_state w).sent
        (Accept x.ballot s proposed)
        → proposed ≡ u
    learned_is s u proposed at said =
        let (b, chosen) = chosen_at s u at in
        let inv = grown x c most in
        let (i, low, high, here, there) = majorities_meet w.group.size chosen.0 chosen.0 chosen.1 chosen.1 in
        let above = none_greater x c most b s u (inv.accepted i b s u (chosen.2 i here)) in
        later_same inv chosen x.ballot proposed said (elim (cases_Bool (ballot_lt x.ballot b)) [
          | inl more ↦ absurd (above ((laws.tests.below x.ballot b).0 more))
          | inr not ↦ (laws.tests.not_below x.ballot b).0 not
        ])

    -- nothing is learned where the leading node proposes next
    pub none_above : {p : Proposer} {l : Learner} {offered : List Key} → Lead x w p l offered → Covers x p → is_kept_from p.kept
        (next_of p) ≡ false
        → (s : ℕ) (u : Value) → next_of p ≤ s → s < PLACES → get k.learner.learned s ≡ Some u → ⊥
    none_above {p} lead covers none s u low high at =
        let (b, chosen) = chosen_at s u at in
        let inv = grown x c most in
        let (i, some, below, here, there) = majorities_meet x.group.size x.members chosen.0 most
        (subst (λ (g : Group). IsMajority g.size chosen.0) c.group chosen.1) in
        let accepted = chosen.2 i there in
        let of : IsOf x i = record { some = some; below = below; own = here } in
        let back = backed laws x most c lead in
        let h = back.heard s low in
        let covered : is_covered_by p.coverages s i ≡ true = lt-ltb s (coverage_of p i) (subst (λ n. s < n) (sym (covers i of)) high) in
        let silent = none_best (is_covered_by p.coverages s) h.reported (kept_vote_at p.kept s)
        (none_kept (next_of p) s p.kept none low) h.is_best i covered in
        let above = none_greater x c most b s u (inv.accepted i b s u accepted) in
        elim (cases_Bool (ballot_lt b x.ballot)) [
          | inl less ↦
              let latest = (inv.reports i p.ballot s (h.reported i) (h.promised i covered)).latest b u accepted
              (subst (λ d. IsBelow b d) (sym lead.ballot) ((laws.tests.below b x.ballot).0 less)) in
              subst (λ o. IsSomeAnd o (λ (vote : Vote). IsAtMost b vote.ballot)) silent latest
          | inr least ↦ elim (cases_Bool (ballot_lt x.ballot b)) [
            | inl more ↦ above ((laws.tests.below x.ballot b).0 more)
            | inr most_of ↦
                let same : b ≡ x.ballot = one_ballot laws.tests b x.ballot ((laws.tests.not_below b x.ballot).0 least)
                ((laws.tests.not_below x.ballot b).0 most_of) in
                let said : IsSaid (world_state w).sent (Accept p.ballot s u) =
                subst (λ d. IsSaid (world_state w).sent (Accept d s u)) (same ∙ sym lead.ballot) (inv.accepted i b s u accepted) in
                let no : Some u ≡ None = sym (back.only s u said) ∙ none_proposed p s low in
                absurd cc
          ]
        ]

    -- so no front is above
    pub front_within : {p : Proposer} {l : Learner} {offered : List Key} → Lead x w p l offered → Covers x p → is_kept_from p.kept
        (next_of p) ≡ false
        → next_of p < PLACES → front_of k.learner.learned ≤ next_of p
    front_within {p} lead covers none room = elim (cases_lt (next_of p) (front_of k.learner.learned)) [
      | inl above ↦
          let (u, at) = some_at k.learner.learned (next_of p) ((laws.front k.learner).below (next_of p) above) in
          absurd (none_above lead covers none (next_of p) u (omega arith) room at)
      | inr within ↦ within
    ]
