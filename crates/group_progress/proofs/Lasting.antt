-- Facts of the leading node's proposer and of the keys that it has offered, which stay through calm calls.
use Rattle.std.proofs.Common.{◌≡◌, ◌≢◌, ◌∙◌, ◌⊎◌, inl, inr, ℕ, zero, suc, ◌+◌, ◌<◌, ◌≤◌, ◌==◌, Contains, List, [], ◌∷◌, Option, Some, None, Bool, refl, sym, ap, subst, arith, false, true, nat_le, ◌&&◌, ◌||◌, not}
use Rattle.std.proofs.lemmas.Bool.Decides.{nat_tests}
use Rattle.std.proofs.lemmas.Bool.{cases_eq, cases_lt, cond_both, cond-true, eq-eqb, le-leb}
use Rattle.std.proofs.lemmas.Option.{slice_get_past}
use Rattle.paxos_msg.specs.declared.ballot.Ballot.{Ballot}
use Rattle.paxos_msg.specs.declared.message.Body.TheVariants.{Prepare, Promise, Accept, Accepted, Refused, Submit, Ask, Tell}
use Rattle.paxos_msg.specs.declared.value.Value.{Value}
use Rattle.paxos_msg.specs.Batches.{Body, Vote}
use Rattle.paxos_msg.specs.Keys.{Key, keys_of}
use Rattle.paxos_msg.specs.Messages.{kept_vote_at}
use Rattle.paxos_msg.specs.Places.{votes_from}
use Rattle.paxos_msg.specs.Records.{with_vote}
use Rattle.paxos_msg.specs.Tests.{same_ballot}
use Rattle.paxos_learner.specs.Entered.{keys_with}
use Rattle.paxos_proposer.specs.declared.proposer.TheConstants.{MOST_PUMPED}
use Rattle.paxos_proposer.specs.Proposer.{Proposer, greater, heard, heard_one, is_covered, is_kept_from, next_of, next_value, proposed_at, proposer_after_part, proposing, rises}
use Rattle.paxos_proposer.proofs.Proposals.{proposed_next}
use Rattle.group_protocol.proofs.Elements.{in_cases, none_in}
use Rattle.group_protocol.specs.AcceptorResponses.{unless_passed}
use Rattle.group_protocol.specs.Known.{Known, Response}
use Rattle.group_protocol.specs.Protocol.{on_message}
use Rattle.group_protocol.specs.ProposerResponses.{is_known, leaves_room, offer_after, offered_with, submitted, taking_part, unless_refused}
use Rattle.group_protocol.specs.Pump.{Proposals, offer, pump, stop}
use Rattle.group_protocol.specs.Tick.{ticked}
use Rattle.group_progress.specs.Below.{TestLaws}
use Rattle.group_progress.proofs.Calm.{IsCalmBody, IsSteady, Promised, message_keeps, promised_kept}
use Rattle.group_progress.proofs.Learning.{not_passed}
use Rattle.group_progress.proofs.Leading.{pump_same}
use Rattle.group_progress.proofs.Pumps.{next_after, offers}
use Rattle.group_progress.proofs.Submitting.{of_offered}

-- a fact of a proposer and of offered keys that stays as it hears promises and proposes
pub record IsLasting (P : Proposer → List Key → Type 0) : Type 0 where
  pub part : (p : Proposer) (j first upto : ℕ) (votes : List Vote) (ks : List Key) → P p ks
      → P (proposer_after_part p j first upto votes) ks
  pub pumps : (p : Proposer) (v : Value) (ks : List Key) → P p ks → P (proposing p (Some v)) ks
  pub offers : (p : Proposer) (v : Value) (ks : List Key) → P p ks → P (proposing p (Some v)) (keys_with ks v)

-- the node proposes under the ballot, which it has promised, with this of its proposer
pub record LeadsWith (b : Ballot) (P : Proposer → List Key → Type 0) (n : Known) : Type 0 where
  pub proposer : Proposer
  pub now : n.proposer ≡ Some proposer
  pub ballot : proposer.ballot ≡ b
  pub promised : n.kept.promised ≡ Some b
  pub holds : P proposer n.offered

-- tests of two
or_left_true : (x y : Bool) → x ≡ true → (x || y) ≡ true
or_left_true true y e = refl
or_left_true false y e = absurd cc

-- the same of the second
or_right_true : (x y : Bool) → y ≡ true → (x || y) ≡ true
or_right_true true y e = refl
or_right_true false y e = e

-- the second of two that hold
last_of : (x y : Bool) → (x && y) ≡ true → y ≡ true
last_of true y e = e
last_of false y e = absurd cc

-- what is not true is false
not_true : (x : Bool) → not x ≡ true → x ≡ false
not_true true e = absurd cc
not_true false e = refl

module _ (tests : TestLaws) (b : Ballot) (P : Proposer → List Key → Type 0) (lasting : IsLasting P) where
  -- a pump keeps it
  pub pump_lasts : (n : ℕ) (p : Proposer) (ks : List Key) → P p ks → P (pump n p).proposer ks
  unfolding pump
  pump_lasts zero p ks h = h
  pump_lasts (suc n) p ks h = by (λ q g. pump_lasts n q ks g) (next_value p None) refl where
    by : ((q : Proposer) → P q ks → P (pump n q).proposer ks) → (o : Option Value) → next_value p None ≡ o → P (pump (suc n) p).proposer ks
    by more None e = rw e h
    by more (Some v) e = rw e (more (proposing p (Some v)) (lasting.pumps p v ks h))

  -- an offer keeps it, where no kept vote decides
  offer_lasts : (p : Proposer) (v : Value) (ks : List Key) → is_kept_from p.kept (next_of p) ≡ false → P p ks
      → P (offer p v).proposer (offered_with ks v (offer p v).made)
  offer_lasts p v ks none h = by (is_covered p (next_of p)) refl where
    by : (t : Bool) → is_covered p (next_of p) ≡ t → P (offer p v).proposer (offered_with ks v (offer p v).made)
    by true covered = rw (offers p v covered none) (lasting.offers p v ks h)
    by false bare = let e : next_value p (Some v) ≡ None = rw bare refl in rw e h

  -- so does what follows a pump at a Submit
  pub after_lasts : (pumped : Proposals) (v : Value) (ks : List Key) → P pumped.proposer ks
      → P (offer_after pumped v).proposer (offered_with ks v (offer_after pumped v).made)
  after_lasts pumped v ks h =
      cond_both (leaves_room pumped) (offer pumped.proposer v) (stop pumped.proposer)
      (λ (x : Proposals). P x.proposer (offered_with ks v x.made))
      (λ e. offer_lasts pumped.proposer v ks (not_true _ (last_of _ _ (last_of _ _ e))) h) (λ e. h)

  -- the proposer stays where the promised ballot is its own
  stays_passed : (p : Proposer) (promised : Option Ballot) (o : Option Proposer) → promised ≡ Some b → o ≡ Some p → p.ballot ≡ b
      → unless_passed promised o ≡ Some p
  stays_passed p promised o e is ballot = rw (e, is) (not_passed tests b p ballot)

  -- and where another ballot is refused
  stays_refused : (p : Proposer) (d : Ballot) (o : Option Proposer) → o ≡ Some p → p.ballot ≡ b → d ≢ b → unless_refused d o ≡ Some p
  stays_refused p d o is ballot other = rw is (by (same_ballot p.ballot d) refl) where
    by : (t : Bool) → same_ballot p.ballot d ≡ t → unless_refused d (Some p) ≡ Some p
    by true e = absurd (other (sym ((tests.same p.ballot d).0 e) ∙ ballot))
    by false e = rw e refl

  -- an offer is under the same ballot
  pub after_ballot : (pumped : Proposals) (v : Value) → (offer_after pumped v).proposer.ballot ≡ pumped.proposer.ballot
  after_ballot pumped v =
      cond_both (leaves_room pumped) (offer pumped.proposer v) (stop pumped.proposer)
      (λ (x : Proposals). x.proposer.ballot ≡ pumped.proposer.ballot)
      (λ e. by (next_value pumped.proposer (Some v)) refl) (λ e. refl) where
        by : (o : Option Value) → next_value pumped.proposer (Some v) ≡ o
            → (offer pumped.proposer v).proposer.ballot ≡ pumped.proposer.ballot
        by None e = rw e refl
        by (Some u) e = rw e refl

  -- and so is a part
  part_ballot : (p : Proposer) (j first upto : ℕ) (votes : List Vote) → (proposer_after_part p j first upto votes).ballot ≡ p.ballot
  part_ballot p j first upto votes = cond_both (rises p j first upto) _ _ (λ (x : Proposer). x.ballot ≡ p.ballot) (λ e. refl) (λ e. refl)

  module _ (n : Known) (h : LeadsWith b P n) where
    abbrev p : Proposer
    p = h.proposer

    -- a part of a promise
    part_leads : (o : Option Proposer) → o ≡ Some p → (i : ℕ) (d : Ballot) (first upto : ℕ) (votes : List Vote)
        → LeadsWith b P (taking_part n o i d first upto votes).node
    part_leads o is i d first upto votes = rw is
        (cond_both (same_ballot p.ballot d) _ _ (λ (x : Response). LeadsWith b P x.node)
        (λ e. record {
          proposer = (pump MOST_PUMPED (proposer_after_part p i first upto votes)).proposer;
          now = refl;
          ballot = (pump_same MOST_PUMPED (proposer_after_part p i first upto votes)).ballot ∙ part_ballot p i first upto votes ∙ h.ballot;
          promised = h.promised;
          holds = pump_lasts MOST_PUMPED (proposer_after_part p i first upto votes) n.offered
              (lasting.part p i first upto votes n.offered h.holds);
        }) (λ e. h))

    -- a Submit
    submit_leads : (o : Option Proposer) → o ≡ Some p → (v : Value) → LeadsWith b P (submitted n o v).node
    submit_leads o is v = rw is
        (cond_both (is_covered p (next_of p) && not (is_known n v)) _ _ (λ (x : Response). LeadsWith b P x.node)
        (λ e. record {
          proposer = (offer_after (pump MOST_PUMPED p) v).proposer;
          now = refl;
          ballot = after_ballot (pump MOST_PUMPED p) v ∙ (pump_same MOST_PUMPED p).ballot ∙ h.ballot;
          promised = h.promised;
          holds = after_lasts (pump MOST_PUMPED p) v n.offered (pump_lasts MOST_PUMPED p n.offered h.holds);
        }) (λ e. h))

    -- a tick
    tick_leads : (o : Option Proposer) → o ≡ Some p → LeadsWith b P (ticked n o).node
    tick_leads o is = rw is (record {
      proposer = (pump MOST_PUMPED p).proposer;
      now = refl;
      ballot = (pump_same MOST_PUMPED p).ballot ∙ h.ballot;
      promised = h.promised;
      holds = pump_lasts MOST_PUMPED p n.offered h.holds;
    })

    -- any calm message
    message_leads : (i : ℕ) (body : Body) → IsCalmBody b body → LeadsWith b P (on_message n i body).node
    message_leads i (Prepare d from) calm =
        let promised = message_keeps (Promised tests b) (promised_kept tests b) n h.promised i (Prepare d from) calm.0 in
        record {
          proposer = p;
          now = stays_passed p _ n.proposer promised h.now h.ballot;
          ballot = h.ballot;
          promised = promised;
          holds = h.holds;
        }
    message_leads i (Accept d s v) calm =
        let promised = message_keeps (Promised tests b) (promised_kept tests b) n h.promised i (Accept d s v) calm.0 in
        record {
          proposer = p;
          now = stays_passed p _ n.proposer promised h.now h.ballot;
          ballot = h.ballot;
          promised = promised;
          holds = h.holds;
        }
    message_leads i (Promise d first upto votes) calm =
        let g = part_leads n.proposer h.now i d first upto votes in
        record { proposer = g.proposer; now = g.now; ballot = g.ballot; promised = g.promised; holds = g.holds }
    message_leads i (Accepted d s v) calm = record { proposer = p; now = h.now; ballot = h.ballot; promised = h.promised; holds = h.holds }
    message_leads i (Refused d promised) calm = record {
      proposer = p;
      now = stays_refused p d n.proposer h.now h.ballot (calm.1 d promised refl);
      ballot = h.ballot;
      promised = h.promised;
      holds = h.holds;
    }
    message_leads i (Submit v) calm =
        let g = submit_leads n.proposer h.now v in
        record { proposer = g.proposer; now = g.now; ballot = g.ballot; promised = g.promised; holds = g.holds }
    message_leads i (Ask from) calm = record { proposer = p; now = h.now; ballot = h.ballot; promised = h.promised; holds = h.holds }
    message_leads i (Tell s v) calm = record { proposer = p; now = h.now; ballot = h.ballot; promised = h.promised; holds = h.holds }

  -- what lasts is steady
  pub leads_steady : IsSteady b (LeadsWith b P)
  leads_steady = record {
    message = λ n i body calm h. message_leads n h i body calm;
    tick = λ n h. tick_leads n h n.proposer h.now;
    typed = λ n byte h. record { proposer = h.proposer; now = h.now; ballot = h.ballot; promised = h.promised; holds = h.holds };
  }

-- ---- what lasts

-- the next place is at this one or above it
abbrev pub IsNextAbove : ℕ → Proposer → List Key → Type 0
IsNextAbove c p ks = c ≤ next_of p

-- the next place only rises
pub next_lasts : (c : ℕ) → IsLasting (IsNextAbove c)
next_lasts c = record {
  part = λ p j first upto votes ks h. cond_both (rises p j first upto) _ _ (λ (x : Proposer). c ≤ next_of x) (λ e. h) (λ e. h);
  pumps = λ p v ks h. omega (arith, h, next_after p v);
  offers = λ p v ks h. omega (arith, h, next_after p v);
}

-- the first place of its own
abbrev pub IsFirst : ℕ → Proposer → List Key → Type 0
IsFirst c p ks = p.first ≡ c

-- the first place stays
pub first_lasts : (c : ℕ) → IsLasting (IsFirst c)
first_lasts c = record {
  part = λ p j first upto votes ks h. cond_both (rises p j first upto) _ _ (λ (x : Proposer). x.first ≡ c) (λ e. h) (λ e. h);
  pumps = λ p v ks h. h;
  offers = λ p v ks h. h;
}

-- a value is proposed at a place
abbrev pub HasProposal : ℕ → Value → Proposer → List Key → Type 0
HasProposal s v p ks = proposed_at p s ≡ Some v

-- nothing is proposed at the next place
none_next : (p : Proposer) → proposed_at p (next_of p) ≡ None
none_next p = grind (arith, nat_tests, slice_get_past)

-- a part changes no proposal
part_proposed : (p : Proposer) (j first upto : ℕ) (votes : List Vote) (s : ℕ)
    → proposed_at (proposer_after_part p j first upto votes) s ≡ proposed_at p s
part_proposed p j first upto votes s =
    cond_both (rises p j first upto) _ _ (λ (x : Proposer). proposed_at x s ≡ proposed_at p s) (λ e. refl) (λ e. refl)

-- nor does one more proposal
proposed_still : (p : Proposer) (v u : Value) (s : ℕ) → proposed_at p s ≡ Some u → proposed_at (proposing p (Some v)) s ≡ Some u
proposed_still p v u s e = by (cases_eq s (next_of p)) where
  by : (s ≡ next_of p) ⊎ (s ≢ next_of p) → proposed_at (proposing p (Some v)) s ≡ Some u
  by (inl same) = let no : None ≡ Some u = sym (none_next p) ∙ ap (proposed_at p) (sym same) ∙ e in absurd cc
  by (inr other) = grind (arith, nat_tests, proposed_next p v s)

-- a proposal stays
pub proposal_lasts : (s : ℕ) (v : Value) → IsLasting (HasProposal s v)
proposal_lasts s v = record {
  part = λ p j first upto votes ks h. part_proposed p j first upto votes s ∙ h;
  pumps = λ p u ks h. proposed_still p u v s h;
  offers = λ p u ks h. proposed_still p u v s h;
}

-- each offered key is in a value that is proposed
pub record IsProposedKey (p : Proposer) (key : Key) : Type 0 where
  pub place : ℕ
  pub value : Value
  pub at : proposed_at p place ≡ Some value
  pub has : Contains (keys_of value) key

-- each of these keys
abbrev pub AreProposed : Proposer → List Key → Type 0
AreProposed p ks = (key : Key) → Contains ks key → IsProposedKey p key

-- a key is offered only as its value is proposed
pub proposed_lasts : IsLasting AreProposed
proposed_lasts = record {
  part = λ p j first upto votes ks h key among. let g = h key among in
      record { place = g.place; value = g.value; at = part_proposed p j first upto votes g.place ∙ g.at; has = g.has };
  pumps = λ p v ks h key among. onward p v key (h key among);
  offers = λ p v ks h key among. elim (of_offered ks (keys_of v) key among) [
    | inl old ↦ onward p v key (h key old)
    | inr new ↦ record {
      place = next_of p;
      value = v;
      at = proposed_next p v (next_of p) ∙ cond-true (next_of p == next_of p) (Some v) (proposed_at p (next_of p))
          (eq-eqb (next_of p) (next_of p) refl);
      has = new;
    }
  ];
} where
  onward : (p : Proposer) (v : Value) (key : Key) → IsProposedKey p key → IsProposedKey (proposing p (Some v)) key
  onward p v key g = record { place = g.place; value = g.value; at = proposed_still p v g.value g.place g.at; has = g.has }

-- ---- kept votes

-- a vote is kept at the place or above it, or the place has its proposal
abbrev pub IsKeptOrProposed : ℕ → Proposer → List Key → Type 0
IsKeptOrProposed s p ks = (is_kept_from p.kept s ≡ true) ⊎ (s < next_of p)

-- a vote that is put in keeps a vote there or above
put_kept : (s : ℕ) (votes : List Vote) (vote : Vote) → is_kept_from votes s ≡ true → is_kept_from (with_vote votes vote) s ≡ true
put_kept s [] vote e = absurd cc
put_kept s (x ∷ xs) vote e = grind (arith, nat_tests, put_kept s xs vote)

-- and so do those of a part
heard_kept : (s low : ℕ) (kept votes : List Vote) → is_kept_from kept s ≡ true → is_kept_from (heard low kept votes) s ≡ true
heard_kept s low kept [] e = e
heard_kept s low kept (x ∷ xs) e =
    heard_kept s low (heard_one low kept x) xs
    (cond_both (nat_le low x.place) (with_vote kept (greater (kept_vote_at kept x.place) x)) kept
    (λ (votes : List Vote). is_kept_from votes s ≡ true)
    (λ f. put_kept s kept (greater (kept_vote_at kept x.place) x) e) (λ f. e))

-- what is dropped below a place leaves those above it
from_kept : (s low : ℕ) (votes : List Vote) → low ≤ s → is_kept_from votes s ≡ true → is_kept_from (votes_from low votes) s ≡ true
from_kept s low [] less e = e
from_kept s low (x ∷ xs) less e = grind (arith, nat_tests, from_kept s low xs less)

-- what is kept at a place or above it is kept at a lower place or above it
pub kept_lower : (s low : ℕ) (votes : List Vote) → low ≤ s → is_kept_from votes s ≡ true → is_kept_from votes low ≡ true
kept_lower s low [] less e = e
kept_lower s low (x ∷ xs) less e = grind (arith, nat_tests, kept_lower s low xs less)

-- a vote is kept at its place
pub kept_at : (votes : List Vote) (vote : Vote) → Contains votes vote → is_kept_from votes vote.place ≡ true
kept_at [] vote among = absurd (none_in vote among)
kept_at (x ∷ xs) vote among = elim (in_cases x xs vote among) [
  | inl same ↦ rw same (or_left_true (nat_le vote.place vote.place) _ (le-leb vote.place vote.place (omega arith)))
  | inr rest ↦ or_right_true (nat_le vote.place x.place) _ (kept_at xs vote rest)
]

-- one more proposal
proposing_kept : (s : ℕ) (p : Proposer) (v : Value) (ks : List Key) → IsKeptOrProposed s p ks → IsKeptOrProposed s (proposing p (Some v)) ks
proposing_kept s p v ks (inr above) = inr (omega (arith, above, next_after p v))
proposing_kept s p v ks (inl kept) = elim (cases_lt (next_of p) s) [
  | inl below ↦ inl (from_kept s (next_of p + 1) p.kept (omega (arith, below)) kept)
  | inr reached ↦ inr (omega (arith, reached, next_after p v))
]

-- a kept vote stays until its place has its proposal
pub kept_lasts : (s : ℕ) → IsLasting (IsKeptOrProposed s)
kept_lasts s = record {
  part = λ p j first upto votes ks h. cond_both (rises p j first upto) _ _ (λ (x : Proposer). IsKeptOrProposed s x ks)
      (λ e. elim h [ inl kept ↦ inl (heard_kept s _ p.kept votes kept) | inr above ↦ inr above ]) (λ e. h);
  pumps = λ p v ks h. proposing_kept s p v ks h;
  offers = λ p v ks h. elim (proposing_kept s p v ks h) [ inl kept ↦ inl kept | inr above ↦ inr above ];
}

-- ---- how a fact follows from another at the same proposer

-- a fact of the proposer that follows from another
pub leads_more : {b : Ballot} {P Q : Proposer → List Key → Type 0} → ((p : Proposer) (ks : List Key) → P p ks → Q p ks) → (n : Known)
    → LeadsWith b P n → LeadsWith b Q n
leads_more more n h = record {
  proposer = h.proposer;
  now = h.now;
  ballot = h.ballot;
  promised = h.promised;
  holds = more h.proposer n.offered h.holds;
}

-- a fact of the proposer that a node has
pub leads_of : {b : Ballot} {P : Proposer → List Key → Type 0} {n : Known} {p : Proposer} (h : LeadsWith b P n) → n.proposer ≡ Some p
    → P p n.offered
leads_of {b} {P} {n} {p} h now = let same : h.proposer ≡ p = cc (sym h.now ∙ now) in subst (λ (p : Proposer). P p n.offered) same h.holds
