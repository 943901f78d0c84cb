-- Keys that wait at a node, in turn: those in front are read, and then one waits first until it is read.
use Rattle.std.proofs.Common.{append_assoc, ◌≡◌, ◌∙◌, ◌⊎◌, inl, inr, ℕ, suc, ◌<◌, ◌≤◌, Contains, List, [], ◌∷◌, ◌++◌, Option, Some, refl, sym, ap, subst, arith, true, false, ◌&&◌, not}
use Rattle.std.specs.List.{list_any}
use Rattle.std.proofs.lemmas.Bool.{and_from, cases_Bool, cond_both, cond-true, not_from_false}
use Rattle.std.proofs.lemmas.List.Elements.{All-contains, Contains-append_left, Contains-push}
use Rattle.indexmap.specs.IndexSet.{insert_all, insert_key}
use Rattle.paxos_msg.specs.declared.ballot.Ballot.{Ballot}
use Rattle.paxos_msg.specs.declared.limits.TheConstants.{PLACES}
use Rattle.paxos_msg.specs.declared.message.Body.TheVariants.{Submit}
use Rattle.paxos_msg.specs.declared.value.Value.{Value}
use Rattle.paxos_msg.specs.Keys.{Key, keys_of}
use Rattle.paxos_learner.specs.Entered.{keys_with}
use Rattle.paxos_learner.specs.Input.{front_values, has_key, keys_in_order, same_key}
use Rattle.paxos_learner.specs.Learner.{Learner}
use Rattle.paxos_proposer.specs.declared.proposer.TheConstants.{MOST_PUMPED}
use Rattle.paxos_proposer.specs.Proposer.{Proposer, is_covered, is_kept_from, next_of}
use Rattle.group_protocol.proofs.Elements.{first_in, in_cases, none_in, rest_in}
use Rattle.group_protocol.specs.Known.{Known, Response, new_key, on_typed, quiet}
use Rattle.group_protocol.specs.Protocol.{on_message}
use Rattle.group_protocol.specs.ProposerResponses.{is_known, is_known_key, offer_after, offering, submitted}
use Rattle.group_protocol.specs.Pump.{pump}
use Rattle.group_protocol.specs.WaitingKeys.{waiting_keys}
use Rattle.group_progress.specs.Below.{TestLaws, KeyLaws, WaitLaws}
use Rattle.group_progress.proofs.Unread.{IsFirstUnread}
use Rattle.group_progress.proofs.Calm.{IsSteady}
use Rattle.group_progress.proofs.KeysKept.{Shrinks, read_on, shrink_after, shrink_ticked}
use Rattle.group_progress.proofs.Lasting.{IsNextAbove, LeadsWith, after_ballot, after_lasts, next_lasts}
use Rattle.group_progress.proofs.Leading.{pump_same}
use Rattle.group_progress.proofs.Reading.{HasKey}
use Rattle.group_progress.proofs.Rising.{pump_up}
use Rattle.group_progress.proofs.Submitting.{new_value, submit_offers}
use Rattle.group_progress.proofs.Telling.{tick_keeps}

-- ---- what stays of the keys that waited

-- of these keys, and of more after them, the first are read and the others wait
abbrev pub Begins : List Key → Known → Type 0
Begins keys n = (more : List Key) × Shrinks (keys ++ more) n

-- a typed key comes last
typed_shrinks : WaitLaws → (keys : List Key) (n : Known) (byte : ℕ) → Begins keys n → Begins keys (on_typed n byte).node
typed_shrinks laws keys n byte (more, h) =
    let new : List Key = keys_of (new_key n byte) in (
      more ++ new,
      record {
        gone = h.gone;
        parts = sym (append_assoc keys more new) ∙ ap (λ ks. ks ++ new) h.parts ∙ append_assoc h.gone (waiting_keys n) new ∙ ap
            (λ ks. h.gone ++ ks) (sym (laws.typed n byte));
        below = h.below;
      },
    )

-- so the keys are a steady fact
pub begins_steady : WaitLaws → (b : Ballot) (keys : List Key) → IsSteady b (Begins keys)
begins_steady laws b keys = record {
  message = λ n j body calm h. (h.0, shrink_after laws.keys n j body h.1);
  tick = λ n h. (h.0, shrink_ticked n h.1);
  typed = λ n byte h. typed_shrinks laws keys n byte h;
}

-- the node has read these keys
abbrev pub AreRead : List Key → Known → Type 0
AreRead keys n = (key : Key) → Contains keys key → HasKey n key

-- what is read stays read
pub read_steady : KeyLaws → (b : Ballot) (keys : List Key) → IsSteady b (AreRead keys)
read_steady laws b keys = record {
  message = λ n j body calm h key among. read_on laws n (on_message n j body).node key (laws.learned_message n j body) (h key among);
  tick = λ n h key among.
      subst (λ (l : Learner). Contains (keys_in_order (front_values l.learned)) key) (sym (tick_keeps n n.proposer).learner) (h key among);
  typed = λ n byte h key among. h key among;
}

-- ---- the first key that waits

-- where those in front are read, a key is read or waits first
pub head_or_read : (read pre gone waits tail : List Key) (k : Key) → pre ++ k ∷ tail ≡ gone ++ waits
    → ((key : Key) → Contains gone key → Contains read key)
    → ((key : Key) → Contains pre key → Contains read key) → IsFirstUnread read waits
    → Contains read k ⊎ ((rest : List Key) × (waits ≡ k ∷ rest))
head_or_read read [] [] waits tail k e below done first = inr (tail, sym e)
head_or_read read (y ∷ ys) [] waits tail k e below done first =
    absurd ((subst (IsFirstUnread read) (sym e) first) (done y (first_in y ys)))
head_or_read read [] (g ∷ gs) waits tail k e below done first =
    let same : k ≡ g = cc e in inl (subst (Contains read) (sym same) (below g (first_in g gs)))
head_or_read read (y ∷ ys) (g ∷ gs) waits tail k e below done first =
    let tails : ys ++ k ∷ tail ≡ gs ++ waits = cc e in
    head_or_read read ys gs waits tail k tails (λ key among. below key (rest_in g gs key among))
    (λ key among. done key (rest_in y ys key among)) first

-- the same of a node
pub turn_of : (pre post : List Key) (k : Key) (n : Known) → Begins (pre ++ k ∷ post) n → AreRead pre n
    → IsFirstUnread (keys_in_order (front_values n.learner.learned)) (waiting_keys n)
    → HasKey n k ⊎ ((rest : List Key) × (waiting_keys n ≡ k ∷ rest))
turn_of pre post k n (more, h) read first =
    head_or_read (keys_in_order (front_values n.learner.learned)) pre h.gone (waiting_keys n) (post ++ more) k
    (sym (append_assoc pre (k ∷ post) more) ∙ h.parts)
    (λ key among. All-contains (λ y. HasKey n y) h.gone key h.below among) read first

-- one key more is read
pub read_push : (pre : List Key) (k : Key) (n : Known) → AreRead pre n → HasKey n k → AreRead (pre ++ k ∷ []) n
read_push [] k n read here key among = elim (in_cases k [] key among) [
  | inl same ↦ subst (HasKey n) same here
  | inr none ↦ absurd (none_in key none)
]
read_push (y ∷ ys) k n read here key among = elim (in_cases y (ys ++ k ∷ []) key among) [
  | inl same ↦ read key (subst (Contains (y ∷ ys)) same (first_in y ys))
  | inr rest ↦ read_push ys k n (λ z in_rest. read z (rest_in y ys z in_rest)) here key rest
]

-- ---- offered keys

module _ (has : (keys : List Key) (k : Key) → has_key keys k ≡ true → Contains keys k) where
  -- a key that is put in is there
  inserted : (keys : List Key) (k : Key) → Contains (insert_key same_key keys k) k
  inserted keys k =
      cond_both (list_any (same_key k) keys) keys (keys ++ k ∷ []) (λ ks. Contains ks k) (λ e. has keys k e) (λ e. Contains-push keys k)

  -- and the others stay
  insert_keeps : (keys more : List Key) (key : Key) → Contains keys key → Contains (insert_all same_key keys more) key
  insert_keeps keys [] key among = among
  insert_keeps keys (k ∷ more) key among =
      insert_keeps (insert_key same_key keys k) more key
      (cond_both (list_any (same_key k) keys) keys (keys ++ k ∷ []) (λ ks. Contains ks key) (λ e. among)
      (λ e. Contains-append_left keys (k ∷ []) key among))

  -- so the first key of a batch is offered
  offered_first : (keys : List Key) (v : Value) (k : Key) (others : List Key) → keys_of v ≡ k ∷ others → Contains (keys_with keys v) k
  offered_first keys v k others e =
      subst (λ ks. Contains (insert_all same_key keys ks) k) (sym e) (insert_keeps (insert_key same_key keys k) others k (inserted keys k))

  -- ---- a batch is submitted to the leading node

  module _ (tests : TestLaws) (b : Ballot) (c : ℕ) (n : Known) (h : LeadsWith b (IsNextAbove c) n) (v : Value) (k : Key)
      (others : List Key) where
    -- it first has to propose what is kept
    submit_rises : (o : Option Proposer) → o ≡ Some h.proposer → is_covered h.proposer (next_of h.proposer) ≡ true
        → is_kept_from h.proposer.kept (next_of h.proposer) ≡ true → is_known n v ≡ false
        → LeadsWith b (IsNextAbove (suc c)) (submitted n o v).node
    submit_rises o is covered kept new =
        let p : Proposer = h.proposer in
        let test : (is_covered h.proposer (next_of h.proposer) && not (is_known n v)) ≡ true =
        and_from _ _ covered (not_from_false (is_known n v) new) in
        let made : submitted n (Some h.proposer) v ≡ offering n v (pump MOST_PUMPED h.proposer)
        (offer_after (pump MOST_PUMPED h.proposer) v) =
        cond-true (is_covered h.proposer (next_of h.proposer) && not (is_known n v))
        (offering n v (pump MOST_PUMPED h.proposer) (offer_after (pump MOST_PUMPED h.proposer) v)) (quiet n) test in
        let up : suc (next_of h.proposer) ≤ next_of (pump MOST_PUMPED h.proposer).proposer = pump_up tests b 15 h.proposer covered kept in
        rw is (subst (λ (x : Response). LeadsWith b (IsNextAbove (suc c)) x.node) (sym made) (record {
          proposer = (offer_after (pump MOST_PUMPED h.proposer) v).proposer;
          now = refl;
          ballot = after_ballot tests b (IsNextAbove (suc c)) (next_lasts (suc c)) (pump MOST_PUMPED h.proposer) v ∙
              (pump_same MOST_PUMPED h.proposer).ballot ∙ h.ballot;
          promised = h.promised;
          holds = after_lasts tests b (IsNextAbove (suc c)) (next_lasts (suc c)) (pump MOST_PUMPED h.proposer) v n.offered
              (omega (arith, up, h.holds));
        }))

    -- its first key is offered, or the next place rises
    pub submit_up : (j : ℕ) → is_covered h.proposer (next_of h.proposer) ≡ true → next_of h.proposer < PLACES → keys_of v ≡ k ∷ others
        → is_known_key n k ≡ false
        → Contains (on_message n j (Submit v)).node.offered k ⊎ LeadsWith b (IsNextAbove (suc c)) (on_message n j (Submit v)).node
    submit_up j covered room keys unknown = by (cases_Bool (is_kept_from h.proposer.kept (next_of h.proposer))) where
      new : is_known n v ≡ false
      new = new_value n v k others keys unknown

      by : (is_kept_from h.proposer.kept (next_of h.proposer) ≡ true) ⊎ (is_kept_from h.proposer.kept (next_of h.proposer) ≡ false)
          → Contains (on_message n j (Submit v)).node.offered k ⊎ LeadsWith b (IsNextAbove (suc c)) (on_message n j (Submit v)).node
      by (inr none) =
          let made = submit_offers n j h.proposer v h.now covered none room new in
          inl (subst (λ ks. Contains ks k) (sym made.offered) (offered_first n.offered v k others keys))
      by (inl kept) =
          let g = submit_rises n.proposer h.now covered kept new in
          inr (record { proposer = g.proposer; now = g.now; ballot = g.ballot; promised = g.promised; holds = g.holds })
