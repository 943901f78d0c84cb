-- What grew goes on to have grown when values are replaced by others with the same keys.
use Rattle.std.proofs.Common.{◌≡◌, ◌∙◌, ℕ, inl, inr, List, [], ◌∷◌, map, Option, Contains, ap, refl, arith}
use Rattle.std.specs.Option.{option_map}
use Rattle.std.proofs.lemmas.Bool.Decides.{nat_tests}
use Rattle.std.proofs.lemmas.List.Elements.{All-contains, All-contains_itself, All-map, All-weaker}
use Rattle.std.proofs.lemmas.List.{get_or-map, length-map, map-append}
use Rattle.paxos_msg.specs.declared.ballot.Ballot.{Ballot}
use Rattle.paxos_msg.specs.declared.value.Vote.{Vote}
use Rattle.paxos_msg.specs.declared.record.Record.{Record}
use Rattle.paxos_msg.specs.declared.record.Change.{Change}
use Rattle.paxos_msg.specs.declared.record.Change.TheVariants as change
use Rattle.paxos_msg.specs.declared.message.Body.{Body}
use Rattle.paxos_msg.specs.declared.message.Body.TheVariants.{Promise, Accept, Accepted, Submit}
use Rattle.paxos_msg.specs.declared.message.Msg.{Msg}
use Rattle.paxos_msg.specs.Chosen.{IsChosen}
use Rattle.paxos_msg.specs.Growth.{Grew, nothing, sends, saves}
use Rattle.paxos_msg.specs.Keys.{Key, Values}
use Rattle.paxos_msg.specs.Messages.{IsPromised, IsSaid, IsSent, Sent, kept_vote_at}
use Rattle.paxos_msg.specs.Bodies.{body_with, vote_with}
use Rattle.paxos_msg.specs.Migration.{change_with, msg_with, record_with, sent_with}
use Rattle.paxos_msg.specs.Records.{changed, MaySave, with_vote}
use Rattle.paxos_msg.specs.Sending.{IsReport, IsUnproposed, MaySend}

-- ---- elements

contains_map : {A B : Type 0} (f : A → B) (xs : List A) (x : A) → Contains xs x → Contains (map f xs) (f x)
contains_map f xs x (k, l, e) = (k, omega (arith, length-map xs f), get_or-map f xs k x (f x) l ∙ ap f e)

-- what holds of each mapped element holds of each element of the mapped list
of_mapped : {A B : Type 0} (f : A → B) (xs : List A) (P : B → Type 0) → ((x : A) → Contains xs x → P (f x))
    → (y : B) → Contains (map f xs) y → P y
of_mapped f xs P h y k =
    All-contains P (map f xs) y (All-map P f xs (All-weaker (Contains xs) (λ x. P (f x)) h xs (All-contains_itself xs))) k

module _ {V W : Type 0} (f : V → W) where
  -- ---- votes

  -- the vote with its value replaced, if there is one
  abbrev option_with : Option (Vote V) → Option (Vote W)
  option_with vote = option_map (vote_with f) vote

  vote_at_with : (votes : List (Vote V)) (s : ℕ) → kept_vote_at (map (vote_with f) votes) s ≡ option_with (kept_vote_at votes s)
  vote_at_with [] s = refl
  vote_at_with (x ∷ xs) s = grind (arith, nat_tests, vote_at_with xs s)

  with_vote_with : (votes : List (Vote V)) (vote : Vote V)
      → map (vote_with f) (with_vote votes vote) ≡ with_vote (map (vote_with f) votes) (vote_with f vote)
  with_vote_with [] vote = refl
  with_vote_with (x ∷ xs) vote = grind (arith, nat_tests, with_vote_with xs vote)

  changed_with : (r : Record V) (change : Change V) → record_with f (changed r change) ≡ changed (record_with f r) (change_with f change)
  changed_with r change = grind (arith, nat_tests, with_vote_with)

  -- ---- what was sent

  said_still : (sent : Sent V) (body : Body V) → IsSaid sent body → IsSaid (sent_with f sent) (body_with f body)
  said_still sent body (i, h) = (i, contains_map (msg_with f) sent _ h)

  -- a message that became a proposal was one
  no_proposal : (sent : Sent V) (i : ℕ) (b : Ballot) (s : ℕ) (w : W) (body : Body V) → IsUnproposed sent b s → IsSent sent i body
      → body_with f body ≡ Accept b s w → ⊥
  no_proposal sent i b s w (Accept c t v) h there e =
      let under : c ≡ b = cc in
      let at_place : t ≡ s = cc in
      h v (i, rw (under, at_place) at there)
  no_proposal sent i b s w _ h there e = absurd cc

  unproposed_still : (sent : Sent V) (b : Ballot) (s : ℕ) → IsUnproposed sent b s → IsUnproposed (sent_with f sent) b s
  unproposed_still sent b s h w (i, k) =
      of_mapped (msg_with f) sent (λ m. m ≡ record { sender = i; body = Accept b s w } → ⊥)
      (λ m there e. no_proposal sent m.sender b s w m.body h there (ap (λ (n : Msg W). n.body) e)) _ k refl

  promised_still : (sent : Sent V) (i : ℕ) (b : Ballot) (s : ℕ) (reported : Option (Vote V))
      → IsPromised sent i b s reported → IsPromised (sent_with f sent) i b s (option_with reported)
  promised_still sent i b s reported h = grind (arith, nat_tests, contains_map (msg_with f) sent _ h.is_sent, vote_at_with h.votes s)

  report_still : (r : Record V) (first upto : ℕ) (votes : List (Vote V)) → IsReport r first upto votes
      → IsReport (record_with f r) first upto (map (vote_with f) votes)
  report_still r first upto votes h = record {
    own = of_mapped (vote_with f) votes _ (λ vote there. contains_map (vote_with f) r.votes vote (h.own vote there));
    within = of_mapped (vote_with f) votes _ h.within;
    whole = λ s from below. grind (arith, nat_tests, vote_at_with, h.whole s from below);
  }

  may_save_still : (sent : Sent V) (r : Record V) (change : Change V) → MaySave sent r change
      → MaySave (sent_with f sent) (record_with f r) (change_with f change)
  may_save_still sent r (change.Ballotted s b v) may = (said_still sent (Accept b s v) may.0, may.1)
  may_save_still sent r _ may = may

  pub chosen_still : (size : ℕ) (sent : Sent V) (s : ℕ) (v : V) → IsChosen size sent s v → IsChosen size (sent_with f sent) s (f v)
  chosen_still size sent s v (b, (members, majority, accepted)) =
      (b, (members, majority, λ i member. contains_map (msg_with f) sent _ (accepted i member)))

  -- ---- the rules of sending, where the no-op stays the no-op, and each value keeps its keys
  module _ (values : Values V) (others : Values W) (noop : f values.noop ≡ others.noop)
      (keys : (v : V) → others.keys (f v) ≡ values.keys v) where
    module _ (size : ℕ) (typed : List Key) (learned : ℕ → Option V) (sent : Sent V) (i : ℕ) (r : Record V) where
      may_send_still : (body : Body V) → MaySend values size typed learned sent i r body
          → MaySend others size typed (λ s. option_map f (learned s)) (sent_with f sent) i (record_with f r) (body_with f body)
      may_send_still (Promise b first upto votes) may = (may.0, report_still r first upto votes may.1)
      may_send_still (Accept b s v) (own, inl again) = (own, inl (contains_map (msg_with f) sent _ again))
      may_send_still (Accept b s v) (own, inr (fresh, safe)) = (
        own,
        inr (
          unproposed_still sent b s fresh,
          record {
            members = safe.members;
            reported = λ i. option_with (safe.reported i);
            best = option_with safe.best;
            majority = safe.majority;
            promised = λ i member. promised_still sent i b s (safe.reported i) (safe.promised i member);
            is_best = grind (arith, nat_tests);
            value = grind (arith, nat_tests, said_still sent (Submit v));
          },
        ),
      )
      may_send_still (Submit v) may = record {
        own = record { has_key = rw (keys v) may.own.has_key; at_node = rw (keys v) may.own.at_node };
        known = rw (keys v) may.known;
      }
      may_send_still (Accepted b s v) may = (said_still sent (Accept b s v) may.0, vote_at_with r.votes s ∙ ap option_with may.1, may.2)
      may_send_still other may = grind (arith, nat_tests)

    pub grew_still : {size : ℕ} {sent : Sent V} {records : ℕ → Record V} → Grew values size sent records
        → Grew others size (sent_with f sent) (λ i. record_with f (records i))
    grew_still (nothing records empty) = nothing (λ i. record_with f (records i)) (λ i. ap (record_with f) (empty i))
    grew_still {size} (sends sent records typed learned i body grew may) =
        rw (map-append (msg_with f) sent (record { sender = i; body = body } ∷ []))
        (sends (sent_with f sent) (λ j. record_with f (records j)) typed (λ s. option_map f (learned s)) i
        (body_with f body) (grew_still grew) (may_send_still size typed learned sent i (records i) body may))
    grew_still (saves sent records next i change grew may saved) =
        saves (sent_with f sent) (λ j. record_with f (records j)) (λ j. record_with f (next j)) i (change_with f change)
        (grew_still grew) (may_save_still sent (records i) change may) (record {
          own = ap (record_with f) saved.own ∙ changed_with (records i) change;
          others = λ j ne. ap (record_with f) (saved.others j ne);
        })
