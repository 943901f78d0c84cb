-- What goes on with a growth: more messages, a call of a node, and a restart; and which rules still
-- hold after it.
use Rattle.std.proofs.Common.{◌≡◌, ◌≢◌, ◌↔◌, ℕ, inl, inr, List, [], ◌∷◌, ◌++◌, Option, Contains, arith}
use Rattle.std.proofs.lemmas.List.{append-nil, append_assoc}
use Rattle.std.proofs.lemmas.List.Elements.{Contains-append_left}
use Rattle.std.proofs.lemmas.Bool.Decides.{nat_tests}
use Rattle.paxos_msg.specs.declared.value.Value.{Value}
use Rattle.paxos_msg.specs.Batches.{Body, Change, Grew, MaySend, MaySendAll, Msg, Record, Sent}
use Rattle.paxos_msg.specs.declared.message.Body.TheVariants.{Submit}
use Rattle.paxos_msg.specs.Keys.{Key}
use Rattle.paxos_msg.specs.Messages.{messages_of}
use Rattle.paxos_msg.specs.Records.{MaySave, Stored}
use Rattle.paxos_msg.specs.Sending.{IsNoNewProposal, KnowsMore}
use Rattle.paxos_msg.specs.Chosen.{IsChosen}
use Rattle.paxos_msg.specs.Growth.{sends, saves}

-- ---- more messages

pub stays_chosen : (size s : ℕ) (sent more : Sent) (v : Value) → IsChosen size sent s v → IsChosen size (sent ++ more) s v
stays_chosen size s sent more v (b, (members, majority, accepted)) =
    (b, (members, majority, λ i member. Contains-append_left sent more _ (accepted i member)))

pub may_still_save : (sent more : Sent) (r : Record) (change : Change) → MaySave sent r change → MaySave (sent ++ more) r change
may_still_save sent more r change may = grind (arith, nat_tests, Contains-append_left)

-- ---- a call

pub calls : (size i : ℕ) (typed : List Key) (learned : ℕ → Option Value) (sent : Sent) (records : ℕ → Record)
    (bodies : List Body) → Grew size sent records → MaySendAll size typed learned sent i (records i) bodies
    → Grew size (sent ++ messages_of i bodies) records
calls size i typed learned sent records [] grew may = rw (append-nil sent) grew
calls size i typed learned sent records (body ∷ more) grew (may, rest) =
    let m : Msg = record { sender = i; body = body } in
    let now : Grew size (sent ++ m ∷ []) records = sends sent records typed learned i body grew may in
    rw (append_assoc sent (m ∷ []) (messages_of i more)) at (calls size i typed learned (sent ++ m ∷ []) records more now rest)

-- ---- a restart

pub restarts : (size i : ℕ) (sent : Sent) (records next : ℕ → Record) (failed : List Change) → Grew size sent records
    → ((change : Change) → Contains failed change → MaySave sent (records i) change)
    → Stored (records i) failed (next i) → ((j : ℕ) → j ≢ i → next j ≡ records j) → Grew size sent next
restarts size i sent records next failed grew may (inl same) others = grind (arith, nat_tests)
restarts size i sent records next failed grew may (inr (change, tried, e)) others =
    saves sent records next i change grew (may change tried) (record { own = e; others = others })

-- ---- rules that still hold

-- what may be sent, and is no new proposal, may still be sent when more was sent, typed and learned
module _ (size i : ℕ) (typed newer : List Key) (learned now : ℕ → Option Value) (sent more : Sent) (r : Record) where
  pub may_still_send : (body : Body) → KnowsMore typed newer learned now → IsNoNewProposal sent i body
      → MaySend size typed learned sent i r body → MaySend size newer now (sent ++ more) i r body
  may_still_send (Submit v) knows old may = record { own = may.own; known = λ key k. knows.keys key (may.known key k) }
  may_still_send other knows old may = grind (arith, nat_tests, Contains-append_left, knows.values)

-- ---- a call in two halves

module _ (size i : ℕ) (typed : List Key) (learned : ℕ → Option Value) where
  pub halves : (sent : Sent) (r : Record) (bodies more : List Body)
      → MaySendAll size typed learned sent i r (bodies ++ more)
      ↔ (MaySendAll size typed learned sent i r bodies
      × MaySendAll size typed learned (sent ++ messages_of i bodies) i r more)
  halves sent r [] more = (λ all. (tt, rw (append-nil sent) all), λ parts. rw (append-nil sent) at parts.1)
  halves sent r (body ∷ bodies) more =
      let m : Msg = record { sender = i; body = body } in
      grind (arith, nat_tests, halves (sent ++ m ∷ []) r bodies more, append_assoc sent (m ∷ []) (messages_of i bodies))
