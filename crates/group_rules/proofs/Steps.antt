-- What any step leaves: what was sent stays sent, and one seat changes.
use Rattle.std.proofs.Common.{◌≡◌, ◌∙◌, ◌⊎◌, ℕ, List, [], ◌∷◌, ◌++◌, Contains, Option, None, Some, inl, inr, refl, sym, ap, subst, append-nil, append_assoc, arith}
use Rattle.std.proofs.lemmas.Bool.Decides.{nat_tests}
use Rattle.std.proofs.lemmas.List.Elements.{Contains-append_cases}
use Rattle.paxos_msg.specs.declared.value.Value.{Value}
use Rattle.paxos_msg.specs.declared.record.Change.TheVariants as change
use Rattle.paxos_msg.specs.Batches.{Body, Change, MaySend, MaySendAll, Msg, Record, Sent}
use Rattle.paxos_msg.specs.Keys.{Key}
use Rattle.paxos_msg.specs.Messages.{IsSent, messages_of}
use Rattle.paxos_acceptor.specs.Answers.{after}
use Rattle.group_node.specs.Deeds as deed
use Rattle.group_node.specs.Deeds.{Deed}
use Rattle.group_rules.specs.Leads.{LeadsByRules, LeadsUnder, NodeDeed}
use Rattle.group_rules.specs.Rules.{CallOrFall, ChangesOnly, Falls, MayCause, WorldState, WorldStep}
use Rattle.group_protocol.proofs.Elements.{in_cases, none_in, of_map}

-- ---- one step

-- nothing, or a change of one seat
data Changed (w v : WorldState) (i : ℕ) : Type 0 where
  same : v ≡ w → Changed w v i
  only : (bodies : List Body) (keys : List Key) → ChangesOnly w v i bodies keys → Changed w v i

fallen_changed : {w v : WorldState} {i : ℕ} {c : Change} → Falls w v i c → Changed w v i
fallen_changed f = only [] [] f.rest

call_changed : {w v : WorldState} {i : ℕ} (c : Option Change) → CallOrFall w v i c → Changed w v i
call_changed None call = only call.bodies [] call.rest
call_changed (Some c) (inl call) = only call.bodies [] call.rest
call_changed (Some c) (inr (up, fell)) = fallen_changed fell

step_changed : (w v : WorldState) (i : ℕ) (e : Deed) → WorldStep w i e v → Changed w v i
step_changed w v i deed.Idle h = same h
step_changed w v i (deed.Start r) (down, loaded, inl h) = only [] [] h.rest
step_changed w v i (deed.Start r) (down, loaded, inr h) = fallen_changed h
step_changed w v i (deed.Hear message) h = call_changed h.saved h.call
step_changed w v i (deed.Press byte) h = only h.call.bodies _ h.call.rest
step_changed w v i deed.Campaign h = call_changed (Some (change.Promise (record { round = h.round; node = i }))) h.call
step_changed w v i deed.Tick h = only h.bodies [] h.rest
step_changed w v i (deed.Run most) h = only [] [] h.rest
step_changed w v i deed.Release h = only [] [] h.rest
step_changed w v i deed.Crash h = only [] [] h.rest

-- what was sent stays sent
pub record IsLater (w v : WorldState) : Type 0 where
  pub size : v.size ≡ w.size
  pub more : Sent
  pub sent : v.sent ≡ w.sent ++ more

pub step_later : (w v : WorldState) (i : ℕ) (e : Deed) → WorldStep w i e v → IsLater w v
step_later w v i e h = by (step_changed w v i e h) where
  by : Changed w v i → IsLater w v
  by (same is) = rw is (record { size = refl; more = []; sent = sym (append-nil w.sent) })
  by (only bodies keys rest) = record { size = rest.size; more = _; sent = rest.sent }

-- ---- steps, one after the other

-- what holds of the first and stays holds of the last
pub leads_keep : (P : WorldState → Type 0) → ((w v : WorldState) (i : ℕ) (e : Deed) → P w → WorldStep w i e v → P v)
    → (deeds : List NodeDeed) (w v : WorldState) → P w → LeadsByRules w deeds v → P v
unfolding LeadsUnder
leads_keep P step [] w v h leads = subst P (sym leads) h
leads_keep P step (a ∷ deeds) w v h (mid, first, rest) = leads_keep P step deeds mid v (step w mid a.node a.deed h first) rest

-- a relation of the first and the last
pub leads_relate : (R : WorldState → WorldState → Type 0) → ((w : WorldState) → R w w)
    → ((w m v : WorldState) (i : ℕ) (e : Deed) → R w m → WorldStep m i e v → R w v)
    → (deeds : List NodeDeed) (w v : WorldState) → LeadsByRules w deeds v → R w v
leads_relate R itself step deeds w v leads =
    leads_keep (R w) (λ m x i e. step w m x i e) deeds w v (itself w) leads

pub later_itself : (w : WorldState) → IsLater w w
later_itself w = record { size = refl; more = []; sent = sym (append-nil w.sent) }

pub later_step : (w m v : WorldState) (i : ℕ) (e : Deed) → IsLater w m → WorldStep m i e v → IsLater w v
later_step w m v i e h step =
    let next = step_later m v i e step in
    record {
      size = next.size ∙ h.size;
      more = h.more ++ next.more;
      sent = next.sent ∙ ap (λ l. l ++ next.more) h.sent ∙ append_assoc w.sent h.more next.more;
    }

-- ---- what a call sends

-- each message may be sent, after those before it
pub may_each : (size : ℕ) (typed : List Key) (learned : ℕ → Option Value) (i : ℕ) (r : Record) (bodies : List Body) (sent : Sent)
    → MaySendAll size typed learned sent i r bodies → (body : Body) → Contains bodies body
    → (all : Sent) × MaySend size typed learned all i r body
may_each size typed learned i r [] sent may body among = absurd (none_in body among)
may_each size typed learned i r (x ∷ more) sent may body among = elim (in_cases x more body among) [
  | inl e ↦ (sent, subst (λ b. MaySend size typed learned sent i r b) e may.0)
  | inr later ↦ may_each size typed learned i r more _ may.1 body later
]

-- a message that is sent now was sent before, or is one of the call
pub sent_cases : {w v : WorldState} {i : ℕ} {bodies : List Body} {keys : List Key} → ChangesOnly w v i bodies keys
    → (j : ℕ) (body : Body) → IsSent v.sent j body → IsSent w.sent j body ⊎ ((i ≡ j) × Contains bodies body)
sent_cases {w} {v} {i} {bodies} rest j body among = by (Contains-append_cases w.sent _ _ (rw rest.sent at among)) where
  by : IsSent w.sent j body ⊎ IsSent (messages_of i bodies) j body → IsSent w.sent j body ⊎ ((i ≡ j) × Contains bodies body)
  by (inl before) = inl before
  by (inr now) =
      let (b, here, is) = of_map _ bodies _ now in
      inr (ap (λ (m : Msg). m.sender) is, subst (Contains bodies) (ap (λ (m : Msg). m.body) is) here)

-- a call at a delivery counts no start
pub cause_counts : (body : Body) (o : Option Change) → MayCause body o → (r : Record) → (after r o).starts ≡ r.starts
cause_counts body o may r = grind (arith, nat_tests)
