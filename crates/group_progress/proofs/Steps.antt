-- Events of nodes by what the nodes know: what one leaves, and nodes one after another.
use Rattle.std.proofs.Common.{◌≡◌, ◌≢◌, ◌∙◌, ◌⊎◌, inl, inr, ℕ, zero, suc, suc-mul, ◌+◌, ◌*◌, ◌<◌, ◌≤◌, Contains, Bool, IsTrue, List, [], ◌∷◌, ◌++◌, length, slice_get, Some, None, refl, sym, ap, subst, arith, false, true}
use Rattle.std.proofs.lemmas.Bool.{both_ways, cases_eq, cases_Bool}
use Rattle.std.proofs.lemmas.Option.{slice_get-get_or}
use Rattle.paxos_msg.specs.declared.limits.TheConstants.{LAST_ROUND, LAST_START, PLACES}
use Rattle.paxos_msg.specs.Batches.{Msg, Sent}
use Rattle.group_protocol.specs.Known.{Known, Response, front, on_start}
use Rattle.group_protocol.specs.ProposerResponses.{last_round, on_campaign}
use Rattle.group_protocol.specs.Protocol.{answer_to}
use Rattle.group_protocol.specs.Steps.{messages_handed_out}
use Rattle.group_protocol.specs.Tick.{on_tick}
use Rattle.group_node.specs.Output.{Progress}
use Rattle.group_world.specs.Group.{me_of, member_at, World, world_state}
use Rattle.group_world.specs.Member.{Member}
use Rattle.group_progress.specs.GoingOn.{Reaches, ReachesWithin}
use Rattle.group_progress.specs.Below.{EventLaws}
use Rattle.group_progress.proofs.Within
use Rattle.group_progress.proofs.Within.{within}
use Rattle.group_progress.proofs.Going.{Did, Good, can_campaign, can_hear, can_start, can_tick, stay, then}

-- ---- nodes

-- node `i` is up, and knows this
pub record Has (w : World) (i : ℕ) (n : Known) : Type 0 where
  pub node : Member
  pub progress : Progress
  pub there : member_at w.members i ≡ Some node
  pub up : node.node ≡ Some (record { known = n; progress = progress })

-- what an event of node `i` leaves, with this response
pub record Step (w : World) (i : ℕ) (done : Response) (v : World) : Type 0 where
  pub good : Good v
  pub group : v.group ≡ w.group
  pub now : Has v i done.node
  pub others : (j : ℕ) → j ≢ i → member_at v.members j ≡ member_at w.members j
  pub sent : (world_state v).sent ≡ (world_state w).sent ++ messages_handed_out i done.sends

step_of : {w v : World} {i : ℕ} {m : Member} {progress : Progress} {done : Response} → Did w i m progress done v → Step w i done v
step_of {progress = progress} did = record {
  good = did.good;
  group = did.group;
  now = record { node = _; progress = progress; there = did.there; up = refl };
  others = did.others;
  sent = did.sent;
}

-- the other nodes know what they knew
pub still : {w v : World} {i : ℕ} {done : Response} → Step w i done v → (j : ℕ) {n : Known} → j ≢ i → Has w j n → Has v j n
still step j other has =
    record { node = has.node; progress = has.progress; there = step.others j other ∙ has.there; up = has.up }

-- ---- messages that were sent after the first `n`

pub record New (n : ℕ) (sent : Sent) (m : Msg) : Type 0 where
  pub number : ℕ
  pub late : n ≤ number
  pub at : slice_get sent number ≡ Some m

left_place : {X : Type 0} (xs ys : List X) (s : ℕ) (x : X) → slice_get xs s ≡ Some x → slice_get (xs ++ ys) s ≡ Some x
left_place [] ys s x e = cc
left_place (y ∷ xs) ys zero x e = e
left_place (y ∷ xs) ys (suc s) x e = left_place xs ys s x e

right_place : {X : Type 0} (xs ys : List X) (s : ℕ) (x : X) → slice_get ys s ≡ Some x → slice_get (xs ++ ys) (length xs + s) ≡ Some x
right_place [] ys s x e = let same : s ≡ 0 + s = omega arith in subst (λ k. slice_get ys k ≡ Some x) same e
right_place (y ∷ xs) ys s x e =
    let same : suc (length xs + s) ≡ suc (length xs) + s = omega arith in
    subst (λ k. slice_get (y ∷ (xs ++ ys)) k ≡ Some x) same (right_place xs ys s x e)

pub new_stays : {n : ℕ} {sent : Sent} {m : Msg} (more : Sent) → New n sent m → New n (sent ++ more) m
new_stays {sent = sent} {m} more new =
    record { number = new.number; late = new.late; at = left_place sent more new.number m new.at }

pub new_in : {n : ℕ} (sent more : Sent) (m : Msg) → n ≤ length sent → Contains more m → New n (sent ++ more) m
new_in sent more m late (k, below, at) = record {
  number = length sent + k;
  late = omega (arith, late);
  at = right_place sent more k m (slice_get-get_or more k m below ∙ ap Some at);
}

-- ---- what may happen next

module _ (laws : EventLaws) {members : ℕ → Bool} {n : ℕ} {w : World} {P : World → Type 0} (good : Good w) (i : ℕ)
    (own : IsTrue (members i)) where
  pub starts : {m : Member} → member_at w.members i ≡ Some m → m.node ≡ None → m.kept.starts < LAST_START
      → ((v : World) → Step w i (on_start (me_of w i) m.kept) v → P v) → ReachesWithin 1 0 members n w P
  starts {m} there down less go_on = can_start laws good i there own down less (λ v did. go_on v (step_of did))

  module _ {k : Known} (has : Has w i k) where
    pub ticks : ((v : World) → Step w i (on_tick k) v → P v) → ReachesWithin 1 0 members n w P
    ticks go_on = can_tick laws good i has.there own has.up (λ v did. go_on v (step_of did))

    pub campaigns : last_round k < LAST_ROUND → front k < PLACES → ((v : World) → Step w i (on_campaign k) v → P v)
        → ReachesWithin 1 0 members n w P
    campaigns round place go_on = can_campaign laws good i has.there own has.up round place (λ v did. go_on v (step_of did))

    pub hears : {message : Msg} → New n (world_state w).sent message → ((v : World) → Step w i (answer_to message k) v → P v)
        → ReachesWithin 0 1 members n w P
    hears {message} new go_on =
        can_hear laws good i has.there own has.up new.number message new.late new.at (λ v did. go_on v (step_of did))

-- ---- nodes one after another

module _ (members : ℕ → Bool) (Inv : ℕ → World → Type 0) (Q : ℕ → World → Type 0) where
  abbrev AllTo : ℕ → World → Type 0
  AllTo k v = Inv k v × ((i : ℕ) → 0 < i → i ≤ k → IsTrue (members i) → Q i v)

  none_yet : {w : World} → Inv 0 w → AllTo 0 w
  none_yet inv = (inv, λ i some below own. absurd (omega (arith, some, below)))

  -- one more of them
  one_more : (k : ℕ) {v u : World} → AllTo k v → Inv (suc k) u → (IsTrue (members (suc k)) → Q (suc k) u)
      → ((j : ℕ) → j ≢ suc k → Q j v → Q j u) → AllTo (suc k) u
  one_more k {v} {u} all inv here there = (inv, λ i some below own. by i (cases_eq i (suc k)) some below own) where
    by : (i : ℕ) → (i ≡ suc k) ⊎ (i ≢ suc k) → 0 < i → i ≤ suc k → IsTrue (members i) → Q i u
    by i (inl e) some below own = subst (λ j. Q j u) (sym e) (here (subst (λ j. IsTrue (members j)) e own))
    by i (inr other) some below own = there i other (all.1 i some (omega (arith, below, other)) own)

  -- one that has no turn
  passed : (k : ℕ) {v : World} → members (suc k) ≡ false → AllTo k v → Inv (suc k) v → AllTo (suc k) v
  passed k not all inv = one_more k all inv (λ own. absurd (both_ways (members (suc k)) not own)) (λ j other q. q)

-- `Inv k` holds once the nodes up to `k` had their turn, each of which then has `Q`
module _ {members : ℕ → Bool} {n : ℕ} (size : ℕ) (Inv : ℕ → World → Type 0) (Q : ℕ → World → Type 0)
    (skip : (k : ℕ) (w : World) → ¬ IsTrue (members (suc k)) → Inv k w → Inv (suc k) w)
    (step : (k : ℕ) (w : World) → suc k ≤ size → IsTrue (members (suc k)) → Inv k w
    → Reaches members n w (λ v. Inv (suc k) v × Q (suc k) v × ((j : ℕ) → j ≢ suc k → Q j w → Q j v))) where
  pub each_in_turn : (k : ℕ) → k ≤ size → (w : World) → Inv 0 w → Reaches members n w (AllTo members Inv Q k)
  each_in_turn zero low w inv = stay (none_yet members Inv Q inv)
  each_in_turn (suc k) low w inv = then (each_in_turn k (omega (arith, low)) w inv) (λ v all. by v all (cases_Bool (members (suc k)))) where
    by : (v : World) → AllTo members Inv Q k v → (members (suc k) ≡ true) ⊎ (members (suc k) ≡ false) → Reaches members n v
        (AllTo members Inv Q (suc k))
    by v all (inl is) =
        then (step k v low is all.0) (λ u next. stay (one_more members Inv Q k all next.0 (λ own. next.1) next.2))
    by v all (inr not) = stay (passed members Inv Q k not all (skip k v (λ own. both_ways (members (suc k)) not own) all.0))

-- what each of these nodes takes in its turn, with what all before it took
pub record IsCost (members : ℕ → Bool) (cost total : ℕ → ℕ) : Type 0 where
  pub grows : (k : ℕ) → total k ≤ total (suc k)
  pub adds : (k : ℕ) → IsTrue (members (suc k)) → total k + cost k ≤ total (suc k)

-- the same, where the turn of each has its cost
module _ {members : ℕ → Bool} {n : ℕ} (size : ℕ) (ticks messages all_ticks all_messages : ℕ → ℕ)
    (tick_turn : IsCost members ticks all_ticks) (message_turn : IsCost members messages all_messages)
    (Inv : ℕ → World → Type 0) (Q : ℕ → World → Type 0)
    (skip : (k : ℕ) (w : World) → ¬ IsTrue (members (suc k)) → Inv k w → Inv (suc k) w)
    (step : (k : ℕ) (w : World) → suc k ≤ size → IsTrue (members (suc k)) → Inv k w
    → ReachesWithin (ticks k) (messages k) members n w (λ v. Inv (suc k) v × Q (suc k) v × ((j : ℕ) → j ≢ suc k → Q j w → Q j v))) where
  pub each_at_cost : (k : ℕ) → k ≤ size → (w : World) → Inv 0 w
      → ReachesWithin (all_ticks k) (all_messages k) members n w (AllTo members Inv Q k)
  each_at_cost zero low w inv = within (Within.stay (none_yet members Inv Q inv)) (omega arith) (omega arith)
  each_at_cost (suc k) low w inv = by (each_at_cost k (omega (arith, low)) w inv) (cases_Bool (members (suc k))) where
    by : ReachesWithin (all_ticks k) (all_messages k) members n w (AllTo members Inv Q k)
        → (members (suc k) ≡ true) ⊎ (members (suc k) ≡ false)
        → ReachesWithin (all_ticks (suc k)) (all_messages (suc k)) members n w (AllTo members Inv Q (suc k))
    by before (inl is) =
        within (Within.then before (λ v all. Within.then (step k v low is all.0) (λ u next.
        Within.stay (one_more members Inv Q k all next.0 (λ own. next.1) next.2)))) (omega (arith, tick_turn.adds k is))
        (omega (arith, message_turn.adds k is))
    by before (inr not) =
        within (Within.then before (λ v all. Within.stay (passed members Inv Q k not all
        (skip k v (λ own. both_ways (members (suc k)) not own) all.0)))) (omega (arith, tick_turn.grows k))
        (omega (arith, message_turn.grows k))

-- one turn more of a loop
pub turn_more : (k most : ℕ) → k * most + most ≡ suc k * most
turn_more k most = omega (arith, suc-mul k most)

even : (members : ℕ → Bool) (most : ℕ) → IsCost members (λ k. most) (λ k. k * most)
even members most = record { grows = λ k. omega (arith, turn_more k most); adds = λ k own. omega (arith, turn_more k most) }

-- the same, where the turn of each takes at most so many events
module _ {members : ℕ → Bool} {n : ℕ} (size ticks messages : ℕ) (Inv : ℕ → World → Type 0) (Q : ℕ → World → Type 0)
    (skip : (k : ℕ) (w : World) → ¬ IsTrue (members (suc k)) → Inv k w → Inv (suc k) w)
    (step : (k : ℕ) (w : World) → suc k ≤ size → IsTrue (members (suc k)) → Inv k w
    → ReachesWithin ticks messages members n w (λ v. Inv (suc k) v × Q (suc k) v × ((j : ℕ) → j ≢ suc k → Q j w → Q j v))) where
  pub each_within : (w : World) → Inv 0 w → ReachesWithin (size * ticks) (size * messages) members n w (AllTo members Inv Q size)
  each_within w inv =
      each_at_cost size (λ k. ticks) (λ k. messages) (λ k. k * ticks) (λ k. k * messages) (even members ticks) (even members messages) Inv Q
      skip step size (omega arith) w inv
