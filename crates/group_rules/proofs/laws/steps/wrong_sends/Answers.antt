use Rattle.std.proofs.lemmas.List.{append_cancel_left}
use Rattle.std.proofs.lemmas.Option.{same_Some}
use Rattle.std.proofs.Common.{◌≡◌, ℕ, List, [], ◌∷◌, ◌++◌, Option, refl, sym, ap, arith}
use Rattle.std.specs.Ordering.{nat_cmp}
use Rattle.std.specs.FinMap.{empty, get, get-empty}
use Rattle.paxos_msg.specs.declared.message.Body.TheVariants.{Prepare, Promise, Accepted, Refused, Submit, Tell}
use Rattle.paxos_msg.specs.declared.value.Value.{Value}
use Rattle.paxos_msg.specs.Batches.{Sent, Body, MaySend, MaySendAll}
use Rattle.paxos_msg.specs.Messages.{messages_of}
use Rattle.group_node.specs.Deeds as deed
use Rattle.group_rules.specs.Rules.{Seat, WorldStep}
use Rattle.group_rules.specs.WrongSteps.{ballot_by, batch_40, kept_third, nine_sent, key_of_9, sent_by_ninth, seventh_proposes, up_learned, up_waiting}
use Rattle.group_rules.proofs.laws.steps.wrong_sends.Goals as goal

-- what node 9 has learned, which is nothing
abbrev nothing : ℕ → Option Value
nothing = get (empty {R = nat_cmp})

-- the one message of a tick is one that the node may send
first_sent : (sent : Sent) (body : Body) (bodies : List Body) → sent_by_ninth body ∷ [] ≡ messages_of 9 bodies
    → MaySendAll 9 [] nothing sent 9 kept_third bodies → MaySend 9 [] nothing sent 9 kept_third body
first_sent sent body [] e may = absurd cc
first_sent sent body (b ∷ more) e may = grind arith

one_sent : (sent : Sent) (body : Body) → WorldStep (nine_sent sent) 9 deed.Tick (nine_sent (sent ++ sent_by_ninth body ∷ []))
    → MaySend 9 [] nothing sent 9 kept_third body
one_sent sent body h =
    let same = same_Some h.now (up_learned empty) (sym (ap (λ (s : Seat). s.up) h.left)) in
    first_sent sent body h.bodies (append_cancel_left sent _ _ h.rest.sent) (rw same at h.sends)

pub returns : goal.returns
returns c = record {
  tells_unlearned = λ h.
      let there = one_sent [] (Tell 700 (batch_40 65)) h in cc (get-empty {X = Value} nat_cmp 700);
  submits_untyped = λ h.
      let same = same_Some h.now (up_waiting (key_of_9 40 65 ∷ [])) (sym (ap (λ (s : Seat). s.up) h.left)) in
      let may = first_sent [] (Submit (batch_40 65)) h.bodies (append_cancel_left [] _ _ h.rest.sent) (rw same at h.sends) in
      let (k, low, at) = may.known (key_of_9 40 65) (0, omega arith, refl) in
      omega arith;
  prepares_for_another = λ h. let same = (one_sent [] (Prepare (ballot_by 7 40) 700) h).0 in omega arith;
  promises_unsaved = λ h. let promised = one_sent [] (Promise (ballot_by 5 41) 700 701 []) h in grind arith;
  refuses_greater = λ h. let below = (one_sent [] (Refused (ballot_by 7 41) (ballot_by 7 40)) h).1 in grind (arith, below);
  accepts_unsaved = λ h. let none = (one_sent seventh_proposes (Accepted (ballot_by 7 40) 700 (batch_40 65)) h).1 in cc;
}
