use Rattle.std.proofs.lemmas.Bool.Decides.{nat_tests}
use Rattle.std.proofs.lemmas.List.Elements.{All-contains}
use Rattle.std.proofs.Common.{◌≡◌, List, [], ◌∷◌, ◌++◌, All, Contains, None, Some, inl, inr, refl, sym, arith}
use Rattle.std.specs.Ordering.{nat_cmp}
use Rattle.std.specs.FinMap.{FinMap, empty, insert, get-empty}
use Rattle.paxos_msg.specs.declared.value.Value.{Value}
use Rattle.paxos_msg.specs.Chosen.{is_listed}
use Rattle.paxos_msg.specs.Keys.{Key}
use Rattle.paxos_learner.proofs.OnePlace.{get_here}
use Rattle.paxos_learner.specs.Input.{front_values, keys_in_order}
use Rattle.group_rules.specs.Rules.{LearnsOnly, MakesCall, Up, WorldState}
use Rattle.group_rules.specs.WrongSteps.{batch_40, four_accepted, kept_third, nine, nine_up, seat_up, up_as, up_learned}
use Rattle.group_protocol.proofs.Elements.{entries_none, entries_one, minority, none_in}
use Rattle.group_rules.proofs.laws.steps.wrong_learning.Goals as goal

-- a node learns only what it may
call_learns : (w v : WorldState) (was now : Up) → MakesCall w v 9 None [] → (w.seats 9).up ≡ Some was → (v.seats 9).up ≡ Some now
    → LearnsOnly w [] was now
call_learns w v was now h before later = grind arith

-- the key is read from what is learned
abbrev Read : FinMap nat_cmp Value → Key → Type 0
Read learned k = Contains (keys_in_order (front_values learned)) k

-- of keys that wait, where none is read, all stay
all_stay : (learned : FinMap nat_cmp Value) → keys_in_order (front_values learned) ≡ [] → (gone keys stay : List Key)
    → All (Read learned) gone → keys ≡ gone ++ stay → stay ≡ keys
all_stay learned none [] keys stay below e = sym e
all_stay learned none (k ∷ gone) keys stay below e =
    absurd (none_in k (rw none at (All-contains (Read learned) (k ∷ gone) k below (0, omega arith, refl))))

-- so a tick leaves all keys that wait
tick_stays : (learned : FinMap nat_cmp Value) → keys_in_order (front_values learned) ≡ [] → (keys stay : List Key)
    → MakesCall (nine_up (up_as learned [] 0 keys)) (nine_up (up_as learned [] 0 stay)) 9 None [] → stay ≡ keys ++ []
tick_stays learned none keys stay h =
    let waits = (call_learns _ _ (up_as learned [] 0 keys) (up_as learned [] 0 stay) h refl refl).waiting in
    all_stay learned none waits.gone (keys ++ []) stay waits.below waits.parts

-- node 9 has learned this where four of nine nodes, no majority, have accepted a value
abbrev four_sent : FinMap nat_cmp Value → WorldState
four_sent learned = nine (seat_up kept_third [] (up_learned learned)) (four_accepted (batch_40 65)) []

pub returns-clause-learns_by_four : goal.returns-clause-learns_by_four
returns-clause-learns_by_four c h =
    let learned : FinMap nat_cmp Value = insert empty 700 (batch_40 65) in
    let learns = call_learns (four_sent empty) (four_sent learned) (up_learned empty) (up_learned learned) h refl refl in
    elim (learns.gains 700 (batch_40 65) (get_here empty 700 (batch_40 65))) [
      | inl old ↦ cc (get-empty {X = Value} nat_cmp 700)
      | inr (inl (i, among)) ↦ grind (arith, nat_tests)
      | inr (inr (b, (members, majority, each))) ↦
          minority 9 members (is_listed (2 ∷ 3 ∷ 4 ∷ 6 ∷ [])) (omega arith)
          (λ i is. let among = each i is in grind (arith, nat_tests)) majority
    ]

pub returns-clause-forgets : goal.returns-clause-forgets
returns-clause-forgets c h = grind (arith, get-empty {X = Value} nat_cmp 700, get_here empty 700 (batch_40 65))

-- nothing is read where nothing is learned, or what is learned is above a hole
pub returns-clause-leaves_unread : goal.returns-clause-leaves_unread
returns-clause-leaves_unread c h = let same = tick_stays empty (rw entries_none refl) _ [] h in cc

pub returns-clause-leaves_above_a_hole : goal.returns-clause-leaves_above_a_hole
returns-clause-leaves_above_a_hole c h =
    let same = tick_stays (insert empty 700 (batch_40 65)) (rw (entries_one 700 (batch_40 65)) refl) _ [] h in cc
