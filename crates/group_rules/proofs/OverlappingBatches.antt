-- Batches that overlap are chosen one after the other.
use Rattle.std.proofs.lemmas.List.Elements.{All-from_recursion}
use Rattle.std.proofs.Common.{◌≡◌, [], ◌∷◌, Contains, None, inl, arith, drop, lit<, nat_cmp, refl, take}
use Rattle.std.specs.FinMap.{empty, get-empty}
use Rattle.pcode_file.specs.Parts.{Parts}
use Rattle.paxos_msg.specs.declared.message.Body.TheVariants.{Promise, Submit}
use Rattle.paxos_msg.specs.Keys.{Key}
use Rattle.paxos_learner.proofs.OnePlace.{get_here}
use Rattle.paxos_learner.specs.Input.{front_values, input_of, keys_in_order}
use Rattle.group_node.specs.Inputs.{AreChosen}
use Rattle.group_protocol.proofs.Elements.{entries_one}
use Rattle.group_rules.specs.Leads.{LeadsByRules}
use Rattle.group_rules.specs.Reachable.{opening_ballot, first_batch, first_two, last_two, one_new, overlapping_deeds}
use Rattle.group_rules.specs.Rules.{LearnsOnly, Up, WorldState, fresh}
use Rattle.group_rules.proofs.ChainedSteps.{◌▸◌, Reached, and_then, campaigns, hears, hears_by, key_1, knowing, learns_at, makes_call, presses, promised, proposes, report, safe_at_first, starts, stop, submits_none, submits_one, ticks, typed_by, typing, votes}
use Rattle.group_rules.proofs.GroupsReached.{waits}
use Rattle.group_rules.proofs.WrittenVotes.{are_chosen, chosen_by}

abbrev second : Key
second = record { node = 1; start = 1; serial = 2; byte = 66 }

abbrev third : Key
third = record { node = 1; start = 1; serial = 3; byte = 67 }

module _ (p : Parts) where
  abbrev two_wait : Up
  two_wait = typing (waits p) (second ∷ [])

  -- the first key is read, and no longer waits
  abbrev one_left : Up
  one_left = record (knowing two_wait 0 first_batch) { waiting = second ∷ [] }

  abbrev two_left : Up
  two_left = typing one_left (third ∷ [])

  -- both batches are accepted
  abbrev accepted : Reached (one_new p) (take 11 overlapping_deeds)
  accepted =
      starts 1 refl
      ▸ presses 1 (fresh p) refl key_1 refl refl refl
      ▸ campaigns 1 (waits p) refl 1 0 tt
      ▸ hears 1 (waits p) refl 0 _ None (Promise opening_ballot 0 3 [] ∷ []) refl refl (inl refl) tt ((refl, report _ _ _ tt), tt)
      ▸ ticks 1 (waits p) refl (Submit first_batch ∷ []) (typed_by _ 1 1 1 65 [] ((0, lit< tt, refl), tt), tt)
      (submits_one _ first_batch (record { rest = []; whole = refl }))
      ▸ presses 1 (waits p) refl second refl refl refl
      ▸ ticks 1 two_wait refl (Submit first_two ∷ []) (typed_by _ 1 1 1 65 (66 ∷ []) ((0, lit< tt, refl), ((1, lit< tt, refl), tt)), tt)
      (submits_one _ first_two (record { rest = []; whole = refl }))
      ▸ proposes 1 two_wait refl 2 _ opening_ballot 0 first_batch refl refl refl refl (safe_at_first (1 ∷ []) (lit< tt)
      (promised (1, lit< tt, refl) (omega arith) (omega arith), tt) (1, (2, lit< tt, refl)))
      ▸ proposes 1 two_wait refl 3 _ opening_ballot 1 first_two refl refl refl refl (safe_at_first (1 ∷ []) (lit< tt)
      (promised (1, lit< tt, refl) (omega arith) (omega arith), tt) (1, (3, lit< tt, refl)))
      ▸ votes 1 two_wait refl 4 1 opening_ballot 0 first_batch refl refl refl
      ▸ votes 1 two_wait refl 5 1 opening_ballot 1 first_two refl refl refl
      ▸ stop

  -- the first is learned, the third key is typed, and the last batch is accepted
  learns_first : LearnsOnly accepted.end [] two_wait one_left
  learns_first =
      let learned = learns_at accepted.end two_wait 0 first_batch (get-empty nat_cmp 0)
      (opening_ballot, chosen_by accepted.end.sent (1 ∷ []) 6 (lit< tt) refl) in
      let read : Contains (keys_in_order (front_values one_left.learned)) key_1 =
      rw (entries_one 0 first_batch, get_here empty 0 first_batch) (0, omega arith, refl) in
      record {
        keeps = learned.keeps;
        gains = learned.gains;
        configuration = refl;
        released = refl;
        waiting = record {
          gone = key_1 ∷ [];
          parts = refl;
          below = All-from_recursion (λ k. Contains (keys_in_order (front_values one_left.learned)) k) (key_1 ∷ []) (read, tt);
        };
      }

  abbrev last_accepted : Reached accepted.end (drop 11 overlapping_deeds)
  last_accepted =
      hears_by 1 two_wait refl 6 _ None refl refl (makes_call accepted.end 1 None [] one_left [] two_wait refl tt tt learns_first
      (submits_none _ [] refl) (omega arith))
      ▸ presses 1 one_left refl third refl refl refl
      ▸ ticks 1 two_left refl (Submit last_two ∷ []) (typed_by _ 1 1 2 66 (67 ∷ []) ((1, lit< tt, refl), ((2, lit< tt, refl), tt)), tt)
      (submits_one _ last_two (record { rest = []; whole = refl }))
      ▸ proposes 1 two_left refl 8 _ opening_ballot 2 last_two refl refl refl refl (safe_at_first (1 ∷ []) (lit< tt)
      (promised (1, lit< tt, refl) (omega arith) (omega arith), tt) (1, (8, lit< tt, refl)))
      ▸ votes 1 two_left refl 9 1 opening_ballot 2 last_two refl refl refl
      ▸ stop

  abbrev all_accepted : Reached (one_new p) overlapping_deeds
  all_accepted = and_then accepted last_accepted

pub batches_may_overlap : (p : Parts) → (w : WorldState) × LeadsByRules (one_new p) overlapping_deeds w
    × AreChosen w.size w.sent (first_batch ∷ first_two ∷ last_two ∷ [])
    × (input_of (first_batch ∷ first_two ∷ last_two ∷ []) ≡ 65 ∷ 66 ∷ 67 ∷ [])
batches_may_overlap p = (
  _,
  (all_accepted p).leads,
  are_chosen (first_batch ∷ first_two ∷ last_two ∷ []) (
    (opening_ballot, chosen_by (all_accepted p).end.sent (1 ∷ []) 6 (lit< tt) refl),
    (
      (opening_ballot, chosen_by (all_accepted p).end.sent (1 ∷ []) 7 (lit< tt) refl),
      ((opening_ballot, chosen_by (all_accepted p).end.sent (1 ∷ []) 10 (lit< tt) refl), tt),
    ),
  ),
  refl,
)
