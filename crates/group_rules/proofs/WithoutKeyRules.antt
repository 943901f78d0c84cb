-- Without one of the rules on the order of keys and on starts a second key is chosen and the first is
-- not, or two keys with one name are.
use Rattle.std.proofs.lemmas.Bool.Decides.{nat_tests}
use Rattle.std.proofs.lemmas.List.Elements.{All-from_recursion}
use Rattle.std.proofs.Common.{◌≡◌, ℕ, [], ◌∷◌, ◌++◌, Contains, drop, take, None, Some, inl, inr, refl, arith, lit<, nat_cmp}
use Rattle.std.specs.FinMap.{empty, get-empty}
use Rattle.pcode_file.specs.Parts.{Parts}
use Rattle.paxos_msg.specs.declared.ballot.Ballot.{Ballot}
use Rattle.paxos_msg.specs.declared.message.Body.TheVariants.{Accept, Accepted, Prepare, Promise, Submit}
use Rattle.paxos_msg.specs.declared.record.Change.TheVariants as change
use Rattle.paxos_msg.specs.declared.value.Value.{Value}
use Rattle.paxos_msg.specs.Batches.{Sent}
use Rattle.paxos_msg.specs.Keys.{Key}
use Rattle.paxos_learner.proofs.OnePlace.{get_here}
use Rattle.paxos_learner.specs.Input.{front_values, keys_in_order}
use Rattle.group_node.specs.Deeds as deed
use Rattle.group_node.specs.Inputs.{AreChosen}
use Rattle.group_protocol.proofs.Elements.{entries_one}
use Rattle.group_rules.specs.Claims.{KeysOnce, SerialsInOrder, serials_of}
use Rattle.group_rules.specs.Leads.{LeadsUnder}
use Rattle.group_rules.specs.Reachable.{by, first_batch, first_chosen_deeds, first_kept, first_start_deeds, hears_from, later_ballot, one_new, opening_ballot, with_call}
use Rattle.group_rules.specs.Rules.{Up, WorldState, fresh, with_seat}
use Rattle.group_rules.specs.WeakerRules
use Rattle.group_rules.specs.WeakerRules.{StepWithout, WeakerStep}
use Rattle.group_rules.specs.WithoutRules.{chosen_later_deeds, chosen_next_deeds, counted_deeds, fallen_deeds, late_batch, left_unread_deeds, second_alone_deeds, started_hearing_deeds, twin_batch, typed_deeds}
use Rattle.group_rules.proofs.ChainedSteps.{◌▸◌, Reached, and_then, campaigns, hears, key_1, knowing, learns_at, learns_nothing, presses, promised, proposes, report, rest_seat, safe_at_first, says, seat_by, starts, stop, submits_none, submits_one, ticks, typed_by, typing, votes}
use Rattle.group_rules.proofs.GroupsReached.{first_chosen, first_crashed, first_start, vote_at, waits, chooses_later, first_promised}
use Rattle.group_rules.proofs.WeakerSteps.{leads_past, calls_without}
use Rattle.group_rules.proofs.WrittenVotes.{are_chosen, chosen_by, not_row, votes_of}

-- ---- what is chosen then

-- the values that are chosen at places 0 and 1, by these votes
both_chosen : {sent : Sent} {v : Value} {b : Ballot} (k : ℕ) → take 1 (drop 4 sent) ≡ votes_of (1 ∷ []) opening_ballot 0 first_batch
    → take 1 (drop k sent) ≡ votes_of (1 ∷ []) b 1 v → AreChosen 1 sent (first_batch ∷ v ∷ [])
both_chosen {sent} {v} {b} k first later =
    are_chosen (first_batch ∷ v ∷ [])
    ((opening_ballot, chosen_by sent (1 ∷ []) 4 (lit< tt) first), ((b, chosen_by sent (1 ∷ []) k (lit< tt) later), tt))

-- they leave out the first key of the second start
not_in_order : (w : WorldState) → AreChosen w.size w.sent (first_batch ∷ late_batch ∷ []) → ¬ SerialsInOrder w
not_in_order w chosen order =
    not_row {xs = serials_of 1 2 (keys_in_order (first_batch ∷ late_batch ∷ []))} (λ e. grind (arith, nat_tests))
    (order (first_batch ∷ late_batch ∷ []) chosen 1 2)

-- they have two keys with one name
not_once : (w : WorldState) → AreChosen w.size w.sent (first_batch ∷ twin_batch ∷ []) → ¬ KeysOnce w
not_once w chosen once =
    once (first_batch ∷ twin_batch ∷ []) chosen 0 1 key_1 (omega arith) (omega arith) (record { node = refl; start = refl; serial = refl })

-- ---- keys

-- the first and second key of the second start, and the first key of the first start with another
-- character
abbrev key_late : Key
key_late = record { node = 1; start = 2; serial = 2; byte = 66 }

abbrev key_first : Key
key_first = record { node = 1; start = 2; serial = 1; byte = 65 }

abbrev key_twin : Key
key_twin = record { node = 1; start = 1; serial = 1; byte = 66 }

module _ (p : Parts) where
  abbrev begun : WorldState
  begun = (first_start p).end

  -- ---- a tick submits the second key alone

  abbrev up_first : Up
  up_first = typing (fresh p) (key_first ∷ [])

  abbrev up_both : Up
  up_both = typing up_first (key_late ∷ [])

  abbrev both_typed : Reached (one_new p) (first_start_deeds ++ by 1 (deed.Press 65) ∷ by 1 (deed.Press 66) ∷ [])
  both_typed =
      and_then (first_start p) (
      presses 1 (fresh p) refl key_first refl refl refl
      ▸ presses 1 up_first refl key_late refl refl refl
      ▸ stop
      )

  abbrev typed_and_promised : Reached (one_new p) (first_start_deeds ++ by 1 (deed.Press 65) ∷ by 1 (deed.Press 66) ∷ by 1 deed.Campaign
      ∷ hears_from 1 1 (Prepare later_ballot 0) ∷ [])
  typed_and_promised =
      and_then both_typed (
      campaigns 1 up_both refl 2 0 (inl (omega arith))
      ▸ hears 1 up_both refl 5 _ None (Promise later_ballot 0 2 (vote_at 0 ∷ []) ∷ []) refl refl (inl refl) tt
      ((refl, report _ _ _ ((omega arith, omega arith), tt)), tt)
      ▸ stop
      )

  abbrev submitted : WorldState
  submitted = with_call typed_and_promised.end 1 None (Submit late_batch ∷ []) up_both []

  submits_late : WeakerStep WeakerRules.Submits typed_and_promised.end 1 deed.Tick submitted
  submits_late =
      let learns = learns_nothing typed_and_promised.end [] up_both in
      calls_without WeakerRules.Submits typed_and_promised.end 1 None (Submit late_batch ∷ []) up_both up_both [] refl (inr tt)
      (inr (typed_by _ 1 2 2 66 [] ((2, lit< tt, refl), tt), tt)) learns.keeps (inr learns.gains) (inr refl) (inr refl)
      (inr learns.waiting) (inl refl) (inr refl)

  abbrev after_submit : Reached submitted (chosen_next_deeds late_batch)
  after_submit =
      proposes 1 up_both refl 7 _ later_ballot 1 late_batch refl refl refl refl (safe_at_first (1 ∷ []) (lit< tt)
      (promised (6, lit< tt, refl) (omega arith) (omega arith), tt) (1, (7, lit< tt, refl)))
      ▸ votes 1 up_both refl 8 1 later_ballot 1 late_batch refl refl refl
      ▸ stop

  pub second_alone : (w : WorldState) × LeadsUnder (StepWithout WeakerRules.Submits) (one_new p) second_alone_deeds w × ¬ SerialsInOrder w
  second_alone = (
    after_submit.end,
    leads_past WeakerRules.Submits _ _ _ _ _ _ _ typed_and_promised.leads submits_late after_submit.leads,
    not_in_order after_submit.end (both_chosen 9 refl refl),
  )

  -- ---- a key leaves unread

  abbrev up_alone : Up
  up_alone = record up_both { waiting = key_late ∷ [] }

  abbrev one_left : WorldState
  one_left = with_call both_typed.end 1 None [] up_alone []

  leaves_unread : WeakerStep WeakerRules.Waiting both_typed.end 1 deed.Tick one_left
  leaves_unread =
      let learns = learns_nothing both_typed.end [] up_both in
      calls_without WeakerRules.Waiting both_typed.end 1 None [] up_both up_alone [] refl (inr tt) (inr tt) learns.keeps
      (inr learns.gains) (inr refl) (inr refl) (inl refl) (inr (submits_none _ [] refl)) (inr refl)

  abbrev after_left : Reached one_left (chosen_later_deeds late_batch)
  after_left =
      chooses_later p _ 2 up_alone _ late_batch (typed_by _ 1 2 2 66 [] ((2, lit< tt, refl), tt)) (record { rest = []; whole = refl })

  pub left_unread : (w : WorldState) × LeadsUnder (StepWithout WeakerRules.Waiting) (one_new p) left_unread_deeds w × ¬ SerialsInOrder w
  left_unread = (
    after_left.end,
    leads_past WeakerRules.Waiting _ _ _ _ _ _ _ both_typed.leads leaves_unread after_left.leads,
    not_in_order after_left.end (both_chosen 9 refl refl),
  )

  -- ---- a tick counts a key

  abbrev up_counted : Up
  up_counted = record (fresh p) { next = 2 }

  abbrev counted : WorldState
  counted = with_call begun 1 None [] up_counted []

  counts : WeakerStep WeakerRules.Next begun 1 deed.Tick counted
  counts =
      let learns = learns_nothing begun [] (fresh p) in
      calls_without WeakerRules.Next begun 1 None [] (fresh p) up_counted [] refl (inr tt) (inr tt) learns.keeps (inr learns.gains)
      (inr refl) (inr refl) (inr learns.waiting) (inr (submits_none _ [] refl)) (inl refl)

  abbrev up_after_count : Up
  up_after_count = typing up_counted (key_late ∷ [])

  abbrev after_count : Reached counted (by 1 (deed.Press 66) ∷ chosen_later_deeds late_batch)
  after_count =
      presses 1 up_counted refl key_late refl refl refl
      ▸ chooses_later p _ 2 up_after_count _ late_batch (typed_by _ 1 2 2 66 [] ((1, lit< tt, refl), tt))
      (record { rest = []; whole = refl })

  pub counted_on : (w : WorldState) × LeadsUnder (StepWithout WeakerRules.Next) (one_new p) counted_deeds w × ¬ SerialsInOrder w
  counted_on = (
    after_count.end,
    leads_past WeakerRules.Next _ _ _ _ first_start_deeds _ _ (first_start p).leads counts after_count.leads,
    not_in_order after_count.end (both_chosen 9 refl refl),
  )

  -- ---- a key is typed with serial 2

  abbrev up_late : Up
  up_late = typing (fresh p) (key_late ∷ [])

  abbrev typed_late : WorldState
  typed_late = with_call begun 1 None [] up_late (key_late ∷ [])

  types_late : WeakerStep WeakerRules.Serial begun 1 (deed.Press 66) typed_late
  types_late = record {
    key = key_late;
    node = refl;
    start = inr refl;
    character = refl;
    serial = inl refl;
    call = says 1 (fresh p) refl None [] (key_late ∷ []) tt tt (submits_none _ [] refl);
  }

  abbrev after_late : Reached typed_late (chosen_later_deeds late_batch)
  after_late =
      chooses_later p _ 2 up_late _ late_batch (typed_by _ 1 2 2 66 [] ((1, lit< tt, refl), tt)) (record { rest = []; whole = refl })

  pub left_out : (w : WorldState) × LeadsUnder (StepWithout WeakerRules.Serial) (one_new p) (typed_deeds late_batch) w × ¬ SerialsInOrder w
  left_out = (
    after_late.end,
    leads_past WeakerRules.Serial _ _ _ _ first_start_deeds _ _ (first_start p).leads types_late after_late.leads,
    not_in_order after_late.end (both_chosen 9 refl refl),
  )

  -- ---- a message causes a start

  -- what is read leaves
  abbrev up_read : Up
  up_read = record (knowing (waits p) 0 first_batch) { waiting = [] }

  -- the first batch is chosen, by a promise that covers place 1 too
  abbrev chosen_far : Reached (one_new p) first_chosen_deeds
  chosen_far = first_promised p 2 (omega arith)

  abbrev started : WorldState
  started = with_call chosen_far.end 1 (Some change.Start) [] up_read []

  starts_hearing : WeakerStep WeakerRules.Cause chosen_far.end 1
      (deed.Hear (record { sender = 1; body = Accepted opening_ballot 0 first_batch })) started
  starts_hearing =
      let learns = learns_at chosen_far.end (waits p) 0 first_batch (get-empty nat_cmp 0)
      (opening_ballot, chosen_by chosen_far.end.sent (1 ∷ []) 4 (lit< tt) refl) in
      let read : Contains (keys_in_order (front_values up_read.learned)) key_1 =
      rw (entries_one 0 first_batch, get_here empty 0 first_batch) (0, omega arith, refl) in
      let gone = All-from_recursion (λ k. Contains (keys_in_order (front_values up_read.learned)) k) (key_1 ∷ []) (read, tt) in
      record {
        is_sent = (4, lit< tt, refl);
        saved = Some change.Start;
        cause = inl refl;
        call =
            calls_without WeakerRules.Cause chosen_far.end 1 (Some change.Start) [] (waits p) up_read [] refl (inr tt) (inr tt)
            learns.keeps (inr learns.gains) (inr refl) (inr refl)
            (inr (record { gone = key_1 ∷ []; parts = refl; below = gone }))
            (inr (submits_none _ [] refl)) (inr refl);
      }

  abbrev up_second : Up
  up_second = typing up_read (key_late ∷ [])

  abbrev after_start : Reached started (by 1 (deed.Press 66) ∷ by 1 deed.Tick ∷ hears_from 1 1 (Submit late_batch)
      ∷ hears_from 1 1 (Accept opening_ballot 1 late_batch) ∷ [])
  after_start =
      presses 1 up_read refl key_late refl refl refl
      ▸ ticks 1 up_second refl (Submit late_batch ∷ []) (typed_by _ 1 2 2 66 [] ((1, lit< tt, refl), tt), tt)
      (submits_one _ late_batch (record { rest = []; whole = refl }))
      ▸ proposes 1 up_second refl 5 _ opening_ballot 1 late_batch refl refl refl refl (safe_at_first (1 ∷ []) (lit< tt)
      (promised (1, lit< tt, refl) (omega arith) (omega arith), tt) (1, (5, lit< tt, refl)))
      ▸ votes 1 up_second refl 6 1 opening_ballot 1 late_batch refl refl refl
      ▸ stop

  pub started_hearing : (w : WorldState) × LeadsUnder (StepWithout WeakerRules.Cause) (one_new p) started_hearing_deeds w
      × ¬ SerialsInOrder w
  started_hearing = (
    after_start.end,
    leads_past WeakerRules.Cause _ _ _ _ first_chosen_deeds _ _ chosen_far.leads starts_hearing after_start.leads,
    not_in_order after_start.end (both_chosen 7 refl refl),
  )

  -- ---- a key of a start before

  abbrev up_twin : Up
  up_twin = typing (fresh p) (key_twin ∷ [])

  abbrev typed_twin : WorldState
  typed_twin = with_call begun 1 None [] up_twin (key_twin ∷ [])

  types_twin : WeakerStep WeakerRules.Start_of_key begun 1 (deed.Press 66) typed_twin
  types_twin = record {
    key = key_twin;
    node = refl;
    start = inl refl;
    character = refl;
    serial = inr refl;
    call = says 1 (fresh p) refl None [] (key_twin ∷ []) tt tt (submits_none _ [] refl);
  }

  abbrev after_twin : Reached typed_twin (chosen_later_deeds twin_batch)
  after_twin =
      chooses_later p _ 2 up_twin _ twin_batch (typed_by _ 1 1 1 66 [] ((1, lit< tt, refl), tt)) (record { rest = []; whole = refl })

  pub typed_again : (w : WorldState) × LeadsUnder (StepWithout WeakerRules.Start_of_key) (one_new p) (typed_deeds twin_batch) w
      × ¬ KeysOnce w
  typed_again = (
    after_twin.end,
    leads_past WeakerRules.Start_of_key _ _ _ _ first_start_deeds _ _ (first_start p).leads types_twin after_twin.leads,
    not_once after_twin.end (both_chosen 9 refl refl),
  )

  -- ---- a start that is not counted

  abbrev uncounted : WorldState
  uncounted = with_seat (first_crashed p).end 1 (record { kept = first_kept; console = []; up = Some (fresh p) })

  starts_uncounted : WeakerStep WeakerRules.Start_counts (first_crashed p).end 1 (deed.Start first_kept) uncounted
  starts_uncounted = record {
    down = refl;
    own = refl;
    kept = first_kept;
    counts = inl refl;
    leaves = seat_by (first_crashed p).end 1 _;
    rest = rest_seat (first_crashed p).end 1 _;
  }

  abbrev after_uncounted : Reached uncounted (by 1 (deed.Press 66) ∷ chosen_later_deeds twin_batch)
  after_uncounted =
      presses 1 (fresh p) refl key_twin refl refl refl
      ▸ chooses_later p _ 1 up_twin _ twin_batch (typed_by _ 1 1 1 66 [] ((1, lit< tt, refl), tt)) (record { rest = []; whole = refl })

  pub started_uncounted : (w : WorldState) × LeadsUnder (StepWithout WeakerRules.Start_counts) (one_new p) (typed_deeds twin_batch) w
      × ¬ KeysOnce w
  started_uncounted = (
    after_uncounted.end,
    leads_past WeakerRules.Start_counts _ _ _ _ (first_chosen_deeds ++ by 1 deed.Crash ∷ []) _ _ (first_crashed p).leads starts_uncounted
        after_uncounted.leads,
    not_once after_uncounted.end (both_chosen 9 refl refl),
  )

  -- ---- a fall that forgets a start

  abbrev fallen : WorldState
  fallen = with_seat (first_chosen p).end 1 (record { kept = record first_kept { starts = 0 }; console = []; up = None })

  falls_back : WeakerStep WeakerRules.Fall_keeps (first_chosen p).end 1 deed.Campaign fallen
  falls_back = record {
    round = 2;
    falls = record {
      up = grind arith;
      saves = inl (omega arith);
      kept = inl refl;
      console = refl;
      down = refl;
      rest = rest_seat (first_chosen p).end 1 _;
    };
  }

  abbrev after_fall : Reached fallen (by 1 (deed.Start (record first_kept { starts = 0 })) ∷ by 1 (deed.Press 66)
      ∷ chosen_later_deeds twin_batch)
  after_fall =
      starts 1 refl
      ▸ presses 1 (fresh p) refl key_twin refl refl refl
      ▸ chooses_later p _ 1 up_twin _ twin_batch (typed_by _ 1 1 1 66 [] ((1, lit< tt, refl), tt)) (record { rest = []; whole = refl })

  pub fell_back : (w : WorldState) × LeadsUnder (StepWithout WeakerRules.Fall_keeps) (one_new p) fallen_deeds w × ¬ KeysOnce w
  fell_back = (
    after_fall.end,
    leads_past WeakerRules.Fall_keeps _ _ _ _ first_chosen_deeds _ _ (first_chosen p).leads falls_back after_fall.leads,
    not_once after_fall.end (both_chosen 9 refl refl),
  )
