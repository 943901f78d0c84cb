-- Groups that steps lead to: two nodes of three learn one value for a place, and show its echo; a
-- second ballot takes over a vote of the first; keys of two starts of one node are chosen; a node
-- that starts again releases a byte again.
use Rattle.std.proofs.lemmas.Bool.Decides.{nat_tests}
use Rattle.std.proofs.Common.{length, ◌==◌, ◌≡◌, ℕ, suc, if◌then◌else◌, [], ◌∷◌, drop, Option, IfSome, Some, None, inl, inr, refl, arith, lit<, ◌++◌, ◌∙◌, nat_cmp, eq-eqb, ◌<◌, List}
use Rattle.std.specs.FinMap.{empty, get-empty, insert}
use Rattle.pcode_file.specs.Parts.{Parts}
use Rattle.paxos_msg.specs.declared.ballot.Ballot.{Ballot}
use Rattle.paxos_msg.specs.declared.message.Body.TheVariants.{Promise, Accepted, Submit}
use Rattle.paxos_msg.specs.declared.record.Change.TheVariants as change
use Rattle.paxos_msg.specs.Ballots.{IsAtMost}
use Rattle.paxos_msg.specs.Batches.{IsSafe, Sent, Vote, IsTyped}
use Rattle.paxos_msg.specs.Chosen.{is_listed, IsChosenBy}
use Rattle.paxos_msg.specs.Messages.{IsSent, IsPromised}
use Rattle.paxos_learner.proofs.OnePlace.{get_here, get_put}
use Rattle.group_rules.specs.Claims.{HasLearned}
use Rattle.group_rules.specs.Rules.{Up, WorldState, fresh, WorldStep, after_release, with_seat, Seat}
use Rattle.group_rules.specs.WrongSteps.{ballot_by}
use Rattle.group_rules.specs.Leads.{LeadsByRules}
use Rattle.group_rules.specs.Reachable.{opening_ballot, first_batch, propose_deeds, takeover_deeds, three_new, two_learn_deeds, two_show_deeds, one_new, second_batch, two_starts_deeds, restart_deeds, by, first_chosen_deeds, first_start_deeds, later_ballot, first_kept}
use Rattle.group_rules.proofs.ChainedSteps.{◌▸◌, Reached, and_then, campaigns, hears, key_1, knowing, learns, presses, proposes, report, starts, stop, ticks, typed_by, typing, votes, StepLaw, releases, runs, crashes, released, promised, safe_at_first, submits_one, still}
use Rattle.group_rules.proofs.WrittenVotes.{are_chosen, at_listed, chosen_by, has_learned}
use Rattle.pcode_machine.specs.Runs.{after_steps, IsPrefix}
use Rattle.paxos_learner.specs.Input.{learned_input, keys_in_order}
use Rattle.group_rules.specs.SmallPrograms.{echoes, letter_program}
use Rattle.group_rules.proofs.SmallPrograms.{echoes_first, first_byte, writes_letter}
use Rattle.paxos_msg.specs.Keys.{Key, keys_of}
use Rattle.group_node.specs.Inputs.{AreChosen}
use Rattle.group_rules.specs.Claims.{AreInOrder, serials_of}
use Rattle.group_node.specs.declared.console.Offer.TheVariants.{Repeat}
use Rattle.group_node.specs.Console.{offer_answer}
use Rattle.group_node.specs.Deeds as deed
use Rattle.group_rules.specs.WithoutRules.{chosen_later_deeds}
use Rattle.paxos_msg.specs.declared.value.Value.{Value}

-- ---- two nodes learn a value

-- node 1, at which the key waits
abbrev pub waits : Parts → Up
waits p = typing (fresh p) (key_1 ∷ [])

module _ (p : Parts) (place : ℕ) where
  -- both start, the key is typed, both promise, and node 1 proposes
  abbrev first_8 : Reached (three_new p) (propose_deeds place)
  first_8 =
      starts 1 refl
      ▸ starts 2 refl
      ▸ presses 1 (fresh p) refl key_1 refl refl refl
      ▸ campaigns 1 (waits p) refl 1 place tt
      ▸ hears 1 (waits p) refl 0 _ None (Promise opening_ballot place (suc place) [] ∷ []) refl refl (inl refl) tt
      ((refl, report _ _ _ tt), tt)
      ▸ hears 2 (fresh p) refl 0 _ (Some (change.Promise opening_ballot)) (Promise opening_ballot place (suc place) [] ∷ []) refl refl
      (inr refl) tt
      ((refl, report _ _ _ tt), tt)
      ▸ ticks 1 (waits p) refl (Submit first_batch ∷ []) (typed_by _ 1 1 1 65 [] ((0, lit< tt, refl), tt), tt)
      (submits_one _ first_batch (record { rest = []; whole = refl }))
      ▸ proposes 1 (waits p) refl 3 _ opening_ballot place first_batch refl refl refl refl (safe_at_first (1 ∷ 2 ∷ []) (lit< tt)
      (promised (1, lit< tt, refl) (omega arith) (omega arith), (promised (2, lit< tt, refl) (omega arith) (omega arith), tt))
      (1, (3, lit< tt, refl)))
      ▸ stop

  -- both vote, and hear of it
  abbrev last_4 : Reached first_8.end (drop 8 (two_learn_deeds place))
  last_4 =
      votes 1 (waits p) refl 4 1 opening_ballot place first_batch refl refl (rw (eq-eqb place place refl) refl)
      ▸ votes 2 (fresh p) refl 4 1 opening_ballot place first_batch refl refl (rw (eq-eqb place place refl) refl)
      ▸ learns 1 (waits p) refl 6 2 opening_ballot place first_batch refl (get-empty nat_cmp place) (1 ∷ 2 ∷ []) 5 (lit< tt) refl
      ▸ learns 2 (fresh p) refl 6 2 opening_ballot place first_batch refl (get-empty nat_cmp place) (1 ∷ 2 ∷ []) 5 (lit< tt) refl
      ▸ stop

  abbrev both_learn : Reached (three_new p) (two_learn_deeds place)
  both_learn = and_then first_8 last_4

  -- what both know then
  abbrev knows_1 : Up
  knows_1 = knowing (waits p) place first_batch

  abbrev knows_2 : Up
  knows_2 = knowing (fresh p) place first_batch

pub two_learn : (p : Parts) (place : ℕ) → (w : WorldState) × LeadsByRules (three_new p) (two_learn_deeds place) w
    × HasLearned w 1 place first_batch × HasLearned w 2 place first_batch
two_learn p place = (_, (both_learn p place).leads, has_learned _ refl refl, has_learned _ refl refl)

-- ---- a second ballot

abbrev ballot_2 : Ballot
ballot_2 = ballot_by 3 2

-- a vote for the first value
abbrev pub vote_at : ℕ → Vote
vote_at place = record { place = place; ballot = opening_ballot; value = first_batch }

-- what node 2 and node 3 report
abbrev reports_2 : ℕ → Option Vote
reports_2 i = if i == 2 then Some (vote_at 700) else None

safe_again : (sent : Sent) → IsPromised sent 2 ballot_2 700 (Some (vote_at 700)) → IsPromised sent 3 ballot_2 700 None
    → IsSafe 3 sent ballot_2 700 first_batch
safe_again sent second third = record {
  members = is_listed (2 ∷ 3 ∷ []);
  reported = reports_2;
  best = Some (vote_at 700);
  majority = lit< tt;
  promised = at_listed (λ i. IsPromised sent i ballot_2 700 (reports_2 i)) (2 ∷ 3 ∷ []) (second, (third, tt));
  is_best = record {
    reporter = 2;
    is_member = refl;
    reports = refl;
    greatest = at_listed (λ i. IfSome (reports_2 i) (λ other. IsAtMost other.ballot opening_ballot)) (2 ∷ 3 ∷ [])
        (inr (refl, omega arith), (tt, tt));
  };
  value = refl;
}

module _ (p : Parts) where
  abbrev taken_over : Reached (first_8 p 700).end (drop 8 takeover_deeds)
  taken_over =
      votes 2 (fresh p) refl 4 1 opening_ballot 700 first_batch refl refl refl
      ▸ starts 3 refl
      ▸ campaigns 3 (fresh p) refl 2 700 tt
      ▸ hears 3 (fresh p) refl 6 _ None (Promise ballot_2 700 701 [] ∷ []) refl refl (inl refl) tt ((refl, report _ _ _ tt), tt)
      ▸ hears 2 (fresh p) refl 6 _ (Some (change.Promise ballot_2)) (Promise ballot_2 700 701 (vote_at 700 ∷ []) ∷ []) refl refl (inr refl)
      (inl (omega arith)) ((refl, report _ _ _ ((omega arith, omega arith), tt)), tt)
      ▸ proposes 3 (fresh p) refl 8 _ ballot_2 700 first_batch refl refl refl refl (safe_again _
      (promised (8, lit< tt, refl) (omega arith) (omega arith)) (promised (7, lit< tt, refl) (omega arith) (omega arith)))
      ▸ votes 3 (fresh p) refl 9 3 ballot_2 700 first_batch refl refl refl
      ▸ votes 2 (fresh p) refl 9 3 ballot_2 700 first_batch refl refl refl
      ▸ learns 3 (fresh p) refl 11 2 ballot_2 700 first_batch refl (get-empty nat_cmp 700) (3 ∷ 2 ∷ []) 10 (lit< tt) refl
      ▸ stop

pub takeover : (p : Parts) → (w : WorldState) × LeadsByRules (three_new p) takeover_deeds w
    × IsSent w.sent 2 (Accepted (ballot_by 1 1) 700 first_batch) × IsChosenBy 3 w.sent (ballot_by 3 2) 700 first_batch
    × HasLearned w 3 700 first_batch
takeover p =
    let run : Reached (three_new p) takeover_deeds = and_then (first_8 p 700) (taken_over p) in
    (_, run.leads, (5, lit< tt, refl), chosen_by run.end.sent (3 ∷ 2 ∷ []) 10 (lit< tt) refl, has_learned _ refl refl)

-- ---- two nodes show the echo

-- a node when its machine has made ten steps
abbrev ran : Parts → Up → Up
ran p u = record u { configuration = after_steps p (learned_input u.learned) 10 }

-- node 1 has run and shown the byte, and then node 2
abbrev both_show : StepLaw → Reached (three_new echoes) (two_learn_deeds 0 ++ two_show_deeds)
both_show law =
    and_then (both_learn echoes 0) (
    runs 1 (knows_1 echoes 0) refl law echoes 10 refl refl (echoes_first 1 1).goes
    ▸ releases 1 (ran echoes (knows_1 echoes 0)) refl 65 (first_byte (echoes_first 1 1))
    ▸ runs 2 (knows_2 echoes 0) refl law echoes 10 refl refl (echoes_first 1 1).goes
    ▸ releases 2 (ran echoes (knows_2 echoes 0)) refl 65 (first_byte (echoes_first 1 1))
    ▸ stop
    )

pub two_show : StepLaw → (w : WorldState)
    × LeadsByRules (three_new echoes) (two_learn_deeds 0 ++ two_show_deeds) w
    × HasLearned w 1 0 first_batch × HasLearned w 2 0 first_batch
    × ((w.seats 1).console ≡ 65 ∷ []) × ((w.seats 2).console ≡ 65 ∷ [])
two_show law = (_, (both_show law).leads, has_learned _ refl refl, has_learned _ refl refl, refl, refl)

-- ---- two starts of a node alone

abbrev key_2 : Key
key_2 = record { node = 1; start = 2; serial = 1; byte = 66 }

module _ (p : Parts) where
  -- a key of its second start waits
  abbrev up_2 : Up
  up_2 = typing (fresh p) (key_2 ∷ [])

  -- it has learned the first value
  abbrev knows_first : Up
  knows_first = knowing up_2 0 first_batch

  -- it chooses the first value, by a promise for the places below this one
  abbrev pub first_promised : (upto : ℕ) → 0 < upto → Reached (one_new p) first_chosen_deeds
  first_promised upto some =
      starts 1 refl
      ▸ presses 1 (fresh p) refl key_1 refl refl refl
      ▸ campaigns 1 (waits p) refl 1 0 tt
      ▸ hears 1 (waits p) refl 0 _ None (Promise opening_ballot 0 upto [] ∷ []) refl refl (inl refl) tt ((refl, report _ _ _ tt), tt)
      ▸ ticks 1 (waits p) refl (Submit first_batch ∷ []) (typed_by _ 1 1 1 65 [] ((0, lit< tt, refl), tt), tt)
      (submits_one _ first_batch (record { rest = []; whole = refl }))
      ▸ proposes 1 (waits p) refl 2 _ opening_ballot 0 first_batch refl refl refl refl (safe_at_first (1 ∷ []) (lit< tt)
      (promised (1, lit< tt, refl) (omega arith) some, tt) (1, (2, lit< tt, refl)))
      ▸ votes 1 (waits p) refl 3 1 opening_ballot 0 first_batch refl refl refl
      ▸ stop

  abbrev pub first_chosen : Reached (one_new p) first_chosen_deeds
  first_chosen = first_promised 1 (omega arith)

  -- it crashes, and starts again
  abbrev pub first_crashed : Reached (one_new p) (first_chosen_deeds ++ by 1 deed.Crash ∷ [])
  first_crashed = and_then first_chosen (crashes 1 ▸ stop)

  abbrev pub first_start : Reached (one_new p) first_start_deeds
  first_start = and_then first_crashed (starts 1 refl ▸ stop)

  -- it has chosen the first value, is up in its start of this number, and these keys were typed
  abbrev pub chosen_before : (ℕ → Seat) → ℕ → Up → List Key → WorldState
  chosen_before others start u typed = record {
    program = p;
    size = 1;
    seats = λ j. if j == 1 then record { kept = record first_kept { starts = start }; console = []; up = Some u } else others j;
    sent = first_chosen.end.sent;
    typed = typed;
  }

  -- so it chooses a batch of those that wait, at place 1
  abbrev pub chooses_later : (others : ℕ → Seat) (start : ℕ) (u : Up) (typed : List Key) (v : Value)
      → IsTyped (((typed ++ []) ++ []) ++ []) 1 v
      → IsPrefix (keys_of v) (((u.waiting ++ []) ++ []) ++ []) → Reached (chosen_before others start u typed) (chosen_later_deeds v)
  chooses_later others start u typed v known begins =
      campaigns 1 u refl 2 0 (inl (omega arith))
      ▸ hears 1 (still u) refl 5 _ None (Promise later_ballot 0 2 (vote_at 0 ∷ []) ∷ []) refl refl (inl refl) tt
      ((refl, report _ _ _ ((omega arith, omega arith), tt)), tt)
      ▸ ticks 1 (still (still u)) refl (Submit v ∷ []) (known, tt) (submits_one _ v begins)
      ▸ proposes 1 (still (still (still u))) refl 7 _ later_ballot 1 v refl refl refl refl (safe_at_first (1 ∷ []) (lit< tt)
      (promised (6, lit< tt, refl) (omega arith) (omega arith), tt) (1, (7, lit< tt, refl)))
      ▸ votes 1 (still (still (still (still u)))) refl 8 1 later_ballot 1 v refl refl refl
      ▸ stop

  abbrev starts_twice : Reached (one_new p) two_starts_deeds
  starts_twice =
      and_then first_start (
      presses 1 (fresh p) refl key_2 refl refl refl
      ▸ and_then (chooses_later _ 2 up_2 _ second_batch (typed_by _ 1 2 1 66 [] ((1, lit< tt, refl), tt))
      (record { rest = []; whole = refl })) (
      learns 1 up_2 refl 4 1 opening_ballot 0 first_batch refl (get-empty nat_cmp 0) (1 ∷ []) 4 (lit< tt) refl
      ▸ learns 1 knows_first refl 9 1 later_ballot 1 second_batch refl (get_put empty 0 first_batch 1 ∙ get-empty nat_cmp 1)
      (1 ∷ []) 9 (lit< tt) refl
      ▸ stop
      ))

pub two_starts : (p : Parts) → (w : WorldState) × LeadsByRules (one_new p) two_starts_deeds w
    × HasLearned w 1 0 first_batch × HasLearned w 1 1 second_batch
    × AreChosen w.size w.sent (first_batch ∷ second_batch ∷ [])
    × AreInOrder (keys_in_order (first_batch ∷ second_batch ∷ []))
two_starts p =
    let first = get_put (insert empty 0 first_batch) 1 second_batch 0 ∙ get_here empty 0 first_batch in (
      _,
      (starts_twice p).leads,
      record { node = _; up = refl; learned = first },
      has_learned _ refl refl,
      are_chosen (first_batch ∷ second_batch ∷ []) (
        (opening_ballot, chosen_by (starts_twice p).end.sent (1 ∷ []) 4 (lit< tt) refl),
        ((later_ballot, chosen_by (starts_twice p).end.sent (1 ∷ []) 9 (lit< tt) refl), tt),
      ),
      λ node start. (length (serials_of node start (keys_in_order (first_batch ∷ second_batch ∷ []))), grind (arith, nat_tests)),
    )

-- ---- a node releases again

abbrev restarts : StepLaw → Reached (three_new letter_program) restart_deeds
restarts law =
    starts 1 refl
    ▸ runs 1 (fresh letter_program) refl law letter_program 10 refl refl (writes_letter _).goes
    ▸ releases 1 (ran letter_program (fresh letter_program)) refl 65 (first_byte (writes_letter _))
    ▸ crashes 1
    ▸ starts 1 refl
    ▸ runs 1 (fresh letter_program) refl law letter_program 10 refl refl (writes_letter _).goes
    ▸ stop

pub releases_again : StepLaw → (w v : WorldState) × LeadsByRules (three_new letter_program) restart_deeds w
    × WorldStep w 1 deed.Release v × (offer_answer (w.seats 1).console 0 ≡ Repeat)
    × ((v.seats 1).console ≡ 65 ∷ [])
releases_again law =
    let w = (restarts law).end in
    let v = with_seat w 1 (after_release (w.seats 1) (ran letter_program (fresh letter_program)) (Some 65)) in
    (w, v, (restarts law).leads, released 1 (ran letter_program (fresh letter_program)) refl 65 (first_byte (writes_letter _)), refl, refl)
