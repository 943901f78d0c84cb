-- Without one of the rules on what is sent, saved and learned, on the machine, and on what is
-- released, groups break a claim.
use Rattle.std.proofs.lemmas.Bool.Decides.{nat_tests}
use Rattle.std.proofs.Common.{◌≡◌, ◌⊎◌, ℕ, List, [], ◌∷◌, take, None, Some, inl, inr, refl, arith, lit<, nat_cmp}
use Rattle.std.specs.FinMap.{get, get-empty}
use Rattle.pcode_file.specs.Parts.{Parts}
use Rattle.pcode_machine.specs.Configuration.{Configuration}
use Rattle.pcode_machine.specs.Runs.{after_steps, begin}
use Rattle.paxos_msg.specs.declared.message.Body.TheVariants.{Accept, Accepted, Promise, Submit, Tell}
use Rattle.paxos_msg.specs.declared.record.Change.TheVariants as change
use Rattle.paxos_msg.specs.declared.value.Value.{Value}
use Rattle.paxos_msg.specs.Batches.{Sent}
use Rattle.paxos_msg.specs.Chosen.{IsChosen}
use Rattle.paxos_msg.specs.Keys.{Key}
use Rattle.paxos_msg.specs.Messages.{IsSaid}
use Rattle.paxos_msg.specs.Records.{empty_record}
use Rattle.paxos_learner.proofs.OnePlace.{each_put, get_put}
use Rattle.paxos_learner.specs.Backed.{MayLearn}
use Rattle.group_node.specs.Deeds as deed
use Rattle.group_node.specs.Inputs.{IsInput}
use Rattle.group_rules.specs.Claims.{ConsolesHoldOutput, ConsolesShowReleased, LearnedChosen, LearnedStays}
use Rattle.group_rules.specs.Leads.{LeadsUnder}
use Rattle.group_rules.specs.Reachable.{by, first_batch, first_two, hears_from, later_ballot, one_new, opening_ballot, with_call}
use Rattle.group_rules.specs.Rules.{LearnsOnly, Up, WorldState, fresh, with_seat}
use Rattle.group_rules.specs.WeakerRules
use Rattle.group_rules.specs.WeakerRules.{StepWithout, WeakerStep}
use Rattle.group_rules.specs.WithoutRules.{learned_again_deeds, run_out_deeds, ticked_deeds, ticked_out_deeds, told_deeds, voted_back_deeds}
use Rattle.group_rules.specs.Counterexamples.{silent}
use Rattle.group_rules.proofs.ChainedSteps.{◌▸◌, Reached, campaigns, crashes, hears, hears_by, key_1, knowing, learns, learns_nothing, makes_call, presses, promised, proposes, releases, report, rest_seat, safe_at_first, seat_by, starts, still, stop, submits_none, submits_one, ticks, typed_by, typing, votes}
use Rattle.group_rules.proofs.GroupsReached.{waits}
use Rattle.group_rules.proofs.SmallPrograms.{stays, written_by}
use Rattle.group_rules.proofs.WeakerSteps.{leads_past, leads_without, calls_without}
use Rattle.group_rules.proofs.WrittenVotes.{has_learned, not_chosen}

module _ (p : Parts) where
  abbrev first_up : Reached (one_new p) (by 1 (deed.Start empty_record) ∷ [])
  first_up = starts 1 refl ▸ stop

  -- ---- it tells of what it has not learned

  abbrev up_told : Up
  up_told = knowing (fresh p) 700 first_batch

  abbrev told : WorldState
  told = with_call first_up.end 1 None (Tell 700 first_batch ∷ []) (still (fresh p)) []

  tells : WeakerStep WeakerRules.Sends first_up.end 1 deed.Tick told
  tells =
      let learns = learns_nothing first_up.end [] (fresh p) in
      calls_without WeakerRules.Sends first_up.end 1 None (Tell 700 first_batch ∷ []) (fresh p) (still (fresh p)) [] refl (inr tt)
      (inl refl) learns.keeps (inr learns.gains) (inr refl) (inr refl) (inr learns.waiting)
      (inr (submits_none _ (Tell 700 first_batch ∷ []) refl)) (inr refl)

  -- it learns what it is told
  learns_told : LearnsOnly told [] (fresh p) up_told
  learns_told = record {
    keeps = record {
      stays = λ q u e. grind (arith, nat_tests, get_put (fresh p).learned 700 first_batch q, get-empty {X = Value} nat_cmp q);
    };
    gains = λ q u e. each_put (fresh p).learned 700 (λ q y. (get (fresh p).learned q ≡ Some y) ⊎ MayLearn told.size told.sent q y)
        first_batch (inr (inl (1, (0, lit< tt, refl)))) (λ q y e. inl e) q u e;
    configuration = refl;
    released = refl;
    waiting = record { gone = []; parts = refl; below = λ i d below. absurd (omega arith) };
  }

  abbrev after_told : Reached told (hears_from 1 1 (Tell 700 first_batch) ∷ [])
  after_told =
      hears_by 1 (fresh p) refl 0 _ None refl refl (makes_call told 1 None [] up_told [] (fresh p) refl tt tt learns_told
      (submits_none _ [] refl) refl)
      ▸ stop

  -- nobody has chosen it
  none_chosen : (sent : Sent) → sent ≡ [] ⊎ (sent ≡ record { sender = 1; body = Tell 700 first_batch } ∷ [])
      → ¬ IsChosen 1 sent 700 first_batch
  none_chosen sent (inl none) = rw none (not_chosen [] (λ round. grind (arith, nat_tests)))
  none_chosen sent (inr one) =
      rw one (not_chosen (record { sender = 1; body = Tell 700 first_batch } ∷ []) (λ round. grind (arith, nat_tests)))

  pub told_only : (w : WorldState) × LeadsUnder (StepWithout WeakerRules.Sends) (one_new p) told_deeds w × ¬ LearnedChosen w
  told_only = (
    after_told.end,
    leads_past WeakerRules.Sends _ _ _ _ _ _ _ first_up.leads tells after_told.leads,
    λ h. none_chosen after_told.end.sent (inr refl) (h 1 700 first_batch (has_learned _ refl refl)).0,
  )

  -- ---- it learns what nobody said

  abbrev guessed : WorldState
  guessed = with_call first_up.end 1 None [] up_told []

  guesses : WeakerStep WeakerRules.Gains first_up.end 1 deed.Tick guessed
  guesses =
      calls_without WeakerRules.Gains first_up.end 1 None [] (fresh p) up_told [] refl (inr tt) (inr tt) learns_told.keeps (inl refl)
      (inr refl) (inr refl) (inr learns_told.waiting) (inr (submits_none _ [] refl)) (inr refl)

  pub guessed_only : (w : WorldState) × LeadsUnder (StepWithout WeakerRules.Gains) (one_new p) ticked_deeds w × ¬ LearnedChosen w
  guessed_only = (
    guessed,
    leads_past WeakerRules.Gains _ _ _ _ _ _ [] first_up.leads guesses (stop {w = guessed}).leads,
    λ h. none_chosen guessed.sent (inl refl) (h 1 700 first_batch (has_learned _ refl refl)).0,
  )

  -- ---- it counts a byte that was not released

  abbrev up_ahead : Up
  up_ahead = record (fresh p) { released = 1 }

  abbrev counted_out : WorldState
  counted_out = with_call first_up.end 1 None [] up_ahead []

  counts_out : WeakerStep WeakerRules.Released_stays first_up.end 1 deed.Tick counted_out
  counts_out =
      let learns = learns_nothing first_up.end [] (fresh p) in
      calls_without WeakerRules.Released_stays first_up.end 1 None [] (fresh p) up_ahead [] refl (inr tt) (inr tt) learns.keeps
      (inr learns.gains) (inr refl) (inl refl) (inr learns.waiting) (inr (submits_none _ [] refl)) (inr refl)

  pub counted_unreleased : (w : WorldState) × LeadsUnder (StepWithout WeakerRules.Released_stays) (one_new p) ticked_deeds w
      × ¬ ConsolesShowReleased w
  counted_unreleased = (
    counted_out,
    leads_past WeakerRules.Released_stays _ _ _ _ _ _ [] first_up.leads counts_out (stop {w = counted_out}).leads,
    λ h. let few = (h 1 up_ahead refl).0 in omega (arith, few),
  )

  -- ---- it votes below its promise

  abbrev key_second : Key
  key_second = record { node = 1; start = 1; serial = 2; byte = 66 }

  abbrev up_two : Up
  up_two = typing (waits p) (key_second ∷ [])

  -- it proposes the first key under its first ballot, and both keys under its second
  abbrev voted : Reached (one_new p) (take 12 voted_back_deeds)
  voted =
      starts 1 refl
      ▸ presses 1 (fresh p) refl key_1 refl refl refl
      ▸ presses 1 (waits p) refl key_second refl refl refl
      ▸ campaigns 1 up_two refl 1 0 tt
      ▸ hears 1 up_two refl 0 _ None (Promise opening_ballot 0 1 [] ∷ []) refl refl (inl refl) tt ((refl, report _ _ _ tt), tt)
      ▸ ticks 1 up_two refl (Submit first_batch ∷ []) (typed_by _ 1 1 1 65 [] ((0, lit< tt, refl), tt), tt)
      (submits_one _ first_batch (record { rest = key_second ∷ []; whole = refl }))
      ▸ ticks 1 up_two refl (Submit first_two ∷ []) (typed_by _ 1 1 1 65 (66 ∷ []) ((0, lit< tt, refl), ((1, lit< tt, refl), tt)), tt)
      (submits_one _ first_two (record { rest = []; whole = refl }))
      ▸ proposes 1 up_two refl 2 _ opening_ballot 0 first_batch refl refl refl refl (safe_at_first (1 ∷ []) (lit< tt)
      (promised (1, lit< tt, refl) (omega arith) (omega arith), tt) (1, (2, lit< tt, refl)))
      ▸ campaigns 1 up_two refl 2 0 (inl (omega arith))
      ▸ hears 1 up_two refl 5 _ None (Promise later_ballot 0 1 [] ∷ []) refl refl (inl refl) tt ((refl, report _ _ _ tt), tt)
      ▸ proposes 1 up_two refl 3 _ later_ballot 0 first_two refl refl refl refl (safe_at_first (1 ∷ []) (lit< tt)
      (promised (6, lit< tt, refl) (omega arith) (omega arith), tt) (1, (3, lit< tt, refl)))
      ▸ votes 1 up_two refl 7 1 later_ballot 0 first_two refl refl refl
      ▸ stop

  abbrev back : WorldState
  back = with_call voted.end 1 (Some (change.Ballotted 0 opening_ballot first_batch)) (Accepted opening_ballot 0 first_batch ∷ [])
      (still up_two) []

  votes_back : WeakerStep WeakerRules.Saves voted.end 1
      (deed.Hear (record { sender = 1; body = Accept opening_ballot 0 first_batch })) back
  votes_back =
      let learns = learns_nothing voted.end [] up_two in
      let said : IsSaid voted.end.sent (Accept opening_ballot 0 first_batch) = (1, (4, lit< tt, refl)) in
      record {
        is_sent = said.1;
        saved = Some (change.Ballotted 0 opening_ballot first_batch);
        cause = inr (inr refl);
        call =
            calls_without WeakerRules.Saves voted.end 1 (Some (change.Ballotted 0 opening_ballot first_batch))
            (Accepted opening_ballot 0 first_batch ∷ []) up_two (still up_two) [] refl (inl refl) (inr ((said, refl, refl), tt))
            learns.keeps (inr learns.gains) (inr refl) (inr refl) (inr learns.waiting)
            (inr (submits_none _ (Accepted opening_ballot 0 first_batch ∷ []) refl)) (inr refl);
      }

  -- it learns the first key
  abbrev learned_first : Reached back (hears_from 1 1 (Accepted opening_ballot 0 first_batch) ∷ [])
  learned_first =
      learns 1 up_two refl 9 1 opening_ballot 0 first_batch refl (get-empty nat_cmp 0) (1 ∷ []) 9 (lit< tt) refl
      ▸ stop

  -- it starts again, and learns both
  abbrev learned_both : Reached learned_first.end learned_again_deeds
  learned_both =
      crashes 1
      ▸ starts 1 refl
      ▸ learns 1 (fresh p) refl 8 1 later_ballot 0 first_two refl (get-empty nat_cmp 0) (1 ∷ []) 8 (lit< tt) refl
      ▸ stop

  pub voted_twice : (w v : WorldState) × LeadsUnder (StepWithout WeakerRules.Saves) (one_new p) voted_back_deeds w
      × LeadsUnder (StepWithout WeakerRules.Saves) w learned_again_deeds v × ¬ LearnedStays w v
  voted_twice = (
    learned_first.end,
    learned_both.end,
    leads_past WeakerRules.Saves _ _ _ _ _ _ _ voted.leads votes_back learned_first.leads,
    leads_without WeakerRules.Saves _ _ _ learned_both.leads,
    λ h. let same = h 1 1 0 first_batch first_two (has_learned _ refl refl) (has_learned _ refl refl) in absurd cc,
  )

-- ---- a program that writes nothing

-- a machine that has written a byte
abbrev writes_by_itself : Configuration
writes_by_itself = record (begin silent) { output = 66 ∷ [] }

abbrev up_written : Up
up_written = record (fresh silent) { configuration = writes_by_itself }

abbrev silent_up : Reached (one_new silent) (by 1 (deed.Start empty_record) ∷ [])
silent_up = starts 1 refl ▸ stop

-- its console shows a byte that the program does not write
shows_wrong : ((size : ℕ) (sent : Sent) → (x : List ℕ) × IsInput size sent x) → (w : WorldState) → w.program ≡ silent
    → (w.seats 1).console ≡ 66 ∷ [] → ¬ ConsolesHoldOutput w
unfolding after_steps
shows_wrong there w program shown h =
    let (x, input) = there w.size w.sent in
    let (n, begins) = h x 1 input in
    let begins = rw (program, shown) at begins in
    grind (arith, written_by silent x n, stays silent x 0 refl n (omega arith), begins.whole)

abbrev written_at_tick : WorldState
written_at_tick = with_call silent_up.end 1 None [] up_written []

ticks_out : WeakerStep WeakerRules.Configuration_stays silent_up.end 1 deed.Tick written_at_tick
ticks_out =
    let learns = learns_nothing silent_up.end [] (fresh silent) in
    calls_without WeakerRules.Configuration_stays silent_up.end 1 None [] (fresh silent) up_written [] refl (inr tt) (inr tt)
    learns.keeps (inr learns.gains) (inl refl) (inr refl) (inr learns.waiting) (inr (submits_none _ [] refl)) (inr refl)

abbrev after_tick : Reached written_at_tick (by 1 deed.Release ∷ [])
after_tick = releases 1 up_written refl 66 refl ▸ stop

pub ticked_out : ((size : ℕ) (sent : Sent) → (x : List ℕ) × IsInput size sent x)
    → (w : WorldState) × LeadsUnder (StepWithout WeakerRules.Configuration_stays) (one_new silent) ticked_out_deeds w
    × ¬ ConsolesHoldOutput w
ticked_out there = (
  after_tick.end,
  leads_past WeakerRules.Configuration_stays _ _ _ _ _ _ _ silent_up.leads ticks_out after_tick.leads,
  shows_wrong there after_tick.end refl refl,
)

abbrev written_at_run : WorldState
written_at_run = with_seat silent_up.end 1 (record (silent_up.end.seats 1) { up = Some up_written })

runs_out : WeakerStep WeakerRules.Moves silent_up.end 1 (deed.Run 10) written_at_run
runs_out = record {
  was = fresh silent;
  configuration = writes_by_itself;
  made = 0;
  from = refl;
  few = omega arith;
  moves = inl refl;
  leaves = seat_by silent_up.end 1 _;
  rest = rest_seat silent_up.end 1 _;
}

abbrev after_run : Reached written_at_run (by 1 deed.Release ∷ [])
after_run = releases 1 up_written refl 66 refl ▸ stop

pub run_out : ((size : ℕ) (sent : Sent) → (x : List ℕ) × IsInput size sent x)
    → (w : WorldState) × LeadsUnder (StepWithout WeakerRules.Moves) (one_new silent) run_out_deeds w × ¬ ConsolesHoldOutput w
run_out there = (
  after_run.end,
  leads_past WeakerRules.Moves _ _ _ _ _ _ _ silent_up.leads runs_out after_run.leads,
  shows_wrong there after_run.end refl refl,
)
