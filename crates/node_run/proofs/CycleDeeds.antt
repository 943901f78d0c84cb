-- The cycles of a run as deeds of its node, and what they write.
use Rattle.std.proofs.Common.{◌≡◌, ◌∙◌, ◌≤◌, ◌+◌, ℕ, zero, suc, true, [], ◌∷◌, IfErr, IsErrOf, OnOk, Result, Ok, Err, inl, inr, refl, sym, subst, arith}
use Rattle.std.proofs.lemmas.Grind.{common_steps}
use Rattle.std.proofs.lemmas.List.{drop_all}
use Rattle.paxos_acceptor.specs.Stores.{StoreKind}
use Rattle.pcode_file.specs.Parts.{Parts}
use Rattle.group_node.specs.Deeds.{Run}
use Rattle.group_node.specs.Output.{no_progress}
use Rattle.group_node.specs.States.{NodeState}
use Rattle.group_wire.specs.declared.answers.Turned.{Turned}
use Rattle.node_io.specs.declared.fault.GroupFault.{GroupFault}
use Rattle.node_io.specs.Refusals.{IsCampaignRefusal, IsCycleRefusal, IsWrittenCycleRefusal, write_failed}
use Rattle.node_run.specs.declared.answering.Answered.{Answered}
use Rattle.node_run.specs.declared.answering.Answered.TheVariants.{Bytes, Campaigned, CampaignRefused, Ignored}
use Rattle.node_run.specs.declared.cycles.RunPlan.{RunPlan}
use Rattle.node_run.specs.declared.retries.Retried.{Retried}
use Rattle.node_run.specs.Answering.{AnswersWhatCame, HasAnsweredKeyboard}
use Rattle.node_run.specs.Cycles.{AnswersKeyboard, AreCycles, CampaignsAgain, DoesCycles, EndsAtRest, EndsAtTurn, EndsBeforeRelease, EndsInCycle, IsCycle, IsRun, ReleasesOutput, Rests, RunMoment, TakesTurn, IsCycleUpToRelease}
use Rattle.node_run.specs.Course.{Surroundings, HasEnded, HasMadeTurns, around, planned}
use Rattle.node_run.specs.Runs.{IsEarlyEnd}
use Rattle.node_run.proofs.Course.{GoOn, MadeTurnsOrEnded, begun_by, campaign_refused, ended_then, gift_both, gift_none, gives_now, gone_ended, gone_then, prompted, prompted_none, save_ended}
use Rattle.node_run.proofs.KeyboardAnswers.{answered_on, retried_on, retry_ended}
use Rattle.node_run.proofs.Writing.{AppendsOutput, NoneWaits, none_at_start, wrote_all, wrote_part, wrote_none, wrote_then}

-- ---- deeds

-- what was done at a keyboard, as it was answered
as_answered : {S : Type 0} {kind : StoreKind S} {old new : NodeState S} {from to : Surroundings} (answer : Answered)
    → AnswersWhatCame kind answer old new from to → HasAnsweredKeyboard kind old new from to (Ok answer)
as_answered Bytes h = (h.again, h.did.0, gift_both h.looks (gives_now h.did.1), h.did.2)
as_answered Campaigned h = (h.again, gift_both h.looks (gives_now h.did.0), h.did.1)
as_answered Ignored h = (h.again, gift_both h.looks (gives_now h.did.0), h.did.1)
as_answered (CampaignRefused f) h = (h.again, gift_both h.looks (gives_now h.did.0), h.did.1)

module _ {S : Type 0} {kind : StoreKind S} (laws : GoOn kind) where
  -- the parts of a cycle
  rest_goes : {a b : RunMoment S} → Rests kind a b → HasMadeTurns [] a.node b.node a.around b.around 0
  rest_goes h = record { gift = []; prompts = []; given = h.looks; acts = h.acts; prompted = rw h.retries prompted_none }

  retry_goes : {a b : RunMoment S} (retried : Retried) → CampaignsAgain kind retried a b
      → HasMadeTurns [] a.node b.node a.around b.around 0
  retry_goes retried h = retried_on kind retried (laws.none _ _) h.did

  answer_goes : {a b : RunMoment S} (answer : Answered) → AnswersKeyboard kind answer a b
      → HasMadeTurns [] a.node b.node a.around b.around 0
  answer_goes answer h = answered_on kind answer (as_answered answer h.did)

  turn_goes : {begun : ℕ} {turned : Turned} {a b : RunMoment S} → TakesTurn kind begun turned a b
      → HasMadeTurns [] a.node b.node a.around b.around 1
  turn_goes h = record {
    gift = [];
    prompts = Run 1000 ∷ [];
    given = rw h.untyped (gift_none _);
    acts = h.acts;
    prompted = rw h.retries (prompted refl (omega arith) refl);
  }

  release_goes : {seen : ℕ} {a b : RunMoment S} (result : Result (Unit {0}) GroupFault) → ReleasesOutput seen a b result
      → HasMadeTurns [] a.node b.node a.around b.around 0
  release_goes result h =
      record { gift = []; prompts = []; given = rw h.alone (gift_none _); acts = h.acts; prompted = rw h.alone prompted_none }

  -- a cycle, and many
  once_goes : {a b : RunMoment S} → IsCycleUpToRelease kind a b → HasMadeTurns [] a.node b.node a.around b.around 1
  once_goes h =
      gone_then laws (gone_then laws (rest_goes h.rests) (retry_goes h.retried h.campaigns))
      (gone_then laws (answer_goes h.answer h.answers) (turn_goes h.turns))

  cycle_goes : {seen : ℕ} {a b : RunMoment S} → IsCycle kind seen a b → HasMadeTurns [] a.node b.node a.around b.around 1
  cycle_goes h = gone_then laws (once_goes h.turns) (release_goes (Ok tt) h.releases)

  cycles_go : (seen n : ℕ) (a b : RunMoment S) → AreCycles kind seen n a b → HasMadeTurns [] a.node b.node a.around b.around n
  cycles_go seen zero a b is =
      rw is (record { gift = []; prompts = []; given = gift_none _; acts = laws.none _ _; prompted = prompted_none })
  cycles_go seen (suc n) a b (mid, before, last) =
      let more : n + 1 ≡ suc n = omega arith in
      subst (HasMadeTurns [] a.node b.node a.around b.around) more (gone_then laws (cycles_go seen n a mid before) (cycle_goes last))

  -- ---- up to a refusal

  rest_ends : {a b : RunMoment S} {e : GroupFault} → EndsAtRest kind a b e → HasEnded kind [] a.node b.node a.around b.around 0 e
  rest_ends h =
      ended_then laws (rest_goes h.rests) (save_ended {gift = []} h.fails (rw h.untyped (gift_none _)) (rw h.retries prompted_none))

  turn_ends : {a b : RunMoment S} {e : GroupFault} → EndsAtTurn kind a b e → HasEnded kind [] a.node b.node a.around b.around 0 e
  turn_ends h =
      ended_then laws (gone_then laws (gone_then laws (rest_goes h.rests) (retry_goes h.retried h.campaigns))
      (answer_goes h.answer h.answers))
      (save_ended {gift = []} h.fails (rw h.untyped (gift_none _)) (rw h.retries prompted_none))

  cycle_ends_before : (a b : RunMoment S) {e : GroupFault} → EndsBeforeRelease kind a b e
      → HasEnded kind [] a.node b.node a.around b.around 0 e
  cycle_ends_before a b (stays, inl h) = rest_ends h
  cycle_ends_before a b (stays, inr (inl h)) = ended_then laws (rest_goes h.rests) (retry_ended kind h.did)
  cycle_ends_before a b (stays, inr (inr (inl h))) =
      ended_then laws (gone_then laws (rest_goes h.rests) (retry_goes h.retried h.campaigns)) h.did.1
  cycle_ends_before a b (stays, inr (inr (inr h))) = turn_ends h

  cycle_ends : {seen : ℕ} (a b : RunMoment S) {e : GroupFault} → EndsInCycle kind seen a b e
      → (done : ℕ) × (done ≤ 1) × HasEnded kind [] a.node b.node a.around b.around done e
  cycle_ends a b (inl h) = (0, omega arith, cycle_ends_before a b h)
  cycle_ends a b {e} (inr (mid, once, release)) = (
    1,
    omega arith,
    gone_ended (gone_then laws (once_goes once) (release_goes (Err e) release))
        (λ is. absurd (cc (release.did.1, is))) (rw release.did.1 tt),
  )

  cycles_end : (seen turns : ℕ) (a b : RunMoment S) (result : Result (Unit {0}) GroupFault)
      → DoesCycles kind seen turns a b result → MadeTurnsOrEnded kind [] a.node b.node a.around b.around turns result
  cycles_end seen turns a b (Ok x) h = cycles_go seen turns a b h
  cycles_end seen turns a b (Err e) (made, mid, few, before, last) =
      let (done, less, ends) = cycle_ends mid b last in
      inl (made + done, omega (arith, few, less), ended_then laws (cycles_go seen made a mid before) ends)

  -- a run
  pub run_goes : (plan : RunPlan) (a b : RunMoment S) (result : Result (Unit {0}) GroupFault) → IsRun kind plan a b result
      → MadeTurnsOrEnded kind (planned plan.campaigns) a.node b.node a.around b.around plan.turns result
  run_goes plan a b result (inl (e, is, h)) =
      rw (is, h.untyped, h.retries) (campaign_refused h.did h.why)
  run_goes plan a b result (inr (mid, h, cycles)) =
      let same : mid.around ≡ around mid.around.traffic a.around.keyboard a.around.retries = rw (h.untyped, h.retries) refl in
      begun_by laws b.node a.around.keyboard a.around.retries b.around plan.turns result h.did
      (subst (λ (m : Surroundings). MadeTurnsOrEnded kind [] mid.node b.node m b.around plan.turns result) same
      (cycles_end plan.seen plan.turns mid b result cycles))

-- ---- what is written

-- what a refusal before a release may be
cycle_refusal : {S : Type 0} {kind : StoreKind S} (a b : RunMoment S) {e : GroupFault} → EndsBeforeRelease kind a b e → IsCycleRefusal e
cycle_refusal a b (stays, inl h) = inl h.fails.store
cycle_refusal a b (stays, inr (inl h)) = inl h.did.3.store
cycle_refusal a b (stays, inr (inr (inl h))) = h.did.0
cycle_refusal a b (stays, inr (inr (inr h))) = inl h.fails.store

-- such a refusal is no failed write
not_written : {e : GroupFault} → IsCycleRefusal e → ¬ IsErrOf {T = Unit {0}} (Err e) write_failed
not_written is = grind arith

-- nothing is written before the release
unwritten_once : {S : Type 0} {kind : StoreKind S} {a b : RunMoment S} → IsCycleUpToRelease kind a b → b.written ≡ a.written
unwritten_once h = h.turns.unwritten ∙ h.answers.unwritten ∙ h.campaigns.unwritten ∙ h.rests.unwritten

unwritten_before : {S : Type 0} {kind : StoreKind S} (a b : RunMoment S) {e : GroupFault} → EndsBeforeRelease kind a b e
    → b.written ≡ a.written
unwritten_before a b (stays, inl h) = h.unwritten ∙ h.rests.unwritten
unwritten_before a b (stays, inr (inl h)) = h.unwritten ∙ h.rests.unwritten
unwritten_before a b (stays, inr (inr (inl h))) = h.unwritten ∙ h.campaigns.unwritten ∙ h.rests.unwritten
unwritten_before a b (stays, inr (inr (inr h))) =
    h.unwritten ∙ h.answers.unwritten ∙ h.campaigns.unwritten ∙ h.rests.unwritten

-- what was written between two moments
abbrev Writes : {S : Type 0} → ℕ → RunMoment S → RunMoment S → Result (Unit {0}) GroupFault → Type 0
Writes seen a b result = AppendsOutput seen a.node b.node (IsErrOf result write_failed) a.written b.written

module _ {S : Type 0} (kind : StoreKind S) (seen : ℕ) where
  cycle_writes : (a b : RunMoment S) → IsCycle kind seen a b → Writes seen a b (Ok tt)
  cycle_writes a b h =
      subst (λ c. AppendsOutput seen a.node b.node (IsErrOf {T = Unit {0}} (Ok tt) write_failed) c b.written)
      (unwritten_once h.turns)
      (wrote_all a.node _ h.releases.did h.turns.stays h.turns.turns.replay (λ f. absurd cc))

  cycle_ended : (a b : RunMoment S) (e : GroupFault) → EndsInCycle kind seen a b e → Writes seen a b (Err e)
  cycle_ended a b e (inl h) =
      subst (λ c. AppendsOutput seen a.node b.node (IsErrOf {T = Unit {0}} (Err e) write_failed) a.written c)
      (sym (unwritten_before a b h))
      (wrote_none seen a.node b.node _ a.written (not_written (cycle_refusal a b h)) h.0)
  cycle_ended a b e (inr (mid, once, release)) =
      subst (λ c. AppendsOutput seen a.node b.node (IsErrOf {T = Unit {0}} (Err e) write_failed) c b.written)
      (unwritten_once once)
      (wrote_part a.node _ release.did.0 once.stays once.turns.replay (rw release.did.1 refl))

  cycles_write : (n : ℕ) (a b : RunMoment S) → AreCycles kind seen n a b → Writes seen a b (Ok tt)
  cycles_write zero a b is = rw is (wrote_none seen a.node a.node _ a.written (λ f. absurd cc) refl)
  cycles_write (suc n) a b (mid, before, last) =
      wrote_then seen a.node mid.node b.node _ _ _ a.written mid.written b.written (λ f. absurd cc) ((λ f. f), (λ f. f))
      (cycles_write n a mid before) (cycle_writes mid b last)

  all_written : (turns : ℕ) (a b : RunMoment S) (result : Result (Unit {0}) GroupFault)
      → DoesCycles kind seen turns a b result → Writes seen a b result
  all_written turns a b (Ok x) h = cycles_write turns a b h
  all_written turns a b (Err e) (made, mid, few, before, last) =
      wrote_then seen a.node mid.node b.node _ _ _ a.written mid.written b.written (λ f. absurd cc) ((λ f. f), (λ f. f))
      (cycles_write made a mid before) (cycle_ended mid b e last)

-- a refused campaign is no failed write
not_campaigned : {e : GroupFault} → IsCampaignRefusal e → ¬ IsErrOf {T = Unit {0}} (Err e) write_failed
not_campaigned is = grind arith

pub run_writes : {S : Type 0} {kind : StoreKind S} (plan : RunPlan) (a b : RunMoment S) (result : Result (Unit {0}) GroupFault)
    → IsRun kind plan a b result → AppendsOutput plan.seen a.node b.node (IsErrOf result write_failed) a.written b.written
run_writes {kind = kind} plan a b result (inl (e, is, h)) =
    rw (is, h.unwritten) (wrote_none plan.seen a.node b.node _ a.written (not_campaigned h.why) h.stays)
run_writes {kind = kind} plan a b result (inr (mid, h, cycles)) =
    wrote_then plan.seen a.node mid.node b.node (IsErrOf {T = Unit {0}} (Ok tt) write_failed) _ _ a.written mid.written b.written
    (λ f. absurd cc) ((λ f. f), (λ f. f))
    (rw h.unwritten (wrote_none plan.seen a.node mid.node (IsErrOf {T = Unit {0}} (Ok tt) write_failed) a.written (λ f. absurd cc) h.stays))
    (all_written kind plan.seen plan.turns mid b result cycles)

-- ---- how it ends

-- after a release no output waits
none_left : {S : Type 0} {kind : StoreKind S} {seen : ℕ} (a b : RunMoment S) → IsCycle kind seen a b → NoneWaits b.node
none_left a b h = grind (arith, common_steps, drop_all, h.releases.did, h.turns.turns.replay.released)

cycles_leave_none : {S : Type 0} (kind : StoreKind S) (seen n : ℕ) (a b : RunMoment S) → AreCycles kind seen n a b
    → NoneWaits a.node → NoneWaits b.node
cycles_leave_none kind seen zero a b is none = rw is none
cycles_leave_none kind seen (suc n) a b (mid, before, last) none = none_left mid b last

pub none_waits_after : {S : Type 0} {kind : StoreKind S} (p : Parts) (plan : RunPlan) (a b : RunMoment S)
    (result : Result (Unit {0}) GroupFault)
    → IsRun kind plan a b result → a.node.progress ≡ no_progress p → OnOk result (NoneWaits b.node)
none_waits_after {kind = kind} p plan a b (Ok x) (inl (e, is, h)) begun = absurd cc
none_waits_after {kind = kind} p plan a b (Ok x) (inr (mid, h, cycles)) begun =
    cycles_leave_none kind plan.seen plan.turns mid b cycles (none_at_start mid.node p (h.unmoved ∙ begun))
none_waits_after {kind = kind} p plan a b (Err e) h begun = tt

-- the refusals
written_refusal : {S : Type 0} {kind : StoreKind S} {seen : ℕ} (a b : RunMoment S) {e : GroupFault} → EndsInCycle kind seen a b e
    → IsWrittenCycleRefusal e
written_refusal a b (inl h) = inl (cycle_refusal a b h)
written_refusal a b (inr (mid, once, release)) = inr release.did.1

pub early_end : {S : Type 0} {kind : StoreKind S} (plan : RunPlan) (a b : RunMoment S) (result : Result (Unit {0}) GroupFault)
    → IsRun kind plan a b result → IfErr result (IsEarlyEnd plan)
early_end plan a b (Ok x) h = tt
early_end plan a b (Err e) (inl (f, is, h)) =
    let same : f ≡ e = cc in
    inr (subst (λ g. (plan.campaigns ≡ true) × IsCampaignRefusal g) same (h.did.0, h.why))
early_end plan a b (Err e) (inr (mid, h, (made, last, few, before, ends))) = inl (written_refusal last b ends)
