-- A whole run of a node, by its answer.
use Rattle.std.proofs.Common.{◌≡◌, ◌∙◌, inl, inr, ℕ, List, Option, IsErrOf, Result, Ok, Err, refl, sym, ap, subst, arith, ◌≢◌, ◌⊎◌, ◌≤◌, [], false}
use Rattle.std.proofs.lemmas.Grind.{common_steps}
use Rattle.std.proofs.lemmas.List.{drop_all}
use Rattle.pcode_file.specs.Parts.{Parts}
use Rattle.paxos_acceptor.specs.declared.me.Me.{Me}
use Rattle.paxos_acceptor.specs.Stores.{IsStoreOf, MayLoadOnly, StoreKind}
use Rattle.group_node.specs.Output.{IsReplay, no_progress}
use Rattle.group_node.specs.States.{NodeState, input}
use Rattle.group_node.specs.NodeCalls.{running}
use Rattle.group_wire.specs.Process.{RunsAsProcess}
use Rattle.group_wire.specs.Starts.{HasStarted}
use Rattle.group_protocol.specs.declared.fault.NodeFault.TheVariants.{Store}
use Rattle.group_node.specs.Deeds.{Deed}
use Rattle.node_io.specs.declared.fault.GroupFault.{GroupFault}
use Rattle.node_io.specs.declared.fault.GroupFault.TheVariants as group
use Rattle.node_run.specs.declared.cycles.RunPlan.{RunPlan}
use Rattle.node_run.specs.Course.{Surroundings, HasEnded, planned}
use Rattle.node_io.specs.Refusals.{IsCampaignRefusal, write_failed}
use Rattle.node_run.specs.Cycles.{IsRun, RunMoment, run_moment}
use Rattle.node_run.specs.Runs.{RunsInCycles, RunsNode, WritesReleased}
use Rattle.node_run.proofs.CycleDeeds.{early_end, none_waits_after, run_goes, run_writes}
use Rattle.node_run.proofs.Course.{GoOn, MadeTurnsOrEnded, is_store, prompted_if}
use Rattle.node_run.proofs.Writing.{AppendsOutput}
use Rattle.node_run.proofs.Starting.{me_is, ran_on, ran_out}

-- what was written from a start on
written_from : {S : Type 0} (p : Parts) (seen : ℕ) (first last : NodeState S) (fails : Type 0) (c d : Option (List ℕ))
    → first.progress ≡ no_progress p → IsReplay (input last.protocol.known) last.progress → AppendsOutput seen first last fails c d
    → WritesReleased seen (running last) fails c d
written_from p seen first last fails c d start replay (wrote, h, appends) = grind (arith, common_steps, h.lost, drop_all)

module _ {S : Type 0} {kind : StoreKind S} {me : Me} {program : Parts} {store end : S} {plan : RunPlan} {from to : Surroundings}
    {before after : Option (List ℕ)} (laws : GoOn kind) where
  -- a run as its cycles is a process
  abbrev RunsTo : (result : Result (Unit {0}) GroupFault) → RunsInCycles kind me program store end plan from to before after result
      → Type 0
  RunsTo result h =
      (run : RunsNode kind me program store end plan from to before after result) × (run.last ≡ running h.final)

  module _ (result : Result (Unit {0}) GroupFault) (h : RunsInCycles kind me program store end plan from to before after result) where
    abbrev a : RunMoment S
    a = run_moment h.start from before

    abbrev b : RunMoment S
    b = run_moment h.final to after

    wrote : WritesReleased plan.seen (running h.final) (IsErrOf result write_failed) before after
    wrote = written_from program plan.seen h.start h.final _ before after h.starts.fresh.progress h.replay
        (run_writes plan a b result h.run)

    loaded : kind.honest → h.final.protocol.is_stopped ≡ false
        → MayLoadOnly kind h.final.protocol.store h.final.protocol.known.kept
    loaded = subst (λ (s : S). kind.honest → h.final.protocol.is_stopped ≡ false → MayLoadOnly kind s h.final.protocol.known.kept)
        h.left h.loads

    -- its process, whose store is the one that it leaves
    process_by : {prompts : List Deed} {fails : Type 0}
        → RunsAsProcess kind me program store (running h.final) h.final.protocol.store from.traffic to.traffic prompts fails
        → RunsAsProcess kind me program store (running h.final) end from.traffic to.traffic prompts fails
    process_by {prompts} {fails} runs =
        subst (λ (s : S). RunsAsProcess kind me program store (running h.final) s from.traffic to.traffic prompts fails) (sym h.left) runs

  -- what a refusal ended
  ended_by : (e : GroupFault) (h : RunsInCycles kind me program store end plan from to before after (Err e))
      (begun : List Deed) (done : ℕ) → (begun ≡ planned plan.campaigns)
      ⊎ ((begun ≡ []) × (done ≡ 0) × ((e ≢ group.Node Store) × IsCampaignRefusal e)) → done ≤ plan.turns
      → HasEnded kind begun h.start h.final from to done e → RunsTo (Err e) h
  ended_by e h begun done is few k = (
    record {
      last = running h.final;
      first = begun;
      prompts = k.prompts;
      runs = process_by (Err e) h (elim (is_store e) [
        | inl store_failed ↦
            ran_out kind me program store h.start h.final from.traffic to.traffic h.starts _ (ap Err store_failed) (k.fails store_failed)
        | inr other ↦
            ran_on kind me program store h.start h.final from.traffic to.traffic h.starts _ (λ failed. other cc) (loaded (Err e) h)
            (k.acts other)
      ]);
      turns = done;
      begun = is;
      gift = k.gift;
      given = k.given;
      follows = prompted_if (ap Err) k.prompted;
      few = few;
      all = tt;
      ends = early_end plan (a (Err e) h) (b (Err e) h) (Err e) h.run;
      due = k.due;
      writes = wrote (Err e) h;
      none_waits = tt;
    },
    refl,
  )

  runs_by : (result : Result (Unit {0}) GroupFault) (h : RunsInCycles kind me program store end plan from to before after result)
      → MadeTurnsOrEnded kind (planned plan.campaigns) h.start h.final from to plan.turns result → RunsTo result h
  runs_by (Ok x) h k = (
    record {
      last = running h.final;
      first = planned plan.campaigns;
      prompts = k.prompts;
      runs = process_by (Ok x) h
          (ran_on kind me program store h.start h.final from.traffic to.traffic h.starts _ (λ is. absurd cc) (loaded (Ok x) h) k.acts);
      turns = plan.turns;
      begun = inl refl;
      gift = k.gift;
      given = k.given;
      follows = prompted_if (λ f. absurd f) k.prompted;
      few = omega arith;
      all = refl;
      ends = tt;
      due = tt;
      writes = wrote (Ok x) h;
      none_waits = none_waits_after program plan (a (Ok x) h) (b (Ok x) h) (Ok x) h.run h.starts.fresh.progress;
    },
    refl,
  )
  runs_by (Err e) h (inl k) = ended_by e h (planned plan.campaigns) k.0 (inl refl) k.1 k.2
  runs_by (Err e) h (inr k) = ended_by e h [] 0 (inr (refl, refl, (k.0, k.1))) (omega arith) k.2

  pub runs_as_process : (result : Result (Unit {0}) GroupFault)
      (h : RunsInCycles kind me program store end plan from to before after result) → RunsTo result h
  runs_as_process result h = runs_by result h (run_goes laws plan (a result h) (b result h) result h.run)

-- ---- whose store it leaves

module _ {S : Type 0} (kind : StoreKind S) (me : Me) (program : Parts) (store : S) (plan : RunPlan) (first last : NodeState S)
    (from to : Surroundings) (starts : HasStarted kind me program store (Ok first)) where
  -- the node is still the one that it was
  ended_as : {e : GroupFault} (begun : List Deed) (done : ℕ) → HasEnded kind begun first last from to done e
      → last.protocol.known.me ≡ first.protocol.known.me
  ended_as {e} begun done h = elim (is_store e) [
    | inl store_failed ↦ (h.fails store_failed).2.me
    | inr other ↦ (h.acts other).1.me
  ]

  same_node : (result : Result (Unit {0}) GroupFault) → MadeTurnsOrEnded kind (planned plan.campaigns) first last from to plan.turns result
      → last.protocol.known.me ≡ me
  same_node (Ok x) h = h.acts.1.me ∙ me_is kind me program store first starts
  same_node (Err e) (inl (done, few, h)) = ended_as (planned plan.campaigns) done h ∙ me_is kind me program store first starts
  same_node (Err e) (inr (other, is, h)) = ended_as [] 0 h ∙ me_is kind me program store first starts

  -- so its store is its own
  pub stays_own : GoOn kind → {before after : Option (List ℕ)} (result : Result (Unit {0}) GroupFault)
      → IsRun kind plan (run_moment first from before) (run_moment last to after) result
      → IsStoreOf kind last.protocol.known.me last.protocol.store → IsStoreOf kind me last.protocol.store
  stays_own laws {before} {after} result h owned =
      subst (λ (n : Me). IsStoreOf kind n last.protocol.store)
      (same_node result (run_goes laws plan (run_moment first from before) (run_moment last to after) result h)) owned
