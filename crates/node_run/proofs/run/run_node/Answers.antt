use Rattle.std.proofs.Common.{inl, inr, refl, rules}
use Rattle.node_run.proofs.Running.{stays_own}
use Rattle.node_run.proofs.Starting.{refused_owned}
use Rattle.node_run.proofs.run.run_node.Goals as goal

pub returns-in-Err-clause-ends : goal.returns-in-Err-clause-ends
returns-in-Err-clause-ends g c =
    rw (c.trace_end-done.ensures.same, c.trace_end-done.ensures.passed)
    (inl (c.in-Err.field-0, c.in-Err.ensures.starts, search rules, refl, refl, search rules))

pub returns-clause-ends : goal.returns-clause-ends
returns-clause-ends g c =
    rw (c.trace_end-done-2.ensures.same, c.trace_end-done-2.ensures.passed, c.into_store-store.ensures, ← c.trace.ensures.passed)
    (inr (record {
      start = c.in-Ok.host;
      final = c.campaign_and_play-played.new.host;
      starts = c.in-Ok.ensures.starts;
      run = c.campaign_and_play-played.ensures.run;
      replay = c.unreleased.ensures.replay;
      left = refl;
      loads = rw c.node-2.ensures at c.record.ensures.loads;
    }))

pub returns-in-Err-clause-owned : goal.returns-in-Err-clause-owned
returns-in-Err-clause-owned g c =
    refused_owned g.S.Store.kind _ _ _ c.in-Err.field-0 c.in-Err.ensures.starts c.requires.owned

pub returns-clause-owned : goal.returns-clause-owned
returns-clause-owned g c =
    rw c.into_store-store.ensures
    (stays_own g.S.Store.kind _ _ _ c.args.plan c.in-Ok.host c.campaign_and_play-played.new.host _ _
    c.in-Ok.ensures.starts c.deeds_go_on.ensures c.campaign_and_play-played.result c.campaign_and_play-played.ensures.run
    (rw c.node-2.ensures at c.record.ensures.owned))
