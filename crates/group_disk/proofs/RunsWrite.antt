-- What a run of a node writes at its terminal.
use Rattle.std.proofs.Common.{◌≡◌, ◌∙◌, ◌++◌, ℕ, List, [], IsErrOf, OnOk, Option, Some, None, Result, Ok, Err, length, take, refl, sym, ap, append-nil}
use Rattle.std.specs.Io.KnownBytes.{Appends}
use Rattle.pcode_file.specs.Parts.{Parts}
use Rattle.paxos_acceptor.specs.declared.me.Me.{Me}
use Rattle.paxos_acceptor.specs.Stores.{StoreKind}
use Rattle.node_io.specs.declared.fault.GroupFault.{GroupFault}
use Rattle.node_io.specs.Refusals.{write_failed}
use Rattle.node_run.specs.declared.cycles.RunPlan.{RunPlan}
use Rattle.node_run.specs.Course.{Surroundings}
use Rattle.node_run.specs.Runs.{RunsNode}
use Rattle.group_process.specs.Runs.{output_of}
use Rattle.group_process.specs.Terminals.{TerminalRun}
use Rattle.group_disk.specs.Written.{IsWrittenAt}

is_there : (from wrote : List ℕ) (after : Option (List ℕ)) → Appends (Some from) after wrote → after ≡ Some (from ++ wrote)
is_there from wrote None h = absurd h
is_there from wrote (Some to) h = ap Some h

whole_by : (result : Result (Unit {0}) GroupFault) (wrote lost all : List ℕ) → all ≡ wrote ++ lost
    → (¬ IsErrOf result write_failed → lost ≡ []) → OnOk result (wrote ≡ all)
whole_by (Ok x) wrote lost all whole none = sym (whole ∙ ap (λ l. wrote ++ l) (none (λ f. absurd cc)) ∙ append-nil wrote)
whole_by (Err e) wrote lost all whole none = tt

pub run_writes : {S : Type 0} (kind : StoreKind S) (p : Parts) (me : Me) (store end : S) (plan : RunPlan) (from to : Surroundings)
    (shown : List ℕ) (kept : ℕ) (after : Option (List ℕ)) (result : Result (Unit {0}) GroupFault)
    (h : RunsNode kind me p store end plan from to (Some (take kept shown)) after result) → plan.seen ≡ length (take kept shown)
    → IsWrittenAt shown kept h.last after result
run_writes kind p me store end plan from to shown kept after result h told =
    let run : TerminalRun = record { released = output_of h.last; survived = kept; seen = plan.seen; wrote = h.writes.wrote } in
    record {
      run = run;
      released = refl;
      begun = refl;
      writes = record { told = told; wrote = record { rest = h.writes.lost; whole = h.writes.whole } };
      is_there = is_there (take kept shown) h.writes.wrote after h.writes.appended;
      whole = whole_by result h.writes.wrote h.writes.lost _ h.writes.whole h.writes.none;
    }
