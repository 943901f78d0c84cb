-- A run over a disk of which nothing is known is a run over a file.
use Rattle.std.proofs.Common.{◌≡◌, ◌⊎◌, ℕ, List, Option, Result, Ok, Err, inl, inr, refl, ap}
use Rattle.pcode_file.specs.Parts.{Parts}
use Rattle.paxos_msg.specs.Batches.{Record}
use Rattle.paxos_acceptor.specs.declared.me.Me.{Me}
use Rattle.paxos_acceptor.specs.declared.store.StoreFault.{StoreFault}
use Rattle.paxos_disk.specs.Disks.{Folder}
use Rattle.paxos_disk.specs.Files.{FileKnowledge, file_kind}
use Rattle.paxos_disk.specs.Found.{disk_kind}
use Rattle.paxos_disk.specs.Reads.{LogState}
use Rattle.group_protocol.specs.declared.start.StartRefused.{StartRefused}
use Rattle.group_node.specs.Starting.{StartsAfter, StartsByLoad}
use Rattle.group_node.specs.NodeCalls.{running}
use Rattle.group_node.specs.States.{NodeState}
use Rattle.group_wire.specs.Starts.{HasStarted, LacksOutbox}
use Rattle.node_io.specs.declared.fault.GroupFault.{GroupFault}
use Rattle.node_run.specs.declared.cycles.RunPlan.{RunPlan}
use Rattle.node_run.specs.Course.{Surroundings}
use Rattle.node_run.specs.Runs.{CyclesOrRefuses, RunsInCycles, RunsNode, RunsOrRefuses}

module _ {D : Type 0} (folder_of : D → Folder) (me : Me) (program : Parts) where
  -- what is known of the file of a refused start
  abbrev filed : StartRefused (LogState D) → StartRefused FileKnowledge
  filed e = record { fault = e.fault; store = e.store.filed }

  abbrev NoNode : StartRefused (LogState D) → Result (NodeState (LogState D)) (StartRefused (LogState D))
  NoNode e = Err e

  abbrev NoFileNode : StartRefused (LogState D) → Result (NodeState FileKnowledge) (StartRefused FileKnowledge)
  NoFileNode e = Err (filed e)

  starts_after : (answer : Result Record StoreFault) (left : LogState D) (e : StartRefused (LogState D))
      → StartsAfter (disk_kind ⊥ folder_of) me answer left (NoNode e) → StartsAfter file_kind me answer left.filed (NoFileNode e)
  starts_after (Ok kept) left e h = record {
    known = tt;
    bad = h.bad;
    spent = h.spent;
    unsaved = λ why. ap (λ (s : LogState D). s.filed) (h.unsaved why);
    owner = h.owner;
    used_up = λ why. refl;
    only = λ honest. absurd honest;
    same = λ honest. absurd honest;
    failed = λ honest. absurd honest;
  }
  starts_after (Err f) left e h = cc

  starts_loaded : (store : LogState D) (e : StartRefused (LogState D))
      → LacksOutbox store (NoNode e) ⊎ StartsByLoad (disk_kind ⊥ folder_of) me store (NoNode e)
      → LacksOutbox store.filed (NoFileNode e) ⊎ StartsByLoad file_kind me store.filed (NoFileNode e)
  starts_loaded store e (inl lacks) = inl cc
  starts_loaded store e (inr h) = inr (record {
    answer = h.answer;
    left = h.left.filed;
    loads = h.loads;
    may = record { owner = h.may.owner; may = λ honest. absurd honest; no_more = λ honest. absurd honest };
    starts = starts_after h.answer h.left e h.starts;
  })

  start_refused : (store : LogState D) (e : StartRefused (LogState D))
      → HasStarted (disk_kind ⊥ folder_of) me program store (NoNode e) → HasStarted file_kind me program store.filed (NoFileNode e)
  start_refused store e h = record {
    loaded = starts_loaded store e h.loaded;
    fresh = tt;
    from = λ honest. absurd honest;
    plan = record {
      ok = tt;
      err = h.plan.err;
      quiet = tt;
      cause = h.plan.cause;
      planned = λ honest. absurd honest;
    };
    others = h.others;
  }

  node_ran : {store end : LogState D} {plan : RunPlan} {from to : Surroundings} {before after : Option (List ℕ)}
      {result : Result (Unit {0}) GroupFault}
      → RunsNode (disk_kind ⊥ folder_of) me program store end plan from to before after result
      → RunsNode file_kind me program store.filed end.filed plan from to before after result
  node_ran h = record {
    last = h.last;
    first = h.first;
    prompts = h.prompts;
    runs = record {
      process = h.runs.process;
      left = h.runs.left.filed;
      loaded = h.runs.loaded;
      may = λ honest. absurd honest;
      leaves = λ honest. absurd honest;
      runs = h.runs.runs;
      traffic = h.runs.traffic;
      prompted = h.runs.prompted;
      failed = h.runs.failed;
    };
    turns = h.turns;
    begun = h.begun;
    gift = h.gift;
    given = h.given;
    follows = h.follows;
    few = h.few;
    all = h.all;
    ends = h.ends;
    due = h.due;
    writes = h.writes;
    none_waits = h.none_waits;
  }

  -- a run in cycles is one of a process
  abbrev AreRun : Type 0
  AreRun = (me : Me) (program : Parts) (store end : LogState D) (plan : RunPlan) (from to : Surroundings) (before after : Option (List ℕ))
      (result : Result (Unit {0}) GroupFault)
      (h : RunsInCycles (disk_kind ⊥ folder_of) me program store end plan from to before after result)
      → (run : RunsNode (disk_kind ⊥ folder_of) me program store end plan from to before after result) × (run.last ≡ running h.final)

  pub over_file : AreRun → {store end : LogState D} {plan : RunPlan} {from to : Surroundings} {before after : Option (List ℕ)}
      {result : Result (Unit {0}) GroupFault}
      → CyclesOrRefuses (disk_kind ⊥ folder_of) me program store end plan from to before after result
      → RunsOrRefuses file_kind me program store.filed end.filed plan from to before after result
  over_file are {store} (inl (refused, starts, end, passed, written, is)) =
      inl (filed refused, start_refused store refused starts, ap (λ (s : LogState D). s.filed) end, passed, written, is)
  over_file are (inr h) = inr (node_ran (are me program _ _ _ _ _ _ _ _ h).0)
