-- A run over a disk as a start over its folder.
use Rattle.std.proofs.Common.{◌≡◌, ◌≢◌, ◌⊎◌, ℕ, Bool, List, [], ◌∷◌, Option, Result, Ok, Err, inl, inr, refl, sym, subst}
use Rattle.std.specs.List.{Contains}
use Rattle.pcode_file.specs.Parts.{Parts}
use Rattle.paxos_msg.specs.Batches.{Record}
use Rattle.paxos_acceptor.specs.declared.me.Me.{Me}
use Rattle.paxos_acceptor.specs.declared.store.StoreFault.{StoreFault}
use Rattle.paxos_acceptor.specs.Stores.{IsOneOf, LoadsFrom}
use Rattle.paxos_disk.specs.Disks.{Folder}
use Rattle.paxos_disk.specs.Found.{LoadsNoMore, MayLoad, disk_kind}
use Rattle.paxos_disk.specs.Reads.{LogState}
use Rattle.group_protocol.proofs.Elements.{first_in, rest_in}
use Rattle.group_protocol.specs.declared.fault.NodeFault.{NodeFault}
use Rattle.group_protocol.specs.declared.fault.NodeFault.TheVariants as fault
use Rattle.group_protocol.specs.declared.start.StartRefused.{StartRefused}
use Rattle.group_node.specs.Starting.{StartsAfter}
use Rattle.group_wire.specs.Starts.{HasStarted, LacksOutbox}
use Rattle.group_process.specs.Runs.{IsOver, Starts}
use Rattle.node_io.specs.declared.fault.GroupFault.{GroupFault}
use Rattle.node_run.specs.declared.cycles.RunPlan.{RunPlan}
use Rattle.node_run.specs.Course.{Surroundings}
use Rattle.node_run.specs.Runs.{RunsNode}
use Rattle.group_disk.specs.Folders.{DiskStart, IsOverDisk, LeavesNoMoreThan, start_over}

-- one of two is in the list of both
pub in_both : (r a b : Record) → IsOneOf r a b → Contains (a ∷ b ∷ []) r
in_both r a b (inl first) = subst (λ (q : Record). Contains (a ∷ b ∷ []) q) (sym first) (first_in a (b ∷ []))
in_both r a b (inr second) =
    subst (λ (q : Record). Contains (a ∷ b ∷ []) q) (sym second) (rest_in a (b ∷ []) b (first_in b []))

-- a fault is of the device, or not
is_store : (f : NodeFault) → (f ≡ fault.Store) ⊎ (f ≢ fault.Store)
is_store fault.Store = inl refl
is_store f = inr (λ is. absurd cc)

module _ {D : Type 0} (honest : Type 0) (folder_of : D → Folder) (is_honest : honest) (p : Parts) (me : Me) where
  pub run_starts : (store end : LogState D) (plan : RunPlan) (from to : Surroundings) (before after : Option (List ℕ))
      (result : Result (Unit {0}) GroupFault)
      (h : RunsNode (disk_kind honest folder_of) me p store end plan from to before after result) (is_changed : Bool)
      (rest : List DiskStart) → IsOverDisk p me (start_over (folder_of store.disk)
      (Starts (record { process = h.runs.process; last = h.last; stand = IsOver is_changed })) (folder_of end.disk)) rest
  run_starts store end plan from to before after result h is_changed rest =
      (h.runs.may is_honest, h.runs.runs, tt, λ r may. in_both r _ _ (h.runs.leaves is_honest r may))

  -- one over a record that was loaded
  loaded_refused : (store left : LogState D) (kept : Record) (e : StartRefused (LogState D)) (rest : List DiskStart)
      → MayLoad (folder_of store.disk) kept → LoadsNoMore (folder_of store.disk) (folder_of left.disk)
      → StartsAfter (disk_kind honest folder_of) me (Ok kept) left (Err e)
      → (e.fault ≡ fault.Store) ⊎ (e.fault ≢ fault.Store)
      → LeavesNoMoreThan p me (folder_of store.disk) (folder_of e.store.disk) rest
  loaded_refused store left kept e rest may fewer h (inl failed) = inl (
    kept,
    (
      may,
      (λ spent. absurd (cc (failed, h.bad.1 (λ fits. absurd (cc (failed, h.spent.1 (fits, spent))))))),
      λ r has. elim (h.failed is_honest r has) [ inl before ↦ inl (fewer r before) | inr next ↦ inr next ],
    ),
  )
  loaded_refused store left kept e rest may fewer h (inr other) = inr (λ r has. fewer r (h.same is_honest other r has))

  -- by the answer of the load
  refused_by : (store left : LogState D) (answer : Result Record StoreFault) (e : StartRefused (LogState D)) (rest : List DiskStart)
      → LoadsFrom (disk_kind honest folder_of) store left answer
      → StartsAfter (disk_kind honest folder_of) me answer left (Err e)
      → LeavesNoMoreThan p me (folder_of store.disk) (folder_of e.store.disk) rest
  refused_by store left (Ok kept) e rest loads h =
      loaded_refused store left kept e rest (loads.may is_honest) (loads.no_more is_honest) h (is_store e.fault)
  refused_by store left (Err f) e rest loads h =
      inr (subst (λ (s : LogState D). LoadsNoMore (folder_of store.disk) (folder_of s.disk))
      (sym (left_is f e left h)) (loads.no_more is_honest))
    where
      left_is : (f : StoreFault) (e : StartRefused (LogState D)) (left : LogState D)
          → StartsAfter (disk_kind honest folder_of) me (Err f) left (Err e) → e.store ≡ left
      left_is f e left h = cc

  pub refused_starts : (store : LogState D) (e : StartRefused (LogState D)) (rest : List DiskStart)
      → HasStarted (disk_kind honest folder_of) me p store (Err e)
      → LeavesNoMoreThan p me (folder_of store.disk) (folder_of e.store.disk) rest
  refused_starts store e rest h = elim h.loaded [
    | inl lacks ↦
        inr (subst (λ (s : LogState D). LoadsNoMore (folder_of store.disk) (folder_of s.disk)) (same_store lacks) (λ r has. has))
    | inr loaded ↦ refused_by store loaded.left loaded.answer e rest loaded.may loaded.starts
  ]
    where
      same_store : LacksOutbox store (Err e) → store ≡ e.store
      same_store lacks = cc
