-- Starts over a disk, from the last to the first, as runs over a store with one of the records that
-- might be found.
use Rattle.std.proofs.Common.{◌≡◌, Bool, true, false, List, [], ◌∷◌, inl, inr, refl, sym, subst}
use Rattle.std.specs.List.{Contains}
use Rattle.pcode_file.specs.Parts.{Parts}
use Rattle.paxos_msg.specs.Batches.{Record}
use Rattle.paxos_msg.specs.declared.record.Change.TheVariants as change
use Rattle.paxos_msg.specs.Records.{changed}
use Rattle.paxos_acceptor.specs.declared.me.Me.{Me}
use Rattle.group_protocol.proofs.Elements.{first_in, in_cases, only_in}
use Rattle.group_wire.specs.Process.{IsProcess}
use Rattle.group_process.specs.Runs.{AreStarts, NodeStart, FailsToStart, GoesOn, IsLastIfOn, IsOver, NodeRun, Stand, Starts, record_by}
use Rattle.group_disk.specs.Restarts.{AreChosenRuns, AreRestarts, HaveRuns, IsSameStand, found_after}

module _ (p : Parts) (me : Me) where
  -- runs over a store that has one of these records
  abbrev Over : List Record → List NodeStart → Type 0
  Over found restarts = (kept : Record) × Contains found kept × HaveRuns p me kept restarts

  -- which record a failed save has left, by the one that is found
  left_so : (run : NodeRun) (found : List Record) (kept : Record) → Contains (found_after found (Starts run)) kept
      → (which : Bool) × (kept ≡ record_by run (IsOver which))
  left_so run found kept there = elim (in_cases (record_by run (IsOver false)) (record_by run (IsOver true) ∷ []) kept there) [
    | inl e ↦ (false, sym e)
    | inr later ↦ (true, sym (only_in (record_by run (IsOver true)) kept later))
  ]

  starts_over : (run : NodeRun) (rest : List NodeStart) (found : List Record) (stand : Stand) → run.stand ≡ stand
      → Contains found run.process.loaded → IsProcess p me run.process run.last → IsLastIfOn stand rest
      → Over (found_after found (Starts run)) rest → Over found (Starts run ∷ rest)
  starts_over run rest found GoesOn is read h none later =
      let on : NodeRun = record run { stand = GoesOn } in (
        run.process.loaded,
        read,
        (
          Starts on ∷ [],
          ((refl, h, refl), tt),
          (
            GoesOn,
            [],
            subst (λ (s : Stand). IsSameStand s GoesOn) (sym is) refl,
            refl,
            subst (λ (l : List NodeStart). AreChosenRuns l [])
                (sym none) refl,
          ),
        ),
      )
  starts_over run rest found (IsOver b) is read h last (kept, there, (runs, are, chosen)) =
      let (which, left) = left_so run found kept there in
      let over : NodeRun = record run { stand = IsOver which } in (
        run.process.loaded,
        read,
        (
          Starts over ∷ runs,
          ((refl, h, tt), subst (λ (r : Record). AreStarts p me r runs) left are),
          (IsOver which, runs, subst (λ (s : Stand). IsSameStand s (IsOver which)) (sym is) tt, refl, chosen),
        ),
      )

  pub have_runs : (restarts : List NodeStart) (found : List Record) (one : Record) → Contains found one
      → AreRestarts p me found restarts → Over found restarts
  have_runs [] found one there h = (one, there, ([], tt, refl))
  have_runs (Starts run ∷ rest) found one there ((read, process, last), others) =
      starts_over run rest found run.stand refl read process last
      (have_runs rest (found_after found (Starts run)) (record_by run (IsOver false))
      (first_in _ (record_by run (IsOver true) ∷ [])) others)
  have_runs (FailsToStart loaded is_changed ∷ rest) found one there ((read, spare), others) =
      let next = changed loaded change.Start in
      let (kept, some, (runs, are, chosen)) = have_runs rest (next ∷ found) next (first_in next found) others in
      elim (in_cases next found kept some) [
        | inl e ↦ (
          loaded,
          read,
          (
            FailsToStart loaded true ∷ runs,
            ((refl, spare), subst (λ (r : Record). AreStarts p me r runs) (sym e) are),
            inr (runs, refl, chosen),
          ),
        )
        | inr before ↦ (kept, before, (runs, are, inl chosen))
      ]

  pub runs_over_one : (kept : Record) (restarts : List NodeStart) → AreRestarts p me (kept ∷ []) restarts
      → HaveRuns p me kept restarts
  runs_over_one kept restarts h =
      let (one, there, have) = have_runs restarts (kept ∷ []) kept (first_in kept []) h in
      subst (λ (r : Record). HaveRuns p me r restarts) (sym (only_in kept one there)) have
