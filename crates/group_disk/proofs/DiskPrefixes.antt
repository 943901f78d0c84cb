-- A prefix of a log over disks is a log over disks: of the same starts, of which the last one of each node may be
-- cut off at a deed.
use Rattle.std.proofs.lemmas.List.Elements.{filter-append}
use Rattle.std.proofs.Common.{◌∙◌, ℕ, ◌==◌, List, [], ◌∷◌, ◌++◌, refl, sym, arith}
use Rattle.pcode_file.specs.Parts.{Parts}
use Rattle.paxos_msg.specs.declared.message.Group.{Group}
use Rattle.paxos_msg.specs.Batches.{Record}
use Rattle.paxos_msg.specs.Records.{empty_record}
use Rattle.paxos_acceptor.specs.declared.me.Me.{Me}
use Rattle.group_process.specs.Runs.{AreFirstRuns, NodeStart}
use Rattle.group_process.proofs.RunPrefixes.{PrefixOf, MayBeCut, all_of_prefix, carried_prefix, cut_starts}
use Rattle.group_disk.specs.Restarts.{IsDiskLog, IsRestart, found_after}
use Rattle.group_disk.specs.Headline.{HasFirstStarts}
use Rattle.group_world.specs.Processes.{Entry, entries_of}

module _ (p : Parts) (me : Me) where
  -- a run that goes on stays the last one
  still_restart : (found : List Record) (a : NodeStart) (rest cut : List NodeStart) → IsRestart p me found a rest → AreFirstRuns cut rest
      → IsRestart p me found a cut
  still_restart found a rest [] start some = grind arith
  still_restart found a rest (b ∷ cut) start some = grind arith

  starts_may_be_cut : MayBeCut p me (IsRestart p me)
  starts_may_be_cut = record {
    runs = λ found run rest h. h.1;
    cut = λ found run rest process mid h loaded runs. (rw loaded h.0, runs, refl);
    still = still_restart;
  }

  -- the first starts of a node, with these entries
  abbrev FirstOf : List NodeStart → List Entry → Type 0
  FirstOf restarts es = PrefixOf p me (IsRestart p me) found_after starts_may_be_cut restarts (empty_record ∷ []) es

pub log_prefix : (p : Parts) (group : Group) (restarts : ℕ → List NodeStart) (log more : List Entry)
    → IsDiskLog p group restarts (log ++ more) → HasFirstStarts p group restarts log
log_prefix p group restarts log more h =
    let me : ℕ → Me = λ i. record { node = i; group = group } in
    let one : (i : ℕ) → FirstOf p (me i) (restarts i) (entries_of i log) =
    λ i. cut_starts p (me i) (IsRestart p (me i)) found_after (starts_may_be_cut p (me i)) (restarts i) (empty_record ∷ [])
    _ (entries_of i more) (h.started i) (sym (filter-append (λ (e : Entry). e.node == i) log more) ∙ h.entries i) in (
      λ i. (one i).0,
      grind (arith, all_of_prefix, carried_prefix),
      λ i. (one i).3,
    )
