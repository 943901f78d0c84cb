-- What is seen of the runs that are chosen.
use Rattle.std.proofs.Common.{◌≡◌, ◌∙◌, List, [], ◌∷◌, map, inl, inr, refl, ap}
use Rattle.paxos_acceptor.specs.declared.me.Me.{Me}
use Rattle.group_process.specs.Runs.{NodeStart, FailsToStart, NodeRun, Starts, run_output, runs_in}
use Rattle.group_disk.specs.Restarts.{AreChosenRuns, AreSeenSame}
use Rattle.group_disk.proofs.DiskClaims.{sent_same, typed_same}
use Rattle.group_disk.proofs.KeptLogs.{all_chosen}

module _ {X : Type 0} (f : NodeRun → X) (blind : (run : NodeRun) (stand : _) → f (record run { stand = stand }) ≡ f run) where
  same_of : (xs ys : List NodeStart) → AreChosenRuns xs ys → map f (runs_in ys) ≡ map f (runs_in xs)
  same_of [] ys is = ap (λ (l : List NodeStart). map f (runs_in l)) is
  same_of (Starts run ∷ rest) ys (stand, others, same, is, chosen) =
      ap (λ (l : List NodeStart). map f (runs_in l)) is
      ∙ (ap (λ (x : X). x ∷ map f (runs_in others)) (blind run stand) ∙ ap (λ (l : List X). f run ∷ l) (same_of rest others chosen))
  same_of (FailsToStart loaded b ∷ rest) ys (inl dropped) = same_of rest ys dropped
  same_of (FailsToStart loaded b ∷ rest) ys (inr (others, is, chosen)) =
      ap (λ (l : List NodeStart). map f (runs_in l)) is ∙ same_of rest others chosen

pub seen_same : (me : Me) (xs ys : List NodeStart) → AreChosenRuns xs ys → AreSeenSame me xs ys
seen_same me xs ys h = record {
  processes = same_of (λ (run : NodeRun). run.process) (λ run stand. refl) xs ys h;
  nodes = same_of (λ (run : NodeRun). run.last) (λ run stand. refl) xs ys h;
  released = same_of run_output (λ run stand. refl) xs ys h;
  sent = sent_same _ _ (all_chosen me xs ys h);
  typed = typed_same _ _ (all_chosen me xs ys h);
}
