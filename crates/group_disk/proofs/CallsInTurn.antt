-- The calls of a node, one after the other, over one disk and at one terminal.
use Rattle.std.proofs.Common.{◌≡◌, ◌∙◌, ◌++◌, ℕ, zero, suc, min, List, [], ◌∷◌, false, true, Option, None, Some, IfSome, Result, length, take, drop, inl, inr, refl, sym, ap, subst, arith}
use Rattle.std.specs.List.{AllByRecursion}
use Rattle.std.specs.Option.{option_to_list}
use Rattle.std.proofs.lemmas.List.{take-append-drop, take_all}
use Rattle.pcode_file.specs.Parts.{Parts}
use Rattle.paxos_msg.specs.Fits.{IsGroup}
use Rattle.paxos_msg.specs.Records.{empty_record}
use Rattle.paxos_acceptor.specs.Stores.{StoreKind}
use Rattle.paxos_acceptor.specs.declared.me.Me.{Me}
use Rattle.paxos_disk.specs.Disks.{FileState, FindsNoMore, Folder, IsLeft, IsLeftOfAny}
use Rattle.paxos_disk.specs.Found.{LoadsNoMore, MayLoad, disk_kind}
use Rattle.paxos_disk.specs.Reads.{IsFolderOf, LogState}
use Rattle.node_io.specs.declared.fault.GroupFault.{GroupFault}
use Rattle.node_run.specs.declared.cycles.RunPlan.{RunPlan}
use Rattle.node_run.specs.Course.{Surroundings}
use Rattle.node_run.specs.Runs.{RunsNode}
use Rattle.group_process.specs.Runs.{FailsToStart, IsOver, NodeRun, Starts, record_by}
use Rattle.group_process.specs.Terminals.{TerminalRun, shown_after}
use Rattle.group_disk.specs.DiskCalls.{AreCallsAt, AreDiskCalls, DiskCall, FindsItsRecord, FindsOneOf, HandFolderOn, HaveStarts, IsCallWith, WriteAt, runs_of}
use Rattle.group_disk.specs.Folders.{AreOverDisk, DiskStart, IsNew, start_over}
use Rattle.group_disk.specs.Written.{IsWrittenAt}
use Rattle.group_disk.proofs.DiskRuns.{in_both, refused_starts, run_starts}
use Rattle.group_disk.proofs.RunsWrite.{run_writes}

-- ---- over one disk

-- where no more may be found, no more may be loaded
pub loads_no_more : (old new : Folder) → FindsNoMore old new → LoadsNoMore old new
loads_no_more old new fewer r may =
    record { me = may.me; left = may.left; in_range = may.in_range; found = fewer may.left may.found; reads = may.reads }

module _ {D : Type 0} (honest : Type 0) (folder_of : D → Folder) (is_honest : honest) (p : Parts) (me : Me) where
  -- starts over a disk are starts over one from which no less may be loaded
  over_more : (old new : Folder) (starts : List DiskStart) → LoadsNoMore old new → AreOverDisk p me new starts
      → AreOverDisk p me old starts
  over_more old new [] fewer h = tt
  over_more old new (s ∷ rest) fewer h = ((λ r may. fewer r (h.0 r may)), h.1, h.2)

  -- one call more before these starts
  one_more : (folder : Folder) (c : DiskCall D) (ran : Option NodeRun) (runs : List NodeRun) → LoadsNoMore folder (folder_of c.store.disk)
      → IsCallWith (disk_kind honest folder_of) p me c ran → HaveStarts p me (folder_of c.end.disk) runs
      → HaveStarts p me folder (option_to_list ran ++ runs)
  one_more folder c None runs fewer (refused, started, is, same, unwritten, fails) (starts, over, are) =
      let left : AreOverDisk p me (folder_of refused.store.disk) starts =
      subst (λ (s : LogState D). AreOverDisk p me (folder_of s.disk) starts) is over in
      elim (refused_starts honest folder_of is_honest p me c.store refused starts started) [
        | inl (loaded, start) ↦ (
          start_over (folder_of c.store.disk) (FailsToStart loaded true) (folder_of refused.store.disk) ∷ starts,
          (fewer, start, left),
          are,
        )
        | inr no_more ↦ (starts, over_more folder _ starts (λ r may. fewer r (no_more r may)) left, are)
      ]
  one_more folder c (Some run) runs fewer (h, is_changed, is) (starts, over, are) = (
    start_over (folder_of c.store.disk) (Starts run) (folder_of c.end.disk) ∷ starts,
    (
      fewer,
      rw is (run_starts honest folder_of is_honest p me c.store c.end c.plan c.from c.to c.before c.after c.result h is_changed starts),
      over,
    ),
    ap (λ (rs : List NodeRun). run ∷ rs) are,
  )

  pub have_starts : (folder : Folder) (calls : List (DiskCall D)) → AreDiskCalls honest folder_of p me folder calls
      → HaveStarts p me folder (runs_of calls)
  have_starts folder [] h = ([], tt, refl)
  have_starts folder (c ∷ calls) (fewer, call, others) =
      one_more folder c c.ran (runs_of calls) fewer call (have_starts (folder_of c.end.disk) calls others)

  -- what a restart reads after a run
  finds_it : (c : DiskCall D) (ran : Option NodeRun) → IsGroup me.group → IsCallWith (disk_kind honest folder_of) p me c ran
      → IsFolderOf me (folder_of c.end.disk)
      → IfSome ran (λ run. FindsOneOf me (folder_of c.end.disk) (record_by run (IsOver false) ∷ record_by run (IsOver true) ∷ []))
  finds_it c None small call good = tt
  finds_it c (Some run) small (h, is_changed, is) good = rw is λ left may.
      let (r, reads) = good left may in
      let loads : MayLoad (folder_of c.end.disk) r =
      record { me = me; left = left; in_range = small; found = may; reads = reads } in
      (r, reads, in_both r _ _ (h.runs.leaves is_honest r loads))

  -- each call leaves what the next one requires
  pub find_records : (folder : Folder) (calls : List (DiskCall D)) → IsGroup me.group → IsFolderOf me folder
      → AreDiskCalls honest folder_of p me folder calls → HandFolderOn folder_of me folder calls
      → AllByRecursion (FindsItsRecord folder_of me) calls
  find_records folder [] small good h hand = tt
  find_records folder (c ∷ calls) small good (_, call, others) (fewer, keeps, more) =
      let begins : IsFolderOf me (folder_of c.store.disk) = λ left may. good left (fewer left may) in
      let leaves : IsFolderOf me (folder_of c.end.disk) = keeps begins in (
        record { begins = begins; leaves = leaves; finds = finds_it c c.ran small call leaves },
        find_records (folder_of c.end.disk) calls small leaves others more,
      )

-- in a new folder a restart finds no file
pub new_folder : (me : Me) (folder : Folder) → IsNew folder → IsFolderOf me folder
new_folder me folder new left (inl is) = (empty_record, rw (none_left folder.file left new.file is) refl)
  where
    none_left : (file : Option FileState) (left : Option (List ℕ)) → file ≡ None → IsLeft file left → left ≡ None
    none_left None left e is = is
    none_left (Some s) left e is = absurd cc
new_folder me folder new left (inr any) = absurd (subst (λ files. IsLeftOfAny files left) new.others any)

-- ---- at one terminal

take_twice : (k j : ℕ) (xs : List ℕ) → take k (take j xs) ≡ take (min k j) xs
take_twice zero j xs = let none : 0 ≡ min 0 j = omega arith in ap (λ n. take n xs) none
take_twice (suc k) zero xs = let none : 0 ≡ min (suc k) 0 = omega arith in ap (λ n. take n xs) none
take_twice (suc k) (suc j) [] = sym (take_all (min (suc k) (suc j)) [] (omega arith))
take_twice (suc k) (suc j) (x ∷ xs) =
    let less : min (suc k) (suc j) ≡ suc (min k j) = omega arith in
    ap (λ l. x ∷ l) (take_twice k j xs) ∙ sym (ap (λ n. take n (x ∷ xs)) less)

-- what a run writes to a writer that holds the front of what is there
run_at_its_terminal : {S : Type 0} (kind : StoreKind S) (p : Parts) (me : Me) (store end : S) (plan : RunPlan) (from to : Surroundings)
    (shown : List ℕ) (kept : ℕ) (before after : Option (List ℕ)) (result : Result (Unit {0}) GroupFault)
    (h : RunsNode kind me p store end plan from to before after result) → before ≡ Some (take kept shown)
    → plan.seen ≡ length (take kept shown) → IsWrittenAt shown kept h.last after result
run_at_its_terminal kind p me store end plan from to shown kept before after result h is told =
    subst (λ (b : Option (List ℕ)). (g : RunsNode kind me p store end plan from to b after result)
    → IsWrittenAt shown kept g.last after result)
    (sym is) (λ g. run_writes kind p me store end plan from to shown kept after result g told) h

-- some bytes that are known are these
same_bytes : (known : Option (List ℕ)) (a b : List ℕ) → known ≡ Some a → known ≡ Some b → a ≡ b
same_bytes known a b e f = grind arith

module _ {D : Type 0} (honest : Type 0) (folder_of : D → Folder) (p : Parts) (me : Me) (now : List ℕ) where
  abbrev kind : StoreKind (LogState D)
  kind = disk_kind honest folder_of

  -- One call more, at a terminal that has the front of `full`.
  write_more : (full shown left : List ℕ) (j kept : ℕ) (c : DiskCall D) (ran : Option NodeRun) (runs : List NodeRun)
      → shown ≡ take j full → IsCallWith kind p me c ran → c.before ≡ Some (take kept shown) → c.plan.seen ≡ length (take kept shown)
      → c.after ≡ Some left → ((whole : List ℕ) (k : ℕ) → left ≡ take k whole → WriteAt whole runs now)
      → WriteAt full (option_to_list ran ++ runs) now
  write_more full shown left j kept c None runs front (refused, started, is, same, unwritten, fails) before told after rest =
      let kept_of_it : left ≡ take kept shown = same_bytes c.after left (take kept shown) after (unwritten ∙ before) in
      rest full (min kept j) (kept_of_it ∙ ap (λ l. take kept l) front ∙ take_twice kept j full)
  write_more full shown left j kept c (Some run) runs front (h, is_changed, is) before told after rest =
      let w : IsWrittenAt shown kept h.last c.after c.result =
      run_at_its_terminal kind p me c.store c.end c.plan c.from c.to shown kept c.before c.after c.result h before told in
      let run_at : TerminalRun = record { released = w.run.released; survived = min kept j; seen = w.run.seen; wrote = w.run.wrote } in
      let begins : take w.run.survived shown ≡ take (min kept j) full =
      ap (λ k. take k shown) w.begun ∙ ap (λ l. take kept l) front ∙ take_twice kept j full in
      let is_there : left ≡ shown_after full run_at =
      same_bytes c.after left (shown_after shown w.run) after w.is_there ∙ ap (λ l. l ++ w.run.wrote) begins in
      let whole = shown_after full run_at in
      let all : take (length left) whole ≡ whole = take_all (length left) whole (rw (sym is_there) (omega arith)) in
      let (wrote, released, turn, shows) = rest whole (length left) (is_there ∙ sym all) in (
        run_at ∷ wrote,
        grind (arith, released, w.released, is),
        (record { told = w.writes.told ∙ ap length begins; wrote = w.writes.wrote }, turn),
        shows,
      )

  pub write_at : (folder : Folder) (full shown : List ℕ) (j : ℕ) (calls : List (DiskCall D)) → shown ≡ take j full
      → AreDiskCalls honest folder_of p me folder calls → AreCallsAt shown calls now
      → WriteAt full (runs_of calls) now
  write_at folder full shown j [] front are is =
      ([], refl, tt, record { rest = drop j full; whole = sym (take-append-drop j full) ∙ ap (λ l. l ++ drop j full) (sym (is ∙ front)) })
  write_at folder full shown j (c ∷ calls) front (fewer, call, others) (kept, left, before, told, after, more) =
      write_more full shown left j kept c c.ran (runs_of calls) front call before told after
      (λ whole k e. write_at (folder_of c.end.disk) whole left k calls e others more)
