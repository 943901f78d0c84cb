-- A log over disks as one over stores that keep their records.
use Rattle.std.proofs.lemmas.Bool.Decides.{nat_tests}
use Rattle.std.proofs.lemmas.List.{append-nil}
use Rattle.std.proofs.Common.{◌≡◌, ◌⊎◌, ◌∙◌, ℕ, ◌==◌, Bool, true, false, if◌then◌else◌, List, [], ◌∷◌, ◌++◌, flat_map, map, Option, Some, None, inl, inr, refl, sym, ap, subst, arith}
use Rattle.std.specs.List.{AllByRecursion}
use Rattle.pcode_file.specs.Parts.{Parts}
use Rattle.paxos_msg.specs.declared.message.Group.{Group}
use Rattle.paxos_msg.specs.Records.{empty_record}
use Rattle.paxos_acceptor.specs.declared.me.Me.{Me}
use Rattle.group_protocol.specs.Packets.{Datagram}
use Rattle.group_wire.specs.Doings.{Doing}
use Rattle.group_world.specs.declared.event.Outcome.{Outcome}
use Rattle.group_world.specs.declared.event.Outcome.TheVariants.{Kept}
use Rattle.group_world.specs.Processes.{Entry, IsCarried, entries_of}
use Rattle.group_process.specs.Runs.{NodeStart, FailsToStart, GoesOn, IsOver, NodeRun, Stand, Starts, ends_by, entries_of_start, entry_by, failed_as, run_end}
use Rattle.group_disk.specs.Restarts.{AreChosenRuns, HasKeptLog, HaveRuns, IsChosenLog, IsDiskLog, IsSameStand}

-- ---- entries of one node

pub chosen_append : (es fs xs ys : List Entry) → IsChosenLog es fs → IsChosenLog xs ys → IsChosenLog (es ++ xs) (fs ++ ys)
chosen_append [] fs xs ys h k = subst (λ (l : List Entry). IsChosenLog xs (l ++ ys)) (sym h) k
chosen_append (e ∷ es) fs xs ys (inl (sent, typed, h)) k = inl (sent, typed, chosen_append es fs xs ys h k)
chosen_append (e ∷ es) fs xs ys (inr (save, rest, is, h)) k =
    inr (save, rest ++ ys, ap (λ l. l ++ ys) is, chosen_append es rest xs ys h k)

pub chosen_same : (es : List Entry) → IsChosenLog es es
chosen_same [] = refl
chosen_same (e ∷ es) = inr (e.save, es, refl, chosen_same es)

module _ (me : Me) where
  end_chosen : (a b : Bool) (failed : Option Doing) → IsChosenLog (run_end me.node a failed) (run_end me.node b failed)
  end_chosen a b None = chosen_same (run_end me.node a None)
  end_chosen a b (Some d) = inr (failed_as b, [], refl, refl)

  pub ends_chosen : (run : NodeRun) (a b : Stand) → IsSameStand a b → IsChosenLog (ends_by me run a) (ends_by me run b)
  ends_chosen run GoesOn b is = subst (λ (s : Stand). IsChosenLog [] (ends_by me run s)) (sym is) refl
  ends_chosen run (IsOver a) GoesOn none = absurd none
  ends_chosen run (IsOver a) (IsOver b) any = end_chosen a b run.process.failed

  run_chosen : (run : NodeRun) (stand : Stand) → IsSameStand run.stand stand
      → IsChosenLog (entries_of_start me (Starts run)) (entries_of_start me (Starts (record run { stand = stand })))
  run_chosen run stand same =
      let deeds = map (entry_by me.node Kept) run.process.doings in
      inr (
        Kept,
        deeds ++ ends_by me run stand,
        refl,
        chosen_append deeds deeds (ends_by me run run.stand) (ends_by me run stand) (chosen_same deeds)
            (ends_chosen run run.stand stand same),
      )

  pub all_chosen : (xs bs : List NodeStart) → AreChosenRuns xs bs
      → IsChosenLog (flat_map (entries_of_start me) xs) (flat_map (entries_of_start me) bs)
  all_chosen [] bs is = subst (λ (l : List NodeStart). IsChosenLog [] (flat_map (entries_of_start me) l)) (sym is) refl
  all_chosen (Starts run ∷ rest) bs (stand, others, same, is, more) =
      subst (λ (l : List NodeStart). IsChosenLog (flat_map (entries_of_start me) (Starts run ∷ rest)) (flat_map (entries_of_start me) l))
      (sym is)
      (chosen_append (entries_of_start me (Starts run)) (entries_of_start me (Starts (record run { stand = stand }))) _ _
      (run_chosen run stand same) (all_chosen rest others more))
  all_chosen (FailsToStart loaded b ∷ rest) bs (inl dropped) = inl (refl, refl, all_chosen rest bs dropped)
  all_chosen (FailsToStart loaded b ∷ rest) bs (inr (others, is, more)) =
      inr (
        failed_as true,
        flat_map (entries_of_start me) others,
        ap (λ l. flat_map (entries_of_start me) l) is,
        all_chosen rest others more,
      )

-- ---- logs

here : (e : Entry) (log : List Entry) → entries_of e.node (e ∷ log) ≡ e ∷ entries_of e.node log
here e log = grind (arith, nat_tests)

there : (i : ℕ) (e : Entry) (log : List Entry) → (e.node == i) ≡ false → entries_of i (e ∷ log) ≡ entries_of i log
there i e log other = grind (arith, nat_tests)

same_node : (i j : ℕ) → (i == j) ≡ true → i ≡ j
same_node i j h = grind (arith, nat_tests)

-- what is wanted of a node after the entry before
abbrev after_one : ℕ → List Entry → (ℕ → List Entry) → ℕ → List Entry
after_one node rest want i = if node == i then rest else want i

bool_cases : (b : Bool) → (b ≡ true) ⊎ (b ≡ false)
bool_cases true = inl refl
bool_cases false = inr refl

module _ (e : Entry) (log : List Entry) (want : ℕ → List Entry) (h : (i : ℕ) → IsChosenLog (entries_of i (e ∷ log)) (want i)) where
  dropped : IsChosenLog (entries_of e.node log) (want e.node) → (i : ℕ) → IsChosenLog (entries_of i log) (want i)
  dropped one i = elim (bool_cases (e.node == i)) [
    | inl is ↦ subst (λ (j : ℕ). IsChosenLog (entries_of j log) (want j)) (same_node e.node i is) one
    | inr other ↦ subst (λ (l : List Entry). IsChosenLog l (want i)) (there i e log other) (h i)
  ]

  taken : (rest : List Entry) → IsChosenLog (entries_of e.node log) rest → (i : ℕ)
      → IsChosenLog (entries_of i log) (after_one e.node rest want i)
  taken rest one i = elim (bool_cases (e.node == i)) [
    | inl is ↦ rw is (subst (λ (j : ℕ). IsChosenLog (entries_of j log) rest) (same_node e.node i is) one)
    | inr other ↦ rw other (subst (λ (l : List Entry). IsChosenLog l (want i)) (there i e log other) (h i))
  ]

  put_back : (save : Outcome) (rest kept : List Entry) → want e.node ≡ record e { save = save } ∷ rest
      → ((i : ℕ) → entries_of i kept ≡ after_one e.node rest want i) → (i : ℕ)
      → entries_of i (record e { save = save } ∷ kept) ≡ want i
  put_back save rest kept is all i = grind (arith, nat_tests, all i)

pub woven : (log : List Entry) (want : ℕ → List Entry) → ((i : ℕ) → IsChosenLog (entries_of i log) (want i))
    → (kept : List Entry) × IsChosenLog log kept × ((i : ℕ) → entries_of i kept ≡ want i)
woven [] want h = ([], refl, λ i. sym (h i))
woven (e ∷ log) want h =
    elim (subst (λ (l : List Entry). IsChosenLog l (want e.node)) (here e log) (h e.node)) [
      | inl (sent, typed, rest) ↦
          let (kept, same, all) = woven log want (dropped e log want h rest) in
          (kept, inl (sent, typed, same), all)
      | inr (save, rest, is, more) ↦
          let (kept, same, all) = woven log (after_one e.node rest want) (taken e log want h rest more) in
          (record e { save = save } ∷ kept, inr (save, kept, refl, same), put_back e log want h save rest kept is all)
    ]

pub chosen_all : (P : ℕ → Type 0) (log kept : List Entry) → IsChosenLog log kept → AllByRecursion (λ (e : Entry). P e.node) log
    → AllByRecursion (λ (e : Entry). P e.node) kept
chosen_all P [] kept is h = subst (AllByRecursion (λ (e : Entry). P e.node)) (sym is) tt
chosen_all P (e ∷ log) kept (inl (sent, typed, same)) h = chosen_all P log kept same h.1
chosen_all P (e ∷ log) kept (inr (save, rest, is, same)) h =
    subst (AllByRecursion (λ (e : Entry). P e.node)) (sym is) (h.0, chosen_all P log rest same h.1)

pub chosen_carried : (group : Group) (sent : List Datagram) (log kept : List Entry) → IsChosenLog log kept → IsCarried group sent log
    → IsCarried group sent kept
chosen_carried group sent [] kept is h = subst (IsCarried group sent) (sym is) tt
chosen_carried group sent (e ∷ log) kept (inl (none, typed, same)) h =
    chosen_carried group sent log kept same (subst (λ (l : List Datagram). IsCarried group l log)
    (ap (λ l. sent ++ l) none ∙ append-nil sent) h.1)
chosen_carried group sent (e ∷ log) kept (inr (save, rest, is, same)) h =
    subst (IsCarried group sent) (sym is) (h.0, chosen_carried group (sent ++ e.sent) log rest same h.1)

pub kept_log : (p : Parts) (group : Group) (restarts : ℕ → List NodeStart) (log : List Entry)
    → ((i : ℕ) → HaveRuns p (record { node = i; group = group }) empty_record (restarts i)) → IsDiskLog p group restarts log
    → HasKeptLog p group restarts log
kept_log p group restarts log have h =
    let me : ℕ → Me = λ i. record { node = i; group = group } in
    let runs : ℕ → List NodeStart = λ i. (have i).0 in
    let (kept, same, all) = woven log (λ i. flat_map (entries_of_start (me i)) (runs i))
    (λ i. subst (λ (l : List Entry). IsChosenLog l (flat_map (entries_of_start (me i)) (runs i))) (sym (h.entries i))
    (all_chosen (me i) (restarts i) (runs i) (have i).2)) in (
      runs,
      kept,
      record {
        ran = record {
          among = chosen_all _ log kept same h.among;
          entries = all;
          started = λ i. (have i).1;
          carried = chosen_carried group [] log kept same h.carried;
        };
        chosen = λ i. (have i).2;
        same = same;
      },
    )
