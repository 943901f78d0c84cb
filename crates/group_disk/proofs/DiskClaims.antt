-- What holds of every log over stores that keep their records holds of every log over disks.
use Rattle.std.proofs.Common.{◌≡◌, ◌∙◌, ℕ, List, [], ◌∷◌, ◌++◌, Some, None, inl, inr, refl, sym, ap, subst, arith}
use Rattle.std.specs.List.{Contains}
use Rattle.pcode_file.specs.Parts.{Parts}
use Rattle.pcode_machine.specs.Runs.{IsPrefix}
use Rattle.paxos_msg.specs.declared.message.Group.{Group}
use Rattle.paxos_msg.specs.declared.value.Value.{Value}
use Rattle.paxos_msg.specs.Batches.{Record}
use Rattle.paxos_acceptor.specs.declared.me.Me.{Me}
use Rattle.group_protocol.proofs.Elements.{first_in, in_cases, rest_in}
use Rattle.group_protocol.specs.Packets.{Datagram}
use Rattle.group_rules.specs.Rules.{WorldState}
use Rattle.paxos_msg.specs.Fits.{IsGroup, IsNode}
use Rattle.group_protocol.specs.States.{IsSize}
use Rattle.group_world.specs.Group.{member_at, new_world, world_state}
use Rattle.group_world.specs.Member.{Member}
use Rattle.group_world.specs.Processes.{Entry, sent_in, typed_in}
use Rattle.group_process.specs.Runs.{AlwaysOfNodes, AlwaysOfRuns, NodeStart, ConsolesAreReleased, ConsolesShowRuns, FailsToStart, GoesOn, IsGroupLog, IsLastIfOn, IsOver, LeaveNodes, NodeRun, Stand, Starts, node_after, node_by, run_output, state_after}
use Rattle.group_disk.specs.Restarts.{AreChosenRuns, AreRestarts, HasKeptLog, IsChosenLog, IsDiskLog, IsSameStand, found_after}
use Rattle.group_disk.specs.Headline.{AlwaysOfDiskNodes, AlwaysOfDisks, AreSeenAlike, AreUpAsRun, DisksLeaveNodes, IsAfterDisks}

-- ---- what was sent and typed

pub sent_same : (log kept : List Entry) → IsChosenLog log kept → sent_in kept ≡ sent_in log
sent_same [] kept is = ap sent_in is
sent_same (e ∷ log) kept (inl (sent, typed, same)) = sent_same log kept same ∙ ap (λ (l : List Datagram). l ++ sent_in log) (sym sent)
sent_same (e ∷ log) kept (inr (save, rest, is, same)) =
    ap sent_in is ∙ ap (λ (l : List Datagram). e.sent ++ l) (sent_same log rest same)

pub typed_same : (log kept : List Entry) → IsChosenLog log kept → typed_in kept ≡ typed_in log
typed_same [] kept is = ap typed_in is
typed_same (e ∷ log) kept (inl (sent, typed, same)) = typed_same log kept same ∙ ap (λ (l : List Value). l ++ typed_in log) (sym typed)
typed_same (e ∷ log) kept (inr (save, rest, is, same)) =
    ap typed_in is ∙ ap (λ (l : List Value). e.typed ++ l) (typed_same log rest same)

module _ (p : Parts) (group : Group) where
  abbrev state_by : List Member → List Datagram → List Value → WorldState
  state_by now sent typed =
      let w = new_world p group in
      world_state (record w { members = now; sent = w.sent ++ sent; typed = w.typed ++ typed })

  pub state_same : (log kept : List Entry) (now : List Member) → IsChosenLog log kept
      → state_after p group kept now ≡ state_after p group log now
  state_same log kept now same =
      ap (λ (l : List Datagram). state_by now l (typed_in kept)) (sent_same log kept same)
      ∙ ap (λ (l : List Value). state_by now (sent_in log) l) (typed_same log kept same)

pub of_disks : (P : WorldState → Type 0) → AlwaysOfRuns P → AlwaysOfDisks P
of_disks P always p group restarts log now size session h =
    subst P (state_same p group log h.kept now h.chosen.same) (always p group h.runs h.kept now size session h.after)

-- ---- the nodes

starts_same : (run : NodeRun) (a b : Stand) (rest others : List NodeStart) → IsSameStand a b → IsLastIfOn a rest
    → AreChosenRuns rest others → node_after None others ≡ node_after None rest
    → node_after (node_by run b) others ≡ node_after (node_by run a) rest
starts_same run GoesOn b rest others same last chosen up =
    let none : others ≡ [] = subst (λ (l : List NodeStart). AreChosenRuns l others) last chosen in
    ap (λ (s : Stand). node_after (node_by run s) others) same ∙ ap (node_after (node_by run GoesOn)) (none ∙ sym last)
starts_same run (IsOver a) GoesOn rest others same last chosen up = absurd same
starts_same run (IsOver a) (IsOver b) rest others same last chosen up = up

up_same : (p : Parts) (me : Me) (restarts runs : List NodeStart) (found : List Record) → AreRestarts p me found restarts
    → AreChosenRuns restarts runs → node_after None runs ≡ node_after None restarts
up_same p me [] runs found h is = ap (node_after None) is
up_same p me (Starts run ∷ rest) runs found ((read, process, last), more) (stand, others, same, is, chosen) =
    ap (node_after None) is
    ∙ starts_same run run.stand stand rest others same last chosen (up_same p me rest others (found_after found (Starts run)) more chosen)
up_same p me (FailsToStart loaded b ∷ rest) runs found (first, more) (inl dropped) =
    up_same p me rest runs (found_after found (FailsToStart loaded b)) more dropped
up_same p me (FailsToStart loaded b ∷ rest) runs found (first, more) (inr (others, is, chosen)) =
    ap (node_after None) is ∙ up_same p me rest others (found_after found (FailsToStart loaded b)) more chosen

pub up_as_run : (p : Parts) (group : Group) (restarts : ℕ → List NodeStart) (log : List Entry) (now : List Member)
    → IsDiskLog p group restarts log → IsAfterDisks p group restarts log now → AreUpAsRun group restarts now
up_as_run p group restarts log now disk h i node =
    let (m, there, stands) = h.after.as_run i node in (
      m,
      there,
      stands.node_is ∙ up_same p (record { node = i; group = group }) (restarts i) (h.runs i) _ (disk.started i)
          (h.chosen.chosen i),
    )

-- ---- the consoles

none_in : {X : Type 0} (x : X) → ¬ Contains [] x
none_in x h = grind arith

is_run : (r run : NodeRun) → Starts r ≡ Starts run → r ≡ run
is_run r run e = cc

no_run : (loaded : Record) (b : _) (run : NodeRun) → ¬ (FailsToStart loaded b ≡ Starts run)
no_run loaded b run e = cc

chosen_has : (xs ys : List NodeStart) (run : NodeRun) → AreChosenRuns xs ys → Contains xs (Starts run)
    → (stand : Stand) × Contains ys (Starts (record run { stand = stand }))
chosen_has [] ys run is there = absurd (none_in _ there)
chosen_has (Starts r ∷ rest) ys run (stand, others, same, is, chosen) there =
    elim (in_cases (Starts r) rest (Starts run) there) [
      | inl e ↦ (
        stand,
        subst (λ (l : List NodeStart). Contains l (Starts (record run { stand = stand }))) (sym is)
            (subst (λ (q : NodeRun). Contains (Starts (record r { stand = stand }) ∷ others) (Starts (record q { stand = stand })))
            (is_run r run e)
            (first_in _ others)),
      )
      | inr later ↦
          let (other, has) = chosen_has rest others run chosen later in
          (other, subst (λ (l : List NodeStart). Contains l (Starts (record run { stand = other }))) (sym is) (rest_in _ others _ has))
    ]
chosen_has (FailsToStart loaded b ∷ rest) ys run chosen there =
    elim (in_cases (FailsToStart loaded b) rest (Starts run) there) [
      | inl e ↦ absurd (no_run loaded b run e)
      | inr later ↦ elim chosen [
        | inl dropped ↦ chosen_has rest ys run dropped later
        | inr (others, is, more) ↦
            let (other, has) = chosen_has rest others run more later in
            (other, subst (λ (l : List NodeStart). Contains l (Starts (record run { stand = other }))) (sym is) (rest_in _ others _ has))
      ]
    ]

has_chosen : (xs ys : List NodeStart) (run : NodeRun) → AreChosenRuns xs ys → Contains ys (Starts run)
    → (from : NodeRun) × Contains xs (Starts from) × (run_output run ≡ run_output from)
has_chosen [] ys run is there = absurd (none_in _ (subst (λ (l : List NodeStart). Contains l (Starts run)) is there))
has_chosen (Starts r ∷ rest) ys run (stand, others, same, is, chosen) there =
    elim (in_cases (Starts (record r { stand = stand })) others (Starts run)
    (subst (λ (l : List NodeStart). Contains l (Starts run)) is there)) [
      | inl e ↦ (r, first_in _ rest, ap run_output (sym (is_run (record r { stand = stand }) run e)))
      | inr later ↦ let (from, has, out) = has_chosen rest others run chosen later in (from, rest_in _ rest _ has, out)
    ]
has_chosen (FailsToStart loaded b ∷ rest) ys run (inl dropped) there =
    let (from, has, out) = has_chosen rest ys run dropped there in (from, rest_in _ rest _ has, out)
has_chosen (FailsToStart loaded b ∷ rest) ys run (inr (others, is, more)) there =
    elim (in_cases _ others (Starts run) (subst (λ (l : List NodeStart). Contains l (Starts run)) is there)) [
      | inl e ↦ absurd (no_run loaded _ run e)
      | inr later ↦ let (from, has, out) = has_chosen rest others run more later in (from, rest_in _ rest _ has, out)
    ]

pub shows_over_disks : AlwaysOfNodes ConsolesShowRuns → AlwaysOfDiskNodes ConsolesShowRuns
shows_over_disks always p group restarts log now size session h i m run at there =
    let (stand, has) = chosen_has (restarts i) (h.runs i) run (h.chosen.chosen i) there in
    always p group h.runs h.kept now size session h.after i m (record run { stand = stand }) at has

pub released_over_disks : AlwaysOfNodes ConsolesAreReleased → AlwaysOfDiskNodes ConsolesAreReleased
released_over_disks always p group restarts log now size session h i m at =
    elim (always p group h.runs h.kept now size session h.after i m at) [
      | inl none ↦ inl none
      | inr (run, there, is) ↦
          let (from, has, out) = has_chosen (restarts i) (h.runs i) run (h.chosen.chosen i) there in
          inr (from, has, is ∙ out)
    ]

-- ---- the nodes that there are

pub disks_leave : ((p : Parts) (group : Group) (restarts : ℕ → List NodeStart) (log : List Entry) → IsDiskLog p group restarts log
    → HasKeptLog p group restarts log)
    → ((p : Parts) (group : Group) (runs : ℕ → List NodeStart) (log : List Entry) → IsGroupLog p group runs log
    → LeaveNodes p group runs log)
    → (p : Parts) (group : Group) (restarts : ℕ → List NodeStart) (log : List Entry) → IsDiskLog p group restarts log
    → DisksLeaveNodes p group restarts log
disks_leave kept_logs nodes p group restarts log h =
    let (runs, kept, is) = kept_logs p group restarts log h in
    let (now, after) = nodes p group runs kept is.ran in
    (now, record { runs = runs; kept = kept; chosen = is; after = after })

-- ---- what is seen

some_is : (m n : Member) → Some m ≡ Some n → m ≡ n
some_is m n e = cc

module _ (shows : AlwaysOfDiskNodes ConsolesShowRuns) (released : AlwaysOfDiskNodes ConsolesAreReleased)
    (both : (a b : List ℕ) → IsPrefix a b → IsPrefix b a → a ≡ b) (p : Parts) (group : Group) (restarts : ℕ → List NodeStart)
    (log : List Entry) (size : IsSize group.size) (session : IsGroup group) where
  console_below : (now other : List Member) → IsAfterDisks p group restarts log now → IsAfterDisks p group restarts log other
      → (i : ℕ) (m n : Member) → member_at now i ≡ Some m → member_at other i ≡ Some n → IsPrefix m.console n.console
  console_below now other h g i m n at too = elim (released p group restarts log now size session h i m at) [
    | inl none ↦ subst (λ (c : List ℕ). IsPrefix c n.console) (sym none) (record { rest = n.console; whole = refl })
    | inr (run, there, is) ↦
        subst (λ (c : List ℕ). IsPrefix c n.console) (sym is) (shows p group restarts log other size session g i n run too there)
  ]

  node_is : (now : List Member) → AreUpAsRun group restarts now → (i : ℕ) (m : Member) → IsNode group.size i
      → member_at now i ≡ Some m → m.node ≡ node_after None (restarts i)
  node_is now up i m node at =
      let (other, too, is) = up i node in
      ap (λ (n : Member). n.node) (some_is m other (sym at ∙ too)) ∙ is

  pub seen_alike : (now other : List Member) → IsDiskLog p group restarts log → IsAfterDisks p group restarts log now
      → IsAfterDisks p group restarts log other → AreSeenAlike group now other
  seen_alike now other disk h g i m n node at too = (
    both _ _ (console_below now other h g i m n at too) (console_below other now g h i n m too at),
    node_is now (up_as_run p group restarts log now disk h) i m node at
        ∙ sym (node_is other (up_as_run p group restarts log other disk g) i n node too),
  )
