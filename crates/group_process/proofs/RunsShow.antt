-- What a run has released is on the console of its node from then on, and a console shows nothing else.
use Rattle.std.proofs.lemmas.Bool.{cases_Bool}
use Rattle.std.proofs.lemmas.List.{append-nil, length-append, length-take-le, nil_from_length, take-append-drop}
use Rattle.std.proofs.lemmas.Option.{slice_get-get_or, slice_get_within}
use Rattle.std.proofs.Common.{◌≡◌, ◌∙◌, ◌≤◌, ℕ, ◌==◌, zero, suc, Bool, List, [], ◌∷◌, ◌++◌, append_assoc, drop, filter, flat_map, get_or, length, Option, Some, None, inl, inr, refl, sym, ap, subst, arith, option_map}
use Rattle.std.specs.List.{Contains}
use Rattle.pcode_file.specs.Parts.{Parts}
use Rattle.pcode_machine.specs.Runs.{IsPrefix, out}
use Rattle.paxos_msg.specs.declared.message.Group.{Group}
use Rattle.paxos_msg.specs.Batches.{Record}
use Rattle.paxos_msg.specs.Fits.{IsGroup}
use Rattle.paxos_msg.specs.Records.{empty_record}
use Rattle.paxos_acceptor.specs.declared.me.Me.{Me}
use Rattle.group_protocol.specs.States.{IsSize}
use Rattle.group_world.specs.Group.{World, member_at, new_world, seat_of_member, up_of}
use Rattle.group_rules.specs.Claims.{ConsolesGrow}
use Rattle.group_node.specs.NodeCalls.{Running}
use Rattle.group_world.specs.Member.{Member}
use Rattle.group_rules.specs.Claims.{ConsolesShowReleased}
use Rattle.group_world.specs.Processes.{AlwaysLaterOfProcesses, AlwaysOfProcesses, Entry, HasMoment, IsHistory, IsLog, entries_of}
use Rattle.group_process.specs.Runs.{AreFirstRuns, AreStarts, NodeStart, ConsolesAreReleased, ConsolesShowRuns, GoesOn, IsAfterRuns, NodeRun, Starts, ends_by, entries_of_start, node_after, node_left, record_left, run_output}
use Rattle.group_process.proofs.GroupLogs.{first, first_at}
use Rattle.group_process.proofs.RunPrefixes.{still_start}
use Rattle.group_process.proofs.RunHistories.{runs_history}
use Rattle.group_protocol.proofs.Elements.{in_cases, none_in}

-- ---- the node of a run

-- the first of some runs, the last of which is this one, cut off after its deeds
record Reaches (p : Parts) (me : Me) (kept : Record) (runs : List NodeStart) (run : NodeRun) : Type 0 where
  cut : List NodeStart
  are : AreStarts p me kept cut
  some : AreFirstRuns cut runs
  rest : List Entry
  whole : flat_map (entries_of_start me) cut ++ rest ≡ flat_map (entries_of_start me) runs
  up : (before : Option Running) → node_after before cut ≡ Some (run.last)

reaches : (p : Parts) (me : Me) (runs : List NodeStart) (kept : Record) (run : NodeRun) → AreStarts p me kept runs
    → Contains runs (Starts run) → Reaches p me kept runs run
reaches p me [] kept run h there = absurd (none_in (Starts run) there)
reaches p me (a ∷ runs) kept run (start, others) there = elim (in_cases a runs (Starts run) there) [
  | inl e ↦
      let (read, h, last) = rw e at start in
      let cut : NodeRun = record { process = record run.process { failed = None }; last = run.last; stand = GoesOn } in
      record {
        cut = Starts cut ∷ [];
        are = ((read, record { spare = h.spare; does = h.does; fails = tt }, refl), tt);
        some = rw e
            (inr (refl, record { loaded = refl; rest = []; doings = sym (append-nil run.process.doings); failed = refl; goes_on = refl }));
        rest = ends_by me run run.stand ++ flat_map (entries_of_start me) runs;
        whole = rw e (grind (arith, append-nil, append_assoc));
        up = λ before. refl;
      }
  | inr later ↦
      let r = reaches p me runs (record_left a) run others later in
      record {
        cut = a ∷ r.cut;
        are = (still_start p me kept a runs r.cut start r.some, r.are);
        some = inl (refl, r.some);
        rest = r.rest;
        whole = grind (arith, append_assoc, r.whole);
        up = λ before. r.up (node_left a);
      }
]

-- ---- a log

-- a list ends its prefix where those of it that pass a test end theirs
split_passed : {X : Type 0} (test : X → Bool) (xs es fs : List X) → es ++ fs ≡ filter test xs
    → (prefix : List X) × (rest : List X) × (xs ≡ prefix ++ rest) × (filter test prefix ≡ es)
split_passed test xs [] fs e = ([], xs, refl, refl)
split_passed test [] (x ∷ es) fs e = absurd cc
split_passed test (y ∷ xs) (x ∷ es) fs e = elim (cases_Bool (test y)) [
  | inl passes ↦
      let both : x ∷ (es ++ fs) ≡ y ∷ filter test xs = rw passes at e in
      let (prefix, rest, whole, passed) = split_passed test xs es fs cc in
      (y ∷ prefix, rest, cc, rw (passes, passed) cc)
  | inr fails ↦
      let (prefix, rest, whole, passed) = split_passed test xs (x ∷ es) fs (rw fails at e) in
      (y ∷ prefix, rest, cc, rw (fails, passed) refl)
]

-- a list that is as long has a node there too
node_there : (xs ys : List Member) (i : ℕ) (y : Member) → length ys ≡ length xs → member_at ys i ≡ Some y
    → (x : Member) × (member_at xs i ≡ Some x)
node_there xs ys zero y long at = absurd cc
node_there xs ys (suc k) y long at =
    (get_or xs k y, slice_get-get_or xs k y (omega (arith, long, slice_get_within ys k y at)))

-- the entries of a node in a log of a new group are its history from its first start
own_history : (p : Parts) (group : Group) (log : List Entry) (now : List Member) (i : ℕ) (m : Member) → IsLog (new_world p group) log now
    → member_at now i ≡ Some m → IsHistory p (record { node = i; group = group }) first (entries_of i log) m
own_history p group log now i m h at =
    let (one, there) = node_there (new_world p group).members now i m h.places at in
    rw (sym (first_at group.size i one there)) at (h.nodes i one m there at)

-- a list that is no longer than one that it begins with is that one
pub no_more : (xs ys : List ℕ) → IsPrefix xs ys → length ys ≤ length xs → ys ≡ xs
no_more xs ys h few =
    let none = nil_from_length h.rest (omega (arith, few, ap length h.whole, length-append xs h.rest)) in
    h.whole ∙ rw none (append-nil xs)

-- the laws of logs
pub record LogLaws : Type 0 where
  pub parts : (w : World) (log more : List Entry) (now : List Member) → IsLog w (log ++ more) now → HasMoment w log more now
  pub one : (w : World) (log : List Entry) (now other : List Member) → IsLog w log now → IsLog w log other → other ≡ now
  pub node : (p : Parts) (me : Me) (m : Member) (entries : List Entry) (last other : Member) → IsHistory p me m entries last
      → IsHistory p me m entries other → other ≡ last
  pub shows : AlwaysOfProcesses ConsolesShowReleased
  pub grow : AlwaysLaterOfProcesses ConsolesGrow
  pub through : (a b c : List ℕ) → IsPrefix a b → IsPrefix b c → IsPrefix a c

module _ (laws : LogLaws) (p : Parts) (group : Group) (runs : ℕ → List NodeStart) (log : List Entry) (now : List Member)
    (size : IsSize group.size) (session : IsGroup group) (h : IsAfterRuns p group runs log now) where
  -- a console has all that a run has released
  run_shows : (i : ℕ) (m : Member) (run : NodeRun) → member_at now i ≡ Some m → Contains (runs i) (Starts run)
      → IsPrefix (run_output run) m.console × (length (run_output run) ≡ run.last.progress.released)
  unfolding out
  run_shows i m run at there =
      let me : Me = record { node = i; group = group } in
      let r = reaches p me (runs i) empty_record run (h.ran.started i) there in
      let (own, history, stands, shows) = runs_history p me r.cut first refl r.are in
      let (prefix, rest, whole, entries) = split_passed (λ (e : Entry). e.node == i) log _ r.rest (r.whole ∙ sym (h.ran.entries i)) in
      let (mid, moment) = laws.parts (new_world p group) prefix rest now (rw whole at h.nodes) in
      let (m_mid, mid_is) = node_there mid now i m moment.after.places at in
      let same : m_mid ≡ own = laws.node p me first _ own m_mid history
      (rw entries at (own_history p group prefix mid i m_mid moment.before mid_is)) in
      let up : m_mid.node ≡ Some (run.last) = ap (λ (x : Member). x.node) same ∙ stands.node_is ∙ r.up None in
      let seat = ap (λ o. (seat_of_member o).up) mid_is ∙ ap (option_map up_of) up in
      let shown = laws.shows p group prefix mid size session moment.before i (up_of (run.last)) seat in
      let grown = laws.grow p group prefix rest mid now size session moment.before moment.after i in
      let console : List ℕ = (seat_of_member (member_at mid i)).console in
      let count : ℕ = run.last.progress.released in
      let begins : IsPrefix (run_output run) console =
      record { rest = drop count console; whole = sym (ap (λ l. l ++ drop count console) shown.1 ∙ take-append-drop count console) } in
      let through : IsPrefix (run_output run) m.console =
      subst (IsPrefix (run_output run)) (ap (λ o. (seat_of_member o).console) at) (laws.through _ _ _ begins grown) in
      (through, ap length shown.1 ∙ length-take-le count console shown.0)

  pub runs_show : ConsolesShowRuns runs now
  runs_show i m run at there = (run_shows i m run at there).0

  pub only_released : ConsolesAreReleased runs now
  only_released i m at =
      let me : Me = record { node = i; group = group } in
      let (last, history, stands, shows) = runs_history p me (runs i) first refl (h.ran.started i) in
      let same : m.console ≡ last.console = ap (λ (x : Member). x.console)
      (laws.node p me first _ last m history (rw (h.ran.entries i) at (own_history p group log now i m h.nodes at))) in
      elim shows [
        | inl none ↦ inl (same ∙ none)
        | inr (run, there, few) ↦
            let (begins, count) = run_shows i m run at there in
            inr (run, there, no_more (run_output run) m.console begins (omega (arith, ap length same, few, count)))
      ]
