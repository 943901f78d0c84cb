-- Two moments of a log over disks: the runs that are chosen of all starts, cut off where the first
-- starts end, are chosen of these. So what holds of two moments of runs holds of two moments of
-- starts, whatever is chosen at each.
use Rattle.std.proofs.lemmas.List.{append-nil, append_cancel_left, length-replicate, map-append}
use Rattle.std.proofs.lemmas.List.Elements.{filter-append}
use Rattle.std.proofs.lemmas.Option.{slice_get_within}
use Rattle.std.proofs.Common.{◌≡◌, ◌∙◌, ℕ, ◌==◌, zero, suc, ◌<◌, List, [], ◌∷◌, ◌++◌, append_assoc, flat_map, length, map, Option, Some, None, inl, inr, refl, sym, ap, subst, arith, option_map, true}
use Rattle.std.specs.List.{AllByRecursion}
use Rattle.pcode_file.specs.Parts.{Parts}
use Rattle.pcode_machine.specs.Runs.{IsPrefix}
use Rattle.paxos_msg.specs.declared.message.Group.{Group}
use Rattle.paxos_msg.specs.Batches.{Record}
use Rattle.paxos_msg.specs.Fits.{IsGroup, IsNode}
use Rattle.paxos_msg.specs.Records.{empty_record}
use Rattle.paxos_acceptor.specs.declared.me.Me.{Me}
use Rattle.group_node.specs.Deeds.{Start}
use Rattle.group_protocol.specs.States.{IsSize}
use Rattle.group_rules.specs.Claims.{ConsolesGrow, LearnedStays}
use Rattle.group_rules.specs.Rules.{WorldState}
use Rattle.group_wire.specs.Doings.{Doing}
use Rattle.group_wire.specs.Process.{IsProcess}
use Rattle.group_world.specs.declared.event.Outcome.TheVariants.{Kept}
use Rattle.group_world.specs.Group.{member_at, seat_of_member, up_of}
use Rattle.group_world.specs.Member.{Member}
use Rattle.group_world.specs.Processes.{Entry, entries_of, quiet_entry}
use Rattle.group_process.proofs.RunPrefixes.{still_start}
use Rattle.group_process.specs.Runs.{AlwaysLaterOfRuns, AreFirstRuns, AreStarts, NodeStart, FailsToStart, IsAfterRuns, IsStartFrom, IsCutOff, IsCutStart, IsGroupLog, IsLastIfOn, LeaveNodes, NodeRun, Stand, Starts, ends_by, entries_of_start, entry_by, record_left, state_after}
use Rattle.group_disk.specs.Restarts.{AreChosenRuns, AreRestarts, IsChosenLog, IsDiskLog, IsRestart, IsSameStand, found_after}
use Rattle.group_disk.specs.Headline.{AlwaysLaterOfDisks, AreMomentsOfDisks, AreSeenAlike, IsAfterDisks}
use Rattle.group_disk.proofs.DiskClaims.{state_same}
use Rattle.group_disk.proofs.KeptLogs.{all_chosen, chosen_all, chosen_append, chosen_carried, chosen_same, ends_chosen, woven}

-- ---- the starts of one node

module _ (p : Parts) (me : Me) where
  abbrev entries : List NodeStart → List Entry
  entries starts = flat_map (entries_of_start me) starts

  -- The first of the runs, which are chosen of the first of the starts, and the entries that are
  -- left of both.
  pub record CutOfBoth (cut restarts runs : List NodeStart) (kept : Record) : Type 0 where
    pub front : List NodeStart
    pub rest : List Entry
    pub left : List Entry
    pub starts : entries restarts ≡ entries cut ++ rest
    pub ran : entries runs ≡ entries front ++ left
    pub same : IsChosenLog rest left
    pub chosen : AreChosenRuns cut front
    pub are : AreStarts p me kept front
    pub first : AreFirstRuns front runs

  cut_at_first : (restarts runs : List NodeStart) (kept : Record) → AreChosenRuns restarts runs → CutOfBoth [] restarts runs kept
  cut_at_first restarts runs kept chosen = record {
    front = [];
    rest = entries restarts;
    left = entries runs;
    starts = refl;
    ran = refl;
    same = all_chosen me restarts runs chosen;
    chosen = refl;
    are = tt;
    first = tt;
  }

  -- the run that is chosen of a run
  abbrev stood : NodeRun → Stand → NodeRun
  stood run stand = record run { stand = stand }

  cut_after_run : (run : NodeRun) (stand : Stand) (cut restarts others : List NodeStart) (kept : Record) → IsSameStand run.stand stand
      → IsStartFrom p me kept (Starts (stood run stand)) others → CutOfBoth cut restarts others (record_left (Starts (stood run stand)))
      → CutOfBoth (Starts run ∷ cut) (Starts run ∷ restarts) (Starts (stood run stand) ∷ others) kept
  cut_after_run run stand cut restarts others kept same over c = record {
    front = Starts (stood run stand) ∷ c.front;
    rest = c.rest;
    left = c.left;
    starts = ap (λ l. entries_of_start me (Starts run) ++ l) c.starts
        ∙ sym (append_assoc (entries_of_start me (Starts run)) (entries cut) c.rest);
    ran = ap (λ l. entries_of_start me (Starts (stood run stand)) ++ l) c.ran
        ∙ sym (append_assoc (entries_of_start me (Starts (stood run stand))) (entries c.front) c.left);
    same = c.same;
    chosen = (stand, c.front, same, refl, c.chosen);
    are = (still_start p me kept (Starts (stood run stand)) others c.front over c.first, c.are);
    first = inl (refl, c.first);
  }

  -- what a run has done after it was cut off
  abbrev after_cut : NodeRun → List Doing → Stand → List Entry → List Entry
  after_cut run rest stand more = (map (entry_by me.node Kept) rest ++ ends_by me run stand) ++ more

  in_parts : (start : Entry) (front rest ends more : List Entry)
      → (start ∷ ((front ++ rest) ++ ends)) ++ more ≡ ((start ∷ (front ++ [])) ++ []) ++ ((rest ++ ends) ++ more)
  in_parts start front rest ends more = grind (arith, append-nil, append_assoc)

  parts_of_run : (cut run : NodeRun) (off : IsCutOff cut run) (stand : Stand) (more : List Entry)
      → entries_of_start me (Starts (stood run stand)) ++ more ≡ entries (Starts cut ∷ []) ++ after_cut run off.rest stand more
  parts_of_run cut run off stand more =
      let deeds : List Doing → List Entry = λ ds. map (entry_by me.node Kept) ds in
      let start : Record → Entry = λ r. quiet_entry me.node (Start r) in
      let later : List Entry = after_cut run off.rest stand more in
      ap (λ (l : List Entry). (start run.process.loaded ∷ (l ++ ends_by me run stand)) ++ more)
      (ap deeds off.doings ∙ map-append (entry_by me.node Kept) cut.process.doings off.rest)
      ∙ in_parts (start run.process.loaded) (deeds cut.process.doings) (deeds off.rest) (ends_by me run stand) more
      ∙ ap (λ (r : Record). ((start r ∷ (deeds cut.process.doings ++ [])) ++ []) ++ later) (sym off.loaded)
      ∙ ap (λ (s : Stand). ((start cut.process.loaded ∷ (deeds cut.process.doings ++ ends_by me cut s)) ++ []) ++ later) (sym off.goes_on)

  cut_in_run : (cut run : NodeRun) (stand : Stand) (restarts others : List NodeStart) (kept : Record) → IsCutOff cut run
      → IsSameStand run.stand stand → IsProcess p me cut.process cut.last → IsStartFrom p me kept (Starts (stood run stand)) others
      → AreChosenRuns restarts others
      → CutOfBoth (Starts cut ∷ []) (Starts run ∷ restarts) (Starts (stood run stand) ∷ others) kept
  cut_in_run cut run stand restarts others kept off same process over chosen = record {
    front = Starts cut ∷ [];
    rest = after_cut run off.rest run.stand (entries restarts);
    left = after_cut run off.rest stand (entries others);
    starts = parts_of_run cut run off run.stand (entries restarts);
    ran = parts_of_run cut run off stand (entries others);
    same =
        let deeds = map (entry_by me.node Kept) off.rest in
        chosen_append (deeds ++ ends_by me run run.stand) (deeds ++ ends_by me run stand) (entries restarts) (entries others)
        (chosen_append deeds deeds (ends_by me run run.stand) (ends_by me run stand) (chosen_same deeds)
        (ends_chosen me run run.stand stand same)) (all_chosen me restarts others chosen);
    chosen = (cut.stand, [], subst (λ (s : Stand). IsSameStand s s) (sym off.goes_on) refl, refl, refl);
    are = ((off.loaded ∙ over.0, process, subst (λ (s : Stand). IsLastIfOn s []) (sym off.goes_on) refl), tt);
    first = inr (
      refl,
      record { loaded = off.loaded; rest = off.rest; doings = off.doings; failed = off.failed; goes_on = off.goes_on },
    );
  }

  cut_in_start : (a : NodeStart) (run : NodeRun) (stand : Stand) (found : List Record) (rest restarts others : List NodeStart)
      (kept : Record) → IsCutStart a (Starts run) → IsRestart p me found a rest → IsSameStand run.stand stand
      → IsStartFrom p me kept (Starts (stood run stand)) others → AreChosenRuns restarts others
      → CutOfBoth (a ∷ []) (Starts run ∷ restarts) (Starts (stood run stand) ∷ others) kept
  cut_in_start (Starts cut) run stand found rest restarts others kept off start same over chosen =
      cut_in_run cut run stand restarts others kept off same start.1 over chosen
  cut_in_start (FailsToStart loaded b) run stand found rest restarts others kept off start same over chosen = absurd off

  uncut : (a : NodeStart) (loaded : Record) (b : _) → ¬ IsCutStart a (FailsToStart loaded b)
  uncut (Starts cut) loaded b off = off
  uncut (FailsToStart other c) loaded b off = off

  cut_after_dropped : (loaded : Record) (b : _) (cut restarts runs : List NodeStart) (kept : Record) → CutOfBoth cut restarts runs kept
      → CutOfBoth (FailsToStart loaded b ∷ cut) (FailsToStart loaded b ∷ restarts) runs kept
  cut_after_dropped loaded b cut restarts runs kept c = record {
    front = c.front;
    rest = c.rest;
    left = c.left;
    starts = ap (λ l. entries_of_start me (FailsToStart loaded b) ++ l) c.starts;
    ran = c.ran;
    same = c.same;
    chosen = inl c.chosen;
    are = c.are;
    first = c.first;
  }

  cut_after_made : (loaded : Record) (b : _) (cut restarts others : List NodeStart) (kept : Record)
      → IsStartFrom p me kept (FailsToStart loaded true) others
      → CutOfBoth cut restarts others (record_left (FailsToStart loaded true))
      → CutOfBoth (FailsToStart loaded b ∷ cut) (FailsToStart loaded b ∷ restarts) (FailsToStart loaded true ∷ others) kept
  cut_after_made loaded b cut restarts others kept over c = record {
    front = FailsToStart loaded true ∷ c.front;
    rest = c.rest;
    left = c.left;
    starts = ap (λ l. entries_of_start me (FailsToStart loaded b) ++ l) c.starts;
    ran = ap (λ l. entries_of_start me (FailsToStart loaded true) ++ l) c.ran;
    same = c.same;
    chosen = inr (c.front, refl, c.chosen);
    are = (over, c.are);
    first = inl (refl, c.first);
  }

  pub cut_of_both : (cut restarts runs : List NodeStart) (found : List Record) (kept : Record) → AreFirstRuns cut restarts
      → AreChosenRuns restarts runs → AreRestarts p me found cut → AreStarts p me kept runs → CutOfBoth cut restarts runs kept
  cut_of_both [] restarts runs found kept first chosen starts are = cut_at_first restarts runs kept chosen
  cut_of_both (a ∷ cut) [] runs found kept first chosen starts are = absurd first
  cut_of_both (a ∷ cut) (Starts run ∷ restarts) runs found kept first (stand, others, same, is, chosen) (start, later) are =
      let both : AreStarts p me kept (Starts (stood run stand) ∷ others) = subst (AreStarts p me kept) is are in
      subst (λ (l : List NodeStart). CutOfBoth (a ∷ cut) (Starts run ∷ restarts) l kept) (sym is) (elim first [
        | inl (e, some) ↦
            subst (λ (x : NodeStart). CutOfBoth (x ∷ cut) (Starts run ∷ restarts) (Starts (stood run stand) ∷ others) kept) (sym e)
            (cut_after_run run stand cut restarts others kept same both.0
            (cut_of_both cut restarts others (found_after found a) (record_left (Starts (stood run stand))) some chosen later both.1))
        | inr (none, off) ↦
            subst (λ (l : List NodeStart). CutOfBoth (a ∷ l) (Starts run ∷ restarts) (Starts (stood run stand) ∷ others) kept) (sym none)
            (cut_in_start a run stand found cut restarts others kept off start same both.0 chosen)
      ])
  cut_of_both (a ∷ cut) (FailsToStart loaded b ∷ restarts) runs found kept first chosen (start, later) are = elim first [
    | inl (e, some) ↦
        subst (λ (x : NodeStart). CutOfBoth (x ∷ cut) (FailsToStart loaded b ∷ restarts) runs kept) (sym e) (elim chosen [
          | inl dropped ↦
              cut_after_dropped loaded b cut restarts runs kept
              (cut_of_both cut restarts runs (found_after found a) kept some dropped later are)
          | inr (others, is, made) ↦
              let both : AreStarts p me kept (FailsToStart loaded true ∷ others) = subst (AreStarts p me kept) is are in
              subst (λ (l : List NodeStart). CutOfBoth (FailsToStart loaded b ∷ cut) (FailsToStart loaded b ∷ restarts) l kept) (sym is)
              (cut_after_made loaded b cut restarts others kept both.0
              (cut_of_both cut restarts others (found_after found a) (record_left (FailsToStart loaded true)) some made later both.1))
        ])
    | inr (none, off) ↦ absurd (uncut a loaded b off)
  ]

-- ---- a group

-- a node that is there is one of the group
node_there : (now : List Member) (size i : ℕ) (m : Member) → length now ≡ size → member_at now i ≡ Some m → IsNode size i
node_there now size zero m long at = absurd cc
node_there now size (suc k) m long at =
    let within : k < length now = slice_get_within now k m at in
    grind (arith, within, long)

module _ (p : Parts) (group : Group) where
  -- the same runs, with the entries of different nodes in another order
  reordered : (runs : ℕ → List NodeStart) (kept other : List Entry) (now : List Member) → IsAfterRuns p group runs kept now
      → IsGroupLog p group runs other → IsAfterRuns p group runs other now
  reordered runs kept other now h g = record {
    ran = g;
    nodes = record {
      places = h.nodes.places;
      among = there other g.among;
      nodes = λ i m last at then. rw (g.entries i, ← h.ran.entries i) (h.nodes.nodes i m last at then);
      carried = g.carried;
    };
    as_run = h.as_run;
  }
    where
      there : (log : List Entry) → AllByRecursion (λ (e : Entry). IsNode group.size e.node) log
          → AllByRecursion (λ (e : Entry). (m : Member) × (member_at now e.node ≡ Some m)) log
      there [] none = tt
      there (e ∷ log) (node, others) = (((h.as_run e.node node).0, (h.as_run e.node node).1), there log others)

  places : (runs : ℕ → List NodeStart) (log : List Entry) (now : List Member) → IsAfterRuns p group runs log now
      → length now ≡ group.size
  places runs log now h = h.nodes.places ∙ length-replicate group.size (record { kept = empty_record; console = []; node = None })

module _ (p : Parts) (group : Group) (cut restarts : ℕ → List NodeStart) (log more : List Entry)
    (moments : AreMomentsOfDisks p group cut restarts log more) (runs : ℕ → List NodeStart)
    (chosen : (i : ℕ) → AreChosenRuns (restarts i) (runs i))
    (are : (i : ℕ) → AreStarts p (record { node = i; group = group }) empty_record (runs i)) where
  abbrev pub me : ℕ → Me
  me i = record { node = i; group = group }

  pub both : (i : ℕ) → CutOfBoth p (me i) (cut i) (restarts i) (runs i) empty_record
  both i = cut_of_both p (me i) (cut i) (restarts i) (runs i) (empty_record ∷ []) empty_record (moments.first i) (chosen i)
      (moments.before.started i) (are i)

  later : (i : ℕ) → entries_of i more ≡ (both i).rest
  later i = append_cancel_left (entries_of i log) (entries_of i more) (both i).rest
      (sym (filter-append (λ (e : Entry). e.node == i) log more)
      ∙ (moments.all.entries i ∙ ((both i).starts ∙ ap (λ l. l ++ (both i).rest) (sym (moments.before.entries i)))))

  -- a log of all runs, of which a front is one of the first runs
  pub record IsWoven (front back : List Entry) : Type 0 where
    pub first : IsGroupLog p group (λ i. (both i).front) front
    pub all : IsGroupLog p group runs (front ++ back)
    pub same : IsChosenLog log front
    pub whole : IsChosenLog (log ++ more) (front ++ back)

  pub are_woven : (front : List Entry) × (back : List Entry) × IsWoven front back
  are_woven =
      let (front, same, ones) = woven log (λ i. flat_map (entries_of_start (me i)) (both i).front)
      (λ i. subst (λ (l : List Entry). IsChosenLog l (flat_map (entries_of_start (me i)) (both i).front)) (sym (moments.before.entries i))
      (all_chosen (me i) (cut i) (both i).front (both i).chosen)) in
      let (back, rest, others) = woven more (λ i. (both i).left)
      (λ i. subst (λ (l : List Entry). IsChosenLog l (both i).left) (sym (later i)) (both i).same) in
      let whole = chosen_append log front more back same rest in (
        front,
        back,
        record {
          first = record {
            among = chosen_all _ log front same moments.before.among;
            entries = ones;
            started = λ i. (both i).are;
            carried = chosen_carried group [] log front same moments.before.carried;
          };
          all = record {
            among = chosen_all _ (log ++ more) (front ++ back) whole moments.all.among;
            entries = λ i. filter-append (λ (e : Entry). e.node == i) front back
                ∙ (ap (λ l. l ++ entries_of i back) (ones i)
                ∙ (ap (λ l. flat_map (entries_of_start (me i)) (both i).front ++ l) (others i) ∙ sym (both i).ran));
            started = are;
            carried = chosen_carried group [] (log ++ more) (front ++ back) whole moments.all.carried;
          };
          same = same;
          whole = whole;
        },
      )

-- ---- what is seen

-- the consoles, and the nodes that are up, are the same
pub record AreSeatsAlike (w u : WorldState) : Type 0 where
  pub console : (i : ℕ) → (w.seats i).console ≡ (u.seats i).console
  pub up : (i : ℕ) → (w.seats i).up ≡ (u.seats i).up

seat_alike : (m n : Option Member) → ((x : Member) → m ≡ Some x → (y : Member) × (n ≡ Some y))
    → ((y : Member) → n ≡ Some y → (x : Member) × (m ≡ Some x))
    → ((x y : Member) → m ≡ Some x → n ≡ Some y → (x.console ≡ y.console) × (x.node ≡ y.node))
    → ((seat_of_member m).console ≡ (seat_of_member n).console) × ((seat_of_member m).up ≡ (seat_of_member n).up)
seat_alike None None one other same = (refl, refl)
seat_alike None (Some y) one other same = let (x, none) = other y refl in absurd cc
seat_alike (Some x) None one other same = let (y, none) = one x refl in absurd cc
seat_alike (Some x) (Some y) one other same =
    let (console, node) = same x y refl refl in
    (console, ap (option_map up_of) node)

module _ (p : Parts) (group : Group) (runs others : ℕ → List NodeStart) (log front : List Entry) (mid other : List Member)
    (h : IsAfterRuns p group runs log mid) (g : IsAfterRuns p group others front other) (same : AreSeenAlike group mid other) where
  seats_at : (i : ℕ)
      → ((seat_of_member (member_at mid i)).console ≡ (seat_of_member (member_at other i)).console)
      × ((seat_of_member (member_at mid i)).up ≡ (seat_of_member (member_at other i)).up)
  seats_at i = seat_alike (member_at mid i) (member_at other i)
      (λ x at. let is = g.as_run i (node_there mid group.size i x (places p group runs log mid h) at) in (is.0, is.1))
      (λ y at. let is = h.as_run i (node_there other group.size i y (places p group others front other g) at) in (is.0, is.1))
      (λ x y at too. same i x y (node_there mid group.size i x (places p group runs log mid h) at) at too)

  pub seats_alike : (whole : List Entry) → AreSeatsAlike (state_after p group whole mid) (state_after p group whole other)
  seats_alike whole = record { console = λ i. (seats_at i).0; up = λ i. (seats_at i).1 }

-- what sees no more than consoles and nodes that are up
abbrev pub SeesSeats : (WorldState → WorldState → Type 0) → Type 0
SeesSeats P = (w u v : WorldState) → AreSeatsAlike w u → P u v → P w v

pub grow_by_seats : SeesSeats ConsolesGrow
grow_by_seats w u v same grow i = subst (λ (c : List ℕ). IsPrefix c (v.seats i).console) (sym (same.console i)) (grow i)

pub stays_by_seats : SeesSeats LearnedStays
stays_by_seats w u v same stays i j s a b one other =
    stays i j s a b (record { node = one.node; up = sym (same.up i) ∙ one.up; learned = one.learned }) other

-- ---- two moments

-- all choices of what a log leaves are seen alike
abbrev pub AlikeLaw : Type 0
AlikeLaw = (p : Parts) (group : Group) (restarts : ℕ → List NodeStart) (log : List Entry) (now other : List Member) → IsSize group.size
    → IsGroup group → IsDiskLog p group restarts log → IsAfterDisks p group restarts log now
    → IsAfterDisks p group restarts log other → AreSeenAlike group now other

-- a log of runs leaves nodes
abbrev pub NodesLaw : Type 0
NodesLaw = (p : Parts) (group : Group) (runs : ℕ → List NodeStart) (log : List Entry) → IsGroupLog p group runs log
    → LeaveNodes p group runs log

pub later_of_disks : NodesLaw → AlikeLaw → (P : WorldState → WorldState → Type 0) → SeesSeats P → AlwaysLaterOfRuns P
    → AlwaysLaterOfDisks P
later_of_disks nodes alike P sees always p group cut restarts log more mid now size session moments first last =
    let ran : IsGroupLog p group last.runs last.kept = last.chosen.ran in
    let (front, back, is) = are_woven p group cut restarts log more moments last.runs last.chosen.chosen ran.started in
    let runs : ℕ → List NodeStart = λ i. (both p group cut restarts log more moments last.runs last.chosen.chosen ran.started i).front in
    let (other, then) = nodes p group runs front is.first in
    let after : IsAfterRuns p group last.runs (front ++ back) now = reordered p group last.runs last.kept (front ++ back) now
    last.after is.all in
    let too : IsAfterDisks p group cut log other = record {
      runs = runs;
      kept = front;
      chosen = record {
        ran = is.first;
        chosen = λ i. (both p group cut restarts log more moments last.runs last.chosen.chosen ran.started i).chosen;
        same = is.same;
      };
      after = then;
    } in
    let same = seats_alike p group first.runs runs first.kept front mid other first.after then
    (alike p group cut log mid other size session moments.before first too) log in
    let claim = always p group runs last.runs front back other now size session then after in
    sees (state_after p group log mid) (state_after p group log other) (state_after p group (log ++ more) now) same
    (subst (λ (w : WorldState). P w (state_after p group (log ++ more) now)) (state_same p group log front other is.same)
    (subst (P (state_after p group front other)) (state_same p group (log ++ more) (front ++ back) now is.whole) claim))
