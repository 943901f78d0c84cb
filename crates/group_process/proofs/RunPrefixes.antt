-- A prefix of a log of runs is a log of runs: of the same ones, of which the last one of each node is
-- cut off at a deed.
use Rattle.std.proofs.lemmas.List.{append-nil, length-append, nil_from_length}
use Rattle.std.proofs.lemmas.List.Elements.{filter-append}
use Rattle.std.proofs.Common.{◌≡◌, ◌∙◌, ◌≤◌, ◌⊎◌, ℕ, ◌==◌, List, [], ◌∷◌, ◌++◌, flat_map, length, map, None, inl, inr, refl, sym, ap, arith}
use Rattle.std.specs.List.{AllByRecursion}
use Rattle.pcode_file.specs.Parts.{Parts}
use Rattle.paxos_msg.specs.declared.message.Group.{Group}
use Rattle.paxos_msg.specs.Batches.{Record}
use Rattle.paxos_msg.specs.Records.{empty_record}
use Rattle.paxos_acceptor.specs.declared.me.Me.{Me}
use Rattle.group_node.specs.Deeds.{Start}
use Rattle.group_protocol.specs.Packets.{Datagram}
use Rattle.group_node.specs.NodeCalls.{Running}
use Rattle.group_wire.specs.Doings.{DoesAll, Doing}
use Rattle.group_wire.specs.Process.{IsProcess, Process, started}
use Rattle.group_world.specs.declared.event.Outcome.TheVariants.{Kept}
use Rattle.group_world.specs.Processes.{Entry, IsCarried, entries_of, quiet_entry}
use Rattle.group_process.specs.Runs.{AreFirstRuns, AreInTurn, NodeStart, FailsToStart, GoesOn, HasRuns, IsStartFrom, IsGroupLog, NodeRun, Starts, ends_by, entries_of_start, entry_by, record_left}

-- ---- lists

-- a prefix of two lists ends after the first of them, or in it
prefix_of_two : {X : Type 0} (xs ys es fs : List X) → es ++ fs ≡ xs ++ ys
    → ((rest : List X) × (es ≡ xs ++ rest) × (rest ++ fs ≡ ys)) ⊎ ((y : X) × (rest : List X) × (xs ≡ es ++ y ∷ rest))
prefix_of_two [] ys es fs e = inl (es, refl, e)
prefix_of_two (x ∷ xs) ys [] fs e = inr (x, xs, refl)
prefix_of_two (x ∷ xs) ys (z ∷ es) fs e = elim (prefix_of_two xs ys es fs cc) [
  | inl (rest, whole, others) ↦ inl (rest, cc, others)
  | inr (y, rest, whole) ↦ inr (y, rest, cc)
]

-- a prefix of a list of images is one of a prefix
prefix_of_images : {X Y : Type 0} (f : X → Y) (xs : List X) (es fs : List Y) → map f xs ≡ es ++ fs
    → (prefix : List X) × (rest : List X) × (xs ≡ prefix ++ rest) × (map f prefix ≡ es)
prefix_of_images f xs [] fs e = ([], xs, refl, refl)
prefix_of_images f [] (y ∷ es) fs e = absurd cc
prefix_of_images f (x ∷ xs) (y ∷ es) fs e =
    let (prefix, rest, whole, images) = prefix_of_images f xs es fs cc in (x ∷ prefix, rest, cc, cc)

-- what holds of each holds of each of a prefix
pub all_of_prefix : {X : Type 0} (P : X → Type 0) (xs ys : List X) → AllByRecursion P (xs ++ ys) → AllByRecursion P xs
all_of_prefix P [] ys h = tt
all_of_prefix P (x ∷ xs) ys h = (h.0, all_of_prefix P xs ys h.1)

pub carried_prefix : (group : Group) (sent : List Datagram) (log more : List Entry) → IsCarried group sent (log ++ more)
    → IsCarried group sent log
carried_prefix group sent [] more h = tt
carried_prefix group sent (e ∷ log) more h = (h.0, carried_prefix group (sent ++ e.sent) log more h.1)

-- ---- runs

-- Starts over what is known of a store: they are runs, which may be cut off at a deed, and a run that goes on
-- stays the last one.
pub record MayBeCut (p : Parts) (me : Me) {K : Type 0} (so : K → NodeStart → List NodeStart → Type 0) : Type 0 where
  pub runs : (known : K) (run : NodeRun) (rest : List NodeStart) → so known (Starts run) rest → IsProcess p me run.process run.last
  pub cut : (known : K) (run : NodeRun) (rest : List NodeStart) (process : Process) (mid : Running) → so known (Starts run) rest
      → process.loaded ≡ run.process.loaded → IsProcess p me process mid
      → so known (Starts (record { process = process; last = mid; stand = GoesOn })) []
  pub still : (known : K) (a : NodeStart) (rest cut : List NodeStart) → so known a rest → AreFirstRuns cut rest → so known a cut

module _ (p : Parts) (me : Me) where
  -- the deeds of a prefix
  does_prefix : (w v : Running) (prefix rest : List Doing) → DoesAll me w (prefix ++ rest) v → (mid : Running) × DoesAll me w prefix mid
  does_prefix w v [] rest h = (w, refl)
  does_prefix w v (d ∷ prefix) rest (next, does, more) =
      let (mid, others) = does_prefix next v prefix rest more in
      (mid, (next, does, others))

  -- a run ends by one entry at most
  ends_few : (run : NodeRun) → length (ends_by me run run.stand) ≤ 1
  ends_few run = grind arith

  -- the deeds of a run in a prefix of its entries that ends in it
  deeds_in_prefix : (run : NodeRun) (es : List Entry) (y : Entry) (fs : List Entry)
      → es ++ y ∷ fs ≡ map (entry_by me.node Kept) run.process.doings ++ ends_by me run run.stand
      → (prefix : List Doing) × (rest : List Doing) × (run.process.doings ≡ prefix ++ rest) × (map (entry_by me.node Kept) prefix ≡ es)
  deeds_in_prefix run es y fs e =
      let all = map (entry_by me.node Kept) run.process.doings in
      elim (prefix_of_two all (ends_by me run run.stand) es (y ∷ fs) e) [
        | inl (rest, whole, others) ↦
            let none = nil_from_length rest (omega (arith, ends_few run, ap length others, length-append rest (y ∷ fs))) in
            (run.process.doings, [], sym (append-nil run.process.doings), sym (whole ∙ rw none (append-nil all)))
        | inr (z, rest, whole) ↦ prefix_of_images (entry_by me.node Kept) run.process.doings es (z ∷ rest) whole
      ]

  module _ {K : Type 0} (so : K → NodeStart → List NodeStart → Type 0) (next : K → NodeStart → K) (may : MayBeCut p me so) where
    -- starts with these entries, which are the first of others
    abbrev pub PrefixOf : List NodeStart → K → List Entry → Type 0
    PrefixOf runs known es =
        (cut : List NodeStart) × AreInTurn so next known cut × (es ≡ flat_map (entries_of_start me) cut) × AreFirstRuns cut runs

    -- a prefix of the entries of a start that ends in it
    cut_start_from : (known : K) (a : NodeStart) (rest : List NodeStart) (es : List Entry) (y : Entry) (fs : List Entry)
        → so known a rest → entries_of_start me a ≡ es ++ y ∷ fs → PrefixOf (a ∷ rest) known es
    cut_start_from known (Starts run) others [] y fs any e = ([], tt, refl, tt)
    cut_start_from known (Starts run) others (x ∷ es) y fs any e =
        let h = may.runs known run others any in
        let start = quiet_entry me.node (Start run.process.loaded) in
        let head : x ≡ start = cc in
        let tail : es ++ y ∷ fs ≡ map (entry_by me.node Kept) run.process.doings ++ ends_by me run run.stand = cc in
        let (prefix, rest, whole, entries) = deeds_in_prefix run es y fs tail in
        let (mid, does) = does_prefix (started p me run.process.loaded) run.last prefix rest (rw whole at h.does) in
        let process : Process = record { loaded = run.process.loaded; doings = prefix; failed = None } in (
          Starts (record { process = process; last = mid; stand = GoesOn }) ∷ [],
          (may.cut known run others process mid any refl (record { spare = h.spare; does = does; fails = tt }), tt),
          rw (append-nil, append-nil) (ap (λ z. z ∷ es) head ∙ ap (λ l. start ∷ l) (sym entries)),
          inr (refl, record { loaded = refl; rest = rest; doings = whole; failed = refl; goes_on = refl }),
        )
    cut_start_from known (FailsToStart loaded is_changed) rest es y fs any e =
        ([], tt, nil_from_length es (omega (arith, ap length e, length-append es (y ∷ fs))), tt)

    -- a prefix of the entries of starts
    pub cut_starts : (runs : List NodeStart) (known : K) (es fs : List Entry) → AreInTurn so next known runs
        → es ++ fs ≡ flat_map (entries_of_start me) runs → PrefixOf runs known es
    cut_starts [] known [] fs h e = ([], tt, refl, tt)
    cut_starts [] known (x ∷ es) fs h e = absurd cc
    cut_starts (a ∷ runs) known es fs (first, others) e =
        elim (prefix_of_two (entries_of_start me a) (flat_map (entries_of_start me) runs) es fs e) [
          | inl (rest, whole, more) ↦
              let (cut, are, entries, some) = cut_starts runs (next known a) rest fs others more in (
                a ∷ cut,
                (may.still known a runs cut first some, are),
                whole ∙ ap (λ l. entries_of_start me a ++ l) entries,
                inl (refl, some),
              )
          | inr (y, rest, whole) ↦ cut_start_from known a runs es y rest first whole
        ]

  -- a run that goes on stays the last one
  pub still_start : (kept : Record) (a : NodeStart) (rest cut : List NodeStart) → IsStartFrom p me kept a rest → AreFirstRuns cut rest
      → IsStartFrom p me kept a cut
  still_start kept a rest [] start some = grind arith
  still_start kept a rest (b ∷ cut) start some = grind arith

  -- so it is of runs over a store that keeps its record
  runs_may_be_cut : MayBeCut p me (IsStartFrom p me)
  runs_may_be_cut = record {
    runs = λ kept run rest h. h.1;
    cut = λ kept run rest process mid h loaded runs. (loaded ∙ h.0, runs, refl);
    still = still_start;
  }

-- ---- a log

pub log_prefix : (p : Parts) (group : Group) (runs : ℕ → List NodeStart) (log more : List Entry) → IsGroupLog p group runs (log ++ more)
    → HasRuns p group runs log
log_prefix p group runs log more h =
    let me : ℕ → Me = λ i. record { node = i; group = group } in
    let one : (i : ℕ) → PrefixOf p (me i) (IsStartFrom p (me i)) (λ _ a. record_left a) (runs_may_be_cut p (me i)) (runs i) empty_record
    (entries_of i log) = λ i. cut_starts p (me i) (IsStartFrom p (me i)) (λ _ a. record_left a) (runs_may_be_cut p (me i))
    (runs i) empty_record
    _ (entries_of i more) (h.started i) (sym (filter-append (λ (e : Entry). e.node == i) log more) ∙ h.entries i) in (
      λ i. (one i).0,
      grind (arith, all_of_prefix, carried_prefix),
      λ i. (one i).3,
    )
