-- Where a network gives only what was handed to it, all that is heard was sent before.
use Rattle.std.proofs.lemmas.Bool.{cases_eq}
use Rattle.std.proofs.lemmas.List.{map-append, map-id}
use Rattle.std.proofs.lemmas.Simd.{map-map}
use Rattle.std.proofs.lemmas.Bool.Decides.{nat_tests}
use Rattle.std.proofs.Common.{◌≡◌, ◌∙◌, ℕ, List, [], ◌∷◌, ◌++◌, flat_map, map, Option, Some, IfSome, refl, ap, subst, arith}
use Rattle.std.specs.List.{AllByRecursion, Contains}
use Rattle.pcode_file.specs.Parts.{Parts}
use Rattle.paxos_msg.specs.declared.message.Group.{Group}
use Rattle.paxos_msg.specs.Batches.{Record}
use Rattle.paxos_msg.specs.Fits.{IsGroup, IsNode}
use Rattle.paxos_acceptor.specs.declared.me.Me.{Me}
use Rattle.group_node.specs.Deeds.{Deed, Hear}
use Rattle.group_protocol.specs.Packets.{Datagram}
use Rattle.group_wire.specs.Arrivals.{Spells}
use Rattle.group_node.specs.NodeCalls.{Running}
use Rattle.group_wire.specs.Doings.{DoesAll, DoesOnWire, Doing, FailsDeed}
use Rattle.group_wire.specs.Traffic.{letters_of}
use Rattle.group_world.specs.Processes.{Entry, IsCarried, entries_of}
use Rattle.group_world.specs.Event.{HearsOf}
use Rattle.group_wire.specs.Process.{IsProcess}
use Rattle.group_process.specs.Network.{AreDelivered, AreEntriesOf, AreLetters, AreProcesses, IsDeliveredLog, IsNetworkLog, GivenEntry, entries_alone, given_for, received_at, received_by, received_in, with_given}
use Rattle.group_process.specs.Runs.{AreStarts, NodeStart, FailsToStart, IsGroupLog, NodeRun, Starts, ends_by, entries_of_start}
use Rattle.group_process.proofs.GivenWasSent.{ReadLaw, letter_sent, message_sent}
use Rattle.group_protocol.proofs.Elements.{first_in}

-- what holds of each of two lists holds of each of both
all_append : {X : Type 0} (P : X → Type 0) (xs ys : List X) → AllByRecursion P xs → AllByRecursion P ys → AllByRecursion P (xs ++ ys)
all_append P [] ys h g = g
all_append P (x ∷ xs) ys h g = (h.0, all_append P xs ys h.1 g)

-- ---- the entries of one node

entries_without : (i : ℕ) (log : List GivenEntry) → entries_of i (entries_alone log) ≡ map (λ (e : GivenEntry). e.entry) (received_by i log)
entries_without i [] = refl
entries_without i (x ∷ log) = grind (arith, nat_tests, entries_without i log)

-- what holds of the entries of each node holds of all
all_by_node : (P : GivenEntry → Type 0) (log : List GivenEntry) → ((i : ℕ) → AllByRecursion P (received_by i log)) → AllByRecursion P log
all_by_node P [] h = tt
all_by_node P (x ∷ log) h = (own (h x.entry.node), all_by_node P log (λ i. rest i (h i)))
  where
    own : AllByRecursion P (received_by x.entry.node (x ∷ log)) → P x
    own all = grind (arith, nat_tests)

    rest : (i : ℕ) → AllByRecursion P (received_by i (x ∷ log)) → AllByRecursion P (received_by i log)
    rest i all = grind (arith, nat_tests, cases_eq x.entry.node i)

-- ---- the entries of runs

abbrev entry_in : GivenEntry → Entry
entry_in e = e.entry

-- the entries of a start, and of several, without what was given
start_without : (me : Me) (a : NodeStart) → map entry_in (received_in me a) ≡ entries_of_start me a
start_without me (Starts run) = simp (map-append, map-map, map-id)
start_without me (FailsToStart loaded is_changed) = refl

runs_without : (me : Me) (runs : List NodeStart) → map entry_in (flat_map (received_in me) runs) ≡ flat_map (entries_of_start me) runs
runs_without me [] = refl
runs_without me (a ∷ runs) = rw (map-append, start_without me a, runs_without me runs) refl

-- a deed that hears, if it hears a message, one that a receive gave
abbrev HearsGiven : Group → List (Option (List ℕ)) → Deed → Type 0
HearsGiven group given (Hear m) = (bytes : List ℕ) × Spells group bytes m × Contains given (Some bytes)
HearsGiven group given _ = Unit {0}

abbrev IsGiven : Group → GivenEntry → Type 0
IsGiven group e = HearsGiven group e.given e.entry.deed

module _ (p : Parts) (me : Me) where
  does_given : (w v : Running) (d : Doing) (deed : Deed) → DoesOnWire me w deed d v → HearsGiven me.group d.given deed
  does_given w v d (Hear m) (bytes, spells, given, made) = (bytes, spells, rw given (first_in (Some bytes) []))
  does_given w v d _ h = tt

  fails_given : (w : Running) (d : Doing) (deed : Deed) → FailsDeed me w deed d → HearsGiven me.group d.given deed
  fails_given w d (Hear m) (bytes, spells, given, silent, saves) = (bytes, spells, rw given (first_in (Some bytes) []))
  fails_given w d _ h = tt

  all_given : (w v : Running) (doings : List Doing) → DoesAll me w doings v
      → AllByRecursion (IsGiven me.group) (map (received_at me.node) doings)
  all_given w v [] h = tt
  all_given w v (d ∷ doings) (mid, does, rest) = (does_given w mid d d.deed does, all_given mid v doings rest)

  -- the end of a run with what was given for it
  abbrev EndsGiven : List (Option (List ℕ)) → List Entry → Type 0
  EndsGiven given ends = AllByRecursion (IsGiven me.group) (map (with_given given) ends)

  ends_given : (run : NodeRun) → IfSome run.process.failed (λ d. FailsDeed me run.last d.deed d)
      → EndsGiven (given_for run.process.failed) (ends_by me run run.stand)
  ends_given run h = grind (arith, fails_given run.last)

  run_given : (run : NodeRun) → IsProcess p me run.process run.last → AllByRecursion (IsGiven me.group) (received_in me (Starts run))
  run_given run h = grind (arith, all_append, all_given, ends_given)

  starts_given : (starts : List NodeStart) → AreProcesses p me starts
      → AllByRecursion (IsGiven me.group) (flat_map (received_in me) starts)
  starts_given [] h = tt
  starts_given (Starts run ∷ starts) (first, others) =
      all_append (IsGiven me.group) (received_in me (Starts run)) (flat_map (received_in me) starts) (run_given run first)
      (starts_given starts others)
  starts_given (FailsToStart loaded is_changed ∷ starts) h = (tt, starts_given starts h)

  -- runs over a store are processes
  are_processes : (runs : List NodeStart) (kept : Record) → AreStarts p me kept runs → AreProcesses p me runs
  are_processes [] kept h = tt
  are_processes (Starts run ∷ runs) kept (first, others) = (first.1, are_processes runs _ others)
  are_processes (FailsToStart loaded is_changed ∷ runs) kept (first, others) = are_processes runs _ others

-- ---- the log

module _ (read : ReadLaw) (group : Group) (session : IsGroup group) where
  one_carried : (sent : List Datagram) (given : List (Option (List ℕ))) (deed : Deed) → AreLetters group (letters_of group.size sent) given
      → HearsGiven group given deed → HearsOf group sent deed
  one_carried sent given (Hear m) letters (bytes, spells, came) =
      let (l, handed, is) = letters bytes m came spells in
      let there = subst (Contains (map (λ (x : Datagram). x.bytes) sent)) is (letter_sent group.size sent l handed) in
      message_sent read group sent bytes m session spells.spelled there
  one_carried sent given _ letters h = tt

  all_carried : (sent : List Datagram) (log : List GivenEntry) → AreDelivered group sent log → AllByRecursion (IsGiven group) log
      → IsCarried group sent (entries_alone log)
  all_carried sent [] h given = tt
  all_carried sent (e ∷ log) h given =
      (one_carried sent e.given e.entry.deed h.0 given.0, all_carried (sent ++ e.entry.sent) log h.1 given.1)

  all_among : (log : List GivenEntry) → AllByRecursion (λ e. IsNode group.size e.entry.node) log
      → AllByRecursion (λ (e : Entry). IsNode group.size e.node) (entries_alone log)
  all_among [] h = tt
  all_among (e ∷ log) h = (h.0, all_among log h.1)

  pub delivered_log : (p : Parts) (starts : ℕ → List NodeStart) (log : List GivenEntry) → IsDeliveredLog p group starts log
      → AreEntriesOf group starts (entries_alone log)
  delivered_log p starts log h =
      let me : ℕ → Me = λ i. record { node = i; group = group } in
      let given : (i : ℕ) → AllByRecursion (IsGiven group) (received_by i log) =
      λ i. rw (h.entries i) (starts_given p (me i) (starts i) (h.processes i)) in
      record {
        among = all_among log h.among;
        entries = λ i. entries_without i log ∙ ap (map entry_in) (h.entries i) ∙ runs_without (me i) (starts i);
        carried = all_carried [] log h.delivered (all_by_node (IsGiven group) log given);
      }

  pub network_log : (p : Parts) (runs : ℕ → List NodeStart) (log : List GivenEntry) → IsNetworkLog p group runs log
      → IsGroupLog p group runs (entries_alone log)
  network_log p runs log h =
      let is = delivered_log p runs log (record {
        among = h.among;
        entries = h.entries;
        processes = λ i. are_processes p (record { node = i; group = group }) (runs i) _ (h.started i);
        delivered = h.delivered;
      }) in
      record { among = is.among; entries = is.entries; started = h.started; carried = is.carried }
