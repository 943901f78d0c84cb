-- Two nodes over their disks, of which the second hears the first, as a log of their group.
use Rattle.std.proofs.lemmas.Bool.{cases_eq, ne_eqb}
use Rattle.std.proofs.lemmas.Bool.Decides.{nat_tests}
use Rattle.std.proofs.Common.{◌≡◌, ◌≤◌, ◌++◌, ℕ, Bool, false, true, List, [], ◌∷◌, drop, flat_map, length, map, Option, Some, inl, inr, refl, sym, subst, arith}
use Rattle.std.specs.List.{AllByRecursion, Contains}
use Rattle.pcode_file.specs.Parts.{Parts}
use Rattle.paxos_msg.specs.declared.ballot.Ballot.{Ballot}
use Rattle.paxos_msg.specs.declared.message.Group.{Group}
use Rattle.paxos_msg.specs.declared.record.Change.TheVariants.{Promise, Start}
use Rattle.paxos_msg.specs.Batches.{Msg, Record}
use Rattle.paxos_msg.specs.Datagrams.{Fits, Msgs, spelling}
use Rattle.paxos_msg.specs.Fits.{IsGroup, IsNode}
use Rattle.paxos_msg.specs.Records.{changed, empty_record}
use Rattle.paxos_msg.specs.Spelling.{ballot_bytes}
use Rattle.paxos_acceptor.specs.declared.me.Me.{Me}
use Rattle.paxos_disk.specs.Entries.{IsEntry}
use Rattle.paxos_disk.specs.Found.{LoadsOnly}
use Rattle.paxos_disk.specs.Log.{IsUncut}
use Rattle.paxos_disk.specs.Reads.{Reads}
use Rattle.group_protocol.proofs.Elements.{entries_none, first_in}
use Rattle.group_protocol.specs.Known.{front}
use Rattle.group_protocol.specs.Packets.{Datagram}
use Rattle.group_wire.specs.Arrivals.{Spells}
use Rattle.group_wire.specs.Process.{IsProcess, started}
use Rattle.group_world.specs.Group.{messages_in}
use Rattle.group_world.specs.Processes.{IsCarried, entries_of}
use Rattle.group_process.specs.Runs.{entries_of_start}
use Rattle.group_disk.specs.Folders.{AreOverDisk, IsFolderLog, starts_of}
use Rattle.group_disk.specs.TornStarts.{changes_of_one, first_campaign, first_heard, first_of_three, first_prepare, log_of_second, no_files, opening, record_by_changes, second_of_three, second_starts, synced_folder, torn_entries, torn_group, torn_log, torn_starts}
use Rattle.group_disk.proofs.TornFiles.{start_next, synced_left, uncut_found}

abbrev group : Group
group = first_of_three.group

abbrev me : Me
me = second_of_three

-- the header of the second node's log
abbrev header : List ℕ
header = 80 ∷ 76 ∷ 2 ∷ 2 ∷ 3 ∷ 0 ∷ 0 ∷ 0 ∷ 7 ∷ []

-- the laws of logs, of disks and of messages
module _ (new : IsUncut me header empty_record)
    (starts : (bytes : List ℕ) (r : Record) → IsUncut me bytes r → IsEntry 3 r Start → IsUncut me (bytes ++ 1 ∷ []) (changed r Start))
    (promises : (bytes : List ℕ) (r : Record) (b : Ballot) → IsUncut me bytes r → IsEntry 3 r (Promise b)
    → IsUncut me (bytes ++ 2 ∷ ballot_bytes b) (changed r (Promise b)))
    (one : (left : Option (List ℕ)) (r s : Record) (other : Me) → IsGroup other.group → Reads me left r → Reads other left s → s ≡ r)
    (short : (g : Group) (m : Msg) → Fits g m → length (spelling g m) ≤ 440)
    (was_sent : (g : Group) (sent : List Datagram) (bytes : List ℕ) (m : Msg) → IsGroup g → Msgs g bytes m
    → Contains (map (λ x. x.bytes) sent) bytes → Contains (messages_in g sent) m)
    (p : Parts) (is_shown : Bool) where
  abbrev r1 : Record
  r1 = record_by_changes changes_of_one

  uncut : IsUncut me log_of_second r1
  uncut =
      promises (header ++ 1 ∷ []) (changed empty_record Start) opening
      (starts header empty_record new (start_next empty_record (omega arith)))
      (record { in_ranges = ((omega arith, omega arith), (omega arith, omega arith)); next = tt })

  loads : LoadsOnly (synced_folder log_of_second) (r1 ∷ r1 ∷ [])
  loads s may =
      let reads : Reads may.me (Some log_of_second) s = subst (λ (o : Option (List ℕ)). Reads may.me o s)
      (synced_left log_of_second may.left may.found) may.reads in
      let mine : Reads me (Some log_of_second) r1 = (reads.0, inr (_, uncut_found me log_of_second r1 uncut)) in
      let same : s ≡ r1 = one (Some log_of_second) r1 s may.me may.in_range mine reads in
      subst (Contains (r1 ∷ r1 ∷ [])) (sym same) (first_in r1 (r1 ∷ []))

  front_is : front (started p first_of_three empty_record).known ≡ 0
  front_is = rw entries_none refl

  fits : Fits group (first_prepare p)
  fits = grind (arith, nat_tests, front_is)

  spells : Spells group (spelling group (first_prepare p)) (first_prepare p)
  spells = record {
    short = omega (arith, short group (first_prepare p) fits);
    spelled = record { fits = fits; spelled = refl };
  }

  process_is : IsProcess p me (first_heard p).process (first_heard p).last
  process_is = record {
    spare = λ e. absurd (omega (arith, e));
    does = ((first_heard p).last, (spelling group (first_prepare p), spells, refl, (refl, refl, refl)), refl);
    fails = tt;
  }

  over : AreOverDisk p me no_files (second_starts p)
  over = (
    λ s may. may,
    (
      record { me = me; left = _; in_range = omega arith; found = inl refl; reads = refl },
      process_is,
      tt,
      loads,
    ),
    tt,
  )

  -- ---- the group

  heard : Contains (messages_in group (first_campaign p first_of_three).sent) (first_prepare p)
  heard = was_sent group (first_campaign p first_of_three).sent (spelling group (first_prepare p)) (first_prepare p) (omega arith)
      (record { fits = fits; spelled = refl }) (first_in _ [])

  entries_are : (i : ℕ) → entries_of i (torn_log p is_shown)
      ≡ flat_map (entries_of_start (record { node = i; group = group })) (starts_of (torn_group p is_shown i))
  entries_are i = by is_shown
    where
      by : (b : Bool) → entries_of i (torn_log p b)
          ≡ flat_map (entries_of_start (record { node = i; group = group })) (starts_of (torn_group p b i))
      by false = grind (arith, nat_tests)
      by true = grind (arith, nat_tests)

  started_are : AreOverDisk p first_of_three no_files (torn_starts p is_shown) → (i : ℕ)
      → AreOverDisk p (record { node = i; group = group }) no_files (torn_group p is_shown i)
  started_are first i = elim (cases_eq 1 i) [
    | inl same ↦ rw (sym same) first
    | inr ne ↦ rw (ne_eqb 1 i ne) (elim (cases_eq 2 i) [
      | inl same ↦ rw (sym same) over
      | inr other ↦ rw (ne_eqb 2 i other) tt
    ])
  ]

  node_1 : IsNode 3 1
  node_1 = (omega arith, omega arith)

  node_2 : IsNode 3 2
  node_2 = (omega arith, omega arith)

  -- the entries of the first node after its campaign
  last_of_first : (b : Bool) → AllByRecursion (λ e. IsNode 3 e.node) (drop 2 (torn_entries p b))
  last_of_first false = (node_1, (node_1, (node_1, (node_1, (node_1, (node_1, tt))))))
  last_of_first true =
      (node_1, (node_1, (node_1, (node_1, (node_1, (node_1, (node_1, (node_1, (node_1, (node_1, tt))))))))))

  last_carried : (sent : List Datagram) (b : Bool) → IsCarried group sent (drop 2 (torn_entries p b))
  last_carried sent false = (tt, (tt, (tt, (tt, (tt, (tt, tt))))))
  last_carried sent true = (tt, (tt, (tt, (tt, (tt, (tt, (tt, (tt, (tt, (tt, tt))))))))))

  pub is_logged : AreOverDisk p first_of_three no_files (torn_starts p is_shown)
      → IsFolderLog p group (λ i. no_files) (torn_group p is_shown) (torn_log p is_shown)
  is_logged first = record {
    among = (node_1, (node_1, (node_2, (node_2, (node_2, last_of_first is_shown)))));
    entries = entries_are;
    begun = λ i. record { file = refl; others = refl };
    started = started_are first;
    carried = (tt, (tt, (tt, (heard, (tt, last_carried _ is_shown)))));
  }
