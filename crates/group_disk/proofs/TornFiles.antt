-- Starts over one disk with all bytes of its file, in which a failed save was made and one was torn.
use Rattle.std.proofs.lemmas.Bool.Decides.{nat_tests}
use Rattle.std.proofs.lemmas.List.{append-nil, length-append, nil_from_length}
use Rattle.std.proofs.Common.{◌≡◌, ◌⊎◌, ◌∙◌, ◌<◌, ℕ, zero, suc, nat_lt, Bool, false, true, List, [], ◌∷◌, ◌++◌, length, map, slice_get, take, Option, Some, None, inl, inr, refl, sym, ap, subst, arith, lit<}
use Rattle.std.specs.List.{Contains, list_all}
use Rattle.pcode_file.specs.Parts.{Parts}
use Rattle.paxos_msg.specs.declared.ballot.Ballot.{Ballot}
use Rattle.paxos_msg.specs.declared.limits.TheConstants.{LAST_START}
use Rattle.paxos_msg.specs.declared.record.Change.TheVariants.{Promise, Start}
use Rattle.paxos_msg.specs.Batches.{Change, Record}
use Rattle.paxos_msg.specs.Fits.{AreBytes, IsGroup}
use Rattle.paxos_msg.specs.Records.{changed, empty_record}
use Rattle.paxos_msg.specs.Spelling.{ballot_bytes}
use Rattle.paxos_acceptor.specs.declared.me.Me.{Me}
use Rattle.paxos_acceptor.specs.Records.{IsRecord}
use Rattle.paxos_disk.specs.Disks.{MayFind}
use Rattle.paxos_disk.specs.Entries.{IsEntry}
use Rattle.paxos_disk.specs.Found.{LoadsNoMore, LoadsNoMoreBut, LoadsOnly, MayLoad}
use Rattle.paxos_disk.specs.Log.{IsUncut, LogFound}
use Rattle.paxos_disk.specs.Padding.{IsAppended}
use Rattle.paxos_disk.specs.Reads.{Reads}
use Rattle.paxos_disk.specs.Sectors.{torn}
use Rattle.group_protocol.proofs.Elements.{entries_none, first_in, rest_in}
use Rattle.group_protocol.specs.Known.{Known, front}
use Rattle.group_protocol.specs.ProposerResponses.{on_campaign}
use Rattle.group_node.specs.declared.player.Ran.TheVariants as more
use Rattle.group_node.specs.NodeCalls.{Running}
use Rattle.group_node.specs.Output.{no_progress}
use Rattle.group_node.specs.States.{input}
use Rattle.group_wire.specs.Doings.{DoesAll}
use Rattle.group_wire.specs.Process.{IsProcess, started}
use Rattle.group_process.specs.Runs.{output_of, run_output, runs_in}
use Rattle.group_process.specs.Terminals.{TerminalRun, WriteInTurn}
use Rattle.group_disk.specs.Folders.{AreOverDisk, starts_of}
use Rattle.group_disk.specs.TornStarts.{appended_folder, campaigned, changes_of_four, changes_of_one, changes_of_three, changes_of_two, first_of_three, letter_shown, log_of_four, log_of_one, log_of_three, log_of_two, no_files, opening, progress_if, promise_left, promise_lost, record_by_changes, renamed_folder, second_ballot, shows_byte, synced_folder, torn_starts}
use Rattle.group_disk.specs.Wrong.{MayCampaign}
use Rattle.group_rules.specs.SmallPrograms.{letter_program}
use Rattle.group_rules.proofs.SmallPrograms.{StepsLaw, replays, runs, ten_of, waits, writes_letter}
use Rattle.group_disk.proofs.TakenBack.{is_run}

abbrev me : Me
me = first_of_three

-- ---- the bytes

bytes_by_test : (bytes : List ℕ) → list_all (λ x. nat_lt x 256) bytes ≡ true → AreBytes bytes
bytes_by_test [] h i = lit< tt
bytes_by_test (x ∷ xs) h zero = grind (arith, nat_tests)
bytes_by_test (x ∷ xs) h (suc i) =
    let rest : list_all (λ x. nat_lt x 256) xs ≡ true = grind (arith, nat_tests) in
    bytes_by_test xs rest i

-- a log with whole entries alone may be found after a crash
pub uncut_found : (who : Me) (bytes : List ℕ) (r : Record) → IsUncut who bytes r → LogFound who bytes r (length bytes)
uncut_found who bytes r (entries, end, whole, (changes, fold), long) = (
  entries,
  end,
  whole,
  (changes, record { entries = fold.entries; spelled = fold.spelled; ends = inl fold.ends; all = fold.all }),
  long,
)

-- the header of the log
abbrev header : List ℕ
header = 80 ∷ 76 ∷ 2 ∷ 1 ∷ 3 ∷ 0 ∷ 0 ∷ 0 ∷ 7 ∷ []

-- what a crash leaves of a file that is on the disk
pub synced_left : (bytes : List ℕ) (left : Option (List ℕ)) → MayFind (synced_folder bytes) left → left ≡ Some bytes
synced_left bytes left (inl (xs, ys, none, lost, is)) =
    let e : xs ≡ [] = nil_from_length xs (omega (arith, ap length none, length-append xs ys)) in
    is ∙ (ap (λ (l : List ℕ). Some (bytes ++ torn lost (length bytes) l)) e ∙ ap Some (append-nil bytes))
synced_left bytes left (inr any) = absurd any

pub start_next : (r : Record) → r.starts < LAST_START → IsEntry 3 r Start
start_next r spare = record { in_ranges = tt; next = spare }

-- a node can show a byte, or has not to
abbrev pub CanShow : Parts → Bool → Type 0
CanShow p is_shown = (who : Me) (n : Known)
    → DoesAll who (record { known = n; progress = no_progress p }) (shows_byte is_shown)
    (record { known = n; progress = progress_if p is_shown })

pub shows_nothing : (p : Parts) → CanShow p false
shows_nothing p who n = refl

pub shows_letter : StepsLaw → CanShow letter_program true
shows_letter steps who n =
    let letter = writes_letter (input n) in (
      record { known = n; progress = ten_of letter_program },
      (more.More, refl, runs letter steps, replays letter, refl, (refl, refl)),
      (
        record { known = n; progress = progress_if letter_program true },
        (65, ap (λ bytes. slice_get bytes 0) (waits letter), refl, refl, (refl, refl)),
        refl,
      ),
    )

-- what a node releases that has shown the letter
pub letter_output : (n : Known) → output_of (record { known = n; progress = progress_if letter_program true }) ≡ 65 ∷ []
letter_output n = ap (take 1) (writes_letter (input n)).writes

-- what the runs of the first node release, and write at its terminal
pub letter_released : map (λ (run : TerminalRun). run.released) (letter_shown 65)
    ≡ map run_output (runs_in (starts_of (torn_starts letter_program true)))
letter_released =
    rw (letter_output (on_campaign (started letter_program me empty_record).known).node) refl

pub letter_written : WriteInTurn [] (letter_shown 65)
letter_written = (
  record { told = refl; wrote = record { rest = []; whole = refl } },
  (
    record { told = refl; wrote = record { rest = []; whole = refl } },
    (record { told = refl; wrote = record { rest = []; whole = refl } }, tt),
  ),
)

-- the laws of logs and of disks, at this node
module _ (new : IsUncut me header empty_record)
    (starts : (bytes : List ℕ) (r : Record) → IsUncut me bytes r → IsEntry 3 r Start → IsUncut me (bytes ++ 1 ∷ []) (changed r Start))
    (promises : (bytes : List ℕ) (r : Record) (b : Ballot) → IsUncut me bytes r → IsEntry 3 r (Promise b)
    → IsUncut me (bytes ++ 2 ∷ ballot_bytes b) (changed r (Promise b)))
    (one : (left : Option (List ℕ)) (r s : Record) (other : Me) → IsGroup other.group → Reads me left r → Reads other left s → s ≡ r)
    (p : Parts) (is_shown : Bool) (can : CanShow p is_shown) where
  abbrev r1 : Record
  r1 = record_by_changes changes_of_one

  abbrev r2 : Record
  r2 = record_by_changes changes_of_two

  abbrev r3 : Record
  r3 = record_by_changes changes_of_three

  abbrev r4 : Record
  r4 = record_by_changes changes_of_four

  promise_next : IsEntry 3 r3 (Promise second_ballot)
  promise_next = record {
    in_ranges = ((omega arith, omega arith), (omega arith, omega arith));
    next = inl (omega arith);
  }

  uncut_one : IsUncut me log_of_one r1
  uncut_one =
      promises (header ++ 1 ∷ []) (changed empty_record Start) opening
      (starts header empty_record new (start_next empty_record (omega arith)))
      (record { in_ranges = ((omega arith, omega arith), (omega arith, omega arith)); next = tt })

  uncut_two : IsUncut me log_of_two r2
  uncut_two = starts log_of_one r1 uncut_one (start_next r1 (omega arith))

  uncut_three : IsUncut me log_of_three r3
  uncut_three = starts log_of_two r2 uncut_two (start_next r2 (omega arith))

  uncut_four : IsUncut me log_of_four r4
  uncut_four = starts log_of_three r3 uncut_three (start_next r3 (omega arith))

  -- ---- what is loaded

  read_one : (bytes : List ℕ) (r s : Record) (n : ℕ) (other : Me) → LogFound me bytes r n → IsGroup other.group
      → Reads other (Some bytes) s → s ≡ r
  read_one bytes r s n other found small reads = one (Some bytes) r s other small (reads.0, inr (n, found)) reads

  synced_loads : (bytes : List ℕ) (r : Record) (n : ℕ) → LogFound me bytes r n → (s : Record) → MayLoad (synced_folder bytes) s → s ≡ r
  synced_loads bytes r n found s may =
      read_one bytes r s n may.me found may.in_range
      (subst (λ (o : Option (List ℕ)). Reads may.me o s) (synced_left bytes may.left may.found) may.reads)

  may_load : (bytes : List ℕ) (r : Record) (n : ℕ) → list_all (λ x. nat_lt x 256) bytes ≡ true → LogFound me bytes r n
      → MayLoad (synced_folder bytes) r
  may_load bytes r n small found = record {
    me = me;
    left = Some bytes;
    in_range = omega arith;
    found = inl ([], [], refl, λ _. false, ap Some (sym (append-nil bytes)));
    reads = (bytes_by_test bytes small, inr (n, found));
  }

  renamed_loads : LoadsNoMoreBut (synced_folder log_of_one) r2 renamed_folder
  renamed_loads s may = elim may.found [
    | inl left ↦
        inr (read_one log_of_two r2 s _ may.me (uncut_found me log_of_two r2 uncut_two) may.in_range
        (subst (λ (o : Option (List ℕ)). Reads may.me o s) (synced_left log_of_two may.left (inl left)) may.reads))
    | inr (inl left) ↦
        inl (record { me = may.me; left = may.left; in_range = may.in_range; found = inl left; reads = may.reads })
    | inr (inr none) ↦ absurd none
  ]

  appended : IsAppended opening (length log_of_three) (Promise second_ballot) (promise_left ++ promise_lost)
  appended = record {
    times = 0;
    spelled = refl;
    in_sectors = λ never. never;
    least = λ fewer less. absurd (omega (arith, less));
    few = omega arith;
  }

  in_ranges : IsRecord 3 r3
  in_ranges = record { starts = omega arith; kept = (((omega arith, omega arith), (omega arith, omega arith)), tt) }

  pub loads_of_one : (s : Record) → MayLoad (synced_folder log_of_one) s → s ≡ r1
  loads_of_one s may = synced_loads log_of_one r1 _ (uncut_found me log_of_one r1 uncut_one) s may

  loads_one : (bytes : List ℕ) (r other : Record) (n : ℕ) → LogFound me bytes r n → LoadsOnly (synced_folder bytes) (r ∷ other ∷ [])
  loads_one bytes r other n found s may =
      subst (Contains (r ∷ other ∷ [])) (sym (synced_loads bytes r n found s may)) (first_in r (other ∷ []))

  -- a crash takes a file that is on the disk, or what was written behind it
  crash_of_renamed : LoadsNoMore renamed_folder (synced_folder log_of_two)
  crash_of_renamed s may = elim may.found [
    | inl left ↦ record { me = may.me; left = may.left; in_range = may.in_range; found = inl left; reads = may.reads }
    | inr any ↦ absurd any
  ]

  crash_of_appended : LoadsNoMore appended_folder (synced_folder (log_of_three ++ promise_left))
  crash_of_appended s may = record {
    me = may.me;
    left = may.left;
    in_range = may.in_range;
    found = inl (promise_left, promise_lost, refl, λ _. false, synced_left (log_of_three ++ promise_left) may.left may.found);
    reads = may.reads;
  }

  -- ---- the runs

  front_is : (r : Record) → front (started p me r).known ≡ 0
  front_is r = rw entries_none refl

  abbrev after_campaign : Running
  after_campaign = record { known = (on_campaign (started p me empty_record).known).node; progress = no_progress p }

  pub campaigned_is : IsProcess p me (campaigned p me is_shown).process (campaigned p me is_shown).last
  campaigned_is = record {
    spare = λ e. absurd (omega (arith, e));
    does = (
      after_campaign,
      rw (front_is empty_record) (refl, (refl, refl, refl)),
      can me after_campaign.known,
    );
    fails = tt;
  }

  may_campaign : MayCampaign p me r2
  may_campaign = record { spare = omega arith; made = rw (front_is r2) tt }

  -- with torn ends
  module _ (cut : (bytes : List ℕ) (r : Record) (b : Ballot) (xs ys : List ℕ) → IsUncut me bytes r → IsEntry 3 r (Promise b)
      → 2 ∷ ballot_bytes b ≡ xs ++ ys → 0 < length ys → LogFound me (bytes ++ xs) r (length bytes))
      (tears : (r : Record) (c : Change) (b : Ballot) (bytes xs ys : List ℕ) (lost : ℕ → Bool) → IsRecord 3 r → IsEntry 3 r c
      → r.promised ≡ Some b → IsUncut me bytes r → IsAppended b (length bytes) c (xs ++ ys)
      → ((n : ℕ) × LogFound me (bytes ++ torn lost (length bytes) xs) r n)
      ⊎ ((n : ℕ) × LogFound me (bytes ++ torn lost (length bytes) xs) (changed r c) n)) where
    cut_three : LogFound me (log_of_three ++ promise_left) r3 (length log_of_three)
    cut_three = cut log_of_three r3 second_ballot promise_left promise_lost uncut_three promise_next refl (omega arith)

    appended_loads : LoadsOnly appended_folder (r3 ∷ changed r3 (Promise second_ballot) ∷ [])
    appended_loads s may = elim may.found [
      | inl (xs, ys, whole, lost, is) ↦
          let left : List ℕ = log_of_three ++ torn lost (length log_of_three) xs in
          let reads : Reads may.me (Some left) s = subst (λ (o : Option (List ℕ)). Reads may.me o s) is may.reads in
          let some = subst (IsAppended opening (length log_of_three) (Promise second_ballot)) whole appended in
          elim (tears r3 (Promise second_ballot) opening log_of_three xs ys lost in_ranges promise_next refl uncut_three some) [
            | inl (n, found) ↦
                subst (Contains (r3 ∷ changed r3 (Promise second_ballot) ∷ [])) (sym (read_one left r3 s n may.me found may.in_range reads))
                (first_in r3 (changed r3 (Promise second_ballot) ∷ []))
            | inr (n, found) ↦
                subst (Contains (r3 ∷ changed r3 (Promise second_ballot) ∷ []))
                (sym (read_one left (changed r3 (Promise second_ballot)) s n may.me found may.in_range reads))
                (rest_in r3 (changed r3 (Promise second_ballot) ∷ []) (changed r3 (Promise second_ballot))
                (first_in (changed r3 (Promise second_ballot)) []))
          ]
      | inr any ↦ absurd any
    ]

    pub are_over_disk : AreOverDisk p me no_files (torn_starts p is_shown)
    are_over_disk = (
      λ s may. may,
      (
        record { me = me; left = None; in_range = omega arith; found = inl refl; reads = refl },
        campaigned_is,
        tt,
        loads_one log_of_one r1 _ _ (uncut_found me log_of_one r1 uncut_one),
      ),
      (
        λ s may. may,
        (
          may_load log_of_one r1 _ refl (uncut_found me log_of_one r1 uncut_one),
          λ e. absurd (omega (arith, e)),
          renamed_loads,
        ),
        (
          crash_of_renamed,
          (
            may_load log_of_two r2 _ refl (uncut_found me log_of_two r2 uncut_two),
            is_run p me r2 false may_campaign,
            tt,
            appended_loads,
          ),
          (
            crash_of_appended,
            (
              may_load (log_of_three ++ promise_left) r3 _ refl cut_three,
              record { spare = λ e. absurd (omega (arith, e)); does = can me (started p me r3).known; fails = tt },
              tt,
              loads_one log_of_four r4 _ _ (uncut_found me log_of_four r4 uncut_four),
            ),
            tt,
          ),
        ),
      ),
    )
