use Rattle.std.proofs.Common.{Bool, false, true, inl, refl}
use Rattle.pcode_file.specs.Parts.{Parts}
use Rattle.paxos_msg.specs.declared.record.Change.TheVariants.{Promise, Start}
use Rattle.group_rules.specs.SmallPrograms.{letter_program}
use Rattle.group_rules.proofs.SmallPrograms.{StepsLaw}
use Rattle.group_disk.specs.Folders.{AreOverDisk, IsFolderLog}
use Rattle.group_disk.specs.TornStarts.{first_of_three, no_files, second_of_three, torn_group, torn_log, torn_starts}
use Rattle.group_disk.proofs.TornFiles.{CanShow, are_over_disk, letter_released, letter_written, shows_letter, shows_nothing}
use Rattle.group_disk.proofs.TornLog.{is_logged}
use Rattle.group_disk.proofs.laws.starts_may_be_torn.Goals as goal

module _ (c : goal.After-what_restarts_load-2) where
  starts : (p : Parts) (is_shown : Bool) → CanShow p is_shown → AreOverDisk p first_of_three no_files (torn_starts p is_shown)
  starts p is_shown can =
      let logs = c.logs_grow.ensures in
      are_over_disk (logs.new first_of_three) (λ bytes r. logs.grown first_of_three bytes r Start)
      (λ bytes r b. logs.grown first_of_three bytes r (Promise b)) c.what_restarts_load.ensures.one p is_shown can
      (λ bytes r b xs ys log next whole some.
      let (entries, end, is, (changes, fold), long) = logs.cut first_of_three bytes r (Promise b) xs ys log next whole some in (
        entries,
        end,
        is,
        (changes, record { entries = fold.entries; spelled = fold.spelled; ends = inl fold.ends; all = fold.all }),
        long,
      ))
      (c.torn_appends.ensures first_of_three)

  logged : (p : Parts) (is_shown : Bool) → CanShow p is_shown
      → IsFolderLog p first_of_three.group (λ i. no_files) (torn_group p is_shown) (torn_log p is_shown)
  logged p is_shown can =
      let logs = c.logs_grow.ensures in
      is_logged (logs.new second_of_three) (λ bytes r. logs.grown second_of_three bytes r Start)
      (λ bytes r b. logs.grown second_of_three bytes r (Promise b)) c.what_restarts_load-2.ensures.one c.spelling_is_short.ensures.short
      c.what_is_given_was_sent.ensures.message p is_shown (starts p is_shown can)

  grows : StepsLaw
  grows = record { steps = c.output_only_grows.ensures.steps }

pub returns : goal.returns
returns c = record {
  starts = λ p. starts c p false (shows_nothing p);
  logged = λ p. logged c p false (shows_nothing p);
  shown_starts = starts c letter_program true (shows_letter (grows c));
  shown_log = logged c letter_program true (shows_letter (grows c));
  shown = record { released = letter_released; writes = letter_written };
  terminal = refl;
}
