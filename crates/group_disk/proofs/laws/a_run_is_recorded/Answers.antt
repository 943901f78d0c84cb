use Rattle.std.proofs.Common.{true}
use Rattle.paxos_msg.specs.declared.record.Change.TheVariants.{Promise, Start}
use Rattle.group_rules.specs.SmallPrograms.{letter_program}
use Rattle.group_rules.proofs.SmallPrograms.{StepsLaw}
use Rattle.group_disk.specs.TornStarts.{first_of_three}
use Rattle.group_disk.proofs.RecordedRun.{recorded}
use Rattle.group_disk.proofs.TornFiles.{campaigned_is, loads_of_one, shows_letter}
use Rattle.group_disk.proofs.laws.a_run_is_recorded.Goals as goal

pub returns : goal.returns
returns c =
    let logs = c.logs_grow.ensures in
    let steps : StepsLaw = record { steps = c.output_only_grows.ensures.steps } in
    recorded
    (campaigned_is (logs.new first_of_three) (λ bytes r. logs.grown first_of_three bytes r Start)
    (λ bytes r b. logs.grown first_of_three bytes r (Promise b)) c.what_restarts_load.ensures.one letter_program true (shows_letter steps))
    (loads_of_one (logs.new first_of_three) (λ bytes r. logs.grown first_of_three bytes r Start)
    (λ bytes r b. logs.grown first_of_three bytes r (Promise b)) c.what_restarts_load.ensures.one letter_program true (shows_letter steps))
