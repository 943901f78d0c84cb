use Rattle.paxos_msg.specs.Records.{empty_record}
use Rattle.group_disk.proofs.KeptLogs.{kept_log}
use Rattle.group_disk.proofs.laws.disk_logs_are_kept.Goals as goal

pub returns : goal.returns
returns c = λ p group restarts log h.
    kept_log p group restarts log (λ i. c.restarts_are_runs.ensures p (record { node = i; group = group }) empty_record (restarts i)
    (h.started i)) h
