use Rattle.std.proofs.Common.{⊎_elim, rules}
use Rattle.paxos_disk.proofs.store.form.record_of_whole.Goals as goal

pub returns-in_err-record-clause-bad : goal.returns-in_err-record-clause-bad
returns-in_err-record-clause-bad c = λ h r.
    ⊎_elim (c.in-Err-Bad.ensures.bad (search rules) r)
    (⊎_elim (c.in-Err-Bad-record_migrate.ensures.bad (search rules) r) (λ log. c.in_err-record.ensures.bad (search rules) r log.0 log.1))

pub returns-clause-only : goal.returns-clause-only
returns-clause-only c = λ r.
    ⊎_elim (λ two. absurd (c.in-Err-Bad.ensures.bad (search rules) r two))
    (⊎_elim (λ one. absurd (c.in-Err-Bad-record_migrate.ensures.bad (search rules) r one))
    (λ log. (c.in_ok-record.ensures.only r log.0 log.1).0))
