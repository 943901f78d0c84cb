use Rattle.std.proofs.Common.{⊎_elim, arith, rules}
use Rattle.std.proofs.lemmas.Bool.Decides.{nat_tests}
use Rattle.paxos_disk.proofs.store.form.record_of_bytes.Goals as goal

pub returns-in-Ok-clause-only : goal.returns-in-Ok-clause-only
returns-in-Ok-clause-only c = λ r.
    ⊎_elim (λ whole. absurd (grind (arith, nat_tests, whole, c.in-Ok.ensures.found))) (λ log. (c.in-Ok.ensures.only r log.0 log.1).0)

pub returns-in_err-record-in-Err-Bad-clause-bad : goal.returns-in_err-record-in-Err-Bad-clause-bad
returns-in_err-record-in-Err-Bad-clause-bad c = λ h r.
    ⊎_elim (c.in_err-record-in-Err-Bad.ensures.bad (search rules) r) (λ log. c.in-Err-Bad.ensures.bad (search rules) r log.0 log.1)

pub returns-in_ok-record-in-Err-Bad-clause-only : goal.returns-in_ok-record-in-Err-Bad-clause-only
returns-in_ok-record-in-Err-Bad-clause-only c = λ r.
    ⊎_elim (c.in_ok-record-in-Err-Bad.ensures.only r) (λ log. absurd (c.in-Err-Bad.ensures.bad (search rules) r log.0 log.1))
