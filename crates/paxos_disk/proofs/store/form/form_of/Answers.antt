use Rattle.std.proofs.Common.{rules}
use Rattle.paxos_disk.proofs.store.form.form_of.Goals as goal

pub returns-in_err-record-clause-bad : goal.returns-in_err-record-clause-bad
returns-in_err-record-clause-bad c =
    λ h. rw (c.in-Some.is, ← c.as_slice.ensures.value) (c.in_err-record.ensures.bad (search rules))

pub returns-clause-only : goal.returns-clause-only
returns-clause-only c = rw (c.in-Some.is, ← c.as_slice.ensures.value) c.in_ok-record.ensures.only

pub returns-clause-fits : goal.returns-clause-fits
returns-clause-fits c =
    c.files_are_known.ensures.fits _ c.in-Some.bytes.items _ _ (c.form_of_bytes.ensures.form _ _ (search rules) (search rules))
