use Rattle.std.proofs.Common.{rules, ◌≡◌, inr, Err}
use Rattle.machine_frozen.proofs.command.write_frozen.Goals as goal

pub returns-in_err-stated-in-Ok-clause-err : goal.returns-in_err-stated-in-Ok-clause-err
returns-in_err-stated-in-Ok-clause-err g c =
    let failed : c.from_residual.result ≡ Err c.in_err-stated-in-Ok.field-0.0 = search rules in
    rw failed (inr (c.as_slice.result.now, c.in_err-stated-in-Ok.ensures.err))
