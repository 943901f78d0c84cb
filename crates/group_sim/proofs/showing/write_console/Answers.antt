use Rattle.std.proofs.Common.{[], ◌∷◌, rules}
use Rattle.group_sim.proofs.Writing.{appended, console_text-some, failed}
use Rattle.group_sim.proofs.showing.write_console.Goals as goal

pub returns-in_err-put : goal.returns-in_err-put
returns-in_err-put g c = rw (console_text-some c.args.console.now (cc)) (failed _ (_ ∷ []) (search rules) c.in_err-put.ensures)

pub returns : goal.returns
returns g c = rw (console_text-some c.args.console.now (cc)) (appended _ _ _ _ _ _ c.in_ok-put.ensures c.put_hex.ensures)
