use Rattle.std.proofs.Common.{[], ◌∷◌, rules}
use Rattle.group_sim.proofs.Writing.{appended, failed}
use Rattle.group_sim.proofs.showing.write_promised.Goals as goal

pub returns-in-None : goal.returns-in-None
returns-in-None g c = rw c.in-None.is c.put.ensures

pub returns-in_err-put-in-Some : goal.returns-in_err-put-in-Some
returns-in_err-put-in-Some g c = rw c.in-Some.is (failed _ (_ ∷ []) (search rules) c.in_err-put-in-Some.ensures)

pub returns-in_ok-put-in-Some : goal.returns-in_ok-put-in-Some
returns-in_ok-put-in-Some g c = rw c.in-Some.is (appended _ _ _ _ _ _ c.in_ok-put-in-Some.ensures c.write_ballot.ensures)
