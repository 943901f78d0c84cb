use Rattle.std.proofs.Common.{[], ◌∷◌, rules}
use Rattle.group_sim.proofs.Writing.{appended, both-written, failed, front-after}
use Rattle.group_sim.proofs.showing.write_node.Goals as goal

pub returns-in_err-put_number : goal.returns-in_err-put_number
returns-in_err-put_number g c = failed _ (_ ∷ _ ∷ _ ∷ _ ∷ []) (search rules) c.in_err-put_number.ensures

pub returns-in_err-write_known : goal.returns-in_err-write_known
returns-in_err-write_known g c =
    failed _ (_ ∷ _ ∷ _ ∷ []) (search rules) (front-after c.in_ok-put_number.ensures c.in_err-write_known.ensures)

pub returns-in_err-write_promised : goal.returns-in_err-write_promised
returns-in_err-write_promised g c =
    failed _ (_ ∷ _ ∷ []) (search rules)
    (front-after (both-written c.in_ok-put_number.ensures c.in_ok-write_known.ensures)
    (rw c.promised.ensures at c.in_err-write_promised.ensures))

pub returns-in_err-write_console : goal.returns-in_err-write_console
returns-in_err-write_console g c =
    failed _ (_ ∷ []) (search rules)
    (front-after (both-written (both-written c.in_ok-put_number.ensures c.in_ok-write_known.ensures)
    (rw c.promised.ensures at c.in_ok-write_promised.ensures)) (rw c.console.ensures at c.in_err-write_console.ensures))

pub returns : goal.returns
returns g c =
    appended _ _ _ _ _ _
    (both-written (both-written (both-written c.in_ok-put_number.ensures c.in_ok-write_known.ensures)
    (rw c.promised.ensures at c.in_ok-write_promised.ensures)) (rw c.console.ensures at c.in_ok-write_console.ensures)) c.put.ensures
