use Rattle.std.proofs.Common.{[], ◌∷◌, rules}
use Rattle.group_sim.proofs.Writing.{appended, both-written, failed, front-after}
use Rattle.group_sim.proofs.showing.write_group.Goals as goal

pub returns-in_err-write_nodes : goal.returns-in_err-write_nodes
returns-in_err-write_nodes g c = failed _ (_ ∷ _ ∷ _ ∷ []) (search rules) c.in_err-write_nodes.ensures

pub returns-in_err-write_places : goal.returns-in_err-write_places
returns-in_err-write_places g c =
    failed _ (_ ∷ _ ∷ []) (search rules) (front-after c.in_ok-write_nodes.ensures c.in_err-write_places.ensures)

pub returns-in_err-put_number : goal.returns-in_err-put_number
returns-in_err-put_number g c =
    failed _ (_ ∷ []) (search rules)
    (front-after (both-written c.in_ok-write_nodes.ensures c.in_ok-write_places.ensures)
    (rw c.sent.ensures at c.in_err-put_number.ensures))

pub returns : goal.returns
returns g c =
    appended _ _ _ _ _ _
    (both-written (both-written c.in_ok-write_nodes.ensures c.in_ok-write_places.ensures)
    (rw c.sent.ensures at c.in_ok-put_number.ensures)) c.put.ensures
