use Rattle.std.proofs.Common.{[], ◌∷◌, rules}
use Rattle.group_sim.proofs.Writing.{appended, both-written, failed, front-after}
use Rattle.group_sim.proofs.showing.write_keys.Goals as goal

pub returns-in_err-put_number : goal.returns-in_err-put_number
returns-in_err-put_number g c = failed _ (_ ∷ _ ∷ _ ∷ _ ∷ []) (search rules) c.in_err-put_number.ensures

pub returns-in_err-put_number-2 : goal.returns-in_err-put_number-2
returns-in_err-put_number-2 g c =
    failed _ (_ ∷ _ ∷ _ ∷ []) (search rules) (front-after c.in_ok-put_number.ensures c.in_err-put_number-2.ensures)

pub returns-in_err-put_number-3 : goal.returns-in_err-put_number-3
returns-in_err-put_number-3 g c =
    failed _ (_ ∷ _ ∷ []) (search rules)
    (front-after (both-written c.in_ok-put_number.ensures c.in_ok-put_number-2.ensures) c.in_err-put_number-3.ensures)

pub returns-in_err-put : goal.returns-in_err-put
returns-in_err-put g c =
    failed _ (_ ∷ []) (search rules)
    (front-after (both-written (both-written c.in_ok-put_number.ensures c.in_ok-put_number-2.ensures) c.in_ok-put_number-3.ensures)
    c.in_err-put.ensures)

pub returns : goal.returns
returns g c =
    appended _ _ _ _ _ _
    (both-written (both-written (both-written c.in_ok-put_number.ensures c.in_ok-put_number-2.ensures)
    c.in_ok-put_number-3.ensures) c.in_ok-put.ensures) c.put_hex.ensures
