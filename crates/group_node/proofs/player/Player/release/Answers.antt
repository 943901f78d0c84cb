use Rattle.std.proofs.Common.{sym, arith}
use Rattle.std.proofs.lemmas.Bool.Decides.{nat_tests}
use Rattle.group_node.proofs.Exact.{exact_released, exact_first}
use Rattle.group_node.proofs.player.Player.release.Goals as goal

pub returns-in_err-byte-clause-value : goal.returns-in_err-byte-clause-value
returns-in_err-byte-clause-value c x h =
    grind (arith, nat_tests, exact_first, c.run_is_after.ensures, c.in_err-byte.ensures.value, c.from_residual.ensures)

pub returns-clause-value : goal.returns-clause-value
returns-clause-value c x h = grind (arith, nat_tests, exact_first, c.run_is_after.ensures, c.in_ok-byte.ensures.value)

pub returns-clause-exact : goal.returns-clause-exact
returns-clause-exact c = λ x h. rw c.pop_front.ensures.items (exact_released h (sym c.in_ok-byte.ensures.value))
