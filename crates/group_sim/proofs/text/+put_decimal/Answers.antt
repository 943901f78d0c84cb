use Rattle.std.proofs.Common.{[], ◌∷◌, rules, arith}
use Rattle.std.proofs.lemmas.Grind.{common_steps}
use Rattle.std.proofs.lemmas.Fmt.{decimal_digit, decimal_step}
use Rattle.group_sim.proofs.Writing.{appended, failed}
use Rattle.group_sim.proofs.text.+put_decimal.Goals as goal
use Rattle.group_sim.proofs.text.+put_decimal.Goals.{then-number-ge10+in_ok-put_decimal, else-number-ge10}

pub returns-in_err-put_decimal : goal.returns-in_err-put_decimal
returns-in_err-put_decimal g t c =
    rw (decimal_step c.args.number c.if-number-ge10.true c.ranges.number.fits)
    (failed _ (_ ∷ []) (search rules) c.in_err-put_decimal.ensures)

pub returns : goal.returns
returns g t c = elim c.if-number-ge10.branch [
  | then-number-ge10+in_ok-put_decimal w ↦
      rw (decimal_step c.args.number w.if-number-ge10.true c.ranges.number.fits)
      (appended _ _ _ _ _ _ w.in_ok-put_decimal.ensures (rw w.writer-is at c.put.ensures))
  | else-number-ge10 w ↦ grind (arith, common_steps, decimal_digit)
]
