use Rattle.group_sim.proofs.text.+put_decimal.Given as goal

abbrev pub decreases-put_decimal : goal.decreases-put_decimal
decreases-put_decimal g l = l.number
