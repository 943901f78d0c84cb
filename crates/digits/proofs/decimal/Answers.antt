use Rattle.std.proofs.Common.{rules}
use Rattle.digits.proofs.Decimals.{decimal_from}
use Rattle.digits.proofs.decimal.Goals as goal

pub returns : goal.returns
returns c = decimal_from 64 c.args.text.now c.ok.result (search rules)
