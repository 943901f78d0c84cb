use Rattle.std.proofs.Common.{arith}
use Rattle.std.proofs.lemmas.Int.{ints}
use Rattle.pcode_frozen.proofs.CaseJumps.{entry_within}
use Rattle.pcode_frozen.proofs.twins.word_of_entry.Goals as goal

pub returns : goal.returns
returns c =
    let within = entry_within c.args.low c.args.high c.args.k c.requires in
    let is = c.cast_unsigned.ensures in
    let low = c.from.ensures in
    rw is (omega (arith, ints, low, within))
