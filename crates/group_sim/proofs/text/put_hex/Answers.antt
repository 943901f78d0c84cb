use Rattle.std.proofs.Common.{[], rules}
use Rattle.digits.specs.Digits.{hex_digits}
use Rattle.group_sim.proofs.Writing.{failed, item-front}
use Rattle.group_sim.proofs.text.put_hex.Goals as goal

pub returns-in_err-put_byte : goal.returns-in_err-put_byte
returns-in_err-put_byte g c =
    failed _ [] (search rules)
    (item-front hex_digits c.args.bytes.now c.loop-byte.byte-index 0 c.loop-byte-test.true c.loop-byte.invariant
    c.in_err-put_byte.ensures)
