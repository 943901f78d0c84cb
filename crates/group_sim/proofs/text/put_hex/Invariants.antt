use Rattle.std.proofs.Common.{take}
use Rattle.group_sim.specs.Texts.{AppendsText, held}
use Rattle.digits.specs.Digits.{hex_text}
use Rattle.group_sim.proofs.text.put_hex.Given as goal

abbrev pub invariant-loop-byte : goal.invariant-loop-byte
invariant-loop-byte g l =
    let known = held g.W.ByteWriter.contents g.W.ByteWriter.write_faults in
    AppendsText (known l.fn.writer) (known l.writer) (hex_text (take l.byte-index l.bytes))
