use Rattle.std.proofs.Common.{◌<◌, arith}
use Rattle.std.proofs.lemmas.Int.{ints}
use Rattle.pcode_ops.specs.At.{cases}
use Rattle.pcode_ops.proofs.Entries.{entries_point}
use Rattle.pcode_ops.proofs.jumps.case_of.Goals as goal

pub pointed_by-requires-clause-above : goal.pointed_by-requires-clause-above
pointed_by-requires-clause-above c =
    let less : c.unsigned_abs-entry.result < cases c.args.low c.args.high = grind (arith, ints) in
    ((entries_point _ c.requires.table.0 c.args.table (cases c.args.low c.args.high)).0 c.requires.table.1.entries _ less).1.0
