use Rattle.machine_run.proofs.Writing.{one_byte}
use Rattle.machine_run.proofs.streams.ByteWriter.write_byte.Goals as goal

pub returns-clause-bytes : goal.returns-clause-bytes
returns-clause-bytes g c = one_byte _ _ c.args.byte c.write_bytes.result c.write_bytes.ensures.bytes
