-- What is written, and what is still to be written, are the bytes.
use Rattle.std.proofs.Common.{◌≡◌, ◌+◌, ◌++◌, length, drop}
use Rattle.std.specs.Prelude.{vec_len, vec_capacity}
use Rattle.paxos_msg.proofs.spelling.put_bytes.Given as goal

abbrev pub invariant-loop-byte : goal.invariant-loop-byte
invariant-loop-byte l = record {
  items : l.out.items ++ drop l.byte-index l.bytes ≡ l.initial.out.items ++ l.bytes;
  len : vec_len l.out + length (drop l.byte-index l.bytes) ≡ vec_len l.initial.out + length l.bytes;
  capacity : vec_capacity l.out ≡ vec_capacity l.initial.out;
}
