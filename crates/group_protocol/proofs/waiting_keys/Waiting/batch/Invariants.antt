use Rattle.std.proofs.Common.{◌≡◌, length, take}
use Rattle.group_protocol.proofs.waiting_keys.Waiting.batch.Given as goal

-- the characters before the next one are copied
abbrev pub invariant-loop-i : goal.invariant-loop-i
invariant-loop-i l = (length l.bytes ≡ 32) × (take l.i l.bytes ≡ take l.i l.self.bytes)
