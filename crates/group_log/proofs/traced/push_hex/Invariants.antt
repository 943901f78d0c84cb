use Rattle.std.proofs.Common.{◌≡◌, ◌++◌, drop}
use Rattle.digits.specs.Digits.{hex_text}
use Rattle.group_log.proofs.traced.push_hex.Given as goal

-- with the digits of the bytes that are still to come, it is all
abbrev pub invariant-loop-byte : goal.invariant-loop-byte
invariant-loop-byte l =
    l.text.items ++ hex_text (drop l.byte-index l.bytes) ≡ l.initial.text.items ++ hex_text l.bytes
