-- Transfers between memory and a unit: the call that starts one, and each byte.
use Rattle.std.specs.Prelude.{ℕ, ◌-◌, nat_lt, ◌==◌, ◌||◌, if◌then◌else◌, Bool, List, ◌∷◌, Option, Some, None, IsSome, Result, Ok, Err, pos, ◌+ℤ◌}
use Rattle.pcode_frames.specs.Words.{live_byte_at}
use Rattle.pcode_machine.specs.declared.turn.Direction.{Direction}
use Rattle.pcode_machine.specs.declared.turn.Transfer.{Transfer}
use Rattle.pcode_machine.specs.declared.turn.Stop.{Stop}
use Rattle.pcode_machine.specs.declared.turn.Stop.TheVariants.{Error}
use Rattle.pcode_machine.specs.Configuration.{State}
use Rattle.pcode_machine.specs.Bytes.{byte_address}
use Rattle.pcode_machine.specs.declared.errors.ExecutionError.TheVariants.{StackUnderflow}

-- The test that a unit is the console: unit 1 (CONSOLE:) or unit 2 (SYSTERM:).
abbrev pub is_console : ℕ → Bool
is_console unit = (unit == 1) || (unit == 2)

-- The transfer that a call starts, if there is a byte to move.
-- The length is signed. The byte address is the base plus the signed index.
abbrev pub begun_transfer : Direction → ℕ → ℕ → ℕ → ℕ → ℕ → Option Transfer
begun_transfer direction unit base index len at =
    if is_console unit then
    if nat_lt 0 len then
    if nat_lt len 32768 then
    Some (record {
      direction = direction;
      unit = unit;
      address = byte_address base index;
      left = len;
      at = at;
    })
    else None
    else None
    else None

-- The state after a call of UNITREAD or UNITWRITE, or error 0.
-- It pops mode, block, length, index, base and unit, the last pushed first. Mode and block are
-- ignored.
-- Source: Manual, UNITREAD and UNITWRITE.
abbrev pub unit_call : Direction → ℕ → State → List ℕ → Result State Stop
unit_call direction j s (mode ∷ block ∷ len ∷ index ∷ base ∷ unit ∷ rest) =
    Ok (record s {
      stack = rest;
      next = j;
      io_result = if is_console unit then 0 else 2;
      transfer = begun_transfer direction unit base index len s.next;
    })
unit_call direction j s _ = Err (Error StackUnderflow)

-- The live words that hold the next byte of a transfer.
abbrev pub HoldsNextByte : Transfer → List ℕ → Type 0
HoldsNextByte t live = IsSome (live_byte_at live t.address)

-- The rest of a transfer after one byte, if there is one.
abbrev pub rest_of : Transfer → Option Transfer
rest_of t =
    if nat_lt 1 t.left then Some (record t { address = t.address +ℤ pos 1; left = t.left - 1 })
    else None
