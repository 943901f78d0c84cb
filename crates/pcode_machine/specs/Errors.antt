-- Execution errors and their numbers.
use Rattle.std.specs.Prelude.{ℕ}
use Rattle.pcode_frames.specs.declared.halt.Halt.{Halt}
use Rattle.pcode_frames.specs.declared.halt.Halt.TheVariants.{Empty, Overflow, BadMemory}
use Rattle.pcode_machine.specs.declared.errors.ExecutionError.{ExecutionError}
use Rattle.pcode_machine.specs.declared.errors.ExecutionError.TheVariants.{StackUnderflow, OutOfRange, NoRoom, DivisionByZero, BadAddress, NoUnit, Halted}

-- The number that the end of a program reports for an execution error.
-- Source: Manual, execution errors.
abbrev pub error_number : ExecutionError → ℕ
error_number StackUnderflow = 0
error_number OutOfRange = 1
error_number NoRoom = 4
error_number DivisionByZero = 6
error_number BadAddress = 7
error_number NoUnit = 10
error_number Halted = 14

-- The error of an instruction at which the frames refuse a call or a return.
-- Source: Manual, execution errors.
abbrev pub error_of : Halt → ExecutionError
error_of Empty = StackUnderflow
error_of Overflow = NoRoom
error_of BadMemory = BadAddress
