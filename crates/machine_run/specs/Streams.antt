-- What is known of a reader and a writer, what moved, and which faults of theirs were counted.
use Rattle.std.specs.Prelude.{◌≡◌, ℕ, ◌<◌, ◌==◌, Bool, true, false, if◌then◌else◌, List, ◌++◌, length, Option, Some, None, Result, Ok, Err}
use Rattle.std.specs.Io.KnownBytes.{Appends, Consumes}
use Rattle.std.specs.IoError.{error_kind}
use Rattle.std.specs.declared.io.Error.{Error}
use Rattle.std.specs.declared.io.ErrorKind.{ErrorKind}
use Rattle.std.specs.declared.io.ErrorKind.TheVariants.{Interrupted}
use Rattle.base.specs.Faults.{HasRisen}
use Rattle.machine_run.specs.declared.streams.ReadFault.{ReadFault}
use Rattle.machine_run.specs.declared.streams.WriteFault.{WriteFault}

-- ---- what the answer of a call means

-- True if a signal interrupted the call, so that it is made again.
abbrev pub is_interrupted : ErrorKind → Bool
is_interrupted Interrupted = true
is_interrupted _ = false

-- What a call of `read` has read, or that it failed. It is `None` if the call is made again.
-- Forbids: a failed read that is made again.
abbrev pub bytes_read_of : Result ℕ Error → Option (Result ℕ ReadFault)
bytes_read_of (Ok n) = Some (Ok n)
bytes_read_of (Err e) = if is_interrupted (error_kind e) then None else Some (Err (record {}))

-- The byte that a read of one byte has found, after which the buffer has this byte. It is `None` at
-- the end, where nothing was read.
-- Forbids: an end that is told as a fault.
abbrev pub byte_found_of : ℕ → ℕ → Option ℕ
byte_found_of n byte = if n == 0 then None else Some byte

-- How many bytes a call of `write` has written, or that it failed. It is `None` if the call is made
-- again. A call that took nothing has failed.
-- Forbids: a failed write that is made again.
abbrev pub bytes_written_of : Result ℕ Error → Option (Result ℕ WriteFault)
bytes_written_of (Ok n) = if n == 0 then Some (Err (record {})) else Some (Ok n)
bytes_written_of (Err e) = if is_interrupted (error_kind e) then None else Some (Err (record {}))

-- A write of these bytes that has failed: none or some first ones of them were written, and the
-- others were not.
-- Forbids: a byte that is written behind one that is not; a failure after the last byte, or of a
-- write without bytes.
pub record WritesPart (from to : Option (List ℕ)) (bytes : List ℕ) : Type 0 where
  pub wrote : List ℕ
  pub lost : List ℕ
  pub parts : bytes ≡ wrote ++ lost
  pub some : 0 < length lost
  pub appended : Appends from to wrote

-- ---- what is known of streams

-- What is known of a reader and a writer: their bytes, and how often each has failed.
-- The bytes are those that the reader has left and the writer holds, where they are known.
pub record Streams : Type 0 where
  pub reader : Option (List ℕ)
  pub writer : Option (List ℕ)
  pub read_faults : ℕ
  pub write_faults : ℕ

-- What is known of a reader and a writer of these types, by what is known of each: its bytes, and
-- how often it has failed.
abbrev pub streams : {R W : Type 0} → (R → Option (List ℕ)) → (R → ℕ) → (W → Option (List ℕ))
    → (W → ℕ) → R → W → Streams
streams remaining read_faults contents write_faults reader writer = record {
  reader = remaining reader;
  writer = contents writer;
  read_faults = read_faults reader;
  write_faults = write_faults writer;
}

-- The bytes that were read, and those that were written.
pub record HasMoved (from to : Streams) (took wrote : List ℕ) : Type 0 where
  pub read : Consumes from.reader to.reader took
  pub written : Appends from.writer to.writer wrote

-- Two moments between which no fault was counted.
pub record HasNoFault (from to : Streams) : Type 0 where
  pub read : to.read_faults ≡ from.read_faults
  pub write : to.write_faults ≡ from.write_faults

-- Two moments between which one failed read was counted, and no failed write.
pub record HasReadFault (from to : Streams) : Type 0 where
  pub read : HasRisen from.read_faults to.read_faults
  pub write : to.write_faults ≡ from.write_faults

-- Two moments between which one failed write was counted, and no failed read.
pub record HasWriteFault (from to : Streams) : Type 0 where
  pub read : to.read_faults ≡ from.read_faults
  pub write : HasRisen from.write_faults to.write_faults
