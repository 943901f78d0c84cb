-- A whole transfer: a call of UNITREAD or UNITWRITE, and the bytes that it moves.
use Rattle.std.specs.Prelude.{◌≡◌, ◌≢◌, ℕ, ◌<◌, All, List, ◌∷◌, length, drop, slice_get, Some, None, IsSome, ℤ, pos, ◌+ℤ◌}
use Rattle.pcode_file.specs.Parts.{Parts}
use Rattle.pcode_ops.specs.declared.instr.Instr.TheVariants.{Csp}
use Rattle.pcode_ops.specs.declared.instr.StandardProcedure.{StandardProcedure}
use Rattle.pcode_ops.specs.At.{At}
use Rattle.pcode_frames.specs.Words.{live_byte_at}
use Rattle.pcode_machine.specs.Configuration.{Configuration, current_of}
use Rattle.pcode_machine.specs.Runs.{IsPrefix}

-- The configurations at a call of a unit, of this many bytes at an index after a base, where the
-- stack below the operands is `rest` and `j` is the offset after the call.
pub record IsUnitCall (p : Parts) (c : Configuration) (called : StandardProcedure)
    (j unit base index count : ℕ) (rest : List ℕ) : Type 0 where
  pub current : IsSome (current_of c.state.frames)
  pub idle : c.state.transfer ≡ None
  pub there : At p.segment c.state.next (Csp called) j
  pub mode : ℕ
  pub block : ℕ
  pub operands : c.state.stack ≡ mode ∷ block ∷ count ∷ index ∷ base ∷ unit ∷ rest

-- The live words that hold these bytes from a byte address on.
pub record HoldsBytes (live : List ℕ) (address : ℤ) (bytes : List ℕ) : Type 0 where
  pub each : (k b : ℕ) → slice_get bytes k ≡ Some b → live_byte_at live (address +ℤ pos k) ≡ Some b

-- The live words with a live byte at each of these many addresses from one on.
pub record HasBytes (live : List ℕ) (address : ℤ) (count : ℕ) : Type 0 where
  pub each : (k : ℕ) → k < count → IsSome (live_byte_at live (address +ℤ pos k))

-- The live words before and after bytes were put from a byte address on, each once and in order.
-- Each other byte is as before.
pub record TakesBytes (old : List ℕ) (address : ℤ) (bytes new : List ℕ) : Type 0 where
  pub held : HoldsBytes new address bytes
  pub others : (a : ℤ) → ((k : ℕ) → k < length bytes → a ≢ address +ℤ pos k)
      → live_byte_at new a ≡ live_byte_at old a

-- The input that goes on with these bytes after the first `read` ones.
pub record GoesOnWith (x : List ℕ) (read : ℕ) (bytes : List ℕ) : Type 0 where
  pub next : IsPrefix bytes (drop read x)
  pub small : All (λ b. b < 256) bytes
