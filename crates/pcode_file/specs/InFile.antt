-- A whole code file and its parts, as facts without an order of checks.
use Rattle.std.specs.Prelude.{◌≡◌, ◌≢◌, ℕ, ◌+◌, ◌-◌, ◌*◌, ◌%◌, ◌<◌, ◌≤◌, ◌^◌, ◌⊎◌, List, length, Some, slice_get, slice_index, slice_range}
use Rattle.pcode_file.specs.declared.layout.TheConstants.{BLOCK_BYTES, ENTRIES, LAST_LEVEL}
use Rattle.pcode_file.specs.declared.file.Proc.{Proc}
use Rattle.pcode_file.specs.Parts.{Parts, word, end_of, name_at}

-- The lex level of procedure `i`: 0 for procedure 1, and 1 to 127 for another.
abbrev pub IsLevel : ℕ → ℕ → Type 0
IsLevel i level = ((i ≡ 1) × (level ≡ 0)) ⊎ ((i ≢ 1) × (0 < level) × (level ≤ LAST_LEVEL))

-- The facts of procedure `i` of `n` whose attribute table is at `t`.
-- Source: Manual, attribute tables.
pub record HasTable (segment : List ℕ) (n i t : ℕ) : Type 0 where
  pub pointer : t + word segment (length segment - 2 - 2 * i) ≡ length segment - 2 - 2 * i
  pub even : t % 2 ≡ 0
  pub above : 8 ≤ t
  pub below : t + 4 + 2 * n ≤ length segment
  pub counted : 0 < i
  pub number : slice_index segment t ≡ i
  pub level : IsLevel i (slice_index segment (t + 1))
  pub params : word segment (t - 6) % 2 ≡ 0
  pub vars : word segment (t - 8) % 2 ≡ 0

-- The self-relative pointer at a place, which leads to `x`, from `low` up to `end`.
-- Source: Manual, attribute tables.
pub record Points (segment : List ℕ) (place low end x : ℕ) : Type 0 where
  pub leads : x + word segment place ≡ place
  pub above : low ≤ x
  pub below : x < end

-- The place at which a procedure's part begins: after the greatest table below its own, or at 0.
-- Source: Manual, attribute tables.
pub record BeginsAt (procs : List Proc) (table low : ℕ) : Type 0 where
  pub tables : (k : ℕ) (q : Proc) → slice_get procs k ≡ Some q → q.jtab < table → q.jtab + 2 ≤ low
  pub first : (low ≡ 0)
      ⊎ ((k : ℕ) × (q : Proc) × (slice_get procs k ≡ Some q) × (q.jtab < table)
      × (low ≡ q.jtab + 2))

-- The facts of procedure `i` of `n`, which is `q` and whose part begins where `q` says.
-- Source: Manual, attribute tables.
pub record HasProc (segment : List ℕ) (n i : ℕ) (q : Proc) : Type 0 where
  pub table : HasTable segment n i q.jtab
  pub number : q.number ≡ i
  pub level : q.level ≡ slice_index segment (q.jtab + 1)
  pub params : 2 * q.params ≡ word segment (q.jtab - 6)
  pub vars : 2 * q.vars ≡ word segment (q.jtab - 8)
  pub room : q.low ≤ end_of q
  pub enter : Points segment (q.jtab - 2) q.low (end_of q) q.enter
  pub exit : Points segment (q.jtab - 4) q.low (end_of q) q.exit

-- The procedures of a segment, all of them, in the order of their numbers.
-- Source: Manual, attribute tables.
pub record AreProcs (segment : List ℕ) (procs : List Proc) : Type 0 where
  pub some : 0 < length procs
  pub dictionary : 2 + 2 * length procs ≤ length segment
  pub each : (k : ℕ) (q : Proc) → slice_get procs k ≡ Some q
      → HasProc segment (length procs) (1 + k) q
  pub lows : (k : ℕ) (q : Proc) → slice_get procs k ≡ Some q → BeginsAt procs q.jtab q.low

-- The only entry of block 0 in use: `k`.
-- Source: Manual, code files.
pub record IsOnlyEntry (bytes : List ℕ) (k : ℕ) : Type 0 where
  pub within : k < ENTRIES
  pub used : 0 < word bytes (4 * k + 2)
  pub others : (j : ℕ) → j < ENTRIES → j ≢ k → word bytes (4 * j + 2) ≡ 0

-- The facts of a file whose entry `k` has the parts.
-- Source: Manual, code files.
pub record InEntry (bytes : List ℕ) (k : ℕ) (p : Parts) : Type 0 where
  pub long : BLOCK_BYTES ≤ length bytes
  pub only : IsOnlyEntry bytes k
  pub linked : word bytes (192 + 2 * k) ≡ 0
  pub start : 0 < word bytes (4 * k)
  pub ends : BLOCK_BYTES * word bytes (4 * k) + word bytes (4 * k + 2) ≤ length bytes
  pub even : word bytes (4 * k + 2) % 2 ≡ 0
  pub name : p.name ≡ name_at bytes k
  pub segment : p.segment
      ≡ slice_range bytes (BLOCK_BYTES * word bytes (4 * k))
      (BLOCK_BYTES * word bytes (4 * k) + word bytes (4 * k + 2))
  pub number : p.number ≡ slice_index p.segment (length p.segment - 2)
  pub count : length p.procs ≡ slice_index p.segment (length p.segment - 1)
  pub procs : AreProcs p.segment p.procs

-- The bytes of a code file with these parts.
-- They are facts, in no order of checks.
-- Allows: any number of procedures.
-- Source: Manual, code files and attribute tables.
abbrev pub InFile : List ℕ → Parts → Type 0
InFile bytes p = (k : ℕ) × InEntry bytes k p

-- The invariant of the parts of each code file that was read.
pub record IsWhole (p : Parts) : Type 0 where
  pub size : length p.segment < 2 ^ 16
  pub few : length p.procs < 2 ^ 8
  pub procs : AreProcs p.segment p.procs
