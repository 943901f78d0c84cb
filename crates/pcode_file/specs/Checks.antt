-- A code file, read by its checks in their order.
use Rattle.std.specs.Prelude.{◌≡◌, ℕ, zero, suc, ◌+◌, ◌-◌, ◌*◌, ◌/◌, ◌%◌, max, nat_lt, nat_le, ◌==◌, ◌&&◌, ◌||◌, not, if◌then◌else◌, Bool, ◌⊎◌, List, [], ◌∷◌, length, Option, Some, None, Result, Ok, Err, IsOk, slice_index, slice_range}
use Rattle.pcode_file.specs.declared.layout.TheConstants.{BLOCK_BYTES, ENTRIES, LAST_LEVEL}
use Rattle.base.specs.Steps.{◌>>=◌, unless}
use Rattle.pcode_file.specs.declared.fault.FileFault.{FileFault}
use Rattle.pcode_file.specs.declared.fault.FileFault.TheVariants.{Short, NoSegment, SeveralSegments, Unlinked, SegmentRange, DictionaryRange, AttributeRange, Native, Level, OddSize, Memory}
use Rattle.pcode_file.specs.declared.file.Proc.{Proc}
use Rattle.pcode_file.specs.Parts.{Parts, word, name_at}

-- A result, its value seen through `view`.
abbrev pub seen : {A B : Type 0} → (A → B) → Result A FileFault → Result B FileFault
seen view (Ok x) = Ok (view x)
seen view (Err e) = Err e

-- ---- Checks 1 and 2: the one entry in use, and the segment's bytes.

-- The first entry in use among `n` from entry `k` on.
unfoldable pub used_from : List ℕ → ℕ → ℕ → Option ℕ
used_from bytes k zero = None
used_from bytes k (suc n) =
    if word bytes (4 * k + 2) == 0 then used_from bytes (k + 1) n else Some k

-- The entry `k`, unless another one is in use.
abbrev pub alone : ℕ → Option ℕ → Result ℕ FileFault
alone k None = Ok k
alone k (Some j) = Err SeveralSegments

-- The first entry in use, if no later one is.
abbrev pub first_alone : List ℕ → Option ℕ → Result ℕ FileFault
first_alone bytes None = Err NoSegment
first_alone bytes (Some k) = alone k (used_from bytes (k + 1) (ENTRIES - (k + 1)))

-- The one entry of block 0 that is in use, or why there is none.
-- Source: Manual, code files.
unfoldable pub entry_of : List ℕ → Result ℕ FileFault
entry_of bytes = first_alone bytes (used_from bytes 0 ENTRIES)

-- The entry `k` and the `len` bytes from `start` on, if they lie in the file after block 0 and
-- `len` is even.
abbrev pub bytes_of : List ℕ → ℕ → ℕ → ℕ → Result (ℕ × List ℕ) FileFault
bytes_of bytes k start len =
    if (start == 0) || nat_lt (length bytes) (start + len) then Err SegmentRange
    else if len % 2 == 0 then Ok (k, slice_range bytes start (start + len))
    else Err (OddSize 0)

-- The entry `k` and its segment's bytes, if its kind is linked.
abbrev pub linked_entry : List ℕ → ℕ → Result (ℕ × List ℕ) FileFault
linked_entry bytes k =
    if word bytes (192 + 2 * k) == 0
    then bytes_of bytes k (BLOCK_BYTES * word bytes (4 * k)) (word bytes (4 * k + 2))
    else Err Unlinked

-- The entry in use and the segment's bytes, or the first check that fails.
-- Source: Manual, code files.
unfoldable pub segment_of : List ℕ → Result (ℕ × List ℕ) FileFault
segment_of bytes =
    if nat_lt (length bytes) BLOCK_BYTES then Err Short else (entry_of bytes >>= linked_entry bytes)

-- ---- Check 3: the number of procedures.

-- The number of the segment's procedures, if there are some and the segment holds the dictionary.
abbrev pub procedure_count : List ℕ → Result ℕ FileFault
procedure_count segment =
    let n = slice_index segment (length segment - 1) in
    unless DictionaryRange ((n == 0) || nat_lt (length segment) (2 + 2 * n)) n

-- ---- Check 4 of procedure i: its attribute table, whose place is the result.

-- The place of procedure `i`'s attribute table; 0, where no table lies, if it leads below the
-- segment.
abbrev pub table_of : List ℕ → ℕ → ℕ
table_of segment i = length segment - 2 - 2 * i - word segment (length segment - 2 - 2 * i)

-- The test that procedure `i` may have the lex level: 0 for procedure 1, 1 to 127 for another.
abbrev pub is_level : ℕ → ℕ → Bool
is_level i level = if i == 1 then level == 0 else (nat_lt 0 level && nat_le level LAST_LEVEL)

-- The table's place `t`, if the table there is one of procedure `i` of `n`; or the first check that
-- fails.
abbrev pub table_from : List ℕ → ℕ → ℕ → ℕ → Result ℕ FileFault
table_from segment n i t =
    if not (t % 2 == 0) || nat_lt t 8 || nat_lt (length segment - 2 - 2 * n) (t + 2)
    then Err (AttributeRange i)
    else if slice_index segment t == 0 then Err (Native i)
    else if not (slice_index segment t == i) then Err (AttributeRange i)
    else if not (is_level i (slice_index segment (t + 1))) then Err (Level i)
    else if not (word segment (t - 6) % 2 == 0) || not (word segment (t - 8) % 2 == 0)
    then Err (OddSize i)
    else Ok t

-- The place of the attribute table of procedure `i` of `n`, or the first check that it fails.
-- Source: Manual, attribute tables. The order of the checks is this project's.
unfoldable pub table_at : List ℕ → ℕ → ℕ → Result ℕ FileFault
table_at segment n i = table_from segment n i (table_of segment i)

-- ---- Check 5 of procedure i: its part. The procedure is the result.

-- The place after a table that lies below `at`, or 0.
abbrev pub past_table : ℕ → ℕ → ℕ
past_table table at = if nat_lt table at then table + 2 else 0

-- The place after the greatest table below `at` among those of `n` procedures from `i` on, or 0.
abbrev pub low_from : List ℕ → ℕ → ℕ → ℕ → ℕ
low_from segment at i zero = 0
low_from segment at i (suc n) =
    max (past_table (table_of segment i) at) (low_from segment at (i + 1) n)

-- The place at which the part of the procedure with its table at `at` begins.
abbrev pub low_of : List ℕ → ℕ → ℕ → ℕ
low_of segment n at = low_from segment at 1 n

-- The place to which the self-relative pointer at a place leads, if it lies from `low` up to `end`.
abbrev pub pointer_of : List ℕ → ℕ → ℕ → ℕ → Option ℕ
pointer_of segment place low end =
    if nat_lt place (word segment place) then None
    else if nat_lt (place - word segment place) low then None
    else if nat_le end (place - word segment place) then None
    else Some (place - word segment place)

-- The place that a pointer of procedure `i` leads to, or its fault.
abbrev pub within_part : ℕ → Option ℕ → Result ℕ FileFault
within_part i None = Err (AttributeRange i)
within_part i (Some x) = Ok x

-- The procedure `i` with its table at `at` and its part from `low` on, by the table's words and the
-- places to which its pointers lead.
abbrev pub proc_of_table : List ℕ → ℕ → ℕ → ℕ → ℕ → ℕ → Proc
proc_of_table segment i at low enter exit = record {
  number = i;
  level = slice_index segment (at + 1);
  enter = enter;
  exit = exit;
  jtab = at;
  low = low;
  params = word segment (at - 6) / 2;
  vars = word segment (at - 8) / 2;
}

-- The procedure `i` with its table at `at` and its part from `low` on, or its fault.
abbrev pub proc_from : List ℕ → ℕ → ℕ → ℕ → Result Proc FileFault
proc_from segment i at low =
    if nat_lt (at - 8) low then Err (AttributeRange i) else
    (within_part i (pointer_of segment (at - 2) low (at - 8)) >>= λ enter.
    within_part i (pointer_of segment (at - 4) low (at - 8)) >>= λ exit.
    Ok (proc_of_table segment i at low enter exit))

-- The procedure `i` of `n`, or the first check that it fails.
-- Source: Manual, attribute tables. The order of the checks is this project's.
unfoldable pub proc_at : List ℕ → ℕ → ℕ → Result Proc FileFault
proc_at segment n i = table_at segment n i >>= λ at. proc_from segment i at (low_of segment n at)

-- ---- Over n procedures from i on.

-- All results of `f` for `n` procedures from `i` on, or the first fault.
unfoldable pub all_of : {A : Type 0} → (ℕ → Result A FileFault) → ℕ → ℕ → Result (List A) FileFault
all_of f i zero = Ok []
all_of f i (suc n) = f i >>= λ x. all_of f (i + 1) n >>= λ xs. Ok (x ∷ xs)

-- The first fault of `f` for `n` procedures from `i` on, if there is one.
unfoldable pub first_of : {A : Type 0} → (ℕ → Result A FileFault) → ℕ → ℕ → Result Unit FileFault
first_of f i zero = Ok tt
first_of f i (suc n) = f i >>= λ x. first_of f (i + 1) n

-- ---- The whole file.

-- The parts of a code file, read by its checks in their order, or the first check that fails.
-- The fourth check passes for all procedures before the fifth begins.
-- Source: Manual, code files. The order of the checks is this project's.
unfoldable pub read_from : List ℕ → Result Parts FileFault
read_from bytes =
    segment_of bytes >>= λ s.
    procedure_count s.1 >>= λ n.
    first_of (table_at s.1 n) 1 n >>= λ _.
    all_of (proc_at s.1 n) 1 n >>= λ procs.
    Ok (record {
      name = name_at bytes s.0;
      segment = s.1;
      number = slice_index s.1 (length s.1 - 2);
      procs = procs;
    })

-- The facts of a file that passed all checks: entry `k` is in use, and its segment has `n`
-- procedures.
pub record IsChecked (bytes : List ℕ) (k : ℕ) (segment : List ℕ) (n : ℕ) : Type 0 where
  pub entry : segment_of bytes ≡ Ok (k, segment)
  pub counted : procedure_count segment ≡ Ok n
  pub tables : first_of (table_at segment n) 1 n ≡ Ok tt
  pub procs : first_of (proc_at segment n) 1 n ≡ Ok tt

-- The relation of an answer and what reading gives: they are the same, or memory ran out.
-- Forbids: lack of memory in place of a check that fails.
abbrev pub GivesUnlessMemory : {X : Type 0} → Result X FileFault → Result X FileFault → Type 0
GivesUnlessMemory (Ok x) read = read ≡ Ok x
GivesUnlessMemory (Err e) read = ((e ≡ Memory) × IsOk read) ⊎ (read ≡ Err e)
