-- What a search has found so far: a flag for each offset, and the flagged offsets in the order in
-- which they were found.
use Rattle.std.specs.Prelude.{◌≡◌, ℕ, ◌+◌, ◌*◌, ◌^◌, ◌<◌, ◌≤◌, Bool, true, false, IsTrue, ◌⊎◌, ◌↔◌, List, [], ◌∷◌, cond, length, replicate, All, IfSome, slice_get, slice_index_or, Some, Ok}
use Rattle.pcode_file.specs.declared.file.Proc.{Proc}
use Rattle.pcode_file.specs.InFile.{AreProcs}
use Rattle.pcode_file.specs.Parts.{Parts}
use Rattle.pcode_ops.specs.declared.fault.LoadFault.{LoadFault}
use Rattle.pcode_ops.specs.declared.loading.Onward.{Onward}
use Rattle.pcode_ops.specs.declared.instr.Instr.{Instr}
use Rattle.pcode_ops.specs.declared.instr.Instr.TheVariants.{Xjp}
use Rattle.pcode_ops.specs.At.{cases}
use Rattle.pcode_ops.specs.Loading.{is_in, look, LeadsTo, IsFaulty, IsFine}
use Rattle.pcode_ops.specs.Reach.{Reach, IsLoadable}

-- The facts of a part in a segment of `size` bytes: its table lies there, and ENTER and EXIT in the
-- part.
pub record IsPartWithin (size : ℕ) (q : Proc) : Type 0 where
  pub above : 8 ≤ q.jtab
  pub below : q.jtab + 2 ≤ size
  pub enter : IsTrue (is_in q q.enter)
  pub exit : IsTrue (is_in q q.exit)

-- The facts of a part in a segment of fewer than 65,536 bytes.
pub record IsPartOf (segment : List ℕ) (q : Proc) : Type 0 where
  pub within : IsPartWithin (length segment) q
  pub size : length segment < 2 ^ 16

-- The parts of procedures, all in a segment of `size` bytes.
abbrev pub AreParts : ℕ → List Proc → Type 0
AreParts size procs = All (IsPartWithin size) procs

-- The facts of where an instruction leads in a segment: its offsets and its case table lie there.
pub record IsWithin (segment : List ℕ) (o : Onward) : Type 0 where
  pub next : IfSome o.next (λ j. j < length segment)
  pub target : IfSome o.target (λ j. j < length segment)
  pub table : o.table + 2 * o.count ≤ length segment

-- The claim that the table of a case jump lies in `size` bytes, after its UJP.
-- Allows: an instruction other than XJP.
abbrev pub IsTableIn : ℕ → Instr → Type 0
IsTableIn size (Xjp low high sb table) = (2 ≤ table) × (table + 2 * cases low high ≤ size)
IsTableIn size _ = Unit {0}

-- The flags of all offsets, and the flagged offsets in the order in which they were found.
pub record Marks : Type 0 where
  pub flags : List Bool
  pub found : List ℕ

-- The marks of a walk over `size` offsets that has found nothing.
abbrev pub blank_marks : ℕ → Marks
blank_marks size = record { flags = replicate size false; found = [] }

-- The marks of a walk over a file: a flag for each offset of its segment.
abbrev pub IsWalkOf : Parts → Marks → Type 0
IsWalkOf p m = length m.flags ≡ length p.segment

-- The number of flags that are set.
abbrev pub flagged : List Bool → ℕ
flagged [] = 0
flagged (b ∷ bs) = cond b 1 0 + flagged bs

-- The flagged offsets.
abbrev pub IsMarked : Marks → ℕ → Type 0
IsMarked m i = slice_index_or m.flags i false ≡ true

-- The invariant that each flagged offset was found once, and each found one is flagged.
pub record IsListing (m : Marks) : Type 0 where
  pub listed : (i : ℕ) → IsMarked m i → (k : ℕ) × (slice_get m.found k ≡ Some i)
  pub marked : (k i : ℕ) → slice_get m.found k ≡ Some i → IsMarked m i
  pub distinct : (j k i : ℕ) → slice_get m.found j ≡ Some i → slice_get m.found k ≡ Some i → j ≡ k
  pub count : flagged m.flags ≡ length m.found

-- The invariant of a walk: there is room to find each offset.
pub record IsRoomy (m : Marks) (places capacity : ℕ) : Type 0 where
  pub listing : IsListing m
  pub size : places ≡ length m.flags
  pub room : places ≤ capacity

-- The step from marks to those with the offsets of `P` too, found after the others.
-- Forbids: marking any other offset.
pub record Adds (P : ℕ → Type 0) (old new : Marks) : Type 0 where
  pub size : length new.flags ≡ length old.flags
  pub kept : (i : ℕ) → IsMarked old i → IsMarked new i
  pub added : (i : ℕ) → P i → IsMarked new i
  pub only : (i : ℕ) → IsMarked new i → IsMarked old i ⊎ P i
  pub longer : length old.found ≤ length new.found
  pub front : (k : ℕ) → k < length old.found → slice_get new.found k ≡ slice_get old.found k

-- The marks of ENTER and EXIT of the first `n` procedures, and of reached offsets alone.
pub record IsStarted (p : Parts) (n : ℕ) (m : Marks) : Type 0 where
  pub size : IsWalkOf p m
  pub sound : (i : ℕ) → IsMarked m i → Reach p i
  pub starts : (k : ℕ) (q : Proc) → k < n → slice_get p.procs k ≡ Some q
      → IsMarked m q.enter × IsMarked m q.exit

-- The marks of a search that has looked at the first `done` offsets that it found: where they lead
-- is marked.
pub record IsSearch (p : Parts) (done : ℕ) (m : Marks) : Type 0 where
  pub started : IsStarted p (length p.procs) m
  pub within : done ≤ length m.found
  pub closed : (k i j : ℕ) (o : Onward) → k < done → slice_get m.found k ≡ Some i → look p i ≡ Ok o
      → LeadsTo p.segment o j → IsMarked m j

-- The marks of exactly the reached offsets.
abbrev pub MarksReached : Parts → Marks → Type 0
MarksReached p m = (i : ℕ) → IsMarked m i ↔ Reach p i

-- The least marked offset that is faulty, with its first fault.
pub record IsFirstFault (p : Parts) (m : Marks) (f : LoadFault) : Type 0 where
  pub marked : IsMarked m f.at
  pub faulty : IsFaulty p f.at f.fault
  pub least : (i : ℕ) → i < f.at → IsMarked m i → IsFine p i

-- The invariant of a program's file and marks.
pub record IsProgram (p : Parts) (m : Marks) : Type 0 where
  pub exact : MarksReached p m
  pub loadable : IsLoadable p
  pub size : length m.flags < 2 ^ 16
  pub procs : AreProcs p.segment p.procs
