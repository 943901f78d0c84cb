-- The text of the configuration in which the original of a frozen program waits.
use Rattle.std.specs.Prelude.{◌≡◌, ℕ, ◌+◌, List, length, Option, Some, None}
use Rattle.pcode_file.specs.Parts.{Parts}
use Rattle.pcode_file.specs.InFile.{InFile}
use Rattle.pcode_ops.specs.Reach.{IsLoadable}
use Rattle.pcode_frames.specs.declared.frame.Frame.{Frame}
use Rattle.pcode_machine.specs.Configuration.{Configuration}
use Rattle.machine_state.specs.Halt.{IsSpent}
use Rattle.machine_state.specs.Text.{state_text}
use Rattle.pcode_frozen.specs.declared.pairs.Pair.{Pair}
use Rattle.pcode_frozen.specs.Originals.{original_of}
use Rattle.machine_frozen.specs.Goes.{GoesOnAs}
use Rattle.machine_frozen.specs.Trailer.{HasTrailer}

-- The program of these bytes.
abbrev pub IsProgramOf : List ℕ → Parts → Type 0
IsProgramOf bytes p = InFile bytes p × IsLoadable p

-- A frozen code file with the program `q`, whose original is the program `p`.
-- The original had read `read` bytes and written `wrote` when it was frozen.
-- Forbids: another original than the file's, and other numbers than its trailer's.
pub record IsFrozenFile (bytes : List ℕ) (p q : Parts) (read wrote : ℕ) : Type 0 where
  pub rows : List ℕ
  pub file : List ℕ
  pub trailer : HasTrailer bytes rows file read wrote
  pub original : IsProgramOf file p
  pub frozen : IsProgramOf bytes q

-- The text of the configuration of `p` that goes with the one in which `q` waits on `input`.
-- `p` had read `read` bytes and written `wrote` before `q` began.
pub record IsTextAfter (p q : Parts) (input : List ℕ) (steps read wrote : ℕ) (text : List ℕ)
    : Type 0 where
  pub pairs : List Pair
  pub frames : List Frame
  pub next : ℕ
  pub at : ℕ
  pub d : Configuration
  pub goes : GoesOnAs p q pairs input steps (original_of frames next at d.state) d
  pub told : text
      ≡ state_text None (read + d.read) (wrote + length d.output)
      (original_of frames next at d.state)

-- The text for a frozen program and its original; none if the steps of the frozen one are spent.
abbrev pub IsAnswer : Parts → Parts → List ℕ → ℕ → ℕ → ℕ → Option (List ℕ) → Type 0
IsAnswer p q input steps read wrote None = IsSpent q input steps
IsAnswer p q input steps read wrote (Some text) = IsTextAfter p q input steps read wrote text

-- The same for a frozen code file.
pub record IsOriginalText (bytes input : List ℕ) (steps : ℕ) (text : Option (List ℕ)) : Type 0 where
  pub p : Parts
  pub q : Parts
  pub read : ℕ
  pub wrote : ℕ
  pub file : IsFrozenFile bytes p q read wrote
  pub answer : IsAnswer p q input steps read wrote text
