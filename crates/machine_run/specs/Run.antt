-- What a run of a program does to a reader and a writer.
use Rattle.std.specs.Prelude.{◌≡◌, ◌≢◌, ℕ, ◌+◌, ◌<◌, List, [], ◌∷◌, ◌++◌, length, Option, Some, None, Result, Ok, Err}
use Rattle.std.specs.Option.{option_to_list}
use Rattle.std.specs.Io.KnownBytes.{IsAtEnd}
use Rattle.base.specs.Calls.{Mut}
use Rattle.pcode_file.specs.Parts.{Parts}
use Rattle.pcode_machine.specs.declared.turn.End.{End}
use Rattle.pcode_machine.specs.declared.turn.End.TheVariants as ends
use Rattle.pcode_machine.specs.Configuration.{State, configuration_of}
use Rattle.pcode_machine.specs.Transition.{transition, Goes, Stops, Waiting}
use Rattle.pcode_machine.specs.Runs.{after_steps, out, LeadsIn}
use Rattle.pcode_machine.specs.Turns.{AreQuiet, EndsBy, Makes, WaitsOn}
use Rattle.machine_run.specs.declared.run.Finish.{Finish}
use Rattle.machine_run.specs.declared.run.Finish.TheVariants as finish
use Rattle.machine_run.specs.declared.run.RunIo.{RunIo}
use Rattle.machine_run.specs.declared.run.RunIo.TheVariants as io
use Rattle.machine_run.specs.Streams.{Streams, HasMoved, HasNoFault, HasReadFault, HasWriteFault}

-- A run of n steps on an input, which exist and have taken all of it.
pub record HasRunOn (p : Parts) (input : List ℕ) (n : ℕ) : Type 0 where
  pub made : LeadsIn p input n (after_steps p input n)
  pub taken : (after_steps p input n).read ≡ length input

-- Why a run of at most `steps` steps was over after n of them.
abbrev pub IsRunOver : Parts → Option (List ℕ) → List ℕ → ℕ → ℕ → Finish → Type 0
IsRunOver p r input n steps finish.Steps = n ≡ steps
IsRunOver p r input n steps finish.Normal =
    (n < steps) × (transition p input (after_steps p input n) ≡ Stops ends.Normal)
IsRunOver p r input n steps (finish.Error e) =
    (n < steps) × (e ≢ ends.Normal) × (transition p input (after_steps p input n) ≡ Stops e)
IsRunOver p r input n steps finish.Waits =
    (n < steps) × (transition p input (after_steps p input n) ≡ Waiting) × IsAtEnd r

-- A run that is over and met no fault.
-- Its `n` steps took exactly the bytes that were read, and exactly their output was written. No
-- fault was counted. It is `Steps` exactly if all allowed steps were made, `Normal` or `Error` only
-- at that end, and `Waits` only if the reader has ended and the machine waits.
pub record Finishes (p : Parts) (from to : Streams) (steps : ℕ) (f : Finish) : Type 0 where
  pub input : List ℕ
  pub n : ℕ
  pub run : HasRunOn p input n
  pub moved : HasMoved from to input (out p input n)
  pub faultless : HasNoFault from to
  pub over : IsRunOver p to.reader input n steps f

-- A run that ended at a failed read, while the machine waited.
-- Fewer steps than were allowed took exactly the bytes that were read, and exactly their output was
-- written. One more failed read was counted, and no failed write.
pub record FailsToRead (p : Parts) (from to : Streams) (steps : ℕ) : Type 0 where
  pub input : List ℕ
  pub n : ℕ
  pub few : n < steps
  pub run : HasRunOn p input n
  pub moved : HasMoved from to input (out p input n)
  pub waits : transition p input (after_steps p input n) ≡ Waiting
  pub fault : HasReadFault from to

-- A run that ended at a failed write, of the byte that the next step writes.
-- Fewer steps than were allowed were made, and exactly their output was written. They took exactly
-- the bytes that were read, except one that the next step takes, if it takes one. One more failed
-- write was counted, and no failed read.
pub record FailsToWrite (p : Parts) (from to : Streams) (steps : ℕ) : Type 0 where
  pub input : List ℕ
  pub n : ℕ
  pub few : n < steps
  pub run : HasRunOn p input n
  pub took : Option ℕ
  pub byte : ℕ
  pub state : State
  pub next : transition p (input ++ option_to_list took) (after_steps p input n)
      ≡ Goes (configuration_of state (length input + length (option_to_list took))
      (out p input n ++ byte ∷ []))
  pub moved : HasMoved from to (input ++ option_to_list took) (out p input n)
  pub fault : HasWriteFault from to

-- A run of at most `steps` steps from one moment of a reader and a writer to another, for each
-- answer.
-- Allows: that memory runs out; then nothing has happened.
-- Forbids: output that is not of the steps, and a finish that the machine has not reached.
abbrev pub RunsFrom : Parts → Streams → Streams → ℕ → Result Finish RunIo → Type 0
RunsFrom p from to steps (Ok f) = Finishes p from to steps f
RunsFrom p from to steps (Err io.Memory) = to ≡ from
RunsFrom p from to steps (Err io.Read) = FailsToRead p from to steps
RunsFrom p from to steps (Err io.Write) = FailsToWrite p from to steps

-- What a run of at most `steps` steps does to a reader and a writer, by what is `known` of them.
abbrev pub RunsProgram : {R W : Type 0} → (R → W → Streams) → Parts → Mut R → Mut W → ℕ
    → Result Finish RunIo → Type 0
RunsProgram known p reader writer steps result =
    RunsFrom p (known reader.entry.now writer.entry.now) (known reader.exit.now writer.exit.now)
    steps result

-- ---- one stretch of the run, as the machine's state sees it

-- The reason of the machine's why no step is made.
abbrev pub HaltsFor : Parts → State → Option (List ℕ) → Finish → Type 0
HaltsFor p s r finish.Normal = EndsBy p s ends.Normal
HaltsFor p s r (finish.Error e) = EndsBy p s e × (e ≢ ends.Normal)
HaltsFor p s r finish.Waits = WaitsOn p s × IsAtEnd r
HaltsFor p s r finish.Steps = ⊥

-- A stretch of at most `most` steps that is over after n: all were made, or the machine makes none.
abbrev pub IsOverAfter : Parts → ℕ → ℕ → State → Option (List ℕ) → Finish → Type 0
IsOverAfter p most n s r finish.Steps = n ≡ most
IsOverAfter p most n s r finish.Normal = (n < most) × HaltsFor p s r finish.Normal
IsOverAfter p most n s r (finish.Error e) = (n < most) × HaltsFor p s r (finish.Error e)
IsOverAfter p most n s r finish.Waits = (n < most) × HaltsFor p s r finish.Waits

-- A byte that could not be written, of a step that takes the byte that was read, if one was.
pub record LosesByte (p : Parts) (old new : State) (from to : Streams) : Type 0 where
  pub took : Option ℕ
  pub byte : ℕ
  pub makes : Makes p old new (option_to_list took) (byte ∷ [])
  pub moved : HasMoved from to (option_to_list took) []
  pub fault : HasWriteFault from to

-- One stretch of the run, of at most `most` steps.
-- Some steps read and write nothing. Then one takes or writes a byte, or the run is over, or a
-- fault ends it.
abbrev pub Stretches : Parts → ℕ → State → State → Streams → Streams
    → Result (ℕ × Option Finish) RunIo → Type 0
Stretches p most old new from to (Ok (n, None)) =
    (k : ℕ) × (mid : State) × (took : List ℕ) × (wrote : List ℕ) × (n ≡ k + 1) × (k < most)
    × AreQuiet p k old mid × Makes p mid new took wrote
    × HasMoved from to took wrote × HasNoFault from to
Stretches p most old new from to (Ok (n, Some f)) =
    AreQuiet p n old new × IsOverAfter p most n new to.reader f × HasMoved from to [] []
    × HasNoFault from to
Stretches p most old new from to (Err io.Memory) = ⊥
Stretches p most old new from to (Err io.Read) =
    (k : ℕ) × (k < most) × AreQuiet p k old new × WaitsOn p new × HasMoved from to [] []
    × HasReadFault from to
Stretches p most old new from to (Err io.Write) =
    (k : ℕ) × (mid : State) × (k < most) × AreQuiet p k old mid × LosesByte p mid new from to

-- The state after n steps on some input, without a fault.
pub record Reached (p : Parts) (from to : Streams) (n : ℕ) (s : State) : Type 0 where
  pub input : List ℕ
  pub output : List ℕ
  pub made : LeadsIn p input n (configuration_of s (length input) output)
  pub moved : HasMoved from to input output
  pub faultless : HasNoFault from to

-- The finish of a run whose program has ended.
abbrev pub finish_of : End → Finish
finish_of ends.Normal = finish.Normal
finish_of (ends.Error number procedure at) = finish.Error (ends.Error number procedure at)
