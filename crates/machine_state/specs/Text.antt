-- The text of a configuration in which a program has halted.
use Rattle.std.specs.Prelude.{ℕ, List, [], ◌∷◌, ◌++◌, flat_map, length, codes, decimal, Option, Some, None}
use Rattle.std.specs.Fmt.{signed_decimal}
use Rattle.pcode_frames.specs.declared.frame.Frame.{Frame}
use Rattle.pcode_machine.specs.declared.turn.Direction.{Direction}
use Rattle.pcode_machine.specs.declared.turn.Direction.TheVariants.{Reading, Writing}
use Rattle.pcode_machine.specs.declared.turn.Transfer.{Transfer}
use Rattle.pcode_machine.specs.declared.turn.End.{End}
use Rattle.pcode_machine.specs.declared.turn.End.TheVariants as ends
use Rattle.pcode_machine.specs.Configuration.{State, Configuration}

-- A space and a number in decimal digits.
unfoldable pub spaced : ℕ → List ℕ
spaced n = codes " " ++ decimal n

-- A line: a word, and then numbers.
unfoldable pub line : List ℕ → List ℕ → List ℕ
line word numbers = word ++ flat_map spaced numbers ++ codes "\n"

-- The line of how a program ended.
unfoldable pub ended_line : End → List ℕ
ended_line ends.Normal = codes "ends normal\n"
ended_line (ends.Error number procedure at) =
    codes "ends error " ++ decimal number ++ codes " procedure " ++ decimal procedure
    ++ codes " at " ++ decimal at ++ codes "\n"

-- The line of how a program ended, or that it waits.
abbrev pub end_line : Option End → List ℕ
end_line None = codes "ends waits\n"
end_line (Some end) = ended_line end

-- The word of a direction.
abbrev pub direction_word : Direction → List ℕ
direction_word Reading = codes "reading"
direction_word Writing = codes "writing"

-- The line of the bytes that are still to be moved, if there are any.
unfoldable pub transfer_line : Option Transfer → List ℕ
transfer_line None = []
transfer_line (Some t) =
    codes "pending " ++ direction_word t.direction ++ spaced t.unit
    ++ codes " " ++ signed_decimal t.address ++ spaced t.left ++ spaced t.at ++ codes "\n"

-- The line of a frame.
unfoldable pub frame_line : Frame → List ℕ
frame_line f =
    line (codes "frame") (f.procedure ∷ f.base ∷ f.size ∷ f.link ∷ f.back ∷ [])

-- The lines of a state.
-- The frames are the main frame first. The stack is its top first, and memory is its live words,
-- from word 1 on.
abbrev pub state_lines : State → List ℕ
state_lines s =
    line (codes "ioresult") (s.io_result ∷ []) ++ line (codes "next") (s.next ∷ [])
    ++ transfer_line s.transfer ++ flat_map frame_line s.frames
    ++ line (codes "stack") s.stack ++ line (codes "memory") s.words

-- The text of a configuration and of how the program ended in it, if it did not wait.
abbrev pub state_text : Option End → ℕ → ℕ → State → List ℕ
state_text end read wrote s =
    codes "state 1\n" ++ end_line end ++ line (codes "read") (read ∷ [])
    ++ line (codes "wrote") (wrote ∷ []) ++ state_lines s

-- The text of a configuration: of its state, and of how many bytes it has read and written.
abbrev pub configuration_text : Option End → Configuration → List ℕ
configuration_text end c = state_text end c.read (length c.output) c.state

-- A state with these frames, this next offset and this transfer in place of its own.
abbrev pub state_with : List Frame → ℕ → Option Transfer → State → State
state_with frames next transfer s =
    record s { frames = frames; next = next; transfer = transfer }
