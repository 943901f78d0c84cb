-- The lines of a trace: what the calls of a node were. Their parts are nested to the right, as they
-- are printed.
use Rattle.std.specs.Prelude.{◌≡◌, ℕ, List, [], ◌++◌, Option, Some, None, codes, decimal}
use Rattle.std.specs.Net.Text.{socket_text}
use Rattle.digits.specs.Digits.{hex_text}
use Rattle.group_protocol.specs.declared.packet.To.{To}
use Rattle.group_protocol.specs.declared.packet.To.TheVariants as whom
use Rattle.group_log.specs.declared.traced.Call.{Call}
use Rattle.group_log.specs.declared.traced.Call.TheVariants as call
use Rattle.group_log.specs.declared.traced.Traced.{Traced}
use Rattle.group_log.specs.declared.traced.Traced.TheVariants.{Process, BeginsStart, BeginsHear, BeginsCampaign, StartedNew, Started, Heard, Pressed, Campaigned, Ticked, Ran, Released, Sent, Failed, Ended}
use Rattle.group_log.specs.Notes.{numbered_note}
use Rattle.group_log.specs.Recent.{IsNoted}

-- Whom a datagram is for.
abbrev pub receiver_text : To → List ℕ
receiver_text whom.All = codes "all"
receiver_text (whom.One node) = decimal node

-- The name of a call that may save.
abbrev pub call_text : Call → List ℕ
call_text call.Start = codes "start"
call_text call.Hear = codes "hear"
call_text call.Campaign = codes "campaign"

-- What a line says before its bytes.
abbrev pub traced_text : Traced → List ℕ
traced_text (Process node group) =
    numbered_note (codes "trace 2 node ") node
    (numbered_note (codes " size ") group.size (codes " session " ++ decimal group.session))
traced_text BeginsStart = codes "begin start"
traced_text (BeginsHear bytes) = codes "begin hear "
traced_text BeginsCampaign = codes "begin campaign"
traced_text StartedNew = codes "start -"
traced_text (Started bytes) = codes "start "
traced_text (Heard source bytes) = codes "hear " ++ (socket_text source ++ codes " ")
traced_text (Pressed byte) = codes "press " ++ decimal byte
traced_text Campaigned = codes "campaign"
traced_text Ticked = codes "tick"
traced_text (Ran steps) = codes "run " ++ decimal steps
traced_text (Released number byte) =
    numbered_note (codes "release ") number (codes " " ++ decimal byte)
traced_text (Sent to bytes) = codes "send " ++ (receiver_text to ++ codes " ")
traced_text (Failed which) = codes "failed " ++ call_text which
traced_text (Ended status) = codes "end " ++ decimal status

-- The bytes that a line ends with, if it has some.
abbrev pub bytes_traced : Traced → List ℕ
bytes_traced (BeginsHear bytes) = bytes.now
bytes_traced (Started bytes) = bytes.now
bytes_traced (Heard source bytes) = bytes.now
bytes_traced (Sent to bytes) = bytes.now
bytes_traced _ = []

-- The datagram that a line is about, if it is about one.
abbrev pub datagram_traced : Traced → Option (List ℕ)
datagram_traced (BeginsHear bytes) = Some bytes.now
datagram_traced (Heard source bytes) = Some bytes.now
datagram_traced (Sent to bytes) = Some bytes.now
datagram_traced _ = None

-- Bytes as a line ends with them: in hexadecimal digits, or as those that were written whole so
-- many datagrams back.
abbrev pub shown_bytes : Option ℕ → List ℕ → List ℕ
shown_bytes None bytes = hex_text bytes
shown_bytes (Some back) bytes = codes "=" ++ decimal back

-- A line of a trace: the time in milliseconds, what it says, and its bytes.
abbrev pub traced_line : ℕ → Traced → Option ℕ → List ℕ
traced_line millis traced back =
    (numbered_note (codes "@") millis (codes " " ++ traced_text traced))
    ++ (shown_bytes back (bytes_traced traced) ++ codes "\n")

-- Whether a line is the one for what it says after these datagrams, and which are the last ones
-- then.
-- Forbids: a datagram that is written whole though it was before; a record that is left out.
abbrev pub IsTraceLineFor : List (List ℕ) → ℕ → Traced → Option (List ℕ) → List ℕ
    → List (List ℕ) → Type 0
IsTraceLineFor old millis traced None line new =
    (line ≡ traced_line millis traced None) × (new ≡ old)
IsTraceLineFor old millis traced (Some bytes) line new =
    (back : Option ℕ) × IsNoted old bytes back new × (line ≡ traced_line millis traced back)

-- The line for what a trace says after these datagrams, and the last ones then.
abbrev pub IsTraceLine : List (List ℕ) → ℕ → Traced → List ℕ → List (List ℕ) → Type 0
IsTraceLine old millis traced line new =
    IsTraceLineFor old millis traced (datagram_traced traced) line new
