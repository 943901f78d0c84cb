-- The text of what a node says of itself. Its parts are nested to the right, as they are printed.
use Rattle.std.specs.Prelude.{ℕ, ◌/◌, ◌%◌, List, [], ◌++◌, Option, Some, None, codes, decimal}
use Rattle.std.specs.Net.Text.{socket_text}
use Rattle.std.specs.declared.net.socket_addr.SocketAddr.{SocketAddr}
use Rattle.paxos_msg.specs.declared.ballot.Ballot.{Ballot}
use Rattle.paxos_msg.specs.declared.message.Group.{Group}
use Rattle.pcode_machine.specs.declared.turn.End.{End}
use Rattle.pcode_machine.specs.declared.turn.End.TheVariants as program
use Rattle.paxos_msg.specs.declared.limits.TheConstants.{PLACES}
use Rattle.group_protocol.specs.declared.fault.NodeFault.{NodeFault}
use Rattle.group_protocol.specs.declared.fault.NodeFault.TheVariants.{PlacesSpent}
use Rattle.group_protocol.specs.Fault.{code_of}
use Rattle.group_log.specs.declared.drops.Drops.{Drops}
use Rattle.group_log.specs.declared.note.ProcessEnd.{ProcessEnd}
use Rattle.group_log.specs.declared.note.ProcessEnd.TheVariants.{Turns, Node, Other}
use Rattle.group_log.specs.declared.note.Note.{Note}
use Rattle.group_log.specs.declared.note.Note.TheVariants.{NoFile, NoSocket, NoRecord, BadRecord, StartedNew, Started, Campaigns, CampaignRefused, Leads, BallotRefused, Dropped, Unsent, Full, Places, Known, TraceLost, Program, Ended}

-- A text, a number in decimal digits, and what follows.
abbrev pub numbered_note : List ℕ → ℕ → List ℕ → List ℕ
numbered_note text n rest = text ++ (decimal n ++ rest)

-- A ballot as `ROUND.NODE`, or `-` for none.
abbrev pub ballot_or_dash : Option Ballot → List ℕ
ballot_or_dash None = codes "-"
ballot_or_dash (Some b) = decimal b.round ++ (codes "." ++ decimal b.node)

-- The group of a node that started.
abbrev pub group_note : Group → List ℕ → List ℕ
group_note g rest =
    numbered_note (codes "started size ") g.size (numbered_note (codes " session ") g.session rest)

-- How a run ended.
abbrev pub end_text : ProcessEnd → List ℕ
end_text Turns = codes "ended"
end_text (Node fault) = codes "ended refused " ++ code_of fault
end_text Other = codes "ended refused"

-- How a program ended.
abbrev pub program_text : End → List ℕ
program_text program.Normal = codes "program ended"
program_text (program.Error number procedure at) =
    numbered_note (codes "program ended execution error ") number
    (numbered_note (codes " in procedure ") procedure (codes " at " ++ decimal at))

-- Why a campaign is refused, in words, where a person can do something about it.
abbrev pub because_text : NodeFault → List ℕ
because_text PlacesSpent = codes ": all places are taken, so there is nothing to lead for"
because_text _ = []

-- Where the last datagram of a wrong source came from, if there was one.
abbrev pub last_source_text : Option SocketAddr → List ℕ
last_source_text None = []
last_source_text (Some address) = codes " last source " ++ socket_text address

-- The number of dropped datagrams for each reason.
abbrev pub drops_text : Drops → List ℕ
drops_text d = numbered_note (codes "dropped source ") d.source
    (numbered_note (codes " version ") d.version
    (numbered_note (codes " size ") d.size
    (numbered_note (codes " session ") d.session
    (numbered_note (codes " damaged ") d.damaged (last_source_text d.last_source)))))

-- The text of a note.
abbrev pub note_text : Note → List ℕ
note_text (NoFile path) = codes "file " ++ (path.now ++ codes " cannot be read")
note_text (NoSocket address) = codes "socket " ++ (socket_text address ++ codes " cannot be made")
note_text (NoRecord path) = codes "record " ++ (path.now ++ codes " cannot be loaded or saved")
note_text (BadRecord path) = codes "record " ++ (path.now ++ codes " is damaged, or another node's")
note_text (StartedNew group) = group_note group (codes " record new")
note_text (Started group starts promised places) =
    group_note group (numbered_note (codes " starts ") starts
    (codes " promised " ++ (ballot_or_dash promised ++ (codes " places " ++ decimal places))))
note_text (Campaigns ballot) = codes "campaigns ballot " ++ ballot_or_dash (Some ballot)
note_text (CampaignRefused fault) =
    codes "campaign refused " ++ (code_of fault ++ because_text fault)
note_text (Leads ballot) = codes "leads ballot " ++ ballot_or_dash (Some ballot)
note_text (BallotRefused ballot by) =
    codes "refused by " ++ (ballot_or_dash by ++ (codes " ballot " ++ ballot_or_dash (Some ballot)))
note_text (Dropped drops) = drops_text drops
note_text (Unsent count) =
    numbered_note (codes "cannot send: none of ") count (codes " datagrams was taken")
note_text (Full waiting) =
    numbered_note (codes "no room for typed keys: ") waiting
    (codes " wait to be chosen, and more are held back")
note_text (Places places) = numbered_note (codes "places ") places (codes " of " ++ decimal PLACES)
note_text (Known places waiting) =
    numbered_note (codes "known front ") places (codes " waiting " ++ decimal waiting)
note_text TraceLost = codes "trace lost: it cannot be written"
note_text (Program end) = program_text end
note_text (Ended end) = end_text end

-- The line of a note: the time in seconds with three decimals, the node, and the note.
abbrev pub line_text : ℕ → ℕ → Note → List ℕ
line_text millis node note =
    numbered_note (codes "") (millis / 1000)
    (numbered_note (codes ".") (millis / 100 % 10)
    (numbered_note (codes "") (millis / 10 % 10)
    (numbered_note (codes "") (millis % 10)
    (numbered_note (codes " node ") node (codes " " ++ (note_text note ++ codes "\n"))))))
