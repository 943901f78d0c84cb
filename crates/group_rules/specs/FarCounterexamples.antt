-- Groups of nine nodes, written down by hand. Each breaks one claim of the headline, of two moments
-- or of the order of keys.
use Rattle.std.specs.Prelude.{ℕ, ◌==◌, if◌then◌else◌, List, [], ◌∷◌, ◌++◌}
use Rattle.std.specs.FinMap.{empty, insert}
use Rattle.pcode_file.specs.Parts.{Parts}
use Rattle.paxos_msg.specs.declared.message.Body.TheVariants.{Accepted}
use Rattle.paxos_msg.specs.declared.value.Value.{Value}
use Rattle.paxos_msg.specs.declared.value.Value.TheVariants.{Keys, Noop}
use Rattle.paxos_msg.specs.Batches.{Msg, Sent}
use Rattle.paxos_msg.specs.Keys.{Key}
use Rattle.paxos_msg.specs.Records.{empty_record}
use Rattle.group_rules.specs.Rules.{Seat, WorldState}
use Rattle.group_rules.specs.SmallPrograms.{letter_program}
use Rattle.group_rules.specs.WrongSteps.{ballot_by, kept_third, no_code, key_of_9, seat_down, seat_up, up_learned, up_written}

-- ---- groups

-- Nine nodes, of which nodes 6, 7 and 9 are these; the others have done nothing.
abbrev pub three_of_nine : Parts → Seat → Seat → Seat → Sent → List Key → WorldState
three_of_nine p sixth seventh ninth sent typed = record {
  program = p;
  size = 9;
  seats = λ k.
      if k == 9 then ninth
      else (if k == 7 then seventh else (if k == 6 then sixth else seat_down empty_record []));
  sent = sent;
  typed = typed;
}

-- A node that has done nothing.
abbrev pub bare : Seat
bare = seat_down empty_record []

-- ---- what was learned

-- A batch of the keys 40 and 41 of the third start of node 9, the second with this character.
abbrev pub forty_and : ℕ → Value
forty_and byte = Keys 9 3 40 (65 ∷ byte ∷ [])

-- A node that is up, and has learned a no-op for place 0 and this value for place 700.
abbrev pub learned_late : Value → Seat
learned_late v = seat_up kept_third [] (up_learned (insert (insert empty 0 Noop) 700 v))

-- The message of a node that has accepted a value at a place, under node 7's ballot of round 41.
abbrev pub accepts_at : ℕ → ℕ → Value → Msg
accepts_at s node v = record { sender = node; body = Accepted (ballot_by 7 41) s v }

-- Messages by which nodes 2, 4, 6, 7 and 9, a majority of nine, have accepted a value at a place.
abbrev pub five_accept : ℕ → Value → Sent
five_accept s v =
    accepts_at s 2 v ∷ accepts_at s 4 v ∷ accepts_at s 6 v ∷ accepts_at s 7 v
    ∷ accepts_at s 9 v ∷ []

-- Nodes 6 and 9 have learned the same value for place 0, and two values for place 700.
abbrev pub late_values : WorldState
late_values =
    three_of_nine no_code (learned_late (forty_and 66)) bare (learned_late (forty_and 67)) [] []

-- Node 9 has learned for place 700 what only four nodes have accepted under one ballot. A fifth
-- node has accepted it under another ballot. All of it was typed.
abbrev pub late_unchosen : WorldState
late_unchosen = three_of_nine no_code bare bare (learned_late (forty_and 66))
    (accepts_at 700 2 (forty_and 66) ∷ accepts_at 700 4 (forty_and 66)
    ∷ accepts_at 700 6 (forty_and 66) ∷ accepts_at 700 7 (forty_and 66) ∷ (record {
      sender = 9;
      body = Accepted (ballot_by 7 42) 700 (forty_and 66);
    }) ∷ [])
    (key_of_9 40 65 ∷ key_of_9 41 66 ∷ [])

-- Node 9 has learned two keys that are chosen for place 700. The second was not typed, but another
-- character of its serial was.
abbrev pub late_untyped : WorldState
late_untyped = three_of_nine no_code bare bare (learned_late (forty_and 66))
    (five_accept 700 (forty_and 66)) (key_of_9 40 65 ∷ key_of_9 41 67 ∷ [])

-- ---- consoles

-- A group that runs the program which writes the letter A; the console of node 9 has shown these
-- bytes.
abbrev pub letters_shown : List ℕ → WorldState
letters_shown console = three_of_nine letter_program bare bare (seat_down kept_third console) [] []

-- The consoles of nodes 7 and 9 have shown two bytes that are the same, and then two others.
abbrev pub apart_consoles : WorldState
apart_consoles = three_of_nine no_code bare (seat_down kept_third (65 ∷ 66 ∷ 67 ∷ []))
    (seat_down kept_third (65 ∷ 66 ∷ 68 ∷ [])) [] []

-- Node 9 has written `output` and released `k` bytes, and its console has shown these bytes.
abbrev pub ninth_written : List ℕ → ℕ → List ℕ → WorldState
ninth_written output k console =
    three_of_nine no_code bare bare (seat_up kept_third console (up_written output k)) [] []

-- The same, where the node has written three bytes.
abbrev pub three_written : ℕ → List ℕ → WorldState
three_written k console = ninth_written (65 ∷ 66 ∷ 67 ∷ []) k console

-- ---- the order of keys

-- The values are chosen at the places 0, 1 and 2.
abbrev pub chosen_three : Value → Value → Value → WorldState
chosen_three a b c =
    three_of_nine no_code bare bare bare (five_accept 0 a ++ (five_accept 1 b ++ five_accept 2 c))
    []

-- A batch of keys of the third start of node 9, the first with this serial.
abbrev pub third_keys : ℕ → List ℕ → Value
third_keys first bytes = Keys 9 3 first bytes

-- The first key of the first start of node 7.
abbrev pub seventh_key : Value
seventh_key = Keys 7 1 1 (64 ∷ [])
