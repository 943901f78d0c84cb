-- Node 1 of any group starts, campaigns, and hears its own Prepare: a log of runs in which a message
-- is heard.
use Rattle.std.proofs.lemmas.Bool.{cases_eq, ne_eqb}
use Rattle.std.proofs.Common.{◌≡◌, ℕ, ◌==◌, ◌≤◌, if◌then◌else◌, List, [], ◌∷◌, flat_map, length, Some, None, inl, inr, refl, sym, arith}
use Rattle.std.proofs.lemmas.List.{append-nil}
use Rattle.std.proofs.lemmas.List.FromFn.{get_or-map-range_with_len, length-map-range_with_len}
use Rattle.std.proofs.lemmas.Bool.Decides.{nat_tests}
use Rattle.std.specs.List.{Contains}
use Rattle.pcode_file.specs.Parts.{Parts}
use Rattle.paxos_msg.specs.declared.message.Group.{Group}
use Rattle.paxos_msg.specs.declared.message.Body.TheVariants.{Prepare}
use Rattle.paxos_msg.specs.Batches.{Msg}
use Rattle.paxos_msg.specs.Datagrams.{Fits, spelling}
use Rattle.paxos_msg.specs.Fits.{IsGroup}
use Rattle.paxos_msg.specs.Records.{empty_record}
use Rattle.paxos_acceptor.specs.declared.me.Me.{Me}
use Rattle.group_protocol.specs.declared.packet.To.TheVariants as whom
use Rattle.group_node.specs.Deeds.{Campaign, Hear}
use Rattle.group_protocol.specs.Known.{front}
use Rattle.group_protocol.specs.Packets.{datagrams_of}
use Rattle.group_protocol.specs.Protocol.{on_message}
use Rattle.group_protocol.specs.ProposerResponses.{next_ballot, on_campaign}
use Rattle.group_protocol.specs.States.{IsSize}
use Rattle.group_wire.specs.Arrivals.{Spells}
use Rattle.group_node.specs.NodeCalls.{Running}
use Rattle.group_wire.specs.Doings.{DoesAll, Doing}
use Rattle.group_wire.specs.Process.{IsProcess, Process, started}
use Rattle.group_wire.specs.Traffic.{Letter, letters_of, letters_to}
use Rattle.group_world.specs.declared.event.Outcome.TheVariants.{Kept}
use Rattle.group_process.specs.Network.{AreDelivered, AreLetters, IsNetworkLog, MayHear, GivenEntry, entries_alone, received_by, received_in, received_in_run}
use Rattle.group_process.specs.Runs.{AreStarts, NodeStart, GoesOn, IsGroupLog, NodeRun, Starts, entry_by}
use Rattle.group_protocol.proofs.Elements.{entries_none, none_in, only_in}

module _ (p : Parts) (group : Group) where
  abbrev me : Me
  me = record { node = 1; group = group }

  -- the node after its start, its campaign, and its Prepare
  abbrev up : Running
  up = started p me empty_record

  abbrev asking : Running
  asking = record up { known = (on_campaign up.known).node }

  abbrev prepare : Msg
  prepare = record { sender = 1; body = Prepare (next_ballot up.known) (front up.known) }

  abbrev last : Running
  last = record asking { known = (on_message asking.known prepare.sender prepare.body).node }

  abbrev campaigning : Doing
  campaigning = record { deed = Campaign; given = []; sent = datagrams_of me (on_campaign up.known).sends; typed = [] }

  abbrev hearing : Doing
  hearing = record {
    deed = Hear prepare;
    given = Some (spelling group prepare) ∷ [];
    sent = datagrams_of me (on_message asking.known prepare.sender prepare.body).sends;
    typed = [];
  }

  abbrev process : Process
  process = record { loaded = empty_record; doings = campaigning ∷ hearing ∷ []; failed = None }

  abbrev run : NodeRun
  run = record { process = process; last = last; stand = GoesOn }

  abbrev runs : ℕ → List NodeStart
  runs i = if 1 == i then Starts run ∷ [] else []

  abbrev log : List GivenEntry
  log = received_in_run me run

  front_is : front up.known ≡ 0
  front_is = rw entries_none refl

  fits : 1 ≤ group.size → Fits group prepare
  fits size = grind (arith, nat_tests, front_is)

  module _ (one : 1 ≤ group.size) (short : length (spelling group prepare) ≤ 440) where
    spells : Spells group (spelling group prepare) prepare
    spells = record { short = omega (arith, short); spelled = record { fits = fits one; spelled = refl } }

    does : DoesAll me up process.doings last
    does = (
      asking,
      rw front_is (refl, (refl, refl, refl)),
      (last, (spelling group prepare, spells, refl, (refl, refl, refl)), refl),
    )

    is_process : IsProcess p me process last
    is_process = record { spare = λ e. absurd (omega (arith, e)); does = does; fails = tt }

    are_runs : (i : ℕ) → AreStarts p (record { node = i; group = group }) empty_record (runs i)
    are_runs i = elim (cases_eq 1 i) [
      | inl same ↦ rw (sym same) ((refl, is_process, refl), tt)
      | inr ne ↦ rw (ne_eqb 1 i ne) tt
    ]

  entries_are : (i : ℕ) → received_by i log ≡ flat_map (received_in (record { node = i; group = group })) (runs i)
  entries_are i = grind (arith, nat_tests)

  -- the Prepare was handed over as a letter to each node
  some_letter : (bytes : List ℕ) → 1 ≤ group.size → (l : Letter) × Contains (letters_to group.size whom.All bytes) l × (l.bytes ≡ bytes)
  some_letter bytes size =
      let letter : ℕ → Letter = λ i. record { to = i; bytes = bytes } in
      let long = length-map-range_with_len letter 1 group.size in
      let l : Letter = record { to = 1; bytes = bytes } in
      (l, (0, omega (arith, long, size), get_or-map-range_with_len letter 1 group.size 0 1 l (omega (arith, size)) (omega arith)), refl)

  delivered : 1 ≤ group.size → AreDelivered group [] log
  delivered size = (none_given [], (none_given [], (heard, tt)))
    where
      none_given : (letters : List Letter) → AreLetters group letters []
      none_given letters bytes m came said = absurd (none_in (Some bytes) came)

      heard : AreLetters group (letters_of group.size campaigning.sent) hearing.given
      heard bytes m came said =
          let (l, handed, is) = some_letter (spelling group prepare) size in
          let same : Some (spelling group prepare) ≡ Some bytes = only_in _ _ came in
          (l, rw append-nil handed, cc)

  -- the laws of networks and of lengths
  abbrev CarryLaw : Type 0
  CarryLaw = (p : Parts) (group : Group) (runs : ℕ → List NodeStart) (log : List GivenEntry) → IsGroup group → IsNetworkLog p group runs log
      → IsGroupLog p group runs (entries_alone log)

  abbrev ShortLaw : Type 0
  ShortLaw = (group : Group) (m : Msg) → Fits group m → length (spelling group m) ≤ 440

  pub may_hear : CarryLaw → ShortLaw → IsSize group.size → IsGroup group → MayHear p group
  may_hear carry shorts size session =
      let one : 1 ≤ group.size = omega (arith, size.odd) in
      let is_log : IsNetworkLog p group runs log = record {
        among = ((omega arith, one), ((omega arith, one), ((omega arith, one), tt)));
        entries = entries_are;
        started = are_runs one (shorts group prepare (fits one));
        delivered = delivered one;
      } in (
        runs,
        log,
        record { entry = entry_by 1 Kept hearing; given = hearing.given },
        prepare,
        is_log,
        carry p group runs log session is_log,
        (2, omega arith, refl),
        refl,
      )
