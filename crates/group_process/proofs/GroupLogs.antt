-- A log of runs of processes as a log of nodes.
use Rattle.std.proofs.lemmas.List.Elements.{All-from_recursion, All-weaker, recursion_from_All}
use Rattle.std.proofs.lemmas.Option.{slice_get-get_or, slice_get_within, get_or_from_slice_get}
use Rattle.std.proofs.lemmas.List.{get_or-replicate, length-replicate}
use Rattle.std.proofs.lemmas.List.FromFn.{get_or-map-range_with_len, length-map-range_with_len}
use Rattle.std.proofs.Common.{◌≡◌, ◌∙◌, ℕ, zero, suc, ◌<◌, List, [], map, replicate, Some, None, refl, sym, arith}
use Rattle.std.specs.List.{range_with_len}
use Rattle.pcode_file.specs.Parts.{Parts}
use Rattle.paxos_msg.specs.declared.message.Group.{Group}
use Rattle.paxos_msg.specs.Fits.{IsNode}
use Rattle.paxos_msg.specs.Records.{empty_record}
use Rattle.paxos_acceptor.specs.declared.me.Me.{Me}
use Rattle.group_world.specs.Group.{member_at, new_world}
use Rattle.group_world.specs.Member.{Member}
use Rattle.group_world.specs.Processes.{Entry, IsLog}
use Rattle.group_process.specs.Runs.{AreHistory, AreStarts, NodeStart, IsGroupLog, LeaveNodes}

-- the node before all runs
abbrev pub first : Member
first = record { kept = empty_record; console = []; node = None }

pub first_at : (size i : ℕ) (m : Member) → member_at (replicate size first) i ≡ Some m → first ≡ m
first_at size zero m e = absurd cc
first_at size (suc k) m e =
    let within : k < size = omega (arith, slice_get_within (replicate size first) k m e, length-replicate size first) in
    sym (get_or-replicate size k first first within) ∙ get_or_from_slice_get (replicate size first) k m first e

-- the nodes of a group, by number
abbrev nodes_of : ℕ → (ℕ → Member) → List Member
nodes_of size state = map state (range_with_len 1 size)

node_at : (size : ℕ) (state : ℕ → Member) (i : ℕ) → IsNode size i → member_at (nodes_of size state) i ≡ Some (state i)
node_at size state zero is = absurd (omega (arith, is.0))
node_at size state (suc k) is =
    grind (arith, is.1, slice_get-get_or (nodes_of size state) k first, length-map-range_with_len, get_or-map-range_with_len)

at_node : (size : ℕ) (state : ℕ → Member) (i : ℕ) (m : Member) → member_at (nodes_of size state) i ≡ Some m → state i ≡ m
at_node size state zero m e = absurd cc
at_node size state (suc k) m e =
    grind (arith, slice_get_within (nodes_of size state) k m e, length-map-range_with_len, node_at size state (suc k))

-- each history of runs
abbrev Law : Type 0
Law = (p : Parts) (me : Me) (m : Member) (runs : List NodeStart) → m.node ≡ None → AreStarts p me m.kept runs → AreHistory p me m runs

pub group_log : Law → (p : Parts) (group : Group) (runs : ℕ → List NodeStart) (log : List Entry) → IsGroupLog p group runs log
    → LeaveNodes p group runs log
group_log law p group runs log h =
    let me : ℕ → Me = λ i. record { node = i; group = group } in
    let history : (i : ℕ) → AreHistory p (me i) first (runs i) = λ i. law p (me i) first (runs i) refl (h.started i) in
    let state : ℕ → Member = λ i. (history i).0 in
    let now : List Member = nodes_of group.size state in
    let is_log : IsLog (new_world p group) log now =
    record {
      places = length-map-range_with_len state 1 group.size ∙ sym (length-replicate group.size first);
      among = recursion_from_All _ log
          (All-weaker (λ (e : Entry). IsNode group.size e.node) (λ (e : Entry). (m : Member) × (member_at now e.node ≡ Some m))
          (λ e node. (state e.node, node_at group.size state e.node node)) log (All-from_recursion _ log h.among));
      nodes = λ i m last m_at last_at. rw
          (sym (first_at group.size i m m_at), sym (at_node group.size state i last last_at), h.entries i) (history i).1;
      carried = h.carried;
    } in
    (now, record { ran = h; nodes = is_log; as_run = λ i node. (state i, node_at group.size state i node, (history i).2) })
