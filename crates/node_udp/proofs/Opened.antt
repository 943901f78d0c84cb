-- A run whose sockets are open.
use Rattle.std.proofs.Common.{◌≡◌, ℕ, List, Option, Result, sym, subst}
use Rattle.std.specs.declared.net.socket_addr.SocketAddr.{SocketAddr}
use Rattle.pcode_file.specs.Parts.{Parts}
use Rattle.paxos_acceptor.specs.declared.me.Me.{Me}
use Rattle.node_io.specs.declared.fault.GroupFault.{GroupFault}
use Rattle.node_udp.specs.declared.node.NodePlan.{NodePlan}
use Rattle.node_udp.specs.Ends.{RunsOpened, RunsWith, keyboard_at_first}

-- it is typed at the keyboard of the plan
pub opened : {me : Me} {program : Parts} (plan : NodePlan) (text : List ℕ) {before after : Option (List ℕ)}
    {result : Result (Unit {0}) GroupFault} (keys : Option SocketAddr) → plan.keys ≡ keys
    → RunsWith me program plan (keyboard_at_first keys text) before after result → RunsOpened me program plan text before after result
opened {me} {program} plan text {before} {after} {result} keys is h =
    subst (λ k. RunsWith me program plan (keyboard_at_first k text) before after result) (sym is) h
