-- A node that has started: it works, and its store had no plan.
use Rattle.std.proofs.Common.{◌≡◌, false, None, Ok, arith, rules}
use Rattle.std.proofs.lemmas.Bool.Decides.{nat_tests}
use Rattle.std.proofs.lemmas.Result.{err_from_is_err_and}
use Rattle.paxos_acceptor.specs.Follows.{AcceptorState}
use Rattle.paxos_acceptor.specs.Stores.{StoreKind}
use Rattle.paxos_acceptor.specs.declared.me.Me.{Me}
use Rattle.group_protocol.specs.Starting.{StartsOver}
use Rattle.group_protocol.specs.States.{Protocol}
use Rattle.group_node.proofs.Starts.{node_begins, start_refused}
use Rattle.group_node.proofs.node.Node.start.Goals as goal

-- what holds where the acceptor has counted the start
record Begun {S : Type 0} (kind : StoreKind S) (a : AcceptorState S) (p : Protocol S) : Type 0 where
  works : p.is_stopped ≡ false
  unplanned : (kind.state a.store).plan ≡ None
  no_plan : (kind.state p.store).plan ≡ None
  quiet : (kind.state p.store).faults ≡ (kind.state a.store).faults

begun : {S : Type 0} (kind : StoreKind S) (me : Me) (a : AcceptorState S) (p : Protocol S) → StartsOver kind me a (Ok p)
    → a.is_closed ≡ false → Begun kind a p
begun kind me a p h was =
    let follows = h.counts.follows in let begins = h.begins in grind (arith, nat_tests)

pub returns-clause-fresh : goal.returns-clause-fresh
returns-clause-fresh g c =
    let was = c.in-Ok.ensures.opened.is_open in
    record {
      works = (begun _ _ _ _ c.in_ok-protocol.ensures.over was).works;
      progress = search rules;
      ranges = c.in_ok-protocol.ensures.ranges;
    }

pub returns-clause-plan : goal.returns-clause-plan
returns-clause-plan g c =
    grind (arith, begun _ _ _ _ c.in_ok-protocol.ensures.over c.in-Ok.ensures.opened.is_open)

pub returns-clause-once : goal.returns-clause-once
returns-clause-once g c =
    node_begins g.S.Store.kind c.args.config c.args.store c.in-Ok.acceptor _
    (rw c.me.ensures.me at c.in-Ok.ensures.once) c.in_ok-protocol.ensures.over
    c.in_ok-protocol.ensures.known (first_of (search rules, grind (arith, nat_tests)))

pub returns-in_err-protocol-clause-once : goal.returns-in_err-protocol-clause-once
returns-in_err-protocol-clause-once g c =
    let p = err_from_is_err_and c.from_residual.result c.from_residual.ensures.1 in
    rw (p.1, p.2)
    (start_refused g.S.Store.kind c.args.config c.args.store c.in-Ok.acceptor _
    (rw c.me.ensures.me at c.in-Ok.ensures.once) c.in_err-protocol.ensures.over
    (first_of (search rules, grind arith)) (first_of (search rules, grind (arith, nat_tests))))
