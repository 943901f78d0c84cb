use Rattle.std.proofs.Common.{◌∷◌, [], ◌++◌, refl, sym, subst}
use Rattle.group_world.specs.declared.event.Act.TheVariants.{Press}
use Rattle.group_world.specs.Event.{kept_event}
use Rattle.group_world.specs.Group.{new_world}
use Rattle.paxos_msg.specs.declared.message.Group.{Group}
use Rattle.paxos_msg.specs.Ballots.{IsMajority}
use Rattle.paxos_msg.specs.Keys.{keys_of}
use Rattle.group_protocol.specs.Known.{new_key}
use Rattle.group_progress.specs.GoingOn.{AllHaveFinishedReading, HasRead, MayReach}
use Rattle.group_progress.proofs.Going.{stay, then}
use Rattle.group_progress.proofs.Within.{leads_then}
use Rattle.group_progress.proofs.Starting.{reached}
use Rattle.group_progress.proofs.Typing.{typed}
use Rattle.group_progress.proofs.laws.a_typed_key_can_be_read.Goals as goal

pub returns : goal.returns
returns c = λ p group list w members i byte m q size session leads most left own up low free serial.
    let laws = c.what_lies_below.ensures.fair in
    let good = reached laws.more.laws.events p group size session list w leads in
    let t = typed laws.wait.typed members w good.holds.sound left i m q byte own up low free serial in
    let v = t.world in
    let there = leads_then (new_world p group) list (kept_event (Press i byte) ∷ []) w v leads (v, _, t.goes, refl) in
    let majority = subst (λ (g : Group). IsMajority g.size members) (sym t.group) most in
    let reach = c.no_world_is_stuck.ensures p group (list ++ kept_event (Press i byte) ∷ []) v members size session there majority t.left in
    let read : MayReach members v (AllHaveFinishedReading members v.group.size (keys_of (new_key q.known byte))) =
    then reach (λ u h. stay (λ j node of.
    let r = h j node of in
    let has : HasRead (keys_of (new_key q.known byte)) u j = record
    { node = r.has.node; running = r.has.running; up = r.has.up; read = λ key among. r.has.read key (t.waits key among) } in
    record { has = has; none = r.none })) in
    let of_group : Group → Type 0 = λ g. MayReach members v (AllHaveFinishedReading members g.size (keys_of (new_key q.known byte))) in
    (v, t.goes, subst of_group t.group read)
