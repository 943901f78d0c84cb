-- Deeds as steps: a log of processes and a list of events lead by the rules.
use Rattle.std.proofs.lemmas.List.{append-nil}
use Rattle.std.proofs.Common.{◌≡◌, ℕ, Bool, suc, List, [], ◌∷◌, Option, None, Result, Ok, Err, IfOk, OnErr, Some, refl}
use Rattle.pcode_file.specs.Parts.{Parts}
use Rattle.paxos_msg.specs.Records.{empty_record}
use Rattle.paxos_msg.specs.declared.message.Group.{Group}
use Rattle.group_node.specs.Deeds.{Deed}
use Rattle.group_world.specs.declared.event.Done.{Done}
use Rattle.group_world.specs.declared.event.Done.TheVariants.{Applied, Fell, Refused}
use Rattle.group_world.specs.declared.event.Event.{Event}
use Rattle.group_world.specs.Event.{DoesAt, Goes, HearsOf, LeadsBy, node_of, plan_of}
use Rattle.group_world.specs.Group.{World, member_at, new_world}
use Rattle.group_world.specs.declared.fault.WorldFault.{WorldFault}
use Rattle.group_world.specs.Member.{Member}
use Rattle.group_world.specs.Processes.{Entry, IsLog, after_log, left_by}
use Rattle.group_rules.specs.Leads.{initial, LeadsByRules, LeadsUnder, NodeDeed}
use Rattle.group_world.specs.Sound.{IsSound}
use Rattle.group_world.specs.Group.{seat_of_member, world_state}
use Rattle.group_world.specs.Event.{IsStepAt}
use Rattle.group_world.proofs.Happens.{heard_by}
use Rattle.group_world.proofs.ProcessEvents.{after_both, log_first, member_there, moved, same_items}
use Rattle.group_world.proofs.WorldAsGroup.{first_node}

-- ---- deeds as steps

-- The laws of one deed.
pub record DeedLaws : Type 0 where
  pub faithful : (w v : World) (i : ℕ) (plan : Option Bool) (e : Deed) (d : Done) → IsSound w → HearsOf w.group w.sent e
      → DoesAt w i plan e d v → IsSound v
  pub step : (w v : World) (i : ℕ) (plan : Option Bool) (e : Deed) (d : Done) → IsSound w → HearsOf w.group w.sent e
      → DoesAt w i plan e d v → IsStepAt (world_state w) i e d (world_state v)

-- from a faithful world to another, by steps
pub record Reaches (w v : World) : Type 0 where
  pub faithful : IsSound v
  pub deeds : List NodeDeed
  pub leads : LeadsByRules (world_state w) deeds (world_state v)

pub reach_itself : (w : World) → IsSound w → Reaches w w
unfolding LeadsUnder
reach_itself w h = record { faithful = h; deeds = []; leads = refl }

-- one more step in front, or none
reach_by : (w mid v : World) (i : ℕ) (e : Deed) (d : Done) → IsStepAt (world_state w) i e d (world_state mid) → Reaches mid v → Reaches w v
unfolding LeadsUnder
reach_by w mid v i e Applied step r =
    record { faithful = r.faithful; deeds = record { node = i; deed = e } ∷ r.deeds; leads = (world_state mid, step, r.leads) }
reach_by w mid v i e Fell step r =
    record { faithful = r.faithful; deeds = record { node = i; deed = e } ∷ r.deeds; leads = (world_state mid, step, r.leads) }
reach_by w mid v i e (Refused f) same r = record { faithful = r.faithful; deeds = r.deeds; leads = rw same at r.leads }

module _ (laws : DeedLaws) where
  -- a log
  pub log_reaches : (log : List Entry) (w : World) (now : List Member) → IsSound w → IsLog w log now → Reaches w (after_log w log now)
  log_reaches [] w now faithful h =
      let same = same_items w.members now h.places (λ k x y p q. h.nodes (suc k) x y p q) in
      rw (same, append-nil w.sent, append-nil w.typed) (reach_itself w faithful)
  log_reaches (e ∷ log) w now faithful h =
      let (last, at) = h.among.0 in
      let (m, there) = member_there w.members now e.node last h.places at in
      let (new, (d, does), others) = log_first w e log now m there h in
      let goes : DoesAt w e.node (plan_of e.save) e.deed d (moved w e new) =
      record { node = m; there = there; left = left_by e d new; does = does; answers = refl; leads = refl } in
      let next = laws.faithful w _ e.node (plan_of e.save) e.deed d faithful h.carried.0 goes in
      let rest = rw (after_both w e log now new) at (log_reaches log (moved w e new) now next others) in
      reach_by w (moved w e new) (after_log w (e ∷ log) now) e.node e.deed d
      (laws.step w _ e.node (plan_of e.save) e.deed d faithful h.carried.0 goes) rest

  -- events
  pub events_reach : (events : List Event) (w v : World) → IsSound w → LeadsBy w events v → Reaches w v
  events_reach [] w v faithful is = rw is (reach_itself w faithful)
  events_reach (one ∷ events) w v faithful (mid, d, goes, rest) =
      let heard = heard_by w.group w.sent one.act goes.deed goes.is_deed in
      let next = laws.faithful w mid (node_of one.act) (plan_of one.save) goes.deed d faithful heard goes.does in
      reach_by w mid v (node_of one.act) goes.deed d
      (laws.step w mid (node_of one.act) (plan_of one.save) goes.deed d faithful heard goes.does)
      (events_reach events mid v next rest)

-- an event that happens, or else changes nothing
pub answer_reaches : DeedLaws → (w v : World) (e : Event) (answer : Result Done WorldFault) → IsSound w
    → IfOk answer (λ d. Goes w e d v) → OnErr answer (v ≡ w) → Reaches w v
answer_reaches laws w v e (Ok d) h goes same = events_reach laws (e ∷ []) w v h (v, d, goes, refl)
answer_reaches laws w v e (Err f) h goes same = rw same (reach_itself w h)

-- ---- the beginning

first_seat : (p : Parts) (group : Group) (i : ℕ) → seat_of_member (member_at (new_world p group).members i)
    ≡ record { kept = empty_record; console = []; up = None }
first_seat p group i = by _ refl where
  by : (o : Option Member) → member_at (new_world p group).members i ≡ o
      → seat_of_member o ≡ record { kept = empty_record; console = []; up = None }
  by None e = refl
  by (Some m) e = rw (← first_node p group i m e) refl

pub begins_seen : (p : Parts) (group : Group) → world_state (new_world p group) ≡ initial p group.size
begins_seen p group = λ t. record {
  program = p;
  size = group.size;
  seats = λ i. first_seat p group i t;
  sent = [];
  typed = [];
}
