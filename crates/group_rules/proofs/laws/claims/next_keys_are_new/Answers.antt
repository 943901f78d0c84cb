-- The next key of a node has no typed key's name.
use Rattle.std.proofs.Common.{◌≡◌, ℕ, Contains, Some, refl, arith}
use Rattle.paxos_msg.specs.Keys.{Key}
use Rattle.paxos_learner.specs.Input.{front_values}
use Rattle.group_rules.specs.Invariants.{HoldsByRules, IsNextKey, IsRowOf}
use Rattle.group_rules.specs.Rules.{Up, WorldState}
use Rattle.group_rules.proofs.Fronts.{chosen_typed, OrderLaws}
use Rattle.group_rules.proofs.Output.{front_chosen, running}
use Rattle.group_rules.proofs.Rows.{new_name}
use Rattle.group_rules.proofs.laws.claims.next_keys_are_new.Goals as goal

module _ (w : WorldState) (i : ℕ) (node : Up) (key : Key) (h : HoldsByRules w) (up : (w.seats i).up ≡ Some node)
    (next : IsNextKey i (w.seats i).kept node key) where
  never_typed : ¬ Contains w.typed key
  never_typed among =
      let row : IsRowOf w.typed i (w.seats i).kept node = rw up at (h.ordered.rows i) in
      new_name row.row key next.node next.start (omega (arith, next.serial, row.next)) key among
      (record { node = refl; start = refl; serial = refl })

pub returns-clause-not_typed : goal.returns-clause-not_typed
returns-clause-not_typed c = never_typed

pub returns-clause-not_read : goal.returns-clause-not_read
returns-clause-not_read c w i node key h up next among =
    let laws : OrderLaws = grind arith in
    let front = front_chosen (record { many = c.values_are_learned.ensures.many; at_place = c.values_are_learned.ensures.at_place })
    (running h.sound up).learned in
    never_typed w i node key h up next (chosen_typed laws h.sound h.ordered (front_values node.learned) front key among)
