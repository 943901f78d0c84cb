-- What halts could not have been done.
use Rattle.std.proofs.Common.{◌≡◌, ℕ, ◌≤◌, Bool, List, [], ◌∷◌, length, Option, None, Some, Ok, Err, arith}
use Rattle.std.specs.List.{filter_map}
use Rattle.std.proofs.lemmas.Option.{slice_get_within}
use Rattle.std.proofs.lemmas.Grind.{common_steps}
use Rattle.group_protocol.specs.declared.packet.To.{To}
use Rattle.group_world.specs.declared.event.Act.{Act}
use Rattle.group_world.specs.declared.event.Done.{Done}
use Rattle.group_world.specs.declared.event.Event.{Event}
use Rattle.group_world.specs.declared.fault.WorldFault.{WorldFault}
use Rattle.group_world.specs.declared.fault.WorldFault.TheVariants.{Memory}
use Rattle.group_world.specs.Event.{Performs}
use Rattle.group_world.specs.Group.{World}
use Rattle.group_world.specs.Refusals.{refusal}
use Rattle.group_sim.specs.declared.simulation.ScriptHalt.{ScriptHalt}
use Rattle.group_sim.specs.declared.simulation.ScriptHalt.TheVariants as halt
use Rattle.group_sim.specs.Moments.{DeliversOne, HappensAt, Moment, Shows}
use Rattle.group_sim.proofs.laws.halts_have_a_cause.Goals as goal

-- no more items than there were
few_kept : {X Y : Type 0} (h : X → Option Y) (xs : List X) → length (filter_map h xs) ≤ length xs
few_kept h [] = omega arith
few_kept h (x ∷ xs) = let rest = few_kept h xs in grind (arith, common_steps)

-- an act that leads somewhere is not refused by the world
taken : (w : World) (plan : Option Bool) (a : Act) (d : Done) (v : World) → Performs w plan a d v
    → refusal w a ≡ None
taken w plan a d v h = grind (arith, common_steps, slice_get_within, few_kept)

-- so that it is refused only where memory runs out
refused : (number : ℕ) (e : Event) (a b c : Moment) (f : WorldFault)
    → HappensAt number e a (Ok tt) b → HappensAt number e a (Err (halt.For (Some f))) c → f ≡ Memory
refused number e a b c f h q = let free = taken a.world _ e.act h.1 h.0 h.2 in grind (arith, common_steps, q.0)

-- a delivery that is made is one of those that the settle may make
too_long : (number k i : ℕ) (to : To) (a b c : Moment) → DeliversOne number k to i a (Ok tt) b
    → ¬ DeliversOne number k to i a (Err (halt.For None)) c
too_long number k i to a b c h q = grind (arith, common_steps)

shown : (size : ℕ) (a b : Moment) (h : ScriptHalt) → Shows size a (Err h) b → h ≡ halt.Unwritten
shown size a b h q = grind (arith, common_steps)

pub returns : goal.returns
returns c = record { refused = refused; too_long = too_long; shown = shown }
