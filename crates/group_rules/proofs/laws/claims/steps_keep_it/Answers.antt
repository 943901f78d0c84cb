-- Each kind of step keeps it.
mod SoundSteps
mod OrderSteps
use Rattle.std.proofs.Common.{◌≡◌, ◌⊎◌, ℕ, Option, None, Some, inl, inr, refl, arith}
use Rattle.paxos_msg.specs.Batches.{Change}
use Rattle.paxos_msg.specs.declared.record.Change.TheVariants as change
use Rattle.paxos_acceptor.specs.Answers.{after}
use Rattle.group_node.specs.Deeds as deed
use Rattle.group_node.specs.Deeds.{Deed}
use Rattle.group_rules.specs.Invariants.{HoldsByRules}
use Rattle.group_rules.specs.Rules.{CallOrFall, Falls, WorldState, WorldStep}
use Rattle.group_rules.proofs.Steps.{cause_counts}
use Rattle.group_rules.proofs.laws.claims.steps_keep_it.Answers.OrderSteps.{call_ordered, crash_ordered, fall_ordered, press_ordered, release_ordered, run_ordered, start_ordered}
use Rattle.group_rules.proofs.laws.claims.steps_keep_it.Answers.SoundSteps.{call_sound, crash_sound, fall_sound, Laws, release_sound, run_sound, start_sound}
use Rattle.group_rules.proofs.laws.claims.steps_keep_it.Goals as goal

module _ (laws : Laws) {w v : WorldState} (i : ℕ) (h : HoldsByRules w) where
  fall_holds : {c : Change} → Falls w v i c → HoldsByRules v
  fall_holds f = record { sound = fall_sound laws h.sound f; ordered = fall_ordered laws h.ordered f }

  call_holds : (c : Option Change) → (after (w.seats i).kept c).starts ≡ (w.seats i).kept.starts → CallOrFall w v i c → HoldsByRules v
  call_holds None same call = record { sound = call_sound laws h.sound call; ordered = call_ordered laws h call same }
  call_holds (Some c) same (inl call) = record { sound = call_sound laws h.sound call; ordered = call_ordered laws h call same }
  call_holds (Some c) same (inr (up, fell)) = fall_holds fell

  step_holds : (e : Deed) → WorldStep w i e v → HoldsByRules v
  step_holds deed.Idle is = rw is h
  step_holds (deed.Start r) (down, loaded, inl x) = record { sound = start_sound laws h.sound x; ordered = start_ordered laws h.ordered x }
  step_holds (deed.Start r) (down, loaded, inr x) = fall_holds x
  step_holds (deed.Hear message) x = call_holds x.saved (cause_counts message.body x.saved x.cause (w.seats i).kept) x.call
  step_holds (deed.Press byte) x = record { sound = call_sound laws h.sound x.call; ordered = press_ordered laws h x }
  step_holds deed.Campaign x = call_holds (Some (change.Promise (record { round = x.round; node = i }))) refl x.call
  step_holds deed.Tick x = call_holds None refl x
  step_holds (deed.Run most) x = record { sound = run_sound laws h.sound x; ordered = run_ordered laws h.ordered x }
  step_holds deed.Release x = record { sound = release_sound laws h.sound x; ordered = release_ordered laws h.ordered x }
  step_holds deed.Crash x = record { sound = crash_sound laws h.sound x; ordered = crash_ordered laws h.ordered x }

pub returns-clause-goes_on : goal.returns-clause-goes_on
returns-clause-goes_on c w v i e h step = step_holds c i h e step
