use Rattle.std.proofs.Common.{◌+◌, [], ◌∷◌, refl, sym, arith}
use Rattle.pcode_machine.specs.Turns.{AreQuiet}
use Rattle.paxos_learner.specs.Input.{learned_input}
use Rattle.group_node.specs.declared.player.Player.{Player}
use Rattle.group_node.specs.Player.{Advances}
use Rattle.group_node.proofs.Exact.{Laws, advanced, to_advanced, makes-wrote, exact_idle, exact_fed, halts_waiting, halts_ended}
use Rattle.group_node.proofs.player.Player.play_on.Goals as goal
use Rattle.group_node.proofs.player.Player.play_on.Goals.{After-from}

laws : After-from → Laws
laws c = record { there = c.run_is_after.ensures; longer = c.same_step_on_longer_input.ensures }

-- the player once its machine has run, before it takes or writes a byte
abbrev ran : After-from → Player
ran c = record c.args.self.now { machine = c.run-made.new.self; steps = c.args.self.now.steps + c.from.result }

ran_on : (c : After-from)
    → AreQuiet c.args.self.now.machine.program c.run-made.result.0 c.args.self.now.machine.state c.run-made.new.self.state
    → Advances (learned_input c.args.learner.now.learned) c.run-made.result.0 c.args.self.now (ran c)
ran_on c quiet = grind arith

pub returns-in-Ended-clause-plays : goal.returns-in-Ended-clause-plays
returns-in-Ended-clause-plays c =
    let before = (goal.at.returns-in-Ended-clause-plays c).After-from in
    let h = rw c.in-Ended.is at c.run-made.ensures.pauses in
    let a = ran_on before h.1 in (h.0, a, halts_ended (laws before) a.exact c.run-made.ensures.program h.2)

pub returns-in-Wrote-clause-plays : goal.returns-in-Wrote-clause-plays
returns-in-Wrote-clause-plays c =
    let h = rw c.in-Wrote.is at c.run-made.ensures.pauses in
    (h.1, advanced c.args.self.now h.1 h.0, to_advanced h.1 h.0 c.quiet_steps_lead_on.ensures c.requires.exact h.4, h.3, h.2)

pub returns-in-Wrote-clause-exact : goal.returns-in-Wrote-clause-exact
unfolding returns-in-Wrote-clause-plays
returns-in-Wrote-clause-exact c =
    let before = (goal.at.returns-in-Wrote-clause-exact c).After-from in
    let h = rw c.in-Wrote.is at c.run-made.ensures.pauses in
    rw c.write.ensures (exact_idle {wrote = c.in-Wrote.byte ∷ []} (laws before) (returns-in-Wrote-clause-plays c).2.exact c.requires.room
    (grind (arith, makes-wrote h.5, c.run-made.ensures.program, h.2, c.from.ensures)))

pub returns-in-Some-clause-plays : goal.returns-in-Some-clause-plays
returns-in-Some-clause-plays c =
    let before = (goal.at.returns-in-Some-clause-plays c).After-from in
    let h = rw c.in-Wants.is at c.run-made.ensures.pauses in (c.run-made.result.0, ran before, ran_on before h.1, h.0, refl)

pub returns-in-Some-clause-exact : goal.returns-in-Some-clause-exact
unfolding returns-in-Some-clause-plays
returns-in-Some-clause-exact c =
    exact_fed (laws (goal.at.returns-in-Some-clause-exact c).After-from) (returns-in-Some-clause-plays c).2.exact c.requires.room
    (sym c.in-Some.ensures) c.feed.ensures.1

pub returns-in-None-clause-plays : goal.returns-in-None-clause-plays
returns-in-None-clause-plays c =
    let before = (goal.at.returns-in-None-clause-plays c).After-from in
    let h = rw c.in-Wants.is at c.run-made.ensures.pauses in
    let a = ran_on before h.1 in (h.0, a, halts_waiting (laws before) a.exact c.run-made.ensures.program h.2 (sym c.in-None.ensures))
