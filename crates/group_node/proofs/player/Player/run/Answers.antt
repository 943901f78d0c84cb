-- A run of the machine, up to where it is over.
use Rattle.std.proofs.Common.{◌≡◌, ℕ, ◌+◌, ◌-◌, ◌<◌, ◌≤◌, List, length, drop, Some, ◌∙◌, ap, arith}
use Rattle.std.proofs.lemmas.List.{length-append, length-drop}
use Rattle.std.proofs.lemmas.Bool.Decides.{nat_tests}
use Rattle.pcode_file.specs.Parts.{Parts}
use Rattle.pcode_machine.specs.Runs.{IsPrefix, out}
use Rattle.group_node.specs.declared.player.Player.{Player}
use Rattle.group_node.specs.declared.player.Ran.{Ran}
use Rattle.group_node.specs.declared.player.Ran.TheVariants as ran
use Rattle.group_node.specs.Output.{most_of, RunsOn}
use Rattle.group_node.specs.Player.{Advances, IsPlayed, progress_of, RanSoFar, PlaysOn}
use Rattle.group_node.proofs.Exact.{There, waits_unreleased}
use Rattle.group_node.proofs.player.Player.run.Goals as goal

-- the laws of runs and of their output that a run rests on
record Laws : Type 0 where
  there : There
  grows : (p : Parts) (x : List ℕ) (m n : ℕ) → m ≤ n → IsPrefix (out p x m) (out p x n)

-- where there is room for a byte now, there was room after each number of steps up to here
room_before : {x : List ℕ} {q : Player} → Laws → IsPlayed x q → length q.unreleased.items < 256
    → (n : ℕ) → n ≤ q.steps → length (drop q.released (out q.machine.program x n)) < 256
room_before {x} {q} laws h room n low =
    let more = laws.grows q.machine.program x n q.steps low in
    let now : length (drop q.released (out q.machine.program x q.steps)) ≡ length q.unreleased.items =
    ap length (waits_unreleased laws.there h) in
    omega (
      arith,
      ap length more.whole,
      length-append (out q.machine.program x n) more.rest,
      length-drop q.released (out q.machine.program x n),
      length-drop q.released (out q.machine.program x q.steps),
    )

-- ---- steps of a run

-- n steps, all but the last of which wrote nothing, where there was room
run_goes_on : {x : List ℕ} {most left k : ℕ} {old now last new : Player} (n : ℕ) → Laws → RanSoFar x most left old now
    → length now.unreleased.items < 256 → Advances x k now last → IsPlayed x new → new.machine.program ≡ now.machine.program
    → new.released ≡ now.released → new.steps ≡ now.steps + n → n ≤ left → n ≤ k + 1 → RanSoFar x most (left - n) old new
run_goes_on {x} {most} {left} {k} {old} {now} {last} {new} n laws r room a exact program released steps few one = record {
  exact = exact;
  program = program ∙ r.program;
  released = released ∙ r.released;
  more = omega (arith, r.more);
  budget = omega (arith, r.budget);
  room = λ m from below.
      rw (← r.program, ← a.program, ← r.released, ← a.released)
      (room_before laws a.exact (rw a.unreleased room) m (omega (arith, a.steps)));
}

-- ---- how it is over

-- a part with which it is over
run_is_over : {x : List ℕ} {old now : Player} (steps left n : ℕ) (new : Player) (why : Ran) → Laws
    → RanSoFar x (most_of old.steps steps) left old now → length now.unreleased.items < 256
    → PlaysOn x left now new (n, Some why) → RunsOn x steps (progress_of old) (progress_of new) why
run_is_over steps left n new ran.More laws r room (all, a) =
    let on = run_goes_on n laws r room a a.exact a.program a.released a.steps (omega arith) (omega arith) in
    grind (arith, nat_tests)
run_is_over steps left n new ran.Full laws r room h = absurd h
run_is_over steps left n new ran.Waits laws r room (few, a, h) =
    let on = run_goes_on n laws r room a a.exact a.program a.released a.steps (omega arith) (omega arith) in
    grind (arith, nat_tests, waits_unreleased laws.there on.exact)
run_is_over steps left n new (ran.Ended e) laws r room (few, a, h) =
    let on = run_goes_on n laws r room a a.exact a.program a.released a.steps (omega arith) (omega arith) in
    grind (arith, nat_tests, waits_unreleased laws.there on.exact)

pub returns-then-not-has_room-clause-runs : goal.returns-then-not-has_room-clause-runs
returns-then-not-has_room-clause-runs c =
    grind (arith, nat_tests, waits_unreleased c.run_is_after.ensures c.loop-left.invariant.exact, c.has_room.ensures)

pub returns-in-Some-clause-runs : goal.returns-in-Some-clause-runs
returns-in-Some-clause-runs c =
    let laws : Laws = record { there = c.run_is_after.ensures; grows = c.output_only_grows.ensures.steps } in
    run_is_over c.args.steps c.loop-left.left _ c.play_on-made.new.self c.in-Some.ran laws c.loop-left.invariant
    (c.has_room.ensures.0 c.if-not-has_room.false) (rw c.in-Some.is at c.play_on-made.ensures.plays)

pub loop-left-preserved : goal.loop-left-preserved
loop-left-preserved c =
    let laws : Laws = record { there = c.run_is_after.ensures; grows = c.output_only_grows.ensures.steps } in
    let t = c.play_on-made.ensures in
    let (k, mid, a, few, is) = rw c.in_default.is at t.plays in
    run_goes_on _ laws c.loop-left.invariant (c.has_room.ensures.0 c.if-not-has_room.false) a t.exact t.program t.released t.steps
    (omega arith) (omega arith)
