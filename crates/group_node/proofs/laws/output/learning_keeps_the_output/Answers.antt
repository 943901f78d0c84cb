-- When more is learned, what a replay has come to stays.
use Rattle.std.proofs.Common.{◌≡◌, ℕ, List, drop, ap, arith}
use Rattle.std.proofs.lemmas.Bool.Decides.{nat_tests}
use Rattle.std.specs.Ordering.{nat_cmp}
use Rattle.std.specs.FinMap.{FinMap}
use Rattle.paxos_msg.specs.declared.value.Value.{Value}
use Rattle.paxos_learner.specs.Learner.{HasLearnedMore}
use Rattle.paxos_learner.specs.Input.{learned_input}
use Rattle.pcode_file.specs.Parts.{Parts}
use Rattle.pcode_machine.specs.Runs.{after_steps, out, LeadsIn}
use Rattle.group_node.specs.Output.{IsReplay, no_progress, Progress, unreleased_of}
use Rattle.group_node.proofs.laws.output.learning_keeps_the_output.Goals as goal

module _ (c : goal.After-run_is_after) (old new : FinMap nat_cmp Value) (q : Progress) (more : HasLearnedMore old new)
    (h : IsReplay (learned_input old) q) where
  -- the steps are steps on the longer input
  made_longer : LeadsIn q.program (learned_input new) q.steps (after_steps q.program (learned_input old) q.steps)
  made_longer = grind (arith, nat_tests, c.input_grows.ensures.learned, c.same_run_on_longer_input.ensures)

  -- they lead to the same configuration
  same_after : after_steps q.program (learned_input new) q.steps ≡ after_steps q.program (learned_input old) q.steps
  same_after = grind (arith, nat_tests, made_longer, c.run_is_after.ensures)

  -- so the output is the same
  same_out : out q.program (learned_input new) q.steps ≡ out q.program (learned_input old) q.steps
  unfolding out
  same_out = grind (arith, nat_tests, same_after)

  -- and what waits
  same_unreleased : unreleased_of (learned_input new) q ≡ unreleased_of (learned_input old) q
  same_unreleased = ap (drop q.released) same_out

  -- it is a replay on the longer input
  replay_longer : IsReplay (learned_input new) q
  replay_longer = grind (arith, nat_tests, h, same_after, made_longer, same_out, same_unreleased)

-- before the first step
replay_begins : (p : Parts) (x : List ℕ) → IsReplay x (no_progress p)
unfolding LeadsIn after_steps out
replay_begins p x = grind (arith, nat_tests)

pub returns : goal.returns
returns c = record { replay = replay_longer c; waits = same_unreleased c; configuration = same_after c; begins = replay_begins }
