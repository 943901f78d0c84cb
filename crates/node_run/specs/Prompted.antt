-- What a node is prompted to do in its turns. A prompt types a byte, campaigns, or runs the
-- machine. The keyboard gives bytes and requests to campaign. A retry is a prompt too. There are as
-- many runs as turns.
use Rattle.std.specs.Prelude.{◌≡◌, ◌≤◌, ◌+◌, ◌*◌, ℕ, Bool, true, false, List, [], ◌++◌, filter, length}
use Rattle.group_node.specs.Deeds.{Deed, Run}
use Rattle.node_run.specs.declared.limits.TheConstants.{MOST_RETRIES}
use Rattle.node_io.specs.Prompts.{bytes_in, campaigns_in}

-- True of a prompt to run the machine.
abbrev pub is_run : Deed → Bool
is_run (Run steps) = true
is_run _ = false

-- How often these prompts run the machine: once in each turn.
abbrev pub turns_in : List Deed → ℕ
turns_in prompts = length (filter is_run prompts)

-- The prompts of a node in so many turns, at which its keyboard gave the prompts `gift`. What was
-- typed is what the keyboard gave, each byte once and in order. If the serials were spent, the last
-- bytes that it gave may be lost. Otherwise none is. `had` is how often the node might campaign
-- again before, and `left` how often it may now: its campaigns plus `left` are at most four for
-- each request plus `had`.
-- Allows: a campaign that was asked for, and could not begin, or that a leader has ignored.
-- Allows: a campaign before the request that counts for it.
-- Forbids: a byte that is typed twice; if `had` is 0, more campaigns in all than four for each
-- request, so any where nobody asked.
pub record IsPrompted (gift : List Deed) (turns had left : ℕ) (spent : Type 0)
    (prompts : List Deed) : Type 0 where
  pub lost : List ℕ
  pub typed : bytes_in gift ≡ bytes_in prompts ++ lost
  pub all : ¬ spent → lost ≡ []
  pub campaigns :
      campaigns_in prompts + left ≤ campaigns_in gift * (1 + MOST_RETRIES) + had
  pub made : turns_in prompts ≡ turns
