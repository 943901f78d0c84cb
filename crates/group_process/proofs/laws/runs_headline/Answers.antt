-- What holds of every log of nodes holds of every log of runs.
use Rattle.std.proofs.lemmas.Grind.{flat_map-append}
use Rattle.std.proofs.Common.{◌≡◌, ℕ, List, ◌++◌, subst, arith}
use Rattle.pcode_file.specs.Parts.{Parts}
use Rattle.paxos_msg.specs.declared.message.Group.{Group}
use Rattle.group_rules.specs.Rules.{WorldState}
use Rattle.group_world.specs.Group.{new_world, world_state}
use Rattle.group_rules.specs.Claims.{ConsolesAgree, ConsolesGrow, ConsolesHoldOutput, HasNoGap, LearnedAgree, LearnedChosen, LearnedStays}
use Rattle.group_world.specs.Member.{Member}
use Rattle.group_rules.specs.Claims.{ConsolesShowReleased, KeysOnce, SerialsInOrder}
use Rattle.group_world.specs.Processes.{AlwaysLaterOfProcesses, AlwaysOfProcesses, Entry, after_log}
use Rattle.group_process.specs.Runs.{AlwaysLaterOfRuns, AlwaysOfNodes, AlwaysOfRuns, NodeStart, ConsolesAreReleased, ConsolesShowRuns, state_after}
use Rattle.group_process.specs.Terminals.{TerminalsAreConsoles, TerminalsShowConsoles, TerminalsShowLastRuns}
use Rattle.group_process.proofs.RunsShow.{LogLaws, only_released, runs_show}
use Rattle.group_process.proofs.laws.runs_headline.Goals as goal

of_runs : (P : WorldState → Type 0) → AlwaysOfProcesses P → AlwaysOfRuns P
of_runs P always p group runs log now size session h = always p group log now size session h.nodes

-- a log in two parts, or in one
after_parts : (p : Parts) (group : Group) (log more : List Entry) (mid now : List Member)
    → world_state (after_log (after_log (new_world p group) log mid) more now) ≡ state_after p group (log ++ more) now
after_parts p group log more mid now = grind (arith, flat_map-append)

later_of_runs : LogLaws → (P : WorldState → WorldState → Type 0) → AlwaysLaterOfProcesses P → AlwaysLaterOfRuns P
later_of_runs laws P always p group cut runs log more mid now size session first second =
    let (other, moment) = laws.parts (new_world p group) log more now second.nodes in
    let same : other ≡ mid = laws.one (new_world p group) log mid other first.nodes moment.before in
    subst (P (state_after p group log mid)) (after_parts p group log more mid now)
    (always p group log more mid now size session first.nodes (rw same at moment.after))

-- what follows of the consoles and of what was released
of_nodes : LogLaws → (Q : (ℕ → List NodeStart) → List Member → Type 0)
    → ((starts : ℕ → List NodeStart) (now : List Member) → ConsolesShowRuns starts now → ConsolesAreReleased starts now → Q starts now)
    → AlwaysOfNodes Q
of_nodes laws Q follows p group runs log now size session h =
    follows runs now (runs_show laws p group runs log now size session h) (only_released laws p group runs log now size session h)

laws : goal.After-prefixes_are_ordered → LogLaws
laws c = grind arith

pub returns : goal.returns
returns c =
    let claims = c.processes_headline.ensures in
    let terminals = c.terminals_are_consoles.ensures in
    record {
      nodes = c.logs_leave_nodes.ensures.nodes;
      prefixes = c.prefixes_of_runs.ensures;
      learned_agree = of_runs LearnedAgree claims.learned_agree;
      learned_chosen = of_runs LearnedChosen claims.learned_chosen;
      consoles_hold_output = of_runs ConsolesHoldOutput claims.consoles_hold_output;
      consoles_agree = of_runs ConsolesAgree claims.consoles_agree;
      no_gap = of_runs HasNoGap claims.no_gap;
      key_once = of_runs KeysOnce claims.key_once;
      serials_in_order = of_runs SerialsInOrder claims.serials_in_order;
      shows_released = of_runs ConsolesShowReleased c.processes_show.ensures.shows;
      shows_runs = runs_show (laws c);
      only_released = only_released (laws c);
      terminals_show = of_nodes (laws c) TerminalsShowConsoles (λ starts now shown only. terminals.shows starts now shown);
      terminals_show_last = of_nodes (laws c) TerminalsShowLastRuns (λ starts now shown only. terminals.last starts now shown);
      terminals_are_whole = of_nodes (laws c) TerminalsAreConsoles terminals.whole;
      learned_stays = later_of_runs (laws c) LearnedStays claims.learned_stays;
      consoles_grow = later_of_runs (laws c) ConsolesGrow claims.consoles_grow;
    }
