use Rattle.std.proofs.Common.{ℕ, List, ◌++◌}
use Rattle.pcode_file.specs.Parts.{Parts}
use Rattle.paxos_msg.specs.declared.message.Group.{Group}
use Rattle.group_world.specs.Processes.{Entry}
use Rattle.group_world.specs.Member.{Member}
use Rattle.group_process.specs.Runs.{NodeStart, ConsolesAreReleased, ConsolesShowRuns}
use Rattle.group_process.specs.Terminals.{TerminalsAreConsoles, TerminalsShowConsoles, TerminalsShowLastRuns}
use Rattle.group_disk.specs.Headline.{AlwaysOfDiskNodes, HaveMomentOfDisks}
use Rattle.group_disk.specs.Restarts.{IsDiskLog}
use Rattle.group_rules.specs.Claims.{ConsolesAgree, ConsolesGrow, ConsolesHoldOutput, HasNoGap, KeysOnce, LearnedAgree, LearnedChosen, LearnedStays, ConsolesShowReleased, SerialsInOrder}
use Rattle.group_disk.proofs.DiskClaims.{disks_leave, of_disks, released_over_disks, seen_alike, shows_over_disks, up_as_run}
use Rattle.group_disk.proofs.DiskMoments.{AlikeLaw, grow_by_seats, later_of_disks, stays_by_seats}
use Rattle.group_disk.proofs.laws.disks_headline.Goals as goal

-- what follows of the consoles and of what was released
of_seen : goal.After-prefixes_are_ordered → (Q : (ℕ → List NodeStart) → List Member → Type 0)
    → ((starts : ℕ → List NodeStart) (now : List Member) → ConsolesShowRuns starts now → ConsolesAreReleased starts now → Q starts now)
    → AlwaysOfDiskNodes Q
of_seen c Q follows p group restarts log now size session h =
    let claims = c.runs_headline.ensures in
    follows restarts now (shows_over_disks claims.shows_runs p group restarts log now size session h)
    (released_over_disks claims.only_released p group restarts log now size session h)

alike : goal.After-prefixes_are_ordered → AlikeLaw
alike c p group restarts log now other size session =
    let claims = c.runs_headline.ensures in
    seen_alike (shows_over_disks claims.shows_runs) (released_over_disks claims.only_released) c.prefixes_are_ordered.ensures.both p
    group restarts log size session now other

moments : goal.After-prefixes_are_ordered → (p : Parts) (group : Group) (restarts : ℕ → List NodeStart) (log more : List Entry)
    → IsDiskLog p group restarts (log ++ more) → HaveMomentOfDisks p group restarts log more
moments c p group restarts log more h =
    let (cut, before, first) = c.prefixes_of_disks.ensures p group restarts log more h in (
      cut,
      record { before = before; all = h; first = first },
      disks_leave c.disk_logs_are_kept.ensures c.runs_headline.ensures.nodes p group cut log before,
    )

pub returns : goal.returns
returns c =
    let claims = c.runs_headline.ensures in
    let terminals = c.terminals_are_consoles.ensures in
    record {
      nodes = disks_leave c.disk_logs_are_kept.ensures claims.nodes;
      prefixes = c.prefixes_of_disks.ensures;
      moments = moments c;
      as_run = up_as_run;
      alike = alike c;
      learned_agree = of_disks LearnedAgree claims.learned_agree;
      learned_chosen = of_disks LearnedChosen claims.learned_chosen;
      consoles_hold_output = of_disks ConsolesHoldOutput claims.consoles_hold_output;
      consoles_agree = of_disks ConsolesAgree claims.consoles_agree;
      no_gap = of_disks HasNoGap claims.no_gap;
      key_once = of_disks KeysOnce claims.key_once;
      serials_in_order = of_disks SerialsInOrder claims.serials_in_order;
      shows_released = of_disks ConsolesShowReleased claims.shows_released;
      shows_runs = shows_over_disks claims.shows_runs;
      only_released = released_over_disks claims.only_released;
      terminals_show = of_seen c TerminalsShowConsoles (λ starts now shown only. terminals.shows starts now shown);
      terminals_show_last = of_seen c TerminalsShowLastRuns (λ starts now shown only. terminals.last starts now shown);
      terminals_are_whole = of_seen c TerminalsAreConsoles terminals.whole;
      learned_stays = later_of_disks claims.nodes (alike c) LearnedStays stays_by_seats claims.learned_stays;
      consoles_grow = later_of_disks claims.nodes (alike c) ConsolesGrow grow_by_seats claims.consoles_grow;
    }
