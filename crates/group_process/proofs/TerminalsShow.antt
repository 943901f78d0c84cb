-- A terminal that is put together of what its runs wrote shows the prefix of the console.
use Rattle.std.proofs.lemmas.Bool.{cases_lt}
use Rattle.std.proofs.lemmas.List.{append-nil, drop-append-le, drop_all, length-append, length-drop, nil_from_length, take-append-drop, take-append-le, take_all}
use Rattle.std.proofs.Math.Seq.{drop-append-add, drop-append_seam, take-append_seam}
use Rattle.std.proofs.Common.{Bool, Some, ◌≡◌, ◌⊎◌, ◌∙◌, ◌+◌, ◌-◌, ◌≤◌, ℕ, List, [], ◌∷◌, ◌++◌, append_assoc, drop, length, map, take, refl, sym, ap, subst, inl, inr, arith}
use Rattle.std.specs.List.{AllByRecursion, Contains}
use Rattle.pcode_machine.specs.Runs.{IsPrefix}
use Rattle.paxos_msg.specs.Batches.{Record}
use Rattle.group_protocol.proofs.Elements.{first_in, in_cases, none_in, rest_in}
use Rattle.group_world.specs.Group.{member_at}
use Rattle.group_world.specs.Member.{Member}
use Rattle.group_process.specs.Runs.{NodeStart, ConsolesAreReleased, ConsolesShowRuns, FailsToStart, NodeRun, Starts, run_output, runs_in}
use Rattle.group_process.specs.Terminals.{AreAtTerminal, LoseNothing, TerminalRun, TerminalsAreConsoles, TerminalsShowConsoles, TerminalsShowLastRuns, WritesAt, WritesWhole, WriteInTurn, shown_after, shown_before, terminal_after}
use Rattle.group_process.proofs.RunsShow.{no_more}

-- of two prefixes of a list the longer one begins with the other
begins : (a b c : List ℕ) → IsPrefix a c → IsPrefix b c → length a ≤ length b → b ≡ a ++ drop (length a) b
begins a b c h g few =
    let prefix : take (length a) b ≡ a =
    sym (take-append-le (length a) b g.rest few) ∙ ap (take (length a)) (sym g.whole ∙ h.whole) ∙ take-append_seam a h.rest in
    sym (take-append-drop (length a) b) ∙ ap (λ l. l ++ drop (length a) b) prefix

-- two prefixes of a list: one begins with the other, or has nothing behind its bytes
two_prefixes : (a b c : List ℕ) → IsPrefix a c → IsPrefix b c → (b ≡ a ++ drop (length a) b) ⊎ (drop (length a) b ≡ [])
two_prefixes a b c h g = elim (cases_lt (length b) (length a)) [
  | inl less ↦ inr (drop_all (length a) b (omega (arith, less)))
  | inr more ↦ inl (begins a b c h g more)
]

-- what is behind the bytes of a prefix, added to it, is a prefix
more_of : (a b c wrote : List ℕ) → IsPrefix a c → IsPrefix b c → IsPrefix wrote (drop (length a) b) → IsPrefix (a ++ wrote) c
more_of a b c wrote h g w = elim (two_prefixes a b c h g) [
  | inl longer ↦ record {
    rest = w.rest ++ g.rest;
    whole = g.whole ∙ ap (λ l. l ++ g.rest) (longer ∙ ap (λ l. a ++ l) w.whole) ∙ grind (arith, append_assoc);
  }
  | inr none ↦
      let empty : wrote ≡ [] = nil_from_length wrote (grind (arith, length-append, ap length (sym w.whole ∙ none))) in
      record { rest = h.rest; whole = h.whole ∙ ap (λ l. l ++ h.rest) (sym (ap (λ l. a ++ l) empty ∙ append-nil a)) }
]

-- the first bytes of a prefix are one
first_of : (k : ℕ) (a c : List ℕ) → IsPrefix a c → IsPrefix (take k a) c
first_of k a c h = record {
  rest = drop k a ++ h.rest;
  whole = h.whole ∙ ap (λ l. l ++ h.rest) (sym (take-append-drop k a)) ∙ append_assoc (take k a) (drop k a) h.rest;
}

-- what a terminal shows stays the prefix of the console
shows_after : (console shown : List ℕ) (run : TerminalRun) → IsPrefix run.released console → IsPrefix shown console → WritesAt shown run
    → IsPrefix (shown_after shown run) console
shows_after console shown run released before h =
    more_of (shown_before shown run) run.released console run.wrote (first_of run.survived shown console before) released
    (subst (λ n. IsPrefix run.wrote (drop n run.released)) h.told h.wrote)

pub shows : (console shown : List ℕ) (runs : List TerminalRun)
    → AllByRecursion (λ r. IsPrefix r console) (map (λ r. r.released) runs) → IsPrefix shown console → WriteInTurn shown runs
    → IsPrefix (terminal_after shown runs) console
shows console shown [] released before h = before
shows console shown (run ∷ runs) (one, released) before (first, h) =
    shows console (shown_after shown run) runs released (shows_after console shown run one before first) h

-- a run that has written all has all on its terminal that it has released
whole_after : (console shown : List ℕ) (run : TerminalRun) → IsPrefix run.released console → IsPrefix shown console → WritesAt shown run
    → WritesWhole run → IsPrefix run.released (shown_after shown run)
whole_after console shown run released before h all =
    let b : List ℕ = shown_before shown run in
    let rest : run.wrote ≡ drop (length b) run.released = all ∙ ap (λ n. drop n run.released) h.told in
    elim (cases_lt (length run.released) (length b)) [
      | inl less ↦
          let longer = begins run.released b console released (first_of run.survived shown console before) (omega (arith, less)) in
          record {
            rest = drop (length run.released) b ++ run.wrote;
            whole = ap (λ l. l ++ run.wrote) longer ∙ append_assoc run.released _ run.wrote;
          }
      | inr more ↦
          let longer = begins b run.released console (first_of run.survived shown console before) released more in
          record { rest = []; whole = ap (λ l. b ++ l) rest ∙ sym longer ∙ sym (append-nil run.released) }
    ]

pub shows_last : (console shown : List ℕ) (runs : List TerminalRun) (run : TerminalRun)
    → AllByRecursion (λ r. IsPrefix r console) (map (λ r. r.released) (runs ++ run ∷ [])) → IsPrefix shown console
    → WriteInTurn shown (runs ++ run ∷ []) → WritesWhole run → IsPrefix run.released (terminal_after shown (runs ++ run ∷ []))
shows_last console shown [] run (one, none) before (first, h) all = whole_after console shown run one before first all
shows_last console shown (r ∷ runs) run (one, released) before (first, h) all =
    shows_last console (shown_after shown r) runs run released (shows_after console shown r one before first) h all

-- a terminal that is kept whole has as many bytes as it had, and as a run has released
grows : (shown : List ℕ) (run : TerminalRun) → WritesAt shown run → length shown ≤ run.survived → WritesWhole run
    → (length shown ≤ length (shown_after shown run)) × (length run.released ≤ length (shown_after shown run))
grows shown run h kept all =
    let whole : shown_before shown run ≡ shown = take_all run.survived shown kept in
    let told : run.seen ≡ length shown = h.told ∙ ap length whole in
    let count : length (shown_after shown run) ≡ length shown + (length run.released - length shown) =
    length-append (shown_before shown run) run.wrote ∙ ap (λ l. length l + length run.wrote) whole
    ∙ ap (λ l. length shown + length l) (all ∙ ap (λ n. drop n run.released) told)
    ∙ ap (λ n. length shown + n) (length-drop (length shown) run.released) in
    (omega (arith, count), omega (arith, count))

pub long_enough : (shown : List ℕ) (runs : List TerminalRun) → WriteInTurn shown runs → LoseNothing shown runs
    → (length shown ≤ length (terminal_after shown runs))
    × ((released : List ℕ) → Contains (map (λ r. r.released) runs) released → length released ≤ length (terminal_after shown runs))
long_enough shown [] h kept = (omega arith, λ released there. absurd (none_in released there))
long_enough shown (run ∷ runs) (first, h) (kept, all, others) =
    let (more, enough) = grows shown run first kept all in
    let (then, each) = long_enough (shown_after shown run) runs h others in (
      omega (arith, more, then),
      λ released there. elim (in_cases run.released (map (λ r. r.released) runs) released there) [
        | inl is ↦ omega (arith, enough, then, ap length is)
        | inr later ↦ each released later
      ],
    )

-- ---- the runs of a node

-- what each run has released, by the starts that they are of
each_released : (console : List ℕ) (starts : List NodeStart)
    → ((run : NodeRun) → Contains starts (Starts run) → IsPrefix (run_output run) console)
    → AllByRecursion (λ r. IsPrefix r console) (map run_output (runs_in starts))
each_released console [] each = tt
each_released console (Starts run ∷ rest) each =
    (each run (first_in _ rest), each_released console rest (λ other there. each other (rest_in _ rest _ there)))
each_released console (FailsToStart loaded b ∷ rest) each =
    each_released console rest (λ other there. each other (rest_in _ rest _ there))

is_run : (r run : NodeRun) → Starts r ≡ Starts run → r ≡ run
is_run r run e = cc

no_run : (loaded : Record) (b : Bool) (run : NodeRun) → ¬ (FailsToStart loaded b ≡ Starts run)
no_run loaded b run e = cc

is_released : (starts : List NodeStart) (run : NodeRun) → Contains starts (Starts run)
    → Contains (map run_output (runs_in starts)) (run_output run)
is_released [] run there = absurd (none_in _ there)
is_released (Starts r ∷ rest) run there = elim (in_cases (Starts r) rest (Starts run) there) [
  | inl is ↦
      let outputs : List (List ℕ) = map run_output (runs_in (Starts r ∷ rest)) in
      subst (λ (q : NodeRun). Contains outputs (run_output q)) (is_run r run is) (first_in (run_output r) (map run_output (runs_in rest)))
  | inr later ↦ rest_in (run_output r) (map run_output (runs_in rest)) (run_output run) (is_released rest run later)
]
is_released (FailsToStart loaded b ∷ rest) run there = elim (in_cases (FailsToStart loaded b) rest (Starts run) there) [
  | inl is ↦ absurd (no_run loaded b run is)
  | inr later ↦ is_released rest run later
]

module _ (starts : ℕ → List NodeStart) (now : List Member) (shows_runs : ConsolesShowRuns starts now) where
  released_before : (i : ℕ) (m : Member) (runs : List TerminalRun) → member_at now i ≡ Some m → AreAtTerminal (starts i) runs
      → AllByRecursion (λ r. IsPrefix r m.console) (map (λ r. r.released) runs)
  released_before i m runs at h =
      subst (AllByRecursion (λ r. IsPrefix r m.console)) (sym h.released)
      (each_released m.console (starts i) (λ run there. shows_runs i m run at there))

  pub terminals_show : TerminalsShowConsoles starts now
  terminals_show i m runs at h =
      shows m.console [] runs (released_before i m runs at h) (record { rest = m.console; whole = refl }) h.writes

  pub terminals_show_last : TerminalsShowLastRuns starts now
  terminals_show_last i m runs last at h all =
      shows_last m.console [] runs last (released_before i m (runs ++ last ∷ []) at h) (record { rest = m.console; whole = refl }) h.writes
      all

  pub terminals_are : ConsolesAreReleased starts now → TerminalsAreConsoles starts now
  terminals_are only i m runs at h kept =
      let prefix = terminals_show i m runs at h in
      let (more, each) = long_enough [] runs h.writes kept in
      elim (only i m at) [
        | inl none ↦ sym (no_more (terminal_after [] runs) m.console prefix (omega (arith, ap length none)))
        | inr (run, there, is) ↦
            let count = each (run_output run)
            (subst (λ (l : List (List ℕ)). Contains l (run_output run)) (sym h.released) (is_released (starts i) run there)) in
            sym (no_more (terminal_after [] runs) m.console prefix (omega (arith, count, ap length is)))
      ]

-- ---- a number that is not that of the bytes on the terminal

-- a run that is told too small a number writes the bytes from there on once more
pub repeats : (shown released : List ℕ) (seen : ℕ) → IsPrefix shown released → seen ≤ length shown
    → shown ++ drop seen released ≡ shown ++ (drop seen shown ++ drop (length shown) released)
repeats shown released seen h few = ap (λ l. shown ++ l) (ap (drop seen) h.whole ∙ drop-append-le seen shown h.rest few
    ∙ ap (λ l. drop seen shown ++ l) (sym (ap (drop (length shown)) h.whole ∙ drop-append_seam shown h.rest)))

-- a run that is told too great a number leaves out the bytes between
pub leaves_out : (shown released : List ℕ) (n : ℕ) → IsPrefix shown released
    → released ≡ shown ++ (take n (drop (length shown) released) ++ drop (length shown + n) released)
leaves_out shown released n h = h.whole ∙ ap (λ l. shown ++ l) (sym (take-append-drop n h.rest)
    ∙ cc (drop-append_seam shown h.rest, drop-append-add shown h.rest n, h.whole))
