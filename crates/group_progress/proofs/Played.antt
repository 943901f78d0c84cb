-- In a fair run a node that runs and releases again and again shows what its program writes on what it has read.
use Rattle.std.proofs.Common.{length-append, length-drop, ◌≡◌, ◌≢◌, ◌∙◌, ◌⊎◌, inl, inr, ℕ, zero, suc, ◌+◌, ◌-◌, ◌<◌, ◌≤◌, Bool, IsTrue, List, ◌++◌, length, slice_get, Option, Some, None, refl, sym, ap, subst, arith}
use Rattle.std.proofs.lemmas.Bool.{cases_lt}
use Rattle.std.specs.FinMap.{FinMap}
use Rattle.std.specs.Ordering.{nat_cmp}
use Rattle.pcode_file.specs.Parts.{Parts}
use Rattle.pcode_machine.specs.Configuration.{Configuration}
use Rattle.pcode_machine.specs.Runs.{AreComparable, IsPrefix, after_steps, out}
use Rattle.pcode_machine.specs.Transition.{Goes, Stops, Waiting, transition}
use Rattle.paxos_msg.specs.declared.ballot.Ballot.{Ballot}
use Rattle.paxos_msg.specs.declared.value.Value.{Value}
use Rattle.paxos_learner.specs.Input.{learned_input}
use Rattle.paxos_learner.specs.Learner.{HasLearnedMore}
use Rattle.group_protocol.specs.Known.{Known}
use Rattle.group_node.specs.declared.player.Ran.{Ran}
use Rattle.group_node.specs.declared.player.Ran.TheVariants as ran
use Rattle.group_node.specs.NodeCalls.{Running, unreleased_by}
use Rattle.group_node.specs.Output.{IsOver, Progress, most_of}
use Rattle.group_node.specs.States.{input}
use Rattle.group_world.specs.declared.event.Act.TheVariants as act
use Rattle.group_world.specs.Deeds.{DoesDeed, Left}
use Rattle.group_world.specs.Group.{IsUp, me_of, World}
use Rattle.group_world.specs.Member.{Member, member_after_release}
use Rattle.group_progress.specs.GoingOn.{ShowsBytes}
use Rattle.group_progress.specs.Fair.{AllIsShown, Endless, IsLed, KeepsPlaying, Later}
use Rattle.group_world.proofs.WorldAsGroup.{changed_here, running}
use Rattle.group_progress.specs.Below.{PlayedLaws}
use Rattle.group_progress.proofs.Chasing.{slice_some}
use Rattle.group_progress.proofs.Going.{Good, by_rules}
use Rattle.group_progress.proofs.Moments.{one_running}
use Rattle.group_progress.proofs.Onward.{Onward, OnwardAt, does_at, onward_itself, onward_stays, onward_through, program_at}
use Rattle.group_progress.proofs.Runs.{good_at}
use Rattle.group_progress.proofs.Showing.{MOST_STEPS, console_compares, out_is, stays as still_after, written}
use Rattle.group_progress.proofs.Stages.{Stays, from_then, later_then, now}

-- a prefix is no longer
no_longer : {a b : List ℕ} → IsPrefix a b → length a ≤ length b
no_longer {a} h = omega (arith, ap (λ (o : List ℕ). length o) h.whole, length-append a h.rest)

-- to be comparable goes both ways
swap : {a b : List ℕ} → AreComparable a b → AreComparable b a
swap (inl h) = inr h
swap (inr h) = inl h

-- a run that makes all its steps makes one, unless all that can be counted are made
spent : (old steps new : ℕ) → new ≡ most_of old steps → 0 < steps → new ≤ old → MOST_STEPS ≤ new
spent old steps new e some low = omega (arith, e)

-- the program and the bytes that are to be shown: those of so many steps on what the node `base` has read
module _ (laws : PlayedLaws) (p : Parts) (base : Running) (most : ℕ) where
  -- the bytes that are to be shown
  abbrev Text : List ℕ
  Text = out p (input base.known) most

  -- what a machine has written
  abbrev WrittenBy : Running → List ℕ
  WrittenBy q = out p (input q.known) q.progress.steps

  -- more is read
  inputs_grow : (q r : Running) → Onward q r → IsPrefix (input q.known) (input r.known)
  inputs_grow q r on = let (rest, whole) =
      laws.learned q.known.learner.learned r.known.learner.learned on.more in record { rest = rest; whole = whole }

  -- what the machine has written is only ever longer
  written_grows : (q r : Running) → Onward q r → length (WrittenBy q) ≤ length (WrittenBy r)
  written_grows q r on =
      let steps = no_longer (laws.show.grows p (input q.known) q.progress.steps r.progress.steps on.steps) in
      let more = no_longer (laws.input p (input q.known) (input r.known) r.progress.steps (inputs_grow q r on)) in
      omega (arith, steps, more)

  -- the bytes are the first of those of so many steps
  text_in : (q : Running) → Onward base q → IsPrefix (out p (input base.known) most) (out p (input q.known) most)
  text_in q on = laws.input p (input base.known) (input q.known) most (inputs_grow base q on)

  -- so many steps write them
  all_written : (q : Running) (s : ℕ) → Onward base q → most ≤ s → length (out p (input base.known) most) ≤ length (out p (input q.known) s)
  all_written q s on enough =
      let first = no_longer (text_in q on) in
      let more = no_longer (laws.show.grows p (input q.known) most s enough) in
      omega (arith, first, more)

  -- and so do fewer, if no step exists after them
  ends_written : (q : Running) (s : ℕ) → Onward base q
      → ((d : Configuration) → transition p (input q.known) (after_steps p (input q.known) s) ≢ Goes d)
      → length (out p (input base.known) most) ≤ length (out p (input q.known) s)
  ends_written q s on none = elim (cases_lt s most) [
    | inr enough ↦ all_written q s on enough
    | inl less ↦
        let x : List ℕ = input q.known in
        let same : (most - s) + s ≡ most = omega (arith, less) in
        let still : after_steps p (input q.known) most ≡ after_steps p (input q.known) s =
        ap (after_steps p (input q.known)) (sym same) ∙ still_after p (input q.known) s (most - s) none in
        let equal : out p (input q.known) most ≡ out p (input q.known) s =
        out_is p (input q.known) most ∙ ap (λ (c : Configuration). c.output) still ∙ sym (out_is p (input q.known) s) in
        let first = no_longer (text_in q on) in
        omega (arith, first, ap (λ (o : List ℕ). length o) equal)
  ]

  -- ---- a run of the machine

  -- where bytes are left to be shown, a run makes a step, or has written more than was released
  run_writes : (q r : Running) (steps d : ℕ) (answer : Ran) → Onward base q → r.known ≡ q.known → r.progress.program ≡ p
      → r.progress.released ≡ q.progress.released
      → q.progress.steps ≤ r.progress.steps → 0 < steps → most ≤ MOST_STEPS → d < length (out p (input base.known) most)
      → d ≤ q.progress.released
      → IsOver (input q.known) (most_of q.progress.steps steps) r.progress answer
      → (q.progress.steps < r.progress.steps) ⊎ (d < length (WrittenBy r))
  run_writes q r steps d answer on known program released more some low left reached over = by answer over where
    x : List ℕ
    x = input q.known

    same : (s : ℕ) → out p (input q.known) s ≡ out p (input r.known) s
    same s = ap (λ (k : Known). out p (input k) s) (sym known)

    whole : length (out p (input base.known) most) ≤ length (out p (input q.known) r.progress.steps) → d < length (WrittenBy r)
    whole h = omega (arith, h, left, ap (λ (o : List ℕ). length o) (same r.progress.steps))

    stuck : ((c : Configuration) → transition r.progress.program (input q.known)
        (after_steps r.progress.program (input q.known) r.progress.steps) ≢ Goes c) → d < length (WrittenBy r)
    stuck none = whole (ends_written q r.progress.steps on
        (subst (λ p. (c : Configuration) → transition p (input q.known)
        (after_steps p (input q.known) r.progress.steps) ≢ Goes c) program none))

    by : (answer : Ran) → IsOver (input q.known) (most_of q.progress.steps steps) r.progress answer
        → (q.progress.steps < r.progress.steps) ⊎ (d < length (WrittenBy r))
    by ran.More over = elim (cases_lt q.progress.steps r.progress.steps) [
      | inl further ↦ inl further
      | inr not ↦
          let full : MOST_STEPS ≤ r.progress.steps = spent q.progress.steps steps r.progress.steps over some not in
          inr (whole (all_written q r.progress.steps on (omega (arith, full, low))))
    ]
    by ran.Full (less, full) =
        let waits = length-drop r.progress.released (out r.progress.program (input q.known) r.progress.steps) in
        let is : out r.progress.program (input q.known) r.progress.steps ≡ WrittenBy r =
        ap (λ p. out p (input q.known) r.progress.steps) program ∙ same r.progress.steps in
        inr (omega (arith, waits, full, released, reached, ap (λ (o : List ℕ). length o) is))
    by ran.Waits (room, waits) = inr (stuck (λ c goes. let no : Waiting ≡ Goes c = sym waits ∙ goes in absurd cc))
    by (ran.Ended e) (room, ends) = inr (stuck (λ c goes. let no : Stops e ≡ Goes c = sym ends ∙ goes in absurd cc))

  -- ---- what a released byte leaves

  -- one byte more is released
  released_more : (m : Member) (q : Running) (d : ℕ) (o : Option ℕ) → slice_get (unreleased_by q) 0 ≡ o → 0 < length (unreleased_by q)
      → (r : Running) × ((member_after_release m q o).node ≡ Some r) × (r.progress.released ≡ q.progress.released + 1)
  released_more m q d None e some =
      let (byte, there) = slice_some (unreleased_by q) 0 some in let no : Some byte ≡ None = sym there ∙ e in absurd cc
  released_more m q d (Some byte) e some = (_, refl, refl)

module _ (laws : PlayedLaws) {members : ℕ → Bool} {leader : ℕ} {b : Ballot} {w : World} (run : Endless w) (good : Good w)
    (led : IsLed members leader b run)
    (i : ℕ) (own : IsTrue (members i)) (played : KeepsPlaying i run) (base : Running) (most : ℕ) (low : most ≤ MOST_STEPS) where
  -- the program
  abbrev p : Parts
  p = w.program

  -- the number of bytes that are to be shown
  abbrev Long : ℕ
  Long = length (out w.program (input base.known) most)

  -- the node has gone on, made so many steps, and released so many bytes
  pub record Has (c d n : ℕ) : Type 0 where
    pub at : OnwardAt base (run.world n) i
    pub steps : c ≤ at.running.progress.steps
    pub released : d ≤ at.running.progress.released

  -- and has written more
  record Wrote (d n : ℕ) : Type 0 where
    pub at : OnwardAt base (run.world n) i
    pub released : d ≤ at.running.progress.released
    pub written : d < length (out w.program (input at.running.known) at.running.progress.steps)

  -- the node after one event
  next_of : (n : ℕ) (at : OnwardAt base (run.world n) i) → OnwardAt at.running (run.world (suc n)) i
  next_of n at = onward_stays laws.learn run led i own at.running n
      (record { node = at.node; running = at.running; up = at.up; on = onward_itself at.running })

  -- since the beginning
  abbrev joined : (n : ℕ) (at : OnwardAt base (run.world n) i) (g : OnwardAt at.running (run.world (suc n)) i)
      → OnwardAt base (run.world (suc n)) i
  joined n at g = record { node = g.node; running = g.running; up = g.up; on = onward_through base at.running g.running at.on g.on }

  -- both only rise
  has_stays : (c d : ℕ) → Stays (Has c d)
  has_stays c d n h =
      let g = next_of n h.at in record {
        at = joined n h.at g;
        steps = omega (arith, h.steps, g.on.steps);
        released = omega
            (arith, h.released, g.on.released);
      }

  -- and what is written stays
  wrote_stays : (d : ℕ) → Stays (Wrote d)
  wrote_stays d n h =
      let g = next_of n h.at in
      let more = written_grows laws w.program base most h.at.running g.running g.on in
      record { at = joined n h.at g; released = omega (arith, h.released, g.on.released); written = omega (arith, h.written, more) }

  -- a node runs the program of the group
  program_is : (n : ℕ) {m : Member} {q : Running} → IsUp (run.world n) i m q → q.progress.program ≡ w.program
  program_is n is_up = (running (good_at laws.show.events run good n).holds.sound is_up).program ∙ program_at laws.learn run led n

  -- ---- the machine runs

  -- a run makes one step more, or more is written than was released
  runs_then : (c d n steps : ℕ) → Has c d n → d < Long → 0 < steps → (run.event n).act ≡ act.Run i steps
      → Has (suc c) d (suc n) ⊎ Wrote d (suc n)
  runs_then c d n steps h left some acts =
      let (is_deed, does) = does_at laws.learn run led n i (act.Run i steps) own refl acts in
      let (q, up, runs, quiet) = subst
      (λ d. DoesDeed (run.world n).program (me_of (run.world n) i) does.node None d does.left) is_deed does.does in
      let same : h.at.running ≡ q = one_running h.at.up (record { there = does.there; up = up }) in
      let on : Onward base q = subst (Onward base) same h.at.on in
      let steps_of : c ≤ q.progress.steps = subst (λ (q : Running). c ≤ q.progress.steps) same h.steps in
      let released_of : d ≤ q.progress.released = subst (λ (q : Running). d ≤ q.progress.released) same h.released in
      let r : Running = record { known = q.known; progress = runs.progress } in
      let released : runs.progress.released ≡ q.progress.released = ap (λ (x : Progress). x.released) runs.runs.rest in
      let further : Onward q (record { known = q.known; progress = runs.progress }) = record {
        program = ap (λ (x : Progress). x.program) runs.runs.rest;
        steps = runs.runs.more;
        released = omega (arith, released);
        more = record { stays = λ s v e. e };
      } in
      let at : OnwardAt base (run.world (suc n)) i = record {
        node = does.left.member;
        running = record { known = q.known; progress = runs.progress };
        up = record {
          there = rw does.leads (changed_here (run.world n).members i does.node does.left.member does.there);
          up = ap (λ (m : Member). m.node) runs.new_is;
        };
        on = onward_through base q (record { known = q.known; progress = runs.progress }) on further;
      } in
      elim (run_writes laws w.program base most q (record { known = q.known; progress = runs.progress }) steps d runs.ran on refl
      (program_is (suc n) at.up) released
      runs.runs.more some low left released_of runs.runs.over) [
        | inl more ↦ inl (record { at = at; steps = omega (arith, steps_of, more); released = omega (arith, released_of, released) })
        | inr long ↦ inr (record { at = at; released = omega (arith, released_of, released); written = long })
      ]

  -- so more is written at some moment
  writes : (fuel c d n : ℕ) → most ≤ c + fuel → Has c d n → d < Long → Later n (Wrote d)
  writes zero c d n enough h left = now n (record {
    at = h.at;
    released = h.released;
    written = (let all = all_written laws w.program base most h.at.running h.at.running.progress.steps h.at.on
        (omega (arith, enough, h.steps)) in omega (arith, all, left));
  })
  writes (suc fuel) c d n enough h left =
      let (t, less, (steps, some, acts)) = played.runs n in
      let still = from_then (Has c d) (has_stays c d) n t less h in
      elim (runs_then c d t steps still left some acts) [
        | inr wrote ↦ (suc t, omega (arith, less), wrote)
        | inl more ↦ let (u, further, wrote) = writes fuel (suc c) d (suc t) (omega (arith, enough)) more left in
            (u, omega (arith, less, further), wrote)
      ]

  -- ---- bytes are released

  -- a release then shows one byte more
  releases_then : (d n : ℕ) → Wrote d n → (run.event n).act ≡ act.Release i → Has 0 (suc d) (suc n)
  releases_then d n h acts =
      let (is_deed, does) = does_at laws.learn run led n i (act.Release i) own refl acts in
      let (q, up, is) = subst (λ d. DoesDeed (run.world n).program (me_of (run.world n) i) does.node None d does.left) is_deed does.does in
      let is_up : IsUp (run.world n) i does.node q = record { there = does.there; up = up } in
      let same : h.at.running ≡ q = one_running h.at.up is_up in
      let g = next_of n h.at in
      elim (cases_lt d h.at.running.progress.released) [
        | inl more ↦ record { at = joined n h.at g; steps = omega arith; released = omega (arith, more, g.on.released) }
        | inr not ↦
            let here : h.at.running.progress.released ≡ q.progress.released = ap (λ (q : Running). q.progress.released) same in
            let program : out q.progress.program (input q.known) q.progress.steps ≡ out w.program
            (input h.at.running.known) h.at.running.progress.steps =
            ap (λ p. out p (input q.known) q.progress.steps) (program_is n is_up) ∙ ap
            (λ (q : Running). out w.program (input q.known) q.progress.steps) (sym same) in
            let waits = length-drop q.progress.released (out q.progress.program (input q.known) q.progress.steps) in
            let some : 0 < length (unreleased_by q) = omega (arith, waits, ap (λ (o : List ℕ). length o) program, h.written, here, not) in
            let (r, node, released) = released_more laws w.program base most does.node q d (slice_get (unreleased_by q) 0) refl some in
            let up_then : IsUp (run.world (suc n)) i does.left.member r = record {
              there = rw does.leads (changed_here (run.world n).members i does.node does.left.member does.there);
              up = ap (λ (x : Left). x.member.node) is ∙ node;
            } in
            let one : r ≡ g.running = one_running up_then g.up in
            let grown : r.progress.released ≡ g.running.progress.released = ap (λ (q : Running). q.progress.released) one in
            record { at = joined n h.at g; steps = omega arith; released = omega (arith, grown, released, here, h.released) }
      ]

  -- until all are released
  releases : (d n : ℕ) → Has 0 0 n → d ≤ Long → Later n (Has 0 d)
  releases zero n h enough = now n h
  releases (suc d) n h enough = later_then n (releases d n h (omega (arith, enough))) (λ t less at.
      later_then t (writes most 0 d t (omega arith) at (omega (arith, enough))) (λ u more wrote.
      let (x, further, acts) = played.releases u in
      (suc x, omega (arith, further), releases_then d x (from_then (Wrote d) (wrote_stays d) u x further wrote) acts)))

  -- ---- what was released is shown

  -- what was released is on the console
  shown_at : (n : ℕ) → Has 0 Long n → ShowsBytes (out w.program (input base.known) most) i (run.world n)
  shown_at n h =
      let q : Running = h.at.running in
      let text : List ℕ = out w.program (input base.known) most in
      let wrote : List ℕ = out w.program (input h.at.running.known) h.at.running.progress.steps in
      let whole : List ℕ = out w.program (input h.at.running.known) most in
      let sound = running (good_at laws.show.events run good n).holds.sound h.at.up in
      let is : written h.at.running ≡ out w.program (input h.at.running.known) h.at.running.progress.steps =
      ap (λ p. out p (input h.at.running.known) h.at.running.progress.steps) (program_is n h.at.up) in
      let compares : AreComparable h.at.node.console wrote =
      subst (AreComparable h.at.node.console) is
      (console_compares laws.show.play (good_at laws.show.events run good n).holds h.at.up) in
      let begins : IsPrefix text whole = text_in laws w.program base most h.at.running h.at.on in
      let alike : AreComparable text wrote = elim (cases_lt h.at.running.progress.steps most) [
        | inr enough ↦ inl (laws.show.through text whole wrote begins
            (laws.show.grows w.program (input h.at.running.known) most h.at.running.progress.steps enough))
        | inl less ↦ laws.below text wrote whole whole begins
            (laws.show.grows w.program (input h.at.running.known) h.at.running.progress.steps most (omega (arith, less)))
            (inl (laws.show.play.itself whole))
      ] in
      let replay : h.at.running.progress.released ≤ length (written h.at.running) = sound.replay.released in
      let enough : length text ≤ length wrote = omega (arith, h.released, replay, ap (λ (o : List ℕ). length o) is) in
      let first : IsPrefix text wrote = laws.show.play.shorter text wrote alike enough in
      let at_last = laws.below text h.at.node.console wrote h.at.node.console first (laws.show.play.itself h.at.node.console)
      (swap compares) in
      record {
        node = h.at.node;
        there = h.at.up.there;
        shown = laws.show.play.shorter text h.at.node.console at_last
            (omega (arith, h.released, (by_rules (good_at laws.show.events run good n).holds h.at.up).shown));
      }

  -- all bytes are shown from some moment on
  pub shows_later : (n : ℕ) → Has 0 0 n → Later n (λ t. (u : ℕ) → t ≤ u → ShowsBytes (out w.program (input base.known) most) i
      (run.world u))
  shows_later n h = later_then n (releases Long n h (omega arith))
      (λ t less at. now t (λ u more. shown_at u (from_then (Has 0 Long) (has_stays 0 Long) t u more at)))

-- for each node that plays
pub all_is_shown : PlayedLaws → {members : ℕ → Bool} {leader : ℕ} {b : Ballot} {w : World} (run : Endless w) → Good w
    → IsLed members leader b run
    → (i n : ℕ) → IsTrue (members i) → KeepsPlaying i run → AllIsShown run i n
all_is_shown laws run good led i n own played m q steps is_up low =
    shows_later laws run good led i own played q steps low n
    (record { at = record { node = m; running = q; up = is_up; on = onward_itself q }; steps = omega arith; released = omega arith })
