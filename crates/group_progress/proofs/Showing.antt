-- A node that is up runs its machine and releases what that has written.
use Rattle.std.proofs.Common.{◌≡◌, ◌≢◌, ◌∙◌, ◌⊎◌, inl, inr, ℕ, zero, suc, ◌+◌, ◌-◌, ◌<◌, ◌≤◌, Bool, IsTrue, List, length, slice_get, Option, Some, None, refl, sym, ap, subst, arith, append-nil, length-append, length-drop}
use Rattle.std.proofs.lemmas.Bool.Decides.{nat_tests}
use Rattle.std.proofs.lemmas.Bool.{cases_lt}
use Rattle.std.proofs.lemmas.List.{length_push}
use Rattle.pcode_file.specs.Parts.{Parts}
use Rattle.pcode_machine.specs.Configuration.{Configuration}
use Rattle.pcode_machine.specs.Runs.{AreComparable, IsPrefix, LeadsIn, after_steps, led, out}
use Rattle.pcode_machine.specs.Transition.{Goes, Stops, Stuck, Transition, Waiting, transition}
use Rattle.pcode_machine.proofs.TransitionCases.{Executed, Moved, went}
use Rattle.group_protocol.specs.Known.{Known}
use Rattle.group_node.specs.Deeds as deed
use Rattle.group_node.specs.Deeds.{Deed}
use Rattle.group_node.specs.declared.player.Ran.TheVariants as ran
use Rattle.group_node.specs.NodeCalls.{Running, unreleased_by}
use Rattle.group_node.specs.Output.{IsReplay, Progress, RunsOn, unreleased_of}
use Rattle.group_node.specs.States.{input}
use Rattle.group_world.specs.declared.event.Act.{Act}
use Rattle.group_world.specs.declared.event.Act.TheVariants as act
use Rattle.group_world.specs.declared.event.Done.TheVariants.{Applied}
use Rattle.group_world.specs.Deeds.{DoesDeed, Left, quietly}
use Rattle.group_world.specs.Event.{DoesAt, Goes as Performed, IsDeedOf, kept_event, node_of, world_after}
use Rattle.group_rules.specs.Invariants.{HoldsByRules}
use Rattle.group_rules.specs.Rules.{Up, WorldState}
use Rattle.group_world.specs.Group.{IsUp, me_of, member_at, messages_in, up_of, World, world_state}
use Rattle.group_world.specs.Member.{Member, RunsMember, at_progress, member_after_release}
use Rattle.group_world.specs.Sound.{Holds}
use Rattle.group_progress.specs.GoingOn.{IsHelpful, Reaches}
use Rattle.group_progress.specs.Below.{EventLaws, PlayLaws, ShowLaws}
use Rattle.group_progress.proofs.Chasing.{slice_some}
use Rattle.group_progress.proofs.Going.{Good, by_rules, deed_good, heard_by, once, stay, then}
use Rattle.group_world.proofs.WorldAsGroup.{changed_elsewhere, changed_here, running}

-- what a machine has written
abbrev pub written : Running → List ℕ
written q = out q.progress.program (input q.known) q.progress.steps

-- the console of a node is comparable with what its machine has written
pub console_compares : PlayLaws → {w : World} → Holds w → {i : ℕ} {m : Member} {q : Running} → IsUp w i m q
    → AreComparable m.console (written q)
unfolding out
console_compares laws {w} holds {i} {m} {q} is_up =
    let compares = laws.compares (world_state w) i (up_of q) holds.rules (rw (is_up.there, is_up.up) refl) in
    rw is_up.there at compares

-- ---- an event at which nothing is sent

-- node `i` is this after it
pub record Quiet (w : World) (i : ℕ) (new : Member) (v : World) : Type 0 where
  pub fine : Good v
  pub program : v.program ≡ w.program
  pub group : v.group ≡ w.group
  pub now : member_at v.members i ≡ Some new
  pub others : (j : ℕ) → j ≢ i → member_at v.members j ≡ member_at w.members j
  pub sent : (world_state v).sent ≡ (world_state w).sent

module _ (laws : EventLaws) {members : ℕ → Bool} {n : ℕ} {w : World} (good : Good w) (i : ℕ) {m : Member}
    (there : member_at w.members i ≡ Some m)
    (own : IsTrue (members i)) where
  can_quiet : (new : Member) (a : Act) (d : Deed) → node_of a ≡ i → IsHelpful n a → IsDeedOf (messages_in w.group w.sent) a d
      → DoesDeed w.program (me_of w i) m None d (quietly new) → Reaches members n w (Quiet w i new)
  can_quiet new a d at helpful is_deed does =
      let left : Left = quietly new in
      let v : World = world_after w i left in
      let does_at : DoesAt w i None d Applied v = record {
        node = m;
        there = there;
        left = left;
        does = does;
        answers = refl;
        leads =
            refl;
      } in
      let goes : Performed w (kept_event a) Applied v = record { deed = d; is_deed = is_deed; does = rw at does_at } in
      let is_heard = heard_by w.group w.sent a d is_deed in
      once (kept_event a) Applied (record { of_member = rw at own; kept = refl; helpful = helpful }) goes
      (record {
        fine = deed_good laws w v i None d Applied good is_heard does_at;
        program = refl;
        group = refl;
        now = changed_here w.members i m new there;
        others = λ j other. changed_elsewhere w.members i j m new there other;
        sent = ap (messages_in w.group) (append-nil w.sent);
      })

-- ---- the machine

-- a step writes one byte at most
one_byte : (p : Parts) (x : List ℕ) (c d : Configuration) → transition p x c ≡ Goes d → length d.output ≤ length c.output + 1
one_byte p x c d e = elim (went p x c d e) [
  | Executed f i j at made is ↦ grind (arith, nat_tests)
  | Moved f t current at e ↦ grind (arith, nat_tests, length_push)
]

after_one : (p : Parts) (x : List ℕ) (s : ℕ) (d : Configuration) → transition p x (after_steps p x s) ≡ Goes d → after_steps p x (suc s) ≡ d
unfolding after_steps
after_one p x s d e = rw e refl

leads_one : (p : Parts) (x : List ℕ) (s : ℕ) (d : Configuration) → LeadsIn p x s (after_steps p x s) → transition p x
    (after_steps p x s) ≡ Goes d
    → LeadsIn p x (suc s) d
unfolding LeadsIn
leads_one p x s d made e = (after_steps p x s, made, e)

pub out_is : (p : Parts) (x : List ℕ) (s : ℕ) → out p x s ≡ (after_steps p x s).output
unfolding out
out_is p x s = refl

led_same : (c : Configuration) (t : Transition) → ((d : Configuration) → t ≢ Goes d) → led c t ≡ c
led_same c (Goes d) none = absurd (none d refl)
led_same c (Stops e) none = refl
led_same c Waiting none = refl
led_same c Stuck none = refl

-- where no step exists, the output stays
pub stays : (p : Parts) (x : List ℕ) (s k : ℕ) → ((d : Configuration) → transition p x (after_steps p x s) ≢ Goes d) → after_steps p x
    (k + s) ≡ after_steps p x s
unfolding after_steps
stays p x s zero none = let same : 0 + s ≡ s = omega arith in ap (after_steps p x) same
stays p x s (suc k) none =
    let before = stays p x s k none in
    let same : suc k + s ≡ suc (k + s) = omega arith in
    ap (after_steps p x) same ∙ ap (λ c. led c (transition p x c)) before ∙ led_same (after_steps p x s)
    (transition p x (after_steps p x s)) none

-- ---- a node that plays

-- the greatest number of steps
abbrev pub MOST_STEPS : ℕ
MOST_STEPS = 18446744073709551615

-- node `i` runs this program, knows this, has made so many steps, and has released so many bytes; all else is as in `z`
pub record Plays (z : World) (p : Parts) (i : ℕ) (k : Known) (s r : ℕ) (w : World) : Type 0 where
  pub good : Good w
  pub program : w.program ≡ p
  pub group : w.group ≡ z.group
  pub sent : (world_state w).sent ≡ (world_state z).sent
  pub others : (j : ℕ) → j ≢ i → member_at w.members j ≡ member_at z.members j
  pub node : Member
  pub there : member_at w.members i ≡ Some node
  pub up : node.node ≡ Some (record { known = k; progress = record { program = p; steps = s; released = r } })

module _ (p : Parts) (k : Known) where
  abbrev x : List ℕ
  x = input k

  abbrev progress : ℕ → ℕ → Progress
  progress s r = record { program = p; steps = s; released = r }

  abbrev running_at : ℕ → ℕ → Running
  running_at s r = record { known = k; progress = progress s r }

  replay_of : (i s r : ℕ) {z w : World} → Plays z p i k s r w → IsReplay x (progress s r)
  replay_of i s r a = (running a.good.holds.sound (record { there = a.there; up = a.up })).replay

  -- the bytes that wait
  waits_length : (s r : ℕ) → length (unreleased_of x (progress s r)) ≡ length (out p x s) - r
  waits_length s r = length-drop r (out p x s)

module _ (laws : ShowLaws) (members : ℕ → Bool) (n : ℕ) (z : World) (p : Parts) (i : ℕ) (k : Known) (own : IsTrue (members i)) where
  -- what a quiet event of the node leaves
  onward : {s r t u : ℕ} {w v : World} {new : Member} → Plays z p i k s r w → Quiet w i new v → new.node ≡ Some (running_at p k t u) →
      Plays z p i k t u v
  onward {new = new} a quiet up = record {
    good = quiet.fine;
    program = quiet.program ∙ a.program;
    group = quiet.group ∙ a.group;
    sent = quiet.sent ∙ a.sent;
    others = λ j other. quiet.others j other ∙ a.others j other;
    node = new;
    there = quiet.now;
    up = up;
  }

  -- one byte is released
  release_one : (s r : ℕ) (w : World) → Plays z p i k s r w → r < length (out p (x p k) s) → Reaches members n w (Plays z p i k s (r + 1))
  release_one s r w a less =
      let q : Running = (running_at p k s r) in
      by (slice_get (unreleased_by q) 0) refl where
        by : (o : Option ℕ) → slice_get (unreleased_by (running_at p k s r)) 0 ≡ o → Reaches members n w (Plays z p i k s (r + 1))
        by None e =
            let (byte, there) = slice_some (unreleased_by (running_at p k s r)) 0 (omega (arith, less, waits_length p k s r)) in
            let no : Some byte ≡ None = sym there ∙ e in absurd cc
        by (Some byte) e =
            let q : Running = (running_at p k s r) in
            let new : Member = member_after_release a.node q (Some byte) in
            then (can_quiet laws.events a.good i a.there own new (act.Release i) deed.Release refl tt refl (q, a.up, rw e refl)) (λ v quiet.
            stay (onward a quiet refl))

  -- one step
  run_one : (s r : ℕ) (w : World) → Plays z p i k s r w → s < MOST_STEPS → length (unreleased_of (x p k) (progress p k s r)) < 256 →
      (d : Configuration)
      → transition p (x p k) (after_steps p (x p k) s) ≡ Goes d → Reaches members n w (Plays z p i k (suc s) r)
  run_one s r w a less room d e =
      let q : Running = (running_at p k s r) in
      let next : Progress = progress p k (suc s) r in
      let new : Member = at_progress a.node q next in
      let old = replay_of p k i s r a in
      let after : after_steps p (x p k) (suc s) ≡ d = after_one p (x p k) s d e in
      let grows = one_byte p (x p k) (after_steps p (x p k) s) d e in
      let outs : length (out p (x p k) (suc s)) ≤ length (out p (x p k) s) + 1 =
      omega (
        arith,
        grows,
        ap (λ (c : Configuration). length c.output) after,
        ap (λ (o : List ℕ). length o) (out_is p (x p k) (suc s)),
        ap (λ (o : List ℕ). length o) (out_is p (x p k) s),
      ) in
      let longer : length (out p (x p k) s) ≤ length (out p (x p k) (suc s)) =
      let h = laws.grows p (x p k) s (suc s) (omega arith) in
      omega (arith, ap (λ (o : List ℕ). length o) h.whole, length-append (out p (x p k) s) h.rest) in
      let replay : IsReplay (x p k) next = record {
        made = subst (LeadsIn p (x p k) (suc s)) (sym after) (leads_one p (x p k) s d old.made e);
        released = omega (arith, old.released, longer);
        few = omega (arith, room, outs, waits_length p k s r, waits_length p k (suc s) r);
      } in
      let runs : RunsOn (x p k) 1 (progress p k s r) next ran.More = record {
        rest = refl;
        more = omega arith;
        room = λ m low high. (let same : m ≡ s = omega (
          arith,
          low,
          high,
        ) in subst (λ m. length (unreleased_of (x p k) (progress p k m r)) < 256) (sym same) room);
        over = omega (arith, less);
      } in
      let ran : RunsMember a.node q 1 new = record { progress = next; ran = ran.More; runs = runs; replay = replay; new_is = refl } in
      then (can_quiet laws.events a.good i a.there own new (act.Run i 1) (deed.Run 1) refl tt refl (q, a.up, ran, refl)) (λ v quiet.
      stay (onward a quiet refl))

  -- all bytes that wait are released
  release_all : (fuel s r : ℕ) (w : World) → Plays z p i k s r w → length (out p (x p k) s) ≤ r + fuel
      → Reaches members n w (Plays z p i k s (length (out p (x p k) s)))
  release_all zero s r w a near =
      let old = replay_of p k i s r a in
      let same : r ≡ length (out p (x p k) s) = omega (arith, near, old.released) in
      stay (subst (λ r. Plays z p i k s r w) same a)
  release_all (suc fuel) s r w a near = by (release_all fuel s) (cases_lt r (length (out p (x p k) s))) where
    by : ((r : ℕ) (w : World) → Plays z p i k s r w → length (out p (x p k) s) ≤ r + fuel → Reaches members n w
        (Plays z p i k s (length (out p (x p k) s))))
        → (r < length (out p (x p k) s)) ⊎ (length (out p (x p k) s) ≤ r) → Reaches members n w (Plays z p i k s (length (out p (x p k) s)))
    by again (inl less) = then (release_one s r w a less) (λ v b. again (r + 1) v b (omega (arith, near)))
    by again (inr all) =
        let old = replay_of p k i s r a in
        let same : r ≡ length (out p (x p k) s) = omega (arith, all, old.released) in
        stay (subst (λ r. Plays z p i k s r w) same a)

  -- the node has released all that its machine writes in so many steps, and perhaps more
  record HasPlayed (m : ℕ) (w : World) : Type 0 where
    pub steps : ℕ
    pub plays : Plays z p i k steps (length (out p (x p k) steps)) w
    pub more : IsPrefix (out p (x p k) m) (out p (x p k) steps)

  -- where no step exists
  rests : (m s : ℕ) (v : World) → s < m → ((d : Configuration) → transition p (x p k) (after_steps p (x p k) s) ≢ Goes d)
      → Plays z p i k s (length (out p (x p k) s)) v → Reaches members n v (HasPlayed m)
  rests m s v less none b =
      let same : (m - s) + s ≡ m = omega (arith, less) in
      let still : after_steps p (x p k) m ≡ after_steps p (x p k) s = ap (after_steps p (x p k)) (sym same) ∙ stays p (x p k) s (m - s)
      none in
      let equal : out p (x p k) s ≡ out p (x p k) m =
      out_is p (x p k) s ∙ ap (λ (c : Configuration). c.output) (sym still) ∙ sym (out_is p (x p k) m) in
      stay (record { steps = s; plays = b; more = subst (λ o. IsPrefix o (out p (x p k) s)) equal (laws.play.itself (out p (x p k) s)) })

  play_all : (m : ℕ) → m ≤ MOST_STEPS → (fuel s r : ℕ) (w : World) → Plays z p i k s r w → m ≤ s + fuel → Reaches members n w (HasPlayed m)
  play_all m low zero s r w a near =
      then (release_all (length (out p (x p k) s)) s r w a (omega arith)) (λ v b.
      stay (record { steps = s; plays = b; more = laws.grows p (x p k) m s (omega (arith, near)) }))
  play_all m low (suc fuel) s r w a near =
      then (release_all (length (out p (x p k) s)) s r w a (omega arith)) (λ v b.
      by (play_all m low fuel) v b (cases_lt s m) (transition p (x p k) (after_steps p (x p k) s)) refl) where
        by : ((s r : ℕ) (w : World) → Plays z p i k s r w → m ≤ s + fuel → Reaches members n w (HasPlayed m))
            → (v : World) → Plays z p i k s (length (out p (x p k) s)) v → (s < m) ⊎ (m ≤ s) → (t : Transition)
            → transition p (x p k) (after_steps p (x p k) s) ≡ t → Reaches members n v (HasPlayed m)
        by again v b (inr done) t e = stay (record { steps = s; plays = b; more = laws.grows p (x p k) m s done })
        by again v b (inl less) (Goes d) e =
            let free : length (unreleased_of (x p k) (progress p k s (length (out p (x p k) s)))) < 256 = omega (
              arith,
              waits_length p k s (length (out p (x p k) s)),
            ) in
            then (run_one s (length (out p (x p k) s)) v b (omega (arith, less, low)) free d e) (λ u c.
            again (suc s) (length (out p (x p k) s)) u c (omega (arith, near)))
        by again v b (inl less) (Stops end) e = rests m s v less (λ d is. (let no : Stops end ≡ Goes d = sym e ∙ is in absurd cc)) b
        by again v b (inl less) Waiting e = rests m s v less (λ d is. (let no : Waiting ≡ Goes d = sym e ∙ is in absurd cc)) b
        by again v b (inl less) Stuck e = rests m s v less (λ d is. (let no : Stuck ≡ Goes d = sym e ∙ is in absurd cc)) b

  -- then its console shows it
  shown_by : (m : ℕ) (v : World) (h : HasPlayed m v) → IsPrefix (out p (x p k) m) h.plays.node.console
  shown_by m v h =
      let b = h.plays in
      let is_up : IsUp v i b.node (running_at p k h.steps (length (out p (x p k) h.steps))) = record { there = b.there; up = b.up } in
      let sound = running b.good.holds.sound is_up in
      let compares = console_compares laws.play b.good.holds is_up in
      let swapped : AreComparable (out p (x p k) h.steps) b.node.console = elim compares [ inl c ↦ inr c | inr c ↦ inl c ] in
      let begins = laws.play.shorter (out p (x p k) h.steps) b.node.console swapped (by_rules b.good.holds is_up).shown in
      laws.through (out p (x p k) m) (out p (x p k) h.steps) b.node.console h.more begins

-- node `i`, which knows this, has shown what its machine writes in so many steps; all else is as in `w`
pub record Showed (w : World) (i : ℕ) (k : Known) (steps : ℕ) (v : World) : Type 0 where
  pub good : Good v
  pub program : v.program ≡ w.program
  pub group : v.group ≡ w.group
  pub sent : (world_state v).sent ≡ (world_state w).sent
  pub others : (j : ℕ) → j ≢ i → member_at v.members j ≡ member_at w.members j
  pub node : Member
  pub progress : Progress
  pub there : member_at v.members i ≡ Some node
  pub up : node.node ≡ Some (record { known = k; progress = progress })
  pub shown : IsPrefix (out w.program (input k) steps) node.console

-- a node that is up may show all that its program writes on what it has learned
pub may_show : ShowLaws → (members : ℕ → Bool) (n : ℕ) (w : World) → Good w → (i : ℕ) (m : Member) (q : Running) (steps : ℕ) → IsTrue
    (members i) → IsUp w i m q
    → steps ≤ MOST_STEPS → Reaches members n w (Showed w i q.known steps)
may_show laws members n w good i m q steps own up low =
    let sound = running good.holds.sound up in
    let is : q ≡ record {
      known = q.known;
      progress = record {
        program = w.program;
        steps = q.progress.steps;
        released =
            q.progress.released;
      };
    } =
    ap (λ (pr : Parts). record {
      known = q.known;
      progress = record
          { program = pr; steps = q.progress.steps; released = q.progress.released };
    }) sound.program in
    let plays : Plays w w.program i q.known q.progress.steps q.progress.released w = record {
      good = good;
      program = refl;
      group = refl;
      sent = refl;
      others = λ j other. refl;
      node = m;
      there = up.there;
      up = up.up ∙ ap Some is;
    } in
    then (play_all laws members n w w.program i q.known own steps low steps q.progress.steps q.progress.released w plays (omega arith))
    (λ v h.
    stay (record {
      good = h.plays.good;
      program = h.plays.program;
      group = h.plays.group;
      sent = h.plays.sent;
      others = h.plays.others;
      node = h.plays.node;
      progress = _;
      there = h.plays.there;
      up = h.plays.up;
      shown = shown_by laws members n w w.program i q.known own steps v h;
    }))
