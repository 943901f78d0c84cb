-- Each step keeps what was learned and shown sound.
use Rattle.std.proofs.Common.{◌≡◌, ◌∙◌, ℕ, zero, suc, ◌+◌, ◌≤◌, List, [], length, Contains, Option, None, Some, IfSome, slice_get, inl, inr, refl, ap, subst, append-nil, length-append, arith, nat_cmp}
use Rattle.std.proofs.lemmas.Bool.{cases_eq}
use Rattle.std.proofs.lemmas.Option.{IfSome_then, slice_get_within}
use Rattle.std.proofs.lemmas.List.Elements.{Contains-append_left}
use Rattle.std.specs.FinMap.{FinMap, get, get-empty}
use Rattle.pcode_file.specs.Parts.{Parts}
use Rattle.pcode_machine.specs.Configuration.{Configuration}
use Rattle.pcode_machine.specs.Runs.{LeadsIn}
use Rattle.paxos_msg.specs.declared.value.Value.{Value}
use Rattle.paxos_msg.specs.declared.record.Change.TheVariants as change
use Rattle.paxos_msg.specs.declared.message.Body.TheVariants.{Submit, Tell}
use Rattle.paxos_msg.specs.Batches.{Body, Change, Grew, IsTyped, MaySend, Sent}
use Rattle.paxos_msg.specs.Chosen.{IsChosen}
use Rattle.paxos_msg.specs.Keys.{Key}
use Rattle.paxos_msg.specs.Records.{MaySave}
use Rattle.paxos_acceptor.specs.Answers.{after}
use Rattle.paxos_learner.specs.Learner.{HasLearnedMore}
use Rattle.group_node.specs.Console.{offered}
use Rattle.group_protocol.specs.Steps.{AllChosen, AllTyped}
use Rattle.group_rules.specs.Invariants.{IsLearnedChosen, IsSeatSound, IsShown, IsGroupSound, IsUpSound}
use Rattle.group_rules.specs.Rules.{after_release, ChangesOnly, Crashes, Falls, fresh, MakesCall, MakesRun, MakesSteps, Releases, Seat, StartsUp, Up, WorldState}
use Rattle.group_rules.proofs.Output.{front_chosen, FrontLaws, offer_fits, PlayLaws, running, same_or_prefix, shown_then, written_output}
use Rattle.group_rules.proofs.Steps.{may_each, sent_cases}
use Rattle.group_rules.proofs.laws.claims.steps_keep_it.Goals as goal
use Rattle.group_protocol.proofs.Elements.{none_in}

abbrev pub Laws : Type 0
Laws = goal.After-values_are_learned

pub fronts : Laws → FrontLaws
fronts c = record { many = c.values_are_learned.ensures.many; at_place = c.values_are_learned.ensures.at_place }

play : Laws → PlayLaws
play c = grind arith

-- ---- a change of one seat

module _ (laws : Laws) {w v : WorldState} {i : ℕ} {bodies : List Body} {keys : List Key} (rest : ChangesOnly w v i bodies keys)
    (h : IsGroupSound w) where
  pub chosen_stays : (s : ℕ) (u : Value) → IsChosen w.size w.sent s u → IsChosen v.size v.sent s u
  chosen_stays s u c = rw (rest.size, rest.sent) (laws.sent_only_grows.ensures.chosen w.size s w.sent _ u c)

  shown_stays : {console : List ℕ} → IsShown w.program w.size w.sent console → IsShown v.program v.size v.sent console
  shown_stays x = record {
    values = x.values;
    chosen = record { chosen = λ s u e. chosen_stays s u (x.chosen.chosen s u e) };
    output = rw rest.program x.output;
  }

  learned_stays : {learned : FinMap nat_cmp Value} → IsLearnedChosen w.size w.sent learned → IsLearnedChosen v.size v.sent learned
  learned_stays x = record { chosen = λ s u e. chosen_stays s u (x.chosen s u e) }

  up_stays : {console : List ℕ} (u : Up) → IsUpSound w.program w.size w.sent console u → IsUpSound v.program v.size v.sent console u
  up_stays u x = record {
    learned = learned_stays x.learned;
    steps = x.steps;
    made = rw rest.program x.made;
    written = x.written;
    shown = x.shown;
  }

  seat_stays : (seat : Seat) → IsSeatSound w.program w.size w.sent seat → IsSeatSound v.program v.size v.sent seat
  seat_stays seat x = record { shown = shown_stays x.shown; running = IfSome_then seat.up x.running up_stays }

  seats_by : IsSeatSound v.program v.size v.sent (v.seats i) → (j : ℕ) → IsSeatSound v.program v.size v.sent (v.seats j)
  seats_by own j = elim (cases_eq j i) [
    | inl e ↦ rw e own
    | inr ne ↦ rw (rest.others j ne) (seat_stays (w.seats j) (h.seats j))
  ]

  -- ---- records and messages

  -- the records after a save, if there is one
  saved : (c : Option Change) → (v.seats i).kept ≡ after (w.seats i).kept c → IfSome c (MaySave w.sent (w.seats i).kept)
      → Grew w.size w.sent (λ j. (v.seats j).kept)
  saved None own may =
      laws.restarts.ensures w.size i w.sent (λ j. (w.seats j).kept) (λ j. (v.seats j).kept) [] h.grew
      (λ c among. absurd (none_in c among)) (inl own) (λ j ne. ap (λ (s : Seat). s.kept) (rest.others j ne))
  saved (Some c) own may =
      laws.growth.ensures.saves w.size i w.sent (λ j. (w.seats j).kept) (λ j. (v.seats j).kept) c h.grew may
      (record { own = own; others = λ j ne. ap (λ (s : Seat). s.kept) (rest.others j ne) })

  told_by : ((s : ℕ) (u : Value) → Contains bodies (Tell s u) → IsChosen w.size w.sent s u) → AllChosen v.size v.sent
  told_by new s u (j, among) = elim (sent_cases rest j (Tell s u) among) [
    | inl before ↦ chosen_stays s u (h.told s u (j, before))
    | inr now ↦ chosen_stays s u (new s u now.1)
  ]

  still_typed : (j : ℕ) (u : Value) → IsTyped w.typed j u → IsTyped v.typed j u
  still_typed j u x = record { own = x.own; known = λ k among. rw rest.typed (Contains-append_left w.typed keys k (x.known k among)) }

  submitted_by : ((u : Value) → Contains bodies (Submit u) → IsTyped v.typed i u) → AllTyped v.sent v.typed
  submitted_by new j u among = elim (sent_cases rest j (Submit u) among) [
    | inl before ↦ still_typed j u (h.submitted j u before)
    | inr now ↦ subst (λ k. IsTyped v.typed k u) now.0 (new u now.1)
  ]

  pub sound_by : Grew v.size v.sent (λ j. (v.seats j).kept)
      → ((s : ℕ) (u : Value) → Contains bodies (Tell s u) → IsChosen w.size w.sent s u)
      → ((u : Value) → Contains bodies (Submit u) → IsTyped v.typed i u)
      → IsSeatSound v.program v.size v.sent (v.seats i) → IsGroupSound v
  sound_by grew tells submits own =
      record { grew = grew; told = told_by tells; submitted = submitted_by submits; seats = seats_by own }

-- ---- steps that send nothing

module _ (laws : Laws) {w v : WorldState} {i : ℕ} (rest : ChangesOnly w v i [] []) (h : IsGroupSound w) where
  pub quiet_sound : (c : Option Change) → (v.seats i).kept ≡ after (w.seats i).kept c → IfSome c (MaySave w.sent (w.seats i).kept)
      → IsSeatSound v.program v.size v.sent (v.seats i) → IsGroupSound v
  quiet_sound c own may seat =
      sound_by laws rest h (rw (rest.size, rest.sent, append-nil w.sent) (saved laws rest h c own may))
      (λ s u among. absurd (none_in _ among)) (λ u among. absurd (none_in _ among)) seat

  pub down_seat : (v.seats i).console ≡ (w.seats i).console → (v.seats i).up ≡ None
      → IsSeatSound v.program v.size v.sent (v.seats i)
  down_seat console down = record { shown = rw console (shown_stays laws rest h (h.seats i).shown); running = rw down tt }

module _ (laws : Laws) {w v : WorldState} {i : ℕ} (h : IsGroupSound w) where
  pub fall_sound : {c : Change} → Falls w v i c → IsGroupSound v
  fall_sound {c} f =
      let seat = down_seat laws f.rest h f.console f.down in
      elim f.kept [
        | inl old ↦ quiet_sound laws f.rest h None old tt seat
        | inr new ↦ quiet_sound laws f.rest h (Some c) new f.saves seat
      ]

  pub crash_sound : Crashes w v i → IsGroupSound v
  crash_sound x =
      quiet_sound laws x.rest h None (ap (λ (s : Seat). s.kept) x.left) tt
      (down_seat laws x.rest h (ap (λ (s : Seat). s.console) x.left) (ap (λ (s : Seat). s.up) x.left))

  -- a node that has just started
  pub start_sound : StartsUp w v i → IsGroupSound v
  unfolding LeadsIn
  start_sound x =
      let up : IsUpSound v.program v.size v.sent (w.seats i).console (fresh w.program) = record {
        learned = record { chosen = λ s u e. absurd (cc (get-empty {X = Value} nat_cmp s)) };
        steps = 0;
        made = rw x.rest.program refl;
        written = omega arith;
        shown = omega arith;
      } in
      let seat : IsSeatSound v.program v.size v.sent (v.seats i) =
      rw x.left (record { shown = shown_stays laws x.rest h (h.seats i).shown; running = up }) in
      quiet_sound laws x.rest h (Some change.Start) (ap (λ (s : Seat). s.kept) x.left) tt seat

-- ---- a call

-- a node that has learned more
up_learned : Laws → (w : WorldState) (console : List ℕ) (was now : Up) → IsUpSound w.program w.size w.sent console was
    → HasLearnedMore was.learned now.learned → now.configuration ≡ was.configuration → now.released ≡ was.released
    → IsLearnedChosen w.size w.sent now.learned → IsUpSound w.program w.size w.sent console now
up_learned laws w console was now own keeps configuration released learned =
    let (more, longer) = laws.input_grows.ensures.learned was.learned now.learned keeps in
    record {
      learned = learned;
      steps = own.steps;
      made = rw (configuration, longer) (laws.same_run_on_longer_input.ensures w.program _ more own.steps was.configuration own.made);
      written = rw (configuration, released) own.written;
      shown = rw released own.shown;
    }

module _ (laws : Laws) {w v : WorldState} {i : ℕ} {c : Option Change} {keys : List Key} (h : IsGroupSound w)
    (call : MakesCall w v i c keys) where
  own : IsUpSound w.program w.size w.sent (w.seats i).console call.was
  own = running h call.from

  -- what it has learned is chosen
  pub learned_now : (s : ℕ) (u : Value) → get call.now.learned s ≡ Some u → IsChosen w.size w.sent s u
  learned_now s u e = elim (call.learns.gains s u e) [
    | inl old ↦ own.learned.chosen s u old
    | inr may ↦ elim may [ inl said ↦ h.told s u said | inr chosen ↦ chosen ]
  ]

  pub each_sent : (body : Body) → Contains call.bodies body
      → (all : Sent) × MaySend w.size v.typed (get call.now.learned) all i (after (w.seats i).kept c) body
  each_sent = may_each w.size v.typed (get call.now.learned) i (after (w.seats i).kept c) call.bodies w.sent call.sends

  pub kept_now : (v.seats i).kept ≡ after (w.seats i).kept c
  kept_now = ap (λ (s : Seat). s.kept) call.left

  grew_now : Grew v.size v.sent (λ j. (v.seats j).kept)
  grew_now =
      rw (call.rest.size, call.rest.sent) (laws.calls.ensures.grew w.size i v.typed (get call.now.learned) w.sent
      (λ j. (v.seats j).kept) call.bodies (saved laws call.rest h c kept_now call.saves) (rw kept_now call.sends))

  up_now : IsUpSound w.program w.size w.sent (w.seats i).console call.now
  up_now =
      up_learned laws w (w.seats i).console call.was call.now own call.learns.keeps call.learns.configuration call.learns.released
      (record { chosen = learned_now })

  pub call_sound : IsGroupSound v
  call_sound =
      sound_by laws call.rest h grew_now
      (λ s u among. learned_now s u (each_sent (Tell s u) among).1)
      (λ u among. (each_sent (Submit u) among).1)
      (rw call.left (record {
        shown = shown_stays laws call.rest h (h.seats i).shown;
        running = up_stays laws call.rest h call.now up_now;
      }))

-- ---- the machine and its output

-- a release saves nothing
pub release_kept : (seat : Seat) (was : Up) (o : Option ℕ) → (after_release seat was o).kept ≡ seat.kept
release_kept seat was None = refl
release_kept seat was (Some byte) = refl

-- steps lead on
moves_lead : Laws → (p : Parts) (x : List ℕ) (n made : ℕ) (b d : Configuration) → LeadsIn p x n b → MakesSteps p x made b d
    → LeadsIn p x (n + made) d
unfolding LeadsIn MakesSteps
moves_lead laws p x n zero b d leads e =
    let none : n ≡ n + 0 = omega arith in
    subst (λ (k : ℕ). LeadsIn p x k d) none (rw e leads)
moves_lead laws p x n (suc made) b d leads (mid, before, last) =
    let one : suc (n + made) ≡ n + suc made = omega arith in
    subst (λ (k : ℕ). LeadsIn p x k d) one
    (mid, moves_lead laws p x n made b mid leads before, (laws.step_is_transition.ensures.step p x mid d).0 last)

-- and only write more
moves_write : Laws → (p : Parts) (x : List ℕ) (made : ℕ) (b d : Configuration) → MakesSteps p x made b d
    → length b.output ≤ length d.output
unfolding MakesSteps
moves_write laws p x zero b d e = rw e (omega arith)
moves_write laws p x (suc made) b d (mid, before, last) =
    let more = laws.step_only_adds.ensures.output p x mid d ((laws.step_is_transition.ensures.step p x mid d).0 last) in
    omega (arith, moves_write laws p x made b mid before, ap length more.whole, length-append mid.output more.rest)

module _ (laws : Laws) {w v : WorldState} {i : ℕ} (h : IsGroupSound w) where
  pub run_sound : {steps : ℕ} → MakesRun w v i steps → IsGroupSound v
  run_sound x =
      let own = running h x.from in
      let leads = moves_lead laws w.program _ own.steps x.made x.was.configuration x.configuration own.made x.moves in
      let more = moves_write laws w.program _ x.made x.was.configuration x.configuration x.moves in
      let up : IsUpSound v.program v.size v.sent (w.seats i).console (record x.was { configuration = x.configuration }) = record {
        learned = learned_stays laws x.rest h own.learned;
        steps = own.steps + x.made;
        made = rw x.rest.program leads;
        written = omega (arith, own.written, more);
        shown = own.shown;
      } in
      quiet_sound laws x.rest h None (ap (λ (s : Seat). s.kept) x.left) tt
      (rw x.left (record { shown = shown_stays laws x.rest h (h.seats i).shown; running = up }))

  -- a release, by the byte that waits
  release_seat : (x : Releases w v i) (o : Option ℕ) → slice_get x.was.configuration.output x.was.released ≡ o
      → IsSeatSound v.program v.size v.sent (after_release (w.seats i) x.was o)
  release_seat x None e = seat_stays laws x.rest h (w.seats i) (h.seats i)
  release_seat x (Some byte) e =
      let own = running h x.from in
      let offer = offer_fits (play laws) h x.from byte e in
      let console = offered (w.seats i).console x.was.released byte in
      let output = written_output (play laws) w.program _ own.steps x.was.configuration own.made in
      let front = front_chosen (fronts laws) own.learned in
      let shown : IsShown w.program w.size w.sent console = elim (same_or_prefix offer) [
        | inl same ↦ rw same (h.seats i).shown
        | inr begins ↦ record {
          values = _;
          chosen = front;
          output = (output.0, laws.prefixes_are_ordered.ensures.through _ _ _ begins output.1);
        }
      ] in
      let up : IsUpSound w.program w.size w.sent console (record x.was { released = x.was.released + 1 }) = record {
        learned = own.learned;
        steps = own.steps;
        made = own.made;
        written = omega (arith, slice_get_within x.was.configuration.output x.was.released byte e);
        shown = shown_then offer;
      } in
      record { shown = shown_stays laws x.rest h shown; running = up_stays laws x.rest h _ up }

  pub release_sound : Releases w v i → IsGroupSound v
  release_sound x =
      let own = ap (λ (s : Seat). s.kept) x.left ∙ release_kept (w.seats i) x.was _ in
      quiet_sound laws x.rest h None own tt (rw x.left (release_seat x _ refl))
