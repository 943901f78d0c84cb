-- Each step keeps the typed keys in order, and what was submitted due.
use Rattle.std.proofs.Common.{◌≡◌, ◌≢◌, ◌∙◌, ◌⊎◌, ℕ, ◌+◌, ◌≤◌, Bool, true, false, List, [], ◌∷◌, ◌++◌, Contains, Option, None, Some, IfSome, inl, inr, refl, sym, ap, subst, append-nil, arith, nat_cmp}
use Rattle.std.proofs.lemmas.Bool.{cases_eq}
use Rattle.std.proofs.lemmas.Bool.Decides.{nat_tests}
use Rattle.std.proofs.lemmas.Option.{IfSome_then}
use Rattle.std.proofs.lemmas.List.Elements.{Contains-append_left, Contains-get_or, Contains-push_cases}
use Rattle.std.proofs.lemmas.List.Quantifiers.{all_pairs_push}
use Rattle.std.specs.FinMap.{FinMap}
use Rattle.paxos_msg.specs.declared.value.Value.{Value}
use Rattle.paxos_msg.specs.declared.value.Value.TheVariants.{Keys, Noop}
use Rattle.paxos_msg.specs.declared.record.Change.TheVariants as change
use Rattle.paxos_msg.specs.declared.message.Body.TheVariants.{Submit}
use Rattle.paxos_msg.specs.Batches.{Body, Change, IsFree, Record}
use Rattle.paxos_msg.specs.Keys.{Key, keys_of}
use Rattle.paxos_msg.specs.Messages.{IsSaid}
use Rattle.paxos_msg.specs.Records.{changed}
use Rattle.paxos_msg.specs.Tests.{same_value}
use Rattle.paxos_acceptor.specs.Answers.{after}
use Rattle.paxos_learner.specs.Input.{front_values, keys_in_order}
use Rattle.paxos_learner.specs.Learner.{HasLearnedMore}
use Rattle.group_node.specs.Inputs.{AreChosen}
use Rattle.group_rules.specs.Invariants.{AreTypedKeys, HoldsByRules, IsDue, IsOrdered, IsRowOf}
use Rattle.group_rules.specs.Claims.{HaveOneName}
use Rattle.group_rules.specs.Rules.{after_release, ChangesOnly, Crashes, Falls, fresh, MakesCall, MakesRun, Presses, Releases, Seat, StartsUp, Up, WorldState}
use Rattle.group_rules.proofs.Lists.{place_of}
use Rattle.group_rules.proofs.Output.{front_chosen}
use Rattle.group_rules.proofs.Rows.{first_due, fresh_row, new_name, other_row, parted_row, typed_row}
use Rattle.group_rules.proofs.Steps.{sent_cases}
use Rattle.group_rules.proofs.laws.claims.steps_keep_it.Answers.SoundSteps.{each_sent, fronts, kept_now, Laws, learned_now, release_kept}
use Rattle.group_protocol.proofs.Elements.{first_in, in_cases, none_in, rest_in}

-- the keys that a node has read
abbrev read_of : Up → List Key
read_of u = keys_in_order (front_values u.learned)

-- keys that were read stay read
read_more : Laws → (old new : FinMap nat_cmp Value) → HasLearnedMore old new → (k : Key)
    → Contains (keys_in_order (front_values old)) k → Contains (keys_in_order (front_values new)) k
read_more laws old new more k among =
    let grown = laws.input_grows.ensures.values old new more in
    let keys = laws.input_grows.ensures.keys (front_values old) grown.0 in
    rw (grown.1, keys.1) (Contains-append_left _ keys.0 k among)

-- a value is among others, or not
among_or_not : Laws → (values : List Value) (u : Value) → Contains values u ⊎ ¬ Contains values u
among_or_not laws [] u = inr (none_in u)
among_or_not laws (x ∷ values) u = by (same_value x u) refl (among_or_not laws values u) where
  by : (same : Bool) → same_value x u ≡ same → Contains values u ⊎ ¬ Contains values u
      → Contains (x ∷ values) u ⊎ ¬ Contains (x ∷ values) u
  by true e later = inl (subst (Contains (x ∷ values)) ((laws.tests_are_exact.ensures.same_values x u).0 e) (first_in x values))
  by false e (inl later) = inl (rest_in x values u later)
  by false e (inr none) = inr (λ among. elim (in_cases x values u among) [
    | inl is ↦ absurd (cc ((laws.tests_are_exact.ensures.same_values x u).1 is))
    | inr later ↦ none later
  ])

-- ---- a change of one seat

module _ (laws : Laws) {w v : WorldState} {i : ℕ} {bodies : List Body} {keys : List Key} (rest : ChangesOnly w v i bodies keys)
    (h : IsOrdered w) (starts : (w.seats i).kept.starts ≤ (v.seats i).kept.starts) where
  due_stays : (u : Value) → IsDue w.size w.sent u → IsDue v.size v.sent u
  due_stays Noop due = tt
  due_stays (Keys node start first bytes) (inl one) = inl one
  due_stays (Keys node start first bytes) (inr p) = inr (record {
    below = p.below;
    chosen = record {
      chosen = λ s u e. rw (rest.size, rest.sent) (laws.sent_only_grows.ensures.chosen w.size s w.sent _ u (p.chosen.chosen s u e));
    };
    before = p.before;
    next = p.next;
    has = p.has;
    lacks = p.lacks;
  })

  due_by : ((u : Value) → Contains bodies (Submit u) → IsDue v.size v.sent u) → (u : Value) → IsSaid v.sent (Submit u)
      → IsDue v.size v.sent u
  due_by new u (j, among) = elim (sent_cases rest j (Submit u) among) [
    | inl before ↦ due_stays u (h.due u (j, before))
    | inr now ↦ new u now.1
  ]

  -- no count of starts falls
  still_past : (k : Key) → k.start ≤ (w.seats k.node).kept.starts → k.start ≤ (v.seats k.node).kept.starts
  still_past k was = elim (cases_eq k.node i) [
    | inl e ↦ grind (arith, starts)
    | inr ne ↦ rw (rest.others k.node ne) was
  ]

  rows_by : (typed : List Key) → IfSome (v.seats i).up (IsRowOf typed i (v.seats i).kept)
      → ((j : ℕ) → j ≢ i → (u : Up) → IsRowOf w.typed j (w.seats j).kept u → IsRowOf typed j (w.seats j).kept u)
      → (j : ℕ) → IfSome (v.seats j).up (IsRowOf typed j (v.seats j).kept)
  rows_by typed own more j = elim (cases_eq j i) [
    | inl e ↦ rw e own
    | inr ne ↦ rw (rest.others j ne) (IfSome_then (w.seats j).up (h.rows j) (more j ne))
  ]

-- nothing was typed
module _ (laws : Laws) {w v : WorldState} {i : ℕ} {bodies : List Body} (rest : ChangesOnly w v i bodies [])
    (h : IsOrdered w) (starts : (w.seats i).kept.starts ≤ (v.seats i).kept.starts) where
  same_typed : v.typed ≡ w.typed
  same_typed = rest.typed ∙ append-nil w.typed

  pub put_ordered : IfSome (v.seats i).up (IsRowOf w.typed i (v.seats i).kept)
      → ((u : Value) → Contains bodies (Submit u) → IsDue v.size v.sent u) → IsOrdered v
  put_ordered own new = record {
    once = rw same_typed h.once;
    past = λ k among. still_past laws rest h starts k (h.past k (rw same_typed at among));
    rows = rw same_typed (rows_by laws rest h starts w.typed own (λ j ne u row. row));
    due = due_by laws rest h starts new;
  }

-- nothing was sent, and the node is down
pub down_ordered : Laws → {w v : WorldState} {i : ℕ} → ChangesOnly w v i [] [] → IsOrdered w
    → (w.seats i).kept.starts ≤ (v.seats i).kept.starts → (v.seats i).up ≡ None → IsOrdered v
down_ordered laws rest h starts down = put_ordered laws rest h starts (rw down tt) (λ u among. absurd (none_in _ among))

-- this key was typed
pub typed_ordered : Laws → {w v : WorldState} {i : ℕ} {bodies : List Body} (key : Key) → ChangesOnly w v i bodies (key ∷ []) → IsOrdered w
    → (w.seats i).kept.starts ≤ (v.seats i).kept.starts → key.node ≡ i → key.start ≤ (w.seats i).kept.starts
    → ((k : Key) → Contains w.typed k → ¬ HaveOneName k key)
    → IfSome (v.seats i).up (IsRowOf (w.typed ++ key ∷ []) i (v.seats i).kept)
    → ((u : Value) → Contains bodies (Submit u) → IsDue v.size v.sent u) → IsOrdered v
typed_ordered laws {w} {v} {i} key rest h starts of_node low new own due = record {
  once =
      rw rest.typed (all_pairs_push (λ (x y : Key). ¬ HaveOneName x y) w.typed key h.once
      (λ k d below. new _ (Contains-get_or w.typed k d below)));
  past = λ k among. still_past laws rest h starts k (elim (Contains-push_cases w.typed key k (rw rest.typed at among)) [
    | inl before ↦ h.past k before
    | inr is ↦ grind (arith, of_node, low)
  ]);
  rows = rw rest.typed (rows_by laws rest h starts _ own (λ j ne u row. record {
    last = row.last;
    next = row.next;
    row = other_row row.row key (λ e. ne (sym e ∙ of_node));
  }));
  due = due_by laws rest h starts due;
}

-- ---- a call

module _ (laws : Laws) {w v : WorldState} {i : ℕ} {c : Option Change} {keys : List Key} (h : HoldsByRules w) (call : MakesCall w v i c keys)
    (same : (after (w.seats i).kept c).starts ≡ (w.seats i).kept.starts) where
  own : IsRowOf w.typed i (w.seats i).kept call.was
  own = rw call.from at (h.ordered.rows i)

  starts_now : (v.seats i).kept.starts ≡ (w.seats i).kept.starts
  starts_now = ap (λ (r : Record). r.starts) (kept_now laws h.sound call) ∙ same

  -- the row, once the keys were typed, after the call
  row_now : (typed : List Key) (last : ℕ) → last + 1 ≡ call.now.next
      → AreTypedKeys typed i (w.seats i).kept.starts last (call.was.waiting ++ keys) (read_of call.was)
      → IsRowOf typed i (v.seats i).kept call.now
  row_now typed last next row = record {
    last = last;
    next = next;
    row = rw starts_now (parted_row row (read_of call.now) call.now.waiting
        (read_more laws call.was.learned call.now.learned call.learns.keeps)
        (record { gone = call.learns.waiting.gone; parts = call.learns.waiting.parts; below = call.learns.waiting.below }));
  }

  -- what it submits is due: it was submitted before, or is none of the values that are read
  module _ (typed : List Key) (row : IsRowOf typed i (v.seats i).kept call.now) where
    abbrev known : List Value
    known = front_values call.now.learned

    front : AreChosen w.size w.sent known
    front = front_chosen (fronts laws) (record { chosen = learned_now laws h.sound call })

    front_now : AreChosen v.size v.sent known
    front_now = record {
      chosen = λ s u e.
          rw (call.rest.size, call.rest.sent) (laws.sent_only_grows.ensures.chosen w.size s w.sent _ u (front.chosen s u e));
    }

    free_due : (u : Value) → keys_of u ≢ [] → IsFree w.sent u → IsDue w.size w.sent u
    free_due u some (inl noop) = absurd (some (rw noop refl))
    free_due u some (inr said) = h.ordered.due u said

    known_due : (u : Value) → keys_of u ≢ [] → Contains known u → IsDue w.size w.sent u
    known_due u some among =
        let (s, at) = place_of known u among in
        free_due u some (laws.agreement.ensures.submitted w.size s w.sent (λ j. (w.seats j).kept) u h.sound.grew (front.chosen s u at))

    pub submits_due : (u : Value) → Contains call.bodies (Submit u) → IsDue v.size v.sent u
    submits_due u among =
        let some = ((each_sent laws h.sound call (Submit u) among).1).own.has_key in
        elim (among_or_not laws known u) [
          | inl old ↦ due_stays laws call.rest h.ordered (omega (arith, starts_now)) u (known_due u some old)
          | inr new ↦ first_due front_now row.row u some (call.submits.front u among) new
        ]

-- a call at which nothing is typed
pub call_ordered : Laws → {w v : WorldState} {i : ℕ} {c : Option Change} → HoldsByRules w → (call : MakesCall w v i c [])
    → (after (w.seats i).kept c).starts ≡ (w.seats i).kept.starts → IsOrdered v
call_ordered laws {w} {v} {i} h call same =
    let was = own laws h call same in
    let next : was.last + 1 ≡ call.now.next = omega (arith, was.next, call.next) in
    let row = row_now laws h call same w.typed was.last next (rw (append-nil call.was.waiting) was.row) in
    let up = ap (λ (s : Seat). s.up) call.left in
    put_ordered laws call.rest h.ordered (omega (arith, starts_now laws h call same)) (rw up row)
    (submits_due laws h call same w.typed row)

-- a typed key
pub press_ordered : Laws → {w v : WorldState} {i byte : ℕ} → HoldsByRules w → Presses w v i byte → IsOrdered v
press_ordered laws {w} {v} {i} h p =
    let call = p.call in
    let was = own laws h call refl in
    let serial : p.key.serial ≡ call.was.next = rw call.from at p.serial in
    let of_next : p.key.serial ≡ was.last + 1 = serial ∙ sym was.next in
    let next : (was.last + 1) + 1 ≡ call.now.next = omega (arith, was.next, call.next) in
    let row = row_now laws h call refl (w.typed ++ p.key ∷ []) (was.last + 1) next (typed_row was.row p.key p.node p.start of_next) in
    let up = ap (λ (s : Seat). s.up) call.left in
    typed_ordered laws p.key call.rest h.ordered (omega (arith, starts_now laws h call refl)) p.node (omega (arith, p.start))
    (new_name was.row p.key p.node p.start of_next) (rw up row)
    (submits_due laws h call refl _ row)

-- ---- the other steps

module _ (laws : Laws) {w v : WorldState} {i : ℕ} (h : IsOrdered w) where
  pub start_ordered : StartsUp w v i → IsOrdered v
  start_ordered x =
      let kept = ap (λ (s : Seat). s.kept) x.left in
      let starts : (v.seats i).kept.starts ≡ (w.seats i).kept.starts + 1 = ap (λ (r : Record). r.starts) kept in
      let row : IsRowOf w.typed i (changed (w.seats i).kept change.Start) (fresh w.program) = record {
        last = 0;
        next = refl;
        row = fresh_row w.typed i ((w.seats i).kept.starts + 1) _ (λ k among e f. grind (arith, h.past k among));
      } in
      put_ordered laws x.rest h (omega (arith, starts)) (rw x.left row) (λ u among. absurd (none_in _ among))

  pub fall_ordered : {c : Change} → Falls w v i c → IsOrdered v
  fall_ordered {c} f =
      let grown : (w.seats i).kept.starts ≤ (changed (w.seats i).kept c).starts = grind (arith, nat_tests) in
      down_ordered laws f.rest h (elim f.kept [
        | inl old ↦ omega (arith, ap (λ (r : Record). r.starts) old)
        | inr new ↦ omega (arith, grown, ap (λ (r : Record). r.starts) new)
      ]) f.down

  pub crash_ordered : Crashes w v i → IsOrdered v
  crash_ordered x =
      down_ordered laws x.rest h (omega (arith, ap (λ (s : Seat). s.kept.starts) x.left)) (ap (λ (s : Seat). s.up) x.left)

  pub run_ordered : {steps : ℕ} → MakesRun w v i steps → IsOrdered v
  run_ordered x =
      let own : IsRowOf w.typed i (w.seats i).kept x.was = rw x.from at (h.rows i) in
      let row : IsRowOf w.typed i (w.seats i).kept (record x.was { configuration = x.configuration }) =
      record { last = own.last; next = own.next; row = own.row } in
      put_ordered laws x.rest h (omega (arith, ap (λ (s : Seat). s.kept.starts) x.left)) (rw x.left row)
      (λ u among. absurd (none_in _ among))

  release_row : (x : Releases w v i) (o : Option ℕ)
      → IfSome (after_release (w.seats i) x.was o).up (IsRowOf w.typed i (after_release (w.seats i) x.was o).kept)
  release_row x None = h.rows i
  release_row x (Some byte) =
      let own : IsRowOf w.typed i (w.seats i).kept x.was = rw x.from at (h.rows i) in
      record { last = own.last; next = own.next; row = own.row }

  pub release_ordered : Releases w v i → IsOrdered v
  release_ordered x =
      let kept = ap (λ (s : Seat). s.kept) x.left ∙ release_kept (w.seats i) x.was _ in
      put_ordered laws x.rest h (omega (arith, ap (λ (r : Record). r.starts) kept)) (rw x.left (release_row x _))
      (λ u among. absurd (none_in _ among))
