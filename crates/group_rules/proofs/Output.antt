-- The claims about learned values and consoles: what is learned is chosen, and what machines write
-- and consoles show is output on chosen values.
use Rattle.std.proofs.Common.{◌≡◌, ◌≢◌, ◌∙◌, ℕ, List, Contains, Some, inl, inr, sym, ap, slice_get, ◌<◌, ◌≤◌, [], length, append-nil, arith, ◌+◌, ◌⊎◌, ◌∷◌, ◌++◌, append_assoc, length-append, nat_cmp}
use Rattle.std.specs.FinMap.{get, FinMap}
use Rattle.pcode_file.specs.Parts.{Parts}
use Rattle.pcode_machine.specs.Configuration.{Configuration}
use Rattle.pcode_machine.specs.Runs.{after_steps, IsOutput, LeadsIn, out, AreComparable, IsPrefix}
use Rattle.paxos_msg.specs.declared.value.Value.{Value}
use Rattle.paxos_msg.specs.Batches.{Grew, IsFree, Record, Sent}
use Rattle.paxos_msg.specs.Chosen.{IsChosen}
use Rattle.paxos_msg.specs.Keys.{Key, keys_of}
use Rattle.paxos_learner.specs.Input.{front_values, input_of, values_below}
use Rattle.paxos_learner.specs.Learner.{front_of}
use Rattle.group_node.specs.declared.console.Offer.TheVariants.{Gap, Repeat}
use Rattle.group_node.specs.Console.{offer_answer, offered}
use Rattle.group_node.specs.Inputs.{IsInput, AreChosen}
use Rattle.group_rules.specs.Rules.{Up, WorldState}
use Rattle.group_rules.specs.Claims.{ConsolesAgree, ConsolesHoldOutput, ConsolesShowReleased, HasLearned, HasNoGap, LearnedAgree, LearnedChosen}
use Rattle.group_rules.specs.Invariants.{IsGroupSound, IsLearnedChosen, IsUpSound}
use Rattle.group_rules.proofs.Lists.{here_place, left_place}
use Rattle.std.proofs.lemmas.Option.{slice_get_within, slice_get-get_or}
use Rattle.std.proofs.lemmas.Bool.Decides.{nat_tests}
use Rattle.std.proofs.lemmas.List.{length_push, take-append-le}
use Rattle.group_protocol.proofs.Elements.{none_in}

-- a prefix with the next element is a prefix
pub push_prefix : (a all : List ℕ) (b : ℕ) → IsPrefix a all → slice_get all (length a) ≡ Some b → IsPrefix (a ++ b ∷ []) all
push_prefix a all b h e = by h.rest h.whole where
  by : (rest : List ℕ) → all ≡ a ++ rest → IsPrefix (a ++ b ∷ []) all
  by [] whole = absurd (omega (arith, slice_get_within all (length a) b e, ap length whole, length-append a []))
  by (x ∷ xs) whole = record { rest = xs; whole = grind (arith, nat_tests, here_place, append_assoc) }

-- Byte `k` of some output is offered to a console that is comparable with the output, so begins it
-- if it is no longer, and has shown at least `k` bytes.
pub record IsOffer (console all : List ℕ) (k b : ℕ) : Type 0 where
  pub compare : AreComparable console all
  pub begins : length console ≤ length all → IsPrefix console all
  pub shown : k ≤ length console
  pub byte : slice_get all k ≡ Some b

module _ {console all : List ℕ} {k b : ℕ} (h : IsOffer console all k b) where
  -- it never comes too early, and a byte that comes again is there
  no_gap : (offer_answer console k ≢ Gap) × (offer_answer console k ≡ Repeat → slice_get console k ≡ Some b)
  no_gap = grind (arith, nat_tests, h.shown, h.compare, h.byte, slice_get-get_or console k 0, left_place)

  -- the console shows the byte after the offer
  pub shown_then : k + 1 ≤ length (offered console k b)
  shown_then = grind (arith, nat_tests, h.shown, length_push console b)

  -- the console is as it was, or begins that output
  pub same_or_prefix : (offered console k b ≡ console) ⊎ IsPrefix (offered console k b) all
  same_or_prefix = grind (arith, nat_tests, push_prefix, h.begins, h.byte, slice_get_within)

-- ---- output on chosen values

-- The law of the values up to the front.
pub record FrontLaws : Type 0 where
  pub many : (learned : FinMap nat_cmp Value) (n : ℕ) → n ≤ front_of learned → length (values_below learned n) ≡ n
  pub at_place : (learned : FinMap nat_cmp Value) (n s : ℕ) → n ≤ front_of learned → s < n
      → slice_get (values_below learned n) s ≡ get learned s

-- the laws of the crates below
pub record PlayLaws : Type 0 where
  pub there : (size : ℕ) (sent : Sent) → (x : List ℕ) × IsInput size sent x
  pub begins : (size : ℕ) (sent : Sent) (records : ℕ → Record) (values : List Value) (x : List ℕ) → Grew size sent records →
      AreChosen size sent values → IsInput size sent x → IsPrefix (input_of values) x
  pub longer : (p : Parts) (x y a : List ℕ) → IsPrefix x y → IsOutput p x a → IsOutput p y a
  pub compared : (p : Parts) (x y a b : List ℕ) → AreComparable x y → IsOutput p x a → IsOutput p y b → AreComparable a b
  pub itself : (a : List ℕ) → IsPrefix a a
  pub shorter : (a b : List ℕ) → AreComparable a b → length a ≤ length b → IsPrefix a b
  pub after : (p : Parts) (x : List ℕ) (n : ℕ) (c : Configuration) → LeadsIn p x n c → after_steps p x n ≡ c
  pub fronts : FrontLaws

-- what is learned up to the front is chosen
pub front_chosen : FrontLaws → {size : ℕ} {sent : Sent} {learned : FinMap nat_cmp Value} → IsLearnedChosen size sent learned
    → AreChosen size sent (front_values learned)
front_chosen laws {learned = learned} h = grind (arith, slice_get_within)

-- what a machine has written is output
pub written_output : PlayLaws → (p : Parts) (x : List ℕ) (n : ℕ) (c : Configuration) → LeadsIn p x n c → IsOutput p x c.output
unfolding out
written_output laws p x n c leads =
    (n, record { rest = []; whole = ap (λ (d : Configuration). d.output) (laws.after p x n c leads) ∙ sym (append-nil _) })

-- a node that is up is sound
pub running : {w : WorldState} → IsGroupSound w → {i : ℕ} {u : Up} → (w.seats i).up ≡ Some u
    → IsUpSound w.program w.size w.sent (w.seats i).console u
running h {i} up = rw up at (h.seats i).running

module _ (laws : PlayLaws) {w : WorldState} (h : IsGroupSound w) where
  -- output on chosen values is output on the chosen input
  chosen_output : (values : List Value) (x a : List ℕ) → AreChosen w.size w.sent values
      → IsInput w.size w.sent x → IsOutput w.program (input_of values) a → IsOutput w.program x a
  chosen_output values x a front chosen =
      laws.longer w.program _ x a (laws.begins w.size _ (λ j. (w.seats j).kept) values x h.grew front chosen)

  pub consoles_hold_output : ConsolesHoldOutput w
  consoles_hold_output x i chosen =
      let shown = (h.seats i).shown in
      chosen_output shown.values x _ shown.chosen chosen shown.output

  pub consoles_agree : ConsolesAgree w
  consoles_agree i j =
      let (x, chosen) = laws.there w.size _ in
      laws.compared w.program x x _ _ (inl (laws.itself x)) (consoles_hold_output x i chosen) (consoles_hold_output x j chosen)

  -- a console is comparable with what its machine has written
  pub console_compares : {i : ℕ} {u : Up} → (w.seats i).up ≡ Some u → AreComparable (w.seats i).console u.configuration.output
  console_compares {i} {u} up =
      let (x, chosen) = laws.there w.size _ in
      let sound = running h up in
      let output = written_output laws w.program _ sound.steps u.configuration sound.made in
      laws.compared w.program x x (w.seats i).console u.configuration.output (inl (laws.itself x)) (consoles_hold_output x i chosen)
      (chosen_output _ x u.configuration.output (front_chosen laws.fronts sound.learned) chosen output)

  -- the next byte that a node releases is one of what its machine has written
  pub offer_fits : {i : ℕ} {u : Up} (up : (w.seats i).up ≡ Some u) (byte : ℕ)
      → slice_get u.configuration.output u.released ≡ Some byte
      → IsOffer (w.seats i).console u.configuration.output u.released byte
  offer_fits {i} {u} up byte e =
      let compare = console_compares up in
      record { compare = compare; begins = laws.shorter _ _ compare; shown = (running h up).shown; byte = e }

  -- the next byte comes next, or is there
  pub has_no_gap : HasNoGap w
  has_no_gap i byte node up e = no_gap (offer_fits up byte e)

  -- what was released is on the console
  pub consoles_show_released : ConsolesShowReleased w
  consoles_show_released i node up =
      let sound = running h up in
      let alike = console_compares up in
      (sound.shown, grind (arith, nat_tests, take-append-le, sound.shown, sound.written))

-- ---- learned values

-- The laws of agreement: at most one value is chosen at a place; it is a no-op or was submitted.
pub record ChoiceLaws : Type 0 where
  pub one : (size s : ℕ) (sent : Sent) (records : ℕ → Record) (v u : Value) → Grew size sent records
      → IsChosen size sent s v → IsChosen size sent s u → v ≡ u
  pub free : (size s : ℕ) (sent : Sent) (records : ℕ → Record) (v : Value) → Grew size sent records → IsChosen size sent s v → IsFree sent v

-- what is learned is chosen
pub learned_is_chosen : (w : WorldState) → IsGroupSound w → (i s : ℕ) (v : Value) → HasLearned w i s v → IsChosen w.size w.sent s v
learned_is_chosen w h i s v has = (running h has.up).learned.chosen s v has.learned

module _ (laws : ChoiceLaws) (w : WorldState) (h : IsGroupSound w) where
  pub typed_of : (v : Value) → IsFree w.sent v → (k : Key) → Contains (keys_of v) k → Contains w.typed k
  typed_of v (inl noop) k among = absurd (none_in k (rw noop at among))
  typed_of v (inr said) k among = (h.submitted said.0 v said.1).known k among

  pub learned_agree : LearnedAgree w
  learned_agree i j s v u has other = laws.one w.size s _ _ v u h.grew (learned_is_chosen w h i s v has) (learned_is_chosen w h j s u other)

  pub learned_chosen : LearnedChosen w
  learned_chosen i s v has =
      let chosen = learned_is_chosen w h i s v has in
      (chosen, typed_of v (laws.free w.size s _ _ v h.grew chosen))
