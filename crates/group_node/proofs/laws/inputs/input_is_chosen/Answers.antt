-- There is an input that was chosen: what was sent determines at each place what is chosen there,
-- or that nothing is. As at most one value is chosen at a place, there is one input alone, with
-- which that of any chosen values begins.
use Rattle.std.proofs.Common.{◌&&◌, ◌==◌, ◌≡◌, ℕ, zero, suc, ◌+◌, ◌*◌, ◌<◌, ◌≤◌, ◌⊎◌, ◌↔◌, Bool, true, false, [], ◌∷◌, Contains, inl, inr, arith, List, length, slice_get, Some, refl, sym, ◌++◌}
use Rattle.std.proofs.lemmas.Bool.{cases_lt}
use Rattle.std.specs.List.{list_any}
use Rattle.std.proofs.lemmas.List.Folds.{list_any_at}
use Rattle.std.proofs.lemmas.Map.Views.{Contains-from_any}
use Rattle.std.proofs.lemmas.Bool.Decides.{nat_tests}
use Rattle.base.proofs.Lists.{get_there}
use Rattle.paxos_msg.specs.declared.ballot.Ballot.{Ballot}
use Rattle.paxos_msg.specs.declared.value.Value.{Value}
use Rattle.paxos_msg.specs.declared.message.Body.TheVariants.{Accepted}
use Rattle.paxos_msg.specs.Batches.{Body, Msg, Sent, Grew, Record}
use Rattle.paxos_msg.specs.Ballots.{count_of}
use Rattle.paxos_msg.specs.Chosen.{IsChosenBy, IsChosen}
use Rattle.paxos_msg.specs.Tests.{same_ballot, same_value}
use Rattle.paxos_learner.specs.Input.{input_of}
use Rattle.group_node.specs.Inputs.{IsInput, AreChosen}
use Rattle.pcode_machine.specs.Runs.{IsPrefix}
use Rattle.group_protocol.proofs.Elements.{count_grows, in_cases, none_in}
use Rattle.group_node.proofs.laws.inputs.input_is_chosen.Goals as goal

-- the laws of the crates below
abbrev Laws : Type 0
Laws = goal.After-prefixes_are_ordered

-- ---- whether a node has accepted a value

-- a thing holds, or it does not
abbrev Decided : Type 0 → Type 0
Decided A = A ⊎ (A → ⊥)

-- the message by which node i says that it has accepted the value
abbrev accepted : ℕ → Ballot → ℕ → Value → Msg
accepted i b s v = record { sender = i; body = Accepted b s v }

-- the test that two bodies are one, which says that a value is accepted
abbrev same_accepted : Body → Body → Bool
same_accepted (Accepted b s v) (Accepted c t u) = same_ballot b c && ((s == t) && same_value v u)
same_accepted other body = false

-- the same of two messages
abbrev is_accepted : Msg → Msg → Bool
is_accepted m x = (m.sender == x.sender) && same_accepted m.body x.body

-- such bodies are one
same_accepted_is : Laws → (a b : Body) → same_accepted a b ≡ true → a ≡ b
same_accepted_is laws a b e = grind (arith, nat_tests)

-- whether each node has sent that it accepted the value
abbrev acceptors : Sent → Ballot → ℕ → Value → ℕ → Bool
acceptors sent b s v i = list_any (is_accepted (accepted i b s v)) sent

-- the test holds where it has
acceptors_sent : Laws → (sent : Sent) (b : Ballot) (s : ℕ) (v : Value) (i : ℕ)
    → (acceptors sent b s v i ≡ true) ↔ Contains sent (accepted i b s v)
acceptors_sent laws sent b s v i = (
  Contains-from_any (λ (m x : Msg) (e : is_accepted m x ≡ true). grind (arith, nat_tests, same_accepted_is laws m.body x.body))
      (accepted i b s v) sent,
  λ h.
      list_any_at (is_accepted (accepted i b s v)) sent h.0 (accepted i b s v) h.1
      (rw h.2 (grind (arith, nat_tests, laws.tests_are_exact.ensures.same, laws.tests_are_exact.ensures.same_values))),
)

-- a value is chosen by a ballot, or it isn't
chosen_decided : Laws → (size : ℕ) (sent : Sent) (b : Ballot) (s : ℕ) (v : Value) → Decided (IsChosenBy size sent b s v)
chosen_decided laws size sent b s v = elim (cases_lt size (2 * count_of (acceptors sent b s v) size)) [
  | inl majority ↦ inl (acceptors sent b s v, majority, λ i. (acceptors_sent laws sent b s v i).0)
  | inr few ↦ inr (λ h.
      let grows = count_grows h.0 (acceptors sent b s v) size (λ i member. (acceptors_sent laws sent b s v i).1 (h.2 i member)) in
      omega (arith, few, h.1, grows))
]

-- what is chosen was accepted in a message
chosen_was_accepted : Laws → (size : ℕ) (sent : Sent) (b : Ballot) (s : ℕ) (v : Value) → IsChosenBy size sent b s v
    → (i : ℕ) × Contains sent (accepted i b s v)
chosen_was_accepted h1 size sent b s v h2 = grind (arith, nat_tests)

-- ---- what is chosen at a place

-- a thing in a list is found, or the list has none
find : {X : Type 0} (P : X → Type 0) → ((x : X) → Decided (P x)) → (xs : List X) → ((x : X) × P x) ⊎ ((x : X) → Contains xs x → P x → ⊥)
find P each [] = inr (λ x h is. none_in x h)
find P each (x ∷ xs) = grind (arith, each x, find P each xs)

-- the body accepts a value under a ballot by which that is chosen at the place
abbrev Accepts : ℕ → Sent → ℕ → Body → Type 0
Accepts size sent s (Accepted b t v) = IsChosenBy size sent b s v
Accepts size sent s other = ⊥

-- whether it does
accepts_decided : Laws → (size : ℕ) (sent : Sent) (s : ℕ) (body : Body) → Decided (Accepts size sent s body)
accepts_decided laws size sent s (Accepted b t v) = chosen_decided laws size sent b s v
accepts_decided laws size sent s other = inr (λ h. h)

-- its value is chosen there
its_value : (size : ℕ) (sent : Sent) (s : ℕ) (body : Body) → Accepts size sent s body → (v : Value) × IsChosen size sent s v
its_value size sent s (Accepted b t v) h = (v, (b, h))
its_value size sent s other h = absurd h

-- there is a chosen value, or none is chosen
place_decided : Laws → (size : ℕ) (sent : Sent) (s : ℕ)
    → ((v : Value) × IsChosen size sent s v) ⊎ ((v : Value) → IsChosen size sent s v → ⊥)
place_decided laws size sent s =
    elim (find (λ (m : Msg). Accepts size sent s m.body) (λ m. accepts_decided laws size sent s m.body) sent) [
      | inl found ↦ inl (its_value size sent s found.0.body found.1)
      | inr none ↦ inr (λ v h.
          let said = chosen_was_accepted laws size sent h.0 s v h.1 in
          none (accepted said.0 h.0 s v) said.1 h.1)
    ]

-- ---- the places

-- the place of a message that accepts a value
abbrev place_of : Body → ℕ
place_of (Accepted b s v) = s
place_of other = 0

-- no place of a message reaches this number
abbrev places : Sent → ℕ
places [] = 0
places (m ∷ ms) = suc (place_of m.body + places ms)

-- the place of each accepted value is below it
below_places : (sent : Sent) (i : ℕ) (b : Ballot) (s : ℕ) (v : Value) → Contains sent (accepted i b s v) → s < places sent
below_places [] i b s v h = omega (arith, h.1)
below_places (m ∷ ms) i b s v h = grind (arith, in_cases m ms (accepted i b s v) h, below_places ms i b s v)

-- Values as long as there is one for each place, up to the first place for which there is none.
record UpToGap (P : ℕ → Value → Type 0) : Type 0 where
  values : List Value
  each : (s : ℕ) (v : Value) → slice_get values s ≡ Some v → P s v
  over : (v : Value) → P (length values) v → ⊥

-- there are such values where places below a number alone have one
up_to_gap : (P : ℕ → Value → Type 0) → ((s : ℕ) → ((v : Value) × P s v) ⊎ ((v : Value) → P s v → ⊥)) → (n : ℕ)
    → ((s : ℕ) (v : Value) → P s v → s < n) → UpToGap P
up_to_gap P at zero low = record { values = []; each = λ s v e. absurd cc; over = λ v h. omega (arith, low 0 v h) }
up_to_gap P at (suc n) low = elim (at 0) [
  | inl (v, here) ↦
      let later = up_to_gap (λ s. P (suc s)) (λ s. at (suc s)) n (λ s v h. omega (arith, low (suc s) v h)) in
      record { values = v ∷ later.values; each = λ s w e. grind (arith, nat_tests); over = later.over }
  | inr none ↦ record { values = []; each = λ s v e. absurd cc; over = none }
]

-- there is an input
input_is_there : Laws → (size : ℕ) (sent : Sent) → (x : List ℕ) × IsInput size sent x
input_is_there laws size sent =
    let low = λ (s : ℕ) (v : Value) (h : IsChosen size sent s v).
    let said = chosen_was_accepted laws size sent h.0 s v h.1 in
    below_places sent said.0 h.0 s v said.1 in
    let all = up_to_gap (IsChosen size sent) (place_decided laws size sent) (places sent) low in
    (input_of all.values, record { values = all.values; chosen = record { chosen = all.each }; over = all.over; bytes = refl })

-- of two lists that agree wherever both have something the shorter begins the longer
agree_prefix : {X : Type 0} (a b : List X)
    → ((s : ℕ) (v w : X) → slice_get a s ≡ Some v → slice_get b s ≡ Some w → v ≡ w) → length a ≤ length b → IsPrefix a b
agree_prefix [] b same low = record { rest = b; whole = refl }
agree_prefix (x ∷ xs) [] same low = absurd (omega arith)
agree_prefix (x ∷ xs) (y ∷ ys) same low =
    let h : IsPrefix xs ys = agree_prefix xs ys (λ s. same (suc s)) (omega arith) in
    record { rest = h.rest; whole = λ i. sym (same 0 x y refl refl) i ∷ h.whole i }

module _ (laws : Laws) (size : ℕ) (sent : Sent) (records : ℕ → Record) (grew : Grew size sent records) where
  -- there are at most as many chosen values as there are up to the first place without one
  few_chosen : (values all : List Value) → AreChosen size sent values
      → ((v : Value) → IsChosen size sent (length all) v → ⊥) → length values ≤ length all
  few_chosen values all h over = elim (cases_lt (length all) (length values)) [
    | inl less ↦ let (v, e) = get_there values (length all) less in absurd (over v (h.chosen (length all) v e))
    | inr high ↦ high
  ]

  -- the input begins with that of any chosen values
  chosen_begins : (values : List Value) (x : List ℕ) → AreChosen size sent values → IsInput size sent x → IsPrefix (input_of values) x
  chosen_begins values x h input =
      let begins : IsPrefix values input.values = agree_prefix values input.values
      (λ s v w e f. laws.agreement.ensures.one_value size s sent records v w grew (h.chosen s v e) (input.chosen.chosen s w f))
      (few_chosen values input.values h input.over) in
      grind (arith, laws.input_grows.ensures.bytes values begins.rest)

  -- it begins with that of less that was sent
  input_later : (less : Sent) → ((s : ℕ) (v : Value) → IsChosen size less s v → IsChosen size sent s v)
      → (x y : List ℕ) → IsInput size less x → IsInput size sent y → IsPrefix x y
  input_later less stays x y h k =
      rw h.bytes (chosen_begins h.values y (record { chosen = λ s v e. stays s v (h.chosen.chosen s v e) }) k)

  -- there is one input alone, as of two each begins the other
  one_input : (x y : List ℕ) → IsInput size sent x → IsInput size sent y → x ≡ y
  one_input x y h k =
      laws.prefixes_are_ordered.ensures.both x y (input_later sent (λ s v e. e) x y h k) (input_later sent (λ s v e. e) y x k h)

pub returns : goal.returns
returns c = record {
  there = input_is_there c;
  one = λ size sent records x y grew. one_input c size sent records grew x y;
  begins = λ size sent records values x grew. chosen_begins c size sent records grew values x;
  grows = λ size sent more records x y grew.
      input_later c size (sent ++ more) records grew sent (λ s v. c.sent_only_grows.ensures.chosen size s sent more v) x y;
}
