-- Steps of machines that exist, and two small programs that write the letter A.
use Rattle.std.proofs.Common.{◌≡◌, ◌∙◌, ℕ, zero, suc, ◌&&◌, ◌≤◌, Bool, true, false, List, [], ◌∷◌, drop, length, slice_get, Some, inl, inr, refl, sym, ap, arith, length-append}
use Rattle.std.proofs.lemmas.Bool.Decides.{nat_tests}
use Rattle.std.proofs.lemmas.Bool.{and_parts, cases_eq}
use Rattle.pcode_file.specs.Parts.{Parts}
use Rattle.pcode_ops.specs.Decoding.{instr_of}
use Rattle.pcode_machine.specs.Configuration.{Configuration}
use Rattle.pcode_machine.specs.Transition.{Goes as Leads_to, Transition, transition}
use Rattle.pcode_machine.specs.Runs.{IsPrefix, LeadsIn, after_steps, led, out}
use Rattle.std.specs.FinMap.{empty, insert}
use Rattle.paxos_msg.specs.declared.value.Value.TheVariants.{Keys}
use Rattle.paxos_learner.specs.Input.{learned_input}
use Rattle.paxos_learner.proofs.OnePlace.{get_here}
use Rattle.group_protocol.proofs.Elements.{entries_one}
use Rattle.group_node.specs.declared.player.Ran.TheVariants as more
use Rattle.group_node.specs.Output.{IsReplay, Progress, RunsOn, no_progress, unreleased_of}
use Rattle.group_rules.specs.SmallPrograms.{echoes, letter_program}

-- ---- steps that exist

unfoldable pub is_step : Transition → Bool
is_step (Leads_to d) = true
is_step other = false

-- n steps exist
unfoldable pub all_go : Parts → List ℕ → ℕ → Bool
all_go p x zero = true
all_go p x (suc n) = all_go p x n && is_step (transition p x (after_steps p x n))

pub goes_by : (p : Parts) (x : List ℕ) (c : Configuration) (o : Transition) → is_step o ≡ true → transition p x c ≡ o
    → transition p x c ≡ Leads_to (led c o)
unfolding is_step
goes_by p x c other h e = grind (arith, nat_tests)

leads_by : (p : Parts) (x : List ℕ) (n : ℕ) → all_go p x n ≡ true → LeadsIn p x n (after_steps p x n)
unfolding all_go LeadsIn after_steps
leads_by p x zero h = refl
leads_by p x (suc n) h =
    let both = and_parts (all_go p x n) (is_step (transition p x (after_steps p x n))) h in
    (after_steps p x n, leads_by p x n both.0, goes_by p x _ _ both.1 refl)

-- where a machine makes no step, it stays as it is
pub stays : (p : Parts) (x : List ℕ) (k : ℕ) → led (after_steps p x k) (transition p x (after_steps p x k)) ≡ after_steps p x k
    → (n : ℕ) → k ≤ n → after_steps p x n ≡ after_steps p x k
unfolding after_steps
stays p x k over zero from = grind arith
stays p x k over (suc n) from = elim (cases_eq (suc n) k) [
  | inl last ↦ ap (after_steps p x) last
  | inr more ↦ ap (λ (c : Configuration). led c (transition p x c)) (stays p x k over n (omega arith)) ∙ over
]

-- ---- its runs

-- output grows with the steps
pub record StepsLaw : Type 0 where
  pub steps : (p : Parts) (x : List ℕ) (m n : ℕ) → m ≤ n → IsPrefix (out p x m) (out p x n)

-- a program that takes ten steps on an input and then has written the letter A
pub record WritesLetter (p : Parts) (x : List ℕ) : Type 0 where
  pub goes : all_go p x 10 ≡ true
  pub writes : out p x 10 ≡ 65 ∷ []

-- what is written after some steps
pub written_by : (p : Parts) (x : List ℕ) (n : ℕ) → out p x n ≡ (after_steps p x n).output
unfolding out
written_by p x n = refl

-- its progress after them
abbrev pub ten_of : Parts → Progress
ten_of p = record { program = p; steps = 10; released = 0 }

module _ {p : Parts} {x : List ℕ} (h : WritesLetter p x) where
  pub first_byte : slice_get (after_steps p x 10).output 0 ≡ Some 65
  first_byte = ap (λ bytes. slice_get bytes 0) (sym (written_by p x 10) ∙ h.writes)

  pub waits : unreleased_of x (ten_of p) ≡ 65 ∷ []
  waits = ap (drop 0) h.writes

  pub replays : IsReplay x (ten_of p)
  replays = record { made = leads_by p x 10 h.goes; released = omega arith; few = rw waits (omega arith) }

  pub runs : StepsLaw → RunsOn x 10 (no_progress p) (ten_of p) more.More
  runs laws = record {
    rest = refl;
    more = omega arith;
    room = λ n low high.
        let longer = laws.steps p x n 10 (omega arith) in
        omega (arith, ap length longer.whole, length-append (out p x n) longer.rest, ap length h.writes);
    over = refl;
  }

pub writes_letter : (x : List ℕ) → WritesLetter letter_program x
unfolding all_go is_step out after_steps instr_of
writes_letter x = record { goes = refl; writes = refl }

echoes_letter : WritesLetter echoes (65 ∷ [])
unfolding all_go is_step out after_steps instr_of
echoes_letter = record { goes = refl; writes = refl }

-- where the letter is the first key that was learned
pub echoes_first : (node start : ℕ) → WritesLetter echoes (learned_input (insert empty 0 (Keys node start 1 (65 ∷ []))))
echoes_first node start =
    grind (arith, entries_one, get_here, echoes_letter)
