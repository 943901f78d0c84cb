-- Prefixes of lists, runs of a program on a whole input, and its output after some steps.
use Rattle.std.specs.Prelude.{◌≡◌, ℕ, zero, suc, List, [], ◌++◌, ◌⊎◌}
use Rattle.pcode_file.specs.Parts.{Parts}
use Rattle.pcode_machine.specs.Configuration.{Configuration, configuration_of, start}
use Rattle.pcode_machine.specs.Transition.{Transition, Goes, Stops, Waiting, Stuck, transition}

-- The relation of a list and one that begins with it.
pub record IsPrefix {X : Type 0} (a b : List X) : Type 0 where
  pub rest : List X
  pub whole : b ≡ a ++ rest

-- Two lists: one begins with the other.
abbrev pub AreComparable : {X : Type 0} → List X → List X → Type 0
AreComparable a b = IsPrefix a b ⊎ IsPrefix b a

-- The configuration at which a program begins: nothing read, nothing written.
abbrev pub begin : Parts → Configuration
begin p = configuration_of (start p) 0 []

-- The configuration to which a step leads, or the same one if there is no step.
abbrev pub led : Configuration → Transition → Configuration
led c (Goes d) = d
led c (Stops e) = c
led c Waiting = c
led c Stuck = c

-- The configuration after `n` steps on the input `x`, or after fewer if no further step exists.
unfoldable pub after_steps : Parts → List ℕ → ℕ → Configuration
after_steps p x zero = begin p
after_steps p x (suc n) = led (after_steps p x n) (transition p x (after_steps p x n))

-- The output after `n` steps on the input `x`.
unfoldable pub out : Parts → List ℕ → ℕ → List ℕ
out p x n = (after_steps p x n).output

-- The outputs on `x`: the prefixes of the output after some number of steps.
abbrev pub IsOutput : Parts → List ℕ → List ℕ → Type 0
IsOutput p x y = (n : ℕ) × IsPrefix y (out p x n)

-- The configuration `c` to which `n` steps on the input `x` lead from the start.
-- Each of these steps exists.
unfoldable pub LeadsIn : Parts → List ℕ → ℕ → Configuration → Type 0
LeadsIn p x zero c = c ≡ begin p
LeadsIn p x (suc n) c = (b : Configuration) × LeadsIn p x n b × (transition p x b ≡ Goes c)

-- The configurations `c` and `d` before and after `n` steps on the input `x`.
unfoldable pub GoesIn : Parts → List ℕ → ℕ → Configuration → Configuration → Type 0
GoesIn p x zero c d = d ≡ c
GoesIn p x (suc n) c d = (b : Configuration) × (transition p x c ≡ Goes b) × GoesIn p x n b d
