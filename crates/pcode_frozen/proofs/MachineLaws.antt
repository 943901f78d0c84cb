-- What the machine's laws say of runs and outputs.
use Rattle.std.proofs.Common.{◌≡◌, ℕ, ◌≤◌, List, ◌++◌}
use Rattle.pcode_file.specs.Parts.{Parts}
use Rattle.pcode_machine.specs.Configuration.{Configuration}
use Rattle.pcode_machine.specs.Runs.{AreComparable, IsPrefix, IsOutput, LeadsIn, after_steps, out}

-- the laws on which the proofs of this crate rest
pub record RunLaws : Type 0 where
  pub longer : (p : Parts) (x y : List ℕ) (n : ℕ) (c : Configuration) → LeadsIn p x n c
      → LeadsIn p (x ++ y) n c
  pub reached : (p : Parts) (x : List ℕ) (n : ℕ) (c : Configuration) → LeadsIn p x n c
      → after_steps p x n ≡ c
  pub grows : (p : Parts) (x : List ℕ) (m n : ℕ) → m ≤ n → IsPrefix (out p x m) (out p x n)
  pub compared : (p : Parts) (x y a b : List ℕ) → AreComparable x y → IsOutput p x a
      → IsOutput p y b → AreComparable a b
  pub itself : (a : List ℕ) → IsPrefix a a
  pub through : (a b c : List ℕ) → IsPrefix a b → IsPrefix b c → IsPrefix a c
