-- Counting nodes: two majorities share one, and those for which something holds, one after another.
use Rattle.std.proofs.Common.{◌≡◌, ℕ, zero, suc, ◌+◌, ◌<◌, ◌≤◌, ◌==◌, Bool, true, false, IsTrue, if◌then◌else◌, add-one, refl, arith}
use Rattle.std.proofs.lemmas.Bool.Decides.{nat_tests}
use Rattle.paxos_msg.specs.Ballots.{count_of, IsMajority}

-- ---- majorities

-- a node of both sets, from 1 to n
abbrev Shared : (ℕ → Bool) → (ℕ → Bool) → ℕ → Type 0
Shared p q n = (i : ℕ) × (0 < i) × (i ≤ n) × IsTrue (p i) × IsTrue (q i)

-- a node that is shared up to n is shared up to the next
still_shared : (p q : ℕ → Bool) (n : ℕ) → Shared p q n → Shared p q (suc n)
still_shared p q n (i, low, high, e, f) = (i, low, omega arith, e, f)

next_shared : (p q : ℕ → Bool) (n : ℕ) → IsTrue (p (suc n)) → IsTrue (q (suc n)) → Shared p q (suc n)
next_shared p q n e f = (suc n, omega arith, omega arith, e, f)

-- more members than nodes share one
shared : (p q : ℕ → Bool) (n : ℕ) → n < count_of p n + count_of q n → Shared p q n
shared p q zero h = absurd (omega arith)
shared p q (suc n) h = grind (arith, nat_tests, still_shared p q n, next_shared p q n, shared p q n)

pub majorities_meet : (size : ℕ) (p q : ℕ → Bool) → IsMajority size p → IsMajority size q
    → (i : ℕ) × (0 < i) × (i ≤ size) × IsTrue (p i) × IsTrue (q i)
majorities_meet size p q h k = shared p q size (omega arith)

-- ---- one node after another

-- one node more is counted if it is a member
pub count_next : (p : ℕ → Bool) (n : ℕ) → count_of p (n + 1) ≡ (if p (n + 1) then 1 else 0) + count_of p n
count_next p n = rw add-one refl

-- a set of more nodes counts no fewer
pub count_grows : (p q : ℕ → Bool) (n : ℕ) → ((i : ℕ) → 0 < i → i ≤ n → IsTrue (p i) → IsTrue (q i)) → count_of p n ≤ count_of q n
count_grows p q zero all = omega arith
count_grows p q (suc n) all =
    grind (arith, nat_tests, all (suc n) (omega arith) (omega arith), count_grows p q n (λ i low high. all i low (omega arith)))

-- The number of the nodes 1 to n that have P: the members are exactly these.
pub record IsCounted (P : ℕ → Type 0) (n count : ℕ) : Type 0 where
  pub members : ℕ → Bool
  pub counted : count ≡ count_of members n
  pub sound : (i : ℕ) → IsTrue (members i) → P i
  pub complete : (i : ℕ) → 0 < i → i ≤ n → P i → IsTrue (members i)

pub none_counted : (P : ℕ → Type 0) → IsCounted P 0 0
none_counted P =
    record { members = λ i. false; counted = refl; sound = λ i h. absurd cc; complete = λ i low high. absurd (omega arith) }

-- the next node is counted
pub counted_in : {P : ℕ → Type 0} {n count : ℕ} → IsCounted P n count → P (n + 1) → IsCounted P (n + 1) (count + 1)
counted_in {P} {n} {count} before h =
    let next : ℕ → Bool = λ i. (if i == n + 1 then true else before.members i) in
    let no_fewer = count_grows before.members next n (λ i low high t. grind (arith, nat_tests)) in
    let no_more = count_grows next before.members n (λ i low high t. grind (arith, nat_tests)) in
    record {
      members = next;
      counted = grind (arith, nat_tests, count_next next n, no_fewer, no_more, before.counted);
      sound = λ i t. grind (arith, nat_tests);
      complete = λ i low high t. grind (arith, nat_tests);
    }
