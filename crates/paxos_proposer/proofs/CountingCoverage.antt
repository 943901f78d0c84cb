-- Counting the nodes for which something holds, and those that have promised above a place.
use Rattle.std.proofs.Common.{◌≡◌, ℕ, zero, suc, ◌+◌, ◌≤◌, Bool, true, List, slice_set, if◌then◌else◌, add-one, refl, arith}
use Rattle.std.proofs.lemmas.Bool.{cases_eq, cases_lt}
use Rattle.std.proofs.lemmas.List.{get_or-set_other, get_or-set_same, set_past}
use Rattle.std.proofs.lemmas.Bool.Decides.{nat_tests}
use Rattle.paxos_msg.specs.Ballots.{count_of}
use Rattle.paxos_msg.specs.Tests.{is_majority}
use Rattle.paxos_proposer.specs.Proposer.{is_covered_by}
use Rattle.paxos_proposer.specs.States.{AreInRange}

-- one node more is counted if it is a member
pub count_next : (p : ℕ → Bool) (n : ℕ) → count_of p (n + 1) ≡ (if p (n + 1) then 1 else 0) + count_of p n
count_next p n = rw add-one refl

-- no promise reaches above place 65,536
none_counted : (coverages : List ℕ) (s n : ℕ) → 65536 ≤ s → AreInRange coverages → count_of (is_covered_by coverages s) n ≡ 0
none_counted coverages s zero high h = refl
none_counted coverages s (suc n) high h = grind (arith, nat_tests, h.upto (suc n), none_counted coverages s n high h)

-- a place that a majority's promises reach above is a place
pub covered_below : (size s : ℕ) (coverages : List ℕ) → AreInRange coverages
    → is_majority size (is_covered_by coverages s) ≡ true → s ≤ 65535
covered_below size s coverages h covered = grind (arith, nat_tests, cases_lt, none_counted)

-- a part that reaches no further than the last place leaves all within it
pub set_reach : (coverages : List ℕ) (j upto : ℕ) → upto ≤ 65536 → AreInRange coverages → AreInRange (slice_set coverages j upto)
set_reach coverages j upto low h = grind (arith, nat_tests, cases_eq, cases_lt, get_or-set_same, get_or-set_other, set_past)
