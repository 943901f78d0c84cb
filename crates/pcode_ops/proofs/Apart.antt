-- The parts of procedures lie in the segment and are apart, so each offset of a part has the part's
-- procedure as its owner.
use Rattle.std.proofs.Common.{◌≡◌, ℕ, zero, suc, ◌↔◌, true, IsTrue, List, [], ◌∷◌, length, get_or, Some, slice_get, Ok, refl, arith}
use Rattle.std.proofs.lemmas.Bool.Decides.{nat_tests}
use Rattle.std.proofs.lemmas.Option.{slice_get-get_or}
use Rattle.pcode_file.specs.declared.file.Proc.{Proc}
use Rattle.pcode_file.specs.InFile.{AreProcs}
use Rattle.pcode_file.specs.Parts.{Parts, procedure_of}
use Rattle.pcode_ops.specs.Loading.{is_in, owner}
use Rattle.pcode_ops.specs.Rules.{LiesIn}
use Rattle.pcode_ops.specs.Walks.{AreParts}

-- the test of an offset's part as a fact
pub lies_in : (q : Proc) (i : ℕ) → (is_in q i ≡ true) ↔ LiesIn q i
lies_in q i = grind (arith, nat_tests)

-- the parts of all procedures lie in the segment
pub are_parts : (segment : List ℕ) (procs : List Proc) → AreProcs segment procs → AreParts (length segment) procs
are_parts segment procs h = λ k d lt.
    let own = h.each k (get_or procs k d) (slice_get-get_or procs k d lt) in grind (arith, nat_tests)

-- ---- owners

-- two procedures in whose parts an offset lies are one
one_owner : (segment : List ℕ) (procs : List Proc) → AreProcs segment procs → (a b i : ℕ) (q r : Proc)
    → slice_get procs a ≡ Some q → slice_get procs b ≡ Some r → IsTrue (is_in q i) → IsTrue (is_in r i) → r ≡ q
one_owner segment procs h a b i q r at_a at_b in_q in_r =
    grind (
      arith,
      nat_tests,
      (h.each a q at_a).table.number,
      (h.each b r at_b).table.number,
      (h.lows b r at_b).tables a q at_a,
      (h.lows a q at_a).tables b r at_b,
    )

-- the first procedure in whose part an offset lies, where they all are q
first_owner : (procs : List Proc) (i k : ℕ) (q : Proc)
    → ((b : ℕ) (r : Proc) → slice_get procs b ≡ Some r → IsTrue (is_in r i) → r ≡ q) → slice_get procs k ≡ Some q
    → IsTrue (is_in q i) → owner procs i ≡ Ok q
first_owner [] i k q all at_k in_q = absurd cc
first_owner (r ∷ rs) i zero q all at_k in_q = cc
first_owner (r ∷ rs) i (suc k) q all at_k in_q = grind (arith, all 0 r refl, first_owner rs i k q (λ b. all (suc b)) at_k in_q)

-- an offset in the part of procedure n is owned by it
pub owned : (p : Parts) (n i : ℕ) (q : Proc) → AreProcs p.segment p.procs → procedure_of p.procs n ≡ Some q
    → IsTrue (is_in q i) → owner p.procs i ≡ Ok q
owned p zero i q h at_n in_q = absurd cc
owned p (suc k) i q h at_n in_q =
    first_owner p.procs i k q (λ b r at_b in_r. one_owner p.segment p.procs h k b i q r at_n at_b in_q in_r) at_n in_q
