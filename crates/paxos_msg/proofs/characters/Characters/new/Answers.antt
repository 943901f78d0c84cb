-- The copied characters are those of the slice, followed by zeros.
use Rattle.std.proofs.Common.{◌≡◌, ℕ, ◌<◌, ◌≤◌, ◌-◌, ◌++◌, List, drop, length, replicate, refl, arith}
use Rattle.std.proofs.lemmas.List.{drop-replicate, length-append, length-replicate, take_at}
use Rattle.paxos_msg.specs.Characters.{IsFilled}
use Rattle.std.proofs.lemmas.Bool.Decides.{nat_tests}
use Rattle.paxos_msg.proofs.characters.Characters.new.Goals as goal

filled : (xs : List ℕ) → 0 < length xs → length xs ≤ 32 → IsFilled (length xs) (xs ++ drop (length xs) (replicate 32 0))
filled xs some few =
    let whole : length (xs ++ replicate (32 - length xs) 0) ≡ 32 =
    omega (arith, length-append xs (replicate (32 - length xs) 0), length-replicate {A = ℕ} (32 - length xs) 0) in
    rw (drop-replicate {X = ℕ} (length xs) 32 0) (grind (arith, take_at xs (replicate (32 - length xs) 0) (length xs) refl))

pub invariant_of-result : goal.invariant_of-result
invariant_of-result c = rw c.copy_from_slice.ensures.after (filled c.args.bytes.now (grind (arith, nat_tests)) (omega arith))
