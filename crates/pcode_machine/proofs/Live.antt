-- What is live, and that a live byte address lies within the words of memory.
use Rattle.std.proofs.Common.{◌≡◌, ℕ, ◌≤◌, List, length, Option, Some, IsSome, ℤ, pos, ◌≤ℤ◌, arith}
use Rattle.std.proofs.lemmas.Bool.Decides.{nat_tests}
use Rattle.std.proofs.lemmas.Option.{slice_get_within}
use Rattle.pcode_frames.specs.Words.{live_byte_at}

-- what is some is one
pub some_is : {A : Type 0} (o : Option A) → IsSome o → (x : A) × (o ≡ Some x)
some_is o some = grind (arith, nat_tests)

pub live_address : (live : List ℕ) (a : ℤ) → length live ≤ 16383 → IsSome (live_byte_at live a) → a ≤ℤ pos 32767
live_address live a few there = grind (arith, nat_tests, slice_get_within)
