-- Blocks of words, word by word.
use Rattle.std.proofs.Common.{◌≡◌, ℕ, zero, suc, ◌+◌, ◌-◌, ◌/◌, ◌<◌, ◌≤◌, true, List, [], ◌∷◌, ◌++◌, length, take, drop, Some, slice_get, Ok, refl, sym, ◌∙◌, arith}
use Rattle.std.proofs.lemmas.Bool.Decides.{nat_tests}
use Rattle.std.proofs.lemmas.List.{drop_at, length-take-le, length-drop, take-append-drop}
use Rattle.std.proofs.lemmas.Option.{slice_get_within}
use Rattle.std.proofs.Math.Nat.{zero-add, suc-add, sub-zero}
use Rattle.base.proofs.Lists.{get_there, get_longer}
use Rattle.pcode_frames.specs.Blocks.{block_of, with_block}
use Rattle.pcode_frames.specs.Words.{live_word_at}
use Rattle.pcode_machine.specs.Configuration.{State}
use Rattle.pcode_machine.specs.Blocks.{is_block, block_moved, block_loaded, block_stored, HasBlock}

-- ---- lists

-- an element of the first of two lists, and of the second
get_first : {A : Type 0} (xs ys : List A) (i : ℕ) → i < length xs → slice_get (xs ++ ys) i ≡ slice_get xs i
get_first xs ys i h = let x = get_there xs i h in get_longer xs ys i x.0 x.1 ∙ sym x.1

get_after : {A : Type 0} (xs ys : List A) (i : ℕ) → length xs ≤ i → slice_get (xs ++ ys) i ≡ slice_get ys (i - length xs)
get_after [] ys i h = rw sub-zero refl
get_after (x ∷ xs) ys zero h = absurd (omega arith)
get_after (x ∷ xs) ys (suc i) h = grind (arith, get_after xs ys i)

get_take : {A : Type 0} (n : ℕ) (xs : List A) (i : ℕ) → i < n → slice_get (take n xs) i ≡ slice_get xs i
get_take zero xs i h = absurd (omega arith)
get_take (suc n) [] i h = refl
get_take (suc n) (x ∷ xs) zero h = refl
get_take (suc n) (x ∷ xs) (suc i) h = get_take n xs i (omega arith)

pub get_drop : {A : Type 0} (n : ℕ) (xs : List A) (i : ℕ) → slice_get (drop n xs) i ≡ slice_get xs (n + i)
get_drop zero xs i = rw zero-add refl
get_drop (suc n) [] i = refl
get_drop (suc n) (x ∷ xs) i = rw suc-add (get_drop n xs i)

-- ---- a block of words

-- no words
none_placed : (live : List ℕ) (word : ℕ) (block : List ℕ) → length block ≡ 0 → with_block live word block ≡ live
none_placed live word [] none = grind (arith, nat_tests, take-append-drop)
none_placed live word (x ∷ xs) none = absurd (omega arith)

placed_block : (live : List ℕ) (pointer n : ℕ) (block : List ℕ) → is_block live pointer n ≡ true → length block ≡ n
    → HasBlock live (with_block live (pointer / 2) block) (pointer / 2) n (slice_get block)
placed_block live pointer n block there e = grind (arith, nat_tests, none_placed, get_first, get_after, length-take-le, get_take, get_drop)

block_get : (live : List ℕ) (pointer n : ℕ) → is_block live pointer n ≡ true → (k : ℕ) → k < n
    → slice_get (block_of live (pointer / 2) n) k ≡ live_word_at live (pointer / 2 + k)
block_get live pointer n there k few = grind (arith, nat_tests, get_take, get_drop)

pub moved : (n j from to : ℕ) (s t : State) (rest : List ℕ) → block_moved n j s (from ∷ to ∷ rest) ≡ Ok t
    → HasBlock s.words t.words (to / 2) n (λ k. live_word_at s.words (from / 2 + k)) × (t.stack ≡ rest)
moved n j from to s t rest e = grind (arith, nat_tests, length-take-le, length-drop, block_get, placed_block)

pub loaded : (n j pointer : ℕ) (s t : State) (rest : List ℕ) → block_loaded n j s (pointer ∷ rest) ≡ Ok t
    → ((k : ℕ) → k < n → slice_get t.stack k ≡ live_word_at s.words (pointer / 2 + k)) × (drop n t.stack ≡ rest) × (t.words ≡ s.words)
loaded n j pointer s t rest e = grind (arith, nat_tests, length-take-le, length-drop, block_get, get_first, drop_at)

pub stored : (n j pointer : ℕ) (s t : State) → slice_get s.stack n ≡ Some pointer → block_stored n j s ≡ Ok t
    → HasBlock s.words t.words (pointer / 2) n (λ k. slice_get s.stack k) × (t.stack ≡ drop (n + 1) s.stack)
stored n j pointer s t at e =
    let count = length-take-le n s.stack (omega (arith, slice_get_within s.stack n pointer at)) in
    let placed = placed_block s.words pointer n (take n s.stack) (grind (arith, nat_tests)) count in
    grind (arith, nat_tests, placed, get_take)
