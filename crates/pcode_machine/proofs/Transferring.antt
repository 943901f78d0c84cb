-- Calls of units, and the bytes that they move, one by one.
use Rattle.std.specs.Prelude.{nat_lt}
use Rattle.std.proofs.Common.{◌≡◌, ◌≢◌, ℕ, zero, suc, ◌+◌, ◌-◌, ◌<◌, ◌≤◌, ◌==◌, if◌then◌else◌, IsSome, IsTrue, Bool, true, false, List, [], ◌∷◌, ◌++◌, length, get_or, take, All, Option, Some, None, slice_get, ◌∙◌, refl, append_assoc, append-nil, add-one, arith, ℤ, pos, ◌+ℤ◌}
use Rattle.std.proofs.Math.Nat.{add-zero}
use Rattle.std.proofs.Math.Seq.{take-suc, take-length}
use Rattle.std.proofs.lemmas.Bool.{cases_eq}
use Rattle.std.proofs.lemmas.Bool.Decides.{nat_tests}
use Rattle.std.proofs.lemmas.Int.{ints}
use Rattle.std.proofs.lemmas.List.Elements.{All-get_or}
use Rattle.std.proofs.lemmas.Option.{get_or_from_slice_get, slice_get-get_or, slice_get_within}
use Rattle.base.proofs.Lists.{get_longer}
use Rattle.pcode_file.specs.Parts.{Parts}
use Rattle.pcode_ops.specs.declared.instr.Instr.TheVariants.{Csp}
use Rattle.pcode_ops.specs.declared.instr.StandardProcedure.{StandardProcedure}
use Rattle.pcode_ops.specs.declared.instr.StandardProcedure.TheVariants.{UnitRead, UnitWrite}
use Rattle.pcode_frames.specs.Words.{live_byte_at, with_byte}
use Rattle.pcode_machine.specs.declared.turn.Direction.{Direction}
use Rattle.pcode_machine.specs.declared.turn.Direction.TheVariants.{Reading, Writing}
use Rattle.pcode_machine.specs.declared.turn.Transfer.{Transfer}
use Rattle.pcode_machine.specs.Bytes.{byte_address}
use Rattle.pcode_machine.specs.Configuration.{State, Configuration, configuration_of, current_of}
use Rattle.pcode_machine.specs.Effects.{Begin, standard}
use Rattle.pcode_machine.specs.Transition.{Goes, transition}
use Rattle.pcode_machine.specs.Runs.{GoesIn}
use Rattle.pcode_machine.specs.Step.{Awaits}
use Rattle.pcode_machine.specs.Transfers.{is_console, begun_transfer, rest_of}
use Rattle.pcode_machine.specs.WholeTransfers.{IsUnitCall, HoldsBytes, HasBytes, TakesBytes, GoesOnWith}
use Rattle.pcode_machine.proofs.BlockWords.{get_drop}
use Rattle.pcode_machine.proofs.Live.{some_is}
use Rattle.pcode_machine.proofs.Steps.{Decodes}

-- ---- bytes in memory

-- the live words with the first n of these bytes from an address on
abbrev with_bytes : List ℕ → ℤ → List ℕ → ℕ → List ℕ
with_bytes live a bytes zero = live
with_bytes live a bytes (suc n) = with_byte (with_bytes live a bytes n) (a +ℤ pos n) (get_or bytes n 0)

module _ (got : (live : List ℕ) (a : ℤ) (b : ℕ) → b < 256 → IsSome (live_byte_at live a) → live_byte_at (with_byte live a b) a ≡ Some b)
    (apart : (live : List ℕ) (a y : ℤ) (b : ℕ) → b < 256 → y ≢ a → live_byte_at (with_byte live a b) y ≡ live_byte_at live y)
    (live : List ℕ) (a : ℤ) (bytes : List ℕ) (small : All (λ b. b < 256) bytes) where
  -- each other byte is as before
  others_stay : (n : ℕ) (y : ℤ) → n ≤ length bytes → ((k : ℕ) → k < n → y ≢ a +ℤ pos k)
      → live_byte_at (with_bytes live a bytes n) y ≡ live_byte_at live y
  others_stay zero y few other = refl
  others_stay (suc n) y few other =
      apart (with_bytes live a bytes n) (a +ℤ pos n) y _ (All-get_or (λ b. b < 256) bytes n 0 (omega arith) small) (other n (omega arith))
      ∙ others_stay n y (omega arith) (λ k below. other k (omega arith))

  -- so the place of the next one is live as before
  next_live : (n : ℕ) → n ≤ length bytes → IsSome (live_byte_at live (a +ℤ pos n))
      → IsSome (live_byte_at (with_bytes live a bytes n) (a +ℤ pos n))
  next_live n few there = rw (others_stay n (a +ℤ pos n) few (λ k below same. absurd (omega (arith, ints)))) there

  -- the bytes are there
  bytes_there : (n : ℕ) → n ≤ length bytes → HasBytes live a (length bytes) → (k : ℕ) → k < n
      → live_byte_at (with_bytes live a bytes n) (a +ℤ pos k) ≡ Some (get_or bytes k 0)
  bytes_there zero few has k below = absurd (omega arith)
  bytes_there (suc n) few has k below =
      let old = with_bytes live a bytes n in
      let fits = All-get_or (λ b. b < 256) bytes n 0 (omega arith) small in
      let here = got old (a +ℤ pos n) _ fits (next_live n (omega arith) (has.each n (omega arith))) in
      let there = apart old (a +ℤ pos n) (a +ℤ pos k) _ fits in
      grind (arith, ints, cases_eq k n, here, there, bytes_there n (omega arith) has k)

  takes : HasBytes live a (length bytes) → TakesBytes live a bytes (with_bytes live a bytes (length bytes))
  takes has = record {
    held = record {
      each = λ k b at.
          cc (bytes_there (length bytes) (omega arith) has k (slice_get_within bytes k b at), get_or_from_slice_get bytes k b 0 at);
    };
    others = λ y other. others_stay (length bytes) y (omega arith) other;
  }

-- ---- what is left of a transfer

-- what is left after n bytes
abbrev rest_after : Transfer → ℕ → Transfer
rest_after t n = record t { address = t.address +ℤ pos n; left = t.left - n }

-- the same, if anything is left
abbrev left_after : Transfer → ℕ → Option Transfer
left_after t n = if nat_lt n t.left then Some (rest_after t n) else None

left_some : (t : Transfer) (n : ℕ) → n < t.left → left_after t n ≡ Some (rest_after t n)
left_some t n few = grind (arith, nat_tests)

-- one byte less
left_next : (t : Transfer) (n : ℕ) → rest_of (rest_after t n) ≡ left_after t (suc n)
left_next t n = grind arith

-- ---- steps

-- what unit 1 reads it writes
echoed : (is_one : Bool) (bytes more output : List ℕ)
    → (if is_one then (if is_one then output ++ bytes else output) ++ more else (if is_one then output ++ bytes else output))
    ≡ (if is_one then output ++ (bytes ++ more) else output)
echoed true bytes more output = rw append_assoc refl
echoed false bytes more output = refl

no_echo : (is_one : Bool) (output : List ℕ) → (if is_one then output ++ [] else output) ≡ output
no_echo true output = append-nil output
no_echo false output = refl

-- one step after others
goes_more : (p : Parts) (x : List ℕ) (n : ℕ) (c d e : Configuration) → GoesIn p x n c d → transition p x d ≡ Goes e → GoesIn p x (suc n) c e
unfolding GoesIn
goes_more p x zero c d e h step = (e, rw h at step, refl)
goes_more p x (suc n) c d e h step = (h.0, h.1, goes_more p x n h.0 d e h.2 step)

module _ (p : Parts) (known : Decodes p.segment) (x : List ℕ) (c : Configuration) (j unit base index count : ℕ) (rest bytes : List ℕ)
    (console : IsTrue (is_console unit)) (fits : count < 32768) (enough : length bytes ≤ count) where
  -- the transfer
  abbrev whole : Direction → Transfer
  whole way = record { direction = way; unit = unit; address = byte_address base index; left = count; at = c.state.next }

  -- the configuration after the call and n bytes, with these live words, number of bytes read and output
  abbrev during : Direction → ℕ → List ℕ → ℕ → List ℕ → Configuration
  during way n live read output =
      let left = left_after (whole way) n in
      configuration_of (record c.state { words = live; stack = rest; next = j; io_result = 0; transfer = left }) read output

  -- the call
  begins : (way : Direction) (called : StandardProcedure) → IsUnitCall p c called j unit base index count rest
      → ((s : State) → standard called j s ≡ Begin way) → transition p x c ≡ Goes (during way 0 c.state.words c.read c.output)
  begins way called h is =
      let f = some_is (current_of c.state.frames) h.current in
      let first : begun_transfer way unit base index count c.state.next ≡ left_after (whole way) 0 = grind (arith, nat_tests) in
      rw (f.1, h.idle, (known c.state.next (Csp called) j).1 h.there, is, h.operands, first, console) refl

  -- all bytes are moved
  over : (way : Direction) → length bytes ≡ count → c.state.transfer ≡ None → left_after (whole way) (length bytes) ≡ c.state.transfer
  over way all idle = grind (arith, nat_tests)

  -- ---- UNITWRITE

  goes_out : IsUnitCall p c UnitWrite j unit base index count rest → HoldsBytes c.state.words (byte_address base index) bytes
      → (n : ℕ) → n ≤ length bytes → GoesIn p x (suc n) c (during Writing n c.state.words c.read (c.output ++ take n bytes))
  unfolding GoesIn
  goes_out h held zero low = (during Writing 0 c.state.words c.read c.output, begins Writing UnitWrite h (λ s. refl), rw append-nil refl)
  goes_out h held (suc n) low =
      let below : n < length bytes = omega arith in
      let f = some_is (current_of c.state.frames) h.current in
      let there = held.each n (get_or bytes n 0) (slice_get-get_or bytes n 0 below) in
      let left = left_some (whole Writing) n (omega arith) in
      goes_more p x (suc n) c _ _ (goes_out h held n (omega arith))
      (rw (f.1, left, there, left_next (whole Writing) n, take-suc bytes n 0 below, append_assoc) refl)

  pub all_out : length bytes ≡ count → IsUnitCall p c UnitWrite j unit base index count rest
      → HoldsBytes c.state.words (byte_address base index) bytes
      → GoesIn p x (length bytes + 1) c
      (configuration_of (record c.state { stack = rest; next = j; io_result = 0 }) c.read (c.output ++ bytes))
  all_out all h held =
      rw add-one (rw (over Writing all h.idle, take-length) at (goes_out h held (length bytes) (omega arith)))

  -- ---- UNITREAD

  module _ (got : (live : List ℕ) (a : ℤ) (b : ℕ) → b < 256 → IsSome (live_byte_at live a) → live_byte_at (with_byte live a b) a ≡ Some b)
      (apart : (live : List ℕ) (a y : ℤ) (b : ℕ) → b < 256 → y ≢ a → live_byte_at (with_byte live a b) y ≡ live_byte_at live y)
      (h : IsUnitCall p c UnitRead j unit base index count rest) (next : GoesOnWith x c.read bytes)
      (has : HasBytes c.state.words (byte_address base index) (length bytes)) where
    -- the live words after n bytes, and the configuration
    abbrev words_in : ℕ → List ℕ
    words_in n = with_bytes c.state.words (byte_address base index) bytes n

    abbrev during_in : ℕ → Configuration
    during_in n = during Reading n (words_in n) (c.read + n) (if unit == 1 then c.output ++ take n bytes else c.output)

    next_in : (n : ℕ) → n ≤ length bytes → IsSome (live_byte_at c.state.words (byte_address base index +ℤ pos n))
        → IsSome (live_byte_at (words_in n) (byte_address base index +ℤ pos n))
    next_in = next_live got apart c.state.words (byte_address base index) bytes next.small

    -- the n-th byte of the input from there on
    byte_next : (n : ℕ) → n < length bytes → slice_get x (c.read + n) ≡ Some (get_or bytes n 0)
    byte_next n below =
        let at = get_longer bytes next.next.rest n (get_or bytes n 0) (slice_get-get_or bytes n 0 below) in
        cc (get_drop c.read x n, next.next.whole)

    goes_in : (n : ℕ) → n ≤ length bytes → GoesIn p x (suc n) c (during_in n)
    unfolding GoesIn
    goes_in zero low =
        let first = begins Reading UnitRead h (λ s. refl) in
        (during Reading 0 c.state.words c.read c.output, first, rw (add-zero, no_echo (unit == 1) c.output) refl)
    goes_in (suc n) low =
        let below : n < length bytes = omega arith in
        let f = some_is (current_of c.state.frames) h.current in
        let there = some_is (live_byte_at (words_in n) (byte_address base index +ℤ pos n)) (next_in n (omega arith) (has.each n below)) in
        let left = left_some (whole Reading) n (omega arith) in
        let more : c.read + n + 1 ≡ c.read + suc n = omega arith in
        let echo = echoed (unit == 1) (take n bytes) (get_or bytes n 0 ∷ []) c.output in
        goes_more p x (suc n) c _ _ (goes_in n (omega arith))
        (rw (f.1, left, there.1, byte_next n below, left_next (whole Reading) n, take-suc bytes n 0 below, more, echo) refl)

    pub all_in : length bytes ≡ count
        → (live : List ℕ) × TakesBytes c.state.words (byte_address base index) bytes live
        × GoesIn p x (length bytes + 1) c
        (configuration_of (record c.state { words = live; stack = rest; next = j; io_result = 0 }) (c.read + length bytes)
        (if unit == 1 then c.output ++ bytes else c.output))
    all_in all = (
      words_in (length bytes),
      takes got apart c.state.words _ bytes next.small has,
      rw add-one (rw (over Reading all h.idle, take-length) at (goes_in (length bytes) (omega arith))),
    )

    -- where the input ends, it waits
    pub waits_in : length bytes < count → length x ≡ c.read + length bytes
        → IsSome (live_byte_at c.state.words (byte_address base index +ℤ pos (length bytes)))
        → (d : Configuration) × GoesIn p x (length bytes + 1) c d × Awaits x d
        × TakesBytes c.state.words (byte_address base index) bytes d.state.words
    waits_in short ends there =
        let n = length bytes in
        let f = some_is (current_of c.state.frames) h.current in
        let live = next_in n (omega arith) there in (
          during_in n,
          rw add-one (goes_in n (omega arith)),
          (f.0, f.1, rw (left_some (whole Reading) n short) (refl, live, omega (arith, ends))),
          takes got apart c.state.words _ bytes next.small has,
        )
