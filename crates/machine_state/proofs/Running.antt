-- A run on a whole input, one stretch of steps after another.
use Rattle.std.proofs.Common.{◌≡◌, ◌∙◌, ℕ, zero, suc, ◌+◌, ◌<◌, ◌≤◌, List, [], ◌∷◌, ◌++◌, length, slice_get, Option, None, Some, refl, sym, ap, append-nil, append_assoc, length-append, is_some, true, false, arith}
use Rattle.std.specs.Option.{option_to_list}
use Rattle.pcode_file.specs.Parts.{Parts}
use Rattle.pcode_machine.specs.declared.turn.End.{End}
use Rattle.pcode_machine.specs.Configuration.{State, Configuration, configuration_of, start}
use Rattle.pcode_machine.specs.Runs.{LeadsIn}
use Rattle.pcode_machine.specs.Turns.{AreQuiet, IsLast, Makes, WaitsOn, Writes}
use Rattle.machine_state.specs.Halt.{HaltsIn, IsSpent}

-- The steps made so far. They have taken the front of the input.
pub record Ahead (p : Parts) (input : List ℕ) (n : ℕ) (s : State) (read wrote : ℕ) : Type 0 where
  pub front : List ℕ
  pub rest : List ℕ
  pub output : List ℕ
  pub whole : input ≡ front ++ rest
  pub taken : length front ≡ read
  pub given : length output ≡ wrote
  pub made : LeadsIn p front n (configuration_of s (length front) output)

-- the laws of runs that it rests on
pub record Laws : Type 0 where
  pub longer : (p : Parts) (x y : List ℕ) (n : ℕ) (c : Configuration) → LeadsIn p x n c → LeadsIn p (x ++ y) n c
  pub quiet : (p : Parts) (x : List ℕ) (n m r : ℕ) (o : List ℕ) (s t : State) → LeadsIn p x n (configuration_of s r o)
      → AreQuiet p m s t → LeadsIn p x (n + m) (configuration_of t r o)

pub ahead_at_start : (p : Parts) (input : List ℕ) → Ahead p input 0 (start p) 0 0
unfolding LeadsIn
ahead_at_start p input =
    record { front = []; rest = input; output = []; whole = refl; taken = refl; given = refl; made = refl }

-- the element at a number is the first behind as many
split_at : (xs front rest : List ℕ) (k b : ℕ) → xs ≡ front ++ rest → length front ≡ k → slice_get xs k ≡ Some b
    → (more : List ℕ) × (rest ≡ b ∷ more)
split_at xs [] [] k b whole count e = absurd cc
split_at xs [] (y ∷ rest) k b whole count e = (rest, cc)
split_at [] (y ∷ front) rest k b whole count e = absurd cc
split_at (x ∷ xs) (y ∷ front) rest zero b whole count e = absurd cc
split_at (x ∷ xs) (y ∷ front) rest (suc k) b whole count e =
    let tail : xs ≡ front ++ rest = cc in
    let less : length front ≡ k = omega arith in
    split_at xs front rest k b tail less e

-- there is no element behind all
all_taken : (xs front rest : List ℕ) (k : ℕ) → xs ≡ front ++ rest → length front ≡ k → slice_get xs k ≡ None → rest ≡ []
all_taken xs [] [] k whole count e = refl
all_taken xs [] (y ∷ rest) k whole count e = absurd cc
all_taken [] (y ∷ front) rest k whole count e = absurd cc
all_taken (x ∷ xs) (y ∷ front) rest zero whole count e = absurd cc
all_taken (x ∷ xs) (y ∷ front) rest (suc k) whole count e =
    let tail : xs ≡ front ++ rest = cc in
    let less : length front ≡ k = omega arith in
    all_taken xs front rest k tail less e

-- an echo counts as one byte, and no echo as none
pub one_counts : (echo : Option ℕ) → is_some echo ≡ true → length (option_to_list echo) ≡ 1
one_counts None e = absurd cc
one_counts (Some b) e = refl

pub none_counts : (echo : Option ℕ) → is_some echo ≡ false → length (option_to_list echo) ≡ 0
none_counts None e = refl
none_counts (Some b) e = absurd cc

pub at_most_one : (echo : Option ℕ) → length (option_to_list echo) ≤ 1
at_most_one None = omega arith
at_most_one (Some b) = omega arith

module _ {p : Parts} {input : List ℕ} {n : ℕ} {s : State} {read wrote : ℕ} (laws : Laws) (a : Ahead p input n s read wrote) where
  pub quiet_on : {t : State} (k : ℕ) → AreQuiet p k s t → Ahead p input (n + k) t read wrote
  quiet_on k h = record {
    front = a.front;
    rest = a.rest;
    output = a.output;
    whole = a.whole;
    taken = a.taken;
    given = a.given;
    made = laws.quiet p a.front n k _ a.output s _ a.made h;
  }

  pub write_on : {t : State} (b : ℕ) → Writes p s t b → Ahead p input (suc n) t read (wrote + 1)
  unfolding LeadsIn
  write_on {t = t} b h = record {
    front = a.front;
    rest = a.rest;
    output = a.output ++ b ∷ [];
    whole = a.whole;
    taken = a.taken;
    given = grind (arith, length-append, a.given);
    made = (configuration_of s (length a.front) a.output, a.made, h.goes a.front (length a.front) a.output);
  }

  -- a step that takes a byte, and writes it or nothing
  pub take_on : {t : State} (b : ℕ) (echo : Option ℕ) → slice_get input read ≡ Some b → Makes p s t (b ∷ []) (option_to_list echo)
      → Ahead p input (suc n) t (read + 1) (wrote + length (option_to_list echo))
  unfolding LeadsIn
  take_on {t = t} b echo e h =
      let (more, is) = split_at input a.front a.rest read b a.whole a.taken e in
      record {
        front = a.front ++ b ∷ [];
        rest = more;
        output = a.output ++ option_to_list echo;
        whole = a.whole ∙ ap (λ l. a.front ++ l) is ∙ sym (append_assoc a.front (b ∷ []) more);
        taken = grind (arith, length-append, a.taken);
        given = grind (arith, length-append, a.given);
        made = (
          configuration_of s (length a.front) a.output,
          laws.longer p a.front (b ∷ []) n _ a.made,
          rw length-append (h.steps a.front a.output),
        );
      }

  -- the same steps on the whole input
  pub made_on_all : LeadsIn p input n (configuration_of s read a.output)
  made_on_all = rw (a.whole, sym a.taken) (laws.longer p a.front a.rest n _ a.made)

  pub ended : {steps : ℕ} (e : End) → n < steps → IsLast p s e → HaltsIn p input steps (Some e) (configuration_of s read a.output)
  ended e less h = record { n = n; few = less; made = made_on_all; over = h.stops input read a.output }

  pub waits : {steps : ℕ} → n < steps → slice_get input read ≡ None → WaitsOn p s
      → HaltsIn p input steps None (configuration_of s read a.output)
  waits less none h =
      let no_rest = all_taken input a.front a.rest read a.whole a.taken none in
      let same : input ≡ a.front = a.whole ∙ ap (λ l. a.front ++ l) no_rest ∙ append-nil a.front in
      record { n = n; few = less; made = made_on_all; over = rw (same, sym a.taken) (h.waits a.front a.output) }

  pub spent : {steps : ℕ} → n ≡ steps → IsSpent p input steps
  spent all = record { last = configuration_of s read a.output; made = rw (sym all) made_on_all }
