-- The machine with its ring and its counts stays exact, from one step to the next, and what it says
-- of the program's output.
use Rattle.std.proofs.Common.{◌≡◌, ℕ, zero, suc, ◌+◌, ◌<◌, ◌≤◌, List, [], ◌∷◌, ◌++◌, length, take, drop, slice_get, Some, None, refl, sym, ◌∙◌, ap, append-nil, append_assoc, length-append, arith, Option}
use Rattle.std.proofs.lemmas.List.{drop-drop, length-drop, length-take, take-append-drop, take_all, drop-append-le}
use Rattle.std.proofs.lemmas.Bool.Decides.{nat_tests}
use Rattle.base.proofs.Lists.{get_none}
use Rattle.circular_buffer.specs.Buffer.{buffer}
use Rattle.pcode_file.specs.Parts.{Parts}
use Rattle.pcode_machine.specs.declared.turn.End.{End}
use Rattle.pcode_machine.specs.Configuration.{State, Configuration, configuration_of, start}
use Rattle.pcode_machine.specs.Transition.{transition, Goes, Stops, Waiting}
use Rattle.pcode_machine.specs.Runs.{after_steps, LeadsIn, out}
use Rattle.pcode_machine.specs.Turns.{AreQuiet, IsLast, Makes, WaitsOn, Writes}
use Rattle.group_node.specs.declared.player.Player.{Player}
use Rattle.group_node.specs.Player.{Advances, IsPlayed, PlaysStep, progress_of}
use Rattle.group_node.specs.Output.{IsReplay, unreleased_of}

-- the law that steps which exist lead to what is after this many of them
abbrev pub There : Type 0
There = (p : Parts) (x : List ℕ) (n : ℕ) (c : Configuration) → LeadsIn p x n c → after_steps p x n ≡ c

-- the laws of runs that a step rests on
pub record Laws : Type 0 where
  pub there : There
  pub longer : (p : Parts) (x y : List ℕ) (c d : Configuration) → transition p x c ≡ Goes d → transition p (x ++ y) c ≡ Goes d

-- ---- steps that write or take a byte

-- a step that writes a byte takes none
pub makes-wrote : {p : Parts} {old new : State} {b : ℕ} → Writes p old new b → Makes p old new [] (b ∷ [])
makes-wrote w = grind (arith, nat_tests)

-- ---- one step more

-- a step that takes what the input has next
exact_more : {x : List ℕ} {old new : Player} {took wrote : List ℕ} → Laws → IsPlayed x old
    → length old.unreleased.items < 256 → PlaysStep old new took wrote
    → (rest : List ℕ) → (take old.read x ++ took) ++ rest ≡ x → IsPlayed x new
unfolding LeadsIn
exact_more {x} {old} {new} {took} {wrote} laws h room m rest split =
    let len : length (take old.read x) ≡ old.read = omega (arith, length-take old.read x, h.read) in
    let goes =
    rw (split, len) at
    (laws.longer old.machine.program (take old.read x ++ took) rest
    (configuration_of old.machine.state (length (take old.read x)) h.output)
    (configuration_of new.machine.state (length (take old.read x) + length took) (h.output ++ wrote))
    (m.made.steps (take old.read x) h.output)) in
    let tail = drop-append-le old.released h.output wrote h.released in
    record {
      output = h.output ++ wrote;
      made = grind arith;
      read = rw m.read (
          omega (arith, ap length split, length-append (take old.read x ++ took) rest, length-append (take old.read x) took)
          );
      waits = rw (m.waits, m.released, tail, h.waits) refl;
      released = rw m.released (omega (arith, length-append h.output wrote, h.released));
      few = rw m.steps (omega (arith, length-append h.output wrote, h.few, m.short));
      seldom = rw (m.steps, m.read) (omega (arith, h.seldom, m.one));
      room = rw m.waits (omega (arith, length-append old.unreleased.items wrote, m.short));
      capacity = rw m.waits h.capacity;
    }

-- a step that takes nothing
pub exact_idle : {x : List ℕ} {old new : Player} {wrote : List ℕ} → Laws → IsPlayed x old
    → length old.unreleased.items < 256 → PlaysStep old new [] wrote → IsPlayed x new
exact_idle {x} {old} {new} {wrote} laws h room m =
    exact_more laws h room m (drop old.read x) (rw (append-nil (take old.read x)) (take-append-drop old.read x))

-- what is left from the place of an element on
drop_at : (x : List ℕ) (n b : ℕ) → slice_get x n ≡ Some b → drop n x ≡ b ∷ drop (suc n) x
drop_at [] n b e = absurd cc
drop_at (y ∷ ys) zero b e = let same : y ≡ b = cc in rw same refl
drop_at (y ∷ ys) (suc n) b e = drop_at ys n b e

-- a step that takes the next byte of the input
pub exact_fed : {x : List ℕ} {old new : Player} {b : ℕ} {wrote : List ℕ} → Laws → IsPlayed x old
    → length old.unreleased.items < 256 → slice_get x old.read ≡ Some b
    → PlaysStep old new (b ∷ []) wrote → IsPlayed x new
exact_fed {x} {old} {new} {b} {wrote} laws h room e m =
    let whole : take old.read x ++ (b ∷ drop (suc old.read) x) ≡ x = rw (← drop_at x old.read b e) (take-append-drop old.read x) in
    exact_more laws h room m (drop (suc old.read) x) (rw append_assoc whole)

-- ---- why no step is made

-- the machine waits, and all of the input is read
pub halts_waiting : {x : List ℕ} {q : Player} {p : Parts} → Laws → IsPlayed x q → q.machine.program ≡ p
    → WaitsOn p q.machine.state → slice_get x q.read ≡ None
    → transition q.machine.program x (after_steps q.machine.program x q.steps) ≡ Waiting
halts_waiting {x} {q} {p} laws h same w e =
    let low = get_none x q.read e in
    let all : q.read ≡ length x = omega (arith, h.read) in
    grind (arith, all, take_all q.read x low)

-- the program has ended
pub halts_ended : {x : List ℕ} {q : Player} {p : Parts} {e : End} → Laws → IsPlayed x q → q.machine.program ≡ p → IsLast p q.machine.state e
    → transition q.machine.program x (after_steps q.machine.program x q.steps) ≡ Stops e
halts_ended h1 h2 h3 h4 = grind (arith, nat_tests)

-- ---- steps that read and write nothing

-- the law that quiet steps lead on
abbrev QuietLaw : Type 0
QuietLaw = (p : Parts) (x : List ℕ) (n m r : ℕ) (o : List ℕ) (s t : State) → LeadsIn p x n (configuration_of s r o)
    → AreQuiet p m s t → LeadsIn p x (n + m) (configuration_of t r o)

-- the steps before the one that wrote a byte
abbrev pub advanced : Player → ℕ → State → Player
advanced old k u = record old { machine = record old.machine { state = u }; steps = old.steps + k }

pub to_advanced : {x : List ℕ} {old : Player} (k : ℕ) (u : State) → QuietLaw → IsPlayed x old
    → AreQuiet old.machine.program k old.machine.state u
    → Advances x k old (advanced old k u)
to_advanced k u h1 h2 h3 = grind (arith, nat_tests)

-- ---- other calls

-- before the first step
pub exact_start : (x : List ℕ) (q : Player) → q.machine.state ≡ start q.machine.program → q.steps ≡ 0 → q.read ≡ 0
    → q.released ≡ 0 → q.unreleased ≡ buffer [] 256 → IsPlayed x q
unfolding LeadsIn
exact_start x q state steps read released waits = grind (arith, nat_tests)

-- the first byte that waits is released
pub exact_released : {x : List ℕ} {q : Player} {b : ℕ} → IsPlayed x q → slice_get q.unreleased.items 0 ≡ Some b
    → IsPlayed x (record q { unreleased = buffer (drop 1 q.unreleased.items) q.unreleased.capacity; released = q.released + 1 })
exact_released {x} {q} {b} h e =
    grind (arith, drop-drop 1 q.released h.output, length-drop q.released h.output)

-- ---- the output

-- what the machine wrote is the output after its steps
output_is : {x : List ℕ} {q : Player} → There → (h : IsPlayed x q) → out q.machine.program x q.steps ≡ h.output
unfolding out
output_is there h = grind (arith, nat_tests)

-- what the ring holds is what was not released of the output
pub waits_unreleased : {x : List ℕ} {q : Player} → There → IsPlayed x q → unreleased_of x (progress_of q) ≡ q.unreleased.items
waits_unreleased {x} {q} there h = ap (drop q.released) (output_is there h) ∙ sym h.waits

-- the machine is where a replay from the start is
pub exact_replay : {x : List ℕ} {q : Player} → There → IsPlayed x q → IsReplay x (progress_of q)
exact_replay {x} {q} there h = grind (arith, output_is there h)

-- how many bytes wait
pub exact_count : {x : List ℕ} {q : Player} (n : ℕ) → There → n ≡ length q.unreleased.items → IsPlayed x q
    → (n ≡ length (unreleased_of x (progress_of q))) × (n ≤ 256)
exact_count n there e h = grind (arith, nat_tests, waits_unreleased)

-- the first byte that waits, with its number
pub exact_first : {x : List ℕ} {q : Player} (o : Option ℕ) → There → o ≡ slice_get q.unreleased.items 0 → IsPlayed x q
    → o ≡ slice_get (unreleased_of x (progress_of q)) 0
exact_first o there e h = grind (arith, nat_tests, waits_unreleased)
