-- A program waits on no input in one configuration.
use Rattle.std.proofs.Common.{◌≡◌, ◌∙◌, ℕ, zero, suc, ◌+◌, List, [], length, None, refl, sym, ap, append-nil, arith}
use Rattle.pcode_file.specs.Parts.{Parts}
use Rattle.pcode_machine.specs.Configuration.{State, Configuration}
use Rattle.pcode_machine.specs.Transition.{Waiting, transition}
use Rattle.pcode_machine.specs.Runs.{LeadsIn, after_steps}
use Rattle.machine_state.specs.Halt.{HaltsIn}
use Rattle.pcode_frozen.specs.declared.pairs.Pair.{Pair}
use Rattle.pcode_frozen.specs.Goes.{IsFrozenAfter}
use Rattle.machine_frozen.specs.Goes.{GoesOnAs}

-- from a wait on there is no step
stays : (p : Parts) (x : List ℕ) (n k : ℕ) → transition p x (after_steps p x n) ≡ Waiting
    → after_steps p x (k + n) ≡ after_steps p x n
unfolding after_steps
stays p x n zero waits = let none : 0 + n ≡ n = omega arith in rw none refl
stays p x n (suc k) waits =
    let before = stays p x n k waits in
    let next : suc k + n ≡ suc (k + n) = omega arith in
    rw (next, before, waits) refl

module _ (reached : (p : Parts) (x : List ℕ) (n : ℕ) (c : Configuration) → LeadsIn p x n c → after_steps p x n ≡ c) where
  -- two configurations in which a program waits are one
  one_wait : (p : Parts) (x : List ℕ) (steps : ℕ) (c d : Configuration) → HaltsIn p x steps None c → HaltsIn p x steps None d → d ≡ c
  one_wait p x steps c d a b =
      let at_c = reached p x a.n c a.made in
      let at_d = reached p x b.n d b.made in
      let over_c : transition p x (after_steps p x a.n) ≡ Waiting = rw at_c a.over in
      let over_d : transition p x (after_steps p x b.n) ≡ Waiting = rw at_d b.over in
      let turned : a.n + b.n ≡ b.n + a.n = omega arith in
      sym at_d ∙ sym (stays p x b.n a.n over_d) ∙ ap (after_steps p x) turned ∙ stays p x a.n b.n over_c ∙ at_c

  pub frozen_after : (p q : Parts) (pairs : List Pair) (steps n : ℕ) (x : List ℕ) (s : State) (c d : Configuration)
      → GoesOnAs p q pairs [] steps s d → LeadsIn p x n c → c.state ≡ s → c.read ≡ length x → IsFrozenAfter p q pairs x c d
  frozen_after p q pairs steps n x s c d g leads is all =
      let one = one_wait q [] steps g.wakes.woken d g.wakes.waits g.waits in
      let unread : d.read ≡ 0 = ap (λ e. e.read) one ∙ g.wakes.unread in
      let silent : d.output ≡ [] = ap (λ e. e.output) one ∙ g.wakes.silent in
      record {
        closed = g.closed;
        steps = n;
        thaw = g.waits.n;
        reaches = leads;
        thaws = g.waits.made;
        twins = record {
          states = rw is g.twins;
          read = omega (arith, all, unread);
          output = rw silent (sym (append-nil c.output));
        };
      }
