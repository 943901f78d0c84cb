use Rattle.std.proofs.Common.{◌≡◌, ℕ, refl, List, [], ◌∷◌, Some, true, false, IsTrue, slice_get, sym, arith}
use Rattle.std.proofs.lemmas.Bool.Decides.{nat_tests}
use Rattle.paxos_msg.specs.Keys.{Key, keys_from}
use Rattle.paxos_learner.specs.Input.{front_values, has_key, keys_in_order}
use Rattle.group_protocol.specs.WaitingKeys.{count_read}
use Rattle.group_protocol.proofs.waiting_keys.Waiting.leave_read.Goals as goal

-- where the first isn't read, none is
stay : (read : List Key) (node start first byte : ℕ) (bytes : List ℕ) → slice_get bytes 0 ≡ Some byte
    → ¬ IsTrue (has_key read (record { node = node; start = start; serial = first; byte = byte }))
    → count_read read (keys_from node start first bytes) ≡ 0
stay read node start first byte [] is none = refl
stay read node start first byte (x ∷ bytes) is none = grind (arith, nat_tests)

pub returns-then-not-has_read : goal.returns-then-not-has_read
returns-then-not-has_read c =
    let now = c.loop-byte.self-inside in
    let read : List Key = keys_in_order (front_values c.args.learner.now.learned) in
    let first = sym (rw c.in-Some.is at c.front.ensures) in
    let stays = stay read c.args.node c.args.start now.first _ now.bytes.items first (λ found.
    let e : false ≡ true = rw c.if-not-has_read.true at c.has_read.ensures.1 ((c.key_tests_are_exact.ensures.has _ _).0 found) in
    absurd cc) in
    grind (arith, nat_tests, stays)
