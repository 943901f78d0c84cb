use Rattle.std.proofs.Common.{◌≡◌, ◌⊎◌, ℕ, List, false, ◌++◌, length}
use Rattle.group_wire.specs.Presses.{AreTyped, after_pressed}
use Rattle.group_wire.proofs.host.Host.press_all.Given as goal

-- some bytes were typed, and nothing else has changed
abbrev pub invariant-loop-byte : goal.invariant-loop-byte
invariant-loop-byte g l = record {
  typed : (typed : List ℕ) × (l.initial.bytes.now ≡ typed ++ l.bytes.now)
      × (l.self.protocol.known ≡ after_pressed l.initial.self.protocol.known typed)
      × AreTyped l.initial.self.protocol.known typed;
  works : (l.bytes.now ≡ l.initial.bytes.now) ⊎ (l.initial.self.protocol.is_stopped ≡ false);
  store : l.self.protocol.store ≡ l.initial.self.protocol.store;
  stopped : l.self.protocol.is_stopped ≡ l.initial.self.protocol.is_stopped;
  progress : l.self.progress ≡ l.initial.self.progress;
}

abbrev pub decreases-loop-byte : goal.decreases-loop-byte
decreases-loop-byte g l = length l.bytes.now
