-- Bytes that are typed at a node.
use Rattle.std.specs.Prelude.{◌≡◌, ◌≢◌, ◌↔◌, ◌⊎◌, ◌+◌, ◌<◌, ℕ, true, false, List, [], ◌∷◌, ◌++◌, length, Result, IfErr, IsErrOf, OnErr, OnOk}
use Rattle.paxos_msg.specs.declared.limits.TheConstants.{LAST_SERIAL}
use Rattle.group_protocol.specs.declared.limits.TheConstants.{MOST_WAITING}
use Rattle.group_protocol.specs.declared.fault.NodeFault.{NodeFault}
use Rattle.group_protocol.specs.declared.fault.NodeFault.TheVariants.{SerialSpent, Stopped}
use Rattle.group_protocol.specs.Known.{Known, next_serial, on_typed}
use Rattle.group_node.specs.States.{NodeState}

-- A node after these bytes were typed at it: their keys wait, after those that waited.
abbrev pub after_pressed : Known → List ℕ → Known
after_pressed n bytes = record n { waiting = n.waiting ++ bytes }

-- Room for one more key: fewer than 256 wait, and there is a serial for it.
abbrev pub HasKeyRoom : Known → Type 0
HasKeyRoom n = (length n.waiting ≢ MOST_WAITING) × (next_serial n ≢ LAST_SERIAL + 1)

-- Bytes that are typed one after the other, each where there is room for its key.
abbrev pub AreTyped : Known → List ℕ → Type 0
AreTyped n [] = Unit {0}
AreTyped n (byte ∷ bytes) =
    (byte < 256) × HasKeyRoom n × AreTyped (on_typed n byte).node bytes

-- The refusals of typing: the node has stopped, or no serial is left.
abbrev pub IsPressFault : NodeFault → Type 0
IsPressFault e = (e ≡ Stopped) ⊎ (e ≡ SerialSpent)

-- The node after typing, and the bytes `after` that are left of `before`.
-- The bytes before them are typed, each once and in order. At `Ok` none is left, or 256 keys wait.
-- `Stopped` comes exactly if a save had failed and there was a byte, and then nothing is typed.
-- `SerialSpent` comes exactly if no save had failed, bytes are left, fewer than 256 keys wait, and
-- no serial is left for the next key.
pub record HasPressed {S : Type 0} (old new : NodeState S) (before after : List ℕ)
    (result : Result (Unit {0}) NodeFault) : Type 0 where
  pub typed : List ℕ
  pub bytes : before ≡ typed ++ after
  pub known : new.protocol.known ≡ after_pressed old.protocol.known typed
  pub room : AreTyped old.protocol.known typed
  pub full : OnOk result ((after ≡ []) ⊎ (length new.protocol.known.waiting ≡ MOST_WAITING))
  pub err : OnErr result (after ≢ [])
  pub others : IfErr result IsPressFault
  pub stopped : IsErrOf result Stopped ↔ ((old.protocol.is_stopped ≡ true) × (before ≢ []))
  pub untyped : IsErrOf result Stopped → after ≡ before
  pub spent : IsErrOf result SerialSpent ↔ ((old.protocol.is_stopped ≡ false)
      × (after ≢ [])
      × (length new.protocol.known.waiting < MOST_WAITING)
      × (next_serial new.protocol.known ≡ LAST_SERIAL + 1))
  pub store : new.protocol.store ≡ old.protocol.store
  pub same_stop : new.protocol.is_stopped ≡ old.protocol.is_stopped
  pub progress : new.progress ≡ old.progress
