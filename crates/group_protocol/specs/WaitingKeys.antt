-- The typed keys that wait, the batch that is submitted of them, and those that a message leaves.
use Rattle.std.specs.Prelude.{ℕ, suc, ◌+◌, List, [], ◌∷◌, drop, take, Option, Some, None, if◌then◌else◌}
use Rattle.paxos_msg.specs.declared.limits.TheConstants.{MOST_CHARACTERS}
use Rattle.paxos_msg.specs.declared.value.Value.{Value}
use Rattle.paxos_msg.specs.Keys.{Key, keys_from}
use Rattle.paxos_learner.specs.Input.{front_values, has_key, keys_in_order}
use Rattle.group_protocol.specs.Known.{Known, own_batch}

-- The keys that wait, in order of serial.
-- Forbids: a gap in the serials that wait.
abbrev pub waiting_keys : Known → List Key
waiting_keys n = keys_from n.me.node n.kept.starts n.first n.waiting

-- The first keys that wait, at most 32, as one batch, if any wait.
abbrev pub batch_of : Known → List ℕ → Option Value
batch_of n [] = None
batch_of n (byte ∷ bytes) = Some (own_batch n n.first (take MOST_CHARACTERS (byte ∷ bytes)))

-- The number of keys that are read, up to the first that is not.
abbrev pub count_read : List Key → List Key → ℕ
count_read read [] = 0
count_read read (k ∷ ks) = if has_key read k then suc (count_read read ks) else 0

-- The number of waiting keys that are below the front, up to the first that is not.
-- Allows: a later key that is below the front and still waits.
abbrev pub count_gone : Known → ℕ
count_gone n = count_read (keys_in_order (front_values n.learner.learned)) (waiting_keys n)

-- The node without these keys: the first that waits is not below the front.
-- Forbids: a first waiting key that is below the front.
abbrev pub without_read : Known → Known
without_read n =
    record n { waiting = drop (count_gone n) n.waiting; first = n.first + count_gone n }
