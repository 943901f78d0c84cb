-- What a node may do at a message, by its kind.
use Rattle.paxos_msg.specs.Batches.{Body}
use Rattle.paxos_msg.specs.declared.message.Body.TheVariants.{Accept, Ask, Prepare}

-- An Ask. A node that has nothing else to do sends only these.
abbrev pub IsAsk : Body → Type 0
IsAsk (Ask from) = Unit {0}
IsAsk _ = ⊥

-- A message at which a node may save: a Prepare or an Accept.
abbrev pub IsSaving : Body → Type 0
IsSaving (Prepare ballot from) = Unit {0}
IsSaving (Accept ballot place value) = Unit {0}
IsSaving _ = ⊥
