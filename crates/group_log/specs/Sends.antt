-- What became of the datagrams that a node sent to the others.
use Rattle.std.specs.Prelude.{Bool, true, false}
use Rattle.group_log.specs.declared.sends.Sends.{Sends}
use Rattle.group_log.specs.Drops.{one_more}

-- The counts of sent datagrams after one more, which the system took or refused.
abbrev pub sends_with : Sends → Bool → Sends
sends_with s true = record s { taken = one_more s.taken }
sends_with s false = record s { refused = one_more s.refused }
