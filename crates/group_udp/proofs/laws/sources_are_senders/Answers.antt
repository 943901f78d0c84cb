use Rattle.std.proofs.Common.{◌∙◌, ℕ, List, Some, slice_get, ap}
use Rattle.group_udp.specs.Sources.{sender_index}
use Rattle.group_udp.proofs.Senders.{from_named}
use Rattle.group_udp.proofs.laws.sources_are_senders.Goals as goal

pub returns : goal.returns
returns c g m bytes at source i h sender =
    from_named at source bytes _ (ap (λ (bs : List ℕ). slice_get bs sender_index) h.spelled ∙ ap Some sender)
