use Rattle.std.proofs.Common.{◌≡◌, ◌∙◌, ◌↔◌, IsTrue, Some, ap, sym, rules}
use Rattle.group_udp.proofs.Senders.{found, from_named}
use Rattle.group_udp.proofs.sources.is_from_sender.Goals as goal

pub returns-in-Some-address_at : goal.returns-in-Some-address_at
returns-in-Some-address_at c =
    let from = from_named c.args.addresses.now c.args.source c.args.datagram.now c.in-Some.sender.now
    (found c.args.datagram.now 4 c.in-Some.sender.now c.in-Some.ensures.lookup.3) in
    let there = sym c.address_at.ensures ∙ c.in-Some-address_at.is in
    let same : IsTrue c.eq.result ↔ (c.in-Some-address_at.address ≡ c.args.source) = search rules in
    (λ yes. from.1 (there ∙ ap Some (same.0 yes)), λ is. same.1 (let e = from.0 is in cc))
