use Rattle.std.proofs.Common.{◌≡◌, inr, rules}
use Rattle.node_udp.proofs.node.node_loaded.Goals as goal

pub returns : goal.returns
returns g c =
    let same : c.as_slice.result.now ≡ c.in_ok-text.text.items = search rules in
    let config = c.in_ok-config.ensures.ok in
    record {
      ends = inr (
        rw config at c.me.ensures.ranges,
        inr (_, c.in_ok-text.ensures.ok, rw (same, config) at c.run_opened.ensures.ends),
      );
    }
