use Rattle.std.proofs.Common.{rules, ◌≡◌, [], ◌∷◌, ◌++◌, sym}
use Rattle.std.specs.Slice.Iter.{chunks_rest}
use Rattle.digits.proofs.Hexes.{IsReadUpTo, read_pair, unread}
use Rattle.digits.proofs.hex.hex_bytes.Goals as goal

pub loop-pair-init : goal.loop-pair-init
loop-pair-init c = let all = unread c.args.text.now in search rules

pub loop-pair-preserved : goal.loop-pair-preserved
loop-pair-preserved c =
    let s = c.in-Some.ensures.steps in
    let read = c.loop-pair.invariant in
    let pushed : c.push.new.self.items ≡ c.loop-pair.bytes.items ++ c.in-Some-hex_byte.byte ∷ [] = search rules in
    let next : IsReadUpTo c.args.text.now (chunks_rest c.next.new.self) c.push.new.self.items =
    rw pushed (read_pair _ _ _ _ _ _ (read.3) (s.1.0) (sym c.in-Some-hex_byte.ensures)) in
    search rules
