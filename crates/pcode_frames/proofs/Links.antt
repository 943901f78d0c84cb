-- Static links, followed one by one.
use Rattle.std.proofs.Common.{◌≡◌, ℕ, zero, suc, ◌+◌, ◌-◌, ◌<◌, List, length, Some, None, arith}
use Rattle.std.proofs.lemmas.Bool.Decides.{nat_tests}
use Rattle.pcode_frames.specs.declared.frame.Frame.{Frame}
use Rattle.pcode_frames.specs.Frames.{link_at, up_from, link_up_of}

-- Where one link is followed, one fewer is left.
pub up_more : (frames : List Frame) (n done i link : ℕ) → done < n → link_at frames i ≡ Some link
    → up_from frames (n - done) i ≡ up_from frames (n - (done + 1)) link
up_more frames n done i link h e = grind arith

-- Where a link is left and there is none, there is no result.
pub up_ends : (frames : List Frame) (n done i : ℕ) → done < n → link_at frames i ≡ None → up_from frames (n - done) i ≡ None
up_ends frames n done i h e = grind arith

-- The links are followed from the last frame.
pub up_from_last : (frames : List Frame) (n i : ℕ) → i + 1 ≡ length frames → up_from frames n i ≡ link_up_of frames n
up_from_last frames n i e = grind (arith, nat_tests)

-- One link more is that of the frame to which the others lead.
one_link_more : (frames : List Frame) (n i j : ℕ) → up_from frames n j ≡ Some i → up_from frames (suc n) j ≡ link_at frames i
one_link_more frames zero i j e = grind arith
one_link_more frames (suc n) i j e = grind (arith, one_link_more frames n)

-- The same, from the current frame.
pub one_more_up : (frames : List Frame) (n i : ℕ) → link_up_of frames n ≡ Some i → link_up_of frames (suc n) ≡ link_at frames i
one_more_up frames n i e = grind (arith, one_link_more)
