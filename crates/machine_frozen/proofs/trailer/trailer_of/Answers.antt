use Rattle.std.proofs.Common.{◌≡◌, ◌∙◌, ℕ, List, ◌++◌, length, ap, append_assoc, arith}
use Rattle.machine_frozen.proofs.Footers.{same_end}
use Rattle.machine_frozen.proofs.trailer.trailer_of.Goals as goal

-- a list that is cut three times
cut_thrice : (bytes body footer before original front rows : List ℕ) → bytes ≡ body ++ footer → body ≡ before ++ original
    → before ≡ front ++ rows → bytes ≡ front ++ (rows ++ (original ++ footer))
cut_thrice bytes body footer before original front rows a b d =
    a ∙ ap (λ l. l ++ footer) (b ∙ ap (λ l. l ++ original) d) ∙ append_assoc (front ++ rows) original footer
    ∙ append_assoc front rows (original ++ footer)

pub returns-then-not-is_marked-clause-err : goal.returns-then-not-is_marked-clause-err
returns-then-not-is_marked-clause-err c = λ b f h.
    let last = c.in_ok-body.ensures.ok in
    let footer = c.in_ok-body.footer.now in
    let sizes : length f ≡ length footer = omega (arith, h.is.size, last.1) in
    let one = same_end c.args.bytes.now c.in_ok-body.body.now footer b f last.0 h.whole sizes in
    let marked = c.is_marked.ensures.1 (rw one at h.is.marked) in
    absurd cc

pub returns-clause-ok : goal.returns-clause-ok
returns-clause-ok c =
    let last = c.in_ok-body.ensures.ok in
    let middle = c.in_ok-before.ensures.ok in
    let first = c.in_ok-_front.ensures.ok in
    record {
      front = c.in_ok-_front._front.now;
      footer = c.in_ok-body.footer.now;
      whole = cut_thrice _ _ _ _ _ _ _ last.0 middle.0 first.0;
      ends = record {
        size = last.1;
        marked = c.is_marked.ensures.0 c.if-not-is_marked.false;
      };
      read_is = c.eight_bytes_at-read.ensures;
      wrote_is = c.eight_bytes_at-wrote.ensures;
      rows_are = omega (arith, first.1, c.four_bytes_at.ensures);
      original_is = omega (arith, middle.1, c.four_bytes_at-original_bytes.ensures);
    }
