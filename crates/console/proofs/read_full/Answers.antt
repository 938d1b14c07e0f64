-- `console::read_full` meets its contract. The loop's invariant: the first `done` bytes are those that the reader gave. The measure is the
-- room that is left. Assumes nothing.
use Rattle.std.proofs.Common.{◌≡◌, ℕ, ◌+◌, ◌-◌, ◌≤◌, List, ◌++◌, rules, length, take, drop, sym, ap, ◌∙◌, subst, le_refl, drop_at, length-take-le}
use Rattle.std.proofs.lemmas.Slice.{take-put_mid_below}
use Rattle.std.specs.Io.KnownBytes.{Consumes}
use Rattle.std.proofs.KnownBytes.{Consumes-trans}
use borrow.Rule.Slice.PartMut.{put_mid, post_of}
use lib.Seq.{take-add, take-append-le}
use Rattle.console.proofs.read_full.Goals as goal

-- what stands in front behind one more read of n bytes: what stood there, and these
one_more : (a k n : ℕ) (l got : List ℕ) → a ≤ length l → n ≤ length got → take (a + n) (put_mid a k l got) ≡ take a l ++ take n got
one_more a k n l got within fits =
    take-add a n (put_mid a k l got)
    ∙ ap (λ front. front ++ take n (drop a (put_mid a k l got))) (take-put_mid_below a k l got a (le_refl a) within)
    ∙ ap (λ rest. take a l ++ take n rest) (drop_at (take a l) (got ++ post_of a k l) a (length-take-le a l within))
    ∙ ap (λ front. take a l ++ front) (take-append-le n got (post_of a k l) fits)

pub loop-done-preserved : goal.loop-done-preserved
loop-done-preserved g c =
    let within = c.loop-done.invariant.0 in
    let more = one_more c.loop-done.done (length c.loop-done.to - c.loop-done.done) c.in-Ok.n c.loop-done.to c.read.new.buf within c.in-Ok.ensures.bound.0 in
    (search rules, subst (Consumes _ _) (sym more) (Consumes-trans _ _ _ _ _ c.loop-done.invariant.1 c.in-Ok.ensures.bytes.0))
