-- The line on the entries kept: how long it is, and what it says when it is shown. Assumes nothing.
use Rattle.std.proofs.Common.{◌≡◌, ℕ, ◌+◌, ◌≤◌, ◌<◌, List, Bool, true, false, Option, length, take, drop, sym, ap, subst, ◌∙◌, arith, length-append, take_at}
use Rattle.std.specs.Bool.{OnTrue}
use Rattle.std.specs.Io.KnownBytes.{Appends}
use Rattle.basics.specs.Text.{text}
use Rattle.basics.proofs.Text.{decimal_length}
use Rattle.std.specs.Borrow.{MutBor}
use Rattle.std.proofs.Math.Seq.{take_all}
use Rattle.text.specs.Laid.{laid}
use Rattle.text.specs.declared.Page.{Page}
use Rattle.text.specs.Pages.{Opens, Wrote}
use Rattle.remains.specs.Line.{kept_line}
use Rattle.console.specs.Said.{Shown}

-- 18 bytes of words, and two numbers of at most five digits
pub line_length : (a b : ℕ) → a < 65536 → b < 65536 → length (kept_line a b) ≤ 28
unfolding text kept_line
line_length a b small_a small_b =
    simp length-append (omega (arith, decimal_length 4 a (omega arith), decimal_length 4 b (omega arith)))

-- what was written on a page that was begun stands there
pub written_front : {p q : Page} {memory : MutBor (List ℕ)} {bytes : List ℕ} → Opens memory p → Wrote p q bytes → take q.at q.memory.now ≡ bytes
unfolding laid
written_front {p} {q} {bytes = bytes} opens w =
    ap (take q.at) (w.lays ∙ ap (λ (n : ℕ). laid p.memory.now n bytes) opens.start)
    ∙ take_at bytes (drop (0 + length bytes) p.memory.now) q.at (sym (w.behind ∙ omega (arith, opens.start)))

-- what is shown of it, whole
pub told : (whole : Bool) (held holds : Option (List ℕ)) {shown bytes : List ℕ} → shown ≡ bytes → OnTrue whole (Shown held holds shown (length shown)) → OnTrue whole (Appends held holds bytes)
told true held holds {shown} e s =
    subst (Appends held holds) (take_all (length shown) shown (omega arith) ∙ e) s.1
told false held holds e s = tt
