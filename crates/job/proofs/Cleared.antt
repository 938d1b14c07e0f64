-- The part of the work memory that a call uses, and that part cleared. Assumes nothing.
use mathlib.Core.Path.{◌≡◌, sym, ap, ◌∙◌}
use Prim.Native.Nat.{ℕ, ◌≤◌}
use mathlib.Core.List.{List, ◌++◌}
use lib.ListN.{length, take, drop}
use lib.Seq.{length-take-le}
use Rattle.job.specs.File.{zeros}

-- the first bytes of the work memory, up to where the code ends them
module _ {end most : ℕ} (work : List ℕ) (is : end ≡ most) (room : most ≤ length work) where
  pub front_length : end ≡ length (take end work)
  front_length = is ∙ sym (length-take-le most work room) ∙ ap (λ (n : ℕ). length (take n work)) (sym is)

  pub cleared : (part : List ℕ) → part ≡ zeros (length (take end work)) → part ++ drop end work ≡ zeros most ++ drop most work
  cleared part e = ap (λ (l : List ℕ). l ++ drop end work) (e ∙ ap zeros (sym front_length)) ∙ ap (λ (n : ℕ). zeros n ++ drop n work) is
