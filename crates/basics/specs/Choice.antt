-- Choosing between two values, and the tests that choose. They stay shut, so that proofs go by their laws.
use Rattle.std.specs.Prelude.{ℕ, Bool, true, false, eqb, ltb}

-- the first value where the test holds, else the second
unfoldable pub pick {ℓ} : {A : Type ℓ} → Bool → A → A → A
pick true a b = a
pick false a b = b

-- are the two numbers equal?
unfoldable pub same : ℕ → ℕ → Bool
same m n = eqb m n

-- is the first number less than the second?
unfoldable pub less : ℕ → ℕ → Bool
less m n = ltb m n
