-- G from the coefficients, which is what the code computes. Its definition is F(x+y) - F(x) - F(y) (system, specs/System.antt); that the two agree is
-- `G-expanded` of proofs/Laws.antt.
use Rattle.std.specs.Prelude.{ℕ, List}
use Rattle.slices.specs.Slices.{◌!◌}
use Rattle.field.specs.Ops.{Ops}
use Rattle.field.specs.Vector.{vector}
use Rattle.system.specs.Polynomial.{pairs}
use Rattle.system.specs.System.{n_of, m_of, ops_of, quadratic}

-- a(i,j)·(x_i·y_j + y_i·x_j), so that a(i,i) counts twice
unfoldable pub crossed : Ops → (ℕ → ℕ → ℕ) → (ℕ → ℕ) → (ℕ → ℕ) → ℕ → ℕ → ℕ
crossed o a x y i j = o.mul (a i j) (o.add (o.mul (x i) (y j)) (o.mul (y i) (x j)))

-- "It is linear in each argument and has no b terms."
unfoldable pub polar : Ops → ℕ → (ℕ → ℕ → ℕ) → (ℕ → ℕ) → (ℕ → ℕ) → ℕ
polar o n a x y = pairs o n (crossed o a x y)

unfoldable pub expanded : List ℕ → List ℕ → List ℕ → List ℕ
expanded b x y = vector (m_of b) (λ l. polar (ops_of b) (n_of b) (quadratic b l) (λ i. x ! i) (λ i. y ! i))
