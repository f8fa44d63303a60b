-- What the code multiplies a polynomial's coefficients with, in their stored order: x_i·y_j + z_i·x_j for i ≤ j, i slowest, then t_i. F takes x, x, 0, x
-- and G takes x, y, y, 0 for x, y, z, t, so that one loop serves both.
use Rattle.std.specs.Prelude.{ℕ, ◌+◌, ◌-◌, ◌*◌, ◌<◌, ◌≡◌, List}
use Rattle.slices.specs.Slices.{◌!◌}
use Rattle.field.specs.Ops.{Ops}
use Rattle.field.specs.Vector.{sum, vector}
use Rattle.system.specs.System.{n_of, m_of, ops_of, width, triangle}

-- x_i·y_j + z_i·x_j
abbrev pub monomial : Ops → List ℕ → List ℕ → List ℕ → ℕ → ℕ → ℕ
monomial o x y z i j = o.add (o.mul (x ! i) (y ! j)) (o.mul (z ! i) (x ! j))

pub record Monomials (o : Ops) (n : ℕ) (x y z t row : List ℕ) : Type 0 where
  pub quadratic_part : (i d : ℕ) → i < n → d < n - i → row ! (triangle n i + d) ≡ monomial o x y z i (i + d)
  pub linear_part : (i : ℕ) → i < n → row ! (triangle n n + i) ≡ t ! i

-- each polynomial's coefficients times a row
unfoldable pub times_row : List ℕ → List ℕ → List ℕ
times_row b row =
    let o = ops_of b in
    let w = width (n_of b) in
    vector (m_of b) (λ l. sum o w (λ k. o.mul (b ! (3 + l * w + k)) (row ! k)))
