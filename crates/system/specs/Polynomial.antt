-- Document 01, "System, F and G": one polynomial, its coefficients and its argument read as functions of the index, counted from 0.
use Rattle.std.specs.Prelude.{ℕ, ◌+◌, ◌-◌, cond, eqb}
use Rattle.field.specs.Ops.{Ops}
use Rattle.field.specs.Vector.{sum}

-- the sum of f i j over i ≤ j below n
unfoldable pub pairs : Ops → ℕ → (ℕ → ℕ → ℕ) → ℕ
pairs o n f = sum o n (λ i. sum o (n - i) (λ d. f i (i + d)))

-- "f_l(x) is the sum of a(l,i,j)·x_i·x_j plus the sum of b(l,i)·x_i."
unfoldable pub polynomial : Ops → ℕ → (ℕ → ℕ → ℕ) → (ℕ → ℕ) → (ℕ → ℕ) → ℕ
polynomial o n a b x = o.add (pairs o n (λ i j. o.mul (a i j) (o.mul (x i) (x j)))) (sum o n (λ i. o.mul (b i) (x i)))

-- ---- source document 000's form, from which ours is folded

-- 000, section 2: "f_l(x) = Σ_{i,j} a_{l,i,j} x_i x_j + Σ_i b_{l,i} x_i", over all i and j
unfoldable pub full_polynomial : Ops → ℕ → (ℕ → ℕ → ℕ) → (ℕ → ℕ) → (ℕ → ℕ) → ℕ
full_polynomial o n a b x =
    o.add (sum o n (λ i. sum o n (λ j. o.mul (a i j) (o.mul (x i) (x j))))) (sum o n (λ i. o.mul (b i) (x i)))

-- "000 sums over all i, j; we fold a(l,i,j) + a(l,j,i) into i < j": the coefficient of i ≤ j
unfoldable pub folded : Ops → (ℕ → ℕ → ℕ) → ℕ → ℕ → ℕ
folded o a i j = cond (eqb i j) (a i j) (o.add (a i j) (a j i))
