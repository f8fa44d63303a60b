-- Document 01, "System, F and G": a system's bytes, what is refused of them, F and G. Indices are counted from 0.
use Rattle.std.specs.Prelude.{ℕ, zero, suc, ◌+◌, ◌-◌, ◌*◌, ◌/◌, ◌≤◌, ◌≡◌, Bool, true, ◌&&◌, List, ◌∷◌, leb, eqb, length, drop}
use Rattle.field.specs.Ops.{Ops, is_field, ops}
use Rattle.refusal.specs.Refusal.{unless, ◌or_else◌}
use Rattle.slices.specs.Slices.{◌!◌}
use Rattle.field.specs.Vector.{vector, add_v, sub_v, Elements, all_below}
use Rattle.system.specs.Polynomial.{polynomial}

-- "System bytes: q, n, m, one byte each"
abbrev pub q_of : List ℕ → ℕ
q_of b = b ! 0

abbrev pub n_of : List ℕ → ℕ
n_of b = b ! 1

abbrev pub m_of : List ℕ → ℕ
m_of b = b ! 2

abbrev pub ops_of : List ℕ → Ops
ops_of b = ops (q_of b)

-- "One polynomial has w = n(n+1)/2 + n bytes"
unfoldable pub width : ℕ → ℕ
width n = n * (n + 1) / 2 + n

-- "the length is 3 + m × w"
unfoldable pub system_length : ℕ → ℕ → ℕ
system_length n m = 3 + m * width n

-- ---- what is refused

-- "n and m run from 1 to 96"
unfoldable pub is_size : ℕ → Bool
is_size k = leb 1 k && leb k 96

-- q, n and m are among their values
unfoldable pub are_sizes : ℕ → ℕ → ℕ → Bool
are_sizes q n m = is_field q && (is_size n && is_size m)

-- "then the system (2 if under 3 bytes, then 1, 2, 3)"
unfoldable pub system_refusal : List ℕ → ℕ
system_refusal b =
    unless (leb 3 (length b)) 2 or_else
    unless (are_sizes (q_of b) (n_of b) (m_of b)) 1 or_else
    unless (eqb (length b) (system_length (n_of b) (m_of b))) 2 or_else
    unless (all_below (q_of b) (drop 3 b)) 3

-- the system has this q, n and m; 7: "q, n or m of the system differ from the session's or record's"
unfoldable pub has_sizes : List ℕ → ℕ → ℕ → ℕ → Bool
has_sizes b q n m = eqb (q_of b) q && (eqb (n_of b) n && eqb (m_of b) m)

-- "then the system (2 if under 3 bytes, then 1, 2, 3), then 7 against a session"
unfoldable pub system_against : List ℕ → ℕ → ℕ → ℕ → ℕ
system_against b q n m = system_refusal b or_else unless (has_sizes b q n m) 7

-- "A record or a system is well-formed when it is laid out as here, every field, element and challenge among its values."
pub record WellFormedSystem (b : List ℕ) : Type 0 where
  pub q : ℕ
  pub n : ℕ
  pub m : ℕ
  pub coefficients : List ℕ
  pub laid_out : b ≡ q ∷ n ∷ m ∷ coefficients
  pub q_is_field : is_field q ≡ true
  pub n_size : (1 ≤ n) × (n ≤ 96)
  pub m_size : (1 ≤ m) × (m ≤ 96)
  pub count : length coefficients ≡ m * width n
  pub elements : Elements q coefficients

-- ---- F and G

-- "the a(l,i,j) for 1 ≤ i ≤ j ≤ n, i slowest": where those of i start in their polynomial
unfoldable pub triangle : ℕ → ℕ → ℕ
triangle n zero = 0
triangle n (suc i) = triangle n i + (n - i)

-- a(l,i,j)
unfoldable pub quadratic : List ℕ → ℕ → ℕ → ℕ → ℕ
quadratic b l i j = b ! (3 + l * width (n_of b) + (triangle (n_of b) i + (j - i)))

-- "then b(l,1)..b(l,n)"
unfoldable pub linear : List ℕ → ℕ → ℕ → ℕ
linear b l i = b ! (3 + l * width (n_of b) + (n_of b * (n_of b + 1) / 2 + i))

-- F(x) = (f_1(x), .., f_m(x))
unfoldable pub F : List ℕ → List ℕ → List ℕ
F b x = vector (m_of b) (λ l. polynomial (ops_of b) (n_of b) (quadratic b l) (linear b l) (λ i. x ! i))

-- "G(x,y) = F(x+y) - F(x) - F(y)"
unfoldable pub G : List ℕ → List ℕ → List ℕ → List ℕ
G b x y =
    let o = ops_of b in
    sub_v o (m_of b) (sub_v o (m_of b) (F b (add_v o (n_of b) x y)) (F b x)) (F b y)
