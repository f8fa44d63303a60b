-- The entries over slices: refusals in document 01's order, and what an output holds at exit.
use Rattle.std.specs.Prelude.{ℕ, List, eqb, length}
use Rattle.refusal.specs.Refusal.{unless, ◌or_else◌}
use Rattle.field.specs.Vector.{all_below}
use Rattle.system.specs.System.{q_of, n_of, m_of, system_refusal}

-- the system; then the lengths of x and of the output; then x's elements
unfoldable pub evaluate_refusal : List ℕ → List ℕ → ℕ → ℕ
evaluate_refusal b x out =
    system_refusal b or_else
    (unless (eqb (length x) (n_of b)) 2 or_else unless (eqb out (m_of b)) 2) or_else
    unless (all_below (q_of b) x) 3

-- the same with two arguments
unfoldable pub polar_refusal : List ℕ → List ℕ → List ℕ → ℕ → ℕ
polar_refusal b x y out =
    system_refusal b or_else
    (unless (eqb (length x) (n_of b)) 2 or_else unless (eqb (length y) (n_of b)) 2 or_else unless (eqb out (m_of b)) 2) or_else
    (unless (all_below (q_of b) x) 3 or_else unless (all_below (q_of b) y) 3)
