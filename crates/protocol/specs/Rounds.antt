-- Document 01's rounds at a system's bytes: the operations over which the definitions of `Protocols.antt` are the lists that the code computes, as
-- `masked (map_of b) t0 r1 e0` for G(t0,r1) + e0.
use Rattle.std.specs.Prelude.{ℕ, ◌<◌, List}
use Rattle.field.specs.Vector.{IsVector, add_v, sub_v, mul_v}
use Rattle.system.specs.System.{n_of, m_of, ops_of, F, G}
use Rattle.protocol.specs.Structure.{QuadraticOps}

-- vectors of n and of m elements, scalars and the map of the system b
unfoldable pub map_of : List ℕ → QuadraticOps (List ℕ) (List ℕ) ℕ
map_of b =
    let o = ops_of b in
    record {
      add_x = add_v o (n_of b);
      sub_x = sub_v o (n_of b);
      mul_x = mul_v o (n_of b);
      add_y = add_v o (m_of b);
      sub_y = sub_v o (m_of b);
      mul_y = mul_v o (m_of b);
      F = F b;
      G = G b;
    }

-- x is a vector of n elements, y one of m, α an element
abbrev pub IsX : List ℕ → List ℕ → Type 0
IsX b x = IsVector (ops_of b) (n_of b) x

abbrev pub IsY : List ℕ → List ℕ → Type 0
IsY b y = IsVector (ops_of b) (m_of b) y

abbrev pub IsScalar : List ℕ → ℕ → Type 0
IsScalar b α = α < (ops_of b).size
