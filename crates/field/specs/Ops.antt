-- Document 01, "Field and vectors": the operations that belong to a q. Every definition and contract above names operations through `ops`, so that a
-- field that is not a prime one is defined here; its laws are supplied in proofs/Fields.antt, and the code of `field` and `rows` computes them.
use Rattle.std.specs.Prelude.{ℕ, ◌+◌, ◌-◌, ◌*◌, ◌%◌, Bool, cond, ◌||◌, eqb}

-- operations on numbers; the elements are the numbers below `size`
pub record Ops : Type 0 where
  pub size : ℕ
  pub add : ℕ → ℕ → ℕ
  pub sub : ℕ → ℕ → ℕ
  pub mul : ℕ → ℕ → ℕ

-- "q is 2, 7, 31 or 251"
unfoldable pub is_field : ℕ → Bool
is_field q = eqb q 2 || (eqb q 7 || (eqb q 31 || eqb q 251))

-- "Sums, differences and products are remainders from 0 to q-1; 0-1 is q-1."
unfoldable pub remainders : ℕ → Ops
remainders p = record {
  size = p;
  add = λ a b. (a + b) % p;
  sub = λ a b. (a + (p - b % p)) % p;
  mul = λ a b. a * b % p;
}

-- what is divided by: q itself, and 1 for a number that is no field's
unfoldable pub modulus : ℕ → ℕ
modulus q = cond (is_field q) q 1

-- the operations for q. Every entry refuses a q that is no field's; the definitions then have the one element 0
unfoldable pub ops : ℕ → Ops
unfolding remainders modulus
ops q = remainders (modulus q)
