-- The ring and the field that belong to each q: the one place where a field's laws are supplied. Assumes nothing.
use Prim.Native.Nat.{ℕ}
use mathlib.Core.Path.{◌≡◌, refl}
use mathlib.Core.Bool.{Bool, true, false, false≢true}
use lib.Dec.{eqb}
use borrow.Author.Tests.{eqb-true}
use Rattle.field.specs.Ops.{is_field, modulus, ops}
use Rattle.field.specs.Field.{Ring, Field}
use Rattle.field.specs.Prime.{Prime}
use Rattle.field.proofs.Modulus.{modulus_field, modulus_pos}
use Rattle.field.proofs.Trial.{by_trial}
use Rattle.field.proofs.Remainders.{remainders_ring, prime_field}

-- "q is 2, 7, 31 or 251, all prime."
pub all_prime : (q : ℕ) → is_field q ≡ true → Prime q
unfolding is_field
all_prime q known = go (eqb q 2) (eqb q 7) (eqb q 31) (eqb q 251) refl refl refl refl
  where
    go : (a b c d : Bool) → eqb q 2 ≡ a → eqb q 7 ≡ b → eqb q 31 ≡ c → eqb q 251 ≡ d → Prime q
    go true b c d e f g h = rw (eqb-true q 2 e) (by_trial 2 tt tt)
    go false true c d e f g h = rw (eqb-true q 7 f) (by_trial 7 tt tt)
    go false false true d e f g h = rw (eqb-true q 31 g) (by_trial 31 tt tt)
    go false false false true e f g h = rw (eqb-true q 251 h) (by_trial 251 tt tt)
    go false false false false e f g h = absurd (false≢true (simp (e, f, g, h) at known))

-- for a number that is no field's this is the ring whose one element is 0
pub ring : (q : ℕ) → Ring (ops q)
unfolding ops
ring q = remainders_ring (modulus q) (modulus_pos q)

pub field : (q : ℕ) → is_field q ≡ true → Field (ops q)
unfolding ops
field q known = rw (modulus_field q known) (prime_field q (all_prime q known))
