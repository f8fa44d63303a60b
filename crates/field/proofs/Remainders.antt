-- Remainders by a number above 0 are a ring, and by a prime a field. Assumes nothing.
use Prim.Native.Nat.{ℕ, zero, suc, ◌+◌, ◌-◌, ◌*◌, ◌/◌, ◌%◌, ◌≤◌, ◌<◌, ◌∣◌}
use mathlib.Core.Path.{◌≡◌, refl, sym, ap, ap₂, ◌∙◌}
use mathlib.Core.Logic.{⊎_elim}
use native.Mathlib.Nat.{add_assoc, add_comm, zero-add, add-mul, mul-add, mul_assoc, mul_comm, one-mul, mod-lt, mod_self, mod-mod, add-mod, mod-eq_of_lt, mod-add-mod, add-mod-mod, mul-add-mod_self_left, div-add-mod, dvd_of_mod-eq-zero, pos_of_ne-zero}
use native.Mathlib.Omega.{arith}
use Rattle.field.specs.Ops.{Ops, remainders}
use Rattle.field.specs.Field.{Ring, Inverse, Field}
use Rattle.field.specs.Prime.{Prime}
use Rattle.field.proofs.Sums as S

-- ---- products of remainders

pub mod-mul : (a b p : ℕ) → a % p * b % p ≡ a * b % p
mod-mul a b p = sym (ap (λ (k : ℕ). k % p) split ∙ mul-add-mod_self_left p (a / p * b) (a % p * b))
  where
    split : a * b ≡ p * (a / p * b) + a % p * b
    split = ap (λ (k : ℕ). k * b) (sym (div-add-mod a p)) ∙ add-mul _ _ b ∙ ap (λ (k : ℕ). k + a % p * b) (mul_assoc p (a / p) b)

pub mul-mod : (a b p : ℕ) → a * (b % p) % p ≡ a * b % p
mul-mod a b p = ap (λ (k : ℕ). k % p) (mul_comm a (b % p)) ∙ mod-mul b a p ∙ ap (λ (k : ℕ). k % p) (mul_comm b a)

-- the remainder of a number from those of its two digits to the base b
pub mod_digits : (t b p : ℕ) → (t / b % p * (b % p) + t % b % p) % p ≡ t % p
mod_digits t b p =
    add-mod (t / b % p * (b % p)) (t % b % p) p ∙
    ap₂ (λ (u v : ℕ). (u + v) % p) (mod-mul (t / b) (b % p) p ∙ mul-mod (t / b) b p) (mod-mod (t % b) p) ∙
    sym (add-mod (t / b * b) (t % b) p) ∙ ap (λ (k : ℕ). k % p) (ap (λ (k : ℕ). k + t % b) (mul_comm (t / b) b) ∙ div-add-mod t b)

-- the same of a number of 32 bits, from its two halves; 65,536 itself has more than 16 bits
pub two_halves : (t p : ℕ) → (t / 65536 % p * ((65535 % p + 1) % p) + t % 65536 % p) % p ≡ t % p
two_halves t p =
    ap (λ (u : ℕ). (t / 65536 % p * u + t % 65536 % p) % p) (mod-add-mod 65535 p 1) ∙ mod_digits t 65536 p

-- ---- differences

-- a + (p - b % p) + b is a and a multiple of p
sub_adds_up : (a b p : ℕ) → 0 < p → a + (p - b % p) + b ≡ p * suc (b / p) + a
sub_adds_up a b p pos =
    let below : b % p < p = mod-lt b pos in
    let split : p * (b / p) + b % p ≡ b = div-add-mod b p in
    omega arith

-- ---- the ring

pub remainders_ring : (p : ℕ) → 0 < p → Ring (remainders p)
unfolding remainders
remainders_ring p pos = record {
  zero_below = pos;
  add_below = λ a b. mod-lt (a + b) pos;
  sub_below = λ a b. mod-lt (a + (p - b % p)) pos;
  mul_below = λ a b. mod-lt (a * b) pos;
  add_assoc = λ a b c. simp (mod-add-mod, add-mod-mod, add_assoc);
  add_comm = λ a b. ap (λ (k : ℕ). k % p) (add_comm a b);
  zero-add = λ a h. ap (λ (k : ℕ). k % p) (zero-add a) ∙ mod-eq_of_lt h;
  sub-add = λ a b h.
      mod-add-mod (a + (p - b % p)) p b ∙ ap (λ (k : ℕ). k % p) (sub_adds_up a b p pos) ∙ mul-add-mod_self_left p (suc (b / p)) a ∙ mod-eq_of_lt h;
  mul_assoc = λ a b c. mod-mul (a * b) c p ∙ ap (λ (k : ℕ). k % p) (mul_assoc a b c) ∙ sym (mul-mod a (b * c) p);
  mul_comm = λ a b. ap (λ (k : ℕ). k % p) (mul_comm a b);
  one-mul = λ a h. ap (λ (k : ℕ). k % p) (one-mul a) ∙ mod-eq_of_lt h;
  mul-add = λ a b c.
      mul-mod a (b + c) p ∙ ap (λ (k : ℕ). k % p) (mul-add a b c) ∙ sym (mod-add-mod (a * b) p (a * c % p) ∙ add-mod-mod (a * b) (a * c) p);
}

-- ---- inverses, by Euclid's algorithm

module _ (o : Ops) (k : Ring o) where
  open o use {size, add, sub, mul}

  -- a·x + a·(0 - x) = 0
  opposite : (a x : ℕ) → add (mul a x) (mul a (sub 0 x)) ≡ 0
  opposite a x = sym (k.mul-add a x (sub 0 x)) ∙ ap (mul a) (k.add_comm x (sub 0 x) ∙ k.sub-add 0 x k.zero_below) ∙ S.mul_nought o k a

  -- where a·d + r = 0 and r·c = 1, a·(d·c) + 1 = 0
  with_one : (a d r c : ℕ) → add (mul a d) r ≡ 0 → mul r c ≡ 1 → add (mul a (mul d c)) 1 ≡ 0
  with_one a d r c e one =
      ap₂ add (sym (k.mul_assoc a d c)) (sym one) ∙ sym (S.add-mul o k (mul a d) r c) ∙ ap (λ (t : ℕ). mul t c) e ∙ k.mul_comm 0 c ∙ S.mul_nought o k c

  -- so an inverse of r gives one of a
  inverse_step : (a d r : ℕ) → 1 < size → add (mul a d) r ≡ 0 → Inverse o r → Inverse o a
  inverse_step a d r one e i =
      let x = mul d i.value in
      record {
        value = sub 0 x;
        below = k.sub_below 0 x;
        product =
            sym (S.sub_of o k 0 (mul a x) (mul a (sub 0 x)) (k.mul_below a (sub 0 x)) (opposite a x)) ∙
            S.sub_of o k 0 (mul a x) 1 one (with_one a d r i.value e i.product);
      }

module _ (p : ℕ) (prime : Prime p) where
  ring : Ring (remainders p)
  ring = remainders_ring p (omega (arith, prime.above_one))

  -- a divisor below p is 1
  only_one : (a : ℕ) → a < p → a ∣ p → a ≡ 1
  only_one a lt d = ⊎_elim (λ one. omega arith) (λ same. omega arith) (prime.divisors a d)

  -- a·(p / a) + p % a is p
  opposite_remainder : (a : ℕ) → (remainders p).add ((remainders p).mul a (p / a)) (p % a) ≡ 0
  unfolding remainders
  opposite_remainder a = mod-add-mod (a * (p / a)) p (p % a) ∙ ap (λ (k : ℕ). k % p) (div-add-mod p a) ∙ mod_self p

  inverse_of_one : (a : ℕ) → a ≡ 1 → Inverse (remainders p) a
  unfolding remainders
  inverse_of_one a e = record { value = 1; below = prime.above_one; product = ap (λ (k : ℕ). k * 1 % p) e ∙ ring.one-mul 1 prime.above_one }

  descend : (fuel a : ℕ) → a ≤ fuel → 0 < a → a < p → Inverse (remainders p) a
  unfolding remainders
  descend zero a h pos lt = absurd (omega arith)
  descend (suc fuel) a h pos lt = go (p % a) refl (descend fuel)
    where
      go : (r : ℕ) → p % a ≡ r → ((b : ℕ) → b ≤ fuel → 0 < b → b < p → Inverse (remainders p) b) → Inverse (remainders p) a
      go zero e rec = inverse_of_one a (only_one a lt (dvd_of_mod-eq-zero a e))
      go (suc r) e rec =
          let below : p % a < a = mod-lt p pos in
          inverse_step (remainders p) ring a (p / a) (p % a) prime.above_one (opposite_remainder a) (rec (p % a) (omega arith) (omega arith) (omega arith))

-- the field of a prime
pub prime_field : (p : ℕ) → Prime p → Field (remainders p)
unfolding remainders
prime_field p prime =
    record { ring = ring p prime; one_below = prime.above_one; inverse = λ a h some. descend p prime a a (omega arith) (pos_of_ne-zero some) h }
