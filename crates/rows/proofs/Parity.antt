-- The last bit of a sum and of a product: of two numbers' differing bits, and of those that both have. Assumes nothing.
use Prim.Native.Nat.{ℕ, zero, suc, ◌+◌, ◌*◌, ◌%◌, ◌<◌, min}
use mathlib.Core.Path.{◌≡◌, refl, sym, ap, ap₂, ◌∙◌}
use mathlib.Core.List.{List}
use native.Mathlib.Nat.{add-mod}
use native.Mathlib.Omega.{arith}
use lib.Bits.{bit_and, bit_xor, and_step, xor_add_and}
use Rattle.slices.specs.Slices.{◌!◌}
use Rattle.field.specs.Row.{products}
use Rattle.field.proofs.Remainders.{mod-mul, mul-mod}
use Rattle.field.proofs.Rows.{products_step}

xor_parity : (a b : ℕ) → bit_xor a b % 2 ≡ (a + b) % 2
xor_parity a b = let both = xor_add_and a b in omega (arith, both)

-- of two bits the smaller is the product
bits : (u v : ℕ) → u < 2 → v < 2 → min u v ≡ u * v % 2
bits zero v hu hv = omega arith
bits (suc zero) zero hu hv = omega arith
bits (suc zero) (suc zero) hu hv = refl
bits (suc zero) (suc (suc v)) hu hv = absurd (omega arith)
bits (suc (suc u)) v hu hv = absurd (omega arith)

and_parity : (a b : ℕ) → bit_and a b % 2 ≡ a * b % 2
and_parity a b =
    let step = and_step a b in
    let last : bit_and a b % 2 ≡ min (a % 2) (b % 2) = omega (arith, step) in
    last ∙ bits (a % 2) (b % 2) (omega arith) (omega arith) ∙ mod-mul a (b % 2) 2 ∙ mul-mod a b 2

-- one product more
pub parity_step : (a b : List ℕ) (i t x y : ℕ) → t % 2 ≡ products a b i % 2 → x ≡ a ! i → y ≡ b ! i → bit_xor t (bit_and x y) % 2 ≡ products a b (i + 1) % 2
parity_step a b i t x y et ex ey =
    xor_parity t (bit_and x y) ∙ add-mod t (bit_and x y) 2 ∙ ap₂ (λ (u v : ℕ). (u + v) % 2) et (and_parity x y) ∙ sym (add-mod (products a b i) (x * y) 2) ∙
    ap (λ (k : ℕ). k % 2) (products_step a b i (products a b i) x y refl ex ey)
