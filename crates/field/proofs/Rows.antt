-- What the loops over rows hold: the largest byte, sums of products, a row that is being filled. Assumes nothing.
use Prim.Native.Nat.{ℕ, zero, suc, ◌+◌, ◌-◌, ◌*◌, ◌%◌, ◌≤◌, ◌<◌, max}
use mathlib.Core.Path.{◌≡◌, refl, sym, ap, ap₂, fun_ext, ◌∙◌}
use mathlib.Core.Bool.{Bool, true, false, ◌&&◌, and-true}
use mathlib.Core.List.{List, [], ◌∷◌, ◌++◌}
use native.Mathlib.Nat.{add-zero, add-suc, add_assoc, zero-mul, zero-mod, mod-mod, add-mod, not-suc-le-zero, max-zero}
use native.Mathlib.Numerals.{add-one}
use native.Mathlib.Omega.{arith}
use lib.Dec.{ltb}
use lib.ListN.{length, take, drop}
use lib.Seq.{take-suc, take_all}
use borrow.Author.Tests.{ltb-true, ltb-false, lt-ltb, le-ltb}
use Rattle.std.specs.List.{fold}
use Rattle.field.specs.Ops.{modulus, ops}
use Rattle.slices.proofs.Parts.{part_at, length_part}
use Rattle.slices.specs.Slices.{◌!◌, tabulate}
use Rattle.field.specs.Vector.{all_below, sum}
use Rattle.field.specs.Row.{largest, products}

-- ---- the largest element

max_assoc : (a b c : ℕ) → max a (max b c) ≡ max (max a b) c
max_assoc a b c = omega arith

largest-append : (s : List ℕ) (x : ℕ) → largest (s ++ x ∷ []) ≡ max (largest s) x
unfolding largest
largest-append [] x = omega arith
largest-append (y ∷ s) x = ap (λ (k : ℕ). max y k) (largest-append s x) ∙ max_assoc y (largest s) x

pub largest_step : (s : List ℕ) (i m x r : ℕ) → m ≡ largest (take i s) → i < length s → x ≡ s ! i → r ≡ max m x → r ≡ largest (take (i + 1) s)
largest_step s i m x r em h ex er =
    er ∙ ap₂ max em ex ∙ sym (largest-append (take i s) (s ! i)) ∙ ap largest (sym (ap (λ (k : ℕ). take k s) (add-one i) ∙ take-suc s i 0 h))

pub largest_end : (s : List ℕ) (i m : ℕ) → m ≡ largest (take i s) → length s ≤ i → m ≡ largest s
largest_end s i m e h = e ∙ ap largest (take_all i s h)

-- what a fold of the larger of two gives
pub fold-largest : (m : ℕ) (s : List ℕ) → fold (λ a x. max a x) m s ≡ max m (largest s)
unfolding largest
fold-largest m [] = omega arith
fold-largest m (x ∷ s) = fold-largest (max m x) s ∙ sym (max_assoc m x (largest s))

below_max : (q x y : ℕ) → (ltb x q && ltb y q) ≡ ltb (max x y) q
below_max q x y = go (ltb x q) (ltb y q) refl refl
  where
    go : (a b : Bool) → ltb x q ≡ a → ltb y q ≡ b → (a && b) ≡ ltb (max x y) q
    go true true e f = sym (lt-ltb (max x y) q (omega (arith, ltb-true x q e, ltb-true y q f)))
    go true false e f = sym (le-ltb (max x y) q (omega (arith, ltb-false y q f)))
    go false b e f = sym (le-ltb (max x y) q (omega (arith, ltb-false x q e)))

pub below_none : (q : ℕ) (s : List ℕ) → length s ≡ 0 → true ≡ all_below q s
unfolding all_below
below_none q [] h = refl
below_none q (x ∷ s) h = absurd (omega arith)

-- in a list that is not empty, all are below q where the largest is
pub below_largest : (q : ℕ) (s : List ℕ) → 0 < length s → ltb (largest s) q ≡ all_below q s
unfolding largest all_below
below_largest q [] h = absurd (not-suc-le-zero h)
below_largest q (x ∷ []) h = ap (λ (k : ℕ). ltb k q) (max-zero x) ∙ sym (and-true (ltb x q))
below_largest q (x ∷ y ∷ s) h = sym (below_max q x (largest (y ∷ s))) ∙ ap (λ (t : Bool). ltb x q && t) (below_largest q (y ∷ s) (omega arith))

-- ---- sums of products

pub products_start : (a b : List ℕ) → 0 ≡ products a b 0
unfolding products
products_start a b = refl

-- one product more, of the bytes x and y
pub products_step : (a b : List ℕ) (i t x y : ℕ) → t ≡ products a b i → x ≡ a ! i → y ≡ b ! i → t + x * y ≡ products a b (i + 1)
unfolding products
products_step a b i t x y et ex ey = rw (add-one, et, ex, ey)

products_part : (a b : List ℕ) (s e k : ℕ) → k ≤ e - s →
    products a b s + products (take (e - s) (drop s a)) (take (e - s) (drop s b)) k ≡ products a b (s + k)
unfolding products
products_part a b s e zero h = add-zero (products a b s) ∙ ap (products a b) (sym (add-zero s))
products_part a b s e (suc k) h =
    sym (add_assoc (products a b s) _ _) ∙
    ap₂ (λ (t u : ℕ). t + u) (products_part a b s e k (omega arith)) (ap₂ (λ (t u : ℕ). t * u) (part_at a s e k (omega arith)) (part_at b s e k (omega arith))) ∙
    ap (products a b) (sym (add-suc s k))

-- a block's sum is what it adds to the whole
pub products_block : (a b : List ℕ) (s e t r : ℕ) → t ≡ products a b s → s ≤ e → e ≤ length a →
    r ≡ products (take (e - s) (drop s a)) (take (e - s) (drop s b)) (length (take (e - s) (drop s a))) → t + r ≡ products a b e
products_block a b s e t r et h k er =
    let end : s + (e - s) ≡ e = omega arith in
    ap₂ (λ (u v : ℕ). u + v) et (er ∙ ap (products _ _) (length_part a s e h k)) ∙ products_part a b s e (e - s) (omega arith) ∙ ap (products a b) end

-- the remainder of the whole is the sum of the field's products
pub products-sum : (q : ℕ) (a b : List ℕ) (k : ℕ) → products a b k % modulus q ≡ sum (ops q) k (λ i. (ops q).mul (a ! i) (b ! i))
unfolding products sum ops
products-sum q a b zero = zero-mod (modulus q)
products-sum q a b (suc k) = add-mod (products a b k) (a ! k * b ! k) (modulus q) ∙ ap (λ (t : ℕ). (t + a ! k * b ! k % modulus q) % modulus q) (products-sum q a b k)

-- ---- a combination of two rows whose second factor is 0

no_second : (s l p : ℕ) → s % p ≡ (s % p + 0 * l % p) % p
no_second s l p =
    sym (ap (λ (k : ℕ). (s % p + k) % p) (ap (λ (k : ℕ). k % p) (zero-mul l) ∙ zero-mod p) ∙ ap (λ (k : ℕ). k % p) (add-zero (s % p)) ∙ mod-mod s p)

pub scaled : (q a b : ℕ) (x y : List ℕ) (n : ℕ) → b ≡ 0 →
    tabulate n (λ i. (ops q).mul a (x ! i)) ≡ tabulate n (λ i. (ops q).add ((ops q).mul a (x ! i)) ((ops q).mul b (y ! i)))
unfolding ops
scaled q a b x y n e = rw e (ap (tabulate n) (fun_ext (λ i. no_second (a * x ! i) (y ! i) (modulus q))))
