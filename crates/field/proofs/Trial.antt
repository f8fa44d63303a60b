-- A number is shown prime by trial division, which antt computes. Assumes nothing.
use Prim.Native.Nat.{ℕ, zero, suc, ◌-◌, ◌%◌, ◌≤◌, ◌<◌, ◌∣◌}
use mathlib.Core.Path.{◌≡◌, subst}
use mathlib.Core.Bool.{Bool, true, false, not, ◌||◌, ◌&&◌}
use mathlib.Core.Logic.{inl, inr, ⊎_elim}
use native.Mathlib.Nat.{le_of_dvd, pos_of_dvd_of_pos, mod-eq-zero_of_dvd, eq-or-lt_of_le, le_of_suc-le-suc}
use native.Mathlib.Omega.{arith}
use lib.Dec.{T, leb, eqb, ltb, leb→le, ltb→lt}
use Rattle.field.specs.Prime.{Prime}

-- d is at most 1 or does not divide p
abbrev pub indivisible : ℕ → ℕ → Bool
indivisible p d = leb d 1 || not (eqb (p % d) 0)

-- no number from 2 to d divides p
abbrev pub trial : ℕ → ℕ → Bool
trial p zero = true
trial p (suc d) = indivisible p (suc d) && trial p d

and_left : (a b : Bool) → T (a && b) → T a
and_left true b t = tt
and_left false b t = t

and_right : (a b : Bool) → T (a && b) → T b
and_right true b t = t
and_right false b t = absurd t

at_most_one : (t : Bool) (p d : ℕ) → T (t || not (eqb (p % d) 0)) → d ∣ p → T t
at_most_one true p d h dv = tt
at_most_one false p d h dv = absurd (subst (λ (k : ℕ). T (not (eqb k 0))) (mod-eq-zero_of_dvd d dv) h)

tried : (p k d : ℕ) → T (trial p k) → 0 < d → d ≤ k → d ∣ p → d ≤ 1
tried p zero d t pos h dv = absurd (omega arith)
tried p (suc k) d t pos h dv =
    ⊎_elim (λ (e : d ≡ suc k). rw e (leb→le (suc k) 1 (at_most_one (leb (suc k) 1) p (suc k) (and_left (indivisible p (suc k)) (trial p k) t) (rw e at dv))))
    (λ (l : d < suc k). tried p k d (and_right (indivisible p (suc k)) (trial p k) t) pos (le_of_suc-le-suc l) dv)
    (eq-or-lt_of_le h)

pub by_trial : (p : ℕ) → T (ltb 1 p) → T (trial p (p - 1)) → Prime p
by_trial p above t =
    let one : 1 < p = ltb→lt 1 p above in
    record {
      above_one = one;
      divisors = λ d dv.
          let pos : 0 < d = pos_of_dvd_of_pos dv (omega arith) in
          let least : d ≤ p = le_of_dvd (omega arith) dv in
          ⊎_elim (λ (e : d ≡ p). inr e) (λ (l : d < p). let h : d ≤ 1 = tried p (p - 1) d t pos (omega arith) dv in inl (omega arith)) (eq-or-lt_of_le least);
    }
