-- "Labels rise strictly": the order is a strict total one on well-formed labels. Assumes nothing.
use Prim.Native.Nat.{ℕ, ◌<◌}
use mathlib.Core.Path.{◌≡◌, refl, sym, ap₂, ◌∙◌}
use mathlib.Core.Logic.{◌⊎◌, inl, inr, ⊎_elim}
use mathlib.Core.List.{List, [], ◌∷◌}
use native.Mathlib.Decide.{dec_lt, ℕ_discrete}
use native.Mathlib.Omega.{arith}
use lib.ListN.{length}
use Rattle.slices.specs.Slices.{◌!◌}
use Rattle.label.specs.Label.{halves, WellFormedLabel, Below, StrictTotal}
use Rattle.label.proofs.Halves.{length-halves, same_halves}
use Rattle.label.proofs.Labels.{RisesAt, rises_behind, rises_first}

-- no label is below itself
pub not_below_itself : (a : List ℕ) → Below a a → ⊥
not_below_itself a w = absurd (omega (arith, w.lower))

pub below_trans : (a b c : List ℕ) → Below a b → Below b c → Below a c
below_trans a b c v w =
    elim (dec_lt v.place w.place) [
      | yes earlier ↦
          record {
            place = v.place;
            within = v.within;
            alike = λ i h. v.alike i h ∙ w.alike i (omega (arith, h, earlier));
            lower = let same = w.alike v.place earlier in let less = v.lower in omega (arith, same, less);
          }
      | no later ↦
          elim (dec_lt w.place v.place) [
            | yes after ↦
                record {
                  place = w.place;
                  within = w.within;
                  alike = λ i h. v.alike i (omega (arith, h, after)) ∙ w.alike i h;
                  lower = let same = v.alike w.place after in let less = w.lower in omega (arith, same, less);
                }
            | no before ↦
                let here : w.place ≡ v.place = omega (arith, later, before) in
                record {
                  place = v.place;
                  within = v.within;
                  alike = λ i h. v.alike i h ∙ w.alike i (omega (arith, h, here));
                  lower = let less = v.lower in let more : halves b ! v.place < halves c ! v.place = rw (sym here) w.lower in omega (arith, less, more);
                }
          ]
    ]

-- lists of one length are the same, or one rises above the other
compare : (xs ys : List ℕ) → length xs ≡ length ys → (xs ≡ ys) ⊎ (RisesAt xs ys ⊎ RisesAt ys xs)
compare [] [] long = inl refl
compare [] (y ∷ ys) long = absurd (omega (arith, long))
compare (x ∷ xs) [] long = absurd (omega (arith, long))
compare (x ∷ xs) (y ∷ ys) long =
    elim (ℕ_discrete x y) [
      | yes same ↦
          ⊎_elim (λ (rest : xs ≡ ys). inl (ap₂ ◌∷◌ same rest))
          (λ (r : RisesAt xs ys ⊎ RisesAt ys xs).
          inr (⊎_elim (λ (up : RisesAt xs ys). inl (rises_behind x y xs ys same up)) (λ (down : RisesAt ys xs). inr (rises_behind y x ys xs (sym same) down)) r))
          (compare xs ys (omega (arith, long)))
      | no differ ↦
          elim (dec_lt x y) [
            | yes less ↦ inr (inl (rises_first x y xs ys less))
            | no more ↦ inr (inr (rises_first y x ys xs (omega (arith, differ, more))))
          ]
    ]

below_of : (a b : List ℕ) → length a ≡ 10 → RisesAt (halves a) (halves b) → Below a b
below_of a b ten r = let long = length-halves a in record { place = r.place; within = let h = r.within in omega (arith, h, long, ten); alike = r.alike; lower = r.lower }

pub trichotomy : (a b : List ℕ) → length a ≡ 10 → length b ≡ 10 → (a ≡ b) ⊎ (Below a b ⊎ Below b a)
trichotomy a b ten_a ten_b =
    let long_a = length-halves a in
    let long_b = length-halves b in
    ⊎_elim (λ (same : halves a ≡ halves b). inl (same_halves a b (ten_a ∙ sym ten_b) same))
    (λ (r : RisesAt (halves a) (halves b) ⊎ RisesAt (halves b) (halves a)).
    inr (⊎_elim (λ (up : RisesAt (halves a) (halves b)). inl (below_of a b ten_a up)) (λ (down : RisesAt (halves b) (halves a)). inr (below_of b a ten_b down)) r))
    (compare (halves a) (halves b) (omega (arith, long_a, long_b, ten_a, ten_b)))

pub label_order : StrictTotal WellFormedLabel Below
label_order =
    record {
      irreflexive = λ a w. not_below_itself a;
      transitive = λ a b c u v w. below_trans a b c;
      total = λ a b v w. trichotomy a b v.ten_bytes w.ten_bytes;
    }
