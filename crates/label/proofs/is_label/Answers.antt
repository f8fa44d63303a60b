-- The first nine bytes' digits, then the last byte's. Assumes nothing.
use Prim.Native.Nat.{ℕ, zero, suc, ◌≤◌}
use mathlib.Core.Path.{◌≡◌, refl, sym, ap, ◌∙◌}
use mathlib.Core.Bool.{Bool, true, ◌&&◌}
use mathlib.Core.List.{List}
use native.Mathlib.Numerals.{add-one}
use native.Mathlib.Omega.{arith}
use lib.ListN.{length, take}
use borrow.Author.Tests.{eq-eqb}
use Rattle.std.proofs.Common.{rules}
use Rattle.std.specs.List.{fold}
use Rattle.std.proofs.lemmas.Fn.{fold_over, slice_gives, fronts}
use Rattle.std.proofs.lemmas.List.Sums.{fold_push, fold_more}
use Rattle.slices.specs.Slices.{◌!◌}
use Rattle.label.specs.Tests.{are_digits, are_last, all_of, is_label}
use Rattle.label.proofs.is_label.Goals as goal

-- a byte more, whatever its digits are
also : Bool → ℕ → Bool
also good byte = good && are_digits byte

-- the first n bytes' digits, one after the other
in_turn : (n : ℕ) (l : List ℕ) → n ≤ length l → fold also true (take n l) ≡ all_of n (λ k. are_digits (l ! k))
unfolding all_of also
in_turn zero l h = refl
in_turn (suc n) l h =
    ap (λ (k : ℕ). fold also true (take k l)) (sym (add-one n)) ∙ fold_more also true l n 0 (omega arith) ∙
    ap (λ (t : Bool). t && are_digits (l ! n)) (in_turn n l (omega arith))

-- ten bytes are a label where nine are digits and the last is right
of_ten : (l : List ℕ) (nine : Bool) → length l ≡ 10 → nine ≡ fold also true (take 9 l) → (nine && are_last (l ! 9)) ≡ is_label l
unfolding is_label
of_ten l nine ten is =
    ap (λ (t : Bool). t && are_last (l ! 9)) (is ∙ in_turn 9 l (omega (arith, ten))) ∙
    sym (ap (λ (t : Bool). t && (all_of 9 (λ k. are_digits (l ! k)) && are_last (l ! 9))) (eq-eqb (length l) 10 ten))

pub returns : goal.returns
unfolding also
returns c =
    let nine = fold_over fronts (λ y. y.now) _ (λ ys good. good ≡ fold also true ys) _ (λ ys a x b f' j k.
    let e : b ≡ also a x.now = search rules in
    (e ∙ ap (λ (t : Bool). also t x.now) j ∙ sym (fold_push also true ys x.now), search rules)) _ _ _ _ (slice_gives c.iter.result) refl c.fold-good.ensures.ran in
    ap (λ (t : Bool). c.fold-good.result && t) c.are_last.ensures ∙ of_ten c.args.bytes.now _ (omega arith) (nine ∙ ap (fold also true) c.iter.ensures.rest)
