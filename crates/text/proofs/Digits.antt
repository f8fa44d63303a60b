-- The digits of a list's elements, one element more a turn. Assumes nothing.
use Prim.Native.Nat.{ℕ, ◌+◌, ◌<◌}
use mathlib.Core.Path.{◌≡◌, sym, ap, ◌∙◌}
use mathlib.Core.List.{List, [], ◌++◌}
use native.Mathlib.Numerals.{add-one}
use lib.ListN.{length, take}
use lib.Seq.{take-suc}
use Rattle.std.specs.List.{flat_map}
use Rattle.std.proofs.lemmas.List.{flat_map_more}
use Rattle.slices.specs.Slices.{◌!◌}

-- `digits` are each element's, one behind the other
pub digits_more : (digits : List ℕ → List ℕ) (each : ℕ → List ℕ) (s : List ℕ) (i : ℕ) → ((l : List ℕ) → flat_map each l ≡ digits l) → i < length s →
    digits (take (i + 1) s) ≡ digits (take i s) ++ each (s ! i)
digits_more digits each s i is more =
    sym (is (take (i + 1) s)) ∙ ap (flat_map each) (ap (λ (k : ℕ). take k s) (add-one i) ∙ take-suc s i 0 more) ∙
    sym (flat_map_more each [] (take i s) (s ! i)) ∙ ap (λ (l : List ℕ). l ++ each (s ! i)) (is (take i s))
