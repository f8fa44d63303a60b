-- The tests of labels that refusals cite. They hold exactly for a `WellFormedLabel`, and where one label is `Below` another (proofs/Labels.antt).
use Rattle.std.specs.Prelude.{ℕ, zero, suc, ◌/◌, ◌%◌, Bool, true, false, cond, ◌&&◌, List, [], ◌∷◌, leb, ltb, eqb, length}
use Rattle.slices.specs.Slices.{◌!◌}
use Rattle.label.specs.Label.{halves}

-- both halves of a byte are digits
unfoldable pub are_digits : ℕ → Bool
are_digits byte = leb (byte % 16) 9 && leb (byte / 16) 9

-- those of the last byte, whose second may be F
unfoldable pub are_last : ℕ → Bool
are_last byte = cond (eqb (byte / 16) 15) (leb (byte % 16) 9) (are_digits byte)

-- a test holds for 0, .., n - 1
unfoldable pub all_of : ℕ → (ℕ → Bool) → Bool
all_of zero test = true
all_of (suc n) test = all_of n test && test n

-- 12: "a label with a wrong half"; and the ten bytes
unfoldable pub is_label : List ℕ → Bool
is_label l = eqb (length l) 10 && (all_of 9 (λ i. are_digits (l ! i)) && are_last (l ! 9))

-- the first digit in which two lists of digits differ decides
unfoldable pub rises : List ℕ → List ℕ → Bool
rises [] ys = false
rises (x ∷ xs) [] = false
rises (x ∷ xs) (y ∷ ys) = cond (eqb x y) (rises xs ys) (ltb x y)

-- the test of `Below`, for ten bytes each
unfoldable pub is_below : List ℕ → List ℕ → Bool
is_below a b = eqb (length a) 10 && (eqb (length b) 10 && rises (halves a) (halves b))
