-- Lists of numbers read by place.
use Rattle.std.specs.Prelude.{ℕ, zero, suc, ◌+◌, ◌*◌, ◌/◌, ◌%◌, List, [], ◌∷◌, ◌++◌, Bool, true, false, ◌&&◌, eqb, length, get_or, take, drop, replicate}

infixl 90 ◌!◌
-- what stands at place i of a list, from 0; 0 beyond its end
abbrev pub ◌!◌ : List ℕ → ℕ → ℕ
x ! i = get_or x i 0

-- f 0, .., f (n - 1)
unfoldable pub tabulate : ℕ → (ℕ → ℕ) → List ℕ
tabulate zero f = []
tabulate (suc n) f = f 0 ∷ tabulate n (λ i. f (suc i))

-- whether two lists are the same
unfoldable pub same : List ℕ → List ℕ → Bool
same [] [] = true
same [] (y ∷ ys) = false
same (x ∷ xs) [] = false
same (x ∷ xs) (y ∷ ys) = eqb x y && same xs ys

-- a list with s in the place of what stands from a place on
unfoldable pub placed : List ℕ → ℕ → List ℕ → List ℕ
placed l place s = take place l ++ (s ++ drop (place + length s) l)

-- n zeros
unfoldable pub zeros : ℕ → List ℕ
zeros n = replicate n 0

-- ---- equal pieces

-- piece r of a list of pieces of this length, from 0
abbrev pub piece : ℕ → ℕ → List ℕ → List ℕ
piece each r l = take each (drop (r * each) l)

-- n lists one behind the other: part 0, part 1, .., part (n - 1)
unfoldable pub joined : ℕ → (ℕ → List ℕ) → List ℕ
joined zero part = []
joined (suc n) part = joined n part ++ part n

-- ---- numbers of four bytes

-- "4 bytes, low byte first"
unfoldable pub word : ℕ → List ℕ
word k = k % 256 ∷ k / 256 % 256 ∷ k / 65536 % 256 ∷ k / 16777216 % 256 ∷ []

-- the number that the first four bytes are
unfoldable pub number : List ℕ → ℕ
number l = l ! 0 + 256 * l ! 1 + 65536 * l ! 2 + 16777216 * l ! 3
