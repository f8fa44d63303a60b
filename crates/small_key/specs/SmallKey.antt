-- Document 01, "The small key": its twelve marked examples, one field each, under one assertion.
use Rattle.std.specs.Prelude.{ℕ, ◌≡◌, List, [], ◌∷◌, length}
use Rattle.slices.specs.Slices.{◌!◌}
use Rattle.field.specs.Vector.{vector}
use Rattle.system.specs.System.{n_of, m_of, F, G}
use Rattle.protocol.specs.Protocols.{Vectors, unmasked, unmasked_by, card_three, card_five, simulated}
use Rattle.protocol.specs.Rounds.{map_of}

infix 40 ◌of◌gives◌
-- the assertion that all share: of a vector of n elements all n are printed, it has the printed ones and zeros beyond. `gives_each` of proofs/Examples.antt
-- says place by place what it tells
unfoldable pub ◌of◌gives◌ : List ℕ → ℕ → List ℕ → Type 0
computed of n gives printed = (length printed ≡ n) × (computed ≡ vector n (λ i. printed ! i))

-- "q = 7, n = m = 2; f1 = (1,2,3,1,0), f2 = (0,1,5,0,4), in stored order"
abbrev pub key : List ℕ
key = 7 ∷ 2 ∷ 2 ∷ 1 ∷ 2 ∷ 3 ∷ 1 ∷ 0 ∷ 0 ∷ 1 ∷ 5 ∷ 0 ∷ 4 ∷ []

-- "s = (3,5), r0 = (5,1), r1 = (5,4)"
abbrev pub s : List ℕ
s = 3 ∷ 5 ∷ []

abbrev pub r0 : List ℕ
r0 = 5 ∷ 1 ∷ []

abbrev pub r1 : List ℕ
r1 = 5 ∷ 4 ∷ []

-- "t0 = (4,2), e0 = (2,5)", and v = F(s)
abbrev pub t0 : List ℕ
t0 = 4 ∷ 2 ∷ []

abbrev pub e0 : List ℕ
e0 = 2 ∷ 5 ∷ []

abbrev pub v : List ℕ
v = 5 ∷ 6 ∷ []

-- the card's vectors in each scheme, and the simulator's with Ch* = 0 and s' = (1,0)
abbrev pub three_passes : Vectors (List ℕ) (List ℕ)
three_passes = card_three (map_of key) s r0 t0 e0

abbrev pub five_passes : Vectors (List ℕ) (List ℕ)
five_passes = card_five (map_of key) 3 s r0 t0 e0

abbrev pub simulation : Vectors (List ℕ) (List ℕ)
simulation = simulated (map_of key) 0 v (1 ∷ 0 ∷ []) r0 t0 e0

-- "q = 2, f = (1,0)" and "q = 251, f = (1,0)"
abbrev pub key_of_two : List ℕ
key_of_two = 2 ∷ 1 ∷ 1 ∷ 1 ∷ 0 ∷ []

abbrev pub key_of_large : List ℕ
key_of_large = 251 ∷ 1 ∷ 1 ∷ 1 ∷ 0 ∷ []

-- the number of unknowns and of polynomials, from the keys' own bytes
abbrev pub n : ℕ
n = n_of key

abbrev pub m : ℕ
m = m_of key

pub record SmallKey : Type 0 where
  pub K1 : F key s of m gives 5 ∷ 6 ∷ []
  pub K2 : F key r0 of m gives 1 ∷ 0 ∷ []
  pub K3 : F key r1 of m gives 6 ∷ 4 ∷ []
  pub K4 : G key r0 r1 of m gives 5 ∷ 2 ∷ []
  pub K5 : three_passes.mask of m gives 2 ∷ 6 ∷ []
  pub K6 : (three_passes.t1 of n gives 1 ∷ 6 ∷ []) × (three_passes.e1 of m gives 6 ∷ 2 ∷ [])
  pub K7 : unmasked (map_of key) v r1 three_passes.t1 three_passes.e1 of m gives 2 ∷ 6 ∷ []
  pub K8 :
      (five_passes.t1 of n gives 4 ∷ 1 ∷ []) × (five_passes.e1 of m gives 1 ∷ 2 ∷ []) ×
      (unmasked_by (map_of key) 3 v r1 five_passes.t1 five_passes.e1 of m gives 2 ∷ 6 ∷ [])
  pub K9 : (simulation.r1 of n gives 3 ∷ 6 ∷ []) × (simulation.e1 of m gives 2 ∷ 1 ∷ []) × (simulation.mask of m gives 4 ∷ 1 ∷ [])
  pub K10 : F key (0 ∷ 0 ∷ []) of m gives 0 ∷ 0 ∷ []
  pub K11 : G key_of_two (1 ∷ []) (1 ∷ []) of m_of key_of_two gives 0 ∷ []
  pub K12 : F key_of_large (250 ∷ []) of m_of key_of_large gives 1 ∷ []
