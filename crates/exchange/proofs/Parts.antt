-- A message of the right length is its parts, one behind the other. Assumes nothing.
use Prim.Native.Nat.{ℕ, ◌+◌, ◌≤◌}
use mathlib.Core.Path.{◌≡◌, refl, sym, ap₂, ◌∙◌}
use mathlib.Core.List.{List, [], ◌∷◌, ◌++◌}
use native.Mathlib.Omega.{arith}
use lib.ListN.{length, take, drop, length-drop}
use lib.Seq.{length-take-le, take_all, take-add, get_or-take, get_or-drop, ext_get_or}
use Rattle.slices.specs.Slices.{◌!◌}
use Rattle.field.specs.Vector.{slot_v}
use Rattle.scheme.specs.declared.Scheme.TheVariants.{ThreePass, FivePass}
use Rattle.scheme.specs.Scheme.{commitment_count, commitments_length, turn_length, opened_count, vectors_length, rhos_length, reply_length}
use Rattle.round.specs.Openings.{bytes_at, commitment_at}
use Rattle.field.proofs.Vectors.{vector_at, length-vector}
use Rattle.exchange.specs.Messages.{middle_in, reply_three_in, reply_five_in}
use Rattle.exchange.specs.Messages.{reply_three_bytes, middle_bytes, reply_five_bytes}
use Rattle.exchange.proofs.ReadBack.{bytes_back}

-- ---- one part

length-piece : (n place : ℕ) (l : List ℕ) → place + n ≤ length l → length (take n (drop place l)) ≡ n
length-piece n place l room = length-take-le n (drop place l) (rw (length-drop place l) (omega arith))

bytes_are : (place : ℕ) (l : List ℕ) → place + 32 ≤ length l → bytes_at place l ≡ take 32 (drop place l)
bytes_are place l room =
    let long = length-piece 32 place l room in
    bytes_back (take 32 (drop place l)) l place long (λ i h. sym (get_or-take 32 (drop place l) i 0 (rw long at h) ∙ get_or-drop place l i 0))

elements_are : (n place : ℕ) (l : List ℕ) → n ≤ 96 → place + n ≤ length l → take n (slot_v n place l) ≡ take n (drop place l)
unfolding slot_v
elements_are n place l small room =
    let long = length-take-le n (slot_v n place l) (omega (arith, length-vector n (λ i. l ! (place + i)))) in
    ext_get_or 0 (take n (slot_v n place l)) (take n (drop place l)) (long ∙ sym (length-piece n place l room)) (λ i h.
    let below = rw long at h in
    get_or-take n (slot_v n place l) i 0 below ∙ vector_at n (λ j. l ! (place + j)) i below (omega arith) ∙ sym (get_or-take n (drop place l) i 0 below ∙ get_or-drop place l i 0))

-- what was put together, and the next part
then : (l done part : List ℕ) (place n : ℕ) → done ≡ take place l → part ≡ take n (drop place l) → done ++ part ≡ take (place + n) l
then l done part place n e is = ap₂ (λ (s t : List ℕ). s ++ t) e is ∙ sym (take-add place n l)

first_byte : (l : List ℕ) → 1 ≤ length l → (l ! 0) ∷ [] ≡ take 1 l
first_byte (x ∷ l) h = refl
first_byte [] h = absurd (omega arith)

-- ---- commitments

pub three_commitments_are : (l : List ℕ) → length l ≡ commitments_length ThreePass → commitment_at l 0 ++ commitment_at l 1 ++ commitment_at l 2 ≡ l
unfolding commitment_at commitments_length commitment_count
three_commitments_are l long =
    then l _ (bytes_at 64 l) 64 32 (then l _ (bytes_at 32 l) 32 32 (bytes_are 0 l (omega arith)) (bytes_are 32 l (omega arith))) (bytes_are 64 l (omega arith)) ∙
    take_all 96 l (omega arith)

pub five_commitments_are : (l : List ℕ) → length l ≡ commitments_length FivePass → commitment_at l 0 ++ commitment_at l 1 ≡ l
unfolding commitment_at commitments_length commitment_count
five_commitments_are l long = then l _ (bytes_at 32 l) 32 32 (bytes_are 0 l (omega arith)) (bytes_are 32 l (omega arith)) ∙ take_all 64 l (omega arith)

-- ---- what stands before the challenge, and the reply

module _ (n m : ℕ) (hn : n ≤ 96) (hm : m ≤ 96) (l : List ℕ) where
  -- α, t1, e1
  pub turn_is : length l ≡ turn_length FivePass n m → (l ! 0) ∷ middle_bytes n m (middle_in n m l) ≡ l
  unfolding middle_bytes middle_in turn_length
  turn_is long =
      then l _ (take m (slot_v m (1 + n) l)) (1 + n) m
      (then l ((l ! 0) ∷ []) (take n (slot_v n 1 l)) 1 n (first_byte l (omega arith)) (elements_are n 1 l hn (omega arith)))
      (elements_are m (1 + n) l hm (omega arith)) ∙
      take_all (1 + n + m) l (omega arith)

  pub reply_three_is : length l ≡ reply_length ThreePass n m → reply_three_bytes n m (reply_three_in n m l) ≡ l
  unfolding reply_three_bytes reply_three_in reply_length vectors_length rhos_length opened_count
  reply_three_is long =
      let x = elements_are n 0 l hn (omega arith) in
      let y = then l _ _ n n x (elements_are n n l hn (omega arith)) in
      let z = then l _ _ (n + n) m y (elements_are m (n + n) l hm (omega arith)) in
      let first = then l _ _ (n + n + m) 32 z (bytes_are (n + n + m) l (omega arith)) in
      let second = then l _ _ (n + n + m + 32) 32 first (bytes_are (n + n + m + 32) l (omega arith)) in
      second ∙ take_all (n + n + m + 32 + 32) l (omega arith)

  pub reply_five_is : length l ≡ reply_length FivePass n m → reply_five_bytes n (reply_five_in n l) ≡ l
  unfolding reply_five_bytes reply_five_in reply_length vectors_length rhos_length opened_count
  reply_five_is long = then l _ _ n 32 (elements_are n 0 l hn (omega arith)) (bytes_are n l (omega arith)) ∙ take_all (n + 32) l (omega arith)
