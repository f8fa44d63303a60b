-- What stands behind ρ is compared to its end. Assumes nothing.
-- a part of a string that is as long as the string goes to its end
use Prim.Native.Nat.{ℕ}
use mathlib.Core.Path.{◌≡◌, ap₂, ◌∙◌}
use mathlib.Core.List.{List}
use native.Mathlib.Omega.{arith}
use lib.ListN.{take, drop, length-take, length-drop}
use lib.Seq.{take_all}
use Rattle.slices.specs.Slices.{same}
use Rattle.slices.proofs.Sameness.{pointwise_same}
use Rattle.commitment.specs.declared.Domain.{Domain}
use Rattle.commitment.specs.Commitment.{vectors_at, vectors_in}
use Rattle.openings.specs.Openings.{same_vectors}
use Rattle.openings.proofs.same_vectors.Goals as goal

to_end : (n at : ℕ) (l : List ℕ) → take n (drop at (take n l)) ≡ drop at (take n l)
to_end n at l = take_all n (drop at (take n l)) (simp (length-drop, length-take) (omega arith))

-- so the part of what is held is the string's vectors

side : (d : Domain) (n at : ℕ) (l p q : List ℕ) → p ≡ take n l → q ≡ take n (drop at p) → at ≡ vectors_at d → q ≡ vectors_in d (take n l)
unfolding vectors_in
side d n at l p q ep eq ea = eq ∙ ap₂ (λ (k : ℕ) (s : List ℕ). take n (drop k s)) ea ep ∙ to_end n (vectors_at d) l

pub returns : goal.returns
unfolding same_vectors
returns c =
    let a = c.args in
    let at = c.vectors_at-at.ensures.0 in
    let left = side a.d a.x.len c.vectors_at-at.result a.x.bytes _ _ c.part.ensures c.part-2.ensures at in
    let right = side a.d a.y.len c.vectors_at-at.result a.y.bytes _ _ c.part-3.ensures c.part-4.ensures at in
    c.eq.ensures ∙ pointwise_same _ _ ∙ ap₂ same left right
