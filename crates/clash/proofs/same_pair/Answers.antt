-- The strings are what is held, so that their vectors are compared. Assumes nothing.
use mathlib.Core.Path.{◌≡◌, ap, ap₂, ◌∙◌}
use mathlib.Core.Bool.{Bool}
use mathlib.Core.List.{List}
use Prim.Native.Nat.{ℕ}
use Rattle.commitment.specs.declared.Domain.{Domain}
use Rattle.commitment.specs.Texts.{content}
use Rattle.commitment.proofs.Texts.{content_is}
use Rattle.openings.specs.Openings.{same_vectors}
use Rattle.clash.specs.declared.Pair.{Pair}
use Rattle.clash.specs.Clash.{PairOf, same_pair}
use Rattle.clash.proofs.same_pair.Goals as goal

tested : (p : Pair) (x y : List ℕ) (d e : Domain) (t : Bool) → PairOf p x y → d ≡ e → t ≡ same_vectors d (content p.left) (content p.right) →
    t ≡ same_vectors e x y
tested p x y d e t k domain is =
    is ∙ ap₂ (same_vectors d) (content_is x 0 p.left k.left_text) (content_is y 0 p.right k.right_text) ∙ ap (λ (f : Domain). same_vectors f x y) domain

pub returns : goal.returns
unfolding same_pair
returns c =
    tested _ _ _ _ _ _ c.opened_pair.ensures c.domain_in.ensures c.same_vectors.ensures
