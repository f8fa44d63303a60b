-- The worked examples hold: antt computes each; and what the assertion that they share tells, place by place. Assumes nothing.
use Prim.Native.Nat.{ℕ, ◌≤◌, ◌<◌}
use mathlib.Core.Path.{◌≡◌, refl, ap, ◌∙◌}
use mathlib.Core.List.{List}
use lib.ListN.{length}
use Rattle.slices.specs.Slices.{◌!◌, tabulate}
use Rattle.field.specs.Ops.{is_field, modulus, remainders, ops}
use Rattle.field.specs.Vector.{vector, add_v, sub_v, mul_v, sum}
use Rattle.field.proofs.Vectors.{vector_at, vector_beyond}
use Rattle.system.specs.Polynomial.{pairs, polynomial}
use Rattle.system.specs.System.{width, triangle, quadratic, linear, F, G}
use Rattle.protocol.specs.Protocols.{masked, unmasked, r1_of, t1_of, e1_of, card_three, t1_by, e1_by, unmasked_by, card_five, simulated_e1, simulated_mask, simulated}
use Rattle.protocol.specs.Rounds.{map_of}
use Rattle.small_key.specs.SmallKey.{SmallKey, ◌of◌gives◌}

-- what is printed is what is computed, at each place and no shorter; a vector has 96 bytes
pub gives_each : (computed printed : List ℕ) (n : ℕ) → computed of n gives printed →
    (length printed ≡ n) × ((i : ℕ) → i < n → i < 96 → computed ! i ≡ printed ! i) × ((i : ℕ) → n ≤ i → computed ! i ≡ 0)
unfolding ◌of◌gives◌
gives_each computed printed n h = (
  h.0,
  (λ i l k. ap (λ (x : List ℕ). x ! i) h.1 ∙ vector_at n _ i l k),
  (λ i l. ap (λ (x : List ℕ). x ! i) h.1 ∙ vector_beyond n _ i l),
)

pub small_key : SmallKey
unfolding ◌of◌gives◌ F G quadratic linear width triangle polynomial pairs sum vector add_v sub_v mul_v tabulate ops remainders modulus is_field map_of masked unmasked r1_of t1_of e1_of card_three t1_by e1_by unmasked_by card_five simulated_e1 simulated_mask simulated
small_key =
    record {
      K1 = (refl, refl);
      K2 = (refl, refl);
      K3 = (refl, refl);
      K4 = (refl, refl);
      K5 = (refl, refl);
      K6 = ((refl, refl), (refl, refl));
      K7 = (refl, refl);
      K8 = ((refl, refl), (refl, refl), (refl, refl));
      K9 = ((refl, refl), (refl, refl), (refl, refl));
      K10 = (refl, refl);
      K11 = (refl, refl);
      K12 = (refl, refl);
    }
