-- Completeness and simulation as verdicts: where the vectors of a round open as they were committed to, the reply is accepted. Assumes nothing.
use Prim.Native.Nat.{ℕ, zero, suc, ◌≤◌}
use mathlib.Core.Path.{◌≡◌, refl, sym, ap, ap₂, ◌∙◌}
use mathlib.Core.Bool.{true}
use mathlib.Core.List.{List, ◌++◌}
use native.Mathlib.Omega.{arith}
use lib.ListN.{take}
use Rattle.slices.proofs.Booleans.{and_both}
use Rattle.slices.proofs.Sameness.{same_by}
use Rattle.commitment.specs.declared.Domain.{Domain}
use Rattle.commitment.specs.Commitment.{in_order, Com}
use Rattle.system.specs.System.{q_of, n_of, m_of, system_refusal, F}
use Rattle.protocol.specs.Protocols as P
use Rattle.protocol.specs.Protocols.{OpensThree, OpensFive, card_three, card_five, simulated, r1_of}
use Rattle.protocol.specs.Rounds.{map_of, IsX, IsY}
use Rattle.protocol.proofs.Rounds.{completeness_three, completeness_five, simulation}
use Rattle.round.specs.declared.pieces.Rhos.{Rhos}
use Rattle.round.specs.declared.pieces.CommitmentsThree.{CommitmentsThree}
use Rattle.round.specs.declared.pieces.CommitmentsFive.{CommitmentsFive}
use Rattle.round.specs.Openings.{with_two, with_three, string_of, commitment_at, opens_to, all_open}
use Rattle.round.specs.ThreePass.{commitments_three, reply_three, openings_three}
use Rattle.round.specs.FivePass.{commitments_five, middle_five, reply_five, openings_five}

-- the commitments, each by its number among the bytes that are taken
pub record ThreeAt (bytes : List ℕ) (c : CommitmentsThree) : Type 0 where
  pub at_0 : commitment_at bytes 0 ≡ c.c0
  pub at_1 : commitment_at bytes 1 ≡ c.c1
  pub at_2 : commitment_at bytes 2 ≡ c.c2

pub record TwoAt (bytes : List ℕ) (c : CommitmentsFive) : Type 0 where
  pub at_0 : commitment_at bytes 0 ≡ c.c0
  pub at_1 : commitment_at bytes 1 ≡ c.c1

module _ (d : Domain) (b v : List ℕ) (ρ : Rhos) where
  abbrev committed_three : P.Vectors (List ℕ) (List ℕ) → CommitmentsThree
  committed_three w = commitments_three d (n_of b) (m_of b) w ρ

  -- Com of two vectors of a round
  abbrev two : ℕ → List ℕ → List ℕ → List ℕ → List ℕ
  two k r x y = Com d k r (take (n_of b) x ++ take (m_of b) y)

  -- the reply to each challenge, from vectors that open as they were committed to
  opened_three : (w : P.Vectors (List ℕ) (List ℕ)) (c : List ℕ) → ThreeAt c (committed_three w) → (challenge : ℕ) → challenge ≤ 2 →
      OpensThree (map_of b) v w challenge → all_open d c (openings_three b v challenge (reply_three w ρ challenge)) ≡ true
  unfolding all_open opens_to string_of with_two in_order Com commitments_three reply_three openings_three
  opened_three w c at zero h o =
      and_both _ _ (same_by _ _ (ap₂ (two 1 ρ.rho1) (o.zero_t refl) (o.zero_e refl) ∙ sym at.at_1))
      (and_both _ _ (same_by _ _ (sym at.at_2)) refl)
  opened_three w c at (suc zero) h o =
      and_both _ _ (same_by _ _ (ap (two 0 ρ.rho0 w.r1) (o.one refl) ∙ sym at.at_0)) (and_both _ _ (same_by _ _ (sym at.at_2)) refl)
  opened_three w c at (suc (suc zero)) h o =
      and_both _ _ (same_by _ _ (ap (two 0 ρ.rho0 w.r1) (o.two refl) ∙ sym at.at_0)) (and_both _ _ (same_by _ _ (sym at.at_1)) refl)
  opened_three w c at (suc (suc (suc k))) h o = absurd (omega arith)

  opened_five : (α : ℕ) (s r0 t0 e0 c : List ℕ) → TwoAt c (commitments_five d b s r0 t0 e0 ρ) → (challenge : ℕ) → challenge ≤ 1 →
      OpensFive (map_of b) α v (card_five (map_of b) α s r0 t0 e0) challenge →
      all_open d c (openings_five b α v (middle_five b α r0 t0 e0) challenge (reply_five (q_of b) (n_of b) s r0 ρ challenge)) ≡ true
  unfolding all_open opens_to string_of with_two with_three in_order Com commitments_five middle_five reply_five openings_five card_five r1_of map_of
  opened_five α s r0 t0 e0 c at zero h o =
      and_both _ _
      (same_by _ _ (ap₂ (λ (x y : List ℕ). Com d 0 ρ.rho0 (take (n_of b) r0 ++ (take (n_of b) x ++ take (m_of b) y))) (o.zero_t refl) (o.zero_e refl) ∙ sym at.at_0)) refl
  opened_five α s r0 t0 e0 c at (suc zero) h o =
      and_both _ _ (same_by _ _ (ap (two 1 ρ.rho1 (r1_of (map_of b).sub_x s r0)) (o.one refl) ∙ sym at.at_1)) refl
  opened_five α s r0 t0 e0 c at (suc (suc k)) h o = absurd (omega arith)

  -- ---- for every system that is not refused

  module _ (good : system_refusal b ≡ 0) where
    -- Completeness, three passes: where F(s) = v the honest reply to any challenge is accepted
    pub accepted_three : (s r0 t0 e0 : List ℕ) → IsX b s → IsX b r0 → IsX b t0 → IsY b e0 → F b s ≡ v →
        let w = card_three (map_of b) s r0 t0 e0 in
        (c : List ℕ) → ThreeAt c (committed_three w) → (challenge : ℕ) → challenge ≤ 2 → all_open d c (openings_three b v challenge (reply_three w ρ challenge)) ≡ true
    accepted_three s r0 t0 e0 hs hr ht he key c at challenge h =
        opened_three (card_three (map_of b) s r0 t0 e0) c at challenge h (completeness_three b good v s r0 t0 e0 hs hr ht he key challenge)

    -- Completeness, five passes, for every α
    pub accepted_five : (α : ℕ) (s r0 t0 e0 : List ℕ) → IsX b s → IsX b t0 → IsY b e0 → F b s ≡ v →
        (c : List ℕ) → TwoAt c (commitments_five d b s r0 t0 e0 ρ) → (challenge : ℕ) → challenge ≤ 1 →
        all_open d c (openings_five b α v (middle_five b α r0 t0 e0) challenge (reply_five (q_of b) (n_of b) s r0 ρ challenge)) ≡ true
    accepted_five α s r0 t0 e0 hs ht he key c at challenge h =
        opened_five α s r0 t0 e0 c at challenge h (completeness_five b good α v s r0 t0 e0 hs ht he key challenge)

    -- Simulation: for every Ch* and every Ch other than it the simulator's reply is accepted, with any v, s' and lent values
    pub accepted_simulated : (unanswered : ℕ) → unanswered ≤ 2 → (s' r0 t0 e0 : List ℕ) → IsY b v → IsX b s' → IsX b r0 → IsX b t0 → IsY b e0 →
        let w = simulated (map_of b) unanswered v s' r0 t0 e0 in
        (c : List ℕ) → ThreeAt c (committed_three w) → (challenge : ℕ) → challenge ≤ 2 → (challenge ≡ unanswered → ⊥) →
        all_open d c (openings_three b v challenge (reply_three w ρ challenge)) ≡ true
    accepted_simulated unanswered hg s' r0 t0 e0 hv hs hr ht he c at challenge h other =
        opened_three (simulated (map_of b) unanswered v s' r0 t0 e0) c at challenge h
        (simulation b good unanswered hg v s' r0 t0 e0 hv hs hr ht he challenge other)
