-- The three properties of document 01's rounds and simulator at the lists that the code computes, for every system that is not refused. Assumes nothing.
use Prim.Native.Nat.{ℕ, ◌≤◌}
use mathlib.Core.Path.{◌≡◌}
use mathlib.Core.List.{List}
use Rattle.field.specs.Vector.{add_v}
use Rattle.system.specs.System.{n_of, ops_of, F, system_refusal}
use Rattle.system.proofs.SystemLayout.{accepted}
use Rattle.protocol.specs.Structure.{QuadraticMap}
use Rattle.protocol.specs.Protocols.{AreElements, card_three, card_five, simulated, OpensThree, OpensFive, AgreeThree, AgreeFive}
use Rattle.protocol.specs.Rounds.{map_of, IsX, IsY, IsScalar}
use Rattle.protocol.proofs.Properties.{complete_three, sound_three, complete_five, sound_five, simulates}
use Rattle.protocol.proofs.Properties.{are_elements_three, are_elements_five, are_elements_simulated}
use Rattle.protocol.proofs.SystemMap.{system_map}

module _ (b : List ℕ) (good : system_refusal b ≡ 0) where
  pub quadratic_map : QuadraticMap (map_of b) (IsX b) (IsY b) (IsScalar b)
  quadratic_map = let k = accepted b good in system_map b k.q_is_field k.n_high

  -- Completeness, three passes.
  pub completeness_three : (v s r0 t0 e0 : List ℕ) → IsX b s → IsX b r0 → IsX b t0 → IsY b e0 → F b s ≡ v →
      (challenge : ℕ) → OpensThree (map_of b) v (card_three (map_of b) s r0 t0 e0) challenge
  unfolding map_of
  completeness_three = complete_three quadratic_map

  -- Special soundness, three passes: s = r0 + r1.
  pub soundness_three : (v r0 t1 e1 r1 t1' e1' r1' t0 e0 : List ℕ) → IsY b v → IsX b r0 →
      AgreeThree (map_of b) v r0 t1 e1 r1 t1' e1' r1' t0 e0 → F b (add_v (ops_of b) (n_of b) r0 r1) ≡ v
  unfolding map_of
  soundness_three = sound_three quadratic_map

  -- Completeness, five passes.
  pub completeness_five : (α : ℕ) (v s r0 t0 e0 : List ℕ) → IsX b s → IsX b t0 → IsY b e0 → F b s ≡ v →
      (challenge : ℕ) → OpensFive (map_of b) α v (card_five (map_of b) α s r0 t0 e0) challenge
  unfolding map_of
  completeness_five = complete_five quadratic_map

  -- Special soundness, five passes: s = r0 + r1.
  pub soundness_five : (v : List ℕ) (α : ℕ) (t1 e1 r0 r1 : List ℕ) (α' : ℕ) (t1' e1' r0' r1' : List ℕ) →
      IsY b v → IsScalar b α → IsScalar b α' → (α ≡ α' → ⊥) →
      AgreeFive (map_of b) v α t1 e1 r0 r1 α' t1' e1' r0' r1' → F b (add_v (ops_of b) (n_of b) r0 r1) ≡ v
  unfolding map_of
  soundness_five = sound_five quadratic_map

  -- Simulation.
  pub simulation : (unanswered : ℕ) → unanswered ≤ 2 → (v s' r0 t0 e0 : List ℕ) → IsY b v → IsX b s' → IsX b r0 → IsX b t0 → IsY b e0 →
      (challenge : ℕ) → (challenge ≡ unanswered → ⊥) → OpensThree (map_of b) v (simulated (map_of b) unanswered v s' r0 t0 e0) challenge
  simulation = simulates quadratic_map

  -- The vectors that are formed in a round are vectors of n and of m elements, where those lent are.
  pub elements_three : (s r0 t0 e0 : List ℕ) → IsX b r0 → IsX b t0 → IsY b e0 → AreElements (IsX b) (IsY b) (card_three (map_of b) s r0 t0 e0)
  elements_three = are_elements_three quadratic_map

  pub elements_five : (α : ℕ) (s r0 t0 e0 : List ℕ) → IsX b r0 → IsX b t0 → IsY b e0 → AreElements (IsX b) (IsY b) (card_five (map_of b) α s r0 t0 e0)
  elements_five = are_elements_five quadratic_map

  pub elements_simulated : (unanswered : ℕ) (v s' r0 t0 e0 : List ℕ) → IsX b r0 → IsX b t0 → IsY b e0 →
      AreElements (IsX b) (IsY b) (simulated (map_of b) unanswered v s' r0 t0 e0)
  elements_simulated = are_elements_simulated quadratic_map
