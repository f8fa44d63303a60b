-- Completeness, special soundness and simulation of document 01's rounds and simulator, each once for every structure. Subtraction is met in two ways only:
-- a - b = r from b + r = a (`sub_of`), and back (`of_sub`); what is left are sums, which `simp` sorts. Assumes nothing.
use Prim.Native.Nat.{ℕ, zero, suc, ◌≤◌}
use mathlib.Core.Path.{◌≡◌, refl, sym, ap, ap₂, ◌∙◌}
use native.Mathlib.Omega.{arith}
use lib.Dec.{eqb}
use Rattle.slices.proofs.Booleans.{either}
use Rattle.protocol.specs.Structure.{QuadraticOps, QuadraticMap}
use Rattle.protocol.specs.Protocols.{AreElements, r1_of, t1_of, e1_of, masked, t0_of, e0_of, unmasked, card_three, OpensThree, AgreeThree}
use Rattle.protocol.specs.Protocols.{t1_by, e1_by, t0_by, e0_by, unmasked_by, card_five, OpensFive, AgreeFive, simulated_e1, simulated_mask, simulated}
use Rattle.protocol.proofs.Groups.{add_left_comm, sub_of, of_sub, sub-sub, sub_two, of_sub_two, same_difference}

module _ {X Y S : Type 0} {o : QuadraticOps X Y S} {IsX : X → Type 0} {IsY : Y → Type 0} {IsScalar : S → Type 0} (k : QuadraticMap o IsX IsY IsScalar) where
  open o use {add_x, sub_x, mul_x, add_y, sub_y, mul_y, F, G}

  -- ---- both schemes

  -- s = r0 + r1 splits F(s)
  F_split : (s r0 : X) → IsX s → F s ≡ add_y (F (r1_of sub_x s r0)) (add_y (F r0) (G r0 (r1_of sub_x s r0)))
  unfolding r1_of
  F_split s r0 h =
      ap F (sym (k.group_x.add_comm r0 _ ∙ k.group_x.sub-add s r0 h)) ∙
      k.F-add r0 (sub_x s r0) ∙
      simp (k.group_y.add_assoc, add_left_comm k.group_y)

  -- r0 = t1 + t0 splits G(r0,r1)
  G_split : (r0 t0 r1 : X) → IsX r0 → G r0 r1 ≡ add_y (G (sub_x r0 t0) r1) (G t0 r1)
  G_split r0 t0 r1 h = ap (λ (x : X). G x r1) (sym (k.group_x.sub-add r0 t0 h)) ∙ k.G-add (sub_x r0 t0) t0 r1

  -- the opening of the mask: p - G(t1,r1) - e1 = G(t0,r1) + e0, where t1 = x - t0, e1 = y - e0 and p = y + G(x,r1)
  opened : (p y : Y) (x t0 r1 : X) (e0 : Y) → IsX x → IsY y → p ≡ add_y y (G x r1) → sub_y (sub_y p (G (sub_x x t0) r1)) (sub_y y e0) ≡ masked o t0 r1 e0
  unfolding masked
  opened p y x t0 r1 e0 hx hy e =
      sub_two k.group_y p _ _ (G t0 r1) e0 (e ∙ ap₂ add_y (sym (k.group_y.sub-add y e0 hy)) (G_split x t0 r1 hx))

  -- and back
  of_opened : (p y : Y) (x t0 t1 r1 : X) (e0 e1 : Y) → IsY p → x ≡ add_x t0 t1 → y ≡ add_y e0 e1 →
      sub_y (sub_y p (G t1 r1)) e1 ≡ masked o t0 r1 e0 → p ≡ add_y y (G x r1)
  unfolding masked
  of_opened p y x t0 t1 r1 e0 e1 hp ex ey e =
      of_sub_two k.group_y p (G t1 r1) e1 (G t0 r1) e0 hp e ∙
      ap₂ add_y (k.group_y.add_comm e1 e0 ∙ sym ey) (k.group_y.add_comm _ _ ∙ sym (k.G-add t0 t1 r1) ∙ ap (λ (z : X). G z r1) (sym ex))

  -- v - F(r1) = F(r0) + G(r0,r1) says that r0 + r1 is a solution
  solution : (v : Y) (r0 r1 : X) → IsY v → sub_y v (F r1) ≡ add_y (F r0) (G r0 r1) → F (add_x r0 r1) ≡ v
  solution v r0 r1 h e =
      let sorted : add_y (add_y (F r0) (F r1)) (G r0 r1) ≡ add_y (add_y (F r0) (G r0 r1)) (F r1) = simp (k.group_y.add_assoc, k.group_y.add_comm) in
      k.F-add r0 r1 ∙ sorted ∙ sym (of_sub k.group_y v (F r1) _ h e)

  -- ---- three passes

  opened_three : (v y : Y) (r0 t0 r1 : X) (e0 : Y) → IsX r0 → IsY y → add_y (F r1) (add_y y (G r0 r1)) ≡ v →
      unmasked o v r1 (t1_of sub_x r0 t0) (sub_y y e0) ≡ masked o t0 r1 e0
  unfolding unmasked t1_of
  opened_three v y r0 t0 r1 e0 hr hy e = opened _ y r0 t0 r1 e0 hr hy (sub_of k.group_y v (F r1) _ (k.group_y.add_is y _) e)

  -- Completeness: where F(s) = v, the card's reply to every challenge opens what it committed to.
  pub complete_three : (v : Y) (s r0 t0 : X) (e0 : Y) → IsX s → IsX r0 → IsX t0 → IsY e0 → F s ≡ v →
      (challenge : ℕ) → OpensThree o v (card_three o s r0 t0 e0) challenge
  unfolding card_three t1_of e1_of t0_of e0_of
  complete_three v s r0 t0 e0 hs hr ht he e challenge =
      record {
        zero_t = λ c. sub-sub k.group_x r0 t0 hr ht;
        zero_e = λ c. sub-sub k.group_y (F r0) e0 (k.F_is r0) he;
        one = λ c. opened_three v (F r0) r0 t0 (r1_of sub_x s r0) e0 hr (k.F_is r0) (sym (F_split s r0 hs) ∙ e);
        two = λ c. refl;
      }

  -- Special soundness: replies to all three challenges whose openings agree give a solution of F(s) = v.
  pub sound_three : (v : Y) (r0 t1 : X) (e1 : Y) (r1 t1' : X) (e1' : Y) (r1' t0 : X) (e0 : Y) → IsY v → IsX r0 →
      AgreeThree o v r0 t1 e1 r1 t1' e1' r1' t0 e0 → F (add_x r0 r1) ≡ v
  unfolding t0_of e0_of unmasked masked
  sound_three v r0 t1 e1 r1 t1' e1' r1' t0 e0 hv hr a =
      solution v r0 r1 hv
      (of_opened (sub_y v (F r1)) (F r0) r0 t0 t1 r1 e0 e1 (k.group_y.sub_is v _) (of_sub k.group_x r0 t1 t0 hr a.c1_t)
      (of_sub k.group_y (F r0) e1 e0 (k.F_is r0) a.c1_e)
      (ap₂ (unmasked o v r1) a.c2_t a.c2_e ∙ a.c0_mask ∙ ap (λ (x : X). masked o t0 x e0) (sym a.c0_r)))

  -- ---- five passes

  -- Completeness, for every α.
  pub complete_five : (α : S) (v : Y) (s r0 t0 : X) (e0 : Y) → IsX s → IsX t0 → IsY e0 → F s ≡ v →
      (challenge : ℕ) → OpensFive o α v (card_five o α s r0 t0 e0) challenge
  unfolding card_five t1_by e1_by t0_by e0_by unmasked_by
  complete_five α v s r0 t0 e0 hs ht he e challenge =
      record {
        zero_t = λ c. sub-sub k.group_x (mul_x α r0) t0 (k.mul_x_is α r0) ht;
        zero_e = λ c. sub-sub k.group_y (mul_y α (F r0)) e0 (k.mul_y_is α _) he;
        one = λ c. opened _ (mul_y α (F r0)) (mul_x α r0) t0 (r1_of sub_x s r0) e0 (k.mul_x_is α r0) (k.mul_y_is α _)
            (ap (mul_y α) (sub_of k.group_y v (F (r1_of sub_x s r0)) _ (k.group_y.add_is _ _) (sym (F_split s r0 hs) ∙ e)) ∙
            k.mul-add α (F r0) (G r0 (r1_of sub_x s r0)) ∙
            ap (add_y (mul_y α (F r0))) (sym (k.G-mul α r0 (r1_of sub_x s r0))));
      }

  -- α(v - F(r1)) and α(F(r0) + G(r0,r1)) differ by what the openings show
  opened_five : (α : S) (v : Y) (r0 r1 t0 t1 : X) (e0 e1 m : Y) → t0_by o α r0 t1 ≡ t0 → e0_by o α r0 e1 ≡ e0 → unmasked_by o α v r1 t1 e1 ≡ m →
      add_y (mul_y α (sub_y v (F r1))) (masked o t0 r1 e0) ≡ add_y (mul_y α (add_y (F r0) (G r0 r1))) m
  unfolding t0_by e0_by unmasked_by masked
  opened_five α v r0 r1 t0 t1 e0 e1 m et ee em =
      let p = mul_y α (sub_y v (F r1)) in
      let hp : p ≡ add_y (add_y m e1) (G t1 r1) = of_sub k.group_y p _ _ (k.mul_y_is α _) (of_sub k.group_y _ e1 m (k.group_y.sub_is _ _) em) in
      let hf : mul_y α (F r0) ≡ add_y e0 e1 = of_sub k.group_y _ e1 e0 (k.mul_y_is α _) ee in
      let hr : mul_x α r0 ≡ add_x t0 t1 = of_sub k.group_x _ t1 t0 (k.mul_x_is α r0) et in
      let hg : mul_y α (G r0 r1) ≡ add_y (G t0 r1) (G t1 r1) = sym (k.G-mul α r0 r1) ∙ ap (λ (x : X). G x r1) hr ∙ k.G-add t0 t1 r1 in
      simp (k.mul-add α (F r0), hp, hf, hg, k.group_y.add_assoc, k.group_y.add_comm, add_left_comm k.group_y)

  -- Special soundness: replies to both challenges under each of two different α, whose openings agree, give a solution of F(s) = v.
  pub sound_five : (v : Y) (α : S) (t1 : X) (e1 : Y) (r0 r1 : X) (α' : S) (t1' : X) (e1' : Y) (r0' r1' : X) →
      IsY v → IsScalar α → IsScalar α' → (α ≡ α' → ⊥) → AgreeFive o v α t1 e1 r0 r1 α' t1' e1' r0' r1' → F (add_x r0 r1) ≡ v
  sound_five v α t1 e1 r0 r1 α' t1' e1' r0' r1' hv ha ha' differ a =
      let p = sub_y v (F r1) in
      let z = add_y (F r0) (G r0 r1) in
      solution v r0 r1 hv
      (k.cancel α α' ha ha' differ p z (k.group_y.sub_is _ _) (k.group_y.add_is _ _)
      (same_difference k.group_y (mul_y α p) (mul_y α' p) (mul_y α z) (mul_y α' z) _ _ (k.mul_y_is α p) (k.mul_y_is α z)
      (opened_five α v r0 r1 _ t1 _ e1 _ refl refl refl)
      (opened_five α' v r0 r1 _ t1' _ e1' _
      (ap (λ (x : X). t0_by o α' x t1') a.c0_r ∙ sym a.c0_t) (ap (λ (x : X). e0_by o α' x e1') a.c0_r ∙ sym a.c0_e)
      (ap (λ (x : X). unmasked_by o α' v x t1' e1') a.c1_r ∙ sym a.c1_mask))))

  -- ---- the simulator

  -- Simulation: without s, the reply to every challenge but Ch* opens what was committed to.
  pub simulates : (unanswered : ℕ) → unanswered ≤ 2 → (v : Y) (s' r0 t0 : X) (e0 : Y) → IsY v → IsX s' → IsX r0 → IsX t0 → IsY e0 →
      (challenge : ℕ) → (challenge ≡ unanswered → ⊥) → OpensThree o v (simulated o unanswered v s' r0 t0 e0) challenge
  unfolding simulated simulated_e1 simulated_mask t1_of e1_of t0_of e0_of
  simulates zero h v s' r0 t0 e0 hv hs hr ht he challenge differ =
      let r1 = r1_of sub_x s' r0 in
      let d = sub_y v (F s') in
      let g = G r0 r1 in
      let sorted : add_y (F r1) (add_y (add_y d (F r0)) g) ≡ add_y d (add_y (F r1) (add_y (F r0) g)) = simp (k.group_y.add_assoc, add_left_comm k.group_y) in
      let whole : add_y (F r1) (add_y (add_y d (F r0)) g) ≡ v = sorted ∙ ap (add_y d) (sym (F_split s' r0 hs)) ∙ k.group_y.sub-add v (F s') hv in
      record {
        zero_t = λ c. absurd (differ c);
        zero_e = λ c. absurd (differ c);
        one = λ c. opened_three v (add_y d (F r0)) r0 t0 r1 e0 hr (k.group_y.add_is d _) whole;
        two = λ c. refl;
      }
  simulates (suc zero) h v s' r0 t0 e0 hv hs hr ht he challenge differ =
      record {
        zero_t = λ c. sub-sub k.group_x r0 t0 hr ht;
        zero_e = λ c. sub-sub k.group_y (F r0) e0 (k.F_is r0) he;
        one = λ c. absurd (differ c);
        two = λ c. refl;
      }
  simulates (suc (suc zero)) h v s' r0 t0 e0 hv hs hr ht he challenge differ =
      record {
        zero_t = λ c. sub-sub k.group_x r0 t0 hr ht;
        zero_e = λ c. sub-sub k.group_y (F r0) e0 (k.F_is r0) he;
        one = λ c. refl;
        two = λ c. absurd (differ c);
      }
  simulates (suc (suc (suc unanswered))) h v s' r0 t0 e0 hv hs hr ht he challenge differ = absurd (omega arith)

  -- ---- elements

  -- r1 and t1 are differences in every round
  formed : (s x r0 t0 : X) (e0 e1 mask : Y) → IsX r0 → IsX t0 → IsY e0 → IsY e1 → IsY mask →
      AreElements IsX IsY (record { r0 = r0; r1 = sub_x s r0; t0 = t0; t1 = sub_x x t0; e0 = e0; e1 = e1; mask = mask })
  formed s x r0 t0 e0 e1 mask hr ht he he1 hm =
      record { r0_is = hr; r1_is = k.group_x.sub_is _ _; t0_is = ht; t1_is = k.group_x.sub_is _ _; e0_is = he; e1_is = he1; mask_is = hm }

  -- All vectors of a round are elements, where those lent are.
  pub are_elements_three : (s r0 t0 : X) (e0 : Y) → IsX r0 → IsX t0 → IsY e0 → AreElements IsX IsY (card_three o s r0 t0 e0)
  unfolding card_three r1_of t1_of e1_of masked
  are_elements_three s r0 t0 e0 hr ht he = formed s r0 r0 t0 e0 _ _ hr ht he (k.group_y.sub_is _ _) (k.group_y.add_is _ _)

  pub are_elements_five : (α : S) (s r0 t0 : X) (e0 : Y) → IsX r0 → IsX t0 → IsY e0 → AreElements IsX IsY (card_five o α s r0 t0 e0)
  unfolding card_five r1_of t1_by e1_by masked
  are_elements_five α s r0 t0 e0 hr ht he = formed s (mul_x α r0) r0 t0 e0 _ _ hr ht he (k.group_y.sub_is _ _) (k.group_y.add_is _ _)

  pub are_elements_simulated : (unanswered : ℕ) (v : Y) (s' r0 t0 : X) (e0 : Y) → IsX r0 → IsX t0 → IsY e0 →
      AreElements IsX IsY (simulated o unanswered v s' r0 t0 e0)
  unfolding simulated simulated_e1 simulated_mask r1_of t1_of e1_of masked unmasked
  are_elements_simulated unanswered v s' r0 t0 e0 hr ht he =
      formed s' r0 r0 t0 e0 _ _ hr ht he (either IsY (eqb unanswered 0) _ _ (k.group_y.sub_is _ _) (k.group_y.sub_is _ _))
      (either IsY (eqb unanswered 2) _ _ (k.group_y.sub_is _ _) (k.group_y.add_is _ _))
