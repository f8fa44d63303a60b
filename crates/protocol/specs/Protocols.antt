-- Document 01, "Three-pass round", "Five-pass round" and "Simulator": the vectors of a round, over any structure. `Rounds.antt` beside this file supplies the
-- structure of a system's bytes. Values are named as in the document; where it has one name in both schemes, that of five passes ends in `By` here, for "by α".
use Rattle.std.specs.Prelude.{ℕ, ◌≡◌, cond, eqb}
use Rattle.protocol.specs.Structure.{QuadraticOps}

-- the vectors of one round as the card or the simulator holds them. `mask` stands beside r1 in its commitment: c0, in scheme 5 c1
pub record Vectors (X Y : Type 0) : Type 0 where
  pub r0 : X
  pub r1 : X
  pub t0 : X
  pub t1 : X
  pub e0 : Y
  pub e1 : Y
  pub mask : Y

-- each of them is an element
pub record AreElements {X Y : Type 0} (IsX : X → Type 0) (IsY : Y → Type 0) (w : Vectors X Y) : Type 0 where
  pub r0_is : IsX w.r0
  pub r1_is : IsX w.r1
  pub t0_is : IsX w.t0
  pub t1_is : IsX w.t1
  pub e0_is : IsY w.e0
  pub e1_is : IsY w.e1
  pub mask_is : IsY w.mask

-- ---- by the difference of vectors alone: the card forms them for its reply, when no system is lent to it
module _ {X : Type 0} (sub : X → X → X) where
  -- "r1 = s - r0", in both schemes
  unfoldable pub r1_of : X → X → X
  r1_of s r0 = sub s r0

  -- "t1 = r0 - t0"
  unfoldable pub t1_of : X → X → X
  t1_of r0 t0 = sub r0 t0

  -- "0: .. Opens c1 with (r0 - t1, F(r0) - e1)": its first vector
  unfoldable pub t0_of : X → X → X
  t0_of r0 t1 = sub r0 t1

module _ {X Y S : Type 0} (o : QuadraticOps X Y S) where
  open o use {add_x, sub_x, mul_x, add_y, sub_y, mul_y, F, G}

  -- ---- three passes

  -- "e1 = F(r0) - e0"
  unfoldable pub e1_of : X → Y → Y
  e1_of r0 e0 = sub_y (F r0) e0

  -- "G(t0,r1) + e0", in both schemes
  unfoldable pub masked : X → X → Y → Y
  masked t0 r1 e0 = add_y (G t0 r1) e0

  -- "0: .. Opens c1 with (r0 - t1, F(r0) - e1)": its second vector
  unfoldable pub e0_of : X → Y → Y
  e0_of r0 e1 = sub_y (F r0) e1

  -- "1: .. Opens c0 with (r1, v - F(r1) - G(t1,r1) - e1)"
  unfoldable pub unmasked : Y → X → X → Y → Y
  unmasked v r1 t1 e1 = sub_y (sub_y (sub_y v (F r1)) (G t1 r1)) e1

  -- "Lent .. r0 (n), t0 (n), e0 (m) .. Then r1 = s - r0, t1 = r0 - t0, e1 = F(r0) - e0." and c0's second vector
  unfoldable pub card_three : X → X → X → Y → Vectors X Y
  card_three s r0 t0 e0 =
      let r1 = r1_of sub_x s r0 in
      record { r0 = r0; r1 = r1; t0 = t0; t1 = t1_of sub_x r0 t0; e0 = e0; e1 = e1_of r0 e0; mask = masked t0 r1 e0 }

  -- each vector with which the reply to the challenge opens a commitment is the one committed to. The vectors of a reply that are opened as they are, as
  -- "c2 with (t1, e1)", are those of the commitment
  pub record OpensThree (v : Y) (w : Vectors X Y) (challenge : ℕ) : Type 0 where
    pub zero_t : challenge ≡ 0 → t0_of sub_x w.r0 w.t1 ≡ w.t0
    pub zero_e : challenge ≡ 0 → e0_of w.r0 w.e1 ≡ w.e0
    pub one : challenge ≡ 1 → unmasked v w.r1 w.t1 w.e1 ≡ w.mask
    pub two : challenge ≡ 2 → masked w.t0 w.r1 w.e0 ≡ w.mask

  -- the replies (r0, t1, e1) to 0, (r1, t1', e1') to 1 and (r1', t0, e0) to 2 open each commitment with the same vectors
  pub record AgreeThree (v : Y) (r0 t1 : X) (e1 : Y) (r1 t1' : X) (e1' : Y) (r1' t0 : X) (e0 : Y) : Type 0 where
    pub c0_r : r1 ≡ r1'
    pub c0_mask : unmasked v r1 t1' e1' ≡ masked t0 r1' e0
    pub c1_t : t0_of sub_x r0 t1 ≡ t0
    pub c1_e : e0_of r0 e1 ≡ e0
    pub c2_t : t1 ≡ t1'
    pub c2_e : e1 ≡ e1'

  -- ---- five passes

  -- "The card sends t1 = αr0 - t0"
  unfoldable pub t1_by : S → X → X → X
  t1_by α r0 t0 = sub_x (mul_x α r0) t0

  -- "then e1 = αF(r0) - e0"
  unfoldable pub e1_by : S → X → Y → Y
  e1_by α r0 e0 = sub_y (mul_y α (F r0)) e0

  -- "Challenge 0: .. opens c0 with (r0, αr0 - t1, αF(r0) - e1)": its second vector
  unfoldable pub t0_by : S → X → X → X
  t0_by α r0 t1 = sub_x (mul_x α r0) t1

  -- and its third
  unfoldable pub e0_by : S → X → Y → Y
  e0_by α r0 e1 = sub_y (mul_y α (F r0)) e1

  -- "Challenge 1: .. opens c1 with (r1, α(v - F(r1)) - G(t1,r1) - e1)"
  unfoldable pub unmasked_by : S → Y → X → X → Y → Y
  unmasked_by α v r1 t1 e1 = sub_y (sub_y (mul_y α (sub_y v (F r1))) (G t1 r1)) e1

  -- "Lent .. r0, t0, e0 .. r1 = s - r0", t1 and e1 for α, and c1's second vector
  unfoldable pub card_five : S → X → X → X → Y → Vectors X Y
  card_five α s r0 t0 e0 =
      let r1 = r1_of sub_x s r0 in
      record { r0 = r0; r1 = r1; t0 = t0; t1 = t1_by α r0 t0; e0 = e0; e1 = e1_by α r0 e0; mask = masked t0 r1 e0 }

  -- each vector with which the reply to the challenge opens its commitment is the one committed to
  pub record OpensFive (α : S) (v : Y) (w : Vectors X Y) (challenge : ℕ) : Type 0 where
    pub zero_t : challenge ≡ 0 → t0_by α w.r0 w.t1 ≡ w.t0
    pub zero_e : challenge ≡ 0 → e0_by α w.r0 w.e1 ≡ w.e0
    pub one : challenge ≡ 1 → unmasked_by α v w.r1 w.t1 w.e1 ≡ w.mask

  -- with α, t1, e1 the replies r0 to 0 and r1 to 1, and with α', t1', e1' the replies r0' and r1', open each commitment with the same vectors
  pub record AgreeFive (v : Y) (α : S) (t1 : X) (e1 : Y) (r0 r1 : X) (α' : S) (t1' : X) (e1' : Y) (r0' r1' : X) : Type 0 where
    pub c0_r : r0 ≡ r0'
    pub c0_t : t0_by α r0 t1 ≡ t0_by α' r0' t1'
    pub c0_e : e0_by α r0 e1 ≡ e0_by α' r0' e1'
    pub c1_r : r1 ≡ r1'
    pub c1_mask : unmasked_by α v r1 t1 e1 ≡ unmasked_by α' v r1' t1' e1'

  -- ---- the simulator

  -- "e1 = F(r0) - e0, or for Ch* = 0 v - F(s') + F(r0) - e0"
  unfoldable pub simulated_e1 : ℕ → Y → X → X → Y → Y
  simulated_e1 unanswered v s' r0 e0 = cond (eqb unanswered 0) (sub_y (add_y (sub_y v (F s')) (F r0)) e0) (e1_of r0 e0)

  -- "For Ch* = 2, c0 uses v - F(r1) - G(t1,r1) - e1. All else is formed as on the card."
  unfoldable pub simulated_mask : ℕ → Y → X → X → X → Y → Y → Y
  simulated_mask unanswered v r1 t0 t1 e0 e1 = cond (eqb unanswered 2) (unmasked v r1 t1 e1) (masked t0 r1 e0)

  -- "it forms r1 = s' - r0, t1 = r0 - t0"; `unanswered` is Ch*, the challenge that is not answered
  unfoldable pub simulated : ℕ → Y → X → X → X → Y → Vectors X Y
  simulated unanswered v s' r0 t0 e0 =
      let r1 = r1_of sub_x s' r0 in
      let t1 = t1_of sub_x r0 t0 in
      let e1 = simulated_e1 unanswered v s' r0 e0 in
      record { r0 = r0; r1 = r1; t0 = t0; t1 = t1; e0 = e0; e1 = e1; mask = simulated_mask unanswered v r1 t0 t1 e0 e1 }
