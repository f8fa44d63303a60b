-- The full set of a round as it is computed and as document 01 says it. Assumes nothing.
use Prim.Native.Nat.{ℕ, zero, suc, ◌<◌}
use mathlib.Core.Path.{◌≡◌, refl, sym, ap, subst}
use mathlib.Core.Bool.{Bool, true, false, not, ◌&&◌}
use mathlib.Core.Logic.{◌⊎◌, inl, inr, ⊎_elim}
use mathlib.Core.List.{List}
use native.Mathlib.Nat.{lt_of_not-le}
use native.Mathlib.Omega.{arith}
use borrow.Author.Tests.{eqb-true, eqb-false, eq-eqb, ne_eqb, not-true}
use lib.Dec.{eqb}
use Rattle.slices.specs.Slices.{◌!◌, same}
use Rattle.slices.proofs.Booleans.{and_left, and_right, and_both}
use Rattle.slices.proofs.Sameness.{same_true, same_by}
use Rattle.scheme.specs.declared.Scheme.TheVariants.{ThreePass, FivePass}
use Rattle.transcript.specs.Transcript.{round_turn, round_challenge}
use Rattle.full_set.specs.FullSet.{answering, answered, full_three, asked_both, full_five, full_set}
use Rattle.findings.specs.Findings.{FullThree, FullFive, Among}

-- ---- three passes

module _ (a b c : List ℕ) (r k : ℕ) where
  -- one of the records has the challenge
  abbrev Asked : Type 0
  Asked = (round_challenge a r ≡ k) ⊎ ((round_challenge b r ≡ k) ⊎ (round_challenge c r ≡ k))

  -- it is one of the three
  pub answering_among : Among a b c (answering a b c r k)
  unfolding answering
  answering_among = go (eqb (round_challenge a r) k) (eqb (round_challenge b r) k) refl refl
    where
      go : (ta tb : Bool) → eqb (round_challenge a r) k ≡ ta → eqb (round_challenge b r) k ≡ tb → Among a b c (answering a b c r k)
      go true tb ea eb = inl (simp ea)
      go false true ea eb = inr (inl (simp (ea, eb)))
      go false false ea eb = inr (inr (simp (ea, eb)))

  asked_when_answered : answered a b c r k ≡ true → Asked
  unfolding answered answering
  asked_when_answered = go (eqb (round_challenge a r) k) (eqb (round_challenge b r) k) refl refl
    where
      go : (ta tb : Bool) → eqb (round_challenge a r) k ≡ ta → eqb (round_challenge b r) k ≡ tb → answered a b c r k ≡ true → Asked
      go true tb ea eb e = inl (eqb-true _ _ ea)
      go false true ea eb e = inr (inl (eqb-true _ _ eb))
      go false false ea eb e = inr (inr (eqb-true _ _ (simp (ea, eb) at e)))

  answered_when_asked : Asked → answered a b c r k ≡ true
  unfolding answered answering
  answered_when_asked = go (eqb (round_challenge a r) k) (eqb (round_challenge b r) k) refl refl
    where
      go : (ta tb : Bool) → eqb (round_challenge a r) k ≡ ta → eqb (round_challenge b r) k ≡ tb → Asked → answered a b c r k ≡ true
      go true tb ea eb s = simp ea
      go false true ea eb s = simp (ea, eb)
      go false false ea eb s =
          let last : round_challenge c r ≡ k =
          ⊎_elim (λ (e : round_challenge a r ≡ k). absurd (eqb-false _ _ ea e))
          (λ (t : (round_challenge b r ≡ k) ⊎ (round_challenge c r ≡ k)).
          ⊎_elim (λ (e : round_challenge b r ≡ k). absurd (eqb-false _ _ eb e)) (λ (e : round_challenge c r ≡ k). e) t) s
          in
          simp (ea, eb, eq-eqb (round_challenge c r) k last)

-- the record that answers challenge k has it
pub answers : (a b c : List ℕ) (r k : ℕ) → answered a b c r k ≡ true → round_challenge (answering a b c r k) r ≡ k
unfolding answered
answers a b c r k e = eqb-true _ _ e

-- each of the three challenges is answered
pub record AnsweredAll (a b c : List ℕ) (r : ℕ) : Type 0 where
  pub zero_is : answered a b c r 0 ≡ true
  pub one_is : answered a b c r 1 ≡ true
  pub two_is : answered a b c r 2 ≡ true

pub answered_all : (a b c : List ℕ) (r : ℕ) → full_three a b c r ≡ true → AnsweredAll a b c r
unfolding full_three
answered_all a b c r e =
    let others = answered a b c r 1 && answered a b c r 2 in
    let rest = and_right (answered a b c r 0) others e in
    record { zero_is = and_left (answered a b c r 0) others e; one_is = and_left (answered a b c r 1) (answered a b c r 2) rest; two_is = and_right (answered a b c r 1) (answered a b c r 2) rest }

pub three_full : (a b c : List ℕ) (r : ℕ) → full_three a b c r ≡ true → FullThree a b c r
three_full a b c r e = go
  where
    all : AnsweredAll a b c r
    all = answered_all a b c r e

    go : (k : ℕ) → k < 3 → (round_challenge a r ≡ k) ⊎ ((round_challenge b r ≡ k) ⊎ (round_challenge c r ≡ k))
    go zero h = asked_when_answered a b c r 0 all.zero_is
    go (suc zero) h = asked_when_answered a b c r 1 all.one_is
    go (suc (suc zero)) h = asked_when_answered a b c r 2 all.two_is
    go (suc (suc (suc k))) h = absurd (omega arith)

pub full_three_lem : (a b c : List ℕ) (r : ℕ) → FullThree a b c r → full_three a b c r ≡ true
unfolding full_three
full_three_lem a b c r full =
    and_both _ _ (answered_when_asked a b c r 0 (full 0 (omega arith)))
    (and_both _ _ (answered_when_asked a b c r 1 (full 1 (omega arith))) (answered_when_asked a b c r 2 (full 2 (omega arith))))

-- u or w is k, where k is below 3
abbrev OneOf : ℕ → ℕ → ℕ → Type 0
OneOf u w k = k < 3 → (u ≡ k) ⊎ (w ≡ k)

-- two numbers are not all of 0, 1 and 2
not_two : (u w : ℕ) → ((k : ℕ) → OneOf u w k) → ⊥
not_two u w all = go (all 0 (omega arith)) (all 1 (omega arith)) (all 2 (omega arith))
  where
    go : (u ≡ 0) ⊎ (w ≡ 0) → (u ≡ 1) ⊎ (w ≡ 1) → (u ≡ 2) ⊎ (w ≡ 2) → ⊥
    go (inl e) (inl f) g = omega arith
    go (inr e) (inr f) g = omega arith
    go (inl e) (inr f) (inl g) = omega arith
    go (inl e) (inr f) (inr g) = omega arith
    go (inr e) (inl f) (inl g) = omega arith
    go (inr e) (inl f) (inr g) = omega arith

-- the record that answers the challenge of x is x
pub record Alone (a b c : List ℕ) (r : ℕ) (x : List ℕ) : Type 0 where
  pub below : round_challenge x r < 3
  pub is : answering a b c r (round_challenge x r) ≡ x

module _ (a b c : List ℕ) (r : ℕ) (full : FullThree a b c r) where
  abbrev a_asks : ℕ
  a_asks = round_challenge a r

  abbrev b_asks : ℕ
  b_asks = round_challenge b r

  abbrev c_asks : ℕ
  c_asks = round_challenge c r

  -- the challenges of a full set are not two numbers
  three_needed : (u w : ℕ) → OneOf u w a_asks → OneOf u w b_asks → OneOf u w c_asks → ⊥
  three_needed u w of_a of_b of_c =
      not_two u w (λ k h.
      ⊎_elim (λ (e : a_asks ≡ k). subst (OneOf u w) e of_a h)
      (λ (t : (b_asks ≡ k) ⊎ (c_asks ≡ k)). ⊎_elim (λ (e : b_asks ≡ k). subst (OneOf u w) e of_b h) (λ (e : c_asks ≡ k). subst (OneOf u w) e of_c h) t) (full k h))

  ab_differ : a_asks ≡ b_asks → ⊥
  ab_differ e = three_needed b_asks c_asks (λ _. inl (sym e)) (λ _. inl refl) (λ _. inr refl)

  ac_differ : a_asks ≡ c_asks → ⊥
  ac_differ e = three_needed b_asks c_asks (λ _. inr (sym e)) (λ _. inl refl) (λ _. inr refl)

  bc_differ : b_asks ≡ c_asks → ⊥
  bc_differ e = three_needed a_asks c_asks (λ _. inl refl) (λ _. inr (sym e)) (λ _. inr refl)

  -- so each of its records has one of its own
  pub alone : (x : List ℕ) → Among a b c x → Alone a b c r x
  unfolding answering
  alone x (inl e) =
      subst (Alone a b c r) (sym e) (record {
        below = lt_of_not-le (λ high. three_needed b_asks c_asks (λ low. absurd (omega arith)) (λ _. inl refl) (λ _. inr refl));
        is = simp (eq-eqb a_asks a_asks refl);
      })
  alone x (inr (inl e)) =
      subst (Alone a b c r) (sym e) (record {
        below = lt_of_not-le (λ high. three_needed a_asks c_asks (λ _. inl refl) (λ low. absurd (omega arith)) (λ _. inr refl));
        is = simp (ne_eqb a_asks b_asks ab_differ, eq-eqb b_asks b_asks refl);
      })
  alone x (inr (inr e)) =
      subst (Alone a b c r) (sym e) (record {
        below = lt_of_not-le (λ high. three_needed a_asks b_asks (λ _. inl refl) (λ _. inr refl) (λ low. absurd (omega arith)));
        is = simp (ne_eqb a_asks c_asks ac_differ, ne_eqb b_asks c_asks bc_differ);
      })

-- ---- five passes

-- challenges 0 and 1 after the same turn
record Both (x y : List ℕ) (r : ℕ) : Type 0 where
  zero_asked : round_challenge x r ≡ 0
  one_asked : round_challenge y r ≡ 1
  same_turn : round_turn x r ≡ round_turn y r

asked_both_lem : (x y : List ℕ) (r : ℕ) → asked_both x y r ≡ true → Both x y r
unfolding asked_both
asked_both_lem x y r e =
    let zero_test = eqb (round_challenge x r) 0 in
    let one_test = eqb (round_challenge y r) 1 in
    let turn_test = same (round_turn x r) (round_turn y r) in
    let rest = and_right zero_test (one_test && turn_test) e in
    record {
      zero_asked = eqb-true _ _ (and_left zero_test (one_test && turn_test) e);
      one_asked = eqb-true _ _ (and_left one_test turn_test rest);
      same_turn = same_true _ _ (and_right one_test turn_test rest);
    }

pub five_full : (a b c d : List ℕ) (r : ℕ) → full_five a b c d r ≡ true → FullFive a b c d r
unfolding full_five
five_full a b c d r e =
    let alpha_test = not (eqb (round_turn a r ! 0) (round_turn c r ! 0)) in
    let rest = and_right (asked_both a b r) (asked_both c d r && alpha_test) e in
    let ab = asked_both_lem a b r (and_left (asked_both a b r) (asked_both c d r && alpha_test) e) in
    let cd = asked_both_lem c d r (and_left (asked_both c d r) alpha_test rest) in
    record {
      a_challenge = ab.zero_asked;
      b_challenge = ab.one_asked;
      c_challenge = cd.zero_asked;
      d_challenge = cd.one_asked;
      ab_turn = ab.same_turn;
      cd_turn = cd.same_turn;
      other_alpha = eqb-false _ _ (not-true _ (and_right (asked_both c d r) alpha_test rest));
    }

pub full_five_lem : (a b c d : List ℕ) (r : ℕ) → FullFive a b c d r → full_five a b c d r ≡ true
unfolding full_five asked_both
full_five_lem a b c d r k =
    and_both _ _ (and_both _ _ (eq-eqb _ _ k.a_challenge) (and_both _ _ (eq-eqb _ _ k.b_challenge) (same_by _ _ k.ab_turn)))
    (and_both _ _ (and_both _ _ (eq-eqb _ _ k.c_challenge) (and_both _ _ (eq-eqb _ _ k.d_challenge) (same_by _ _ k.cd_turn)))
    (ap not (ne_eqb _ _ k.other_alpha)))

-- ---- the scheme chooses

pub set_three : (a b c d : List ℕ) (r : ℕ) → full_set ThreePass a b c d r ≡ full_three a b c r
unfolding full_set
set_three a b c d r = refl

pub set_five : (a b c d : List ℕ) (r : ℕ) → full_set FivePass a b c d r ≡ full_five a b c d r
unfolding full_set
set_five a b c d r = refl
