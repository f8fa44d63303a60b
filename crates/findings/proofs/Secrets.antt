-- Special soundness of the records' bytes: where the openings of a full set agree in their vectors, r0 + r1 solves F = v. Assumes nothing.
use Prim.Native.Nat.{ℕ, ◌≤◌, ◌<◌}
use mathlib.Core.Path.{◌≡◌, refl, sym, ap, ap₂, subst, ◌∙◌}
use mathlib.Core.List.{List, ◌++◌}
use lib.ListN.{take}
use lib.Seq.{get_or-take}
use Rattle.slices.specs.Slices.{◌!◌}
use Rattle.slices.proofs.Parts.{append_split}
use Rattle.field.specs.Vector.{vector, slot_v, add_v}
use Rattle.field.proofs.Vectors.{vector_at, vector_cong}
use Rattle.system.specs.System.{n_of, m_of, ops_of, F, system_refusal}
use Rattle.system.proofs.SystemLayout.{accepted}
use Rattle.protocol.specs.Protocols.{t0_of, e0_of, unmasked, masked, AgreeThree, t0_by, e0_by, unmasked_by, AgreeFive}
use Rattle.protocol.specs.Rounds.{map_of, IsX}
use Rattle.protocol.proofs.Rounds.{quadratic_map, soundness_three, soundness_five}
use Rattle.scheme.specs.declared.Scheme.TheVariants.{ThreePass, FivePass}
use Rattle.commitment.specs.declared.Domain.{Domain}
use Rattle.commitment.specs.Commitment.{vectors_in}
use Rattle.exchange.specs.Messages.{middle_in, reply_three_in, reply_five_in}
use Rattle.exchange.proofs.ReadBack.{Padded, length_padded}
use Rattle.record_form.specs.Record.{header_in}
use Rattle.transcript.specs.Transcript.{domain_in, key_vector, round_turn, round_challenge}
use Rattle.openings.specs.Openings.{string_in, reply_vector, secret_of}
use Rattle.findings.specs.Findings.{Auditable, FullFive}
use Rattle.findings.proofs.Strings.{reply_in, reply_in_five, sent_in, row, zero_first, zero_second, one_first, one_second, two_first, two_second, zero_vectors, one_vectors}
use Rattle.findings.proofs.Elements.{same_domain, same_v, v_is, x_is, alpha_is}

-- ---- vectors in a row

held_vector : (n : ℕ) (f : ℕ → ℕ) → Padded n (vector n f)
held_vector n f = vector_cong n f _ (λ i h l. sym (vector_at n f i h l))

same_held : (n : ℕ) (x y : List ℕ) → Padded n x → Padded n y → take n x ≡ take n y → x ≡ y
same_held n x y hx hy e =
    hx ∙ vector_cong n _ _ (λ i h l. sym (get_or-take n x i 0 h) ∙ ap (λ (k : List ℕ). k ! i) e ∙ get_or-take n y i 0 h) ∙ sym hy

-- the first vector, and what stands behind it
split_vector : (n : ℕ) (x y s t : List ℕ) → n ≤ 96 → Padded n x → Padded n y → take n x ++ s ≡ take n y ++ t → (x ≡ y) × (s ≡ t)
split_vector n x y s t small hx hy e =
    let parts = append_split (take n x) (take n y) s t (length_padded n x small hx ∙ sym (length_padded n y small hy)) e in
    (same_held n x y hx hy parts.0, parts.1)

split_two : (n m : ℕ) (x y u w : List ℕ) → n ≤ 96 → Padded n x → Padded n y → Padded m u → Padded m w → take n x ++ take m u ≡ take n y ++ take m w → (x ≡ y) × (u ≡ w)
split_two n m x y u w small hx hy hu hw e =
    let parts = split_vector n x y _ _ small hx hy e in
    (parts.0, same_held m u w hu hw parts.1)

-- ---- three passes

-- the vectors of a reply are held in their lengths
record HeldThree (system b : List ℕ) (r : ℕ) : Type 0 where
  x_held : Padded (n_of system) (reply_in system b r).x
  y_held : Padded (n_of system) (reply_in system b r).y
  z_held : Padded (m_of system) (reply_in system b r).z

held_three : (system b : List ℕ) (r : ℕ) → HeldThree system b r
unfolding reply_three_in slot_v
held_three system b r = record { x_held = held_vector (n_of system) _; y_held = held_vector (n_of system) _; z_held = held_vector (m_of system) _ }

first_x : (system b : List ℕ) (r : ℕ) → reply_vector system b r ≡ (reply_in system b r).x
unfolding reply_vector reply_three_in
first_x system b r = refl

-- the records z, o and t answer 0, 1 and 2
module _ (system a z o t : List ℕ) (r : ℕ) (good : system_refusal system ≡ 0) where
  -- the vectors with which a record opens commitment k
  abbrev vectors_for : List ℕ → ℕ → List ℕ
  vectors_for b k = vectors_in (domain_in a) (string_in system b r k)

  pub three_secret : Auditable ThreePass system a z → Auditable ThreePass system a o → Auditable ThreePass system a t → r < (header_in z).rounds →
      round_challenge z r ≡ 0 → round_challenge o r ≡ 1 → round_challenge t r ≡ 2 →
      vectors_for o 0 ≡ vectors_for t 0 → vectors_for z 1 ≡ vectors_for t 1 → vectors_for z 2 ≡ vectors_for o 2 →
      F system (secret_of system z o r) ≡ key_vector a
  unfolding secret_of t0_of e0_of unmasked masked
  three_secret kz ko kt within asked_z asked_o asked_t c0 c1 c2 =
      let n = n_of system in
      let m = m_of system in
      let hn = (accepted system good).n_high in
      let map = quadratic_map system good in
      let hz = held_three system z r in
      let ho = held_three system o r in
      let ht = held_three system t r in
      let zero_by = same_domain ThreePass system a z kz in
      let one_by = same_domain ThreePass system a o ko in
      let two_by = same_domain ThreePass system a t kt in
      let p0 = split_two n m _ _ _ _ hn ho.x_held ht.x_held (map.group_y.sub_is _ _).padded (map.group_y.add_is _ _).padded
      (sym (one_first _ system o r one_by ko.for_scheme asked_o) ∙ c0 ∙ two_first _ system t r two_by kt.for_scheme asked_t)
      in
      let p1 = split_two n m _ _ _ _ hn (map.group_x.sub_is _ _).padded ht.y_held (map.group_y.sub_is _ _).padded ht.z_held
      (sym (zero_first _ system z r zero_by kz.for_scheme asked_z) ∙ c1 ∙ two_second _ system t r two_by kt.for_scheme asked_t)
      in
      let p2 = split_two n m _ _ _ _ hn hz.y_held ho.y_held hz.z_held ho.z_held
      (sym (zero_second _ system z r zero_by kz.for_scheme asked_z) ∙ c2 ∙ one_second _ system o r one_by ko.for_scheme asked_o)
      in
      let agree : AgreeThree (map_of system) (key_vector o) (reply_in system z r).x (reply_in system z r).y (reply_in system z r).z
      (reply_in system o r).x (reply_in system o r).y (reply_in system o r).z (reply_in system t r).x (reply_in system t r).y (reply_in system t r).z =
      record { c0_r = p0.0; c0_mask = p0.1; c1_t = p1.0; c1_e = p1.1; c2_t = p2.0; c2_e = p2.1 }
      in
      ap₂ (λ (p q : List ℕ). F system (add_v (ops_of system) n p q)) (first_x system z r) (first_x system o r) ∙
      soundness_three system good (key_vector o) _ _ _ _ _ _ _ _ _ (v_is ThreePass system a o good ko) (subst (IsX system) (first_x system z r) (x_is ThreePass system a z good kz r within)) agree ∙
      same_v ThreePass system a o ko

-- ---- five passes

x_held_five : (system b : List ℕ) (r : ℕ) → Padded (n_of system) (reply_in_five system b r).x
unfolding reply_five_in slot_v
x_held_five system b r = held_vector (n_of system) _

first_x_five : (system b : List ℕ) (r : ℕ) → reply_vector system b r ≡ (reply_in_five system b r).x
unfolding reply_vector reply_five_in
first_x_five system b r = refl

-- the opening of challenge 1 with the key and the α, t1, e1 of another record
abbrev unmasked_with : List ℕ → List ℕ → List ℕ → List ℕ → List ℕ
unmasked_with system v turn x =
    unmasked_by (map_of system) (turn ! 0) v x (middle_in (n_of system) (m_of system) turn).t1 (middle_in (n_of system) (m_of system) turn).e1

one_with : (d : Domain) (system b v turn : List ℕ) (r : ℕ) → d ≡ domain_in b → (header_in b).scheme ≡ FivePass → round_challenge b r ≡ 1 → key_vector b ≡ v →
    turn ≡ round_turn b r →
    vectors_in d (string_in system b r 1) ≡ row system (reply_in_five system b r).x (unmasked_with system v turn (reply_in_five system b r).x)
one_with d system b v turn r by is asked key same =
    one_vectors d system b r by is asked ∙
    ap₂ (λ (k l : List ℕ). row system (reply_in_five system b r).x (unmasked_with system k l (reply_in_five system b r).x)) key (sym same)

module _ (system a b c d : List ℕ) (r : ℕ) (good : system_refusal system ≡ 0) where
  abbrev vectors_five : List ℕ → ℕ → List ℕ
  vectors_five x k = vectors_in (domain_in a) (string_in system x r k)

  pub five_secret : Auditable FivePass system a a → Auditable FivePass system a b → Auditable FivePass system a c → Auditable FivePass system a d →
      r < (header_in a).rounds → r < (header_in c).rounds → FullFive a b c d r → vectors_five a 0 ≡ vectors_five c 0 → vectors_five b 1 ≡ vectors_five d 1 →
      F system (secret_of system a b r) ≡ key_vector a
  unfolding secret_of t0_by e0_by unmasked_by
  five_secret ka kb kc kd within_a within_c full c0 c1 =
      let n = n_of system in
      let m = m_of system in
      let hn = (accepted system good).n_high in
      let map = quadratic_map system good in
      let v = key_vector a in
      let p0 = split_vector n _ _ _ _ hn (x_held_five system a r) (x_held_five system c r)
      (sym (zero_vectors _ system a r refl ka.for_scheme full.a_challenge) ∙ c0 ∙
      zero_vectors _ system c r (same_domain FivePass system a c kc) kc.for_scheme full.c_challenge)
      in
      let q0 = split_two n m _ _ _ _ hn (map.group_x.sub_is _ _).padded (map.group_x.sub_is _ _).padded (map.group_y.sub_is _ _).padded (map.group_y.sub_is _ _).padded p0.1 in
      let p1 = split_two n m _ _ _ _ hn (x_held_five system b r) (x_held_five system d r) (map.group_y.sub_is _ _).padded (map.group_y.sub_is _ _).padded
      (sym (one_with _ system b v (round_turn a r) r (same_domain FivePass system a b kb) kb.for_scheme full.b_challenge (same_v FivePass system a b kb) full.ab_turn) ∙ c1 ∙
      one_with _ system d v (round_turn c r) r (same_domain FivePass system a d kd) kd.for_scheme full.d_challenge (same_v FivePass system a d kd) full.cd_turn)
      in
      let agree : AgreeFive (map_of system) v (round_turn a r ! 0) (sent_in system a r).t1 (sent_in system a r).e1 (reply_in_five system a r).x (reply_in_five system b r).x
      (round_turn c r ! 0) (sent_in system c r).t1 (sent_in system c r).e1 (reply_in_five system c r).x (reply_in_five system d r).x =
      record { c0_r = p0.0; c0_t = q0.0; c0_e = q0.1; c1_r = p1.0; c1_mask = p1.1 }
      in
      ap₂ (λ (p q : List ℕ). F system (add_v (ops_of system) n p q)) (first_x_five system a r) (first_x_five system b r) ∙
      soundness_five system good v _ _ _ _ _ _ _ _ _ _ (v_is FivePass system a a good ka) (alpha_is FivePass system a a good ka r within_a) (alpha_is FivePass system a c good kc r within_c)
      full.other_alpha agree
