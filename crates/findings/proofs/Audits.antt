-- Demand 3's first half for both audits: the laws of each scheme, and the claims. Assumes nothing.
use Prim.Native.Nat.{ℕ, zero, suc, ◌<◌}
use mathlib.Core.Path.{◌≡◌, refl, sym, ap, subst, ◌∙◌}
use mathlib.Core.Bool.{true}
use mathlib.Core.Logic.{inl, inr}
use mathlib.Core.List.{List, [], ◌∷◌}
use native.Mathlib.Omega.{arith}
use lib.Dec.{eqb}
use Rattle.slices.proofs.Booleans.{either}
use Rattle.system.specs.System.{F, system_refusal}
use Rattle.scheme.specs.declared.Scheme.{Scheme}
use Rattle.scheme.specs.declared.Scheme.TheVariants.{ThreePass, FivePass}
use Rattle.scheme.specs.Scheme.{commitment_count}
use Rattle.record_form.specs.declared.layout.Header.{Header}
use Rattle.record_form.specs.Record.{header_in}
use Rattle.transcript.specs.Transcript.{domain_in, key_vector, round_challenge}
use Rattle.comparable.specs.Comparable.{audited_refusal, difference_refusal, of_fourth}
use Rattle.comparable.proofs.Passed.{Passed}
use Rattle.openings.specs.Openings.{string_in, reply_vector, secret_of}
use Rattle.full_set.specs.FullSet.{answering}
use Rattle.clash.specs.Clash.{lower_challenge, higher_challenge, opener_five, left_record, right_record, same_pair}
use Rattle.auditing.specs.Audit.{secret_in, audit_three, audit_five}
use Rattle.findings.specs.Findings.{Auditable, AllAccepted, FullThree, FullFive, Among, OrderFive, three_pass, five_pass, Each, none_left, each, Compared, Claim, first_vector}
use Rattle.findings.proofs.Comparing.{auditable, readable, alike, fitting, alike_itself}
use Rattle.findings.proofs.Rejecting.{three_walk, five_walk}
use Rattle.findings.proofs.FullSets.{answering_among, alone, answers, AnsweredAll, answered_all, three_full, full_three_lem, five_full, full_five_lem, set_three, set_five}
use Rattle.findings.proofs.Strings.{Opened, opens_other, opened_three, opened_five}
use Rattle.findings.proofs.Elements.{domain_for, own_domain}
use Rattle.findings.proofs.Secrets.{three_secret, five_secret}
use Rattle.findings.proofs.Search.{Sound, AllSound, Laws, pair_agrees, audit_claim}

-- ---- of each record

each_first : (P : List ℕ → Type 0) (b : List ℕ) (bs : List (List ℕ)) → Each P (b ∷ bs) → P b
each_first P b bs (each _ _ p rest) = p

each_rest : (P : List ℕ → Type 0) (b : List ℕ) (bs : List (List ℕ)) → Each P (b ∷ bs) → Each P bs
each_rest P b bs (each _ _ p rest) = rest

-- nothing is refused of auditable records before their rounds are judged
passed_by : (scheme : Scheme) (system a b c d : List ℕ) → system_refusal system ≡ 0 → Auditable scheme system a a → Auditable scheme system a b →
    Auditable scheme system a c → of_fourth scheme (audited_refusal scheme d) ≡ 0 → of_fourth scheme (difference_refusal a d) ≡ 0 → Passed scheme system a b c d
passed_by scheme system a b c d good ka kb kc read same =
    record {
      good = good;
      read_a = readable scheme system a a ka;
      read_b = readable scheme system a b kb;
      read_c = readable scheme system a c kc;
      read_d = read;
      fit = fitting scheme system a ka;
      same_b = alike scheme system a b ka kb;
      same_c = alike scheme system a c ka kc;
      same_d = same;
    }

-- within the rounds of the first record, within those of another
within : (scheme : Scheme) (system a b : List ℕ) (r : ℕ) → Auditable scheme system a b → r < (header_in a).rounds → r < (header_in b).rounds
within scheme system a b r k h = subst (λ (x : Header). r < x.rounds) k.same_header h

-- ---- three passes

-- the two challenges that open commitment k
record OtherTwo (k : ℕ) : Type 0 where
  low : lower_challenge k < 3
  high : higher_challenge k < 3
  in_order_is : lower_challenge k < higher_challenge k
  low_other : lower_challenge k ≡ k → ⊥
  high_other : higher_challenge k ≡ k → ⊥

other_two : (k : ℕ) → k < 3 → OtherTwo k
unfolding lower_challenge higher_challenge
other_two zero h = omega arith
other_two (suc zero) h = omega arith
other_two (suc (suc zero)) h = omega arith
other_two (suc (suc (suc k))) h = omega arith

-- two challenges other than k, in order, are the lower and the higher that open commitment k
in_order_are : (k x y : ℕ) → k < 3 → x < y → y < 3 → (k ≡ x → ⊥) → (k ≡ y → ⊥) → (x ≡ lower_challenge k) × (y ≡ higher_challenge k)
unfolding lower_challenge higher_challenge
in_order_are zero x y hk order hy not_x not_y = omega arith
in_order_are (suc zero) x y hk order hy not_x not_y = omega arith
in_order_are (suc (suc zero)) x y hk order hy not_x not_y = omega arith
in_order_are (suc (suc (suc k))) x y hk order hy not_x not_y = omega arith

-- the record that answers challenge j has it
asked : (a b c : List ℕ) (r : ℕ) → FullThree a b c r → (j : ℕ) → j < 3 → round_challenge (answering a b c r j) r ≡ j
asked a b c r full = go (answered_all a b c r (full_three_lem a b c r full))
  where
    go : AnsweredAll a b c r → (j : ℕ) → j < 3 → round_challenge (answering a b c r j) r ≡ j
    go all zero h = answers a b c r 0 all.zero_is
    go all (suc zero) h = answers a b c r 1 all.one_is
    go all (suc (suc zero)) h = answers a b c r 2 all.two_is
    go all (suc (suc (suc j))) h = absurd (omega arith)

module _ (system a b c : List ℕ) where
  -- something holds of each of the three
  three : (P : List ℕ → Type 0) → Each P (a ∷ b ∷ c ∷ []) → P a × P b × P c
  three P all =
      let after_a = each_rest P a (b ∷ c ∷ []) all in
      let after_b = each_rest P b (c ∷ []) after_a in
      (each_first P a (b ∷ c ∷ []) all, each_first P b (c ∷ []) after_a, each_first P c [] after_b)

  -- so it does of one among them
  among_has : (P : List ℕ → Type 0) → Each P (a ∷ b ∷ c ∷ []) → (x : List ℕ) → Among a b c x → P x
  among_has P all x (inl e) = subst P (sym e) (three P all).0
  among_has P all x (inr (inl e)) = subst P (sym e) (three P all).1
  among_has P all x (inr (inr e)) = subst P (sym e) (three P all).2

  among_sound : AllSound (three_pass system a b c) → (x : List ℕ) → Among a b c x → Sound ThreePass system a x
  unfolding three_pass
  among_sound s x among =
      record { auditable = among_has (Auditable ThreePass system a) s.all_auditable x among; accepted = among_has (AllAccepted system) s.all_accepted x among }

  -- the one that answers a challenge is among them
  answering_sound : AllSound (three_pass system a b c) → (r j : ℕ) → Sound ThreePass system a (answering a b c r j)
  answering_sound s r j = among_sound s _ (answering_among a b c r j)

  answering_opened : AllSound (three_pass system a b c) → (r k j : ℕ) → FullThree a b c r → k < 3 → j < 3 → (j ≡ k → ⊥) →
      Opened (domain_for ThreePass) system (answering a b c r j) r k (string_in system (answering a b c r j) r k)
  unfolding three_pass
  answering_opened s r k j full hk hj other =
      let has = asked a b c r full j hj in
      let k_is = (answering_sound s r j).auditable in
      opened_three (domain_for ThreePass) system (answering a b c r j) r k (own_domain ThreePass system a _ k_is) k_is.for_scheme (rw has hj) hk (λ e. other (sym has ∙ e))

  -- no other two records of a full set open commitment k
  only_three : AllSound (three_pass system a b c) → (r k : ℕ) → FullThree a b c r → (x y : List ℕ) (p : Compared (three_pass system a b c) r k x y) →
      (k < 3) × (p.left ≡ answering a b c r (lower_challenge k)) × (p.right ≡ answering a b c r (higher_challenge k))
  unfolding three_pass
  only_three s r k full x y p =
      let left = alone a b c r full p.left p.order.left_among in
      let right = alone a b c r full p.right p.order.right_among in
      let from_left = opens_other system p.left r k x (among_sound s p.left p.order.left_among).auditable.for_scheme p.left_opens in
      let from_right = opens_other system p.right r k y (among_sound s p.right p.order.right_among).auditable.for_scheme p.right_opens in
      let are = in_order_are k (round_challenge p.left r) (round_challenge p.right r) from_left.0 p.order.lower_first right.below from_left.1 from_right.1 in
      (from_left.0, sym left.is ∙ ap (answering a b c r) are.0, sym right.is ∙ ap (answering a b c r) are.1)

  -- whatever stands in the place of a fourth record
  three_laws : (d : List ℕ) → Laws (three_pass system a b c) b c d
  unfolding three_pass of_fourth left_record right_record lower_challenge higher_challenge commitment_count secret_in secret_of reply_vector first_vector
  three_laws d =
      record {
        passed_tells = λ k.
            each a _ (auditable ThreePass system a a k.read_a k.fit (alike_itself a))
            (each b _ (auditable ThreePass system a b k.read_b k.fit k.same_b) (each c _ (auditable ThreePass system a c k.read_c k.fit k.same_c) none_left));
        passed_when = λ good all.
            let k = three (Auditable ThreePass system a) all in
            passed_by ThreePass system a b c d good k.0 k.1 k.2 refl refl;
        walked = three_walk system a b c d;
        full_tells = λ r e. three_full a b c r (sym (set_three a b c d r) ∙ e);
        full_when = λ r full. set_three a b c d r ∙ full_three_lem a b c r full;
        secret_solves = secret_solves_three;
        secret_sum = λ r full.
            record {
              x = answering a b c r 0;
              y = answering a b c r 1;
              x_among = answering_among a b c r 0;
              y_among = answering_among a b c r 1;
              x_challenge = asked a b c r full 0 (omega arith);
              y_challenge = asked a b c r full 1 (omega arith);
              sum = refl;
            };
        pair_order = λ r k full h.
            let o = other_two k h in
            record {
              left_among = answering_among a b c r (lower_challenge k);
              right_among = answering_among a b c r (higher_challenge k);
              lower_first = rw (asked a b c r full (lower_challenge k) o.low, asked a b c r full (higher_challenge k) o.high) o.in_order_is;
            };
        left_sound = λ s r k. answering_sound s r (lower_challenge k);
        right_sound = λ s r k. answering_sound s r (higher_challenge k);
        left_opened = λ s r k full h. let o = other_two k h in answering_opened s r k (lower_challenge k) full h o.low o.low_other;
        right_opened = λ s r k full h. let o = other_two k h in answering_opened s r k (higher_challenge k) full h o.high o.high_other;
        only_pair = only_three;
      }
    where
      secret_solves_three : AllSound (three_pass system a b c) → (r : ℕ) → r < (header_in a).rounds → FullThree a b c r →
          ((k : ℕ) → k < 3 → same_pair ThreePass system a b c d r k ≡ true) → F system (secret_in ThreePass system a b c r) ≡ key_vector a
      secret_solves_three s r h full same =
          let k : (j : ℕ) → Auditable ThreePass system a (answering a b c r j) = λ j. (answering_sound s r j).auditable in
          three_secret system a (answering a b c r 0) (answering a b c r 1) (answering a b c r 2) r s.good (k 0) (k 1) (k 2) (within ThreePass system a _ r (k 0) h)
          (asked a b c r full 0 (omega arith)) (asked a b c r full 1 (omega arith)) (asked a b c r full 2 (omega arith))
          (pair_agrees (domain_in a) ThreePass system a b c d r 0 refl (same 0 (omega arith))) (pair_agrees (domain_in a) ThreePass system a b c d r 1 refl (same 1 (omega arith)))
          (pair_agrees (domain_in a) ThreePass system a b c d r 2 refl (same 2 (omega arith)))

  -- the audit of three records of scheme 3
  pub audit_three_claim : Claim (three_pass system a b c) (audit_three system a b c)
  unfolding audit_three three_pass
  audit_three_claim = audit_claim (three_pass system a b c) b c c (three_laws c)

-- ---- five passes

module _ (system a b c d : List ℕ) where
  -- what is known of the four records
  record FourSound : Type 0 where
    of_a : Sound FivePass system a a
    of_b : Sound FivePass system a b
    of_c : Sound FivePass system a c
    of_d : Sound FivePass system a d

  -- something holds of each of the four
  four : (P : List ℕ → Type 0) → Each P (a ∷ b ∷ c ∷ d ∷ []) → P a × P b × P c × P d
  four P all =
      let after_a = each_rest P a (b ∷ c ∷ d ∷ []) all in
      let after_b = each_rest P b (c ∷ d ∷ []) after_a in
      let after_c = each_rest P c (d ∷ []) after_b in
      (each_first P a (b ∷ c ∷ d ∷ []) all, each_first P b (c ∷ d ∷ []) after_a, each_first P c (d ∷ []) after_b, each_first P d [] after_c)

  four_sound : AllSound (five_pass system a b c d) → FourSound
  unfolding five_pass
  four_sound s =
      let p = four (Auditable FivePass system a) s.all_auditable in
      let q = four (AllAccepted system) s.all_accepted in
      record {
        of_a = record { auditable = p.0; accepted = q.0 };
        of_b = record { auditable = p.1; accepted = q.1 };
        of_c = record { auditable = p.2; accepted = q.2 };
        of_d = record { auditable = p.3; accepted = q.3 };
      }

  opens_by : (x : List ℕ) (r k : ℕ) → Sound FivePass system a x → round_challenge x r ≡ k → k < 2 → Opened (domain_for FivePass) system x r k (string_in system x r k)
  opens_by x r k s has h = opened_five (domain_for FivePass) system x r k (own_domain FivePass system a x s.auditable) s.auditable.for_scheme has h

  left_sound_five : FourSound → (r k : ℕ) → Sound FivePass system a (left_record FivePass a b c r k)
  unfolding left_record opener_five
  left_sound_five s r k = either (Sound FivePass system a) (eqb k 0) a b s.of_a s.of_b

  right_sound_five : FourSound → (r k : ℕ) → Sound FivePass system a (right_record FivePass a b c d r k)
  unfolding right_record opener_five
  right_sound_five s r k = either (Sound FivePass system a) (eqb k 0) c d s.of_c s.of_d

  order_five : (r k : ℕ) → k < 2 → OrderFive a b c d r k (left_record FivePass a b c r k) (right_record FivePass a b c d r k)
  unfolding left_record right_record opener_five
  order_five r zero h = inl (refl, refl, refl)
  order_five r (suc zero) h = inr (refl, refl, refl)
  order_five r (suc (suc k)) h = absurd (omega arith)

  -- no other order is named
  only_five : (r k : ℕ) (left right : List ℕ) → OrderFive a b c d r k left right → (k < 2) × (left ≡ left_record FivePass a b c r k) × (right ≡ right_record FivePass a b c d r k)
  unfolding left_record right_record opener_five
  only_five r k left right (inl e) = (omega (arith, e.0), e.1 ∙ simp e.0, e.2 ∙ simp e.0)
  only_five r k left right (inr e) = (omega (arith, e.0), e.1 ∙ simp e.0, e.2 ∙ simp e.0)

  left_asked : (r k : ℕ) → FullFive a b c d r → k < 2 → round_challenge (left_record FivePass a b c r k) r ≡ k
  unfolding left_record opener_five
  left_asked r zero full h = full.a_challenge
  left_asked r (suc zero) full h = full.b_challenge
  left_asked r (suc (suc k)) full h = absurd (omega arith)

  right_asked : (r k : ℕ) → FullFive a b c d r → k < 2 → round_challenge (right_record FivePass a b c d r k) r ≡ k
  unfolding right_record opener_five
  right_asked r zero full h = full.c_challenge
  right_asked r (suc zero) full h = full.d_challenge
  right_asked r (suc (suc k)) full h = absurd (omega arith)

  secret_solves_five : system_refusal system ≡ 0 → FourSound → (r : ℕ) → r < (header_in a).rounds → FullFive a b c d r →
      ((k : ℕ) → k < 2 → same_pair FivePass system a b c d r k ≡ true) → F system (secret_in FivePass system a b c r) ≡ key_vector a
  unfolding secret_in left_record right_record opener_five
  secret_solves_five good s r h full same =
      five_secret system a b c d r good s.of_a.auditable s.of_b.auditable s.of_c.auditable s.of_d.auditable h (within FivePass system a c r s.of_c.auditable h) full
      (pair_agrees (domain_in a) FivePass system a b c d r 0 refl (same 0 (omega arith))) (pair_agrees (domain_in a) FivePass system a b c d r 1 refl (same 1 (omega arith)))

  five_laws : Laws (five_pass system a b c d) b c d
  unfolding five_pass of_fourth commitment_count secret_in secret_of reply_vector first_vector
  five_laws =
      record {
        passed_tells = λ k.
            each a _ (auditable FivePass system a a k.read_a k.fit (alike_itself a))
            (each b _ (auditable FivePass system a b k.read_b k.fit k.same_b)
            (each c _ (auditable FivePass system a c k.read_c k.fit k.same_c) (each d _ (auditable FivePass system a d k.read_d k.fit k.same_d) none_left)));
        passed_when = λ good all.
            let k = four (Auditable FivePass system a) all in
            passed_by FivePass system a b c d good k.0 k.1 k.2 (readable FivePass system a d k.3) (alike FivePass system a d k.0 k.3);
        walked = five_walk system a b c d;
        full_tells = λ r e. five_full a b c d r (sym (set_five a b c d r) ∙ e);
        full_when = λ r full. set_five a b c d r ∙ full_five_lem a b c d r full;
        secret_solves = λ s r h full same. secret_solves_five s.good (four_sound s) r h full same;
        secret_sum = λ r full. refl;
        pair_order = λ r k full h. order_five r k h;
        left_sound = λ s r k. left_sound_five (four_sound s) r k;
        right_sound = λ s r k. right_sound_five (four_sound s) r k;
        left_opened = λ s r k full h. opens_by _ r k (left_sound_five (four_sound s) r k) (left_asked r k full h) h;
        right_opened = λ s r k full h. opens_by _ r k (right_sound_five (four_sound s) r k) (right_asked r k full h) h;
        only_pair = λ s r k full x y p. only_five r k p.left p.right p.order;
      }

  -- the audit of four records of scheme 5
  pub audit_five_claim : Claim (five_pass system a b c d) (audit_five system a b c d)
  unfolding audit_five five_pass
  audit_five_claim = audit_claim (five_pass system a b c d) b c d five_laws
