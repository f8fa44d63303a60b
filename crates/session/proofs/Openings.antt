-- An opening is refused at either end exactly when document 01 has a number for it, and zeros may be drawn for every round. Assumes nothing.
use Prim.Native.Nat.{ℕ, zero, suc, ◌+◌, ◌≤◌, ◌<◌}
use mathlib.Core.Path.{◌≡◌, refl, sym, ap}
use mathlib.Core.Bool.{Bool, true, false}
use mathlib.Core.Logic.{◌⊎◌, inl, inr, ⊎_elim, ◌↔◌}
use native.Mathlib.Omega.{arith}
use lib.Dec.{leb, eqb}
use lib.ListN.{length, take, length-take, length-replicate, get_or-replicate}
use lib.Seq.{get_or-take}
use borrow.Author.Tests.{eq-eqb, le-leb, leb-true, eqb-true}
use Rattle.slices.specs.Slices.{zeros}
use Rattle.slices.proofs.Booleans.{and_both, and_left, and_right}
use Rattle.refusal.proofs.Refusals.{both_zero, unless_holds, first_zero, later_zero, test_holds, equal_holds}
use Rattle.field.specs.Vector.{Elements, all_below}
use Rattle.field.proofs.Fields.{ring}
use Rattle.field.proofs.Modulus.{size_of}
use Rattle.system.specs.System.{q_of, n_of, m_of}
use Rattle.field.proofs.Elements.{at_all_below, all_below_at}
use Rattle.system.proofs.SystemLayout.{accepted, well_formed, not_refused}
use Rattle.scheme.specs.Scheme.{byte_of, scheme_of, is_scheme, is_rounds, drawn_length, lent_length}
use Rattle.card_state.specs.Card as CardCalls
use Rattle.card_state.proofs.Taken.{open_taken, open_due}
use Rattle.carrier_state.specs.Carrier as CarrierCalls
use Rattle.session.specs.Session.{Terms, passes}
use Rattle.session.specs.Played.{CarrierOpenable, Openable, Draw, Fits, zero_draw, draws_from, AllFit}
use Rattle.session.proofs.Schemes.{some_challenge}

-- ---- scheme and N

scheme_taken : (scheme : ℕ) → (scheme ≡ 3) ⊎ (scheme ≡ 5) → is_scheme scheme ≡ true
unfolding is_scheme scheme_of byte_of
scheme_taken scheme which = ⊎_elim (λ (e : scheme ≡ 3). rw e) (λ (e : scheme ≡ 5). rw e) which

scheme_is : (scheme : ℕ) → is_scheme scheme ≡ true → (scheme ≡ 3) ⊎ (scheme ≡ 5)
unfolding is_scheme scheme_of byte_of
scheme_is scheme h = go (eqb scheme 3) refl
  where
    go : (t : Bool) → eqb scheme 3 ≡ t → (scheme ≡ 3) ⊎ (scheme ≡ 5)
    go true e = inl (eqb-true scheme 3 e)
    go false e = inr (sym (eqb-true 5 scheme (simp e at h)))

rounds_taken : (rounds : ℕ) → 1 ≤ rounds → rounds ≤ 255 → is_rounds rounds ≡ true
unfolding is_rounds
rounds_taken rounds some most = and_both (leb 1 rounds) (leb rounds 255) (le-leb 1 rounds some) (le-leb rounds 255 most)

rounds_are : (rounds : ℕ) → is_rounds rounds ≡ true → (1 ≤ rounds) × (rounds ≤ 255)
unfolding is_rounds
rounds_are rounds h = (leb-true 1 rounds (and_left (leb 1 rounds) (leb rounds 255) h), leb-true rounds 255 (and_right (leb 1 rounds) (leb rounds 255) h))

module _ (o : Terms) where
  -- ---- the carrier's opening

  pub carrier_opens_for : CarrierOpenable o → CarrierCalls.open_refusal o.system o.scheme o.rounds o.key ≡ 0
  unfolding CarrierCalls.open_refusal
  carrier_opens_for k =
      both_zero _ _ (not_refused o.system k.system_well_formed)
      (both_zero _ _ (unless_holds _ 1 (scheme_taken o.scheme k.scheme_value))
      (both_zero _ _ (unless_holds _ 1 (rounds_taken o.rounds k.some_rounds k.most_rounds))
      (both_zero _ _ (unless_holds _ 2 (eq-eqb (length o.key) (m_of o.system) k.key_length)) (unless_holds _ 3 (at_all_below _ _ k.key_elements)))))

  carrier_openable : CarrierCalls.open_refusal o.system o.scheme o.rounds o.key ≡ 0 → CarrierOpenable o
  unfolding CarrierCalls.open_refusal
  carrier_openable none =
      let after_system = later_zero _ _ none in
      let after_scheme = later_zero _ _ after_system in
      let after_rounds = later_zero _ _ after_scheme in
      let rounds = rounds_are o.rounds (test_holds (is_rounds o.rounds) 1 tt (first_zero _ _ after_scheme)) in
      record {
        system_well_formed = well_formed o.system (first_zero _ _ none);
        scheme_value = scheme_is o.scheme (test_holds (is_scheme o.scheme) 1 tt (first_zero _ _ after_system));
        some_rounds = rounds.0;
        most_rounds = rounds.1;
        key_length = equal_holds (length o.key) (m_of o.system) 2 tt (first_zero _ _ after_rounds);
        key_elements = all_below_at _ _ (test_holds (all_below (q_of o.system) o.key) 3 tt (later_zero _ _ after_rounds));
      }

  -- "An opening to which no numbered refusal applies isn't refused.", and every other is
  pub carrier_opening : (CarrierCalls.open_refusal o.system o.scheme o.rounds o.key ≡ 0) ↔ CarrierOpenable o
  carrier_opening = (carrier_openable, carrier_opens_for)

  -- ---- the card's opening

  pub card_opens_for : Openable o → CardCalls.open_refusal o.system o.scheme o.rounds o.key o.secret ≡ 0
  card_opens_for k =
      let c = k.for_carrier in
      open_due o.system o.scheme o.rounds o.key o.secret
      (record {
        good = not_refused o.system c.system_well_formed;
        scheme_value = scheme_taken o.scheme c.scheme_value;
        rounds_value = rounds_taken o.rounds c.some_rounds c.most_rounds;
        key_length = c.key_length;
        secret_length = k.secret_length;
        key_elements = at_all_below _ _ c.key_elements;
        secret_elements = at_all_below _ _ k.secret_elements;
        key = k.key_of_secret;
      })

  card_openable : CardCalls.open_refusal o.system o.scheme o.rounds o.key o.secret ≡ 0 → Openable o
  card_openable none =
      let t = open_taken o.system o.scheme o.rounds o.key o.secret none in
      let rounds = rounds_are o.rounds t.rounds_value in
      record {
        for_carrier =
            record {
              system_well_formed = well_formed o.system t.good;
              scheme_value = scheme_is o.scheme t.scheme_value;
              some_rounds = rounds.0;
              most_rounds = rounds.1;
              key_length = t.key_length;
              key_elements = all_below_at _ _ t.key_elements;
            };
        secret_length = t.secret_length;
        secret_elements = all_below_at _ _ t.secret_elements;
        key_of_secret = t.key;
      }

  pub card_opening : (CardCalls.open_refusal o.system o.scheme o.rounds o.key o.secret ≡ 0) ↔ Openable o
  card_opening = (card_openable, card_opens_for)

-- ---- zeros may be drawn

zero_elements : (q k j : ℕ) → 0 < q → Elements q (take j (zeros k))
unfolding zeros
zero_elements q k j positive i h =
    let size = length-take j (zeros k) in
    let all : length (zeros k) ≡ k = length-replicate {A = ℕ} k 0 in
    let within : i < j = omega (arith, h, size) in
    rw (get_or-take j (zeros k) i 0 within, get_or-replicate {A = ℕ} k i 0 0 (omega (arith, h, size, all))) positive

pub zeros_fit : (o : Terms) → Openable o → Fits o (zero_draw o)
unfolding zero_draw zeros
zeros_fit o k =
    let a = accepted o.system (not_refused o.system k.for_carrier.system_well_formed) in
    let positive : 0 < q_of o.system = rw (sym (size_of (q_of o.system) a.q_is_field)) (ring (q_of o.system)).zero_below in
    let n = n_of o.system in
    let m = m_of o.system in
    record {
      lent_length_is = length-replicate {A = ℕ} _ 0;
      lent_elements = zero_elements (q_of o.system) (lent_length (passes o) n m) (drawn_length (passes o) n m) positive;
      alpha_element = λ alpha. positive;
      challenge_value = some_challenge (passes o);
    }

-- ---- whatever fits may be drawn

pub all_fit : (o : Terms) (draw : ℕ → Draw) → ((r : ℕ) → Fits o (draw r)) → (r n : ℕ) → AllFit o (draws_from draw r n)
unfolding AllFit draws_from
all_fit o draw fit r zero = tt
all_fit o draw fit r (suc n) = (fit r, all_fit o draw fit (r + 1) n)

pub length_draws : (draw : ℕ → Draw) (r n : ℕ) → length (draws_from draw r n) ≡ n
unfolding draws_from
length_draws draw r zero = refl
length_draws draw r (suc n) = ap suc (length_draws draw (r + 1) n)
