-- The strings that a round opens: that each hashes to its commitment where the round is accepted, its vectors, and that no other string opens the commitment.
-- Assumes nothing.
use Prim.Native.Nat.{ℕ, zero, suc, ◌<◌}
use mathlib.Core.Path.{◌≡◌, refl, sym, ap, ap₂, subst, ◌∙◌}
use mathlib.Core.Bool.{true}
use mathlib.Core.Logic.{inl, inr}
use mathlib.Core.List.{List, [], ◌∷◌, ◌++◌}
use native.Mathlib.Omega.{arith}
use lib.ListN.{length, take, drop}
use lib.Seq.{drop-append_seam}
use Rattle.slices.specs.Slices.{◌!◌}
use Rattle.slices.proofs.Booleans.{and_left, and_right}
use Rattle.slices.proofs.Sameness.{same_true}
use Rattle.sha256.specs.Sha256.{sha256}
use Rattle.commitment.specs.declared.Domain.{Domain}
use Rattle.commitment.specs.Commitment.{prefix, hashed_string, in_order, vectors_at, vectors_in}
use Rattle.system.specs.System.{n_of, m_of}
use Rattle.scheme.specs.declared.Scheme.{Scheme}
use Rattle.scheme.specs.declared.Scheme.TheVariants.{ThreePass, FivePass}
use Rattle.protocol.specs.Protocols.{t0_of, e0_of, unmasked, masked, t0_by, e0_by, unmasked_by}
use Rattle.protocol.specs.Rounds.{map_of}
use Rattle.round.specs.declared.pieces.ReplyThree.{ReplyThree}
use Rattle.round.specs.declared.pieces.ReplyFive.{ReplyFive}
use Rattle.round.specs.declared.pieces.Middle.{Middle}
use Rattle.round.specs.Openings.{Opening, with_two, with_three, string_of, commitment_at, opens_to, all_open, opening_of}
use Rattle.round.specs.ThreePass.{openings_three}
use Rattle.round.specs.FivePass.{openings_five}
use Rattle.exchange.specs.Messages.{middle_in, reply_three_in, reply_five_in, openings, accepts}
use Rattle.exchange.proofs.ReadBack.{length_bytes}
use Rattle.record_form.specs.Record.{header_in}
use Rattle.transcript.specs.Transcript.{domain_in, key_vector, round_commitments, round_turn, round_challenge, round_reply, round_openings, accepted_round}
use Rattle.openings.specs.Openings.{string_in}
use Rattle.findings.specs.Findings.{IsOneOf, Opens, HasVectors}

-- ---- a hashed string

-- behind what comes first, k and ρ stand its vectors
behind_ρ : (d : Domain) (k : ℕ) (ρ w : List ℕ) → length ρ ≡ 32 → vectors_in d (hashed_string d k ρ w) ≡ w
unfolding vectors_in vectors_at hashed_string prefix
behind_ρ d k ρ w long = ap (λ (n : ℕ). drop n (ρ ++ w)) (sym long) ∙ drop-append_seam ρ w

-- a string has no other vectors
same_vectors_lem : (d : Domain) (k : ℕ) (x u w : List ℕ) → HasVectors d k x u → HasVectors d k x w → u ≡ w
same_vectors_lem d k x u w p q = sym (are u p) ∙ are w q
  where
    are : (v : List ℕ) → HasVectors d k x v → vectors_in d x ≡ v
    are v h = ap (vectors_in d) h.hashed ∙ behind_ρ d k h.ρ v h.ρ_length

-- ---- a list of openings

-- what holds of each holds of one of them
one_of_one : (P : Opening → Type 0) (o p : Opening) → P p → IsOneOf o (p ∷ []) → P o
unfolding IsOneOf
one_of_one P o p has (inl e) = subst P (sym e) has
one_of_one P o p has (inr none) = absurd none

one_of_two : (P : Opening → Type 0) (o p q : Opening) → P p → P q → IsOneOf o (p ∷ q ∷ []) → P o
unfolding IsOneOf
one_of_two P o p q first second (inl e) = subst P (sym e) first
one_of_two P o p q first second (inr rest) = one_of_one P o q second rest

-- where all of them open, each hashes to its commitment
each_hashes : (d : Domain) (c : List ℕ) (os : List Opening) → all_open d c os ≡ true → (o : Opening) → IsOneOf o os → sha256 (string_of d o) ≡ commitment_at c o.k
unfolding all_open opens_to IsOneOf
each_hashes d c [] all o none = absurd none
each_hashes d c (p ∷ os) all o (inl e) =
    subst (λ (q : Opening). sha256 (string_of d q) ≡ commitment_at c q.k) (sym e) (same_true _ _ (and_left (opens_to d c p) (all_open d c os) all))
each_hashes d c (p ∷ os) all o (inr rest) = each_hashes d c os (and_right (opens_to d c p) (all_open d c os) all) o rest

-- ---- what a reply opens

module _ (b : List ℕ) (v turn reply : List ℕ) where
  abbrev opened : Scheme → ℕ → List Opening
  opened scheme challenge = openings b scheme v turn challenge reply

  -- each has a ρ of 32 bytes
  rho_long : (scheme : Scheme) (challenge : ℕ) (o : Opening) → IsOneOf o (opened scheme challenge) → length o.ρ ≡ 32
  unfolding openings openings_three openings_five with_two with_three reply_three_in reply_five_in
  rho_long ThreePass zero o = one_of_two (λ p. length p.ρ ≡ 32) o _ _ (length_bytes _ _) (length_bytes _ _)
  rho_long ThreePass (suc zero) o = one_of_two (λ p. length p.ρ ≡ 32) o _ _ (length_bytes _ _) (length_bytes _ _)
  rho_long ThreePass (suc (suc k)) o = one_of_two (λ p. length p.ρ ≡ 32) o _ _ (length_bytes _ _) (length_bytes _ _)
  rho_long FivePass zero o = one_of_one (λ p. length p.ρ ≡ 32) o _ (length_bytes _ _)
  rho_long FivePass (suc k) o = one_of_one (λ p. length p.ρ ≡ 32) o _ (length_bytes _ _)

  -- no two are of one commitment
  only_one : (scheme : Scheme) (challenge : ℕ) (o : Opening) → IsOneOf o (opened scheme challenge) → o ≡ opening_of o.k (opened scheme challenge)
  unfolding openings openings_three openings_five with_two with_three opening_of
  only_one ThreePass zero o = one_of_two (λ p. p ≡ opening_of p.k (opened ThreePass zero)) o _ _ refl refl
  only_one ThreePass (suc zero) o = one_of_two (λ p. p ≡ opening_of p.k (opened ThreePass (suc zero))) o _ _ refl refl
  only_one ThreePass (suc (suc k)) o = one_of_two (λ p. p ≡ opening_of p.k (opened ThreePass (suc (suc k)))) o _ _ refl refl
  only_one FivePass zero o = one_of_one (λ p. p ≡ opening_of p.k (opened FivePass zero)) o _ refl
  only_one FivePass (suc k) o = one_of_one (λ p. p ≡ opening_of p.k (opened FivePass (suc k))) o _ refl

  -- three passes: each is of another commitment than the challenge's number
  other_number : (challenge : ℕ) (o : Opening) → IsOneOf o (opened ThreePass challenge) → (o.k < 3) × (o.k ≡ challenge → ⊥)
  unfolding openings openings_three with_two
  other_number zero o = one_of_two (λ p. (p.k < 3) × (p.k ≡ zero → ⊥)) o _ _ (omega arith, λ e. omega (arith, e)) (omega arith, λ e. omega (arith, e))
  other_number (suc zero) o = one_of_two (λ p. (p.k < 3) × (p.k ≡ 1 → ⊥)) o _ _ (omega arith, λ e. omega (arith, e)) (omega arith, λ e. omega (arith, e))
  other_number (suc (suc k)) o =
      one_of_two (λ p. (p.k < 3) × (p.k ≡ suc (suc k) → ⊥)) o _ _ (omega arith, λ e. omega (arith, e)) (omega arith, λ e. omega (arith, e))

  -- the opening of commitment k is listed, with that number
  abbrev Listed : Scheme → ℕ → ℕ → Type 0
  Listed scheme challenge k = IsOneOf (opening_of k (opened scheme challenge)) (opened scheme challenge) × ((opening_of k (opened scheme challenge)).k ≡ k)

  -- three passes: where k is another number than the challenge
  listed_three : (challenge k : ℕ) → challenge < 3 → k < 3 → (challenge ≡ k → ⊥) → Listed ThreePass challenge k
  unfolding IsOneOf openings openings_three with_two opening_of
  listed_three zero zero hc hk other = absurd (other refl)
  listed_three zero (suc zero) hc hk other = (inl refl, refl)
  listed_three zero (suc (suc zero)) hc hk other = (inr (inl refl), refl)
  listed_three zero (suc (suc (suc k))) hc hk other = absurd (omega arith)
  listed_three (suc zero) zero hc hk other = (inl refl, refl)
  listed_three (suc zero) (suc zero) hc hk other = absurd (other refl)
  listed_three (suc zero) (suc (suc zero)) hc hk other = (inr (inl refl), refl)
  listed_three (suc zero) (suc (suc (suc k))) hc hk other = absurd (omega arith)
  listed_three (suc (suc zero)) zero hc hk other = (inl refl, refl)
  listed_three (suc (suc zero)) (suc zero) hc hk other = (inr (inl refl), refl)
  listed_three (suc (suc zero)) (suc (suc zero)) hc hk other = absurd (other refl)
  listed_three (suc (suc zero)) (suc (suc (suc k))) hc hk other = absurd (omega arith)
  listed_three (suc (suc (suc challenge))) k hc hk other = absurd (omega arith)

  -- five passes: where it is the challenge's
  listed_five : (k : ℕ) → k < 2 → Listed FivePass k k
  unfolding IsOneOf openings openings_five with_two with_three opening_of
  listed_five zero hk = (inl refl, refl)
  listed_five (suc zero) hk = (inl refl, refl)
  listed_five (suc (suc k)) hk = absurd (omega arith)

-- ---- of a round of a record

abbrev ListedIn : List ℕ → List ℕ → ℕ → ℕ → Type 0
ListedIn system b r k = Listed system (key_vector b) (round_turn b r) (round_reply b r) (header_in b).scheme (round_challenge b r) k

-- what is shown of the string with which it opens commitment k
pub record Opened (d : Domain) (system b : List ℕ) (r k : ℕ) (x : List ℕ) : Type 0 where
  pub opens : Opens system b r k x
  pub hashes : accepted_round system b r ≡ true → sha256 x ≡ commitment_at (round_commitments b r) k
  pub has : HasVectors d k x (vectors_in d x)

opened_own : (system b : List ℕ) (r k : ℕ) → ListedIn system b r k → Opened (domain_in b) system b r k (string_in system b r k)
unfolding string_in round_openings accepted_round accepts domain_in string_of
opened_own system b r k listed =
    let d = domain_in b in
    let o = opening_of k (round_openings system b r) in
    let long = rho_long system (key_vector b) (round_turn b r) (round_reply b r) (header_in b).scheme (round_challenge b r) o listed.0 in
    record {
      opens = record { opening = o; listed = listed.0; number = listed.1; string = refl };
      hashes = λ accepted.
          each_hashes d (round_commitments b r) (round_openings system b r) accepted o listed.0 ∙ ap (commitment_at (round_commitments b r)) listed.1;
      has =
          record {
            ρ = o.ρ;
            ρ_length = long;
            hashed = ap₂ (λ (j : ℕ) (w : List ℕ). hashed_string d j o.ρ w) listed.1 (sym (behind_ρ d o.k o.ρ (in_order o.vectors) long));
          };
    }

opened_by_lem : (d : Domain) (system b : List ℕ) (r k : ℕ) → d ≡ domain_in b → ListedIn system b r k → Opened d system b r k (string_in system b r k)
opened_by_lem d system b r k is listed = subst (λ (e : Domain). Opened e system b r k (string_in system b r k)) (sym is) (opened_own system b r k listed)

pub opened_three : (d : Domain) (system b : List ℕ) (r k : ℕ) → d ≡ domain_in b → (header_in b).scheme ≡ ThreePass → round_challenge b r < 3 → k < 3 →
    (round_challenge b r ≡ k → ⊥) → Opened d system b r k (string_in system b r k)
opened_three d system b r k same is hc hk other =
    opened_by_lem d system b r k same
    (subst (λ (s : Scheme). Listed system (key_vector b) (round_turn b r) (round_reply b r) s (round_challenge b r) k) (sym is)
    (listed_three system (key_vector b) (round_turn b r) (round_reply b r) (round_challenge b r) k hc hk other))

pub opened_five : (d : Domain) (system b : List ℕ) (r k : ℕ) → d ≡ domain_in b → (header_in b).scheme ≡ FivePass → round_challenge b r ≡ k → k < 2 →
    Opened d system b r k (string_in system b r k)
opened_five d system b r k same is asked hk =
    opened_by_lem d system b r k same
    (subst (λ (s : Scheme). Listed system (key_vector b) (round_turn b r) (round_reply b r) s (round_challenge b r) k) (sym is)
    (subst (λ (j : ℕ). Listed system (key_vector b) (round_turn b r) (round_reply b r) FivePass j k) (sym asked)
    (listed_five system (key_vector b) (round_turn b r) (round_reply b r) k hk)))

-- ---- no other string opens a commitment

-- three passes: a commitment that is opened is another than the challenge
pub opens_other : (system b : List ℕ) (r k : ℕ) (x : List ℕ) → (header_in b).scheme ≡ ThreePass → Opens system b r k x → (k < 3) × (k ≡ round_challenge b r → ⊥)
unfolding round_openings
opens_other system b r k x is o =
    subst (λ (j : ℕ). (j < 3) × (j ≡ round_challenge b r → ⊥)) o.number
    (other_number system (key_vector b) (round_turn b r) (round_reply b r) (round_challenge b r) o.opening
    (subst (λ (s : Scheme). IsOneOf o.opening (openings system s (key_vector b) (round_turn b r) (round_challenge b r) (round_reply b r))) is o.listed))

opens_is : (system b : List ℕ) (r k : ℕ) (x : List ℕ) → Opens system b r k x → x ≡ string_in system b r k
unfolding string_in round_openings
opens_is system b r k x o =
    o.string ∙
    ap (string_of (domain_in b))
    (only_one system (key_vector b) (round_turn b r) (round_reply b r) (header_in b).scheme (round_challenge b r) o.opening o.listed ∙
    ap (λ (j : ℕ). opening_of j (round_openings system b r)) o.number)

-- so its vectors are those that the audit compares
pub opened_vectors : (d : Domain) (system b c : List ℕ) (r k : ℕ) (x u : List ℕ) → b ≡ c → Opens system b r k x → HasVectors d k x u →
    Opened d system c r k (string_in system c r k) → u ≡ vectors_in d (string_in system c r k)
opened_vectors d system b c r k x u is opens has opened =
    same_vectors_lem d k _ _ _
    (subst (λ (y : List ℕ). HasVectors d k y u) (opens_is system b r k x opens ∙ ap (λ (l : List ℕ). string_in system l r k) is) has) opened.has

-- ---- the vectors compared, by scheme and challenge

abbrev pub reply_in : List ℕ → List ℕ → ℕ → ReplyThree
reply_in system b r = reply_three_in (n_of system) (m_of system) (round_reply b r)

abbrev pub reply_in_five : List ℕ → List ℕ → ℕ → ReplyFive
reply_in_five system b r = reply_five_in (n_of system) (round_reply b r)

abbrev pub sent_in : List ℕ → List ℕ → ℕ → Middle
sent_in system b r = middle_in (n_of system) (m_of system) (round_turn b r)

-- two vectors in a row, and three
abbrev pub row : List ℕ → List ℕ → List ℕ → List ℕ
row system p q = take (n_of system) p ++ take (m_of system) q

abbrev pub long_row : List ℕ → List ℕ → List ℕ → List ℕ → List ℕ
long_row system o p q = take (n_of system) o ++ row system p q

module _ (d : Domain) (system b : List ℕ) (r : ℕ) (same : d ≡ domain_in b) where
  abbrev vectors_for : ℕ → List ℕ
  vectors_for k = vectors_in d (string_in system b r k)

  -- with the scheme and the challenge told
  abbrev vectors_by : Scheme → ℕ → ℕ → List ℕ
  vectors_by scheme challenge k = vectors_in d (string_of d (opening_of k (openings system scheme (key_vector b) (round_turn b r) challenge (round_reply b r))))

  vectors_by_lem : (scheme : Scheme) (challenge k : ℕ) → (header_in b).scheme ≡ scheme → round_challenge b r ≡ challenge → vectors_for k ≡ vectors_by scheme challenge k
  unfolding string_in round_openings
  vectors_by_lem scheme challenge k is asked =
      ap (λ (e : Domain). vectors_in d (string_of e (opening_of k (round_openings system b r)))) (sym same) ∙ ap₂ (λ (s : Scheme) (c : ℕ). vectors_by s c k) is asked

  module _ (is : (header_in b).scheme ≡ ThreePass) where
    abbrev x : List ℕ
    x = (reply_in system b r).x

    abbrev y : List ℕ
    y = (reply_in system b r).y

    abbrev z : List ℕ
    z = (reply_in system b r).z

    pub zero_first : round_challenge b r ≡ 0 → vectors_for 1 ≡ row system (t0_of (map_of system).sub_x x y) (e0_of (map_of system) x z)
    unfolding openings openings_three with_two opening_of string_of in_order reply_three_in
    zero_first asked = vectors_by_lem ThreePass 0 1 is asked ∙ behind_ρ d 1 _ _ (length_bytes _ _)

    pub zero_second : round_challenge b r ≡ 0 → vectors_for 2 ≡ row system y z
    unfolding openings openings_three with_two opening_of string_of in_order reply_three_in
    zero_second asked = vectors_by_lem ThreePass 0 2 is asked ∙ behind_ρ d 2 _ _ (length_bytes _ _)

    pub one_first : round_challenge b r ≡ 1 → vectors_for 0 ≡ row system x (unmasked (map_of system) (key_vector b) x y z)
    unfolding openings openings_three with_two opening_of string_of in_order reply_three_in
    one_first asked = vectors_by_lem ThreePass 1 0 is asked ∙ behind_ρ d 0 _ _ (length_bytes _ _)

    pub one_second : round_challenge b r ≡ 1 → vectors_for 2 ≡ row system y z
    unfolding openings openings_three with_two opening_of string_of in_order reply_three_in
    one_second asked = vectors_by_lem ThreePass 1 2 is asked ∙ behind_ρ d 2 _ _ (length_bytes _ _)

    pub two_first : round_challenge b r ≡ 2 → vectors_for 0 ≡ row system x (masked (map_of system) y x z)
    unfolding openings openings_three with_two opening_of string_of in_order reply_three_in
    two_first asked = vectors_by_lem ThreePass 2 0 is asked ∙ behind_ρ d 0 _ _ (length_bytes _ _)

    pub two_second : round_challenge b r ≡ 2 → vectors_for 1 ≡ row system y z
    unfolding openings openings_three with_two opening_of string_of in_order reply_three_in
    two_second asked = vectors_by_lem ThreePass 2 1 is asked ∙ behind_ρ d 1 _ _ (length_bytes _ _)

  module _ (is : (header_in b).scheme ≡ FivePass) where
    abbrev x5 : List ℕ
    x5 = (reply_in_five system b r).x

    abbrev sent : Middle
    sent = sent_in system b r

    abbrev α : ℕ
    α = round_turn b r ! 0

    pub zero_vectors : round_challenge b r ≡ 0 → vectors_for 0 ≡ long_row system x5 (t0_by (map_of system) α x5 sent.t1) (e0_by (map_of system) α x5 sent.e1)
    unfolding openings openings_five with_three opening_of string_of in_order reply_five_in
    zero_vectors asked = vectors_by_lem FivePass 0 0 is asked ∙ behind_ρ d 0 _ _ (length_bytes _ _)

    pub one_vectors : round_challenge b r ≡ 1 → vectors_for 1 ≡ row system x5 (unmasked_by (map_of system) α (key_vector b) x5 sent.t1 sent.e1)
    unfolding openings openings_five with_two opening_of string_of in_order reply_five_in
    one_vectors asked = vectors_by_lem FivePass 1 1 is asked ∙ behind_ρ d 1 _ _ (length_bytes _ _)
