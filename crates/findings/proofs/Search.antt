-- The claim about an audit from the laws of its scheme, which are said here as well. Assumes nothing.
use Prim.Native.Nat.{ℕ, zero, suc, ◌-◌, ◌<◌}
use mathlib.Core.Path.{◌≡◌, refl, sym, ap, ap₂, subst, ◌∙◌}
use mathlib.Core.Bool.{true, false, false≢true, not}
use mathlib.Core.Logic.{inl, inr}
use mathlib.Core.List.{List, ◌∷◌}
use native.Mathlib.Omega.{arith}
use borrow.Author.Tests.{not-true, not-false}
use Rattle.slices.proofs.Sameness.{same_true, same_by}
use Rattle.sha256.specs.Sha256.{sha256}
use Rattle.system.specs.System.{F, system_refusal}
use Rattle.system.proofs.SystemLayout.{well_formed, not_refused}
use Rattle.protocol.specs.Rounds.{map_of, IsX}
use Rattle.protocol.proofs.Rounds.{quadratic_map}
use Rattle.scheme.specs.declared.Scheme.{Scheme}
use Rattle.scheme.specs.declared.Scheme.TheVariants.{ThreePass, FivePass}
use Rattle.scheme.specs.Scheme.{commitment_count}
use Rattle.commitment.specs.declared.Domain.{Domain}
use Rattle.commitment.specs.Commitment.{vectors_in}
use Rattle.round.specs.Openings.{commitment_at}
use Rattle.record_form.specs.declared.layout.Header.{Header}
use Rattle.record_form.specs.Record.{header_in, commitments_of}
use Rattle.transcript.specs.Transcript.{domain_in, key_vector, round_commitments}
use Rattle.refusal.proofs.Search.{FirstIs, where_none, found_where}
use Rattle.comparable.specs.declared.Rejection.{Rejection}
use Rattle.comparable.specs.Comparable.{comparable_refusal, rejection_of}
use Rattle.comparable.proofs.Passed.{Passed, passed, none_refused}
use Rattle.openings.specs.Openings.{string_in, same_vectors, secret_of}
use Rattle.full_set.specs.FullSet.{full_set, first_full}
use Rattle.clash.specs.Clash.{left_record, right_record, left_string, right_string, same_pair, first_clash}
use Rattle.auditing.specs.Audit.{secret_in, secret_at, clash_at, finding_at, search_of, audit_of}
use Rattle.auditing.proofs.Outcomes.{finding_secret, finding_clash, search_none, search_found, audit_refused, audit_rejected, audit_searched}
use Rattle.findings.specs.Findings.{Auditable, AllAccepted, Each, AuditCase, ShouldFind, RoundUsed, case_domain, Compared, AreCompared, Agree}
use Rattle.findings.specs.Findings.{RightRefusal, Right, IsFinding, Claim}
use Rattle.findings.proofs.Numbers.{nine, comparable_number}
use Rattle.findings.proofs.Rejecting.{walk, all_accepted, none_rejected, first_rejected}
use Rattle.findings.proofs.Strings.{Opened, opened_vectors}
use Rattle.findings.proofs.Elements.{first_domain}

-- a record that is audited, every round of it accepted
pub record Sound (scheme : Scheme) (system a b : List ℕ) : Type 0 where
  pub auditable : Auditable scheme system a b
  pub accepted : AllAccepted system b

-- all the records are
pub record AllSound (t : AuditCase) : Type 0 where
  pub good : system_refusal t.system ≡ 0
  pub all_auditable : Each (Auditable t.scheme t.system t.first) (t.first ∷ t.others)
  pub all_accepted : Each (AllAccepted t.system) (t.first ∷ t.others)

-- what the claim needs of a scheme; b, c, d are the records as the audit is given them
pub record Laws (t : AuditCase) (b c d : List ℕ) : Type 0 where
  pub passed_tells : Passed t.scheme t.system t.first b c d → Each (Auditable t.scheme t.system t.first) (t.first ∷ t.others)
  pub passed_when : system_refusal t.system ≡ 0 → Each (Auditable t.scheme t.system t.first) (t.first ∷ t.others) →
      Passed t.scheme t.system t.first b c d
  pub walked : rejection_of t.scheme t.system t.first b c d ≡ walk t.system 1 (t.first ∷ t.others)
  pub full_tells : (r : ℕ) → full_set t.scheme t.first b c d r ≡ true → t.Full r
  pub full_when : (r : ℕ) → t.Full r → full_set t.scheme t.first b c d r ≡ true
  pub secret_solves : AllSound t → (r : ℕ) → r < (header_in t.first).rounds → t.Full r →
      ((k : ℕ) → k < commitment_count t.scheme → same_pair t.scheme t.system t.first b c d r k ≡ true) →
      F t.system (secret_in t.scheme t.system t.first b c r) ≡ key_vector t.first
  pub secret_sum : (r : ℕ) → t.Full r → t.Sum r (secret_in t.scheme t.system t.first b c r)
  pub pair_order : (r k : ℕ) → t.Full r → k < commitment_count t.scheme → t.Order r k (left_record t.scheme t.first b c r k) (right_record t.scheme t.first b c d r k)
  pub left_sound : AllSound t → (r k : ℕ) → Sound t.scheme t.system t.first (left_record t.scheme t.first b c r k)
  pub right_sound : AllSound t → (r k : ℕ) → Sound t.scheme t.system t.first (right_record t.scheme t.first b c d r k)
  pub left_opened : AllSound t → (r k : ℕ) → t.Full r → k < commitment_count t.scheme →
      let left = left_record t.scheme t.first b c r k in
      Opened (case_domain t) t.system left r k (string_in t.system left r k)
  pub right_opened : AllSound t → (r k : ℕ) → t.Full r → k < commitment_count t.scheme →
      let right = right_record t.scheme t.first b c d r k in
      Opened (case_domain t) t.system right r k (string_in t.system right r k)
  pub only_pair : AllSound t → (r k : ℕ) → t.Full r → (x y : List ℕ) (p : Compared t r k x y) →
      (k < commitment_count t.scheme) × (p.left ≡ left_record t.scheme t.first b c r k) × (p.right ≡ right_record t.scheme t.first b c d r k)

-- ---- the secret

-- a sum is a vector of elements, whatever is added
secret_vector : (scheme : Scheme) (system a b c : List ℕ) (r : ℕ) → system_refusal system ≡ 0 → IsX system (secret_in scheme system a b c r)
unfolding secret_in secret_of map_of
secret_vector ThreePass system a b c r good = (quadratic_map system good).group_x.add_is _ _
secret_vector FivePass system a b c r good = (quadratic_map system good).group_x.add_is _ _

-- ---- one commitment, opened in two ways

same_commitments : (scheme : Scheme) (system a b : List ℕ) (r : ℕ) → Auditable scheme system a b → round_commitments b r ≡ round_commitments a r
unfolding round_commitments
same_commitments scheme system a b r k =
    ap₂ (λ (h : Header) (l : List ℕ). commitments_of h l r) (sym k.same_header) (sym k.same_commitments)

-- the opening of an accepted round hashes to the first record's commitment
hashes_first : (scheme : Scheme) (d : Domain) (system a b : List ℕ) (r k : ℕ) (x : List ℕ) → Sound scheme system a b → r < (header_in a).rounds →
    Opened d system b r k x → sha256 x ≡ commitment_at (round_commitments a r) k
hashes_first scheme d system a b r k x s within o =
    let below : r < (header_in b).rounds = subst (λ (h : Header). r < h.rounds) s.auditable.same_header within in
    o.hashes (s.accepted r below) ∙ ap (λ (l : List ℕ). commitment_at l k) (same_commitments scheme system a b r s.auditable)

vectors_differ : (e d : Domain) (x y : List ℕ) → e ≡ d → same_vectors d x y ≡ false → vectors_in e x ≡ vectors_in e y → ⊥
unfolding same_vectors
vectors_differ e d x y is differ agreed =
    false≢true (sym differ ∙ same_by (vectors_in d x) (vectors_in d y) (subst (λ (f : Domain). vectors_in f x ≡ vectors_in f y) is agreed))

-- the openings that are compared agree
pub pair_agrees : (e : Domain) (scheme : Scheme) (system a b c d : List ℕ) (r k : ℕ) → e ≡ domain_in a → same_pair scheme system a b c d r k ≡ true →
    vectors_in e (string_in system (left_record scheme a b c r k) r k) ≡ vectors_in e (string_in system (right_record scheme a b c d r k) r k)
unfolding same_pair same_vectors left_string right_string
pair_agrees e scheme system a b c d r k is same =
    subst (λ (f : Domain). vectors_in f (string_in system (left_record scheme a b c r k) r k) ≡ vectors_in f (string_in system (right_record scheme a b c d r k) r k)) (sym is)
    (same_true _ _ same)

module _ (t : AuditCase) (b c d : List ℕ) (laws : Laws t b c d) where
  abbrev scheme : Scheme
  scheme = t.scheme

  abbrev system : List ℕ
  system = t.system

  abbrev a : List ℕ
  a = t.first

  -- r is the round used
  abbrev Used : ℕ → Type 0
  Used r = FirstIs (header_in a).rounds (full_set scheme a b c d) r

  -- k is the first pair that differs
  abbrev Differs : ℕ → ℕ → Type 0
  Differs r k = FirstIs (commitment_count scheme) (λ j. not (same_pair scheme system a b c d r j)) k

  -- ---- a finding

  should : AllSound t → (r : ℕ) → Used r → ShouldFind t
  should s r used =
      record {
        system_well_formed = well_formed system s.good;
        records_auditable = s.all_auditable;
        rounds_accepted = s.all_accepted;
        round = r;
        round_in_range = used.within;
        full = laws.full_tells r used.holds;
      }

  round_used : (r : ℕ) → Used r → RoundUsed t r
  round_used r used =
      record {
        round_in_range = used.within;
        full = laws.full_tells r used.holds;
        first_full_is = λ j h earlier. false≢true (sym (used.before j h) ∙ laws.full_when j earlier);
      }

  -- the domain of the scheme is that of the records
  case_domain_lem : AllSound t → case_domain t ≡ domain_in a
  case_domain_lem s = first_domain scheme system a _ (laws.left_sound s 0 0).auditable

  -- commitment k of a round with the full set is opened in two ways
  pair_at : AllSound t → (r k : ℕ) → t.Full r → k < commitment_count scheme → Compared t r k (left_string scheme system a b c r k) (right_string scheme system a b c d r k)
  unfolding left_string right_string
  pair_at s r k full h =
      let left = laws.left_opened s r k full h in
      let right = laws.right_opened s r k full h in
      record {
        left = left_record scheme a b c r k;
        right = right_record scheme a b c d r k;
        order = laws.pair_order r k full h;
        left_opens = left.opens;
        right_opens = right.opens;
        left_vectors = vectors_in (case_domain t) (string_in system (left_record scheme a b c r k) r k);
        right_vectors = vectors_in (case_domain t) (string_in system (right_record scheme a b c d r k) r k);
        left_has = left.has;
        right_has = right.has;
      }

  compared_at : AllSound t → (r k : ℕ) → t.Full r → k < commitment_count scheme → AreCompared t r k
  compared_at s r k full h = record { string_left = _; string_right = _; pair = pair_at s r k full h }

  -- and in no others: where the audit finds the same vectors, they agree
  agree : AllSound t → (r k : ℕ) → t.Full r → (k < commitment_count scheme → same_pair scheme system a b c d r k ≡ true) → Agree t r k
  agree s r k full same x y p =
      let only = laws.only_pair s r k full x y p in
      opened_vectors (case_domain t) system p.left _ r k x p.left_vectors only.1 p.left_opens p.left_has (laws.left_opened s r k full only.0) ∙
      pair_agrees (case_domain t) scheme system a b c d r k (case_domain_lem s) (same only.0) ∙
      sym (opened_vectors (case_domain t) system p.right _ r k y p.right_vectors only.2 p.right_opens p.right_has (laws.right_opened s r k full only.0))

  secret_right : AllSound t → (r : ℕ) → Used r → first_clash scheme system a b c d r ≡ 0 → Right t (secret_at scheme system a b c r)
  unfolding Right secret_at first_clash
  secret_right s r used none =
      let round = round_used r used in
      let same : (k : ℕ) → k < commitment_count scheme → same_pair scheme system a b c d r k ≡ true =
      λ k h. not-false _ (where_none (commitment_count scheme) (λ j. not (same_pair scheme system a b c d r j)) none k h)
      in
      record {
        is_vector = secret_vector scheme system a b c r s.good;
        solves = laws.secret_solves s r used.within round.full same;
        round = r;
        used = round;
        none_differs = λ k. agree s r k round.full (same k);
        each_compared = λ k is. compared_at s r k round.full is;
        sum = laws.secret_sum r round.full;
      }

  clash_right : AllSound t → (r : ℕ) → Used r → (k : ℕ) → Differs r k → Right t (clash_at scheme system a b c d r k)
  unfolding Right clash_at same_pair left_string right_string pair_at
  clash_right s r used k differs =
      let round = round_used r used in
      let full = round.full in
      record {
        round = r;
        used = round;
        pair = pair_at s r k full differs.within;
        vectors_differ = vectors_differ (case_domain t) (domain_in a) _ _ (case_domain_lem s) (not-true _ differs.holds);
        first_pair = λ j h. agree s r j full (λ _. not-false _ (differs.before j h));
        earlier_compared = λ j h. compared_at s r j full (omega (arith, h, differs.within));
        left_hashes = hashes_first scheme _ system a _ r k _ (laws.left_sound s r k) used.within (laws.left_opened s r k full differs.within);
        right_hashes = hashes_first scheme _ system a _ r k _ (laws.right_sound s r k) used.within (laws.right_opened s r k full differs.within);
      }

  finding_claim : AllSound t → (r : ℕ) → Used r → Claim t (finding_at scheme system a b c d r)
  unfolding IsFinding secret_at clash_at first_clash
  finding_claim s r used = go (first_clash scheme system a b c d r) refl
    where
      go : (k : ℕ) → first_clash scheme system a b c d r ≡ k → Claim t (finding_at scheme system a b c d r)
      go zero none =
          subst (Claim t) (finding_secret scheme system a b c d r 0 (sym none) refl)
          (record { found_when_should = λ q. tt; should_when_found = λ q. should s r used; right = secret_right s r used none })
      go (suc k) some =
          let back : k ≡ suc k - 1 = omega arith in
          subst (Claim t) (ap (clash_at scheme system a b c d r) back ∙ finding_clash scheme system a b c d r (suc k) (sym some) (λ z. omega (arith, z)))
          (record {
            found_when_should = λ q. tt;
            should_when_found = λ q. should s r used;
            right = clash_right s r used k (found_where (commitment_count scheme) _ k (some ∙ omega arith));
          })

  -- ---- every answer

  search_claim : AllSound t → Claim t (search_of scheme system a b c d)
  unfolding IsFinding Right RightRefusal first_full
  search_claim s = go (first_full scheme a b c d) refl
    where
      go : (round : ℕ) → first_full scheme a b c d ≡ round → Claim t (search_of scheme system a b c d)
      go zero none =
          subst (Claim t) (search_none scheme system a b c d 0 (sym none) refl)
          (record {
            found_when_should = λ q. false≢true (sym (where_none (header_in a).rounds _ none q.round q.round_in_range) ∙ laws.full_when q.round q.full);
            should_when_found = λ q. absurd q;
            right = inr (nine, refl, refl);
          })
      go (suc r) some =
          let back : r ≡ suc r - 1 = omega arith in
          subst (Claim t) (ap (finding_at scheme system a b c d) back ∙ search_found scheme system a b c d (suc r) (sym some) (λ z. omega (arith, z)))
          (finding_claim s r (found_where (header_in a).rounds _ r (some ∙ omega arith)))

  -- nothing is refused before the rounds are judged
  judged_claim : comparable_refusal scheme system a b c d ≡ 0 → Claim t (audit_of scheme system a b c d)
  unfolding IsFinding Right RightRefusal
  judged_claim none_before = go (walk system 1 (a ∷ t.others)).whose refl
    where
      first : Rejection
      first = walk system 1 (a ∷ t.others)

      go : (whose : ℕ) → first.whose ≡ whose → Claim t (audit_of scheme system a b c d)
      go zero none =
          let k = passed scheme system a b c d none_before in
          let s : AllSound t = record { good = k.good; all_auditable = laws.passed_tells k; all_accepted = all_accepted system 0 (a ∷ t.others) none } in
          subst (Claim t) (audit_searched scheme system a b c d 0 first (sym none_before) refl (sym laws.walked) none) (search_claim s)
      go (suc whose) some =
          let rejected : first.whose ≡ 0 → ⊥ = λ z. omega (arith, some, z) in
          subst (Claim t) (audit_rejected scheme system a b c d 0 first (sym none_before) refl (sym laws.walked) rejected)
          (record {
            found_when_should = λ q. rejected (none_rejected system 1 (a ∷ t.others) q.rounds_accepted);
            should_when_found = λ q. absurd q;
            right = inl (refl, first_rejected system (a ∷ t.others) rejected);
          })

  pub audit_claim : Claim t (audit_of scheme system a b c d)
  unfolding IsFinding Right RightRefusal
  audit_claim = go (comparable_refusal scheme system a b c d) refl
    where
      go : (number : ℕ) → comparable_refusal scheme system a b c d ≡ number → Claim t (audit_of scheme system a b c d)
      go zero none = judged_claim none
      go (suc number) some =
          let refused_before : comparable_refusal scheme system a b c d ≡ 0 → ⊥ = λ z. omega (arith, some, z) in
          subst (Claim t) (audit_refused scheme system a b c d (comparable_refusal scheme system a b c d) refl refused_before)
          (record {
            found_when_should = λ q. refused_before (none_refused scheme system a b c d (laws.passed_when (not_refused system q.system_well_formed) q.records_auditable));
            should_when_found = λ q. absurd q;
            right = inr (comparable_number scheme system a b c d refused_before, refl, refl);
          })
