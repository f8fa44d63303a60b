-- Demand 3's first half: when an audit has a finding, and what a finding is. Said of the records' bytes. What it shares with the audit are the layout of a
-- record, by which its rounds are read, and the openings and the check of a round; how the audit searches, compares and answers is not used.
use Rattle.std.specs.Prelude.{ℕ, ◌+◌, ◌<◌, ◌≡◌, true, false, ◌⊎◌, List, [], ◌∷◌, length}
use Rattle.slices.specs.Slices.{◌!◌}
use Rattle.sha256.specs.Sha256.{sha256}
use Rattle.commitment.specs.declared.Domain.{Domain}
use Rattle.commitment.specs.Commitment.{hashed_string}
use Rattle.field.specs.Vector.{add_v, slot_v}
use Rattle.system.specs.System.{q_of, n_of, m_of, ops_of, F, WellFormedSystem}
use Rattle.protocol.specs.Rounds.{IsX}
use Rattle.scheme.specs.declared.Scheme.{Scheme}
use Rattle.scheme.specs.declared.Scheme.TheVariants.{ThreePass, FivePass}
use Rattle.scheme.specs.Scheme.{commitment_count}
use Rattle.round.specs.Openings.{Opening, string_of, commitment_at}
use Rattle.record_form.specs.Record.{WellFormedRecord, header_in, fields_in}
use Rattle.transcript.specs.Transcript.{domain_in, key_vector, round_commitments, round_turn, round_challenge, round_reply, round_openings, accepted_round}
use Rattle.auditing.specs.Outcome.{Outcome, secret, clash, refused}

-- ---- when

-- the record b beside the first, a: well-formed, of the scheme that the audit is for, with the system's q, n and m and the first record's header, key and
-- commitments, so that none of 1 to 7 applies
pub record Auditable (scheme : Scheme) (system a b : List ℕ) : Type 0 where
  pub well_formed : WellFormedRecord b
  pub for_scheme : (header_in b).scheme ≡ scheme
  pub has_q : q_of system ≡ (header_in b).q
  pub has_n : n_of system ≡ (header_in b).n
  pub has_m : m_of system ≡ (header_in b).m
  pub same_header : header_in a ≡ header_in b
  pub same_key : (fields_in a).key ≡ (fields_in b).key
  pub same_commitments : (fields_in a).commitments ≡ (fields_in b).commitments

-- no round of the record is rejected
abbrev pub AllAccepted : List ℕ → List ℕ → Type 0
AllAccepted system b = (r : ℕ) → r < (header_in b).rounds → accepted_round system b r ≡ true

-- "scheme 3, the three records' challenges are 0, 1, 2 in any order"
abbrev pub FullThree : List ℕ → List ℕ → List ℕ → ℕ → Type 0
FullThree a b c r = (k : ℕ) → k < 3 → (round_challenge a r ≡ k) ⊎ ((round_challenge b r ≡ k) ⊎ (round_challenge c r ≡ k))

-- "scheme 5, records A, B, C, D have challenges 0, 1, 0, 1, A and B have equal α, t1, e1, so have C and D, and the α of A and of C differ"
pub record FullFive (a b c d : List ℕ) (r : ℕ) : Type 0 where
  pub a_challenge : round_challenge a r ≡ 0
  pub b_challenge : round_challenge b r ≡ 1
  pub c_challenge : round_challenge c r ≡ 0
  pub d_challenge : round_challenge d r ≡ 1
  pub ab_turn : round_turn a r ≡ round_turn b r
  pub cd_turn : round_turn c r ≡ round_turn d r
  pub other_alpha : round_turn a r ! 0 ≡ round_turn c r ! 0 → ⊥

-- ---- in which order

-- x is one of the three records
abbrev pub Among : List ℕ → List ℕ → List ℕ → List ℕ → Type 0
Among a b c x = (x ≡ a) ⊎ ((x ≡ b) ⊎ (x ≡ c))

-- "The string of the lower challenge stands first"
pub record OrderThree (a b c : List ℕ) (r k : ℕ) (left right : List ℕ) : Type 0 where
  pub left_among : Among a b c left
  pub right_among : Among a b c right
  pub lower_first : round_challenge left r < round_challenge right r

-- "(scheme 5: of the earlier record)": "c0 of A and C, c1 of B and D"
abbrev pub OrderFive : List ℕ → List ℕ → List ℕ → List ℕ → ℕ → ℕ → List ℕ → List ℕ → Type 0
OrderFive a b c d r k left right = ((k ≡ 0) × (left ≡ a) × (right ≡ c)) ⊎ ((k ≡ 1) × (left ≡ b) × (right ≡ d))

-- ---- of what the secret is the sum

-- the first vector of a reply: "r0, t1, e1", "r1, t1, e1", "reply r0, ρ0", "reply r1, ρ1"
unfoldable pub first_vector : List ℕ → List ℕ → ℕ → List ℕ
first_vector system b r = slot_v (n_of system) 0 (round_reply b r)

-- "s = r0 + r1": r0 in the reply of the record x, r1 in that of y
abbrev pub SumOf : List ℕ → ℕ → List ℕ → List ℕ → List ℕ → Type 0
SumOf system r x y s = s ≡ add_v (ops_of system) (n_of system) (first_vector system x r) (first_vector system y r)

-- the replies to the challenges 0 and 1 have them
pub record SumThree (system a b c : List ℕ) (r : ℕ) (s : List ℕ) : Type 0 where
  pub x : List ℕ
  pub y : List ℕ
  pub x_among : Among a b c x
  pub y_among : Among a b c y
  pub x_challenge : round_challenge x r ≡ 0
  pub y_challenge : round_challenge y r ≡ 1
  pub sum : SumOf system r x y s

-- "(scheme 5: A's r0, B's r1)"
abbrev pub SumFive : List ℕ → List ℕ → List ℕ → ℕ → List ℕ → Type 0
SumFive system a b r s = SumOf system r a b s

-- ---- the audit of a scheme: its records, the full set in a round, the order of the two strings of commitment k, and of what the secret is the sum

pub record AuditCase : Type 1 where
  pub scheme : Scheme
  pub system : List ℕ
  pub first : List ℕ
  pub others : List (List ℕ)
  pub Full : ℕ → Type 0
  pub Order : ℕ → ℕ → List ℕ → List ℕ → Type 0
  pub Sum : ℕ → List ℕ → Type 0

unfoldable pub three_pass : List ℕ → List ℕ → List ℕ → List ℕ → AuditCase
three_pass system a b c =
    record {
      scheme = ThreePass;
      system = system;
      first = a;
      others = b ∷ c ∷ [];
      Full = FullThree a b c;
      Order = OrderThree a b c;
      Sum = SumThree system a b c;
    }

unfoldable pub five_pass : List ℕ → List ℕ → List ℕ → List ℕ → List ℕ → AuditCase
five_pass system a b c d =
    record {
      scheme = FivePass;
      system = system;
      first = a;
      others = b ∷ c ∷ d ∷ [];
      Full = FullFive a b c d;
      Order = OrderFive a b c d;
      Sum = SumFive system a b;
    }

-- each of the records
pub data Each (P : List ℕ → Type 0) : List (List ℕ) → Type 0 where
  none_left : Each P []
  each : (b : List ℕ) (bs : List (List ℕ)) → P b → Each P bs → Each P (b ∷ bs)

-- when there should be a finding: nothing is refused, and some round has the full set
pub record ShouldFind (t : AuditCase) : Type 0 where
  pub system_well_formed : WellFormedSystem t.system
  pub records_auditable : Each (Auditable t.scheme t.system t.first) (t.first ∷ t.others)
  pub rounds_accepted : Each (AllAccepted t.system) (t.first ∷ t.others)
  pub round : ℕ
  pub round_in_range : round < (header_in t.first).rounds
  pub full : t.Full round

-- ---- what

-- o is one of the list
unfoldable pub IsOneOf : Opening → List Opening → Type 0
IsOneOf o [] = ⊥
IsOneOf o (p ∷ os) = (o ≡ p) ⊎ IsOneOf o os

-- x is the string with which the reply of round r of the record b opens commitment k: that of one of the round's openings, by its scheme's definition
pub record Opens (system b : List ℕ) (r k : ℕ) (x : List ℕ) : Type 0 where
  pub opening : Opening
  pub listed : IsOneOf opening (round_openings system b r)
  pub number : opening.k ≡ k
  pub string : x ≡ string_of (domain_in b) opening

-- x is "scheme byte .. the byte k .., 32 bytes ρ, then the vectors"
pub record HasVectors (d : Domain) (k : ℕ) (x vectors : List ℕ) : Type 0 where
  pub ρ : List ℕ
  pub ρ_length : length ρ ≡ 32
  pub hashed : x ≡ hashed_string d k ρ vectors

-- "The first such round is used."
pub record RoundUsed (t : AuditCase) (r : ℕ) : Type 0 where
  pub round_in_range : r < (header_in t.first).rounds
  pub full : t.Full r
  pub first_full_is : (j : ℕ) → j < r → t.Full j → ⊥

-- what stands before ρ in the strings of the records: the scheme that the audit is for
abbrev pub case_domain : AuditCase → Domain
case_domain t = record { scheme = t.scheme }

-- "Openings are compared by their vectors": the two openings of commitment k that are compared in round r, their strings x and y, and the vectors of each
pub record Compared (t : AuditCase) (r k : ℕ) (x y : List ℕ) : Type 0 where
  pub left : List ℕ
  pub right : List ℕ
  pub order : t.Order r k left right
  pub left_opens : Opens t.system left r k x
  pub right_opens : Opens t.system right r k y
  pub left_vectors : List ℕ
  pub right_vectors : List ℕ
  pub left_has : HasVectors (case_domain t) k x left_vectors
  pub right_has : HasVectors (case_domain t) k y right_vectors

-- the round has a commitment k: "3 or 2 a round"
abbrev pub IsCommitment : AuditCase → ℕ → Type 0
IsCommitment t k = k < commitment_count t.scheme

-- two openings of commitment k are compared
pub record AreCompared (t : AuditCase) (r k : ℕ) : Type 0 where
  pub string_left : List ℕ
  pub string_right : List ℕ
  pub pair : Compared t r k string_left string_right

-- whichever are have equal vectors, "ρ ignored"
abbrev pub Agree : AuditCase → ℕ → ℕ → Type 0
Agree t r k = (x y : List ℕ) (p : Compared t r k x y) → p.left_vectors ≡ p.right_vectors

-- a true clash: one commitment of the round used with two openings whose vectors differ; "Both hash to commitment k of the round used."; "The first pair that
-- differs is the finding"
pub record TrueClash (t : AuditCase) (k : ℕ) (x y : List ℕ) : Type 0 where
  pub round : ℕ
  pub used : RoundUsed t round
  pub pair : Compared t round k x y
  pub vectors_differ : pair.left_vectors ≡ pair.right_vectors → ⊥
  pub first_pair : (j : ℕ) → j < k → Agree t round j
  pub earlier_compared : (j : ℕ) → j < k → AreCompared t round j
  pub left_hashes : sha256 x ≡ commitment_at (round_commitments t.first round) k
  pub right_hashes : sha256 y ≡ commitment_at (round_commitments t.first round) k

-- a true secret: a vector s with F(s) = v, "v is the records' key"; "If none differs, the finding is s = r0 + r1"
pub record TrueSecret (t : AuditCase) (s : List ℕ) : Type 0 where
  pub is_vector : IsX t.system s
  pub solves : F t.system s ≡ key_vector t.first
  pub round : ℕ
  pub used : RoundUsed t round
  pub none_differs : (k : ℕ) → Agree t round k
  pub each_compared : (k : ℕ) → IsCommitment t k → AreCompared t round k
  pub sum : t.Sum round s

-- 8: "first record, then first round, both given, counted from 1"
pub data FirstRejected (system : List ℕ) : List (List ℕ) → ℕ → ℕ → Type 0 where
  rejected_here : (b : List ℕ) (bs : List (List ℕ)) (r : ℕ) → r < (header_in b).rounds → accepted_round system b r ≡ false →
      ((j : ℕ) → j < r → accepted_round system b j ≡ true) → FirstRejected system (b ∷ bs) 1 (r + 1)
  rejected_later : (b : List ℕ) (bs : List (List ℕ)) (whose round : ℕ) → AllAccepted system b → FirstRejected system bs whose round →
      FirstRejected system (b ∷ bs) (whose + 1) round

-- the numbers of "Refused because of the input" that an audit can give beside 8: all but 5
abbrev pub other_numbers : List ℕ
other_numbers = 1 ∷ 2 ∷ 3 ∷ 4 ∷ 6 ∷ 7 ∷ 9 ∷ []

-- x stands in the list
pub record OneOf (l : List ℕ) (x : ℕ) : Type 0 where
  pub place : ℕ
  pub inside : place < length l
  pub is : l ! place ≡ x

-- 8 with the first rejected record and round, "both given"; "they are 0 in every other answer"
unfoldable pub RightRefusal : AuditCase → ℕ → ℕ → ℕ → Type 0
RightRefusal t number whose round =
    ((number ≡ 8) × FirstRejected t.system (t.first ∷ t.others) whose round) ⊎ (OneOf other_numbers number × (whose ≡ 0) × (round ≡ 0))

-- an answer is right: a true secret, a true clash, or a refusal with its number, its record and its round
unfoldable pub Right : AuditCase → Outcome → Type 0
Right t (secret s) = TrueSecret t s
Right t (clash k x y) = TrueClash t k x y
Right t (refused number whose round) = RightRefusal t number whose round

-- "An answer that is no refusal is a finding"
unfoldable pub IsFinding : Outcome → Type 0
IsFinding (secret s) = Unit {0}
IsFinding (clash k x y) = Unit {0}
IsFinding (refused number whose round) = ⊥

-- demand 3's first half, of an audit's answer
pub record Claim (t : AuditCase) (o : Outcome) : Type 0 where
  pub found_when_should : ShouldFind t → IsFinding o
  pub should_when_found : IsFinding o → ShouldFind t
  pub right : Right t o
