-- Document 01, "Audit": what an audit answers to a system and records, any bytes at all. One definition serves both schemes; three passes have no fourth
-- record, and what stands in its place is not looked at (`no_fourth`, auditing/proofs/Outcomes.antt).
use Rattle.std.specs.Prelude.{ℕ, ◌-◌, cond, List, eqb}
use Rattle.scheme.specs.declared.Scheme.{Scheme}
use Rattle.scheme.specs.declared.Scheme.TheVariants.{ThreePass, FivePass}
use Rattle.comparable.specs.Comparable.{comparable_refusal, rejection_of}
use Rattle.openings.specs.Openings.{secret_of}
use Rattle.full_set.specs.FullSet.{answering, first_full}
use Rattle.clash.specs.Clash.{left_string, right_string, first_clash}
use Rattle.auditing.specs.Outcome.{Outcome, secret, clash, refused}

-- commitment k of round r, opened in two ways
unfoldable pub clash_at : Scheme → List ℕ → List ℕ → List ℕ → List ℕ → List ℕ → ℕ → ℕ → Outcome
clash_at scheme system a b c d r k =
    clash k (left_string scheme system a b c r k) (right_string scheme system a b c d r k)

-- "s = r0 + r1", which stand in the replies to the challenges 0 and 1; "(scheme 5: A's r0, B's r1)"
unfoldable pub secret_in : Scheme → List ℕ → List ℕ → List ℕ → List ℕ → ℕ → List ℕ
secret_in ThreePass system a b c r = secret_of system (answering a b c r 0) (answering a b c r 1) r
secret_in FivePass system a b c r = secret_of system a b r

unfoldable pub secret_at : Scheme → List ℕ → List ℕ → List ℕ → List ℕ → ℕ → Outcome
secret_at scheme system a b c r = secret (secret_in scheme system a b c r)

-- "The first pair that differs is the finding .. If none differs, the finding is s"
unfoldable pub finding_at : Scheme → List ℕ → List ℕ → List ℕ → List ℕ → List ℕ → ℕ → Outcome
finding_at scheme system a b c d r =
    let k = first_clash scheme system a b c d r in
    cond (eqb k 0) (secret_at scheme system a b c r) (clash_at scheme system a b c d r (k - 1))

-- "The first such round is used."; 9: "no round with a full set"
unfoldable pub search_of : Scheme → List ℕ → List ℕ → List ℕ → List ℕ → List ℕ → Outcome
search_of scheme system a b c d =
    let round = first_full scheme a b c d in
    cond (eqb round 0) (refused 9 0 0) (finding_at scheme system a b c d (round - 1))

-- "then 7, 8, 9", after the system and each record; a record and a round are named with 8 alone: "they are 0 in every other answer"
unfoldable pub audit_of : Scheme → List ℕ → List ℕ → List ℕ → List ℕ → List ℕ → Outcome
audit_of scheme system a b c d =
    let number = comparable_refusal scheme system a b c d in
    let rejected = rejection_of scheme system a b c d in
    cond (eqb number 0) (cond (eqb rejected.whose 0) (search_of scheme system a b c d) (refused 8 rejected.whose rejected.round)) (refused number 0 0)

-- three records of scheme 3
unfoldable pub audit_three : List ℕ → List ℕ → List ℕ → List ℕ → Outcome
audit_three system a b c = audit_of ThreePass system a b c c

-- four records of scheme 5
unfoldable pub audit_five : List ℕ → List ℕ → List ℕ → List ℕ → List ℕ → Outcome
audit_five system a b c d = audit_of FivePass system a b c d
