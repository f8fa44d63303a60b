-- What differs between the schemes: their byte, their counts and the lengths of a round's messages. Each definition has a clause a scheme.
use Rattle.std.specs.Prelude.{ℕ, ◌≡◌, ◌+◌, ◌*◌, Bool, true, false, cond, ◌&&◌, eqb, leb, Result, IfOk}
use Rattle.refusal.specs.declared.Refusal.{Refusal}
use Rattle.refusal.specs.Refusal.{unless, number_of}
use Rattle.scheme.specs.declared.Scheme.{Scheme}
use Rattle.scheme.specs.declared.Scheme.TheVariants.{ThreePass, FivePass}

-- ---- the byte

-- "Three-pass round (scheme 3)", "Five-pass round (scheme 5)"
unfoldable pub byte_of : Scheme → ℕ
byte_of ThreePass = 3
byte_of FivePass = 5

-- the one place where a byte is decoded: each scheme's byte gives it back (`decoded`, proofs/Bytes.antt). Any other byte decodes to `FivePass`, and `is_scheme`
-- is false of it: every entry refuses it
unfoldable pub scheme_of : ℕ → Scheme
scheme_of byte = cond (eqb byte 3) ThreePass FivePass

-- the byte is that of the scheme which it decodes to
unfoldable pub is_scheme : ℕ → Bool
is_scheme byte = eqb (byte_of (scheme_of byte)) byte

-- a byte as a scheme: 1 for one that is no scheme's
pub record Decodes (byte : ℕ) (answer : Result Scheme Refusal) : Type 0 where
  pub refusal : number_of answer ≡ unless (is_scheme byte) 1
  pub scheme : IfOk answer (λ scheme. scheme ≡ scheme_of byte)

-- "the round count N from 1 to 255"
unfoldable pub is_rounds : ℕ → Bool
is_rounds rounds = leb 1 rounds && leb rounds 255

-- ---- counts

-- challenges are the numbers below: "a challenge outside 0..2 (0..1 in scheme 5)"
unfoldable pub challenges : Scheme → ℕ
challenges ThreePass = 3
challenges FivePass = 2

-- "Commitments: 32 bytes each, 3 or 2 a round."; as many ρ are lent
unfoldable pub commitment_count : Scheme → ℕ
commitment_count ThreePass = 3
commitment_count FivePass = 2

-- how many of them a reply opens, and has the ρ of: "both openings", "its opening"
unfoldable pub opened_count : Scheme → ℕ
opened_count ThreePass = 2
opened_count FivePass = 1

-- ---- phases

-- "The carrier sends an element α.": α, and the card's t1 and e1, come between commitments and challenge
unfoldable pub has_alpha : Scheme → Bool
has_alpha ThreePass = false
has_alpha FivePass = true

-- ---- lengths

-- the elements that are lent: "r0 (n), t0 (n), e0 (m)", "r0, t0, e0"
unfoldable pub drawn_length : Scheme → ℕ → ℕ → ℕ
drawn_length ThreePass n m = n + n + m
drawn_length FivePass n m = n + n + m

-- "Commitments: 32 bytes each": of a round
unfoldable pub commitments_length : Scheme → ℕ
commitments_length scheme = 32 * commitment_count scheme

-- what is lent as one slice: the elements, then a ρ for each commitment
unfoldable pub lent_length : Scheme → ℕ → ℕ → ℕ
lent_length scheme n m = drawn_length scheme n m + commitments_length scheme

-- α, t1 and e1: "scheme 5, α, t1, e1"
unfoldable pub turn_length : Scheme → ℕ → ℕ → ℕ
turn_length ThreePass n m = 0
turn_length FivePass n m = 1 + n + m

-- the elements of a reply, which stand before its ρ: two vectors of n elements and one of m; "reply r0, ρ0", "reply r1, ρ1"
unfoldable pub vectors_length : Scheme → ℕ → ℕ → ℕ
vectors_length ThreePass n m = n + n + m
vectors_length FivePass n m = n

-- one ρ for each commitment that a reply opens
unfoldable pub rhos_length : Scheme → ℕ
rhos_length scheme = 32 * opened_count scheme

-- "A reply has 2n + m + 64 bytes."
unfoldable pub reply_length : Scheme → ℕ → ℕ → ℕ
reply_length scheme n m = vectors_length scheme n m + rhos_length scheme

-- "Exchange: scheme 3, challenge byte and reply; scheme 5, α, t1, e1, challenge byte, reply."
unfoldable pub exchange_length : Scheme → ℕ → ℕ → ℕ
exchange_length scheme n m = turn_length scheme n m + (1 + reply_length scheme n m)
