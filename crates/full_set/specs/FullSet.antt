-- Document 01, "Audit": the full set of challenges in a round, and the first round that has it. Rounds are counted from 0, where one is found from 1.
use Rattle.std.specs.Prelude.{ℕ, Bool, cond, not, ◌&&◌, List, eqb}
use Rattle.slices.specs.Slices.{◌!◌, same}
use Rattle.scheme.specs.declared.Scheme.{Scheme}
use Rattle.scheme.specs.declared.Scheme.TheVariants.{ThreePass, FivePass}
use Rattle.record_form.specs.Record.{header_in}
use Rattle.transcript.specs.Transcript.{round_turn, round_challenge}
use Rattle.refusal.specs.Refusal.{first_where}

-- the first of three records whose challenge in round r is k, the last where it is no other's
unfoldable pub answering : List ℕ → List ℕ → List ℕ → ℕ → ℕ → List ℕ
answering a b c r k = cond (eqb (round_challenge a r) k) a (cond (eqb (round_challenge b r) k) b c)

unfoldable pub answered : List ℕ → List ℕ → List ℕ → ℕ → ℕ → Bool
answered a b c r k = eqb (round_challenge (answering a b c r k) r) k

-- "scheme 3, the three records' challenges are 0, 1, 2 in any order"
unfoldable pub full_three : List ℕ → List ℕ → List ℕ → ℕ → Bool
full_three a b c r = answered a b c r 0 && (answered a b c r 1 && answered a b c r 2)

-- challenges 0, 1 after equal α, t1, e1
unfoldable pub asked_both : List ℕ → List ℕ → ℕ → Bool
asked_both x y r = eqb (round_challenge x r) 0 && (eqb (round_challenge y r) 1 && same (round_turn x r) (round_turn y r))

-- "scheme 5, records A, B, C, D have challenges 0, 1, 0, 1, A and B have equal α, t1, e1, so have C and D, and the α of A and of C differ"
unfoldable pub full_five : List ℕ → List ℕ → List ℕ → List ℕ → ℕ → Bool
full_five a b c d r = asked_both a b r && (asked_both c d r && not (eqb (round_turn a r ! 0) (round_turn c r ! 0)))

-- "Full set in a round"; scheme 3 has no fourth record
unfoldable pub full_set : Scheme → List ℕ → List ℕ → List ℕ → List ℕ → ℕ → Bool
full_set ThreePass a b c d r = full_three a b c r
full_set FivePass a b c d r = full_five a b c d r

-- "The first such round is used."
unfoldable pub first_full : Scheme → List ℕ → List ℕ → List ℕ → List ℕ → ℕ
first_full scheme a b c d = first_where (header_in a).rounds (full_set scheme a b c d)
