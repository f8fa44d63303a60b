-- The string of one opening of a round's list, as the audit names it. Assumes nothing.
use Prim.Native.Nat.{ℕ}
use mathlib.Core.Path.{◌≡◌, refl, sym, ap, ◌∙◌}
use mathlib.Core.List.{List, [], ◌∷◌}
use borrow.Author.Tests.{eq-eqb, ne_eqb}
use Rattle.slices.specs.Slices.{◌!◌}
use Rattle.system.specs.System.{n_of, m_of}
use Rattle.scheme.specs.declared.Scheme.{Scheme}
use Rattle.scheme.specs.declared.Scheme.TheVariants.{ThreePass, FivePass}
use Rattle.round.specs.Openings.{Opening, string_of, opening_at, opening_of}
use Rattle.round.specs.ThreePass.{openings_three}
use Rattle.round.specs.FivePass.{openings_five}
use Rattle.round.proofs.Clauses.{five_is_one}
use Rattle.exchange.specs.Messages.{middle_in, reply_three_in, reply_five_in, openings}
use Rattle.record_form.specs.Record.{header_in}
use Rattle.transcript.specs.Transcript.{domain_in, key_vector, round_turn, round_challenge, round_reply, round_openings}
use Rattle.openings.specs.Openings.{string_in}

-- ---- of a list of two, and of one

first_is : (k : ℕ) (o p : Opening) → k ≡ o.k → o ≡ opening_of k (o ∷ p ∷ [])
unfolding opening_of
first_is k o p e = simp (eq-eqb k o.k e)

second_is : (k : ℕ) (o p : Opening) → (k ≡ o.k → ⊥) → p ≡ opening_of k (o ∷ p ∷ [])
unfolding opening_of
second_is k o p e = simp (ne_eqb k o.k e)

one_is : (k : ℕ) (o : Opening) → o ≡ opening_of k (o ∷ [])
unfolding opening_of
one_is k o = refl

module _ (k : ℕ) (os : List Opening) where
  pub first_of_two : os ≡ opening_at os 0 ∷ opening_at os 1 ∷ [] → k ≡ (opening_at os 0).k → opening_at os 0 ≡ opening_of k os
  first_of_two two e = first_is k (opening_at os 0) (opening_at os 1) e ∙ ap (opening_of k) (sym two)

  pub second_of_two : os ≡ opening_at os 0 ∷ opening_at os 1 ∷ [] → (k ≡ (opening_at os 0).k → ⊥) → opening_at os 1 ≡ opening_of k os
  second_of_two two e = second_is k (opening_at os 0) (opening_at os 1) e ∙ ap (opening_of k) (sym two)

  one_of_one : os ≡ opening_at os 0 ∷ [] → opening_at os 0 ≡ opening_of k os
  one_of_one one = one_is k (opening_at os 0) ∙ ap (opening_of k) (sym one)

-- ---- of a round of a record

module _ (system b : List ℕ) (r k : ℕ) where
  abbrev opened_by : Scheme → List Opening
  opened_by scheme = openings system scheme (key_vector b) (round_turn b r) (round_challenge b r) (round_reply b r)

  pub three_in : (header_in b).scheme ≡ ThreePass →
      string_of (domain_in b) (opening_of k (openings_three system (key_vector b) (round_challenge b r) (reply_three_in (n_of system) (m_of system) (round_reply b r)))) ≡
      string_in system b r k
  unfolding string_in round_openings openings
  three_in is = ap (λ (s : Scheme). string_of (domain_in b) (opening_of k (opened_by s))) (sym is)

  pub five_in : (header_in b).scheme ≡ FivePass →
      string_of (domain_in b)
      (opening_at (openings_five system (round_turn b r ! 0) (key_vector b) (middle_in (n_of system) (m_of system) (round_turn b r)) (round_challenge b r)
      (reply_five_in (n_of system) (round_reply b r))) 0) ≡
      string_in system b r k
  unfolding string_in round_openings openings
  five_in is =
      ap (string_of (domain_in b)) (one_of_one k _ (five_is_one system _ _ _ _ _)) ∙ ap (λ (s : Scheme). string_of (domain_in b) (opening_of k (opened_by s))) (sym is)
