-- What the tests of the openings say of the strings that are held. Assumes nothing.
use Prim.Native.Nat.{ℕ}
use mathlib.Core.Path.{◌≡◌, refl, sym, ap, ap₂, ◌∙◌}
use mathlib.Core.Bool.{Bool, true, false, ◌&&◌}
use mathlib.Core.List.{List, [], ◌∷◌}
use Rattle.slices.specs.Slices.{same}
use Rattle.sha256.specs.Sha256.{sha256}
use Rattle.commitment.specs.declared.Domain.{Domain}
use Rattle.commitment.specs.declared.Text.{Text}
use Rattle.commitment.specs.Texts.{content, TextOf}
use Rattle.commitment.proofs.Texts.{content_is}
use Rattle.round.specs.declared.pieces.ReplyThree.{ReplyThree}
use Rattle.round.specs.ThreePass.{openings_three}
use Rattle.round.proofs.Clauses.{three_are_two}
use Rattle.round.specs.Openings.{Opening, string_of, commitment_at, opens_to, all_open, opening_at}

and-true : (a : Bool) → a ≡ (a && true)
and-true true = refl
and-true false = refl

module _ (d : Domain) (c : List ℕ) where
  -- the test of a text against commitment k
  abbrev tested : Text → ℕ → Bool
  tested t k = same (sha256 (content t)) (commitment_at c k)

  judged : (o : Opening) (room : ℕ) (t : Text) (k : ℕ) → TextOf (string_of d o) room t → k ≡ o.k → tested t k ≡ opens_to d c o
  unfolding opens_to
  judged o room t k h number = ap₂ (λ (s : List ℕ) (j : ℕ). same (sha256 s) (commitment_at c j)) (content_is (string_of d o) room t h) number

  -- of a list of one, and of a list of two
  pub one_opens : (os : List Opening) → os ≡ opening_at os 0 ∷ [] → (t : Text) (k : ℕ) → TextOf (string_of d (opening_at os 0)) 0 t → k ≡ (opening_at os 0).k →
      tested t k ≡ all_open d c os
  unfolding all_open
  one_opens os one t k h number = judged (opening_at os 0) 0 t k h number ∙ and-true _ ∙ ap (all_open d c) (sym one)

  pub both_open : (os : List Opening) → os ≡ opening_at os 0 ∷ opening_at os 1 ∷ [] → (t u : Text) (j k : ℕ) →
      TextOf (string_of d (opening_at os 0)) 96 t → TextOf (string_of d (opening_at os 1)) 96 u → j ≡ (opening_at os 0).k → k ≡ (opening_at os 1).k →
      (tested t j && tested u k) ≡ all_open d c os
  unfolding all_open
  both_open os two t u j k ht hu first second =
      ap₂ ◌&&◌ (judged (opening_at os 0) 96 t j ht first) (judged (opening_at os 1) 96 u k hu second ∙ and-true _) ∙ ap (all_open d c) (sym two)

  -- the two tests of three passes, where the first holds and where it fails
  module _ (b v : List ℕ) (challenge : ℕ) (r : ReplyThree) (t u : Text) (j k : ℕ) where
    abbrev opening : ℕ → Opening
    opening i = opening_at (openings_three b v challenge r) i

    both_tested : TextOf (string_of d (opening 0)) 96 t → TextOf (string_of d (opening 1)) 96 u → j ≡ (opening 0).k → k ≡ (opening 1).k →
        (tested t j && tested u k) ≡ all_open d c (openings_three b v challenge r)
    both_tested ht hu first second = both_open (openings_three b v challenge r) (three_are_two b v challenge r) t u j k ht hu first second

    pub second_decides : TextOf (string_of d (opening 0)) 96 t → TextOf (string_of d (opening 1)) 96 u → j ≡ (opening 0).k → k ≡ (opening 1).k →
        (x y : Bool) → x ≡ true → x ≡ tested t j → y ≡ tested u k → y ≡ all_open d c (openings_three b v challenge r)
    second_decides ht hu first second x y holds one two =
        two ∙ ap (λ (test : Bool). test && tested u k) (sym holds ∙ one) ∙ both_tested ht hu first second

    pub first_decides : TextOf (string_of d (opening 0)) 96 t → TextOf (string_of d (opening 1)) 96 u → j ≡ (opening 0).k → k ≡ (opening 1).k →
        (x : Bool) → x ≡ false → x ≡ tested t j → x ≡ all_open d c (openings_three b v challenge r)
    first_decides ht hu first second x fails one =
        fails ∙ ap (λ (test : Bool). test && tested u k) (sym fails ∙ one) ∙ both_tested ht hu first second
