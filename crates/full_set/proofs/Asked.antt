-- Which challenges three records have. Assumes nothing.
use Prim.Native.Nat.{ℕ}
use mathlib.Core.Path.{◌≡◌, refl}
use mathlib.Core.Bool.{Bool, true, false, ◌||◌}
use mathlib.Core.List.{List}
use lib.Dec.{eqb}
use Rattle.transcript.specs.Transcript.{round_challenge}
use Rattle.full_set.specs.FullSet.{answering, answered}

-- some record has the challenge k exactly where the one that is looked up has it
pub one_has_it : (a b c : List ℕ) (r k : ℕ) →
    (eqb (round_challenge a r) k || (eqb (round_challenge b r) k || eqb (round_challenge c r) k)) ≡ answered a b c r k
unfolding answered answering
one_has_it a b c r k = go (eqb (round_challenge a r) k) (eqb (round_challenge b r) k) refl refl
  where
    go : (ta tb : Bool) → eqb (round_challenge a r) k ≡ ta → eqb (round_challenge b r) k ≡ tb →
        (eqb (round_challenge a r) k || (eqb (round_challenge b r) k || eqb (round_challenge c r) k)) ≡ answered a b c r k
    go true tb ea eb = simp ea
    go false true ea eb = simp (ea, eb)
    go false false ea eb = simp (ea, eb)
