-- Document 01, "Audit": the pairs of openings that are compared in a round with a full set, and the first that differs.
use Rattle.std.specs.Prelude.{ℕ, Bool, cond, not, List, eqb}
use Rattle.scheme.specs.declared.Scheme.{Scheme}
use Rattle.scheme.specs.declared.Scheme.TheVariants.{ThreePass, FivePass}
use Rattle.scheme.specs.Scheme.{commitment_count}
use Rattle.transcript.specs.Transcript.{domain_in}
use Rattle.refusal.specs.Refusal.{first_where}
use Rattle.openings.specs.Openings.{string_in, same_vectors}
use Rattle.full_set.specs.FullSet.{answering}
use Rattle.commitment.specs.Texts.{TextOf}
use Rattle.clash.specs.declared.Pair.{Pair}

-- three passes: commitment k is opened by the replies to the two challenges other than k
unfoldable pub lower_challenge : ℕ → ℕ
lower_challenge k = cond (eqb k 0) 1 0

unfoldable pub higher_challenge : ℕ → ℕ
higher_challenge k = cond (eqb k 0) 2 (cond (eqb k 1) 2 1)

-- five passes: of two records with the challenges 0 and 1, the one that opens commitment k
unfoldable pub opener_five : List ℕ → List ℕ → ℕ → List ℕ
opener_five x y k = cond (eqb k 0) x y

-- "The string of the lower challenge stands first (scheme 5: of the earlier record)." "scheme 5: c0 of A and C, c1 of B and D"
unfoldable pub left_record : Scheme → List ℕ → List ℕ → List ℕ → ℕ → ℕ → List ℕ
left_record ThreePass a b c r k = answering a b c r (lower_challenge k)
left_record FivePass a b c r k = opener_five a b k

unfoldable pub right_record : Scheme → List ℕ → List ℕ → List ℕ → List ℕ → ℕ → ℕ → List ℕ
right_record ThreePass a b c d r k = answering a b c r (higher_challenge k)
right_record FivePass a b c d r k = opener_five c d k

-- the strings with which they open commitment k in round r
unfoldable pub left_string : Scheme → List ℕ → List ℕ → List ℕ → List ℕ → ℕ → ℕ → List ℕ
left_string scheme system a b c r k = string_in system (left_record scheme a b c r k) r k

unfoldable pub right_string : Scheme → List ℕ → List ℕ → List ℕ → List ℕ → List ℕ → ℕ → ℕ → List ℕ
right_string scheme system a b c d r k = string_in system (right_record scheme a b c d r k) r k

-- two strings as the code holds them
pub record PairOf (p : Pair) (x y : List ℕ) : Type 0 where
  pub left_text : TextOf x 0 p.left
  pub right_text : TextOf y 0 p.right

-- both hold the same vectors; the records have one domain
unfoldable pub same_pair : Scheme → List ℕ → List ℕ → List ℕ → List ℕ → List ℕ → ℕ → ℕ → Bool
same_pair scheme system a b c d r k = same_vectors (domain_in a) (left_string scheme system a b c r k) (right_string scheme system a b c d r k)

-- "The first pair that differs", "in the order c0, c1, c2 (scheme 5: c0 of A and C, c1 of B and D)", counted from 1; 0 where none does
unfoldable pub first_clash : Scheme → List ℕ → List ℕ → List ℕ → List ℕ → List ℕ → ℕ → ℕ
first_clash scheme system a b c d r = first_where (commitment_count scheme) (λ k. not (same_pair scheme system a b c d r k))
