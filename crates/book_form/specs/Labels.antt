-- What is refused of the labels of a book or of a writer's: "then the first entry at fault decides, 12 before 13".
use Rattle.std.specs.Prelude.{ℕ, ◌-◌, ◌*◌, Bool, true, cond, List, eqb, take, drop}
use Rattle.refusal.specs.Refusal.{unless, ◌or_else◌, first_of}
use Rattle.label.specs.Tests.{is_label, is_below}

-- the label of card i, where a label starts every so many bytes: 14 in a table, 10 where labels stand alone
unfoldable pub label_at : ℕ → List ℕ → ℕ → List ℕ
label_at each l i = take 10 (drop (i * each) l)

-- the first label is above nothing
unfoldable pub is_above : ℕ → List ℕ → ℕ → Bool
is_above each l i = cond (eqb i 0) true (is_below (label_at each l (i - 1)) (label_at each l i))

-- "12 a label with a wrong half, 13 a label not above the one before"
unfoldable pub label_refusal : ℕ → List ℕ → ℕ → ℕ
label_refusal each l i = unless (is_label (label_at each l i)) 12 or_else unless (is_above each l i) 13

-- "the first entry at fault decides"
unfoldable pub labels_refusal : ℕ → ℕ → List ℕ → ℕ
labels_refusal each count l = first_of count (label_refusal each l)
