-- What is known of numbers that are not refused. Assumes nothing.
use Prim.Native.Nat.{◌≤◌}
use mathlib.Core.Path.{◌≡◌}
use mathlib.Core.Bool.{true}
use lib.Dec.{leb}
use borrow.Author.Tests.{leb-true, le-leb}
use Rattle.refusal.proofs.Refusals.{first_zero, later_zero, test_holds, both_zero, unless_holds}
use Rattle.system.specs.System.{are_sizes}
use Rattle.book_form.specs.declared.layout.Front.{Front}
use Rattle.book_form.specs.Values.{values_refusal}

pub few_cards : (h : Front) → values_refusal h ≡ 0 → h.count ≤ 2000
unfolding values_refusal
few_cards h none = leb-true h.count 2000 (test_holds (leb h.count 2000) 6 tt (first_zero _ _ none))

pub right_sizes : (h : Front) → values_refusal h ≡ 0 → are_sizes h.q h.n h.m ≡ true
unfolding values_refusal
right_sizes h none = test_holds (are_sizes h.q h.n h.m) 1 tt (later_zero _ _ none)

pub right_values : (h : Front) → h.count ≤ 2000 → are_sizes h.q h.n h.m ≡ true → values_refusal h ≡ 0
unfolding values_refusal
right_values h few right = both_zero _ _ (unless_holds _ 6 (le-leb h.count 2000 few)) (unless_holds _ 1 right)
