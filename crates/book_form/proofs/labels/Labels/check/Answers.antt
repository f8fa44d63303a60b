-- The invariant: none of the labels before i is refused. Assumes nothing.
use Prim.Native.Nat.{ℕ, ◌+◌, ◌*◌, ◌≤◌, ◌<◌}
use native.Mathlib.Nat.{mul-le-mul, le_refl}
use mathlib.Core.Path.{◌≡◌, refl}
use native.Mathlib.Omega.{arith}
use Rattle.std.proofs.Common.{rules}
use Rattle.refusal.proofs.Chains.{none_at_start, none_so_far, none_at_end}
use Rattle.book_form.specs.Labels.{labels_refusal}
use Rattle.book_form.proofs.Loops.{ends_loop}
use Rattle.book_form.proofs.labels.Labels.check.Goals as goal

inside : (i each count n : ℕ) → count * each ≤ n → 10 ≤ each → i < count → i * each + 10 ≤ n
inside i each count n whole ten below =
    let next : i + 1 ≤ count = omega (arith, below) in
    let product : (i + 1) * each ≤ count * each = mul-le-mul next (le_refl each) in
    let split : (i + 1) * each ≡ i * each + each = omega arith in
    omega (arith, whole, ten, product, split)

pub loop-i-init : goal.loop-i-init
loop-i-init c = none_at_start _ _ (omega arith)

pub check_label-requires : goal.check_label-requires
check_label-requires c = inside _ _ _ _ c.requires.0 c.requires.1 (omega arith)

pub returns-in_err-check_label : goal.returns-in_err-check_label
unfolding labels_refusal
returns-in_err-check_label c =
    ends_loop _ _ _ _ _ (search rules) c.loop-i.invariant c.in_err-check_label.ensures (omega arith)

pub loop-i-preserved : goal.loop-i-preserved
loop-i-preserved c =
    none_so_far _ _ _ _ c.loop-i.invariant c.in_ok-check_label.ensures refl refl

pub returns : goal.returns
unfolding labels_refusal
returns c =
    none_at_end _ _ _ c.loop-i.invariant (omega arith)
