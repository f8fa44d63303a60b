-- α, and what stands behind it. Assumes nothing.
use Prim.Native.Nat.{ℕ, suc, ◌+◌}
use mathlib.Core.Path.{◌≡◌, sym, ap, ◌∙◌}
use mathlib.Core.List.{List, ◌∷◌, append-nil}
use native.Mathlib.Omega.{arith}
use Rattle.slices.specs.Slices.{◌!◌, tabulate}
use Rattle.slices.proofs.Tabulate.{tabulate_cong}
use Rattle.carrier_state.specs.Carrier.{held_turn}
use Rattle.carrier_state.proofs.session.held_turn.Goals as goal

first_apart : (n α : ℕ) (s : List ℕ) → tabulate (suc n) (λ i. (α ∷ s) ! i) ≡ α ∷ tabulate n (λ i. s ! (0 + i))
unfolding tabulate
first_apart n α s = ap (λ (l : List ℕ). α ∷ l) (tabulate_cong n _ _ (λ i h. ap (λ (k : ℕ). s ! k) (omega arith)))

pub returns : goal.returns
unfolding held_turn
returns c =
    ap (λ (l : List ℕ). c.args.alpha ∷ l) (append-nil _ ∙ c.copy_from_slice.ensures.after ∙ c.bytes_at-behind.ensures) ∙
    sym (first_apart 192 c.args.alpha c.args.s.now)
