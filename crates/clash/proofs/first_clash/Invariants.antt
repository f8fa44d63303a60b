-- No pair before k differs.
use Prim.Native.Nat.{ℕ}
use mathlib.Core.Path.{◌≡◌}
use mathlib.Core.Bool.{Bool, not}
use mathlib.Core.List.{List}
use Rattle.scheme.specs.declared.Scheme.{Scheme}
use Rattle.refusal.specs.Refusal.{first_where}
use Rattle.clash.specs.Clash.{same_pair}
use Rattle.clash.proofs.first_clash.Given as goal

-- a pair of the round differs
abbrev Differs : Scheme → List ℕ → List ℕ → List ℕ → List ℕ → List ℕ → ℕ → ℕ → Bool
Differs scheme system a b c d r k = not (same_pair scheme system a b c d r k)

abbrev pub invariant-loop-k : goal.invariant-loop-k
invariant-loop-k l = first_where l.k (Differs l.records.scheme l.system.bytes.now l.records.a.now l.records.b.now l.records.c.now l.records.d.now l.r) ≡ 0
