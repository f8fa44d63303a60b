-- One block more of a message's hash. Assumes nothing.
use mathlib.Core.Path.{◌≡◌, sym, ap, ◌∙◌}
use mathlib.Core.List.{List}
use Prim.Native.Nat.{ℕ, ◌+◌}
use native.Mathlib.Numerals.{add-one}
use Rattle.sha256_block.specs.Words.{Variables}
use Rattle.sha256_block.specs.Block.{compress}
use Rattle.sha256.specs.Padding.{block}
use Rattle.sha256.specs.Sha256.{hash_value}

-- r is what a block's hash makes of s, b the block's bytes
pub hash_value_more : (p b : List ℕ) (i : ℕ) (s r : Variables) → b ≡ block p i → s ≡ hash_value p i → r ≡ compress s b → r ≡ hash_value p (i + 1)
unfolding hash_value
hash_value_more p b i s r eb es er = er ∙ (λ j. compress (es j) (eb j)) ∙ ap (hash_value p) (sym (add-one i))
