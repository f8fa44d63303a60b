-- ρ is put behind the scheme and the number. Assumes nothing.
use mathlib.Core.Path.{◌≡◌, sym, ap, ◌∙◌}
use mathlib.Core.List.{[], ◌∷◌}
use Prim.Native.Nat.{ℕ}
use native.Mathlib.Omega.{arith}
use lib.ListN.{length}
use Rattle.commitment.specs.Commitment.{prefix, vectors_at}
use Rattle.commitment.specs.Texts.{zero_beyond}
use Rattle.commitment.proofs.Texts.{text_start, text_put, same_text}
use borrow.Author.Rules.{rules}
use Rattle.commitment.proofs.start.Goals as goal

pub returns : goal.returns
unfolding prefix vectors_at
returns c =
    let args = c.args in
    let long : length args.rho ≡ 32 = search rules in
    let byte = c.from-first.ensures in
    let place = c.prefix_length.ensures.0 in
    let two = text_start _ _ ∙ ap (λ (x : ℕ). zero_beyond (x ∷ args.k ∷ [])) byte in
    record {
      is = same_text _ _ _ (text_put (prefix args.d args.k) args.rho _ _ _ two (sym place) (omega (arith, place, long)) c.put.ensures) (omega (arith, c.vectors_at.ensures.0));
      fits = omega (arith, c.vectors_at.ensures.0);
    }
