-- What may be put into an honest list: a refused call with any arguments at any place, and behind it a call with any draw. Assumes nothing.
use mathlib.Core.Path.{◌≡◌, refl, sym, subst}
use mathlib.Core.List.{List, [], ◌∷◌, ◌++◌}
use Rattle.refusal.proofs.Refusals.{kept_refused}
use Rattle.session.specs.Session.{Terms, Call, World, refusal, effect, step, after}
use Rattle.session.specs.Honest.{Unaltered, Drawn, any_lent, any_alpha, any_challenge, Honest}

pub refused_stays : (w : World) (c : Call) → (refusal w c ≡ 0 → ⊥) → step w c ≡ w
unfolding step
refused_stays w c some = kept_refused (refusal w c) w (effect w c) some

pub refused_anywhere : (o : Terms) (w : World) (before later : List Call) (c : Call) → (refusal (after w before) c ≡ 0 → ⊥) → Honest o w (before ++ later) →
    Honest o w (before ++ c ∷ later)
unfolding Honest after
refused_anywhere o w [] later c some honest =
    (λ none. absurd (some none), subst (λ (now : World). Honest o now later) (sym (refused_stays w c some)) honest)
refused_anywhere o w (b ∷ before) later c some (unaltered, rest) = (unaltered, refused_anywhere o (step w b) before later c some rest)

-- "The random elements, α and the challenges are any.": an honest list stays honest with such a call behind it
pub drawn_behind : (o : Terms) (w : World) (before : List Call) (c : Call) → Drawn o c → Honest o w before → Honest o w (before ++ c ∷ [])
unfolding Honest Unaltered
drawn_behind o w [] _ (any_lent lent out) honest = (λ none. refl, tt)
drawn_behind o w [] _ (any_alpha α) honest = (λ none. tt, tt)
drawn_behind o w [] _ (any_challenge challenge) honest = (λ none. tt, tt)
drawn_behind o w (b ∷ before) c drawn (unaltered, rest) = (unaltered, drawn_behind o (step w b) before c drawn rest)
