-- A scheme and its byte. Assumes nothing.
use mathlib.Core.Path.{◌≡◌, refl, sym, ap, ◌∙◌}
use mathlib.Core.Bool.{true}
use Rattle.scheme.specs.declared.Scheme.{Scheme}
use Rattle.scheme.specs.declared.Scheme.TheVariants.{ThreePass, FivePass}
use Rattle.scheme.specs.Scheme.{byte_of, scheme_of, is_scheme}

-- the byte of a scheme decodes to it
pub decoded : (s : Scheme) → scheme_of (byte_of s) ≡ s
unfolding byte_of scheme_of
decoded ThreePass = refl
decoded FivePass = refl

-- so no two schemes have one byte
pub byte_determines : (s t : Scheme) → byte_of s ≡ byte_of t → s ≡ t
byte_determines s t e = sym (decoded s) ∙ ap scheme_of e ∙ decoded t

-- the byte of a scheme is one
pub is_scheme_lem : (s : Scheme) → is_scheme (byte_of s) ≡ true
unfolding byte_of scheme_of is_scheme
is_scheme_lem ThreePass = refl
is_scheme_lem FivePass = refl
