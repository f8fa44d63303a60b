-- Schemes are the same where their bytes are. Assumes nothing.
use mathlib.Core.Path.{◌≡◌, refl}
use lib.Dec.{eqb}
use denote.Enum.Bare.{sameb}
use Rattle.scheme.specs.contracts.Scheme.{the_type}
use Rattle.scheme.specs.declared.Scheme.{Scheme}
use Rattle.scheme.specs.declared.Scheme.TheVariants.{ThreePass, FivePass}
use Rattle.scheme.specs.Scheme.{byte_of}

pub same_scheme : (s t : Scheme) → sameb the_type s t ≡ eqb (byte_of s) (byte_of t)
unfolding byte_of
same_scheme ThreePass ThreePass = refl
same_scheme ThreePass FivePass = refl
same_scheme FivePass ThreePass = refl
same_scheme FivePass FivePass = refl
