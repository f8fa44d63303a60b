-- Each arm knows the byte, and the last that it is none of them. Assumes nothing.
use borrow.Author.Rules.{rules}
use Rattle.refusal.specs.Refusal.{unless}
use Rattle.scheme.specs.Scheme.{byte_of, scheme_of, is_scheme}
use Rattle.scheme.proofs.SchemeTryFromU8.try_from.Goals as goal

pub returns-in-3 : goal.returns-in-3
unfolding unless is_scheme scheme_of byte_of
returns-in-3 c = record { refusal = rw c.in-3.is; scheme = rw c.in-3.is }

pub returns-in-5 : goal.returns-in-5
unfolding unless is_scheme scheme_of byte_of
returns-in-5 c = record { refusal = rw c.in-5.is; scheme = rw c.in-5.is }

pub returns-in_default : goal.returns-in_default
unfolding unless is_scheme scheme_of byte_of
returns-in_default c = record { refusal = search rules; scheme = tt }
