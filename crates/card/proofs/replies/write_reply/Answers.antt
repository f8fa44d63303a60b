-- The reply of the scheme, its lengths from the sizes. Assumes nothing.
use Prim.Native.Nat.{ℕ, ◌+◌}
use mathlib.Core.Path.{◌≡◌, ◌∙◌}
use Rattle.system.proofs.SystemLayout.{sizes}
use Rattle.scheme.specs.declared.Scheme.{Scheme}
use Rattle.scheme.specs.declared.Scheme.TheVariants.{ThreePass, FivePass}
use Rattle.scheme.specs.Scheme.{vectors_length, rhos_length, reply_length}
use Rattle.card_state.specs.Card.{formed_reply, sent_reply}
use Rattle.card.proofs.replies.write_reply.Goals as goal

three_reply : (scheme : Scheme) (n m : ℕ) → scheme ≡ ThreePass → reply_length scheme n m ≡ reply_length ThreePass n m
three_reply scheme n m three = rw three

five_reply : (scheme : Scheme) (n m : ℕ) → scheme ≡ FivePass → reply_length scheme n m ≡ n + rhos_length FivePass
unfolding reply_length vectors_length
five_reply scheme n m five = rw five

pub write_reply_three-requires : goal.write_reply_three-requires
unfolding sent_reply formed_reply
write_reply_three-requires c =
    let k = sizes _ _ _ c.requires.0 in (k.n_high, k.m_high, c.requires.1 ∙ three_reply _ _ _ c.in-ThreePass.is)

pub write_reply_five-requires : goal.write_reply_five-requires
unfolding sent_reply formed_reply
write_reply_five-requires c =
    let k = sizes _ _ _ c.requires.0 in (k.n_high, c.requires.1 ∙ five_reply _ _ _ c.in-FivePass.is)

pub returns-in-ThreePass : goal.returns-in-ThreePass
unfolding sent_reply formed_reply
returns-in-ThreePass c =
    simp (c.in-ThreePass.is, c.write_reply_three.ensures, c.reply_three-sent.ensures, c.held_vectors.ensures)

pub returns-in-FivePass : goal.returns-in-FivePass
unfolding sent_reply formed_reply
returns-in-FivePass c =
    simp (c.in-FivePass.is, c.write_reply_five.ensures, c.reply_five-sent.ensures)
