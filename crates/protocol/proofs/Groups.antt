-- Equations in an abelian group, as the protocols need them. Assumes nothing.
use mathlib.Core.Path.{◌≡◌, refl, sym, ap, ◌∙◌}
use Rattle.protocol.specs.Structure.{AbelianGroup}

module _ {A : Type 0} {Element : A → Type 0} {add sub : A → A → A} (g : AbelianGroup A Element add sub) where
  pub add_left_comm : (a b c : A) → add a (add b c) ≡ add b (add a c)
  add_left_comm a b c = sym (g.add_assoc a b c) ∙ ap (λ (t : A). add t c) (g.add_comm a b) ∙ g.add_assoc b a c

  -- with w = a - (b + a) and d = c - a both sides are w + (b + a) + d
  pub add_cancel : (b a c : A) → Element a → Element c → add b a ≡ add b c → a ≡ c
  add_cancel b a c ha hc e =
      let w = sub a (add b a) in
      let d = sub c a in
      let back : add w (add b a) ≡ a = g.sub-add a (add b a) ha in
      let sorted : add w (add b (add d a)) ≡ add d (add w (add b a)) = simp (add_left_comm, g.add_comm) in
      sym back ∙ ap (add w) e ∙ ap (λ (t : A). add w (add b t)) (sym (g.sub-add c a hc)) ∙ sorted ∙ ap (add d) back ∙ g.sub-add c a hc

  -- a difference is what is added to come back
  pub sub_of : (a b r : A) → Element r → add b r ≡ a → sub a b ≡ r
  sub_of a b r h e =
      rw (← e) (add_cancel b (sub (add b r) b) r (g.sub_is _ b) h (g.add_comm b _ ∙ g.sub-add (add b r) b (g.add_is b r)))

  -- the same as an equation for a
  pub of_sub : (a b r : A) → Element a → sub a b ≡ r → a ≡ add r b
  of_sub a b r h e = sym (g.sub-add a b h) ∙ ap (λ (t : A). add t b) e

  -- a - (a - b) = b
  pub sub-sub : (a b : A) → Element a → Element b → sub a (sub a b) ≡ b
  sub-sub a b ha hb = sub_of a (sub a b) b hb (g.sub-add a b ha)

  -- p - x - y = c + e, where p = (y + e) + (x + c)
  pub sub_two : (p x y c e : A) → p ≡ add (add y e) (add x c) → sub (sub p x) y ≡ add c e
  sub_two p x y c e h =
      let sorted : add x (add y (add c e)) ≡ add (add y e) (add x c) = simp (g.add_assoc, g.add_comm, add_left_comm) in
      ap (λ (t : A). sub t y) (sub_of p x (add y (add c e)) (g.add_is y _) (sorted ∙ sym h)) ∙
      sub_of (add y (add c e)) y (add c e) (g.add_is c e) refl

  -- and back
  pub of_sub_two : (p x y c e : A) → Element p → sub (sub p x) y ≡ add c e → p ≡ add (add y e) (add x c)
  of_sub_two p x y c e h s =
      of_sub p x _ h (of_sub (sub p x) y _ (g.sub_is p x) s) ∙ simp (g.add_assoc, g.add_comm, add_left_comm)

  -- a - a' = b - b', where a - b = a' - b'
  pub same_difference : (a a' b b' m n : A) → Element a → Element b → add a n ≡ add b m → add a' n ≡ add b' m → sub a a' ≡ sub b b'
  same_difference a a' b b' m n ha hb e e' =
      let d = sub b b' in
      let one : add n (add a' d) ≡ add (add a' n) d = simp (g.add_assoc, add_left_comm) in
      let two : add (add b' m) d ≡ add (add d b') m = simp (g.add_assoc, g.add_comm) in
      sub_of a a' d (g.sub_is b b')
      (add_cancel n (add a' d) a (g.add_is a' d) ha
      (one ∙ ap (λ (t : A). add t d) e' ∙ two ∙ ap (λ (t : A). add t m) (g.sub-add b b' hb) ∙ sym e ∙ g.add_comm a n))
